use Rattle.std.proofs.Common.{◌∙◌, sym, ap, option_map, nat_eq}
use Rattle.net_json.specs.Reading.{count_members, is_exactly}
use Rattle.net_json.proofs.Shapes.{count_entries}
use Rattle.net_json.proofs.values.has_size.Goals as goal

pub returns-in-Some : goal.returns-in-Some
returns-in-Some c =
    ap (λ n. nat_eq n c.args.count) (c.len.ensures.len ∙ sym (count_entries c.in-Some.members.now.entries))
    ∙ ap (λ o. is_exactly c.args.count (option_map count_members o)) c.in-Some.ensures
