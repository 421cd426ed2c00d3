use Rattle.std.proofs.Common.{ap, ◌∙◌, sym, map, arith, length, option_and_then}
use Rattle.std.proofs.lemmas.List.{length-map}
use Rattle.serde_json.specs.View.{view}
use Rattle.net_json.specs.Links.{three_numbers}
use Rattle.net_json.proofs.Threes.{fewer, more}
use Rattle.net_json.proofs.links.link_of.Goals as goal

pub returns-in_default : goal.returns-in_default
returns-in_default c =
    let list = c.in_ok-list.list.now.items in
    sym (ap (option_and_then three_numbers) (sym c.in_ok-list.ensures) ∙ fewer (map view list) (omega (arith, length-map list view, ap length c.as_slice.ensures.value)))

pub returns-in_default-2 : goal.returns-in_default-2
returns-in_default-2 c =
    let list = c.in_ok-list.list.now.items in
    sym (ap (option_and_then three_numbers) (sym c.in_ok-list.ensures) ∙ more (map view list) (omega (arith, length-map list view, ap length c.as_slice.ensures.value)))
