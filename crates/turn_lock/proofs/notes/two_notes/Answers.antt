use Rattle.std.proofs.Common.{ℕ, ◌∙◌, ap, subst}
use Rattle.turn_lock.specs.Passes.{PassView, kept_part, new_part}
use Rattle.turn_lock.specs.Noting.{Noted}
use Rattle.turn_lock.proofs.Fanning.{both}
use Rattle.turn_lock.proofs.notes.two_notes.Goals as goal

pub returns-clause-made : goal.returns-clause-made
returns-clause-made g c =
    let start = c.in_ok-lock.ensures.made in
    let one = subst (λ (u : PassView ℕ). Noted u c.write_both.new.pass c.args.one) (c.split-other.ensures.kept ∙ ap (kept_part 1) start) c.write_both.ensures.noted.0 in
    let two = subst (λ (u : PassView ℕ). Noted u c.write_both.new.other c.args.two) (c.split-other.ensures.given ∙ ap (new_part 1) start) c.write_both.ensures.noted.1 in
    both c.in_ok-lock.lock c.args.notes c.close.result c.args.one c.args.two c.join.new.pass c.write_both.new.pass c.write_both.new.other one two c.join.ensures.joined c.join.ensures.seen.0 c.close.ensures
