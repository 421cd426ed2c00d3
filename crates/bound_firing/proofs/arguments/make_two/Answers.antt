use Rattle.std.proofs.Common.{◌∙◌, sym}
use Rattle.bound_firing.proofs.arguments.make_two.Goals as goal

pub returns-then-makes_pair : goal.returns-then-makes_pair
returns-then-makes_pair c =
    c.in_ok-target.ensures ∙ sym (c.makes_pair.ensures c.if-makes_pair.true _ _)
