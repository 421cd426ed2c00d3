use Rattle.std.proofs.Common.{◌∙◌, ap}
use Rattle.interval_facts.specs.Picks.{value_range}
use Rattle.interval_facts.proofs.Picked.{as_two}
use Rattle.interval_facts.proofs.builtins.by_two.Goals as goal

pub returns : goal.returns
returns c =
    c.in_ok-range.ensures
    ∙ ap (value_range c.args.target.now c.args.builtin)
    (as_two c.args.builtin c.requires.kind c.args.ranges.now c.args.kids.now c.requires.arity _ _ c.range_at-a.ensures c.range_at-b.ensures)
