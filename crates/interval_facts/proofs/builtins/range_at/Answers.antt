use Rattle.std.proofs.Common.{sym, ◌∙◌}
use Rattle.interval_facts.proofs.Picked.{there_nth, range_read, picked_nth}
use Rattle.interval_facts.proofs.builtins.range_at.Goals as goal

pub bounds-ranges-kids : goal.bounds-ranges-kids
bounds-ranges-kids c = there_nth _ c.args.kids.now c.args.index c.requires.there c.requires.index

pub returns : goal.returns
returns c =
    range_read c.args.ranges.now _ c.index-ranges-kids.result c.index-ranges-kids.is (there_nth _ c.args.kids.now c.args.index c.requires.there c.requires.index)
    ∙ sym (picked_nth c.args.ranges.now c.args.kids.now c.args.index c.requires.index)
