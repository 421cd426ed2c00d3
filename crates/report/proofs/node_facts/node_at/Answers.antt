use Rattle.report.proofs.PartRoots.{part_root}
use Rattle.report.proofs.node_facts.node_at.Goals as goal

pub returns-clause-sort : goal.returns-clause-sort
returns-clause-sort c =
    (part_root c.args.program.now c.node.ensures.program c.args.place c.node.result.now c.requires c.node.ensures.node).sort

pub returns-clause-ty : goal.returns-clause-ty
returns-clause-ty c =
    (part_root c.args.program.now c.node.ensures.program c.args.place c.node.result.now c.requires c.node.ensures.node).ty
