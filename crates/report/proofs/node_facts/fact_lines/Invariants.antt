use Rattle.std.proofs.Common.{◌≡◌}
use Rattle.fc_nodes.specs.Program.{unfolding_of}
use Rattle.report.specs.Facts.{facts_before}
use Rattle.report.proofs.node_facts.fact_lines.Given as goal

abbrev pub invariant-loop-place : goal.invariant-loop-place
invariant-loop-place l = l.lines.items ≡ facts_before (unfolding_of l.program) l.ranges l.levels l.place
