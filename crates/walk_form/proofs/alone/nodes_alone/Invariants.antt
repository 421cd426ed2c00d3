use Rattle.walk_form.specs.Alone.{AreAlone}
use Rattle.walk_form.proofs.alone.nodes_alone.Given as goal

abbrev pub invariant-loop-place : goal.invariant-loop-place
invariant-loop-place l = AreAlone l.program.nodes l.term.from l.place l.nodes.items
