use Rattle.std.proofs.Common.{◌≡◌, ◌+◌, length}
use Rattle.closed_terms.specs.Parts.{IsLowered}
use Rattle.closed_terms.proofs.parts.nodes.Given as goal

abbrev pub invariant-loop-at : goal.invariant-loop-at
invariant-loop-at l = record {
  low : IsLowered l.place l.program.nodes l.list.items;
  many : l.at ≡ l.place + length l.list.items;
}
