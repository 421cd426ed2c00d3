use Rattle.std.proofs.Common.{◌≡◌, ◌<◌, ◌+◌, ℕ}
use Rattle.std.specs.Prelude.{option_map}
use Rattle.fc_nodes.specs.Terms.{view_at}
use Rattle.closed_terms.specs.Parts.{lowered_view}
use Rattle.closed_terms.proofs.matching.is_part.Given as goal

abbrev pub invariant-loop-at : goal.invariant-loop-at
invariant-loop-at l = (i : ℕ) → i < l.at → view_at l.part.nodes i ≡ option_map (lowered_view l.place) (view_at l.program.nodes (l.place + i))
