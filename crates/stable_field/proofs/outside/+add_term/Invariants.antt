use Rattle.std.proofs.Common.{◌+◌, ◌-◌, ◌*◌, List, drop, length}
use Rattle.fc_values.specs.Exports.{SlotValue}
use Rattle.fc_nodes.specs.Places.{StandAfter}
use Rattle.stable_field.specs.Outside.{SameAt, EachOutside}
use Rattle.stable_field.proofs.outside.+add_term.Given as goal

abbrev pub decreases-add_term : goal.decreases-add_term
decreases-add_term l = 2 * (length l.program.now.nodes - l.place) + 1

abbrev pub decreases-add_terms : goal.decreases-add_terms
decreases-add_terms l = 2 * (length l.program.now.nodes - l.place)

abbrev pub invariant-add_terms-loop-kid : goal.invariant-add_terms-loop-kid
invariant-add_terms-loop-kid l = record {
  stand : StandAfter l.program.nodes l.place (drop l.kid-index l.kids);
  adds : (xs ys : List SlotValue) → SameAt l.slots.items xs ys → SameAt l.fn.slots.items xs ys × (EachOutside l.program.nodes (drop l.kid-index l.kids) xs ys → EachOutside l.program.nodes l.kids xs ys);
}
