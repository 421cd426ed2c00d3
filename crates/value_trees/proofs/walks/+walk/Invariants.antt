use Rattle.std.proofs.Common.{◌≡◌, ◌↔◌, ◌+◌, ◌-◌, ◌*◌, drop, length}
use Rattle.fc_values.specs.Exports.{slots_of}
use Rattle.fc_nodes.specs.Terms.{term_at, terms_by, kept_all}
use Rattle.value_trees.specs.SlotFits.{AllSlotsFit}
use Rattle.fc_nodes.specs.Places.{StandAfter}
use Rattle.value_trees.proofs.walks.+walk.Given as goal

abbrev pub decreases-walk : goal.decreases-walk
decreases-walk l = 2 * (length l.program.now.nodes - l.place) + 1

abbrev pub decreases-walk_if : goal.decreases-walk_if
decreases-walk_if l = 2 * (length l.program.now.nodes - l.place)

abbrev pub decreases-walk_kids : goal.decreases-walk_kids
decreases-walk_kids l = 2 * (length l.program.now.nodes - l.place)

abbrev pub invariant-walk_kids-loop-kid : goal.invariant-walk_kids-loop-kid
invariant-walk_kids-loop-kid l = record {
  stand : StandAfter l.program.nodes l.place (drop l.kid-index l.kids);
  same : AllSlotsFit l.taken l.program.declared.ceiling (terms_by (term_at l.program.nodes) l.kids) l.at (slots_of l.slots) ↔ AllSlotsFit l.taken l.program.declared.ceiling (terms_by (term_at l.program.nodes) (drop l.kid-index l.kids)) l.next (slots_of l.slots);
  left : l.next + kept_all (terms_by (term_at l.program.nodes) (drop l.kid-index l.kids)) ≡ l.at + kept_all (terms_by (term_at l.program.nodes) l.kids);
}
