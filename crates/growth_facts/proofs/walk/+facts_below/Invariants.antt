use Rattle.std.proofs.Common.{◌≡◌, ◌+◌, ◌-◌, ◌*◌, ◌++◌, List, drop, length}
use Rattle.growth_facts.specs.Growth.{NodeFacts}
use Rattle.growth_facts.specs.Facts.{AreKids, facts_at}
use Rattle.fc_nodes.specs.Sorts.{evolution_by}
use Rattle.fc_nodes.specs.Places.{StandAfter}
use Rattle.growth_facts.proofs.walk.+facts_below.Given as goal

abbrev pub decreases-facts_below : goal.decreases-facts_below
decreases-facts_below l = 2 * (length l.program.now.nodes - l.place) + 1

abbrev pub decreases-kids_below : goal.decreases-kids_below
decreases-kids_below l = 2 * (length l.program.now.nodes - l.place)

abbrev pub invariant-kids_below-loop-kid : goal.invariant-kids_below-loop-kid
invariant-kids_below-loop-kid l = record {
  stand : StandAfter l.program.nodes l.place (drop l.kid-index l.kids);
  done : List NodeFacts;
  known : AreKids l.below done;
  split : facts_at l.program (evolution_by l.variable.by_share) l.variable.place l.kids ≡ done ++ facts_at l.program (evolution_by l.variable.by_share) l.variable.place (drop l.kid-index l.kids);
  long : length done ≡ l.kid-index;
}
