use Rattle.scenarios.proofs.RingLists.{LinksSoFar}
use Rattle.scenarios.proofs.rings.links_of.Given as goal

abbrev pub invariant-loop-first : goal.invariant-loop-first
invariant-loop-first l = LinksSoFar l.count l.first l.links.items
