use Rattle.std.proofs.Common.{ℕ}
use Rattle.std.specs.List.{Contains}
use Rattle.topology.specs.Networks.{Network, IsNetwork, near, numbers}
use Rattle.topology.proofs.Neighbours.{IsNear, near_fits, near_one, near_rises, near_none, near_mutual}
use Rattle.topology.proofs.laws.neighbours_are_mutual.Goals as goal

one : (n : Network) (d e w : ℕ) → IsNetwork n → Contains (near n d) (e, w) → IsNear n.declared (numbers n.devices) d (e, w)
one n d e w net k = near_one n.declared (numbers n.devices) d (e, w) (near n d) (near_fits n.declared (numbers n.devices) d n.links net.links) k

pub returns-clause-rising : goal.returns-clause-rising
returns-clause-rising c = λ n d net. near_rises n.declared (numbers n.devices) d n.links net.links

pub returns-clause-none : goal.returns-clause-none
returns-clause-none c = λ n d net gone. near_none n.declared (numbers n.devices) d n.links net.links gone

pub returns-clause-there : goal.returns-clause-there
returns-clause-there c = λ n d e w net k. (one n d e w net k).there

pub returns-clause-other : goal.returns-clause-other
returns-clause-other c = λ n d e w net k. (one n d e w net k).other

pub returns-clause-above : goal.returns-clause-above
returns-clause-above c = λ n d e w net k. (one n d e w net k).above

pub returns-clause-below : goal.returns-clause-below
returns-clause-below c = λ n d e w net k. (one n d e w net k).below

pub returns-clause-mutual : goal.returns-clause-mutual
returns-clause-mutual c = λ n d e w net k. near_mutual n.declared (numbers n.devices) d e w n.links net.links k
