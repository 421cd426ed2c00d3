-- What a solution in its ranges says at its root.
use Rattle.fc_nodes.specs.Terms.{Term, Plain, Apply, Nbr, Evolve, If, Let}
use Rattle.std.proofs.Common.{ℕ}
use Rattle.topology.specs.Networks.{Network}
use Rattle.interval_facts.specs.Ranges.{RangeValue}
use Rattle.interval_facts.specs.Solutions.{Devices, ValueMap, ValueMaps, Solves}
use Rattle.interval_facts.specs.Claims.{MapLiesIn, InRanges}

pub lies_of : (rs : ℕ → RangeValue) (N : Network) (p : ℕ) (t : Term) (D : Devices) (V : ValueMaps) (F : ValueMap) (s : Solves N p t D V F) → InRanges rs N p t D V F s → MapLiesIn D (rs p) F
lies_of rs N p (Plain t l) D V F s r = r
lies_of rs N p (Apply t o xs) D V F s r = r.0
lies_of rs N p (Nbr t a) D V F s r = r.0
lies_of rs N p (Evolve t e a u) D V F s r = r.0
lies_of rs N p (If t c u w) D V F s r = r.0
lies_of rs N p (Let t a u) D V F s r = r.0
