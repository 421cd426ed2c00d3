-- What ranges promise of solutions.
use Rattle.std.specs.Prelude.{ℕ, suc, true, false, ◌+◌, List, [], ◌∷◌}
use Rattle.fc_values.specs.Values.{BoolValue}
use Rattle.fc_nodes.specs.Terms.{Term, Terms, Plain, Apply, Nbr, Evolve, If, Let, NoMore, More, size}
use Rattle.topology.specs.Networks.{Network}
use Rattle.interval_facts.specs.Ranges.{RangeValue, LiesIn}
use Rattle.interval_facts.specs.Solutions.{Devices, In, ValueMap, ValueMaps, bind, local_map, evolved, where_is, Solves, SolveAll}

-- over the devices of a set a map lies in a range
abbrev pub MapLiesIn : Devices → RangeValue → ValueMap → Type 0
MapLiesIn D r F = (d : ℕ) → In D d → LiesIn r (F d)

-- A solution lies in its ranges: at each node outside the first values of `rep` and `share`, the map on which it rests
-- there lies in the node's range, over the devices that `if` leaves.
abbrev mutual
  pub InRanges : (rs : ℕ → RangeValue) (N : Network) (p : ℕ) (t : Term) (D : Devices) (V : ValueMaps) (F : ValueMap)
      → Solves N p t D V F → Type 0
  InRanges rs N p (Plain t l) D V F s = MapLiesIn D (rs p) F
  InRanges rs N p (Apply t o xs) D V F s = MapLiesIn D (rs p) F × AllInRanges rs N (suc p) xs D V s.1 s.2
  InRanges rs N p (Nbr t a) D V F s = MapLiesIn D (rs p) F × InRanges rs N (suc p) a D V (local_map s.1) s.2
  InRanges rs N p (Evolve t e a b) D V F s = MapLiesIn D (rs p) F
      × InRanges rs N (suc p + size a) b D (bind p (evolved e N D s.1) V) (local_map s.1) s.2
  InRanges rs N p (If t c a b) D V F s =
      MapLiesIn D (rs p) F × InRanges rs N (suc p) c D V (local_map (λ d. BoolValue (s.1 d))) s.2
      × InRanges rs N (suc p + size c) a (where_is true D s.1) V F s.3
      × InRanges rs N (suc p + size c + size a) b (where_is false D s.1) V F s.4
  InRanges rs N p (Let t a b) D V F s = MapLiesIn D (rs p) F × InRanges rs N (suc p) a D V s.1 s.2
      × InRanges rs N (suc p + size a) b D (bind p s.1 V) F s.3

  pub AllInRanges : (rs : ℕ → RangeValue) (N : Network) (p : ℕ) (xs : Terms) (D : Devices) (V : ValueMaps)
      (Gs : List ValueMap) → SolveAll N p xs D V Gs → Type 0
  AllInRanges rs N p NoMore D V Gs s = Unit {0}
  AllInRanges rs N p (More x xs) D V [] s = ⊥
  AllInRanges rs N p (More x xs) D V (G ∷ Gs) s =
      InRanges rs N p x D V G s.0 × AllInRanges rs N (p + size x) xs D V Gs s.1
