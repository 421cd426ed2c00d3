-- How ranges are gathered: each node's behind those of the nodes before it.
use Rattle.std.specs.Prelude.{ℕ, suc, ◌≡◌, ◌≤◌, ◌<◌, ◌+◌, List, length}
use Rattle.fc_nodes.specs.Terms.{Leaf, Literal, Variable, Sense, Uid, NbrLink, Sort, OfLeaf, OfApply, OfNbr, OfEvolve, OfIf, OfLet, size, sizes, places, term_at, terms_by}
use Rattle.fc_nodes.specs.Places.{StandsAt, StandAfter}
use Rattle.fc_nodes.specs.Program.{Program, unfolding_of}
use Rattle.interval_facts.specs.Ranges.{RangeValue, range_of}
use Rattle.interval_facts.specs.Steps.{range_in}

-- where the term at a place ends
abbrev pub end_of : Program → ℕ → ℕ
end_of P p = p + size (term_at P.nodes p)

-- ranges by their places, among them those of the nodes whose terms end before a place
abbrev pub AreKnown : Program → List RangeValue → ℕ → Type 0
AreKnown P rs e = (m : ℕ) → m < length rs → end_of P m < e → range_in rs m ≡ range_of (unfolding_of P) m

-- more ranges: behind the old ones those of the nodes up to a place
pub record Extends (P : Program) (old new : List RangeValue) (e : ℕ) : Type 0 where
  pub long : length new ≡ e
  pub same : (m : ℕ) → m < length old → range_in new m ≡ range_in old m
  pub more : (m : ℕ) → length old ≤ m → m < e → range_in new m ≡ range_of (unfolding_of P) m

-- the node whose range is the next to be gathered
pub record IsNext (P : Program) (p : ℕ) (rs : List RangeValue) : Type 0 where
  pub stands : StandsAt P.nodes p
  pub long : length rs ≡ p
  pub known : AreKnown P rs (end_of P p)

-- the last kids of the node at a place, whose ranges are the next
pub record AreNext (P : Program) (p : ℕ) (ks : List ℕ) (rs : List RangeValue) : Type 0 where
  pub stand : StandAfter P.nodes p ks
  pub run : ks ≡ places (length rs) (terms_by (term_at P.nodes) ks)
  pub ends : length rs + sizes (terms_by (term_at P.nodes) ks) ≡ end_of P p
  pub known : AreKnown P rs (end_of P p)

-- for a variable, the range right behind its binder's is among the first n
abbrev pub LeafIsThere : Program → ℕ → Leaf → Type 0
LeafIsThere P n (Literal v) = Unit {0}
LeafIsThere P n (Variable b) = (suc b < n) × (b < length P.nodes)
LeafIsThere P n (Sense i) = Unit {0}
LeafIsThere P n Uid = Unit {0}
LeafIsThere P n NbrLink = Unit {0}

abbrev pub IsThere : Program → ℕ → Sort → Type 0
IsThere P n (OfLeaf l) = LeafIsThere P n l
IsThere P n (OfApply o) = Unit {0}
IsThere P n OfNbr = Unit {0}
IsThere P n (OfEvolve e) = Unit {0}
IsThere P n OfIf = Unit {0}
IsThere P n OfLet = Unit {0}
