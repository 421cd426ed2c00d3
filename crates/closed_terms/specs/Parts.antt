-- A closed term of a program as a program of its own: its places, and those of its binders, are counted from its root.
use Rattle.std.specs.Prelude.{ℕ, ◌≡◌, ◌<◌, ◌≤◌, ◌+◌, ◌-◌, List, [], length, map, option_map}
use Rattle.fc_values.specs.Types.{LocalType, TypeLocal}
use Rattle.fc_nodes.specs.declared.nodes.Node.{Node}
use Rattle.fc_nodes.specs.Terms.{Leaf, Literal, Variable, Sense, Uid, NbrLink, Term, Terms, Plain, Apply, Nbr, Evolve, If, Let, NoMore, More, term_type, size, Sort, OfLeaf, OfApply, OfNbr, OfEvolve, OfIf, OfLet, View, Has, view_at, term_at}
use Rattle.fc_nodes.specs.Typing.{HasType}
use Rattle.fc_nodes.specs.Places.{StandsAt}
use Rattle.fc_nodes.specs.Program.{Program}
use Rattle.topology.specs.Networks.{Network}
use Rattle.interval_facts.specs.Solutions.{Devices, ValueMap, ValueMaps, Solves}

abbrev pub lowered_leaf : ℕ → Leaf → Leaf
lowered_leaf k (Literal v) = Literal v
lowered_leaf k (Variable q) = Variable (q - k)
lowered_leaf k (Sense i) = Sense i
lowered_leaf k Uid = Uid
lowered_leaf k NbrLink = NbrLink

-- a term whose binders are counted from place k
abbrev mutual
  pub lowered : ℕ → Term → Term
  lowered k (Plain t l) = Plain t (lowered_leaf k l)
  lowered k (Apply t o xs) = Apply t o (all_lowered k xs)
  lowered k (Nbr t a) = Nbr t (lowered k a)
  lowered k (Evolve t e a b) = Evolve t e (lowered k a) (lowered k b)
  lowered k (If t c a b) = If t (lowered k c) (lowered k a) (lowered k b)
  lowered k (Let t a b) = Let t (lowered k a) (lowered k b)

  pub all_lowered : ℕ → Terms → Terms
  all_lowered k NoMore = NoMore
  all_lowered k (More x xs) = More (lowered k x) (all_lowered k xs)

-- the same of nodes
abbrev pub lowered_sort : ℕ → Sort → Sort
lowered_sort k (OfLeaf l) = OfLeaf (lowered_leaf k l)
lowered_sort k (OfApply o) = OfApply o
lowered_sort k OfNbr = OfNbr
lowered_sort k (OfEvolve e) = OfEvolve e
lowered_sort k OfIf = OfIf
lowered_sort k OfLet = OfLet

abbrev pub lowered_view : ℕ → View → View
lowered_view k (Has s t ks) = Has (lowered_sort k s) t (map (λ (q : ℕ). q - k) ks)

-- nodes that are those from place k on, counted from there
abbrev pub IsLowered : ℕ → List Node → List Node → Type 0
IsLowered k ns ms = (i : ℕ) → i < length ms → view_at ms i ≡ option_map (lowered_view k) (view_at ns (k + i))

-- a closed term of local type stands at a place, and ends before another one
pub record IsClosedTerm (P : Program) (p end : ℕ) : Type 0 where
  pub stands : StandsAt P.nodes p
  pub closed : HasType P.declared [] p (term_at P.nodes p)
  pub local : (s : LocalType) × (term_type (term_at P.nodes p) ≡ TypeLocal s)
  pub ends : end ≡ p + size (term_at P.nodes p)
  pub within : end ≤ length P.nodes

-- a program is the closed term at a place of another one
pub record IsClosedPart (P : Program) (p : ℕ) (Q : Program) : Type 0 where
  pub declared : Q.declared ≡ P.declared
  pub main : term_at Q.nodes 0 ≡ lowered p (term_at P.nodes p)

-- what solves the part solves the term at its place, whatever the binders around it and those of the part are
abbrev pub PartsSolve : Type 0
PartsSolve = (P Q : Program) (p : ℕ) (N : Network) (D : Devices) (V W : ValueMaps) (F : ValueMap)
    → HasType P.declared [] p (term_at P.nodes p) → IsClosedPart P p Q
    → Solves N 0 (term_at Q.nodes 0) D W F → Solves N p (term_at P.nodes p) D V F
