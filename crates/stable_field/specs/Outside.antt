-- What a program keeps outside first values, and tables that are the same there. No level looks at a first value.
use Rattle.std.specs.Prelude.{ℕ, suc, ◌≡◌, ◌+◌, List, [], ◌∷◌, drop, Option, Some, None}
use Rattle.fc_values.specs.declared.exports.Export.{Export}
use Rattle.fc_values.specs.Types.{LocalType}
use Rattle.fc_values.specs.Values.{local_of}
use Rattle.fc_values.specs.Exports.{SlotValue, slots_of, slot_at}
use Rattle.fc_nodes.specs.declared.nodes.Node.{Node}
use Rattle.fc_nodes.specs.Terms.{Term, Terms, Plain, Apply, Nbr, Evolve, If, Let, NoMore, More, Sort, OfEvolve, kept, kept_before, term_at}
use Rattle.fc_nodes.specs.Layouts.{keeps_at}
use Rattle.fc_nodes.specs.Program.{Program}

-- slots of a term, of which k is the first, are the same in two lists, except those of first values
abbrev mutual
  pub SameOutside : Term → ℕ → List SlotValue → List SlotValue → Type 0
  SameOutside (Plain t l) k xs ys = Unit {0}
  SameOutside (Apply t o ts) k xs ys = AllSameOutside ts k xs ys
  SameOutside (Nbr t a) k xs ys = (slot_at k xs ≡ slot_at k ys) × SameOutside a (suc k) xs ys
  SameOutside (Evolve t e a b) k xs ys = (slot_at k xs ≡ slot_at k ys) × SameOutside b (suc k + kept a) xs ys
  SameOutside (If t c a b) k xs ys = (slot_at k xs ≡ slot_at k ys) × SameOutside c (suc k) xs ys
      × SameOutside a (suc k + kept c) xs ys × SameOutside b (suc k + kept c + kept a) xs ys
  SameOutside (Let t a b) k xs ys = SameOutside a k xs ys × SameOutside b (k + kept a) xs ys

  pub AllSameOutside : Terms → ℕ → List SlotValue → List SlotValue → Type 0
  AllSameOutside NoMore k xs ys = Unit {0}
  AllSameOutside (More t ts) k xs ys = SameOutside t k xs ys × AllSameOutside ts (k + kept t) xs ys

-- some slots are the same
abbrev pub SameAt : List ℕ → List SlotValue → List SlotValue → Type 0
SameAt [] xs ys = Unit {0}
SameAt (i ∷ is) xs ys = (slot_at i xs ≡ slot_at i ys) × SameAt is xs ys

-- some slots are all that a term keeps outside first values
abbrev pub AreOutside : Term → List ℕ → Type 0
AreOutside t is = (xs ys : List SlotValue) → SameAt is xs ys → SameOutside t 0 xs ys

-- ---- the walk that gathers them

-- the kids of a node that aren't first values
abbrev pub outside_of : Sort → List ℕ → List ℕ
outside_of (OfEvolve e) ks = drop 1 ks
outside_of _ ks = ks

-- what a node keeps itself, if it keeps something, is the same
abbrev pub SameOwn : Option LocalType → ℕ → List SlotValue → List SlotValue → Type 0
SameOwn None k xs ys = Unit {0}
SameOwn (Some t) k xs ys = slot_at k xs ≡ slot_at k ys

-- to some slots that of the node at a place is added
abbrev pub AddsOwn : Program → ℕ → List ℕ → List ℕ → Type 0
AddsOwn P p old new = (xs ys : List SlotValue) → SameAt new xs ys
    → SameAt old xs ys × SameOwn (keeps_at P.nodes p) (kept_before P.nodes p) xs ys

-- those of the term at a place are added
abbrev pub AddsTerm : Program → ℕ → List ℕ → List ℕ → Type 0
AddsTerm P p old new = (xs ys : List SlotValue) → SameAt new xs ys
    → SameAt old xs ys × SameOutside (term_at P.nodes p) (kept_before P.nodes p) xs ys

-- the same for terms at some places
abbrev pub EachOutside : List Node → List ℕ → List SlotValue → List SlotValue → Type 0
EachOutside ns [] xs ys = Unit {0}
EachOutside ns (k ∷ ks) xs ys = SameOutside (term_at ns k) (kept_before ns k) xs ys × EachOutside ns ks xs ys

abbrev pub AddsTerms : Program → List ℕ → List ℕ → List ℕ → Type 0
AddsTerms P ks old new =
    (xs ys : List SlotValue) → SameAt new xs ys → SameAt old xs ys × EachOutside P.nodes ks xs ys

-- ---- tables

-- exports with the same value, and the same in some slots; or none on either side
abbrev pub SameExport : List ℕ → Option Export → Option Export → Type 0
SameExport is None None = Unit {0}
SameExport is (Some a) (Some b) =
    (local_of a.value ≡ local_of b.value) × SameAt is (slots_of a.slots.list.items) (slots_of b.slots.list.items)
SameExport is _ _ = ⊥

abbrev pub SameExports : List ℕ → List (Option Export) → List (Option Export) → Type 0
SameExports is [] [] = Unit {0}
SameExports is (x ∷ xs) (y ∷ ys) = SameExport is x y × SameExports is xs ys
SameExports is _ _ = ⊥
