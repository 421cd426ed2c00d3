-- What the firing of a term over flat slots needs, and what it gives.
use Rattle.std.specs.Prelude.{ℕ, Bool, true, false, ◌≡◌, ◌<◌, ◌≤◌, ◌+◌, List, [], ◌∷◌, ◌++◌, length, Option, Some, None}
use Rattle.std.specs.Prelude.{slice_index_or as get_or}
use Rattle.fc_values.specs.Types.{ValueType}
use Rattle.fc_nodes.specs.declared.nodes.Node.{Node}
use Rattle.fc_nodes.specs.Terms.{Evolution, ByRep, ByShare, Term, Sort, HasNode, kept, kept_before, term_at}
use Rattle.fc_nodes.specs.Layouts.{LayoutValue}
use Rattle.device_eval.specs.Walks.{Stands}
use Rattle.value_bounds.specs.BoundValues.{BoundValue, Unbounded}
use Rattle.value_bounds.specs.BoundBuiltins.{AnyBound, BoundLocal, BoundField, BoundAny}
use Rattle.bound_firing.specs.BoundTrees.{slot_bound, bound_tree_at}
use Rattle.bound_firing.specs.Seats.{may_be}
use Rattle.bound_firing.specs.Firing.{BoundSituation, BoundVars, either_bound, bound_of}
use Rattle.bound_firing.specs.FlatSeats.{FlatSeats, seats_over, flat_branch, flat_entries, flat_slot, flat_own_bound}
use Rattle.bound_firing.specs.FlatSeats.{SlotsHave}

-- ---- slots

-- nothing is said in n slots from k on
abbrev pub ClearSlots : ℕ → ℕ → List BoundValue → Type 0
ClearSlots k n xs = (j : ℕ) → k ≤ j → j < k + n → slot_bound j xs ≡ Unbounded

-- they are there, and nothing is said in them
pub record Room (k n : ℕ) (xs : List BoundValue) : Type 0 where
  pub clear : ClearSlots k n xs
  pub within : k + n ≤ length xs

-- the same slots outside of them
pub record SameOut (k n : ℕ) (xs ys : List BoundValue) : Type 0 where
  pub long : length xs ≡ length ys
  pub before : (j : ℕ) → j < k → slot_bound j xs ≡ slot_bound j ys
  pub behind : (j : ℕ) → k + n ≤ j → slot_bound j xs ≡ slot_bound j ys

-- the slots of each seat reach to n
pub record Reach (n : ℕ) (seats : FlatSeats) : Type 0 where
  pub each : (j : ℕ) → j < n → SlotsHave j seats

-- ---- a term

-- what the firing of a term with first slot k needs
pub record Can (t : Term) (k : ℕ) (seats : FlatSeats) (xs : List BoundValue) : Type 0 where
  pub room : Room k (kept t) xs
  pub reach : Reach (length xs) seats

-- what it gives: the bounds of the definition, and no other slot is written
pub record Did (S : BoundSituation) (p : ℕ) (t : Term) (k : ℕ) (vars : BoundVars) (seats : FlatSeats)
    (xs : List BoundValue) (b : AnyBound) (ys : List BoundValue) : Type 0 where
  pub gives : bound_of S p t vars (seats_over t k seats) ≡ (b, bound_tree_at t k ys)
  pub out : SameOut k (kept t) xs ys

-- the same at a place of a program
pub record Ready (ns : List Node) (l : LayoutValue) (p : ℕ) (seats : FlatSeats) (xs : List BoundValue) : Type 0 where
  pub can : Can (term_at ns p) (kept_before ns p) seats xs
  pub stands : Stands ns l p

abbrev pub DidAt : BoundSituation → List Node → ℕ → BoundVars → FlatSeats → List BoundValue → AnyBound → List BoundValue
    → Type 0
DidAt S ns p vars seats xs b ys = Did S p (term_at ns p) (kept_before ns p) vars seats xs b ys

-- and the node that stands there
pub record ReadyAt (ns : List Node) (l : LayoutValue) (p : ℕ) (s : Sort) (t : ValueType) (ks : List ℕ)
    (seats : FlatSeats) (xs : List BoundValue) : Type 0 where
  pub ready : Ready ns l p seats xs
  pub node : HasNode ns p s t ks

-- ---- places one after another

-- the first is ready, and after it the rest
abbrev pub EachReady : BoundSituation → List Node → LayoutValue → List ℕ → BoundVars → FlatSeats → List BoundValue → Type 0
EachReady S ns l [] vars seats xs = Unit {0}
EachReady S ns l (k ∷ ks) vars seats xs = Ready ns l k seats xs × (k < get_or ks 0 (length ns))
    × ((b : AnyBound) (ys : List BoundValue) → DidAt S ns k vars seats xs b ys → EachReady S ns l ks vars seats ys)

-- the bounds that one after another gives, and the slots that are left
pub data EachDid (S : BoundSituation) (ns : List Node) (vars : BoundVars) (seats : FlatSeats)
    : List ℕ → List BoundValue → List AnyBound → List BoundValue → Type 0 where
  none_did : {xs : List BoundValue} → EachDid S ns vars seats [] xs [] xs
  one_did : (k : ℕ) (b : AnyBound) {ks : List ℕ} {bs : List AnyBound} {xs ys zs : List BoundValue}
      → DidAt S ns k vars seats xs b ys → EachDid S ns vars seats ks ys bs zs
      → EachDid S ns vars seats (k ∷ ks) xs (b ∷ bs) zs

-- they are added to others
pub record AllDid (S : BoundSituation) (ns : List Node) (ks : List ℕ) (vars : BoundVars) (seats : FlatSeats)
    (xs : List BoundValue) (old new : List AnyBound) (ys : List BoundValue) : Type 0 where
  pub bounds : List AnyBound
  pub added : new ≡ old ++ bounds
  pub each : EachDid S ns vars seats ks xs bounds ys

-- ---- what an evolving value starts from, and the branches of an `if`

abbrev pub started : Evolution → ℕ → FlatSeats → BoundValue → AnyBound
started ByRep k seats first = BoundLocal (flat_own_bound k seats.own first)
started ByShare k seats first = BoundField (flat_own_bound k seats.own first) (flat_entries (flat_slot k) seats.near)

-- a branch is ready if its `if` at slot k may have its truth value
pub record BranchReady (ns : List Node) (l : LayoutValue) (p k : ℕ) (truth : Bool) (seats : FlatSeats)
    (xs : List BoundValue) : Type 0 where
  pub ready : Ready ns l p (flat_branch k truth seats) xs
  pub within : k < length xs
  pub has : SlotsHave k seats

-- then it is evaluated, else its slots are left as they are
abbrev pub BranchDid : BoundSituation → List Node → ℕ → ℕ → Bool → BoundVars → FlatSeats → List BoundValue → Option AnyBound
    → List BoundValue → Type 0
BranchDid S ns p k truth vars seats xs None ys = (may_be truth (slot_bound k xs) ≡ false) × (ys ≡ xs)
BranchDid S ns p k truth vars seats xs (Some b) ys =
    (may_be truth (slot_bound k xs) ≡ true) × DidAt S ns p vars (flat_branch k truth seats) xs b ys

-- the bound of one of two values, of those that there may be; of neither nothing is said
abbrev pub one_of : Option AnyBound → Option AnyBound → AnyBound
one_of (Some a) (Some b) = either_bound true true a b
one_of (Some a) None = a
one_of None (Some b) = b
one_of None None = BoundAny
