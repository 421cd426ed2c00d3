-- Crates above cite this module: what is written in slots, and what stays as it was.
use Rattle.std.proofs.Common.{◌≡◌, ◌≢◌, ℕ, zero, suc, ◌<◌, ◌≤◌, ◌+◌, List, [], ◌∷◌, length, refl, sym, ◌∙◌, subst}
use Rattle.std.proofs.Common.{arith, Bool, length-set}
use Rattle.std.specs.Prelude.{slice_set}
use Rattle.value_bounds.specs.BoundValues.{BoundValue}
use Rattle.bound_firing.specs.BoundTrees.{slot_bound}
use Rattle.bound_firing.specs.FlatSeats.{FlatSeats, flat_branch}
use Rattle.bound_firing.specs.Walks.{Room, SameOut, Reach}
use Rattle.bound_firing.proofs.Seated.{branch_has}

-- ---- one slot

pub set_same : (k : ℕ) (b : BoundValue) (xs : List BoundValue) → k < length xs → slot_bound k (slice_set xs k b) ≡ b
set_same k b [] h = absurd (omega arith)
set_same zero b (x ∷ xs) h = refl
set_same (suc k) b (x ∷ xs) h = set_same k b xs (omega arith)

pub set_other : (j k : ℕ) (b : BoundValue) (xs : List BoundValue) → j ≢ k
    → slot_bound j xs ≡ slot_bound j (slice_set xs k b)
set_other j k b [] h = refl
set_other zero zero b (x ∷ xs) h = absurd (h refl)
set_other zero (suc k) b (x ∷ xs) h = refl
set_other (suc j) zero b (x ∷ xs) h = refl
set_other (suc j) (suc k) b (x ∷ xs) h = set_other j k b xs (λ e. h (omega (arith, e)))

-- ---- some slots

pub room_part : (k n k' n' : ℕ) (xs : List BoundValue) → Room k n xs → k ≤ k' → k' + n' ≤ k + n → Room k' n' xs
room_part k n k' n' xs r l u =
    let w = r.within in
    record { clear = λ j a b. r.clear j (omega (arith, l, a)) (omega (arith, u, b)); within = omega (arith, w, u) }

pub room_behind : (k n k' n' : ℕ) (xs ys : List BoundValue) → SameOut k n xs ys → Room k' n' xs → k + n ≤ k'
    → Room k' n' ys
room_behind k n k' n' xs ys o r l =
    let w = r.within in
    let e = o.long in
    record {
      clear = λ j a b. sym (o.behind j (omega (arith, l, a))) ∙ r.clear j a b;
      within = omega (arith, w, e);
    }

pub same_out : (k n : ℕ) (xs : List BoundValue) → SameOut k n xs xs
same_out k n xs = record { long = refl; before = λ j l. refl; behind = λ j l. refl }

-- ---- seats

pub reach_as : (m n : ℕ) (F : FlatSeats) → m ≡ n → Reach m F → Reach n F
reach_as m n F e r = subst (λ i. Reach i F) e r

pub reach_branch : (n k : ℕ) (b : Bool) (F : FlatSeats) → Reach n F → Reach n (flat_branch k b F)
reach_branch n k b F r = record { each = λ j l. branch_has j k b F (r.each j l) }

-- a slot before them is written
pub room_set : (k : ℕ) (b : BoundValue) (k' n' : ℕ) (xs : List BoundValue) → k < k' → Room k' n' xs
    → Room k' n' (slice_set xs k b)
room_set k b k' n' xs l r =
    let w = r.within in
    let e = length-set xs k b in
    record {
      clear = λ j h h'. sym (set_other j k b xs (λ e. absurd (omega (arith, e, h, l)))) ∙ r.clear j h h';
      within = omega (arith, w, e);
    }
