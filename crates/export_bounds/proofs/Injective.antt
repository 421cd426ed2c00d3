-- Slots are told by the tree that they stand for.
use Rattle.std.proofs.Common.{◌≡◌, ℕ, zero, suc, ◌<◌, ◌≤◌, ◌+◌, List, [], ◌∷◌, length, refl, arith, ◌⊎◌, inl, inr}
use Rattle.std.proofs.Common.{ap}
use Rattle.std.proofs.lemmas.Bool.{cases_lt}
use Rattle.std.proofs.lemmas.List.{length-map}
use Rattle.fc_nodes.specs.Terms.{Term, Terms, Plain, Apply, Nbr, Evolve, If, Let, NoMore, More, kept, kept_all}
use Rattle.fc_nodes.specs.Program.{Unfolding}
use Rattle.value_bounds.specs.BoundValues.{BoundValue}
use Rattle.value_bounds.specs.References.{local_bound_in, local_bounds_in}
use Rattle.bound_firing.specs.declared.firing.ExportBound.{ExportBound as FlatBound}
use Rattle.bound_firing.specs.BoundTrees.{slot_bound, bound_tree_at, bound_trees_at}
use Rattle.bound_firing.specs.Exports.{ExportBound}
use Rattle.bound_firing.specs.ExportReferences.{export_bound_in}
use Rattle.bound_firing.proofs.Slots.{SameSlots}

module _ (xs ys : List BoundValue) where
  one_more : (k n : ℕ) → slot_bound k xs ≡ slot_bound k ys → SameSlots (suc k) n xs ys → SameSlots k (suc n) xs ys
  one_more k n e h = λ j l m. by_case j l m (cases_lt j (suc k))
    where
      by_case : (j : ℕ) → k ≤ j → j < k + suc n → (j < suc k) ⊎ (suc k ≤ j) → slot_bound j xs ≡ slot_bound j ys
      by_case j l m (inl q) = let s : j ≡ k = omega (arith, q, l) in rw s e
      by_case j l m (inr q) = h j q (omega (arith, m))

  one_after : (k n i m : ℕ) → i ≡ k + n → SameSlots k n xs ys → SameSlots i m xs ys → SameSlots k (n + m) xs ys
  one_after k n i m e f g = λ j l u. by_case j l u (cases_lt j i)
    where
      by_case : (j : ℕ) → k ≤ j → j < k + (n + m) → (j < i) ⊎ (i ≤ j) → slot_bound j xs ≡ slot_bound j ys
      by_case j l u (inl q) = f j l (omega (arith, q, e))
      by_case j l u (inr q) = g j q (omega (arith, u, e))

  mutual
    slots_told : (t : Term) (k : ℕ) → bound_tree_at t k xs ≡ bound_tree_at t k ys → SameSlots k (kept t) xs ys
    slots_told (Plain t l) k e = λ j l m. absurd (omega (arith, l, m))
    slots_told (Apply t o ts) k e =
        let p : bound_trees_at ts k xs ≡ bound_trees_at ts k ys = cc in
        all_told ts k p
    slots_told (Nbr t a) k e =
        let h : slot_bound k xs ≡ slot_bound k ys = cc in
        let p : bound_tree_at a (suc k) xs ≡ bound_tree_at a (suc k) ys = cc in
        one_more k (kept a) h (slots_told a (suc k) p)
    slots_told (Evolve t o a b) k e =
        let h : slot_bound k xs ≡ slot_bound k ys = cc in
        let p : bound_tree_at a (suc k) xs ≡ bound_tree_at a (suc k) ys = cc in
        let q : bound_tree_at b (suc k + kept a) xs ≡ bound_tree_at b (suc k + kept a) ys = cc in
        one_more k (kept a + kept b) h (one_after (suc k) (kept a) (suc k + kept a) (kept b) refl
        (slots_told a (suc k) p) (slots_told b (suc k + kept a) q))
    slots_told (If t c a b) k e =
        let h : slot_bound k xs ≡ slot_bound k ys = cc in
        let p : bound_tree_at c (suc k) xs ≡ bound_tree_at c (suc k) ys = cc in
        let q : bound_tree_at a (suc k + kept c) xs ≡ bound_tree_at a (suc k + kept c) ys = cc in
        let r : bound_tree_at b (suc k + kept c + kept a) xs ≡ bound_tree_at b (suc k + kept c + kept a) ys = cc in
        one_more k (kept c + kept a + kept b) h
        (one_after (suc k) (kept c + kept a) (suc k + kept c + kept a) (kept b) (omega arith)
        (one_after (suc k) (kept c) (suc k + kept c) (kept a) refl (slots_told c (suc k) p)
        (slots_told a (suc k + kept c) q)) (slots_told b (suc k + kept c + kept a) r))
    slots_told (Let t a b) k e =
        let p : bound_tree_at a k xs ≡ bound_tree_at a k ys = cc in
        let q : bound_tree_at b (k + kept a) xs ≡ bound_tree_at b (k + kept a) ys = cc in
        one_after k (kept a) (k + kept a) (kept b) refl (slots_told a k p) (slots_told b (k + kept a) q)

    all_told : (ts : Terms) (k : ℕ) → bound_trees_at ts k xs ≡ bound_trees_at ts k ys
        → SameSlots k (kept_all ts) xs ys
    all_told NoMore k e = λ j l m. absurd (omega (arith, l, m))
    all_told (More t ts) k e =
        let p : bound_tree_at t k xs ≡ bound_tree_at t k ys = cc in
        let q : bound_trees_at ts (k + kept t) xs ≡ bound_trees_at ts (k + kept t) ys = cc in
        one_after k (kept t) (k + kept t) (kept_all ts) refl (slots_told t k p) (all_told ts (k + kept t) q)

alike : (xs ys : List BoundValue) → length xs ≡ length ys
    → ((j : ℕ) → j < length xs → slot_bound j xs ≡ slot_bound j ys) → xs ≡ ys
alike [] [] e h = refl
alike [] (y ∷ ys) e h = absurd (omega (arith, e))
alike (x ∷ xs) [] e h = absurd (omega (arith, e))
alike (x ∷ xs) (y ∷ ys) e h =
    let p : x ≡ y = h zero (omega arith) in
    let q = alike xs ys (omega (arith, e)) (λ j l. h (suc j) (omega (arith, l))) in
    rw (p, q) refl

-- the slots of a bound of an export
pub told : (U : Unfolding) (a b : FlatBound) → length a.slots.items ≡ kept U.main
    → length b.slots.items ≡ kept U.main → export_bound_in U a ≡ export_bound_in U b
    → local_bounds_in a.slots.items ≡ local_bounds_in b.slots.items
told U a b l m e =
    let p = length-map a.slots.items local_bound_in in
    let q = length-map b.slots.items local_bound_in in
    let h = slots_told (local_bounds_in a.slots.items) (local_bounds_in b.slots.items) U.main 0
    (ap (λ (x : ExportBound). x.tree) e) in
    alike (local_bounds_in a.slots.items) (local_bounds_in b.slots.items) (omega (arith, p, q, l, m))
    (λ j u. h j (omega arith) (omega (arith, u, p, l)))
