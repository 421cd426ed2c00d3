-- Crates above cite this module: bounds of trees out of slots, as code has them; a tree depends on its own slots alone.
use Rattle.std.proofs.Common.{◌≡◌, ℕ, suc, ◌≤◌, ◌<◌, ◌+◌, List, [], ◌∷◌, ◌++◌, map, length, refl, ap, subst, arith}
use Rattle.std.proofs.lemmas.List.{length-append}
use Rattle.fc_values.specs.Types.{LocalType}
use Rattle.fc_nodes.proofs.Kept.{kept_long}
use Rattle.fc_nodes.specs.Terms.{Term, Terms, Plain, Apply, Nbr, Evolve, If, Let, NoMore, More, kept, kept_all}
use Rattle.fc_nodes.specs.Terms.{kept_types, all_kept_types}
use Rattle.value_bounds.specs.BoundValues.{BoundValue, Unbounded, anything}
use Rattle.bound_firing.specs.Walks.{ClearSlots}
use Rattle.bound_firing.specs.BoundTrees.{Hold, slot_bound, bound_tree_at, bound_trees_at, tree_with, trees_with}
use Rattle.bound_firing.specs.BoundTrees.{any_tree, blank}

-- n slots from k on hold the same
abbrev pub SameSlots : ℕ → ℕ → List BoundValue → List BoundValue → Type 0
SameSlots k n xs ys = (j : ℕ) → k ≤ j → j < k + n → slot_bound j xs ≡ slot_bound j ys

module _ (xs ys : List BoundValue) where
  mutual
    pub tree_same : (t : Term) (k : ℕ) → SameSlots k (kept t) xs ys → bound_tree_at t k xs ≡ bound_tree_at t k ys
    tree_same (Plain t l) k s = refl
    tree_same (Apply t o ts) k s = ap (Hold Unbounded) (trees_same ts k s)
    tree_same (Nbr t a) k s =
        let h = s k (omega arith) (omega arith) in
        let p = tree_same a (suc k) (λ j l m. s j (omega (arith, l)) (omega (arith, m))) in
        rw (h, p) refl
    tree_same (Evolve t e a b) k s =
        let h = s k (omega arith) (omega arith) in
        let p = tree_same a (suc k) (λ j l m. s j (omega (arith, l)) (omega (arith, m))) in
        let q = tree_same b (suc k + kept a) (λ j l m. s j (omega (arith, l)) (omega (arith, m))) in
        rw (h, p, q) refl
    tree_same (If t c a b) k s =
        let h = s k (omega arith) (omega arith) in
        let p = tree_same c (suc k) (λ j l m. s j (omega (arith, l)) (omega (arith, m))) in
        let q = tree_same a (suc k + kept c) (λ j l m. s j (omega (arith, l)) (omega (arith, m))) in
        let r = tree_same b (suc k + kept c + kept a) (λ j l m. s j (omega (arith, l)) (omega (arith, m))) in
        rw (h, p, q, r) refl
    tree_same (Let t a b) k s =
        let p = tree_same a k (λ j l m. s j (omega (arith, l)) (omega (arith, m))) in
        let q = tree_same b (k + kept a) (λ j l m. s j (omega (arith, l)) (omega (arith, m))) in
        rw (p, q) refl

    pub trees_same : (ts : Terms) (k : ℕ) → SameSlots k (kept_all ts) xs ys → bound_trees_at ts k xs
        ≡ bound_trees_at ts k ys
    trees_same NoMore k s = refl
    trees_same (More t ts) k s =
        let p = tree_same t k (λ j l m. s j (omega (arith, l)) (omega (arith, m))) in
        let q = trees_same ts (k + kept t) (λ j l m. s j (omega (arith, l)) (omega (arith, m))) in
        rw (p, q) refl

-- slots of which nothing is said stand for the tree of which nothing is said
module _ (xs : List BoundValue) where
  mutual
    pub tree_blank : (t : Term) (k : ℕ) → ClearSlots k (kept t) xs → bound_tree_at t k xs ≡ blank t
    tree_blank (Plain t l) k s = refl
    tree_blank (Apply t o ts) k s = ap (Hold Unbounded) (trees_blank ts k s)
    tree_blank (Nbr t a) k s =
        let h = s k (omega arith) (omega arith) in
        let p = tree_blank a (suc k) (λ j l m. s j (omega (arith, l)) (omega (arith, m))) in
        rw (h, p) refl
    tree_blank (Evolve t e a b) k s =
        let h = s k (omega arith) (omega arith) in
        let p = tree_blank a (suc k) (λ j l m. s j (omega (arith, l)) (omega (arith, m))) in
        let q = tree_blank b (suc k + kept a) (λ j l m. s j (omega (arith, l)) (omega (arith, m))) in
        rw (h, p, q) refl
    tree_blank (If t c a b) k s =
        let h = s k (omega arith) (omega arith) in
        let p = tree_blank c (suc k) (λ j l m. s j (omega (arith, l)) (omega (arith, m))) in
        let q = tree_blank a (suc k + kept c) (λ j l m. s j (omega (arith, l)) (omega (arith, m))) in
        let r = tree_blank b (suc k + kept c + kept a) (λ j l m. s j (omega (arith, l)) (omega (arith, m))) in
        rw (h, p, q, r) refl
    tree_blank (Let t a b) k s =
        let p = tree_blank a k (λ j l m. s j (omega (arith, l)) (omega (arith, m))) in
        let q = tree_blank b (k + kept a) (λ j l m. s j (omega (arith, l)) (omega (arith, m))) in
        rw (p, q) refl

    pub trees_blank : (ts : Terms) (k : ℕ) → ClearSlots k (kept_all ts) xs → bound_trees_at ts k xs
        ≡ trees_with (λ s. Unbounded) ts
    trees_blank NoMore k s = refl
    trees_blank (More t ts) k s =
        let p = tree_blank t k (λ j l m. s j (omega (arith, l)) (omega (arith, m))) in
        let q = trees_blank ts (k + kept t) (λ j l m. s j (omega (arith, l)) (omega (arith, m))) in
        rw (p, q) refl

-- ---- slots that hold what a function says of the types of the kept places

module _ (f : LocalType → BoundValue) where
  -- from slot k on
  abbrev pub SlotsTell : ℕ → List LocalType → List BoundValue → Type 0
  SlotsTell k [] xs = Unit {0}
  SlotsTell k (t ∷ ts) xs = (slot_bound k xs ≡ f t) × SlotsTell (suc k) ts xs

  tell_parts : (k : ℕ) (ts us : List LocalType) (n : ℕ) (xs : List BoundValue) → n ≡ k + length ts
      → SlotsTell k (ts ++ us) xs → SlotsTell k ts xs × SlotsTell n us xs
  tell_parts k [] us n xs e h = let same : k ≡ n = omega (arith, e) in (tt, subst (λ i. SlotsTell i us xs) same h)
  tell_parts k (t ∷ ts) us n xs e h = let r = tell_parts (suc k) ts us n xs (omega (arith, e)) h.1 in ((h.0, r.0), r.1)

  tell_later : (k : ℕ) (ts : List LocalType) (x : BoundValue) (xs : List BoundValue) → SlotsTell k ts xs
      → SlotsTell (suc k) ts (x ∷ xs)
  tell_later k [] x xs h = tt
  tell_later k (t ∷ ts) x xs h = (h.0, tell_later (suc k) ts x xs h.1)

  all_tell : (ts : List LocalType) → SlotsTell 0 ts (map f ts)
  all_tell [] = tt
  all_tell (t ∷ ts) = (refl, tell_later 0 ts (f t) (map f ts) (all_tell ts))

  module _ (xs : List BoundValue) where
    mutual
      pub tree_told : (t : Term) (k : ℕ) → SlotsTell k (kept_types t) xs → bound_tree_at t k xs ≡ tree_with f t
      tree_told (Plain t l) k h = refl
      tree_told (Apply t o ts) k h = ap (Hold Unbounded) (trees_told ts k h)
      tree_told (Nbr t a) k h = let e = h.0 in let p = tree_told a (suc k) h.1 in rw (e, p) refl
      tree_told (Evolve t o a b) k h =
          let e = h.0 in
          let s = tell_parts (suc k) (kept_types a) (kept_types b) (suc k + kept a) xs
          (omega (arith, kept_long a)) h.1 in
          let p = tree_told a (suc k) s.0 in
          let q = tree_told b (suc k + kept a) s.1 in
          rw (e, p, q) refl
      tree_told (If t c a b) k h =
          let e = h.0 in
          let s = tell_parts (suc k) (kept_types c ++ kept_types a) (kept_types b) (suc k + kept c + kept a) xs
          (omega (arith, kept_long c, kept_long a, length-append (kept_types c) (kept_types a))) h.1 in
          let s' = tell_parts (suc k) (kept_types c) (kept_types a) (suc k + kept c) xs
          (omega (arith, kept_long c)) s.0 in
          let p = tree_told c (suc k) s'.0 in
          let q = tree_told a (suc k + kept c) s'.1 in
          let r = tree_told b (suc k + kept c + kept a) s.1 in
          rw (e, p, q, r) refl
      tree_told (Let t a b) k h =
          let s = tell_parts k (kept_types a) (kept_types b) (k + kept a) xs (omega (arith, kept_long a)) h in
          let p = tree_told a k s.0 in
          let q = tree_told b (k + kept a) s.1 in
          rw (p, q) refl

      pub trees_told : (ts : Terms) (k : ℕ) → SlotsTell k (all_kept_types ts) xs → bound_trees_at ts k xs
          ≡ trees_with f ts
      trees_told NoMore k h = refl
      trees_told (More t ts) k h =
          let s = tell_parts k (kept_types t) (all_kept_types ts) (k + kept t) xs (omega (arith, kept_long t)) h in
          let p = tree_told t k s.0 in
          let q = trees_told ts (k + kept t) s.1 in
          rw (p, q) refl

-- the first bounds, as slots
pub slots_at_first : (m : ℕ) (t : Term) → bound_tree_at t 0 (map (anything m) (kept_types t)) ≡ any_tree m t
slots_at_first m t = tree_told (anything m) (map (anything m) (kept_types t)) t 0 (all_tell (anything m) (kept_types t))
