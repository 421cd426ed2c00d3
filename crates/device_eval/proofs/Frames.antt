-- What a tree of slots depends on, and what a walk leaves as it was.
use Rattle.std.proofs.Common.{◌≡◌, ◌≢◌, ℕ, suc, ◌<◌, ◌≤◌, ◌+◌, ◌⊎◌, inl, inr, List, [], ◌∷◌, length, map, refl, sym, ◌∙◌, ap, subst, arith, Bool, true, false, Option, Some, None}
use Rattle.std.specs.Prelude.{option_map, slice_set}
use Rattle.fc_values.specs.Values.{LocalValue, IntValue, BoolValue, PairValue}
use Rattle.fc_values.specs.Exports.{SlotValue, slot_at}
use Rattle.fc_values.specs.Trees.{Keep, child}
use Rattle.fc_nodes.specs.Terms.{Term, Terms, Plain, Apply, Nbr, Evolve, If, Let, NoMore, More, kept, kept_all}
use Rattle.fc_nodes.specs.Flat.{tree_at, trees_at, IfTruth, Clear, Marked, AllMarked}
use Rattle.alignment.specs.Environments.{near_by, child_env}
use Rattle.alignment.specs.Slots.{FlatEnv, NearSlots}
use Rattle.device_eval.specs.Environments.{near_at, env_at, OwnFits, NearFit, EnvFits}
use Rattle.device_eval.specs.Walks.{Room, SameIn, SameOut, Still}
use Rattle.fc_values.proofs.SlotReads.{slot_set_same, slot_set_other}

pub part : {xs ys : List SlotValue} (k n k' n' : ℕ) → SameIn k n xs ys → k ≤ k' → k' + n' ≤ k + n → SameIn k' n' xs ys
part k n k' n' s a b = record { same = λ j h h'. s.same j (omega arith) (omega arith) }

-- a tree depends on its own slots alone
mutual
  pub tree_same : (t : Term) (k : ℕ) (xs ys : List SlotValue) → SameIn k (kept t) xs ys → tree_at t k xs ≡ tree_at t k ys
  tree_same (Plain t l) k xs ys s = refl
  tree_same (Apply t o ts) k xs ys s = ap (Keep None) (trees_same ts k xs ys s)
  tree_same (Nbr t a) k xs ys s =
      let e = s.same k (omega arith) (omega arith) in
      let ih = tree_same a (suc k) xs ys (part k (suc (kept a)) (suc k) (kept a) s (omega arith) (omega arith)) in
      rw (e, ih) refl
  tree_same (Evolve t v a b) k xs ys s =
      let e = s.same k (omega arith) (omega arith) in
      let ih = tree_same a (suc k) xs ys (part k (suc (kept a + kept b)) (suc k) (kept a) s (omega arith) (omega arith)) in
      let ih' = tree_same b (suc k + kept a) xs ys (part k (suc (kept a + kept b)) (suc k + kept a) (kept b) s (omega arith) (omega arith)) in
      rw (e, ih, ih') refl
  tree_same (If t c a b) k xs ys s =
      let e = s.same k (omega arith) (omega arith) in
      let n = suc (kept c + kept a + kept b) in
      let ih = tree_same c (suc k) xs ys (part k n (suc k) (kept c) s (omega arith) (omega arith)) in
      let ih' = tree_same a (suc k + kept c) xs ys (part k n (suc k + kept c) (kept a) s (omega arith) (omega arith)) in
      let ih'' = tree_same b (suc k + kept c + kept a) xs ys (part k n (suc k + kept c + kept a) (kept b) s (omega arith) (omega arith)) in
      rw (e, ih, ih', ih'') refl
  tree_same (Let t a b) k xs ys s =
      let ih = tree_same a k xs ys (part k (kept a + kept b) k (kept a) s (omega arith) (omega arith)) in
      let ih' = tree_same b (k + kept a) xs ys (part k (kept a + kept b) (k + kept a) (kept b) s (omega arith) (omega arith)) in
      rw (ih, ih') refl

  pub trees_same : (ts : Terms) (k : ℕ) (xs ys : List SlotValue) → SameIn k (kept_all ts) xs ys → trees_at ts k xs ≡ trees_at ts k ys
  trees_same NoMore k xs ys s = refl
  trees_same (More t ts) k xs ys s =
      let ih = tree_same t k xs ys (part k (kept t + kept_all ts) k (kept t) s (omega arith) (omega arith)) in
      let ih' = trees_same ts (k + kept t) xs ys (part k (kept t + kept_all ts) (k + kept t) (kept_all ts) s (omega arith) (omega arith)) in
      rw (ih, ih') refl

if_truth : (v v' : LocalValue) (P P' Q Q' : Type 0) → v ≡ v' → (P → P') → (Q → Q') → IfTruth v P Q → IfTruth v' P' Q'
if_truth v v' P P' Q Q' e f g h = subst (λ u. IfTruth u P' Q') e (by_value v h)
  where
    by_value : (u : LocalValue) → IfTruth u P Q → IfTruth u P' Q'
    by_value (IntValue n) h = f h
    by_value (BoolValue true) h = f h
    by_value (BoolValue false) h = g h
    by_value (PairValue x y) h = f h

clear_same : (k n k' n' : ℕ) (xs ys : List SlotValue) → SameIn k n xs ys → k ≤ k' → k' + n' ≤ k + n → Clear k' n' xs → Clear k' n' ys
clear_same k n k' n' xs ys s a b h = record { clear = λ j l u. let e = s.same j (omega arith) (omega arith) in let f = h.clear j l u in cc }

-- and so do its marks
mutual
  pub marked_same : (t : Term) (k : ℕ) (xs ys : List SlotValue) → SameIn k (kept t) xs ys → Marked t k xs → Marked t k ys
  marked_same (Plain t l) k xs ys s m = tt
  marked_same (Apply t o ts) k xs ys s m = marked_all ts k xs ys s m
  marked_same (Nbr t a) k xs ys s m =
      let e = s.same k (omega arith) (omega arith) in
      let m0 = m.0 in
      (cc, marked_same a (suc k) xs ys (part k (suc (kept a)) (suc k) (kept a) s (omega arith) (omega arith)) m.1)
  marked_same (Evolve t v a b) k xs ys s m =
      let e = s.same k (omega arith) (omega arith) in
      let m0 = m.0 in
      let n = suc (kept a + kept b) in
      (cc, marked_same a (suc k) xs ys (part k n (suc k) (kept a) s (omega arith) (omega arith)) m.1, marked_same b (suc k + kept a) xs ys (part k n (suc k + kept a) (kept b) s (omega arith) (omega arith)) m.2)
  marked_same (If t c a b) k xs ys s m =
      let e = s.same k (omega arith) (omega arith) in
      let m0 = m.0 in
      let n = suc (kept c + kept a + kept b) in (
        cc,
        marked_same c (suc k) xs ys (part k n (suc k) (kept c) s (omega arith) (omega arith)) m.1,
        if_truth (slot_at k xs).1 (slot_at k ys).1 _ _ _ _ (ap (λ (z : SlotValue). z.1) e)
            (λ h. (marked_same a (suc k + kept c) xs ys (part k n (suc k + kept c) (kept a) s (omega arith) (omega arith)) h.0, clear_same k n (suc k + kept c + kept a) (kept b) xs ys s (omega arith) (omega arith) h.1))
            (λ h. (clear_same k n (suc k + kept c) (kept a) xs ys s (omega arith) (omega arith) h.0, marked_same b (suc k + kept c + kept a) xs ys (part k n (suc k + kept c + kept a) (kept b) s (omega arith) (omega arith)) h.1))
            m.2,
      )
  marked_same (Let t a b) k xs ys s m =
      let n = kept a + kept b in
      (marked_same a k xs ys (part k n k (kept a) s (omega arith) (omega arith)) m.0, marked_same b (k + kept a) xs ys (part k n (k + kept a) (kept b) s (omega arith) (omega arith)) m.1)

  pub marked_all : (ts : Terms) (k : ℕ) (xs ys : List SlotValue) → SameIn k (kept_all ts) xs ys → AllMarked ts k xs → AllMarked ts k ys
  marked_all NoMore k xs ys s m = tt
  marked_all (More t ts) k xs ys s m =
      let n = kept t + kept_all ts in
      (marked_same t k xs ys (part k n k (kept t) s (omega arith) (omega arith)) m.0, marked_all ts (k + kept t) xs ys (part k n (k + kept t) (kept_all ts) s (omega arith) (omega arith)) m.1)

-- the environment of a kid
module _ (i : ℕ) (t a : Term) (k k' : ℕ) (same : (xs : List SlotValue) → child i (tree_at t k xs) ≡ tree_at a k' xs) where
  near_child : (ns : List NearSlots) → map (near_by (child i)) (map (near_at t k) ns) ≡ map (near_at a k') ns
  near_child [] = refl
  near_child (n ∷ ns) = let e = same n.2 in let ih = near_child ns in rw (e, ih) refl

  own_child : (o : Option (List SlotValue)) → option_map (child i) (option_map (tree_at t k) o) ≡ option_map (tree_at a k') o
  own_child None = refl
  own_child (Some xs) = ap Some (same xs)

  pub env_child : (env : FlatEnv) → child_env i (env_at t k env) ≡ env_at a k' env
  env_child env = let o = own_child env.own in let n = near_child env.near in rw (o, n) refl

-- the exports fit a kid
module _ (t a : Term) (k k' : ℕ) (marked : (xs : List SlotValue) → Marked t k xs → Marked a k' xs) (inside : k' + kept a ≤ k + kept t) where
  own_fits : (o : Option (List SlotValue)) → OwnFits t k o → OwnFits a k' o
  own_fits None h = tt
  own_fits (Some xs) h = (marked xs h.0, omega (arith, h.1, inside))

  near_fit : (ns : List NearSlots) → NearFit t k ns → NearFit a k' ns
  near_fit [] h = tt
  near_fit (n ∷ ns) h = (marked n.2 h.0, omega (arith, h.1, inside), near_fit ns h.2)

  pub env_fits : (env : FlatEnv) → EnvFits t k env → EnvFits a k' env
  env_fits env f = record { own = own_fits env.own f.own; near = near_fit env.near f.near }

pub room_part : (k n k' n' : ℕ) (xs : List SlotValue) → Room k n xs → k ≤ k' → k' + n' ≤ k + n → Room k' n' xs
room_part k n k' n' xs r a b = record { clear = record { clear = λ j h h'. r.clear.clear j (omega arith) (omega arith) }; within = let w = r.within in omega (arith, w) }

-- room past what was written
pub room_behind : (k n k' n' : ℕ) (xs ys : List SlotValue) → SameOut k n xs ys → Room k' n' xs → k + n ≤ k' → Room k' n' ys
room_behind k n k' n' xs ys s r h = record {
  clear = record { clear = λ j l u. let e = s.behind j (omega arith) in let f = r.clear.clear j l u in cc };
  within = let w = r.within in let l = s.long in omega (arith, w, l);
}

pub same_out : (k n : ℕ) (xs : List SlotValue) → SameOut k n xs xs
same_out k n xs = record { long = refl; before = λ j l. refl; behind = λ j l. refl }

pub still_same : (xs : List SlotValue) → Still xs xs
still_same xs = record { still = λ j e. refl }

pub still_then : (xs ys zs : List SlotValue) → Still xs ys → Still ys zs → Still xs zs
still_then xs ys zs a b = record { still = λ j e. let f = b.still j e in let g : (slot_at j ys).0 ≡ false = cc in f ∙ a.still j g }

clash : {b : Bool} → b ≡ true → b ≡ false → ⊥
clash e f = let g : true ≡ false = sym e ∙ f in absurd cc

-- a slot that is written is kept
pub still_set : (xs : List SlotValue) (k : ℕ) (v : LocalValue) → k < length xs → Still xs (slice_set xs k (true, v))
still_set xs k v h = record { still = λ j e. by_place j (same_or j) e }
  where
    same_or : (j : ℕ) → (j ≡ k) ⊎ (j ≢ k)
    same_or j = grind arith

    by_place : (j : ℕ) → (j ≡ k) ⊎ (j ≢ k) → (slot_at j (slice_set xs k (true, v))).0 ≡ false → slot_at j (slice_set xs k (true, v)) ≡ slot_at j xs
    by_place j (inl e) f = let g = slot_set_same k (true, v) xs h in absurd (clash (ap (λ (i : ℕ). (slot_at i (slice_set xs k (true, v))).0) e ∙ ap (λ (z : SlotValue). z.0) g) f)
    by_place j (inr n) f = slot_set_other j k (true, v) xs n
