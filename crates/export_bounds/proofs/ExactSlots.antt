-- The bound of one export, out of its slots.
use Rattle.std.proofs.Common.{◌≡◌, ℕ, zero, suc, ◌+◌, List, [], ◌∷◌, length, refl, ◌∙◌, ap, Bool, true, false}
use Rattle.std.proofs.Common.{Some}
use Rattle.fc_values.specs.Values.{LocalValue, IntValue, BoolValue, PairValue}
use Rattle.fc_values.specs.Trees.{Tree, Keep, Done, Then}
use Rattle.fc_values.specs.Exports.{SlotValue, FlatExport, slot_at}
use Rattle.fc_nodes.specs.Terms.{Term, Terms, Plain, Apply, Nbr, Evolve, If, Let, NoMore, More, kept, kept_types}
use Rattle.fc_nodes.specs.Program.{Unfolding}
use Rattle.fc_nodes.specs.Flat.{FitsTree, FitTrees, KeepsTruth, IfTruth, by_truth, tree_at, trees_at, Clear, Marked}
use Rattle.fc_nodes.specs.Flat.{AllMarked, tree_export, IsExport}
use Rattle.fc_nodes.proofs.Kept.{kept_long}
use Rattle.alignment.specs.Environments.{keeps_truth}
use Rattle.value_trees.proofs.Forms.{have_long}
use Rattle.value_bounds.specs.BoundValues.{Unbounded, exactly}
use Rattle.bound_firing.specs.BoundTrees.{Hold, slot_bound, bound_tree_at, bound_trees_at}
use Rattle.bound_firing.specs.Firing.{if_taken}
use Rattle.bound_firing.specs.Walks.{ClearSlots}
use Rattle.bound_firing.proofs.Firings.{kids_from, kid_is}
use Rattle.bound_firing.proofs.Slots.{tree_blank}
use Rattle.export_bounds.specs.Exports.{exact_tree, exact_trees, exact_export}
use Rattle.export_bounds.specs.Slots.{exact_if, exact_slot, exact_slots}

slot_exact : (k : ℕ) (xs : List SlotValue) → slot_bound k (exact_slots xs) ≡ exact_slot (slot_at k xs)
unfolding slot_at
slot_exact k [] = refl
slot_exact zero (x ∷ xs) = refl
slot_exact (suc k) (x ∷ xs) = slot_exact k xs

module _ (m : ℕ) (xs : List SlotValue) where
  kept_here : (k : ℕ) → (slot_at k xs).0 ≡ true → slot_bound k (exact_slots xs) ≡ exactly (slot_at k xs).1
  kept_here k h = slot_exact k xs ∙ ap (λ b. exact_if b (slot_at k xs).1) h

  clear_here : (k n : ℕ) → Clear k n xs → ClearSlots k n (exact_slots xs)
  clear_here k n c = λ j l u. slot_exact j xs ∙ ap (λ b. exact_if b (slot_at j xs).1) (c.clear j l u)

  -- the parts of an `if` that keeps a truth value
  record IfExact (c a b : Term) (kc ka kb : ℕ) (v : LocalValue) : Type 0 where
    pub condition : bound_tree_at c kc (exact_slots xs) ≡ exact_tree c (tree_at c kc xs)
    pub first : bound_tree_at a ka (exact_slots xs)
        ≡ if_taken (keeps_truth true (Some v)) a (exact_tree a (by_truth v (tree_at a ka xs) (tree_at b kb xs)))
    pub second : bound_tree_at b kb (exact_slots xs)
        ≡ if_taken (keeps_truth false (Some v)) b (exact_tree b (by_truth v (tree_at a ka xs) (tree_at b kb xs)))

  if_exact : (c a b : Term) (kc ka kb : ℕ) (v : LocalValue) → KeepsTruth (FitsTree m c) (FitsTree m a) (FitsTree m b)
      (Keep (Some v) (Then (tree_at c kc xs) (Then (by_truth v (tree_at a ka xs) (tree_at b kb xs)) Done)))
      → IfTruth v (Marked a ka xs × Clear kb (kept b) xs) (Clear ka (kept a) xs × Marked b kb xs)
      → (FitsTree m c (tree_at c kc xs) → bound_tree_at c kc (exact_slots xs) ≡ exact_tree c (tree_at c kc xs))
      → (FitsTree m a (tree_at a ka xs) → Marked a ka xs
      → bound_tree_at a ka (exact_slots xs) ≡ exact_tree a (tree_at a ka xs))
      → (FitsTree m b (tree_at b kb xs) → Marked b kb xs
      → bound_tree_at b kb (exact_slots xs) ≡ exact_tree b (tree_at b kb xs))
      → IfExact c a b kc ka kb v
  if_exact c a b kc ka kb (IntValue n) f s hc ha hb = absurd f
  if_exact c a b kc ka kb (PairValue v w) f s hc ha hb = absurd f
  if_exact c a b kc ka kb (BoolValue true) f s hc ha hb = record {
    condition = hc f.0;
    first = ha f.1.0 s.0;
    second = tree_blank (exact_slots xs) b kb (clear_here kb (kept b) s.1);
  }
  if_exact c a b kc ka kb (BoolValue false) f s hc ha hb = record {
    condition = hc f.0;
    first = tree_blank (exact_slots xs) a ka (clear_here ka (kept a) s.0);
    second = hb f.1.0 s.1;
  }

  mutual
    exact_at : (t : Term) (k : ℕ) → FitsTree m t (tree_at t k xs) → Marked t k xs
        → bound_tree_at t k (exact_slots xs) ≡ exact_tree t (tree_at t k xs)
    exact_at (Plain t l) k f h = refl
    exact_at (Apply t o ts) k f h =
        ap (Hold Unbounded) (exacts_at ts k 0 (tree_at (Apply t o ts) k xs) refl f h)
    exact_at (Nbr t a) k f h =
        let e = kept_here k h.0 in
        let p = exact_at a (suc k) f.1.0 h.1 in
        rw (e, p) refl
    exact_at (Evolve t o a b) k f h =
        let e = kept_here k h.0 in
        let p = exact_at a (suc k) f.1.0 h.1 in
        let q = exact_at b (suc k + kept a) f.1.1.0 h.2 in
        rw (e, p, q) refl
    exact_at (If t c a b) k f h =
        let e = kept_here k h.0 in
        let i = if_exact c a b (suc k) (suc k + kept c) (suc k + kept c + kept a) (slot_at k xs).1 f h.2
        (λ g. exact_at c (suc k) g h.1) (λ g n. exact_at a (suc k + kept c) g n)
        (λ g n. exact_at b (suc k + kept c + kept a) g n) in
        let p = i.condition in
        let q = i.first in
        let r = i.second in
        rw (e, p, q, r) refl
    exact_at (Let t a b) k f h =
        let p = exact_at a k f.0 h.0 in
        let q = exact_at b (k + kept a) f.1.0 h.1 in
        rw (p, q) refl

    exacts_at : (ts : Terms) (k i : ℕ) (T : Tree) → kids_from i T ≡ trees_at ts k xs
        → FitTrees m ts (trees_at ts k xs) → AllMarked ts k xs
        → bound_trees_at ts k (exact_slots xs) ≡ exact_trees i ts T
    exacts_at NoMore k i T e f h = refl
    exacts_at (More t ts) k i T e f h =
        let w = kid_is i T (tree_at t k xs) (trees_at ts (k + kept t) xs) e in
        let g = w.0 in
        let p = exact_at t k f.0 h.0 in
        let q = exacts_at ts (k + kept t) (suc i) T w.1 f.1 h.1 in
        rw (g, p, q) refl

pub export_exact : (U : Unfolding) (sure : Bool) (x : FlatExport) → IsExport U x
    → record { value = exactly x.value; tree = bound_tree_at U.main 0 (exact_slots x.slots); sure = sure }
    ≡ exact_export U sure (tree_export U x)
export_exact U sure x h =
    let e = exact_at U.declared.ceiling x.slots U.main 0 h.typed.tree h.marked in
    rw e refl

-- there is a slot for each kept place
pub slots_long : (U : Unfolding) (x : FlatExport) → IsExport U x → length x.slots ≡ kept U.main
slots_long U x h = have_long (kept_types U.main) x.slots h.shaped ∙ kept_long U.main
