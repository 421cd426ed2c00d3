-- Crates above cite this module: the kept values of a tree are those of the slots that are kept.
use Rattle.std.proofs.Common.{◌≡◌, ℕ, zero, suc, ◌+◌, List, [], ◌∷◌, ◌++◌, length, refl, sym, ◌∙◌, ap, arith, Bool, true, false, append-nil}
use Rattle.fc_values.specs.Values.{LocalValue, IntValue, BoolValue, PairValue}
use Rattle.fc_values.specs.Exports.{SlotValue, FlatExport, slot_at}
use Rattle.fc_values.specs.Trees.{Tree}
use Rattle.fc_nodes.specs.Terms.{Term, Terms, Plain, Apply, Nbr, Evolve, If, Let, NoMore, More, kept, kept_all}
use Rattle.fc_nodes.specs.Program.{Unfolding}
use Rattle.fc_nodes.specs.Flat.{by_truth, IfTruth, tree_at, trees_at, Clear, Marked, AllMarked, tree_export, IsExport}
use Rattle.fc_nodes.proofs.Kept.{kept_long}
use Rattle.value_trees.specs.KeptLists.{kept_in, kept_in_all, kept_values, if_kept, kept_only}
use Rattle.value_trees.proofs.Forms.{have_long}

-- the kept values of n slots from k on
abbrev kept_range : ℕ → ℕ → List SlotValue → List LocalValue
kept_range k zero xs = []
kept_range k (suc n) xs = if_kept (slot_at k xs).0 (slot_at k xs).1 (kept_range (suc k) n xs)

kept_append : (b : Bool) (v : LocalValue) (vs us ws : List LocalValue) → vs ≡ us ++ ws → if_kept b v vs ≡ if_kept b v us ++ ws
kept_append true v vs us ws e = ap (λ (ys : List LocalValue). v ∷ ys) e
kept_append false v vs us ws e = e

module _ (xs : List SlotValue) where
  range_both : (m n r k j : ℕ) → r ≡ m + n → j ≡ k + m → kept_range k r xs ≡ kept_range k m xs ++ kept_range j n xs
  range_both zero n r k j e f = let e' : r ≡ n = omega arith in let f' : j ≡ k = omega arith in rw (e', f') refl
  range_both (suc m) n zero k j e f = absurd (omega arith)
  range_both (suc m) n (suc r) k j e f = kept_append (slot_at k xs).0 (slot_at k xs).1 _ _ _ (range_both m n r (suc k) j (omega arith) (omega arith))

  range_clear : (n k : ℕ) → Clear k n xs → kept_range k n xs ≡ []
  range_clear zero k c = refl
  range_clear (suc n) k c =
      let here : (slot_at k xs).0 ≡ false = c.clear k (omega arith) (omega arith) in
      let rest = range_clear n (suc k) (record { clear = λ j l u. c.clear j (omega arith) (omega arith) }) in
      rw here rest

  arm_range : (v : LocalValue) (P Q : Type 0) (ta tb : Tree) (r : List LocalValue) → IfTruth v P Q → (P → kept_in ta ≡ r) → (Q → kept_in tb ≡ r) → kept_in (by_truth v ta tb) ≡ r
  arm_range (IntValue n) P Q ta tb r h f g = f h
  arm_range (BoolValue true) P Q ta tb r h f g = f h
  arm_range (BoolValue false) P Q ta tb r h f g = g h
  arm_range (PairValue x y) P Q ta tb r h f g = f h

  mutual
    term_range : (t : Term) (k : ℕ) → Marked t k xs → kept_in (tree_at t k xs) ≡ kept_range k (kept t) xs
    term_range (Plain t l) k m = refl
    term_range (Apply t o ts) k m = terms_range ts k m
    term_range (Nbr t a) k m =
        let here = m.0 in
        let ih = term_range a (suc k) m.1 in
        rw (here, ih) (ap (λ (vs : List LocalValue). (slot_at k xs).1 ∷ vs) (append-nil (kept_range (suc k) (kept a) xs)))
    term_range (Evolve t e a b) k m =
        let here = m.0 in
        let ih = term_range a (suc k) m.1 in
        let ih' = term_range b (suc k + kept a) m.2 in
        let both = range_both (kept a) (kept b) (kept a + kept b) (suc k) (suc k + kept a) refl refl in
        let none = append-nil (kept_range (suc k + kept a) (kept b) xs) in
        rw (here, ih, ih', none, both) refl
    term_range (If t c a b) k m =
        let here = m.0 in
        let ih = term_range c (suc k) m.1 in
        let both = range_both (kept c) (kept a + kept b) (kept c + kept a + kept b) (suc k) (suc k + kept c) (omega arith) refl in
        let arms = range_both (kept a) (kept b) (kept a + kept b) (suc k + kept c) (suc k + kept c + kept a) refl refl in
        let arm = arm_range (slot_at k xs).1 _ _ (tree_at a (suc k + kept c) xs) (tree_at b (suc k + kept c + kept a) xs) (kept_range (suc k + kept c) (kept a + kept b) xs) m.2
        (λ h. let n = range_clear (kept b) (suc k + kept c + kept a) h.1 in term_range a (suc k + kept c) h.0 ∙ sym (append-nil (kept_range (suc k + kept c) (kept a) xs)) ∙ ap (λ (vs : List LocalValue). kept_range (suc k + kept c) (kept a) xs ++ vs) (sym n) ∙ sym arms)
        (λ h. let n = range_clear (kept a) (suc k + kept c) h.0 in term_range b (suc k + kept c + kept a) h.1 ∙ ap (λ (vs : List LocalValue). vs ++ kept_range (suc k + kept c + kept a) (kept b) xs) (sym n) ∙ sym arms) in
        let none = append-nil (kept_range (suc k + kept c) (kept a + kept b) xs) in
        rw (here, ih, arm, none, both) refl
    term_range (Let t a b) k m =
        let ih = term_range a k m.0 in
        let ih' = term_range b (k + kept a) m.1 in
        let both = range_both (kept a) (kept b) (kept a + kept b) k (k + kept a) refl refl in
        let none = append-nil (kept_range (k + kept a) (kept b) xs) in
        rw (ih, ih', none, both) refl

    terms_range : (ts : Terms) (k : ℕ) → AllMarked ts k xs → kept_in_all (trees_at ts k xs) ≡ kept_range k (kept_all ts) xs
    terms_range NoMore k m = refl
    terms_range (More t ts) k m =
        let ih = term_range t k m.0 in
        let ih' = terms_range ts (k + kept t) m.1 in
        let both = range_both (kept t) (kept_all ts) (kept t + kept_all ts) k (k + kept t) refl refl in
        rw (ih, ih', both) refl

range_shift : (x : SlotValue) (xs : List SlotValue) (n k : ℕ) → kept_range (suc k) n (x ∷ xs) ≡ kept_range k n xs
unfolding slot_at
range_shift x xs zero k = refl
range_shift x xs (suc n) k = let ih = range_shift x xs n (suc k) in ap (if_kept (slot_at k xs).0 (slot_at k xs).1) ih

range_whole : (xs : List SlotValue) (n : ℕ) → n ≡ length xs → kept_range 0 n xs ≡ kept_only xs
unfolding slot_at
range_whole [] zero e = refl
range_whole [] (suc n) e = absurd (omega arith)
range_whole (x ∷ xs) zero e = absurd (omega arith)
range_whole (x ∷ xs) (suc n) e = ap (if_kept x.0 x.1) (range_shift x xs n 0 ∙ range_whole xs n (omega arith))

-- of an export of a program
pub kept_of_slots : (U : Unfolding) (x : FlatExport) → IsExport U x → kept_values (tree_export U x) ≡ kept_only x.slots
kept_of_slots U x h =
    let l = have_long _ x.slots h.shaped in
    let k = kept_long U.main in
    term_range x.slots U.main 0 h.marked ∙ range_whole x.slots (kept U.main) (omega (arith, l, k))
