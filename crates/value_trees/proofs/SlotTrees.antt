-- Slots that fit a term stand for a tree that fits it, and the reverse.
use Rattle.std.proofs.Common.{◌≡◌, ℕ, suc, ◌<◌, ◌≤◌, ◌+◌, ◌⊎◌, inl, inr, List, length, refl, sym, ◌∙◌, ap, subst, arith, Bool, true, false, not, ◌&&◌, Some}
use Rattle.fc_values.specs.Types.{LocalType, BoolType}
use Rattle.fc_values.specs.Values.{LocalValue, IntValue, BoolValue, PairValue, Fits, form_of}
use Rattle.fc_values.specs.BuiltinTypes.{inner}
use Rattle.fc_values.specs.Exports.{SlotValue, FlatExport, slot_at}
use Rattle.fc_values.specs.Trees.{Tree, Keep, Done, Then}
use Rattle.fc_nodes.specs.Terms.{Term, Terms, Plain, Apply, Nbr, Evolve, If, Let, NoMore, More, term_type, kept, kept_all, kept_types, all_kept_types}
use Rattle.fc_nodes.specs.Program.{Unfolding}
use Rattle.fc_nodes.specs.Flat.{FitsTree, FitTrees, KeepsTruth, by_truth, IfTruth, tree_at, trees_at, Clear, Marked, AllMarked, IsExport}
use Rattle.fc_nodes.proofs.Kept.{kept_long}
use Rattle.value_trees.specs.SlotFits.{ValueFits, SlotFits, truth_in, SlotsFit, AllSlotsFit}
use Rattle.value_trees.proofs.Forms.{FormsAt, fits_form, forms_first, forms_rest, forms_both, after_of, forms_two, two_forms, forms_three, three_forms, have_long, have_forms_at, forms_have}

-- an `if` that keeps a truth value
if_both : (c : ℕ) (v : LocalValue) (C A B : Tree → Type 0) (tx ta tb : Tree) (MA CA MB CB : Type 0) → Fits c BoolType v → C tx → (truth_in v ≡ true → A ta × MA) → (truth_in v ≡ true → CB) → (truth_in v ≡ false → B tb × MB) → (truth_in v ≡ false → CA)
    → KeepsTruth C A B (Keep (Some v) (Then tx (Then (by_truth v ta tb) Done))) × IfTruth v (MA × CB) (CA × MB)
if_both c (BoolValue true) C A B tx ta tb MA CA MB CB h x a b' b a' = let r = a refl in ((x, (r.0, tt)), (r.1, b' refl))
if_both c (BoolValue false) C A B tx ta tb MA CA MB CB h x a b' b a' = let r = b refl in ((x, (r.0, tt)), (a' refl, r.1))
if_both c (IntValue n) C A B tx ta tb MA CA MB CB h x a b' b a' = absurd h
if_both c (PairValue y z) C A B tx ta tb MA CA MB CB h x a b' b a' = absurd h

if_cases : (v : LocalValue) (C A B : Tree → Type 0) (tx ta tb : Tree) (P Q R : Type 0) → KeepsTruth C A B (Keep (Some v) (Then tx (Then (by_truth v ta tb) Done))) → IfTruth v P Q
    → (v ≡ BoolValue true → C tx → A ta → P → R) → (v ≡ BoolValue false → C tx → B tb → Q → R) → R
if_cases (IntValue n) C A B tx ta tb P Q R h m f g = absurd h
if_cases (PairValue x y) C A B tx ta tb P Q R h m f g = absurd h
if_cases (BoolValue true) C A B tx ta tb P Q R h m f g = f refl h.0 h.1.0 m
if_cases (BoolValue false) C A B tx ta tb P Q R h m f g = g refl h.0 h.1.0 m

value_form : (g : Bool) (c : ℕ) (s : LocalType) (v : LocalValue) → ValueFits g c s v → form_of v ≡ s
value_form true c s v h = fits_form c s v h
value_form false c s v h = h

module _ (c : ℕ) (xs : List SlotValue) where
  clear_own : (k n : ℕ) → (slot_at k xs).0 ≡ false → Clear (suc k) n xs → Clear k (suc n) xs
  clear_own k n e h = record { clear = λ j l u. by_place j l u (same_or j l) }
    where
      same_or : (j : ℕ) → k ≤ j → (j ≡ k) ⊎ (suc k ≤ j)
      same_or j l = grind arith

      by_place : (j : ℕ) → k ≤ j → j < k + suc n → (j ≡ k) ⊎ (suc k ≤ j) → (slot_at j xs).0 ≡ false
      by_place j l u (inl i) = ap (λ (q : ℕ). (slot_at q xs).0) i ∙ e
      by_place j l u (inr i) = h.clear j i (omega arith)

  clear_both : (k m n r j : ℕ) → r ≡ m + n → j ≡ k + m → Clear k m xs → Clear j n xs → Clear k r xs
  clear_both k m n r j e f h h' = record { clear = λ i l u. by_place i l u (before_or i) }
    where
      before_or : (i : ℕ) → (i < j) ⊎ (j ≤ i)
      before_or i = grind arith

      by_place : (i : ℕ) → k ≤ i → i < k + r → (i < j) ⊎ (j ≤ i) → (slot_at i xs).0 ≡ false
      by_place i l u (inl b) = h.clear i l (omega arith)
      by_place i l u (inr b) = h'.clear i b (omega arith)

  clear_part : (k n k' n' : ℕ) → Clear k n xs → k ≤ k' → k' + n' ≤ k + n → Clear k' n' xs
  clear_part k n k' n' h a b = record { clear = λ j l u. h.clear j (omega arith) (omega arith) }

  mutual
    fit_clear : (t : Term) (k : ℕ) → SlotsFit false c t k xs → Clear k (kept t) xs
    fit_clear (Plain t l) k h = record { clear = λ j a b. absurd (omega arith) }
    fit_clear (Apply t o ts) k h = fit_all_clear ts k h
    fit_clear (Nbr t a) k h = let s = h.0 in clear_own k (kept a) s.kept (fit_clear a (suc k) h.1.0)
    fit_clear (Evolve t e a b) k h = let s = h.0 in clear_own k (kept a + kept b) s.kept (clear_both (suc k) (kept a) (kept b) (kept a + kept b) (suc k + kept a) refl refl (fit_clear a (suc k) h.1.0) (fit_clear b (suc k + kept a) h.1.1.0))
    fit_clear (If t x a b) k h =
        let s = h.0 in
        clear_own k (kept x + kept a + kept b) s.kept
        (clear_both (suc k) (kept x) (kept a + kept b) (kept x + kept a + kept b) (suc k + kept x) (omega arith) refl (fit_clear x (suc k) h.1.0)
        (clear_both (suc k + kept x) (kept a) (kept b) (kept a + kept b) (suc k + kept x + kept a) refl refl (fit_clear a (suc k + kept x) h.1.1.0) (fit_clear b (suc k + kept x + kept a) h.1.1.1)))
    fit_clear (Let t a b) k h = clear_both k (kept a) (kept b) (kept a + kept b) (k + kept a) refl refl (fit_clear a k h.0) (fit_clear b (k + kept a) h.1.0)

    fit_all_clear : (ts : Terms) (k : ℕ) → AllSlotsFit false c ts k xs → Clear k (kept_all ts) xs
    fit_all_clear NoMore k h = record { clear = λ j a b. absurd (omega arith) }
    fit_all_clear (More t ts) k h = clear_both k (kept t) (kept_all ts) (kept t + kept_all ts) (k + kept t) refl refl (fit_clear t k h.0) (fit_all_clear ts (k + kept t) h.1)

  mutual
    fit_tree : (t : Term) (k : ℕ) → SlotsFit true c t k xs → FitsTree c t (tree_at t k xs) × Marked t k xs
    fit_tree (Plain t l) k h = (tt, tt)
    fit_tree (Apply t o ts) k h = fit_trees ts k h
    fit_tree (Nbr t a) k h = let s = h.0 in let f = fit_tree a (suc k) h.1.0 in ((s.value, (f.0, tt)), (s.kept, f.1))
    fit_tree (Evolve t e a b) k h =
        let s = h.0 in
        let f = fit_tree a (suc k) h.1.0 in
        let g = fit_tree b (suc k + kept a) h.1.1.0 in
        ((s.value, (f.0, (g.0, tt))), (s.kept, f.1, g.1))
    fit_tree (If t x a b) k h =
        let s = h.0 in
        let f = fit_tree x (suc k) h.1.0 in
        let both = if_both c (slot_at k xs).1 (FitsTree c x) (FitsTree c a) (FitsTree c b) (tree_at x (suc k) xs) (tree_at a (suc k + kept x) xs) (tree_at b (suc k + kept x + kept a) xs)
        (Marked a (suc k + kept x) xs) (Clear (suc k + kept x) (kept a) xs) (Marked b (suc k + kept x + kept a) xs) (Clear (suc k + kept x + kept a) (kept b) xs) s.value f.0
        (λ e. fit_tree a (suc k + kept x) (subst (λ (q : Bool). SlotsFit q c a (suc k + kept x) xs) e h.1.1.0))
        (λ e. fit_clear b (suc k + kept x + kept a) (subst (λ (q : Bool). SlotsFit (not q) c b (suc k + kept x + kept a) xs) e h.1.1.1))
        (λ e. fit_tree b (suc k + kept x + kept a) (subst (λ (q : Bool). SlotsFit (not q) c b (suc k + kept x + kept a) xs) e h.1.1.1))
        (λ e. fit_clear a (suc k + kept x) (subst (λ (q : Bool). SlotsFit q c a (suc k + kept x) xs) e h.1.1.0)) in
        (both.0, (s.kept, f.1, both.1))
    fit_tree (Let t a b) k h =
        let f = fit_tree a k h.0 in
        let g = fit_tree b (k + kept a) h.1.0 in
        ((f.0, (g.0, tt)), (f.1, g.1))

    fit_trees : (ts : Terms) (k : ℕ) → AllSlotsFit true c ts k xs → FitTrees c ts (trees_at ts k xs) × AllMarked ts k xs
    fit_trees NoMore k h = (tt, tt)
    fit_trees (More t ts) k h =
        let f = fit_tree t k h.0 in
        let g = fit_trees ts (k + kept t) h.1 in
        ((f.0, g.0), (f.1, g.1))

  mutual
    fit_forms : (g : Bool) (t : Term) (k : ℕ) → SlotsFit g c t k xs → FormsAt k (kept_types t) xs
    fit_forms g (Plain t l) k h = tt
    fit_forms g (Apply t o ts) k h = fit_all_forms g ts k h
    fit_forms g (Nbr t a) k h = let s = h.0 in (value_form g c (inner t) (slot_at k xs).1 s.value, fit_forms g a (suc k) h.1.0)
    fit_forms g (Evolve t e a b) k h = let s = h.0 in (value_form g c (inner t) (slot_at k xs).1 s.value, two_forms xs a b (suc k) (fit_forms g a (suc k) h.1.0) (fit_forms g b (suc k + kept a) h.1.1.0))
    fit_forms g (If t x a b) k h = let s = h.0 in (value_form g c BoolType (slot_at k xs).1 s.value, three_forms xs x a b (suc k) (fit_forms g x (suc k) h.1.0) (fit_forms (g && truth_in (slot_at k xs).1) a (suc k + kept x) h.1.1.0) (fit_forms (g && not (truth_in (slot_at k xs).1)) b (suc k + kept x + kept a) h.1.1.1))
    fit_forms g (Let t a b) k h = two_forms xs a b k (fit_forms g a k h.0) (fit_forms g b (k + kept a) h.1.0)

    fit_all_forms : (g : Bool) (ts : Terms) (k : ℕ) → AllSlotsFit g c ts k xs → FormsAt k (all_kept_types ts) xs
    fit_all_forms g NoMore k h = tt
    fit_all_forms g (More t ts) k h = forms_both xs (kept_types t) (all_kept_types ts) k (k + kept t) (after_of xs t k) (fit_forms g t k h.0) (fit_all_forms g ts (k + kept t) h.1)

  slot_fits : (g : Bool) (s : LocalType) (k : ℕ) → k < length xs → (slot_at k xs).0 ≡ g → ValueFits g c s (slot_at k xs).1 → SlotFits g c s k xs
  slot_fits g s k l e v = record { within = l; kept = e; value = v }

  mutual
    clear_fit : (t : Term) (k : ℕ) → Clear k (kept t) xs → FormsAt k (kept_types t) xs → k + kept t ≤ length xs → SlotsFit false c t k xs
    clear_fit (Plain t l) k h f w = tt
    clear_fit (Apply t o ts) k h f w = clear_all_fit ts k h f w
    clear_fit (Nbr t a) k h f w = (
      slot_fits false (inner t) k (omega arith) (h.clear k (omega arith) (omega arith)) f.0,
      (clear_fit a (suc k) (clear_part k (suc (kept a)) (suc k) (kept a) h (omega arith) (omega arith)) f.1 (omega arith), tt),
    )
    clear_fit (Evolve t e a b) k h f w =
        let n = suc (kept a + kept b) in
        let both = forms_two xs a b (suc k) f.1 in (
          slot_fits false (inner t) k (omega arith) (h.clear k (omega arith) (omega arith)) f.0,
          (
            clear_fit a (suc k) (clear_part k n (suc k) (kept a) h (omega arith) (omega arith)) both.0 (omega arith),
            (clear_fit b (suc k + kept a) (clear_part k n (suc k + kept a) (kept b) h (omega arith) (omega arith)) both.1 (omega arith), tt),
          ),
        )
    clear_fit (If t x a b) k h f w =
        let n = suc (kept x + kept a + kept b) in
        let both = forms_three xs x a b (suc k) f.1 in (
          slot_fits false BoolType k (omega arith) (h.clear k (omega arith) (omega arith)) f.0,
          (
            clear_fit x (suc k) (clear_part k n (suc k) (kept x) h (omega arith) (omega arith)) both.0 (omega arith),
            (
              clear_fit a (suc k + kept x) (clear_part k n (suc k + kept x) (kept a) h (omega arith) (omega arith)) both.1 (omega arith),
              clear_fit b (suc k + kept x + kept a) (clear_part k n (suc k + kept x + kept a) (kept b) h (omega arith) (omega arith)) both.2 (omega arith),
            ),
          ),
        )
    clear_fit (Let t a b) k h f w =
        let n = kept a + kept b in
        let both = forms_two xs a b k f in
        (clear_fit a k (clear_part k n k (kept a) h (omega arith) (omega arith)) both.0 (omega arith), (clear_fit b (k + kept a) (clear_part k n (k + kept a) (kept b) h (omega arith) (omega arith)) both.1 (omega arith), tt))

    clear_all_fit : (ts : Terms) (k : ℕ) → Clear k (kept_all ts) xs → FormsAt k (all_kept_types ts) xs → k + kept_all ts ≤ length xs → AllSlotsFit false c ts k xs
    clear_all_fit NoMore k h f w = tt
    clear_all_fit (More t ts) k h f w =
        let n = kept t + kept_all ts in
        (clear_fit t k (clear_part k n k (kept t) h (omega arith) (omega arith)) (forms_first xs (kept_types t) (all_kept_types ts) k f) (omega arith), clear_all_fit ts (k + kept t) (clear_part k n (k + kept t) (kept_all ts) h (omega arith) (omega arith)) (forms_rest xs (kept_types t) (all_kept_types ts) k (k + kept t) (after_of xs t k) f) (omega arith))

  mutual
    tree_fit : (t : Term) (k : ℕ) → FitsTree c t (tree_at t k xs) → Marked t k xs → FormsAt k (kept_types t) xs → k + kept t ≤ length xs → SlotsFit true c t k xs
    tree_fit (Plain t l) k f m o w = tt
    tree_fit (Apply t op ts) k f m o w = trees_fit ts k f m o w
    tree_fit (Nbr t a) k f m o w = (slot_fits true (inner t) k (omega arith) m.0 f.0, (tree_fit a (suc k) f.1.0 m.1 o.1 (omega arith), tt))
    tree_fit (Evolve t e a b) k f m o w =
        let both = forms_two xs a b (suc k) o.1 in
        (slot_fits true (inner t) k (omega arith) m.0 f.0, (tree_fit a (suc k) f.1.0 m.1 both.0 (omega arith), (tree_fit b (suc k + kept a) f.1.1.0 m.2 both.1 (omega arith), tt)))
    tree_fit (If t x a b) k f m o w =
        let both = forms_three xs x a b (suc k) o.1 in
        if_cases (slot_at k xs).1 (FitsTree c x) (FitsTree c a) (FitsTree c b) (tree_at x (suc k) xs) (tree_at a (suc k + kept x) xs) (tree_at b (suc k + kept x + kept a) xs)
        (Marked a (suc k + kept x) xs × Clear (suc k + kept x + kept a) (kept b) xs) (Clear (suc k + kept x) (kept a) xs × Marked b (suc k + kept x + kept a) xs) (SlotsFit true c (If t x a b) k xs) f m.2
        (λ e fx fa n. (
          slot_fits true BoolType k (omega arith) m.0 (subst (Fits c BoolType) (sym e) tt),
          (
            tree_fit x (suc k) fx m.1 both.0 (omega arith),
            (
              subst (λ (v : LocalValue). SlotsFit (truth_in v) c a (suc k + kept x) xs) (sym e) (tree_fit a (suc k + kept x) fa n.0 both.1 (omega arith)),
              subst (λ (v : LocalValue). SlotsFit (not (truth_in v)) c b (suc k + kept x + kept a) xs) (sym e) (clear_fit b (suc k + kept x + kept a) n.1 both.2 (omega arith)),
            ),
          ),
        ))
        (λ e fx fb n. (
          slot_fits true BoolType k (omega arith) m.0 (subst (Fits c BoolType) (sym e) tt),
          (
            tree_fit x (suc k) fx m.1 both.0 (omega arith),
            (
              subst (λ (v : LocalValue). SlotsFit (truth_in v) c a (suc k + kept x) xs) (sym e) (clear_fit a (suc k + kept x) n.0 both.1 (omega arith)),
              subst (λ (v : LocalValue). SlotsFit (not (truth_in v)) c b (suc k + kept x + kept a) xs) (sym e) (tree_fit b (suc k + kept x + kept a) fb n.1 both.2 (omega arith)),
            ),
          ),
        ))
    tree_fit (Let t a b) k f m o w =
        let both = forms_two xs a b k o in
        (tree_fit a k f.0 m.0 both.0 (omega arith), (tree_fit b (k + kept a) f.1.0 m.1 both.1 (omega arith), tt))

    trees_fit : (ts : Terms) (k : ℕ) → FitTrees c ts (trees_at ts k xs) → AllMarked ts k xs → FormsAt k (all_kept_types ts) xs → k + kept_all ts ≤ length xs → AllSlotsFit true c ts k xs
    trees_fit NoMore k f m o w = tt
    trees_fit (More t ts) k f m o w =
        (tree_fit t k f.0 m.0 (forms_first xs (kept_types t) (all_kept_types ts) k o) (omega arith), trees_fit ts (k + kept t) f.1 m.1 (forms_rest xs (kept_types t) (all_kept_types ts) k (k + kept t) (after_of xs t k) o) (omega arith))

-- the slots of an export
pub fit_export : (U : Unfolding) (x : FlatExport) → Fits U.declared.ceiling (inner (term_type U.main)) x.value → SlotsFit true U.declared.ceiling U.main 0 x.slots → length x.slots ≡ kept U.main → IsExport U x
fit_export U x v h l =
    let f = fit_tree U.declared.ceiling x.slots U.main 0 h in
    let k = kept_long U.main in
    record {
      typed = record { value = v; tree = f.0 };
      shaped = forms_have (kept_types U.main) x.slots (omega (arith, l, k)) (fit_forms U.declared.ceiling x.slots true U.main 0 h);
      marked = f.1;
    }

pub export_fit : (U : Unfolding) (x : FlatExport) → IsExport U x → Fits U.declared.ceiling (inner (term_type U.main)) x.value × SlotsFit true U.declared.ceiling U.main 0 x.slots × (length x.slots ≡ kept U.main)
export_fit U x h =
    let l = have_long (kept_types U.main) x.slots h.shaped in
    let k = kept_long U.main in
    let t = h.typed in
    (t.value, tree_fit U.declared.ceiling x.slots U.main 0 t.tree h.marked (have_forms_at (kept_types U.main) x.slots h.shaped) (omega (arith, l, k)), omega (arith, l, k))
