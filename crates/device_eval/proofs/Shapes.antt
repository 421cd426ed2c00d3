-- The slots of a finished walk have the forms of what their places keep.
use Rattle.std.proofs.Common.{◌≡◌, ℕ, zero, suc, ◌≤◌, ◌+◌, List, [], ◌∷◌, length, refl, ◌∙◌, ap, arith, true, false, Some}
use Rattle.fc_values.specs.Types.{LocalType, BoolType}
use Rattle.fc_values.specs.Values.{LocalValue, IntValue, BoolValue, PairValue, form_of}
use Rattle.fc_values.specs.BuiltinTypes.{inner}
use Rattle.fc_values.specs.Trees.{Tree, Keep, Done, Then}
use Rattle.fc_values.specs.Exports.{SlotValue, slot_at}
use Rattle.fc_nodes.specs.Terms.{Term, Terms, Plain, Apply, Nbr, Evolve, If, Let, NoMore, More, kept, kept_types, all_kept_types}
use Rattle.fc_nodes.specs.Flat.{FitsTree, FitTrees, KeepsTruth, by_truth, IfTruth, tree_at, trees_at, Clear, Marked, AllMarked, HaveForms}
use Rattle.fc_nodes.proofs.Kept.{kept_long}
use Rattle.value_trees.proofs.Forms.{FormsAt, fits_form, forms_first, forms_rest, forms_both, after_of, forms_two, two_forms, forms_three, three_forms, have_long, have_forms_at, forms_have}

-- which branch a kept truth value names
if_case : (v : LocalValue) (C A B : Tree → Type 0) (tc ta tb : Tree) (P Q R : Type 0) → KeepsTruth C A B (Keep (Some v) (Then tc (Then (by_truth v ta tb) Done))) → IfTruth v P Q
    → (form_of v ≡ BoolType → C tc → A ta → P → R) → (form_of v ≡ BoolType → C tc → B tb → Q → R) → R
if_case (IntValue n) C A B tc ta tb P Q R h m f g = absurd h
if_case (PairValue x y) C A B tc ta tb P Q R h m f g = absurd h
if_case (BoolValue true) C A B tc ta tb P Q R h m f g = f refl h.0 h.1.0 m
if_case (BoolValue false) C A B tc ta tb P Q R h m f g = g refl h.0 h.1.0 m

-- slots that aren't kept have the values that they had before
module _ (ceiling : ℕ) (xs ys : List SlotValue) (still : (j : ℕ) → (slot_at j ys).0 ≡ false → (slot_at j ys).1 ≡ (slot_at j xs).1) where
  clear_forms : (ts : List LocalType) (k n : ℕ) → length ts ≤ n → Clear k n ys → FormsAt k ts xs → FormsAt k ts ys
  clear_forms [] k n l c h = tt
  clear_forms (t ∷ ts) k zero l c h = absurd (omega arith)
  clear_forms (t ∷ ts) k (suc n) l c h = (
    ap form_of (still k (c.clear k (omega arith) (omega arith))) ∙ h.0,
    clear_forms ts (suc k) n (omega arith) (record { clear = λ j a b. c.clear j (omega arith) (omega arith) }) h.1,
  )

  clear_term : (t : Term) (k : ℕ) → Clear k (kept t) ys → FormsAt k (kept_types t) xs → FormsAt k (kept_types t) ys
  clear_term t k c h = let e = kept_long t in clear_forms (kept_types t) k (kept t) (omega arith) c h

  mutual
    pub term_forms : (t : Term) (k : ℕ) → FitsTree ceiling t (tree_at t k ys) → Marked t k ys → FormsAt k (kept_types t) xs → FormsAt k (kept_types t) ys
    term_forms (Plain t l) k f m h = tt
    term_forms (Apply t o ts) k f m h = terms_forms ts k f m h
    term_forms (Nbr t a) k f m h = (fits_form ceiling (inner t) (slot_at k ys).1 f.0, term_forms a (suc k) f.1.0 m.1 h.1)
    term_forms (Evolve t e a b) k f m h =
        let both = forms_two xs a b (suc k) h.1 in (
          fits_form ceiling (inner t) (slot_at k ys).1 f.0,
          two_forms ys a b (suc k) (term_forms a (suc k) f.1.0 m.1 both.0) (term_forms b (suc k + kept a) f.1.1.0 m.2 both.1),
        )
    term_forms (If t c a b) k f m h =
        let both = forms_three xs c a b (suc k) h.1 in
        if_case (slot_at k ys).1 (FitsTree ceiling c) (FitsTree ceiling a) (FitsTree ceiling b) (tree_at c (suc k) ys) (tree_at a (suc k + kept c) ys) (tree_at b (suc k + kept c + kept a) ys)
        (Marked a (suc k + kept c) ys × Clear (suc k + kept c + kept a) (kept b) ys) (Clear (suc k + kept c) (kept a) ys × Marked b (suc k + kept c + kept a) ys) (FormsAt k (kept_types (If t c a b)) ys) f m.2
        (λ v fc fa n. (v, three_forms ys c a b (suc k) (term_forms c (suc k) fc m.1 both.0) (term_forms a (suc k + kept c) fa n.0 both.1) (clear_term b (suc k + kept c + kept a) n.1 both.2)))
        (λ v fc fb n. (v, three_forms ys c a b (suc k) (term_forms c (suc k) fc m.1 both.0) (clear_term a (suc k + kept c) n.0 both.1) (term_forms b (suc k + kept c + kept a) fb n.1 both.2)))
    term_forms (Let t a b) k f m h =
        let both = forms_two xs a b k h in
        two_forms ys a b k (term_forms a k f.0 m.0 both.0) (term_forms b (k + kept a) f.1.0 m.1 both.1)

    pub terms_forms : (ts : Terms) (k : ℕ) → FitTrees ceiling ts (trees_at ts k ys) → AllMarked ts k ys → FormsAt k (all_kept_types ts) xs → FormsAt k (all_kept_types ts) ys
    terms_forms NoMore k f m h = tt
    terms_forms (More t ts) k f m h =
        let e = after_of xs t k in
        let rest = forms_rest xs (kept_types t) (all_kept_types ts) k (k + kept t) e h in
        forms_both ys (kept_types t) (all_kept_types ts) k (k + kept t) e (term_forms t k f.0 m.0 (forms_first xs (kept_types t) (all_kept_types ts) k h)) (terms_forms ts (k + kept t) f.1 m.1 rest)

-- at the root: a finished walk has a slot of the right form for each kept place
pub root_forms : (ceiling : ℕ) (t : Term) (xs ys : List SlotValue) → ((j : ℕ) → (slot_at j ys).0 ≡ false → (slot_at j ys).1 ≡ (slot_at j xs).1)
    → HaveForms (kept_types t) xs → length ys ≡ length xs → FitsTree ceiling t (tree_at t 0 ys) → Marked t 0 ys → HaveForms (kept_types t) ys
root_forms ceiling t xs ys still h e f m = forms_have (kept_types t) ys (e ∙ have_long (kept_types t) xs h) (term_forms ceiling xs ys still t 0 f m (have_forms_at (kept_types t) xs h))
