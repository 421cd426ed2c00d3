-- Crates above cite this module: the rows other than the firing device's, and what hoods make of them.
use Rattle.std.proofs.Common.{◌≡◌, ℕ, zero, suc, ◌+◌, ◌-◌, ◌*◌, ◌<◌, ◌≤◌, List, [], ◌∷◌, ◌++◌, length, get_or}
use Rattle.std.proofs.Common.{take, drop, refl, sym, ◌∙◌, ap, arith, min, Bool, false, ◌||◌, ◌&&◌, true, nat_eq}
use Rattle.std.proofs.Common.{Some, option_map}
use Rattle.std.specs.Prelude.{sum, slice_range}
use Rattle.std.specs.List.{list_any, list_all}
use Rattle.std.proofs.lemmas.Bool.{eq-eqb, ne_eqb}
use Rattle.std.proofs.lemmas.List.{drop_more, append-nil}
use Rattle.std.proofs.lemmas.List.Sums.{sum_by-cons}
use Rattle.fc_values.specs.Types.{LocalType, IntType, BoolType, leaves}
use Rattle.fc_values.specs.Values.{LocalValue, IntValue, BoolValue, lesser, greater}
use Rattle.fc_values.specs.Fields.{Rises}
use Rattle.fc_values.specs.Builtins.{others, add_integer, sum_of, join_truths, any_of, all_of, least_of, greatest_of}
use Rattle.fc_values.proofs.Rising.{later_above, rises_tail}
use Rattle.value_columns.specs.declared.order.Row.{Row}
use Rattle.value_columns.specs.Columns.{word_in, truth_of, row_in, local_in, entries_in}
use Rattle.value_columns.specs.LoneRows.{value_in}
use Rattle.value_columns.specs.OtherRows.{rows_in, other_rows}
use Rattle.value_columns.proofs.Rows.{same_row, same_word}

-- ---- the entries of a field

none_own : (device : ℕ) (ws : List ℕ) (t : LocalType) (rows at i : ℕ) (ds : List ℕ)
    → ((k : ℕ) → k < length ds → device < get_or ds k 0)
    → others device (entries_in ws t rows at i ds) ≡ rows_in ws t rows at i (length ds)
none_own device ws t rows at i [] h = refl
none_own device ws t rows at i (d ∷ ds) h =
    let above : device < d = h 0 (omega arith) in
    let test : nat_eq d device ≡ false = ne_eqb d device (λ e. omega arith) in
    let rest = none_own device ws t rows at (i + 1) ds (λ k l. h (suc k) (omega arith)) in
    rw test (ap (λ vs. row_in ws t rows at i ∷ vs) rest)

-- the values of a field at the devices other than the firing one stand in the rows other than its own
pub others_from : (device : ℕ) (ws : List ℕ) (t : LocalType) (rows at i own : ℕ) (ds : List ℕ) → Rises ds
    → own < length ds → device ≡ get_or ds own 0 → others device (entries_in ws t rows at i ds)
    ≡ rows_in ws t rows at i own ++ rows_in ws t rows at (i + (own + 1)) (length ds - (own + 1))
others_from device ws t rows at i own [] r h e = absurd (omega arith)
others_from device ws t rows at i zero (d ∷ ds) r h e =
    let test : nat_eq d device ≡ true = eq-eqb d device (sym e) in
    let rest = none_own device ws t rows at (i + 1) ds (rw e (later_above d ds r)) in
    rw test (rest ∙ ap (rows_in ws t rows at (i + 1)) (omega arith))
others_from device ws t rows at i (suc own) (d ∷ ds) r h e =
    let above = later_above d ds r own (omega arith) in
    let test : nat_eq d device ≡ false = ne_eqb d device (λ f. omega arith) in
    let rest = others_from device ws t rows at (i + 1) own ds (rises_tail d ds r) (omega arith) e in
    let place : rows_in ws t rows at (i + 1 + (own + 1)) (length ds - (own + 1))
    ≡ rows_in ws t rows at (i + (suc own + 1)) (length ds - (own + 1)) =
    ap (λ p. rows_in ws t rows at p (length ds - (own + 1))) (omega arith) in
    let many : rows_in ws t rows at (i + (suc own + 1)) (length ds - (own + 1))
    ≡ rows_in ws t rows at (i + (suc own + 1)) (suc (length ds) - (suc own + 1)) =
    ap (rows_in ws t rows at (i + (suc own + 1))) (omega arith) in
    rw test (ap (λ vs. row_in ws t rows at i ∷ vs) (rest
    ∙ ap (λ vs. rows_in ws t rows at (i + 1) own ++ vs) (place ∙ many)))

pub others_are : (device : ℕ) (ws : List ℕ) (t : LocalType) (at own : ℕ) (ds : List ℕ) → Rises ds
    → own < length ds → device ≡ get_or ds own 0
    → others device (entries_in ws t (length ds) at 0 ds) ≡ other_rows ws t (length ds) at own
others_are device ws t at own ds r h e =
    others_from device ws t (length ds) at 0 own ds r h e
    ∙ ap (λ p. rows_in ws t (length ds) at 0 own ++ rows_in ws t (length ds) at p (length ds - (own + 1))) (omega arith)

-- ---- sums and truth values

pub or_false : (b : Bool) → (b || false) ≡ b
or_false true = refl
or_false false = refl

pub or_true : (b : Bool) → (b || true) ≡ true
or_true true = refl
or_true false = refl

pub and_true : (b : Bool) → (b && true) ≡ b
and_true true = refl
and_true false = refl

pub and_false : (b : Bool) → (b && false) ≡ false
and_false true = refl
and_false false = refl

-- a truth value, and one that decides or the end
pub ruleset truths_end = (or_false, or_true, and_true, and_false)

pub sum_rows : (ws : List ℕ) (rows at i many : ℕ) (vs : List LocalValue) (rest : ℕ) → sum_of vs ≡ Some rest
    → at + i + many ≤ length ws
    → sum_of (rows_in ws IntType rows at i many ++ vs) ≡ Some (sum (take many (drop (at + i) ws)) + rest)
sum_rows ws rows at i zero vs rest e h = e ∙ ap Some (omega arith)
sum_rows ws rows at i (suc many) vs rest e h =
    let w = word_in ws (at + i) in
    let later = sum_rows ws rows at (i + 1) many vs rest e (omega arith) in
    let place : drop (at + (i + 1)) ws ≡ drop (at + i + 1) ws = ap (λ p. drop p ws) (omega arith) in
    let here : drop (at + i) ws ≡ w ∷ drop (at + i + 1) ws = drop_more ws (at + i) 0 (omega arith) in
    let rhs : sum (take (suc many) (drop (at + i) ws)) ≡ w + sum (take many (drop (at + (i + 1)) ws)) =
    ap (λ xs. sum (take (suc many) xs)) here ∙ (sum_by-cons (λ n. n) w (take many (drop (at + i + 1) ws))
    ∙ ap (λ xs. w + sum (take many xs)) (sym place)) in
    ap (add_integer (IntValue w)) later ∙ ap Some (omega (arith, rhs))

pub any_rows : (ws : List ℕ) (rows at i many : ℕ) (vs : List LocalValue) (rest : Bool) → any_of vs ≡ Some rest
    → at + i + many ≤ length ws
    → any_of (rows_in ws BoolType rows at i many ++ vs)
    ≡ Some (list_any truth_of (take many (drop (at + i) ws)) || rest)
any_rows ws rows at i zero vs rest e h = e
any_rows ws rows at i (suc many) vs rest e h =
    let w = word_in ws (at + i) in
    let later = any_rows ws rows at (i + 1) many vs rest e (omega arith) in
    let place : drop (at + (i + 1)) ws ≡ drop (at + i + 1) ws = ap (λ p. drop p ws) (omega arith) in
    let here : drop (at + i) ws ≡ w ∷ drop (at + i + 1) ws = drop_more ws (at + i) 0 (omega arith) in
    ap (join_truths (λ a b. a || b) (BoolValue (truth_of w))) later
    ∙ ap Some (grouped (truth_of w) (list_any truth_of (take many (drop (at + (i + 1)) ws))) rest
    ∙ ap (λ b. b || rest) (ap (λ xs. truth_of w || list_any truth_of (take many xs)) place
    ∙ sym (ap (λ xs. list_any truth_of (take (suc many) xs)) here)))
  where
    grouped : (a b c : Bool) → (a || (b || c)) ≡ ((a || b) || c)
    grouped true b c = refl
    grouped false b c = refl

pub all_rows : (ws : List ℕ) (rows at i many : ℕ) (vs : List LocalValue) (rest : Bool) → all_of vs ≡ Some rest
    → at + i + many ≤ length ws
    → all_of (rows_in ws BoolType rows at i many ++ vs)
    ≡ Some (list_all truth_of (take many (drop (at + i) ws)) && rest)
all_rows ws rows at i zero vs rest e h = e
all_rows ws rows at i (suc many) vs rest e h =
    let w = word_in ws (at + i) in
    let later = all_rows ws rows at (i + 1) many vs rest e (omega arith) in
    let place : drop (at + (i + 1)) ws ≡ drop (at + i + 1) ws = ap (λ p. drop p ws) (omega arith) in
    let here : drop (at + i) ws ≡ w ∷ drop (at + i + 1) ws = drop_more ws (at + i) 0 (omega arith) in
    ap (join_truths (λ a b. a && b) (BoolValue (truth_of w))) later
    ∙ ap Some (grouped (truth_of w) (list_all truth_of (take many (drop (at + (i + 1)) ws))) rest
    ∙ ap (λ b. b && rest) (ap (λ xs. truth_of w && list_all truth_of (take many xs)) place
    ∙ sym (ap (λ xs. list_all truth_of (take (suc many) xs)) here)))
  where
    grouped : (a b c : Bool) → (a && (b && c)) ≡ ((a && b) && c)
    grouped true b c = refl
    grouped false b c = refl

-- the words of a column before a row, and those behind it
abbrev pub before_own : List ℕ → ℕ → ℕ → List ℕ
before_own ws at own = take own (drop at ws)

abbrev pub behind_own : List ℕ → ℕ → ℕ → ℕ → List ℕ
behind_own ws rows at own = take (rows - (own + 1)) (drop (at + (own + 1)) ws)

pub sum_others : (ws : List ℕ) (rows at own : ℕ) → own < rows → at + rows ≤ length ws
    → sum_of (other_rows ws IntType rows at own) ≡ Some (sum (before_own ws at own) + sum (behind_own ws rows at own))
sum_others ws rows at own h l =
    let nothing : sum_of [] ≡ Some 0 = refl in
    let behind = sum_rows ws rows at (own + 1) (rows - (own + 1)) [] 0 nothing (omega arith) in
    let vs = rows_in ws IntType rows at (own + 1) (rows - (own + 1)) in
    let alone : sum_of vs ≡ Some (sum (behind_own ws rows at own)) =
    ap sum_of (sym (append-nil vs)) ∙ (behind ∙ ap Some (omega arith)) in
    sum_rows ws rows at 0 own _ _ alone (omega arith)
    ∙ ap (λ p. Some (sum (take own (drop p ws)) + sum (behind_own ws rows at own))) (omega arith)

pub any_others : (ws : List ℕ) (rows at own : ℕ) → own < rows → at + rows ≤ length ws
    → any_of (other_rows ws BoolType rows at own)
    ≡ Some (list_any truth_of (before_own ws at own) || list_any truth_of (behind_own ws rows at own))
any_others ws rows at own h l =
    let nothing : any_of [] ≡ Some false = refl in
    let behind = any_rows ws rows at (own + 1) (rows - (own + 1)) [] false nothing (omega arith) in
    let vs = rows_in ws BoolType rows at (own + 1) (rows - (own + 1)) in
    let alone : any_of vs ≡ Some (list_any truth_of (behind_own ws rows at own)) =
    ap any_of (sym (append-nil vs)) ∙ (behind ∙ ap Some (or_false _)) in
    any_rows ws rows at 0 own _ _ alone (omega arith)
    ∙ ap (λ p. Some (list_any truth_of (take own (drop p ws)) || list_any truth_of (behind_own ws rows at own)))
    (omega arith)

pub all_others : (ws : List ℕ) (rows at own : ℕ) → own < rows → at + rows ≤ length ws
    → all_of (other_rows ws BoolType rows at own)
    ≡ Some (list_all truth_of (before_own ws at own) && list_all truth_of (behind_own ws rows at own))
all_others ws rows at own h l =
    let nothing : all_of [] ≡ Some true = refl in
    let behind = all_rows ws rows at (own + 1) (rows - (own + 1)) [] true nothing (omega arith) in
    let vs = rows_in ws BoolType rows at (own + 1) (rows - (own + 1)) in
    let alone : all_of vs ≡ Some (list_all truth_of (behind_own ws rows at own)) =
    ap all_of (sym (append-nil vs)) ∙ (behind ∙ ap Some (and_true _)) in
    all_rows ws rows at 0 own _ _ alone (omega arith)
    ∙ ap (λ p. Some (list_all truth_of (take own (drop p ws)) && list_all truth_of (behind_own ws rows at own)))
    (omega arith)

-- the parts of a column before a row and behind it, as they are cut out
before_cut : (ws : List ℕ) (at own : ℕ) → slice_range ws at (at + own) ≡ before_own ws at own
before_cut ws at own = ap (λ n. take n (drop at ws)) (omega arith)

behind_cut : (ws : List ℕ) (rows at own : ℕ) → slice_range ws (at + (own + 1)) (at + rows) ≡ behind_own ws rows at own
behind_cut ws rows at own = ap (λ n. take n (drop (at + (own + 1)) ws)) (omega arith)

-- a hood that was taken in two steps, and whose value was put in the place of the field
pub sum_folded : (ws xs ys vs : List ℕ) (rows at own ceiling first total : ℕ) → xs ≡ ws → ys ≡ ws → own < rows
    → at + rows ≤ length ws → first ≡ min ceiling (0 + sum (slice_range xs at (at + own)))
    → total ≡ min ceiling (first + sum (slice_range ys (at + (own + 1)) (at + rows))) → word_in vs at ≡ total
    → option_map (λ n. IntValue (min ceiling n)) (sum_of (other_rows ws IntType rows at own))
    ≡ Some (IntValue (word_in vs (at + 0)))
sum_folded ws xs ys vs rows at own ceiling first total e f h l start end last =
    let a = sum (before_own ws at own) in
    let b = sum (behind_own ws rows at own) in
    let before : sum (slice_range xs at (at + own)) ≡ a =
    ap sum (ap (λ zs. slice_range zs at (at + own)) e ∙ before_cut ws at own) in
    let behind : sum (slice_range ys (at + (own + 1)) (at + rows)) ≡ b =
    ap sum (ap (λ zs. slice_range zs (at + (own + 1)) (at + rows)) f ∙ behind_cut ws rows at own) in
    let place : word_in vs (at + 0) ≡ word_in vs at = same_word vs (at + 0) at (omega arith) in
    let value : min ceiling (a + b) ≡ word_in vs (at + 0) = omega arith in
    ap (option_map (λ n. IntValue (min ceiling n))) (sum_others ws rows at own h l) ∙ ap (λ n. Some (IntValue n)) value

pub any_folded : (ws xs ys vs : List ℕ) (rows at own w : ℕ) (first any : Bool) → xs ≡ ws → ys ≡ ws → own < rows
    → at + rows ≤ length ws → first ≡ (false || list_any truth_of (slice_range xs at (at + own)))
    → any ≡ (first || list_any truth_of (slice_range ys (at + (own + 1)) (at + rows))) → truth_of w ≡ any
    → word_in vs at ≡ w → option_map BoolValue (any_of (other_rows ws BoolType rows at own))
    ≡ Some (BoolValue (truth_of (word_in vs (at + 0))))
any_folded ws xs ys vs rows at own w first any e f h l start end word last =
    let before : first ≡ list_any truth_of (before_own ws at own) =
    start ∙ ap (list_any truth_of) (ap (λ zs. slice_range zs at (at + own)) e ∙ before_cut ws at own) in
    let behind : any ≡ (first || list_any truth_of (behind_own ws rows at own)) =
    end ∙ ap (λ zs. first || list_any truth_of zs)
    (ap (λ zs. slice_range zs (at + (own + 1)) (at + rows)) f ∙ behind_cut ws rows at own) in
    let place : word_in vs (at + 0) ≡ w = same_word vs (at + 0) at (omega arith) ∙ last in
    let value : truth_of (word_in vs (at + 0))
    ≡ (list_any truth_of (before_own ws at own) || list_any truth_of (behind_own ws rows at own)) =
    ap truth_of place ∙ (word ∙ (behind ∙ ap (λ b. b || list_any truth_of (behind_own ws rows at own)) before)) in
    ap (option_map BoolValue) (any_others ws rows at own h l) ∙ ap (λ b. Some (BoolValue b)) (sym value)

pub all_folded : (ws xs ys vs : List ℕ) (rows at own w : ℕ) (first all : Bool) → xs ≡ ws → ys ≡ ws → own < rows
    → at + rows ≤ length ws → first ≡ (true && list_all truth_of (slice_range xs at (at + own)))
    → all ≡ (first && list_all truth_of (slice_range ys (at + (own + 1)) (at + rows))) → truth_of w ≡ all
    → word_in vs at ≡ w → option_map BoolValue (all_of (other_rows ws BoolType rows at own))
    ≡ Some (BoolValue (truth_of (word_in vs (at + 0))))
all_folded ws xs ys vs rows at own w first all e f h l start end word last =
    let before : first ≡ list_all truth_of (before_own ws at own) =
    start ∙ ap (list_all truth_of) (ap (λ zs. slice_range zs at (at + own)) e ∙ before_cut ws at own) in
    let behind : all ≡ (first && list_all truth_of (behind_own ws rows at own)) =
    end ∙ ap (λ zs. first && list_all truth_of zs)
    (ap (λ zs. slice_range zs (at + (own + 1)) (at + rows)) f ∙ behind_cut ws rows at own) in
    let place : word_in vs (at + 0) ≡ w = same_word vs (at + 0) at (omega arith) ∙ last in
    let value : truth_of (word_in vs (at + 0))
    ≡ (list_all truth_of (before_own ws at own) && list_all truth_of (behind_own ws rows at own)) =
    ap truth_of place ∙ (word ∙ (behind ∙ ap (λ b. b && list_all truth_of (behind_own ws rows at own)) before)) in
    ap (option_map BoolValue) (all_others ws rows at own h l) ∙ ap (λ b. Some (BoolValue b)) (sym value)

-- ---- the least and the greatest

-- one row, and those behind it
pub rows_step : (ws : List ℕ) (t : LocalType) (rows at i to : ℕ) → i < to
    → rows_in ws t rows at i (to - i) ≡ row_in ws t rows at i ∷ rows_in ws t rows at (i + 1) (to - (i + 1))
rows_step ws t rows at i to h = ap (rows_in ws t rows at i) (more (to - (i + 1)) (omega arith))
  where
    more : (n : ℕ) → n ≡ to - (i + 1) → to - i ≡ suc n
    more n e = omega arith

pub least_append : (best : LocalValue) (xs ys : List LocalValue)
    → least_of best (xs ++ ys) ≡ least_of (least_of best xs) ys
least_append best [] ys = refl
least_append best (x ∷ xs) ys = least_append (lesser best x) xs ys

pub greatest_append : (best : LocalValue) (xs ys : List LocalValue)
    → greatest_of best (xs ++ ys) ≡ greatest_of (greatest_of best xs) ys
greatest_append best [] ys = refl
greatest_append best (x ∷ xs) ys = greatest_append (greater best x) xs ys

-- a row by itself
pub lone_row : (ws : List ℕ) (t : LocalType) (rows at i : ℕ) → row_in ws t rows (at + i) 0 ≡ row_in ws t rows at i
lone_row ws t rows at i = same_row t ws ws rows rows (at + i) at 0 i
    (λ k h. same_word ws (at + i + rows * k + 0) (at + rows * k + i) (omega arith))

-- a fold of a local value behind a field and of the rows other than one, which was taken in two steps
pub folded : (F : LocalValue → List LocalValue → LocalValue)
    → ((v : LocalValue) (xs ys : List LocalValue) → F v (xs ++ ys) ≡ F (F v xs) ys)
    → (old new : List ℕ) (t : LocalType) (rows at own many : ℕ) (first best : Row) → many ≡ leaves t
    → value_in old t first ≡ F (local_in old t (at + rows * many)) (rows_in old t rows at 0 (own - 0))
    → value_in old t best ≡ F (value_in old t first) (rows_in old t rows at (own + 1) (rows - (own + 1)))
    → ((k : ℕ) → k < many → word_in new (at + k) ≡ word_in old (best.first + best.step * k))
    → local_in new t at ≡ F (local_in old t (at + rows * leaves t)) (other_rows old t rows at own)
folded F joins old new t rows at own many first best m e f copied =
    let read : local_in new t at ≡ value_in old t best = same_row t new old 1 best.step at best.first 0 0 (λ k h.
    same_word new (at + 1 * k + 0) (at + k) (omega arith) ∙ copied k (omega arith)
    ∙ same_word old (best.first + best.step * k) (best.first + best.step * k + 0) (omega arith)) in
    let local = local_in old t (at + rows * many) in
    let behind = rows_in old t rows at (own + 1) (rows - (own + 1)) in
    let whole : rows_in old t rows at 0 (own - 0) ≡ rows_in old t rows at 0 own =
    ap (rows_in old t rows at 0) (omega arith) in
    read ∙ (f ∙ (ap (λ v. F v behind) (e ∙ ap (F local) whole) ∙ (sym (joins local (rows_in old t rows at 0 own) behind)
    ∙ ap (λ n. F (local_in old t (at + rows * n)) (other_rows old t rows at own)) m)))
