-- Crates above cite this module: what the words of a local value read.
use Rattle.std.proofs.Common.{◌≡◌, ℕ, ◌+◌, ◌-◌, ◌*◌, ◌<◌, ◌≤◌, List, [], ◌∷◌, ◌++◌, length, get_or}
use Rattle.std.proofs.Common.{refl, sym, subst, ◌∙◌, ap, arith}
use Rattle.std.proofs.Common.{true, false}
use Rattle.std.specs.Borrow.{Bor}
use Rattle.std.proofs.lemmas.List.{get_or-append-add, get_or_append_left, get_or-append_right, get_or-map}
use Rattle.std.proofs.lemmas.List.{append_assoc, append-nil, length-append}
use Rattle.fc_values.specs.declared.values.Local.{Local}
use Rattle.fc_values.specs.Types.{LocalType, leaves}
use Rattle.fc_values.specs.Values.{LocalValue, IntValue, BoolValue, PairValue, form_of, local_of}
use Rattle.value_columns.specs.Columns.{word_in, truth_of, row_in, local_in}
use Rattle.value_columns.specs.LocalWords.{local_at, words_of}
use Rattle.value_columns.proofs.Rows.{same_row, same_word}

-- a value has as many words as leaves
pub words_long : (v : LocalValue) → length (words_of v) ≡ leaves (form_of v)
words_long (IntValue n) = refl
words_long (BoolValue b) = refl
words_long (PairValue a b) = omega (arith, length-append (words_of a) (words_of b), words_long a, words_long b)

leaf_back : (n : ℕ) (xs ys zs : List ℕ) (at : ℕ) → zs ≡ xs ++ n ∷ ys → at ≡ length xs → word_in zs (at + 0) ≡ n
leaf_back n xs ys zs at e f =
    ap (word_in zs) (omega arith) ∙ (ap (λ ws. word_in ws (length xs + 0)) e ∙ get_or-append-add xs (n ∷ ys) 0 0)

-- the words of a value, wherever they stand, read as that value
pub reads_back : (v : LocalValue) (xs ys zs : List ℕ) (at : ℕ) → zs ≡ xs ++ (words_of v ++ ys) → at ≡ length xs
    → local_in zs (form_of v) at ≡ v
reads_back (IntValue n) xs ys zs at e f = ap IntValue (leaf_back n xs ys zs at e f)
reads_back (BoolValue true) xs ys zs at e f = ap (λ w. BoolValue (truth_of w)) (leaf_back 1 xs ys zs at e f)
reads_back (BoolValue false) xs ys zs at e f = ap (λ w. BoolValue (truth_of w)) (leaf_back 0 xs ys zs at e f)
reads_back (PairValue a b) xs ys zs at e f =
    let behind = words_of b ++ ys in
    let apart = e ∙ ap (λ ws. xs ++ ws) (append_assoc (words_of a) (words_of b) ys) in
    let first = reads_back a xs behind zs at apart f in
    let second = reads_back b (xs ++ words_of a) ys zs (at + 1 * leaves (form_of a))
    (apart ∙ sym (append_assoc xs (words_of a) behind)) (omega (arith, length-append xs (words_of a), words_long a)) in
    cc

-- the words of a value behind others
pub reads_behind : (v : LocalValue) (xs zs : List ℕ) → zs ≡ xs ++ words_of v → local_in zs (form_of v) (length xs) ≡ v
reads_behind v xs zs e =
    reads_back v xs [] zs (length xs) (e ∙ ap (λ ws. xs ++ ws) (sym (append-nil (words_of v)))) refl

-- the words of a pair, one component after the other
pub pair_behind : (v a b : LocalValue) (xs ys zs : List ℕ) → v ≡ PairValue a b → ys ≡ xs ++ words_of a
    → zs ≡ ys ++ words_of b → local_in zs (form_of v) (length xs) ≡ v
pair_behind v a b xs ys zs e f g =
    let both = g ∙ (ap (λ ws. ws ++ words_of b) f ∙ append_assoc xs (words_of a) (words_of b)) in
    rw e (reads_behind (PairValue a b) xs zs both)

-- a leaf of the first component of a pair, and one of the second
pub first_leaf : (v a b : LocalValue) (k : ℕ) → v ≡ PairValue a b → k < leaves (form_of a)
    → word_in (words_of a) k ≡ word_in (words_of v) k
first_leaf v a b k e h =
    rw e (sym (get_or_append_left (words_of a) (words_of b) 0 k (omega (arith, words_long a))))

pub second_leaf : (v a b : LocalValue) (k : ℕ) → v ≡ PairValue a b → leaves (form_of a) ≤ k
    → word_in (words_of b) (k - leaves (form_of a)) ≡ word_in (words_of v) k
second_leaf v a b k e h =
    rw e (sym (get_or-append_right (words_of a) (words_of b) (leaves (form_of a)) k 0 (words_long a) h))

-- a row whose leaves are the words of a value has that value
pub reads_row : (v : LocalValue) (t : LocalType) (ws : List ℕ) (rows at i : ℕ) → form_of v ≡ t
    → ((k : ℕ) → k < leaves t → word_in ws (at + rows * k + i) ≡ word_in (words_of v) k) → row_in ws t rows at i ≡ v
reads_row v t ws rows at i e =
    let P : LocalType → Type 0 = λ u. ((k : ℕ) → k < leaves u → word_in ws (at + rows * k + i) ≡ word_in (words_of v) k)
    → row_in ws u rows at i ≡ v in
    subst P e (λ h. same_row (form_of v) ws (words_of v) rows 1 at 0 i 0
    (λ k l. h k l ∙ same_word (words_of v) k (0 + 1 * k + 0) (omega arith))
    ∙ reads_back v [] [] (words_of v) 0 (sym (append-nil (words_of v))) refl)

-- the value behind one of some references, as it is read
pub local_read : (xs : List (Bor Local)) (i : ℕ) (d : Bor Local) → i < length xs
    → local_of (get_or xs i d).now ≡ local_at xs i
local_read xs i d h = sym (get_or-map (λ (r : Bor Local). local_of r.now) xs i d (IntValue 0) h)
