-- Crates above cite this module: the first line of a text, and its size.
use Rattle.std.proofs.Common.{ℕ, zero, suc, ◌≡◌, ◌+◌, ◌<◌, Bool, true, false, cond, List, [], ◌∷◌, length, take, drop, refl, ap, ◌∙◌, sym, arith, add-one, nat_eq}
use Rattle.std.specs.Prelude.{◌==◌}
use Rattle.std.specs.List.{onto_first}
use Rattle.std.proofs.lemmas.Bool.{false_from_ne_true}
use Rattle.memchr.specs.Find.{Nowhere, Passes, is_byte}
use Rattle.fc_io.specs.Lines.{lines_of, line_size}

-- the place of a line feed is the first
pub size_at : (text : List ℕ) (k : ℕ) → k < length text → Passes (is_byte 10) text k
    → Nowhere (Passes (is_byte 10) text) 0 k → line_size text ≡ k + 1
size_at [] k within is none = absurd (omega (arith, within))
size_at (b ∷ bs) zero within is none = ap (λ t. cond t 1 (line_size bs + 1)) is
size_at (b ∷ bs) (suc k) within is none =
    ap (λ t. cond t 1 (line_size bs + 1)) (false_from_ne_true (nat_eq b 10) (none 0 (omega arith) (omega arith)))
    ∙ ap (λ n. n + 1) (size_at bs k (omega (arith, within)) is (λ i low high. none (suc i) (omega arith) (omega (arith, high))) ∙ add-one k)

-- without a line feed a text is one line
pub size_all : (text : List ℕ) → Nowhere (Passes (is_byte 10) text) 0 (length text) → line_size text ≡ length text
size_all [] none = refl
size_all (b ∷ bs) none =
    ap (λ t. cond t 1 (line_size bs + 1)) (false_from_ne_true (nat_eq b 10) (none 0 (omega arith) (omega arith)))
    ∙ ap (λ n. n + 1) (size_all bs (λ i low high. none (suc i) (omega arith) (omega (arith, high))))
    ∙ add-one (length bs)

-- the first line, and the lines after it
cut_first_line : (b : ℕ) (bs : List ℕ) → lines_of (b ∷ bs) ≡ take (line_size (b ∷ bs)) (b ∷ bs) ∷ lines_of (drop (line_size (b ∷ bs)) (b ∷ bs))
cut_first_line b [] =
    let P : Bool → Type 0 = λ t. cond t ((b ∷ []) ∷ []) ((b ∷ []) ∷ []) ≡ take (cond t 1 1) (b ∷ []) ∷ lines_of (drop (cond t 1 1) (b ∷ [])) in
    elim (b == 10) as P [ true ↦ refl | false ↦ refl ]
cut_first_line b (c ∷ cs) =
    let n : ℕ = line_size (c ∷ cs) in
    let P : Bool → Type 0 = λ t. cond t ((b ∷ []) ∷ lines_of (c ∷ cs)) (onto_first b (lines_of (c ∷ cs)))
    ≡ take (cond t 1 (n + 1)) (b ∷ c ∷ cs) ∷ lines_of (drop (cond t 1 (n + 1)) (b ∷ c ∷ cs)) in
    elim (b == 10) as P [
      | true ↦ refl
      | false ↦ ap (onto_first b) (cut_first_line c cs) ∙ ap (λ k. take k (b ∷ c ∷ cs) ∷ lines_of (drop k (b ∷ c ∷ cs))) (sym (add-one n))
    ]

-- the first line of a text that has one, and the lines after it
pub lines-first : (text : List ℕ) → 0 < length text → lines_of text ≡ take (line_size text) text ∷ lines_of (drop (line_size text) text)
lines-first [] some = absurd (omega arith)
lines-first (b ∷ bs) some = cut_first_line b bs
