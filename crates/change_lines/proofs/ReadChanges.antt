-- Changes, read line by line.
use Rattle.std.proofs.Common.{ℕ, ◌≡◌, ◌+◌, ◌≤◌, Bool, true, false, ◌==◌, List, [], ◌∷◌, ◌++◌, length, refl, sym, ap, ◌∙◌, arith, append_assoc, append-nil, if◌then◌else◌}
use Rattle.std.specs.Prelude.{Option}
use Rattle.std.proofs.lemmas.Bool.Decides.{nat_tests}
use Rattle.fc_values.specs.Types.{Input}
use Rattle.fc_io.specs.Lines.{lines_of}
use Rattle.edit_commands.specs.Lines.{words_of}
use Rattle.edit_commands.proofs.CutLines.{IsCut}
use Rattle.changes.specs.Changes.{ChangeValue}
use Rattle.change_lines.specs.Changes.{change_of, changes_from, changes_in}

-- the lines that were read, and the rest of the text, beside the number of the lines before it
pub record IsReadTo (is : List Input) (text : List ℕ) (number : ℕ) (rest : List ℕ) (lines : List (ℕ × Option ChangeValue)) : Type 0 where
  pub so_far : lines ++ changes_from is (number + 1) (lines_of rest) ≡ changes_in is text
  pub short : number + length rest ≤ length text

pub read_none : (is : List Input) (text : List ℕ) (lines : List (ℕ × Option ChangeValue)) → lines ≡ [] → IsReadTo is text 0 text lines
read_none is text lines none = record { so_far = ap (λ ls. ls ++ changes_in is text) none; short = omega arith }

no_length : (rest : List ℕ) → (length rest == 0) ≡ true → rest ≡ []
no_length [] h = refl
no_length (b ∷ bs) h = grind (arith, nat_tests)

pub read_whole : (is : List Input) (text : List ℕ) (number : ℕ) (rest : List ℕ) (lines : List (ℕ × Option ChangeValue)) (t : Bool) → IsReadTo is text number rest lines → t ≡ (length rest == 0) → t ≡ true
    → lines ≡ changes_in is text
read_whole is text number rest lines t r at end =
    let none : rest ≡ [] = no_length rest (sym at ∙ end) in
    sym (append-nil lines) ∙ ap (λ x. lines ++ changes_from is (number + 1) (lines_of x)) (sym none) ∙ r.so_far

module _ (is : List Input) (text : List ℕ) (number : ℕ) (rest front back line : List ℕ) (lines : List (ℕ × Option ChangeValue)) (r : IsReadTo is text number rest lines) (c : IsCut rest front back line)
    (t : Bool) (at : t ≡ (length line == 0)) where
  -- the lines from the cut on

  cut_lines : changes_from is (number + 1) (lines_of rest)
      ≡ (if t then changes_from is (number + 1 + 1) (lines_of back) else (number + 1, change_of is (words_of line)) ∷ changes_from is (number + 1 + 1) (lines_of back))
  cut_lines =
      ap (changes_from is (number + 1)) c.first
      ∙ ap (λ x. if length x == 0 then changes_from is (number + 1 + 1) (lines_of back) else (number + 1, change_of is (words_of x)) ∷ changes_from is (number + 1 + 1) (lines_of back)) (sym c.is)
      ∙ ap (λ b. if b then changes_from is (number + 1 + 1) (lines_of back) else (number + 1, change_of is (words_of line)) ∷ changes_from is (number + 1 + 1) (lines_of back)) (sym at)

  -- an empty line is skipped and counted
  pub skipped : t ≡ true → IsReadTo is text (number + 1) back lines
  skipped empty = record {
    so_far = ap (λ ls. lines ++ ls)
        (sym (cut_lines ∙ ap (λ b. if b then changes_from is (number + 1 + 1) (lines_of back) else (number + 1, change_of is (words_of line)) ∷ changes_from is (number + 1 + 1) (lines_of back)) empty))
        ∙ r.so_far;
    short = omega (arith, r.short, c.less);
  }

  -- a line is read
  pub read : (change : Option ChangeValue) (pushed : List (ℕ × Option ChangeValue)) → t ≡ false → change ≡ change_of is (words_of line) → pushed ≡ lines ++ (number + 1, change) ∷ []
      → IsReadTo is text (number + 1) back pushed
  read change pushed some said grown = record {
    so_far = ap (λ ls. ls ++ changes_from is (number + 1 + 1) (lines_of back)) grown
        ∙ append_assoc lines ((number + 1, change) ∷ []) (changes_from is (number + 1 + 1) (lines_of back))
        ∙ ap (λ x. lines ++ (number + 1, x) ∷ changes_from is (number + 1 + 1) (lines_of back)) said
        ∙ ap (λ ls. lines ++ ls)
        (sym (cut_lines ∙ ap (λ b. if b then changes_from is (number + 1 + 1) (lines_of back) else (number + 1, change_of is (words_of line)) ∷ changes_from is (number + 1 + 1) (lines_of back)) some))
        ∙ r.so_far;
    short = omega (arith, r.short, c.less);
  }
