-- Crates above cite this module: a text that is cut after its first line.
use Rattle.std.proofs.Common.{ℕ, ◌≡◌, ◌+◌, ◌≤◌, ◌<◌, Bool, false, ◌==◌, List, ◌∷◌, length, take, drop, sym, ap, ◌∙◌, arith, length-drop}
use Rattle.std.proofs.lemmas.Bool.Decides.{nat_tests}
use Rattle.fc_io.specs.Lines.{lines_of, line_size, line_text}
use Rattle.fc_io.proofs.FirstLine.{lines-first}

pub record IsCut (rest front back line : List ℕ) : Type 0 where
  pub first : lines_of rest ≡ front ∷ lines_of back
  pub is : line ≡ line_text front
  pub less : length back < length rest

positive : (n : ℕ) → (n == 0) ≡ false → 0 < n
positive n h = grind (arith, nat_tests)

pub cut_at : (rest front back line : List ℕ) (n : ℕ) (t : Bool) → t ≡ (length rest == 0) → t ≡ false → n ≡ line_size rest → (0 < length rest → 0 < n) → front ≡ take n rest → back ≡ drop n rest → line ≡ line_text front
    → IsCut rest front back line
cut_at rest front back line n t is more size some f b l =
    let there : 0 < length rest = positive (length rest) (sym is ∙ more) in
    let one : 0 < n = some there in
    record {
      first = lines-first rest there ∙ ap (λ k. take k rest ∷ lines_of (drop k rest)) (sym size) ∙ ap (λ x. x ∷ lines_of (drop n rest)) (sym f) ∙ ap (λ x. front ∷ lines_of x) (sym b);
      is = l;
      less = omega (arith, ap length b, length-drop n rest);
    }

-- so many lines were counted before the rest
pub record AreCounted (text : List ℕ) (count : ℕ) (rest : List ℕ) : Type 0 where
  pub counted : length (lines_of text) ≡ count + length (lines_of rest)
  pub short : count + length rest ≤ length text

pub one_counted : (text rest front back line : List ℕ) (count : ℕ) → AreCounted text count rest → IsCut rest front back line → AreCounted text (count + 1) back
one_counted text rest front back line count r c =
    record { counted = r.counted ∙ ap (λ ls. count + length ls) c.first ∙ omega arith; short = omega (arith, r.short, c.less) }
