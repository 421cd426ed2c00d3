-- Crates above cite this module: a text in which no line has a fault, and what its lines say.
use Rattle.std.proofs.Common.{ℕ, ◌≡◌, ◌+◌, Bool, true, false, List, [], ◌∷◌, refl, subst, if◌then◌else◌}
use Rattle.fc_io.specs.Lines.{is_empty, line_text}
use Rattle.edit_commands.specs.LineByLine.{Judgement, Accepted, Refused, Lines, AllLines, StopsAt, onto, and_lines, lines_from, AreSaid}
use Rattle.edit_commands.proofs.ReadLines.{AllFit}

-- a thing that a line says, and that fits
pub record Said {A B : Type 0} (Says : A → B → Type 0) (Fits : B → Type 0) (l : A) : Type 0 where
  pub thing : B
  pub says : Says l thing
  pub fits : Fits thing

pub record AllSaid {A B : Type 0} (Says : A → B → Type 0) (Fits : B → Type 0) (ls : List (ℕ × A)) : Type 0 where
  pub things : List (ℕ × B)
  pub said : AreSaid Says ls things
  pub fits : AllFit Fits things

-- where each line that is accepted says one
module _ {S R A B : Type 0} (judge : S → List ℕ → Judgement R A) (next : S → A → S) (Says : A → B → Type 0) (Fits : B → Type 0)
    (each : (s : S) (text : List ℕ) (l : A) → judge s text ≡ Accepted l → Said Says Fits l) where
  same_lines : (r : Lines R A) (ms ls : List (ℕ × A)) → r ≡ AllLines ms → r ≡ AllLines ls → ms ≡ ls
  same_lines r ms ls e f = cc

  one_line : (s : S) (text : List ℕ) (k : ℕ) (rest : A → Lines R A) → ((l : A) (ms : List (ℕ × A)) → rest l ≡ AllLines ms → AllSaid Says Fits ms)
      → (j : Judgement R A) → judge s text ≡ j → (ls : List (ℕ × A)) → and_lines k j rest ≡ AllLines ls → AllSaid Says Fits ls
  one_line s text k rest ih (Refused r) is ls e = absurd cc
  one_line s text k rest ih (Accepted l) is ls e = by_rest (rest l) refl e
    where
      by_rest : (r : Lines R A) → rest l ≡ r → onto (k, l) r ≡ AllLines ls → AllSaid Says Fits ls
      by_rest (StopsAt m f) h g = absurd cc
      by_rest (AllLines ms) h g =
          let x = each s text l is in
          let xs = ih l ms h in
          subst (AllSaid Says Fits) (same_lines (AllLines ((k, l) ∷ ms)) ((k, l) ∷ ms) ls refl g)
          (record { things = (k, x.thing) ∷ xs.things; said = (refl, x.says, xs.said); fits = (x.fits, xs.fits) })

  pub lines_said : (s : S) (k : ℕ) (lines : List (List ℕ)) (ls : List (ℕ × A)) → lines_from judge next s k lines ≡ AllLines ls → AllSaid Says Fits ls
  lines_said s k [] ls e = subst (AllSaid Says Fits) (same_lines (AllLines []) [] ls refl e) (record { things = []; said = tt; fits = tt })
  lines_said s k (line ∷ lines) ls e = by_test (is_empty line) (lines_said s (k + 1) lines) (λ l. lines_said (next s l) (k + 1) lines) e
    where
      by_test : (b : Bool) → ((ms : List (ℕ × A)) → lines_from judge next s (k + 1) lines ≡ AllLines ms → AllSaid Says Fits ms)
          → ((l : A) (ms : List (ℕ × A)) → lines_from judge next (next s l) (k + 1) lines ≡ AllLines ms → AllSaid Says Fits ms)
          → (if b then lines_from judge next s (k + 1) lines else and_lines k (judge s (line_text line)) (λ l. lines_from judge next (next s l) (k + 1) lines)) ≡ AllLines ls → AllSaid Says Fits ls
      by_test true ih ihs g = ih ls g
      by_test false ih ihs g = one_line s (line_text line) k (λ l. lines_from judge next (next s l) (k + 1) lines) ihs (judge s (line_text line)) refl ls g
