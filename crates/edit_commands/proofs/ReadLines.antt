-- Crates above cite this module: a text, read line by line.
use Rattle.std.proofs.Common.{ℕ, ◌≡◌, ◌+◌, ◌≤◌, Bool, true, false, ◌==◌, List, [], ◌∷◌, ◌++◌, length, length-append, map, refl, sym, ap, subst, ◌∙◌, arith, append_assoc, append-nil, if◌then◌else◌}
use Rattle.std.proofs.lemmas.List.{map-append, length-map}
use Rattle.std.specs.Prelude.{zip}
use Rattle.std.proofs.lemmas.Bool.Decides.{nat_tests}
use Rattle.fc_io.specs.Lines.{lines_of}
use Rattle.edit_commands.specs.LineByLine.{Judgement, Accepted, Refused, WhereAccepted, Lines, AllLines, StopsAt, onto, and_lines, lines_from, Does, AreSaid, SaidBy}
use Rattle.edit_commands.proofs.CutLines.{IsCut}

-- lines that were read, and then those that are read of the rest
abbrev behind : {R A : Type 0} → List (ℕ × A) → Lines R A → Lines R A
behind ls (AllLines ms) = AllLines (ls ++ ms)
behind ls (StopsAt k r) = StopsAt k r

behind_none : {R A : Type 0} (r : Lines R A) → behind [] r ≡ r
behind_none (AllLines ms) = refl
behind_none (StopsAt k f) = refl

behind_more : {R A : Type 0} (ls : List (ℕ × A)) (x : ℕ × A) (r : Lines R A) → behind (ls ++ x ∷ []) r ≡ behind ls (onto x r)
behind_more ls x (AllLines ms) = ap AllLines (append_assoc ls (x ∷ []) ms)
behind_more ls x (StopsAt k f) = refl

abbrev pub AllFit : {B : Type 0} → (B → Type 0) → List (ℕ × B) → Type 0
AllFit Fits [] = Unit {0}
AllFit Fits (x ∷ xs) = Fits x.1 × AllFit Fits xs

said_push : {A B : Type 0} (Says : A → B → Type 0) (ls : List (ℕ × A)) (xs : List (ℕ × B)) (l : ℕ × A) (x : ℕ × B) → AreSaid Says ls xs → x.0 ≡ l.0 → Says l.1 x.1 → AreSaid Says (ls ++ l ∷ []) (xs ++ x ∷ [])
said_push Says [] [] l x h n i = (n, i, tt)
said_push Says [] (y ∷ xs) l x h n i = absurd h
said_push Says (m ∷ ls) [] l x h n i = absurd h
said_push Says (m ∷ ls) (y ∷ xs) l x h n i = (h.0, h.1, said_push Says ls xs l x h.2 n i)

fit_push : {B : Type 0} (Fits : B → Type 0) (xs : List (ℕ × B)) (x : ℕ × B) → AllFit Fits xs → Fits x.1 → AllFit Fits (xs ++ x ∷ [])
fit_push Fits [] x h f = (f, tt)
fit_push Fits (y ∷ xs) x h f = (h.0, fit_push Fits xs x h.1 f)

no_length : (rest : List ℕ) → (length rest == 0) ≡ true → rest ≡ []
no_length [] h = refl
no_length (b ∷ bs) h = grind (arith, nat_tests)

module _ {S R A B : Type 0} (judge : S → List ℕ → Judgement R A) (next : S → A → S) (Says : A → B → Type 0) (Fits : B → Type 0) (Keeps : S → Type 0) where
  -- what was read, and the rest of the text, beside the state and the number of the lines before it
  pub record IsReadTo (start : S) (text : List ℕ) (now : S) (number : ℕ) (rest : List ℕ) (xs : List (ℕ × B)) : Type 0 where
    pub lines : List (ℕ × A)
    pub so_far : behind lines (lines_from judge next now (number + 1) (lines_of rest)) ≡ lines_from judge next start 1 (lines_of text)
    pub says : AreSaid Says lines xs
    pub fits : AllFit Fits xs
    pub keeps : Keeps now
    pub short : number + length rest ≤ length text

  pub read_none : (start now : S) (text : List ℕ) (xs : List (ℕ × B)) → now ≡ start → Keeps now → xs ≡ [] → IsReadTo start text now 0 text xs
  read_none start now text xs same keeps none =
      record {
        lines = [];
        so_far = behind_none (lines_from judge next now 1 (lines_of text)) ∙ ap (λ s. lines_from judge next s 1 (lines_of text)) same;
        says = subst (AreSaid Says []) (sym none) tt;
        fits = subst (AllFit Fits) (sym none) tt;
        keeps = keeps;
        short = omega arith;
      }

  -- the lines from a cut on
  cut_lines : (now : S) (number : ℕ) (rest front back line : List ℕ) (t : Bool) → IsCut rest front back line → t ≡ (length line == 0)
      → lines_from judge next now number (lines_of rest)
      ≡ (if t then lines_from judge next now (number + 1) (lines_of back) else and_lines number (judge now line) (λ l. lines_from judge next (next now l) (number + 1) (lines_of back)))
  cut_lines now number rest front back line t c is =
      ap (lines_from judge next now number) c.first
      ∙ ap (λ x. if length x == 0 then lines_from judge next now (number + 1) (lines_of back) else and_lines number (judge now x) (λ l. lines_from judge next (next now l) (number + 1) (lines_of back))) (sym c.is)
      ∙ ap (λ b. if b then lines_from judge next now (number + 1) (lines_of back) else and_lines number (judge now line) (λ l. lines_from judge next (next now l) (number + 1) (lines_of back))) (sym is)

  module _ (start : S) (text : List ℕ) (now : S) (number : ℕ) (rest front back line : List ℕ) (xs : List (ℕ × B)) (r : IsReadTo start text now number rest xs) (c : IsCut rest front back line)
      (t : Bool) (is : t ≡ (length line == 0)) where
    -- an empty line is skipped and counted
    pub skipped : t ≡ true → IsReadTo start text now (number + 1) back xs
    skipped empty = record {
      lines = r.lines;
      so_far = ap (behind r.lines)
          (sym (cut_lines now (number + 1) rest front back line t c is
          ∙ ap (λ b. if b then lines_from judge next now (number + 1 + 1) (lines_of back) else and_lines (number + 1) (judge now line) (λ l. lines_from judge next (next now l) (number + 1 + 1) (lines_of back))) empty))
          ∙ r.so_far;
      says = r.says;
      fits = r.fits;
      keeps = r.keeps;
      short = omega (arith, r.short, c.less);
    }

    -- what follows where the line isn't empty
    on : t ≡ false → behind r.lines (and_lines (number + 1) (judge now line) (λ l. lines_from judge next (next now l) (number + 1 + 1) (lines_of back))) ≡ lines_from judge next start 1 (lines_of text)
    on some =
        ap (behind r.lines)
        (sym (cut_lines now (number + 1) rest front back line t c is
        ∙ ap (λ b. if b then lines_from judge next now (number + 1 + 1) (lines_of back) else and_lines (number + 1) (judge now line) (λ l. lines_from judge next (next now l) (number + 1 + 1) (lines_of back))) some))
        ∙ r.so_far

    -- a line is read
    pub read : (after : S) (x : B) (pushed : List (ℕ × B)) → t ≡ false → WhereAccepted (Does next Says Fits now after x) (judge now line) → Keeps after → pushed ≡ xs ++ (number + 1, x) ∷ []
        → IsReadTo start text after (number + 1) back pushed
    read after x pushed some does keeps grown = by_case (judge now line) (on some) does
      where
        by_case : (j : Judgement R A) → behind r.lines (and_lines (number + 1) j (λ l. lines_from judge next (next now l) (number + 1 + 1) (lines_of back))) ≡ lines_from judge next start 1 (lines_of text)
            → WhereAccepted (Does next Says Fits now after x) j → IsReadTo start text after (number + 1) back pushed
        by_case (Refused f) g d = absurd d
        by_case (Accepted l) g d = record {
          lines = r.lines ++ (number + 1, l) ∷ [];
          so_far = ap (λ s. behind (r.lines ++ (number + 1, l) ∷ []) (lines_from judge next s (number + 1 + 1) (lines_of back))) d.after_is
              ∙ behind_more r.lines (number + 1, l) (lines_from judge next (next now l) (number + 1 + 1) (lines_of back))
              ∙ g;
          says = subst (AreSaid Says (r.lines ++ (number + 1, l) ∷ [])) (sym grown) (said_push Says r.lines xs (number + 1, l) (number + 1, x) r.says refl d.says);
          fits = subst (AllFit Fits) (sym grown) (fit_push Fits xs (number + 1, x) r.fits d.fits);
          keeps = keeps;
          short = omega (arith, r.short, c.less);
        }

    -- a line has a fault
    pub stopped : (f : R) → t ≡ false → judge now line ≡ Refused f → lines_from judge next start 1 (lines_of text) ≡ StopsAt (number + 1) f
    stopped f some h = sym (on some) ∙ ap (λ j. behind r.lines (and_lines (number + 1) j (λ l. lines_from judge next (next now l) (number + 1 + 1) (lines_of back)))) h

  pub all_read : (start : S) (text : List ℕ) (now : S) (number : ℕ) (rest : List ℕ) (xs : List (ℕ × B)) (t : Bool) → IsReadTo start text now number rest xs
      → t ≡ (length rest == 0) → t ≡ true → SaidBy Says xs (lines_from judge next start 1 (lines_of text))
  all_read start text now number rest xs t r is end =
      let none : rest ≡ [] = no_length rest (sym is ∙ end) in
      let all : lines_from judge next start 1 (lines_of text) ≡ AllLines r.lines =
      sym r.so_far ∙ ap (λ x. behind r.lines (lines_from judge next now (number + 1) (lines_of x))) none ∙ ap AllLines (append-nil r.lines) in
      subst (SaidBy Says xs) (sym all) r.says

-- one more thing, beside the number of its line
zip_more : {A B : Type 0} (ks : List A) (xs : List B) (k : A) (x : B) → length ks ≡ length xs → zip (ks ++ k ∷ []) (xs ++ x ∷ []) ≡ zip ks xs ++ (k, x) ∷ []
zip_more [] [] k x h = refl
zip_more [] (y ∷ ys) k x h = absurd (omega arith)
zip_more (j ∷ js) [] k x h = absurd (omega arith)
zip_more (j ∷ js) (y ∷ ys) k x h = ap (λ zs. (j, y) ∷ zs) (zip_more js ys k x (omega arith))

-- and in code
pub one_read : {B C : Type 0} (view : C → B) (ks lines : List ℕ) (xs read : List C) (k : ℕ) (x : C) → length ks ≡ length xs → lines ≡ ks ++ k ∷ [] → read ≡ xs ++ x ∷ []
    → zip lines (map view read) ≡ zip ks (map view xs) ++ (k, view x) ∷ []
one_read view ks lines xs read k x long l m =
    ap (λ js. zip js (map view read)) l
    ∙ ap (λ ys. zip (ks ++ k ∷ []) (map view ys)) m
    ∙ ap (zip (ks ++ k ∷ [])) (map-append view xs (x ∷ []))
    ∙ zip_more ks (map view xs) k (view x) (omega (arith, long, length-map xs view))

pub same_lengths : {X Y : Type 0} (xs new : List X) (ys more : List Y) (x : X) (y : Y) → new ≡ xs ++ x ∷ [] → more ≡ ys ++ y ∷ [] → length xs ≡ length ys → length new ≡ length more
same_lengths xs new ys more x y n m h = omega (arith, ap length n, ap length m, length-append xs (x ∷ []), length-append ys (y ∷ []), h)
