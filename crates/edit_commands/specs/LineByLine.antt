-- Texts that are read line by line: each line is judged by what the lines before leave.
use Rattle.std.specs.Prelude.{ℕ, ◌≡◌, ◌+◌, if◌then◌else◌, List, [], ◌∷◌, Option, Some, None}
pub use Rattle.fc_values.specs.Judgements.{Judgement, Accepted, Refused}
use Rattle.fc_io.specs.Lines.{line_text, is_empty}

abbrev pub unless_fault : {R A : Type 0} → Option R → A → Judgement R A
unless_fault None x = Accepted x
unless_fault (Some r) x = Refused r

abbrev pub WhereAccepted : {R A : Type 0} → (A → Type 0) → Judgement R A → Type 0
WhereAccepted P (Accepted x) = P x
WhereAccepted P (Refused r) = ⊥

-- lines with their numbers, or the number of the first line that has a fault, and its fault
pub data Lines (R A : Type 0) : Type 0 where
  AllLines : List (ℕ × A) → Lines R A
  StopsAt : ℕ → R → Lines R A

abbrev pub onto : {R A : Type 0} → ℕ × A → Lines R A → Lines R A
onto x (AllLines xs) = AllLines (x ∷ xs)
onto x (StopsAt k r) = StopsAt k r

-- a judged line of a number, and then the lines after it
abbrev pub and_lines : {R A : Type 0} → ℕ → Judgement R A → (A → Lines R A) → Lines R A
and_lines k (Accepted l) rest = onto (k, l) (rest l)
and_lines k (Refused r) rest = StopsAt k r

-- the lines from a number on, of which the empty ones are skipped and counted; each leads from one state to the next
abbrev pub lines_from : {S R A : Type 0} → (S → List ℕ → Judgement R A) → (S → A → S) → S → ℕ
    → List (List ℕ) → Lines R A
lines_from judge next s k [] = AllLines []
lines_from judge next s k (line ∷ lines) =
    if is_empty line then lines_from judge next s (k + 1) lines
    else and_lines k (judge s (line_text line)) (λ l. lines_from judge next (next s l) (k + 1) lines)

-- a thing that a line says and that fits, with the state after the line
pub record Does
    {S A B : Type 0} (next : S → A → S) (Says : A → B → Type 0) (Fits : B → Type 0)
    (now after : S) (x : B) (l : A) : Type 0 where
  pub says : Says l x
  pub fits : Fits x
  pub after_is : after ≡ next now l

-- things that are said by lines, one for each, with their numbers
abbrev pub AreSaid : {A B : Type 0} → (A → B → Type 0) → List (ℕ × A) → List (ℕ × B) → Type 0
AreSaid Says [] [] = Unit {0}
AreSaid Says (l ∷ ls) (x ∷ xs) = (x.0 ≡ l.0) × Says l.1 x.1 × AreSaid Says ls xs
AreSaid Says _ _ = ⊥

-- those of a text in which no line has a fault
abbrev pub SaidBy : {R A B : Type 0} → (A → B → Type 0) → List (ℕ × B) → Lines R A → Type 0
SaidBy Says xs (AllLines ls) = AreSaid Says ls xs
SaidBy Says xs (StopsAt k r) = ⊥
