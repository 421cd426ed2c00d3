-- The first declaration that is at fault, and the answers of `parse`.
use Rattle.std.specs.Prelude.{ℕ, ◌≡◌, ◌+◌, List, [], ◌∷◌, Some, None}
use Rattle.fc_lexer.specs.Kinds.{TokenView}
use Rattle.fc_syntax.specs.Terms.{Declaration}
use Rattle.fc_parser.specs.Programs.{Place, First, AfterMain, Stands, Derives, pieces}
use Rattle.fc_parser.specs.Limits.{TooMany, TooDeep, limit_passed}
use Rattle.fc_parser.specs.declared.faults.ParseFault.{ParseFault}
use Rattle.fc_parser.specs.declared.faults.ParseFault.TheVariants as fault

-- the line of a piece's first token
abbrev pub line_of : List TokenView → ℕ
line_of [] = 1
line_of (t ∷ ts) = t.line

-- the line of the last token, or this one where there is none
abbrev pub last_line : ℕ → List TokenView → ℕ
last_line line [] = line
last_line line (t ∷ ts) = last_line t.line ts

-- no `main` stands before this place
abbrev pub IsOpen : Place → Type 0
IsOpen (AfterMain second) = ⊥
IsOpen _ = Unit {0}

-- From this place, number and last line on, the first declaration at fault has that number and that line. A piece is at
-- fault where it spells no declaration that may stand at its place. Where all may and no `main` ends them, the one that
-- is missing is at fault, at the line of the last token.
pub data FaultFrom : Place → ℕ → ℕ → List (List TokenView) → ℕ → ℕ → Type 0 where
  here : (place : Place) (number line : ℕ) (piece : List TokenView) (more : List (List TokenView))
      → ((d : Declaration) (after : Place) → Stands place piece d after → ⊥)
      → FaultFrom place number line (piece ∷ more) number (line_of piece)
  later : (place after : Place) (number line : ℕ) (piece : List TokenView) (more : List (List TokenView))
      (d : Declaration) (n l : ℕ)
      → Stands place piece d after → FaultFrom after (number + 1) (last_line line piece) more n l
      → FaultFrom place number line (piece ∷ more) n l
  missing : (place : Place) (number line : ℕ) → IsOpen place → FaultFrom place number line [] number line

-- the first declaration at fault, by its number from 1, and its line
abbrev pub FaultAt : List TokenView → ℕ → ℕ → Type 0
FaultAt tokens number line = FaultFrom First 1 1 (pieces tokens) number line

-- the tokens derive this program and no other, and pass no limit
pub record Parses (tokens : List TokenView) (ds : List Declaration) : Type 0 where
  pub within : limit_passed tokens ≡ None
  pub derives : Derives tokens ds
  pub only : (others : List Declaration) → Derives tokens others → others ≡ ds

-- no limit is passed, nothing derives, and the first declaration at fault is this one, at this line
pub record IsOutside (tokens : List TokenView) (number line : ℕ) : Type 0 where
  pub within : limit_passed tokens ≡ None
  pub at : FaultAt tokens number line
  pub only : (n l : ℕ) → FaultAt tokens n l → (n ≡ number) × (l ≡ line)
  pub outside : (ds : List Declaration) → Derives tokens ds → ⊥

-- why tokens are refused
abbrev pub Refuses : List TokenView → ParseFault → Type 0
Refuses tokens (fault.Tokens number count) = limit_passed tokens ≡ Some (TooMany number count)
Refuses tokens (fault.Depth number) = limit_passed tokens ≡ Some (TooDeep number)
Refuses tokens (fault.Syntax number line) = IsOutside tokens number line
Refuses tokens fault.Memory = Unit {0}
