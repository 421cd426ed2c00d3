-- The limits on one declaration.
use Rattle.std.specs.Prelude.{ℕ, ◌+◌, ◌-◌, nat_lt, max, if◌then◌else◌, List, [], ◌∷◌, length, Option, Some, None}
use Rattle.fc_lexer.specs.declared.tokens.Mark.TheVariants as mark
use Rattle.fc_lexer.specs.Kinds.{TokenKind, MarkOf, TokenView}
use Rattle.fc_parser.specs.declared.limits.TheConstants.{MOST_TOKENS, MOST_BRACKETS}
use Rattle.fc_parser.specs.Programs.{kinds, pieces}

-- the open brackets after a token, of those before it
abbrev pub open_after : ℕ → TokenKind → ℕ
open_after before (MarkOf mark.OpenRound) = before + 1
open_after before (MarkOf mark.OpenCurly) = before + 1
open_after before (MarkOf mark.CloseRound) = before - 1
open_after before (MarkOf mark.CloseCurly) = before - 1
open_after before _ = before

-- the most brackets that are open at one place, where this many are open already
abbrev pub deepest : ℕ → List TokenKind → ℕ
deepest before [] = before
deepest before (k ∷ ks) = max before (deepest (open_after before k) ks)

-- a declaration has too many tokens (its number from 1, and how many it has), or too many open brackets (its number)
pub data Passed : Type 0 where
  TooMany : ℕ → ℕ → Passed
  TooDeep : ℕ → Passed

-- the limit that a declaration passes; that on tokens is judged before that on brackets
abbrev pub passed_by : ℕ → List TokenView → Option Passed
passed_by number piece =
    if nat_lt MOST_TOKENS (length piece) then Some (TooMany number (length piece)) else
    (if nat_lt MOST_BRACKETS (deepest 0 (kinds piece)) then Some (TooDeep number) else None)

-- the first of two, if there is one
abbrev pub or_else : Option Passed → Option Passed → Option Passed
or_else None other = other
or_else (Some passed) other = Some passed

-- the first declaration that passes a limit, of those from this number on
abbrev pub first_passed : ℕ → List (List TokenView) → Option Passed
first_passed number [] = None
first_passed number (piece ∷ more) = or_else (passed_by number piece) (first_passed (number + 1) more)

-- the first limit that is passed by a declaration of these tokens
abbrev pub limit_passed : List TokenView → Option Passed
limit_passed tokens = first_passed 1 (pieces tokens)
