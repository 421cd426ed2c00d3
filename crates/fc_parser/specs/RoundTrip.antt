-- What is printed is read again.
use Rattle.std.specs.Prelude.{ℕ, ◌≡◌, List, None}
use Rattle.fc_lexer.specs.Kinds.{TokenView}
use Rattle.fc_lexer.specs.Lexes.{Lexes, IsStuckAt}
use Rattle.fc_syntax.specs.Terms.{Declaration}
use Rattle.fc_syntax.specs.Text.{program_text}
use Rattle.fc_syntax.specs.Printable.{IsPrintable}
use Rattle.fc_parser.specs.declared.faults.ParseFault.{ParseFault}
use Rattle.fc_parser.specs.declared.faults.ParseFault.TheVariants as fault
use Rattle.fc_parser.specs.Programs.{Derives}
use Rattle.fc_parser.specs.Limits.{limit_passed}
use Rattle.fc_parser.specs.Faults.{Parses, Refuses}

-- the canonical text of a program of the grammar, of either language, has tokens, and they derive this program
abbrev pub RoundTrip : Type 0
RoundTrip =
    (ds : List Declaration) → IsPrintable ds → (tokens : List TokenView) × Lexes (program_text ds) tokens
    × Derives tokens ds

-- any tokens that the canonical text has derive this program
abbrev pub EachReading : Type 0
EachReading =
    (ds : List Declaration) (tokens : List TokenView) → IsPrintable ds → Lexes (program_text ds) tokens
    → Derives tokens ds

-- reading the canonical text stops at no byte
abbrev pub NeverStops : Type 0
NeverStops = (ds : List Declaration) (i : ℕ) → IsPrintable ds → IsStuckAt (program_text ds) i → ⊥

-- the program that its tokens parse as is this one
abbrev pub SameProgram : Type 0
SameProgram =
    (ds others : List Declaration) (tokens : List TokenView) → IsPrintable ds → Lexes (program_text ds) tokens
    → Parses tokens others → others ≡ ds

-- where they pass no limit, nothing but want of memory refuses them
abbrev pub RefusesNothing : Type 0
RefusesNothing =
    (ds : List Declaration) (tokens : List TokenView) (f : ParseFault) → IsPrintable ds
    → Lexes (program_text ds) tokens → limit_passed tokens ≡ None → Refuses tokens f → f ≡ fault.Memory
