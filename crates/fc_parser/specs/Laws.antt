-- Laws of programs and faults.
use Rattle.std.specs.Prelude.{ℕ, ◌≡◌, ◌≤◌, ◌⊎◌, List, length}
use Rattle.fc_lexer.specs.Kinds.{TokenView}
use Rattle.fc_lexer.specs.Lexes.{Lexes}
use Rattle.fc_syntax.specs.Terms.{Declaration}
use Rattle.fc_syntax.specs.Printable.{IsPrintable}
use Rattle.fc_parser.specs.Programs.{Derives}
use Rattle.fc_parser.specs.Faults.{FaultAt}

-- tokens derive at most one program
abbrev pub OneProgram : Type 0
OneProgram = (tokens : List TokenView) (ds es : List Declaration) → Derives tokens ds → Derives tokens es → ds ≡ es

-- tokens have at most one first fault
abbrev pub OneFault : Type 0
OneFault =
    (tokens : List TokenView) (number line other at : ℕ) → FaultAt tokens number line → FaultAt tokens other at
    → (number ≡ other) × (line ≡ at)

-- tokens that derive a program have no fault
abbrev pub NeverBoth : Type 0
NeverBoth =
    (tokens : List TokenView) (ds : List Declaration) (number line : ℕ) → Derives tokens ds
    → FaultAt tokens number line → ⊥

-- tokens derive a program or have a first fault
abbrev pub AlwaysOne : Type 0
AlwaysOne =
    (tokens : List TokenView) → ((ds : List Declaration) × Derives tokens ds)
    ⊎ ((number : ℕ) × (line : ℕ) × FaultAt tokens number line)

-- what a text's tokens derive can be printed
abbrev pub DerivedIsPrintable : Type 0
DerivedIsPrintable =
    (text : List ℕ) (tokens : List TokenView) (ds : List Declaration) → Lexes text tokens → Derives tokens ds
    → IsPrintable ds

-- a program has at most as many declarations as tokens
abbrev pub FewDeclarations : Type 0
FewDeclarations = (tokens : List TokenView) (ds : List Declaration) → Derives tokens ds → length ds ≤ length tokens
