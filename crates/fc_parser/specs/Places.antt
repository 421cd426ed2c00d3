-- What the code's places and pieces are, and the first answer of the limits.
use Rattle.std.specs.Prelude.{◌≡◌, Bool, not, List, Some, Result, Ok, Err}
use Rattle.fc_lexer.specs.declared.tokens.Token.{Token}
use Rattle.fc_lexer.specs.Kinds.{TokenView, kind_view}
use Rattle.fc_syntax.specs.declared.tree.Decl.{Decl}
use Rattle.fc_syntax.specs.Terms.{Declaration, declaration_of}
use Rattle.fc_parser.specs.declared.refused.Refused.{Refused}
use Rattle.fc_parser.specs.declared.refused.Refused.TheVariants as refused
use Rattle.fc_parser.specs.declared.places.Position.{Position}
use Rattle.fc_parser.specs.declared.places.Position.TheVariants as position
use Rattle.fc_parser.specs.declared.faults.ParseFault.{ParseFault}
use Rattle.fc_parser.specs.declared.faults.ParseFault.TheVariants as fault
use Rattle.fc_parser.specs.Limits.{limit_passed, TooMany, TooDeep}
use Rattle.fc_parser.specs.Programs.{is_semi, Place, First, AfterLanguage, AfterCeiling, AfterMain, Stands}
use Rattle.fc_parser.specs.Faults.{FaultAt}

-- the token is no `;`
abbrev pub goes_on : Token → Bool
goes_on t = not (is_semi (kind_view t.kind))

-- where a declaration stands
abbrev pub place_at : Position → Place
place_at position.First = First
place_at position.AfterLanguage = AfterLanguage
place_at (position.Within second) = AfterCeiling second
place_at (position.AfterMain second) = AfterMain second

-- the piece spells no declaration that may stand at this place
abbrev pub StandsNever : Place → List TokenView → Type 0
StandsNever place piece = (d : Declaration) (after : Place) → Stands place piece d after → ⊥

-- What a function returned stands at this place and leads to that one; or nothing stands there, unless memory ran out.
abbrev pub GivesStanding : Place → List TokenView → Result (Decl × Position) Refused → Type 0
GivesStanding place piece (Ok x) = Stands place piece (declaration_of x.0) (place_at x.1)
GivesStanding place piece (Err refused.Outside) = StandsNever place piece
GivesStanding place piece (Err refused.Memory) = Unit {0}

-- a fault of the limits
abbrev pub PassesLimit : List TokenView → ParseFault → Type 0
PassesLimit tokens (fault.Tokens number count) = limit_passed tokens ≡ Some (TooMany number count)
PassesLimit tokens (fault.Depth number) = limit_passed tokens ≡ Some (TooDeep number)
PassesLimit tokens _ = ⊥

-- a fault of the grammar
abbrev pub IsFault : List TokenView → ParseFault → Type 0
IsFault tokens (fault.Syntax number line) = FaultAt tokens number line
IsFault tokens fault.Memory = Unit {0}
IsFault tokens _ = ⊥
