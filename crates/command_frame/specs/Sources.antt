-- What the text of a program's section is: by tokens and grammar, and by types and unfolding.
use Rattle.std.specs.Prelude.{ℕ, ◌≡◌, ◌≤◌, ◌<◌, min, length, List, Some, None}
use Rattle.fc_lexer.specs.Kinds.{TokenView}
use Rattle.fc_lexer.specs.Lexes.{Lexes, IsStuckAt}
use Rattle.fc_syntax.specs.Terms.{Declaration}
use Rattle.fc_parser.specs.Programs.{Derives}
use Rattle.fc_parser.specs.Limits.{TooMany, TooDeep, limit_passed}
use Rattle.fc_parser.specs.Faults.{FaultAt}
use Rattle.fc_types.specs.declared.faults.TypeKind.{TypeKind}
use Rattle.fc_types.specs.Before.{declared_by}
use Rattle.fc_types.specs.Typing.{IsTyped}
use Rattle.fc_types.specs.Faults.{FirstFault}
use Rattle.fc_nodes.specs.Program.{Unfolding}
use Rattle.command_frame.specs.declared.refusal.Refusal.{Refusal}
use Rattle.command_frame.specs.declared.refusal.Refusal.TheVariants.{Lexical, Tokens, Depth, Syntax, Types}
use Rattle.command_frame.specs.declared.refusal.Refusal.TheVariants.{Nodes as Size}
use Rattle.command_frame.specs.Causes.{Plainly, InScene, Judged, Accepted, Refused}
use Rattle.unfold.specs.declared.count.TheConstants.{MOST_COUNTED}
use Rattle.fc_values.specs.declared.limits.TheConstants.{MOST_NODES}
use Rattle.unfold.specs.Nodes.{Nodes}
use Rattle.unfold.specs.Unfolding.{main_term}

-- the text is within the limits, and its tokens derive this program
pub record IsSource (text : List ℕ) (ds : List Declaration) : Type 0 where
  pub tokens : List TokenView
  pub lexes : Lexes text tokens
  pub within : limit_passed tokens ≡ None
  pub derives : Derives tokens ds

-- the text is refused: no token begins at a byte that reading reaches, a declaration passes a limit, or one is at fault
pub data IsNoSource (text : List ℕ) : Refusal → Type 0 where
  lexical : (at : ℕ) → IsStuckAt text at → IsNoSource text (Lexical at)
  tokens : (tokens : List TokenView) (number count : ℕ) → Lexes text tokens
      → limit_passed tokens ≡ Some (TooMany number count) → IsNoSource text (Tokens count)
  depth : (tokens : List TokenView) (number : ℕ) → Lexes text tokens
      → limit_passed tokens ≡ Some (TooDeep number) → IsNoSource text Depth
  syntax : (tokens : List TokenView) (number line : ℕ) → Lexes text tokens → limit_passed tokens ≡ None
      → FaultAt tokens number line → IsNoSource text (Syntax number line)

-- what declarations unfold to
abbrev pub unfolding_by : List Declaration → Unfolding
unfolding_by ds = record { declared = declared_by ds; main = main_term ds }

-- the text is a typed program of at most 2,048 nodes, and this is what it unfolds to
pub record IsProgramText (text : List ℕ) (U : Unfolding) : Type 0 where
  pub declarations : List Declaration
  pub source : IsSource text declarations
  pub typed : IsTyped declarations
  pub few : length (Nodes declarations) ≤ MOST_NODES
  pub unfolds : U ≡ unfolding_by declarations

-- the text is no program: it is refused as above, or it has a first fault of typing, or more nodes
pub data IsNoProgram (text : List ℕ) : Refusal → Type 0 where
  no_source : (refusal : Refusal) → IsNoSource text refusal → IsNoProgram text refusal
  ill_typed : (ds : List Declaration) (number : ℕ) (kind : TypeKind) → IsSource text ds
      → FirstFault ds number kind → IsNoProgram text (Types number kind)
  too_large : (ds : List Declaration) → IsSource text ds → IsTyped ds → MOST_NODES < length (Nodes ds)
      → IsNoProgram text (Size (min MOST_COUNTED (length (Nodes ds))))

-- what a text is read to by tokens and grammar
abbrev pub ReadsSource : List ℕ → Judged (List Declaration) → Type 0
ReadsSource text (Accepted ds) = IsSource text ds
ReadsSource text (Refused (Plainly refusal)) = IsNoSource text refusal
ReadsSource text (Refused (InScene refusal)) = ⊥

-- what a text is read to by tokens and grammar, types and unfolding
abbrev pub ReadsProgram : List ℕ → Judged Unfolding → Type 0
ReadsProgram text (Accepted U) = IsProgramText text U
ReadsProgram text (Refused (Plainly refusal)) = IsNoProgram text refusal
ReadsProgram text (Refused (InScene refusal)) = ⊥
