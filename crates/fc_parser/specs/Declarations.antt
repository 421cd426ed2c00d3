-- Declarations, read.
use Rattle.std.specs.Prelude.{ℕ, ◌==◌, if◌then◌else◌, Bool, [], ◌∷◌}
use Rattle.fc_values.specs.declared.types.InputTy.{InputTy}
use Rattle.fc_values.specs.declared.types.InputTy.TheVariants as input
use Rattle.fc_lexer.specs.declared.tokens.Mark.TheVariants as mark
use Rattle.fc_values.specs.declared.names.Word.{Word}
use Rattle.fc_values.specs.declared.names.Word.TheVariants as word
use Rattle.fc_lexer.specs.Kinds.{NumberOf, WordOf, NameOf, MarkOf}
use Rattle.fc_syntax.specs.Terms.{SourceTerm, Declaration, LanguageIs, CeilingIs, InputIs, MetricIs, DefIs, MainIs}
use Rattle.fc_parser.specs.Reading.{Got, Not, Reader, ◌>>=◌}
use Rattle.fc_parser.specs.Heads.{number_read, finish_read}
use Rattle.fc_parser.specs.Types.{type_read, parameters_read}
use Rattle.fc_parser.specs.Expressions.{expression_read, mark_read, name_read}

-- two numbers, the least and the greatest
pub record Range : Type 0 where
  pub least : ℕ
  pub greatest : ℕ

-- NUMBER .. NUMBER
unfoldable pub range_read : Reader Range
range_read ts =
    number_read ts >>= λ m a. mark_read mark.Dots a >>= λ _ b. number_read b >>= λ n rest. Got
    (record { least = m; greatest = n }) rest

-- bool, or int NUMBER .. NUMBER
unfoldable pub input_type_read : Reader InputTy
input_type_read (WordOf word.Bool ∷ rest) = Got input.Truth rest
input_type_read (WordOf word.Int ∷ rest) = range_read rest >>= λ r after. Got (input.Whole r.least r.greatest) after
input_type_read _ = Not

-- = expr ;
unfoldable pub body_read : Bool → Reader SourceTerm
body_read second ts =
    mark_read mark.Is ts >>= λ _ a. expression_read second a >>= λ e b. finish_read b >>= λ _ rest. Got e rest

-- what follows each word that begins a declaration
unfoldable pub language_read : Reader Declaration
language_read ts = number_read ts >>= λ n a. finish_read a >>= λ _ rest. if n == 2 then Got (LanguageIs 2) rest else Not

unfoldable pub ceiling_read : Reader Declaration
ceiling_read ts = number_read ts >>= λ n a. finish_read a >>= λ _ rest. Got (CeilingIs n) rest

unfoldable pub input_read : Reader Declaration
input_read ts =
    name_read ts >>= λ x a.
    mark_read mark.Colon a >>= λ _ b.
    input_type_read b >>= λ t c.
    finish_read c >>= λ _ rest.
    Got (InputIs x t) rest

unfoldable pub metric_read : Reader Declaration
metric_read ts = range_read ts >>= λ r a. finish_read a >>= λ _ rest. Got (MetricIs r.least r.greatest) rest

unfoldable pub definition_read : Bool → Reader Declaration
definition_read second ts =
    name_read ts >>= λ f a. mark_read mark.OpenRound a >>= λ _ b. parameters_read b >>= λ ps c.
    mark_read mark.CloseRound c >>= λ _ d. mark_read mark.Colon d >>= λ _ e. type_read e >>= λ t g.
    body_read second g >>= λ body rest. Got
    (DefIs f ps t body) rest

unfoldable pub main_read : Bool → Reader Declaration
main_read second ts = body_read second ts >>= λ e rest. Got (MainIs e) rest

-- what follows this word, where it begins a declaration
abbrev pub after_word : Bool → Word → Reader Declaration
after_word second word.Language ts = language_read ts
after_word second word.Ceiling ts = ceiling_read ts
after_word second word.Input ts = input_read ts
after_word second word.Metric ts = metric_read ts
after_word second word.Def ts = definition_read second ts
after_word second word.Main ts = main_read second ts
after_word second _ ts = Not

-- a declaration with its `;`
unfoldable pub declaration_read : Bool → Reader Declaration
declaration_read second [] = Not
declaration_read second (NumberOf n ∷ rest) = Not
declaration_read second (WordOf w ∷ rest) = after_word second w rest
declaration_read second (NameOf x ∷ rest) = Not
declaration_read second (MarkOf m ∷ rest) = Not

-- what contracts see of the code's ranges
abbrev pub range_of : ℕ × ℕ → Range
range_of r = record { least = r.0; greatest = r.1 }
