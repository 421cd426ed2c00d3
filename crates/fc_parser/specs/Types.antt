-- Types and parameters, read.
use Rattle.std.specs.Prelude.{ℕ, zero, suc, List, [], ◌∷◌, ◌++◌, length, map}
use Rattle.std.specs.declared.alloc.Global.{Global}
use Rattle.std.specs.declared.vec.Vec.{Vec}
use Rattle.fc_values.specs.Types.{LocalType, IntType, BoolType, PairType, ValueType, TypeLocal, TypeField}
use Rattle.fc_lexer.specs.declared.tokens.Mark.TheVariants as mark
use Rattle.fc_values.specs.declared.names.Word.TheVariants as word
use Rattle.fc_lexer.specs.Kinds.{TokenKind, WordOf, MarkOf}
use Rattle.fc_syntax.specs.declared.tree.Param.{Param}
use Rattle.fc_syntax.specs.Terms.{Parameter, parameter_of}
use Rattle.fc_parser.specs.Reading.{Read, Got, Not, Reader, ◌>>=◌}
use Rattle.fc_parser.specs.Expressions.{if_got, mark_read, name_read}

-- two types and the brackets' end, after `(`
abbrev pub pair_with : Reader LocalType → Reader LocalType
pair_with inner ts =
    inner ts >>= λ s a.
    mark_read mark.Comma a >>= λ _ b.
    inner b >>= λ t c.
    mark_read mark.CloseRound c >>= λ _ rest.
    Got (PairType s t) rest

-- a local type, where the types in its brackets are read by this
abbrev pub local_with : Reader LocalType → Reader LocalType
local_with inner (WordOf word.Int ∷ rest) = Got IntType rest
local_with inner (WordOf word.Bool ∷ rest) = Got BoolType rest
local_with inner (MarkOf mark.OpenRound ∷ rest) = pair_with inner rest
local_with inner _ = Not

-- a local type with at most so many brackets in one another
unfoldable pub local_at : ℕ → Reader LocalType
local_at zero ts = Not
local_at (suc n) ts = local_with (local_at n) ts

-- a local type
unfoldable pub local_read : Reader LocalType
local_read ts = local_at (length ts) ts

-- a type, by how it is read after `field` and without it
abbrev pub type_as : (List TokenKind → Read ValueType) → Reader ValueType → Reader ValueType
type_as field local (WordOf word.Field ∷ rest) = field rest
type_as field local ts = local ts

abbrev pub field_read : Reader ValueType
field_read ts = local_read ts >>= λ t rest. Got (TypeField t) rest

abbrev pub plain_read : Reader ValueType
plain_read ts = local_read ts >>= λ t rest. Got (TypeLocal t) rest

unfoldable pub type_read : Reader ValueType
type_read = type_as field_read plain_read

-- a parameter
unfoldable pub parameter_read : Reader Parameter
parameter_read ts =
    name_read ts >>= λ x a. mark_read mark.Colon a >>= λ _ b. type_read b >>= λ t rest. Got
    (record { name = x; type = t }) rest

-- at most so many parameters, each behind a comma, after these
unfoldable pub more_at : ℕ → List Parameter → Reader (List Parameter)
more_at zero ps ts = Got ps ts
more_at (suc n) ps ts =
    if_got (mark_read mark.Comma ts) (λ _ a. parameter_read a >>= λ p after. more_at n (ps ++ p
    ∷ []) after) (Got ps ts)

-- parameters with commas between them, or none
unfoldable pub parameters_read : Reader (List Parameter)
parameters_read ts =
    if_got (name_read ts) (λ _ _. parameter_read ts >>= λ p after. more_at (length after) (p ∷ []) after) (Got [] ts)

-- the parameters that a list is
abbrev pub parameters_of : Vec Param Global → List Parameter
parameters_of params = map parameter_of params.items
