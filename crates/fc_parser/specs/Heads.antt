-- Numbers and the end of a declaration, read, and what a function of the code gives of a reading.
use Rattle.std.specs.Prelude.{ℕ, ◌≡◌, nat_le, if◌then◌else◌, List, [], ◌∷◌, Result, Ok, Err}
use Rattle.std.specs.Borrow.{Bor}
use Rattle.fc_lexer.specs.declared.tokens.Token.{Token}
use Rattle.fc_lexer.specs.declared.tokens.Mark.TheVariants as mark
use Rattle.fc_lexer.specs.Kinds.{NumberOf}
use Rattle.fc_values.specs.declared.limits.TheConstants.{GREATEST}
use Rattle.fc_parser.specs.declared.refused.Refused.{Refused}
use Rattle.fc_parser.specs.declared.refused.Refused.TheVariants as refused
use Rattle.fc_parser.specs.Reading.{Read, Got, Not, Reader, ◌>>=◌}
use Rattle.fc_parser.specs.Expressions.{kinds_of, mark_read}

-- a number of the grammar
unfoldable pub number_read : Reader ℕ
number_read (NumberOf n ∷ rest) = if nat_le n GREATEST then Got n rest else Not
number_read ts = Not

-- no token
abbrev pub nothing_read : Reader (Unit {0})
nothing_read [] = Got tt []
nothing_read (k ∷ rest) = Not

-- the `;` that ends a declaration
unfoldable pub finish_read : Reader (Unit {0})
finish_read ts = mark_read mark.Semi ts >>= λ _ rest. nothing_read rest

-- What a function returned, with the tokens after it, is what reading gives, unless memory ran out.
abbrev pub Gives : {X A : Type 0} → (X → A) → Result (X × Bor (List Token)) Refused → Read A → Type 0
Gives view (Ok x) read = read ≡ Got (view x.0) (kinds_of x.1.now)
Gives view (Err refused.Outside) read = read ≡ Not
Gives view (Err refused.Memory) read = Unit {0}

-- the same of a function that reads all tokens
abbrev pub GivesWhole : {X A : Type 0} → (X → A) → Result X Refused → Read A → Type 0
GivesWhole view (Ok x) read = read ≡ Got (view x) []
GivesWhole view (Err refused.Outside) read = read ≡ Not
GivesWhole view (Err refused.Memory) read = Unit {0}
