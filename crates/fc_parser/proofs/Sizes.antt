-- How many tokens a reading leaves.
use Rattle.std.proofs.Common.{ℕ, ◌≡◌, ◌+◌, ◌≤◌, List, ◌∷◌, length, ap, ◌∙◌, arith}
use Rattle.std.proofs.lemmas.List.{length-map}
use Rattle.fc_values.specs.Types.{LocalType, ValueType}
use Rattle.fc_lexer.specs.declared.tokens.Token.{Token}
use Rattle.fc_lexer.specs.declared.tokens.Mark.{Mark}
use Rattle.fc_lexer.specs.Apart.{view_kind}
use Rattle.fc_lexer.specs.Kinds.{TokenKind, NameOf, MarkOf, token_view, tokens_of}
use Rattle.fc_syntax.specs.Terms.{Parameter}
use Rattle.fc_parser.specs.Reading.{Got, Fronts}
use Rattle.fc_parser.specs.Expressions.{kinds_of, mark_read, name_read}
use Rattle.fc_parser.specs.Types.{local_read, type_read, parameter_read, parameters_read}
use Rattle.fc_parser.proofs.Steps.{no_longer, mark_got, name_got}
use Rattle.fc_parser.proofs.TypesRead.{local_sound, type_sound, parameter_sound, parameters_sound}

pub kinds_length : (ts : List Token) → length (kinds_of ts) ≡ length ts
kinds_length ts = length-map (tokens_of ts) view_kind ∙ length-map ts token_view

shorter : (xs ys : List Token) (k : TokenKind) → kinds_of xs ≡ k ∷ kinds_of ys → length ys + 1 ≡ length xs
shorter xs ys k e = let x = kinds_length xs in let y = kinds_length ys in let f = ap length e in omega arith

fronts_less : {P : List TokenKind → Type 0} (xs ys : List Token) → Fronts P (kinds_of xs) (kinds_of ys) → length ys ≤ length xs
fronts_less xs ys f = let x = kinds_length xs in let y = kinds_length ys in let l = no_longer (kinds_of xs) (kinds_of ys) f in omega arith

pub mark_less : (m : Mark) (xs ys : List Token) (u : Unit {0}) → mark_read m (kinds_of xs) ≡ Got u (kinds_of ys) → length ys + 1 ≡ length xs
mark_less m xs ys u e = shorter xs ys (MarkOf m) (mark_got m (kinds_of xs) u (kinds_of ys) e)

pub name_less : (xs ys : List Token) (x : List ℕ) → name_read (kinds_of xs) ≡ Got x (kinds_of ys) → length ys + 1 ≡ length xs
name_less xs ys x e = shorter xs ys (NameOf x) (name_got (kinds_of xs) x (kinds_of ys) e)

pub local_less : (xs ys : List Token) (t : LocalType) → local_read (kinds_of xs) ≡ Got t (kinds_of ys) → length ys ≤ length xs
local_less xs ys t e = fronts_less xs ys (local_sound (kinds_of xs) t (kinds_of ys) e)

pub type_less : (xs ys : List Token) (t : ValueType) → type_read (kinds_of xs) ≡ Got t (kinds_of ys) → length ys ≤ length xs
type_less xs ys t e = fronts_less xs ys (type_sound (kinds_of xs) t (kinds_of ys) e)

pub parameter_less : (xs ys : List Token) (p : Parameter) → parameter_read (kinds_of xs) ≡ Got p (kinds_of ys) → length ys ≤ length xs
parameter_less xs ys p e = fronts_less xs ys (parameter_sound (kinds_of xs) p (kinds_of ys) e)

pub parameters_less : (xs ys : List Token) (ps : List Parameter) → parameters_read (kinds_of xs) ≡ Got ps (kinds_of ys) → length ys ≤ length xs
parameters_less xs ys ps e = fronts_less xs ys (parameters_sound (kinds_of xs) ps (kinds_of ys) e)
