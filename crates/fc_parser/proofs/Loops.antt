-- Turns of the loops over parameters and pieces.
use Rattle.std.proofs.Common.{ℕ, zero, suc, ◌≡◌, ◌≤◌, List, [], ◌∷◌, ◌++◌, length, refl, ap, ◌∙◌, sym, arith}
use Rattle.fc_lexer.specs.declared.tokens.Mark.TheVariants as mark
use Rattle.fc_lexer.specs.Kinds.{TokenKind}
use Rattle.fc_syntax.specs.Terms.{Parameter}
use Rattle.fc_parser.specs.Reading.{Read, Got, Not, ◌>>=◌}
use Rattle.fc_parser.specs.Expressions.{if_got, mark_read, name_read}
use Rattle.fc_parser.specs.Types.{parameter_read, more_at, parameters_read}
use Rattle.fc_parser.proofs.Steps.{mark_got, no_longer}
use Rattle.fc_parser.proofs.TypesRead.{parameter_sound}

-- what is read whole is what is read from here on, with a budget of turns that the rest doesn't pass
pub record MoreLeft (whole : Read (List Parameter)) (ps : List Parameter) (rest : List TokenKind) : Type 0 where
  pub turns : ℕ
  pub enough : length rest ≤ turns
  pub same : more_at turns ps rest ≡ whole

-- no name, no parameters
pub none_left : (ts : List TokenKind) → name_read ts ≡ Not → parameters_read ts ≡ Got [] ts
unfolding parameters_read
none_left ts e = ap (λ v. if_got v (λ _ _. parameter_read ts >>= λ p after. more_at (length after) (p ∷ []) after) (Got [] ts)) e

-- the first parameter
pub first_is : (ts : List TokenKind) (x : List ℕ) (a : List TokenKind) → name_read ts ≡ Got x a → parameters_read ts ≡ (parameter_read ts >>= λ p after. more_at (length after) (p ∷ []) after)
unfolding parameters_read
first_is ts x a e = ap (λ v. if_got v (λ _ _. parameter_read ts >>= λ p after. more_at (length after) (p ∷ []) after) (Got [] ts)) e

pub more_start : (ts : List TokenKind) (x : List ℕ) (a : List TokenKind) (p : Parameter) (rest : List TokenKind) → name_read ts ≡ Got x a → parameter_read ts ≡ Got p rest → MoreLeft (parameters_read ts) (p ∷ []) rest
more_start ts x a p rest e f = record { turns = length rest; enough = omega arith; same = sym (first_is ts x a e ∙ ap (λ v. v >>= λ q after. more_at (length after) (q ∷ []) after) f) }

pub first_not : (ts : List TokenKind) (x : List ℕ) (a : List TokenKind) → name_read ts ≡ Got x a → parameter_read ts ≡ Not → parameters_read ts ≡ Not
first_not ts x a e f = first_is ts x a e ∙ ap (λ v. v >>= λ q after. more_at (length after) (q ∷ []) after) f

more_turn : (n : ℕ) (ps : List Parameter) (rest after : List TokenKind) (u : Unit {0}) → mark_read mark.Comma rest ≡ Got u after → more_at (suc n) ps rest ≡ (parameter_read after >>= λ p next. more_at n (ps ++ p ∷ []) next)
unfolding more_at
more_turn n ps rest after u e = ap (λ v. if_got v (λ _ a. parameter_read a >>= λ p next. more_at n (ps ++ p ∷ []) next) (Got ps rest)) e

-- a turn has a budget, and what it reads is the rest
record Turn (whole : Read (List Parameter)) (ps : List Parameter) (rest after : List TokenKind) : Type 0 where
  turns : ℕ
  enough : length after ≤ turns
  same : (parameter_read after >>= λ p next. more_at turns (ps ++ p ∷ []) next) ≡ whole

turned : (whole : Read (List Parameter)) (ps : List Parameter) (rest after : List TokenKind) (u : Unit {0}) → mark_read mark.Comma rest ≡ Got u after → (n : ℕ) → length rest ≤ n → more_at n ps rest ≡ whole → Turn whole ps rest after
turned whole ps rest after u e zero le same = let f = ap length (mark_got mark.Comma rest u after e) in absurd (omega arith)
turned whole ps rest after u e (suc n) le same = let f = ap length (mark_got mark.Comma rest u after e) in record { turns = n; enough = omega arith; same = sym (more_turn n ps rest after u e) ∙ same }

pub more_next : (whole : Read (List Parameter)) (ps : List Parameter) (rest after : List TokenKind) (u : Unit {0}) (p : Parameter) (next : List TokenKind) → MoreLeft whole ps rest → mark_read mark.Comma rest ≡ Got u after
    → parameter_read after ≡ Got p next → MoreLeft whole (ps ++ p ∷ []) next
more_next whole ps rest after u p next l e f =
    let t = turned whole ps rest after u e l.turns l.enough l.same in
    let less = no_longer after next (parameter_sound after p next f) in
    record { turns = t.turns; enough = omega (arith, t.enough, less); same = sym (ap (λ v. v >>= λ q s. more_at t.turns (ps ++ q ∷ []) s) f) ∙ t.same }

pub more_not : (whole : Read (List Parameter)) (ps : List Parameter) (rest after : List TokenKind) (u : Unit {0}) → MoreLeft whole ps rest → mark_read mark.Comma rest ≡ Got u after → parameter_read after ≡ Not → whole ≡ Not
more_not whole ps rest after u l e f =
    let t = turned whole ps rest after u e l.turns l.enough l.same in
    sym t.same ∙ ap (λ v. v >>= λ q s. more_at t.turns (ps ++ q ∷ []) s) f

more_last : (n : ℕ) (ps : List Parameter) (rest : List TokenKind) → mark_read mark.Comma rest ≡ Not → more_at n ps rest ≡ Got ps rest
unfolding more_at
more_last zero ps rest e = refl
more_last (suc n) ps rest e = ap (λ v. if_got v (λ _ a. parameter_read a >>= λ p next. more_at n (ps ++ p ∷ []) next) (Got ps rest)) e

pub more_done : (whole : Read (List Parameter)) (ps : List Parameter) (rest : List TokenKind) → MoreLeft whole ps rest → mark_read mark.Comma rest ≡ Not → whole ≡ Got ps rest
more_done whole ps rest l e = sym l.same ∙ more_last l.turns ps rest e
