-- Expressions at their places: as they are, or in round brackets.
use Rattle.std.proofs.Common.{ℕ, zero, suc, ◌≡◌, ◌+◌, ◌-◌, ◌≤◌, Bool, true, false, nat_lt, if◌then◌else◌, List, [], ◌∷◌, ◌++◌, codes, refl, subst, arith}
use Rattle.std.proofs.lemmas.Bool.Decides.{nat_tests}
use Rattle.fc_lexer.specs.declared.tokens.Mark.TheVariants as mark
use Rattle.fc_lexer.specs.Kinds.{TokenKind, MarkOf}
use Rattle.fc_syntax.specs.Terms.{SourceTerm}
use Rattle.fc_syntax.specs.Text.{strength, text, written, operand_text}
use Rattle.fc_parser.specs.Grammar.{Expression, Operation, operation, stronger, atom, bracket}
use Rattle.fc_parser.proofs.PrintedRuns.{InWord, InSpace, Meets, Inner, join, loose}
use Rattle.fc_parser.proofs.PrintedMarks.{open_round, close_round}

-- a text that is read as kinds of which P holds
pub record Printed (P : List TokenKind → Type 0) (printed : List ℕ) : Type 0 where
  pub ks : List TokenKind
  pub inner : Inner InWord printed ks
  pub starts : Meets InSpace printed
  pub derives : P ks

-- the kinds spell an expression of this strength at least
abbrev pub At : Bool → ℕ → List TokenKind → SourceTerm → Type 0
At second zero ks e = Expression second ks e
At second (suc n) ks e = Operation second (suc n) ks e

step : (second : Bool) (n : ℕ) (ks : List TokenKind) (e : SourceTerm) → At second (suc n) ks e → At second n ks e
step second zero ks e h = operation ks e h
step second (suc n) ks e h = stronger (suc n) ks e h

abbrev more : ℕ → ℕ → ℕ
more zero n = n
more (suc d) n = suc (more d n)

more_is : (d n : ℕ) → more d n ≡ d + n
more_is zero n = omega arith
more_is (suc d) n = omega (arith, more_is d n)

down : (second : Bool) (d n : ℕ) (ks : List TokenKind) (e : SourceTerm) → At second (more d n) ks e → At second n ks e
down second zero n ks e h = h
down second (suc d) n ks e h = down second d n ks e (step second (more d n) ks e h)

-- a stronger expression stands where a weaker one may
pub weaken : (second : Bool) (m n : ℕ) (ks : List TokenKind) (e : SourceTerm) → n ≤ m → At second m ks e → At second n ks e
weaken second m n ks e l h =
    let p : m ≡ more (m - n) n = omega (arith, more_is (m - n) n) in
    down second (m - n) n ks e (subst (λ k. At second k ks e) p h)

-- an expression as it is printed without brackets
abbrev pub PrintedTerm : Bool → SourceTerm → Type 0
PrintedTerm second e = Printed (λ ks. At second (strength e) ks e) (text e)

pub as_expression : (second : Bool) (e : SourceTerm) (p : PrintedTerm second e) → Expression second p.ks e
as_expression second e p = weaken second (strength e) 0 p.ks e (omega arith) p.derives

no_less : (a b : ℕ) → nat_lt a b ≡ false → b ≤ a
no_less a b h = grind (arith, nat_tests)

-- an operand at its place
pub placed_form : (second : Bool) (n : ℕ) (e : SourceTerm) → n ≤ 7 → PrintedTerm second e → Printed (λ ks. At second n ks e) (operand_text n (written e))
placed_form second n e l p = go (nat_lt (strength e) n) refl
  where
    go : (t : Bool) → nat_lt (strength e) n ≡ t → Printed (λ ks. At second n ks e) (if t then codes "(" ++ text e ++ codes ")" else text e)
    go true q = record {
      ks = MarkOf mark.OpenRound ∷ (p.ks ++ (MarkOf mark.CloseRound ∷ []));
      inner = loose (join open_round (join p.inner close_round refl) tt);
      starts = refl;
      derives = weaken second 7 n _ e l (atom 7 _ e refl (bracket p.ks e (as_expression second e p)));
    }
    go false q = record { ks = p.ks; inner = p.inner; starts = p.starts; derives = weaken second (strength e) n p.ks e (no_less (strength e) n q) p.derives }
