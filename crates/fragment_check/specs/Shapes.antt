-- What a pattern says of the body that has it.
use Rattle.std.specs.Prelude.{ℕ, suc, true, false, ◌≡◌, ◌≤◌, ◌+◌, ◌⊎◌}
use Rattle.fc_values.specs.declared.builtins.Builtin.TheVariants as op
use Rattle.fc_values.specs.Types.{LocalType, IntType, ValueType, TypeLocal}
use Rattle.fc_values.specs.BuiltinTypes.{HasRule}
use Rattle.fc_nodes.specs.Typing.{types_of}
use Rattle.fc_nodes.specs.Terms.{Variable, Evolution, ByRep, Term, Terms, Plain, Apply, Nbr, Evolve, If, Let, NoMore, More, size}
use Rattle.interval_facts.specs.Ranges.{RangeValue}
use Rattle.fc_nodes.specs.Variables.{is_variable, occurs, is_own, is_heard}
use Rattle.growth_facts.specs.Leads.{least_integer, greatest_integer}
use Rattle.growth_facts.specs.Growth.{Grows, growth_of}
use Rattle.growth_facts.specs.Beside.{Shallow}
use Rattle.fragment_check.specs.declared.kinds.Pattern.{Pattern}
use Rattle.fragment_check.specs.declared.kinds.Pattern.TheVariants as pattern
use Rattle.fragment_check.specs.Patterns.{is_pair_range}

-- the variable of the binder at place q, of type int
abbrev pub int_of : ℕ → Term
int_of q = Plain (TypeLocal IntType) (Variable q)

-- `mux(nbr{q} < q, h, s)`, where h is what is heard of x, and q and s are without x
pub data IsGuard (e : Evolution) (x q : ℕ) : Term → Type 0 where
  guards : (t u v : ValueType) (h s : Term) → is_heard e x h ≡ true → is_variable x (Variable q) ≡ false
      → occurs x s ≡ false
      → IsGuard e x q (Apply t op.Mux (More (Apply u op.Less (More (Nbr v (int_of q)) (More (int_of q) NoMore)))
      (More h (More s NoMore))))

-- each occurrence of x is guarded by q, under builtins alone
abbrev mutual
  pub Guarded : Evolution → ℕ → ℕ → Term → Type 0
  Guarded e x q (Apply t o xs) = HasRule o (types_of xs) t × (IsGuard e x q (Apply t o xs) ⊎ AllGuarded e x q xs)
  Guarded e x q (Plain t l) = is_variable x l ≡ false
  Guarded e x q (Nbr t a) = occurs x (Nbr t a) ≡ false
  Guarded e x q (Evolve t f a u) = occurs x (Evolve t f a u) ≡ false
  Guarded e x q (If t c u w) = occurs x (If t c u w) ≡ false
  Guarded e x q (Let t a u) = occurs x (Let t a u) ≡ false

  pub AllGuarded : Evolution → ℕ → ℕ → Terms → Type 0
  AllGuarded e x q NoMore = Unit {0}
  AllGuarded e x q (More t ts) = Guarded e x q t × AllGuarded e x q ts

-- The body at place p of a `rep` or `share` with the variable x and values of type s has a pattern. m is the ceiling,
-- and R has the ranges by places.
pub data HasPattern (m : ℕ) (R : ℕ → RangeValue) (e : Evolution) (x p : ℕ) (s : LocalType) : Term → Pattern
    → Type 0 where
  constant : (u : Term) → occurs x u ≡ false → HasPattern m R e x p s u pattern.Constant
  acyclic : (u : Term) (q : ℕ) → occurs x u ≡ true → Shallow e x s u → Guarded e x q u
      → HasPattern m R e x p s u (pattern.Acyclic q)
  minimising : (t : ValueType) (h l : Term) (c : ℕ)
      → occurs x (Apply t op.MinHoodLoc (More h (More l NoMore))) ≡ true → occurs x l ≡ false
      → Shallow e x s (Apply t op.MinHoodLoc (More h (More l NoMore)))
      → growth_of m R e x (suc p) h ≡ Grows c → 1 ≤ c
      → (is_pair_range (R (suc p + size h)) ≡ true → greatest_integer (R (suc p + size h)) ≡ m → ⊥)
      → HasPattern m R e x p s (Apply t op.MinHoodLoc (More h (More l NoMore)))
      (pattern.Minimising (greatest_integer (R (suc p + size h))) c)
  rising : (t u : ValueType) (h l own w : Term) (c : ℕ) → e ≡ ByRep
      → HasRule op.Rise (types_of (More (Apply u op.MinHoodLoc (More h (More l NoMore))) (More own (More w NoMore)))) t
      → is_own x own ≡ true → occurs x l ≡ false → occurs x w ≡ false
      → Shallow e x s (Apply u op.MinHoodLoc (More h (More l NoMore))) → Shallow e x s w
      → growth_of m R e x (suc (suc p)) h ≡ Grows c → 1 ≤ c
      → 1 ≤ least_integer (R (suc (suc (suc p + size h + size l))))
      → HasPattern m R e x p s (Apply t op.Rise (More (Apply u op.MinHoodLoc (More h (More l NoMore)))
      (More own (More w NoMore))))
      (pattern.Rising (greatest_integer (R (suc (suc p) + size h))) c
      (least_integer (R (suc (suc (suc p + size h + size l))))))
