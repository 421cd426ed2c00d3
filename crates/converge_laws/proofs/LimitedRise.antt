-- One firing's step in a stage of limited rise.
use Rattle.std.proofs.Common.{◌≡◌, ℕ, zero, suc, ◌≤◌, ◌+◌, ◌*◌, refl, sym, ◌∙◌, ap, subst, arith, inl, inr, [], ◌∷◌, Some, ◌/◌, ◌-◌, min}
use Rattle.fc_values.specs.declared.builtins.Builtin.TheVariants as op
use Rattle.fc_values.specs.Values.{LocalValue, IntValue, BoolValue, PairValue}
use Rattle.fc_values.specs.Builtins.{local_value}
use Rattle.growth_facts.specs.Leads.{lead, Close}
use Rattle.growth_facts.specs.Turns.{turns_of, steps_of, rounds_of}
use Rattle.rise.specs.Stages.{Near, climbed}
use Rattle.rise.proofs.Climbing.{stage_begins, stage_is_reached, turns_enough}

-- a stage begins where the one before is reached
pub rise_begins : (m c r i n : ℕ) → c ≤ n * r → climbed m c r (suc i) 0 ≡ climbed m c r i n
rise_begins m c r i n h = stage_begins m c r (suc i) ∙ sym (stage_is_reached m c r i n h)

-- a stage has a firing
pub turns_some : (c r : ℕ) → 1 ≤ c → 1 ≤ r → 1 ≤ turns_of c r
turns_some c r k h = by_size (turns_of c r) (turns_enough c r h)
  where
    by_size : (n : ℕ) → c ≤ n * r → 1 ≤ n
    by_size zero l = absurd (omega (arith, l, k))
    by_size (suc n) l = omega arith

-- what `rise` makes of integers
pub record IsRise (a b s r : LocalValue) : Type 0 where
  pub target : a ≡ IntValue (lead a)
  pub last : b ≡ IntValue (lead b)
  pub step : s ≡ IntValue (lead s)
  pub is : r ≡ IntValue (min (lead a) (lead b + lead s))

pub rise_is : (m : ℕ) (a b s r : LocalValue) → local_value op.Rise m (a ∷ b ∷ s ∷ []) ≡ Some r → IsRise a b s r
rise_is m (IntValue a) (IntValue b) (IntValue s) r e = record { target = refl; last = refl; step = refl; is = let z : IntValue (min a (b + s)) ≡ r = cc in sym z }
rise_is m (BoolValue a) b s r e = absurd cc
rise_is m (PairValue a z) b s r e = absurd cc
rise_is m (IntValue a) (BoolValue b) s r e = absurd cc
rise_is m (IntValue a) (PairValue b z) s r e = absurd cc
rise_is m (IntValue a) (IntValue b) (BoolValue s) r e = absurd cc
rise_is m (IntValue a) (IntValue b) (PairValue s z) r e = absurd cc

-- closeness of integers is that of values
pub apart_close : (k : ℕ) (v w : LocalValue) → v ≡ IntValue (lead v) → w ≡ IntValue (lead w) → Near k (lead v) (lead w) → Close k v w
apart_close k v w e f (inl q) = inl (e ∙ ap IntValue q ∙ sym f)
apart_close k v w e f (inr h) = inr h

pub close_apart : (k : ℕ) (v w : LocalValue) → Close k v w → Near k (lead v) (lead w)
close_apart k v w (inl q) = inl (ap lead q)
close_apart k v w (inr h) = inr h

-- the rounds of all stages
pub rise_rounds : (top most c r k : ℕ) → turns_of c r ≡ suc k → top ≡ most → rounds_of top c r ≡ k + (most / c) * (suc k + 1)
rise_rounds top most c r k turns same = by_turns (turns_of c r) turns ∙ ap (λ (x : ℕ). k + (x / c) * (suc k + 1)) same
  where
    less_one : (n : ℕ) → suc n - 1 ≡ n
    less_one n = omega arith

    by_turns : (n : ℕ) → n ≡ suc k → (n - 1) + (steps_of top c - 1) * (n + 1) ≡ k + (top / c) * (suc k + 1)
    by_turns n q = subst (λ x. (x - 1) + (steps_of top c - 1) * (x + 1) ≡ k + (top / c) * (suc k + 1)) (sym q)
        (ap (λ x. x + (steps_of top c - 1) * (suc k + 1)) (less_one k) ∙ ap (λ x. k + x * (suc k + 1)) (less_one (top / c)))

pub climb_rounds : (top c n : ℕ) → n * (steps_of top c - 1) ≡ (top / c) * n
climb_rounds top c n = ap (λ x. n * x) (less_one (top / c)) ∙ omega arith
  where
    less_one : (n : ℕ) → suc n - 1 ≡ n
    less_one n = omega arith
