-- Crates above cite this module: one firing's step in a stage of limited rise, and how stages join.
use Rattle.std.proofs.Common.{◌≡◌, ℕ, zero, suc, ◌≤◌, ◌<◌, ◌+◌, ◌-◌, ◌*◌, sym, subst, arith, ◌⊎◌, inl, inr, min}
use Rattle.std.proofs.Math.Nat.{mod-lt}
use Rattle.std.proofs.lemmas.Nat.{div-add-mod'}
use Rattle.growth_facts.specs.Turns.{turns_of}
use Rattle.fc_nodes.proofs.Standing.{below_or}
use Rattle.rise.specs.Stages.{Near, stage, climbed}
use Rattle.rise.specs.Laws.{StepInAStage, StageBegins, StageIsReached, StageByTurns}

pub rise_step : StepInAStage
rise_step m c r i q a b s goal last l o e (inl x) (inl y) = inl (omega (arith, e, x, y))
rise_step m c r i q a b s goal last l o e (inl x) (inr y) = by_case (below_or (b + s) goal)
  where
    by_case : (b + s < goal) ⊎ (goal ≤ b + s) → Near (climbed m c r i (suc q)) (min a (b + s)) last
    by_case (inl u) = inr (omega (arith, e, x, y.0, l, u), omega (arith, e, x, y.0, y.1, l, u, o))
    by_case (inr u) = inl (omega (arith, e, x, u, o))
rise_step m c r i q a b s goal last l o e (inr x) (inl y) = inr (omega (arith, e, x.0, x.1, y, o), omega (arith, e, x.1, o))
rise_step m c r i q a b s goal last l o e (inr x) (inr y) = inr (omega (arith, x.0, y.0, l), omega (arith, e, x.1, o))

pub stage_begins : StageBegins
stage_begins m c r i = omega arith

pub turns_enough : (c r : ℕ) → 1 ≤ r → c ≤ turns_of c r * r
turns_enough c r l =
    let whole = div-add-mod' (c + (r - 1)) r in
    let rest = mod-lt (c + (r - 1)) {m = r} (omega (arith, l)) in
    omega (arith, whole, rest, l)

pub stage_is_reached : (m c r i n : ℕ) → c ≤ n * r → climbed m c r i n ≡ stage m c (suc i)
stage_is_reached m c r i n h = omega (arith, h)

pub stage_reached : StageIsReached
stage_reached m c r i l = stage_is_reached m c r i (turns_of c r) (turns_enough c r l)

pub stage_by_turns : StageByTurns
stage_by_turns m c r i s goal value a b some l e at step start = subst (λ k. Near k (b (turns_of c r)) value) (stage_reached m c r i some) (run (turns_of c r))
  where
    run : (n : ℕ) → Near (climbed m c r i n) (b n) value
    run zero = subst (λ k. Near k (b 0) value) (sym (stage_begins m c r i)) start
    run (suc n) = subst (λ k. Near (climbed m c r i (suc n)) k value) (sym (step n)) (rise_step m c r i n (a n) (b n) s goal value l (omega (arith, some, l)) e (at n) (run n))
