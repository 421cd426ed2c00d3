use Rattle.std.proofs.Common.{rules, of_calls, ◌≡◌, ◌-◌, ◌≤◌, ℕ, List, length, take, drop, nat_lt, nat_le}
use Rattle.std.proofs.Common.{true, false, refl, sym, subst}
use Rattle.std.specs.List.Sorted.{IsPartitionPoint, IsNonDecreasingBy}
use Rattle.std.proofs.lemmas.Fn.{always_returns_same}
use Rattle.std.proofs.lemmas.List.Sorted.{IsPartitionedBy-ltb, IsPartitionedBy-leb}
use Rattle.std.proofs.lemmas.List.Sorted.{IsNonDecreasingBy-take, IsNonDecreasingBy-drop}
use Rattle.walks.specs.declared.types.WalkStep.{WalkStep}
use Rattle.walks.proofs.Spans.{steps_rise, cut_in, cut_from, cut_all, cut_order}
use Rattle.walks.proofs.lookups.steps_from.Goals as goal

-- what the two searches found, of the steps: they are read twice, as xs and as ys
module _ (c : goal.After-partition_point-count) where
  abbrev xs : List WalkStep
  xs = c.args.costs.now.steps.items

  abbrev ys : List WalkStep
  ys = c.deref-2.result.now

  abbrev first : ℕ
  first = c.partition_point-first.result

  rise : (zs : List WalkStep) → zs ≡ xs → IsNonDecreasingBy (λ (s : WalkStep). s.from) zs
  rise zs e = subst (IsNonDecreasingBy (λ (s : WalkStep). s.from)) (sym e) (steps_rise xs c.requires.order)

  within : first ≤ length xs
  within = subst (λ (zs : List WalkStep). first ≤ length zs) c.deref.ensures.value c.partition_point-first.ensures.bound

  before : IsPartitionPoint (λ (s : WalkStep). nat_lt s.from c.args.device ≡ true)
      (λ (s : WalkStep). nat_lt s.from c.args.device ≡ false) xs first
  before = subst (λ zs. IsPartitionPoint (λ (s : WalkStep). nat_lt s.from c.args.device ≡ true)
      (λ (s : WalkStep). nat_lt s.from c.args.device ≡ false) zs first) c.deref.ensures.value
      (c.partition_point-first.ensures.partitioned (λ (s : WalkStep). nat_lt s.from c.args.device)
      (always_returns_same _ _ _ (λ a r f k. search (rules, of_calls)))
      (IsPartitionedBy-ltb (λ (s : WalkStep). s.from) c.deref.result.now c.args.device
      (rise c.deref.result.now c.deref.ensures.value)))

  behind : IsPartitionPoint (λ (s : WalkStep). nat_le s.from c.args.device ≡ true)
      (λ (s : WalkStep). nat_le s.from c.args.device ≡ false) (take (length ys - first) (drop first ys))
      c.partition_point-count.result
  behind = c.partition_point-count.ensures.partitioned (λ (s : WalkStep). nat_le s.from c.args.device)
      (always_returns_same _ _ _ (λ a r f k. search (rules, of_calls)))
      (IsPartitionedBy-leb (λ (s : WalkStep). s.from) (take (length ys - first) (drop first ys)) c.args.device
      (IsNonDecreasingBy-take (λ (s : WalkStep). s.from) (length ys - first) (drop first ys)
      (IsNonDecreasingBy-drop (λ (s : WalkStep). s.from) first ys (rise ys c.deref-2.ensures.value))))

pub returns-clause-steps : goal.returns-clause-steps
returns-clause-steps c = cut_in (xs c) (ys c) (first c) c.partition_point-count.result c.deref-2.ensures.value

pub returns-clause-order : goal.returns-clause-order
returns-clause-order c =
    cut_order (xs c) (ys c) (first c) c.partition_point-count.result c.deref-2.ensures.value c.requires.order

pub returns-clause-from : goal.returns-clause-from
returns-clause-from c =
    cut_from (xs c) (ys c) c.args.device (first c) c.partition_point-count.result c.deref-2.ensures.value
    (within c) (before c) (behind c)

pub returns-clause-all : goal.returns-clause-all
returns-clause-all c = λ to cost h.
    cut_all (xs c) (ys c) c.args.device (first c) c.partition_point-count.result c.deref-2.ensures.value
    (within c) (before c) (behind c) (record { from = c.args.device; to = to; cost = cost }) refl h
