use Rattle.std.proofs.Common.{◌≡◌, length, All, Option, None}
use Rattle.settle_rounds.specs.declared.settling.Settled.{Settled}
use Rattle.settle_rounds.proofs.settling.none_settled.Given as goal

abbrev pub invariant-loop : goal.invariant-loop
invariant-loop l = record {
  many : length l.settled.items ≡ l.counter;
  none : All (λ (o : Option Settled). o ≡ None) l.settled.items;
}
