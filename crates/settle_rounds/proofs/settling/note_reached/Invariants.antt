use Rattle.std.proofs.Common.{ℕ, ◌≡◌, ◌≤◌, Option}
use Rattle.std.proofs.Common.{slice_index_or as get_or}
use Rattle.settle_rounds.specs.declared.settling.Settled.{Settled}
use Rattle.settle_rounds.specs.References.{AreNoted}
use Rattle.settle_rounds.proofs.settling.note_reached.Given as goal

abbrev pub invariant-loop-place : goal.invariant-loop-place
invariant-loop-place l = record {
  noted : AreNoted l.rounds l.bounds l.place l.fn.settled l.settled;
  ahead : (i : ℕ) (o : Option Settled) → l.place ≤ i → get_or l.settled i o ≡ get_or l.fn.settled i o;
}
