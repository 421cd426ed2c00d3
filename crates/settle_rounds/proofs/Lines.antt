-- What the bounds of lines promise.
use Rattle.std.proofs.Common.{◌≡◌, ◌⊎◌, ℕ, sym, ◌∙◌, subst, arith, true, false, Some, inl, inr}
use Rattle.fc_values.specs.Trees.{TreeExport}
use Rattle.fc_nodes.specs.Program.{Unfolding, unfolding_of}
use Rattle.firing_core.specs.Cores.{Core}
use Rattle.value_bounds.specs.BoundValues.{BoundValue, Lies}
use Rattle.envelopes.specs.Envelopes.{Envelope, surely_lives}
use Rattle.bound_rounds.specs.Rounds.{BoundTable, rounds_within, HasBound}
use Rattle.settle_rounds.specs.Rounds.{any_table}
use Rattle.settle_rounds.specs.Within.{StandsIn, BoundsHoldWithin, BoundsHoldWithinFrom, StartsHoldWithin}
use Rattle.settle_rounds.specs.Lines.{LiesAt, LinesHold, LinesHoldAnyhow, StartsStay}

-- what stands in the bound of a line lies there
bound_holds : (U : Unfolding) (E : Envelope) (table : BoundTable) (r d : ℕ) (b : BoundValue) (last : Core)
    → HasBound U E table r d b → StandsIn U (rounds_within U E table r d) (last.exports d) → LiesAt E d b last
bound_holds U E table r d b last h s = record {
  value = λ e q. subst (λ x. Lies x e.value) h.is (s.lies e q).value;
  there = λ g. by_cases g h.there;
}
  where
    by_cases : surely_lives E d ≡ true → ((rounds_within U E table r d).sure ≡ true) ⊎ (surely_lives E d ≡ false)
        → (e : TreeExport) × (last.exports d ≡ Some e)
    by_cases g (inl t) = s.sure t
    by_cases g (inr u) = let z : false ≡ true = sym u ∙ g in absurd cc

pub lines_hold : BoundsHoldWithinFrom → StartsHoldWithin → LinesHold
lines_hold from starts P E program envelope start last good most table is r d b l h m le log =
    let t = (starts P E program start good most).hold table is in
    bound_holds (unfolding_of P) E table r d b last h
    (from P E program envelope table t.closed start last good t.holds r m d l le log)

pub lines_hold_anyhow : BoundsHoldWithin → LinesHoldAnyhow
lines_hold_anyhow hold P E program envelope start last good r d b l h m le log =
    bound_holds (unfolding_of P) E (any_table (unfolding_of P)) r d b last h
    ((hold P E program envelope start last good m d l log).bounds r le)

pub starts_stay : BoundsHoldWithinFrom → StartsHoldWithin → StartsStay
starts_stay from starts P E program envelope start last good most table is d l m log e q =
    let t = (starts P E program start good most).hold table is in
    let s = from P E program envelope table t.closed start last good t.holds 0 m d l (omega arith) log in
    (s.lies e q).value
