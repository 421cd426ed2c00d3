-- Crates above cite this module: causes of stops.
use Rattle.std.proofs.Common.{Option, Some, None, Result, Ok, Err, ◌≡◌, subst, sym}
use Rattle.std.specs.Prelude.{IfErr, IsErrAnd}
use Rattle.command_frame.specs.declared.stop.Stop.{Stop}
use Rattle.command_frame.specs.declared.stop.Stop.TheVariants as stop
use Rattle.command_frame.specs.Causes.{Cause, Plainly}
use Rattle.command_frame.specs.Stops.{scene_cause, WhereCause, StopsFor}

where_map : (P Q : Cause → Type 0) → ((cause : Cause) → P cause → Q cause) → (o : Option Cause) → WhereCause P o → WhereCause Q o
where_map P Q f None h = tt
where_map P Q f (Some cause) h = f cause h

-- a stop for a cause of which more holds
pub stops_map : (P Q : Cause → Type 0) → ((cause : Cause) → P cause → Q cause) → (s : Stop) → StopsFor P s → StopsFor Q s
stops_map P Q f stop.Memory h = tt
stops_map P Q f (stop.Refused refusal) h = f (Plainly refusal) h
stops_map P Q f (stop.Scene fault) h = where_map P Q f (scene_cause fault) h

-- what a `?` gives
pub stop_is : {T : Type 0} (P : Cause → Type 0) (r : Result T Stop) (s : Stop) → IsErrAnd r (λ e. e ≡ s) → StopsFor P s → IfErr r (StopsFor P)
stop_is P (Ok x) s h k = tt
stop_is P (Err e) s h k = subst (StopsFor P) (sym h) k
