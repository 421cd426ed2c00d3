-- What the calls of a table owe the lock, and what they learn from it.
use Rattle.std.proofs.Common.{◌≡◌, ℕ, List, [], ◌∷◌, ◌++◌, refl, subst, Result, Ok, Err, IfOk, IfErr, OnOk}
use Rattle.turn_lock.specs.Passes.{PassView, Agrees, MayAnswer, wrote}
use Rattle.firing_core.specs.declared.entries.Edit.{Edit}
use Rattle.firing_core.specs.declared.entries.Entry.TheVariants as entry
use Rattle.firing_core.specs.declared.entries.EditFault.{EditFault}
use Rattle.firing_core.specs.declared.entries.EditFault.TheVariants as fault
use Rattle.firing_core.specs.Refusals.{TakesNone}
use Rattle.firing_core.specs.Entries.{BeginEntry, IdleEntry, EditEntry, edit_of}
use Rattle.export_table.specs.Items.{ItemValue}
use Rattle.export_table.specs.Answers.{answers}
use Rattle.export_table.specs.Holding.{HeldValue, list_of, log_in, core_in}
use Rattle.export_table.specs.declared.firing.Pause.{Pause}
use Rattle.export_table.specs.Firings.{FiringValue}
use Rattle.export_table.specs.Passing.{TableValue, IsPassOf, on_log}
use Rattle.export_table.specs.Turns.{Begins, Pauses, EditsIn, RefusesIn, Began, Paused, Edited, Refused, KeepsFirings}
use Rattle.export_table.proofs.Flying.{begin_not_end, idle_not_end, edit_not_end}
use Rattle.export_table.proofs.OwnFirings.{firing_stays}
use Rattle.export_table.proofs.Turning as turning

-- the list gets one item more, which the pass may add
abbrev Adds : HeldValue → HeldValue → List (ℕ × ItemValue) → Type 0
Adds x y mine = (i : ItemValue) × (list_of y ≡ list_of x ++ i ∷ []) × MayAnswer answers (list_of x) mine i

module _ (x y : HeldValue) where
  pub next_adds : (mine : List (ℕ × ItemValue)) (r : Result FiringValue Pause) → IfOk r (Begins x y) → IfErr r (Pauses x y) → Adds x y mine
  next_adds mine (Ok f) ok err = turning.adds_plain x y (entry.Begin f.device) mine ok.turned refl
  next_adds mine (Err p) ok err = turning.adds_plain x y entry.Idle mine (turning.idle_turn x y p err) refl

  module _ (t : TableValue) (v w : PassView ItemValue) (k : IsPassOf t v) (a : Agrees list_of answers v x) (item : ItemValue) (left : list_of y ≡ w.seen) (view : w ≡ wrote v (list_of x) item) where
    pub next_pass : (r : Result FiringValue Pause) → IfOk r (Begins x y) → IfErr r (Pauses x y) → IsPassOf t w
    next_pass (Ok f) ok err = turning.still_pass t v x k a y w item left view (entry.Begin f.device) ok.turned
    next_pass (Err p) ok err = turning.still_pass t v x k a y w item left view entry.Idle (turning.idle_turn x y p err)

    pub next_keeps : (r : Result FiringValue Pause) → IfOk r (Begins x y) → IfErr r (Pauses x y) → KeepsFirings t.opening (on_log v) (on_log w)
    next_keeps (Ok f) ok err place g own = firing_stays t.opening (on_log v) (on_log w) (log_in x) (core_in x) (BeginEntry f.device) place g (turning.took_turn t v x k a y w item left view (entry.Begin f.device) ok.turned) (begin_not_end f.device g.snap.device) own
    next_keeps (Err p) ok err place g own = firing_stays t.opening (on_log v) (on_log w) (log_in x) (core_in x) IdleEntry place g (turning.took_turn t v x k a y w item left view entry.Idle (turning.idle_turn x y p err)) (idle_not_end g.snap.device) own

    pub next_began : (r : Result FiringValue Pause) → IfOk r (Begins x y) → IfOk r (Began t.opening (on_log v) (on_log w))
    next_began (Ok f) ok = turning.began t v x k a y w item left view f ok
    next_began (Err p) ok = tt

    pub next_paused : (r : Result FiringValue Pause) → IfErr r (Pauses x y) → IfErr r (Paused t.opening (on_log v) (on_log w))
    next_paused (Ok f) err = tt
    next_paused (Err p) err = turning.paused t v x k a y w item left view p err

module _ (x y : HeldValue) (e : Edit) where
  pub edit_adds : (mine : List (ℕ × ItemValue)) (r : Result (Unit {0}) EditFault) → OnOk r (EditsIn x y e) → IfErr r (RefusesIn x y (edit_of e)) → Adds x y mine
  edit_adds mine (Ok u) ok err = turning.adds_plain x y (entry.Edit e) mine ok.turned refl
  edit_adds mine (Err f) ok err = turning.adds_plain x y entry.Idle mine err.turned refl

  pub edit_takes : (r : Result (Unit {0}) EditFault) → IfErr r (RefusesIn x y (edit_of e)) → r ≡ Err fault.Memory → TakesNone (edit_of e) → ⊥
  edit_takes r err is none = let h = subst (λ q. IfErr q (RefusesIn x y (edit_of e))) is err in h.refused none

  module _ (t : TableValue) (v w : PassView ItemValue) (k : IsPassOf t v) (a : Agrees list_of answers v x) (item : ItemValue) (left : list_of y ≡ w.seen) (view : w ≡ wrote v (list_of x) item) where
    pub edit_pass : (r : Result (Unit {0}) EditFault) → OnOk r (EditsIn x y e) → IfErr r (RefusesIn x y (edit_of e)) → IsPassOf t w
    edit_pass (Ok u) ok err = turning.still_pass t v x k a y w item left view (entry.Edit e) ok.turned
    edit_pass (Err f) ok err = turning.still_pass t v x k a y w item left view entry.Idle err.turned

    pub edit_keeps : (r : Result (Unit {0}) EditFault) → OnOk r (EditsIn x y e) → IfErr r (RefusesIn x y (edit_of e)) → KeepsFirings t.opening (on_log v) (on_log w)
    edit_keeps (Ok u) ok err place g own = firing_stays t.opening (on_log v) (on_log w) (log_in x) (core_in x) (EditEntry (edit_of e)) place g (turning.took_turn t v x k a y w item left view (entry.Edit e) ok.turned) (edit_not_end (edit_of e) g.snap.device) own
    edit_keeps (Err f) ok err place g own = firing_stays t.opening (on_log v) (on_log w) (log_in x) (core_in x) IdleEntry place g (turning.took_turn t v x k a y w item left view entry.Idle err.turned) (idle_not_end g.snap.device) own

    pub edit_edited : (r : Result (Unit {0}) EditFault) → OnOk r (EditsIn x y e) → OnOk r (Edited t.opening (on_log v) (on_log w) (edit_of e))
    edit_edited (Ok u) ok = turning.edited t v x k a y w item left view e ok
    edit_edited (Err f) ok = tt

    pub edit_refused : (r : Result (Unit {0}) EditFault) → IfErr r (RefusesIn x y (edit_of e)) → IfErr r (Refused t.opening (on_log v) (on_log w) (edit_of e))
    edit_refused (Ok u) err = tt
    edit_refused (Err f) err = turning.refused t v x k a y w item left view (edit_of e) f err
