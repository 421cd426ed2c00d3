-- An edit among the firings of a round.
use Rattle.std.specs.Prelude.{ℕ, Bool, ◌≡◌, ◌≤◌, List, ◌∷◌, ◌++◌, false, Result, OnOk, IfErr}
use Rattle.fc_nodes.specs.Program.{unfolding_of}
use Rattle.topology.specs.Networks.{numbers}
use Rattle.firing_core.specs.declared.entries.EditFault.{EditFault}
use Rattle.firing_core.specs.declared.entries.EditFault.TheVariants as edit_refusal
use Rattle.firing_core.specs.Entries.{EditValue, EntryValue, BeginEntry, EndEntry, EditEntry, edit_of, entries_of}
use Rattle.firing_core.specs.Cores.{Core, Run, EditFits}
use Rattle.firing_core.specs.CoreViews.{core_of}
use Rattle.firing_core.specs.Books.{BookValue}
use Rattle.firing_core.specs.Rounds.{has_edit, HasEnd}
use Rattle.firing_core.specs.Stretches.{IsSmallest}
use Rattle.turn_lock.specs.Logs.{StartsWith}
use Rattle.turn_lock.specs.Passes.{PassView}
use Rattle.export_table.specs.Items.{Opening, ItemValue}
use Rattle.export_table.specs.Passing.{TableValue, IsPassOf, on_log}
use Rattle.export_table.specs.Turns.{TookTurn, Rested, Edited, Refused, CanEnd}
use Rattle.worker_pool.specs.declared.mixes.Mix.{Mix}
use Rattle.worker_pool.specs.Pacing.{IsOrdered}
use Rattle.worker_pool.specs.Rounding.{AtMost}

-- the pass v is w after turns. It has seen more, and every pass that was split off came back
pub record WentOn (v w : PassView EntryValue) : Type 0 where
  pub name : w.name ≡ v.name
  pub out : w.out ≡ v.out
  pub begins : StartsWith w.seen v.seen

-- the pass v can't take a turn that begins nothing
abbrev pub NeverRests : Opening → PassView EntryValue → Type 0
NeverRests o v = (w : PassView EntryValue) (is_over : Bool) → Rested o v w is_over → ⊥

-- the pass v took two turns: it edited the book, and then ended a firing of a device
pub record EditedThenEnded (o : Opening) (v w : PassView EntryValue) (e : EditValue) (d : ℕ) : Type 0 where
  pub middle : PassView EntryValue
  pub edited : Edited o v middle e
  pub before : List EntryValue
  pub core : Core
  pub ended : TookTurn o middle w before core (EndEntry d)

-- a pass of a table may put an edit in and then end a firing
pub record MayMix (t : TableValue) (v : PassView ItemValue) (m : Mix) : Type 0 where
  pub own : IsPassOf t v
  pub some : 2 ≤ v.left
  pub fits : EditFits (unfolding_of t.opening.program) (edit_of m.edit)
  pub may_end : CanEnd t.opening (on_log v) m.firing

-- the pass v didn't do both: the core refused the edit at a turn, or memory was wanting
abbrev pub Stopped : Opening → PassView EntryValue → PassView EntryValue → EditValue → EditFault → Type 0
Stopped o v w e (edit_refusal.Net f) = Refused o v w e (edit_refusal.Net f)
Stopped o v w e edit_refusal.Memory = Unit {0}

-- it did, or stopped
pub record MixedIn (t : TableValue) (v w : PassView ItemValue) (m : Mix) (r : Result (Unit {0}) EditFault) : Type 0 where
  pub own : IsPassOf t w
  pub went : WentOn (on_log v) (on_log w)
  pub mixed : OnOk r (EditedThenEnded t.opening (on_log v) (on_log w) (edit_of m.edit) m.firing.snap.device)
  pub stopped : IfErr r (Stopped t.opening (on_log v) (on_log w) (edit_of m.edit))

-- A table let workers fire, with an edit between the begin of the smallest device, which is the first, and that
-- device's next end. Devices began firings in turn, each at most one.
pub record MixedTogether (old : BookValue) (e : EditValue) (new : BookValue) : Type 0 where
  pub program : new.program ≡ old.program
  pub start : new.start ≡ old.start
  pub first : ℕ
  pub among : List EntryValue
  pub after : List EntryValue
  pub log : entries_of new.log ≡ entries_of old.log ++ (BeginEntry first ∷ among ++ EditEntry e ∷ after)
  pub leads : Run (unfolding_of old.program) (core_of old.core) (BeginEntry first ∷ among ++ EditEntry e ∷ after)
      (core_of new.core)
  pub smallest : IsSmallest (core_of old.core).net first
  pub flies : HasEnd first among → ⊥
  pub plain_among : has_edit among ≡ false
  pub plain_after : has_edit after ≡ false
  pub once : AtMost 1 (core_of old.core).net (BeginEntry first ∷ among ++ EditEntry e ∷ after)
  pub ordered : IsOrdered (numbers old.core.net.devices) (BeginEntry first ∷ among ++ EditEntry e ∷ after)
  pub devices : numbers (core_of new.core).net.devices ≡ numbers (core_of old.core).net.devices
