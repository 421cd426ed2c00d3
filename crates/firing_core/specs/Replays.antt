-- Steps as a function, and why an entry has no step. The function is for entries that fit: of those it is the relation,
-- as the law `steps_agree` says, and of others it says nothing.
use Rattle.std.specs.Prelude.{ℕ, ◌≡◌, List, [], ◌∷◌, ◌++◌, length, Option, Some, None, Bool, true, false}
use Rattle.fc_values.specs.Fields.{AnyValue, ValueLocal, ValueField}
use Rattle.fc_values.specs.Trees.{Tree, TreeExport, Copy}
use Rattle.fc_nodes.specs.Program.{Unfolding}
use Rattle.device_eval.specs.Evaluation.{Outcome, eval_of}
use Rattle.device_eval.specs.Copies.{situation_of, env_of}
use Rattle.firing_core.specs.declared.entries.StepFault.{StepFault}
use Rattle.firing_core.specs.declared.entries.StepFault.TheVariants as fault
use Rattle.topology.specs.declared.types.NetFault.{NetFault}
use Rattle.topology.specs.Networks.{lives}
use Rattle.firing_core.specs.Entries.{EntryValue, BeginEntry, EndEntry, IdleEntry, EditEntry}
use Rattle.firing_core.specs.Cores.{Core, Run, begun, ended, edit_fault, EditFits, edited}

abbrev pub export_with : AnyValue → Tree → Option TreeExport
export_with (ValueLocal v) tree = Some (record { value = v; tree = tree })
export_with (ValueField es) tree = None

abbrev pub export_from : Outcome → Option TreeExport
export_from None = None
export_from (Some r) = export_with r.0 r.1

-- the export of a copy, or none where evaluation is stuck
abbrev pub evaluated : Unfolding → Copy → Option TreeExport
evaluated U s = export_from (eval_of (situation_of U.declared s) 0 U.main [] (env_of s))

-- why a begin, and an end, of a device has no step
abbrev pub begin_fault : Bool → Option Copy → Option StepFault
begin_fault false flight = Some fault.NoDevice
begin_fault true None = None
begin_fault true (Some s) = Some fault.Flying

abbrev pub end_fault : Bool → Option Copy → Option StepFault
end_fault false flight = Some fault.NoDevice
end_fault true None = Some fault.NotFlying
end_fault true (Some s) = None

abbrev pub fault_of : Core → EntryValue → Option StepFault
fault_of c (BeginEntry d) = begin_fault (lives c.net d) (c.flying d)
fault_of c (EndEntry d) = end_fault (lives c.net d) (c.flying d)
fault_of c IdleEntry = None
fault_of c (EditEntry e) = None

-- why an edit among the entries has no step
abbrev pub net_fault_of : Core → EntryValue → Option NetFault
net_fault_of c (BeginEntry d) = None
net_fault_of c (EndEntry d) = None
net_fault_of c IdleEntry = None
net_fault_of c (EditEntry e) = edit_fault c e

-- the exports that are poked are of the program, and the devices that join have numbers of at most 65,535
abbrev pub EntryFits : Unfolding → EntryValue → Type 0
EntryFits U (BeginEntry d) = Unit {0}
EntryFits U (EndEntry d) = Unit {0}
EntryFits U IdleEntry = Unit {0}
EntryFits U (EditEntry e) = EditFits U e

abbrev pub LogFits : Unfolding → List EntryValue → Type 0
LogFits U [] = Unit {0}
LogFits U (e ∷ es) = EntryFits U e × LogFits U es

-- the core after an entry, or none where it has no step
abbrev pub flown : Option TreeExport → Core → ℕ → Option Core
flown None c d = None
flown (Some e) c d = Some (ended c d e)

abbrev pub landed : Unfolding → Option Copy → Core → ℕ → Option Core
landed U None c d = None
landed U (Some s) c d = flown (evaluated U s) c d

abbrev pub unless : {F : Type 0} → Option F → Option Core → Option Core
unless None next = next
unless (Some f) next = None

abbrev pub step_of : Unfolding → Core → EntryValue → Option Core
step_of U c (BeginEntry d) = Some (begun c.exports c d)
step_of U c (EndEntry d) = landed U (c.flying d) c d
step_of U c IdleEntry = Some c
step_of U c (EditEntry e) = Some (edited U c e)

abbrev pub step : Unfolding → Core → EntryValue → Option Core
step U c e = unless (fault_of c e) (unless (net_fault_of c e) (step_of U c e))

abbrev pub and_replay : Option Core → (Core → Option Core) → Option Core
and_replay None f = None
and_replay (Some c) f = f c

-- the core to which a log leads, or none where an entry has no step
abbrev pub replay : Unfolding → Core → List EntryValue → Option Core
replay U c [] = Some c
replay U c (e ∷ es) = and_replay (step U c e) (λ next. replay U next es)

-- the entry at an index is the first that has no step, and this is so of the core before it
pub record FailsAt (U : Unfolding) (c : Core) (log : List EntryValue) (index : ℕ)
    (refused : Core → EntryValue → Type 0) : Type 0 where
  pub front : List EntryValue
  pub entry : EntryValue
  pub rest : List EntryValue
  pub cut : log ≡ front ++ entry ∷ rest
  pub place : index ≡ length front
  pub before : Core
  pub runs : Run U c front before
  pub refuses : refused before entry
