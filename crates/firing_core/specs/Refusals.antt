-- Why a core refuses an edit.
use Rattle.std.specs.Prelude.{◌≡◌, Some}
use Rattle.firing_core.specs.declared.entries.EditFault.{EditFault}
use Rattle.firing_core.specs.declared.entries.EditFault.TheVariants as edit_refusal
use Rattle.firing_core.specs.Entries.{EditValue, LinkEdit, UnlinkEdit, SetEdit, PokeEdit, JoinEdit, LeaveEdit}
use Rattle.firing_core.specs.Cores.{Core, edit_fault}

-- the edits that take no memory
abbrev pub TakesNone : EditValue → Type 0
TakesNone (LinkEdit a b w) = Unit {0}
TakesNone (UnlinkEdit a b) = Unit {0}
TakesNone (SetEdit d i v) = Unit {0}
TakesNone (PokeEdit d e) = ⊥
TakesNone (JoinEdit x) = ⊥
TakesNone (LeaveEdit d) = Unit {0}

-- an edit has no step from a core, for this reason; want of memory needs no reason for the edits that take memory
abbrev pub RefusesEdit : Core → EditValue → EditFault → Type 0
RefusesEdit c e (edit_refusal.Net f) = edit_fault c e ≡ Some f
RefusesEdit c e edit_refusal.Memory = TakesNone e → ⊥
