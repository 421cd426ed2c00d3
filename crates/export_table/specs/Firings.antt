-- A firing that a shared table began, and what its begin took.
use Rattle.std.specs.Prelude.{ℕ, ◌≡◌, List, [], ◌∷◌, ◌++◌, length}
use Rattle.fc_values.specs.Trees.{Copy}
use Rattle.fc_nodes.specs.Program.{Unfolding, unfolding_of}
use Rattle.value_trees.specs.Snaps.{IsSnap}
use Rattle.value_trees.specs.declared.copies.Snap.{Snap}
use Rattle.firing_core.specs.Entries.{EntryValue, BeginEntry}
use Rattle.firing_core.specs.Cores.{Core, Run, copy_of}
use Rattle.firing_core.specs.CoreViews.{core_of}
use Rattle.turn_lock.specs.Logs.{StartsWith}
use Rattle.export_table.specs.Items.{Opening}

-- the device that began, the place of its begin in the log of the book, and the copy that the begin took
pub record FiringValue : Type 0 where
  pub device : ℕ
  pub place : ℕ
  pub snap : Snap

-- both are copies of a program
abbrev pub AreCopies : Unfolding → Snap × Snap → Type 0
AreCopies U s = IsSnap U s.0 × IsSnap U s.1

-- the copy that the begin at a place of a log took: the one of its device in the core to which the log led then
pub record IsCopyAt (o : Opening) (log : List EntryValue) (place : ℕ) (s : Copy) : Type 0 where
  pub front : List EntryValue
  pub core : Core
  pub begins : StartsWith log (front ++ BeginEntry s.device ∷ [])
  pub place_is : length front ≡ place
  pub leads : Run (unfolding_of o.program) (core_of o.start) front core
  pub copy : s ≡ copy_of core.net core.exports s.device
