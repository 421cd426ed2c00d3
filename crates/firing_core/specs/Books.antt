-- Books: a program, a start, a log, and the core to which the log leads.
use Rattle.std.specs.Prelude.{ℕ, ◌≡◌, List, [], ◌∷◌, ◌++◌, map, length, if◌then◌else◌, Some, None, is_some, Result, Err}
use Rattle.fc_values.specs.Trees.{Copy}
use Rattle.topology.specs.Networks.{numbers}
use Rattle.fc_nodes.specs.Program.{Program, Unfolding, unfolding_of}
use Rattle.firing_core.specs.declared.entries.Entry.{Entry}
use Rattle.firing_core.specs.declared.entries.Entry.TheVariants as entry
use Rattle.firing_core.specs.declared.entries.StepFault.{StepFault}
use Rattle.firing_core.specs.declared.entries.StepFault.TheVariants as fault
use Rattle.firing_core.specs.declared.entries.ReplayFault.{ReplayFault}
use Rattle.firing_core.specs.declared.entries.ReplayFault.TheVariants as replay_fault
use Rattle.firing_core.specs.declared.entries.EditFault.{EditFault}
use Rattle.firing_core.specs.declared.entries.EditFault.TheVariants as edit_refusal
use Rattle.firing_core.specs.Entries.{EntryValue, entry_of, entries_of}
use Rattle.firing_core.specs.Cores.{Map, Core, Step, Run, IsGood}
use Rattle.firing_core.specs.Replays.{fault_of, net_fault_of, FailsAt, replay}
use Rattle.firing_core.specs.CoreViews.{CoreValue, core_of}

-- what contracts see of a book: these four, and for how many entries the log has room
pub record BookValue : Type 0 where
  pub program : Program
  pub start : CoreValue
  pub log : List Entry
  pub core : CoreValue
  pub spare : ℕ

abbrev pub book_with : Program → CoreValue → List Entry → CoreValue → ℕ → BookValue
book_with p start log core spare = record { program = p; start = start; log = log; core = core; spare = spare }

-- the start is good, and the log leads from it to the core
pub record IsBook (b : BookValue) : Type 0 where
  pub started : b.start.program ≡ b.program
  pub held : b.core.program ≡ b.program
  pub good : IsGood (unfolding_of b.program) (core_of b.start)
  pub runs : Run (unfolding_of b.program) (core_of b.start) (entries_of b.log) (core_of b.core)

-- all but the room in the log stays
pub record IsSameBook (old new : BookValue) : Type 0 where
  pub program : new.program ≡ old.program
  pub start : new.start ≡ old.start
  pub log : new.log ≡ old.log
  pub core : new.core ≡ old.core

-- the book has one more entry, and its core is the one after that step
pub record AppendsEntry (old new : BookValue) (entry : Entry) : Type 0 where
  pub program : new.program ≡ old.program
  pub start : new.start ≡ old.start
  pub log : new.log ≡ old.log ++ entry ∷ []
  pub step : Step (unfolding_of old.program) (core_of old.core) (entry_of entry) (core_of new.core)

-- ---- flights that are ended

-- the devices of a list that fly
abbrev pub fliers : Map Copy → List ℕ → List ℕ
fliers flying [] = []
fliers flying (d ∷ ds) = if is_some (flying d) then d ∷ fliers flying ds else fliers flying ds

-- the devices in flight, rising
abbrev pub in_flight : Core → List ℕ
in_flight c = fliers c.flying (numbers c.net.devices)

abbrev pub ends_of : List ℕ → List Entry
ends_of ds = map (λ d. entry.End d) ds

-- the flights of these devices are ended, one after another
pub record EndsFlights (old new : BookValue) (ds : List ℕ) : Type 0 where
  pub program : new.program ≡ old.program
  pub start : new.start ≡ old.start
  pub log : new.log ≡ old.log ++ ends_of ds
  pub run : Run (unfolding_of old.program) (core_of old.core) (entries_of (ends_of ds)) (core_of new.core)

-- some of the flights are ended, those of the smallest devices
pub record EndsSome (old new : BookValue) : Type 0 where
  pub ended : List ℕ
  pub left : List ℕ
  pub flights : in_flight (core_of old.core) ≡ ended ++ left
  pub ends : EndsFlights old new ended

-- ---- refusals

-- an entry has no step from a core, for this reason; want of memory needs no reason
abbrev pub HasFault : Core → EntryValue → StepFault → Type 0
HasFault c e fault.NoDevice = fault_of c e ≡ Some fault.NoDevice
HasFault c e fault.Flying = fault_of c e ≡ Some fault.Flying
HasFault c e fault.NotFlying = fault_of c e ≡ Some fault.NotFlying
HasFault c e fault.Memory = Unit {0}

-- the entry at an index of a log is refused: it has no step from a core, for this reason; want of memory needs none
abbrev pub RefusesAt : ℕ → Core → EntryValue → ReplayFault → Type 0
RefusesAt i c e (replay_fault.At index why) = (index ≡ i) × (fault_of c e ≡ Some why)
RefusesAt i c e (replay_fault.EditAt index why) = (index ≡ i) × (net_fault_of c e ≡ Some why)
RefusesAt i c e replay_fault.Memory = Unit {0}

-- the book refuses an entry: it has no step from the book's core, and its index is that after the log
abbrev pub RefusesEntry : BookValue → EntryValue → ReplayFault → Type 0
RefusesEntry b e f = RefusesAt (length b.log) (core_of b.core) e f

-- the entry at that index is the first of the log that has no step, for this reason
abbrev pub FailsReplay : Unfolding → Core → List EntryValue → ReplayFault → Type 0
FailsReplay U c log (replay_fault.At index why) = FailsAt U c log index (λ k e. fault_of k e ≡ Some why)
FailsReplay U c log (replay_fault.EditAt index why) = FailsAt U c log index (λ k e. net_fault_of k e ≡ Some why)
FailsReplay U c log replay_fault.Memory = Unit {0}

-- the log leads to no core
abbrev pub IsStuckReplay : Unfolding → Core → List EntryValue → ReplayFault → Type 0
IsStuckReplay U c log (replay_fault.At index why) = replay U c log ≡ None
IsStuckReplay U c log (replay_fault.EditAt index why) = replay U c log ≡ None
IsStuckReplay U c log replay_fault.Memory = Unit {0}

-- what the answer to the entry at an index says of a refusal; want of memory needs no reason
abbrev pub AtIndex : ℕ → Result (Unit {0}) StepFault → ReplayFault → Type 0
AtIndex i answer (replay_fault.At index why) = (index ≡ i) × (answer ≡ Err why) × (why ≡ fault.Memory → ⊥)
AtIndex i answer (replay_fault.EditAt index why) = ⊥
AtIndex i answer replay_fault.Memory = Unit {0}

abbrev pub EditAtIndex : ℕ → Result (Unit {0}) EditFault → ReplayFault → Type 0
EditAtIndex i answer (replay_fault.At index why) = ⊥
EditAtIndex i answer (replay_fault.EditAt index why) = (index ≡ i) × (answer ≡ Err (edit_refusal.Net why))
EditAtIndex i answer replay_fault.Memory = Unit {0}
