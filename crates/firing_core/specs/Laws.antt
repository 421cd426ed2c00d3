-- Laws of steps and of runs.
use Rattle.std.specs.Prelude.{ℕ, ◌≡◌, ◌⊎◌, ◌↔◌, List, [], ◌∷◌, ◌++◌, Some, None, false}
use Rattle.fc_nodes.specs.Program.{Program, Unfolding, unfolding_of, IsProgram}
use Rattle.value_trees.specs.Copies.{FitsCopy}
use Rattle.topology.specs.Networks.{IsNetwork, Lives}
use Rattle.firing_core.specs.Entries.{EditValue, EntryValue, BeginEntry, EditEntry}
use Rattle.firing_core.specs.Cores.{Core, copy_of, Step, Run, IsGood}
use Rattle.firing_core.specs.Replays.{fault_of, net_fault_of, EntryFits, LogFits, step, replay}
use Rattle.firing_core.specs.Rounds.{has_edit, after_edit, HasEnd}

-- ---- what steps keep

-- a step, and a run, lead from a good core to a good core, and so from a network to a network
abbrev pub StepsKeepGood : Type 0
StepsKeepGood = (P : Program) (c next : Core) (e : EntryValue) → IsProgram P → IsGood (unfolding_of P) c
    → Step (unfolding_of P) c e next → IsGood (unfolding_of P) next

abbrev pub RunsKeepGood : Type 0
RunsKeepGood = (P : Program) (c last : Core) (log : List EntryValue) → IsProgram P → IsGood (unfolding_of P) c
    → Run (unfolding_of P) c log last → IsGood (unfolding_of P) last

abbrev pub StepsKeepNetworks : Type 0
StepsKeepNetworks =
    (U : Unfolding) (c next : Core) (e : EntryValue) → IsNetwork c.net → Step U c e next → IsNetwork next.net

-- a log without an edit keeps the network
abbrev pub PlainRunsKeepNet : Type 0
PlainRunsKeepNet = (U : Unfolding) (c last : Core) (log : List EntryValue) → has_edit log ≡ false → Run U c log last
    → last.net ≡ c.net

-- ---- when there is a step

-- an entry that fits has a step from a good core exactly where it has no fault
abbrev pub FaultlessStep : Type 0
FaultlessStep = (P : Program) (c : Core) (e : EntryValue) → IsProgram P → IsGood (unfolding_of P) c
    → EntryFits (unfolding_of P) e
    → (((fault_of c e ≡ None) × (net_fault_of c e ≡ None)) ↔ ((next : Core) × Step (unfolding_of P) c e next))

-- from a good core, steps of entries that fit are the same as a relation and as a function, and so are runs and replays
abbrev pub StepsAgree : Type 0
StepsAgree = (U : Unfolding) (c next : Core) (e : EntryValue) → IsGood U c → EntryFits U e
    → (Step U c e next ↔ (step U c e ≡ Some next))

abbrev pub RunsAgree : Type 0
RunsAgree = (U : Unfolding) (c last : Core) (log : List EntryValue) → IsGood U c → LogFits U log
    → (Run U c log last ↔ (replay U c log ≡ Some last))

-- the copy that a begin takes from a good core fits
abbrev pub CopiesFit : Type 0
CopiesFit = (U : Unfolding) (c : Core) (d : ℕ) → IsGood U c → Lives c.net d → FitsCopy U (copy_of c.net c.exports d)

-- ---- logs

-- a log leads from a good core to one core
abbrev pub LogsLeadToOne : Type 0
LogsLeadToOne = (U : Unfolding) (c a b : Core) (log : List EntryValue) → IsGood U c → Run U c log a → Run U c log b
    → a ≡ b

-- a device that begins at a place of a log and doesn't end after it flies with the copy that was taken there
abbrev pub FlightsStay : Type 0
FlightsStay = (U : Unfolding) (c before last : Core) (front rest : List EntryValue) (d : ℕ) → IsGood U c
    → Run U c front before → Run U c (front ++ BeginEntry d ∷ rest) last → (HasEnd d rest → ⊥)
    → last.flying d ≡ Some (copy_of before.net before.exports d)

-- a run of a log in two parts is a run of the first, and one of the second from where that leads
abbrev pub RunsCut : Type 0
RunsCut = (U : Unfolding) (c last : Core) (front rest : List EntryValue)
    → (Run U c (front ++ rest) last ↔ ((middle : Core) × Run U c front middle × Run U middle rest last))

-- a log up to its last edit, if it has one
abbrev pub EndsInEdit : List EntryValue → Type 0
EndsInEdit front = (front ≡ []) ⊎ ((before : List EntryValue) × (e : EditValue) × (front ≡ before ++ EditEntry e ∷ []))

-- a run in two parts: up to the last edit of its log, and after it, where nothing changes the network
pub record CutAtEdit (U : Unfolding) (c last : Core) (log : List EntryValue) : Type 0 where
  pub front : List EntryValue
  pub middle : Core
  pub cut : log ≡ front ++ after_edit log
  pub edit : EndsInEdit front
  pub plain : has_edit (after_edit log) ≡ false
  pub first : Run U c front middle
  pub second : Run U middle (after_edit log) last
  pub net : last.net ≡ middle.net

abbrev pub RunsCutAtEdit : Type 0
RunsCutAtEdit = (U : Unfolding) (c last : Core) (log : List EntryValue) → Run U c log last → CutAtEdit U c last log
