-- What answers in code stand for.
use Rattle.std.specs.Prelude.{ℕ, Bool, ◌≡◌, ◌<◌, ◌≤◌, ◌&&◌, List, length, map, Option, Some, None, option_map, nat_eq}
use Rattle.std.specs.Prelude.{false, if◌then◌else◌}
use Rattle.std.specs.Prelude.{slice_index_or as get_or}
use Rattle.fc_values.specs.Values.{LocalValue, local_of}
use Rattle.fc_nodes.specs.Program.{Unfolding}
use Rattle.topology.specs.Networks.{Network}
use Rattle.fc_values.specs.Trees.{TreeExport, Copy}
use Rattle.device_eval.specs.Copies.{EvaluatesCopy}
use Rattle.firing_core.specs.Cores.{Core, copy_of}
use Rattle.firing_core.specs.CoreViews.{CoreValue, core_of, IsSameCore}
use Rattle.value_bounds.specs.BoundValues.{BoundValue, is_known, value_left}
use Rattle.value_bounds.specs.References.{local_bound_in}
use Rattle.bound_firing.specs.declared.firing.ExportBound.{ExportBound as FlatBound}
use Rattle.bound_firing.specs.Exports.{ExportBound}
use Rattle.bound_firing.specs.ExportReferences.{export_bound_in}
use Rattle.export_bounds.specs.Exports.{exact_export, either_export}
use Rattle.envelopes.specs.Envelopes.{Envelope}
use Rattle.bound_rounds.specs.declared.rounds.RoundKind.TheVariants as kind
use Rattle.bound_rounds.specs.declared.rounds.Table.{Table}
use Rattle.bound_rounds.specs.Rounds.{BoundTable, rounds_within, grown_within, IsFullWithin}
use Rattle.bound_rounds.specs.Tables.{Stand, FitTable, IsReady}
use Rattle.settle_rounds.specs.declared.settling.Settled.{Settled}
use Rattle.settle_rounds.specs.SettleTimes.{all_settle_to}
use Rattle.settle_rounds.specs.Within.{FirstTableWithin, StartTableWithin}

-- the settle round of a device and its value
abbrev pub settled_in : Settled → ℕ × LocalValue
settled_in s = (s.rounds, local_of s.value)

-- what is known of a device after one round more: what was known, or this round and the value that is left
abbrev pub noted : ℕ → Bool → BoundValue → Option (ℕ × LocalValue) → Option (ℕ × LocalValue)
noted j sure b (Some s) = Some s
noted j sure b None = if sure && is_known b then Some (j, value_left b) else None

-- so it is at each place before one
abbrev pub AreNoted : ℕ → List FlatBound → ℕ → List (Option Settled) → List (Option Settled) → Type 0
AreNoted j bs k xs ys = (i : ℕ) (b : FlatBound) (o : Option Settled) → i < k
    → option_map settled_in (get_or ys i o)
    ≡ noted j (get_or bs i b).sure (local_bound_in (get_or bs i b).value) (option_map settled_in (get_or xs i o))

-- a table after so many rounds from a start, and which devices have settled by then
pub record IsSettling (U : Unfolding) (E : Envelope) (first : List FlatBound) (j : ℕ) (t : Table)
    (xs : List (Option Settled)) : Type 0 where
  pub ready : IsReady kind.Firing U E t
  pub many : length xs ≡ length E.devices
  pub after : (start : BoundTable) → Stand U E start first → Stand U E (rounds_within U E start j) t.bounds.items
  pub settled : (start : BoundTable) → Stand U E start first
      → map (option_map settled_in) xs ≡ all_settle_to U E start j

-- ---- from a core

-- what an export and a copy in flight hold, of which one at least is there, of a device that is there for sure or not
pub data StateBound (U : Unfolding) (sure : Bool) : Option TreeExport → Option Copy → ExportBound → Type 0 where
  standing : (e : TreeExport) → StateBound U sure (Some e) None (exact_export U sure e)
  standing_and_landing : (e : TreeExport) (s : Copy) (f : TreeExport) → EvaluatesCopy U s f
      → StateBound U sure (Some e) (Some s) (either_export U (exact_export U sure e) (exact_export U sure f))
  landing : (s : Copy) (f : TreeExport) → EvaluatesCopy U s f
      → StateBound U sure None (Some s) (exact_export U false f)

-- the bound of the export that a copy evaluates to
pub record LandingBound (U : Unfolding) (s : Copy) (sure : Bool) (b : FlatBound) : Type 0 where
  pub export : TreeExport
  pub evaluates : EvaluatesCopy U s export
  pub is : export_bound_in U b ≡ exact_export U sure export

-- a core as before but for the flight of a device
pub record SameButFlight (old : CoreValue) (d : ℕ) (new : CoreValue) : Type 0 where
  pub same : IsSameCore old new
  pub exports : (core_of new).exports ≡ (core_of old).exports
  pub flying : (e : ℕ) → nat_eq e d ≡ false → (core_of new).flying e ≡ (core_of old).flying e

-- a device has an export or a copy in flight, as before, or it had neither and has begun
pub data HasState (N : Network) (old new : Core) (d : ℕ) : Type 0 where
  had : (old.exports d ≡ None → old.flying d ≡ None → ⊥) → new.flying d ≡ old.flying d → HasState N old new d
  began : old.exports d ≡ None → old.flying d ≡ None → new.flying d ≡ Some (copy_of N old.exports d)
      → HasState N old new d

-- bounds that stand for the first bounds of a core
pub record FirstBounds (U : Unfolding) (E : Envelope) (N : Network) (c : Core) (xs : List FlatBound) : Type 0 where
  pub fits : FitTable U E xs
  pub table : BoundTable
  pub first : FirstTableWithin U E N c table
  pub stands : Stand U E table xs

-- bounds that stand for the table that a first one grows to, and from which it doesn't grow any more
pub record IsGrown (U : Unfolding) (E : Envelope) (most : ℕ) (first new : List FlatBound) : Type 0 where
  pub fits : FitTable U E new
  pub rounds : ℕ
  pub few : rounds ≤ most
  pub full : (start : BoundTable) → Stand U E start first → IsFullWithin U E (grown_within U E start rounds)
  pub stands : (start : BoundTable) → Stand U E start first → Stand U E (grown_within U E start rounds) new

-- it grows longer than so many rounds
abbrev pub GrowsOn : Unfolding → Envelope → ℕ → List FlatBound → Type 0
GrowsOn U E most first = (start : BoundTable) → Stand U E start first → (i : ℕ) → i ≤ most
    → IsFullWithin U E (grown_within U E start i) → ⊥

-- bounds that stand for the table of a core that grows for at most so many rounds
pub record StartBounds (U : Unfolding) (E : Envelope) (N : Network) (most : ℕ) (c : Core)
    (xs : List FlatBound) : Type 0 where
  pub fits : FitTable U E xs
  pub table : BoundTable
  pub starts : StartTableWithin U E N most c table
  pub stands : Stand U E table xs

-- settle rounds up to a cap, from the table of a core that grows for at most so many rounds
pub record IsSettledFrom (U : Unfolding) (E : Envelope) (N : Network) (most cap : ℕ) (c : Core)
    (os : List (Option (ℕ × LocalValue))) : Type 0 where
  pub table : BoundTable
  pub starts : StartTableWithin U E N most c table
  pub settled : os ≡ all_settle_to U E table cap
