-- What holds while the network changes within an envelope.
use Rattle.std.specs.Prelude.{ℕ, true, false, ◌≡◌, ◌≤◌, List, [], Option, Some, None}
use Rattle.fc_values.specs.Trees.{TreeExport, Copy}
use Rattle.fc_nodes.specs.Program.{Program, Unfolding, unfolding_of, IsProgram}
use Rattle.fc_nodes.specs.Flat.{IsWellTyped}
use Rattle.device_eval.specs.Copies.{EvaluatesCopy}
use Rattle.topology.specs.Networks.{Network, lives, Lives}
use Rattle.firing_core.specs.Entries.{EntryValue}
use Rattle.firing_core.specs.Cores.{Map, Core, copy_of, Run, IsGood}
use Rattle.value_bounds.specs.BoundValues.{is_known, value_left}
use Rattle.bound_firing.specs.Exports.{ExportBound, bound_export, ExportLies}
use Rattle.bound_firing.specs.Seats.{Seats}
use Rattle.bound_firing.specs.Firing.{bound_of}
use Rattle.export_bounds.specs.Exports.{exact_export, either_export}
use Rattle.envelopes.specs.Envelopes.{Envelope, MayLive, surely_lives, IsEnvelope, LiesWithin}
use Rattle.envelopes.specs.Exactly.{exact_envelope}
use Rattle.net_moves.specs.Moves.{HasRoundsThere}
use Rattle.envelope_bounds.specs.Logs.{StaysWithin}
use Rattle.bound_rounds.specs.Rounds.{BoundTable, situation_in, fired_within, rounds_within, grown_within, IsFullWithin}
use Rattle.settle_rounds.specs.Rounds.{any_table}

-- an export that is there lies in the bound, and a missing one isn't there for sure
abbrev pub MaybeLies : Unfolding → ExportBound → Option TreeExport → Type 0
MaybeLies U b (Some e) = ExportLies U b e
MaybeLies U b None = b.sure ≡ false

-- ---- the law of firing over an envelope: what a copy evaluates to that is taken on a network within the envelope,
-- from exports in a table of bounds, lies in the firing over the table
abbrev pub FiringsLandWithin : Type 0
FiringsLandWithin = (U : Unfolding) (E : Envelope) (N : Network) → IsEnvelope E → LiesWithin E N
    → (bounds : BoundTable) (table : Map TreeExport)
    → ((d : ℕ) → MayLive E d → MaybeLies U (bounds d) (table d))
    → (d : ℕ) → Lives N d → (e : TreeExport) → EvaluatesCopy U (copy_of N table d) e
    → ExportLies U (fired_within U E bounds d) e

-- a log from a core that stays in the envelope and has so many rounds
pub record RoundsWithin (U : Unfolding) (E : Envelope) (m : ℕ) (start last : Core) : Type 0 where
  pub log : List EntryValue
  pub run : Run U start log last
  pub stays : StaysWithin E start.net log
  pub rounds : HasRoundsThere start.net log m

-- an export that is there lies in a bound, and where the bound says that there is one for sure, there is
pub record StandsIn (U : Unfolding) (b : ExportBound) (o : Option TreeExport) : Type 0 where
  pub lies : (e : TreeExport) → o ≡ Some e → ExportLies U b e
  pub sure : b.sure ≡ true → (e : TreeExport) × (o ≡ Some e)

-- ---- from every good core

-- after m rounds from a good core each export lies in the bounds after any i rounds up to m; and from the first round
-- on a device that is always there has one
pub record HoldsWithin (U : Unfolding) (E : Envelope) (m d : ℕ) (last : Core) : Type 0 where
  pub bounds : (i : ℕ) → i ≤ m → StandsIn U (rounds_within U E (any_table U) i d) (last.exports d)
  pub there : 1 ≤ m → surely_lives E d ≡ true → (e : TreeExport) × (last.exports d ≡ Some e)

abbrev pub BoundsHoldWithin : Type 0
BoundsHoldWithin = (P : Program) (E : Envelope) → IsProgram P → IsEnvelope E
    → (start last : Core) → IsGood (unfolding_of P) start → (m d : ℕ) → MayLive E d
    → RoundsWithin (unfolding_of P) E m start last
    → HoldsWithin (unfolding_of P) E m d last

-- ---- from a core that a closed table holds

-- what a firing over the table gives lies in the table, and of a device that may be away nothing is there for sure
pub record IsClosedWithin (U : Unfolding) (E : Envelope) (table : BoundTable) : Type 0 where
  pub fires : (d : ℕ) → MayLive E d → (e : TreeExport) → IsWellTyped U e → ExportLies U (fired_within U E table d) e
      → ExportLies U (table d) e
  pub away : (d : ℕ) → MayLive E d → surely_lives E d ≡ false → (table d).sure ≡ false

-- it holds the exports of a core, and those that its copies in flight evaluate to
pub record HoldsCoreWithin (U : Unfolding) (E : Envelope) (table : BoundTable) (c : Core) : Type 0 where
  pub exports : (d : ℕ) → MayLive E d → MaybeLies U (table d) (c.exports d)
  pub flights : (d : ℕ) → MayLive E d → (s : Copy) → c.flying d ≡ Some s → (e : TreeExport) → IsWellTyped U e
      → EvaluatesCopy U s e → ExportLies U (table d) e

-- after m rounds each export lies in the bounds after any i rounds up to m: with i = 0, none ever leaves the table,
-- whatever happens within the envelope
abbrev pub BoundsHoldWithinFrom : Type 0
BoundsHoldWithinFrom = (P : Program) (E : Envelope) → IsProgram P → IsEnvelope E
    → (table : BoundTable) → IsClosedWithin (unfolding_of P) E table
    → (start last : Core) → IsGood (unfolding_of P) start → HoldsCoreWithin (unfolding_of P) E table start
    → (i m d : ℕ) → MayLive E d → i ≤ m → RoundsWithin (unfolding_of P) E m start last
    → StandsIn (unfolding_of P) (rounds_within (unfolding_of P) E table i d) (last.exports d)

-- where the value is known after k rounds, each export of the device has it after as many rounds and after any more
abbrev pub BoundsReachWithin : Type 0
BoundsReachWithin = (P : Program) (E : Envelope) → IsProgram P → IsEnvelope E
    → (table : BoundTable) → IsClosedWithin (unfolding_of P) E table
    → (start last : Core) → IsGood (unfolding_of P) start → HoldsCoreWithin (unfolding_of P) E table start
    → (k m d : ℕ) → MayLive E d → is_known (rounds_within (unfolding_of P) E table k d).value ≡ true → k ≤ m
    → RoundsWithin (unfolding_of P) E m start last → (e : TreeExport) → last.exports d ≡ Some e
    → e.value ≡ value_left (rounds_within (unfolding_of P) E table k d).value

-- ---- the table of a core

-- what a device makes on its own, without an export before and without neighbours; not for sure
abbrev pub no_seats : Seats
no_seats = record { own = None; near = [] }

abbrev pub alone : Unfolding → Envelope → ℕ → ExportBound
alone U E d = bound_export false (bound_of (situation_in U E d) 0 U.main [] no_seats)

-- A device's first bound, of a core on a network: its export, and the one that its copy in flight evaluates to. Where
-- it has neither, the one that a copy taken now evaluates to; and of a device that isn't there, what it makes on its
-- own. There for sure is an export of a device that is always there.
pub data FirstWithin (U : Unfolding) (E : Envelope) (N : Network) (c : Core) (d : ℕ) : ExportBound → Type 0 where
  stands : (e : TreeExport) → c.exports d ≡ Some e → c.flying d ≡ None
      → FirstWithin U E N c d (exact_export U (surely_lives E d) e)
  stands_and_lands : (e : TreeExport) (s : Copy) (f : TreeExport) → c.exports d ≡ Some e → c.flying d ≡ Some s
      → EvaluatesCopy U s f
      → FirstWithin U E N c d (either_export U (exact_export U (surely_lives E d) e) (exact_export U (surely_lives E d) f))
  lands : (s : Copy) (f : TreeExport) → c.exports d ≡ None → c.flying d ≡ Some s → EvaluatesCopy U s f
      → FirstWithin U E N c d (exact_export U false f)
  begins : (f : TreeExport) → Lives N d → c.exports d ≡ None → c.flying d ≡ None
      → EvaluatesCopy U (copy_of N c.exports d) f → FirstWithin U E N c d (exact_export U false f)
  comes : lives N d ≡ false → c.exports d ≡ None → c.flying d ≡ None → FirstWithin U E N c d (alone U E d)

abbrev pub FirstTableWithin : Unfolding → Envelope → Network → Core → BoundTable → Type 0
FirstTableWithin U E N c table = (d : ℕ) → MayLive E d → FirstWithin U E N c d (table d)

-- a good core has a first table, each that grows out of one holds the core, and a full one is closed
pub record TablesGrow (U : Unfolding) (E : Envelope) (c : Core) : Type 0 where
  pub some : (first : BoundTable) × FirstTableWithin U E c.net c first
  pub holds : (first : BoundTable) (i : ℕ) → FirstTableWithin U E c.net c first
      → HoldsCoreWithin U E (grown_within U E first i) c
  pub closed : (table : BoundTable) → IsFullWithin U E table → IsClosedWithin U E table

abbrev pub TablesGrowWithin : Type 0
TablesGrowWithin = (P : Program) (E : Envelope) → IsProgram P → (c : Core) → IsGood (unfolding_of P) c
    → TablesGrow (unfolding_of P) E c

-- The table from which rounds are counted: first bounds, grown until they are full; and where they aren't after so many
-- rounds, the one of any exports.
pub data StartTableWithin (U : Unfolding) (E : Envelope) (N : Network) (most : ℕ) (c : Core) : BoundTable → Type 0 where
  grows : (first : BoundTable) (i : ℕ) → FirstTableWithin U E N c first → i ≤ most
      → IsFullWithin U E (grown_within U E first i) → StartTableWithin U E N most c (grown_within U E first i)
  any_start : (first : BoundTable) → FirstTableWithin U E N c first
      → ((i : ℕ) → i ≤ most → IsFullWithin U E (grown_within U E first i) → ⊥)
      → StartTableWithin U E N most c (any_table U)

-- that of a core on a network that stands still
abbrev pub StartTable : Unfolding → Network → ℕ → Core → BoundTable → Type 0
StartTable U N most c table = StartTableWithin U (exact_envelope N) N most c table

-- it is closed and holds the core
pub record StartHoldsWithin (U : Unfolding) (E : Envelope) (c : Core) (table : BoundTable) : Type 0 where
  pub closed : IsClosedWithin U E table
  pub holds : HoldsCoreWithin U E table c

-- a core has at most one such table, up to what it says of other devices than those of the envelope
abbrev pub OneStartWithin : Type 0
OneStartWithin = (U : Unfolding) (E : Envelope) (N : Network) → IsEnvelope E → (most : ℕ) (c : Core)
    (s t : BoundTable) → StartTableWithin U E N most c s → StartTableWithin U E N most c t
    → (d : ℕ) → MayLive E d → s d ≡ t d

-- each good core has one
pub record StartsWithin (U : Unfolding) (E : Envelope) (most : ℕ) (c : Core) : Type 0 where
  pub some : (table : BoundTable) × StartTableWithin U E c.net most c table
  pub hold : (s : BoundTable) → StartTableWithin U E c.net most c s → StartHoldsWithin U E c s

abbrev pub StartsHoldWithin : Type 0
StartsHoldWithin = (P : Program) (E : Envelope) → IsProgram P
    → (c : Core) → IsGood (unfolding_of P) c → (most : ℕ) → StartsWithin (unfolding_of P) E most c
