-- Tables of bounds in code, and what they stand for: the bounds of all devices of an envelope, by rising number.
use Rattle.std.specs.Prelude.{ℕ, Bool, true, false, ◌≡◌, ◌<◌, List, [], ◌∷◌, map, length, nat_eq, All}
use Rattle.std.specs.Prelude.{slice_index, if◌then◌else◌}
use Rattle.std.specs.Prelude.{slice_index_or as get_or}
use Rattle.fc_nodes.specs.Terms.{kept}
use Rattle.fc_nodes.specs.Program.{Unfolding}
use Rattle.bound_firing.specs.declared.firing.ExportBound.{ExportBound as FlatBound}
use Rattle.bound_firing.specs.declared.seats.NearSeat.{NearSeat}
use Rattle.bound_firing.specs.declared.seats.Seats.{Seats}
use Rattle.bound_firing.specs.Exports.{any_export}
use Rattle.bound_firing.specs.FlatSeats.{seats_over}
use Rattle.bound_firing.specs.References.{flat_seats_in}
use Rattle.bound_firing.specs.ExportReferences.{export_bound_in, OwnIsLong}
use Rattle.envelopes.specs.Envelopes.{Envelope, ids}
use Rattle.bound_rounds.specs.declared.rounds.RoundKind.{RoundKind}
use Rattle.bound_rounds.specs.declared.rounds.Table.{Table}
use Rattle.bound_rounds.specs.Rounds.{BoundTable, seats_in, next_within, IsFixedWithin, is_close}

-- bounds are those that a table of the definitions has for all devices
abbrev pub Stand : Unfolding → Envelope → BoundTable → List FlatBound → Type 0
Stand U E table xs = map (export_bound_in U) xs ≡ map table (ids E.devices)

-- the table for which bounds of the devices in order stand; elsewhere any export may be
abbrev pub table_by : Unfolding → List ℕ → List FlatBound → BoundTable
table_by U [] xs d = any_export U
table_by U (i ∷ is) [] d = any_export U
table_by U (i ∷ is) (x ∷ xs) d = if nat_eq d i then export_bound_in U x else table_by U is xs d

-- how many slots each has
abbrev pub slot_counts : List FlatBound → List ℕ
slot_counts xs = map (λ (e : FlatBound). length e.slots.items) xs

-- each has so many slots
abbrev pub HaveSlots : ℕ → List FlatBound → Type 0
HaveSlots n xs = All (λ (e : FlatBound). length e.slots.items ≡ n) xs

-- bounds of exports of a program, one for each device
pub record FitTable (U : Unfolding) (E : Envelope) (xs : List FlatBound) : Type 0 where
  pub many : length xs ≡ length E.devices
  pub slots : HaveSlots (kept U.main) xs

-- the number of the device at a place
abbrev pub device_at : Envelope → ℕ → ℕ
device_at E i = slice_index (ids E.devices) i

-- seats are those of a device over a table
pub record SeeTable (E : Envelope) (xs : List FlatBound) (d : ℕ) (s : Seats) : Type 0 where
  pub seen : (U : Unfolding) (table : BoundTable) → Stand U E table xs
      → seats_over U.main 0 (flat_seats_in s) ≡ seats_in table E d
  pub own : (n : ℕ) → HaveSlots n xs → OwnIsLong n s.own
  pub near : (n : ℕ) → HaveSlots n xs → All (λ (s : NearSeat). length s.slots.now ≡ n) s.near.items

-- ---- which devices hear of a change

-- each device that is close to one is marked
abbrev pub AreMarked : Envelope → ℕ → List Bool → Type 0
AreMarked E d marks =
    (i : ℕ) → i < length E.devices → get_or marks i true ≡ false → is_close E d (device_at E i) ≡ false

-- so it is for each device that changed, of those before a place
abbrev pub AllMarked : Envelope → List Bool → ℕ → List Bool → Type 0
AllMarked E changed k marks =
    (p : ℕ) → p < k → get_or changed p false ≡ true → AreMarked E (device_at E p) marks

-- the marks of the devices that the next round may change: it changes no other
pub record AreDue (k : RoundKind) (U : Unfolding) (E : Envelope) (table : BoundTable) (due : List Bool) : Type 0 where
  pub many : length due ≡ length E.devices
  pub same : (i : ℕ) → i < length E.devices → get_or due i true ≡ false
      → next_within k U E table (device_at E i) ≡ table (device_at E i)

-- a table in code that is ready for a round
pub record IsReady (k : RoundKind) (U : Unfolding) (E : Envelope) (t : Table) : Type 0 where
  pub fits : FitTable U E t.bounds.items
  pub drafts : FitTable U E t.drafts.items
  pub changed : length t.changed.items ≡ length E.devices
  pub many : length t.due.items ≡ length E.devices
  pub due : (table : BoundTable) → Stand U E table t.bounds.items → AreDue k U E table t.due.items

-- ---- within a round

-- a device after the firings of a round: whether it changed, and its draft
pub record IsFired (k : RoundKind) (U : Unfolding) (E : Envelope) (table : BoundTable) (d : ℕ) (changed : Bool)
    (draft : FlatBound) : Type 0 where
  pub same : changed ≡ false → next_within k U E table d ≡ table d
  pub other : changed ≡ true → next_within k U E table d ≡ table d → ⊥
  pub next : changed ≡ true → export_bound_in U draft ≡ next_within k U E table d

-- the devices before a place
abbrev pub AreFired : RoundKind → Unfolding → Envelope → BoundTable → List Bool → List FlatBound → ℕ → Type 0
AreFired k U E table changed drafts n = (i : ℕ) (x : FlatBound) → i < n
    → IsFired k U E table (device_at E i) (get_or changed i false) (get_or drafts i x)

-- a table in code after the firings of a round
pub record IsFiredTable (k : RoundKind) (U : Unfolding) (E : Envelope) (t : Table) : Type 0 where
  pub fits : FitTable U E t.bounds.items
  pub drafts : FitTable U E t.drafts.items
  pub changed : length t.changed.items ≡ length E.devices
  pub due : length t.due.items ≡ length E.devices
  pub fired : (table : BoundTable) → Stand U E table t.bounds.items
      → AreFired k U E table t.changed.items t.drafts.items (length E.devices)

-- the bounds before a place, with drafts in the place of those that changed
abbrev pub AreSwapped : List Bool → ℕ → List FlatBound → List FlatBound → List FlatBound → Type 0
AreSwapped changed k xs ys zs = (i : ℕ) (x : FlatBound) → i < k
    → get_or zs i x ≡ (if get_or changed i false then get_or ys i x else get_or xs i x)

-- ---- what a round gives

-- bounds stand for the next table; a round that says that it changes nothing changes no device, otherwise at least one
pub record IsRound (k : RoundKind) (U : Unfolding) (E : Envelope) (old : List FlatBound) (changes : Bool)
    (new : List FlatBound) : Type 0 where
  pub next : (table : BoundTable) → Stand U E table old → Stand U E (next_within k U E table) new
  pub fixed : changes ≡ false → (table : BoundTable) → Stand U E table old → IsFixedWithin k U E table
  pub moves : changes ≡ true → (table : BoundTable) → Stand U E table old → IsFixedWithin k U E table → ⊥
