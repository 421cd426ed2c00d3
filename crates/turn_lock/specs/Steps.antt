-- What each atomic step tells the seat that makes it.
use Rattle.std.specs.Prelude.{ℕ, ◌≡◌, ◌≢◌, ◌⊎◌, ◌<◌, List, [], ◌∷◌, ◌++◌, Option, Some}
use Rattle.atomic_table.specs.Seated.{TableId}
use Rattle.atomic_table.specs.Table.{Step, Me}
use Rattle.turn_lock.specs.declared.views.SeatView.{SeatView}
use Rattle.turn_lock.specs.declared.views.Stage.TheVariants.{Waits}
use Rattle.turn_lock.specs.Logs.{StartsWith, Rises}
use Rattle.turn_lock.specs.Passes.{Agrees}
use Rattle.turn_lock.specs.Seats.{pass_view, staged, served, wrote_seat}

-- what a seat has: its view, and the slots that it took out
abbrev pub Holding : Type 0 → Type 0 → Type 0
Holding T E = Me (Option T) (SeatView E)

-- what a step on a word is given, and what it tells the seat
abbrev pub Telling : Type 0 → Type 0 → Type 1
Telling T E = Step (Option T) → Holding T E → ℕ → Holding T E → Type 0

-- the value y agrees with the pass that the seat is of
abbrev pub SeatAgrees : {T E : Type 0} → (T → List E) → (List E → ℕ → Option ℕ) → SeatView E → T → Type 0
SeatAgrees list answers v y = (lock : TableId) → Agrees list answers (pass_view lock v) y

-- the turn has come, and the value with it
abbrev pub Entered : {T E : Type 0} → (T → List E) → (List E → ℕ → Option ℕ) → SeatView E → Holding T E → Type 0
Entered {T} list answers v m = (y : T) × SeatAgrees list answers v y × (m ≡ (served v (list y), (0, Some y) ∷ []))

-- to draw a ticket: the seat waits for its number
abbrev pub draws : {T E : Type 0} → Telling T E
draws st m n w = w ≡ (staged m.0 (Waits n), m.1)

-- to look at the number that is served: at the seat's own number it has the turn and the slot, and has seen the list
-- that lies there
abbrev pub looks : {T E : Type 0} → (T → List E) → (List E → ℕ → Option ℕ) → Telling T E
looks {T} list answers st m n w =
    ((m.0.stage ≡ Waits n) × Entered list answers m.0 w)
    ⊎ ((m.0.stage ≢ Waits n) × (w ≡ m))

-- to serve the next: the slot goes home with one entry more, and the seat has written it
abbrev pub serves : {T E : Type 0} → (T → List E) → Telling T E
serves {T} {E} list st m n w =
    (y : T) × (e : E) × (m.1 ≡ (0, Some y) ∷ []) × (list y ≡ m.0.seen ++ e ∷ [])
    × (w ≡ (wrote_seat m.0 m.0.seen e, []))

-- to ask after a join: what both had seen begins what the seat has seen
abbrev pub tells : {T E : Type 0} → Telling T E
tells st m n w =
    (w ≡ m) × StartsWith m.0.seen m.0.own_seen × StartsWith m.0.seen m.0.other_seen
    × (m.0.left < 9223372036854775808) × Rises m.0.mine
