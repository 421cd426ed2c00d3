-- The rule: what is always true of the table of a lock.
-- It speaks of one log, and has three parts: tickets, turns and the slot (`LockFacts`); names (`Names`); what passes
-- have seen and written (`Own`).
use Rattle.std.specs.Prelude.{ℕ, ◌≡◌, ◌⊎◌, ◌+◌, ◌<◌, ◌≤◌, true, false, List, [], ◌∷◌, ◌++◌, length, Option, Some}
use mathlib.Core.Option.{none, some}
use mathlib.Core.Option as maybe
use lib.ListN.{get_elem?}
use Rattle.atomic_table.specs.Table.{State}
use Rattle.turn_lock.specs.declared.views.SeatView.{SeatView}
use Rattle.turn_lock.specs.declared.views.Stage.{Stage}
use Rattle.turn_lock.specs.declared.views.Stage.TheVariants.{Idle, Waits, Has}
use Rattle.turn_lock.specs.Logs.{StartsWith, In, Rises, ArePlaced, AnswersOwn}

-- f of each, added up
abbrev pub total : {V : Type 0} → (V → ℕ) → List V → ℕ
total f [] = 0
total f (v ∷ vs) = f v + total f vs

-- how many tickets a seat at this stage has
abbrev pub tickets_at : Stage → ℕ
tickets_at Idle = 0
tickets_at (Waits t) = 1
tickets_at Has = 1

-- how many tickets a seat has
abbrev pub tickets_of : {E : Type 0} → SeatView E → ℕ
tickets_of v = tickets_at v.stage

-- how many turns it has left
abbrev pub left_of : {E : Type 0} → SeatView E → ℕ
left_of v = v.left

-- how many entries it has written
abbrev pub entries_of : {E : Type 0} → SeatView E → ℕ
entries_of v = length v.mine

-- what lies in the slots at home
abbrev pub Homes : Type 0 → Type 0
Homes T = List (maybe.Option (Option T))

-- What the stage of the seat number id says. Who waits has a ticket that is drawn and not served yet. Who has the turn
-- has the ticket that is served, has seen the whole log, and the slot is out.
abbrev pub Stands : {T E : Type 0} → ℕ → ℕ → (ℕ → ℕ) → List E → Homes T → ℕ → SeatView E → Stage → Type 0
Stands serving ticket seat log homes id v Idle = Unit {0}
Stands serving ticket seat log homes id v (Waits t) = (serving ≤ t) × (t < ticket) × (seat t ≡ id) × (0 < v.left)
Stands serving ticket seat log homes id v Has =
    (serving < ticket) × (seat serving ≡ id) × (0 < v.left) × (v.seen ≡ log) × (homes ≡ none ∷ [])

-- the seat number id has the view v
abbrev pub At : {V : Type 0} → List V → ℕ → V → Type 0
At views id v = get_elem? views id ≡ some v

-- a value with this log is at home, or some seat has the turn
abbrev pub Slot : {T E : Type 0} → (T → List E) → List E → Homes T → List (SeatView E) → Type 0
Slot {T} {E} list log homes views =
    ((y : T) × (homes ≡ some (Some y) ∷ []) × (list y ≡ log))
    ⊎ ((id : ℕ) × (v : SeatView E) × At views id v × (v.stage ≡ Has))

-- The tickets, the turns and the slot.
pub record LockFacts {T E : Type 0} (list : T → List E) (log : List E) (s : State (Option T) (SeatView E))
    : Type 0 where
  -- the next ticket, and the one that is served
  pub ticket : ℕ
  pub serving : ℕ
  -- the turns that the lock was made with, and the length of the list then
  pub turns : ℕ
  pub start : ℕ
  -- which seat drew a ticket; so tickets differ
  pub seat : ℕ → ℕ
  pub words : s.words ≡ ticket ∷ serving ∷ []
  pub few : turns < 9223372036854775808
  -- serving and the seats with a ticket make up the next ticket
  pub drawn : serving + total tickets_of s.views ≡ ticket
  -- the turns taken and those that are left make up all turns
  pub shared : serving + total left_of s.views ≡ turns
  -- each turn taken wrote one entry of one seat
  pub counted : total entries_of s.views ≡ serving
  pub length_is : length log ≡ start + serving
  pub made : (id : ℕ) (v : SeatView E) → At s.views id v → v.spent ≡ false → (v.turns ≡ turns) × (v.start ≡ start)
  pub past : (id : ℕ) (v : SeatView E) → At s.views id v → (p : ℕ) (e : E) → In (p, e) v.mine → start ≤ p
  pub stands : (id : ℕ) (v : SeatView E) → At s.views id v → Stands serving ticket seat log s.homes id v v.stage
  -- a value with this log is at home, or some seat has the turn
  pub slot : Slot list log s.homes s.views

-- the seat's name is that of a live seat and one of the numbers that are out there
abbrev pub IsChild : {E : Type 0} → List (SeatView E) → SeatView E → Type 0
IsChild {E} views v =
    (p : ℕ) × (u : SeatView E) × At views p u × (u.spent ≡ false)
    × (k : ℕ) × (v.name ≡ u.name ++ k ∷ []) × In k u.out

-- The names of seats. A seat that was joined into another one is spent.
pub record Names {E : Type 0} (views : List (SeatView E)) : Type 0 where
  pub child : (id : ℕ) (v : SeatView E) → At views id v → v.spent ≡ false → (v.name ≡ []) ⊎ IsChild views v
  pub below : (id : ℕ) (v : SeatView E) → At views id v → (k : ℕ) → In k v.out → k < v.made
  pub apart : (i j : ℕ) (v w : SeatView E) → At views i v → At views j w → v.spent ≡ false → w.spent ≡ false
      → v.name ≡ w.name → i ≡ j
  pub empty : (id : ℕ) (v : SeatView E) → At views id v → v.spent ≡ true → (v.mine ≡ []) × (v.stage ≡ Idle)

-- the log begins with what the seat has seen, now and before it took in another one
abbrev pub HasSeen : {E : Type 0} → List E → SeatView E → Type 0
HasSeen log v = StartsWith log v.seen × StartsWith log v.own_seen × StartsWith log v.other_seen

-- What seats have seen of the log, and their own entries there.
pub record Own {E : Type 0} (answers : List E → ℕ → Option ℕ) (log : List E) (views : List (SeatView E)) : Type 0 where
  pub begins : (id : ℕ) (v : SeatView E) → At views id v → HasSeen log v
  pub placed : (id : ℕ) (v : SeatView E) → At views id v → ArePlaced log v.mine
  pub rises : (id : ℕ) (v : SeatView E) → At views id v → Rises v.mine
  -- no place is in two of them
  pub apart : (i j : ℕ) (v w : SeatView E) → At views i v → At views j w
      → (p : ℕ) (e f : E) → In (p, e) v.mine → In (p, f) w.mine → i ≡ j
  -- what none of the seat's own entries answers, no entry answers
  pub free : (id : ℕ) (v : SeatView E) → At views id v → AnswersOwn answers log v.mine

-- the rule
abbrev pub Kept : {T E : Type 0} → (T → List E) → (List E → ℕ → Option ℕ) → State (Option T) (SeatView E) → Type 0
Kept {T} {E} list answers s = (log : List E) × LockFacts list log s × Names s.views × Own answers log s.views
