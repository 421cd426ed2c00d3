-- What a seat of the table knows, of which a pass is seen by callers.
use Rattle.std.specs.Prelude.{ℕ, ◌≡◌, ◌<◌, ◌+◌, ◌-◌, List, [], ◌∷◌, ◌++◌, length, Option, true, false}
use Rattle.atomic_table.specs.Table.{Me}
use Rattle.atomic_table.specs.Seated.{TableId}
use Rattle.turn_lock.specs.declared.views.SeatView.{SeatView}
use Rattle.turn_lock.specs.declared.views.Stage.{Stage}
use Rattle.turn_lock.specs.declared.views.Stage.TheVariants.{Idle, Has}
use Rattle.turn_lock.specs.Logs.{In, Rises, without, last_of, longer, merged}
use Rattle.turn_lock.specs.Passes.{PassView}

-- what callers see of the seat
abbrev pub pass_view : {E : Type 0} → TableId → SeatView E → PassView E
pass_view lock v = record {
  lock = lock;
  name = v.name;
  left = v.left;
  seen = v.seen;
  mine = v.mine;
  made = v.made;
  out = v.out;
  turns = v.turns;
  start = v.start;
}

-- the first seat of a lock
abbrev pub opened_seat : {E : Type 0} → List E → ℕ → SeatView E
opened_seat log turns = record {
  spent = false;
  name = [];
  left = turns;
  seen = log;
  own_seen = [];
  other_seen = [];
  mine = [];
  made = 0;
  out = [];
  turns = turns;
  start = length log;
  stage = Idle;
}

-- the seat at another stage
abbrev pub staged : {E : Type 0} → SeatView E → Stage → SeatView E
staged v stage = record v { stage = stage }

-- the seat with the turn, which has seen the log
abbrev pub served : {E : Type 0} → SeatView E → List E → SeatView E
served v log = record v { stage = Has; seen = log }

-- the seat after its turn, in which the entry e was added to the log
abbrev pub wrote_seat : {E : Type 0} → SeatView E → List E → E → SeatView E
wrote_seat v log e = record v {
  stage = Idle;
  seen = log ++ e ∷ [];
  left = v.left - 1;
  mine = v.mine ++ (length log, e) ∷ [];
}

-- what stays of a seat from which a share is split
abbrev pub kept_seat : {E : Type 0} → ℕ → SeatView E → SeatView E
kept_seat share v = record v { left = v.left - share; made = v.made + 1; out = v.out ++ v.made ∷ [] }

-- what the new seat has
abbrev pub new_seat : {E : Type 0} → ℕ → SeatView E → SeatView E
new_seat share v = record v {
  name = v.name ++ v.made ∷ [];
  left = share;
  own_seen = [];
  other_seen = [];
  mine = [];
  made = 0;
  out = [];
}

-- a seat that has taken in another one
abbrev pub joined_seat : {E : Type 0} → SeatView E → SeatView E → SeatView E
joined_seat v w = record v {
  left = v.left + w.left;
  seen = longer v.seen w.seen;
  own_seen = v.seen;
  other_seen = w.seen;
  mine = merged v.mine w.mine;
  out = without (last_of w.name) v.out;
}

-- what is left of the other one
abbrev pub spent_seat : {E : Type 0} → SeatView E
spent_seat = record {
  spent = true;
  name = [];
  left = 0;
  seen = [];
  own_seen = [];
  other_seen = [];
  mine = [];
  made = 0;
  out = [];
  turns = 0;
  start = 0;
  stage = Idle;
}

-- the seat of a pass that a caller has: it waits for nothing, holds nothing and wasn't joined into another one; its
-- entries rise, and its numbers that are out were given out
pub record IsSeated {T E : Type 0} (m : Me (Option T) (SeatView E)) : Type 0 where
  pub idle : m.0.stage ≡ Idle
  pub empty : m.1 ≡ []
  pub live : m.0.spent ≡ false
  pub rises : Rises m.0.mine
  pub below : (k : ℕ) → In k m.0.out → k < m.0.made
