-- What callers see of a pass, and what the calls of a lock promise.
use Rattle.std.specs.Prelude.{ℕ, ◌≡◌, ◌⊎◌, ◌+◌, ◌-◌, ◌<◌, ◌≤◌, List, [], ◌∷◌, ◌++◌, drop, map, length, Option, Some, None}
use denote.Param.Members.{Once}
use Rattle.std.specs.Borrow.{MutBor}
use Rattle.std.specs.Fn.{FnOnceTakesAtMut, FnOnceReturnsAtMut}
use Rattle.atomic_table.specs.Seated.{TableId}
use Rattle.turn_lock.specs.Logs.{StartsWith, In, Rises, IsOpen, ArePlaced, AnswersOwn, without, last_of, longer, merged}

-- The parts of a pass.
pub record PassView (E : Type 0) : Type 0 where
  -- the lock that it is a pass of
  pub lock : TableId
  pub name : List ℕ
  -- the number of its turns
  pub left : ℕ
  -- a beginning of the log
  pub seen : List E
  -- its own entries with their places
  pub mine : List (ℕ × E)
  -- how many passes were split from it
  pub made : ℕ
  -- the numbers of those that weren't joined back
  pub out : List ℕ
  -- the turns that the lock was made with
  pub turns : ℕ
  -- the length of the list when the lock was made
  pub start : ℕ

-- the numbers that are out were given out
abbrev pub IsBelow : {E : Type 0} → PassView E → Type 0
IsBelow v = (k : ℕ) → In k v.out → k < v.made

-- the first pass of a lock round a value with this list
abbrev pub opened : {E : Type 0} → TableId → List E → ℕ → PassView E
opened lock log turns = record {
  lock = lock;
  name = [];
  left = turns;
  seen = log;
  mine = [];
  made = 0;
  out = [];
  turns = turns;
  start = length log;
}

-- what a pass keeps where a share of its turns is split off
abbrev pub kept_part : {E : Type 0} → ℕ → PassView E → PassView E
kept_part share v = record v { left = v.left - share; made = v.made + 1; out = v.out ++ v.made ∷ [] }

-- what the new pass gets
abbrev pub new_part : {E : Type 0} → ℕ → PassView E → PassView E
new_part share v = record v { name = v.name ++ v.made ∷ []; left = share; mine = []; made = 0; out = [] }

-- a pass that has taken in another one
abbrev pub joined : {E : Type 0} → PassView E → PassView E → PassView E
joined v w = record v {
  left = v.left + w.left;
  seen = longer v.seen w.seen;
  mine = merged v.mine w.mine;
  out = without (last_of w.name) v.out;
}

-- a pass after its turn, which added the entry e to the log
abbrev pub wrote : {E : Type 0} → PassView E → List E → E → PassView E
wrote v log e = record v { left = v.left - 1; seen = log ++ e ∷ []; mine = v.mine ++ (length log, e) ∷ [] }

-- The value y agrees with the pass.
pub record Agrees {T E : Type 0} (list : T → List E) (answers : List E → ℕ → Option ℕ) (v : PassView E) (y : T)
    : Type 0 where
  pub begins : StartsWith (list y) v.seen
  pub placed : ArePlaced (list y) v.mine
  -- an entry of the pass that none of its own answers is answered by no entry
  pub free : AnswersOwn answers (list y) v.mine
  -- the list has grown by at most the turns of the lock without those that the pass has left
  pub grown : length (list y) + v.left ≤ v.start + v.turns

-- the entry e after the log answers none, or an entry of mine that none of mine answers
abbrev pub MayAnswer : {E : Type 0} → (List E → ℕ → Option ℕ) → List E → List (ℕ × E) → E → Type 0
MayAnswer {E} answers log mine e =
    let answered = answers (log ++ e ∷ []) (length log) in
    (answered ≡ None) ⊎ ((p : ℕ) × (f : E) × (answered ≡ Some p) × In (p, f) mine × IsOpen answers log mine p)

-- what a call of a function leaves, and how it is called, where it is lent a value and answers
abbrev pub TurnCall : Type 0 → Type 0 → Type 0 → Type 1
TurnCall T F R = Once F (MutBor T × Unit {0}) (R × (MutBor T × Unit {0}))

module _ {T E F R : Type 0} (list : T → List E) (answers : List E → ℕ → Option ℕ) (g : TurnCall T F R) (f : F)
    (v : PassView E) where
  -- f may be called on every value that agrees with the pass
  abbrev pub MayTurn : Type 0
  MayTurn = (x : T) → Agrees list answers v x → FnOnceTakesAtMut g f x

  -- y has the list of x and exactly one entry more, which the pass may add
  abbrev pub Adds : T → T → Type 0
  Adds x y = (e : E) × (list y ≡ list x ++ e ∷ []) × MayAnswer answers (list x) v.mine e

  -- on each of these values f keeps the list and appends exactly one entry, which the pass may add
  abbrev pub AppendsOne : Type 0
  AppendsOne = (x y : T) (r : R) → Agrees list answers v x → FnOnceReturnsAtMut g f x r y → Adds x y

-- The pass v took a turn with f that answered r, and is w now.
pub record Turned {T E F R : Type 0} (list : T → List E) (answers : List E → ℕ → Option ℕ) (g : TurnCall T F R) (f : F)
    (v w : PassView E) (r : R) : Type 0 where
  -- the value that f was called on, and what f left there
  pub before : T
  pub after : T
  -- this call's entry
  pub entry : E
  pub agrees : Agrees list answers v before
  pub call : FnOnceReturnsAtMut g f before r after
  pub left : list after ≡ w.seen
  pub view : w ≡ wrote v (list before) entry

-- The lock gave back y for the pass v.
pub record Closed {T E : Type 0} (list : T → List E) (v : PassView E) (y : T) : Type 0 where
  pub begins : StartsWith (list y) v.seen
  pub placed : ArePlaced (list y) v.mine
  -- past the opening it has exactly as many entries as the pass
  pub counted : length (list y) ≡ v.start + length v.mine
  -- and they are the entries of the pass, in order
  pub whole : drop v.start (list y) ≡ map (λ (z : ℕ × E). z.1) v.mine
  pub rises : Rises v.mine
