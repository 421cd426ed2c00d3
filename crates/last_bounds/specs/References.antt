-- What answers in code stand for, and what is noted on the way to them.
use Rattle.std.specs.Prelude.{ℕ, suc, Bool, true, false, ◌≡◌, ◌<◌, ◌≤◌, ◌⊎◌, ◌||◌, List, [], ◌∷◌, ◌++◌, length, map}
use Rattle.std.specs.Prelude.{not, All}
use Rattle.std.specs.Prelude.{slice_index_or as get_or}
use Rattle.std.specs.declared.alloc.Global.{Global}
use Rattle.std.specs.declared.vec.Vec.{Vec}
use Rattle.fc_nodes.specs.Program.{Unfolding}
use Rattle.value_bounds.specs.BoundValues.{BoundValue}
use Rattle.value_bounds.specs.References.{local_bound_in}
use Rattle.bound_firing.specs.declared.firing.ExportBound.{ExportBound as FlatBound}
use Rattle.envelopes.specs.Envelopes.{Envelope, surely_lives}
use Rattle.bound_rounds.specs.Rounds.{BoundTable, rounds_within, HasBound}
use Rattle.bound_rounds.specs.Tables.{Stand, device_at}
use Rattle.last_bounds.specs.declared.changes.Change.{Change}
use Rattle.last_bounds.specs.declared.lasts.LastBound.{LastBound as FlatLast}
use Rattle.last_bounds.specs.LastBounds.{LastBound, EndsAfter}

abbrev pub last_bound_in : FlatLast → LastBound
last_bound_in l = record {
  device = l.device;
  rounds = l.rounds;
  bound = local_bound_in l.bound;
  before = local_bound_in l.before;
  away = l.away;
}

-- ---- changes of a device's bound: after how many rounds, and to which bound

abbrev pub ChangeValue : Type 0
ChangeValue = ℕ × BoundValue

abbrev pub change_in : Change → ChangeValue
change_in c = (c.rounds, local_bound_in c.bound)

abbrev pub changes_in : Vec Change Global → List ChangeValue
changes_in v = map change_in v.items

-- nothing is noted yet
abbrev pub NoneNoted : List (Vec Change Global) → Type 0
NoneNoted vs = All (λ (cs : Vec Change Global). cs.items ≡ []) vs

-- one of them is to a bound
abbrev pub SomeTo : BoundValue → List ChangeValue → Type 0
SomeTo b [] = ⊥
SomeTo b (c ∷ cs) = (c.1 ≡ b) ⊎ SomeTo b cs

-- a bound is noted after so many rounds, or was noted already
pub data IsNoted (j : ℕ) (b : BoundValue) (old : List ChangeValue) : List ChangeValue → Type 0 where
  known : SomeTo b old → IsNoted j b old old
  added : IsNoted j b old (old ++ (j, b) ∷ [])

-- it is where it has to be
abbrev pub IsNotedIf : Bool → ℕ → BoundValue → List ChangeValue → List ChangeValue → Type 0
IsNotedIf true j b old new = IsNoted j b old new
IsNotedIf false j b old new = new ≡ old

-- those of the devices before a place, of each whose export is there for sure or that may be away
abbrev pub AreNoted : Envelope → ℕ → List FlatBound → ℕ → List (Vec Change Global) → List (Vec Change Global) → Type 0
AreNoted E j bs k old new = (i : ℕ) (b : FlatBound) (v : Vec Change Global) → i < k
    → IsNotedIf ((get_or bs i b).sure || not (surely_lives E (device_at E i))) j (local_bound_in (get_or bs i b).value)
    (changes_in (get_or old i v)) (changes_in (get_or new i v))

-- the number of rounds of the first change to a bound; where there is none, another
abbrev pub IsFirst : BoundValue → ℕ → List ChangeValue → ℕ → Type 0
IsFirst b never [] r = r ≡ never
IsFirst b never (c ∷ cs) r = ((c.1 ≡ b) × (r ≡ c.0)) ⊎ ((c.1 ≡ b → ⊥) × IsFirst b never cs r)

-- ---- the changes of a device in the first tables

abbrev pub EachIs : (ChangeValue → Type 0) → List ChangeValue → Type 0
EachIs P [] = Unit {0}
EachIs P (c ∷ cs) = P c × EachIs P cs

-- the numbers of rounds rise
abbrev pub InTurn : List ChangeValue → Type 0
InTurn [] = Unit {0}
InTurn (c ∷ cs) = EachIs (λ e. c.0 < e.0) cs × InTurn cs

-- a bound was there after at most so many rounds
abbrev pub FoundBy : ℕ → BoundValue → List ChangeValue → Type 0
FoundBy i b [] = ⊥
FoundBy i b (c ∷ cs) = ((c.1 ≡ b) × (c.0 ≤ i)) ⊎ FoundBy i b cs

-- of the first n tables
pub record AreChanges (U : Unfolding) (E : Envelope) (start : BoundTable) (d n : ℕ)
    (cs : List ChangeValue) : Type 0 where
  pub has : EachIs (λ c. HasBound U E start c.0 d c.1) cs
  pub few : EachIs (λ c. c.0 < n) cs
  pub turn : InTurn cs
  pub found : (i : ℕ) (b : BoundValue) → i < n → HasBound U E start i d b → FoundBy i b cs

-- so it is of each device, by its place
abbrev pub AllChanges : Unfolding → Envelope → BoundTable → ℕ → List (Vec Change Global) → Type 0
AllChanges U E start n vs = (i : ℕ) (v : Vec Change Global) → i < length E.devices
    → AreChanges U E start (device_at E i) n (changes_in (get_or vs i v))

-- ---- the end of the rounds

-- bounds are those of the last table, after n rounds, and the changes are noted of it and of all before
pub record HasEnded (U : Unfolding) (E : Envelope) (start : BoundTable) (cap n : ℕ) (bs : List FlatBound)
    (vs : List (Vec Change Global)) : Type 0 where
  pub ends : EndsAfter U E start cap n
  pub stands : Stand U E (rounds_within U E start n) bs
  pub changes : AllChanges U E start (suc n) vs

-- ---- the answers

-- what is said of a device, out of its number, whether it is always there, its bounds before any round and in the last
-- table, its changes, and the number of rounds
pub record IsMade (d : ℕ) (sure : Bool) (start last : BoundValue) (cs : List ChangeValue) (n : ℕ)
    (l : FlatLast) : Type 0 where
  pub device : l.device ≡ d
  pub rounds : IsFirst last n cs l.rounds
  pub bound : local_bound_in l.bound ≡ last
  pub before : local_bound_in l.before ≡ start
  pub away : l.away ≡ not sure

-- the values of bounds
abbrev pub values_in : List FlatBound → List BoundValue
values_in bs = map (λ (b : FlatBound). local_bound_in b.value) bs

-- of the devices before a place
abbrev pub AreMade : Envelope → List BoundValue → List FlatBound → List (Vec Change Global) → ℕ → ℕ → List FlatLast
    → Type 0
AreMade E firsts bs vs n k ls = (i : ℕ) (a : BoundValue) (b : FlatBound) (v : Vec Change Global) (l : FlatLast) → i < k
    → IsMade (device_at E i) (surely_lives E (device_at E i)) (get_or firsts i a)
    (local_bound_in (get_or bs i b).value) (changes_in (get_or vs i v)) n (get_or ls i l)
