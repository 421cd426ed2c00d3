-- Devices that begin firings in turn.
use Rattle.std.specs.Prelude.{ℕ, true, ◌≡◌, ◌+◌, ◌<◌, ◌≤◌, List, [], ◌∷◌, ◌++◌, None}
use Rattle.fc_values.specs.Fields.{is_in}
use Rattle.fc_nodes.specs.Program.{Unfolding}
use Rattle.firing_core.specs.Entries.{EntryValue, BeginEntry, EndEntry, IdleEntry, EditEntry}
use Rattle.firing_core.specs.Cores.{Core, Step}
use Rattle.firing_core.specs.Stretches.{begins}

-- A device begins a firing, and the devices with these numbers, of which it is one, have begun what stands before. None
-- of them is behind it, and each smaller one is ahead of it.
pub record TakesTurn (ids : List ℕ) (before : List EntryValue) (c : Core) (d : ℕ) : Type 0 where
  pub there : is_in d ids ≡ true
  pub behind : (e : ℕ) → is_in e ids ≡ true → begins d before ≤ begins e before
  pub rests : (e : ℕ) → is_in e ids ≡ true → begins e before ≡ begins d before → c.flying e ≡ None
  pub ahead : (e : ℕ) → is_in e ids ≡ true → e < d → begins d before < begins e before

abbrev pub BeginsInTurn : List ℕ → List EntryValue → Core → EntryValue → Type 0
BeginsInTurn ids before c (BeginEntry d) = TakesTurn ids before c d
BeginsInTurn ids before c (EndEntry d) = Unit {0}
BeginsInTurn ids before c IdleEntry = Unit {0}
BeginsInTurn ids before c (EditEntry e) = Unit {0}

-- the entries of a log lead from a core to a core, one step each, and each begin is in turn
abbrev pub InTurn : Unfolding → List ℕ → List EntryValue → Core → List EntryValue → Core → Type 0
InTurn U ids before c [] last = last ≡ c
InTurn U ids before c (e ∷ es) last =
    (next : Core) × Step U c e next × BeginsInTurn ids before c e × InTurn U ids (before ++ e ∷ []) next es last

-- a smaller device has begun at least as many firings as a larger one, and at most one more
pub record IsOrdered (ids : List ℕ) (part : List EntryValue) : Type 0 where
  pub falls : (d e : ℕ) → is_in d ids ≡ true → is_in e ids ≡ true → d < e → begins e part ≤ begins d part
  pub near : (d e : ℕ) → is_in d ids ≡ true → is_in e ids ≡ true → begins d part ≤ begins e part + 1
