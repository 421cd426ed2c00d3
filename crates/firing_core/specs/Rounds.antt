-- Rounds: stretches of a log in which each device begins a firing and later ends it.
use Rattle.std.specs.Prelude.{ℕ, zero, suc, Bool, true, false, ◌≡◌, ◌⊎◌, ◌||◌, List, [], ◌∷◌, ◌++◌, if◌then◌else◌}
use Rattle.fc_values.specs.Fields.{is_in}
use Rattle.firing_core.specs.Entries.{EntryValue, BeginEntry, EndEntry, IdleEntry, EditEntry}

-- whether an entry is an edit, and whether a log has one
abbrev pub is_edit : EntryValue → Bool
is_edit (BeginEntry d) = false
is_edit (EndEntry d) = false
is_edit IdleEntry = false
is_edit (EditEntry e) = true

abbrev pub has_edit : List EntryValue → Bool
has_edit [] = false
has_edit (e ∷ es) = is_edit e || has_edit es

-- the part of a log after its last edit
abbrev pub after_edit : List EntryValue → List EntryValue
after_edit [] = []
after_edit (e ∷ es) = if has_edit es then after_edit es else (if is_edit e then es else e ∷ es)

-- a device ends a firing
abbrev pub HasEnd : ℕ → List EntryValue → Type 0
HasEnd d [] = ⊥
HasEnd d (e ∷ es) = (e ≡ EndEntry d) ⊎ HasEnd d es

-- a device begins a firing, and later ends one: the same, since a device in flight begins no other (`StepSeeing`)
abbrev pub HasFiring : ℕ → List EntryValue → Type 0
HasFiring d [] = ⊥
HasFiring d (e ∷ es) = ((e ≡ BeginEntry d) × HasEnd d es) ⊎ HasFiring d es

-- a stretch without an edit in which each of some devices fires
pub record Covers (live : List ℕ) (part : List EntryValue) : Type 0 where
  pub plain : has_edit part ≡ false
  pub fires : (d : ℕ) → is_in d live ≡ true → HasFiring d part

-- a log without an edit that splits into k covering parts and a rest
abbrev pub HasRounds : List ℕ → List EntryValue → ℕ → Type 0
HasRounds live log zero = has_edit log ≡ false
HasRounds live log (suc k) =
    (part : List EntryValue) × (rest : List EntryValue)
    × (log ≡ part ++ rest) × Covers live part × HasRounds live rest k
