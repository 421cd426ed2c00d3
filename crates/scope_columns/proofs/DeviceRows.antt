-- The devices in the rows of a field over a device and its aligned neighbours.
use Rattle.std.proofs.Common.{◌≡◌, ℕ, zero, suc, ◌<◌, ◌≤◌, ◌+◌, List, [], ◌∷◌, length, get_or, refl, ap}
use Rattle.std.proofs.Common.{arith, Bool, true, false, nat_lt}
use Rattle.fc_values.specs.Fields.{with_number}
use Rattle.alignment.specs.Environments.{near_numbers}
use Rattle.alignment.specs.declared.environments.NearRef.{NearRef}
use Rattle.alignment.specs.declared.environments.Env.{Env}
use Rattle.alignment.specs.References.{nears_of, numbers_in}
use Rattle.scope_columns.specs.Scopes.{devices_in}
use Rattle.scope_columns.specs.Words.{row_of}

-- the number of a neighbour, as it is read
pub number_nth : (ns : List NearRef) (i : ℕ) (n : NearRef) → i < length ns
    → (get_or ns i n).device ≡ get_or (near_numbers (nears_of ns)) i 0
number_nth [] i n h = absurd (omega arith)
number_nth (x ∷ xs) zero n h = refl
number_nth (x ∷ xs) (suc i) n h = number_nth xs i n (omega arith)

pub numbers_long : (ns : List NearRef) → length (near_numbers (nears_of ns)) ≡ length ns
numbers_long [] = refl
numbers_long (n ∷ ns) = ap suc (numbers_long ns)

module _ (d : ℕ) where
  -- there is one row more than there are neighbours
  pub rows_long : (ns : List ℕ) → length (with_number d ns) ≡ suc (length ns)
  rows_long [] = refl
  rows_long (n ∷ ns) = by_test (nat_lt d n) refl (rows_long ns)
    where
      by_test : (b : Bool) → nat_lt d n ≡ b → length (with_number d ns) ≡ suc (length ns)
          → length (with_number d (n ∷ ns)) ≡ suc (suc (length ns))
      by_test true t h = rw t refl
      by_test false t h = rw t (ap suc h)

  pub rows_many : (env : Env) {n : ℕ} → n ≡ length env.near.items → length (devices_in d env) ≡ n + 1
  rows_many env {n} h = omega (arith, rows_long (numbers_in env), numbers_long env.near.items, h)

  -- the device's own row is one of them
  pub own_within : (ns : List ℕ) → row_of d ns ≤ length ns
  own_within [] = omega arith
  own_within (n ∷ ns) = by_test (nat_lt d n) refl (own_within ns)
    where
      by_test : (b : Bool) → nat_lt d n ≡ b → row_of d ns ≤ length ns → row_of d (n ∷ ns) ≤ suc (length ns)
      by_test true t h = rw t (omega arith)
      by_test false t h = rw t (omega (arith, h))

  -- the devices before it, in it and behind it
  pub device_before : (ns : List ℕ) (i : ℕ) → i < row_of d ns → get_or (with_number d ns) i 0 ≡ get_or ns i 0
  device_before [] i h = absurd (omega (arith, h))
  device_before (n ∷ ns) i h = by_test (nat_lt d n) refl i h (device_before ns)
    where
      by_test : (b : Bool) → nat_lt d n ≡ b → (i : ℕ) → i < row_of d (n ∷ ns)
          → ((i : ℕ) → i < row_of d ns → get_or (with_number d ns) i 0 ≡ get_or ns i 0)
          → get_or (with_number d (n ∷ ns)) i 0 ≡ get_or (n ∷ ns) i 0
      by_test true t i h f = let none : i < 0 = rw t at h in absurd (omega (arith, none))
      by_test false t zero h f = rw t refl
      by_test false t (suc i) h f = let less : suc i < suc (row_of d ns) = rw t at h in rw t (f i (omega (arith, less)))

  pub device_there : (ns : List ℕ) → get_or (with_number d ns) (row_of d ns) 0 ≡ d
  device_there [] = refl
  device_there (n ∷ ns) = by_test (nat_lt d n) refl (device_there ns)
    where
      by_test : (b : Bool) → nat_lt d n ≡ b → get_or (with_number d ns) (row_of d ns) 0 ≡ d
          → get_or (with_number d (n ∷ ns)) (row_of d (n ∷ ns)) 0 ≡ d
      by_test true t h = rw t refl
      by_test false t h = rw t h

  pub device_behind : (ns : List ℕ) (i : ℕ) → row_of d ns ≤ i → get_or (with_number d ns) (suc i) 0 ≡ get_or ns i 0
  device_behind [] i h = refl
  device_behind (n ∷ ns) i h = by_test (nat_lt d n) refl i h (device_behind ns)
    where
      by_test : (b : Bool) → nat_lt d n ≡ b → (i : ℕ) → row_of d (n ∷ ns) ≤ i
          → ((i : ℕ) → row_of d ns ≤ i → get_or (with_number d ns) (suc i) 0 ≡ get_or ns i 0)
          → get_or (with_number d (n ∷ ns)) (suc i) 0 ≡ get_or (n ∷ ns) i 0
      by_test true t i h f = rw t refl
      by_test false t zero h f = let more : suc (row_of d ns) ≤ 0 = rw t at h in absurd (omega (arith, more))
      by_test false t (suc i) h f = let more : suc (row_of d ns) ≤ suc i = rw t at h in rw t (f i (omega (arith, more)))
