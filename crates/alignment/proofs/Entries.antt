-- Crates above cite this module: the devices of a field with one more entry.
use Rattle.std.proofs.Common.{◌≡◌, ℕ, List, [], ◌∷◌, refl, ap, Bool, true, false, nat_lt}
use Rattle.fc_values.specs.Values.{LocalValue}
use Rattle.fc_values.specs.Fields.{Entries, devices, with_entry, with_number}

pub devices_with : (d : ℕ) (v : LocalValue) (es : Entries) → devices (with_entry d v es) ≡ with_number d (devices es)
devices_with d v [] = refl
devices_with d v (e ∷ es) = by_test (nat_lt d e.0) refl (devices_with d v es)
  where
    by_test : (b : Bool) → nat_lt d e.0 ≡ b → devices (with_entry d v es) ≡ with_number d (devices es) → devices (with_entry d v (e ∷ es)) ≡ with_number d (devices (e ∷ es))
    by_test true t h = rw t refl
    by_test false t h = rw t (ap (λ (xs : List ℕ). e.0 ∷ xs) h)
