-- The values of a builtin at devices, one after another.
use Rattle.std.proofs.Common.{◌≡◌, ℕ, zero, suc, ◌<◌, ◌≤◌, List, [], ◌∷◌, ◌++◌, length, map, get_or, take, refl, ap, arith}
use Rattle.fc_values.specs.declared.builtins.Builtin.{Builtin}
use Rattle.fc_values.specs.declared.values.Local.{Local}
use Rattle.fc_values.specs.Values.{local_of}
use Rattle.fc_values.specs.Fields.{entry_of}
use Rattle.stable_field.specs.Columns.{HasLocal, HaveLocal, joined_entries, joined_value}

module _ (o : Builtin) (c : ℕ) where
  -- the value at one device more
  pub joined_more : (xs ys : List (ℕ × Local)) (i : ℕ) (x y : ℕ × Local) → x ≡ get_or xs i x → y ≡ get_or ys i y → i < length xs → i < length ys
      → take (suc i) (joined_entries o c (map entry_of xs) (map entry_of ys)) ≡ take i (joined_entries o c (map entry_of xs) (map entry_of ys)) ++ (x.0, joined_value o c x.0 (local_of x.1) (local_of y.1)) ∷ []
  joined_more [] ys i x y e f h k = absurd (omega (arith, h))
  joined_more (a ∷ xs) [] i x y e f h k = absurd (omega (arith, k))
  joined_more (a ∷ xs) (b ∷ ys) zero x y e f h k = rw (e, f) refl
  joined_more (a ∷ xs) (b ∷ ys) (suc i) x y e f h k = ap (λ r. (a.0, joined_value o c a.0 (local_of a.1) (local_of b.1)) ∷ r) (joined_more xs ys i x y e f (omega (arith, h)) (omega (arith, k)))

  pub local_at : (xs ys : List (ℕ × Local)) (i : ℕ) (x y : ℕ × Local) → x ≡ get_or xs i x → y ≡ get_or ys i y → i < length xs → i < length ys
      → HaveLocal o c (map entry_of xs) (map entry_of ys) → HasLocal o c x.0 (local_of x.1) (local_of y.1)
  local_at [] ys i x y e f h k l = absurd (omega (arith, h))
  local_at (a ∷ xs) [] i x y e f h k l = absurd (omega (arith, k))
  local_at (a ∷ xs) (b ∷ ys) zero x y e f h k l = rw (e, f) l.0
  local_at (a ∷ xs) (b ∷ ys) (suc i) x y e f h k l = local_at xs ys i x y e f (omega (arith, h)) (omega (arith, k)) l.1

  -- there are no more than there are devices
  pub joined_whole : (xs ys : List (ℕ × Local)) (i : ℕ) → (length xs ≤ length ys → length xs ≤ i) → (length ys ≤ length xs → length ys ≤ i)
      → take i (joined_entries o c (map entry_of xs) (map entry_of ys)) ≡ joined_entries o c (map entry_of xs) (map entry_of ys)
  joined_whole [] ys zero f g = refl
  joined_whole [] ys (suc i) f g = refl
  joined_whole (a ∷ xs) [] zero f g = refl
  joined_whole (a ∷ xs) [] (suc i) f g = refl
  joined_whole (a ∷ xs) (b ∷ ys) zero f g = absurd (none xs ys f g)
    where
      none : (xs ys : List (ℕ × Local)) → (suc (length xs) ≤ suc (length ys) → suc (length xs) ≤ 0) → (suc (length ys) ≤ suc (length xs) → suc (length ys) ≤ 0) → ⊥
      none [] ys f g = let h = f (omega arith) in omega (arith, h)
      none (x ∷ xs) [] f g = let h = g (omega arith) in omega (arith, h)
      none (x ∷ xs) (y ∷ ys) f g = none xs ys (λ h. let k = f (omega (arith, h)) in omega (arith, k)) (λ h. let k = g (omega (arith, h)) in omega (arith, k))
  joined_whole (a ∷ xs) (b ∷ ys) (suc i) f g = ap (λ r. (a.0, joined_value o c a.0 (local_of a.1) (local_of b.1)) ∷ r) (joined_whole xs ys i (λ h. let k = f (omega (arith, h)) in omega (arith, k)) (λ h. let k = g (omega (arith, h)) in omega (arith, k)))
