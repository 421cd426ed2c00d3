-- Operators on local values: arguments in their ranges give a value in the builtin's range.
use Rattle.std.proofs.Common.{◌≡◌, ℕ, zero, suc, ◌≤◌, ◌+◌, ◌-◌, ◌*◌, List, [], ◌∷◌, refl, arith, Bool, true, false, min, Option, Some, None}
use Rattle.std.specs.Prelude.{if◌then◌else◌}
use Rattle.fc_values.specs.declared.builtins.Builtin.{Builtin}
use Rattle.fc_values.specs.declared.builtins.Builtin.TheVariants as op
use Rattle.fc_values.specs.Types.{LocalType}
use Rattle.fc_values.specs.Values.{LocalValue, IntValue, BoolValue, PairValue, Fits}
use Rattle.fc_values.specs.Builtins.{local_value}
use Rattle.fc_values.specs.BuiltinTypes.{Takes, takes_add, takes_sub, takes_mul, takes_rise, takes_min, takes_max, takes_less, takes_equal, takes_and, takes_or, takes_not, takes_mux, takes_pair, takes_fst, takes_snd}
use Rattle.fc_values.proofs.BuiltinTyped.{FitEach}
use Rattle.interval_facts.specs.Ranges.{RangeValue, IntRange, BoolRange, PairRange, InRange, hull, builtin_range}
use Rattle.interval_facts.proofs.Orders.{two, hull_first, hull_second, lesser_lies, greater_lies}

-- each value lies in its range
abbrev pub EachLies : List RangeValue → List LocalValue → Type 0
EachLies [] [] = Unit {0}
EachLies (r ∷ rs) (x ∷ xs) = InRange r x × EachLies rs xs
EachLies _ _ = ⊥

-- a value that is there lies in a range
abbrev pub MaybeLies : RangeValue → Option LocalValue → Type 0
MaybeLies r None = Unit {0}
MaybeLies r (Some v) = InRange r v

integer_in : (r : RangeValue) (n : ℕ) → InRange r (IntValue n) → (a : ℕ) × (b : ℕ) × (r ≡ IntRange a b) × (a ≤ n) × (n ≤ b)
integer_in (IntRange a b) n h = (a, b, refl, h.0, h.1)
integer_in BoolRange n h = absurd h
integer_in (PairRange r s) n h = absurd h

pair_in : (r : RangeValue) (v w : LocalValue) → InRange r (PairValue v w) → (a : RangeValue) × (b : RangeValue) × (r ≡ PairRange a b) × InRange a v × InRange b w
pair_in (PairRange a b) v w h = (a, b, refl, h.0, h.1)
pair_in BoolRange v w h = absurd h
pair_in (IntRange a b) v w h = absurd h

product_least : (a c n k : ℕ) → a ≤ n → c ≤ k → a * c ≤ n * k
product_least zero c n k h i = omega arith
product_least (suc a) c zero k h i = absurd (omega (arith, h))
product_least (suc a) c (suc n) k h i = let l = product_least a c n k (omega (arith, h)) i in omega (arith, l, i)

module _ (m : ℕ) (other : RangeValue) where
  sum_lies : (r s : RangeValue) (n k : ℕ) → InRange r (IntValue n) → InRange s (IntValue k) → InRange (builtin_range m other op.Add (r ∷ s ∷ [])) (IntValue (min m (n + k)))
  sum_lies r s n k h i =
      let x = integer_in r n h in
      let y = integer_in s k i in
      rw (x.2, y.2) (omega (arith, x.3, y.3), omega (arith, x.4, y.4))

  difference_lies : (r s : RangeValue) (n k : ℕ) → InRange r (IntValue n) → InRange s (IntValue k) → InRange (builtin_range m other op.Sub (r ∷ s ∷ [])) (IntValue (n - k))
  difference_lies r s n k h i =
      let x = integer_in r n h in
      let y = integer_in s k i in
      rw (x.2, y.2) (omega (arith, x.3, y.4), omega (arith, x.4, y.3))

  product_lies : (r s : RangeValue) (n k : ℕ) → InRange r (IntValue n) → InRange s (IntValue k) → InRange (builtin_range m other op.Mul (r ∷ s ∷ [])) (IntValue (min m (n * k)))
  product_lies r s n k h i =
      let x = integer_in r n h in
      let y = integer_in s k i in
      let l = product_least x.0 y.0 n k x.3 y.3 in
      let g = product_least n k x.1 y.1 x.4 y.4 in
      rw (x.2, y.2) (min_least m (x.0 * y.0) (n * k) l, min_least m (n * k) (x.1 * y.1) g)
    where
      min_least : (m a b : ℕ) → a ≤ b → min m a ≤ min m b
      min_least m a b h = omega (arith, h)

  rise_lies : (q r s : RangeValue) (n k i : ℕ) → n ≤ m → InRange q (IntValue n) → InRange r (IntValue k) → InRange s (IntValue i) →
      InRange (builtin_range m other op.Rise (q ∷ r ∷ s ∷ [])) (IntValue (min n (k + i)))
  rise_lies q r s n k i f h g j =
      let x = integer_in q n h in
      let y = integer_in r k g in
      let z = integer_in s i j in
      rw (x.2, y.2, z.2) (omega (arith, x.3, y.3, z.3), omega (arith, f, x.4, y.4, z.4))

  choice_lies : (t : LocalType) (r s : RangeValue) (c : Bool) (v w : LocalValue) → Fits m t v → Fits m t w → InRange r v → InRange s w → InRange (hull r s) (if c then v else w)
  choice_lies t r s true v w f g h i = hull_first (two m t r s v w f g h i)
  choice_lies t r s false v w f g h i = hull_second (two m t r s v w f g h i)

  -- the operators on local values
  pub operator_lies : (o : Builtin) (ts : List LocalType) (t : LocalType) → Takes o ts t → (xs : List LocalValue) → FitEach m ts xs → (rs : List RangeValue) → EachLies rs xs →
      MaybeLies (builtin_range m other o rs) (local_value o m xs)
  operator_lies _ _ _ takes_add (IntValue n ∷ IntValue k ∷ []) f (r ∷ s ∷ []) h = sum_lies r s n k h.0 h.1.0
  operator_lies _ _ _ takes_sub (IntValue n ∷ IntValue k ∷ []) f (r ∷ s ∷ []) h = difference_lies r s n k h.0 h.1.0
  operator_lies _ _ _ takes_mul (IntValue n ∷ IntValue k ∷ []) f (r ∷ s ∷ []) h = product_lies r s n k h.0 h.1.0
  operator_lies _ _ _ takes_rise (IntValue n ∷ IntValue k ∷ IntValue i ∷ []) f (q ∷ r ∷ s ∷ []) h = rise_lies q r s n k i f.0 h.0 h.1.0 h.1.1.0
  operator_lies _ _ _ (takes_min t) (v ∷ w ∷ []) f (r ∷ s ∷ []) h = lesser_lies (two m t r s v w f.0 f.1.0 h.0 h.1.0)
  operator_lies _ _ _ (takes_max t) (v ∷ w ∷ []) f (r ∷ s ∷ []) h = greater_lies (two m t r s v w f.0 f.1.0 h.0 h.1.0)
  operator_lies _ _ _ (takes_less t) (v ∷ w ∷ []) f rs h = tt
  operator_lies _ _ _ (takes_equal t) (v ∷ w ∷ []) f rs h = tt
  operator_lies _ _ _ takes_and (BoolValue a ∷ BoolValue b ∷ []) f rs h = tt
  operator_lies _ _ _ takes_or (BoolValue a ∷ BoolValue b ∷ []) f rs h = tt
  operator_lies _ _ _ takes_not (BoolValue a ∷ []) f rs h = tt
  operator_lies _ _ _ (takes_mux t) (BoolValue c ∷ v ∷ w ∷ []) f (q ∷ r ∷ s ∷ []) h = choice_lies t r s c v w f.1.0 f.1.1.0 h.1.0 h.1.1.0
  operator_lies _ _ _ (takes_pair t u l) (v ∷ w ∷ []) f (r ∷ s ∷ []) h = (h.0, h.1.0)
  operator_lies _ _ _ (takes_fst t u) (PairValue v w ∷ []) f (r ∷ []) h = let x = pair_in r v w h.0 in rw x.2 x.3
  operator_lies _ _ _ (takes_snd t u) (PairValue v w ∷ []) f (r ∷ []) h = let x = pair_in r v w h.0 in rw x.2 x.4
  operator_lies _ _ _ takes xs f rs h = absurd assumption
