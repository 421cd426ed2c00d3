-- Bounds of values of any type, and of what builtins make of them.
use Rattle.std.specs.Prelude.{ℕ, Bool, true, false, ◌≡◌, ◌+◌, ◌-◌, ◌*◌, List, [], ◌∷◌, map, min, nat_eq, not}
use Rattle.std.specs.Prelude.{◌&&◌, ◌||◌, Some, if◌then◌else◌}
use Rattle.fc_values.specs.declared.builtins.Builtin.{Builtin}
use Rattle.fc_values.specs.declared.builtins.Builtin.TheVariants as op
use Rattle.fc_values.specs.Fields.{Entries, AnyValue, ValueLocal, ValueField, devices, is_in}
use Rattle.fc_values.specs.Builtins.{builtin_value, is_hood}
use Rattle.value_bounds.specs.BoundValues.{BoundValue, Between, Truths, Both, Unbounded, Lies, either, may_less}
use Rattle.value_bounds.specs.BoundValues.{must_less, may_equal, must_equal, lesser_bound, greater_bound}

-- neighbours that may be there: their numbers, and whether they are there for sure
abbrev pub Maybes : Type 0
Maybes = List (ℕ × Bool)

-- the same with a bound for each
abbrev pub BoundEntries : Type 0
BoundEntries = List (ℕ × Bool × BoundValue)

abbrev pub maybe_in : ℕ × Bool × BoundValue → ℕ × Bool
maybe_in e = (e.0, e.1)

abbrev pub maybes_in : BoundEntries → Maybes
maybes_in bs = map maybe_in bs

-- a bound of a value: of a local one; of a field, at the device itself and at the neighbours that it may be over; and
-- all values of whatever type, which no bound of a typed term is
pub data AnyBound : Type 0 where
  BoundLocal : BoundValue → AnyBound
  BoundField : BoundValue → BoundEntries → AnyBound
  BoundAny : AnyBound

-- the bound at a neighbour; none elsewhere
abbrev pub entry_at : BoundEntries → ℕ → BoundValue
entry_at [] k = Unbounded
entry_at (b ∷ bs) k = if nat_eq k b.0 then b.2 else entry_at bs k

abbrev pub own_else : ℕ → BoundValue → (ℕ → BoundValue) → ℕ → BoundValue
own_else d b f k = if nat_eq k d then b else f k

-- the bound of a field at a device
abbrev pub field_at : ℕ → BoundValue → BoundEntries → ℕ → BoundValue
field_at d own bs k = own_else d own (entry_at bs) k

-- distinct neighbours other than the device
abbrev pub maybe_numbers : Maybes → List ℕ
maybe_numbers ms = map (λ (m : ℕ × Bool). m.0) ms

abbrev pub AreApart : ℕ → Maybes → Type 0
AreApart d [] = Unit {0}
AreApart d (m ∷ ms) = (nat_eq m.0 d ≡ false) × (is_in m.0 (maybe_numbers ms) ≡ false) × AreApart d ms

-- some of the neighbours in order, among them all sure ones
pub data Picked : Maybes → List ℕ → Type 0 where
  no_more : Picked [] []
  taken : (m : ℕ × Bool) (n : ℕ) {ms : Maybes} {ns : List ℕ} → n ≡ m.0 → Picked ms ns → Picked (m ∷ ms) (n ∷ ns)
  passed : (m : ℕ × Bool) {ms : Maybes} {ns : List ℕ} → m.1 ≡ false → Picked ms ns → Picked (m ∷ ms) ns

-- the devices other than one
abbrev pub apart : ℕ → List ℕ → List ℕ
apart d [] = []
apart d (n ∷ ns) = if nat_eq n d then apart d ns else n ∷ apart d ns

-- each entry lies in the bound at its device
abbrev pub EachLies : (ℕ → BoundValue) → Entries → Type 0
EachLies f [] = Unit {0}
EachLies f (e ∷ es) = Lies (f e.0) e.1 × EachLies f es

-- a value lies in a bound at a device: a field is over some of the neighbours, among them all sure ones
abbrev pub LiesIn : ℕ → AnyBound → AnyValue → Type 0
LiesIn d (BoundLocal b) (ValueLocal v) = Lies b v
LiesIn d (BoundLocal b) (ValueField es) = ⊥
LiesIn d (BoundField own bs) (ValueLocal v) = ⊥
LiesIn d (BoundField own bs) (ValueField es) =
    AreApart d (maybes_in bs) × Picked (maybes_in bs) (apart d (devices es)) × EachLies (field_at d own bs) es
LiesIn d BoundAny v = Unit {0}

abbrev pub AllLieIn : ℕ → List AnyBound → List AnyValue → Type 0
AllLieIn d [] [] = Unit {0}
AllLieIn d [] (v ∷ vs) = ⊥
AllLieIn d (b ∷ bs) [] = ⊥
AllLieIn d (b ∷ bs) (v ∷ vs) = LiesIn d b v × AllLieIn d bs vs

-- ---- operators

abbrev pub of_two_ranges : (ℕ → ℕ → ℕ → ℕ → BoundValue) → List BoundValue → BoundValue
of_two_ranges f (Between a b ∷ Between c d ∷ []) = f a b c d
of_two_ranges f _ = Unbounded

abbrev pub of_three_ranges : (ℕ → ℕ → ℕ → ℕ → ℕ → ℕ → BoundValue) → List BoundValue → BoundValue
of_three_ranges f (Between a b ∷ Between c d ∷ Between e g ∷ []) = f a b c d e g
of_three_ranges f _ = Unbounded

abbrev pub of_truths : (Bool → Bool → BoundValue) → List BoundValue → BoundValue
of_truths f (Truths a b ∷ []) = f a b
of_truths f _ = Unbounded

abbrev pub of_four_truths : (Bool → Bool → Bool → Bool → BoundValue) → List BoundValue → BoundValue
of_four_truths f (Truths a b ∷ Truths c d ∷ []) = f a b c d
of_four_truths f _ = Unbounded

abbrev pub of_two_bounds : (BoundValue → BoundValue → BoundValue) → List BoundValue → BoundValue
of_two_bounds f (a ∷ b ∷ []) = f a b
of_two_bounds f _ = Unbounded

abbrev pub of_both : (BoundValue → BoundValue → BoundValue) → List BoundValue → BoundValue
of_both f (Both a b ∷ []) = f a b
of_both f _ = Unbounded

abbrev pub chosen : Bool → Bool → BoundValue → BoundValue → BoundValue
chosen true may a b = a
chosen false true a b = either a b
chosen false false a b = b

abbrev pub of_chosen : List BoundValue → BoundValue
of_chosen (Truths must may ∷ a ∷ b ∷ []) = chosen must may a b
of_chosen _ = Unbounded

-- the bound of what an operator makes of local values in bounds
abbrev pub local_bound : Builtin → ℕ → List BoundValue → BoundValue
local_bound op.Add m bs = of_two_ranges (λ a b c d. Between (min m (a + c)) (min m (b + d))) bs
local_bound op.Sub m bs = of_two_ranges (λ a b c d. Between (a - d) (b - c)) bs
local_bound op.Mul m bs = of_two_ranges (λ a b c d. Between (min m (a * c)) (min m (b * d))) bs
local_bound op.Min m bs = of_two_bounds lesser_bound bs
local_bound op.Max m bs = of_two_bounds greater_bound bs
local_bound op.Less m bs = of_two_bounds (λ a b. Truths (must_less a b) (may_less a b)) bs
local_bound op.Equal m bs = of_two_bounds (λ a b. Truths (must_equal a b) (may_equal a b)) bs
local_bound op.And m bs = of_four_truths (λ a b c d. Truths (a && c) (b && d)) bs
local_bound op.Or m bs = of_four_truths (λ a b c d. Truths (a || c) (b || d)) bs
local_bound op.Not m bs = of_truths (λ a b. Truths (not b) (not a)) bs
local_bound op.Mux m bs = of_chosen bs
local_bound op.Pair m bs = of_two_bounds Both bs
local_bound op.Fst m bs = of_both (λ a b. a) bs
local_bound op.Snd m bs = of_both (λ a b. b) bs
local_bound op.Rise m bs = of_three_ranges (λ a b c d e g. Between (min a (c + e)) (min b (d + g))) bs
local_bound op.MinHoodLoc m bs = Unbounded
local_bound op.MaxHoodLoc m bs = Unbounded
local_bound op.SumHood m bs = Unbounded
local_bound op.AnyHood m bs = Unbounded
local_bound op.AllHood m bs = Unbounded

-- the neighbours of the first field among some bounds, if it is clear which they are
pub data Spread : Type 0 where
  NoField : Spread
  Over : Maybes → Spread
  Unclear : Spread

abbrev pub spread_of : List AnyBound → Spread
spread_of [] = NoField
spread_of (BoundLocal b ∷ bs) = spread_of bs
spread_of (BoundField own es ∷ bs) = Over (maybes_in es)
spread_of (BoundAny ∷ bs) = Unclear

-- a bound at a neighbour or the device d; that of a local value stands for itself everywhere
abbrev pub bound_at : ℕ → ℕ → AnyBound → BoundValue
bound_at d k (BoundLocal b) = b
bound_at d k (BoundField own es) = field_at d own es k
bound_at d k BoundAny = Unbounded

abbrev pub bounds_at : ℕ → ℕ → List AnyBound → List BoundValue
bounds_at d k [] = []
bounds_at d k (b ∷ bs) = bound_at d k b ∷ bounds_at d k bs

abbrev pub entries_over : (ℕ → BoundValue) → Maybes → BoundEntries
entries_over f ms = map (λ (m : ℕ × Bool). (m.0, m.1, f m.0)) ms

abbrev pub pointwise_by : (List BoundValue → BoundValue) → ℕ → Spread → List AnyBound → AnyBound
pointwise_by f d NoField bs = BoundLocal (f (bounds_at d 0 bs))
pointwise_by f d (Over ms) bs = BoundField (f (bounds_at d d bs)) (entries_over (λ k. f (bounds_at d k bs)) ms)
pointwise_by f d Unclear bs = BoundAny

-- ---- hoods

abbrev pub one_least : Bool → BoundValue → BoundValue → BoundValue
one_least true best b = lesser_bound best b
one_least false best b = either (lesser_bound best b) best

abbrev pub least_bound : BoundValue → BoundEntries → BoundValue
least_bound best [] = best
least_bound best (b ∷ bs) = least_bound (one_least b.1 best b.2) bs

abbrev pub one_greatest : Bool → BoundValue → BoundValue → BoundValue
one_greatest true best b = greater_bound best b
one_greatest false best b = either (greater_bound best b) best

abbrev pub greatest_bound : BoundValue → BoundEntries → BoundValue
greatest_bound best [] = best
greatest_bound best (b ∷ bs) = greatest_bound (one_greatest b.1 best b.2) bs

abbrev pub add_range : Bool → BoundValue → BoundValue → BoundValue
add_range true (Between a b) (Between c d) = Between (a + c) (b + d)
add_range false (Between a b) (Between c d) = Between c (b + d)
add_range _ _ _ = Unbounded

abbrev pub sum_bound : BoundEntries → BoundValue
sum_bound [] = Between 0 0
sum_bound (b ∷ bs) = add_range b.1 b.2 (sum_bound bs)

abbrev pub cut : ℕ → BoundValue → BoundValue
cut ceiling (Between a b) = Between (min ceiling a) (min ceiling b)
cut ceiling _ = Unbounded

abbrev pub any_truths : Bool → BoundValue → BoundValue → BoundValue
any_truths true (Truths a b) (Truths c d) = Truths (a || c) (b || d)
any_truths false (Truths a b) (Truths c d) = Truths c (b || d)
any_truths _ _ _ = Unbounded

abbrev pub any_bound : BoundEntries → BoundValue
any_bound [] = Truths false false
any_bound (b ∷ bs) = any_truths b.1 b.2 (any_bound bs)

abbrev pub all_truths : Bool → BoundValue → BoundValue → BoundValue
all_truths true (Truths a b) (Truths c d) = Truths (a && c) (b && d)
all_truths false (Truths a b) (Truths c d) = Truths (a && c) d
all_truths _ _ _ = Unbounded

abbrev pub all_bound : BoundEntries → BoundValue
all_bound [] = Truths true true
all_bound (b ∷ bs) = all_truths b.1 b.2 (all_bound bs)

abbrev pub of_spread_and_local : (BoundEntries → BoundValue → BoundValue) → List AnyBound → BoundValue
of_spread_and_local g (BoundField own es ∷ BoundLocal b ∷ []) = g es b
of_spread_and_local g _ = Unbounded

abbrev pub of_spread : (BoundEntries → BoundValue) → List AnyBound → BoundValue
of_spread g (BoundField own es ∷ []) = g es
of_spread g _ = Unbounded

abbrev pub hood_bound : Builtin → ℕ → List AnyBound → BoundValue
hood_bound op.MinHoodLoc m bs = of_spread_and_local (λ es b. least_bound b es) bs
hood_bound op.MaxHoodLoc m bs = of_spread_and_local (λ es b. greatest_bound b es) bs
hood_bound op.SumHood m bs = of_spread (λ es. cut m (sum_bound es)) bs
hood_bound op.AnyHood m bs = of_spread any_bound bs
hood_bound op.AllHood m bs = of_spread all_bound bs
hood_bound _ m bs = Unbounded

-- the bound of what a builtin makes, at a device, of values in bounds
abbrev pub builtin_bound : Builtin → ℕ → ℕ → List AnyBound → AnyBound
builtin_bound o m d bs = if is_hood o then BoundLocal (hood_bound o m bs)
    else pointwise_by (local_bound o m) d (spread_of bs) bs

-- what a builtin gives for values in bounds lies in the bound that it gives for these bounds
abbrev pub BuiltinsLie : Type 0
BuiltinsLie = (o : Builtin) (m d : ℕ) (bs : List AnyBound) (xs : List AnyValue) (v : AnyValue) → AllLieIn d bs xs
    → builtin_value o m d xs ≡ Some v → LiesIn d (builtin_bound o m d bs) v
