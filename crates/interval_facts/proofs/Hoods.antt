-- Hoods: a field and a local value in their ranges give a value in the builtin's range.
use Rattle.std.proofs.Common.{ℕ, ◌<◌, List, [], ◌∷◌, length, arith, Bool, true, false, min, Option, Some, None, option_map, nat_eq}
use Rattle.std.specs.Prelude.{if◌then◌else◌}
use Rattle.fc_values.specs.declared.builtins.Builtin.{Builtin}
use Rattle.fc_values.specs.Types.{LocalType, ValueType}
use Rattle.fc_values.specs.Values.{LocalValue, IntValue, BoolValue, PairValue, Fits, compare_values, is_less, lesser, greater}
use Rattle.fc_values.specs.Fields.{Entries, AnyValue, ValueLocal, ValueField, AllFit, FitEachOver}
use Rattle.fc_values.specs.Builtins.{others, least_of, greatest_of, sum_of, any_of, all_of, hood_value}
use Rattle.fc_values.specs.BuiltinTypes.{Folds, folds_min, folds_max, folds_sum, folds_any, folds_all}
use Rattle.interval_facts.specs.Ranges.{RangeValue, IntRange, BoolRange, PairRange, InRange, AllInRange, LiesIn, hull, least_range, greatest_range, least_hood, greatest_hood, builtin_range}
use Rattle.interval_facts.proofs.Orders.{Two, integers, truths, pairs, two, lesser_lies, greater_lies}
use Rattle.interval_facts.proofs.Operators.{MaybeLies}

-- values of any type in their ranges
abbrev pub EachLiesIn : List RangeValue → List AnyValue → Type 0
EachLiesIn [] [] = Unit {0}
EachLiesIn (r ∷ rs) (v ∷ vs) = LiesIn r v × EachLiesIn rs vs
EachLiesIn _ _ = ⊥

-- two ranges of one form
data Alike : RangeValue → RangeValue → Type 0 where
  integers_alike : (a b c d : ℕ) → Alike (IntRange a b) (IntRange c d)
  truths_alike : Alike BoolRange BoolRange
  pairs_alike : (r s r' s' : RangeValue) → Alike r s → Alike r' s' → Alike (PairRange r r') (PairRange s s')

alike : {r s : RangeValue} {v w : LocalValue} → Two r s v w → Alike r s
alike (integers a b c d n k h i j l) = integers_alike a b c d
alike (truths n k) = truths_alike
alike (pairs r s r' s' v w v' w' p q) = pairs_alike r s r' s' (alike p) (alike q)

-- what a hull has already
hull_right : {r s : RangeValue} → Alike r s → (v : LocalValue) → InRange s v → InRange (hull r s) v
hull_right (integers_alike a b c d) (IntValue n) h = (omega (arith, h.0), omega (arith, h.1))
hull_right (integers_alike a b c d) (BoolValue n) h = absurd h
hull_right (integers_alike a b c d) (PairValue v w) h = absurd h
hull_right truths_alike v h = h
hull_right (pairs_alike r s r' s' p q) (PairValue v w) h = (hull_right p v h.0, hull_right q w h.1)
hull_right (pairs_alike r s r' s' p q) (IntValue n) h = absurd h
hull_right (pairs_alike r s r' s' p q) (BoolValue n) h = absurd h

hull_again : {r s : RangeValue} → Alike r s → (v : LocalValue) → InRange (hull (hull r s) r) v → InRange (hull r s) v
hull_again (integers_alike a b c d) (IntValue n) h = (omega (arith, h.0), omega (arith, h.1))
hull_again (integers_alike a b c d) (BoolValue n) h = absurd h
hull_again (integers_alike a b c d) (PairValue v w) h = absurd h
hull_again truths_alike v h = h
hull_again (pairs_alike r s r' s' p q) (PairValue v w) h = (hull_again p v h.0, hull_again q w h.1)
hull_again (pairs_alike r s r' s' p q) (IntValue n) h = absurd h
hull_again (pairs_alike r s r' s' p q) (BoolValue n) h = absurd h

-- the local value lies in the range, and so does the lesser of a value there and one of the field
least_starts : {r s : RangeValue} → Alike r s → (v : LocalValue) → InRange s v → InRange (least_hood r s) v
least_starts (integers_alike a b c d) (IntValue n) h = (omega (arith, h.0), h.1)
least_starts (integers_alike a b c d) (BoolValue n) h = absurd h
least_starts (integers_alike a b c d) (PairValue v w) h = absurd h
least_starts truths_alike v h = h
least_starts (pairs_alike r s r' s' p q) (PairValue v w) h = (least_starts p v h.0, hull_right q w h.1)
least_starts (pairs_alike r s r' s' p q) (IntValue n) h = absurd h
least_starts (pairs_alike r s r' s' p q) (BoolValue n) h = absurd h

least_goes_on : {r s : RangeValue} → Alike r s → (v : LocalValue) → InRange (least_range (least_hood r s) r) v → InRange (least_hood r s) v
least_goes_on (integers_alike a b c d) (IntValue n) h = (omega (arith, h.0), omega (arith, h.1))
least_goes_on (integers_alike a b c d) (BoolValue n) h = absurd h
least_goes_on (integers_alike a b c d) (PairValue v w) h = absurd h
least_goes_on truths_alike v h = h
least_goes_on (pairs_alike r s r' s' p q) (PairValue v w) h = (least_goes_on p v h.0, hull_again q w h.1)
least_goes_on (pairs_alike r s r' s' p q) (IntValue n) h = absurd h
least_goes_on (pairs_alike r s r' s' p q) (BoolValue n) h = absurd h

greatest_starts : {r s : RangeValue} → Alike r s → (v : LocalValue) → InRange s v → InRange (greatest_hood r s) v
greatest_starts (integers_alike a b c d) (IntValue n) h = (h.0, omega (arith, h.1))
greatest_starts (integers_alike a b c d) (BoolValue n) h = absurd h
greatest_starts (integers_alike a b c d) (PairValue v w) h = absurd h
greatest_starts truths_alike v h = h
greatest_starts (pairs_alike r s r' s' p q) (PairValue v w) h = (greatest_starts p v h.0, hull_right q w h.1)
greatest_starts (pairs_alike r s r' s' p q) (IntValue n) h = absurd h
greatest_starts (pairs_alike r s r' s' p q) (BoolValue n) h = absurd h

greatest_goes_on : {r s : RangeValue} → Alike r s → (v : LocalValue) → InRange (greatest_range (greatest_hood r s) r) v → InRange (greatest_hood r s) v
greatest_goes_on (integers_alike a b c d) (IntValue n) h = (omega (arith, h.0), omega (arith, h.1))
greatest_goes_on (integers_alike a b c d) (BoolValue n) h = absurd h
greatest_goes_on (integers_alike a b c d) (PairValue v w) h = absurd h
greatest_goes_on truths_alike v h = h
greatest_goes_on (pairs_alike r s r' s' p q) (PairValue v w) h = (greatest_goes_on p v h.0, hull_again q w h.1)
greatest_goes_on (pairs_alike r s r' s' p q) (IntValue n) h = absurd h
greatest_goes_on (pairs_alike r s r' s' p q) (BoolValue n) h = absurd h

-- values of a type in a range
abbrev Values : ℕ → LocalType → RangeValue → List LocalValue → Type 0
Values m t r [] = Unit {0}
Values m t r (v ∷ vs) = Fits m t v × InRange r v × Values m t r vs

others_are : (m d : ℕ) (t : LocalType) (r : RangeValue) (es : Entries) → AllFit m t es → AllInRange r es → Values m t r (others d es)
others_are m d t r [] f h = tt
others_are m d t r (e ∷ es) f h = by_test (nat_eq e.0 d) (others d es) (others_are m d t r es f.1 h.1)
  where
    by_test : (own : Bool) (vs : List LocalValue) → Values m t r vs → Values m t r (if own then vs else e.1 ∷ vs)
    by_test true vs k = k
    by_test false vs k = (f.0, h.0, k)

chosen_fits : (m : ℕ) (t : LocalType) (c : Bool) (v w : LocalValue) → Fits m t v → Fits m t w → Fits m t (if c then w else v)
chosen_fits m t true v w f g = g
chosen_fits m t false v w f g = f

module _ (m : ℕ) (t : LocalType) (r s : RangeValue) (a : Alike r s) where
  least_lies : (best : LocalValue) (vs : List LocalValue) → Fits m t best → InRange (least_hood r s) best → Values m t r vs → InRange (least_hood r s) (least_of best vs)
  least_lies best [] f h k = h
  least_lies best (v ∷ vs) f h k =
      least_lies (lesser best v) vs (chosen_fits m t (is_less (compare_values v best)) best v f k.0)
      (least_goes_on a (lesser best v) (lesser_lies (two m t (least_hood r s) r best v f k.0 h k.1))) k.2

  greatest_lies : (best : LocalValue) (vs : List LocalValue) → Fits m t best → InRange (greatest_hood r s) best → Values m t r vs → InRange (greatest_hood r s) (greatest_of best vs)
  greatest_lies best [] f h k = h
  greatest_lies best (v ∷ vs) f h k =
      greatest_lies (greater best v) vs (chosen_fits m t (is_less (compare_values best v)) best v f k.0)
      (greatest_goes_on a (greater best v) (greater_lies (two m t (greatest_hood r s) r best v f k.0 h k.1))) k.2

-- a field that isn't empty has a range of the form of its type
field_alike : (m : ℕ) (t : LocalType) (r s : RangeValue) (es : Entries) (l : LocalValue) → 0 < length es → AllFit m t es → Fits m t l → AllInRange r es → InRange s l → Alike r s
field_alike m t r s [] l n f g h i = absurd (omega (arith, n))
field_alike m t r s (e ∷ es) l n f g h i = alike (two m t r s e.1 l f.0 g h.0 i)

sum_lies : (m : ℕ) (o : Option ℕ) → MaybeLies (IntRange 0 m) (option_map (λ sum. IntValue (min m sum)) o)
sum_lies m None = tt
sum_lies m (Some n) = (omega arith, omega arith)

truth_lies : (o : Option Bool) → MaybeLies BoolRange (option_map BoolValue o)
truth_lies None = tt
truth_lies (Some b) = tt

-- no field is without entries
abbrev pub NoneIsEmpty : List AnyValue → Type 0
NoneIsEmpty [] = Unit {0}
NoneIsEmpty (ValueLocal v ∷ vs) = NoneIsEmpty vs
NoneIsEmpty (ValueField es ∷ vs) = (0 < length es) × NoneIsEmpty vs

pub hood_lies : (m d : ℕ) (other : RangeValue) (ds : List ℕ) (o : Builtin) (ts : List ValueType) (t : ValueType) → Folds o ts t → (vs : List AnyValue) → FitEachOver m ds ts vs → NoneIsEmpty vs →
    (rs : List RangeValue) → EachLiesIn rs vs → MaybeLies (builtin_range m other o rs) (hood_value o m d vs)
hood_lies m d other ds _ _ _ (folds_min t) (ValueField es ∷ ValueLocal l ∷ []) f n (r ∷ s ∷ []) h =
    let a = field_alike m t r s es l n.0 f.0.1 f.1.0 h.0 h.1.0 in
    least_lies m t r s a l (others d es) f.1.0 (least_starts a l h.1.0) (others_are m d t r es f.0.1 h.0)
hood_lies m d other ds _ _ _ (folds_max t) (ValueField es ∷ ValueLocal l ∷ []) f n (r ∷ s ∷ []) h =
    let a = field_alike m t r s es l n.0 f.0.1 f.1.0 h.0 h.1.0 in
    greatest_lies m t r s a l (others d es) f.1.0 (greatest_starts a l h.1.0) (others_are m d t r es f.0.1 h.0)
hood_lies m d other ds _ _ _ folds_sum (ValueField es ∷ []) f n rs h = sum_lies m (sum_of (others d es))
hood_lies m d other ds _ _ _ folds_any (ValueField es ∷ []) f n rs h = truth_lies (any_of (others d es))
hood_lies m d other ds _ _ _ folds_all (ValueField es ∷ []) f n rs h = truth_lies (all_of (others d es))
hood_lies m d other ds o ts t folds vs f n rs h = absurd assumption
