-- Crates above cite this module: where the arguments of a builtin fit a typing rule there is a value, and it fits.
use Rattle.std.proofs.Common.{◌≡◌, Option, None, Some, option_map, ℕ, zero, suc, ◌<◌, ◌≤◌, ◌+◌, ◌-◌, ◌*◌, min, List, [], ◌∷◌, length, get_or, refl, ap, arith, Bool, true, false, nat_eq, ◌&&◌, ◌||◌, not, if◌then◌else◌}
use Rattle.std.proofs.lemmas.Grind.{common_steps}
use Rattle.std.proofs.lemmas.List.{length-map}
use Rattle.fc_values.specs.declared.builtins.Builtin.{Builtin}
use Rattle.fc_values.specs.Types.{LocalType, IntType, BoolType, PairType, ValueType, TypeLocal, TypeField}
use Rattle.fc_values.specs.Values.{LocalValue, IntValue, BoolValue, PairValue, Fits, compare_values, is_less, is_equal, lesser, greater}
use Rattle.fc_values.specs.Fields.{Entries, AnyValue, ValueLocal, ValueField, devices, device_of, rises, AllFit, FitsOver, FitEachOver}
use Rattle.fc_values.specs.Builtins.{of_two_integers, of_three_integers, of_truth, of_two_truths, of_two, of_pair, of_choice, local_value, is_hood, others, least_of, greatest_of, sum_of, any_of, all_of, of_field_and_local, of_field, hood_value, field_devices, are_over, field_over, pointwise, same_devices, builtin_value}
use Rattle.fc_values.specs.Positions.{argument_nth, arguments_nth, value_over}
use Rattle.fc_values.proofs.ByPosition.{none_arguments_at, value_over-nth}
use Rattle.fc_values.specs.BuiltinTypes.{Takes, takes_add, takes_sub, takes_mul, takes_rise, takes_min, takes_max, takes_less, takes_equal, takes_and, takes_or, takes_not, takes_mux, takes_pair, takes_fst, takes_snd, Folds, folds_min, folds_max, folds_sum, folds_any, folds_all, inner, inners, has_field, lifted, Lifts, rule_by, HasRule}

-- local values that fit some types
abbrev pub FitEach : ℕ → List LocalType → List LocalValue → Type 0
FitEach ceiling [] [] = Unit {0}
FitEach ceiling (t ∷ ts) (x ∷ xs) = Fits ceiling t x × FitEach ceiling ts xs
FitEach ceiling _ _ = ⊥

-- there is a value, and it fits
abbrev pub HasLocal : ℕ → LocalType → Option LocalValue → Type 0
HasLocal ceiling t o = (v : LocalValue) × (o ≡ Some v) × Fits ceiling t v

two_integers_typed : (ceiling : ℕ) (f : ℕ → ℕ → ℕ) → ((a b : ℕ) → a ≤ ceiling → b ≤ ceiling → f a b ≤ ceiling) → (xs : List LocalValue) →
    FitEach ceiling (IntType ∷ IntType ∷ []) xs → HasLocal ceiling IntType (of_two_integers (λ a b. IntValue (f a b)) xs)
two_integers_typed ceiling f bound (IntValue a ∷ IntValue b ∷ []) h = (IntValue (f a b), refl, bound a b h.0 h.1.0)
two_integers_typed ceiling f bound xs h = absurd assumption

three_integers_typed : (ceiling : ℕ) (f : ℕ → ℕ → ℕ → ℕ) → ((a b c : ℕ) → a ≤ ceiling → f a b c ≤ ceiling) → (xs : List LocalValue) →
    FitEach ceiling (IntType ∷ IntType ∷ IntType ∷ []) xs → HasLocal ceiling IntType (of_three_integers (λ a b c. IntValue (f a b c)) xs)
three_integers_typed ceiling f bound (IntValue a ∷ IntValue b ∷ IntValue c ∷ []) h = (IntValue (f a b c), refl, bound a b c h.0)
three_integers_typed ceiling f bound xs h = absurd assumption

two_truths_typed : (ceiling : ℕ) (f : Bool → Bool → Bool) → (xs : List LocalValue) →
    FitEach ceiling (BoolType ∷ BoolType ∷ []) xs → HasLocal ceiling BoolType (of_two_truths (λ a b. BoolValue (f a b)) xs)
two_truths_typed ceiling f (BoolValue a ∷ BoolValue b ∷ []) h = (BoolValue (f a b), refl, tt)
two_truths_typed ceiling f xs h = absurd assumption

truth_typed : (ceiling : ℕ) (f : Bool → Bool) → (xs : List LocalValue) →
    FitEach ceiling (BoolType ∷ []) xs → HasLocal ceiling BoolType (of_truth (λ a. BoolValue (f a)) xs)
truth_typed ceiling f (BoolValue a ∷ []) h = (BoolValue (f a), refl, tt)
truth_typed ceiling f xs h = absurd assumption

two_typed : (ceiling : ℕ) (s t u : LocalType) (f : LocalValue → LocalValue → LocalValue) → ((a b : LocalValue) → Fits ceiling s a → Fits ceiling t b → Fits ceiling u (f a b)) →
    (xs : List LocalValue) → FitEach ceiling (s ∷ t ∷ []) xs → HasLocal ceiling u (of_two f xs)
two_typed ceiling s t u f keeps (a ∷ b ∷ []) h = (f a b, refl, keeps a b h.0 h.1.0)
two_typed ceiling s t u f keeps xs h = absurd assumption

pair_typed : (ceiling : ℕ) (s t u : LocalType) (f : LocalValue → LocalValue → LocalValue) → ((a b : LocalValue) → Fits ceiling s a → Fits ceiling t b → Fits ceiling u (f a b)) →
    (xs : List LocalValue) → FitEach ceiling (PairType s t ∷ []) xs → HasLocal ceiling u (of_pair f xs)
pair_typed ceiling s t u f keeps (PairValue a b ∷ []) h = (f a b, refl, keeps a b h.0.0 h.0.1)
pair_typed ceiling s t u f keeps xs h = absurd assumption

either_fits : (ceiling : ℕ) (t : LocalType) (c : Bool) (a b : LocalValue) → Fits ceiling t a → Fits ceiling t b → Fits ceiling t (if c then a else b)
either_fits ceiling t true a b p q = p
either_fits ceiling t false a b p q = q

choice_typed : (ceiling : ℕ) (t : LocalType) (xs : List LocalValue) → FitEach ceiling (BoolType ∷ t ∷ t ∷ []) xs → HasLocal ceiling t (of_choice xs)
choice_typed ceiling t (BoolValue c ∷ a ∷ b ∷ []) h = (if c then a else b, refl, either_fits ceiling t c a b h.1.0 h.1.1.0)
choice_typed ceiling t xs h = absurd assumption

lesser_fits : (ceiling : ℕ) (t : LocalType) (a b : LocalValue) → Fits ceiling t a → Fits ceiling t b → Fits ceiling t (lesser a b)
lesser_fits ceiling t a b p q = either_fits ceiling t (is_less (compare_values b a)) b a q p

greater_fits : (ceiling : ℕ) (t : LocalType) (a b : LocalValue) → Fits ceiling t a → Fits ceiling t b → Fits ceiling t (greater a b)
greater_fits ceiling t a b p q = either_fits ceiling t (is_less (compare_values a b)) b a q p

-- the operators on local values
local_typed : (builtin : Builtin) (ceiling : ℕ) (ts : List LocalType) (t : LocalType) (xs : List LocalValue) → Takes builtin ts t →
    FitEach ceiling ts xs → HasLocal ceiling t (local_value builtin ceiling xs)
local_typed _ ceiling _ _ xs takes_add h = two_integers_typed ceiling (λ a b. min ceiling (a + b)) (λ a b p q. omega arith) xs h
local_typed _ ceiling _ _ xs takes_sub h = two_integers_typed ceiling (λ a b. a - b) (λ a b p q. omega arith) xs h
local_typed _ ceiling _ _ xs takes_mul h = two_integers_typed ceiling (λ a b. min ceiling (a * b)) (λ a b p q. omega arith) xs h
local_typed _ ceiling _ _ xs takes_rise h = three_integers_typed ceiling (λ a b s. min a (b + s)) (λ a b s p. omega arith) xs h
local_typed _ ceiling _ _ xs (takes_min t) h = two_typed ceiling t t t lesser (lesser_fits ceiling t) xs h
local_typed _ ceiling _ _ xs (takes_max t) h = two_typed ceiling t t t greater (greater_fits ceiling t) xs h
local_typed _ ceiling _ _ xs (takes_less t) h = two_typed ceiling t t BoolType (λ a b. BoolValue (is_less (compare_values a b))) (λ a b p q. tt) xs h
local_typed _ ceiling _ _ xs (takes_equal t) h = two_typed ceiling t t BoolType (λ a b. BoolValue (is_equal (compare_values a b))) (λ a b p q. tt) xs h
local_typed _ ceiling _ _ xs takes_and h = two_truths_typed ceiling (λ a b. a && b) xs h
local_typed _ ceiling _ _ xs takes_or h = two_truths_typed ceiling (λ a b. a || b) xs h
local_typed _ ceiling _ _ xs takes_not h = truth_typed ceiling not xs h
local_typed _ ceiling _ _ xs (takes_mux t) h = choice_typed ceiling t xs h
local_typed _ ceiling _ _ xs (takes_pair s t small) h = two_typed ceiling s t (PairType s t) PairValue (λ a b p q. (p, q)) xs h
local_typed _ ceiling _ _ xs (takes_fst s t) h = pair_typed ceiling s t s (λ a b. a) (λ a b p q. p) xs h
local_typed _ ceiling _ _ xs (takes_snd s t) h = pair_typed ceiling s t t (λ a b. b) (λ a b p q. q) xs h

-- the values at the other devices
abbrev EachFits : ℕ → LocalType → List LocalValue → Type 0
EachFits ceiling t [] = Unit {0}
EachFits ceiling t (v ∷ vs) = Fits ceiling t v × EachFits ceiling t vs

others_fit : (ceiling device : ℕ) (t : LocalType) (es : Entries) → AllFit ceiling t es → EachFits ceiling t (others device es)
others_fit ceiling device t [] h = tt
others_fit ceiling device t (e ∷ es) h = put (nat_eq e.0 device) (others device es) h.0 (others_fit ceiling device t es h.1)
  where
    put : (own : Bool) (vs : List LocalValue) → Fits ceiling t e.1 → EachFits ceiling t vs → EachFits ceiling t (if own then vs else e.1 ∷ vs)
    put true vs p q = q
    put false vs p q = (p, q)

least_fits : (ceiling : ℕ) (t : LocalType) (best : LocalValue) (vs : List LocalValue) → Fits ceiling t best → EachFits ceiling t vs → Fits ceiling t (least_of best vs)
least_fits ceiling t best [] p h = p
least_fits ceiling t best (v ∷ vs) p h = least_fits ceiling t (lesser best v) vs (lesser_fits ceiling t best v p h.0) h.1

greatest_fits : (ceiling : ℕ) (t : LocalType) (best : LocalValue) (vs : List LocalValue) → Fits ceiling t best → EachFits ceiling t vs → Fits ceiling t (greatest_of best vs)
greatest_fits ceiling t best [] p h = p
greatest_fits ceiling t best (v ∷ vs) p h = greatest_fits ceiling t (greater best v) vs (greater_fits ceiling t best v p h.0) h.1

sum_typed : (ceiling : ℕ) (vs : List LocalValue) → EachFits ceiling IntType vs → (n : ℕ) × (sum_of vs ≡ Some n)
sum_typed ceiling [] h = (0, refl)
sum_typed ceiling (IntValue n ∷ vs) h = let rest = sum_typed ceiling vs h.1 in (n + rest.0, rw (rest.1) refl)
sum_typed ceiling (BoolValue b ∷ vs) h = absurd h.0
sum_typed ceiling (PairValue a b ∷ vs) h = absurd h.0

any_typed : (ceiling : ℕ) (vs : List LocalValue) → EachFits ceiling BoolType vs → (b : Bool) × (any_of vs ≡ Some b)
any_typed ceiling [] h = (false, refl)
any_typed ceiling (BoolValue b ∷ vs) h = let rest = any_typed ceiling vs h.1 in (b || rest.0, rw (rest.1) refl)
any_typed ceiling (IntValue n ∷ vs) h = absurd h.0
any_typed ceiling (PairValue a b ∷ vs) h = absurd h.0

all_typed : (ceiling : ℕ) (vs : List LocalValue) → EachFits ceiling BoolType vs → (b : Bool) × (all_of vs ≡ Some b)
all_typed ceiling [] h = (true, refl)
all_typed ceiling (BoolValue b ∷ vs) h = let rest = all_typed ceiling vs h.1 in (b && rest.0, rw (rest.1) refl)
all_typed ceiling (IntValue n ∷ vs) h = absurd h.0
all_typed ceiling (PairValue a b ∷ vs) h = absurd h.0

-- there is a value of a type, and it fits
abbrev HasAny : ℕ → List ℕ → ValueType → Option AnyValue → Type 0
HasAny ceiling ds t o = (v : AnyValue) × (o ≡ Some v) × FitsOver ceiling ds t v

folded_typed : (ceiling : ℕ) (ds : List ℕ) (s t : LocalType) (f : Entries → LocalValue → LocalValue) →
    ((es : Entries) (l : LocalValue) → AllFit ceiling s es → Fits ceiling s l → Fits ceiling t (f es l)) → (vs : List AnyValue) →
    FitEachOver ceiling ds (TypeField s ∷ TypeLocal s ∷ []) vs → HasLocal ceiling t (of_field_and_local f vs)
folded_typed ceiling ds s t f keeps (ValueField es ∷ ValueLocal l ∷ []) h = (f es l, refl, keeps es l h.0.1 h.1.0)
folded_typed ceiling ds s t f keeps vs h = absurd assumption

field_typed : (ceiling : ℕ) (ds : List ℕ) (s t : LocalType) (f : Entries → Option LocalValue) →
    ((es : Entries) → AllFit ceiling s es → HasLocal ceiling t (f es)) → (vs : List AnyValue) →
    FitEachOver ceiling ds (TypeField s ∷ []) vs → HasLocal ceiling t (of_field f vs)
field_typed ceiling ds s t f keeps (ValueField es ∷ []) h = keeps es h.0.1
field_typed ceiling ds s t f keeps vs h = absurd assumption

as_any : (ceiling : ℕ) (ds : List ℕ) (t : LocalType) (o : Option LocalValue) → HasLocal ceiling t o → HasAny ceiling ds (TypeLocal t) (option_map ValueLocal o)
as_any ceiling ds t o h = (ValueLocal h.0, ap (option_map ValueLocal) h.1, h.2)

hood_typed : (builtin : Builtin) (ceiling device : ℕ) (ds : List ℕ) (ts : List ValueType) (t : ValueType) (vs : List AnyValue) → Folds builtin ts t →
    FitEachOver ceiling ds ts vs → HasAny ceiling ds t (option_map ValueLocal (hood_value builtin ceiling device vs))
hood_typed _ ceiling device ds _ _ vs (folds_min t) h =
    as_any ceiling ds t _ (folded_typed ceiling ds t t (λ es l. least_of l (others device es)) (λ es l p q. least_fits ceiling t l (others device es) q (others_fit ceiling device t es p)) vs h)
hood_typed _ ceiling device ds _ _ vs (folds_max t) h =
    as_any ceiling ds t _ (folded_typed ceiling ds t t (λ es l. greatest_of l (others device es)) (λ es l p q. greatest_fits ceiling t l (others device es) q (others_fit ceiling device t es p)) vs h)
hood_typed _ ceiling device ds _ _ vs folds_sum h =
    as_any ceiling ds IntType _ (field_typed ceiling ds IntType IntType (λ es. option_map (λ sum. IntValue (min ceiling sum)) (sum_of (others device es)))
    (λ es p. let s = sum_typed ceiling (others device es) (others_fit ceiling device IntType es p) in
    (IntValue (min ceiling s.0), ap (option_map (λ sum. IntValue (min ceiling sum))) s.1, omega arith)) vs h)
hood_typed _ ceiling device ds _ _ vs folds_any h =
    as_any ceiling ds BoolType _ (field_typed ceiling ds BoolType BoolType (λ es. option_map BoolValue (any_of (others device es)))
    (λ es p. let s = any_typed ceiling (others device es) (others_fit ceiling device BoolType es p) in (BoolValue s.0, ap (option_map BoolValue) s.1, tt)) vs h)
hood_typed _ ceiling device ds _ _ vs folds_all h =
    as_any ceiling ds BoolType _ (field_typed ceiling ds BoolType BoolType (λ es. option_map BoolValue (all_of (others device es)))
    (λ es p. let s = all_typed ceiling (others device es) (others_fit ceiling device BoolType es p) in (BoolValue s.0, ap (option_map BoolValue) s.1, tt)) vs h)

-- the arguments at a position
pub nth_fits : (ceiling : ℕ) (t : LocalType) (es : Entries) (i : ℕ) → AllFit ceiling t es → i < length es → Fits ceiling t (get_or es i (0, IntValue 0)).1
nth_fits ceiling t [] i h r = absurd (omega arith)
nth_fits ceiling t (e ∷ es) zero h r = h.0
nth_fits ceiling t (e ∷ es) (suc i) h r = nth_fits ceiling t es i h.1 (omega arith)

pub argument_fits : (ceiling : ℕ) (ds : List ℕ) (t : ValueType) (v : AnyValue) (i : ℕ) → FitsOver ceiling ds t v → i < length ds → Fits ceiling (inner t) (argument_nth i v)
argument_fits ceiling ds (TypeLocal t) (ValueLocal v) i h r = h
argument_fits ceiling ds (TypeLocal t) (ValueField es) i h r = absurd h
argument_fits ceiling ds (TypeField t) (ValueLocal v) i h r = absurd h
argument_fits ceiling ds (TypeField t) (ValueField es) i h r =
    let same : devices es ≡ ds = h.0 in
    let long : i < length (devices es) = rw same r in
    nth_fits ceiling t es i h.1 (omega (arith, length-map es device_of))

pub arguments_fit : (ceiling : ℕ) (ds : List ℕ) (ts : List ValueType) (vs : List AnyValue) (i : ℕ) → FitEachOver ceiling ds ts vs → i < length ds →
    FitEach ceiling (inners ts) (arguments_nth i vs)
arguments_fit ceiling ds [] [] i h r = tt
arguments_fit ceiling ds (t ∷ ts) (v ∷ vs) i h r = (argument_fits ceiling ds t v i h.0 r, arguments_fit ceiling ds ts vs i h.1 r)
arguments_fit ceiling ds [] (v ∷ vs) i h r = absurd h
arguments_fit ceiling ds (t ∷ ts) [] i h r = absurd h

locals_fit : (ceiling : ℕ) (ds : List ℕ) (ts : List ValueType) (vs : List AnyValue) → has_field ts ≡ false → FitEachOver ceiling ds ts vs →
    FitEach ceiling (inners ts) (arguments_nth 0 vs)
locals_fit ceiling ds [] [] e h = tt
locals_fit ceiling ds (TypeLocal t ∷ ts) (ValueLocal v ∷ vs) e h = (h.0, locals_fit ceiling ds ts vs e h.1)
locals_fit ceiling ds (TypeField t ∷ ts) vs e h = absurd cc
locals_fit ceiling ds (TypeLocal t ∷ ts) (ValueField es ∷ vs) e h = absurd h.0
locals_fit ceiling ds [] (v ∷ vs) e h = absurd h
locals_fit ceiling ds (TypeLocal t ∷ ts) [] e h = absurd h

pub no_devices : (ceiling : ℕ) (ds : List ℕ) (ts : List ValueType) (vs : List AnyValue) → has_field ts ≡ false → FitEachOver ceiling ds ts vs → field_devices vs ≡ None
no_devices ceiling ds [] [] e h = refl
no_devices ceiling ds (TypeLocal t ∷ ts) (ValueLocal v ∷ vs) e h = no_devices ceiling ds ts vs e h.1
no_devices ceiling ds (TypeField t ∷ ts) vs e h = absurd cc
no_devices ceiling ds (TypeLocal t ∷ ts) (ValueField es ∷ vs) e h = absurd h.0
no_devices ceiling ds [] (v ∷ vs) e h = absurd h
no_devices ceiling ds (TypeLocal t ∷ ts) [] e h = absurd h

pub some_devices : (ceiling : ℕ) (ds : List ℕ) (ts : List ValueType) (vs : List AnyValue) → has_field ts ≡ true → FitEachOver ceiling ds ts vs → field_devices vs ≡ Some ds
some_devices ceiling ds [] vs e h = absurd cc
some_devices ceiling ds (TypeLocal t ∷ ts) (ValueLocal v ∷ vs) e h = some_devices ceiling ds ts vs e h.1
some_devices ceiling ds (TypeField t ∷ ts) (ValueField es ∷ vs) e h = ap Some h.0.0
some_devices ceiling ds (TypeField t ∷ ts) (ValueLocal v ∷ vs) e h = absurd h.0
some_devices ceiling ds (TypeLocal t ∷ ts) (ValueField es ∷ vs) e h = absurd h.0
some_devices ceiling ds (t ∷ ts) [] e h = absurd h

same_devices_refl : (ds : List ℕ) → same_devices ds ds ≡ true
same_devices_refl [] = refl
same_devices_refl (d ∷ ds) = let ih = same_devices_refl ds in grind (arith, common_steps)

pub fields_over : (ceiling : ℕ) (ds : List ℕ) (ts : List ValueType) (vs : List AnyValue) → FitEachOver ceiling ds ts vs → are_over ds vs ≡ true
fields_over ceiling ds ts [] h = refl
fields_over ceiling ds (t ∷ ts) (ValueLocal v ∷ vs) h = fields_over ceiling ds ts vs h.1
fields_over ceiling ds (TypeField t ∷ ts) (ValueField es ∷ vs) h = rw (h.0.0, same_devices_refl ds) (fields_over ceiling ds ts vs h.1)
fields_over ceiling ds (TypeLocal t ∷ ts) (ValueField es ∷ vs) h = absurd h.0
fields_over ceiling ds [] (v ∷ vs) h = absurd h

-- a field with a value that fits at each device
field_over_typed : (ceiling : ℕ) (t : LocalType) (f : ℕ → Option LocalValue) (ds : List ℕ) → ((i : ℕ) → i < length ds → HasLocal ceiling t (f (get_or ds i 0))) →
    (es : Entries) × (field_over f ds ≡ Some es) × (devices es ≡ ds) × AllFit ceiling t es
field_over_typed ceiling t f [] h = ([], refl, refl, tt)
field_over_typed ceiling t f (d ∷ ds) h =
    let first = h 0 (omega arith) in
    let rest = field_over_typed ceiling t f ds (λ i r. h (suc i) (omega arith)) in
    ((d, first.0) ∷ rest.0, rw (first.1, rest.1) refl, ap (λ (es : List ℕ). d ∷ es) rest.2, (first.2, rest.3))

pointwise_typed : (builtin : Builtin) (ceiling : ℕ) (ds : List ℕ) (ts : List ValueType) (t : LocalType) (vs : List AnyValue) (b : Bool) → has_field ts ≡ b →
    Takes builtin (inners ts) t → rises ds ≡ true → FitEachOver ceiling ds ts vs → HasAny ceiling ds (lifted b t) (pointwise (local_value builtin ceiling) vs)
pointwise_typed builtin ceiling ds ts t vs false e takes r h =
    let none = no_devices ceiling ds ts vs e h in
    let at = none_arguments_at vs none in
    let made = local_typed builtin ceiling (inners ts) t (arguments_nth 0 vs) takes (locals_fit ceiling ds ts vs e h) in
    (ValueLocal made.0, rw (none, at) (ap (option_map ValueLocal) made.1), made.2)
pointwise_typed builtin ceiling ds ts t vs true e takes r h =
    let some = some_devices ceiling ds ts vs e h in
    let over = fields_over ceiling ds ts vs h in
    let made = field_over_typed ceiling t (value_over builtin ceiling vs) ds
    (λ i long. rw (value_over-nth builtin ceiling ds i vs r over long) (local_typed builtin ceiling (inners ts) t (arguments_nth i vs) takes (arguments_fit ceiling ds ts vs i h long))) in
    (ValueField made.0, rw (some, r, over) (ap (option_map ValueField) made.1), (made.2, made.3))

lifted_typed : (builtin : Builtin) (ceiling : ℕ) (ds : List ℕ) (ts : List ValueType) (t : ValueType) (vs : List AnyValue) → Lifts builtin ts t → rises ds ≡ true →
    FitEachOver ceiling ds ts vs → HasAny ceiling ds t (pointwise (local_value builtin ceiling) vs)
lifted_typed builtin ceiling ds ts t vs l r h = rw (l.value) (pointwise_typed builtin ceiling ds ts l.local vs (has_field ts) refl l.takes r h)

typed_by : (hood : Bool) (builtin : Builtin) (ceiling device : ℕ) (ds : List ℕ) (ts : List ValueType) (t : ValueType) (vs : List AnyValue) → rule_by hood builtin ts t →
    rises ds ≡ true → FitEachOver ceiling ds ts vs →
    HasAny ceiling ds t (if hood then option_map ValueLocal (hood_value builtin ceiling device vs) else pointwise (local_value builtin ceiling) vs)
typed_by true builtin ceiling device ds ts t vs rule r h = hood_typed builtin ceiling device ds ts t vs rule h
typed_by false builtin ceiling device ds ts t vs rule r h = lifted_typed builtin ceiling ds ts t vs rule r h

pub builtin_typed : (builtin : Builtin) (ceiling device : ℕ) (ds : List ℕ) (ts : List ValueType) (t : ValueType) (vs : List AnyValue) →
    HasRule builtin ts t → rises ds ≡ true → FitEachOver ceiling ds ts vs →
    (v : AnyValue) × (builtin_value builtin ceiling device vs ≡ Some v) × FitsOver ceiling ds t v
builtin_typed builtin ceiling device ds ts t vs rule r h = typed_by (is_hood builtin) builtin ceiling device ds ts t vs rule r h
