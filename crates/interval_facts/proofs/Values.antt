-- Fields and leaves in their ranges.
use Rattle.std.proofs.Common.{◌≡◌, ℕ, zero, suc, ◌≤◌, ◌<◌, List, [], ◌∷◌, length, get_or, map, refl, ap, subst, arith, Bool, true, false, ◌||◌, Some, nat_eq, nat_lt}
use Rattle.std.specs.Prelude.{if◌then◌else◌, filter, slice_get}
use Rattle.std.proofs.lemmas.List.{length-map}
use Rattle.fc_values.specs.declared.types.InputTy.{InputTy}
use Rattle.fc_values.specs.declared.types.InputTy.TheVariants as input
use Rattle.fc_values.specs.Types.{Declarations, Input}
use Rattle.fc_values.specs.Values.{LocalValue, IntValue, BoolValue, PairValue}
use Rattle.fc_values.specs.Fields.{Entries, AnyValue, ValueLocal, ValueField, devices, device_of, with_entry, is_in, restricted}
use Rattle.fc_values.specs.Inputs.{InputFits, InputsFit}
use Rattle.fc_values.specs.Positions.{argument_nth, arguments_nth}
use Rattle.topology.specs.Networks.{Network, IsNetwork, numbers, near}
use Rattle.topology.proofs.Lemmas.{AllNear, near_fits}
use Rattle.interval_facts.specs.Ranges.{RangeValue, IntRange, InRange, AllInRange, LiesIn, input_range, sense_range}
use Rattle.interval_facts.specs.Solutions.{Devices, In, near_among, field_around, field_of}
use Rattle.interval_facts.proofs.Operators.{EachLies}
use Rattle.interval_facts.proofs.Hoods.{EachLiesIn}
use Rattle.interval_facts.proofs.Pointwise.{Within, OverThem, AllOver}

pub filter_lies : (q : ℕ × LocalValue → Bool) (r : RangeValue) (es : Entries) → AllInRange r es → AllInRange r (filter q es)
filter_lies q r [] h = tt
filter_lies q r (e ∷ es) h = by_test (q e) refl (filter_lies q r es h.1)
  where
    by_test : (b : Bool) → q e ≡ b → AllInRange r (filter q es) → AllInRange r (filter q (e ∷ es))
    by_test true i k = rw i (h.0, k)
    by_test false i k = rw i k

pub restricted_lies : (d : ℕ) (ns : List ℕ) (r : RangeValue) (v : AnyValue) → LiesIn r v → LiesIn r (restricted d ns v)
restricted_lies d ns r (ValueLocal v) h = h
restricted_lies d ns r (ValueField es) h = filter_lies (λ (e : ℕ × LocalValue). nat_eq e.0 d || is_in e.0 ns) r es h

pub with_lies : (d : ℕ) (v : LocalValue) (r : RangeValue) (es : Entries) → InRange r v → AllInRange r es → AllInRange r (with_entry d v es)
with_lies d v r [] h k = (h, tt)
with_lies d v r (e ∷ es) h k = by_test (nat_lt d e.0) (with_lies d v r es h k.1)
  where
    by_test : (b : Bool) → AllInRange r (with_entry d v es) → AllInRange r (if b then ((d, v) ∷ e ∷ es) else (e ∷ with_entry d v es))
    by_test true i = (h, k)
    by_test false i = (k.0, i)

-- what is so of each neighbour
abbrev pub EachNear : (ℕ × ℕ → Type 0) → List (ℕ × ℕ) → Type 0
EachNear P [] = Unit {0}
EachNear P (n ∷ ns) = P n × EachNear P ns

pub over_lies : (P : ℕ × ℕ → Type 0) (d : ℕ) (v : LocalValue) (r : RangeValue) (f : ℕ × ℕ → LocalValue) → InRange r v → ((n : ℕ × ℕ) → P n → InRange r (f n)) →
    (ns : List (ℕ × ℕ)) → EachNear P ns → LiesIn r (field_around d v ns f)
over_lies P d v r f h g ns k = with_lies d v r (map (λ (n : ℕ × ℕ). (n.0, f n)) ns) h (all ns k)
  where
    all : (ns : List (ℕ × ℕ)) → EachNear P ns → AllInRange r (map (λ (n : ℕ × ℕ). (n.0, f n)) ns)
    all [] k = tt
    all (n ∷ ns) k = (g n k.0, all ns k.1)

among : (D : Devices) (ns : List (ℕ × ℕ)) → EachNear (λ n. In D n.0) (filter (λ (n : ℕ × ℕ). D n.0) ns)
among D [] = tt
among D (n ∷ ns) = by_test (D n.0) refl (among D ns)
  where
    by_test : (b : Bool) → D n.0 ≡ b → EachNear (λ n. In D n.0) (filter (λ (n : ℕ × ℕ). D n.0) ns) → EachNear (λ n. In D n.0) (filter (λ (n : ℕ × ℕ). D n.0) (n ∷ ns))
    by_test true i k = rw i (i, k)
    by_test false i k = rw i k

pub field_lies : (N : Network) (D : Devices) (g : ℕ → LocalValue) (r : RangeValue) → ((n : ℕ) → In D n → InRange r (g n)) → (d : ℕ) → In D d → LiesIn r (field_of N D g d)
field_lies N D g r h d i = over_lies (λ n. In D n.0) d (g d) r (λ n. g n.0) (h d i) (λ n k. h n.0 k) (near_among N D d) (among D (near N d))

-- the weights
abbrev InMetric : Declarations → ℕ × ℕ → Type 0
InMetric D n = (D.least ≤ n.1) × (n.1 ≤ D.greatest)

weights_in : (D : Declarations) (ds : List ℕ) (d : ℕ) (A : Devices) (ns : List (ℕ × ℕ)) → AllNear D ds d ns → EachNear (InMetric D) (filter (λ (n : ℕ × ℕ). A n.0) ns)
weights_in D ds d A [] h = tt
weights_in D ds d A (n ∷ ns) h = by_test (A n.0) refl (weights_in D ds d A ns h.1)
  where
    by_test : (b : Bool) → A n.0 ≡ b → EachNear (InMetric D) (filter (λ (n : ℕ × ℕ). A n.0) ns) → EachNear (InMetric D) (filter (λ (n : ℕ × ℕ). A n.0) (n ∷ ns))
    by_test true i k = rw i ((h.0.above, h.0.below), k)
    by_test false i k = rw i k

pub links_lie : (N : Network) → IsNetwork N → N.declared.least ≤ N.declared.greatest → (D : Devices) (d : ℕ) →
    LiesIn (IntRange N.declared.least N.declared.greatest) (field_around d (IntValue N.declared.least) (near_among N D d) (λ n. IntValue n.1))
links_lie N net l D d =
    over_lies (InMetric N.declared) d (IntValue N.declared.least) (IntRange N.declared.least N.declared.greatest) (λ n. IntValue n.1) (omega arith, l) (λ n k. (k.0, k.1))
    (near_among N D d) (weights_in N.declared (numbers N.devices) d D (near N d) (near_fits N.declared (numbers N.devices) d N.links net.links))

-- the inputs of a device
input_lies : (ty : InputTy) (v : LocalValue) → InputFits ty v → InRange (input_range ty) v
input_lies input.Truth (BoolValue b) h = tt
input_lies (input.Whole a b) (IntValue n) h = h
input_lies input.Truth (IntValue n) h = absurd h
input_lies input.Truth (PairValue v w) h = absurd h
input_lies (input.Whole a b) (BoolValue n) h = absurd h
input_lies (input.Whole a b) (PairValue v w) h = absurd h

pub sense_lies : (other : RangeValue) (is : List Input) (vs : List LocalValue) (i : ℕ) (v : LocalValue) → InputsFit is vs → slice_get vs i ≡ Some v → InRange (sense_range other (slice_get is i)) v
sense_lies other [] [] i v h e = absurd cc
sense_lies other [] (w ∷ vs) i v h e = absurd h
sense_lies other (x ∷ is) [] i v h e = absurd h
sense_lies other (x ∷ is) (w ∷ vs) zero v h e = let same : w ≡ v = cc in subst (InRange (input_range x.type)) same (input_lies x.type w h.0)
sense_lies other (x ∷ is) (w ∷ vs) (suc i) v h e = sense_lies other is vs i v h.1 e

-- values by positions
pub nth_lies : (r : RangeValue) (es : Entries) (i : ℕ) → AllInRange r es → i < length es → InRange r (get_or es i (0, IntValue 0)).1
nth_lies r [] i h l = absurd (omega (arith, l))
nth_lies r (e ∷ es) zero h l = h.0
nth_lies r (e ∷ es) (suc i) h l = nth_lies r es i h.1 (omega (arith, l))

-- a value over some devices, by the positions of these
pub lies_by_positions : (ds : List ℕ) (r : RangeValue) (v : AnyValue) → 0 < length ds → OverThem ds v → ((i : ℕ) → i < length ds → Within i v → InRange r (argument_nth i v)) → LiesIn r v
lies_by_positions ds r (ValueLocal v) n o h = h 0 n tt
lies_by_positions ds r (ValueField es) n o h = each es (λ i l. h i (within i l) l)
  where
    within : (i : ℕ) → i < length es → i < length ds
    within i l = let e = ap length o in omega (arith, e, l, length-map es device_of)

    each : (es : Entries) → ((i : ℕ) → i < length es → InRange r (get_or es i (0, IntValue 0)).1) → AllInRange r es
    each [] h = tt
    each (e ∷ es) h = (h 0 (omega arith), each es (λ i l. h (suc i) (omega (arith, l))))

pub arguments_lie : (ds : List ℕ) (i : ℕ) → i < length ds → (rs : List RangeValue) (vs : List AnyValue) → AllOver ds vs → EachLiesIn rs vs → EachLies rs (arguments_nth i vs)
arguments_lie ds i l [] [] o h = tt
arguments_lie ds i l [] (v ∷ vs) o h = absurd h
arguments_lie ds i l (r ∷ rs) [] o h = absurd h
arguments_lie ds i l (r ∷ rs) (ValueLocal v ∷ vs) o h = (h.0, arguments_lie ds i l rs vs o.1 h.1)
arguments_lie ds i l (r ∷ rs) (ValueField es ∷ vs) o h =
    let same : devices es ≡ ds = o.0 in
    let long : i < length (devices es) = rw same l in
    (nth_lies r es i h.0 (omega (arith, long, length-map es device_of)), arguments_lie ds i l rs vs o.1 h.1)
