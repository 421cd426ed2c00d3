-- Crates above cite this module: arguments by position and by device.
use Rattle.std.proofs.Common.{◌≡◌, Option, None, Some, IsSome, option_map, option_and_then, ℕ, zero, suc, ◌<◌, ◌+◌, List, [], ◌∷◌, length, map, get_or, refl, ◌∙◌, ap, arith, ◌++◌, drop, add-one, drop-cons, Bool, true, false, nat_eq, nat_lt, ◌&&◌}
use Rattle.std.proofs.lemmas.Grind.{common_steps}
use Rattle.std.proofs.lemmas.List.{length-map, map-append}
use Rattle.fc_values.specs.declared.builtins.Builtin.{Builtin}
use Rattle.fc_values.specs.declared.values.Local.{Local}
use Rattle.fc_values.specs.Values.{LocalValue, IntValue, local_of}
use Rattle.fc_values.specs.Fields.{Entries, AnyValue, ValueLocal, ValueField, devices, device_of, entry_of, value_at, rises}
use Rattle.fc_values.specs.Builtins.{field_devices, same_devices, are_over, arguments_at, put_before, field_over, local_value, builtin_value, is_hood}
use Rattle.fc_values.proofs.Folds.{has_from_map}
use Rattle.fc_values.specs.Positions.{HavePosition, arguments_nth, value_over}

pub both_first : (a b : Bool) → (a && b) ≡ true → a ≡ true
both_first true b h = refl
both_first false b h = h

pub both_second : (a b : Bool) → (a && b) ≡ true → b ≡ true
both_second true b h = h
both_second false b h = absurd cc

-- each later device is above the first
above : (d : ℕ) (ds : List ℕ) (i : ℕ) → rises (d ∷ ds) ≡ true → i < length ds → d < get_or ds i 0
above d [] i r h = absurd (omega arith)
above d (e ∷ ds) zero r h = let k = both_first (nat_lt d e) (rises (e ∷ ds)) r in grind (arith, common_steps)
above d (e ∷ ds) (suc i) r h =
    let first = both_first (nat_lt d e) (rises (e ∷ ds)) r in
    let k = above e ds i (both_second (nat_lt d e) (rises (e ∷ ds)) r) (omega arith) in
    grind (arith, common_steps)

rises_tail : (d : ℕ) (ds : List ℕ) → rises (d ∷ ds) ≡ true → rises ds ≡ true
rises_tail d [] r = refl
rises_tail d (e ∷ ds) r = both_second (nat_lt d e) (rises (e ∷ ds)) r

pub value_at_nth : (es : Entries) (i : ℕ) → rises (devices es) ≡ true → i < length es → value_at (get_or (devices es) i 0) es ≡ Some (get_or es i (0, IntValue 0)).1
value_at_nth [] i r h = absurd (omega arith)
value_at_nth (e ∷ es) zero r h = grind (arith, common_steps)
value_at_nth (e ∷ es) (suc i) r h =
    let inside : i < length (devices es) = omega (arith, length-map es device_of) in
    let k = above e.0 (devices es) i r inside in
    let ih = value_at_nth es i (rises_tail e.0 (devices es) r) (omega arith) in
    grind (arith, common_steps)

pub same_devices_are : (ds es : List ℕ) → same_devices ds es ≡ true → ds ≡ es
same_devices_are [] [] h = refl
same_devices_are [] (e ∷ es) h = absurd cc
same_devices_are (d ∷ ds) [] h = absurd cc
same_devices_are (d ∷ ds) (e ∷ es) h =
    let first = both_first (nat_eq d e) (same_devices ds es) h in
    let rest = same_devices_are ds es (both_second (nat_eq d e) (same_devices ds es) h) in
    grind (arith, common_steps)

pub have_position : (ds : List ℕ) (i : ℕ) (xs : List AnyValue) → are_over ds xs ≡ true → i < length ds → HavePosition i xs
have_position ds i [] a h = tt
have_position ds i (ValueLocal v ∷ xs) a h = (tt, have_position ds i xs a h)
have_position ds i (ValueField es ∷ xs) a h =
    let same = same_devices_are (devices es) ds (both_first _ _ a) in
    let long : i < length (devices es) = rw same h in
    (omega (arith, length-map es device_of), have_position ds i xs (both_second _ _ a) h)

pub arguments_at-nth : (ds : List ℕ) (i : ℕ) (xs : List AnyValue) → rises ds ≡ true → are_over ds xs ≡ true → i < length ds →
    arguments_at (get_or ds i 0) xs ≡ Some (arguments_nth i xs)
arguments_at-nth ds i [] r a h = refl
arguments_at-nth ds i (ValueLocal v ∷ xs) r a h = let ih = arguments_at-nth ds i xs r a h in rw ih refl
arguments_at-nth ds i (ValueField es ∷ xs) r a h =
    let same = same_devices_are (devices es) ds (both_first _ _ a) in
    let long : i < length (devices es) = rw same h in
    let rising : rises (devices es) ≡ true = rw same r in
    let here : value_at (get_or ds i 0) es ≡ Some (get_or es i (0, IntValue 0)).1 = rw (← same) (value_at_nth es i rising (omega (arith, length-map es device_of))) in
    let ih = arguments_at-nth ds i xs r (both_second _ _ a) h in
    rw (here, ih) refl

-- a field has a value at each of its devices
pub has_at : (f : ℕ → Option LocalValue) (ds : List ℕ) (i : ℕ) → IsSome (field_over f ds) → i < length ds → IsSome (f (get_or ds i 0))
has_at f [] i s h = absurd (omega arith)
has_at f (d ∷ ds) zero s h = first_has (f d) (λ v. (d, v)) (field_over f ds) s
  where
    first_has : (o : Option LocalValue) (g : LocalValue → ℕ × LocalValue) (rest : Option Entries) → IsSome (put_before (option_map g o) rest) → IsSome o
    first_has (Some x) g rest h = refl
    first_has None g rest h = absurd cc
has_at f (d ∷ ds) (suc i) s h = has_at f ds i (rest_has (option_map (λ v. (d, v)) (f d)) (field_over f ds) s) (omega arith)
  where
    rest_has : (o : Option (ℕ × LocalValue)) (rest : Option Entries) → IsSome (put_before o rest) → IsSome rest
    rest_has o (Some x) h = refl
    rest_has None None h = absurd cc
    rest_has (Some x) None h = absurd cc

append_before : (made : Entries) (e : ℕ × LocalValue) (rest : Option Entries) →
    option_map (λ (r : Entries). (made ++ (e ∷ [])) ++ r) rest ≡ option_map (λ (r : Entries). made ++ r) (put_before (Some e) rest)
append_before made e None = refl
append_before made e (Some r) = ap Some (grind (arith, common_steps))

-- one more entry
pub step_over : (f : ℕ → Option LocalValue) (ds : List ℕ) (i : ℕ) (made after : List (ℕ × Local)) (d : ℕ) (v : Local) →
    after ≡ made ++ (d, v) ∷ [] → d ≡ get_or ds i 0 → f (get_or ds i 0) ≡ Some (local_of v) → i < length ds →
    option_map (λ (r : Entries). map entry_of made ++ r) (field_over f (drop i ds)) ≡ field_over f ds →
    option_map (λ (r : Entries). map entry_of after ++ r) (field_over f (drop (i + 1) ds)) ≡ field_over f ds
step_over f ds i made after d v e at is h inv =
    let cut : drop i ds ≡ get_or ds i 0 ∷ drop (i + 1) ds = rw (add-one, drop-cons ds i 0) refl in
    let inv' = rw cut at inv in
    let inv'' = rw is at inv' in
    rw (e, map-append) (append_before (map entry_of made) (d, local_of v) (field_over f (drop (i + 1) ds)) ∙ rw at inv'')

pub device_nth : (xs : List (ℕ × Local)) (i : ℕ) (x : ℕ × Local) → x ≡ get_or xs i x → i < length xs → x.0 ≡ get_or (devices (map entry_of xs)) i 0
device_nth [] i x e h = absurd (omega arith)
device_nth (y ∷ xs) zero x e h = grind (arith, common_steps)
device_nth (y ∷ xs) (suc i) x e h = device_nth xs i x e (omega arith)

-- no field is among the arguments
pub none_have_position : (xs : List AnyValue) → field_devices xs ≡ None → HavePosition 0 xs
none_have_position [] e = tt
none_have_position (ValueLocal v ∷ xs) e = (tt, none_have_position xs e)
none_have_position (ValueField es ∷ xs) e = absurd cc

pub none_arguments_at : (xs : List AnyValue) → field_devices xs ≡ None → arguments_at 0 xs ≡ Some (arguments_nth 0 xs)
none_arguments_at [] e = refl
none_arguments_at (ValueLocal v ∷ xs) e = let ih = none_arguments_at xs e in rw ih refl
none_arguments_at (ValueField es ∷ xs) e = absurd cc

pub value_over-nth : (builtin : Builtin) (ceiling : ℕ) (ds : List ℕ) (i : ℕ) (xs : List AnyValue) → rises ds ≡ true → are_over ds xs ≡ true → i < length ds →
    value_over builtin ceiling xs (get_or ds i 0) ≡ local_value builtin ceiling (arguments_nth i xs)
value_over-nth builtin ceiling ds i xs r a h = ap (option_and_then (local_value builtin ceiling)) (arguments_at-nth ds i xs r a h)

pub none_value : (builtin : Builtin) (ceiling device : ℕ) (xs : List AnyValue) → is_hood builtin ≡ false → field_devices xs ≡ None →
    builtin_value builtin ceiling device xs ≡ option_map ValueLocal (local_value builtin ceiling (arguments_nth 0 xs))
none_value builtin ceiling device xs plain none = rw (plain, none, none_arguments_at xs none) refl

pub none_has : (builtin : Builtin) (ceiling device : ℕ) (xs : List AnyValue) → is_hood builtin ≡ false → field_devices xs ≡ None →
    IsSome (builtin_value builtin ceiling device xs) → IsSome (local_value builtin ceiling (arguments_nth 0 xs))
none_has builtin ceiling device xs plain none h = has_from_map ValueLocal _ (rw (none_value builtin ceiling device xs plain none) at h)
