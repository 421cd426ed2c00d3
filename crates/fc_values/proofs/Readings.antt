-- Fields, read at a device.
use Rattle.std.proofs.Common.{◌≡◌, ℕ, List, [], ◌∷◌, filter, refl, sym, ◌∙◌, ap, subst, Bool, true, false, nat_eq, nat_lt, ◌||◌, ◌&&◌, if◌then◌else◌, Option, Some, None, option_map, option_and_then}
use Rattle.std.proofs.lemmas.Bool.{eqb-true, eq-eqb, ltb-true}
use Rattle.fc_values.specs.Values.{LocalValue}
use Rattle.fc_values.specs.Fields.{Entries, AnyValue, ValueLocal, ValueField, Rises, devices, is_in, rises, value_at, with_entry}
use Rattle.fc_values.specs.Builtins.{are_over, arguments_at, field_devices, field_over, local_value, pointwise_over, put_before}
use Rattle.fc_values.specs.Positions.{value_over}
use Rattle.fc_values.specs.Laws.{IsPointwise, ReadsLocal, ReadsPointwise, ReadsRestricted, ReadsWithEntry}
use Rattle.fc_values.proofs.Booleans.{or_no}
use Rattle.fc_values.proofs.ByPosition.{both_first, both_second}

eq_turns : (a b : ℕ) (t : Bool) → nat_eq a b ≡ t → nat_eq b a ≡ t
eq_turns a b true e = eq-eqb b a (sym (eqb-true a b e))
eq_turns a b false e = by_test (nat_eq b a) refl
  where
    by_test : (t : Bool) → nat_eq b a ≡ t → nat_eq b a ≡ false
    by_test false f = f
    by_test true f = let x = eq-eqb a b (sym (eqb-true b a f)) in absurd cc

-- one more entry
pub reads_with_entry : ReadsWithEntry
reads_with_entry d v [] out e = refl
reads_with_entry d v (x ∷ es) out e = by_place (nat_lt d x.0) refl (reads_with_entry d v es (or_no (nat_eq d x.0) (is_in d (devices es)) out).1 e)
  where
    by_tests : (s t : Bool) → nat_eq x.0 e ≡ s → nat_eq d e ≡ t
        → (if s then Some x.1 else (if t then Some v else value_at e es)) ≡ (if t then Some v else (if s then Some x.1 else value_at e es))
    by_tests true true s t =
        let p = eqb-true x.0 e s in
        let q = eqb-true d e t in
        let clash : nat_eq d x.0 ≡ true = eq-eqb d x.0 (q ∙ sym p) in
        let other = (or_no (nat_eq d x.0) (is_in d (devices es)) out).0 in
        absurd cc
    by_tests true false s t = refl
    by_tests false t s u = refl

    by_place : (b : Bool) → nat_lt d x.0 ≡ b → value_at e (with_entry d v es) ≡ (if nat_eq d e then Some v else value_at e es)
        → value_at e (with_entry d v (x ∷ es)) ≡ (if nat_eq d e then Some v else value_at e (x ∷ es))
    by_place true b ih = rw b refl
    by_place false b ih = rw (b, ih) (by_tests (nat_eq x.0 e) (nat_eq d e) refl refl)

-- some entries
nothing : (t : Bool) → value_at 0 [] ≡ (if t then value_at 0 [] else None)
nothing true = refl
nothing false = refl

reads_filtered : (q : ℕ → Bool) (es : Entries) (e : ℕ) → value_at e (filter (λ (x : ℕ × LocalValue). q x.0) es) ≡ (if q e then value_at e es else None)
reads_filtered q [] e = nothing (q e)
reads_filtered q (x ∷ es) e = by_tests (q x.0) (nat_eq x.0 e) refl refl (reads_filtered q es e)
  where
    by_tests : (s t : Bool) → q x.0 ≡ s → nat_eq x.0 e ≡ t → value_at e (filter (λ (y : ℕ × LocalValue). q y.0) es) ≡ (if q e then value_at e es else None)
        → value_at e (filter (λ (y : ℕ × LocalValue). q y.0) (x ∷ es)) ≡ (if q e then value_at e (x ∷ es) else None)
    by_tests true true s t ih = let p : q e ≡ true = rw (← eqb-true x.0 e t) s in rw (s, t, p) refl
    by_tests false true s t ih = let p : q e ≡ false = rw (← eqb-true x.0 e t) s in rw (s, t, p) (ih ∙ rw p refl)
    by_tests true false s t ih = rw (s, t) ih
    by_tests false false s t ih = rw (s, t) ih

pub reads_restricted : ReadsRestricted
reads_restricted d ns es fs is e =
    let same : filter (λ (x : ℕ × LocalValue). nat_eq x.0 d || is_in x.0 ns) es ≡ fs = cc in
    rw (← same) (reads_filtered (λ n. nat_eq n d || is_in n ns) es e)

-- a field over some devices
record OverReads (f : ℕ → Option LocalValue) (ds : List ℕ) (fs : Entries) : Type 0 where
  over : devices fs ≡ ds
  at : (e : ℕ) → value_at e fs ≡ (if is_in e ds then f e else None)

over_reads : (f : ℕ → Option LocalValue) (ds : List ℕ) (fs : Entries) → field_over f ds ≡ Some fs → OverReads f ds fs
over_reads f [] fs e = let same : [] ≡ fs = cc in rw (← same) (record { over = refl; at = λ d. refl })
over_reads f (d ∷ ds) fs e = by_value (over_reads f ds) (f d) refl (field_over f ds) refl e
  where
    step : (v : LocalValue) → f d ≡ Some v → (gs : Entries) → OverReads f ds gs → (e : ℕ) → value_at e ((d, v) ∷ gs) ≡ (if is_in e (d ∷ ds) then f e else None)
    step v h gs r e = by_test (nat_eq d e) refl
      where
        by_test : (t : Bool) → nat_eq d e ≡ t → (if nat_eq d e then Some v else value_at e gs) ≡ (if nat_eq e d || is_in e ds then f e else None)
        by_test true t = let p = eq_turns d e true t in let q : f e ≡ Some v = rw (← eqb-true d e t) h in rw (t, p, q) refl
        by_test false t = let p = eq_turns d e false t in rw (t, p) (r.at e)

    by_value : ((gs : Entries) → field_over f ds ≡ Some gs → OverReads f ds gs) → (o : Option LocalValue) → f d ≡ o → (rest : Option Entries) → field_over f ds ≡ rest → put_before (option_map (λ v. (d, v)) o) rest ≡ Some fs → OverReads f (d ∷ ds) fs
    by_value r' None h rest r e = absurd cc
    by_value r' (Some v) h None r e = absurd cc
    by_value r' (Some v) h (Some gs) r e =
        let same : (d, v) ∷ gs ≡ fs = cc in
        let ih = r' gs r in
        subst (OverReads f (d ∷ ds)) same (record { over = ap (λ (es : List ℕ). d ∷ es) ih.over; at = step v h gs ih })

rises_is : (ds : List ℕ) → rises ds ≡ true → Rises ds
rises_is [] e = tt
rises_is (d ∷ []) e = tt
rises_is (d ∷ x ∷ ds) e = (ltb-true d x (both_first (nat_lt d x) (rises (x ∷ ds)) e), rises_is (x ∷ ds) (both_second (nat_lt d x) (rises (x ∷ ds)) e))

-- an operator at each device
pub reads_pointwise : ReadsPointwise
reads_pointwise builtin ceiling device xs fs plain is = by_devices (field_devices xs) refl (rw plain at is)
  where
    by_devices : (o : Option (List ℕ)) → field_devices xs ≡ o → pointwise_over (local_value builtin ceiling) o xs ≡ Some (ValueField fs) → IsPointwise builtin ceiling xs fs
    by_devices None h e = absurd (clash (option_and_then (local_value builtin ceiling) (arguments_at 0 xs)) e)
      where
        clash : (o : Option LocalValue) → option_map ValueLocal o ≡ Some (ValueField fs) → ⊥
        clash None e = absurd cc
        clash (Some v) e = absurd cc
    by_devices (Some ds) h e = by_test (rises ds && are_over ds xs) refl e
      where
        made : (rises ds && are_over ds xs) ≡ true → (o : Option Entries) → field_over (value_over builtin ceiling xs) ds ≡ o → option_map ValueField o ≡ Some (ValueField fs)
            → IsPointwise builtin ceiling xs fs
        made t None f e = absurd cc
        made t (Some gs) f e =
            let same : gs ≡ fs = cc in
            let r = over_reads (value_over builtin ceiling xs) ds fs (f ∙ ap Some same) in
            let o = r.over in
            record {
              over = h ∙ ap Some (sym o);
              each = rw o (both_second (rises ds) (are_over ds xs) t);
              rising = subst Rises (sym o) (rises_is ds (both_first (rises ds) (are_over ds xs) t));
              value = λ d. rw o (r.at d);
            }

        by_test : (t : Bool) → (rises ds && are_over ds xs) ≡ t
            → (if t then option_map ValueField (field_over (value_over builtin ceiling xs) ds) else None) ≡ Some (ValueField fs) → IsPointwise builtin ceiling xs fs
        by_test true t e = made t (field_over (value_over builtin ceiling xs) ds) refl e
        by_test false t e = absurd cc

-- without fields the arguments are the same at each device
same_arguments : (xs : List AnyValue) → field_devices xs ≡ None → (d e : ℕ) → arguments_at d xs ≡ arguments_at e xs
same_arguments [] h d e = refl
same_arguments (ValueLocal v ∷ xs) h d e = ap (put_before (Some v)) (same_arguments xs h d e)
same_arguments (ValueField es ∷ xs) h d e = absurd cc

pub reads_local : ReadsLocal
reads_local builtin ceiling device xs v plain is = by_devices (field_devices xs) refl (rw plain at is)
  where
    by_devices : (o : Option (List ℕ)) → field_devices xs ≡ o → pointwise_over (local_value builtin ceiling) o xs ≡ Some (ValueLocal v)
        → (field_devices xs ≡ None) × ((d : ℕ) → value_over builtin ceiling xs d ≡ Some v)
    by_devices None h e = (h, λ d. ap (option_and_then (local_value builtin ceiling)) (same_arguments xs h d 0) ∙ found (value_over builtin ceiling xs 0) e)
      where
        found : (o : Option LocalValue) → option_map ValueLocal o ≡ Some (ValueLocal v) → o ≡ Some v
        found None e = absurd cc
        found (Some w) e = let same : w ≡ v = cc in ap Some same
    by_devices (Some ds) h e = absurd (by_test (rises ds && are_over ds xs) e)
      where
        clash : (o : Option Entries) → option_map ValueField o ≡ Some (ValueLocal v) → ⊥
        clash None e = absurd cc
        clash (Some gs) e = absurd cc

        by_test : (t : Bool) → (if t then option_map ValueField (field_over (value_over builtin ceiling xs) ds) else None) ≡ Some (ValueLocal v) → ⊥
        by_test true e = clash _ e
        by_test false e = absurd cc
