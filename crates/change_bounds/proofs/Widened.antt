-- What is said of an input with one device of the scene more, and with one line more.
use Rattle.std.proofs.Common.{◌≡◌, ℕ, zero, suc, ◌+◌, ◌<◌, ◌≤◌, Bool, true, false, ◌&&◌, ◌||◌, min, nat_eq, nat_lt, List, [], ◌∷◌, ◌++◌, length, take, drop, map, get_or, append-nil, append_assoc, refl, sym, ap, subst, ◌∙◌, arith, Some, None, if◌then◌else◌}
use Rattle.std.specs.Prelude.{Option, option_map, slice_get}
use Rattle.std.specs.Option.{option_or}
use Rattle.std.specs.BTreeMap.{BTreeMap, get, Updates}
use Rattle.std.proofs.lemmas.List.{take-append-drop, take_more, length-take-le, map-append, length-map}
use Rattle.std.proofs.lemmas.Option.{slice_get-get_or, slice_get_past, slice_get_within, slice_get-map}
use Rattle.std.proofs.lemmas.Bool.{eq-eqb, ne_eqb, eqb-false, ltb-true, ltb-false, lt-ltb}
use Rattle.std.proofs.lemmas.Bool.Decides.{nat_tests}
use Rattle.fc_values.specs.Types.{Input, input_of}
use Rattle.fc_values.specs.declared.types.InputTy.{InputTy}
use Rattle.fc_values.specs.declared.types.InputDecl.{InputDecl}
use Rattle.fc_values.specs.declared.values.Local.{Local}
use Rattle.fc_values.specs.Values.{local_of}
use Rattle.fc_values.specs.Fields.{Rises, is_in}
use Rattle.fc_values.proofs.Booleans.{or_no}
use Rattle.fc_values.proofs.Rising.{AllAbove, all_above, rises_tail, strictly}
use Rattle.topology.specs.declared.types.Device.{Device}
use Rattle.topology.specs.Networks.{NetDevice, Network, IsNetwork, net_device_of, numbers, inputs_in}
use Rattle.value_bounds.specs.BoundValues.{BoundValue, exactly}
use Rattle.value_bounds.specs.References.{local_bound_in}
use Rattle.value_bounds.specs.declared.bounds.LocalBound.{LocalBound}
use Rattle.value_bounds.proofs.Values.{nat_same}
use Rattle.changes.specs.declared.types.Possible.{Possible}
use Rattle.changes.specs.Changes.{ChangeValue, JoinChange}
use Rattle.change_bounds.specs.Bounds.{possible_bound, as_list, said_bound, said_bounds, scene_bound}
use Rattle.change_bounds.specs.Tables.{widened, widened_by, input_said, by_pair, bound_at}
use Rattle.change_bounds.proofs.Keys.{put_pair}

-- ---- one line more

widened_more : (o : Option BoundValue) (xs ys : List BoundValue) → widened_by o (xs ++ ys) ≡ widened_by (widened_by o xs) ys
widened_more o [] ys = refl
widened_more o (x ∷ xs) ys = widened_more (Some (widened o x)) xs ys

bounds_more : (d i : ℕ) (t : InputTy) (cs : List ChangeValue) (c : ChangeValue) → said_bounds d i t (cs ++ c ∷ []) ≡ said_bounds d i t cs ++ said_bound d i t c
bounds_more d i t [] c = append-nil (said_bound d i t c)
bounds_more d i t (x ∷ xs) c = ap (λ bs. said_bound d i t x ++ bs) (bounds_more d i t xs c) ∙ sym (append_assoc (said_bound d i t x) (said_bounds d i t xs) (said_bound d i t c))

pub input_more : (n : Network) (cs : List ChangeValue) (d i : ℕ) (t : InputTy) (c : ChangeValue)
    → widened_by (input_said n cs d i t) (said_bound d i t c) ≡ input_said n (cs ++ c ∷ []) d i t
input_more n cs d i t c =
    sym (widened_more None (scene_bound n d i ++ said_bounds d i t cs) (said_bound d i t c))
    ∙ ap (widened_by None) (append_assoc (scene_bound n d i) (said_bounds d i t cs) (said_bound d i t c))
    ∙ ap (λ bs. widened_by None (scene_bound n d i ++ bs)) (sym (bounds_more d i t cs c))

-- ---- a value that is put, or that widens

module _ (m n : BTreeMap (ℕ × ℕ) LocalBound) (k : ℕ × ℕ) (v : LocalBound) (h : Updates by_pair m n k (Some v)) where
  pub put_bound : (d i : ℕ) → bound_at n d i ≡ (if nat_eq d k.0 && nat_eq i k.1 then Some (local_bound_in v) else bound_at m d i)
  put_bound d i = ap (option_map local_bound_in) (put_pair m n k v h d i) ∙ by_test (nat_eq d k.0 && nat_eq i k.1)
    where
      by_test : (t : Bool) → option_map local_bound_in (if t then Some v else get by_pair m (d, i)) ≡ (if t then Some (local_bound_in v) else bound_at m d i)
      by_test true = refl
      by_test false = refl

  pub widen_bound : (b : BoundValue) → local_bound_in v ≡ widened (bound_at m k.0 k.1) b → (d i : ℕ)
      → bound_at n d i ≡ (if nat_eq d k.0 && nat_eq i k.1 then Some (widened (bound_at m d i) b) else bound_at m d i)
  widen_bound b e d i = put_bound d i ∙ by_tests (nat_eq d k.0) refl (nat_eq i k.1) refl
    where
      by_tests : (s : Bool) → nat_eq d k.0 ≡ s → (t : Bool) → nat_eq i k.1 ≡ t → (if s && t then Some (local_bound_in v) else bound_at m d i) ≡ (if s && t then Some (widened (bound_at m d i) b) else bound_at m d i)
      by_tests true p true q = ap Some (e ∙ ap (λ x. widened (bound_at m x k.1) b) (sym (nat_same d k.0 p)) ∙ ap (λ y. widened (bound_at m d y) b) (sym (nat_same i k.1 q)))
      by_tests true p false q = refl
      by_tests false p t q = refl

-- ---- the inputs of a scene

next_same : (a b : ℕ) → nat_eq (suc a) (suc b) ≡ nat_eq a b
next_same a b = by_test (nat_eq a b) refl
  where
    by_test : (t : Bool) → nat_eq a b ≡ t → nat_eq (suc a) (suc b) ≡ t
    by_test true e = eq-eqb (suc a) (suc b) (ap suc (nat_same a b e))
    by_test false e = ne_eqb (suc a) (suc b) (λ q. eqb-false a b e (omega (arith, q)))

-- one value more at the end
get_more : {X : Type 0} (xs : List X) (x : X) (i : ℕ) → slice_get (xs ++ x ∷ []) i ≡ (if nat_eq i (length xs) then Some x else slice_get xs i)
get_more [] x zero = refl
get_more [] x (suc i) = let e = ne_eqb (suc i) 0 (λ q. absurd (omega (arith, q))) in sym (ap (λ t. if t then Some x else None) e)
get_more (y ∷ ys) x zero = let e = ne_eqb 0 (suc (length ys)) (λ q. absurd (omega (arith, q))) in sym (ap (λ t. if t then Some x else Some y) e)
get_more (y ∷ ys) x (suc i) = get_more ys x i ∙ ap (λ t. if t then Some x else slice_get ys i) (sym (next_same i (length ys)))

module _ (vs : List Local) (k : ℕ) (z : Local) (h : k < length vs) where
  values_to : map local_of (take (k + 1) vs) ≡ map local_of (take k vs) ++ local_of (get_or vs k z) ∷ []
  values_to = ap (map local_of) (take_more vs k z h) ∙ map-append local_of (take k vs) (get_or vs k z ∷ [])

  pub value_more : (device : ℕ) (o now : ℕ → ℕ → Option BoundValue) (v : BoundValue) → v ≡ exactly (local_of (get_or vs k z))
      → ((d i : ℕ) → now d i ≡ (if nat_eq d device then option_or (option_map exactly (slice_get (map local_of (take k vs)) i)) (o d i) else o d i)) → (d i : ℕ)
      → (if nat_eq d device && nat_eq i k then Some v else now d i) ≡ (if nat_eq d device then option_or (option_map exactly (slice_get (map local_of (take (k + 1) vs)) i)) (o d i) else o d i)
  value_more device o now v e inv d i = by_test (nat_eq d device) (inv d i)
    where
      place : length (map local_of (take k vs)) ≡ k
      place = length-map (take k vs) local_of ∙ length-take-le k vs (omega (arith, h))

      at : slice_get (map local_of (take (k + 1) vs)) i ≡ (if nat_eq i k then Some (local_of (get_or vs k z)) else slice_get (map local_of (take k vs)) i)
      at = ap (λ xs. slice_get xs i) values_to ∙ get_more (map local_of (take k vs)) (local_of (get_or vs k z)) i ∙ ap (λ j. if nat_eq i j then Some (local_of (get_or vs k z)) else slice_get (map local_of (take k vs)) i) place

      by_place : (t : Bool) → (if t then Some v else option_or (option_map exactly (slice_get (map local_of (take k vs)) i)) (o d i))
          ≡ option_or (option_map exactly (if t then Some (local_of (get_or vs k z)) else slice_get (map local_of (take k vs)) i)) (o d i)
      by_place true = ap Some e
      by_place false = refl

      by_test : (t : Bool) → now d i ≡ (if t then option_or (option_map exactly (slice_get (map local_of (take k vs)) i)) (o d i) else o d i)
          → (if t && nat_eq i k then Some v else now d i) ≡ (if t then option_or (option_map exactly (slice_get (map local_of (take (k + 1) vs)) i)) (o d i) else o d i)
      by_test true q = ap (λ p. if nat_eq i k then Some v else p) q ∙ by_place (nat_eq i k) ∙ ap (λ p. option_or (option_map exactly p) (o d i)) (sym at)
      by_test false q = q

-- one device more, which comes after the others
above_last : (a : ℕ) (xs : List ℕ) (y : ℕ) → AllAbove a (xs ++ y ∷ []) → a < y
above_last a [] y h = h.0
above_last a (x ∷ xs) y h = above_last a xs y h.1

new_last : (xs : List ℕ) (y : ℕ) → Rises (xs ++ y ∷ []) → is_in y xs ≡ false
new_last [] y r = refl
new_last (x ∷ xs) y r =
    let o = above_last x xs y (all_above x (xs ++ y ∷ []) r) in
    let first : nat_eq y x ≡ false = grind (arith, nat_tests, o) in
    let rest = new_last xs y (rises_tail x (xs ++ y ∷ []) r) in
    rw (first, rest) refl

none_there : (d : ℕ) (ns : List NetDevice) → is_in d (numbers ns) ≡ false → inputs_in d ns ≡ []
none_there d [] e = refl
none_there d (n ∷ ns) e = by_test (nat_eq d n.id) e (none_there d ns)
  where
    by_test : (t : Bool) → (t || is_in d (numbers ns)) ≡ false → (is_in d (numbers ns) ≡ false → inputs_in d ns ≡ []) → (if t then n.inputs else inputs_in d ns) ≡ []
    by_test true e later = absurd cc
    by_test false e later = later e

inputs_last : (d : ℕ) (ns : List NetDevice) (x : NetDevice) → is_in x.id (numbers ns) ≡ false → inputs_in d (ns ++ x ∷ []) ≡ (if nat_eq d x.id then x.inputs else inputs_in d ns)
inputs_last d [] x e = refl
inputs_last d (n ∷ ns) x e = by_tests (nat_eq d n.id) refl (nat_eq d x.id) refl (inputs_last d ns x (or_no (nat_eq x.id n.id) (is_in x.id (numbers ns)) e).1)
  where
    by_tests : (s : Bool) → nat_eq d n.id ≡ s → (t : Bool) → nat_eq d x.id ≡ t → inputs_in d (ns ++ x ∷ []) ≡ (if t then x.inputs else inputs_in d ns)
        → (if s then n.inputs else inputs_in d (ns ++ x ∷ [])) ≡ (if t then x.inputs else (if s then n.inputs else inputs_in d ns))
    by_tests true p true q h =
        let same : x.id ≡ n.id = sym (nat_same d x.id q) ∙ nat_same d n.id p in
        let no = (or_no (nat_eq x.id n.id) (is_in x.id (numbers ns)) e).0 in
        let z : true ≡ false = sym (eq-eqb x.id n.id same) ∙ no in
        absurd cc
    by_tests true p false q h = refl
    by_tests false p t q h = h

rises_front : (xs ys : List ℕ) → Rises (xs ++ ys) → Rises xs
rises_front [] ys r = tt
rises_front (x ∷ []) ys r = tt
rises_front (x ∷ y ∷ xs) ys r = (r.0, rises_front (y ∷ xs) ys r.1)

module _ (n : Network) (ds : List Device) (net : IsNetwork n) (e : map net_device_of ds ≡ n.devices) (k : ℕ) (x : Device) (is : x ≡ get_or ds k x) (h : k < length ds) where
  devices_to : map net_device_of (take (k + 1) ds) ≡ map net_device_of (take k ds) ++ net_device_of x ∷ []
  devices_to = ap (map net_device_of) (take_more ds k x h) ∙ ap (λ y. map net_device_of (take k ds ++ y ∷ [])) (sym is) ∙ map-append net_device_of (take k ds) (x ∷ [])

  split : numbers n.devices ≡ numbers (map net_device_of (take (k + 1) ds)) ++ numbers (map net_device_of (drop (k + 1) ds))
  split = ap numbers (sym e) ∙ ap (λ xs. numbers (map net_device_of xs)) (sym (take-append-drop (k + 1) ds)) ∙ ap numbers (map-append net_device_of (take (k + 1) ds) (drop (k + 1) ds)) ∙ map-append (λ (m : NetDevice). m.id) (map net_device_of (take (k + 1) ds)) (map net_device_of (drop (k + 1) ds))

  is_new : is_in x.id (numbers (map net_device_of (take k ds))) ≡ false
  is_new = new_last (numbers (map net_device_of (take k ds))) x.id
      (subst Rises (ap numbers devices_to ∙ map-append (λ (m : NetDevice). m.id) (map net_device_of (take k ds)) (net_device_of x ∷ []))
      (rises_front (numbers (map net_device_of (take (k + 1) ds))) (numbers (map net_device_of (drop (k + 1) ds))) (subst Rises split net.rising)))

  pub device_more : (d i : ℕ)
      → (if nat_eq d x.id then option_or (option_map exactly (slice_get (map local_of x.inputs.items) i)) (option_map exactly (slice_get (inputs_in d (map net_device_of (take k ds))) i))
      else option_map exactly (slice_get (inputs_in d (map net_device_of (take k ds))) i))
      ≡ option_map exactly (slice_get (inputs_in d (map net_device_of (take (k + 1) ds))) i)
  device_more d i = by_test (nat_eq d x.id) refl ∙ ap (λ vs. option_map exactly (slice_get vs i)) (sym (ap (inputs_in d) devices_to ∙ inputs_last d (map net_device_of (take k ds)) (net_device_of x) is_new))
    where
      alone : (o : Option BoundValue) → option_or o None ≡ o
      alone None = refl
      alone (Some b) = refl

      by_test : (t : Bool) → nat_eq d x.id ≡ t
          → (if t then option_or (option_map exactly (slice_get (map local_of x.inputs.items) i)) (option_map exactly (slice_get (inputs_in d (map net_device_of (take k ds))) i))
          else option_map exactly (slice_get (inputs_in d (map net_device_of (take k ds))) i))
          ≡ option_map exactly (slice_get (if t then map local_of x.inputs.items else inputs_in d (map net_device_of (take k ds))) i)
      by_test true q =
          ap (λ vs. option_or (option_map exactly (slice_get (map local_of x.inputs.items) i)) (option_map exactly (slice_get vs i))) (ap (λ j. inputs_in j (map net_device_of (take k ds))) (nat_same d x.id q) ∙ none_there x.id (map net_device_of (take k ds)) is_new)
          ∙ alone (option_map exactly (slice_get (map local_of x.inputs.items) i))
      by_test false q = refl

-- ---- lines of the form of `join`

le_not_lt : (i k : ℕ) → k ≤ i → nat_lt i k ≡ false
le_not_lt i k h = by_test (nat_lt i k) refl
  where
    by_test : (t : Bool) → nat_lt i k ≡ t → t ≡ false
    by_test true e = let l = ltb-true i k e in absurd (omega (arith, l, h))
    by_test false e = refl

same_below : (i k : ℕ) → nat_eq i k ≡ false → nat_lt i k ≡ nat_lt i (k + 1)
same_below i k apart = by_test (nat_lt i k) refl
  where
    by_test : (t : Bool) → nat_lt i k ≡ t → t ≡ nat_lt i (k + 1)
    by_test true e = let l = ltb-true i k e in sym (lt-ltb i (k + 1) (omega (arith, l)))
    by_test false e =
        let l = ltb-false i k e in
        let above = strictly k i l (λ q. eqb-false i k apart (sym q)) in
        sym (le_not_lt i (k + 1) (omega (arith, above)))

module _ (is : List InputDecl) (ps : List Possible) (e : ℕ) where
  abbrev says : ℕ → ℕ → Input → List BoundValue
  says d i x = said_bound d i x.type (JoinChange e ps)

  pub join_more : (o now new : ℕ → ℕ → Option BoundValue) (k : ℕ) (y : InputDecl) (q : Possible) (b : BoundValue) → k < length is → k < length ps → b ≡ possible_bound (get_or is k y).ty (get_or ps k q)
      → ((d i : ℕ) (x : Input) → slice_get (map input_of is) i ≡ Some x → now d i ≡ (if nat_lt i k then widened_by (o d i) (says d i x) else o d i))
      → ((d i : ℕ) → new d i ≡ (if nat_eq d e && nat_eq i k then Some (widened (now d i) b) else now d i))
      → (d i : ℕ) (x : Input) → slice_get (map input_of is) i ≡ Some x → new d i ≡ (if nat_lt i (k + 1) then widened_by (o d i) (says d i x) else o d i)
  join_more o now new k y q b h l w inv step d i x at = by_place (nat_eq i k) refl
    where
      here : i ≡ k → now d i ≡ o d i
      here s = inv d i x at ∙ ap (λ t. if t then widened_by (o d i) (says d i x) else o d i) (le_not_lt i k (omega (arith, s)))

      value_at : i ≡ k → slice_get ps i ≡ Some (get_or ps k q)
      value_at s = ap (slice_get ps) s ∙ slice_get-get_or ps k q l

      input_at : i ≡ k → x.type ≡ (get_or is k y).ty
      input_at s =
          let one : Some x ≡ Some (input_of (get_or is k y)) = sym at ∙ ap (slice_get (map input_of is)) s ∙ slice_get-map input_of is k ∙ ap (option_map input_of) (slice_get-get_or is k y h) in
          let same : x ≡ input_of (get_or is k y) = cc in
          ap (λ (z : Input). z.type) same

      by_device : (t : Bool) → i ≡ k → (if t && true then Some (widened (now d i) b) else now d i) ≡ widened_by (o d i) (if t then as_list (option_map (possible_bound x.type) (slice_get ps i)) else [])
      by_device true s =
          ap (λ p. Some (widened p b)) (here s)
          ∙ ap (λ c. Some (widened (o d i) c)) (w ∙ ap (λ t. possible_bound t (get_or ps k q)) (sym (input_at s)))
          ∙ ap (λ v. widened_by (o d i) (as_list (option_map (possible_bound x.type) v))) (sym (value_at s))
      by_device false s = here s

      off : (t : Bool) → (if t && false then Some (widened (now d i) b) else now d i) ≡ now d i
      off true = refl
      off false = refl

      by_place : (t : Bool) → nat_eq i k ≡ t → new d i ≡ (if nat_lt i (k + 1) then widened_by (o d i) (says d i x) else o d i)
      by_place true p =
          let s = nat_same i k p in
          step d i
          ∙ ap (λ t. if nat_eq d e && t then Some (widened (now d i) b) else now d i) p
          ∙ by_device (nat_eq d e) s
          ∙ ap (λ t. if t then widened_by (o d i) (says d i x) else o d i) (sym (lt-ltb i (k + 1) (omega (arith, s))))
      by_place false p =
          step d i
          ∙ ap (λ t. if nat_eq d e && t then Some (widened (now d i) b) else now d i) p
          ∙ off (nat_eq d e)
          ∙ inv d i x at
          ∙ ap (λ t. if t then widened_by (o d i) (says d i x) else o d i) (same_below i k p)

  pub join_whole : (o now : ℕ → ℕ → Option BoundValue) (k : ℕ) → min (length is) (length ps) ≤ k
      → ((d i : ℕ) (x : Input) → slice_get (map input_of is) i ≡ Some x → now d i ≡ (if nat_lt i k then widened_by (o d i) (says d i x) else o d i))
      → (d i : ℕ) (x : Input) → slice_get (map input_of is) i ≡ Some x → now d i ≡ widened_by (o d i) (says d i x)
  join_whole o now k m inv d i x at = inv d i x at ∙ by_place (nat_lt i k) refl
    where
      within : i < length is
      within = let s = slice_get_within (map input_of is) i x at in let w = length-map is input_of in omega (arith, s, w)

      silent : (t : Bool) → o d i ≡ widened_by (o d i) (if t then as_list (option_map (possible_bound x.type) None) else [])
      silent true = refl
      silent false = refl

      by_place : (t : Bool) → nat_lt i k ≡ t → (if t then widened_by (o d i) (says d i x) else o d i) ≡ widened_by (o d i) (says d i x)
      by_place true p = refl
      by_place false p =
          let past : length ps ≤ i = omega (arith, ltb-false i k p, within, m) in
          silent (nat_eq d e)
          ∙ ap (λ v. widened_by (o d i) (if nat_eq d e then as_list (option_map (possible_bound x.type) v) else [])) (sym (slice_get_past ps i past))
