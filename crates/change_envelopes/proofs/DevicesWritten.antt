-- The devices that are written out of tables of what is said are those of the envelope.
use Rattle.std.proofs.Common.{ℕ, suc, ◌≡◌, ◌+◌, ◌<◌, Bool, true, false, cond, not, ◌&&◌, ◌||◌, nat_eq, nat_lt, List, [], ◌∷◌, ◌++◌, map, length, take, get_or, refl, sym, ap, ◌∙◌, arith, Some, None, if◌then◌else◌}
use Rattle.std.specs.Prelude.{Option, is_some, slice_get}
use Rattle.std.proofs.lemmas.Bool.{ltb-true}
use Rattle.std.proofs.lemmas.List.{take_more, map-append, length-map, length-take-le}
use Rattle.std.specs.Ordering.{nat_cmp, is_eq}
use Rattle.std.specs.declared.cmp.Ordering.TheVariants.{Less, Equal, Greater}
use Rattle.std.specs.List.Sorted.{IsStrictlySortedBy}
use Rattle.std.specs.Map.{lookup, keys_of}
use Rattle.std.specs.BTreeMap.{is_at}
use Rattle.fc_values.specs.Types.{Input, input_of}
use Rattle.fc_values.specs.declared.types.InputDecl.{InputDecl}
use Rattle.fc_values.specs.Fields.{Rises, is_in}
use Rattle.topology.specs.Networks.{Network, lives}
use Rattle.value_bounds.specs.BoundValues.{BoundValue, either}
use Rattle.value_bounds.proofs.Values.{nat_same}
use Rattle.envelopes.specs.Envelopes.{ids, sure_in, bounds_in}
use Rattle.changes.specs.Changes.{ChangeValue}
use Rattle.changes.specs.Hand.{some_line, joins_device, leaves_device, at_hand}
use Rattle.change_bounds.proofs.Keys.{same_number, at_number}
use Rattle.change_bounds.specs.Bounds.{stays, scene_bound, said_bounds, joint_bound_from, joint_bound, bound_of_input, bounds_from}
use Rattle.change_bounds.specs.Tables.{presence, widened_by, input_said}
use Rattle.change_envelopes.specs.Written.{told_to_stay, told_bound, row_from, devices_by}

-- ---- numbers of devices

pub found : (d k : ℕ) → is_eq (nat_cmp d k) ≡ nat_eq d k
found d k = at_number d k ∙ same_number k d

below : (d k : ℕ) → nat_cmp d k ≡ Less → d < k
below d k h = by_tests (nat_lt d k) refl (nat_eq d k) h
  where
    by_tests : (s : Bool) → nat_lt d k ≡ s → (t : Bool) → cond s Less (cond t Equal Greater) ≡ Less → d < k
    by_tests true e t g = ltb-true d k e
    by_tests false e true g = absurd cc
    by_tests false e false g = absurd cc

rises_keys : (ks : List ℕ) → IsStrictlySortedBy nat_cmp ks → Rises ks
unfolding IsStrictlySortedBy
rises_keys [] h = tt
rises_keys (k ∷ []) h = tt
rises_keys (k ∷ l ∷ ks) h = (below k l h.0.0, rises_keys (l ∷ ks) h.1)

-- ---- what is found in a table

module _ (row : ℕ → List BoundValue) where
  ids_are : (es : List (ℕ × Bool)) → ids (devices_by row es) ≡ keys_of es
  ids_are [] = refl
  ids_are (e ∷ es) = ap (λ ks. e.0 ∷ ks) (ids_are es)

  pub devices_rise : (es : List (ℕ × Bool)) → IsStrictlySortedBy nat_cmp (keys_of es) → Rises (ids (devices_by row es))
  devices_rise es h = let e = ids_are es in rw e (rises_keys (keys_of es) h)

  id_found : (d : ℕ) (es : List (ℕ × Bool)) → is_in d (ids (devices_by row es)) ≡ is_some (lookup (is_at (nat_cmp d)) es)
  id_found d [] = refl
  id_found d (e ∷ es) = by_test (nat_eq d e.0) (id_found d es) ∙ ap (λ t. is_some (cond t (Some e.1) (lookup (is_at (nat_cmp d)) es))) (sym (found d e.0))
    where
      by_test : (t : Bool) → is_in d (ids (devices_by row es)) ≡ is_some (lookup (is_at (nat_cmp d)) es) → (t || is_in d (ids (devices_by row es))) ≡ is_some (cond t (Some e.1) (lookup (is_at (nat_cmp d)) es))
      by_test true h = refl
      by_test false h = h

  sure_found : (d : ℕ) (es : List (ℕ × Bool)) → sure_in d (devices_by row es) ≡ told_to_stay (lookup (is_at (nat_cmp d)) es)
  sure_found d [] = refl
  sure_found d (e ∷ es) = by_test (nat_eq d e.0) (sure_found d es) ∙ ap (λ t. told_to_stay (cond t (Some e.1) (lookup (is_at (nat_cmp d)) es))) (sym (found d e.0))
    where
      by_test : (t : Bool) → sure_in d (devices_by row es) ≡ told_to_stay (lookup (is_at (nat_cmp d)) es) → (if t then e.1 else sure_in d (devices_by row es)) ≡ told_to_stay (cond t (Some e.1) (lookup (is_at (nat_cmp d)) es))
      by_test true h = refl
      by_test false h = h

  pub row_found : (d : ℕ) (es : List (ℕ × Bool)) → is_in d (ids (devices_by row es)) ≡ true → bounds_in d (devices_by row es) ≡ row d
  row_found d [] h = absurd cc
  row_found d (e ∷ es) h = by_test (nat_eq d e.0) refl h (row_found d es)
    where
      by_test : (t : Bool) → nat_eq d e.0 ≡ t → (t || is_in d (ids (devices_by row es))) ≡ true → (is_in d (ids (devices_by row es)) ≡ true → bounds_in d (devices_by row es) ≡ row d)
          → (if t then row e.0 else bounds_in d (devices_by row es)) ≡ row d
      by_test true q g later = ap row (sym (nat_same d e.0 q))
      by_test false q g later = later g

  module _ (n : Network) (cs : List ChangeValue) (es : List (ℕ × Bool)) (said : (d : ℕ) → lookup (is_at (nat_cmp d)) es ≡ presence n cs d) where
    pub devices_found : (d : ℕ) → is_in d (ids (devices_by row es)) ≡ at_hand n cs d
    devices_found d = id_found d es ∙ ap is_some (said d) ∙ by_test (at_hand n cs d)
      where
        by_test : (t : Bool) → is_some (if t then Some (stays n cs d) else None) ≡ t
        by_test true = refl
        by_test false = refl

    -- what isn't at hand doesn't stay
    pub stays_found : (d : ℕ) → told_to_stay (presence n cs d) ≡ stays n cs d
    stays_found d = by_tests (lives n d) (some_line (joins_device d) cs) (some_line (leaves_device d) cs)
      where
        by_tests : (l j v : Bool) → told_to_stay (if l || j then Some (l && not v) else None) ≡ (l && not v)
        by_tests true j v = refl
        by_tests false true v = refl
        by_tests false false v = refl

    pub sure_devices_found : (d : ℕ) → sure_in d (devices_by row es) ≡ stays n cs d
    sure_devices_found d = sure_found d es ∙ ap told_to_stay (said d) ∙ stays_found d

-- ---- the bounds of inputs

joint_told : (b : BoundValue) (bs : List BoundValue) → told_bound (widened_by (Some b) bs) ≡ joint_bound_from b bs
joint_told b [] = refl
joint_told b (c ∷ cs) = joint_told (either b c) cs

said_told : (bs : List BoundValue) → told_bound (widened_by None bs) ≡ joint_bound bs
said_told [] = refl
said_told (b ∷ bs) = joint_told b bs

pub row_is : (n : Network) (cs : List ChangeValue) (d : ℕ) (bound : ℕ → Option BoundValue) (i : ℕ) (xs : List Input)
    → ((j : ℕ) (x : Input) → slice_get xs j ≡ Some x → bound (i + j) ≡ input_said n cs d (i + j) x.type) → row_from bound i xs ≡ bounds_from n cs d i xs
row_is n cs d bound i [] h = refl
row_is n cs d bound i (x ∷ xs) h =
    let here : bound i ≡ input_said n cs d i x.type = ap bound (omega arith) ∙ h 0 x refl ∙ ap (λ k. input_said n cs d k x.type) (omega arith) in
    let first : told_bound (bound i) ≡ bound_of_input n cs d i x.type = ap told_bound here ∙ said_told (scene_bound n d i ++ said_bounds d i x.type cs) in
    ap (λ b. b ∷ row_from bound (i + 1) xs) first
    ∙ ap (λ bs. bound_of_input n cs d i x.type ∷ bs) (row_is n cs d bound (i + 1) xs (λ j y at. ap bound (omega arith) ∙ h (suc j) y at ∙ ap (λ k. input_said n cs d k y.type) (omega arith)))

row_snoc : (bound : ℕ → Option BoundValue) (i : ℕ) (xs : List Input) (x : Input) → row_from bound i (xs ++ x ∷ []) ≡ row_from bound i xs ++ told_bound (bound (i + length xs)) ∷ []
row_snoc bound i [] x = ap (λ k. told_bound (bound k) ∷ []) (omega arith)
row_snoc bound i (y ∷ ys) x = ap (λ bs. told_bound (bound i) ∷ bs) (row_snoc bound (i + 1) ys x ∙ ap (λ k. row_from bound (i + 1) ys ++ told_bound (bound k) ∷ []) (omega arith))

-- one input more
more_by : (bound : ℕ → Option BoundValue) (is : List InputDecl) (k : ℕ) (z : InputDecl) → k < length is
    → row_from bound 0 (map input_of (take k is)) ++ told_bound (bound k) ∷ [] ≡ row_from bound 0 (map input_of (take (k + 1) is))
more_by bound is k z h =
    let long : length (map input_of (take k is)) ≡ k = length-map (take k is) input_of ∙ length-take-le k is (omega (arith, h)) in
    ap (λ j. row_from bound 0 (map input_of (take k is)) ++ told_bound (bound j) ∷ []) (omega (arith, long))
    ∙ sym (row_snoc bound 0 (map input_of (take k is)) (input_of (get_or is k z)))
    ∙ ap (row_from bound 0) (sym (ap (map input_of) (take_more is k z h) ∙ map-append input_of (take k is) (get_or is k z ∷ [])))

pub row_more : (bound : ℕ → Option BoundValue) (is : List InputDecl) (k : ℕ) → k < length is
    → row_from bound 0 (map input_of (take k is)) ++ told_bound (bound k) ∷ [] ≡ row_from bound 0 (map input_of (take (k + 1) is))
row_more bound [] k h = absurd (omega (arith, h))
row_more bound (z ∷ zs) k h = more_by bound (z ∷ zs) k z h
