-- Crates above cite this module: one slot for each device, reading one, and writing one.
use Rattle.std.proofs.Common.{◌≡◌, ◌≢◌, ℕ, zero, suc, ◌<◌, List, [], ◌∷◌, length, map, get_or, refl, sym, ◌∙◌, arith, Bool, true, false, nat_eq, if◌then◌else◌, Option, None}
use Rattle.std.proofs.Math.Path.{fun_ext}
use Rattle.std.proofs.lemmas.Bool.{eqb-true, eq-eqb}
use Rattle.std.specs.Prelude.{slice_set, option_map, ◌||◌}
use Rattle.fc_values.specs.Fields.{Rises, is_in}
use Rattle.firing_core.specs.Cores.{put}
use Rattle.firing_core.specs.CoreViews.{device_slot}
use Rattle.fc_values.proofs.Rising.{later_above, rises_tail}

-- no number stands twice
abbrev pub Distinct : List ℕ → Type 0
Distinct [] = Unit {0}
Distinct (i ∷ is) = ((k : ℕ) → k < length is → get_or is k 0 ≢ i) × Distinct is

pub rises_distinct : (is : List ℕ) → Rises is → Distinct is
rises_distinct [] r = tt
rises_distinct (i ∷ is) r = (λ k h e. let l = later_above i is r k h in omega arith, rises_distinct is (rises_tail i is r))

-- the slot of the device at a place
pub slot_here : {X : Type 0} (is : List ℕ) (xs : List (Option X)) (k d : ℕ) → Distinct is → k < length is → get_or is k 0 ≡ d → length is ≡ length xs → device_slot is xs d ≡ get_or xs k None
slot_here [] xs k d n h e l = absurd (omega arith)
slot_here (i ∷ is) [] k d n h e l = absurd (omega arith)
slot_here (i ∷ is) (x ∷ xs) zero d n h e l = let t = eq-eqb d i (sym e) in rw t refl
slot_here {X} (i ∷ is) (x ∷ xs) (suc k) d n h e l = by_test (nat_eq d i) refl (slot_here is xs k d n.1 (omega arith) e (omega arith))
  where
    by_test : (b : Bool) → nat_eq d i ≡ b → device_slot is xs d ≡ get_or xs k None → (if b then x else device_slot is xs d) ≡ get_or xs k None
    by_test true q ih = let y = eqb-true d i q in absurd (n.0 k (omega arith) (e ∙ y))
    by_test false q ih = ih

-- a device that isn't among the numbers has no slot
pub slot_none : {X : Type 0} (is : List ℕ) (xs : List (Option X)) (d : ℕ) → is_in d is ≡ false → device_slot is xs d ≡ None
slot_none [] xs d e = refl
slot_none (i ∷ is) [] d e = refl
slot_none {X} (i ∷ is) (x ∷ xs) d e = by_test (nat_eq d i) e (slot_none is xs d)
  where
    by_test : (b : Bool) → (b || is_in d is) ≡ false → (is_in d is ≡ false → device_slot is xs d ≡ None) → (if b then x else device_slot is xs d) ≡ None
    by_test true q ih = absurd (cc)
    by_test false q ih = ih q

-- one slot of a map over what slots hold
pub slot_map : {X Y : Type 0} (f : X → Y) (is : List ℕ) (xs : List (Option X)) (d : ℕ) → device_slot is (map (option_map f) xs) d ≡ option_map f (device_slot is xs d)
slot_map f [] xs d = refl
slot_map f (i ∷ is) [] d = refl
slot_map f (i ∷ is) (x ∷ xs) d = by_test (nat_eq d i) (slot_map f is xs d)
  where
    by_test : (b : Bool) → device_slot is (map (option_map f) xs) d ≡ option_map f (device_slot is xs d) → (if b then option_map f x else device_slot is (map (option_map f) xs) d) ≡ option_map f (if b then x else device_slot is xs d)
    by_test true ih = refl
    by_test false ih = ih

-- one slot written is one put
slot_put : {X : Type 0} (is : List ℕ) (xs : List (Option X)) (k : ℕ) (v : Option X) (d : ℕ) → Distinct is → k < length is → length is ≡ length xs → device_slot is (slice_set xs k v) d ≡ put (device_slot is xs) (get_or is k 0) v d
slot_put [] xs k v d n h e = absurd (omega arith)
slot_put (i ∷ is) [] k v d n h e = absurd (omega arith)
slot_put (i ∷ is) (x ∷ xs) zero v d n h e = by_test (nat_eq d i)
  where
    by_test : (b : Bool) → (if b then v else device_slot is xs d) ≡ (if b then v else (if b then x else device_slot is xs d))
    by_test true = refl
    by_test false = refl
slot_put (i ∷ is) (x ∷ xs) (suc k) v d n h e = by_test (nat_eq d i) refl (slot_put is xs k v d n.1 (omega arith) (omega arith))
  where
    by_test : (b : Bool) → nat_eq d i ≡ b → device_slot is (slice_set xs k v) d ≡ put (device_slot is xs) (get_or is k 0) v d → (if b then x else device_slot is (slice_set xs k v) d) ≡ (if nat_eq d (get_or is k 0) then v else (if b then x else device_slot is xs d))
    by_test true q ih = other (nat_eq d (get_or is k 0)) refl
      where
        other : (b : Bool) → nat_eq d (get_or is k 0) ≡ b → x ≡ (if b then v else x)
        other true p = let y = eqb-true d i q in let z = eqb-true d (get_or is k 0) p in absurd (n.0 k (omega arith) (sym z ∙ y))
        other false p = refl
    by_test false q ih = ih

pub slot_set : {X : Type 0} (is : List ℕ) (xs : List (Option X)) (k : ℕ) (v : Option X) → Distinct is → k < length is → length is ≡ length xs → device_slot is (slice_set xs k v) ≡ put (device_slot is xs) (get_or is k 0) v
slot_set is xs k v n h e = fun_ext (λ d. slot_put is xs k v d n h e)
