-- The slots of a core in code, read and written at the place of a device.
use Rattle.std.proofs.Common.{◌≡◌, ℕ, zero, suc, ◌<◌, List, [], ◌∷◌, length, map, get_or, refl, sym, ◌∙◌, ap, subst, arith, Bool, true, false, nat_eq, if◌then◌else◌, Option, Some, None, length-set}
use Rattle.std.specs.Prelude.{slice_set, option_map, is_some}
use Rattle.std.proofs.lemmas.Bool.{eqb-true, eq-eqb}
use Rattle.std.proofs.lemmas.List.{length-map, map-set}
use Rattle.fc_values.specs.declared.exports.Export.{Export}
use Rattle.fc_values.specs.Trees.{Copy}
use Rattle.fc_nodes.specs.Program.{Program, Unfolding, unfolding_of}
use Rattle.value_trees.specs.declared.copies.Snap.{Snap}
use Rattle.value_trees.specs.Copies.{WhereSome}
use Rattle.device_eval.specs.Copies.{EvaluatesCopy}
use Rattle.value_trees.specs.Snaps.{tree_of, snap_copy, IsExportOf, IsSnap}
use Rattle.device_eval.specs.Firing.{FiredValue, IsFired}
use Rattle.firing_core.specs.Entries.{BeginEntry, EndEntry}
use Rattle.firing_core.specs.declared.entries.StepFault.TheVariants as fault
use Rattle.topology.specs.Networks.{Network, numbers, lives}
use Rattle.firing_core.specs.Cores.{put, Core, copy_of, begun, ended, Ends}
use Rattle.firing_core.specs.Replays.{fault_of}
use Rattle.firing_core.specs.CoreViews.{CoreValue, core_of, program_of, device_slot, AllExports, AllFlights, FlightOf, IsCore}
use Rattle.firing_core.proofs.Slots.{Distinct, rises_distinct, slot_set}
use Rattle.firing_core.proofs.Views.{many_flights, many_numbers}

-- reading the slot of the device at a place
pub slot_read : {X Y : Type 0} (f : X → Y) (is : List ℕ) (xs : List (Option X)) (p d : ℕ) (x : Option X) → Distinct is → p < length is → get_or is p 0 ≡ d → length xs ≡ length is → x ≡ get_or xs p x
    → device_slot is (map (option_map f) xs) d ≡ option_map f x
slot_read f [] xs p d x n h e l q = absurd (omega arith)
slot_read f (i ∷ is) [] p d x n h e l q = absurd (omega arith)
slot_read f (i ∷ is) (y ∷ ys) zero d x n h e l q = let t = eq-eqb d i (sym e) in rw t (ap (option_map f) (sym q))
slot_read {X} {Y} f (i ∷ is) (y ∷ ys) (suc p) d x n h e l q = by_test (nat_eq d i) refl (slot_read f is ys p d x n.1 (omega arith) e (omega arith) q)
  where
    by_test : (b : Bool) → nat_eq d i ≡ b → device_slot is (map (option_map f) ys) d ≡ option_map f x → (if b then option_map f y else device_slot is (map (option_map f) ys) d) ≡ option_map f x
    by_test true t ih = let z = eqb-true d i t in absurd (n.0 p (omega arith) (e ∙ z))
    by_test false t ih = ih

-- writing it
pub slot_write : {X Y : Type 0} (f : X → Y) (is : List ℕ) (xs : List (Option X)) (p d : ℕ) (v : Option X) → Distinct is → p < length is → get_or is p 0 ≡ d → length xs ≡ length is
    → device_slot is (map (option_map f) (slice_set xs p v)) ≡ put (device_slot is (map (option_map f) xs)) d (option_map f v)
slot_write f is xs p d v n h e l =
    ap (device_slot is) (map-set (option_map f) xs p v)
    ∙ slot_set is (map (option_map f) xs) p (option_map f v) n h (omega (arith, length-map xs (option_map f)))
    ∙ ap (λ k. put (device_slot is (map (option_map f) xs)) k (option_map f v)) e

pub exports_set : (U : Unfolding) (xs : List (Option Export)) (p : ℕ) (v : Option Export) → AllExports U xs → WhereSome (IsExportOf U) v → AllExports U (slice_set xs p v)
exports_set U [] p v a w = tt
exports_set U (x ∷ xs) zero v a w = (w, a.1)
exports_set U (x ∷ xs) (suc p) v a w = (a.0, exports_set U xs p v a.1 w)

pub flights_set : (U : Unfolding) (is : List ℕ) (xs : List (Option Snap)) (p d : ℕ) (v : Option Snap) → AllFlights U is xs → p < length is → get_or is p 0 ≡ d → WhereSome (FlightOf U d) v → AllFlights U is (slice_set xs p v)
flights_set U [] xs p d v a h e w = absurd (omega arith)
flights_set U (i ∷ is) [] p d v a h e w = absurd a
flights_set U (i ∷ is) (x ∷ xs) zero d v a h e w = (subst (λ k. WhereSome (FlightOf U k) v) (sym e) w, a.1)
flights_set U (i ∷ is) (x ∷ xs) (suc p) d v a h e w = (a.0, flights_set U is xs p d v a.1 (omega arith) e w)

pub export_kept : (U : Unfolding) (xs : List (Option Export)) (p : ℕ) (x : Option Export) → AllExports U xs → p < length xs → x ≡ get_or xs p x → WhereSome (IsExportOf U) x
export_kept U [] p x a h q = absurd (omega arith)
export_kept U (y ∷ ys) zero x a h q = subst (WhereSome (IsExportOf U)) (sym q) a.0
export_kept U (y ∷ ys) (suc p) x a h q = export_kept U ys p x a.1 (omega arith) q

snap_where : (U : Unfolding) (d : ℕ) (x : Option Snap) → WhereSome (FlightOf U d) x → WhereSome (IsSnap U) x
snap_where U d None w = tt
snap_where U d (Some s) w = w.snap

pub flight_kept : (U : Unfolding) (is : List ℕ) (xs : List (Option Snap)) (p : ℕ) (x : Option Snap) → AllFlights U is xs → p < length xs → x ≡ get_or xs p x → WhereSome (IsSnap U) x
flight_kept U [] [] p x a h q = absurd (omega arith)
flight_kept U [] (y ∷ ys) p x a h q = absurd a
flight_kept U (i ∷ is) [] p x a h q = absurd a
flight_kept U (i ∷ is) (y ∷ ys) zero x a h q = subst (WhereSome (IsSnap U)) (sym q) (snap_where U i y a.0)
flight_kept U (i ∷ is) (y ∷ ys) (suc p) x a h q = flight_kept U is ys p x a.1 (omega arith) q

-- what stands for a place past the end doesn't matter within
get_or_other : {X : Type 0} (xs : List X) (p : ℕ) (x y : X) → p < length xs → get_or xs p x ≡ get_or xs p y
get_or_other [] p x y h = absurd (omega arith)
get_or_other (z ∷ zs) zero x y h = refl
get_or_other (z ∷ zs) (suc p) x y h = get_or_other zs p x y (omega arith)

pub same_at : {X : Type 0} (xs : List X) (p : ℕ) (x y : X) → p < length xs → x ≡ get_or xs p x → y ≡ get_or xs p y → x ≡ y
same_at xs p x y h q r = q ∙ get_or_other xs p x y h ∙ sym r

-- a core, and the place p of its device d
module _ (v : CoreValue) (k : IsCore v) (p d : ℕ) (h : p < length v.net.devices) (e : get_or (numbers v.net.devices) p 0 ≡ d) where
  in_numbers : p < length (numbers v.net.devices)
  in_numbers = let m = many_numbers v.net.devices in omega arith

  apart : Distinct (numbers v.net.devices)
  apart = rises_distinct (numbers v.net.devices) k.net.rising

  flights : length v.flying ≡ length (numbers v.net.devices)
  flights = many_flights (program_of v) (numbers v.net.devices) v.flying k.flying

  exports : length v.exports ≡ length (numbers v.net.devices)
  exports = let m = many_numbers v.net.devices in let n = k.many in omega arith

  pub flight_within : p < length v.flying
  flight_within = let m = flights in let n = in_numbers in omega arith

  pub export_within : p < length v.exports
  export_within = let m = exports in let n = in_numbers in omega arith

  pub flight_at : (x : Option Snap) → x ≡ get_or v.flying p x → (core_of v).flying d ≡ option_map (snap_copy (program_of v)) x
  flight_at x q = slot_read (snap_copy (program_of v)) (numbers v.net.devices) v.flying p d x apart in_numbers e flights q

  pub export_at : (x : Option Export) → x ≡ get_or v.exports p x → (core_of v).exports d ≡ option_map (tree_of (program_of v)) x
  export_at x q = slot_read (tree_of (program_of v)) (numbers v.net.devices) v.exports p d x apart in_numbers e exports q

  -- a begin: the device flies already, or not yet
  pub begin_flying : (x : Option Snap) → x ≡ get_or v.flying p x → lives v.net d ≡ true → is_some x ≡ true → fault_of (core_of v) (BeginEntry d) ≡ Some fault.Flying
  begin_flying None q l s = absurd cc
  begin_flying (Some x) q l s = let f = flight_at (Some x) q in rw (l, f) refl

  pub not_flying : (x : Option Snap) → x ≡ get_or v.flying p x → is_some x ≡ false → (core_of v).flying d ≡ None
  not_flying None q s = flight_at None q
  not_flying (Some x) q s = absurd cc

  pub begin_free : (x : Option Snap) → x ≡ get_or v.flying p x → lives v.net d ≡ true → is_some x ≡ false → fault_of (core_of v) (BeginEntry d) ≡ None
  begin_free x q l s = let f = not_flying x q s in rw (l, f) refl

  pub end_resting : (x : Option Snap) → x ≡ get_or v.flying p x → lives v.net d ≡ true → is_some x ≡ false → fault_of (core_of v) (EndEntry d) ≡ Some fault.NotFlying
  end_resting x q l s = let f = not_flying x q s in rw (l, f) refl

  pub record Flies (x : Option Snap) : Type 0 where
    pub snap : Snap
    pub flies : (core_of v).flying d ≡ Some (snap_copy (program_of v) snap)
    pub fault : fault_of (core_of v) (EndEntry d) ≡ None

  pub flies : (x : Option Snap) → x ≡ get_or v.flying p x → lives v.net d ≡ true → is_some x ≡ true → Flies x
  flies None q l s = absurd cc
  flies (Some x) q l s = let f = flight_at (Some x) q in record { snap = x; flies = f; fault = rw (l, f) refl }

  -- the core with a copy put in flight
  abbrev pub with_flight : Snap → CoreValue
  with_flight s = record { program = v.program; net = v.net; exports = v.exports; flying = slice_set v.flying p (Some s) }

  pub flown_core : (s : Snap) → core_of (with_flight s) ≡ record { net = v.net; exports = (core_of v).exports; flying = put (core_of v).flying d (Some (snap_copy (program_of v) s)) }
  flown_core s =
      ap (λ f. let c : Core = record { net = v.net; exports = (core_of v).exports; flying = f } in c)
      (slot_write (snap_copy (program_of v)) (numbers v.net.devices) v.flying p d (Some s) apart in_numbers e flights)

  pub begun_core : (s : Snap) → snap_copy (program_of v) s ≡ copy_of v.net (core_of v).exports d → core_of (with_flight s) ≡ begun (core_of v).exports (core_of v) d
  begun_core s q = flown_core s ∙ ap (λ x. let c : Core = record { net = v.net; exports = (core_of v).exports; flying = put (core_of v).flying d (Some x) } in c) q

  pub begun_kept : (s : Snap) → s.device ≡ d → IsSnap (program_of v) s → IsCore (with_flight s)
  begun_kept s names fits = record {
    declared = k.declared;
    net = k.net;
    many = k.many;
    exports = k.exports;
    flying = flights_set (program_of v) (numbers v.net.devices) v.flying p d (Some s) k.flying in_numbers e (record { names = names; snap = fits });
  }

  -- the core with an export published and the flight ended
  abbrev pub with_export : Export → CoreValue
  with_export x = record { program = v.program; net = v.net; exports = slice_set v.exports p (Some x); flying = slice_set v.flying p None }

  pub ended_core : (x : Export) → core_of (with_export x) ≡ ended (core_of v) d (tree_of (program_of v) x)
  ended_core x =
      let w = slot_write (snap_copy (program_of v)) (numbers v.net.devices) v.flying p d None apart in_numbers e flights in
      let u = slot_write (tree_of (program_of v)) (numbers v.net.devices) v.exports p d (Some x) apart in_numbers e exports in
      ap (λ f. let c : Core = record { net = v.net; exports = f; flying = device_slot (numbers v.net.devices) (map (option_map (snap_copy (program_of v))) (slice_set v.flying p None)) } in c) u
      ∙ ap (λ f. let c : Core = record { net = v.net; exports = put (core_of v).exports d (Some (tree_of (program_of v) x)); flying = f } in c) w

  -- the table after an end
  pub published : (made e : Export) → made ≡ e → (core_of (with_export made)).exports ≡ put (core_of v).exports d (Some (tree_of (program_of v) e))
  published made e same = ap (λ (c : Core). c.exports) (ended_core made) ∙ ap (λ (x : Export). put (core_of v).exports d (Some (tree_of (program_of v) x))) same

  pub ended_kept : (x : Export) → IsExportOf (program_of v) x → IsCore (with_export x)
  ended_kept x w = record {
    declared = k.declared;
    net = k.net;
    many = length-set v.exports p (Some x) ∙ k.many;
    exports = exports_set (program_of v) v.exports p (Some x) k.exports w;
    flying = flights_set (program_of v) (numbers v.net.devices) v.flying p d None k.flying in_numbers e tt;
  }

  -- an end of a firing of this core's program, whose copy is the one in flight
  pub ends : (x : Option Snap) (f : FiredValue) → x ≡ get_or v.flying p x → lives v.net d ≡ true → is_some x ≡ true → IsFired f → f.program ≡ v.program
      → ((s : Copy) → (core_of v).flying d ≡ Some s → s ≡ snap_copy (program_of v) f.snap) → Ends (program_of v) (core_of v) d (core_of (with_export f.export))
  ends x f q l s fired same own =
      let y = flies x q l s in
      let c : snap_copy (program_of v) y.snap ≡ snap_copy (program_of v) f.snap = own (snap_copy (program_of v) y.snap) y.flies in
      record {
        copy = snap_copy (program_of v) f.snap;
        export = tree_of (program_of v) f.export;
        flies = y.flies ∙ ap Some c;
        evaluates = subst (λ (r : Program). EvaluatesCopy (unfolding_of r) (snap_copy (unfolding_of r) f.snap) (tree_of (unfolding_of r) f.export)) same fired.evaluates;
        after = ended_core f.export;
      }

  pub ends_with : (x : Option Snap) (f : FiredValue) (made : Export) → made ≡ f.export → x ≡ get_or v.flying p x → lives v.net d ≡ true → is_some x ≡ true → IsFired f → f.program ≡ v.program
      → ((s : Copy) → (core_of v).flying d ≡ Some s → s ≡ snap_copy (program_of v) f.snap) → Ends (program_of v) (core_of v) d (core_of (with_export made))
  ends_with x f made m q l s fired same own = subst (λ (y : Export). Ends (program_of v) (core_of v) d (core_of (with_export y))) (sym m) (ends x f q l s fired same own)

  -- an end of the copy in flight where it lies
  pub flight_ends : (x : Option Snap) (s : Snap) (made : Export) (r : Program) → x ≡ get_or v.flying p x → x ≡ Some s → lives v.net d ≡ true → r ≡ v.program → IsFired (record { program = r; snap = s; export = made })
      → Ends (program_of v) (core_of v) d (core_of (with_export made))
  flight_ends x s made r q i l same fired =
      let f : (core_of v).flying d ≡ Some (snap_copy (program_of v) s) = flight_at x q ∙ ap (option_map (snap_copy (program_of v))) i in
      ends x (record { program = r; snap = s; export = made }) q l (ap is_some i) fired same (λ t u. cc)

  pub flight_fits : (x : Option Snap) (s : Snap) → x ≡ get_or v.flying p x → x ≡ Some s → IsSnap (program_of v) s
  flight_fits x s q i =
      subst (WhereSome (IsSnap (program_of v))) i (flight_kept (program_of v) (numbers v.net.devices) v.flying p x k.flying flight_within q)

pub lives_at : (n : Network) (s t : Snap) → s ≡ t → lives n s.device ≡ true → lives n t.device ≡ true
lives_at n s t e l = subst (λ (x : Snap). lives n x.device ≡ true) e l

pub fired_export : (f : FiredValue) (r : Program) (x : Export) → f.program ≡ r → x ≡ f.export → IsFired f → IsExportOf (unfolding_of r) x
fired_export f r x e q fired =
    subst (λ (y : Export). IsExportOf (unfolding_of r) y) (sym q) (subst (λ (t : Program). IsExportOf (unfolding_of t) f.export) e fired.export)
