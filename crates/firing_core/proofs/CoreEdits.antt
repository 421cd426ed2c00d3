-- The slots of a core in code after an edit.
use Rattle.std.proofs.Common.{◌≡◌, ℕ, zero, suc, ◌<◌, List, [], ◌∷◌, length, map, get_or, refl, sym, ◌∙◌, ap, subst, arith, Bool, true, false, not, nat_eq, nat_lt, nat_le, if◌then◌else◌, ◌||◌, Option, Some, None, length-set}
use Rattle.std.specs.Prelude.{slice_set, option_map}
use Rattle.std.specs.List.{insert, remove, prefix_len}
use Rattle.std.proofs.Math.Path.{fun_ext}
use Rattle.std.proofs.lemmas.Bool.{eqb-true, eqb-false, ne_eqb}
use Rattle.std.proofs.lemmas.List.{length-map}
use Rattle.fc_values.specs.declared.exports.Export.{Export}
use Rattle.fc_values.specs.Exports.{FlatExport, export_of}
use Rattle.fc_values.specs.Trees.{Copy}
use Rattle.fc_nodes.specs.Program.{Program, Unfolding}
use Rattle.fc_nodes.specs.Flat.{IsExport, tree_export}
use Rattle.value_trees.specs.declared.copies.Snap.{Snap}
use Rattle.value_trees.specs.Snaps.{tree_of, snap_copy}
use Rattle.topology.specs.declared.types.NetFault.TheVariants as fault
use Rattle.topology.specs.Networks.{NetDevice, Network, numbers, lives, Lives, IsNetwork}
use Rattle.fc_values.specs.Fields.{is_in}
use Rattle.fc_values.specs.declared.types.InputTy.{InputTy}
use Rattle.fc_values.specs.declared.types.InputTy.TheVariants as input
use Rattle.fc_values.specs.Types.{Input}
use Rattle.fc_values.specs.Values.{LocalValue, IntValue, BoolValue, PairValue}
use Rattle.fc_values.specs.Rows.{IsPairValue}
use Rattle.topology.specs.Inputs.{input_fault}
use Rattle.topology.specs.Changes.{insert_device, drop_device, joined, left, link_fault, linked, unlink_fault, unlinked, nth_fault, set_fault, with_input, leave_fault}
use Rattle.topology.proofs.Lemmas.{no_fault, linked_network, unlinked_network, input_network, set_none}
use Rattle.topology.proofs.Lemmas.{map_insert}
use Rattle.fc_values.proofs.Lists.{insert_prefix, insert_length}
use Rattle.topology.proofs.Lemmas.{drop_length, put_numbers}
use Rattle.topology.proofs.Lemmas.{map_remove, remove_device}
use Rattle.firing_core.specs.Entries.{EditValue, LinkEdit, UnlinkEdit, SetEdit, PokeEdit, JoinEdit, LeaveEdit}
use Rattle.firing_core.specs.Cores.{Map, put, Core, on_net, Edits, edit_fault, edited}
use Rattle.firing_core.specs.CoreViews.{CoreValue, core_of, program_of, device_slot, AllExports, AllFlights, IsCore}
use Rattle.firing_core.proofs.Slots.{Distinct, rises_distinct}
use Rattle.firing_core.proofs.Views.{many_flights, many_numbers}
use Rattle.firing_core.proofs.CoreSteps.{slot_write, exports_set}

-- ---- another network of the same devices

abbrev pub with_net : CoreValue → Network → CoreValue
with_net v n = record { program = v.program; net = n; exports = v.exports; flying = v.flying }

module _ (v : CoreValue) (k : IsCore v) (n : Network) (same : numbers n.devices ≡ numbers v.net.devices) where
  pub net_core : core_of (with_net v n) ≡ on_net (core_of v) n
  net_core =
      ap (λ is. let c : Core = record { net = n; exports = device_slot is (map (option_map (tree_of (program_of v))) v.exports); flying = device_slot is (map (option_map (snap_copy (program_of v))) v.flying) } in c) same

  pub net_kept : IsNetwork n → n.declared ≡ v.net.declared → IsCore (with_net v n)
  net_kept net declared = record {
    declared = declared ∙ k.declared;
    net = net;
    many = k.many ∙ sym (many_numbers v.net.devices) ∙ ap length (sym same) ∙ many_numbers n.devices;
    exports = k.exports;
    flying = subst (λ is. AllFlights (program_of v) is v.flying) (sym same) k.flying;
  }

-- ---- a slot more

slot_insert_at : {X : Type 0} (is : List ℕ) (xs : List (Option X)) (p d e : ℕ) → is_in d is ≡ false → length is ≡ length xs → device_slot (insert is p d) (insert xs p None) e ≡ put (device_slot is xs) d None e
slot_insert_at {X} [] [] zero d e n l = refl
slot_insert_at {X} [] [] (suc p) d e n l = refl
slot_insert_at [] (x ∷ xs) p d e n l = absurd (omega arith)
slot_insert_at (i ∷ is) [] p d e n l = absurd (omega arith)
slot_insert_at (i ∷ is) (x ∷ xs) zero d e n l = refl
slot_insert_at {X} (i ∷ is) (x ∷ xs) (suc p) d e n l = by_tests (nat_eq e i) (nat_eq e d) refl refl (slot_insert_at is xs p d e (rest (nat_eq d i) n) (omega arith))
  where
    rest : (b : Bool) → (b || is_in d is) ≡ false → is_in d is ≡ false
    rest true q = absurd (cc)
    rest false q = q

    first : (b : Bool) → (b || is_in d is) ≡ false → b ≡ false
    first true q = absurd (cc)
    first false q = refl

    by_tests : (q r : Bool) → nat_eq e i ≡ q → nat_eq e d ≡ r → device_slot (insert is p d) (insert xs p None) e ≡ (if nat_eq e d then None else device_slot is xs e)
        → (if q then x else device_slot (insert is p d) (insert xs p None) e) ≡ (if nat_eq e d then None else (if q then x else device_slot is xs e))
    by_tests true true s t ih = let a = eqb-true e i s in let b = eqb-true e d t in absurd (eqb-false d i (first (nat_eq d i) n) (sym b ∙ a))
    by_tests true false s t ih = rw t refl
    by_tests false r s t ih = ih

pub slot_insert : {X : Type 0} (is : List ℕ) (xs : List (Option X)) (p d : ℕ) → is_in d is ≡ false → length is ≡ length xs → device_slot (insert is p d) (insert xs p None) ≡ put (device_slot is xs) d None
slot_insert is xs p d n l = fun_ext (λ e. slot_insert_at is xs p d e n l)

insert_exports : (U : Unfolding) (xs : List (Option Export)) (p : ℕ) → AllExports U xs → AllExports U (insert xs p None)
insert_exports U [] zero a = (tt, tt)
insert_exports U [] (suc p) a = (tt, tt)
insert_exports U (x ∷ xs) zero a = (tt, a)
insert_exports U (x ∷ xs) (suc p) a = (a.0, insert_exports U xs p a.1)

insert_flights : (U : Unfolding) (is : List ℕ) (xs : List (Option Snap)) (p d : ℕ) → AllFlights U is xs → AllFlights U (insert is p d) (insert xs p None)
insert_flights U [] [] zero d a = (tt, tt)
insert_flights U [] [] (suc p) d a = (tt, tt)
insert_flights U [] (x ∷ xs) p d a = absurd a
insert_flights U (i ∷ is) [] p d a = absurd a
insert_flights U (i ∷ is) (x ∷ xs) zero d a = (tt, a)
insert_flights U (i ∷ is) (x ∷ xs) (suc p) d a = (a.0, insert_flights U is xs p d a.1)

insert_long : {X : Type 0} (xs : List X) (p : ℕ) (x : X) → length (insert xs p x) ≡ suc (length xs)
insert_long [] zero x = refl
insert_long [] (suc p) x = refl
insert_long (y ∷ ys) zero x = refl
insert_long (y ∷ ys) (suc p) x = ap suc (insert_long ys p x)

module _ (v : CoreValue) (k : IsCore v) (x : NetDevice) (p : ℕ) (place : p ≡ prefix_len (λ (n : NetDevice). nat_lt n.id x.id) v.net.devices) (new : lives v.net x.id ≡ false) where
  abbrev pub with_device : CoreValue
  with_device = record { program = v.program; net = joined v.net x; exports = insert v.exports p None; flying = insert v.flying p None }

  joined_numbers : numbers (insert_device x v.net.devices) ≡ insert (numbers v.net.devices) p x.id
  joined_numbers =
      ap numbers (sym (insert_prefix (λ (n : NetDevice). nat_lt n.id x.id) x v.net.devices))
      ∙ map_insert (λ (n : NetDevice). n.id) v.net.devices (prefix_len (λ (n : NetDevice). nat_lt n.id x.id) v.net.devices) x
      ∙ ap (λ q. insert (numbers v.net.devices) q x.id) (sym place)

  exports_long : length (numbers v.net.devices) ≡ length v.exports
  exports_long = let m = many_numbers v.net.devices in let n = k.many in omega arith

  flying_long : length (numbers v.net.devices) ≡ length v.flying
  flying_long = sym (many_flights (program_of v) (numbers v.net.devices) v.flying k.flying)

  slots_more : {X Y : Type 0} (f : X → Y) (xs : List (Option X)) → length (numbers v.net.devices) ≡ length xs
      → device_slot (numbers (insert_device x v.net.devices)) (map (option_map f) (insert xs p None)) ≡ put (device_slot (numbers v.net.devices) (map (option_map f) xs)) x.id None
  slots_more f xs l =
      ap (λ is. device_slot is (map (option_map f) (insert xs p None))) joined_numbers
      ∙ ap (device_slot (insert (numbers v.net.devices) p x.id)) (map_insert (option_map f) xs p None)
      ∙ slot_insert (numbers v.net.devices) (map (option_map f) xs) p x.id new (omega (arith, length-map xs (option_map f)))

  pub joined_core : core_of with_device ≡ edited (program_of v) (core_of v) (JoinEdit x)
  joined_core =
      ap (λ f. let c : Core = record { net = joined v.net x; exports = f; flying = device_slot (numbers (insert_device x v.net.devices)) (map (option_map (snap_copy (program_of v))) (insert v.flying p None)) } in c)
      (slots_more (tree_of (program_of v)) v.exports exports_long)
      ∙ ap (λ f. let c : Core = record { net = joined v.net x; exports = put (core_of v).exports x.id None; flying = f } in c)
      (slots_more (snap_copy (program_of v)) v.flying flying_long)

  pub joined_kept : IsNetwork (joined v.net x) → IsCore with_device
  joined_kept net = record {
    declared = k.declared;
    net = net;
    many = insert_long v.exports p None ∙ ap suc k.many ∙ sym (insert_length (λ (n : NetDevice). nat_lt n.id x.id) x v.net.devices);
    exports = insert_exports (program_of v) v.exports p k.exports;
    flying = subst (λ is. AllFlights (program_of v) is (insert v.flying p None)) (sym joined_numbers) (insert_flights (program_of v) (numbers v.net.devices) v.flying p x.id k.flying);
  }

-- ---- a slot less

slot_absent : {X : Type 0} (is : List ℕ) (xs : List (Option X)) (d : ℕ) → ((m : ℕ) → m < length is → d ≡ get_or is m 0 → ⊥) → device_slot is xs d ≡ None
slot_absent [] xs d u = refl
slot_absent (i ∷ is) [] d u = refl
slot_absent (i ∷ is) (x ∷ xs) d u = rw (ne_eqb d i (u 0 (omega arith))) (slot_absent is xs d (λ m l. u (suc m) (omega arith)))

slot_remove_at : {X : Type 0} (is : List ℕ) (xs : List (Option X)) (p d e : ℕ) → Distinct is → p < length is → get_or is p 0 ≡ d → length is ≡ length xs → device_slot (remove is p) (remove xs p) e ≡ put (device_slot is xs) d None e
slot_remove_at [] xs p d e n h q l = absurd (omega arith)
slot_remove_at (i ∷ is) [] p d e n h q l = absurd (omega arith)
slot_remove_at {X} (i ∷ is) (x ∷ xs) zero d e n h q l = by_test (nat_eq e d) refl
  where
    by_test : (b : Bool) → nat_eq e d ≡ b → device_slot is xs e ≡ (if b then None else (if nat_eq e i then x else device_slot is xs e))
    by_test true t = let a = eqb-true e d t in slot_absent is xs e (λ m u r. n.0 m u (sym r ∙ a ∙ sym q))
    by_test false t = rw (ne_eqb e i (λ r. eqb-false e d t (r ∙ q))) refl
slot_remove_at {X} (i ∷ is) (x ∷ xs) (suc p) d e n h q l = by_tests (nat_eq e i) (nat_eq e d) refl refl (slot_remove_at is xs p d e n.1 (omega arith) q (omega arith))
  where
    by_tests : (a b : Bool) → nat_eq e i ≡ a → nat_eq e d ≡ b → device_slot (remove is p) (remove xs p) e ≡ (if nat_eq e d then None else device_slot is xs e)
        → (if a then x else device_slot (remove is p) (remove xs p) e) ≡ (if nat_eq e d then None else (if a then x else device_slot is xs e))
    by_tests true true s t ih = let y = eqb-true e i s in let z = eqb-true e d t in absurd (n.0 p (omega arith) (q ∙ sym z ∙ y))
    by_tests true false s t ih = rw t refl
    by_tests false b s t ih = ih

pub slot_remove : {X : Type 0} (is : List ℕ) (xs : List (Option X)) (p d : ℕ) → Distinct is → p < length is → get_or is p 0 ≡ d → length is ≡ length xs → device_slot (remove is p) (remove xs p) ≡ put (device_slot is xs) d None
slot_remove is xs p d n h q l = fun_ext (λ e. slot_remove_at is xs p d e n h q l)

-- where the slot is empty already
put_none : {X : Type 0} (f : Map X) (d : ℕ) → f d ≡ None → put f d None ≡ f
put_none f d q = fun_ext (λ e. at e (nat_eq e d) refl)
  where
    at : (e : ℕ) (b : Bool) → nat_eq e d ≡ b → (if b then None else f e) ≡ f e
    at e true t = sym (ap f (eqb-true e d t) ∙ q)
    at e false t = refl

remove_exports : (U : Unfolding) (xs : List (Option Export)) (p : ℕ) → AllExports U xs → AllExports U (remove xs p)
remove_exports U [] zero a = tt
remove_exports U [] (suc p) a = tt
remove_exports U (x ∷ xs) zero a = a.1
remove_exports U (x ∷ xs) (suc p) a = (a.0, remove_exports U xs p a.1)

remove_flights : (U : Unfolding) (is : List ℕ) (xs : List (Option Snap)) (p : ℕ) → AllFlights U is xs → AllFlights U (remove is p) (remove xs p)
remove_flights U [] [] zero a = tt
remove_flights U [] [] (suc p) a = tt
remove_flights U [] (x ∷ xs) p a = absurd a
remove_flights U (i ∷ is) [] p a = absurd a
remove_flights U (i ∷ is) (x ∷ xs) zero a = a.1
remove_flights U (i ∷ is) (x ∷ xs) (suc p) a = (a.0, remove_flights U is xs p a.1)

remove_long : {X : Type 0} (xs : List X) (p : ℕ) → p < length xs → suc (length (remove xs p)) ≡ length xs
remove_long [] p h = absurd (omega arith)
remove_long (x ∷ xs) zero h = refl
remove_long (x ∷ xs) (suc p) h = ap suc (remove_long xs p (omega arith))

module _ (v : CoreValue) (k : IsCore v) (p d : ℕ) (h : p < length v.net.devices) (q : get_or (numbers v.net.devices) p 0 ≡ d) (there : Lives v.net d) where
  abbrev pub without_device : CoreValue
  without_device = record { program = v.program; net = left v.net d; exports = remove v.exports p; flying = remove v.flying p }

  apart : Distinct (numbers v.net.devices)
  apart = rises_distinct (numbers v.net.devices) k.net.rising

  within : p < length (numbers v.net.devices)
  within = let m = many_numbers v.net.devices in omega arith

  left_numbers : numbers (drop_device d v.net.devices) ≡ remove (numbers v.net.devices) p
  left_numbers = ap numbers (sym (remove_device d p v.net.devices k.net.rising within q)) ∙ map_remove (λ (n : NetDevice). n.id) v.net.devices p

  slots_less : {X Y : Type 0} (f : X → Y) (xs : List (Option X)) → length (numbers v.net.devices) ≡ length xs
      → device_slot (numbers (drop_device d v.net.devices)) (map (option_map f) (remove xs p)) ≡ put (device_slot (numbers v.net.devices) (map (option_map f) xs)) d None
  slots_less f xs l =
      ap (λ is. device_slot is (map (option_map f) (remove xs p))) left_numbers
      ∙ ap (device_slot (remove (numbers v.net.devices) p)) (map_remove (option_map f) xs p)
      ∙ slot_remove (numbers v.net.devices) (map (option_map f) xs) p d apart within q (omega (arith, length-map xs (option_map f)))

  many_exports : length (numbers v.net.devices) ≡ length v.exports
  many_exports = let m = many_numbers v.net.devices in let n = k.many in omega arith

  pub left_core : (core_of v).flying d ≡ None → core_of without_device ≡ edited (program_of v) (core_of v) (LeaveEdit d)
  left_core rests =
      ap (λ f. let c : Core = record { net = left v.net d; exports = f; flying = device_slot (numbers (drop_device d v.net.devices)) (map (option_map (snap_copy (program_of v))) (remove v.flying p)) } in c)
      (slots_less (tree_of (program_of v)) v.exports many_exports)
      ∙ ap (λ f. let c : Core = record { net = left v.net d; exports = put (core_of v).exports d None; flying = f } in c)
      (slots_less (snap_copy (program_of v)) v.flying (sym (many_flights (program_of v) (numbers v.net.devices) v.flying k.flying)) ∙ put_none (core_of v).flying d rests)

  pub left_kept : IsNetwork (left v.net d) → IsCore without_device
  left_kept net = record {
    declared = k.declared;
    net = net;
    many = let m = remove_long v.exports p (let n = k.many in omega arith) in let n = k.many in let o = drop_length d v.net.devices k.net.rising there in omega arith;
    exports = remove_exports (program_of v) v.exports p k.exports;
    flying = subst (λ is. AllFlights (program_of v) is (remove v.flying p)) (sym left_numbers) (remove_flights (program_of v) (numbers v.net.devices) v.flying p k.flying);
  }

  -- ---- an export in a device's place

  abbrev pub with_poke : Export → CoreValue
  with_poke x = record { program = v.program; net = v.net; exports = slice_set v.exports p (Some x); flying = v.flying }

  pub poked_core : (x : Export) (e : FlatExport) → export_of x ≡ e → core_of (with_poke x) ≡ edited (program_of v) (core_of v) (PokeEdit d e)
  poked_core x e r =
      ap (λ f. let c : Core = record { net = v.net; exports = f; flying = (core_of v).flying } in c)
      (slot_write (tree_of (program_of v)) (numbers v.net.devices) v.exports p d (Some x) apart within q (sym many_exports)
      ∙ ap (λ y. put (core_of v).exports d (Some (tree_export (program_of v) y))) r)

  pub poked_kept : (x : Export) (e : FlatExport) → export_of x ≡ e → IsExport (program_of v) e → IsCore (with_poke x)
  poked_kept x e r w = record {
    declared = k.declared;
    net = k.net;
    many = length-set v.exports p (Some x) ∙ k.many;
    exports = exports_set (program_of v) v.exports p (Some x) k.exports (subst (IsExport (program_of v)) (sym r) w);
    flying = k.flying;
  }

-- ---- edits of the network alone

pub record EditedNet (v : CoreValue) (n : Network) (e : EditValue) : Type 0 where
  pub kept : IsCore (with_net v n)
  pub edits : Edits (program_of v) (core_of v) e (core_of (with_net v n))

pub linked_edit : (v : CoreValue) (n : Network) (a b w : ℕ) → IsCore v → n ≡ linked v.net a b w → link_fault v.net a b w ≡ None → EditedNet v n (LinkEdit a b w)
linked_edit v n a b w k q f = subst (λ m. EditedNet v m (LinkEdit a b w)) (sym q) (record {
  kept = net_kept v k (linked v.net a b w) refl (linked_network v.net a b w k.net f) refl;
  edits = record { fits = tt; allowed = f; after = net_core v k (linked v.net a b w) refl };
})

pub unlinked_edit : (v : CoreValue) (n : Network) (a b : ℕ) → IsCore v → n ≡ unlinked v.net a b → unlink_fault v.net a b ≡ None → EditedNet v n (UnlinkEdit a b)
unlinked_edit v n a b k q f = subst (λ m. EditedNet v m (UnlinkEdit a b)) (sym q) (record {
  kept = net_kept v k (unlinked v.net a b) refl (unlinked_network v.net a b k.net) refl;
  edits = record { fits = tt; allowed = f; after = net_core v k (unlinked v.net a b) refl };
})

pub set_edit : (v : CoreValue) (n : Network) (d i : ℕ) (x : LocalValue) → IsCore v → n ≡ with_input v.net d i x → set_fault v.net d i x ≡ None → EditedNet v n (SetEdit d i x)
set_edit v n d i x k q f = subst (λ m. EditedNet v m (SetEdit d i x)) (sym q) (record {
  kept = net_kept v k (with_input v.net d i x) (put_numbers d i x v.net.devices) (input_network v.net d i x k.net (set_none v.net d i x f).1) refl;
  edits = record { fits = tt; allowed = f; after = net_core v k (with_input v.net d i x) (put_numbers d i x v.net.devices) };
})

-- a pair is no value of an input
pair_input : (is : List Input) (i : ℕ) (a b : LocalValue) → nth_fault is i (PairValue a b) ≡ None → ⊥
pair_input [] i a b e = cc
pair_input (x ∷ xs) zero a b e = by_type x.type e
  where
    by_type : (t : InputTy) → input_fault t (PairValue a b) ≡ None → ⊥
    by_type input.Truth e = cc
    by_type (input.Whole l g) e = cc
pair_input (x ∷ xs) (suc i) a b e = pair_input xs i a b e

pub no_pair : (n : Network) (d i : ℕ) (a b : LocalValue) → set_fault n d i (PairValue a b) ≡ None → ⊥
no_pair n d i a b e = pair_input n.declared.inputs i a b (set_none n d i (PairValue a b) e).1

-- ---- where an edit is allowed

pub poke_allowed : (v : CoreValue) (d : ℕ) (e : FlatExport) → Lives v.net d → edit_fault (core_of v) (PokeEdit d e) ≡ None
poke_allowed v d e l = rw l refl

pub leave_allowed : (v : CoreValue) (d : ℕ) → leave_fault v.net d ≡ None → (core_of v).flying d ≡ None → edit_fault (core_of v) (LeaveEdit d) ≡ None
leave_allowed v d e f =
    let p = no_fault (not (lives v.net d)) fault.NoDevice ((nat_le (length v.net.devices) 1, fault.Last) ∷ []) e in
    let q = no_fault (nat_le (length v.net.devices) 1) fault.Last [] p.1 in
    let a = p.0 in
    let b = q.0 in
    rw (a, f, b) refl

pub leave_in_flight : (v : CoreValue) (d : ℕ) (s : Copy) → Lives v.net d → (core_of v).flying d ≡ Some s → edit_fault (core_of v) (LeaveEdit d) ≡ Some fault.InFlight
leave_in_flight v d s l f = rw (l, f) refl

pub pair_never : (n : Network) (d i : ℕ) (x : LocalValue) → IsPairValue x → set_fault n d i x ≡ None → ⊥
pair_never n d i (IntValue m) p e = p
pair_never n d i (BoolValue b) p e = p
pair_never n d i (PairValue a b) p e = no_pair n d i a b e

-- a core of the same parts
abbrev pub core_parts : Program → Network → List (Option Export) → List (Option Snap) → CoreValue
core_parts p n xs ys = record { program = p; net = n; exports = xs; flying = ys }

pub rebuilt_core : (p : Program) (m n : Network) (xs us : List (Option Export)) (ys vs : List (Option Snap)) → m ≡ n → xs ≡ us → ys ≡ vs → core_parts p m xs ys ≡ core_parts p n us vs
rebuilt_core p m n xs us ys vs e f g =
    ap (λ o. core_parts p o xs ys) e ∙ ap (λ bs. core_parts p n bs ys) f ∙ ap (core_parts p n us) g

abbrev pub without : CoreValue → ℕ → ℕ → CoreValue
without v p d = record { program = v.program; net = left v.net d; exports = remove v.exports p; flying = remove v.flying p }

abbrev pub with_joined : CoreValue → NetDevice → ℕ → CoreValue
with_joined v x p = record { program = v.program; net = joined v.net x; exports = insert v.exports p None; flying = insert v.flying p None }
