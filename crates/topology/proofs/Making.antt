-- A network that is made, and one with another input or device.
use Rattle.std.proofs.Common.{◌≡◌, ℕ, zero, suc, ◌+◌, ◌<◌, ◌≤◌, List, [], ◌∷◌, ◌++◌, length, map, get_or, set, refl, sym, ◌∙◌, ap, arith, Bool, true, false, nat_eq, nat_lt, if◌then◌else◌, ◌||◌, Option, Some, None, is_ok, Result, Ok, Err}
use Rattle.std.specs.Prelude.{replicate, OnOk, slice_set}
use Rattle.std.proofs.lemmas.Bool.{eqb-true, eqb-false, eq-eqb, ne_eqb, ltb-true, ltb-false}
use Rattle.std.proofs.lemmas.List.{length-map, get_or-map, map-set}
use Rattle.fc_values.specs.Fields.{Rises, is_in}
use Rattle.fc_values.specs.Types.{Declarations, Input}
use Rattle.fc_values.specs.Values.{LocalValue, local_of}
use Rattle.topology.specs.declared.types.Device.{Device}
use Rattle.topology.specs.declared.types.MakeFault.{MakeFault}
use Rattle.topology.specs.declared.types.MakeFault.TheVariants as make
use Rattle.topology.specs.declared.types.NetFault.{NetFault}
use Rattle.topology.specs.declared.types.NetFault.TheVariants as fault
use Rattle.topology.specs.Inputs.{inputs_fault, or_fault}
use Rattle.topology.specs.Networks.{NetDevice, net_device_of, numbers, DevicesFit, IsNetwork}
use Rattle.topology.specs.Changes.{put_input, nth_fault, twice_fault, devices_fault, at_index, make_fault, made, RefusesMake, HaveNumbers, HaveInputs}
use Rattle.topology.specs.Nearby.{near_each}
use Rattle.topology.proofs.Devices.{or_none, inputs_length}
use Rattle.topology.proofs.Sorting.{fresh_none, order_rises, order_length, order_fits}
use Rattle.fc_values.proofs.Rising.{later_above, rises_tail}

pub on_ok : {A E : Type 0} {P : Type 0} (r : Result A E) → is_ok r ≡ true → OnOk r P → P
on_ok (Ok x) e p = p
on_ok (Err x) e p = absurd (cc)

-- ---- making

pub record CanMake (D : Declarations) (ns : List NetDevice) : Type 0 where
  pub some : 1 ≤ length ns
  pub few : length ns ≤ 1024
  pub once : twice_fault 0 [] (numbers ns) ≡ None
  pub fit : devices_fault 0 D.inputs ns ≡ None

pub can_make : (D : Declarations) (ns : List NetDevice) → make_fault D ns ≡ None → CanMake D ns
can_make D ns e = by_tests (nat_eq (length ns) 0) (nat_lt 1024 (length ns)) refl refl e
  where
    by_tests : (p q : Bool) → nat_eq (length ns) 0 ≡ p → nat_lt 1024 (length ns) ≡ q
        → (if p || q then Some (make.Devices (length ns)) else or_fault (twice_fault 0 [] (numbers ns)) (devices_fault 0 D.inputs ns)) ≡ None → CanMake D ns
    by_tests true q s t e = absurd (cc)
    by_tests false true s t e = absurd (cc)
    by_tests false false s t e =
        let o = or_none (twice_fault 0 [] (numbers ns)) (devices_fault 0 D.inputs ns) e in
        let x = eqb-false (length ns) 0 s in
        record { some = omega (arith, x); few = ltb-false 1024 (length ns) t; once = o.0; fit = o.1 }

pub no_near : (ds : List ℕ) → replicate (length ds) [] ≡ near_each ds []
no_near [] = refl
no_near (d ∷ ds) = ap (λ xs. [] ∷ xs) (no_near ds)

pub made_network : (D : Declarations) (ns : List NetDevice) → HaveNumbers ns → HaveInputs (length D.inputs) ns → make_fault D ns ≡ None → IsNetwork (made D ns)
made_network D ns h k e =
    let c = can_make D ns e in
    record {
      some = let x = c.some in omega (arith, order_length ns);
      few = let x = c.few in omega (arith, order_length ns);
      rising = order_rises ns (fresh_none 0 [] (numbers ns) c.once);
      devices = order_fits D 0 ns h k c.fit;
      links = tt;
      degree = λ d. omega arith;
    }

twice_never : (i : ℕ) (before ds : List ℕ) → twice_fault i before ds ≡ Some make.Memory → ⊥
twice_never i before [] e = cc
twice_never i before (d ∷ ds) e = by_test (is_in d before) e (twice_never (i + 1) (before ++ d ∷ []) ds)
  where
    by_test : (q : Bool) → (if q then Some (make.Net i fault.Twice) else twice_fault (i + 1) (before ++ d ∷ []) ds) ≡ Some make.Memory → (twice_fault (i + 1) (before ++ d ∷ []) ds ≡ Some make.Memory → ⊥) → ⊥
    by_test true e ih = cc
    by_test false e ih = ih e

misfit_never : (i : ℕ) (is : List Input) (ns : List NetDevice) → devices_fault i is ns ≡ Some make.Memory → ⊥
misfit_never i is [] e = cc
misfit_never i is (n ∷ ns) e = by_fault (inputs_fault is n.inputs) e (misfit_never (i + 1) is ns)
  where
    by_fault : (o : Option NetFault) → at_index i o (devices_fault (i + 1) is ns) ≡ Some make.Memory → (devices_fault (i + 1) is ns ≡ Some make.Memory → ⊥) → ⊥
    by_fault None e ih = ih e
    by_fault (Some f) e ih = cc

refuses : (D : Declarations) (ns : List NetDevice) (f : MakeFault) → make_fault D ns ≡ Some f → (f ≡ make.Memory → ⊥) → RefusesMake D ns f
refuses D ns (make.Net i g) e u = e
refuses D ns (make.Devices count) e u = e
refuses D ns make.Memory e u = absurd (u refl)

few_enough : (D : Declarations) (ns : List NetDevice) → (length ns ≡ 0 → ⊥) → (1024 < length ns → ⊥) → make_fault D ns ≡ or_fault (twice_fault 0 [] (numbers ns)) (devices_fault 0 D.inputs ns)
few_enough D ns h k = by_tests (nat_eq (length ns) 0) (nat_lt 1024 (length ns)) refl refl
  where
    by_tests : (p q : Bool) → nat_eq (length ns) 0 ≡ p → nat_lt 1024 (length ns) ≡ q
        → (if p || q then Some (make.Devices (length ns)) else or_fault (twice_fault 0 [] (numbers ns)) (devices_fault 0 D.inputs ns)) ≡ or_fault (twice_fault 0 [] (numbers ns)) (devices_fault 0 D.inputs ns)
    by_tests true q s t = absurd (h (eqb-true (length ns) 0 s))
    by_tests false true s t = absurd (k (ltb-true 1024 (length ns) t))
    by_tests false false s t = refl

pub refuses_twice : (D : Declarations) (ns : List NetDevice) (f : MakeFault) → (length ns ≡ 0 → ⊥) → (1024 < length ns → ⊥) → twice_fault 0 [] (numbers ns) ≡ Some f → RefusesMake D ns f
refuses_twice D ns f h k e = refuses D ns f (few_enough D ns h k ∙ ap (λ o. or_fault o (devices_fault 0 D.inputs ns)) e) (λ m. twice_never 0 [] (numbers ns) (e ∙ ap Some m))

pub refuses_misfit : (D : Declarations) (ns : List NetDevice) (f : MakeFault) → (length ns ≡ 0 → ⊥) → (1024 < length ns → ⊥) → twice_fault 0 [] (numbers ns) ≡ None → devices_fault 0 D.inputs ns ≡ Some f → RefusesMake D ns f
refuses_misfit D ns f h k t e =
    refuses D ns f (few_enough D ns h k ∙ ap (λ o. or_fault o (devices_fault 0 D.inputs ns)) t ∙ e) (λ m. misfit_never 0 D.inputs ns (e ∙ ap Some m))

-- ---- another input

pub nth_within : (is : List Input) (i : ℕ) (v : LocalValue) → nth_fault is i v ≡ None → i < length is
nth_within [] i v e = absurd (cc)
nth_within (x ∷ xs) zero v e = omega arith
nth_within (x ∷ xs) (suc i) v e = let k = nth_within xs i v e in omega arith

pub inputs_long : (D : Declarations) (xs : List Device) (i : ℕ) (d : Device) → DevicesFit D (map net_device_of xs) → i < length xs → length (get_or xs i d).inputs.items ≡ length D.inputs
inputs_long D [] i d f l = absurd (omega arith)
inputs_long D (x ∷ xs) zero d f l = sym (length-map x.inputs.items local_of) ∙ inputs_length D.inputs (map local_of x.inputs.items) f.1
inputs_long D (x ∷ xs) (suc i) d f l = inputs_long D xs i d f.2 (omega arith)

put_absent : (d i : ℕ) (v : LocalValue) (ns : List NetDevice) → ((k : ℕ) → k < length (numbers ns) → d ≡ get_or (numbers ns) k 0 → ⊥) → put_input d i v ns ≡ ns
put_absent d i v [] u = refl
put_absent d i v (n ∷ ns) u = rw (ne_eqb d n.id (u 0 (omega arith))) (ap (λ ms. n ∷ ms) (put_absent d i v ns (λ k l. u (suc k) (omega arith))))

pub put_at : (ns : List NetDevice) (at d i : ℕ) (v : LocalValue) (m x : NetDevice) → Rises (numbers ns) → at < length (numbers ns) → get_or (numbers ns) at 0 ≡ d
    → m ≡ record { id = (get_or ns at x).id; inputs = slice_set (get_or ns at x).inputs i v } → set ns at m ≡ put_input d i v ns
put_at [] at d i v m x r l e f = absurd (omega arith)
put_at (n ∷ ns) zero d i v m x r l e f =
    rw (eq-eqb d n.id (sym e)) (ap (λ y. y ∷ ns) f ∙ ap (λ ms. put_one ∷ ms) (sym (put_absent d i v ns (λ k h q. let a = later_above n.id (numbers ns) r k h in omega arith))))
  where
    put_one : NetDevice
    put_one = record { id = n.id; inputs = slice_set n.inputs i v }
put_at (n ∷ ns) (suc at) d i v m x r l e f =
    let a = later_above n.id (numbers ns) r at (omega arith) in
    rw (ne_eqb d n.id (λ q. absurd (omega arith))) (ap (λ ms. n ∷ ms) (put_at ns at d i v m x (rises_tail n.id (numbers ns) r) (omega arith) e f))

-- a device in code, with another value in the place of an input
pub device_put : (xs : List Device) (at d i : ℕ) (v : LocalValue) (old new : Device) → Rises (numbers (map net_device_of xs)) → at < length xs → get_or (numbers (map net_device_of xs)) at 0 ≡ d
    → old ≡ get_or xs at old → new.id ≡ old.id → map local_of new.inputs.items ≡ slice_set (map local_of old.inputs.items) i v
    → map net_device_of (set xs at new) ≡ put_input d i v (map net_device_of xs)
device_put xs at d i v old new r l e is same inputs =
    let here : net_device_of old ≡ get_or (map net_device_of xs) at (net_device_of old) = ap net_device_of is ∙ sym (get_or-map net_device_of xs at old (net_device_of old) l) in
    map-set net_device_of xs at new
    ∙ put_at (map net_device_of xs) at d i v (net_device_of new) (net_device_of old) r (omega (arith, length-map (map net_device_of xs) (λ (n : NetDevice). n.id), length-map xs net_device_of)) e
    (ap (λ m. of_parts m (map local_of new.inputs.items)) same ∙ ap (of_parts old.id) inputs
    ∙ ap (λ (m : NetDevice). of_parts m.id (slice_set m.inputs i v)) here)
  where
    of_parts : ℕ → List LocalValue → NetDevice
    of_parts m vs = record { id = m; inputs = vs }
