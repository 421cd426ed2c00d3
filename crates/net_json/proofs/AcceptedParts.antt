-- What is accepted fits the program: networks, exports, copies, and so scenes.
use Rattle.std.proofs.Common.{◌≡◌, ◌≢◌, ℕ, ◌≤◌, ◌&&◌, List, [], ◌∷◌, refl, sym, ◌∙◌, subst, arith, Bool, true, false, not, nat_eq, nat_le, Option, Some, None}
use Rattle.std.specs.Prelude.{codes, if◌then◌else◌, is_some}
use Rattle.std.specs.List.{All}
use Rattle.std.proofs.lemmas.Bool.{eqb-false, leb-true}
use Rattle.std.proofs.lemmas.List.Elements.{All-head, All-tail, All-weaker}
use Rattle.serde_json.specs.Data.{Data, Items}
use Rattle.serde_json.specs.Find.{as_array, as_null}
use Rattle.fc_values.specs.Types.{Declarations, Input}
use Rattle.fc_values.specs.Fields.{is_in}
use Rattle.fc_values.specs.Inputs.{InputsFit}
use Rattle.fc_values.specs.Values.{LocalValue}
use Rattle.fc_values.specs.Trees.{TreeExport, NearCopy, Copy}
use Rattle.fc_nodes.specs.Program.{Unfolding}
use Rattle.fc_nodes.specs.Flat.{IsWellTyped}
use Rattle.value_trees.specs.Copies.{WhereSome, NearFits, AllNearFit, FitsCopy}
use Rattle.topology.specs.Networks.{NetDevice, Network, lives, Lives, DevicesFit, IsNetwork, network_of}
use Rattle.topology.proofs.Lemmas.{linked_network}
use Rattle.net_json.specs.Judging.{Accepted, Misshaped, given, at_member}
use Rattle.net_json.specs.Reading.{value_of, two_members}
use Rattle.net_json.specs.Inputs.{inputs_judged}
use Rattle.net_json.specs.Devices.{device_form, device_number, live_number, device_judged, number_of_device, devices_judged}
use Rattle.net_json.specs.Links.{link_of, link_judged}
use Rattle.value_trees.specs.KeptItems.{KeptItem}
use Rattle.net_json.specs.KeptItems.{item_of_values}
use Rattle.net_json.specs.Exports.{export_judged}
use Rattle.net_json.specs.Tables.{Row, row_number, row_form, row_judged, rows_judged, array_or, second_format, second_judged, table_judged}
use Rattle.net_json.specs.Copies.{own_export, some_export, own_judged, other_number, weight_judged, near_judged, near_number, nears_judged, parts_judged, copy_number, copy_judged, near_form, copy_form, copies_judged, CopyForm}
use Rattle.net_json.specs.Scenes.{SceneValue, scene_path, scene_form, network_judged, scene_judged, of_reading, scene_of, json_of}
use Rattle.net_json.specs.ReadingBack.{AreTableRows}
use Rattle.net_json.specs.FittingScenes.{AreFlights, SceneFits}
use Rattle.net_json.proofs.InputFacts.{values_fit}
use Rattle.net_json.proofs.AcceptedExports.{export_accepted}
use Rattle.net_json.proofs.Accepting.{then_accepted, require_accepted, no_fault_accepted, same_accepted, in_turn_keeps, IsNew, all_gathered, many_gathered}

and_both : (p q : Bool) → (p && q) ≡ true → (p ≡ true) × (q ≡ true)
and_both true q e = (refl, e)
and_both false q e = absurd cc

not_true : (p : Bool) → not p ≡ true → p ≡ false
not_true true e = absurd cc
not_true false e = refl

-- ---- inputs and numbers

pub inputs_accepted : (is : List Input) (path : List ℕ) (d : Data) (vs : List LocalValue) → inputs_judged is path d ≡ Accepted vs → InputsFit is vs
inputs_accepted is path d vs e = let r = require_accepted _ e in values_fit path d is vs r.1

-- a number that is accepted is the one that is there, and not among those before
device_number_accepted : (before path : List ℕ) (id n : ℕ) → device_number before path id ≡ Accepted n → (n ≤ 65535) × (is_in n before ≡ false)
device_number_accepted before path id n e =
    let r = require_accepted _ e in
    let s = require_accepted _ r.1 in
    let same : id ≡ n = same_accepted s.1 in
    let small = leb-true id 65535 r.0 in
    (omega (arith, same, small), subst (λ (m : ℕ). is_in m before ≡ false) same (not_true (is_in id before) s.0))

live_number_accepted : (n : Network) (before path : List ℕ) (id d : ℕ) → live_number n before path id ≡ Accepted d → (Lives n d) × (is_in d before ≡ false)
live_number_accepted n before path id d e =
    let r = require_accepted _ e in
    let same : id ≡ d = same_accepted r.1 in
    let both = and_both (lives n id) (not (is_in id before)) r.0 in
    (subst (Lives n) same both.0, subst (λ (m : ℕ). is_in m before ≡ false) same (not_true (is_in id before) both.1))

other_number_accepted : (device : ℕ) (before path : List ℕ) (id n : ℕ) → other_number device before path id ≡ Accepted n → (n ≢ device) × (is_in n before ≡ false)
other_number_accepted device before path id n e =
    let r = require_accepted _ e in
    let same : id ≡ n = same_accepted r.1 in
    let first = and_both (nat_le id 65535 && not (nat_eq id device)) (not (is_in id before)) r.0 in
    let second = and_both (nat_le id 65535) (not (nat_eq id device)) first.0 in
    let other = eqb-false id device (not_true (nat_eq id device) second.1) in
    ((λ f. other (same ∙ f)), subst (λ (m : ℕ). is_in m before ≡ false) same (not_true (is_in id before) first.1))

-- ---- networks

-- a device that may be one of a network with these inputs
record DeviceFits (is : List Input) (n : NetDevice) : Type 0 where
  pub small : n.id ≤ 65535
  pub inputs : InputsFit is n.inputs

device_new : (is : List Input) (before path : List ℕ) (d : Data) (n : NetDevice) → device_judged is before path d ≡ Accepted n → IsNew number_of_device (DeviceFits is) before n
device_new is before path d n e =
    then_accepted (device_form path d) e (λ form f g.
    then_accepted (device_number before (at_member path (codes "id")) form.0) g (λ id h k.
    then_accepted (inputs_judged is (at_member path (codes "inputs")) form.1) k (λ vs l m.
    let number = device_number_accepted before _ form.0 id h in
    subst (IsNew number_of_device (DeviceFits is) before) (same_accepted m) (record {
      absent = number.1;
      holds = record { small = number.0; inputs = inputs_accepted is _ form.1 vs l };
    }))))

devices_fit : (D : Declarations) (ns : List NetDevice) → All (DeviceFits D.inputs) ns → DevicesFit D ns
devices_fit D [] a = tt
devices_fit D (n ∷ ns) a =
    let f = All-head (DeviceFits D.inputs) n ns a in
    (f.small, f.inputs, devices_fit D ns (All-tail (DeviceFits D.inputs) n ns a))

positive : (n : ℕ) → nat_eq n 0 ≡ false → 1 ≤ n
positive n e = let h = eqb-false n 0 e in omega (arith, h)

-- devices that are accepted make a network without links
pub devices_accepted : (D : Declarations) (path : List ℕ) (ds : Items) (ns : List NetDevice) → devices_judged D.inputs path ds ≡ Accepted ns → IsNetwork (network_of D ns [])
devices_accepted D path ds ns e =
    let some = require_accepted _ e in
    let few = require_accepted _ some.1 in
    let many = many_gathered number_of_device (device_judged D.inputs) path ds ns few.1 in
    let are = all_gathered number_of_device (device_judged D.inputs) (DeviceFits D.inputs) (device_new D.inputs) path ds ns few.1 in
    let least = positive _ (not_true _ some.0) in
    let most = leb-true _ 1024 few.0 in
    record {
      some = omega (arith, many, least);
      few = omega (arith, many, most);
      rising = are.rising;
      devices = devices_fit D ns are.each;
      links = tt;
      degree = λ d. omega arith;
    }

record IsNetworkOf (D : Declarations) (n : Network) : Type 0 where
  pub net : IsNetwork n
  pub declared : n.declared ≡ D

link_keeps : (D : Declarations) (n m : Network) (path : List ℕ) (d : Data) → IsNetworkOf D n → link_judged n path d ≡ Accepted m → IsNetworkOf D m
link_keeps D n m path d k e = then_accepted (given (Misshaped path) (link_of d)) e (λ l f g.
    let apart = require_accepted _ g in
    let fault = no_fault_accepted _ apart.1 in
    subst (IsNetworkOf D) (same_accepted fault.1) (record { net = linked_network n l.0 l.1 l.2 k.net fault.0; declared = k.declared }))

network_accepted : (U : Unfolding) (devices links : Items) (n : Network) → network_judged U devices links ≡ Accepted n → IsNetworkOf U.declared n
network_accepted U devices links n e =
    then_accepted (devices_judged U.declared.inputs (scene_path (codes "devices")) devices) e (λ ns f g.
    in_turn_keeps link_judged (IsNetworkOf U.declared) (link_keeps U.declared) (scene_path (codes "links")) (network_of U.declared ns []) n 0 links
    (record { net = devices_accepted U.declared (scene_path (codes "devices")) devices ns f; declared = refl }) g)

-- ---- rows

row_new : (U : Unfolding) (n : Network) (read : Data → Option KeptItem) (before path : List ℕ) (d : Data) (r : Row) → row_judged U n read before path d ≡ Accepted r
    → IsNew row_number (λ (r : Row). Lives n r.0 × IsWellTyped U r.1) before r
row_new U n read before path d r e =
    then_accepted (row_form path d) e (λ form f g.
    then_accepted (live_number n before (at_member path (codes "id")) form.id) g (λ id h k.
    then_accepted (export_judged U read path form.value form.kept) k (λ x l m.
    let number = live_number_accepted n before _ form.id id h in
    subst (IsNew row_number (λ (r : Row). Lives n r.0 × IsWellTyped U r.1) before) (same_accepted m) (record {
      absent = number.1;
      holds = (number.0, (export_accepted U read path form.value form.kept x l).typed);
    }))))

rows_accepted : (U : Unfolding) (n : Network) (read : Data → Option KeptItem) (path : List ℕ) (ds : Items) (rows : List Row) → rows_judged U n read path ds ≡ Accepted rows → AreTableRows U n rows
rows_accepted U n read path ds rows e =
    let P = λ (r : Row). Lives n r.0 × IsWellTyped U r.1 in
    let are = all_gathered row_number (row_judged U n read) P (row_new U n read) path ds rows e in
    record {
      rising = are.rising;
      there = All-weaker P (λ (r : Row). Lives n r.0) (λ r h. h.0) rows are.each;
      exports = All-weaker P (λ (r : Row). IsWellTyped U r.1) (λ r h. h.1) rows are.each;
    }

table_accepted : (U : Unfolding) (n : Network) (path : List ℕ) (d : Data) (rows : List Row) → table_judged U n path d ≡ Accepted rows → AreTableRows U n rows
table_accepted U n path d rows e = by_array (as_array d) e
  where
    by_array : (o : Option Items) → array_or U n path o (second_judged U n path d) ≡ Accepted rows → AreTableRows U n rows
    by_array (Some ds) e = rows_accepted U n _ path ds rows e
    by_array None e = then_accepted (second_format path d) e (λ ds f g. rows_accepted U n _ _ ds rows g)

-- ---- copies

own_accepted : (U : Unfolding) (path : List ℕ) (d : Data) (own : Option TreeExport) → own_judged U path d ≡ Accepted own → WhereSome (IsWellTyped U) own
own_accepted U path d own e = by_null (is_some (as_null d)) e
  where
    by_null : (q : Bool) → (if q then Accepted None else some_export (own_export U path d)) ≡ Accepted own → WhereSome (IsWellTyped U) own
    by_null true e = subst (WhereSome (IsWellTyped U)) (same_accepted e) tt
    by_null false e =
        then_accepted (own_export U path d) e (λ x f g.
        then_accepted (given (Misshaped path) (two_members (codes "value") (codes "kept") d)) f (λ m h k.
        then_accepted (given (Misshaped (at_member path (codes "value"))) (value_of m.0)) k (λ v l n.
        then_accepted (given (Misshaped (at_member path (codes "kept"))) (as_array m.1)) n (λ ds o p.
        subst (WhereSome (IsWellTyped U)) (same_accepted g) (export_accepted U item_of_values path v ds x p).typed))))

near_new : (U : Unfolding) (device : ℕ) (before path : List ℕ) (d : Data) (n : NearCopy) → near_judged U device before path d ≡ Accepted n → IsNew near_number (NearFits U device) before n
near_new U device before path d n e =
    then_accepted (near_form path d) e (λ form f g.
    then_accepted (other_number device before (at_member path (codes "id")) form.id) g (λ id h k.
    then_accepted (weight_judged U.declared (at_member path (codes "weight")) form.weight) k (λ w l m.
    then_accepted (export_judged U item_of_values path form.value form.kept) m (λ x o p.
    let number = other_number_accepted device before _ form.id id h in
    let range = require_accepted _ l in
    let same : form.weight ≡ w = same_accepted range.1 in
    let both = and_both (nat_le U.declared.least form.weight) (nat_le form.weight U.declared.greatest) range.0 in
    subst (IsNew near_number (NearFits U device) before) (same_accepted p) (record {
      absent = number.1;
      holds = record {
        other = number.0;
        above = subst (λ (m : ℕ). U.declared.least ≤ m) same (leb-true U.declared.least form.weight both.0);
        below = subst (λ (m : ℕ). m ≤ U.declared.greatest) same (leb-true form.weight U.declared.greatest both.1);
        export = (export_accepted U _ path form.value form.kept x o).typed;
      };
    })))))

all_near_fit : (U : Unfolding) (device : ℕ) (ns : List NearCopy) → All (NearFits U device) ns → AllNearFit U device ns
all_near_fit U device [] a = tt
all_near_fit U device (n ∷ ns) a = (All-head (NearFits U device) n ns a, all_near_fit U device ns (All-tail (NearFits U device) n ns a))

parts_accepted : (U : Unfolding) (path : List ℕ) (device : ℕ) (form : CopyForm) (c : Copy) → parts_judged U path device form ≡ Accepted c → (c.device ≡ device) × FitsCopy U c
parts_accepted U path device form c e =
    then_accepted (inputs_judged U.declared.inputs (at_member path (codes "inputs")) form.inputs) e (λ vs f g.
    then_accepted (own_judged U (at_member path (codes "own")) form.own) g (λ own h k.
    then_accepted (nears_judged U device (at_member path (codes "near")) form.near) k (λ ns l m.
    let few = require_accepted _ l in
    let many = many_gathered near_number (near_judged U device) _ form.near ns few.1 in
    let are = all_gathered near_number (near_judged U device) (NearFits U device) (near_new U device) _ form.near ns few.1 in
    let most = leb-true _ 32 few.0 in
    subst (λ (c : Copy). (c.device ≡ device) × FitsCopy U c) (same_accepted m) (
      refl,
      record {
        inputs = inputs_accepted U.declared.inputs _ form.inputs vs f;
        own = own_accepted U _ form.own own h;
        near = all_near_fit U device ns are.each;
        rising = are.rising;
        few = omega (arith, many, most);
      },
    ))))

copy_new : (U : Unfolding) (n : Network) (before path : List ℕ) (d : Data) (c : Copy) → copy_judged U n before path d ≡ Accepted c
    → IsNew copy_number (λ (c : Copy). Lives n c.device × FitsCopy U c) before c
copy_new U n before path d c e =
    then_accepted (copy_form path d) e (λ form f g.
    then_accepted (live_number n before (at_member path (codes "id")) form.id) g (λ id h k.
    let number = live_number_accepted n before _ form.id id h in
    let parts = parts_accepted U path id form c k in
    record {
      absent = subst (λ (m : ℕ). is_in m before ≡ false) (sym parts.0) number.1;
      holds = (subst (Lives n) (sym parts.0) number.0, parts.1);
    }))

copies_accepted : (U : Unfolding) (n : Network) (path : List ℕ) (ds : Items) (cs : List Copy) → copies_judged U n path ds ≡ Accepted cs → AreFlights U n cs
copies_accepted U n path ds cs e =
    let P = λ (c : Copy). Lives n c.device × FitsCopy U c in
    let are = all_gathered copy_number (copy_judged U n) P (copy_new U n) path ds cs e in
    record {
      rising = are.rising;
      there = All-weaker P (λ (c : Copy). Lives n c.device) (λ c h. h.0) cs are.each;
      fit = All-weaker P (FitsCopy U) (λ c h. h.1) cs are.each;
    }

-- ---- scenes

scene_accepted : (U : Unfolding) (d : Data) (s : SceneValue) → scene_judged U d ≡ Accepted s → SceneFits U s
scene_accepted U d s e =
    then_accepted (scene_form d) e (λ form f g.
    then_accepted (network_judged U form.devices form.links) g (λ n h k.
    then_accepted (table_judged U n (scene_path (codes "table")) form.table) k (λ rows l m.
    then_accepted (copies_judged U n (scene_path (codes "pending")) form.pending) m (λ copies o p.
    let net = network_accepted U form.devices form.links n h in
    subst (SceneFits U) (same_accepted p) (record {
      net = net.net;
      declared = net.declared;
      table = table_accepted U n (scene_path (codes "table")) form.table rows l;
      pending = copies_accepted U n (scene_path (codes "pending")) form.pending copies o;
    })))))

pub text_accepted : (U : Unfolding) (text : List ℕ) (s : SceneValue) → scene_of U text ≡ Accepted s → SceneFits U s
text_accepted U text s e = by_json (json_of text) e
  where
    by_json : (o : Option Data) → of_reading U o ≡ Accepted s → SceneFits U s
    by_json None e = absurd cc
    by_json (Some d) e = scene_accepted U d s e
