-- Slots that are filled from a list, and the core that they make.
use Rattle.std.proofs.Common.{◌≡◌, ◌≢◌, ℕ, zero, suc, ◌<◌, List, [], ◌∷◌, length, map, get_or, refl, sym, ◌∙◌, ap, subst, arith, Bool, true, false, nat_eq, if◌then◌else◌, Option, Some, None, length-set}
use Rattle.std.proofs.Math.Path.{fun_ext}
use Rattle.std.proofs.lemmas.Bool.{eqb-true}
use Rattle.std.proofs.lemmas.List.{length-replicate}
use Rattle.std.specs.Prelude.{slice_set, option_map, replicate}
use Rattle.fc_values.specs.declared.exports.Export.{Export}
use Rattle.fc_values.specs.Fields.{Rises}
use Rattle.fc_nodes.specs.Program.{Program, Unfolding, unfolding_of}
use Rattle.value_trees.specs.declared.copies.Snap.{Snap}
use Rattle.value_trees.specs.Copies.{WhereSome}
use Rattle.value_trees.specs.Snaps.{tree_of, snap_copy, IsExportOf}
use Rattle.topology.specs.Networks.{Network, numbers, IsNetwork}
use Rattle.firing_core.specs.Cores.{Map, put, Core}
use Rattle.firing_core.specs.CoreViews.{core_of, device_slot, AllExports, AllFlights, FlightOf, IsCore}
use Rattle.firing_core.specs.Starts.{look_up, AllLive, TableExports, PendingSnaps, IsTable, IsPending, started}
use Rattle.firing_core.proofs.Slots.{Distinct, rises_distinct, slot_here, slot_map, slot_set}
use Rattle.firing_core.proofs.Views.{many_numbers}

empty_at : {X : Type 0} (is : List ℕ) (n d : ℕ) → device_slot is (replicate {A = Option X} n None) d ≡ None
empty_at [] n d = refl
empty_at (i ∷ is) zero d = refl
empty_at {X} (i ∷ is) (suc n) d = by_test (nat_eq d i) (empty_at is n d)
  where
    by_test : (b : Bool) → device_slot is (replicate {A = Option X} n None) d ≡ None → (if b then None else device_slot is (replicate {A = Option X} n None) d) ≡ None
    by_test true ih = refl
    by_test false ih = ih

-- empty slots are an empty map
pub nothing_at : {X : Type 0} (is : List ℕ) (n : ℕ) (slots : List (Option X)) → slots ≡ replicate n None → device_slot is slots ≡ (λ d. None)
nothing_at is n slots e = fun_ext (λ d. ap (λ xs. device_slot is xs d) e ∙ empty_at is n d)

module _ {X Y : Type 0} (key : X → ℕ) (value : X → Y) where
  -- a map after the elements of a list were put, one after another
  abbrev pub written : Map Y → List X → Map Y
  written f [] = f
  written f (x ∷ xs) = written (put f (key x) (Some (value x))) xs

  abbrev otherwise : Option Y → Option Y → Option Y
  otherwise None o = o
  otherwise (Some y) o = Some y

  absent : (xs : List X) (d : ℕ) → ((k : ℕ) → k < length (map key xs) → get_or (map key xs) k 0 ≢ d) → look_up key value xs d ≡ None
  absent [] d n = refl
  absent (x ∷ xs) d n = by_test (nat_eq d (key x)) refl (absent xs d (λ k h. n (suc k) (omega arith)))
    where
      by_test : (b : Bool) → nat_eq d (key x) ≡ b → look_up key value xs d ≡ None → (if b then Some (value x) else look_up key value xs d) ≡ None
      by_test true t ih = let e = eqb-true d (key x) t in absurd (n 0 (omega arith) (sym e))
      by_test false t ih = ih

  written_is : (f : Map Y) (xs : List X) (d : ℕ) → Distinct (map key xs) → written f xs d ≡ otherwise (look_up key value xs d) (f d)
  written_is f [] d n = refl
  written_is f (x ∷ xs) d n = by_test (nat_eq d (key x)) refl (written_is (put f (key x) (Some (value x))) xs d n.1)
    where
      by_test : (b : Bool) → nat_eq d (key x) ≡ b → written (put f (key x) (Some (value x))) xs d ≡ otherwise (look_up key value xs d) (if b then Some (value x) else f d)
          → written (put f (key x) (Some (value x))) xs d ≡ otherwise (if b then Some (value x) else look_up key value xs d) (f d)
      by_test true t ih = let e = eqb-true d (key x) t in ih ∙ ap (λ o. otherwise o (Some (value x))) (absent xs d (λ k h q. n.0 k h (q ∙ e)))
      by_test false t ih = ih

  or_none : (o : Option Y) → otherwise o None ≡ o
  or_none None = refl
  or_none (Some y) = refl

  -- on an empty map they make the look-up in the list
  pub written_all : (f : Map Y) (xs : List X) → f ≡ (λ d. None) → Distinct (map key xs) → written f xs ≡ look_up key value xs
  written_all f xs e n = fun_ext (λ d. written_is f xs d n ∙ ap (λ (g : Map Y). otherwise (look_up key value xs d) (g d)) e ∙ or_none (look_up key value xs d))

  -- the slots of a network after some elements of a list, those that are left, and what all of them make
  pub record Filled (net : Network) (slots : List (Option Y)) (left : List X) (all : Map Y) : Type 0 where
    pub read : written (device_slot (numbers net.devices) slots) left ≡ all
    pub there : AllLive net (map key left)
    pub many : length slots ≡ length net.devices

  pub filled_none : (net : Network) (slots : List (Option Y)) (left xs : List X) → slots ≡ replicate (length net.devices) None → left ≡ xs → Rises (map key xs) → AllLive net (map key xs) → Filled net slots left (look_up key value xs)
  filled_none net slots left xs e q r t =
      subst (λ (ys : List X). Filled net slots ys (look_up key value xs)) (sym q) (record {
        read = written_all (device_slot (numbers net.devices) slots) xs (nothing_at (numbers net.devices) (length net.devices) slots e) (rises_distinct (map key xs) r);
        there = t;
        many = ap length e ∙ length-replicate (length net.devices) None;
      })

  -- one more element in the slot of its device
  pub filled_more : (net : Network) (slots more : List (Option Y)) (left rest : List X) (all : Map Y) (x : X) (p : ℕ) → IsNetwork net → p < length net.devices → get_or (numbers net.devices) p 0 ≡ key x → left ≡ x ∷ rest → more ≡ slice_set slots p (Some (value x))
      → Filled net slots left all → Filled net more rest all
  filled_more net slots more left rest all x p k h e q m f =
      let g : Filled net slots (x ∷ rest) all = subst (λ (ys : List X). Filled net slots ys all) q f in
      let n = many_numbers net.devices in
      record {
        read = ap (λ g. written g rest) (ap (device_slot (numbers net.devices)) m
            ∙ slot_set (numbers net.devices) slots p (Some (value x)) (rises_distinct (numbers net.devices) k.rising) (omega arith) (let l = g.many in omega arith)
            ∙ ap (λ i. put (device_slot (numbers net.devices) slots) i (Some (value x))) e) ∙ g.read;
        there = g.there.1;
        many = ap length m ∙ length-set slots p (Some (value x)) ∙ g.many;
      }

  pub filled_all : (net : Network) (slots : List (Option Y)) (left : List X) (all : Map Y) → left ≡ [] → Filled net slots left all → device_slot (numbers net.devices) slots ≡ all
  filled_all net slots left all q f = sym (ap (written (device_slot (numbers net.devices) slots)) q) ∙ f.read

  -- what is found, with something done to it
  pub look_map : {Z : Type 0} (f : Y → Z) (xs : List X) (d : ℕ) → option_map f (look_up key value xs d) ≡ look_up key (λ (x : X). f (value x)) xs d
  look_map f [] d = refl
  look_map f (x ∷ xs) d = by_test (nat_eq d (key x)) (look_map f xs d)
    where
      by_test : (b : Bool) → option_map f (look_up key value xs d) ≡ look_up key (λ (z : X). f (value z)) xs d
          → option_map f (if b then Some (value x) else look_up key value xs d) ≡ (if b then Some (f (value x)) else look_up key (λ (z : X). f (value z)) xs d)
      by_test true ih = refl
      by_test false ih = ih

export_found : (U : Unfolding) (es : List (ℕ × Export)) (d : ℕ) → TableExports U es → WhereSome (IsExportOf U) (look_up (λ (e : ℕ × Export). e.0) (λ (e : ℕ × Export). e.1) es d)
export_found U [] d h = tt
export_found U (e ∷ es) d h = by_test (nat_eq d e.0) (export_found U es d h.1)
  where
    by_test : (b : Bool) → WhereSome (IsExportOf U) (look_up (λ (x : ℕ × Export). x.0) (λ (x : ℕ × Export). x.1) es d) → WhereSome (IsExportOf U) (if b then Some e.1 else look_up (λ (x : ℕ × Export). x.0) (λ (x : ℕ × Export). x.1) es d)
    by_test true ih = h.0
    by_test false ih = ih

flight_found : (U : Unfolding) (ss : List Snap) (d : ℕ) → PendingSnaps U ss → WhereSome (FlightOf U d) (look_up (λ (s : Snap). s.device) (λ (s : Snap). s) ss d)
flight_found U [] d h = tt
flight_found U (s ∷ ss) d h = by_test (nat_eq d s.device) refl (flight_found U ss d h.1)
  where
    by_test : (b : Bool) → nat_eq d s.device ≡ b → WhereSome (FlightOf U d) (look_up (λ (x : Snap). x.device) (λ (x : Snap). x) ss d) → WhereSome (FlightOf U d) (if b then Some s else look_up (λ (x : Snap). x.device) (λ (x : Snap). x) ss d)
    by_test true t ih = record { names = sym (eqb-true d s.device t); snap = h.0 }
    by_test false t ih = ih

exports_each : (U : Unfolding) (xs : List (Option Export)) → ((k : ℕ) → k < length xs → WhereSome (IsExportOf U) (get_or xs k None)) → AllExports U xs
exports_each U [] h = tt
exports_each U (x ∷ xs) h = (h 0 (omega arith), exports_each U xs (λ k q. h (suc k) (omega arith)))

flights_each : (U : Unfolding) (is : List ℕ) (xs : List (Option Snap)) → length xs ≡ length is → ((k : ℕ) → k < length is → WhereSome (FlightOf U (get_or is k 0)) (get_or xs k None)) → AllFlights U is xs
flights_each U [] [] l h = tt
flights_each U [] (x ∷ xs) l h = absurd (omega arith)
flights_each U (i ∷ is) [] l h = absurd (omega arith)
flights_each U (i ∷ is) (x ∷ xs) l h = (h 0 (omega arith), flights_each U is xs (omega arith) (λ k q. h (suc k) (omega arith)))

-- the core of a network, of the slots of a table, and of those of copies in flight
module _ (P : Program) (net : Network) (table : List (ℕ × Export)) (pending : List Snap) (xs : List (Option Export)) (ys : List (Option Snap))
    (network : IsNetwork net)
    (many : length xs ≡ length net.devices) (also : length ys ≡ length net.devices)
    (es : device_slot (numbers net.devices) xs ≡ look_up (λ (e : ℕ × Export). e.0) (λ (e : ℕ × Export). e.1) table)
    (ss : device_slot (numbers net.devices) ys ≡ look_up (λ (s : Snap). s.device) (λ (s : Snap). s) pending) where
  abbrev is : List ℕ
  is = numbers net.devices

  pub started_kept : net.declared ≡ P.declared → IsTable (unfolding_of P) net table → IsPending (unfolding_of P) net pending → IsCore (record { program = P; net = net; exports = xs; flying = ys })
  started_kept declared t p = record {
    declared = declared;
    net = network;
    many = many;
    exports = exports_each (unfolding_of P) xs (λ k h. let l : k < length is = (let m = many_numbers net.devices in omega arith) in
        subst (WhereSome (IsExportOf (unfolding_of P))) (sym (ap (λ (f : Map Export). f (get_or is k 0)) es) ∙ slot_here is xs k (get_or is k 0) apart l refl (let m = many_numbers net.devices in omega arith))
        (export_found (unfolding_of P) table (get_or is k 0) t.exports));
    flying = flights_each (unfolding_of P) is ys (let m = many_numbers net.devices in omega arith) (λ k h.
        subst (WhereSome (FlightOf (unfolding_of P) (get_or is k 0))) (sym (ap (λ (f : Map Snap). f (get_or is k 0)) ss) ∙ slot_here is ys k (get_or is k 0) apart h refl (let m = many_numbers net.devices in omega arith))
        (flight_found (unfolding_of P) pending (get_or is k 0) p.snaps));
  }
    where
      apart : Distinct (numbers net.devices)
      apart = rises_distinct (numbers net.devices) network.rising

  pub started_core : core_of (record { program = P; net = net; exports = xs; flying = ys }) ≡ started (unfolding_of P) net table pending
  started_core =
      ap (λ f. let c : Core = record { net = net; exports = f; flying = device_slot (numbers net.devices) (map (option_map (snap_copy (unfolding_of P))) ys) } in c)
      (fun_ext (λ d. slot_map (tree_of (unfolding_of P)) (numbers net.devices) xs d ∙ ap (λ (f : Map Export). option_map (tree_of (unfolding_of P)) (f d)) es ∙ look_map (λ (e : ℕ × Export). e.0) (λ (e : ℕ × Export). e.1) (tree_of (unfolding_of P)) table d))
      ∙ ap (λ f. let c : Core = record { net = net; exports = look_up (λ (e : ℕ × Export). e.0) (λ (e : ℕ × Export). tree_of (unfolding_of P) e.1) table; flying = f } in c)
      (fun_ext (λ d. slot_map (snap_copy (unfolding_of P)) (numbers net.devices) ys d ∙ ap (λ (f : Map Snap). option_map (snap_copy (unfolding_of P)) (f d)) ss ∙ look_map (λ (s : Snap). s.device) (λ (s : Snap). s) (snap_copy (unfolding_of P)) pending d))

pub nothing_left : {X : Type 0} (l : List X) → length l ≡ 0 → l ≡ []
nothing_left [] h = refl
nothing_left (x ∷ xs) h = absurd (omega arith)
