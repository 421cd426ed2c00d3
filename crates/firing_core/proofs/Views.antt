-- A core in code stands for a good core.
use Rattle.std.proofs.Common.{◌≡◌, ℕ, suc, List, [], ◌∷◌, length, map, refl, sym, ◌∙◌, ap, subst, Bool, true, false, nat_eq, if◌then◌else◌, Option, Some, None}
use Rattle.std.specs.Prelude.{option_map}
use Rattle.std.proofs.lemmas.Bool.{eqb-true}
use Rattle.std.proofs.lemmas.List.{length-map}
use Rattle.fc_values.specs.declared.exports.Export.{Export}
use Rattle.fc_values.specs.Trees.{TreeExport, Copy}
use Rattle.fc_nodes.specs.Program.{Unfolding}
use Rattle.fc_nodes.specs.Flat.{IsWellTyped}
use Rattle.value_trees.specs.declared.copies.Snap.{Snap}
use Rattle.value_trees.specs.Copies.{WhereSome, FitsCopy}
use Rattle.value_trees.specs.Snaps.{tree_of, snap_copy, IsExportOf}
use Rattle.topology.specs.Networks.{NetDevice, numbers}
use Rattle.fc_values.specs.Fields.{is_in}
use Rattle.firing_core.specs.Cores.{IsGood}
use Rattle.firing_core.specs.CoreViews.{CoreValue, core_of, program_of, device_slot, AllExports, AllFlights, FlightOf, IsCore}

module _ (U : Unfolding) where
  pub record HasExport (d : ℕ) (is : List ℕ) (e : TreeExport) : Type 0 where
    pub there : is_in d is ≡ true
    pub typed : IsWellTyped U e

  typed_of : (x : Option Export) (e : TreeExport) → WhereSome (IsExportOf U) x → option_map (tree_of U) x ≡ Some e → IsWellTyped U e
  typed_of None e w q = absurd (cc)
  typed_of (Some x) e w q = let p : tree_of U x ≡ e = cc in subst (IsWellTyped U) p w.typed

  pub export_there : (is : List ℕ) (xs : List (Option Export)) (d : ℕ) (e : TreeExport) → AllExports U xs → device_slot is (map (option_map (tree_of U)) xs) d ≡ Some e → HasExport d is e
  export_there [] xs d e a q = absurd (cc)
  export_there (i ∷ is) [] d e a q = absurd (cc)
  export_there (i ∷ is) (x ∷ xs) d e a q = by_test (nat_eq d i) refl q (export_there is xs d e a.1)
    where
      by_test : (b : Bool) → nat_eq d i ≡ b → (if b then option_map (tree_of U) x else device_slot is (map (option_map (tree_of U)) xs) d) ≡ Some e → (device_slot is (map (option_map (tree_of U)) xs) d ≡ Some e → HasExport d is e) → HasExport d (i ∷ is) e
      by_test true t q ih = record { there = rw t refl; typed = typed_of x e a.0 q }
      by_test false t q ih = let r = ih q in record { there = rw t r.there; typed = r.typed }

  pub record HasFlight (d : ℕ) (is : List ℕ) (s : Copy) : Type 0 where
    pub there : is_in d is ≡ true
    pub names : s.device ≡ d
    pub fits : FitsCopy U s

  flight_of : (x : Option Snap) (i d : ℕ) (s : Copy) → i ≡ d → WhereSome (FlightOf U i) x → option_map (snap_copy U) x ≡ Some s → (s.device ≡ d) × FitsCopy U s
  flight_of None i d s k w q = absurd (cc)
  flight_of (Some x) i d s k w q = let p : snap_copy U x ≡ s = cc in (ap (λ (c : Copy). c.device) (sym p) ∙ w.names ∙ k, subst (FitsCopy U) p w.snap.fits)

  pub flight_there : (is : List ℕ) (xs : List (Option Snap)) (d : ℕ) (s : Copy) → AllFlights U is xs → device_slot is (map (option_map (snap_copy U)) xs) d ≡ Some s → HasFlight d is s
  flight_there [] xs d s a q = absurd (cc)
  flight_there (i ∷ is) [] d s a q = absurd (cc)
  flight_there (i ∷ is) (x ∷ xs) d s a q = by_test (nat_eq d i) refl q (flight_there is xs d s a.1)
    where
      by_test : (b : Bool) → nat_eq d i ≡ b → (if b then option_map (snap_copy U) x else device_slot is (map (option_map (snap_copy U)) xs) d) ≡ Some s → (device_slot is (map (option_map (snap_copy U)) xs) d ≡ Some s → HasFlight d is s) → HasFlight d (i ∷ is) s
      by_test true t q ih = let k = eqb-true d i t in let f = flight_of x i d s (sym k) a.0 q in record { there = rw t refl; names = f.0; fits = f.1 }
      by_test false t q ih = let r = ih q in record { there = rw t r.there; names = r.names; fits = r.fits }

-- a core in code is a good core of its program
pub good_of : (c : CoreValue) → IsCore c → IsGood (program_of c) (core_of c)
good_of c k = record {
  net = k.net;
  declared = k.declared;
  exports = λ d e q. let h = export_there (program_of c) (numbers c.net.devices) c.exports d e k.exports q in record { there = h.there; typed = h.typed };
  flying = λ d s q. let h = flight_there (program_of c) (numbers c.net.devices) c.flying d s k.flying q in record { there = h.there; names = h.names; fits = h.fits };
}

-- as many slots as devices
pub many_flights : (U : Unfolding) (is : List ℕ) (xs : List (Option Snap)) → AllFlights U is xs → length xs ≡ length is
many_flights U [] [] a = refl
many_flights U [] (x ∷ xs) a = absurd a
many_flights U (i ∷ is) [] a = absurd a
many_flights U (i ∷ is) (x ∷ xs) a = ap suc (many_flights U is xs a.1)

pub many_numbers : (ns : List NetDevice) → length (numbers ns) ≡ length ns
many_numbers ns = length-map ns (λ (n : NetDevice). n.id)
