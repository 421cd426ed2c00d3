-- The copy of a device's closed neighbourhood in a network.
use Rattle.std.proofs.Common.{◌≡◌, ℕ, suc, ◌≤◌, List, [], ◌∷◌, length, refl, ◌∙◌, ap, subst, arith, Option, Some, None}
use Rattle.fc_values.specs.Fields.{Rises}
use Rattle.fc_values.specs.Trees.{TreeExport, NearCopy}
use Rattle.fc_nodes.specs.Program.{Unfolding}
use Rattle.fc_nodes.specs.Flat.{IsWellTyped}
use Rattle.value_trees.specs.Copies.{WhereSome, AllNearFit, near_devices, FitsCopy}
use Rattle.topology.specs.Networks.{Network, numbers, Lives, near, LinksFit, DevicesFit, IsNetwork}
use Rattle.topology.specs.Nearby.{neighbour_numbers}
use Rattle.topology.proofs.Lemmas.{AllNear, AllAbove, near_rises, near_fits, inputs_fit}
use Rattle.firing_core.specs.Cores.{Map, near_with, near_copies, copy_of}
use Rattle.fc_values.proofs.Rising.{rises_tail}

-- the copies of those neighbours that have an export in a table of well-typed exports
module _ (U : Unfolding) (ds : List ℕ) (d : ℕ) (table : Map TreeExport) (typed : (e : ℕ) (x : TreeExport) → table e ≡ Some x → IsWellTyped U x) where
  pub copies_fit : (ns : List (ℕ × ℕ)) → AllNear U.declared ds d ns → AllNearFit U d (near_copies table ns)
  copies_fit [] a = tt
  copies_fit (n ∷ ns) a = by_export (table n.0) refl (copies_fit ns a.1)
    where
      by_export : (o : Option TreeExport) → table n.0 ≡ o → AllNearFit U d (near_copies table ns) → AllNearFit U d (near_with n o (near_copies table ns))
      by_export None e ih = ih
      by_export (Some x) e ih = (record { other = a.0.other; above = a.0.above; below = a.0.below; export = typed n.0 x e }, ih)

  copies_above : (e : ℕ) (ns : List (ℕ × ℕ)) → AllAbove e ns → (cs : List NearCopy) → cs ≡ near_copies table ns → Rises (near_devices cs) → Rises (e ∷ near_devices cs)
  copies_above e [] a cs q r = rw q tt
  copies_above e (n ∷ ns) a cs q r = by_export (table n.0) refl (λ p. copies_above e ns a.1 cs p r)
    where
      by_export : (o : Option TreeExport) → table n.0 ≡ o → (cs ≡ near_copies table ns → Rises (e ∷ near_devices cs)) → Rises (e ∷ near_devices cs)
      by_export None p ih = ih (q ∙ ap (λ o. near_with n o (near_copies table ns)) p)
      by_export (Some x) p ih =
          let h = q ∙ ap (λ o. near_with n o (near_copies table ns)) p in
          rw h (a.0, rw h at r)

  all_above : (n : ℕ × ℕ) (ns : List (ℕ × ℕ)) → Rises (n.0 ∷ neighbour_numbers ns) → AllAbove n.0 ns
  all_above n [] r = tt
  all_above n (m ∷ ms) r = (r.0, weaker ms (all_above m ms r.1))
    where
      weaker : (ks : List (ℕ × ℕ)) → AllAbove m.0 ks → AllAbove n.0 ks
      weaker [] a = tt
      weaker (k ∷ ks) a = let l = r.0 in let h = a.0 in (omega arith, weaker ks a.1)

  pub copies_rise : (ns : List (ℕ × ℕ)) → Rises (neighbour_numbers ns) → Rises (near_devices (near_copies table ns))
  copies_rise [] r = tt
  copies_rise (n ∷ ns) r = by_export (table n.0) (copies_rise ns (rises_tail n.0 (neighbour_numbers ns) r))
    where
      by_export : (o : Option TreeExport) → Rises (near_devices (near_copies table ns)) → Rises (near_devices (near_with n o (near_copies table ns)))
      by_export None ih = ih
      by_export (Some x) ih = copies_above n.0 ns (all_above n ns r) (near_copies table ns) refl ih

  pub copies_few : (ns : List (ℕ × ℕ)) → length (near_copies table ns) ≤ length ns
  copies_few [] = omega arith
  copies_few (n ∷ ns) = by_export (table n.0) (copies_few ns)
    where
      by_export : (o : Option TreeExport) → length (near_copies table ns) ≤ length ns → length (near_with n o (near_copies table ns)) ≤ suc (length ns)
      by_export None ih = omega arith
      by_export (Some x) ih = omega arith

where_typed : (U : Unfolding) (o : Option TreeExport) → ((x : TreeExport) → o ≡ Some x → IsWellTyped U x) → WhereSome (IsWellTyped U) o
where_typed U None h = tt
where_typed U (Some x) h = h x refl

-- the copy that a begin takes from a table of well-typed exports fits
pub copy_fits : (U : Unfolding) (n : Network) (table : Map TreeExport) (d : ℕ) → IsNetwork n → n.declared ≡ U.declared → Lives n d
    → ((e : ℕ) (x : TreeExport) → table e ≡ Some x → IsWellTyped U x) → FitsCopy U (copy_of n table d)
copy_fits U n table d net same there typed =
    let f : LinksFit U.declared (numbers n.devices) n.links = subst (λ D. LinksFit D (numbers n.devices) n.links) same net.links in
    let g : DevicesFit U.declared n.devices = subst (λ D. DevicesFit D n.devices) same net.devices in
    let few = copies_few U (numbers n.devices) d table typed (near n d) in
    let degree = net.degree d in
    record {
      inputs = inputs_fit U.declared n.devices d g there;
      own = where_typed U (table d) (typed d);
      near = copies_fit U (numbers n.devices) d table typed (near n d) (near_fits U.declared (numbers n.devices) d n.links f);
      rising = copies_rise U (numbers n.devices) d table typed (near n d) (near_rises U.declared (numbers n.devices) d n.links f);
      few = omega arith;
    }
