-- No device of a network has a number past 65,535.
use Rattle.std.proofs.Common.{◌≡◌, ℕ, ◌<◌, min, List, [], ◌∷◌, refl, subst, arith, Bool, true, false, nat_le}
use Rattle.std.proofs.lemmas.Bool.{ne_eqb, leb-true, leb-false}
use Rattle.fc_values.specs.Types.{Declarations}
use Rattle.topology.specs.Networks.{NetDevice, Network, IsNetwork, DevicesFit, numbers, lives}
use Rattle.fc_values.specs.Fields.{is_in}

past : (D : Declarations) (ds : List NetDevice) (d : ℕ) → DevicesFit D ds → 65535 < d → is_in d (numbers ds) ≡ false
past D [] d f h = refl
past D (n ∷ ns) d f h = let l = f.0 in let ih = past D ns d f.2 h in rw (ne_eqb d n.id (λ e. absurd (omega (arith, l, e)))) ih

module _ (n : Network) (net : IsNetwork n) (id m : ℕ) (e : m ≡ min id 65536) where
  pub absent : lives n m ≡ false → lives n id ≡ false
  absent h = by_test (nat_le id 65536) refl
    where
      by_test : (q : Bool) → nat_le id 65536 ≡ q → lives n id ≡ false
      by_test true t = let l = leb-true id 65536 t in let s : m ≡ id = omega arith in subst (λ (k : ℕ). lives n k ≡ false) s h
      by_test false t = let l = leb-false id 65536 t in past n.declared n.devices id net.devices (omega arith)

  pub number_is : lives n m ≡ true → m ≡ id
  number_is h = by_test (nat_le id 65535) refl
    where
      by_test : (q : Bool) → nat_le id 65535 ≡ q → m ≡ id
      by_test true t = let l = leb-true id 65535 t in omega arith
      by_test false t =
          let l = leb-false id 65535 t in
          let no : lives n m ≡ false = past n.declared n.devices m net.devices (omega arith) in
          absurd cc
