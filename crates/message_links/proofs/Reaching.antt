-- Crates above cite this module: a device reaches its neighbours, and they reach it; what reaches a device is there.
use Rattle.std.proofs.Common.{◌≡◌, ℕ, List, [], ◌∷◌, refl, sym, ◌∙◌, ap, arith, Bool, true, false, ◌&&◌, ◌||◌, nat_eq}
use Rattle.std.specs.Prelude.{min, max}
use Rattle.std.proofs.lemmas.Bool.{eqb-true}
use Rattle.fc_values.specs.Types.{Declarations}
use Rattle.fc_values.specs.Fields.{is_in}
use Rattle.topology.specs.Networks.{Network, IsNetwork, Lives, numbers, near}
use Rattle.topology.specs.Nearby.{neighbour_numbers}
use Rattle.topology.specs.Changes.{has_pair}
use Rattle.topology.proofs.Lemmas.{AllNear, near_fits, near_linked}
use Rattle.message_links.specs.MailCores.{Reaches, reaches}

pub both_true : (a b : Bool) → (a && b) ≡ true → (a ≡ true) × (b ≡ true)
both_true true true h = (refl, refl)
both_true true false h = absurd cc
both_true false b h = absurd cc

pub near_both : (N : Network) (a b : ℕ) → IsNetwork N → is_in b (neighbour_numbers (near N a)) ≡ reaches N a b
near_both N a b net =
    near_linked N.declared (numbers N.devices) a b N.links net.links
    ∙ ap (λ x. has_pair x (max a b) N.links) (let k : min a b ≡ min b a = omega arith in k)
    ∙ ap (λ x. has_pair (min b a) x N.links) (let k : max a b ≡ max b a = omega arith in k)
    ∙ sym (near_linked N.declared (numbers N.devices) b a N.links net.links)

near_there : (D : Declarations) (ds : List ℕ) (a b : ℕ) (ns : List (ℕ × ℕ)) → AllNear D ds b ns → is_in a (neighbour_numbers ns) ≡ true → is_in a ds ≡ true
near_there D ds a b [] all h = absurd cc
near_there D ds a b (n ∷ ns) all h = by_test (nat_eq a n.0) refl h (near_there D ds a b ns all.1)
  where
    by_test : (t : Bool) → nat_eq a n.0 ≡ t → (t || is_in a (neighbour_numbers ns)) ≡ true → (is_in a (neighbour_numbers ns) ≡ true → is_in a ds ≡ true) → is_in a ds ≡ true
    by_test true q i ih = let e = eqb-true a n.0 q in rw e all.0.there
    by_test false q i ih = ih i

pub sender : (N : Network) → IsNetwork N → (a b : ℕ) → Reaches N a b → Lives N a
sender N net a b h = near_there N.declared (numbers N.devices) a b (near N b) (near_fits N.declared (numbers N.devices) b N.links net.links) h
