-- Where no line is refused, none has a fault.
use Rattle.std.proofs.Common.{ℕ, ◌≡◌, Bool, true, false, not, nat_eq, List, [], ◌∷◌, refl, sym, ap, ◌∙◌, inl, inr, Some, None}
use Rattle.std.specs.Prelude.{◌⊎◌, Option, option_map}
use Rattle.std.specs.Option.{option_or}
use Rattle.topology.specs.declared.types.NetFault.{NetFault}
use Rattle.topology.specs.declared.types.NetFault.TheVariants as net
use Rattle.topology.specs.Inputs.{or_fault}
use Rattle.topology.specs.Networks.{Network, lives}
use Rattle.topology.specs.Changes.{first_fault}
use Rattle.changes.specs.declared.types.ChangeFault.TheVariants as line
use Rattle.changes.specs.declared.types.Possible.{Possible}
use Rattle.changes.specs.declared.types.Weights.{Weights}
use Rattle.changes.specs.Changes.{ChangeValue, LinkChange, LeaveChange, JoinChange}
use Rattle.changes.specs.Hand.{said, said_first, at_hand}
use Rattle.changes.specs.Faults.{change_fault, fault_of_line, numbered_fault, first_from, NoneRefused}
use Rattle.change_envelopes.specs.Laws.{IsSaid}

-- a line has no fault behind some lines
abbrev pub IsAccepted : Network → List ChangeValue → ChangeValue → Type 0
IsAccepted n all c = (before : List ChangeValue) × (change_fault n all before c ≡ None)

module _ (n : Network) (all : List ChangeValue) where
  accepted_from : (before : List ChangeValue) (ls : List (ℕ × Option ChangeValue)) (c : ChangeValue) → first_from n all before ls ≡ None → IsSaid c (said ls) → IsAccepted n all c
  accepted_from before [] c h s = absurd s
  accepted_from before (l ∷ ls) c h s = by_line l.1 h s (λ next g t. accepted_from next ls c g t)
    where
      by_line : (o : Option ChangeValue) → option_or (numbered_fault l.0 (fault_of_line n all before o)) (first_from n all (said_first o before) ls) ≡ None → IsSaid c (said_first o (said ls))
          → ((next : List ChangeValue) → first_from n all next ls ≡ None → IsSaid c (said ls) → IsAccepted n all c) → IsAccepted n all c
      by_line None g s later = absurd cc
      by_line (Some x) g s later = by_fault (change_fault n all before x) refl g
        where
          by_fault : (f : Option NetFault) → change_fault n all before x ≡ f → option_or (numbered_fault l.0 (option_map line.Net f)) (first_from n all (x ∷ before) ls) ≡ None → IsAccepted n all c
          by_fault (Some f) q g = absurd cc
          by_fault None q g = by_place s
            where
              by_place : ((x ≡ c) ⊎ IsSaid c (said ls)) → IsAccepted n all c
              by_place (inl e) = (before, ap (change_fault n all before) (sym e) ∙ q)
              by_place (inr t) = later (x ∷ before) g t

pub accepted : (n : Network) (ls : List (ℕ × Option ChangeValue)) (c : ChangeValue) → NoneRefused n ls → IsSaid c (said ls) → IsAccepted n (said ls) c
accepted n ls c h s = accepted_from n (said ls) [] ls c h s

-- two devices that are linked are different
pub two_devices : (n : Network) (all : List ChangeValue) (a b : ℕ) (w : Weights) → IsAccepted n all (LinkChange a b w) → nat_eq a b ≡ false
two_devices n all a b w (before, h) = by_tests _ (nat_eq a b) refl _ _ h
  where
    by_tests : (x t : Bool) → nat_eq a b ≡ t → (y z : Bool) → first_fault ((x, net.NoDevice) ∷ (t, net.SelfLink) ∷ (y, net.Weight) ∷ (z, net.Degree) ∷ []) ≡ None → nat_eq a b ≡ false
    by_tests true t e y z h = absurd cc
    by_tests false true e y z h = absurd cc
    by_tests false false e y z h = e

-- a device that a line has come isn't in the scene
pub not_there : (n : Network) (all : List ChangeValue) (d : ℕ) (ps : List Possible) → IsAccepted n all (JoinChange d ps) → lives n d ≡ false
not_there n all d ps (before, h) = by_test (lives n d) refl _ _ _ h
  where
    by_test : (t : Bool) → lives n d ≡ t → (y z : Bool) (rest : Option NetFault) → or_fault (first_fault ((t, net.Twice) ∷ (y, net.Devices) ∷ (z, net.NoInput) ∷ [])) rest ≡ None → lives n d ≡ false
    by_test true e y z rest h = absurd cc
    by_test false e y z rest h = e

-- a device that may leave is at hand
pub leaver_there : (n : Network) (all : List ChangeValue) (d : ℕ) → IsAccepted n all (LeaveChange d) → at_hand n all d ≡ true
leaver_there n all d (before, h) = by_test (at_hand n all d) refl _ h
  where
    by_test : (t : Bool) → at_hand n all d ≡ t → (y : Bool) → first_fault ((not t, net.NoDevice) ∷ (y, net.Last) ∷ []) ≡ None → at_hand n all d ≡ true
    by_test true e y h = e
    by_test false e y h = absurd cc
