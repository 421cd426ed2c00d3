-- What the code keeps of the devices and pairs that lines bring.
use Rattle.std.specs.Prelude.{ℕ, Bool, ◌≡◌, ◌≤◌, ◌+◌, ◌&&◌, ◌||◌, min, max, nat_eq, zero, suc, List, [], ◌∷◌, length}
use Rattle.std.specs.Prelude.{Option, None}
use Rattle.std.specs.Option.{unwrap_or}
use Rattle.std.specs.HashMap as hash
use Rattle.std.specs.HashSet as bag
use Rattle.std.specs.HashSet.{hash_set_len}
use Rattle.topology.specs.Networks.{Network, lives, near}
use Rattle.topology.specs.Changes.{are_linked}
use Rattle.changes.specs.declared.hands.Hand.{Hand}
use Rattle.changes.specs.declared.hands.Hands.{Hands}
use Rattle.changes.specs.Changes.{ChangeValue}
use Rattle.changes.specs.declared.types.ChangeLine.{ChangeLine}
use Rattle.changes.specs.Code.{line_in}
use Rattle.changes.specs.Hand.{at_hand, pair_at_hand, devices_at_hand, partners}

abbrev pub same_pair : ℕ × ℕ → ℕ × ℕ → Bool
same_pair x y = nat_eq x.0 y.0 && nat_eq x.1 y.1

-- how many pairs that the scene doesn't link a device is in
abbrev pub more_partners : Hand → ℕ → ℕ
more_partners h d = unwrap_or (hash.get nat_eq h.partners d) 0

-- the line at a place
abbrev pub line_at : ℕ → List ChangeLine → ℕ × Option ChangeValue
line_at i [] = (0, None)
line_at zero (l ∷ ls) = line_in l
line_at (suc i) (l ∷ ls) = line_at i ls

-- these are the devices and pairs that lines bring beside the scene
pub record IsHandOf (n : Network) (cs : List ChangeValue) (h : Hand) : Type 0 where
  pub devices : (d : ℕ) → (lives n d || bag.contains nat_eq h.joined d) ≡ at_hand n cs d
  pub count : length n.devices + hash_set_len h.joined ≡ length (devices_at_hand n cs)
  pub pairs : (a b : ℕ)
      → (are_linked n a b || bag.contains same_pair h.linked (min a b, max a b)) ≡ pair_at_hand n cs a b
  pub partners : (d : ℕ) → length (near n d) + more_partners h d ≡ length (partners n cs d)
  pub few : (d : ℕ) → more_partners h d ≤ length cs

-- all lines, and those before the one that is judged, the last of them first
pub record Told : Type 0 where
  pub all : List ChangeValue
  pub before : List ChangeValue

abbrev pub told_of : (all before : List ChangeValue) → Told
told_of all before = record { all = all; before = before }

pub record AreHandsOf (n : Network) (told : Told) (h : Hands) : Type 0 where
  pub all : IsHandOf n told.all h.all
  pub before : IsHandOf n told.before h.before
