-- Which devices and pairs a scene and lines of changes bring, wherever these lines stand.
use Rattle.std.specs.Prelude.{ℕ, Bool, false, ◌&&◌, ◌||◌, min, max, nat_eq, if◌then◌else◌}
use Rattle.std.specs.Prelude.{List, [], ◌∷◌, Option, Some, None}
use Rattle.fc_values.specs.Fields.{is_in, with_number}
use Rattle.topology.specs.Networks.{Network, numbers, lives, near}
use Rattle.topology.specs.Changes.{are_linked}
use Rattle.changes.specs.Changes.{ChangeValue, SetChange, LinkChange, UnlinkChange, LeaveChange, JoinChange}

-- the lines that have the form of one
abbrev pub said_first : Option ChangeValue → List ChangeValue → List ChangeValue
said_first None cs = cs
said_first (Some c) cs = c ∷ cs

abbrev pub said : List (ℕ × Option ChangeValue) → List ChangeValue
said [] = []
said (l ∷ ls) = said_first l.1 (said ls)

-- ---- what one line says of a device or a pair

abbrev pub joins_device : ℕ → ChangeValue → Bool
joins_device d (SetChange e i p) = false
joins_device d (LinkChange a b w) = false
joins_device d (UnlinkChange a b) = false
joins_device d (LeaveChange e) = false
joins_device d (JoinChange e ps) = nat_eq d e

abbrev pub leaves_device : ℕ → ChangeValue → Bool
leaves_device d (SetChange e i p) = false
leaves_device d (LinkChange a b w) = false
leaves_device d (UnlinkChange a b) = false
leaves_device d (LeaveChange e) = nat_eq d e
leaves_device d (JoinChange e ps) = false

-- two devices are those of a pair, in one order or the other
abbrev pub are_pair : ℕ → ℕ → ℕ → ℕ → Bool
are_pair a b x y = nat_eq (min a b) (min x y) && nat_eq (max a b) (max x y)

abbrev pub links_pair : ℕ → ℕ → ChangeValue → Bool
links_pair x y (SetChange e i p) = false
links_pair x y (LinkChange a b w) = are_pair a b x y
links_pair x y (UnlinkChange a b) = false
links_pair x y (LeaveChange e) = false
links_pair x y (JoinChange e ps) = false

abbrev pub unlinks_pair : ℕ → ℕ → ChangeValue → Bool
unlinks_pair x y (SetChange e i p) = false
unlinks_pair x y (LinkChange a b w) = false
unlinks_pair x y (UnlinkChange a b) = are_pair a b x y
unlinks_pair x y (LeaveChange e) = false
unlinks_pair x y (JoinChange e ps) = false

-- whether some line says it
abbrev pub some_line : (ChangeValue → Bool) → List ChangeValue → Bool
some_line says [] = false
some_line says (c ∷ cs) = says c || some_line says cs

-- ---- at hand

abbrev pub at_hand : Network → List ChangeValue → ℕ → Bool
at_hand n cs d = lives n d || some_line (joins_device d) cs

abbrev pub pair_at_hand : Network → List ChangeValue → ℕ → ℕ → Bool
pair_at_hand n cs a b = are_linked n a b || some_line (links_pair a b) cs

-- ---- counts, in which a device or a pair counts once

abbrev pub with_new : ℕ → List ℕ → List ℕ
with_new d ds = if is_in d ds then ds else with_number d ds

-- the devices of the scene and of lines of the form of `join`
abbrev pub and_joined : ChangeValue → List ℕ → List ℕ
and_joined (SetChange e i p) ds = ds
and_joined (LinkChange a b w) ds = ds
and_joined (UnlinkChange a b) ds = ds
and_joined (LeaveChange e) ds = ds
and_joined (JoinChange e ps) ds = with_new e ds

abbrev pub devices_at_hand : Network → List ChangeValue → List ℕ
devices_at_hand n [] = numbers n.devices
devices_at_hand n (c ∷ cs) = and_joined c (devices_at_hand n cs)

-- those that may be linked to a device
abbrev pub other_end : ℕ → ℕ → ℕ → List ℕ → List ℕ
other_end d a b ds = if nat_eq a d then with_new b ds else (if nat_eq b d then with_new a ds else ds)

abbrev pub and_linked : ℕ → ChangeValue → List ℕ → List ℕ
and_linked d (SetChange e i p) ds = ds
and_linked d (LinkChange a b w) ds = other_end d a b ds
and_linked d (UnlinkChange a b) ds = ds
and_linked d (LeaveChange e) ds = ds
and_linked d (JoinChange e ps) ds = ds

abbrev pub first_of : List (ℕ × ℕ) → List ℕ
first_of [] = []
first_of (x ∷ xs) = x.0 ∷ first_of xs

abbrev pub partners : Network → List ChangeValue → ℕ → List ℕ
partners n [] d = first_of (near n d)
partners n (c ∷ cs) d = and_linked d c (partners n cs d)
