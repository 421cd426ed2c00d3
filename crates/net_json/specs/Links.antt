-- The links of a scene.
use Rattle.std.specs.Prelude.{ℕ, List, not, Option, None, option_map, option_and_then}
use Rattle.serde_json.specs.Data.{Data, Items, no_items, item}
use Rattle.serde_json.specs.Find.{as_array}
use Rattle.topology.specs.Networks.{Network}
use Rattle.topology.specs.Changes.{are_linked, link_fault, linked}
use Rattle.net_json.specs.Judging.{JudgedScene, Accepted, Misshaped, if_accepted, given, require, no_fault, in_turn}
use Rattle.net_json.specs.Reading.{small}

-- two devices and a weight: an array of three whole numbers of at most 1,000,000
abbrev pub LinkTriple : Type 0
LinkTriple = ℕ × ℕ × ℕ

abbrev pub three_numbers : Items → Option LinkTriple
three_numbers (item a (item b (item w no_items))) =
    option_and_then (λ x. option_and_then (λ y. option_map (λ z. (x, y, z)) (small w)) (small b)) (small a)
three_numbers _ = None

abbrev pub link_of : Data → Option LinkTriple
link_of d = option_and_then three_numbers (as_array d)

-- A link beside those before, which are all links of the network so far: its form, then that its pair stood in none of
-- them, in either order, then what networks ask of a link.
abbrev pub link_judged : Network → List ℕ → Data → JudgedScene Network
link_judged n path d =
    if_accepted (given (Misshaped path) (link_of d)) (λ l.
    require (not (are_linked n l.0 l.1)) (Misshaped path)
    (no_fault (link_fault n l.0 l.1 l.2) path (Accepted (linked n l.0 l.1 l.2))))

abbrev pub links_judged : List ℕ → Network → Items → JudgedScene Network
links_judged path n ds = in_turn link_judged path n 0 ds
