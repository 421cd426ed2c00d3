-- What the laws of networks say of one network's neighbours.
use Rattle.std.proofs.Common.{◌≢◌, ℕ, ◌≤◌}
use Rattle.std.specs.List.{Contains}
use Rattle.fc_values.specs.Fields.{Rises}
use Rattle.topology.specs.Networks.{Network, IsNetwork, Lives, near}
use Rattle.topology.specs.Nearby.{neighbour_numbers}
use Rattle.walk_form.proofs.Costing.{Neighbours}

pub neighbours : (N : Network) → IsNetwork N
    → ((n : Network) (d : ℕ) → IsNetwork n → Rises (neighbour_numbers (near n d)))
    → ((n : Network) (d e w : ℕ) → IsNetwork n → Contains (near n d) (e, w) → Lives n e)
    → ((n : Network) (d e w : ℕ) → IsNetwork n → Contains (near n d) (e, w) → e ≢ d)
    → ((n : Network) (d e w : ℕ) → IsNetwork n → Contains (near n d) (e, w) → n.declared.least ≤ w)
    → ((n : Network) (d e w : ℕ) → IsNetwork n → Contains (near n d) (e, w) → w ≤ n.declared.greatest)
    → ((n : Network) (d e w : ℕ) → IsNetwork n → Contains (near n d) (e, w) → Contains (near n e) (d, w)) → Neighbours N
neighbours N net rising there other above below both = record {
  linked = record { rising = λ d. rising N d net; there = λ d e w. there N d e w net; both = λ d e w. both N d e w net };
  other = λ d e w. other N d e w net;
  least = λ d e w. above N d e w net;
  most = λ d e w. below N d e w net;
}
