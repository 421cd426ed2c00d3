-- Places of a program at which terms stand.
use Rattle.std.specs.Prelude.{ℕ, ◌<◌, List, [], ◌∷◌, length}
use Rattle.fc_nodes.specs.declared.nodes.Node.{Node}
use Rattle.fc_nodes.specs.Terms.{term_at, Laid}

-- a place at which a term stands
pub record StandsAt (ns : List Node) (p : ℕ) : Type 0 where
  pub within : p < length ns
  pub laid : Laid ns p (term_at ns p)

-- places at which terms stand, all after a place
abbrev pub StandAfter : List Node → ℕ → List ℕ → Type 0
StandAfter ns p [] = Unit {0}
StandAfter ns p (k ∷ ks) = (p < k) × StandsAt ns k × StandAfter ns p ks
