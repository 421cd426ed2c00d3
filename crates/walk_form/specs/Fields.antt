-- The field of a term by itself: what it has at each device where no binder is in scope.
use Rattle.std.specs.Prelude.{ℕ, ◌≡◌, List, map}
use Rattle.fc_values.specs.Fields.{Entries}
use Rattle.fc_values.specs.Values.{LocalValue, IntValue, BoolValue, PairValue}
use Rattle.fc_nodes.specs.Terms.{Term}
use Rattle.topology.specs.Networks.{Network, Lives, lives, numbers}
use Rattle.interval_facts.specs.Solutions.{Solves, no_binders, local_map}

-- a field solves the term at a place over all devices
abbrev pub SolvesAt : Network → ℕ → Term → (ℕ → LocalValue) → Type 0
SolvesAt N p t F = Solves N p t (lives N) no_binders (local_map F)

-- exactly one field solves it: two that do agree at each device
pub record HasOneField (N : Network) (p : ℕ) (t : Term) : Type 0 where
  pub field : ℕ → LocalValue
  pub solves : SolvesAt N p t field
  pub only : (G : ℕ → LocalValue) → SolvesAt N p t G → (d : ℕ) → Lives N d → G d ≡ field d

abbrev pub as_integer : ℕ × ℕ → ℕ × LocalValue
as_integer x = (x.0, IntValue x.1)

-- these are the integers that the one field of a term has at all devices, rising
pub record IsFieldAt (N : Network) (p : ℕ) (t : Term) (xs : List (ℕ × ℕ)) : Type 0 where
  pub one : HasOneField N p t
  pub values : map as_integer xs ≡ map (λ (d : ℕ). (d, one.field d)) (numbers N.devices)

-- the integer of a value; 0 where it is none
abbrev pub integer_in : LocalValue → ℕ
integer_in (IntValue n) = n
integer_in (BoolValue b) = 0
integer_in (PairValue a b) = 0

abbrev pub integers_in : Entries → List (ℕ × ℕ)
integers_in es = map (λ (e : ℕ × LocalValue). (e.0, integer_in e.1)) es
