-- What an analysis says of the nodes of a term, where it is in the fragment.
use Rattle.std.specs.Prelude.{ℕ, suc, ◌≡◌, ◌≤◌, ◌+◌, length}
use Rattle.fc_values.specs.BuiltinTypes.{inner}
use Rattle.fc_nodes.specs.Terms.{Leaf, Variable, Term, Terms, Plain, Apply, Nbr, Evolve, If, Let, NoMore, More, size}
use Rattle.topology.specs.Networks.{Network}
use Rattle.interval_facts.specs.Ranges.{RangeValue}
use Rattle.growth_facts.specs.Leads.{greatest_integer}
use Rattle.fragment_check.specs.declared.kinds.Pattern.{Pattern}
use Rattle.fragment_check.specs.Shapes.{HasPattern}
use Rattle.fragment_check.specs.Verdicts.{added_levels}

-- what is said of a program by places: of each node its range, of each binder the range of its variable, of each `rep`
-- and `share` its pattern and how many levels it adds to that of its body, for a number of devices
pub record Analysis : Type 0 where
  pub devices : ℕ
  pub ranges : ℕ → RangeValue
  pub bounds : ℕ → RangeValue
  pub pattern : ℕ → Pattern
  pub stages : ℕ → ℕ

-- the analysis is for this network's number of devices, and no range goes past the network's ceiling
pub record IsFor (A : Analysis) (N : Network) : Type 0 where
  pub devices : A.devices ≡ length N.devices
  pub ends : (p : ℕ) → greatest_integer (A.ranges p) ≤ N.declared.ceiling

-- a variable has the range of its binder
abbrev pub LeafInFragment : Analysis → ℕ → Leaf → Type 0
LeafInFragment A p (Variable q) = A.ranges p ≡ A.bounds q
LeafInFragment A p _ = Unit {0}

-- each `rep` and `share` outside the first values has its pattern
abbrev mutual
  pub TermInFragment : Analysis → ℕ → ℕ → Term → Type 0
  TermInFragment A m p (Plain t l) = LeafInFragment A p l
  TermInFragment A m p (Apply t o xs) = TermsInFragment A m (suc p) xs
  TermInFragment A m p (Nbr t a) = TermInFragment A m (suc p) a
  TermInFragment A m p (Evolve t e a u) = HasPattern m A.ranges e p (suc p + size a) (inner t) u (A.pattern p)
      × (A.stages p ≡ added_levels A.devices A.bounds e (A.pattern p)) × TermInFragment A m (suc p + size a) u
  TermInFragment A m p (If t c u w) =
      TermInFragment A m (suc p) c × TermInFragment A m (suc p + size c) u
      × TermInFragment A m (suc p + size c + size u) w
  TermInFragment A m p (Let t a u) = TermInFragment A m (suc p) a × TermInFragment A m (suc p + size a) u

  pub TermsInFragment : Analysis → ℕ → ℕ → Terms → Type 0
  TermsInFragment A m p NoMore = Unit {0}
  TermsInFragment A m p (More t ts) = TermInFragment A m p t × TermsInFragment A m (p + size t) ts
