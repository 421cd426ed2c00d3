-- A list read along a term, as what its nodes keep: which values are left, or the place that finds none that fits.
use Rattle.std.specs.Prelude.{ℕ, suc, Bool, true, false, ◌≡◌, ◌+◌, ◌&&◌, List, [], ◌∷◌, Option, Some, None, nat_le}
use Rattle.std.specs.Prelude.{if◌then◌else◌}
use Rattle.fc_values.specs.Types.{LocalType, IntType, BoolType, PairType}
use Rattle.fc_values.specs.Values.{LocalValue, IntValue, BoolValue, PairValue}
use Rattle.fc_values.specs.BuiltinTypes.{inner}
use Rattle.fc_values.specs.Trees.{TreeExport}
use Rattle.fc_nodes.specs.Terms.{Term, Terms, Plain, Apply, Nbr, Evolve, If, Let, NoMore, More, size}
use Rattle.fc_nodes.specs.Program.{Unfolding}
use Rattle.fc_nodes.specs.Flat.{IsWellTyped, by_truth}
use Rattle.value_trees.specs.KeptLists.{kept_values}

-- the values that are left, or the first place in preorder at which there is none, or one that doesn't fit
pub data Left : Type 0 where
  Rest : List LocalValue → Left
  Off : ℕ → Left

abbrev pub and_left : Left → (List LocalValue → Left) → Left
and_left (Rest vs) f = f vs
and_left (Off p) f = Off p

-- whether a value has a type, with integers up to a ceiling
abbrev pub has_type : ℕ → LocalType → LocalValue → Bool
has_type ceiling IntType (IntValue n) = nat_le n ceiling
has_type ceiling BoolType (BoolValue b) = true
has_type ceiling (PairType s t) (PairValue a b) = has_type ceiling s a && has_type ceiling t b
has_type ceiling _ _ = false

-- the first value, if it has the type that place p keeps
abbrev pub own_left : ℕ → LocalType → ℕ → List LocalValue → (LocalValue → List LocalValue → Left) → Left
own_left ceiling s p [] f = Off p
own_left ceiling s p (v ∷ vs) f = if has_type ceiling s v then f v vs else Off p

-- the term at place p: first its own value, then those of its kids in order; in an `if` those of the condition and of
-- the branch that its own value names
abbrev mutual
  pub left_by : ℕ → ℕ → Term → List LocalValue → Left
  left_by c p (Plain t l) vs = Rest vs
  left_by c p (Apply t o xs) vs = left_by_all c (suc p) xs vs
  left_by c p (Nbr t a) vs = own_left c (inner t) p vs (λ v us. left_by c (suc p) a us)
  left_by c p (Evolve t e a b) vs =
      own_left c (inner t) p vs (λ v us. and_left (left_by c (suc p) a us) (λ ws. left_by c (suc p + size a) b ws))
  left_by c p (If t x a b) vs =
      own_left c BoolType p vs (λ v us. and_left (left_by c (suc p) x us) (λ ws.
      by_truth v (left_by c (suc p + size x) a ws) (left_by c (suc p + size x + size a) b ws)))
  left_by c p (Let t a b) vs = and_left (left_by c (suc p) a vs) (λ ws. left_by c (suc p + size a) b ws)

  pub left_by_all : ℕ → ℕ → Terms → List LocalValue → Left
  left_by_all c p NoMore vs = Rest vs
  left_by_all c p (More x xs) vs = and_left (left_by c p x vs) (λ us. left_by_all c (p + size x) xs us)

-- the first misfit of a list; with surplus values it is the number of nodes
abbrev pub surplus : ℕ → Left → Option ℕ
surplus n (Rest []) = None
surplus n (Rest (v ∷ vs)) = Some n
surplus n (Off p) = Some p

abbrev pub misfit_of : Unfolding → List LocalValue → Option ℕ
misfit_of U vs = surplus (size U.main) (left_by U.declared.ceiling 0 U.main vs)

-- the kept values of a well-typed export have no misfit
abbrev pub KeptListsFit : Unfolding → Type 0
KeptListsFit U = (e : TreeExport) → IsWellTyped U e → misfit_of U (kept_values e) ≡ None
