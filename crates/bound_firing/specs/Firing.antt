-- The firing of bounds: the bound of the value of a term, and that of its tree, out of what seats hold.
use Rattle.std.specs.Prelude.{ℕ, suc, Bool, true, false, ◌≡◌, ◌+◌, List, [], ◌∷◌, min, Option, Some, None, nat_eq}
use Rattle.std.specs.Prelude.{slice_get, if◌then◌else◌}
use Rattle.fc_values.specs.Values.{LocalValue}
use Rattle.fc_values.specs.Fields.{AnyValue}
use Rattle.fc_values.specs.Trees.{Tree}
use Rattle.alignment.specs.Environments.{Env}
use Rattle.fc_nodes.specs.Terms.{Leaf, Literal, Variable, Sense, Uid, NbrLink, Evolution, ByRep, ByShare}
use Rattle.fc_nodes.specs.Terms.{Term, Terms, Plain, Apply, Nbr, Evolve, If, Let, NoMore, More, size}
use Rattle.alignment.specs.Scopes.{Vars}
use Rattle.device_eval.specs.Evaluation.{Situation}
use Rattle.device_eval.specs.Rules.{Evaluates}
use Rattle.value_bounds.specs.BoundValues.{BoundValue, Between, Unbounded, Lies, exactly, either}
use Rattle.value_bounds.specs.BoundBuiltins.{AnyBound, BoundLocal, BoundField, BoundAny, LiesIn, builtin_bound}
use Rattle.bound_firing.specs.BoundTrees.{BoundTree, BoundTrees, Hold, NoneBelow, Below, bare, blank, held, TreeLies}
use Rattle.bound_firing.specs.Seats.{Seats, Sees, child_seats, branch_seats, may_be, maybes, cut_to, seat_held}
use Rattle.bound_firing.specs.Seats.{seat_weight, seat_field}

-- the bounds of the binders in scope, by their places; the nearest counts
abbrev pub BoundVars : Type 0
BoundVars = List (ℕ × AnyBound)

abbrev pub variable_bound : ℕ → BoundVars → AnyBound
variable_bound n [] = BoundAny
variable_bound n (v ∷ vs) = if nat_eq v.0 n then v.1 else variable_bound n vs

abbrev pub VarsLie : ℕ → BoundVars → Vars → Type 0
VarsLie d [] [] = Unit {0}
VarsLie d [] (v ∷ vs) = ⊥
VarsLie d (b ∷ bs) [] = ⊥
VarsLie d (b ∷ bs) (v ∷ vs) = (b.0 ≡ v.0) × LiesIn d b.1 v.1 × VarsLie d bs vs

-- a bound of a local value; a field has none
abbrev pub local_part : AnyBound → BoundValue
local_part (BoundLocal b) = b
local_part (BoundField own es) = Unbounded
local_part BoundAny = Unbounded

-- values lie in bounds, one by one
abbrev pub InputsLie : List BoundValue → List LocalValue → Type 0
InputsLie [] [] = Unit {0}
InputsLie [] (v ∷ vs) = ⊥
InputsLie (b ∷ bs) [] = ⊥
InputsLie (b ∷ bs) (v ∷ vs) = Lies b v × InputsLie bs vs

-- where a firing of bounds happens: as a situation, with bounds of the inputs
pub record BoundSituation : Type 0 where
  pub device : ℕ
  pub ceiling : ℕ
  pub least : ℕ
  pub inputs : List BoundValue

-- that of a situation, with these bounds of its inputs
abbrev pub bounding : Situation → List BoundValue → BoundSituation
bounding S ins = record { device = S.device; ceiling = S.ceiling; least = S.least; inputs = ins }

abbrev pub input_bound : Option BoundValue → BoundValue
input_bound None = Unbounded
input_bound (Some b) = b

abbrev pub leaf_bound : BoundSituation → Leaf → BoundVars → Seats → AnyBound
leaf_bound S (Literal v) vars seats = BoundLocal (exactly v)
leaf_bound S (Variable n) vars seats = cut_to (maybes seats.near) (variable_bound n vars)
leaf_bound S (Sense i) vars seats = BoundLocal (input_bound (slice_get S.inputs i))
leaf_bound S Uid vars seats = BoundLocal (Between (min S.device S.ceiling) (min S.device S.ceiling))
leaf_bound S NbrLink vars seats = seat_field (Between S.least S.least) seat_weight seats.near

-- what the own tree keeps: surely, maybe, or the first value
abbrev pub own_bound : Option (Bool × BoundTree) → BoundValue → BoundValue
own_bound None first = first
own_bound (Some o) first = if o.0 then held o.1 else either first (held o.1)

-- what the variable of a `rep` or `share` starts from
abbrev pub evolving_bound : Evolution → Seats → BoundValue → AnyBound
evolving_bound ByRep seats first = BoundLocal (own_bound seats.own first)
evolving_bound ByShare seats first = seat_field (own_bound seats.own first) seat_held seats.near

-- the bound of one of two values, by which of them may be there; nothing is said if neither may
abbrev pub either_bound : Bool → Bool → AnyBound → AnyBound → AnyBound
either_bound true true (BoundLocal a) (BoundLocal b) = BoundLocal (either a b)
either_bound true true (BoundLocal a) (BoundField own es) = BoundAny
either_bound true true (BoundLocal a) BoundAny = BoundAny
either_bound true true (BoundField own es) b = BoundAny
either_bound true true BoundAny b = BoundAny
either_bound true false a b = a
either_bound false true a b = b
either_bound false false a b = BoundAny

abbrev pub if_taken : Bool → Term → BoundTree → BoundTree
if_taken true t B = B
if_taken false t B = blank t

-- the outcome of a term: bounds of its value and of its tree. The outcome of several alike
abbrev pub BoundOutcome : Type 0
BoundOutcome = AnyBound × BoundTree

abbrev pub BoundOutcomes : Type 0
BoundOutcomes = List AnyBound × BoundTrees

abbrev pub of_arguments : (List AnyBound → AnyBound) → BoundOutcomes → BoundOutcome
of_arguments f rs = (f rs.0, Hold Unbounded rs.1)

abbrev pub one_before : BoundOutcome → BoundOutcomes → BoundOutcomes
one_before r rs = (r.0 ∷ rs.0, Below r.1 rs.1)

abbrev pub of_nbr : Seats → BoundOutcome → BoundOutcome
of_nbr seats r =
    (seat_field (local_part r.0) seat_held seats.near, Hold (local_part r.0) (Below r.1 NoneBelow))

abbrev pub of_evolve : BoundOutcome → (AnyBound → BoundOutcome) → (BoundValue → AnyBound) → BoundOutcome
of_evolve r f x = (
  BoundLocal (local_part (f (x (local_part r.0))).0),
  Hold (local_part (f (x (local_part r.0))).0) (Below r.1 (Below (f (x (local_part r.0))).1 NoneBelow)),
)

abbrev pub of_if : Term → Term → BoundOutcome → BoundOutcome → BoundOutcome → BoundOutcome
of_if u w c a b = (
  either_bound (may_be true (local_part c.0)) (may_be false (local_part c.0)) a.0 b.0,
  Hold (local_part c.0) (Below c.1 (Below (if_taken (may_be true (local_part c.0)) u a.1)
      (Below (if_taken (may_be false (local_part c.0)) w b.1) NoneBelow))),
)

abbrev pub of_let : BoundOutcome → (AnyBound → BoundOutcome) → BoundOutcome
of_let r f = ((f r.0).0, Hold Unbounded (Below r.1 (Below (f r.0).1 NoneBelow)))

-- the outcome of a term whose root stands at place p
abbrev mutual
  pub bound_of : BoundSituation → ℕ → Term → BoundVars → Seats → BoundOutcome
  bound_of S p (Plain t l) vars seats = (leaf_bound S l vars seats, bare)
  bound_of S p (Apply t o xs) vars seats =
      of_arguments (builtin_bound o S.ceiling S.device) (bounds_of S (suc p) 0 xs vars seats)
  bound_of S p (Nbr t a) vars seats = of_nbr seats (bound_of S (suc p) a vars (child_seats 0 seats))
  bound_of S p (Evolve t e a b) vars seats = of_evolve (bound_of S (suc p) a vars (child_seats 0 seats))
      (λ x. bound_of S (suc p + size a) b ((p, x) ∷ vars) (child_seats 1 seats)) (evolving_bound e seats)
  bound_of S p (If t c a b) vars seats = of_if a b (bound_of S (suc p) c vars (child_seats 0 seats))
      (bound_of S (suc p + size c) a vars (child_seats 1 (branch_seats true seats)))
      (bound_of S (suc p + size c + size a) b vars (child_seats 2 (branch_seats false seats)))
  bound_of S p (Let t a b) vars seats = of_let (bound_of S (suc p) a vars (child_seats 0 seats))
      (λ x. bound_of S (suc p + size a) b ((p, x) ∷ vars) (child_seats 1 seats))

  pub bounds_of : BoundSituation → ℕ → ℕ → Terms → BoundVars → Seats → BoundOutcomes
  bounds_of S p i NoMore vars seats = ([], NoneBelow)
  bounds_of S p i (More x xs) vars seats =
      one_before (bound_of S p x vars (child_seats i seats)) (bounds_of S (p + size x) (suc i) xs vars seats)

-- ---- the law of firings: what is seen by seats fires to what lies in the bound

pub record Lands (S : Situation) (ins : List BoundValue) (p : ℕ) (t : Term) (vars : BoundVars) (seats : Seats)
    (v : AnyValue) (tree : Tree) : Type 0 where
  pub lies : LiesIn S.device (bound_of (bounding S ins) p t vars seats).0 v
  pub kept : TreeLies t (bound_of (bounding S ins) p t vars seats).1 tree

abbrev pub FiringsLand : Type 0
FiringsLand = (S : Situation) (ins : List BoundValue) (p : ℕ) (t : Term) (vars : Vars) (env : Env) (v : AnyValue)
    (tree : Tree) (bounds : BoundVars) (seats : Seats) → InputsLie ins S.inputs → VarsLie S.device bounds vars
    → Sees (TreeLies t) S.device seats env → Evaluates S p t vars env v tree → Lands S ins p t bounds seats v tree
