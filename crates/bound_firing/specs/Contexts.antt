-- What the contexts, scopes and sights of code stand for.
use Rattle.std.specs.Prelude.{ℕ, Bool, ◌≡◌, List, [], ◌∷◌, Option, Some, None, option_map, slice_set}
use Rattle.fc_values.specs.Types.{type_of}
use Rattle.fc_nodes.specs.declared.nodes.Node.{Node}
use Rattle.fc_nodes.specs.Terms.{Evolution, ByRep, ByShare, Sort}
use Rattle.value_bounds.specs.declared.bounds.LocalBound.{LocalBound}
use Rattle.value_bounds.specs.declared.bounds.Bound.{Bound}
use Rattle.value_bounds.specs.declared.bounds.BoundRef.{BoundRef}
use Rattle.value_bounds.specs.BoundBuiltins.{AnyBound, BoundLocal, BoundField, builtin_bound}
use Rattle.value_bounds.specs.References.{local_bounds_in, any_bound_in, any_bounds_in}
use Rattle.value_bounds.specs.References.{lent_bound_in}
use Rattle.fc_values.specs.declared.builtins.Builtin.{Builtin}
use Rattle.bound_firing.specs.declared.arguments.Argument.{Argument}
use Rattle.bound_firing.specs.declared.evaluation.Context.{Context}
use Rattle.bound_firing.specs.declared.evaluation.Scope.{Scope}
use Rattle.bound_firing.specs.declared.evaluation.Scope.TheVariants as scope
use Rattle.bound_firing.specs.declared.evaluation.Sight.{Sight}
use Rattle.bound_firing.specs.declared.evaluation.Evolution.{Evolution as CodeEvolution}
use Rattle.bound_firing.specs.declared.evaluation.Evolution.TheVariants as evolution
use Rattle.bound_firing.specs.declared.seats.Seats.{Seats}
use Rattle.bound_firing.specs.Firing.{BoundSituation, BoundVars, local_part}
use Rattle.bound_firing.specs.FlatSeats.{flat_entries, flat_slot}
use Rattle.bound_firing.specs.References.{flat_seats_in}
use Rattle.bound_firing.specs.Walks.{Ready, ReadyAt, DidAt, EachReady, AllDid, BranchReady, BranchDid}
use Rattle.bound_firing.specs.Held.{Gives, Built}

-- the situation of a context
abbrev pub situation_in : Context → BoundSituation
situation_in c = record {
  device = c.device;
  ceiling = c.program.now.declared.ceiling;
  least = c.program.now.declared.least;
  inputs = local_bounds_in c.inputs.now;
}

-- the binders in scope
abbrev pub vars_in : Scope → BoundVars
vars_in scope.Empty = []
vars_in (scope.Bind' n b p rest) = (n, lent_bound_in b) ∷ vars_in rest

abbrev pub evolution_in : CodeEvolution → Evolution
evolution_in evolution.Rep = ByRep
evolution_in evolution.Share = ByShare

-- the bound of an argument: that which a binder holds, or else that which was made
abbrev pub held_or : Option BoundRef → AnyBound → AnyBound
held_or (Some b) _ = lent_bound_in b
held_or None made = made

abbrev pub argument_in : Argument → AnyBound
argument_in a = held_or a.held (any_bound_in a.made)

abbrev pub maybe_in : Option Bound → Option AnyBound
maybe_in o = option_map any_bound_in o

-- at this place evaluation may begin, with what is seen there and this draft
abbrev pub ReadyIn : Context → ℕ → Sight → List LocalBound → Type 0
ReadyIn c p s xs = Ready c.program.now.nodes c.layout.now p (flat_seats_in s.seats.now) (local_bounds_in xs)

-- the same, and this node stands there
abbrev pub ReadyFor : Context → ℕ → Sight → Node → Sort → List LocalBound → Type 0
ReadyFor c p s n o xs = ReadyAt c.program.now.nodes c.layout.now p o (type_of n.ty) n.kids.items
    (flat_seats_in s.seats.now) (local_bounds_in xs)

-- what the evaluation makes of a draft, and the bound that it gives
abbrev pub FiredTo : Context → ℕ → Sight → List LocalBound → List LocalBound → Bound → Type 0
FiredTo c p s old new b = DidAt (situation_in c) c.program.now.nodes p (vars_in s.vars.now)
    (flat_seats_in s.seats.now) (local_bounds_in old) (any_bound_in b) (local_bounds_in new)

-- the same of an argument, and of what a binder holds
abbrev pub SeenTo : Context → ℕ → Sight → List LocalBound → List LocalBound → Argument → Type 0
SeenTo c p s old new a = DidAt (situation_in c) c.program.now.nodes p (vars_in s.vars.now)
    (flat_seats_in s.seats.now) (local_bounds_in old) (argument_in a) (local_bounds_in new)

abbrev pub IsHeld : Context → ℕ → Sight → AnyBound → Type 0
IsHeld c p s b = Gives (situation_in c) c.program.now.nodes c.layout.now p (vars_in s.vars.now)
    (flat_seats_in s.seats.now) b

-- what a builtin makes of what places one after another give
abbrev pub BuiltOf : Context → Builtin → List ℕ → Sight → List LocalBound → List LocalBound → Bound → Type 0
BuiltOf c o ks s old new b = Built (situation_in c) c.program.now.nodes o ks (vars_in s.vars.now)
    (flat_seats_in s.seats.now) (local_bounds_in old) (any_bound_in b) (local_bounds_in new)

-- what it makes of bounds
abbrev pub IsMade : Context → Builtin → List AnyBound → Bound → Type 0
IsMade c o bs r = any_bound_in r ≡ builtin_bound o c.program.now.declared.ceiling c.device bs

-- a slot keeps a new bound, and the value is it, or the field of it and of what the neighbours have there
abbrev pub Keeps : ℕ → Bound → List LocalBound → List LocalBound → Type 0
Keeps k b old new = local_bounds_in new ≡ slice_set (local_bounds_in old) k (local_part (any_bound_in b))

abbrev pub Kept : ℕ → Bound → List LocalBound → List LocalBound → Bound → Type 0
Kept k b old new r = (any_bound_in r ≡ BoundLocal (local_part (any_bound_in b))) × Keeps k b old new

abbrev pub Heard : ℕ → Seats → Bound → List LocalBound → List LocalBound → Bound → Type 0
Heard k s b old new r = (any_bound_in r
    ≡ BoundField (local_part (any_bound_in b)) (flat_entries (flat_slot k) (flat_seats_in s).near)) × Keeps k b old new

-- the same as for one place for places one after another, whose bounds are added to others
abbrev pub ReadyKids : Context → List ℕ → Sight → List LocalBound → Type 0
ReadyKids c ks s xs = EachReady (situation_in c) c.program.now.nodes c.layout.now ks (vars_in s.vars.now)
    (flat_seats_in s.seats.now) (local_bounds_in xs)

abbrev pub KidsFiredTo : Context → List ℕ → Sight → List LocalBound → List LocalBound → List Bound → List Bound
    → Type 0
KidsFiredTo c ks s old new before behind = AllDid (situation_in c) c.program.now.nodes ks (vars_in s.vars.now)
    (flat_seats_in s.seats.now) (local_bounds_in old) (any_bounds_in before) (any_bounds_in behind)
    (local_bounds_in new)

-- and for a branch of the `if` with a slot
abbrev pub ReadyBranch : Context → ℕ → ℕ → Bool → Sight → List LocalBound → Type 0
ReadyBranch c p k truth s xs = BranchReady c.program.now.nodes c.layout.now p k truth (flat_seats_in s.seats.now)
    (local_bounds_in xs)

abbrev pub BranchFiredTo : Context → ℕ → ℕ → Bool → Sight → List LocalBound → List LocalBound → Option Bound → Type 0
BranchFiredTo c p k truth s old new o = BranchDid (situation_in c) c.program.now.nodes p k truth (vars_in s.vars.now)
    (flat_seats_in s.seats.now) (local_bounds_in old) (maybe_in o) (local_bounds_in new)
