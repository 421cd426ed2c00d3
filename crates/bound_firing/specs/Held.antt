-- Bounds that binders hold, and whether they are the same where they are seen.
use Rattle.std.specs.Prelude.{ℕ, Bool, true, false, ◌≡◌, List, [], ◌∷◌}
use Rattle.value_bounds.specs.BoundBuiltins.{Maybes, BoundEntries, AnyBound, BoundLocal, BoundField, BoundAny, builtin_bound}
use Rattle.fc_values.specs.declared.builtins.Builtin.{Builtin}
use Rattle.fc_nodes.specs.declared.nodes.Node.{Node}
use Rattle.bound_firing.specs.Firing.{BoundSituation, BoundVars}
use Rattle.value_bounds.specs.BoundValues.{BoundValue}
use Rattle.bound_firing.specs.FlatSeats.{FlatSeats}
use Rattle.bound_firing.specs.Walks.{DidAt, EachDid, Ready}
use Rattle.fc_nodes.specs.Layouts.{LayoutValue}

-- entries are of the first neighbours, one by one, and sure only where these are
abbrev pub AreSeated : Maybes → BoundEntries → Type 0
AreSeated ss [] = Unit {0}
AreSeated [] (b ∷ bs) = ⊥
AreSeated (s ∷ ss) (b ∷ bs) = (b.0 ≡ s.0) × (b.1 ≡ true → s.1 ≡ true) × AreSeated ss bs

abbrev pub is_local : AnyBound → Bool
is_local (BoundLocal b) = true
is_local (BoundField own es) = false
is_local BoundAny = false

-- what the node at a place gives, with any draft that is left as it is
abbrev pub Gives : BoundSituation → List Node → LayoutValue → ℕ → BoundVars → FlatSeats → AnyBound → Type 0
Gives S ns l p vars seats b = (xs : List BoundValue) → Ready ns l p seats xs → DidAt S ns p vars seats xs b xs

-- what a builtin makes of what places one after another give
pub record Built (S : BoundSituation) (ns : List Node) (o : Builtin) (ks : List ℕ) (vars : BoundVars)
    (seats : FlatSeats) (xs : List BoundValue) (b : AnyBound) (ys : List BoundValue) : Type 0 where
  pub bounds : List AnyBound
  pub each : EachDid S ns vars seats ks xs bounds ys
  pub is : b ≡ builtin_bound o S.ceiling S.device bounds
