-- What the laws say.
use Rattle.std.specs.Prelude.{ℕ, suc, ◌≡◌, ◌↔◌, ◌≤◌, ◌+◌, ◌∷◌, min}
use Rattle.fc_values.specs.declared.builtins.Builtin.TheVariants as op
use Rattle.fc_values.specs.Types.{IntType, TypeLocal}
use Rattle.fc_values.specs.Values.{LocalValue}
use Rattle.fc_nodes.specs.Terms.{Variable, Term, Plain, Apply, NoMore, More, term_type, size}
use Rattle.fc_nodes.specs.Typing.{Scope, HasType}
use Rattle.topology.specs.Networks.{Network, IsNetwork}
use Rattle.interval_facts.specs.Ranges.{RangeValue, full, Bounds, term_range}
use Rattle.interval_facts.specs.Solutions.{Devices, ValueMap, ValueMaps, bind, local_map, Solves}
use Rattle.interval_facts.specs.Claims.{MapLiesIn}
use Rattle.interval_facts.specs.Scopes.{BoundsFit, BoundsHold, Alive}
use Rattle.growth_facts.specs.Leads.{least_integer}
use Rattle.growth_facts.specs.Turns.{turns_of}
use Rattle.rise.specs.Stages.{Near, stage, climbed}

-- ---- solutions

-- the body `rise(t, x, s)` of the `rep` at place x
abbrev pub rising_body : ℕ → Term → Term → Term
rising_body x t s =
    Apply (TypeLocal IntType) op.Rise (More t (More (Plain (TypeLocal IntType) (Variable x)) (More s NoMore)))

-- the maps in scope in the body, where f are the values of the `rep`
abbrev pub in_body : ℕ → (ℕ → LocalValue) → ValueMaps → ValueMaps
in_body x f V = bind x (local_map f) V

-- The body stands at place p, and t and s where they stand in it. Where each solution of s lies in a range whose least
-- is at least 1, as the claim on ranges says of the range of s, the values f solve the body exactly where they solve t
-- and s has a solution.
abbrev pub SolvesWithoutRise : Type 0
SolvesWithoutRise = (N : Network) (D : Devices) (V : ValueMaps) (f : ℕ → LocalValue) (x p : ℕ) (t s : Term)
    (r : RangeValue) → term_type t ≡ TypeLocal IntType → term_type s ≡ TypeLocal IntType → 1 ≤ least_integer r
    → ((G : ValueMap) → Solves N (suc p + size t + 1) s D (in_body x f V) G → MapLiesIn D r G)
    → Solves N p (rising_body x t s) D (in_body x f V) (local_map f)
    ↔ (Solves N (suc p) t D (in_body x f V) (local_map f)
    × ((G : ValueMap) × Solves N (suc p + size t + 1) s D (in_body x f V) G))

-- This holds where the devices are there, the binders in scope have their maps in the ranges of their variables, the
-- body is typed, and the range of s has a least that is at least 1.
abbrev pub SolvesWithoutRiseInScope : Type 0
SolvesWithoutRiseInScope =
    (N : Network) (D : Devices) (bs : Scope) (cs : Bounds) (V : ValueMaps) (f : ℕ → LocalValue) (x p : ℕ) (t s : Term)
    → IsNetwork N → N.declared.least ≤ N.declared.greatest → Alive N D → BoundsFit bs cs → BoundsHold D cs V
    → HasType N.declared ((x, TypeLocal IntType) ∷ bs) p (rising_body x t s)
    → 1 ≤ least_integer (term_range N.declared ((x, full N.declared.ceiling IntType) ∷ cs) (suc p + size t + 1) s)
    → Solves N p (rising_body x t s) D (in_body x f V) (local_map f)
    ↔ (Solves N (suc p) t D (in_body x f V) (local_map f)
    × ((G : ValueMap) × Solves N (suc p + size t + 1) s D (in_body x f V) G))

-- ---- stages

-- One firing gives the lesser of its target and its last result plus the rise s, which is at least `least`. The
-- solution's value meets the same equation, with its own target. Where the target is at stage i + 1 and the last result
-- is as far as `done` firings of stage i lead, the result is as far as one more leads.
abbrev pub StepInAStage : Type 0
StepInAStage =
    (ceiling growth least i done target last s goal value : ℕ) → least ≤ s → 1 ≤ s → value ≡ min goal (value + s)
    → Near (stage ceiling growth (suc i)) target goal → Near (climbed ceiling growth least i done) last value
    → Near (climbed ceiling growth least i (suc done)) (min target (last + s)) value

-- a stage begins at the end of the one before
abbrev pub StageBegins : Type 0
StageBegins = (ceiling growth least i : ℕ) → climbed ceiling growth least i 0 ≡ stage ceiling growth i

-- after as many firings as make up the growth the next stage is reached
abbrev pub StageIsReached : Type 0
StageIsReached = (ceiling growth least i : ℕ) → 1 ≤ least
    → climbed ceiling growth least i (turns_of growth least) ≡ stage ceiling growth (suc i)

-- so a run of firings leads from a stage to the next one, where the targets are already
abbrev pub StageByTurns : Type 0
StageByTurns = (ceiling growth least i s goal value : ℕ) (targets results : ℕ → ℕ) → 1 ≤ least → least ≤ s
    → value ≡ min goal (value + s)
    → ((n : ℕ) → Near (stage ceiling growth (suc i)) (targets n) goal)
    → ((n : ℕ) → results (suc n) ≡ min (targets n) (results n + s))
    → Near (stage ceiling growth i) (results 0) value → Near (stage ceiling growth (suc i))
    (results (turns_of growth least)) value
