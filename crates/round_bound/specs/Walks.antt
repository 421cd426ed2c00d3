-- Levels by the places of a program.
use Rattle.std.specs.Prelude.{ℕ, suc, Bool, true, false, ◌≡◌, ◌≤◌, ◌+◌, ◌*◌, List, [], ◌∷◌, ◌++◌, max, Option, Some}
use Rattle.fc_values.specs.Types.{LocalType, IntType, PairType, ValueType}
use Rattle.fc_values.specs.declared.limits.TheConstants.{GREATEST}
use Rattle.fc_nodes.specs.declared.nodes.Node.{Node}
use Rattle.fc_nodes.specs.Terms.{Sort, OfLeaf, OfApply, term_at, terms_by, view_at, view_of}
use Rattle.fc_nodes.specs.Places.{StandsAt}
use Rattle.fc_nodes.specs.Program.{unfolding_of, IsProgram}
use Rattle.interval_facts.specs.Ranges.{AreRangesOf}
use Rattle.fc_nodes.specs.Variables.{occurs, occurs_in}
use Rattle.fragment_check.specs.Levels.{Stages, Lvs, bind_level, leaf_level, level_of, node_levels}
use Rattle.fragment_check.specs.Verdicts.{stages_of}
use Rattle.fragment_check.specs.declared.kinds.Pattern.{Pattern}
use Rattle.fragment_check.specs.declared.kinds.Pattern.TheVariants as pattern
use Rattle.round_bound.specs.declared.scopes.Scope.{Scope}
use Rattle.round_bound.specs.declared.scopes.Scope.TheVariants as scope
use Rattle.round_bound.specs.declared.scopes.Position.{Position}
use Rattle.round_bound.specs.declared.scopes.Context.{Context}
use Rattle.round_bound.specs.declared.scopes.Found.{Found}

-- the most levels that a `rep` or `share` adds
abbrev pub most_added : ℕ
most_added = 3 * GREATEST

-- the levels of what the binders in scope bind
abbrev pub levels_in : Scope → Lvs
levels_in scope.Empty = λ q. 0
levels_in (scope.Bind' n l p rest) = bind_level n l (levels_in rest)

-- a bound on the levels before a place
abbrev pub level_before : ℕ → ℕ
level_before p = 1 + suc most_added * p

-- levels are asked for there: all levels so far are small
pub record Ready (c : Context) (p : ℕ) (s : Position) : Type 0 where
  pub ranges : AreRangesOf (unfolding_of c.program.now) c.ranges.now
  pub devices : 1 ≤ c.devices
  pub branch : s.branch ≤ level_before p
  pub scope : (q : ℕ) → levels_in s.scope.now q ≤ level_before p

-- a node at a place where levels are asked for
pub record AtNode (c : Context) (p : ℕ) (s : Position) (n : Node) : Type 0 where
  pub ready : Ready c p s
  pub stands : StandsAt c.program.now.nodes p
  pub node : view_at c.program.now.nodes p ≡ Some (view_of n)
  pub program : IsProgram c.program.now

abbrev pub stages_in : Context → Stages
stages_in c = stages_of (unfolding_of c.program.now) c.devices

-- the level of the term at a place
abbrev pub level_at : Context → ℕ → Position → ℕ
level_at c p s = level_of (stages_in c) p s.branch s.own (levels_in s.scope.now) (term_at c.program.now.nodes p)

-- the levels of all nodes of the term at a place
abbrev pub node_levels_at : Context → ℕ → Position → List (Option ℕ)
node_levels_at c p s =
    node_levels (stages_in c) p s.branch s.own (levels_in s.scope.now) (term_at c.program.now.nodes p)

-- what is found there: the level, whether the variable around occurs, and the levels that are put behind others
pub record FoundAt (c : Context) (p : ℕ) (s : Position) (f : Found) (old new : List (Option ℕ)) : Type 0 where
  pub level : f.level ≡ level_at c p s
  pub uses : f.uses ≡ occurs s.own (term_at c.program.now.nodes p)
  pub levels : new ≡ old ++ node_levels_at c p s

-- all but the first
abbrev pub behind : List (Option ℕ) → List (Option ℕ)
behind [] = []
behind (o ∷ os) = os

-- the same of the nodes below a node
pub record FoundBelow (c : Context) (p : ℕ) (s : Position) (f : Found) (old new : List (Option ℕ)) : Type 0 where
  pub level : f.level ≡ level_at c p s
  pub uses : f.uses ≡ occurs s.own (term_at c.program.now.nodes p)
  pub levels : new ≡ old ++ behind (node_levels_at c p s)

-- of the kids of a node
abbrev pub greatest_at : Context → List ℕ → Position → ℕ
greatest_at c [] s = s.branch
greatest_at c (k ∷ ks) s = max (level_at c k s) (greatest_at c ks s)

abbrev pub levels_at : Context → List ℕ → Position → List (Option ℕ)
levels_at c [] s = []
levels_at c (k ∷ ks) s = node_levels_at c k s ++ levels_at c ks s

pub record FoundAll (c : Context) (ks : List ℕ) (s : Position) (f : Found) (old new : List (Option ℕ)) : Type 0 where
  pub level : f.level ≡ greatest_at c ks s
  pub uses : f.uses ≡ occurs_in s.own (terms_by (term_at c.program.now.nodes) ks)
  pub levels : new ≡ old ++ levels_at c ks s

-- the level of a node without kids
abbrev pub leaf_level_by : Position → ValueType → Sort → ℕ
leaf_level_by s t (OfLeaf l) = leaf_level s.branch s.own (levels_in s.scope.now) t l
leaf_level_by s t _ = s.branch

-- the greatest integer of all values of a type, for pairs of the first component
abbrev pub greatest_full : ℕ → LocalType → ℕ
greatest_full m IntType = m
greatest_full m (PairType IntType t) = m
greatest_full m _ = 0

-- the numbers of a pattern are from 1, or 0, to the ceiling
abbrev pub PatternFew : ℕ → Pattern → Type 0
PatternFew m pattern.Constant = Unit {0}
PatternFew m (pattern.Acyclic q) = Unit {0}
PatternFew m (pattern.Minimising greatest growth) = (greatest ≤ m) × (1 ≤ growth) × (growth ≤ m)
PatternFew m (pattern.Rising greatest growth rise) =
    (greatest ≤ m) × (1 ≤ growth) × (growth ≤ m) × (1 ≤ rise) × (rise ≤ m)

abbrev pub is_apply_sort : Sort → Bool
is_apply_sort (OfApply o) = true
is_apply_sort _ = false
