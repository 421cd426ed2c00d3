-- A firing of a device at a node: what it sees, and what it gives.
use Rattle.std.proofs.Common.{◌≡◌, ◌≢◌, ℕ, suc, ◌≤◌, List, Bool, true, false, Some}
use Rattle.fc_values.specs.Fields.{AnyValue}
use Rattle.fc_values.specs.Trees.{Tree, Trees}
use Rattle.fc_nodes.specs.Terms.{Term, Terms}
use Rattle.fc_nodes.specs.Flat.{FitsTree, FitTrees}
use Rattle.alignment.specs.Environments.{Env}
use Rattle.alignment.specs.Scopes.{Vars, variable_at}
use Rattle.device_eval.specs.Evaluation.{Situation}
use Rattle.device_eval.specs.Rules.{Evaluates, EvaluateAll}
use Rattle.device_eval.proofs.Sights.{kids_from}
use Rattle.topology.specs.Networks.{Network, Lives, inputs_in}
use Rattle.interval_facts.specs.Solutions.{Devices, In, ValueMap, ValueMaps, near_among, at_device, Solves, SolveAll}
use Rattle.fc_nodes.specs.Variables.{occurs, occurs_in}
use Rattle.fragment_check.specs.Levels.{Lvs, level_of, level_all}
use Rattle.converge_laws.specs.Fragment.{Analysis}
use Rattle.converge_laws.specs.Stages.{Stage}
use Rattle.converge_laws.specs.Invariant.{Holds, HoldAll}
use Rattle.converge_laws.specs.Fragment.{TermInFragment, TermsInFragment}
use Rattle.interval_facts.specs.Claims.{InRanges, AllInRanges}
use Rattle.converge_laws.proofs.Near.{NearAre, OwnIs}

-- where a device of a network evaluates
abbrev pub situation_at : Network → ℕ → Situation
situation_at N d = record { device = d; ceiling = N.declared.ceiling; least = N.declared.least; inputs = inputs_in d N.devices }

-- the binders that occur have the values of the solution, as far as their levels are reached
abbrev pub VarsAre : (ℕ → Bool) → ℕ → ℕ → ℕ → Lvs → ValueMaps → Vars → Type 0
VarsAre uses d j x lv V vars = (q : ℕ) → uses q ≡ true → q ≢ x → (v : AnyValue) → variable_at q vars ≡ Some v → lv q ≤ suc j → v ≡ V q d

-- a tree at a node: it fits, and is at a level
abbrev pub Here : (A : Analysis) (N : Network) (j p b : ℕ) (st : Stage) (lv : Lvs) (t : Term) (D : Devices) (V : ValueMaps) (F : ValueMap) → Solves N p t D V F → ℕ → Tree → Type 0
Here A N j p b st lv t D V F s n T = FitsTree N.declared.ceiling t T × Holds A N j p b st lv t D V F s n T

abbrev pub HereAll : (A : Analysis) (N : Network) (j p i b : ℕ) (st : Stage) (lv : Lvs) (xs : Terms) (D : Devices) (V : ValueMaps) (Gs : List ValueMap) → SolveAll N p xs D V Gs → ℕ → Tree → Type 0
HereAll A N j p i b st lv xs D V Gs s n T = FitTrees N.declared.ceiling xs (kids_from i T) × HoldAll A N j p i b st lv xs D V Gs s n T

pub record Given (A : Analysis) (N : Network) (d j p b : ℕ) (st : Stage) (lv : Lvs) (t : Term) (D : Devices) (V : ValueMaps) (F : ValueMap) (s : Solves N p t D V F) (vars : Vars) (env : Env) : Type 0 where
  pub frag : TermInFragment A N.declared.ceiling p t
  pub ranges : InRanges A.ranges N p t D V F s
  pub inside : In D d
  pub alive : Lives N d
  pub low : b ≤ suc j
  pub own : b ≤ j → OwnIs (λ T. Here A N j p b st lv t D V F s d T) env.own
  pub near : b ≤ j → NearAre (λ n T. Here A N j p b st lv t D V F s n T) (near_among N D d) env.near
  pub binders : VarsAre (λ q. occurs q t) d j st.var lv V vars

pub record Raised (A : Analysis) (N : Network) (d j p b : ℕ) (st : Stage) (lv : Lvs) (t : Term) (D : Devices) (V : ValueMaps) (F : ValueMap) (s : Solves N p t D V F) (v : AnyValue) (tree : Tree) : Type 0 where
  pub value : level_of A.stages p b st.var lv t ≤ suc j → v ≡ F d
  pub holds : Holds A N (suc j) p b st lv t D V F s d tree

-- a term without the variable of the `rep` or `share` around
abbrev pub StepOf : Analysis → Network → ℕ → ℕ → Term → Type 0
StepOf A N d j t = (p b : ℕ) (st : Stage) (lv : Lvs) (D : Devices) (V : ValueMaps) (F : ValueMap) (s : Solves N p t D V F) (vars : Vars) (env : Env) (v : AnyValue) (tree : Tree)
    → occurs st.var t ≡ false → Given A N d j p b st lv t D V F s vars env → Evaluates (situation_at N d) p t vars env v tree → Raised A N d j p b st lv t D V F s v tree

pub record GivenAll (A : Analysis) (N : Network) (d j p i b : ℕ) (st : Stage) (lv : Lvs) (xs : Terms) (D : Devices) (V : ValueMaps) (Gs : List ValueMap) (s : SolveAll N p xs D V Gs) (vars : Vars) (env : Env) : Type 0 where
  pub frag : TermsInFragment A N.declared.ceiling p xs
  pub ranges : AllInRanges A.ranges N p xs D V Gs s
  pub inside : In D d
  pub alive : Lives N d
  pub low : b ≤ suc j
  pub own : b ≤ j → OwnIs (λ T. HereAll A N j p i b st lv xs D V Gs s d T) env.own
  pub near : b ≤ j → NearAre (λ n T. HereAll A N j p i b st lv xs D V Gs s n T) (near_among N D d) env.near
  pub binders : VarsAre (λ q. occurs_in q xs) d j st.var lv V vars

pub record RaisedAll (A : Analysis) (N : Network) (d j p i b : ℕ) (st : Stage) (lv : Lvs) (xs : Terms) (D : Devices) (V : ValueMaps) (Gs : List ValueMap) (s : SolveAll N p xs D V Gs) (vs : List AnyValue) (ts : Trees) : Type 0 where
  pub values : level_all A.stages p b st.var lv xs ≤ suc j → vs ≡ at_device d Gs
  pub holds : (T : Tree) → kids_from i T ≡ ts → HoldAll A N (suc j) p i b st lv xs D V Gs s d T

abbrev pub StepAll : Analysis → Network → ℕ → ℕ → Terms → Type 0
StepAll A N d j xs = (p i b : ℕ) (st : Stage) (lv : Lvs) (D : Devices) (V : ValueMaps) (Gs : List ValueMap) (s : SolveAll N p xs D V Gs) (vars : Vars) (env : Env) (vs : List AnyValue) (ts : Trees)
    → occurs_in st.var xs ≡ false → GivenAll A N d j p i b st lv xs D V Gs s vars env → EvaluateAll (situation_at N d) p i xs vars env vs ts → RaisedAll A N d j p i b st lv xs D V Gs s vs ts
