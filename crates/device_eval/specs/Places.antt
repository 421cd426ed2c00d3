-- Where a node of a program may be evaluated: the conditions of evaluation with their parts one by one.
use Rattle.std.specs.Prelude.{ℕ, suc, ◌+◌, List, [], ◌∷◌}
use Rattle.fc_values.specs.Types.{Declarations}
use Rattle.fc_nodes.specs.declared.nodes.Node.{Node}
use Rattle.fc_nodes.specs.Terms.{Term, Terms, NoMore, More, size, kept_before, term_at}
use Rattle.fc_nodes.specs.Typing.{Scope}
use Rattle.alignment.specs.Environments.{Env, child_env, near_numbers}
use Rattle.alignment.specs.Slots.{FlatEnv}
use Rattle.alignment.specs.Scopes.{Vars}
use Rattle.device_eval.specs.Evaluation.{Situation}
use Rattle.device_eval.specs.Environments.{env_at}
use Rattle.device_eval.specs.Conditions.{MayEvaluate}

-- a node, its place and what it is evaluated in
abbrev pub May : Declarations → Situation → Scope → ℕ → Term → List ℕ → Vars → Env → Type 0
May D S scope p t ds vars env = MayEvaluate (record {
  declared = D;
  situation = S;
  scope = scope;
  place = p;
  term = t;
  neighbours = ds;
  vars = vars;
  env = env;
})

-- the same for nodes one after another from place p, the first of them the i-th kid
abbrev pub MayAll : Declarations → Situation → Scope → ℕ → ℕ → Terms → List ℕ → Vars → Env → Type 0
MayAll D S scope p i NoMore ds vars env = Unit {0}
MayAll D S scope p i (More x xs) ds vars env =
    May D S scope p x ds vars (child_env i env) × MayAll D S scope (p + size x) (suc i) xs ds vars env

-- the same at a place of a program, with exports as flat slots
abbrev pub MayAt : Declarations → Situation → List Node → Scope → ℕ → Vars → FlatEnv → Type 0
MayAt D S ns scope p vars env = May D S scope p (term_at ns p) (near_numbers env.near) vars
    (env_at (term_at ns p) (kept_before ns p) env)

-- and at places one after another
abbrev pub MayEach : Declarations → Situation → List Node → Scope → List ℕ → Vars → FlatEnv → Type 0
MayEach D S ns scope [] vars env = Unit {0}
MayEach D S ns scope (k ∷ ks) vars env = MayAt D S ns scope k vars env × MayEach D S ns scope ks vars env
