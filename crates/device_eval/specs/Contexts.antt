-- Where an evaluation in code may begin, and what it makes of the words and the draft.
use Rattle.std.specs.Prelude.{ℕ, ◌≡◌, ◌+◌, List, [], length, map, take}
use Rattle.fc_values.specs.declared.exports.Slot.{Slot}
use Rattle.fc_values.specs.Types.{ValueType, type_of}
use Rattle.fc_values.specs.Values.{local_of}
use Rattle.fc_values.specs.Exports.{SlotValue, slots_of}
use Rattle.fc_values.specs.Fields.{AnyValue, FitEachOver}
use Rattle.fc_nodes.specs.declared.nodes.Node.{Node}
use Rattle.fc_nodes.specs.Terms.{Sort, HasNode, term_at, term_type}
use Rattle.fc_nodes.specs.Typing.{Scope as Types}
use Rattle.alignment.specs.Slots.{FlatEnv}
use Rattle.alignment.specs.Scopes.{Vars}
use Rattle.device_eval.specs.Evaluation.{Situation}
use Rattle.device_eval.specs.Rows.{DidEach, ReadyEach}
use Rattle.device_eval.specs.Walks.{DidAt, Ready}
use Rattle.scope_columns.specs.declared.scopes.Sight.{Sight}
use Rattle.alignment.specs.References.{flat_of}
use Rattle.scope_columns.specs.Words.{value_in, Added, SameBelow}
use Rattle.scope_columns.specs.Scopes.{Fits, devices_in, types_in, vars_in}
use Rattle.device_eval.specs.declared.evaluation.Context.{Context}
use Rattle.device_eval.specs.Kids.{StandIn, kid_types, words_of_all}
use Rattle.device_eval.specs.Places.{MayAt, MayEach}

-- the situation of a context
abbrev pub situation_in : Context → Situation
situation_in c = record {
  device = c.device;
  ceiling = c.program.now.declared.ceiling;
  least = c.program.now.declared.least;
  inputs = map local_of c.inputs.now;
}

-- the binders that a node sees, with the values that stand among the words
abbrev pub bound_in : Context → Sight → List ℕ → Vars
bound_in c s ws = vars_in c.device ws s.vars.now

-- the devices of a field that is made there
abbrev pub devices_there : Context → Sight → List ℕ
devices_there c s = devices_in c.device s.env.now

-- the type of a node of a context's program
abbrev pub type_there : Context → ℕ → ValueType
type_there c p = term_type (term_at c.program.now.nodes p)

-- such a node: it can be evaluated, it may be, and it was
abbrev pub CanIn : Context → ℕ → Vars → FlatEnv → List SlotValue → Type 0
CanIn c = Ready (situation_in c) c.program.now.nodes c.layout.now

abbrev pub MayIn : Context → Types → ℕ → Vars → FlatEnv → Type 0
MayIn c = MayAt c.program.now.declared (situation_in c) c.program.now.nodes

abbrev pub DidIn : Context → ℕ → Vars → FlatEnv → List SlotValue → AnyValue → List SlotValue → Type 0
DidIn c = DidAt (situation_in c) c.program.now.nodes

-- at this place evaluation may begin, with what is seen there, these words and this draft
pub record ReadyIn (c : Context) (p : ℕ) (s : Sight) (ws : List ℕ) (xs : List Slot) : Type 0 where
  pub ready : CanIn c p (bound_in c s ws) (flat_of s.env.now) (slots_of xs)
  pub may : MayIn c (types_in s.vars.now) p (bound_in c s ws) (flat_of s.env.now)
  pub sees : Fits c.device (length ws) s

-- the same, and this node stands there
pub record ReadyFor (c : Context) (p : ℕ) (s : Sight) (n : Node) (o : Sort) (ws : List ℕ) (xs : List Slot) : Type
    0 where
  pub here : ReadyIn c p s ws xs
  pub node : HasNode c.program.now.nodes p o (type_of n.ty) n.kids.items

-- what the evaluation makes of words and a draft: the value is added behind the words
pub record Evaluated (c : Context) (p : ℕ) (s : Sight) (ws : List ℕ) (xs : List Slot) (new : List ℕ) (ys : List Slot)
    : Type 0 where
  pub added : Added (type_there c p) (devices_there c s) ws new
  pub did : DidIn c p (bound_in c s ws) (flat_of s.env.now) (slots_of xs)
      (value_in new (type_there c p) (devices_there c s) (length ws)) (slots_of ys)

-- what the evaluation of a binder's body makes of them: of the words those from a place on, which are the binder's
-- value, are taken out
pub record EvaluatedBody (c : Context) (p at : ℕ) (s : Sight) (ws : List ℕ) (xs : List Slot) (new : List ℕ)
    (ys : List Slot)
    : Type 0 where
  pub added : Added (type_there c p) (devices_there c s) (take at ws) new
  pub did : DidIn c p (bound_in c s ws) (flat_of s.env.now) (slots_of xs)
      (value_in new (type_there c p) (devices_there c s) at) (slots_of ys)

-- places at which evaluation may begin, one after another
pub record ReadyKids (c : Context) (ks : List ℕ) (s : Sight) (ws : List ℕ) (xs : List Slot) : Type 0 where
  pub ready : ReadyEach (situation_in c) c.program.now.nodes c.layout.now ks (bound_in c s ws)
      (flat_of s.env.now) (slots_of xs)
  pub may : MayEach c.program.now.declared (situation_in c) c.program.now.nodes (types_in s.vars.now) ks
      (bound_in c s ws) (flat_of s.env.now)
  pub sees : Fits c.device (length ws) s

-- what it gives: their values stand behind the words, a local value in each of so many rows
pub record EvaluatedKids (c : Context) (ks : List ℕ) (s : Sight) (rows : ℕ) (ws : List ℕ) (xs : List Slot)
    (new : List ℕ) (ys : List Slot) : Type 0 where
  pub values : List AnyValue
  pub did : DidEach (situation_in c) c.program.now.nodes ks (bound_in c s ws) (flat_of s.env.now)
      (slots_of xs) [] values (slots_of ys)
  pub fit : FitEachOver c.program.now.declared.ceiling (devices_there c s)
      (kid_types c.program.now.nodes ks) values
  pub kept : SameBelow (length ws) ws new
  pub long : length new
      ≡ length ws + words_of_all (kid_types c.program.now.nodes ks) rows (length (devices_there c s))
  pub stand : StandIn new (devices_there c s) rows (length ws) (kid_types c.program.now.nodes ks) values
