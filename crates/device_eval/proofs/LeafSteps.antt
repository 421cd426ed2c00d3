-- What a node without kids adds to the words.
use Rattle.std.proofs.Common.{◌≡◌, ℕ, List, [], ◌∷◌, ◌++◌, length, refl, sym, ◌∙◌, subst, min, Some, IsSome}
use Rattle.std.specs.Prelude.{slice_get, filter}
use Rattle.fc_values.specs.declared.exports.Slot.{Slot}
use Rattle.fc_values.specs.Types.{IntType, ValueType, TypeLocal, TypeField}
use Rattle.fc_values.specs.Values.{LocalValue, IntValue, BoolValue, PairValue, Fits as FitsType, form_of}
use Rattle.fc_values.specs.Fields.{ValueField, with_entry, with_number}
use Rattle.fc_nodes.specs.Terms.{Leaf, Literal, Variable, Sense, Uid, NbrLink, OfLeaf, HasNode}
use Rattle.fc_nodes.specs.Typing.{type_at, HasType, IsLiteral, LeafHasType}
use Rattle.fc_nodes.proofs.Places.{formed_above, term_is}
use Rattle.value_columns.specs.LocalWords.{words_of}
use Rattle.value_trees.proofs.Forms.{fits_form}
use Rattle.alignment.specs.References.{flat_of, numbers_in}
use Rattle.device_eval.specs.declared.evaluation.Context.{Context}
use Rattle.scope_columns.specs.declared.scopes.Scope.{Scope}
use Rattle.scope_columns.specs.declared.scopes.Scope.TheVariants as scope
use Rattle.scope_columns.specs.declared.scopes.Sight.{Sight}
use Rattle.alignment.specs.Scopes.{weights}
use Rattle.device_eval.specs.Conditions.{VariableFits, VarsFit}
use Rattle.scope_columns.specs.Words.{value_in, Added, stays}
use Rattle.scope_columns.specs.Scopes.{devices_in, binder_type, vars_in, types_in, IsAligned, AreAligned, VariableAdded}
use Rattle.device_eval.specs.Contexts.{situation_in, ReadyIn, Evaluated, devices_there}
use Rattle.device_eval.proofs.Steps.{ready_at}
use Rattle.device_eval.proofs.LeafAt.{lit_done, variable_done, sense_done, uid_done, links_done}
use Rattle.device_eval.proofs.MaySteps.{node_type}
use Rattle.scope_columns.proofs.WordSteps.{devices_entries}
use Rattle.device_eval.proofs.KindSteps.{value_added, evaluated_as}

literal_form : (ceiling : ℕ) (t : ValueType) (v : LocalValue) → IsLiteral ceiling t v → t ≡ TypeLocal (form_of v)
literal_form ceiling t (IntValue n) h = h.0
literal_form ceiling t (BoolValue b) h = h
literal_form ceiling t (PairValue a b) h = absurd h

same_value : {v w : LocalValue} → Some v ≡ Some w → v ≡ w
same_value e = cc

same_type : {s t : ValueType} → Some s ≡ Some t → s ≡ t
same_type e = cc

module _ {c : Context} {p : ℕ} {s : Sight} {ws : List ℕ} {xs : List Slot} {t : ValueType} {ks : List ℕ}
    (here : ReadyIn c p s ws xs) where
  leaf_typed : (l : Leaf) → HasNode c.program.now.nodes p (OfLeaf l) t ks
      → LeafHasType c.program.now.declared (types_in s.vars.now) t l
  leaf_typed l h =
      subst (HasType c.program.now.declared (types_in s.vars.now) p)
      (term_is c.program.now.nodes (formed_above c.program.now.nodes here.ready.stands.formed) p (OfLeaf l) t ks h)
      here.may.typed

  pub literal_evaluated : {v : LocalValue} {new : List ℕ} → HasNode c.program.now.nodes p (OfLeaf (Literal v)) t ks
      → new ≡ ws ++ words_of v → Evaluated c p s ws xs new xs
  literal_evaluated {v} {new} h e =
      let a = value_added v (form_of v) (devices_there c s) e refl in
      let type = node_type p here.ready.stands.formed h
      ∙ literal_form c.program.now.declared.ceiling t v (leaf_typed (Literal v) h) in
      evaluated_as type a.0 a.1 (lit_done (ready_at here.ready h) refl)

  pub sense_evaluated : {i : ℕ} {v : LocalValue} {new : List ℕ} → HasNode c.program.now.nodes p (OfLeaf (Sense i)) t ks
      → slice_get (situation_in c).inputs i ≡ Some v → new ≡ ws ++ words_of v → Evaluated c p s ws xs new xs
  sense_evaluated {i} {v} {new} h f e =
      let ty = leaf_typed (Sense i) h in
      let input = here.may.suits.inputs i ty.0 ty.1 in
      let same : input.value ≡ v = same_value (sym input.is ∙ f) in
      let form = fits_form (situation_in c).ceiling ty.0 v
      (subst (FitsType (situation_in c).ceiling ty.0) same input.fits) in
      let a = value_added v ty.0 (devices_there c s) e form in
      evaluated_as (node_type p here.ready.stands.formed h ∙ ty.2) a.0 a.1 (sense_done (ready_at here.ready h) f refl)

  pub uid_evaluated : {n : ℕ} {new : List ℕ} → HasNode c.program.now.nodes p (OfLeaf Uid) t ks
      → n ≡ min c.device c.program.now.declared.ceiling → new ≡ ws ++ (n ∷ []) → Evaluated c p s ws xs new xs
  uid_evaluated {n} {new} h f e =
      let a = value_added (IntValue n) IntType (devices_there c s) e refl in
      evaluated_as (node_type p here.ready.stands.formed h ∙ leaf_typed Uid h) a.0 a.1
      (uid_done (ready_at here.ready h) f)

  pub links_evaluated : {new : List ℕ} → HasNode c.program.now.nodes p (OfLeaf NbrLink) t ks
      → Added (TypeField IntType) (devices_there c s) ws new
      → value_in new (TypeField IntType) (devices_there c s) (length ws)
      ≡ ValueField (with_entry c.device (IntValue c.program.now.declared.least) (weights (flat_of s.env.now).near))
      → Evaluated c p s ws xs new xs
  links_evaluated {new} h a e =
      evaluated_as (node_type p here.ready.stands.formed h ∙ leaf_typed NbrLink h) a e
      (links_done (ready_at here.ready h) refl)

  pub variable_evaluated : {n : ℕ} {new : List ℕ} → HasNode c.program.now.nodes p (OfLeaf (Variable n)) t ks
      → VariableAdded c.device n s ws new → Evaluated c p s ws xs new xs
  variable_evaluated {n} {new} h r =
      let type : r.type ≡ t = same_type (sym r.has ∙ leaf_typed (Variable n) h) in
      evaluated_as (node_type p here.ready.stands.formed h ∙ sym type) r.added r.is
      (variable_done (ready_at here.ready h) r.bound refl)

  pub variable_has : {n : ℕ} → HasNode c.program.now.nodes p (OfLeaf (Variable n)) t ks
      → IsSome (type_at n (types_in s.vars.now))
  variable_has {n} h = let e = leaf_typed (Variable n) h in rw e refl

-- variables that fit still have the device and the aligned neighbours
aligned_as : (ceiling d : ℕ) (ns : List ℕ) (t : ValueType) (ws ds : List ℕ) (at : ℕ)
    → VariableFits ceiling d ns t (value_in ws t ds at) → IsAligned d ns t ds
aligned_as ceiling d ns (TypeLocal t) ws ds at h = tt
aligned_as ceiling d ns (TypeField t) ws ds at h =
    subst (λ es. filter (stays d ns) es ≡ with_number d ns) (devices_entries ws t (length ds) at 0 ds) h.1

all_aligned : (ceiling d : ℕ) (ns ws : List ℕ) (vs : Scope) → VarsFit ceiling d ns (types_in vs) (vars_in d ws vs)
    → AreAligned d ns vs
all_aligned ceiling d ns ws scope.Empty h = tt
all_aligned ceiling d ns ws (scope.Bind' b p rest) h =
    (aligned_as ceiling d ns (binder_type b) ws (devices_in d b.env.now) b.at h.1, all_aligned ceiling d ns ws rest h.2)

pub variables_aligned : {c : Context} {p : ℕ} {s : Sight} {ws : List ℕ} {xs : List Slot} → ReadyIn c p s ws xs
    → AreAligned c.device (numbers_in s.env.now) s.vars.now
variables_aligned {c} {p} {s} {ws} r =
    all_aligned c.program.now.declared.ceiling c.device (numbers_in s.env.now) ws s.vars.now r.may.vars
