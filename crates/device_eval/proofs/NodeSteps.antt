-- The steps of a node with kids: what each kid needs among the words, and what is added in the end.
use Rattle.std.proofs.Common.{◌≡◌, ℕ, ◌<◌, ◌≤◌, ◌+◌, ◌*◌, List, ◌∷◌, ◌++◌, length, take, refl, sym, ◌∙◌, ap, subst}
use Rattle.std.proofs.Common.{arith, Bool, true, Some, get_or}
use Rattle.std.specs.Prelude.{slice_set}
use Rattle.fc_values.specs.declared.exports.Slot.{Slot}
use Rattle.fc_values.specs.Types.{LocalType, BoolType, ValueType, TypeLocal, TypeField, type_of, leaves}
use Rattle.fc_values.specs.BuiltinTypes.{inner}
use Rattle.fc_values.specs.Values.{LocalValue, BoolValue, form_of}
use Rattle.fc_values.specs.Fields.{AnyValue, ValueLocal, ValueField}
use Rattle.fc_values.specs.Exports.{SlotValue, slots_of}
use Rattle.fc_nodes.specs.declared.nodes.Node.{Node}
use Rattle.fc_nodes.specs.Terms.{Evolution, ByRep, ByShare, OfNbr, OfEvolve, OfIf, OfLet}
use Rattle.fc_nodes.specs.Typing.{evolving_type}
use Rattle.fc_nodes.specs.Layouts.{number_in}
use Rattle.value_columns.specs.Columns.{word_in, truth_of, local_in}
use Rattle.value_columns.specs.LocalWords.{words_of}
use Rattle.value_trees.proofs.Forms.{fits_form}
use Rattle.alignment.specs.Slots.{FlatEnv, flat_branch}
use Rattle.alignment.specs.Hearing.{field_with, own_slot_or, heard_field}
use Rattle.alignment.specs.References.{flat_of}
use Rattle.device_eval.specs.declared.evaluation.Context.{Context}
use Rattle.scope_columns.specs.declared.scopes.Sight.{Sight}
use Rattle.device_eval.specs.Evaluation.{pick}
use Rattle.device_eval.specs.Starts.{started}
use Rattle.scope_columns.specs.Words.{value_in, SameBelow, Added, AllForm}
use Rattle.scope_columns.specs.Scopes.{vars_in, types_in, StandBelow}
use Rattle.device_eval.specs.Contexts.{ReadyFor, Evaluated, EvaluatedBody, bound_in, devices_there, type_there, CanIn}
use Rattle.device_eval.specs.Contexts.{MayIn, DidIn}
use Rattle.device_eval.proofs.Steps.{kid_is}
use Rattle.device_eval.proofs.MaySteps.{may_value, node_type}
use Rattle.device_eval.proofs.LetAt.{let_body, let_may_body, let_type, let_done}
use Rattle.device_eval.proofs.NbrAt.{nbr_done, nbr_types}
use Rattle.device_eval.proofs.EvolveAt.{evolve_b, evolve_may_body, evolve_types, evolve_done}
use Rattle.device_eval.proofs.IfAt.{if_branch, if_may_branch, if_condition_type, if_types, if_done}
use Rattle.scope_columns.proofs.WordSteps.{added_over, cut_same}
use Rattle.scope_columns.proofs.ScopeSteps.{vars_stay, below_more}
use Rattle.device_eval.proofs.KindSteps.{node_here, value_added, all_forms, field_forms, evaluated_as, value_of_type}

same_as : {u v : LocalType} (mid : List ℕ) {at to : ℕ} {w : LocalValue} → u ≡ v → at ≡ to → w ≡ local_in mid u at
    → ValueLocal (local_in mid v to) ≡ ValueLocal w
same_as {u} {v} mid {at} {to} {w} e f g =
    sym (ap ValueLocal (g ∙ ap (λ t. local_in mid t at) e ∙ ap (local_in mid v) f))

-- what is added where a value ended that was cut off
pub over_cut : {S T : ValueType} {ds ws mid cut new : List ℕ} {at : ℕ} → at ≡ length ws → Added S ds ws mid
    → cut ≡ take at mid → Added T ds cut new → Added T ds ws new × (length cut ≡ length ws)
over_cut {S} {T} {ds} {ws} {mid} {cut} {new} {at} e a f b =
    let c = cut_same a (f ∙ ap (λ k. take k mid) e) in
    (added_over c.0 c.1 b, c.1)

module _ {c : Context} {p : ℕ} {s : Sight} {n : Node} {ws : List ℕ} {xs : List Slot} (r : ReadyFor c p s n OfNbr ws xs)
    {q : ℕ} (e : q ≡ get_or n.kids.items 0 q) {mid : List ℕ} {ys : List Slot}
    (done : Evaluated c q s ws xs mid ys) where
  nbr_kid : Added (TypeLocal (inner (type_of n.ty))) (devices_there c s) ws mid
      × DidIn c q (bound_in c s ws) (flat_of s.env.now) (slots_of xs)
      (value_in mid (TypeLocal (inner (type_of n.ty))) (devices_there c s) (length ws)) (slots_of ys)
  nbr_kid = let types = nbr_types (node_here r) r.here.may e in value_of_type done types.1

  module _ {u : LocalType} (type : u ≡ inner (type_of n.ty)) {at : ℕ} (place : at ≡ length ws) where
    pub nbr_within : at + 1 * leaves u ≤ length mid
    nbr_within = let l = nbr_kid.0.long in let size = ap leaves type in omega (arith, l, size, place)

    module _ {w : LocalValue} (own : w ≡ local_in mid u at) {k : ℕ} (number : number_in c.layout.now p ≡ Some k) where
      -- the field that the node gives
      nbr_field : {zs : List SlotValue} → zs ≡ slice_set (slots_of ys) k (true, w)
          → (k < length (slots_of ys)) × DidIn c p (bound_in c s ws) (flat_of s.env.now) (slots_of xs)
          (ValueField (field_with k c.device w (flat_of s.env.now))) zs
      nbr_field f = nbr_done (node_here r) e nbr_kid.1 number (same_as mid type place own) refl f

      pub nbr_room : k < length (slots_of ys)
      nbr_room = let f = nbr_field refl in f.0

      pub nbr_forms : AllForm u (field_with k c.device w (flat_of s.env.now))
      nbr_forms =
          let f = nbr_field refl in
          let g = f.1.gives in
          let types = nbr_types (node_here r) r.here.may e in
          field_forms c.program.now.declared.ceiling (devices_there c s) (field_with k c.device w (flat_of s.env.now))
          (node_type p r.here.ready.stands.formed r.node ∙ types.0 ∙ ap TypeField (sym type)) (may_value r.here.may g)

      pub nbr_evaluated : {cut new : List ℕ} {zs : List Slot} → cut ≡ take at mid
          → Added (TypeField u) (devices_there c s) cut new
          → value_in new (TypeField u) (devices_there c s) (length cut)
          ≡ ValueField (field_with k c.device w (flat_of s.env.now))
          → slots_of zs ≡ slice_set (slots_of ys) k (true, w) → Evaluated c p s ws xs new zs
      nbr_evaluated {cut} {new} {zs} f a v g =
          let o = over_cut place nbr_kid.0 f a in
          let types = nbr_types (node_here r) r.here.may e in
          let d = nbr_field g in
          evaluated_as (node_type p r.here.ready.stands.formed r.node ∙ types.0 ∙ ap TypeField (sym type)) o.0
          (ap (value_in new (TypeField u) (devices_there c s)) (sym o.1) ∙ v) d.1

module _ {c : Context} {p : ℕ} {s : Sight} {n : Node} {v : Evolution} {ws : List ℕ} {xs : List Slot}
    (r : ReadyFor c p s n (OfEvolve v) ws xs) {q : ℕ} (e : q ≡ get_or n.kids.items 0 q) {q' : ℕ}
    (e' : q' ≡ get_or n.kids.items 1 q') {mid : List ℕ} {ys : List Slot} (done : Evaluated c q s ws xs mid ys) where
  evolve_kid : Added (TypeLocal (inner (type_of n.ty))) (devices_there c s) ws mid
      × DidIn c q (bound_in c s ws) (flat_of s.env.now) (slots_of xs)
      (value_in mid (TypeLocal (inner (type_of n.ty))) (devices_there c s) (length ws)) (slots_of ys)
  evolve_kid = let types = evolve_types (node_here r) r.here.may e e' in value_of_type done types.1

  module _ {u : LocalType} (type : u ≡ inner (type_of n.ty)) {at : ℕ} (place : at ≡ length ws) where
    pub first_within : at + 1 * leaves u ≤ length mid
    first_within = let l = evolve_kid.0.long in let size = ap leaves type in omega (arith, l, size, place)

    module _ {w : LocalValue} (first : w ≡ local_in mid u at) {k : ℕ} (number : number_in c.layout.now p ≡ Some k) where
      -- what the variable starts from may be bound
      pub start_may : {x : AnyValue} → x ≡ started v c.device (flat_of s.env.now) k w
          → MayIn c ((p, evolving_type v (inner (type_of n.ty))) ∷ types_in s.vars.now) q' ((p, x) ∷ bound_in c s ws)
          (flat_of s.env.now)
      start_may f = evolve_may_body (node_here r) e evolve_kid.1 number (same_as mid type place first) f r.here.may e'

      -- the value that was added in its place
      module _ {cut start : List ℕ} (is_cut : cut ≡ take at mid)
          (added : Added (evolving_type v u) (devices_there c s) cut start)
          (is : value_in start (evolving_type v u) (devices_there c s) (length cut)
          ≡ started v c.device (flat_of s.env.now) k w) where
        abbrev started_value : AnyValue
        started_value = value_in start (evolving_type v u) (devices_there c s) (length ws)

        pub start_over : Added (evolving_type v u) (devices_there c s) ws start
        start_over = let o = over_cut place evolve_kid.0 is_cut added in o.0

        start_is : started_value ≡ started v c.device (flat_of s.env.now) k w
        start_is =
            let o = over_cut place evolve_kid.0 is_cut added in
            ap (value_in start (evolving_type v u) (devices_there c s)) (sym o.1) ∙ is

        pub start_ready : (p < q') × (q' < length c.program.now.nodes)
            × CanIn c q' ((p, started_value) ∷ bound_in c s ws) (flat_of s.env.now) (slots_of ys)
        start_ready = evolve_b (node_here r) e evolve_kid.1 number (same_as mid type place first) start_is e'

        pub start_allowed : MayIn c ((p, evolving_type v u) ∷ types_in s.vars.now) q'
            ((p, started_value) ∷ bound_in c s ws) (flat_of s.env.now)
        start_allowed =
            subst (λ t. MayIn c ((p, evolving_type v t) ∷ types_in s.vars.now) q' ((p, started_value) ∷ bound_in c s ws)
            (flat_of s.env.now)) (sym type) (start_may start_is)

        module _ {s' : Sight} {new : List ℕ} {zs : List Slot} (body : EvaluatedBody c q' at s' start ys new zs)
            (heads : bound_in c s' start ≡ (p, value_in start (evolving_type v u) (devices_there c s) at) ∷ bound_in c s
            start)
            (sees : flat_of s'.env.now ≡ flat_of s.env.now) (over : devices_there c s' ≡ devices_there c s) where
          body_added : Added (TypeLocal u) (devices_there c s) (take at start) new
          body_added =
              let types = evolve_types (node_here r) r.here.may e e' in
              subst (λ ds. Added (TypeLocal u) ds (take at start) new) over
              (subst (λ t. Added t (devices_there c s') (take at start) new) (types.2 ∙ ap TypeLocal (sym type))
              body.added)

          body_value : AnyValue
          body_value = value_in new (type_there c q') (devices_there c s') at

          body_is : {x : LocalValue} → x ≡ local_in new u at → body_value ≡ ValueLocal x
          unfolding body_value
          body_is f =
              let types = evolve_types (node_here r) r.here.may e e' in
              ap (λ t. value_in new t (devices_there c s') at) (types.2 ∙ ap TypeLocal (sym type))
              ∙ ap ValueLocal (sym f)

          body_did : DidIn c q' ((p, started_value) ∷ bound_in c s ws) (flat_of s.env.now) (slots_of ys) body_value
              (slots_of zs)
          unfolding body_value
          body_did =
              let stay = vars_stay c.device (length ws) ws start s.vars.now r.here.sees.below start_over.kept in
              subst (λ f. DidIn c q' ((p, started_value) ∷ bound_in c s ws) f (slots_of ys) body_value (slots_of zs))
              sees
              (subst (λ vs. DidIn c q' vs (flat_of s'.env.now) (slots_of ys) body_value (slots_of zs))
              (heads ∙ ap (λ i. (p, value_in start (evolving_type v u) (devices_there c s) i) ∷ bound_in c s start)
              place
              ∙ ap (λ vs. (p, started_value) ∷ vs) stay) body.did)

          pub body_within : at + 1 * leaves u ≤ length new
          body_within =
              let o = over_cut place start_over refl body_added in
              let l = o.0.long in
              omega (arith, l, place)

          module _ {x : LocalValue} (kept : x ≡ local_in new u at) where
            pub evolve_room : k < length (slots_of zs)
            evolve_room =
                let d = evolve_done (node_here r) e evolve_kid.1 number (same_as mid type place first) start_is e'
                body_did (body_is kept) refl in d.0

            pub evolve_evaluated : {us : List Slot} → slots_of us ≡ slice_set (slots_of zs) k (true, x)
                → Evaluated c p s ws xs new us
            evolve_evaluated {us} f =
                let types = evolve_types (node_here r) r.here.may e e' in
                let d = evolve_done (node_here r) e evolve_kid.1 number (same_as mid type place first) start_is e'
                body_did (body_is kept) f in
                let o = over_cut place start_over refl body_added in
                evaluated_as (node_type p r.here.ready.stands.formed r.node ∙ types.0 ∙ ap TypeLocal (sym type)) o.0
                (ap (value_in new (TypeLocal u) (devices_there c s)) (sym place) ∙ ap ValueLocal (sym kept)
                ∙ sym (body_is kept)) d.1

-- what a `rep` starts from
module _ {c : Context} {p : ℕ} {s : Sight} {n : Node} {ws : List ℕ} {xs : List Slot}
    (r : ReadyFor c p s n (OfEvolve ByRep) ws xs) {q : ℕ} (e : q ≡ get_or n.kids.items 0 q) {q' : ℕ}
    (e' : q' ≡ get_or n.kids.items 1 q') {mid : List ℕ} {ys : List Slot} (done : Evaluated c q s ws xs mid ys)
    {u : LocalType} (type : u ≡ inner (type_of n.ty)) {at : ℕ} (place : at ≡ length ws) {w : LocalValue}
    (first : w ≡ local_in mid u at) {k : ℕ} (number : number_in c.layout.now p ≡ Some k) where
  pub rep_added : {v : LocalValue} {cut start : List ℕ} → v ≡ own_slot_or k w (flat_of s.env.now).own
      → start ≡ cut ++ words_of v
      → Added (TypeLocal u) (devices_there c s) cut start
      × (value_in start (TypeLocal u) (devices_there c s) (length cut) ≡ started ByRep c.device (flat_of s.env.now) k w)
  rep_added {v} {cut} {start} f g =
      let m = start_may r e e' done type place first number refl in
      let form = fits_form c.program.now.declared.ceiling (inner (type_of n.ty))
      (own_slot_or k w (flat_of s.env.now).own) m.vars.1 in
      let a = value_added v u (devices_there c s) g (ap form_of f ∙ form ∙ sym type) in
      (a.0, a.1 ∙ ap ValueLocal f)

-- what a `share` starts from
module _ {c : Context} {p : ℕ} {s : Sight} {n : Node} {ws : List ℕ} {xs : List Slot}
    (r : ReadyFor c p s n (OfEvolve ByShare) ws xs) {q : ℕ} (e : q ≡ get_or n.kids.items 0 q) {q' : ℕ}
    (e' : q' ≡ get_or n.kids.items 1 q') {mid : List ℕ} {ys : List Slot} (done : Evaluated c q s ws xs mid ys)
    {u : LocalType} (type : u ≡ inner (type_of n.ty)) {at : ℕ} (place : at ≡ length ws) {w : LocalValue}
    (first : w ≡ local_in mid u at) {k : ℕ} (number : number_in c.layout.now p ≡ Some k) {v : LocalValue}
    (own : v ≡ own_slot_or k w (flat_of s.env.now).own) where
  pub share_forms : AllForm u (field_with k c.device v (flat_of s.env.now))
  share_forms =
      let m = start_may r e e' done type place first number refl in
      let forms = all_forms c.program.now.declared.ceiling (inner (type_of n.ty))
      (heard_field k c.device w (flat_of s.env.now)) m.vars.1.0 in
      subst (λ t. AllForm t (field_with k c.device v (flat_of s.env.now))) (sym type)
      (subst (λ x. AllForm (inner (type_of n.ty)) (field_with k c.device x (flat_of s.env.now))) (sym own) forms)

  pub share_added : {cut start : List ℕ} → Added (TypeField u) (devices_there c s) cut start
      → value_in start (TypeField u) (devices_there c s) (length cut)
      ≡ ValueField (field_with k c.device v (flat_of s.env.now))
      → Added (TypeField u) (devices_there c s) cut start
      × (value_in start (TypeField u) (devices_there c s) (length cut)
      ≡ started ByShare c.device (flat_of s.env.now) k w)
  share_added a f = (a, f ∙ ap (λ x. ValueField (field_with k c.device x (flat_of s.env.now))) own)

module _ {c : Context} {p : ℕ} {s : Sight} {n : Node} {ws : List ℕ} {xs : List Slot} (r : ReadyFor c p s n OfIf ws xs)
    {q : ℕ} (e : q ≡ get_or n.kids.items 0 q) {mid : List ℕ} {ys : List Slot}
    (done : Evaluated c q s ws xs mid ys) where
  if_kid : Added (TypeLocal BoolType) (devices_there c s) ws mid
      × DidIn c q (bound_in c s ws) (flat_of s.env.now) (slots_of xs)
      (value_in mid (TypeLocal BoolType) (devices_there c s) (length ws)) (slots_of ys)
  if_kid = value_of_type done (if_condition_type (node_here r) r.here.may e)

  pub truth_within : {at : ℕ} → at ≡ length ws → at < length mid
  truth_within f = let l = if_kid.0.long in omega (arith, l, f)

  -- the word that was read is the one that stands there
  pub truth_read : {at w : ℕ} → at ≡ length ws → w ≡ get_or mid at w → truth_of w ≡ truth_of (word_in mid at)
  truth_read {at} {w} place read = ap truth_of (kid_is mid at w read (truth_within place))

  module _ {at : ℕ} (place : at ≡ length ws) {b : Bool} (truth : b ≡ truth_of (word_in mid at)) {k : ℕ}
      (number : number_in c.layout.now p ≡ Some k) {cut : List ℕ} (is_cut : cut ≡ take at mid) {env' : FlatEnv}
      (branch : env' ≡ flat_branch k b (flat_of s.env.now)) {q' : ℕ}
      (e' : q' ≡ get_or n.kids.items (pick b 1 2) 0) where
    truth_is : value_in mid (TypeLocal BoolType) (devices_there c s) (length ws) ≡ ValueLocal (BoolValue b)
    truth_is =
        let f : length ws + 0 ≡ at = omega (arith, place) in
        ap (λ i. ValueLocal (BoolValue (truth_of (word_in mid i)))) f ∙ ap (λ t. ValueLocal (BoolValue t)) (sym truth)

    cut_is : SameBelow (length ws) ws cut × (length cut ≡ length ws)
    cut_is = cut_same if_kid.0 (is_cut ∙ ap (λ i. take i mid) place)

    pub branch_begins : (p < q') × (q' < length c.program.now.nodes) × CanIn c q' (bound_in c s ws) env' (slots_of ys)
    branch_begins = if_branch (node_here r) e if_kid.1 number truth_is branch e'

    pub branch_allowed : MayIn c (types_in s.vars.now) q' (bound_in c s ws) env'
    branch_allowed = if_may_branch (node_here r) e if_kid.1 number truth_is branch e' r.here.may

    pub branch_vars : bound_in c s ws ≡ bound_in c s cut
    branch_vars = sym (vars_stay c.device (length ws) ws cut s.vars.now r.here.sees.below cut_is.0)

    pub branch_below : StandBelow c.device (length cut) s.vars.now
    branch_below =
        let l = cut_is.1 in below_more c.device (length ws) (length cut) s.vars.now (omega (arith, l)) r.here.sees.below

    module _ {s' : Sight} {new : List ℕ} {zs : List Slot} (body : Evaluated c q' s' cut ys new zs)
        (same : s'.vars.now ≡ s.vars.now) (sees : flat_of s'.env.now ≡ env') where
      arm_value : AnyValue
      arm_value = value_in new (type_there c q') (devices_there c s') (length cut)

      arm_did : DidIn c q' (bound_in c s ws) env' (slots_of ys) arm_value (slots_of zs)
      unfolding arm_value
      arm_did =
          subst (λ f. DidIn c q' (bound_in c s ws) f (slots_of ys) arm_value (slots_of zs)) sees
          (subst (λ vs. DidIn c q' vs (flat_of s'.env.now) (slots_of ys) arm_value (slots_of zs))
          (ap (vars_in c.device cut) same ∙ sym branch_vars) body.did)

      pub if_room : k < length (slots_of zs)
      if_room = let d = if_done (node_here r) e if_kid.1 number truth_is branch e' arm_did refl in d.0

      pub if_evaluated : {us : List Slot} → slots_of us ≡ slice_set (slots_of zs) k (true, BoolValue b)
          → Evaluated c p s ws xs new us
      unfolding arm_value
      if_evaluated {us} f =
          let d = if_done (node_here r) e if_kid.1 number truth_is branch e' arm_did f in
          let types = if_types (node_here r) r.here.may b e' in
          let T = inner (type_of n.ty) in
          let ds = devices_there c s in
          let added : Added (TypeLocal T) (devices_there c s') cut new = subst
          (λ t. Added t (devices_there c s') cut new) types.1 body.added in
          let here : Added (TypeLocal T) ds cut new = record { kept = added.kept; long = added.long } in
          evaluated_as (node_type p r.here.ready.stands.formed r.node ∙ types.0) (added_over cut_is.0 cut_is.1 here)
          (ap (value_in new (TypeLocal T) ds) (sym cut_is.1)
          ∙ sym (ap (λ t. value_in new t (devices_there c s') (length cut)) types.1)) d.1

module _ {c : Context} {p : ℕ} {s : Sight} {n : Node} {ws : List ℕ} {xs : List Slot} (r : ReadyFor c p s n OfLet ws xs)
    {q : ℕ} (e : q ≡ get_or n.kids.items 0 q) {q' : ℕ} (e' : q' ≡ get_or n.kids.items 1 q') {mid : List ℕ}
    {ys : List Slot} (done : Evaluated c q s ws xs mid ys) where
  abbrev bound_value : AnyValue
  bound_value = value_in mid (type_there c q) (devices_there c s) (length ws)

  pub let_ready : (p < q') × (q' < length c.program.now.nodes)
      × CanIn c q' ((p, bound_value) ∷ bound_in c s ws) (flat_of s.env.now) (slots_of ys)
  let_ready = let_body (node_here r) e done.did e'

  pub let_allowed : MayIn c ((p, type_there c q) ∷ types_in s.vars.now) q' ((p, bound_value) ∷ bound_in c s ws)
      (flat_of s.env.now)
  let_allowed = let_may_body (node_here r) r.here.may e done.did e'

  pub let_evaluated : {at : ℕ} {s' : Sight} {new : List ℕ} {zs : List Slot} → at ≡ length ws
      → EvaluatedBody c q' at s' mid ys new zs → bound_in c s' mid ≡ (p, bound_value) ∷ bound_in c s mid
      → flat_of s'.env.now ≡ flat_of s.env.now → devices_there c s' ≡ devices_there c s → Evaluated c p s ws xs new zs
  let_evaluated {at} {s'} {new} {zs} place body heads sees over =
      let T = type_there c q' in
      let ds = devices_there c s in
      let stay = vars_stay c.device (length ws) ws mid s.vars.now r.here.sees.below done.added.kept in
      let vars = heads ∙ ap (λ vs. (p, bound_value) ∷ vs) stay in
      let value = value_in new T (devices_there c s') at in
      let did : DidIn c q' ((p, bound_value) ∷ bound_in c s ws) (flat_of s.env.now) (slots_of ys) value (slots_of zs) =
      subst (λ f. DidIn c q' ((p, bound_value) ∷ bound_in c s ws) f (slots_of ys) value (slots_of zs)) sees
      (subst (λ vs. DidIn c q' vs (flat_of s'.env.now) (slots_of ys) value (slots_of zs)) vars body.did) in
      let o = over_cut place done.added refl (subst (λ es. Added T es (take at mid) new) over body.added) in
      evaluated_as (node_type p r.here.ready.stands.formed r.node ∙ let_type (node_here r) r.here.may e') o.0
      (ap (value_in new T ds) (sym place) ∙ ap (λ es. value_in new T es at) (sym over))
      (let_done (node_here r) e done.did e' did)
