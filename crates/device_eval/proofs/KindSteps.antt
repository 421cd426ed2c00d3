-- What each kind of node adds to the words.
use Rattle.std.proofs.Common.{◌≡◌, ℕ, ◌≤◌, ◌+◌, ◌*◌, List, [], ◌∷◌, ◌++◌, length, take, drop, sym, ◌∙◌, ap, subst}
use Rattle.std.proofs.Common.{arith, Bool, get_or}
use Rattle.std.proofs.lemmas.List.{get_or_append_left, length-append}
use Rattle.fc_values.specs.declared.exports.Slot.{Slot}
use Rattle.fc_values.specs.Types.{LocalType, ValueType, TypeLocal, TypeField, type_of, leaves}
use Rattle.fc_values.specs.BuiltinTypes.{lifted, inner}
use Rattle.fc_values.specs.Values.{LocalValue, form_of}
use Rattle.fc_values.specs.Fields.{AnyValue, ValueLocal, ValueField, Entries, AllFit, FitsOver}
use Rattle.fc_values.specs.Exports.{slots_of}
use Rattle.fc_nodes.specs.declared.nodes.Node.{Node}
use Rattle.fc_nodes.specs.Terms.{Sort, HasNode}
use Rattle.fc_nodes.specs.Program.{IsProgram}
use Rattle.value_columns.specs.Columns.{word_in, local_in}
use Rattle.value_columns.specs.LocalWords.{words_of}
use Rattle.value_columns.proofs.LocalReads.{words_long, reads_behind}
use Rattle.value_trees.proofs.Forms.{fits_form}
use Rattle.alignment.specs.References.{flat_of, numbers_in}
use Rattle.device_eval.specs.declared.evaluation.Context.{Context}
use Rattle.scope_columns.specs.declared.scopes.Sight.{Sight}
use Rattle.alignment.specs.Scopes.{Vars}
use Rattle.device_eval.specs.Walks.{ReadyAt}
use Rattle.scope_columns.specs.Words.{words_for, value_in, Added, row_of, AllForm}
use Rattle.scope_columns.specs.Scopes.{vars_in, types_in, StandBelow, Fits}
use Rattle.device_eval.specs.Contexts.{situation_in, ReadyIn, ReadyFor, Evaluated, EvaluatedBody, bound_in}
use Rattle.device_eval.specs.Contexts.{devices_there, type_there, CanIn, MayIn, DidIn}
use Rattle.device_eval.proofs.Steps.{ready_at}
use Rattle.device_eval.proofs.MaySteps.{node_type}
use Rattle.scope_columns.proofs.WordSteps.{taken_same, gap_closed}
use Rattle.scope_columns.proofs.ScopeSteps.{vars_stay, below_more}
use Rattle.device_eval.proofs.ReadySteps.{ready_as}

-- the node that is ready
pub node_here : {c : Context} {p : ℕ} {s : Sight} {n : Node} {o : Sort} {ws : List ℕ} {xs : List Slot}
    → ReadyFor c p s n o ws xs →
    ReadyAt (situation_in c) c.program.now.nodes c.layout.now p o (type_of n.ty) n.kids.items (bound_in c s ws)
    (flat_of s.env.now) (slots_of xs)
node_here r = ready_at r.here.ready r.node

-- one of the kids behind a reference
pub kid_behind : {q : ℕ} (i : ℕ) {xs ys : List ℕ} → q ≡ get_or xs i 0 → xs ≡ ys → q ≡ get_or ys i 0
kid_behind {q} i {xs} {ys} e f = e ∙ ap (λ zs. get_or zs i 0) f

-- words for a value that are behind others, and read as it
pub value_added : {ws new : List ℕ} (v : LocalValue) (t : LocalType) (ds : List ℕ) → new ≡ ws ++ words_of v
    → form_of v ≡ t → Added (TypeLocal t) ds ws new × (value_in new (TypeLocal t) ds (length ws) ≡ ValueLocal v)
value_added {ws} {new} v t ds e f =
    let long = words_long v in
    let size = ap leaves f in (
      record {
        kept = record { same = λ p h. ap (λ us. word_in us p) e ∙ get_or_append_left ws (words_of v) 0 p h };
        long = ap length e ∙ length-append ws (words_of v) ∙ ap (λ k. length ws + k) (long ∙ size);
      },
      ap ValueLocal (ap (λ u. local_in new u (length ws)) (sym f) ∙ reads_behind v ws new e),
    )

-- a value that fits its type has its form
pub all_forms : (ceiling : ℕ) (t : LocalType) (es : Entries) → AllFit ceiling t es → AllForm t es
all_forms ceiling t [] h = tt
all_forms ceiling t (e ∷ es) h = (fits_form ceiling t e.1 h.0, all_forms ceiling t es h.1)

pub field_forms : (ceiling : ℕ) (ds : List ℕ) {t : ValueType} {u : LocalType} (es : Entries) → t ≡ TypeField u
    → FitsOver ceiling ds t (ValueField es) → AllForm u es
field_forms ceiling ds {t} {u} es e h =
    let f : FitsOver ceiling ds (TypeField u) (ValueField es) = subst (λ v. FitsOver ceiling ds v (ValueField es)) e
    h in all_forms ceiling u es f.1

module _ {c : Context} {p : ℕ} {s : Sight} {ws : List ℕ} {xs : List Slot} where
  -- a value that stands behind the words is that of the node
  pub evaluated_as : {new : List ℕ} {ys : List Slot} {T : ValueType} {v : AnyValue} → type_there c p ≡ T
      → Added T (devices_there c s) ws new → value_in new T (devices_there c s) (length ws) ≡ v
      → DidIn c p (bound_in c s ws) (flat_of s.env.now) (slots_of xs) v (slots_of ys) → Evaluated c p s ws xs new ys
  evaluated_as {new} {ys} {T} {v} e a f d =
      let ds = devices_there c s in
      let is : v ≡ value_in new (type_there c p) ds (length ws) = sym (ap (λ u. value_in new u ds (length ws)) e ∙ f) in
      record {
        added = subst (λ u. Added u ds ws new) (sym e) a;
        did = subst (λ w. DidIn c p (bound_in c s ws) (flat_of s.env.now) (slots_of xs) w (slots_of ys)) is d;
      }

  -- a value of a node of a known type
  pub value_of_type : {new : List ℕ} {ys : List Slot} {T : ValueType} → Evaluated c p s ws xs new ys
      → type_there c p ≡ T → Added T (devices_there c s) ws new
      × DidIn c p (bound_in c s ws) (flat_of s.env.now) (slots_of xs) (value_in new T (devices_there c s) (length ws))
      (slots_of ys)
  value_of_type {new} {ys} {T} h e =
      let ds = devices_there c s in (
        subst (λ u. Added u ds ws new) e h.added,
        subst (λ u. DidIn c p (bound_in c s ws) (flat_of s.env.now) (slots_of xs) (value_in new u ds (length ws))
            (slots_of ys)) e h.did,
      )

-- a binder whose place and type are known in another way
pub heads_at : {p at to : ℕ} (ws ds : List ℕ) {vs : Vars} {t u : ValueType} → t ≡ u → at ≡ to
    → ((p, value_in ws t ds at) ∷ vs) ≡ ((p, value_in ws u ds to) ∷ vs)
heads_at {p} {at} {to} ws ds {vs} {t} {u} e f =
    ap (λ v. (p, value_in ws v ds at) ∷ vs) e ∙ ap (λ k. (p, value_in ws u ds k) ∷ vs) f

-- The body of a binder whose value was added behind the words may be evaluated.
pub begin_body : {c : Context} {p q at : ℕ} {s s' : Sight} {ws mid : List ℕ} {ys : List Slot} {T : ValueType} (f : Bool)
    (u : LocalType) →
    CanIn c q ((p, value_in mid T (devices_there c s) (length ws)) ∷ bound_in c s ws) (flat_of s'.env.now) (slots_of ys)
    →
    MayIn c ((p, T) ∷ types_in s.vars.now) q ((p, value_in mid T (devices_there c s) (length ws)) ∷ bound_in c s ws)
    (flat_of s'.env.now) →
    Fits c.device (length ws) s → Added T (devices_there c s) ws mid → lifted f u ≡ T → at ≡ length ws →
    bound_in c s' mid ≡ (p, value_in mid (lifted f u) (devices_there c s) at) ∷ bound_in c s mid →
    types_in s'.vars.now ≡ (p, lifted f u) ∷ types_in s.vars.now →
    (at + words_for (lifted f u) (length (devices_there c s)) ≤ length mid → StandBelow c.device (length mid) s.vars.now
    → StandBelow c.device (length mid) s'.vars.now) →
    s'.own ≡ row_of c.device (numbers_in s'.env.now) → ReadyIn c q s' mid ys
begin_body {c} {p} {q} {at} {s} {s'} {ws} {mid} {ys} {T} f u r m fits a e i vs ts below own =
    let d = c.device in
    let ds = devices_there c s in
    let l = a.long in
    let stay = vars_stay d (length ws) ws mid s.vars.now fits.below a.kept in
    let size = ap (λ t. words_for t (length ds)) e in
    ready_as r m
    (ap (λ w. (p, value_in mid T ds (length ws)) ∷ w) (sym stay)
    ∙ ap (λ t. (p, value_in mid t ds (length ws)) ∷ vars_in d mid s.vars.now) (sym e)
    ∙ ap (λ k. (p, value_in mid (lifted f u) ds k) ∷ vars_in d mid s.vars.now) (sym i) ∙ sym vs)
    (ap (λ t. (p, t) ∷ types_in s.vars.now) (sym e) ∙ sym ts)
    (below (omega (arith, l, size, i)) (below_more d (length ws) (length mid) s.vars.now (omega (arith, l)) fits.below))
    own

-- the binder's value is taken out from under that of the body
pub body_done : {c : Context} {q at : ℕ} (many : ℕ) {s : Sight} {ws mid new : List ℕ} {xs ys : List Slot}
    → Evaluated c q s ws xs mid ys
    → new ≡ take at mid ++ drop (at + many) mid → at + many ≡ length ws → EvaluatedBody c q at s ws xs new ys
body_done {c} {q} {at} many {s} {ws} {mid} {new} {xs} {ys} h e m =
    let T = type_there c q in
    let ds = devices_there c s in
    let low = taken_same ws at (omega (arith, m)) in
    let l = low.1 in
    let below : take at mid ≡ take (length (take at ws)) mid = ap (λ k. take k mid) (sym l) in
    let above : drop (at + many) mid ≡ drop (length (take at ws) + many) mid = ap (λ k. drop (k + many) mid) (sym l) in
    let closed = gap_closed many low.0 h.added (omega (arith, m, l))
    (e ∙ ap (λ us. us ++ drop (at + many) mid) below ∙ ap (λ us. take (length (take at ws)) mid ++ us) above) in
    let value : value_in mid T ds (length ws) ≡ value_in new T ds at = sym
    (ap (λ k. value_in new T ds k) (sym l) ∙ closed.value) in
    record {
      added = closed.added;
      did = subst (λ v. DidIn c q (bound_in c s ws) (flat_of s.env.now) (slots_of xs) v (slots_of ys)) value h.did;
    }

-- the value at the root
module _ {c : Context} {s : Sight} (n : Node) {o : Sort} {ws mid : List ℕ} {xs ys : List Slot}
    (program : IsProgram c.program.now) (node : HasNode c.program.now.nodes 0 o (type_of n.ty) n.kids.items)
    {u : LocalType} (type : u ≡ inner (type_of n.ty)) (done : Evaluated c 0 s ws xs mid ys) where
  root_type : type_there c 0 ≡ TypeLocal u
  root_type =
      let t = node_type 0 program.formed node in
      program.root.1 ∙ ap TypeLocal (sym (type ∙ ap inner (sym t ∙ program.root.1)))

  module _ {at : ℕ} (place : at ≡ length ws) where
    pub root_within : at + 1 * leaves u ≤ length mid
    root_within =
        let l = done.added.long in
        let size = ap (λ t. words_for t (length (devices_there c s))) root_type in
        omega (arith, l, size, place)

    pub root_value : {w : LocalValue} → w ≡ local_in mid u at
        → value_in mid (type_there c 0) (devices_there c s) (length ws) ≡ ValueLocal w
    root_value {w} e =
        ap (λ t. value_in mid t (devices_there c s) (length ws)) root_type
        ∙ ap (λ i. ValueLocal (local_in mid u i)) (sym place) ∙ ap ValueLocal (sym e)
