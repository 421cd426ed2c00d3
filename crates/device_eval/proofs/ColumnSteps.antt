-- The evaluation of a builtin's arguments: what each kid needs, and what stands behind the words afterwards.
use Rattle.std.proofs.Common.{◌≡◌, ℕ, ◌<◌, ◌≤◌, ◌+◌, ◌*◌, List, [], ◌∷◌, length, refl, sym, ◌∙◌, ap, subst}
use Rattle.std.proofs.Common.{arith, get_or}
use Rattle.fc_values.specs.declared.exports.Slot.{Slot}
use Rattle.fc_values.specs.Types.{ValueType, TypeLocal, TypeField, leaves}
use Rattle.fc_values.specs.BuiltinTypes.{inner}
use Rattle.fc_values.specs.Fields.{AnyValue, ValueLocal}
use Rattle.fc_values.specs.Exports.{SlotValue, slots_of}
use Rattle.fc_nodes.specs.declared.nodes.Node.{Node}
use Rattle.fc_nodes.specs.Terms.{term_at, term_type}
use Rattle.value_columns.proofs.Standing.{row_stays}
use Rattle.alignment.specs.Slots.{FlatEnv}
use Rattle.alignment.specs.Scopes.{Vars}
use Rattle.device_eval.specs.Evaluation.{Situation}
use Rattle.device_eval.specs.Rows.{DidEach, ReadyEach}
use Rattle.device_eval.proofs.RowSteps.{none_done, kid_ready, rest_ready, each_done}
use Rattle.scope_columns.specs.declared.scopes.Sight.{Sight}
use Rattle.alignment.specs.References.{flat_of}
use Rattle.scope_columns.specs.Words.{words_for, value_in, SameBelow}
use Rattle.scope_columns.specs.Scopes.{devices_in, vars_in, types_in}
use Rattle.scope_columns.proofs.ScopeSteps.{vars_stay, below_more}
use Rattle.scope_columns.proofs.WordSteps.{below_then, value_stays}
use Rattle.device_eval.specs.declared.evaluation.Context.{Context}
use Rattle.device_eval.specs.Contexts.{situation_in, ReadyIn, Evaluated, ReadyKids, EvaluatedKids}
use Rattle.device_eval.specs.Kids.{kid_types, rows_for, words_of_all, StandsIn, StandIn, EndsWith, Filled}
use Rattle.device_eval.specs.Places.{MayEach}
use Rattle.device_eval.proofs.MaySteps.{may_value}

-- ---- no argument

none_evaluated : (c : Context) (s : Sight) (rows : ℕ) (ws : List ℕ) (xs : List Slot)
    → EvaluatedKids c [] s rows ws xs ws xs
none_evaluated c s rows ws xs = record {
  values = [];
  did = none_done [] refl;
  fit = tt;
  kept = record { same = λ p h. refl };
  long = omega arith;
  stand = tt;
}

pub kids_none : {c : Context} {s : Sight} {rows : ℕ} {ws : List ℕ} {xs : List Slot} (ks : List ℕ) → length ks ≡ 0
    → EvaluatedKids c ks s rows ws xs ws xs
kids_none {c} {s} {rows} {ws} {xs} [] e = none_evaluated c s rows ws xs
kids_none (k ∷ ks) e = absurd (omega (arith, e))

-- ---- one more argument before others

-- a value that stands below other words stays
stands_stay : (t : ValueType) (ds : List ℕ) (rows at n : ℕ) (xs ys : List ℕ) (v : AnyValue)
    → at + rows_for t rows (length ds) * leaves (inner t) ≤ n → SameBelow n xs ys → StandsIn xs ds rows at t v
    → StandsIn ys ds rows at t v
stands_stay (TypeLocal t) ds rows at n xs ys v l same s =
    λ i h. s i h ∙ ap ValueLocal (sym (row_stays xs ys t rows at i n h l same.same))
stands_stay (TypeField t) ds rows at n xs ys v l same s = s ∙ sym (value_stays (TypeField t) ds xs ys n at same l)

-- values behind one that comes first
behind : {S : Situation} {ns : List Node} {ks : List ℕ} {vars : Vars} {env : FlatEnv} {xs ys : List SlotValue}
    {vs : List AnyValue} (v : AnyValue) → DidEach S ns ks vars env xs [] vs ys
    → DidEach S ns ks vars env xs (v ∷ []) (v ∷ vs) ys
behind v r = record {
  vs = r.vs;
  added = ap (λ us. v ∷ us) r.added;
  gives = r.gives;
  marked = r.marked;
  out = r.out;
  still = r.still;
}

-- places that are ready, and may be evaluated, where the variables have these values
abbrev Prepared : Context → Sight → List ℕ → Vars → List Slot → Type 0
Prepared c s ks vars xs =
    ReadyEach (situation_in c) c.program.now.nodes c.layout.now ks vars (flat_of s.env.now) (slots_of xs)

abbrev Allowed : Context → Sight → List ℕ → Vars → Type 0
Allowed c s ks vars =
    MayEach c.program.now.declared (situation_in c) c.program.now.nodes (types_in s.vars.now) ks vars
    (flat_of s.env.now)

module _ {c : Context} {ks : List ℕ} {k : ℕ} {rest : List ℕ} (e : ks ≡ k ∷ rest) {s : Sight} {ws : List ℕ}
    {xs : List Slot} (begins : ReadyKids c ks s ws xs) where
  allowed : Allowed c s (k ∷ rest) (vars_in c.device ws s.vars.now)
  allowed = subst (λ qs. Allowed c s qs (vars_in c.device ws s.vars.now)) e begins.may

  pub first_begins : (k < length c.program.now.nodes) × (get_or ks 0 (length c.program.now.nodes) ≡ k)
      × ReadyIn c k s ws xs
  first_begins =
      let r = kid_ready e begins.ready in
      let m = allowed in
      (r.0, r.1, record { ready = r.2; may = m.0; sees = begins.sees })

  module _ {mid : List ℕ} {ys : List Slot} (done : Evaluated c k s ws xs mid ys) {t : ValueType}
      (type : term_type (term_at c.program.now.nodes k) ≡ t) {at : ℕ} (place : at ≡ length ws) where
    -- the value is the last of the words
    pub kid_ends : EndsWith t at mid
    kid_ends =
        let n = length (devices_in c.device s.env.now) in
        record {
          devices = n;
          long = done.added.long ∙ ap (λ u. length ws + words_for u n) type ∙ ap (λ p. p + words_for t n) (sym place);
        }

    module _ {rows : ℕ} {wide : List ℕ} (filled : Filled t rows at mid wide) where
      abbrev ds : List ℕ
      ds = devices_in c.device s.env.now

      abbrev T : ValueType
      T = term_type (term_at c.program.now.nodes k)

      filled_here : Filled T rows (length ws) mid wide
      filled_here =
          let f = subst (λ p. Filled t rows p mid wide) place filled in
          subst (λ u. Filled u rows (length ws) mid wide) (sym type) f

      wide_kept : SameBelow (length ws) ws wide
      wide_kept =
          let f = filled_here in
          below_then (length ws) (length ws) (omega arith) done.added.kept f.kept

      wide_long : length wide ≡ length ws + rows_for T rows (length ds) * leaves (inner T)
      wide_long = let f = filled_here in f.long (length ds) done.added.long

      wide_low : length ws ≤ length wide
      wide_low = omega (arith, wide_long)

      wide_vars : vars_in c.device wide s.vars.now ≡ vars_in c.device ws s.vars.now
      wide_vars = vars_stay c.device (length ws) ws wide s.vars.now begins.sees.below wide_kept

      pub rest_begins : (k < get_or rest 0 (length c.program.now.nodes)) × ReadyKids c rest s wide ys
      rest_begins =
          let r = rest_ready e begins.ready done.did in
          let m = allowed in
          let below = below_more c.device (length ws) (length wide) s.vars.now wide_low begins.sees.below in (
            r.0,
            record {
              ready = subst (λ vs. Prepared c s rest vs ys) (sym wide_vars) r.1;
              may = subst (λ vs. Allowed c s rest vs) (sym wide_vars) m.1;
              sees = record { below = below; own = begins.sees.own };
            },
          )

      module _ {new : List ℕ} {zs : List Slot} (r : EvaluatedKids c rest s rows wide ys new zs) where
        abbrev DidRest : Vars → Type 0
        DidRest vars =
            DidEach (situation_in c) c.program.now.nodes rest vars (flat_of s.env.now) (slots_of ys) [] r.values
            (slots_of zs)

        all_more : EvaluatedKids c (k ∷ rest) s rows ws xs new zs
        all_more =
            let f = filled_here in
            let m = allowed in
            let l = r.long in
            let v = value_in mid T ds (length ws) in
            let types = kid_types c.program.now.nodes rest in
            let ready = subst (λ qs. Prepared c s qs (vars_in c.device ws s.vars.now) xs) e begins.ready in
            let others = subst DidRest wide_vars r.did in
            let within : length ws + rows_for T rows (length ds) * leaves (inner T) ≤ length wide =
            omega (arith, wide_long) in
            record {
              values = v ∷ r.values;
              did = each_done refl ready done.did refl (behind v others);
              fit = (may_value m.0 done.did.gives, r.fit);
              kept = below_then (length ws) (length wide) wide_low wide_kept r.kept;
              long = l ∙ ap (λ p. p + words_of_all types rows (length ds)) wide_long ∙ omega arith;
              stand = (
                stands_stay T ds rows (length ws) (length wide) wide new v within r.kept (f.stands ds),
                subst (λ p. StandIn new ds rows p types r.values) wide_long r.stand,
              );
            }

        pub kids_more : EvaluatedKids c ks s rows ws xs new zs
        kids_more = subst (λ qs. EvaluatedKids c qs s rows ws xs new zs) (sym e) all_more
