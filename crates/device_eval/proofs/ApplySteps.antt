-- A builtin at a node: what it needs among the words, and what is added in the end.
use Rattle.std.proofs.Common.{◌≡◌, ℕ, ◌<◌, ◌+◌, List, length, get_or, refl, sym, ◌∙◌, ap, subst, arith}
use Rattle.fc_values.specs.declared.builtins.Builtin.{Builtin}
use Rattle.fc_values.specs.declared.exports.Slot.{Slot}
use Rattle.fc_values.specs.Types.{ValueType, type_of}
use Rattle.fc_values.specs.BuiltinTypes.{HasRule}
use Rattle.fc_values.specs.Fields.{Rises}
use Rattle.fc_values.proofs.Numbers.{rises_with}
use Rattle.fc_nodes.specs.declared.nodes.Node.{Node}
use Rattle.fc_nodes.specs.Terms.{OfApply}
use Rattle.fc_nodes.specs.Typing.{HasType}
use Rattle.fc_nodes.proofs.Places.{formed_above, term_is}
use Rattle.scope_columns.specs.declared.scopes.Sight.{Sight}
use Rattle.alignment.specs.References.{numbers_in}
use Rattle.scope_columns.specs.Words.{words_for}
use Rattle.scope_columns.specs.Scopes.{devices_in, types_in}
use Rattle.scope_columns.proofs.DeviceRows.{rows_long, rows_many, own_within, device_there}
use Rattle.scope_columns.proofs.WordSteps.{below_then}
use Rattle.device_eval.specs.declared.evaluation.Context.{Context}
use Rattle.device_eval.specs.Contexts.{ReadyFor, Evaluated, ReadyKids, EvaluatedKids}
use Rattle.device_eval.specs.Kids.{kid_types, AreWithin, rows_for, words_of_all, StandIn, Applied}
use Rattle.device_eval.proofs.ApplyAt.{apply_can, apply_may_each, apply_later, apply_done}
use Rattle.device_eval.proofs.KidSteps.{types_are, row_within}
use Rattle.device_eval.proofs.KindSteps.{node_here, evaluated_as}
use Rattle.device_eval.proofs.MaySteps.{node_type}

module _ {c : Context} {p : ℕ} {s : Sight} {n : Node} {o : Builtin} {ws : List ℕ} {xs : List Slot}
    (r : ReadyFor c p s n (OfApply o) ws xs) where
  pub apply_begins : {qs : List ℕ} → qs ≡ n.kids.items
      → (p < get_or qs 0 (length c.program.now.nodes)) × ReadyKids c qs s ws xs
  apply_begins e = (
    apply_later (node_here r) e,
    record { ready = apply_can (node_here r) e; may = apply_may_each (node_here r) r.here.may e; sees = r.here.sees },
  )

  pub apply_rule : HasRule o (kid_types c.program.now.nodes n.kids.items) (type_of n.ty)
  apply_rule =
      let ns = c.program.now.nodes in
      let above = formed_above ns r.here.ready.stands.formed in
      let is = term_is ns above p (OfApply o) (type_of n.ty) n.kids.items r.node in
      let typed = subst (HasType c.program.now.declared (types_in s.vars.now) p) is r.here.may.typed in
      subst (λ ts. HasRule o ts (type_of n.ty)) (types_are ns n.kids.items) typed.0

  pub apply_within : AreWithin (length c.program.now.nodes) n.kids.items
  apply_within =
      let k = apply_begins refl in
      row_within c.program.now.nodes _ n.kids.items k.1.ready.can.row

  module _ {devices : ℕ} (many : devices ≡ length s.env.now.near.items + 1) where
    devices_are : devices ≡ length (devices_in c.device s.env.now)
    devices_are = many ∙ sym (rows_many c.device s.env.now refl)

    -- the device's own row is one of a field
    pub apply_own : s.own < devices
    apply_own =
        let within = own_within c.device (numbers_in s.env.now) in
        let long = rows_long c.device (numbers_in s.env.now) in
        omega (arith, within, long, devices_are, r.here.sees.own)

    module _ {rows : ℕ} (is_rows : rows ≡ rows_for (type_of n.ty) 1 devices) {at : ℕ} (place : at ≡ length ws)
        {qs : List ℕ} (kids : qs ≡ n.kids.items) {mid : List ℕ} {ys : List Slot}
        (kids_done : EvaluatedKids c qs s rows ws xs mid ys) where
      done : EvaluatedKids c n.kids.items s rows ws xs mid ys
      done = subst (λ js. EvaluatedKids c js s rows ws xs mid ys) kids kids_done

      abbrev types : List ValueType
      types = kid_types c.program.now.nodes n.kids.items

      pub apply_long : length mid ≡ at + words_of_all types (rows_for (type_of n.ty) 1 devices) devices
      apply_long =
          let d = done in
          d.long ∙ ap (λ k. k + words_of_all types rows (length (devices_in c.device s.env.now))) (sym place)
          ∙ ap (λ k. at + words_of_all types rows k) (sym devices_are)
          ∙ ap (λ k. at + words_of_all types k devices) is_rows

      pub apply_evaluated : {new : List ℕ}
          → Applied o c.program.now.declared.ceiling types (type_of n.ty) devices s.own at mid new
          → Evaluated c p s ws xs new ys
      apply_evaluated {new} applied =
          let d = done in
          let t = type_of n.ty in
          let ds = devices_in c.device s.env.now in
          let ns = numbers_in s.env.now in
          let a = subst (λ k. Applied o c.program.now.declared.ceiling types t devices s.own k mid new) place applied in
          let rising : Rises ds = rises_with c.device ns r.here.may.env.other r.here.may.env.rising in
          let own : c.device ≡ get_or ds s.own 0 =
          sym (ap (λ k. get_or ds k 0) r.here.sees.own ∙ device_there c.device ns) in
          let stand = subst (λ k. StandIn mid ds k (length ws) types d.values) is_rows d.stand in
          let value = a.value c.device ds d.values (sym devices_are) rising own d.fit stand in
          let long = a.long ∙ ap (λ k. length ws + words_for t k) devices_are in
          let kept = below_then (length ws) (length ws) (omega arith) d.kept a.kept in
          evaluated_as (node_type p r.here.ready.stands.formed r.node) (record { kept = kept; long = long }) refl
          (apply_done (node_here r) d.did value)
