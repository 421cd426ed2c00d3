use Rattle.std.proofs.Common.{◌≡◌, ◌∷◌, ap, sym, subst, map, true, false, Some, refl}
use Rattle.fc_values.specs.Types.{local_type_of}
use Rattle.fc_values.specs.Values.{LocalValue, local_of, Fits}
use Rattle.fc_values.specs.Exports.{slots_of}
use Rattle.value_trees.specs.KeptItems.{MayStand, kept_of, values}
use Rattle.value_trees.specs.Filling.{own_at}
use Rattle.value_trees.proofs.FillSteps.{own_fits, own_misfits, slot_added, pushed, first_added}
use Rattle.value_trees.proofs.reading.fill_slot.Goals as goal

pub returns-then-not-visit-clause-filled : goal.returns-then-not-visit-clause-filled
returns-then-not-visit-clause-filled c =
    let t : c.args.visit.now.taken ≡ false = c.if-not-visit.true in
    let s = local_type_of c.args.ty.now in
    let vs = map kept_of c.args.list.now in
    rw t (slot_added false c.args.visit.now.program.now.declared.ceiling s (own_at false c.args.visit.now.program.now.declared.ceiling (Some s) c.args.visit.now.place vs) (local_of c.in_ok-value.value) vs vs (slots_of c.args.slots.now.items) (slots_of c.push.new.self.items) (pushed _ _ _ c.in_ok-push.ensures.items) c.in_ok-value.ensures refl refl)

pub returns-then-not-may_stand-clause-fault : goal.returns-then-not-may_stand-clause-fault
returns-then-not-may_stand-clause-fault c =
    let e : c.ceiling_of-ceiling.result ≡ c.args.visit.now.program.now.declared.ceiling = c.ceiling_of-ceiling.ensures in
    let t : c.args.visit.now.taken ≡ true = c.if-not-visit.false in
    let no : c.may_stand.result ≡ false = c.if-not-may_stand.true in
    let list = c.in-Some.ensures.cases.0 in
    rw (t, list) (own_misfits c.args.visit.now.program.now.declared.ceiling (local_type_of c.args.ty.now) c.args.visit.now.place (kept_of c.in-Some.first.now) (map kept_of c.in-Some.rest.now) (λ h. let clash : c.may_stand.result ≡ true = c.may_stand.ensures.1 (subst (λ k. MayStand c.args.visit.now.place k (local_type_of c.args.ty.now) (kept_of c.in-Some.first.now)) (sym e) h) in absurd cc))

pub returns-clause-filled : goal.returns-clause-filled
returns-clause-filled c =
    let e : c.ceiling_of-ceiling.result ≡ c.args.visit.now.program.now.declared.ceiling = c.ceiling_of-ceiling.ensures in
    let t : c.args.visit.now.taken ≡ true = c.if-not-visit.false in
    let s = local_type_of c.args.ty.now in
    let x = kept_of c.in-Some.first.now in
    let fits = subst (λ k. MayStand c.args.visit.now.place k s x) e (c.may_stand.ensures.0 c.if-not-may_stand.false) in
    let vs = map kept_of c.in-Some.rest.now in
    let copied : local_of c.in_ok-value-2.value ≡ x.value = c.in_ok-value-2.ensures in
    let list = c.in-Some.ensures.cases.0 in
    rw (t, list) (slot_added true c.args.visit.now.program.now.declared.ceiling s (own_at true c.args.visit.now.program.now.declared.ceiling (Some s) c.args.visit.now.place (x ∷ vs)) (local_of c.in_ok-value-2.value) (x ∷ vs) vs (slots_of c.args.slots.now.items) (slots_of c.push-2.new.self.items) (pushed _ _ _ c.in_ok-push-2.ensures.items) (subst (λ (v : LocalValue). Fits c.args.visit.now.program.now.declared.ceiling s v) (sym copied) fits.1) (own_fits c.args.visit.now.program.now.declared.ceiling s c.args.visit.now.place x vs fits) (ap (λ (v : LocalValue). v ∷ values vs) copied))

pub returns-clause-first : goal.returns-clause-first
returns-clause-first c =
    let t : c.args.visit.now.taken ≡ true = c.if-not-visit.false in
    let vs = map kept_of c.in-Some.rest.now in
    let copied : local_of c.in_ok-value-2.value ≡ local_of c.in-Some.first.now.value = c.in_ok-value-2.ensures in
    let list = c.in-Some.ensures.cases.0 in
    rw (t, list) (first_added (local_of c.in_ok-value-2.value) (kept_of c.in-Some.first.now) vs (slots_of c.args.slots.now.items) (slots_of c.push-2.new.self.items) (pushed _ _ _ c.in_ok-push-2.ensures.items) (sym copied))
