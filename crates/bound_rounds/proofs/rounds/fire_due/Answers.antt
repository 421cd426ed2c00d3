use Rattle.std.proofs.Common.{◌≡◌, ◌<◌, ◌∙◌, refl, length, get_or, get_or-set_other, sym, ap, subst, arith, true, false}
use Rattle.std.specs.Prelude.{slice_set}
use Rattle.std.proofs.lemmas.List.{length-map, length-set, get_or-set_same, get_or_read}
use Rattle.std.proofs.lemmas.List.Elements.{All-get_or}
use Rattle.fc_nodes.specs.Terms.{kept}
use Rattle.fc_nodes.specs.Program.{unfolding_of}
use Rattle.envelopes.specs.Code.{maybe_device_of}
use Rattle.bound_firing.specs.declared.firing.ExportBound.{ExportBound}
use Rattle.bound_firing.specs.ExportReferences.{export_bound_in}
use Rattle.bound_rounds.specs.Tables.{Stand, device_at, IsFired}
use Rattle.bound_rounds.proofs.Fired.{fired_more, stays_fired, is_fired, fit_set}
use Rattle.bound_rounds.proofs.rounds.fire_due.Goals.{then-index+in_ok-changed, else-index}
use Rattle.bound_rounds.proofs.rounds.fire_due.Goals as goal

pub loop-place-preserved : goal.loop-place-preserved
loop-place-preserved c =
    let m = c.args.kind in
    let U = unfolding_of c.args.program.now in
    let E = c.args.envelope.now in
    let T = c.loop-place.table in
    let k = c.loop-place.place in
    let inv = c.loop-place.invariant in
    let h : k < length E.devices = omega (
      arith,
      c.loop-place-test.true,
      length-map c.devices-place-end.result.now
          maybe_device_of,
      ap length c.devices-place-end.ensures.value,
    ) in
    elim c.if-index.branch [
      | then-index+in_ok-changed w ↦ rw (w.table-is, w.changed-is) (record {
        bounds = inv.bounds;
        drafts = fit_set U E T.drafts.items k w.renew.new.draft inv.drafts
            (w.in_ok-changed.ensures.slots ∙ ap (λ (b : ExportBound). length b.slots.items)
            w.index_mut-then-index.ensures.value
            ∙ All-get_or (λ (b : ExportBound). length b.slots.items ≡ kept (unfolding_of c.args.program.now).main)
            T.drafts.items k w.index_mut-then-index.result.now
            (omega (arith, h, inv.drafts.many)) inv.drafts.slots);
        changed = length-set T.changed.items k w.in_ok-changed.changed ∙ inv.changed;
        due = length-set T.due.items k false ∙ inv.due;
        ahead = λ i l. get_or-set_other T.due.items k i false true (λ e. omega (arith, e, l))
            ∙ inv.ahead i (omega (arith, l));
        fired = λ t s i x l. fired_more m U E t T.changed.items T.drafts.items
            (slice_set T.drafts.items k w.renew.new.draft) k w.in_ok-changed.changed
            (omega (arith, h, inv.changed)) (inv.fired t s)
            (λ i x l. get_or-set_other T.drafts.items k i w.renew.new.draft x (λ e. omega (arith, e, l)))
            (λ x. let e = get_or-set_same T.drafts.items k w.renew.new.draft x (omega (arith, h, inv.drafts.many)) in
            let here = w.deref.ensures.value ∙ ap (λ v. v.items) inv.bounds in
            subst (IsFired m U E t (device_at E k) w.in_ok-changed.changed) (sym e)
            (is_fired m U E t c.args.table.now.bounds.items k w.in_ok-changed.changed w.renew.new.draft s h
            (w.in_ok-changed.ensures.next t (subst (Stand U E t) (sym here) s))
            (λ e. w.in_ok-changed.ensures.same e ∙ ap (λ bs. export_bound_in U (get_or bs k w.renew.new.draft)) here)
            (λ e q. w.in_ok-changed.ensures.other e (q ∙ sym (ap (λ bs. export_bound_in U
            (get_or bs k w.renew.new.draft)) here))))) i x (omega (arith, l));
      })
      | else-index w ↦ rw (w.table-is, w.changed-is) (record {
        bounds = inv.bounds;
        drafts = inv.drafts;
        changed = length-set T.changed.items k false ∙ inv.changed;
        due = inv.due;
        ahead = λ i l. inv.ahead i (omega (arith, l));
        fired = λ t s i x l. fired_more m U E t T.changed.items T.drafts.items T.drafts.items k false
            (omega (arith, h, inv.changed)) (inv.fired t s) (λ i x l. refl)
            (λ x. stays_fired m U E t c.args.table.now.due.items k (c.requires.ready.due t s) h
            (sym (inv.ahead k (omega arith))
            ∙ sym (get_or_read T.due.items k c.index.result.now (omega (arith, h, inv.due)) c.index.ensures true)
            ∙ w.if-index.false) (get_or T.drafts.items k x)) i x (omega (arith, l));
      })
    ]
