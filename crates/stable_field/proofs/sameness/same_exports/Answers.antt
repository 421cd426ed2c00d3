use Rattle.std.proofs.Common.{rules, arith, add-one, subst, get_or, None}
use Rattle.std.proofs.lemmas.List.{get_or_read}
use Rattle.stable_field.specs.Outside.{SameExport}
use Rattle.stable_field.proofs.OutsideSlots.{below_more, all_exports}
use Rattle.stable_field.proofs.sameness.same_exports.Goals as goal

pub loop-place-preserved : goal.loop-place-preserved
loop-place-preserved c =
    let w = c.loop-place-test.true in
    let l = c.if-a-b.false in
    let a = get_or_read c.args.a.now c.loop-place.place c.index-a-place.result w c.index-a-place.is None in
    let b = get_or_read c.args.b.now c.loop-place.place c.index-b-place.result (omega (arith, w, l)) c.index-b-place.is None in record {
      same = rw add-one (below_more (λ i. SameExport c.args.slots.now (get_or c.args.a.now i None) (get_or c.args.b.now i None)) c.loop-place.place c.loop-place.invariant.same
          (subst (λ x. SameExport c.args.slots.now x (get_or c.args.b.now c.loop-place.place None)) a (subst (SameExport c.args.slots.now c.index-a-place.result) b (c.if-not-same_export.ensures (search rules)))));
    }

pub returns : goal.returns
returns c = λ t. all_exports c.args.slots.now c.args.a.now c.args.b.now c.if-a-b.false (λ i h. let u = c.loop-place-test.false in c.loop-place.invariant.same i (omega (arith, h, u)))
