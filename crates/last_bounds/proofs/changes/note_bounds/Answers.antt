use Rattle.std.proofs.Common.{◌<◌, ◌∙◌, ◌||◌, not, refl, sym, ap, length, arith}
use Rattle.std.proofs.Common.{get_or-set_other}
use Rattle.std.specs.Prelude.{slice_set}
use Rattle.std.proofs.lemmas.List.{length-map}
use Rattle.envelopes.specs.Code.{maybe_device_of}
use Rattle.bound_rounds.proofs.Places.{device_sure}
use Rattle.last_bounds.proofs.Noting.{noted_more, here_noted, here_open}
use Rattle.last_bounds.proofs.changes.note_bounds.Goals.{then-counts+in_ok-note, else-counts}
use Rattle.last_bounds.proofs.changes.note_bounds.Goals as goal

pub loop-place-preserved : goal.loop-place-preserved
loop-place-preserved c =
    let E = c.args.envelope.now in
    let j = c.args.rounds in
    let bs = c.args.bounds.now in
    let old = c.args.changes.now in
    let now = c.loop-place.changes in
    let k = c.loop-place.place in
    let inv = c.loop-place.invariant in
    let b = c.index-bounds-place.result in
    let ds = c.devices-place-end.result.now in
    let within : k < length E.devices =
    omega (arith, c.loop-place-test.true, length-map ds maybe_device_of, ap length c.devices-place-end.ensures.value) in
    let few : k < length bs = omega (arith, within, c.requires.bounds) in
    let long : k < length now = omega (arith, within, c.requires.changes, c.loop-place.auto.changes) in
    let d = c.index-devices-place.result in
    let live = device_sure E c.devices.result.now k d c.devices.ensures.value c.devices.ensures.envelope within
    c.index-devices-place.is in
    let flag = c.counts.ensures ∙ ap (λ a. b.sure || not a) live in
    elim c.if-counts.branch [
      | then-counts+in_ok-note w ↦
          let x = w.note.new.changes in
          let had = w.index-changes-place.result in
          rw w.changes-is (record {
            noted = λ i e v m. noted_more E j bs k old now (slice_set now k x) inv.noted inv.ahead
                (λ i v q. get_or-set_other now k i x v q)
                (here_noted E j bs k now b few c.index-bounds-place.is (sym flag ∙ w.if-counts.true) had x long
                w.in_ok-note.ensures) i e v (omega (arith, m));
            ahead = λ i v l. get_or-set_other now k i x v (λ e. omega (arith, e, l)) ∙ inv.ahead i v (omega (arith, l));
          })
      | else-counts w ↦ rw w.changes-is (record {
        noted = λ i e v m. noted_more E j bs k old now now inv.noted inv.ahead (λ i v q. refl)
            (here_open E j bs k now b few c.index-bounds-place.is (sym flag ∙ w.if-counts.false)) i e v
            (omega (arith, m));
        ahead = λ i v l. inv.ahead i v (omega (arith, l));
      })
    ]
