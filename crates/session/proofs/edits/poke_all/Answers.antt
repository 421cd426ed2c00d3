use Rattle.std.proofs.Common.{◌≡◌, ◌∙◌, length, sym, ap, arith}
use Rattle.std.specs.Vec.Iter.{into_iter_items}
use Rattle.session.proofs.Pokes.{poked_none, may_poke, poked_more, poked_all, nothing_left}
use Rattle.session.proofs.edits.poke_all.Goals as goal

pub loop-device-init : goal.loop-device-init
loop-device-init c =
    let all : into_iter_items c.into_iter-device-iterator.result ≡ c.args.exports.items = c.into_iter-device-iterator.ensures.into_iter_gives.0 in
    record {
      poked = poked_none c.args.book.now c.args.exports.items _ all c.requires;
      long = omega (arith, c.into_iter-device-iterator.ensures.into_iter_gives.1, ap length all, c.args.exports.ok.0);
    }

pub make-requires : goal.make-requires
make-requires c =
    may_poke _ c.loop-device.book _ (into_iter_items c.loop-device.device-iterator) _ c.in-Some.device c.in-Some.export c.in-Some.ensures.steps.0 c.loop-device.invariant.poked

pub loop-device-preserved : goal.loop-device-preserved
loop-device-preserved c =
    let steps = c.in-Some.ensures.steps.0 in
    let was = c.loop-device.invariant.long in
    let gone = c.in-Some.ensures.steps.1 in
    let short = ap length steps in
    record {
      poked = poked_more c.runs_cut.ensures.cut _ c.loop-device.book _ _ _ _ c.in-Some.device c.in-Some.export steps c.loop-device.invariant.poked c.in_ok-make.ensures;
      long = omega arith;
    }

pub returns : goal.returns
returns c =
    let none = c.in-None.ensures.steps in
    poked_all _ c.loop-device.book _ (into_iter_items c.loop-device.device-iterator) (nothing_left _ (sym c.loop-device.invariant.long ∙ none.0)) c.loop-device.invariant.poked
