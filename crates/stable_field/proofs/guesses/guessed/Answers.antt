use Rattle.std.proofs.Common.{◌≤◌, [], ◌∷◌, arith, length, length-append, ap, subst, sym}
use Rattle.std.proofs.lemmas.List.{length-map}
use Rattle.topology.specs.Networks.{net_device_of}
use Rattle.fc_nodes.specs.Program.{unfolding_of}
use Rattle.value_trees.specs.Copies.{WhereSome}
use Rattle.value_trees.specs.Snaps.{IsExportOf}
use Rattle.stable_field.proofs.Firings.{exports_more}
use Rattle.stable_field.proofs.guesses.guessed.Goals as goal

pub loop-place-preserved : goal.loop-place-preserved
loop-place-preserved c = record {
  many = let h = c.loop-place.invariant.many in omega (arith, h, ap length c.in_ok-push.ensures.items, length-append c.loop-place.table.items (c.in_ok-slot.slot ∷ []));
  exports = rw c.in_ok-push.ensures.items (exports_more (unfolding_of c.args.program.now) c.loop-place.table.items c.in_ok-slot.slot c.loop-place.invariant.exports
      (subst (WhereSome (IsExportOf (unfolding_of c.args.program.now))) (sym c.in_ok-slot.ensures) c.typed_at-typed.ensures));
}

pub returns : goal.returns
returns c =
    let h : length c.devices-count.result.now ≤ c.loop-place.place = c.loop-place-test.false in
    let k : c.loop-place.place ≤ length c.devices-count.result.now = c.loop-place.auto.place-end in
    let m = c.loop-place.invariant.many in
    let m' = length-map c.devices-count.result.now net_device_of in
    let v = ap length c.devices-count.ensures.value in
    record { many = omega (arith, h, k, m, m', v); exports = c.loop-place.invariant.exports }
