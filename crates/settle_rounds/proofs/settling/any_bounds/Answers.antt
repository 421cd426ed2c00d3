use Rattle.std.proofs.Common.{◌≡◌, ◌≤◌, length, ap, arith}
use Rattle.std.proofs.lemmas.List.{length-map}
use Rattle.std.proofs.lemmas.List.Elements.{All-get_or}
use Rattle.fc_nodes.specs.Program.{unfolding_of}
use Rattle.envelopes.specs.Code.{maybe_device_of}
use Rattle.bound_firing.specs.declared.firing.ExportBound.{ExportBound}
use Rattle.bound_firing.specs.Exports.{any_export}
use Rattle.bound_firing.specs.ExportReferences.{export_bound_in}
use Rattle.settle_rounds.specs.Rounds.{any_table}
use Rattle.bound_rounds.proofs.Standing.{at_stand}
use Rattle.settle_rounds.proofs.settling.any_bounds.Goals as goal

pub returns-clause-any : goal.returns-clause-any
returns-clause-any c =
    let U = unfolding_of c.args.program.now in
    let l : length c.devices-count.result.now ≤ c.loop.counter = c.loop-test.false in
    let n : length c.loop.bounds.items ≡ length c.args.envelope.now.devices =
    omega (
      arith,
      c.loop.invariant.many,
      l,
      c.loop.auto.counter-end,
      length-map c.devices-count.result.now maybe_device_of,
      ap
          length c.devices-count.ensures.value,
    ) in
    at_stand U c.args.envelope.now (any_table U) c.loop.bounds.items n
    (λ i x h. All-get_or (λ (e : ExportBound). export_bound_in (unfolding_of c.args.program.now) e
    ≡ any_export (unfolding_of c.args.program.now)) c.loop.bounds.items i x (omega (arith, h, n))
    c.loop.invariant.first)
