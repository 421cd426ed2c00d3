use Rattle.std.proofs.Common.{◌∙◌, refl, sym, ap, subst, arith, None, map}
use Rattle.std.proofs.lemmas.List.{get_or_read}
use Rattle.fc_values.specs.Values.{local_of}
use Rattle.fc_nodes.specs.Program.{unfolding_of}
use Rattle.value_trees.specs.Snaps.{tree_of}
use Rattle.device_eval.specs.Copies.{EvaluatesCopy}
use Rattle.topology.specs.Networks.{numbers}
use Rattle.firing_core.specs.Cores.{copy_of}
use Rattle.stable_field.specs.Tables.{table_of, heard_from}
use Rattle.stable_field.proofs.Beginning.{number_at, device_inputs, begun, begun_copy}
use Rattle.stable_field.proofs.firing.fired.Goals as goal

pub publish-requires : goal.publish-requires
publish-requires c =
    let w = c.requires.within in
    let N = c.args.net.now in
    let x = c.index-devices-place.result in
    begun (unfolding_of c.args.program.now) N c.args.table.now.items c.requires.table c.devices.ensures.network c.requires.declared c.args.place x.id w
    (number_at N c.devices.result.now c.args.place x c.devices.ensures.value w c.index-devices-place.is)
    (record { device = x.id; inputs = c.in_ok-inputs.inputs; own = c.in_ok-own.own; near = c.in_ok-near.near }) refl
    (c.in_ok-inputs.ensures ∙ ap (map local_of) c.deref.ensures.value ∙ device_inputs N c.devices.result.now c.args.place x c.devices.ensures.value c.devices.ensures.network w c.index-devices-place.is)
    (c.in_ok-own.ensures ∙ get_or_read c.args.table.now.items _ _ (omega (arith, w, c.requires.table.many)) c.index.ensures None)
    (c.in_ok-near.ensures ∙ ap (heard_from (numbers N.devices) c.args.table.now.items) c.neighbours.ensures.value)
    c.faultless_steps.ensures.copy

pub returns : goal.returns
returns c =
    let U = unfolding_of c.args.program.now in
    let w = c.requires.within in
    let N = c.args.net.now in
    let x = c.index-devices-place.result in
    let at = number_at N c.devices.result.now c.args.place x c.devices.ensures.value w c.index-devices-place.is in
    let copy = begun_copy U N c.args.table.now.items c.requires.table c.devices.ensures.network c.requires.declared c.args.place x.id w at
    (record { device = x.id; inputs = c.in_ok-inputs.inputs; own = c.in_ok-own.own; near = c.in_ok-near.near }) refl
    (c.in_ok-inputs.ensures ∙ ap (map local_of) c.deref.ensures.value ∙ device_inputs N c.devices.result.now c.args.place x c.devices.ensures.value c.devices.ensures.network w c.index-devices-place.is)
    (c.in_ok-own.ensures ∙ get_or_read c.args.table.now.items _ _ (omega (arith, w, c.requires.table.many)) c.index.ensures None)
    (c.in_ok-near.ensures ∙ ap (heard_from (numbers N.devices) c.args.table.now.items) c.neighbours.ensures.value) in
    let fired = c.in_ok-publish.ensures in record {
      export = fired.export;
      evaluates = subst (λ s. EvaluatesCopy U s (tree_of U c.in_ok-publish.field-0)) (copy ∙ ap (copy_of N (table_of U N c.args.table.now.items)) (sym at)) fired.evaluates;
    }
