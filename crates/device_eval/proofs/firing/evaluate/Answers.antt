use Rattle.std.proofs.Common.{ℕ, arith, ap, length, subst, sym}
use Rattle.std.proofs.lemmas.List.{length-map}
use Rattle.fc_values.specs.Values.{local_of}
use Rattle.fc_values.specs.Exports.{slots_of}
use Rattle.fc_nodes.specs.Program.{unfolding_of}
use Rattle.fc_nodes.specs.Flat.{IsExport, tree_export}
use Rattle.device_eval.specs.Copies.{EvaluatesCopy}
use Rattle.value_trees.specs.Snaps.{near_copy, snap_copy}
use Rattle.alignment.specs.References.{flat_of}
use Rattle.device_eval.proofs.RootSteps.{root_ready, root_may, root_export, root_evaluates, situation_as}
use Rattle.device_eval.proofs.KindSteps.{root_within, root_value}
use Rattle.device_eval.proofs.firing.evaluate.Goals as goal

pub root_env-requires : goal.root_env-requires
root_env-requires c =
    let few = c.requires.fits.few in
    let long = length-map c.args.snap.now.near.items (near_copy (unfolding_of c.args.program.now)) in
    omega (arith, few, long)

pub eval-requires : goal.eval-requires
eval-requires c =
    let S = situation_as c.args.program.now c.args.snap.now c.as_slice-inputs.result.now
    c.as_slice-inputs.ensures.value in
    record {
      ready =
          root_ready c.args.program.now c.layout-layout.ensures.program c.args.snap.now c.requires
          c.layout-layout.result.now c.layout-layout.ensures.layout (flat_of c.in_ok-env.env) c.in_ok-env.ensures
          (slots_of c.in_ok-draft.draft) c.in_ok-draft.ensures _ S;
      may =
          root_may c.args.program.now c.layout-layout.ensures.program c.args.snap.now c.requires
          c.layout-layout.result.now c.layout-layout.ensures.layout (flat_of c.in_ok-env.env) c.in_ok-env.ensures
          (slots_of c.in_ok-draft.draft) c.in_ok-draft.ensures _ S;
      sees = record { below = tt; own = c.own_row.ensures };
    }

pub value_at-requires-clause-within : goal.value_at-requires-clause-within
value_at-requires-clause-within c =
    let place = sym (ap (length {A = ℕ}) c.take-words.ensures) in
    rw c.deref.ensures.value
    (root_within c.node.result.now c.layout-layout.ensures.program c.node.ensures.node c.inner.ensures
    c.in_ok-eval.ensures place)

pub returns : goal.returns
returns c =
    let P = c.args.program.now in
    let S = situation_as P c.args.snap.now c.as_slice-inputs.result.now c.as_slice-inputs.ensures.value in
    let place = sym (ap (length {A = ℕ}) c.take-words.ensures) in
    let is = root_value c.node.result.now c.layout-layout.ensures.program c.node.ensures.node c.inner.ensures
    c.in_ok-eval.ensures place
    (rw c.deref.ensures.value at c.in_ok-value.ensures) in
    let export = root_export P c.layout-layout.ensures.program c.args.snap.now c.requires c.layout-layout.result.now
    c.layout-layout.ensures.layout (flat_of c.in_ok-env.env) c.in_ok-env.ensures (slots_of c.in_ok-draft.draft)
    c.in_ok-draft.ensures
    _ S _ (slots_of c.eval.new.draft) c.in_ok-eval.ensures.did (local_of c.in_ok-value.value) is in
    let evaluates = root_evaluates P c.layout-layout.ensures.program c.args.snap.now c.requires
    c.layout-layout.result.now c.layout-layout.ensures.layout (flat_of c.in_ok-env.env) c.in_ok-env.ensures
    (slots_of c.in_ok-draft.draft) c.in_ok-draft.ensures
    _ S _ (slots_of c.eval.new.draft) c.in_ok-eval.ensures.did (local_of c.in_ok-value.value) is in
    record {
      snap = c.requires;
      export = subst (IsExport (unfolding_of P)) (sym c.finish.ensures) export;
      evaluates =
          subst (λ x. EvaluatesCopy (unfolding_of P) (snap_copy (unfolding_of P) c.args.snap.now)
          (tree_export (unfolding_of P) x)) (sym c.finish.ensures) evaluates;
    }
