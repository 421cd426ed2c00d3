use Rattle.std.proofs.Common.{◌≡◌, length, ap, sym, ◌∙◌, subst}
use Rattle.std.proofs.lemmas.Result.{IfOk-weaker}
use Rattle.fc_nodes.specs.Program.{Program, unfolding_of}
use Rattle.firing_core.specs.CoreViews.{core_of}
use Rattle.bound_rounds.specs.Tables.{Stand}
use Rattle.settle_rounds.specs.Starts.{growing_cap}
use Rattle.net_json.specs.SceneCode.{value_of_scene}
use Rattle.command_frame.specs.Code.{value_of}
use Rattle.command_frame.specs.Starts.{start_of}
use Rattle.fc_changes.specs.Commands.{IsWritten}
use Rattle.fc_changes.proofs.Starting.{from_start}
use Rattle.fc_changes.proofs.starts.from_scene.Goals as goal

pub returns : goal.returns
returns c =
    let P = c.args.program in
    let s = value_of_scene (unfolding_of P) c.args.scene in
    let E = c.args.envelope.now in
    let core = c.in_ok-core.core in
    let same : c.in_ok-program.program.value ≡ P = c.in_ok-program.ensures.ok in
    let of_core : core.program ≡ P = c.in_ok-core.ensures.program ∙ same in
    let starts : core_of core ≡ start_of s =
    c.in_ok-core.ensures.core ∙ ap (λ (Q : Program). start_of (value_of_scene (unfolding_of Q) c.args.scene)) same in
    let b = from_start P s E core (growing_cap (length E.devices)) c.in_ok-bounds.bounds.items of_core starts
    c.in_ok-bounds.ensures.start in
    let here : c.deref.result.now ≡ P =
    c.deref.ensures ∙ c.program.ensures.value ∙ c.in_ok-bounds.ensures.same.program ∙ of_core in
    let stands : Stand (unfolding_of c.deref.result.now) E b.table c.in_ok-bounds.bounds.items =
    subst (λ (Q : Program). Stand (unfolding_of Q) E b.table c.in_ok-bounds.bounds.items) (sym here) b.stands in
    IfOk-weaker c.of_start.result _ _ (λ a h. record {
      table = b.table;
      starts = b.starts;
      written = subst (λ (Q : Program). IsWritten c.args.options (unfolding_of Q) E b.table (value_of a)) here
          (h b.table stands);
    }) c.of_start.ensures
