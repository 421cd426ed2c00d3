use Rattle.std.proofs.Common.{map, option_map, length, ap, sym, ◌∙◌}
use Rattle.std.proofs.lemmas.List.{length-map}
use Rattle.std.proofs.lemmas.Result.{IfOk-weaker}
use Rattle.fc_nodes.specs.Program.{unfolding_of}
use Rattle.topology.specs.Networks.{net_device_of, numbers}
use Rattle.settle_rounds.specs.References.{settled_in}
use Rattle.settle_rounds.specs.Rounds.{any_table}
use Rattle.fc_check.specs.Code.{settled_answer}
use Rattle.fc_check.proofs.Lines.{are_settling}
use Rattle.fc_check.proofs.settles.settle_any.Goals as goal

pub returns : goal.returns
returns c =
    let U = unfolding_of c.args.program.now in
    let N = c.args.net.now in
    let v = c.in_ok-verdict.verdict in
    let text = c.in_ok-verdict.text.items in
    let os = map (option_map settled_in) c.in_ok-settled.settled.items in
    let ds = c.devices-devices.result.now in
    let made = are_settling c.args.facts U N (any_table U) v (length ds) c.settle_cap.result text os
    (record {
      many = sym (length-map ds net_device_of) ∙ ap length c.devices-devices.ensures.value;
      verdict = c.in_ok-verdict.ensures.verdict;
      cap = c.settle_cap.ensures;
      judged = c.in_ok-verdict.ensures.text;
      settled = c.in_ok-settled.ensures;
    }) in
    IfOk-weaker c.settled_answer.result _ _
    (λ r h. h ∙ ap (λ l. settled_answer v text (numbers N.devices) (map (option_map settled_in) l)) c.deref.ensures.value
    ∙ made) c.settled_answer.ensures
