use Rattle.std.proofs.Common.{◌≡◌, map, option_map, length, ap, sym, ◌∙◌}
use Rattle.std.proofs.lemmas.List.{length-map}
use Rattle.std.proofs.lemmas.Result.{IfOk-weaker}
use Rattle.fc_nodes.specs.Program.{Program, unfolding_of}
use Rattle.topology.specs.Networks.{Network, net_device_of, numbers}
use Rattle.firing_core.specs.CoreViews.{core_of, program_of}
use Rattle.firing_core.specs.Cores.{Core}
use Rattle.fragment_check.specs.Verdicts.{verdict_of}
use Rattle.settle_rounds.specs.References.{settled_in}
use Rattle.net_json.specs.SceneCode.{value_of_scene}
use Rattle.verdict_texts.specs.VerdictTexts.{checked_text}
use Rattle.command_frame.specs.Causes.{Accepted}
use Rattle.command_frame.specs.Starts.{start_of}
use Rattle.fc_check.specs.Code.{settled_answer}
use Rattle.fc_check.proofs.Lines.{are_settling, as_many}
use Rattle.fc_check.proofs.Settling.{from_start}
use Rattle.fc_check.proofs.settles.settle_scene.Goals as goal

pub settled_answer-requires : goal.settled_answer-requires
settled_answer-requires c =
    let core = c.in_ok-core.core in
    let from = c.in_ok-settled.ensures.settled in
    ap length c.deref-2.ensures.value
    ∙ as_many (program_of core) core.net from.table c.settle_cap.result c.in_ok-settled.settled.items from.settled
    ∙ ap (λ (N : Network). length N.devices) (sym (c.net-2.ensures.value ∙ c.settle_from.ensures.same.net))

pub returns : goal.returns
returns c =
    let P = c.args.program in
    let s = value_of_scene (unfolding_of P) c.args.scene in
    let core = c.in_ok-core.core in
    let same : c.in_ok-program.program.value ≡ P = c.in_ok-program.ensures.ok in
    let starts : core_of core ≡ start_of s =
    c.in_ok-core.ensures.core ∙ ap (λ (Q : Program). start_of (value_of_scene (unfolding_of Q) c.args.scene)) same in
    let os = map (option_map settled_in) c.in_ok-settled.settled.items in
    let from = from_start P s core c.settle_cap.result os (c.in_ok-core.ensures.program ∙ same) starts
    c.in_ok-settled.ensures.settled in
    let v = c.in_ok-verdict.verdict in
    let ds = c.devices-devices.result.now in
    let n = length ds in
    let text = c.in_ok-verdict.text.items in
    let made = are_settling c.args.facts (unfolding_of P) s.net from.table v n c.settle_cap.result text os (record {
      many = sym (length-map ds net_device_of)
          ∙ ap length (c.devices-devices.ensures.value ∙ ap (λ (N : Network). N.devices) c.net.ensures.value)
          ∙ ap (λ (k : Core). length k.net.devices) starts;
      verdict = c.in_ok-verdict.ensures.verdict
          ∙ ap (λ (Q : Program). verdict_of (unfolding_of Q) n) (c.deref.ensures ∙ same);
      cap = c.settle_cap.ensures;
      judged = c.in_ok-verdict.ensures.text
          ∙ ap (λ (Q : Program). checked_text c.args.facts (unfolding_of Q) n) (c.deref.ensures ∙ same);
      settled = from.settled;
    }) in
    let net : c.net-2.result.now ≡ s.net =
    c.net-2.ensures.value ∙ c.settle_from.ensures.same.net ∙ ap (λ (k : Core). k.net) starts in
    IfOk-weaker c.settled_answer.result _ _ (λ r h. record {
      table = from.table;
      starts = from.starts;
      settled = ap Accepted
          (h ∙ ap (λ (N : Network). settled_answer v text (numbers N.devices)
          (map (option_map settled_in) c.deref-2.result.now)) net
          ∙ ap (λ l. settled_answer v text (numbers s.net.devices) (map (option_map settled_in) l)) c.deref-2.ensures.value
          ∙ made);
    }) c.settled_answer.ensures
