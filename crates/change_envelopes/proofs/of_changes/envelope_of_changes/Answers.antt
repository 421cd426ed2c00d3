use Rattle.std.proofs.Common.{◌≡◌, ◌∙◌, sym, ap, subst, map, List}
use Rattle.std.proofs.lemmas.Result.{IfOk-weaker}
use Rattle.fc_values.specs.Types.{declarations_of, input_of}
use Rattle.fc_values.specs.declared.types.InputDecl.{InputDecl}
use Rattle.envelopes.specs.Code.{envelope_of, maybe_device_of, maybe_link_of}
use Rattle.changes.specs.Code.{line_in}
use Rattle.changes.specs.Hand.{said}
use Rattle.change_envelopes.specs.Envelopes.{IsEnvelopeOf}
use Rattle.change_envelopes.specs.Written.{row_by, devices_by}
use Rattle.change_envelopes.proofs.Assembled.{SaidInTables, assembled, written_same}
use Rattle.change_envelopes.proofs.of_changes.envelope_of_changes.Goals.{In_ok-links}
use Rattle.change_envelopes.proofs.of_changes.envelope_of_changes.Goals as goal

whole : (c : In_ok-links) → IsEnvelopeOf c.args.network.now (said (map line_in c.args.lines.now))
    (envelope_of (declarations_of c.in_ok-declared.declared) (map maybe_device_of c.in_ok-devices.devices.items) (map maybe_link_of c.in_ok-links.links.items))
whole c =
    let n = c.args.network.now in
    let ls = map line_in c.args.lines.now in
    let devices = c.in_ok-at_hand.at_hand in
    let bounds = c.in_ok-bounds.bounds in
    let pairs = c.in_ok-pairs.pairs in
    let declared : declarations_of c.in_ok-declared.declared ≡ n.declared = c.in_ok-declared.ensures ∙ c.declared.ensures.value in
    let same = written_same n devices bounds pairs (declarations_of c.in_ok-declared.declared) (map maybe_device_of c.in_ok-devices.devices.items)
    (map maybe_link_of c.in_ok-links.links.items) declared
    (c.in_ok-devices.ensures.devices
    ∙ ap (λ (xs : List InputDecl). devices_by (row_by bounds (map input_of xs)) devices.entries) c.deref.ensures.value)
    c.in_ok-links.ensures.links in
    let tables : SaidInTables n ls devices bounds pairs = record {
      network = c.declared.ensures.network;
      metric = c.requires.metric;
      accepted = c.requires.accepted;
      devices_order = c.in_ok-devices.ensures.rising;
      pairs_order = c.in_ok-links.ensures.rising;
      present = c.in_ok-at_hand.ensures;
      bounds = c.in_ok-bounds.ensures;
      paired = c.in_ok-pairs.ensures;
    } in
    subst (IsEnvelopeOf n (said ls)) (sym same) (assembled n ls devices bounds pairs tables)

pub new-requires : goal.new-requires
new-requires c = (whole c).envelope

pub returns : goal.returns
returns c =
    IfOk-weaker c.new.result _ _
    (λ e is. subst (IsEnvelopeOf c.args.network.now (said (map line_in c.args.lines.now))) (sym is) (whole (goal.at.returns c).In_ok-links)) c.new.ensures
