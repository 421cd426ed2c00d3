use Rattle.std.proofs.Common.{◌≡◌, ◌∙◌, sym, ap, subst, map, List}
use Rattle.fc_values.specs.Types.{Declarations, declarations_of}
use Rattle.envelopes.specs.Envelopes.{Envelope, MaybeDevice, MaybeLink, IsEnvelope}
use Rattle.envelopes.specs.Exactly.{exact_envelope, exact_device, exact_link}
use Rattle.envelopes.specs.Code.{envelope_of, maybe_device_of, maybe_link_of}
use Rattle.envelopes.proofs.Exact.{exact_is}
use Rattle.envelopes.proofs.of_network.exact_envelope.Goals as goal

parts_same : {D G : Declarations} {ms ks : List MaybeDevice} {ls js : List MaybeLink} → D ≡ G → ms ≡ ks → ls ≡ js
    → envelope_of D ms ls ≡ envelope_of G ks js
parts_same {D} {G} {ms} {ks} {ls} {js} d m l =
    ap (λ x. envelope_of x ms ls) d ∙ ap (λ x. envelope_of G x ls) m ∙ ap (envelope_of G ks) l

pub new-requires : goal.new-requires
new-requires c =
    let same : envelope_of (declarations_of c.in_ok-declared.declared)
    (map maybe_device_of c.in_ok-devices.devices.items)
    (map maybe_link_of c.in_ok-links.links.items) ≡ exact_envelope c.args.network.now =
    parts_same (c.in_ok-declared.ensures ∙ c.declared.ensures.value)
    (c.in_ok-devices.ensures ∙ ap (map exact_device) c.devices.ensures.value)
    (c.in_ok-links.ensures ∙ ap (map exact_link) c.links.ensures.value) in
    subst IsEnvelope (sym same) (exact_is c.args.network.now c.declared.ensures.network)
