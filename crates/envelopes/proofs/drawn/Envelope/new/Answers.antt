use Rattle.std.proofs.Common.{◌∙◌, sym, ap, subst, map}
use Rattle.fc_values.specs.Types.{declarations_of}
use Rattle.envelopes.specs.Envelopes.{ids}
use Rattle.envelopes.specs.Code.{EndsFit, maybe_device_of, maybe_link_of, near_each}
use Rattle.envelopes.proofs.Placing.{ends_fit}
use Rattle.envelopes.proofs.drawn.Envelope.new.Goals as goal

pub invariant_of-result : goal.invariant_of-result
invariant_of-result c = record {
  envelope = c.requires;
  near = c.in_ok-near.ensures
      ∙ ap (λ ds. near_each (ids (map maybe_device_of ds)) (map maybe_link_of c.deref-2.result.now))
      c.deref.ensures.value
      ∙ ap (λ ls. near_each (ids (map maybe_device_of c.args.devices.items)) (map maybe_link_of ls))
      c.deref-2.ensures.value;
}

pub near_lists-requires-clause-links : goal.near_lists-requires-clause-links
near_lists-requires-clause-links c =
    subst (λ ds. EndsFit (ids (map maybe_device_of ds)) (map maybe_link_of c.deref-2.result.now))
    (sym c.deref.ensures.value)
    (subst (λ ls. EndsFit (ids (map maybe_device_of c.args.devices.items)) (map maybe_link_of ls))
    (sym c.deref-2.ensures.value)
    (ends_fit (declarations_of c.args.declared) (ids (map maybe_device_of c.args.devices.items))
    (map maybe_link_of c.args.links.items) c.requires.links))
