use Rattle.std.proofs.Common.{◌∙◌, sym, ap, map, arith, List, []}
use Rattle.std.proofs.lemmas.List.{length-map}
use Rattle.fc_values.specs.declared.types.InputDecl.{InputDecl}
use Rattle.fc_values.specs.Types.{input_of, declarations_of}
use Rattle.topology.specs.declared.types.Device.{Device}
use Rattle.topology.specs.Networks.{net_device_of, numbers}
use Rattle.topology.specs.Changes.{twice_fault, devices_fault}
use Rattle.topology.proofs.Making.{refuses_twice, refuses_misfit}
use Rattle.topology.proofs.networks.Network.new.Goals as goal

pub returns-in-Some-clause-refused : goal.returns-in-Some-clause-refused
returns-in-Some-clause-refused c =
    refuses_twice (declarations_of c.args.declared) (map net_device_of c.args.devices.items) c.in-Some.fault
    (λ e. c.if-count-eq0.false (c.len-count.ensures ∙ c.args.devices.ok.0 ∙ sym (length-map c.args.devices.items net_device_of) ∙ e))
    (λ e. omega (arith, c.if-count-gt-MOST_DEVICES.false, c.len-count.ensures, c.args.devices.ok.0, length-map c.args.devices.items net_device_of))
    (ap (λ (xs : List Device). twice_fault 0 [] (numbers (map net_device_of xs))) (sym c.deref.ensures.value) ∙ sym c.first_twice.ensures ∙ c.in-Some.is)

pub returns-in-Some-first_misfit-clause-refused : goal.returns-in-Some-first_misfit-clause-refused
returns-in-Some-first_misfit-clause-refused c =
    refuses_misfit (declarations_of c.args.declared) (map net_device_of c.args.devices.items) c.in-Some-first_misfit.fault
    (λ e. c.if-count-eq0.false (c.len-count.ensures ∙ c.args.devices.ok.0 ∙ sym (length-map c.args.devices.items net_device_of) ∙ e))
    (λ e. omega (arith, c.if-count-gt-MOST_DEVICES.false, c.len-count.ensures, c.args.devices.ok.0, length-map c.args.devices.items net_device_of))
    (ap (λ (xs : List Device). twice_fault 0 [] (numbers (map net_device_of xs))) (sym c.deref.ensures.value) ∙ sym c.first_twice.ensures ∙ c.in_default.is)
    (ap (λ (is : List InputDecl). devices_fault 0 (map input_of is) (map net_device_of c.args.devices.items)) (sym c.deref-2.ensures.value)
    ∙ ap (λ (xs : List Device). devices_fault 0 (map input_of c.deref-2.result.now) (map net_device_of xs)) (sym c.deref-3.ensures.value)
    ∙ sym c.first_misfit.ensures ∙ c.in-Some-first_misfit.is)
