use Rattle.std.proofs.Common.{◌∙◌, sym, ap, arith, None}
use Rattle.std.specs.Option.{option_copied}
use Rattle.std.proofs.lemmas.List.{get_or_read}
use Rattle.topology.specs.Networks.{numbers}
use Rattle.firing_core.proofs.Slots.{slot_none}
use Rattle.stable_field.proofs.Slots.{slot_read}
use Rattle.stable_field.proofs.firing.held.Goals as goal

pub returns-in_err-place : goal.returns-in_err-place
returns-in_err-place c =
    ap option_copied c.from_residual.ensures ∙ sym (slot_none (numbers c.args.net.now.devices) c.args.table.now.items c.args.device c.in_err-place.ensures.none)

pub returns : goal.returns
returns c =
    let w = c.in_ok-place.ensures.within in
    let xs = c.args.table.now.items in
    c.as_ref.ensures.value ∙ sym (slot_read c.args.net.now c.in_ok-place.ensures.network xs c.in_ok-place.place c.args.device _ c.requires w c.in_ok-place.ensures.there
    (get_or_read xs _ _ (omega (arith, c.requires, w)) c.index.ensures None))
