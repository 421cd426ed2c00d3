use Rattle.std.proofs.Common.{◌∙◌, ap, sym, subst}
use Rattle.fc_values.specs.Fields.{Rises}
use Rattle.topology.specs.Networks.{Network}
use Rattle.fc_replay.proofs.DeviceNumbers.{live_numbers}
use Rattle.fc_replay.proofs.texts.live.Goals as goal

pub returns-clause-live : goal.returns-clause-live
returns-clause-live c = live_numbers _ _ c.args.core.now.net c.in_ok-live.ensures (c.devices.ensures.value
    ∙ ap (λ (n : Network). n.devices) c.net.ensures.value)

pub returns-clause-rising : goal.returns-clause-rising
returns-clause-rising c =
    subst Rises
    (sym (live_numbers _ _ c.args.core.now.net c.in_ok-live.ensures (c.devices.ensures.value
    ∙ ap (λ (n : Network). n.devices) c.net.ensures.value))) c.net.ensures.core.net.rising
