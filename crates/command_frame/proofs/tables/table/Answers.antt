use Rattle.std.proofs.Common.{◌∙◌, ap}
use Rattle.topology.specs.Networks.{Network}
use Rattle.firing_core.specs.CoreViews.{core_of, program_of}
use Rattle.command_frame.proofs.Rows.{rows_all, table_rises}
use Rattle.command_frame.proofs.tables.table.Goals as goal

pub returns-clause-rising : goal.returns-clause-rising
returns-clause-rising c =
    table_rises (program_of c.args.core.now) (core_of c.args.core.now) _
    (rows_all _ _ _ _ _ c.loop-device.invariant.0 c.loop-device-test.false (c.devices-device-items.ensures.value
    ∙ ap (λ (n : Network). n.devices) c.net.ensures.value))
    c.net.ensures.core.net
