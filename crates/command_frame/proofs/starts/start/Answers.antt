use Rattle.std.proofs.Common.{◌∙◌}
use Rattle.fc_nodes.specs.Program.{unfolding_of}
use Rattle.command_frame.proofs.Starting.{is_table, is_pending, starts_from}
use Rattle.command_frame.proofs.starts.start.Goals as goal

pub returns-clause-core : goal.returns-clause-core
returns-clause-core c = c.in_ok-start.ensures.core
    ∙ starts_from (unfolding_of c.args.program.now.value) c.args.scene.net c.args.scene.table.items
    c.args.scene.pending.items

pub new-requires-clause-table : goal.new-requires-clause-table
new-requires-clause-table c = is_table _ _ _ c.requires.rows

pub new-requires-clause-pending : goal.new-requires-clause-pending
new-requires-clause-pending c = is_pending _ _ _ c.requires.copies
