use Rattle.std.proofs.Common.{ap, ◌∙◌}
use Rattle.fc_nodes.specs.Program.{unfolding_of}
use Rattle.firing_core.specs.Entries.{edit_of}
use Rattle.edit_commands.specs.Lines.{words_of}
use Rattle.edit_commands.specs.Code.{texts}
use Rattle.log_lines.proofs.EditEntries.{edit_entry, edit_entry_refused}
use Rattle.log_lines.proofs.reading.read_edit_entry.Goals as goal

pub returns-in-Ok-clause-ok : goal.returns-in-Ok-clause-ok
returns-in-Ok-clause-ok c =
    edit_entry (unfolding_of c.args.program.now) c.args.net.now c.read_edit.new.net (edit_of c.in-Ok.edit) c.args.net.now.declared.inputs _ (words_of c.args.text.now)
    (ap texts c.deref.ensures.value ∙ c.in_ok-words.ensures) c.in-Ok.ensures.ok

pub returns-clause-refused : goal.returns-clause-refused
returns-clause-refused c =
    edit_entry_refused (unfolding_of c.args.program.now) c.args.net.now c.args.net.now.declared.inputs _ (words_of c.args.text.now) c.in-Err.fault
    (ap texts c.deref.ensures.value ∙ c.in_ok-words.ensures) c.in-Err.ensures.refused
