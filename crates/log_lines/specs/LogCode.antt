-- What contracts see of the code that reads logs.
use Rattle.std.specs.Prelude.{ℕ, List}
use Rattle.fc_nodes.specs.Program.{Program, unfolding_of}
use Rattle.topology.specs.Networks.{Network}
use Rattle.firing_core.specs.declared.entries.Entry.{Entry}
use Rattle.firing_core.specs.Entries.{entry_of}
use Rattle.edit_commands.specs.declared.types.Fault.{Fault}
use Rattle.edit_commands.specs.LineByLine.{Judgement, WhereAccepted}
use Rattle.log_lines.specs.Logs.{LogLine, DoesEntry, edit_text_judged, log_line_judged}

-- the entry of a judged line, with the network after it
abbrev pub IsEntryOf : Program → Network → Network → Judgement Fault LogLine → Entry → Type 0
IsEntryOf p n after judged e = WhereAccepted (DoesEntry (unfolding_of p) n after (entry_of e)) judged

-- a line, and one that is an edit, judged
abbrev pub line_in : Program → Network → List ℕ → Judgement Fault LogLine
line_in p n text = log_line_judged (unfolding_of p) n text

abbrev pub edit_text_in : Program → Network → List ℕ → Judgement Fault LogLine
edit_text_in p n text = edit_text_judged (unfolding_of p) n text
