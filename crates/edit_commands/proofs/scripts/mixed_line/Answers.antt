use Rattle.std.proofs.Common.{map, sym, ◌∙◌}
use Rattle.fc_values.specs.Types.{input_of}
use Rattle.edit_commands.specs.EditLines.{edit_line}
use Rattle.edit_commands.specs.Code.{texts}
use Rattle.edit_commands.proofs.ScriptEdits.{mixed_read}
use Rattle.edit_commands.proofs.scripts.mixed_line.Goals as goal

pub returns-then-is_mixed-clause-says : goal.returns-then-is_mixed-clause-says
returns-then-is_mixed-clause-says c =
    mixed_read (edit_line (map input_of c.args.inputs.now) (texts c.args.words.now)) c.in_ok-line.field-0 c.in-Some.line c.in_ok-line.ensures.says c.in-Some.is (sym c.is_mixed.ensures ∙ c.if-is_mixed.true)
