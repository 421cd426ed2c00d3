use Rattle.std.proofs.Common.{ap, ◌∙◌}
use Rattle.fc_syntax.specs.Terms.{program_of}
use Rattle.command_frame.specs.Answers.{plain}
use Rattle.command_frame.specs.Causes.{Refused}
use Rattle.command_frame.proofs.Stopping.{stop_is}
use Rattle.fc_format.specs.Formats.{Formats}
use Rattle.fc_format.proofs.Formatting.{format_stops, format_prints}
use Rattle.fc_format.proofs.formats.of_text.Goals as goal

pub returns-in_err-program-clause-refused : goal.returns-in_err-program-clause-refused
returns-in_err-program-clause-refused c =
    stop_is (λ cause. Formats c.args.program.now (Refused cause)) c.from_residual.result _ c.from_residual.ensures.1 (format_stops c.args.program.now c.in_err-program.field-0.0 c.in_err-program.ensures.refused)

pub returns-clause-formats : goal.returns-clause-formats
returns-clause-formats c =
    format_prints c.args.program.now (program_of c.in_ok-program.program) _ c.in_ok-program.ensures.source (c.plain.ensures ∙ ap (plain 0) c.in_ok-text.ensures)
