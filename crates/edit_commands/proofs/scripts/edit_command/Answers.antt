use Rattle.std.proofs.Common.{map, ap}
use Rattle.fc_values.specs.Types.{input_of}
use Rattle.firing_core.specs.Entries.{edit_of}
use Rattle.edit_commands.specs.EditLines.{edit_line}
use Rattle.edit_commands.specs.Code.{texts, line_of}
use Rattle.edit_commands.specs.ScriptCode.{progress_of, start_in}
use Rattle.edit_commands.proofs.ReadEdits.{same_inputs, is_read}
use Rattle.edit_commands.proofs.ScriptEdits.{do_ok, do_refused, edit_within}
use Rattle.edit_commands.proofs.scripts.edit_command.Goals as goal

pub returns-in-Ok-clause-ok : goal.returns-in-Ok-clause-ok
returns-in-Ok-clause-ok c =
    let is = same_inputs c.declared.result.now _ c.args.context.now.program.now.declared c.args.progress.now.net c.declared.ensures.value c.requires.declared (ap (map input_of) c.deref.ensures.value) in
    let read = is_read (λ ks. edit_line ks (texts c.args.words.now)) _ c.args.progress.now.net.declared.inputs c.in_ok-line.field-0 c.in-Some.line is c.in_ok-line.ensures.says c.in-Some.is in
    record {
      does = do_ok c.args.context.now.program.now c.declared.ensures.program (start_in c.args.context.now) (progress_of c.args.progress.now) _ (line_of c.in-Some.line) read (edit_of c.in-Ok.edit)
          (progress_of c.do_line.new.progress) c.in-Ok.ensures.says c.in-Ok.ensures.fits c.in-Ok.ensures.allowed c.in-Ok.ensures.after;
      within = edit_within _ _ _ c.requires.within c.in-Ok.ensures.after;
    }

pub returns-in-Err-clause-refused : goal.returns-in-Err-clause-refused
returns-in-Err-clause-refused c =
    let is = same_inputs c.declared.result.now _ c.args.context.now.program.now.declared c.args.progress.now.net c.declared.ensures.value c.requires.declared (ap (map input_of) c.deref.ensures.value) in
    let read = is_read (λ ks. edit_line ks (texts c.args.words.now)) _ c.args.progress.now.net.declared.inputs c.in_ok-line.field-0 c.in-Some.line is c.in_ok-line.ensures.says c.in-Some.is in
    do_refused c.args.context.now.program.now c.declared.ensures.program (start_in c.args.context.now) (progress_of c.args.progress.now) _ (line_of c.in-Some.line) read c.args.context.now.number c.in-Err.fault c.in-Err.ensures.refused
