use Rattle.std.proofs.Common.{map, ap, false}
use Rattle.fc_values.specs.Types.{input_of}
use Rattle.edit_commands.specs.EditLines.{edit_line}
use Rattle.edit_commands.specs.Code.{texts}
use Rattle.edit_commands.proofs.ReadEdits.{same_inputs, is_read, edit_refused, edit_done}
use Rattle.edit_commands.proofs.judging.read_edit.Goals as goal

pub returns-in-Ok-clause-ok : goal.returns-in-Ok-clause-ok
returns-in-Ok-clause-ok c =
    let is = same_inputs c.declared.result.now _ c.args.program.now.declared c.args.net.now c.declared.ensures.value c.requires (ap (map input_of) c.deref.ensures.value) in
    let read = is_read (λ ks. edit_line ks (texts c.args.words.now)) _ c.args.net.now.declared.inputs c.in_ok-line.field-0 c.in-Some.line is c.in_ok-line.ensures.says c.in-Some.is in
    edit_done c.args.program.now c.declared.ensures.program c.args.net.now (λ d. false) _ _ _ _ read c.in-Ok.ensures.says c.in-Ok.ensures.fits c.in-Ok.ensures.allowed c.in-Ok.ensures.after

pub returns-in-Err-clause-refused : goal.returns-in-Err-clause-refused
returns-in-Err-clause-refused c =
    let is = same_inputs c.declared.result.now _ c.args.program.now.declared c.args.net.now c.declared.ensures.value c.requires (ap (map input_of) c.deref.ensures.value) in
    let read = is_read (λ ks. edit_line ks (texts c.args.words.now)) _ c.args.net.now.declared.inputs c.in_ok-line.field-0 c.in-Some.line is c.in_ok-line.ensures.says c.in-Some.is in
    edit_refused c.args.program.now c.declared.ensures.program c.args.net.now (λ d. false) _ _ _ read c.in-Err.ensures.refused
