use Rattle.std.proofs.Common.{◌∙◌, sym}
use Rattle.log_lines.proofs.WrittenLogs.{name_here, name_none}
use Rattle.log_lines.proofs.writing.input_name.Goals as goal

pub returns-in-Some : goal.returns-in-Some
returns-in-Some c =
    let found = c.in-Some.ensures.lookup in
    c.deref.ensures.value ∙ name_here c.args.inputs.now c.args.input c.in-Some.declared.now found.3.0 found.1

pub returns-in-None : goal.returns-in-None
returns-in-None c = sym (name_none c.args.inputs.now c.args.input c.in-None.ensures.lookup.3)
