use Rattle.std.proofs.Common.{refl, sym, ap, subst, ◌∙◌}
use Rattle.edit_commands.specs.Judging.{edit_line_fault}
use Rattle.edit_commands.specs.Code.{line_of, IsFaultOf}
use Rattle.edit_commands.specs.ScriptCode.{program_in}
use Rattle.edit_commands.proofs.scripts.do_line.Goals as goal

pub returns-in-Ok-clause-allowed : goal.returns-in-Ok-clause-allowed
returns-in-Ok-clause-allowed c =
    ap (λ f. edit_line_fault (program_in c.args.context.now) c.args.progress.now.net f (line_of c.args.line)) (sym c.known-start.ensures) ∙ c.in-Ok.ensures.allowed

pub returns-in-Err-Bad-clause-refused : goal.returns-in-Err-Bad-clause-refused
returns-in-Err-Bad-clause-refused c = (
  refl,
  ap (λ f. edit_line_fault (program_in c.args.context.now) c.args.progress.now.net f (line_of c.args.line)) (sym c.known-start.ensures)
      ∙ subst (IsFaultOf (edit_line_fault (program_in c.args.context.now) c.args.progress.now.net (_) (line_of c.args.line))) c.in-Err-Bad.field-0-is c.in-Err-Bad.ensures.refused,
)
