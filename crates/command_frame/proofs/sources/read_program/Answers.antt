use Rattle.std.proofs.Common.{subst, length, min, ◌<◌, ◌≡◌}
use Rattle.fc_syntax.specs.declared.tree.Program.{Program}
use Rattle.unfold.specs.declared.count.TheConstants.{MOST_COUNTED}
use Rattle.fc_values.specs.declared.limits.TheConstants.{MOST_NODES}
use Rattle.unfold.specs.Nodes.{Nodes}
use Rattle.unfold.specs.Writing.{IfTooLarge}
use Rattle.fc_syntax.specs.Terms.{program_of}
use Rattle.command_frame.specs.Causes.{Refused}
use Rattle.command_frame.specs.Sources.{ReadsProgram}
use Rattle.command_frame.proofs.Reading.{by_source, by_types, by_size}
use Rattle.command_frame.proofs.Stopping.{stop_is}
use Rattle.command_frame.proofs.sources.read_program.Goals as goal

pub returns-in_err-program-clause-refused : goal.returns-in_err-program-clause-refused
returns-in_err-program-clause-refused c =
    stop_is (λ cause. ReadsProgram c.args.text.now (Refused cause)) c.from_residual.result _ c.from_residual.ensures.1 (by_source c.args.text.now c.in_err-program.field-0.0 c.in_err-program.ensures.refused)

pub returns-in_err-typed-clause-refused : goal.returns-in_err-typed-clause-refused
returns-in_err-typed-clause-refused c =
    stop_is (λ cause. ReadsProgram c.args.text.now (Refused cause)) c.from_residual-in_err-typed.result _ c.from_residual-in_err-typed.ensures.1
    (by_types c.args.text.now (program_of c.in_ok-program.program) c.in_err-typed.field-0.0 c.in_ok-program.ensures.source c.in_err-typed.ensures.fault)

pub returns-in_err-unfold-clause-refused : goal.returns-in_err-unfold-clause-refused
returns-in_err-unfold-clause-refused c =
    stop_is (λ cause. ReadsProgram c.args.text.now (Refused cause)) c.from_residual-in_err-unfold.result _ c.from_residual-in_err-unfold.ensures.1
    (by_size c.args.text.now (program_of c.in_ok-program.program) c.in_err-unfold.field-0.0 c.in_ok-program.ensures.source c.in_ok-typed.ensures.typed
    (subst (λ (p : Program). IfTooLarge c.in_err-unfold.field-0.0 (λ n. MOST_NODES < length (Nodes (program_of p)))) c.in_ok-typed.ensures.program c.in_err-unfold.ensures.large)
    (subst (λ (p : Program). IfTooLarge c.in_err-unfold.field-0.0 (λ n. n ≡ min MOST_COUNTED (length (Nodes (program_of p))))) c.in_ok-typed.ensures.program c.in_err-unfold.ensures.size))
