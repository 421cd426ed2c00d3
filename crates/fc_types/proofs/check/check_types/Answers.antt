use Rattle.std.proofs.lemmas.Result.{err_from_is_err_and}
use Rattle.fc_syntax.specs.Terms.{program_of}
use Rattle.fc_types.proofs.Declarations.{typed_memory, first_or_memory, not_typed}
use Rattle.fc_types.proofs.check.check_types.Goals as goal

pub returns-in_err-declared-clause-always : goal.returns-in_err-declared-clause-always
returns-in_err-declared-clause-always c =
    λ typed. let p = err_from_is_err_and c.from_residual.result c.from_residual.ensures.1 in
    rw (p.1, p.2) (typed_memory (program_of c.args.program) c.in_err-declared.field-0.0 c.in_err-declared.ensures.fault typed)

pub returns-in_err-declared-clause-never : goal.returns-in_err-declared-clause-never
returns-in_err-declared-clause-never c =
    λ n k first. let p = err_from_is_err_and c.from_residual.result c.from_residual.ensures.1 in
    rw (p.1, p.2) (first_or_memory (program_of c.args.program) n k c.in_err-declared.field-0.0 c.in_err-declared.ensures.fault first)

pub returns-clause-never : goal.returns-clause-never
returns-clause-never c = λ n k first. not_typed c.in_ok-declared.ensures.typed first
