use Rattle.fc_lexer.specs.Kinds.{tokens_of}
use Rattle.std.proofs.Common.{subst}
use Rattle.fc_parser.specs.Faults.{Refuses}
use Rattle.command_frame.specs.Causes.{Refused}
use Rattle.command_frame.specs.Sources.{ReadsSource}
use Rattle.command_frame.proofs.Reading.{by_bytes, by_tokens}
use Rattle.command_frame.proofs.Stopping.{stop_is}
use Rattle.command_frame.proofs.sources.read_source.Goals as goal

pub returns-in_err-tokens-clause-refused : goal.returns-in_err-tokens-clause-refused
returns-in_err-tokens-clause-refused c =
    stop_is (λ cause. ReadsSource c.args.text.now (Refused cause)) c.from_residual.result _ c.from_residual.ensures.1 (by_bytes c.args.text.now c.in_err-tokens.field-0.0 c.in_err-tokens.ensures.stops)

pub returns-in_err-program-clause-refused : goal.returns-in_err-program-clause-refused
returns-in_err-program-clause-refused c =
    stop_is (λ cause. ReadsSource c.args.text.now (Refused cause)) c.from_residual-in_err-program.result _ c.from_residual-in_err-program.ensures.1
    (by_tokens c.args.text.now (tokens_of c.in_ok-tokens.tokens.items) c.in_err-program.field-0.0 c.in_ok-tokens.ensures.reads (subst (λ ts. Refuses (tokens_of ts) c.in_err-program.field-0.0) c.deref.ensures.value c.in_err-program.ensures.refuses))
