use Rattle.fc_lexer.specs.Kinds.{tokens_of}
use Rattle.fc_parser.proofs.Meaning.{parses, refuses}
use Rattle.fc_parser.proofs.parsing.parse.Goals as goal

pub returns-clause-parses : goal.returns-clause-parses
returns-clause-parses c = parses (tokens_of c.args.tokens.now) c.in_ok-judge_limits.ensures.within c.derive.result c.derive.ensures.derives

pub returns-clause-refuses : goal.returns-clause-refuses
returns-clause-refuses c = refuses (tokens_of c.args.tokens.now) c.in_ok-judge_limits.ensures.within c.derive.result c.derive.ensures.fault
