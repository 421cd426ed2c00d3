use Rattle.edit_commands.proofs.Marks.{before_at, gone_on}
use Rattle.edit_commands.proofs.values.goes_on.Goals as goal

pub returns-clause-reads : goal.returns-clause-reads
returns-clause-reads c = λ os text within. gone_on text os c.args.since c.in-Bytes.start c.args.at c.in-Bytes.is (before_at _ _ _ c.in-Bytes.is c.requires) within
