use Rattle.edit_commands.proofs.Marks.{before_at, opened}
use Rattle.edit_commands.proofs.values.opens.Goals as goal

pub returns-clause-reads : goal.returns-clause-reads
returns-clause-reads c = λ text within. opened text _ _ c.args.since c.in-Bytes.start c.args.at c.in-Bytes.is (before_at _ _ _ c.in-Bytes.is c.requires.before) c.if-start-at.false c.in_ok-push_half.ensures
