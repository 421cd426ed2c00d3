use Rattle.std.proofs.Common.{sym, ◌∙◌, arith}
use Rattle.fc_io.proofs.Moves.{read_front, read_end}
use Rattle.fc_io.proofs.memory_source.CalmSourceSource.read.Goals as goal

pub returns-clause-bytes : goal.returns-clause-bytes
returns-clause-bytes c = (
  sym c.self.view_is ∙ read_front _ _ _ _ _ c.deref.ensures.value c.give-count.ensures.front,
  λ zero room. read_end _ _ _ _ _ _ c.deref.ensures.value c.give-count.ensures.count (omega arith) room zero,
)
