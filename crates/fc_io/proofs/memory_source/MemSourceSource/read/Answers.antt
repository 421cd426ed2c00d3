use Rattle.std.proofs.Common.{ap, sym, ◌∙◌}
use Rattle.fc_io.proofs.Moves.{read_front, read_end, read_count}
use Rattle.fc_io.proofs.memory_source.MemSourceSource.read.Goals as goal

pub returns-clause-bytes : goal.returns-clause-bytes
returns-clause-bytes c = (
  ap (λ v. v.left) (sym c.self.view_is) ∙ read_front _ _ _ _ _ c.deref-2.ensures.value c.give-count.ensures.front,
  λ zero room. read_end _ _ _ _ _ _ c.deref-2.ensures.value c.give-count.ensures.count c.self.invariant.1 room zero,
)

pub returns-clause-count : goal.returns-clause-count
returns-clause-count c =
    read_count _ _ _ _ _ _ _ _ c.deref-2.ensures.value (ap (λ v. v.left) c.self.view_is) (ap (λ v. v.most) c.self.view_is) c.give-count.ensures.count
