use Rattle.bound_firing.proofs.arguments.component.Goals as goal

pub returns-in_ok-part-in-Local : goal.returns-in_ok-part-in-Local
returns-in_ok-part-in-Local c m d = rw c.in-Local.is (c.in_ok-part-in-Local.ensures m d)
