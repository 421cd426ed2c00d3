use Rattle.changes.proofs.judging.change_fault.Goals as goal

pub returns-in-Link : goal.returns-in-Link
returns-in-Link g c = rw c.in-Link.is c.link_fault.ensures

pub returns-in-Unlink : goal.returns-in-Unlink
returns-in-Unlink g c = rw c.in-Unlink.is c.unlink_fault.ensures
