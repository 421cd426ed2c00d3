use Rattle.changes.proofs.judging.change_fault.Given as goal

abbrev pub ghost-set_fault : goal.ghost-set_fault
ghost-set_fault g a = g.told

abbrev pub ghost-link_fault : goal.ghost-link_fault
ghost-link_fault g a = g.told

abbrev pub ghost-unlink_fault : goal.ghost-unlink_fault
ghost-unlink_fault g a = g.told

abbrev pub ghost-leave_fault : goal.ghost-leave_fault
ghost-leave_fault g a = g.told

abbrev pub ghost-join_fault : goal.ghost-join_fault
ghost-join_fault g a = g.told
