use Rattle.changes.proofs.judging.line_fault.Given as goal

abbrev pub ghost-change_fault : goal.ghost-change_fault
ghost-change_fault g a = g.told
