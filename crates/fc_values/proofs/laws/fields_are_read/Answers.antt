use Rattle.fc_values.proofs.Readings.{reads_with_entry, reads_restricted, reads_pointwise, reads_local}
use Rattle.fc_values.proofs.laws.fields_are_read.Goals as goal

pub returns-clause-entry : goal.returns-clause-entry
returns-clause-entry c = reads_with_entry

pub returns-clause-restricted : goal.returns-clause-restricted
returns-clause-restricted c = reads_restricted

pub returns-clause-pointwise : goal.returns-clause-pointwise
returns-clause-pointwise c = reads_pointwise

pub returns-clause-local : goal.returns-clause-local
returns-clause-local c = reads_local
