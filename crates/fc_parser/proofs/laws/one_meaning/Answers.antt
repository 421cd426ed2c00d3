use Rattle.fc_parser.proofs.Meaning.{one_meaning, one_first, not_both, one_of_them}
use Rattle.fc_parser.proofs.laws.one_meaning.Goals as goal

pub returns-clause-one_program : goal.returns-clause-one_program
returns-clause-one_program c = one_meaning

pub returns-clause-one_fault : goal.returns-clause-one_fault
returns-clause-one_fault c = one_first

pub returns-clause-never_both : goal.returns-clause-never_both
returns-clause-never_both c = not_both

pub returns-clause-always_one : goal.returns-clause-always_one
returns-clause-always_one c = one_of_them
