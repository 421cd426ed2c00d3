use Rattle.fc_lexer.proofs.OneReading.{always_one, never_both, one_list, one_stop}
use Rattle.fc_lexer.proofs.laws.one_reading.Goals as goal

pub returns-clause-one_list : goal.returns-clause-one_list
returns-clause-one_list c = one_list

pub returns-clause-one_stop : goal.returns-clause-one_stop
returns-clause-one_stop c = one_stop

pub returns-clause-never_both : goal.returns-clause-never_both
returns-clause-never_both c = never_both

pub returns-clause-always_one : goal.returns-clause-always_one
returns-clause-always_one c = always_one
