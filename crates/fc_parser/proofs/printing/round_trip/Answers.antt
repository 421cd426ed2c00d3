use Rattle.fc_parser.proofs.PrintedAgain.{round, each_reading, never_stops, same_program, refuses_nothing}
use Rattle.fc_parser.proofs.printing.round_trip.Goals as goal

pub returns-clause-read_back : goal.returns-clause-read_back
returns-clause-read_back c = round c.reads_back.ensures

pub returns-clause-each_reading : goal.returns-clause-each_reading
returns-clause-each_reading c = each_reading c.reads_back.ensures c.one_reading.ensures.one_list

pub returns-clause-never_stops : goal.returns-clause-never_stops
returns-clause-never_stops c = never_stops c.reads_back.ensures c.one_reading.ensures.never_both

pub returns-clause-same_program : goal.returns-clause-same_program
returns-clause-same_program c = same_program c.reads_back.ensures c.one_reading.ensures.one_list

pub returns-clause-refuses_nothing : goal.returns-clause-refuses_nothing
returns-clause-refuses_nothing c = refuses_nothing c.reads_back.ensures c.one_reading.ensures.one_list
