use Rattle.firing_core.proofs.Flights.{run_only, flight_taken}
use Rattle.firing_core.proofs.laws.logs_decide.Goals as goal

pub returns-clause-one : goal.returns-clause-one
returns-clause-one c = run_only

pub returns-clause-flight : goal.returns-clause-flight
returns-clause-flight c = flight_taken
