use Rattle.round_count.proofs.Growth.{rounds_behind, rounds_front, greatest_behind, greatest_front}
use Rattle.round_count.proofs.laws.rounds_grow.Goals as goal

pub returns-clause-behind : goal.returns-clause-behind
returns-clause-behind c = rounds_behind

pub returns-clause-front : goal.returns-clause-front
returns-clause-front c = rounds_front

pub returns-clause-greatest_behind : goal.returns-clause-greatest_behind
returns-clause-greatest_behind c = greatest_behind

pub returns-clause-greatest_front : goal.returns-clause-greatest_front
returns-clause-greatest_front c = greatest_front
