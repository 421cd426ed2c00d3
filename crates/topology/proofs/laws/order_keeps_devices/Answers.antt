use Rattle.topology.specs.Networks.{numbers}
use Rattle.topology.proofs.Sorting.{order_permutes, order_rises, fresh_apart}
use Rattle.topology.proofs.laws.order_keeps_devices.Goals as goal

pub returns-clause-same : goal.returns-clause-same
returns-clause-same c = order_permutes

pub returns-clause-rising : goal.returns-clause-rising
returns-clause-rising c = λ ns apart. order_rises ns (fresh_apart (numbers ns) apart)
