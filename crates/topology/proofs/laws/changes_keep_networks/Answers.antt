use Rattle.topology.proofs.Changed.{linked_network, unlinked_network, input_network, set_none, joined_network, left_network}
use Rattle.topology.proofs.laws.changes_keep_networks.Goals as goal

pub returns-clause-link : goal.returns-clause-link
returns-clause-link c = linked_network

pub returns-clause-unlink : goal.returns-clause-unlink
returns-clause-unlink c = λ n a b net e. unlinked_network n a b net

pub returns-clause-set_input : goal.returns-clause-set_input
returns-clause-set_input c = λ n d i v net e. input_network n d i v net (set_none n d i v e).1

pub returns-clause-join : goal.returns-clause-join
returns-clause-join c = joined_network

pub returns-clause-leave : goal.returns-clause-leave
returns-clause-leave c = left_network
