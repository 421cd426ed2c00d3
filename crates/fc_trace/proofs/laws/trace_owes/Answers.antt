use Rattle.fc_trace.proofs.Tracing as proof
use Rattle.fc_trace.proofs.laws.trace_owes.Goals as goal

pub returns : goal.returns
returns c =
    proof.trace_owes c.inputs_are_read.ensures c.yes_stabilises.ensures c.forms_have_costs.ensures c.one_costs.ensures
    c.solutions_are_least.ensures c.walks_are_one.ensures.least c.walks_are_one.ensures.trace c.walks_are_one.ensures.some
