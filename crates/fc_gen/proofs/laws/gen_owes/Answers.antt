use Rattle.fc_gen.proofs.GenOwed as proof
use Rattle.fc_gen.proofs.laws.gen_owes.Goals as goal

pub returns : goal.returns
returns c =
    proof.gen_owes c.rings_are_typed.ensures c.rings_are_networks.ensures c.rings_stabilise.ensures
    c.programs_unfold.ensures c.yes_stabilises.ensures c.steps_keep_good.ensures.step c.steps_keep_good.ensures.run
    c.steps_keep_good.ensures.plain c.one_script_run.ensures c.some_script_run.ensures
