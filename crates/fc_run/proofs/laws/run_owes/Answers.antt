use Rattle.fc_run.proofs.RunOwed as proof
use Rattle.fc_run.proofs.laws.run_owes.Goals as goal

pub returns : goal.returns
returns c =
    proof.run_owes c.inputs_are_read.ensures c.entries_agree.ensures.commands c.scripts_have_commands.ensures
    c.scripts_are_judged.ensures c.one_script_run.ensures c.some_script_run.ensures c.scripts_keep_yes.ensures
