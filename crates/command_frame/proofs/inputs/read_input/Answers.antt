use Rattle.fc_nodes.specs.Program.{unfolding_of}
use Rattle.net_json.specs.SceneCode.{value_of_scene}
use Rattle.command_frame.specs.Causes.{Refused}
use Rattle.command_frame.specs.Inputs.{ReadsInput}
use Rattle.command_frame.proofs.Reading.{by_program, by_scene, reads_input}
use Rattle.command_frame.proofs.Stopping.{stop_is}
use Rattle.command_frame.proofs.inputs.read_input.Goals as goal

pub returns-in_err-program-clause-refused : goal.returns-in_err-program-clause-refused
returns-in_err-program-clause-refused c =
    stop_is (λ cause. ReadsInput c.args.program.now c.args.network.now (Refused cause)) c.from_residual.result _ c.from_residual.ensures.1
    (by_program c.args.program.now c.args.network.now c.requires c.in_err-program.field-0.0 c.in_err-program.ensures.refused)

pub returns-in_err-scene-clause-refused : goal.returns-in_err-scene-clause-refused
returns-in_err-scene-clause-refused c =
    stop_is (λ cause. ReadsInput c.args.program.now c.args.network.now (Refused cause)) c.from_residual-in_err-scene.result _ c.from_residual-in_err-scene.ensures.1
    (by_scene c.args.program.now c.args.network.now c.requires (unfolding_of c.in_ok-program.program) c.in_ok-program.ensures.program c.in_err-scene.field-0.0 c.in_err-scene.ensures.refused)

pub returns-clause-input : goal.returns-clause-input
returns-clause-input c =
    reads_input c.args.program.now c.args.network.now c.requires (unfolding_of c.in_ok-program.program) c.in_ok-program.ensures.program
    (value_of_scene (unfolding_of c.in_ok-program.program) c.in_ok-scene.scene) c.in_ok-scene.ensures.ok
