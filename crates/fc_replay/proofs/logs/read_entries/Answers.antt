use Rattle.std.proofs.Common.{◌≡◌, ℕ, IfErr, Result, subst}
use Rattle.fc_nodes.specs.Program.{unfolding_of}
use Rattle.edit_commands.specs.declared.types.Fault.{Fault}
use Rattle.edit_commands.specs.LineByLine.{StopsAt}
use Rattle.log_lines.specs.Logs.{log_of}
use Rattle.log_lines.specs.declared.reading.Log.{Log}
use Rattle.fc_replay.proofs.Replaying.{is_faulty}
use Rattle.fc_replay.proofs.logs.read_entries.Goals as goal

pub returns-in-Err-clause-refused : goal.returns-in-Err-clause-refused
returns-in-Err-clause-refused c =
    is_faulty (unfolding_of c.args.program.now) c.args.net.now c.args.text.now _ _ _ _
    (subst (λ (r : Result Log (ℕ × Fault)). IfErr r
    (λ (f : ℕ × Fault). log_of (unfolding_of c.args.program.now) c.args.net.now c.args.text.now ≡ StopsAt f.0 f.1))
    c.in-Err.is c.in_ok-read.ensures.refused) c.fault_in.ensures c.log_refusal.ensures
