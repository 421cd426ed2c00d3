use Rattle.rise.proofs.Climbing.{rise_step, stage_begins, stage_reached, stage_by_turns}
use Rattle.rise.proofs.laws.rise_takes_turns.Goals as goal

pub returns : goal.returns
returns c = record {
  step = rise_step;
  begins = stage_begins;
  reached = stage_reached;
  stage = stage_by_turns;
}
