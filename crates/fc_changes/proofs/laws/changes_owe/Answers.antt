use Rattle.fc_changes.proofs.ChangesOwed as proof
use Rattle.fc_changes.proofs.laws.changes_owe.Goals as goal

pub returns : goal.returns
returns c = proof.changes_owe (record {
  inputs = c.inputs_are_read.ensures;
  some_envelope = c.some_envelope.ensures;
  one_envelope = c.one_envelope.ensures;
  scenes = c.scenes_lie.ensures;
  ends = c.ends_stay.ensures;
  happen = c.lines_may_happen.ensures;
  lookups = c.lookups_agree.ensures;
  edits = c.edits_stay_within.ensures;
  yes = c.yes_holds_within.ensures;
  starts = c.starts_hold_within.ensures;
  one_start = c.one_start_within.ensures;
  some_list = c.some_list.ensures;
  one_list = c.one_list.ensures;
  hold = c.lines_hold.ensures;
  anyhow = c.lines_hold_anyhow.ensures;
  stay = c.starts_stay.ensures;
})
