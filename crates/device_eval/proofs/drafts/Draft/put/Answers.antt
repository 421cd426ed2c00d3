use Rattle.std.proofs.lemmas.List.{map-set}
use Rattle.fc_values.specs.Exports.{slot_of}
use Rattle.device_eval.proofs.drafts.Draft.put.Goals as goal

pub returns : goal.returns
returns c = rw c.self.view_is (map-set slot_of c.args.self.now c.args.slot _)
