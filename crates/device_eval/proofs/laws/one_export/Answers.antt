use Rattle.device_eval.proofs.OneExport.{program_export}
use Rattle.device_eval.proofs.laws.one_export.Goals as goal

pub returns : goal.returns
returns c = program_export
