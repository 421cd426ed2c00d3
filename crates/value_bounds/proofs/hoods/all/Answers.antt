use Rattle.value_bounds.specs.References.{entries_in}
use Rattle.value_bounds.proofs.Starts.{all_from_none}
use Rattle.value_bounds.proofs.hoods.all.Goals as goal

pub loop-entry-init : goal.loop-entry-init
loop-entry-init c = all_from_none (entries_in c.args.entries.now)
