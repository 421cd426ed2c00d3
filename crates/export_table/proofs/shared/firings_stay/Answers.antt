use Rattle.export_table.proofs.OwnFirings.{firing_stays}
use Rattle.export_table.proofs.shared.firings_stay.Goals as goal

pub returns : goal.returns
returns c = firing_stays
