use Rattle.export_bounds.proofs.Holding.{exports_hold}
use Rattle.export_bounds.proofs.laws.exports_hold.Goals as goal

pub returns : goal.returns
returns c = exports_hold
