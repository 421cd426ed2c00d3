use Rattle.net_json.proofs.AcceptedExports as exports
use Rattle.net_json.proofs.laws.accepted_lists_are_kept.Goals as goal

pub returns : goal.returns
returns c = exports.export_accepted
