use Rattle.net_json.proofs.AcceptedParts as parts
use Rattle.net_json.proofs.laws.accepted_scenes_fit.Goals as goal

pub returns : goal.returns
returns c = parts.text_accepted
