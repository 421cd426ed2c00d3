use Rattle.scenarios.proofs.Reading.{some_rubbish}
use Rattle.scenarios.proofs.laws.some_rubbish.Goals as goal

pub returns : goal.returns
returns c = some_rubbish c.lists_have_exports.ensures
