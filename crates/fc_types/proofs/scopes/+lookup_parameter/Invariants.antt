use Rattle.std.proofs.Common.{length}
use Rattle.fc_types.proofs.scopes.+lookup_parameter.Given as goal

abbrev pub decreases-lookup_parameter : goal.decreases-lookup_parameter
decreases-lookup_parameter l = length l.params.now
