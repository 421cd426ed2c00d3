use Rattle.rise.proofs.WithoutRise.{without_rise}
use Rattle.rise.proofs.InScope.{without_rise_in_scope}
use Rattle.rise.proofs.laws.rise_is_no_limit.Goals as goal

pub returns : goal.returns
returns c = record {
  range = without_rise;
  scope = without_rise_in_scope;
}
