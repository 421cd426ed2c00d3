use Rattle.std.proofs.Common.{sym, ap}
use Rattle.fc_values.specs.Fields.{restricted}
use Rattle.fc_nodes.specs.Terms.{ByRep}
use Rattle.device_eval.proofs.Branches.{branch_at, env_branch}
use Rattle.device_eval.proofs.NbrAt.{nbr_heard}
use Rattle.device_eval.proofs.EvolveAt.{own_starts, share_heard}
use Rattle.device_eval.proofs.LeafAt.{numbers_same}
use Rattle.device_eval.proofs.laws.slots_stand_for_trees.Goals as goal

pub returns-clause-branch : goal.returns-clause-branch
returns-clause-branch x = λ t c a b k truth env f. (branch_at t c a b k truth env f, sym (env_branch t c a b k truth env f))

pub returns-clause-nbr : goal.returns-clause-nbr
returns-clause-nbr x = nbr_heard

pub returns-clause-rep : goal.returns-clause-rep
returns-clause-rep x = λ t a b k env first. own_starts t ByRep a b k first env.own

pub returns-clause-share : goal.returns-clause-share
returns-clause-share x = share_heard

pub returns-clause-restricted : goal.returns-clause-restricted
returns-clause-restricted x = λ t k env d v. ap (λ ns. restricted d ns v) (numbers_same t k env.near)
