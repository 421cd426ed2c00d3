use Rattle.device_eval.proofs.Agree.{rule_gives, rules_give, gives_rule, gives_rules, one_outcome}
use Rattle.device_eval.proofs.laws.rules_agree.Goals as goal

pub returns-clause-node : goal.returns-clause-node
returns-clause-node c = λ S p t vars env v tree. (λ h. rule_gives S h, gives_rule S p t vars env v tree)

pub returns-clause-nodes : goal.returns-clause-nodes
returns-clause-nodes c = λ S p i xs vars env vs ts. (λ h. rules_give S h, gives_rules S p i xs vars env vs ts)

pub returns-clause-one : goal.returns-clause-one
returns-clause-one c = one_outcome
