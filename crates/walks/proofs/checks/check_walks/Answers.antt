use Rattle.walks.specs.Walks.{costs_of, claim_of}
use Rattle.walks.proofs.checks.check_walks.Goals as goal

pub returns-clause-least : goal.returns-clause-least
returns-clause-least c = λ t. c.claims_are_least.ensures (costs_of c.args.costs.now) (claim_of c.args.claim.now) c.requires (c.holds.ensures.holds t)
