use Rattle.std.proofs.Common.{subst, sym}
use Rattle.walks.specs.Walks.{ClaimsHold, claim_of, costs_of}
use Rattle.fc_trace.proofs.traces.checked_walks.Goals as goal

pub prove-unreachable-requires : goal.prove-unreachable-requires
prove-unreachable-requires c =
    c.check_walks-holds.ensures.fails c.if-prove.true
    (subst (λ es. ClaimsHold (costs_of c.args.costs.now) (claim_of es)) (sym c.deref.ensures.value)
    (c.traced_claims_hold.ensures (costs_of c.args.costs.now) (claim_of c.in_ok-claim.claim.items) c.requires
    c.in_ok-claim.ensures))
