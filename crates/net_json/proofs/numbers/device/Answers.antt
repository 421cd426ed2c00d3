use Rattle.net_json.proofs.Living.{absent, number_is}
use Rattle.net_json.proofs.numbers.device.Goals as goal

pub returns-in_err-place-clause-none : goal.returns-in_err-place-clause-none
returns-in_err-place-clause-none c =
    rw c.from_residual.ensures (absent c.args.net.now c.place.ensures.network c.args.id c.min-id.result c.min-id.ensures c.in_err-place.ensures.none)

pub returns-clause-number : goal.returns-clause-number
returns-clause-number c = number_is c.args.net.now c.place.ensures.network c.args.id c.min-id.result c.min-id.ensures c.in_ok-place.ensures.lives
