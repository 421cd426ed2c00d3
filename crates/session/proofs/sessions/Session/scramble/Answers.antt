use Rattle.std.proofs.Common.{refl}
use Rattle.session.proofs.Rows.{after_scramble}
use Rattle.session.proofs.sessions.Session.scramble.Goals as goal

pub returns : goal.returns
returns c = λ line. after_scramble _ _ line c.args.number c.in_ok-scramble.ensures refl refl
