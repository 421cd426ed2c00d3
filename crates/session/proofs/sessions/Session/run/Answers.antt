use Rattle.std.proofs.Common.{length, refl, ap}
use Rattle.session.proofs.Rows.{after_run}
use Rattle.session.proofs.sessions.Session.run.Goals as goal

pub returns : goal.returns
returns g c =
    after_run _ _ c.args.line c.args.rounds (length c.log-from.result.now) (length c.in_ok-book.book.log) c.in_ok-book.ensures.ran
    (ap length c.log-from.ensures.value) refl c.in_ok-add_part.ensures refl
