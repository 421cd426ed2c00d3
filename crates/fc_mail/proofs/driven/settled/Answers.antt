use Rattle.std.proofs.Common.{◌∙◌, ap}
use Rattle.firing_core.specs.CoreViews.{core_of}
use Rattle.fc_mail.proofs.Driving.{settled_scene}
use Rattle.fc_mail.proofs.driven.settled.Goals as goal

pub returns-clause-settled : goal.returns-clause-settled
returns-clause-settled c =
    settled_scene c.in-Ok.book.program c.args.program.now.value c.args.scene (core_of c.in_ok-first.first) (core_of c.in-Ok.book.core) (core_of c.settle.new.self.core) (core_of c.in_ok-rested.rested) _
    (c.in-Ok.ensures.program ∙ c.in_ok-program.ensures.cases) c.in_ok-first.ensures.core (ap core_of c.in-Ok.ensures.core) c.in_ok-settle.ensures.ok.run c.in_ok-settle.ensures.rests
    (c.in_ok-rested.ensures.core ∙ ap core_of c.core.ensures.value) c.in_ok-quiet.ensures.mail
