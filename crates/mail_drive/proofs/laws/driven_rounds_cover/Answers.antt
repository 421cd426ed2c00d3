use Rattle.mail_drive.proofs.Covering.{rounds_cover, driven_rounds}
use Rattle.mail_drive.proofs.Turns.{no_more_rounds}
use Rattle.mail_drive.proofs.laws.driven_rounds_cover.Goals as goal

pub returns : goal.returns
returns c = record { round = rounds_cover; rounds = driven_rounds; no_more = no_more_rounds }
