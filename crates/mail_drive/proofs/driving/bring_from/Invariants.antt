use Rattle.std.proofs.Common.{drop}
use Rattle.mail_drive.specs.Drives.{brings_from}
use Rattle.mail_drive.proofs.DrivenLogs.{Left}
use Rattle.mail_drive.proofs.driving.bring_from.Given as goal

abbrev pub invariant-loop-to : goal.invariant-loop-to
invariant-loop-to l = record { left : Left (brings_from l.from l.neighbours l.fn.words) l.fn.log.items l.log.items (brings_from l.from (drop l.to-index l.neighbours) l.words) }
