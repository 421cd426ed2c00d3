use Rattle.std.proofs.Common.{◌∙◌, suc, arith}
use Rattle.mail_drive.proofs.DrivenLogs.{round_more, rounds_done}
use Rattle.mail_drive.proofs.driving.drive.Goals as goal

pub loop-preserved : goal.loop-preserved
loop-preserved c = λ left h.
    round_more c.args.net.now left c.loop.words c.bring_all.new.words c.loop.log.items c.fire_all.new.log.items c.bring_all.new.log.items c.in_ok-fire_all.ensures c.in_ok-bring_all.ensures
    ∙ c.loop.invariant (suc left) (omega (arith, h))

pub returns : goal.returns
returns c = rounds_done c.args.net.now c.args.rounds c.loop.counter c.loop.log.items c.loop.words _ (omega (arith, c.loop-test.false, c.loop.auto.counter-end)) c.loop.invariant
