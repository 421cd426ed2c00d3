use Rattle.std.proofs.Common.{◌<◌, ◌+◌, length, arith}
use Rattle.message_links.specs.MailEntries.{mail_entries}
use Rattle.mail_book.specs.MailViews.{mail_of, unfolded_of}
use Rattle.mail_book.specs.MailReplays.{FailsMail}
use Rattle.mail_book.proofs.Answered.{err_is}
use Rattle.mail_book.proofs.Replayed.{mailed_more, mail_fails}
use Rattle.mail_book.proofs.books.replay_mail.Goals as goal

pub returns-in_err-apply-clause-refused : goal.returns-in_err-apply-clause-refused
returns-in_err-apply-clause-refused c =
    let h : c.loop-index.index < length c.args.log.items = omega (arith, c.loop-index-test.true, c.len-index-end.ensures, c.args.log.ok.0) in
    err_is (FailsMail (unfolded_of c.args.start) (mail_of c.args.start) (mail_entries c.args.log.items)) c.from_residual.result c.in_err-apply.field-0.0 c.from_residual.ensures.1 (mail_fails c.index.result.now h c.index.ensures c.loop-index.invariant.read c.in_err-apply.field-0.0 c.in_err-apply.ensures.refused)

pub loop-index-preserved : goal.loop-index-preserved
loop-index-preserved c =
    let h : c.loop-index.index < length c.args.log.items = omega (arith, c.loop-index-test.true, c.len-index-end.ensures, c.args.log.ok.0) in
    record { read = mailed_more c.index.result.now h c.index.ensures c.loop-index.invariant.read (c.loop-index.index + 1) c.apply.new.self (omega arith) c.in_ok-apply.ensures.program c.in_ok-apply.ensures.ok }
