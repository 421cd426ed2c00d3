use Rattle.mail_book.specs.Rows.{lists_of}
use Rattle.mail_book.proofs.Starting.{is_mail, holds, starts}
use Rattle.mail_book.proofs.mails.Mail.new.Goals as goal

pub invariant_of-result : goal.invariant_of-result
invariant_of-result c =
    is_mail c.args.core c.net-net.ensures.good c.args.heard.items c.args.transit.items c.requires.heard c.requires.transit c.net-net.result.now c.net-net.ensures.value c.deref.result.now c.deref-2.result.now c.deref.ensures.value c.deref-2.ensures.value
    (lists_of c.in_ok-rows.rows.items) (lists_of c.hear_all.new.rows.items) (lists_of c.send_all.new.rows.items) c.in_ok-rows.ensures.quiet c.in_ok-hear_all.ensures.hears c.in_ok-send_all.ensures.sends c.in_ok-send_all.ensures.shape

pub returns-clause-mail : goal.returns-clause-mail
returns-clause-mail c =
    holds c.args.core c.net-net.ensures.good c.args.heard.items c.args.transit.items c.requires.heard c.requires.transit c.net-net.result.now c.net-net.ensures.value c.deref.result.now c.deref-2.result.now c.deref.ensures.value c.deref-2.ensures.value
    (lists_of c.in_ok-rows.rows.items) (lists_of c.hear_all.new.rows.items) (lists_of c.send_all.new.rows.items) c.in_ok-rows.ensures.quiet c.in_ok-hear_all.ensures.hears c.in_ok-send_all.ensures.sends c.in_ok-send_all.ensures.shape

pub returns-clause-start : goal.returns-clause-start
returns-clause-start c =
    starts c.args.core c.net-net.ensures.good c.args.heard.items c.args.transit.items c.requires.heard c.requires.transit c.net-net.result.now c.net-net.ensures.value c.deref.result.now c.deref-2.result.now c.deref.ensures.value c.deref-2.ensures.value
    (lists_of c.in_ok-rows.rows.items) (lists_of c.hear_all.new.rows.items) (lists_of c.send_all.new.rows.items) c.in_ok-rows.ensures.quiet c.in_ok-hear_all.ensures.hears c.in_ok-send_all.ensures.sends c.in_ok-send_all.ensures.shape
