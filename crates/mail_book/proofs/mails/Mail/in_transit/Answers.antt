use Rattle.std.proofs.Common.{◌≡◌, [], length, false, sym, ◌∙◌, ap, subst, arith}
use Rattle.std.proofs.lemmas.List.{length-map}
use Rattle.topology.specs.Networks.{Network}
use Rattle.firing_core.specs.CoreViews.{program_of}
use Rattle.message_links.specs.MailCores.{Message as MailMessage, reaches}
use Rattle.mail_book.specs.Pairs.{AtPair}
use Rattle.mail_book.specs.Letters.{message_of}
use Rattle.mail_book.specs.Rows.{lists_of, transit_rows}
use Rattle.mail_book.specs.MailViews.{MailValue, mail_of}
use Rattle.mail_book.proofs.PairLookups.{pair_none}
use Rattle.mail_book.proofs.LetterWrites.{row_there, item_there, item_is, transit_read}
use Rattle.mail_book.proofs.mails.Mail.in_transit.Goals as goal

pub returns-in_default : goal.returns-in_default
returns-in_default c =
    let far : reaches c.self.inside.core.net c.args.from c.args.to ≡ false = subst (λ (N : Network). reaches N c.args.from c.args.to ≡ false) c.net.ensures.value c.in_default.ensures.none in
    subst (λ (v : MailValue). 0 ≡ length ((mail_of v).transit c.args.from c.args.to)) c.self.view_is
    (sym (ap (length {A = MailMessage}) (pair_none c.self.inside.core.net [] (transit_rows (program_of c.self.inside.core) (lists_of c.self.inside.rows.items)) c.args.from c.args.to far)))

pub index-requires : goal.index-requires
index-requires c =
    let pair = subst (λ (N : Network). AtPair N c.args.from c.args.to (c.in-Some.row, c.in-Some.at)) c.net.ensures.value c.in-Some.ensures.place in
    let w = row_there c.self.inside.core.net c.net.ensures.core.net c.self.inside.rows.items c.self.invariant.shape c.args.from c.args.to c.in-Some.row c.in-Some.at pair in
    omega (arith, w, c.self.inside.rows.ok.0)

pub index-requires-2 : goal.index-requires-2
index-requires-2 c =
    let pair = subst (λ (N : Network). AtPair N c.args.from c.args.to (c.in-Some.row, c.in-Some.at)) c.net.ensures.value c.in-Some.ensures.place in
    let w = item_there c.self.inside.core.net c.net.ensures.core.net c.self.inside.rows.items c.self.invariant.shape c.args.from c.args.to c.in-Some.row c.in-Some.at pair c.index.result.now c.index.ensures in
    omega (arith, w, c.index.result.now.ok.0)

pub returns : goal.returns
returns c =
    let pair = subst (λ (N : Network). AtPair N c.args.from c.args.to (c.in-Some.row, c.in-Some.at)) c.net.ensures.value c.in-Some.ensures.place in
    let N = c.self.inside.core.net in
    let net = c.net.ensures.core.net in
    let rows = c.self.inside.rows.items in
    let is = item_is N net rows c.self.invariant.shape c.args.from c.args.to c.in-Some.row c.in-Some.at pair c.index.result.now c.index.ensures c.index-2.result.now c.index-2.ensures in
    let read = transit_read N net (lists_of rows) c.self.invariant.shape c.args.from c.args.to (c.in-Some.row, c.in-Some.at) pair (program_of c.self.inside.core) c.index-2.result.now is in
    subst (λ (v : MailValue). c.len.result ≡ length ((mail_of v).transit c.args.from c.args.to)) c.self.view_is
    (c.len.ensures ∙ c.index-2.result.now.transit.ok.0 ∙ sym (ap (length {A = MailMessage}) read ∙ length-map c.index-2.result.now.transit.items (message_of (program_of c.self.inside.core))))
