use Rattle.std.proofs.Common.{ap, arith, subst, sym, ◌∙◌, Some}
use Rattle.firing_core.specs.CoreViews.{program_of}
use Rattle.message_links.specs.declared.entries.MailFault.{MailFault}
use Rattle.mail_book.specs.declared.letters.Letters.{Letters}
use Rattle.mail_book.specs.Letters.{AreLetters}
use Rattle.mail_book.proofs.Answered.{ok_map, err_map, in_both}
use Rattle.mail_book.proofs.MessageSteps.{delivers_letters}
use Rattle.mail_book.proofs.PairWrites.{row_in, item_in, old_letters, keeps, delivers, empties}
use Rattle.mail_book.proofs.mails.Mail.deliver.Goals as goal

old : (c : goal.After-self-1) → AreLetters (program_of c.self.inside.core) c.index_mut-2.result.now
old c = old_letters c.self.inside.core c.net.ensures.core.net c.self.inside.rows.items c.self.invariant c.net.result.now c.net.ensures.value c.args.from c.args.to c.in-Some.row c.in-Some.at c.in-Some.ensures.place c.index_mut.result.now c.index_mut.ensures.value c.index_mut-2.result.now c.index_mut-2.ensures.value

pub index_mut-requires : goal.index_mut-requires
index_mut-requires c =
    let w = row_in c.self.inside.core c.net.ensures.core.net c.self.inside.rows.items c.self.invariant c.net.result.now c.net.ensures.value c.args.from c.args.to c.in-Some.row c.in-Some.at c.in-Some.ensures.place in
    omega (arith, w, c.self.inside.rows.ok.0)

pub index_mut-requires-2 : goal.index_mut-requires-2
index_mut-requires-2 c =
    let w = item_in c.self.inside.core c.net.ensures.core.net c.self.inside.rows.items c.self.invariant c.net.result.now c.net.ensures.value c.args.from c.args.to c.in-Some.row c.in-Some.at c.in-Some.ensures.place c.index_mut.result.now c.index_mut.ensures.value in
    omega (arith, w, c.index_mut.result.now.ok.0)

pub invariant_of-self : goal.invariant_of-self
invariant_of-self c =
    keeps c.self.inside.core c.net.ensures.core.net c.self.inside.rows.items c.self.invariant c.net.result.now c.net.ensures.value c.args.from c.args.to c.in-Some.row c.in-Some.at c.in-Some.ensures.place c.index_mut.result.now c.index_mut.ensures.value c.index_mut-2.result.now c.index_mut-2.ensures.value c.deliver.new.letters
    (in_both c.deliver.result (λ d. delivers_letters (program_of c.self.inside.core) c.index_mut-2.result.now c.deliver.new.letters d (old c))
    (λ q. subst (λ (l : Letters). AreLetters (program_of c.self.inside.core) l) (sym q) (old c)) c.deliver.ensures.ok c.deliver.ensures.err)

pub returns-clause-ok : goal.returns-clause-ok
returns-clause-ok c = ok_map c.deliver.result (λ d. delivers c.self.inside.core c.net.ensures.core.net c.self.inside.rows.items c.self.invariant c.net.result.now c.net.ensures.value c.args.from c.args.to c.in-Some.row c.in-Some.at c.in-Some.ensures.place c.index_mut.result.now c.index_mut.ensures.value c.index_mut-2.result.now c.index_mut-2.ensures.value c.deliver.new.letters c.args.self.now c.self.view_is d) c.deliver.ensures.ok

pub returns-clause-refused : goal.returns-clause-refused
returns-clause-refused c =
    err_map c.deliver.result (λ f q e. empties c.self.inside.core c.net.ensures.core.net c.self.inside.rows.items c.self.invariant c.net.result.now c.net.ensures.value c.args.from c.args.to c.in-Some.row c.in-Some.at c.in-Some.ensures.place c.index_mut.result.now c.index_mut.ensures.value c.index_mut-2.result.now c.index_mut-2.ensures.value c.args.self.now c.self.view_is e ∙ ap (λ (g : MailFault). Some g) (sym q)) c.deliver.ensures.refused c.deliver.ensures.empty
