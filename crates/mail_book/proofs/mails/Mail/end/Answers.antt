use Rattle.std.proofs.Common.{◌≡◌, sym, subst, Some, None, IfErr}
use Rattle.fc_values.specs.Trees.{TreeExport}
use Rattle.fc_nodes.specs.Program.{Program, unfolding_of}
use Rattle.topology.specs.Networks.{Network, numbers}
use Rattle.value_trees.specs.Snaps.{tree_of}
use Rattle.firing_core.specs.CoreViews.{core_of, program_of}
use Rattle.message_links.specs.MailCores.{MailEnd, MailStep}
use Rattle.mail_book.specs.Pairs.{AreRows}
use Rattle.mail_book.specs.Rows.{lists_of, AllRows, Posts}
use Rattle.mail_book.specs.MailViews.{MailValue, mail_with, mail_of, unfolded_of, IsMail}
use Rattle.mail_book.specs.MailReplays.{HasStepFault}
use Rattle.mail_book.proofs.Answered.{err_is, at_ok}
use Rattle.mail_book.proofs.Ending.{published, ends_sent, end_refused}
use Rattle.mail_book.proofs.mails.Mail.end.Goals as goal

pub returns-in_err-finish-clause-refused : goal.returns-in_err-finish-clause-refused
returns-in_err-finish-clause-refused c =
    subst (λ (v : MailValue). IfErr c.from_residual.result (HasStepFault (mail_of v) (MailEnd c.args.device))) c.self.view_is
    (err_is (HasStepFault (mail_of (mail_with c.self.inside.core (lists_of c.self.inside.rows.items))) (MailEnd c.args.device)) c.from_residual.result c.in_err-finish.field-0.0 c.from_residual.ensures.1
    (end_refused (mail_of (mail_with c.self.inside.core (lists_of c.self.inside.rows.items))) c.args.device c.in_err-finish.field-0.0 c.in_err-finish.ensures.refused))

none_some : (e : TreeExport) → None ≡ Some e → ⊥
none_some e q = cc

pub unreachable-requires : goal.unreachable-requires
unreachable-requires c =
    let e = c.in_ok-finish.ensures.ok in
    none_some e.export (published (program_of c.self.inside.core) (core_of c.self.inside.core) (core_of c.finish.new.self) c.args.device None e c.in_default.ensures.value)

module _ (c : goal.Then-is_err) where
  kept : IsMail (mail_with c.finish.new.self (lists_of c.post_all.new.rows.items))
  kept = record {
    shape = subst (λ (N : Network). AreRows N (numbers N.devices) (lists_of c.post_all.new.rows.items)) c.net.ensures.value c.post_all.ensures.shape;
    letters = c.post_all.ensures.letters (program_of c.finish.new.self)
        (subst (λ (P : Program). AllRows (unfolding_of P) (lists_of c.self.inside.rows.items)) (sym c.in_ok-finish.ensures.same.program) c.self.invariant.letters) c.in-Some.ensures.export;
  }

pub invariant_of-self-then-is_err : goal.invariant_of-self-then-is_err
invariant_of-self-then-is_err c = kept c

pub invariant_of-self-2 : goal.invariant_of-self-2
invariant_of-self-2 c = record {
  shape = subst (λ (N : Network). AreRows N (numbers N.devices) (lists_of c.post_all.new.rows.items)) c.net.ensures.value c.post_all.ensures.shape;
  letters = c.post_all.ensures.letters (program_of c.finish.new.self)
      (subst (λ (P : Program). AllRows (unfolding_of P) (lists_of c.self.inside.rows.items)) (sym c.in_ok-finish.ensures.same.program) c.self.invariant.letters) c.in-Some.ensures.export;
}

pub returns-clause-ok : goal.returns-clause-ok
returns-clause-ok c =
    let all = subst (λ (P : Program). AllRows (unfolding_of P) (lists_of c.self.inside.rows.items)) (sym c.in_ok-finish.ensures.same.program) c.self.invariant.letters in
    let posts = at_ok c.post_all.result (c.if-is_err.ensures.value) (c.post_all.ensures.posts (program_of c.finish.new.self) all c.in-Some.ensures.export) in
    let sent : Posts (program_of c.finish.new.self) c.finish.new.self.net c.args.device (Some c.args.index) (tree_of (program_of c.finish.new.self) c.in-Some.export.now) (lists_of c.self.inside.rows.items) (lists_of c.post_all.new.rows.items) =
    subst (λ (N : Network). Posts (program_of c.finish.new.self) N c.args.device (Some c.args.index) (tree_of (program_of c.finish.new.self) c.in-Some.export.now) (lists_of c.self.inside.rows.items) (lists_of c.post_all.new.rows.items)) c.net.ensures.value posts in
    subst (λ (v : MailValue). MailStep (unfolded_of v) c.args.index (mail_of v) (MailEnd c.args.device) (mail_of (mail_with c.finish.new.self (lists_of c.post_all.new.rows.items)))) c.self.view_is
    (ends_sent c.self.inside.core c.finish.new.self (lists_of c.self.inside.rows.items) (lists_of c.post_all.new.rows.items) c.args.device c.args.index c.in-Some.export.now
    c.in_ok-finish.ensures.same.program c.in_ok-finish.ensures.same.net c.in_ok-finish.ensures.ok c.in-Some.ensures.value sent)
