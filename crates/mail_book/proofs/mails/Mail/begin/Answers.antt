use Rattle.std.proofs.Common.{◌≡◌, ◌∙◌, sym, ap, subst, refl, IfErr}
use Rattle.fc_values.specs.Trees.{Copy}
use Rattle.value_trees.specs.Snaps.{snap_copy}
use Rattle.firing_core.specs.Cores.{copy_of}
use Rattle.firing_core.specs.CoreViews.{core_of, program_of}
use Rattle.firing_core.specs.Entries.{BeginEntry}
use Rattle.firing_core.specs.Replays.{fault_of}
use Rattle.message_links.specs.MailCores.{MailBegin, MailStep, sees}
use Rattle.mail_book.specs.Rows.{lists_of}
use Rattle.mail_book.specs.MailViews.{MailValue, mail_with, mail_of, unfolded_of}
use Rattle.mail_book.specs.MailReplays.{HasStepFault}
use Rattle.mail_book.proofs.Answered.{ok_map, if_err}
use Rattle.mail_book.proofs.Replayed.{step_fault}
use Rattle.mail_book.proofs.Sights.{begins_seen}
use Rattle.mail_book.proofs.mails.Mail.begin.Goals as goal

module _ (c : goal.After-fly) where
  copy : snap_copy (program_of c.self.inside.core) c.in-Ok.snap ≡ copy_of c.self.inside.core.net (sees (mail_of (mail_with c.self.inside.core (lists_of c.self.inside.rows.items))) c.args.device) c.args.device
  copy = subst (λ (v : MailValue). snap_copy (unfolded_of v) c.in-Ok.snap ≡ copy_of v.core.net (sees (mail_of v) c.args.device) c.args.device) (sym c.self.view_is) c.in-Ok.ensures.copy

  names : c.in-Ok.snap.device ≡ c.args.device
  names = ap (λ (x : Copy). x.device) copy

pub returns-clause-ok : goal.returns-clause-ok
returns-clause-ok c = ok_map c.fly.result
    (λ t. subst (λ (v : MailValue). MailStep (unfolded_of v) 0 (mail_of v) (MailBegin c.args.device) (mail_of (mail_with c.fly.new.self (lists_of c.self.inside.rows.items)))) c.self.view_is
    (begins_seen c.self.inside.core c.fly.new.self (lists_of c.self.inside.rows.items) c.args.device 0 c.in-Ok.snap (names c) c.fly.ensures.same.program c.fly.ensures.same.net t (copy c)))
    c.fly.ensures.ok

pub returns-clause-refused : goal.returns-clause-refused
returns-clause-refused c =
    subst (λ (v : MailValue). IfErr c.fly.result (HasStepFault (mail_of v) (MailBegin c.args.device))) c.self.view_is
    (if_err c.fly.result (λ e q. step_fault (mail_of (mail_with c.self.inside.core (lists_of c.self.inside.rows.items))) (MailBegin c.args.device) (fault_of (core_of c.self.inside.core) (BeginEntry c.args.device)) e refl
    (ap (λ n. fault_of (core_of c.self.inside.core) (BeginEntry n)) (sym (names c)) ∙ q)) c.fly.ensures.refused)
