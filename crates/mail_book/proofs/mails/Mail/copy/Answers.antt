use Rattle.std.proofs.Common.{List, ◌∙◌, ap, subst, Vec, Global}
use Rattle.mail_book.specs.declared.letters.Letters.{Letters}
use Rattle.mail_book.specs.Rows.{lists_of, SameRows}
use Rattle.mail_book.specs.MailViews.{mail_of}
use Rattle.mail_book.proofs.Copying.{copied_mail, copied_kept}
use Rattle.mail_book.proofs.mails.Mail.copy.Goals as goal

module _ (c : goal.In_ok-rows) where
  same : SameRows (lists_of c.self.inside.rows.items) (lists_of c.in_ok-rows.rows.items)
  same = subst (λ (r : List (Vec Letters Global)). SameRows (lists_of r) (lists_of c.in_ok-rows.rows.items)) c.deref.ensures.value c.in_ok-rows.ensures

pub invariant_of-result : goal.invariant_of-result
invariant_of-result c = copied_kept c.self.inside.core c.in_ok-core.core (lists_of c.self.inside.rows.items) (lists_of c.in_ok-rows.rows.items) c.in_ok-core.ensures.program c.in_ok-core.ensures.core (same c) c.self.invariant

pub returns-clause-mail : goal.returns-clause-mail
returns-clause-mail c =
    copied_mail c.self.inside.core c.in_ok-core.core (lists_of c.self.inside.rows.items) (lists_of c.in_ok-rows.rows.items) c.in_ok-core.ensures.program c.in_ok-core.ensures.core (same c)
    ∙ ap mail_of c.self.view_is
