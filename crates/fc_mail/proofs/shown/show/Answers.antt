use Rattle.std.proofs.Common.{◌≡◌, ℕ, List, ◌++◌, ◌∙◌, ap}
use Rattle.firing_core.specs.CoreViews.{CoreValue, core_of}
use Rattle.mail_book.specs.MailViews.{MailValue}
use Rattle.report.specs.Texts.{values_text}
use Rattle.report.specs.Verdicts.{rounds_text}
use Rattle.fc_mail.proofs.shown.show.Goals as goal

pub returns : goal.returns
returns c =
    let core : c.core.result.now ≡ c.args.book.now.mail.core = c.core.ensures.value ∙ ap (λ (m : MailValue). m.core) c.mail.ensures.value in
    record {
      rounds = c.in_ok-rounds.rounds;
      counted = record { has = c.in_ok-rounds.ensures.has; greatest = c.in_ok-rounds.ensures.greatest };
      is = c.in_ok-rounds_line.ensures.ok
          ∙ ap (λ (xs : List ℕ). xs ++ rounds_text c.in_ok-rounds.rounds) (c.in_ok-values.ensures.ok ∙ ap (λ (k : CoreValue). c.args.text.now.items ++ values_text (core_of k)) core);
    }
