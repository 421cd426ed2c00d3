use Rattle.std.proofs.Common.{refl, ap, ◌∙◌, ◌++◌}
use Rattle.firing_core.specs.CoreViews.{core_of}
use Rattle.session.specs.Shown.{ShowsValues, shown_text}
use Rattle.session.proofs.Rows.{after_show}
use Rattle.session.proofs.sessions.Session.show.Goals as goal

pub returns : goal.returns
returns c =
    after_show _ _ c.args.line refl refl
    (c.in_ok-show_values.ensures ∙ ap (λ k. c.args.self.text.items ++ shown_text (ShowsValues c.args.line (core_of k))) c.core.ensures.value)
