use Rattle.std.proofs.Common.{Bool, refl, ap, ◌∙◌, ◌++◌, ◌∷◌, [], if◌then◌else◌}
use Rattle.fc_nodes.specs.Program.{unfolding_of}
use Rattle.firing_core.specs.CoreViews.{core_of}
use Rattle.firing_core.specs.Entries.{edit_of}
use Rattle.session.specs.ScriptRuns.{shown_after}
use Rattle.session.specs.Shown.{ShowsVerdict, all_shown, verdict_in}
use Rattle.session.proofs.Rows.{after_edit_line}
use Rattle.session.proofs.sessions.Session.edit.Goals as goal

pub returns : goal.returns
returns c = λ line.
    let e = edit_of c.args.edit in
    let old = c.args.self.text.items in
    after_edit_line _ _ line e c.in_ok-make.ensures refl
    (c.in_ok-show_verdict.ensures line
    ∙ ap (λ (b : Bool). old ++ all_shown (if b then ShowsVerdict line (verdict_in (unfolding_of c.args.analysis.now) (core_of c.core.result.now)) ∷ [] else [])) c.changes_devices-shows.ensures
    ∙ ap (λ p. old ++ all_shown (shown_after (unfolding_of p) line e (core_of c.core.result.now))) c.requires.analysed
    ∙ ap (λ k. old ++ all_shown (shown_after (unfolding_of c.args.self.book.program) line e (core_of k))) c.core.ensures.value)
