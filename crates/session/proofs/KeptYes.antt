-- A script run in two, and what a yes promises there.
use Rattle.std.proofs.Common.{◌≡◌, ℕ, ◌+◌, ◌≤◌, List, ◌∷◌, ◌++◌, length, append_assoc, sym, ap, ◌∙◌, subst, arith}
use Rattle.std.proofs.lemmas.Grind.{flat_map-append}
use Rattle.std.specs.Prelude.{codes}
use Rattle.std.specs.Fmt.{decimal}
use Rattle.fc_nodes.specs.declared.verdicts.Verdict.TheVariants as verdict
use Rattle.fc_nodes.specs.Program.{Program, IsProgram, unfolding_of}
use Rattle.topology.specs.Networks.{numbers}
use Rattle.firing_core.specs.declared.entries.Part.{Part}
use Rattle.firing_core.specs.Cores.{Core, IsGood}
use Rattle.firing_core.specs.Entries.{EntryValue}
use Rattle.firing_core.specs.Laws.{RunsKeepGood, PlainRunsKeepNet, RunsCut, RunsCutAtEdit}
use Rattle.firing_core.specs.Rounds.{after_edit}
use Rattle.round_count.specs.Laws.{RoundsFollow}
use Rattle.converge_laws.specs.Stabilising.{Stabilises}
use Rattle.converge_laws.specs.Verdicts.{YesStabilises}
use Rattle.report.specs.Verdicts.{verdict_text}
use Rattle.edit_commands.specs.Scripts.{CommandValue, ShowCommand}
use Rattle.session.specs.Laws.{LinesCut, InTwo}
use Rattle.session.specs.ScriptRuns.{Added, both, nothing, DoesLines, ScriptRun}
use Rattle.session.specs.Shown.{ShowsValues, shown_text, all_shown, script_text, verdict_in}
use Rattle.session.specs.Since.{rounds_since}
use Rattle.session.specs.Promises.{HoldsField, shows_field, KeepsYes}
use Rattle.round_count.proofs.EditsInLogs.{fewer}
use Rattle.session.proofs.Following.{Follows, follows_none, all_lines}
use Rattle.session.proofs.ShownFields.{values_held}

module _ (lines_cut : LinesCut) (runs : RunsKeepGood) (plain_net : PlainRunsKeepNet) (cut : RunsCut) (cut_at_edit : RunsCutAtEdit)
    (follow : RoundsFollow) (stabilise : YesStabilises) (P : Program) (c last : Core) (front rest : List (ℕ × CommandValue))
    (log : List EntryValue) (parts : List Part) (text : List ℕ) (program : IsProgram P) (good : IsGood (unfolding_of P) c)
    (run : ScriptRun (unfolding_of P) c (front ++ rest) log parts text last) where
  two : InTwo (unfolding_of P) c 0 front rest (record { stretch = log; parts = parts; shown = run.shown }) last
  two = (lines_cut (unfolding_of P) c last 0 front rest (record { stretch = log; parts = parts; shown = run.shown })).0 run.does

  abbrev before : Added
  before = two.0

  abbrev after : Added
  after = two.1

  abbrev core : Core
  core = two.2

  whole : record { stretch = log; parts = parts; shown = run.shown } ≡ both before after
  whole = two.3

  shown_is : run.shown ≡ before.shown ++ after.shown
  shown_is = ap (λ (a : Added). a.shown) whole

  does : DoesLines (unfolding_of P) c 0 front before core
  does = two.4

  behind : DoesLines (unfolding_of P) core (length before.stretch) rest after last
  behind = let e : 0 + length before.stretch ≡ length before.stretch = omega arith in subst (λ n. DoesLines (unfolding_of P) core n rest after last) e two.5

  known : Follows (unfolding_of P) c before core
  known = all_lines plain_net cut follow (unfolding_of P) c front nothing before c core (follows_none (unfolding_of P) c) does

  there : IsGood (unfolding_of P) core
  there = runs P c core before.stretch program good known.run

  stable : (k : ℕ) → verdict_in (unfolding_of P) core ≡ verdict.Yes k → Stabilises (unfolding_of P) core.net k
  stable k judged = stabilise P core.net k program there.net there.declared judged

  held : (k : ℕ) (judged : verdict_in (unfolding_of P) core ≡ verdict.Yes k) → k ≤ rounds_since before → HoldsField core (stable k judged).one.field
  held k judged enough =
      let at = cut_at_edit (unfolding_of P) c core before.stretch known.run in
      let start = runs P c at.middle at.front program good at.first in
      let covers = fewer (numbers core.net.devices) (after_edit before.stretch) (rounds_since before) k enough known.rounds in
      λ d l. (stable k judged).reached at.middle core (after_edit before.stretch) start (sym at.net) at.second covers d l

  says : text ≡ script_text (unfolding_of P) c before.shown ++ all_shown after.shown
  says =
      run.says ∙ (ap (λ s. script_text (unfolding_of P) c s) shown_is
      ∙ (ap (λ t. verdict_text (verdict_in (unfolding_of P) c) ++ t) (flat_map-append shown_text before.shown after.shown)
      ∙ sym (append_assoc (verdict_text (verdict_in (unfolding_of P) c)) (all_shown before.shown) (all_shown after.shown))))

  -- a `show` that comes next
  shows : (k line : ℕ) (more : List (ℕ × CommandValue)) (judged : verdict_in (unfolding_of P) core ≡ verdict.Yes k) → k ≤ rounds_since before
      → rest ≡ (line, ShowCommand) ∷ more
      → (later : List ℕ) × (text ≡ script_text (unfolding_of P) c before.shown ++ shows_field line core.net (stable k judged).one.field ++ later)
  shows k line more judged enough next =
      let lines = subst (λ r. DoesLines (unfolding_of P) core (length before.stretch) r after last) next behind in
      let field = (stable k judged).one.field in
      let values = values_held core field (held k judged enough) in
      let first : after.shown ≡ ShowsValues line core ∷ lines.1.shown = ap (λ (a : Added). a.shown) lines.3 ∙ ap (λ s. s ++ lines.1.shown) lines.4.shows in
      let line_is : shown_text (ShowsValues line core) ≡ shows_field line core.net field =
      ap (λ t. codes "@" ++ decimal line ++ codes "\n" ++ t) values in (
        all_shown lines.1.shown,
        says ∙ (ap (λ t. script_text (unfolding_of P) c before.shown ++ t) (ap (λ s. all_shown s) first ∙ ap (λ t. t ++ all_shown lines.1.shown) line_is)
            ∙ sym (append_assoc (script_text (unfolding_of P) c before.shown) (shows_field line core.net field) (all_shown lines.1.shown))),
      )

  pub keeps : KeepsYes (unfolding_of P) c front rest log parts text last
  keeps = record {
    before = before;
    core = core;
    after = after;
    does = does;
    follow = behind;
    log_is = ap (λ (a : Added). a.stretch) whole;
    parts_are = ap (λ (a : Added). a.parts) whole;
    text_is = says;
    verdict_is = known.verdict;
    stabilises = stable;
    holds = held;
    shows = shows;
  }
