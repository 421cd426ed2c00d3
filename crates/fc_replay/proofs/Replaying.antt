-- What the code has read and replayed, as the definitions say it.
use Rattle.std.proofs.Common.{ℕ, ◌≡◌, List, [], ◌++◌, get_or, refl, ap, ◌∙◌, sym, subst, Option, Some, None}
use Rattle.fc_nodes.specs.Program.{Unfolding, unfolding_of}
use Rattle.topology.specs.Networks.{Network, numbers}
use Rattle.firing_core.specs.Cores.{Core, IsGood}
use Rattle.firing_core.specs.declared.entries.ReplayFault.{ReplayFault}
use Rattle.firing_core.specs.declared.entries.ReplayFault.TheVariants as replay_fault
use Rattle.firing_core.specs.Entries.{EntryValue, entries_of}
use Rattle.firing_core.specs.Replays.{LogFits, replay}
use Rattle.firing_core.specs.Books.{BookValue, FailsReplay}
use Rattle.firing_core.specs.CoreViews.{CoreValue, core_of, program_of}
use Rattle.net_json.specs.Scenes.{SceneValue}
use Rattle.report.specs.Texts.{values_text}
use Rattle.edit_commands.specs.declared.types.Fault.{Fault}
use Rattle.edit_commands.specs.LineByLine.{Lines, AllLines, StopsAt, SaidBy}
use Rattle.log_lines.specs.Logs.{LogLine, IsEntry, log_of}
use Rattle.command_frame.specs.declared.refusal.LineFault.{LineFault}
use Rattle.command_frame.specs.declared.refusal.Refusal.{Refusal}
use Rattle.command_frame.specs.declared.refusal.LineFault.TheVariants.{Net}
use Rattle.command_frame.specs.Answers.{showing, AnswerValue}
use Rattle.command_frame.specs.Causes.{Cause, Plainly, Judged, Accepted, Refused}
use Rattle.command_frame.specs.Refusals.{log_refusal}
use Rattle.command_frame.specs.Inputs.{ReadsInput}
use Rattle.command_frame.specs.Stops.{StopsFor, stop_at}
use Rattle.command_frame.specs.Ledgers.{Ledger, ledger_of, book_of}
use Rattle.command_frame.specs.LineFaults.{fault_in, step_fault}
use Rattle.command_frame.specs.Starts.{start_of}
use Rattle.command_frame.specs.Tables.{table_line, where_asked}
use Rattle.command_words.specs.declared.commands.ReplayOptions.{ReplayOptions}
use Rattle.fc_replay.specs.Stopping.{Logged, entries_in, first_stop}
use Rattle.fc_replay.specs.Replays.{RoundsAsked, IsText, ShowsBook, ReplaysEntries, ReplaysLog, Replays}
use Rattle.fc_replay.specs.Code.{stop_of, IsFaulty, IsStopped, IsReplayed}
use Rattle.fc_replay.proofs.Entries.{HasRead}
use Rattle.fc_replay.proofs.Stops.{RunsAreReplays, step_stops, edit_stops, never_stops}

-- ---- what is replayed
pub is_replayed : (U : Unfolding) (c start : Core) (log : List Logged) (lines : List ℕ) (es : List EntryValue)
    (book : BookValue) → HasRead c start log lines es
    → replay U c es ≡ Some (core_of book.core) → unfolding_of book.program ≡ U → core_of book.start ≡ c
    → entries_of book.log ≡ es → IsReplayed U start log (ledger_of book)
is_replayed U c start log lines es book read led is from kept = record {
  leads = subst (λ k. replay U k (entries_in log) ≡ Some (core_of book.core)) read.same
      (ap (replay U c) (sym read.entries_read) ∙ led);
  is = ap (λ V. book_of V (core_of book.start) (entries_of book.log) (core_of book.core)) is
      ∙ ap (λ k. book_of U k (entries_of book.log) (core_of book.core)) (from ∙ read.same)
      ∙ ap (λ l. book_of U start l (core_of book.core)) (kept ∙ read.entries_read);
}

pub is_stopped : (agree : RunsAreReplays) (U : Unfolding) (c start : Core) (log : List Logged) (lines : List ℕ)
    (es : List EntryValue) (fault : ReplayFault) → HasRead c start log lines es → IsGood U c → LogFits U es
    → FailsReplay U c es fault → StopsFor (IsStopped U start log) (stop_of lines fault)
is_stopped agree U c start log lines es (replay_fault.At i f) read good fits h = by_fault (step_fault f) refl
  where
    by_fault : (o : Option LineFault) → step_fault f ≡ o
        → StopsFor (IsStopped U start log) (stop_at (get_or lines i 0) o)
    by_fault (Some g) e = record {
      at = get_or lines i 0;
      fault = g;
      stops = subst (λ k. first_stop U k log ≡ Some (get_or lines i 0, g)) read.same
          (step_stops agree U c log es i f g e read.entries_read good fits h
          ∙ ap (λ l. Some (get_or l i 0, g)) (sym read.numbers_read));
      is = refl;
    }
    by_fault None e = tt
is_stopped agree U c start log lines es (replay_fault.EditAt i g) read good fits h = record {
  at = get_or lines i 0;
  fault = Net g;
  stops = subst (λ k. first_stop U k log ≡ Some (get_or lines i 0, Net g)) read.same
      (edit_stops agree U c log es i g read.entries_read good fits h
      ∙ ap (λ l. Some (get_or l i 0, Net g)) (sym read.numbers_read));
  is = refl;
}
is_stopped agree U c start log lines es replay_fault.Memory read good fits h = tt

-- ---- the text
pub is_text : (options : ReplayOptions) (book : BookValue) (one two : CoreValue) (rounds table a b d e : List ℕ)
    → one ≡ book.core → two ≡ book.core → book.core.program ≡ book.program → a ≡ [] → b ≡ a ++ values_text (core_of one)
    → RoundsAsked options.rounds (numbers (core_of book.core).net.devices) (entries_of book.log) rounds
    → table ≡ where_asked options.table (table_line (program_of two) (core_of two)) → d ≡ b ++ rounds → e ≡ d ++ table
    → e ≡ (values_text (core_of book.core) ++ rounds) ++ where_asked options.table
    (table_line (unfolding_of book.program) (core_of book.core))
is_text options book one two rounds table a b d e first second held none is counted asked more all =
    all
    ∙ ap (λ l. d ++ l) (asked
    ∙ ap (λ (k : CoreValue). where_asked options.table (table_line (program_of k) (core_of k))) second
    ∙ ap (λ p. where_asked options.table (table_line (unfolding_of p) (core_of book.core))) held)
    ∙ ap (λ l. l ++ where_asked options.table (table_line (unfolding_of book.program) (core_of book.core)))
    (more ∙ ap (λ l. l ++ rounds) (is ∙ ap (λ l. l ++ values_text (core_of one)) none
    ∙ ap (λ (k : CoreValue). values_text (core_of k)) first))

-- ---- the log
pub is_faulty : (U : Unfolding) (n : Network) (text : List ℕ) (at : ℕ) (fault : Fault) (why : LineFault) (said : Refusal)
    → log_of U n text ≡ StopsAt at fault → why ≡ fault_in fault → said ≡ log_refusal at why
    → IsFaulty (log_of U n text) (Plainly said)
is_faulty U n text at fault why said h w s =
    subst (λ j. IsFaulty j (Plainly said)) (sym h) (ap Plainly (s ∙ ap (log_refusal at) w))

-- ---- the texts
module _ (options : ReplayOptions) (program network log : List ℕ) (U : Unfolding) (s : SceneValue)
    (reads : ReadsInput program network (Accepted (U, s))) where
  ended : (j : Judged AnswerValue) → ReplaysLog options U (start_of s) (log_of U s.net log) j
      → Replays options program network log j
  ended j h = record { judged = Accepted (U, s); reads = reads; ends = h }

  faulty : (cause : Cause) (ls : Lines Fault LogLine) → IsFaulty ls cause
      → ReplaysLog options U (start_of s) ls (Refused cause)
  faulty cause (AllLines lines) h = absurd h
  faulty cause (StopsAt at fault) h = ap Refused h

  pub replay_faulty : (cause : Cause) → IsFaulty (log_of U s.net log) cause
      → Replays options program network log (Refused cause)
  replay_faulty cause h = ended (Refused cause) (faulty cause (log_of U s.net log) h)

  stopped : (cause : Cause) (es : List Logged) (ls : Lines Fault LogLine) → SaidBy (IsEntry U) es ls
      → IsStopped U (start_of s) es cause → ReplaysLog options U (start_of s) ls (Refused cause)
  stopped cause es (StopsAt at fault) are h = absurd are
  stopped cause es (AllLines lines) are h = record {
    log = es;
    are = are;
    ends = subst (λ o. ReplaysEntries options U (start_of s) es o (Refused cause)) (sym h.stops) (ap Refused h.is);
  }

  pub replay_stopped : (cause : Cause) (es : List Logged) → SaidBy (IsEntry U) es (log_of U s.net log)
      → IsStopped U (start_of s) es cause → Replays options program network log (Refused cause)
  replay_stopped cause es are h = ended (Refused cause) (stopped cause es (log_of U s.net log) are h)

  shows : (es : List Logged) (text : List ℕ) (book : Ledger) (ls : Lines Fault LogLine) → SaidBy (IsEntry U) es ls
      → IsReplayed U (start_of s) es book → IsText options book text
      → ReplaysLog options U (start_of s) ls (Accepted (showing text book []))
  shows es text book (StopsAt at fault) are h says = absurd are
  shows es text book (AllLines lines) are h says =
      let j : Judged AnswerValue = Accepted (showing text book []) in
      let there : ShowsBook options U (start_of s) (entries_in es) j = record {
        core = book.core;
        leads = h.leads;
        text = text;
        says = subst (λ b. IsText options b text) h.is says;
        is = ap (λ b. Accepted (showing text b [])) h.is;
      } in
      record {
        log = es;
        are = are;
        ends = subst (λ o. ReplaysEntries options U (start_of s) es o j)
            (sym (never_stops U (start_of s) book.core es h.leads)) there;
      }

  pub replay_shown : (es : List Logged) (text : List ℕ) (book : BookValue)
      → SaidBy (IsEntry U) es (log_of U s.net log) → IsReplayed U (start_of s) es (ledger_of book)
      → IsText options (ledger_of book) text
      → Replays options program network log (Accepted (showing text (ledger_of book) []))
  replay_shown es text book are h says = ended (Accepted (showing text (ledger_of book) []))
      (shows es text (ledger_of book) (log_of U s.net log) are h says)
