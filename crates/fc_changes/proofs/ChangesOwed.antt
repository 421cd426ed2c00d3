-- What `check --settle --changes` owes.
use Rattle.std.proofs.Common.{ℕ, ◌≡◌, ◌≤◌, false, List, length, refl, ap, ◌∙◌, sym, subst, arith}
use Rattle.std.proofs.Common.{Option, Some, None, All}
use Rattle.fc_values.specs.Types.{Declarations}
use Rattle.fc_nodes.specs.Program.{IsProgram, Program, Unfolding, unfolding_of}
use Rattle.firing_core.specs.Cores.{IsGood}
use Rattle.changes.specs.declared.types.ChangeFault.{ChangeFault}
use Rattle.changes.specs.Changes.{ChangeValue}
use Rattle.changes.specs.Faults.{NoneRefused, refused_line}
use Rattle.changes.specs.Hand.{said}
use Rattle.change_envelopes.specs.Laws.{EndsStay, LinesMayHappen, OneEnvelope, ScenesLie, SomeEnvelope}
use Rattle.envelopes.specs.Envelopes.{Envelope, IsEnvelope, MayLive}
use Rattle.envelope_bounds.specs.Laws.{EditsStayWithin, LookupsAgree}
use Rattle.envelope_bounds.specs.Yes.{YesHoldsWithin}
use Rattle.bound_rounds.specs.Rounds.{BoundTable}
use Rattle.last_bounds.specs.LastBounds.{AreLastBounds, LastBound}
use Rattle.last_bounds.specs.Laws.{OneList, SomeList}
use Rattle.settle_rounds.specs.Lines.{LinesHold, LinesHoldAnyhow, StartsStay}
use Rattle.settle_rounds.specs.Rounds.{any_table}
use Rattle.settle_rounds.specs.Starts.{growing_cap}
use Rattle.settle_rounds.specs.Within.{OneStartWithin, StartsHoldWithin}
use Rattle.net_json.specs.Scenes.{SceneValue}
use Rattle.command_words.specs.declared.commands.ChangesOptions.{ChangesOptions}
use Rattle.command_words.specs.declared.commands.Start.{Start}
use Rattle.command_words.specs.declared.commands.Start.TheVariants.{Any, Table}
use Rattle.command_frame.specs.Agreement.{Agree}
use Rattle.command_frame.specs.Answers.{AnswerValue, plain}
use Rattle.command_frame.specs.Causes.{Judged, Accepted, Refused, Plainly, answer_of}
use Rattle.command_frame.specs.Inputs.{InputOf, ReadsInput}
use Rattle.command_frame.specs.Owing.{HasStatus, IsZero}
use Rattle.command_frame.specs.Refusals.{changes_refusal}
use Rattle.command_frame.specs.Starts.{InputsAreRead, start_of}
use Rattle.command_frame.proofs.Agreeing.{both_plain, both_refused}
use Rattle.command_frame.proofs.KeptYes.{at_program}
use Rattle.command_frame.proofs.Owed.{OwesScenes, plain_status, refused_status, texts_owe, three_owe, zero_low}
use Rattle.command_frame.proofs.RefusalStatuses.{changes_status}
use Rattle.fc_changes.specs.Commands.{BoundsChanges, BoundsLines, BoundsText, BoundsWithin, ChecksChanges}
use Rattle.fc_changes.specs.Commands.{CountsFrom, line_fault_of, change_lines_in}
use Rattle.fc_changes.specs.Lines.{bounds_text}
use Rattle.fc_changes.specs.Promises.{ChangesKept, ChangesOwe, EnvelopeHolds, KeepsYesWithin, LineHolds}
use Rattle.fc_changes.proofs.Envelopes.{some_round}
use Rattle.fc_changes.proofs.Kept.{all_away, envelope_holds, keeps_yes, lines_kept}

-- the laws of which the command is made
pub record Laws : Type 0 where
  pub inputs : InputsAreRead
  pub some_envelope : SomeEnvelope
  pub one_envelope : OneEnvelope
  pub scenes : ScenesLie
  pub ends : EndsStay
  pub happen : LinesMayHappen
  pub lookups : LookupsAgree
  pub edits : EditsStayWithin
  pub yes : YesHoldsWithin
  pub starts : StartsHoldWithin
  pub one_start : OneStartWithin
  pub some_list : SomeList
  pub one_list : OneList
  pub hold : LinesHold
  pub anyhow : LinesHoldAnyhow
  pub stay : StartsStay

module _ (laws : Laws) (options : ChangesOptions) where
  -- ---- something is made, within an envelope
  some_start : (from : Start) (Q : Program) (s : SceneValue) → IsProgram Q → IsGood (unfolding_of Q) (start_of s)
      → (E : Envelope) → (table : BoundTable) × CountsFrom from (unfolding_of Q) E s table
  some_start Any Q s is good E = (any_table (unfolding_of Q), refl)
  some_start Table Q s is good E =
      (laws.starts Q E is (start_of s) good (growing_cap (length E.devices))).some

  some_within : (Q : Program) (s : SceneValue) → IsProgram Q → IsGood (unfolding_of Q) (start_of s)
      → (E : Envelope) → IsEnvelope E → 1 ≤ growing_cap (length E.devices)
      → (answer : AnswerValue) × BoundsWithin options (unfolding_of Q) s E answer
  some_within Q s is good E envelope rounds =
      let U : Unfolding = unfolding_of Q in
      let start = some_start options.start Q s is good E in
      let list = laws.some_list U E start.0 (growing_cap (length E.devices)) envelope rounds in (
        plain 0 (bounds_text options.facts options.start U E list.0),
        record {
          table = start.0;
          starts = start.1;
          written = record { lasts = list.0; are = list.1; writes = refl };
        },
      )

  -- ---- and one thing
  tables_agree : (from : Start) (U : Unfolding) (s : SceneValue) (E : Envelope) → IsEnvelope E → (a b : BoundTable)
      → CountsFrom from U E s a → CountsFrom from U E s b → (d : ℕ) → MayLive E d → a d ≡ b d
  tables_agree Any U s E envelope a b h g d live = ap (λ (t : BoundTable). t d) (h ∙ sym g)
  tables_agree Table U s E envelope a b h g d live =
      laws.one_start U E s.net envelope (growing_cap (length E.devices)) (start_of s) a b h g d live

  one_within : (U : Unfolding) (s : SceneValue) (E : Envelope) → IsEnvelope E → (a b : AnswerValue)
      → BoundsWithin options U s E a → BoundsWithin options U s E b → a ≡ b
  one_within U s E envelope a b h g =
      let same = laws.one_list U E envelope h.table g.table
      (tables_agree options.start U s E envelope h.table g.table h.starts g.starts)
      (growing_cap (length E.devices)) h.written.lasts g.written.lasts h.written.are g.written.are in
      h.written.writes ∙ ap (λ (ls : List LastBound). plain 0 (bounds_text options.facts options.start U E ls)) same
      ∙ sym g.written.writes

  both_within : (U : Unfolding) (s : SceneValue) (cs : List ChangeValue) (j k : Judged AnswerValue)
      → BoundsChanges options U s cs j → BoundsChanges options U s cs k → Agree false j k
  both_within U s cs j k h g =
      let same : h.envelope ≡ g.envelope = laws.one_envelope s.net cs h.envelope g.envelope h.is g.is in
      let answers : h.answer ≡ g.answer = one_within U s g.envelope g.is.envelope h.answer g.answer
      (subst (λ (E : Envelope). BoundsWithin options U s E h.answer) same h.bounds) g.bounds in
      both_plain false j k 0 (bounds_text options.facts options.start U g.envelope g.bounds.written.lasts)
      (h.accepted ∙ ap Accepted (answers ∙ g.bounds.written.writes)) (g.accepted ∙ ap Accepted g.bounds.written.writes)

  module _ (text : List ℕ) where
    -- ---- of a text
    some_text : (Q : Program) (s : SceneValue) → IsProgram Q → IsGood (unfolding_of Q) (start_of s)
        → (j : Judged AnswerValue) × BoundsText options text (unfolding_of Q) s j
    some_text Q s is good = by_line (refused_line s.net (change_lines_in s text)) refl
      where
        by_line : (o : Option (ℕ × ChangeFault)) → refused_line s.net (change_lines_in s text) ≡ o
            → (j : Judged AnswerValue) × BoundsLines options (unfolding_of Q) s (change_lines_in s text) o j
        by_line (Some line) e = (Refused (Plainly (changes_refusal line.0 (line_fault_of line.1))), refl)
        by_line None e =
            let metric : s.net.declared.least ≤ s.net.declared.greatest =
            subst (λ (D : Declarations). D.least ≤ D.greatest) (sym good.declared) is.lawful.metric.0 in
            let envelope = laws.some_envelope s.net (change_lines_in s text) good.net e metric in
            let made = some_within Q s is good envelope.0 envelope.1.envelope
            (some_round s.net (said (change_lines_in s text)) envelope.0 good.net envelope.1) in (
              Accepted made.0,
              record {
                envelope = envelope.0;
                is = envelope.1;
                answer = made.0;
                bounds = made.1;
                accepted = refl;
              },
            )

    one_text : (Q : Program) (s : SceneValue) → IsProgram Q → IsGood (unfolding_of Q) (start_of s)
        → (j k : Judged AnswerValue) → BoundsText options text (unfolding_of Q) s j
        → BoundsText options text (unfolding_of Q) s k → Agree false j k
    one_text Q s is good j k h g = by_line (refused_line s.net (change_lines_in s text)) h g
      where
        by_line : (o : Option (ℕ × ChangeFault)) → BoundsLines options (unfolding_of Q) s (change_lines_in s text) o j
            → BoundsLines options (unfolding_of Q) s (change_lines_in s text) o k → Agree false j k
        by_line (Some line) h g = both_refused false j k _ h g
        by_line None h g = both_within (unfolding_of Q) s (said (change_lines_in s text)) j k h g

    has_status : (U : Unfolding) (s : SceneValue) (j : Judged AnswerValue) → BoundsText options text U s j → HasStatus j
    has_status U s j h = by_line (refused_line s.net (change_lines_in s text)) h
      where
        by_line : (o : Option (ℕ × ChangeFault)) → BoundsLines options U s (change_lines_in s text) o j → HasStatus j
        by_line (Some line) e = refused_status j _ (changes_status line.0 (line_fault_of line.1)) e
        by_line None h =
            plain_status j 0 (bounds_text options.facts options.start U h.envelope h.bounds.written.lasts)
            (omega arith) (h.accepted ∙ ap Accepted h.bounds.written.writes)

    -- ---- what is promised
    module _ (program network : List ℕ) (i : InputOf) (reads : ReadsInput program network (Accepted i)) where
      all_hold : (E : Envelope) → IsEnvelope E → (table : BoundTable) → CountsFrom options.start i.0 E i.1 table
          → (ls : List LastBound) → AreLastBounds i.0 E table (growing_cap (length E.devices)) ls
          → All (LineHolds options.start i.0 E i.1) ls
      all_hold E envelope table starts ls are =
          at_program laws.inputs program network i reads
          (λ U. CountsFrom options.start U E i.1 table → AreLastBounds U E table (growing_cap (length E.devices)) ls
          → All (LineHolds options.start U E i.1) ls)
          (λ P is good starts are.
          lines_kept laws.hold laws.anyhow laws.stay P is E envelope i.1 good options.start table starts ls are) starts are

      kept : (a : AnswerValue) → NoneRefused i.1.net (change_lines_in i.1 text)
          → BoundsChanges options i.0 i.1 (said (change_lines_in i.1 text)) (Accepted a)
          → ChangesKept options program network text a
      kept a accepted h =
          let E = h.envelope in
          let table = h.bounds.table in
          let b = h.bounds.written in
          record {
            unfolded = i.0;
            scene = i.1;
            reads = reads;
            accepted = accepted;
            envelope = E;
            is = h.is;
            within = at_program laws.inputs program network i reads
                (λ U. EnvelopeHolds U i.1.net (said (change_lines_in i.1 text)) E)
                (λ P is good. envelope_holds laws.happen i.1.net (change_lines_in i.1 text) E accepted h.is laws.scenes
                laws.ends laws.lookups laws.edits good.net (unfolding_of P));
            yes = at_program laws.inputs program network i reads (λ U. KeepsYesWithin U E)
                (λ P is good. keeps_yes laws.yes P E is (h.is.declared ∙ good.declared));
            lasts = b.lasts;
            devices = b.are.devices;
            away = all_away i.0 E table (growing_cap (length E.devices)) b.lasts b.are;
            hold = all_hold E h.is.envelope table h.bounds.starts b.lasts b.are;
            writes = ap answer_of h.accepted ∙ b.writes;
          }

      keeps : (a : AnswerValue) → BoundsText options text i.0 i.1 (Accepted a) → a.status ≡ 0
          → ChangesKept options program network text a
      keeps a h zero = by_line (refused_line i.1.net (change_lines_in i.1 text)) refl h
        where
          by_line : (o : Option (ℕ × ChangeFault)) → refused_line i.1.net (change_lines_in i.1 text) ≡ o
              → BoundsLines options i.0 i.1 (change_lines_in i.1 text) o (Accepted a)
              → ChangesKept options program network text a
          by_line (Some line) e h = absurd (cc h)
          by_line None e h = kept a e h

    pub scenes_owe : OwesScenes false (λ U s j. BoundsText options text U s j) IsZero
        (λ program network a. ChangesKept options program network text a)
    scenes_owe = record {
      some = some_text;
      one = one_text;
      statuses = has_status;
      low = zero_low;
      keeps = keeps;
    }

pub changes_owe : Laws → ChangesOwe
changes_owe laws options =
    three_owe false (ChecksChanges options) IsZero (ChangesKept options)
    (λ text. texts_owe laws.inputs false (λ U s j. BoundsText options text U s j) IsZero
    (λ program network a. ChangesKept options program network text a) (scenes_owe laws options text))
