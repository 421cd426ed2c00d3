-- What is kept while the network changes.
use Rattle.std.proofs.Common.{ℕ, ◌≡◌, true, not, List, [], ◌∷◌, length, ◌∙◌, sym, subst, Option, All}
use Rattle.std.proofs.lemmas.List.Elements.{All-head, All-tail}
use Rattle.fc_values.specs.Fields.{is_in}
use Rattle.fc_nodes.specs.Program.{IsProgram, Program, Unfolding, unfolding_of}
use Rattle.topology.specs.Networks.{IsNetwork, Network}
use Rattle.firing_core.specs.Cores.{IsGood}
use Rattle.firing_core.specs.Entries.{EntryValue, BeginEntry, EndEntry, IdleEntry, EditEntry}
use Rattle.value_bounds.specs.BoundValues.{BoundValue, Lies}
use Rattle.envelopes.specs.Edits.{AllMayEnter, MayEnter}
use Rattle.envelopes.specs.Envelopes.{Envelope, IsEnvelope, MayLive, surely_lives}
use Rattle.envelope_bounds.specs.Laws.{EditsStayWithin, LookupsAgree}
use Rattle.envelope_bounds.specs.Yes.{YesHoldsWithin}
use Rattle.changes.specs.Changes.{ChangeValue}
use Rattle.changes.specs.Faults.{NoneRefused}
use Rattle.changes.specs.Hand.{said}
use Rattle.change_envelopes.specs.Envelopes.{IsEnvelopeOf}
use Rattle.change_envelopes.specs.Laws.{EndsStay, LinesMayHappen, ScenesLie}
use Rattle.bound_rounds.specs.Rounds.{BoundTable, HasBound}
use Rattle.last_bounds.specs.LastBounds.{AreLastBounds, IsLastBound, LastBound}
use Rattle.settle_rounds.specs.Lines.{LinesHold, LinesHoldAnyhow, StartsStay}
use Rattle.settle_rounds.specs.Starts.{growing_cap}
use Rattle.net_json.specs.Scenes.{SceneValue}
use Rattle.command_words.specs.declared.commands.Start.{Start}
use Rattle.command_words.specs.declared.commands.Start.TheVariants.{Any, Table}
use Rattle.command_frame.specs.Starts.{start_of}
use Rattle.fc_changes.specs.Commands.{CountsFrom}
use Rattle.fc_changes.specs.Promises.{EnvelopeHolds, IsAllowed, KeepsYesWithin, LineHolds}
use Rattle.fc_changes.proofs.Lasts.{all_of}

-- ---- what lines allow stays within their envelope
module _ (happen : LinesMayHappen) (n : Network) (ls : List (ℕ × Option ChangeValue)) (E : Envelope)
    (accepted : NoneRefused n ls) (is : IsEnvelopeOf n (said ls) E) where
  may_enter : (e : EntryValue) → IsAllowed n (said ls) e → MayEnter E e
  may_enter (BeginEntry d) h = tt
  may_enter (EndEntry d) h = tt
  may_enter IdleEntry h = tt
  may_enter (EditEntry e) h = happen n ls E accepted is h.0 h.1 e h.2

  all_enter : (log : List EntryValue) → All (IsAllowed n (said ls)) log → AllMayEnter E log
  all_enter [] h = tt
  all_enter (e ∷ es) h =
      (may_enter e (All-head (IsAllowed n (said ls)) e es h), all_enter es (All-tail (IsAllowed n (said ls)) e es h))

  pub envelope_holds : ScenesLie → EndsStay → LookupsAgree → EditsStayWithin → IsNetwork n → (U : Unfolding)
      → EnvelopeHolds U n (said ls) E
  envelope_holds lie ends agree stay net U = record {
    scene = (agree E n is.envelope net).0 (lie n (said ls) E net is);
    stays = λ c last log lies run allowed.
        stay U E is.envelope (ends n (said ls) E is) c last log lies run (all_enter log allowed);
  }

-- ---- a yes
pub keeps_yes : YesHoldsWithin → (P : Program) (E : Envelope) → IsProgram P → E.declared ≡ P.declared
    → KeepsYesWithin (unfolding_of P) E
keeps_yes law P E is declared N K net lies said = law P E N K is net (lies.declared ∙ declared) lies said

-- ---- the lines
pub all_away : (U : Unfolding) (E : Envelope) (table : BoundTable) (cap : ℕ) (ls : List LastBound)
    → AreLastBounds U E table cap ls → All (λ (l : LastBound). l.away ≡ not (surely_lives E l.device)) ls
all_away U E table cap ls are =
    all_of (IsLastBound U E table are.rounds) (λ l. l.away ≡ not (surely_lives E l.device)) ls
    (λ l there last. last.away) are.each

module _ (hold : LinesHold) (anyhow : LinesHoldAnyhow) (stay : StartsStay) (P : Program) (is : IsProgram P)
    (E : Envelope) (envelope : IsEnvelope E) (s : SceneValue) (good : IsGood (unfolding_of P) (start_of s)) where
  pub lines_kept : (from : Start) (table : BoundTable) → CountsFrom from (unfolding_of P) E s table
      → (ls : List LastBound) → AreLastBounds (unfolding_of P) E table (growing_cap (length E.devices)) ls
      → All (LineHolds from (unfolding_of P) E s) ls
  lines_kept Any table starts ls are =
      let U : Unfolding = unfolding_of P in
      all_of (IsLastBound U E table are.rounds) (LineHolds Any U E s) ls
      (λ l there last. λ start end m fits few within.
      anyhow P E is envelope start end fits l.rounds l.device l.bound
      (subst (λ ds. is_in l.device ds ≡ true) are.devices there)
      (subst (λ t. HasBound U E t l.rounds l.device l.bound) starts last.rounds.has) m few within) are.each
  lines_kept Table table starts ls are =
      let U : Unfolding = unfolding_of P in
      all_of (IsLastBound U E table are.rounds) (LineHolds Table U E s) ls
      (λ l there last.
      let live : MayLive E l.device = subst (λ ds. is_in l.device ds ≡ true) are.devices there in
      record {
        after = λ end m few within.
            hold P E is envelope (start_of s) end good (growing_cap (length E.devices)) table starts l.rounds l.device
            l.bound live last.rounds.has m few within;
        before = λ end m within e has.
            subst (λ (b : BoundValue). Lies b e.value) (sym last.before)
            (stay P E is envelope (start_of s) end good (growing_cap (length E.devices)) table starts l.device live m
            within e has);
      }) are.each
