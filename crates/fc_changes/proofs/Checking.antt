-- What is made of texts with lines that are refused, or accepted.
use Rattle.std.proofs.Common.{ℕ, ◌≡◌, List, ap, sym, subst, refl, Option}
use Rattle.fc_nodes.specs.Program.{Unfolding}
use Rattle.changes.specs.declared.types.ChangeFault.{ChangeFault}
use Rattle.changes.specs.Faults.{NoneRefused}
use Rattle.changes.specs.Hand.{said}
use Rattle.change_envelopes.specs.Envelopes.{IsEnvelopeOf}
use Rattle.envelopes.specs.Envelopes.{Envelope}
use Rattle.net_json.specs.Scenes.{SceneValue}
use Rattle.command_words.specs.declared.commands.ChangesOptions.{ChangesOptions}
use Rattle.command_frame.specs.Answers.{AnswerValue}
use Rattle.command_frame.specs.Causes.{Cause, Accepted, Refused}
use Rattle.command_frame.specs.Inputs.{ReadsInput}
use Rattle.fc_changes.specs.Code.{IsRefused}
use Rattle.fc_changes.specs.Commands.{BoundsLines, BoundsWithin, ChecksChanges, change_lines_in}

module _ (options : ChangesOptions) (program network changes : List ℕ) (U : Unfolding) (s : SceneValue)
    (reads : ReadsInput program network (Accepted (U, s))) where
  pub lines_refused : (cause : Cause) → IsRefused s.net (change_lines_in s changes) cause
      → ChecksChanges options program network changes (Refused cause)
  lines_refused cause h = record {
    judged = Accepted (U, s);
    reads = reads;
    ends = subst
        (λ (o : Option (ℕ × ChangeFault)). BoundsLines options U s (change_lines_in s changes) o (Refused cause))
        (sym h.refused) (ap Refused h.is);
  }

  pub lines_checked : NoneRefused s.net (change_lines_in s changes) → (E : Envelope)
      → IsEnvelopeOf s.net (said (change_lines_in s changes)) E → (a : AnswerValue) → BoundsWithin options U s E a
      → ChecksChanges options program network changes (Accepted a)
  lines_checked accepted E is a bounds = record {
    judged = Accepted (U, s);
    reads = reads;
    ends = subst
        (λ (o : Option (ℕ × ChangeFault)). BoundsLines options U s (change_lines_in s changes) o (Accepted a))
        (sym accepted)
        (record { envelope = E; is = is; answer = a; bounds = bounds; accepted = refl });
  }
