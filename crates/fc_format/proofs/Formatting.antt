-- What `format` owes, and what its code answers.
use Rattle.std.proofs.Common.{ℕ, ◌≡◌, ◌≤◌, false, List, [], ◌∷◌, refl, ap, ◌∙◌, arith}
use Rattle.fc_syntax.specs.Terms.{Declaration}
use Rattle.fc_syntax.specs.Text.{program_text}
use Rattle.command_frame.specs.Agreement.{Agree}
use Rattle.command_frame.specs.Answers.{AnswerValue, plain}
use Rattle.command_frame.specs.declared.stop.Stop.{Stop}
use Rattle.command_frame.specs.Causes.{Judged, Accepted, Refused, judged_map}
use Rattle.command_frame.specs.Inputs.{OneSource}
use Rattle.command_frame.specs.Owing.{HasStatus}
use Rattle.command_frame.specs.Sections.{WithOne, other_section_count}
use Rattle.command_frame.specs.Sources.{ReadsSource}
use Rattle.command_frame.specs.Stops.{StopsFor}
use Rattle.command_frame.proofs.Agreeing.{both_plain, both_refused}
use Rattle.command_frame.proofs.Owed.{plain_status, refused_status, zero_low}
use Rattle.command_frame.proofs.RefusalStatuses.{IfRefused, by_three, source_refused}
use Rattle.command_frame.proofs.Stopping.{stops_map}
use Rattle.fc_format.specs.Formats.{FormatOwes, Formats}

abbrev printed : Judged (List Declaration) → Judged AnswerValue
printed judged = judged_map (λ ds. plain 0 (program_text ds)) judged

one_text : (d : Judged (List Declaration)) (j k : Judged AnswerValue) → j ≡ printed d → k ≡ printed d → Agree false j k
one_text (Accepted ds) j k e f = both_plain false j k 0 (program_text ds) e f
one_text (Refused cause) j k e f = both_refused false j k cause e f

status_of_text : (d : Judged (List Declaration)) (j : Judged AnswerValue) → IfRefused d → j ≡ printed d → HasStatus j
status_of_text (Accepted ds) j r e = plain_status j 0 (program_text ds) (omega arith) e
status_of_text (Refused cause) j r e = refused_status j cause r e

module _ (source : OneSource) where
  some : (ss : List (List ℕ)) → (j : Judged AnswerValue) × WithOne Formats ss j
  some [] = (Refused (other_section_count []), refl)
  some (program ∷ []) =
      let read = source program in
      (printed read.0, record { judged = read.0; reads = read.1; prints = refl })
  some (a ∷ b ∷ ss) = (Refused (other_section_count (a ∷ b ∷ ss)), refl)

  one : (ss : List (List ℕ)) (j k : Judged AnswerValue) → WithOne Formats ss j → WithOne Formats ss k → Agree false j k
  one [] j k h g = both_refused false j k _ h g
  one (program ∷ []) j k h g =
      let read = source program in
      one_text read.0 j k (h.prints ∙ ap printed (read.2 h.judged h.reads))
      (g.prints ∙ ap printed (read.2 g.judged g.reads))
  one (a ∷ b ∷ ss) j k h g = both_refused false j k _ h g

  statuses : (ss : List (List ℕ)) (j : Judged AnswerValue) → WithOne Formats ss j → HasStatus j
  statuses [] j h = refused_status j (other_section_count []) by_three h
  statuses (program ∷ []) j h = status_of_text h.judged j (source_refused program h.judged h.reads) h.prints
  statuses (a ∷ b ∷ ss) j h = refused_status j (other_section_count (a ∷ b ∷ ss)) by_three h

pub format_owes : OneSource → FormatOwes
format_owes source = record {
  some = λ ss within. some source ss;
  one = one source;
  statuses = statuses source;
  low = zero_low;
  keeps = λ ss a h zero. tt;
}

-- ---- what the code does
pub format_stops : (program : List ℕ) (s : Stop) → StopsFor (λ cause. ReadsSource program (Refused cause)) s
    → StopsFor (λ cause. Formats program (Refused cause)) s
format_stops program s h =
    stops_map (λ cause. ReadsSource program (Refused cause)) (λ cause. Formats program (Refused cause))
    (λ cause k. record { judged = Refused cause; reads = k; prints = refl }) s h

pub format_prints : (program : List ℕ) (ds : List Declaration) (a : AnswerValue) → ReadsSource program (Accepted ds)
    → a ≡ plain 0 (program_text ds) → Formats program (Accepted a)
format_prints program ds a h e = record { judged = Accepted ds; reads = h; prints = ap Accepted e }
