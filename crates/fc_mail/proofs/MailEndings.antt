-- A mail log is answered by one thing, and by something.
use Rattle.std.proofs.Common.{◌≡◌, ◌⊎◌, ℕ, List, ◌++◌, length, refl, sym, ◌∙◌, ap, ap₂, subst, arith, Bool, true, false, Option, Some, None, inl, inr}
use Rattle.std.specs.Prelude.{option_map, nat_lt}
use mathlib.Core.Logic.{⊎_elim}
use Rattle.fc_values.specs.Trees.{Copy}
use Rattle.fc_nodes.specs.Program.{IsProgram, Program, unfolding_of}
use Rattle.topology.specs.Networks.{Network, lives}
use Rattle.topology.specs.declared.types.NetFault.TheVariants as net
use Rattle.firing_core.specs.declared.entries.StepFault.TheVariants as step
use Rattle.firing_core.specs.Replays.{begin_fault, end_fault}
use Rattle.message_links.specs.MailCores.{reaches, MailCore, MailEntryValue, MailBegin, MailEnd, MailIdle, MailDeliver, MailAgain, MailLose, MailRun, IsMailStart}
use Rattle.message_links.specs.MailRounds.{Posts, posts_of}
use Rattle.message_links.specs.declared.entries.MailFault.{MailFault}
use Rattle.message_links.specs.declared.entries.MailFault.TheVariants as fault
use Rattle.edit_commands.specs.LineByLine.{Lines, AllLines, StopsAt}
use Rattle.mail_book.specs.MailReplays.{message_fault, mail_fault, FailsMailAt}
use Rattle.mail_book.specs.MailLaws.{MailLogsEnd, MailLogsLeadToOne, MailLogsFailOnce, MailLogsLeadOrFail}
use Rattle.mail_count.specs.Laws.{IsGreatestMail, SomeGreatestMail}
use Rattle.report.specs.Texts.{values_text}
use Rattle.report.specs.Verdicts.{rounds_text}
use Rattle.command_frame.specs.declared.refusal.LineFault.{LineFault}
use Rattle.command_frame.specs.declared.refusal.LineFault.TheVariants as line_fault
use Rattle.command_frame.specs.Agreement.{Agree}
use Rattle.command_frame.specs.Answers.{AnswerValue, plain}
use Rattle.command_frame.specs.Refusals.{log_refusal}
use Rattle.command_frame.specs.Causes.{Plainly, Judged, Accepted, Refused}
use Rattle.command_frame.proofs.Agreeing.{both_plain, both_refused}
use Rattle.fc_mail.specs.Mails.{Mailed, mail_entries_in, line_of_entry, mail_line_fault, ShowsMail, StopsMail, MailsLines}

pub one_number : (N : Network) (p : Posts) (log : List MailEntryValue) (j k : ℕ) → IsGreatestMail N p log j → IsGreatestMail N p log k → j ≡ k
one_number N p log j k h g = omega (arith, h.greatest k g.has, g.greatest j h.has)

-- ---- each fault is told

abbrev Told : MailFault → Type 0
Told f = (why : LineFault) × (mail_line_fault f ≡ Some why)

some_fault : (f g : MailFault) → ◌≡◌ {A = Option MailFault} (Some f) (Some g) → f ≡ g
some_fault f g e = cc

told_begin : (l : Bool) (o : Option Copy) (f : MailFault) → option_map fault.Step (begin_fault l o) ≡ Some f → Told f
told_begin false o f e = subst Told (some_fault (fault.Step step.NoDevice) f e) (line_fault.Net net.NoDevice, refl)
told_begin true None f e = absurd cc
told_begin true (Some s) f e = subst Told (some_fault (fault.Step step.Flying) f e) (line_fault.Flying, refl)

told_end : (l : Bool) (o : Option Copy) (f : MailFault) → option_map fault.Step (end_fault l o) ≡ Some f → Told f
told_end false o f e = subst Told (some_fault (fault.Step step.NoDevice) f e) (line_fault.Net net.NoDevice, refl)
told_end true None f e = subst Told (some_fault (fault.Step step.NotFlying) f e) (line_fault.NotFlying, refl)
told_end true (Some s) f e = absurd cc

told_message : (l t : Bool) (f : MailFault) → message_fault l t ≡ Some f → Told f
told_message false t f e = subst Told (some_fault fault.NoLink f e) (line_fault.Net net.NoLink, refl)
told_message true false f e = subst Told (some_fault fault.Empty f e) (line_fault.Empty, refl)
told_message true true f e = absurd cc

pub told : (c : MailCore) (e : MailEntryValue) (f : MailFault) → mail_fault c e ≡ Some f → Told f
told c (MailBegin d) f e = told_begin (lives c.core.net d) (c.core.flying d) f e
told c (MailEnd d) f e = told_end (lives c.core.net d) (c.core.flying d) f e
told c MailIdle f e = absurd cc
told c (MailDeliver a b) f e = told_message (reaches c.core.net a b) (nat_lt 0 (length (c.transit a b))) f e
told c (MailAgain a b) f e = told_message (reaches c.core.net a b) (nat_lt 0 (length (c.transit a b))) f e
told c (MailLose a b i) f e = told_message (reaches c.core.net a b) (nat_lt i (length (c.transit a b))) f e

-- ---- one answer, and some answer

some_why : (a b : LineFault) → ◌≡◌ {A = Option LineFault} (Some a) (Some b) → a ≡ b
some_why a b e = cc

module _ (one : MailLogsLeadToOne) (once : MailLogsFailOnce) (either : MailLogsLeadOrFail) (P : Program) (is : IsProgram P) (start : MailCore) (s : IsMailStart (unfolding_of P) start) where
  one_end : (log : Mailed) (j k : Judged AnswerValue) → ShowsMail (unfolding_of P) start log j ⊎ StopsMail (unfolding_of P) start log j
      → ShowsMail (unfolding_of P) start log k ⊎ StopsMail (unfolding_of P) start log k → Agree false j k
  one_end log j k (inl h) (inl g) =
      let last : h.last ≡ g.last = one P start h.last g.last (mail_entries_in log) is s h.leads g.leads in
      let count : h.rounds ≡ g.rounds = one_number start.core.net (posts_of start) (mail_entries_in log) h.rounds g.rounds h.counted g.counted in
      both_plain false j k 0 (shown g.last g.rounds) (h.is ∙ ap₂ (λ (m : MailCore) n. Accepted (plain 0 (shown m n))) last count)
      g.is
    where
      shown : MailCore → ℕ → List ℕ
      shown m n = values_text m.core ++ rounds_text n
  one_end log j k (inr h) (inr g) =
      let same = once P start (mail_entries_in log) h.index g.index h.fault g.fault is s h.fails g.fails in
      let why : h.why ≡ g.why = some_why h.why g.why (sym h.told ∙ ap mail_line_fault same.1 ∙ g.told) in
      both_refused false j k (Plainly (log_refusal (line_of_entry log g.index) g.why))
      (h.is ∙ ap₂ (λ i w. Refused (Plainly (log_refusal (line_of_entry log i) w))) same.0 why) g.is
  one_end log j k (inl h) (inr g) = absurd (either P start h.last (mail_entries_in log) g.index g.fault is s h.leads g.fails)
  one_end log j k (inr h) (inl g) = absurd (either P start g.last (mail_entries_in log) h.index h.fault is s g.leads h.fails)

  pub one_lines : (lines : Lines (Unit {0}) MailEntryValue) (j k : Judged AnswerValue) → MailsLines (unfolding_of P) start lines j → MailsLines (unfolding_of P) start lines k → Agree false j k
  one_lines (StopsAt at u) j k h g = both_refused false j k _ h g
  one_lines (AllLines log) j k h g = one_end log j k h g

module _ (ends : MailLogsEnd) (greatest : SomeGreatestMail) (P : Program) (is : IsProgram P) (start : MailCore) (s : IsMailStart (unfolding_of P) start) where
  pub some_lines : (lines : Lines (Unit {0}) MailEntryValue) → (j : Judged AnswerValue) × MailsLines (unfolding_of P) start lines j
  some_lines (StopsAt at u) = (Refused (Plainly (log_refusal at line_fault.Form)), refl)
  some_lines (AllLines log) = ⊎_elim shows stops (ends P start (mail_entries_in log) is s)
    where
      shows : (last : MailCore) × MailRun (unfolding_of P) 0 start (mail_entries_in log) last → (j : Judged AnswerValue) × MailsLines (unfolding_of P) start (AllLines log) j
      shows r =
          let g = greatest (unfolding_of P) start (mail_entries_in log) s in (
            Accepted (plain 0 (values_text r.0.core ++ rounds_text g.0)),
            inl (record { last = r.0; leads = r.1; rounds = g.0; counted = g.1; is = refl }),
          )

      stops : (index : ℕ) × (why : MailFault) × FailsMailAt (unfolding_of P) start (mail_entries_in log) index why → (j : Judged AnswerValue) × MailsLines (unfolding_of P) start (AllLines log) j
      stops f =
          let t = told f.2.before f.2.entry f.1 f.2.refuses in (
            Refused (Plainly (log_refusal (line_of_entry log f.0) t.0)),
            inr (record { index = f.0; fault = f.1; fails = f.2; why = t.0; told = t.1; is = refl }),
          )
