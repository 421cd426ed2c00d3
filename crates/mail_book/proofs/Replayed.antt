-- A mail log, replayed entry by entry.
use Rattle.std.proofs.Common.{◌≡◌, ℕ, suc, ◌<◌, ◌+◌, List, [], ◌∷◌, ◌++◌, length, take, drop, get_or, refl, sym, ◌∙◌, ap, subst, arith, Some, Option}
use Rattle.std.specs.Prelude.{option_map}
use Rattle.std.proofs.lemmas.List.{map-append, length-map, length-take-le, take-append-drop}
use Rattle.std.proofs.Math.Seq.{take-suc, drop-cons}
use Rattle.fc_nodes.specs.Program.{Program, Unfolding, unfolding_of}
use Rattle.firing_core.specs.declared.entries.StepFault.{StepFault}
use Rattle.firing_core.specs.declared.entries.StepFault.TheVariants as step
use Rattle.message_links.specs.MailCores.{MailCore, MailEntryValue, MailStep, MailRun}
use Rattle.message_links.specs.declared.entries.MailEntry.{MailEntry}
use Rattle.message_links.specs.declared.entries.MailFault.TheVariants as fault
use Rattle.message_links.specs.declared.entries.MailReplay.{MailReplay}
use Rattle.message_links.specs.declared.entries.MailReplay.TheVariants as replay
use Rattle.message_links.specs.MailEntries.{mail_entry, mail_entries}
use Rattle.mail_book.specs.MailViews.{MailValue, mail_of, unfolded_of}
use Rattle.mail_book.specs.MailReplays.{mail_fault, HasStepFault, RefusesMail, FailsMail}

-- one entry more behind a run
run_snoc : (U : Unfolding) (at : ℕ) (c middle last : MailCore) (es : List MailEntryValue) (e : MailEntryValue) → MailRun U at c es middle → MailStep U (at + length es) middle e last → MailRun U at c (es ++ e ∷ []) last
run_snoc U at c middle last [] e r s =
    let q : at + 0 ≡ at = omega arith in
    (last, subst (λ k. MailStep U at k e last) r (subst (λ i. MailStep U i middle e last) q s), refl)
run_snoc U at c middle last (x ∷ es) e r s =
    let q : at + suc (length es) ≡ suc at + length es = omega arith in
    (r.0, r.1, run_snoc U (suc at) r.0 middle last es e r.2 (subst (λ i. MailStep U i middle e last) q s))

-- the mail core to which the first entries of a log lead
pub record MailedTo (start : MailValue) (log : List MailEntry) (i : ℕ) (m : MailValue) : Type 0 where
  pub program : m.core.program ≡ start.core.program
  pub runs : MailRun (unfolded_of start) 0 (mail_of start) (mail_entries (take i log)) (mail_of m)

module _ {start : MailValue} {log : List MailEntry} {i : ℕ} {m : MailValue} (e : MailEntry) (h : i < length log) (is : e ≡ get_or log i e) (r : MailedTo start log i m) where
  longer : mail_entries (take (suc i) log) ≡ mail_entries (take i log) ++ mail_entry e ∷ []
  longer = ap mail_entries (take-suc log i e h ∙ ap (λ (x : MailEntry). take i log ++ x ∷ []) (sym is)) ∙ map-append mail_entry (take i log) (e ∷ [])

  long : length (mail_entries (take i log)) ≡ i
  long = length-map (take i log) mail_entry ∙ length-take-le i log (omega arith)

  pub mailed_more : (j : ℕ) (next : MailValue) → j ≡ suc i → next.core.program ≡ m.core.program → MailStep (unfolded_of m) i (mail_of m) (mail_entry e) (mail_of next) → MailedTo start log j next
  mailed_more j next q same s = subst (λ (k : ℕ). MailedTo start log k next) (sym q) (record {
    program = same ∙ r.program;
    runs = subst (λ (l : List MailEntryValue). MailRun (unfolded_of start) 0 (mail_of start) l (mail_of next)) (sym longer)
        (run_snoc (unfolded_of start) 0 (mail_of start) (mail_of m) (mail_of next) (mail_entries (take i log)) (mail_entry e) r.runs
        (subst (λ k. MailStep (unfolded_of start) k (mail_of m) (mail_entry e) (mail_of next)) (sym (let p : 0 + length (mail_entries (take i log)) ≡ length (mail_entries (take i log)) = omega arith in p ∙ long))
        (subst (λ (P : Program). MailStep (unfolding_of P) i (mail_of m) (mail_entry e) (mail_of next)) r.program s)));
  })

  cut_here : mail_entries log ≡ mail_entries (take i log) ++ mail_entry e ∷ mail_entries (drop (suc i) log)
  cut_here =
      ap mail_entries (sym (take-append-drop i log) ∙ ap (λ (l : List MailEntry). take i log ++ l) (drop-cons log i e h ∙ ap (λ (x : MailEntry). x ∷ drop (suc i) log) (sym is)))
      ∙ map-append mail_entry (take i log) (e ∷ drop (suc i) log)

  -- the entry that is refused is the first that has no step
  pub mail_fails : (f : MailReplay) → RefusesMail i (mail_of m) (mail_entry e) f → FailsMail (unfolded_of start) (mail_of start) (mail_entries log) f
  mail_fails replay.Memory w = tt
  mail_fails (replay.At k why) w = record {
    front = mail_entries (take i log);
    entry = mail_entry e;
    rest = mail_entries (drop (suc i) log);
    cut = cut_here;
    place = w.0 ∙ sym long;
    before = mail_of m;
    runs = r.runs;
    refuses = w.1;
  }

-- ---- refusals at an index

-- the fault of a begin, and of an end, from that of the core
pub step_fault : (c : MailCore) (e : MailEntryValue) (o : Option StepFault) (g : StepFault) → mail_fault c e ≡ option_map fault.Step o → o ≡ Some g → HasStepFault c e g
step_fault c e o step.NoDevice q p = q ∙ ap (option_map fault.Step) p
step_fault c e o step.Flying q p = q ∙ ap (option_map fault.Step) p
step_fault c e o step.NotFlying q p = q ∙ ap (option_map fault.Step) p
step_fault c e o step.Memory q p = tt
