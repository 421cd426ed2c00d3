-- A mail log leads to one mail core, or has one first entry without a step.
use Rattle.std.proofs.Common.{◌≡◌, ◌⊎◌, ℕ, suc, List, [], ◌∷◌, ◌++◌, length, refl, sym, ◌∙◌, ap, subst, inl, inr, Some, None, Option}
use mathlib.Core.Logic.{⊎_elim}
use Rattle.fc_nodes.specs.Program.{Program, Unfolding, unfolding_of, IsProgram}
use Rattle.firing_core.specs.Laws.{StepsKeepGood, FaultlessStep, StepsAgree, CopiesFit}
use Rattle.message_links.specs.MailCores.{MailCore, MailEntryValue, MailStep, MailRun}
use Rattle.message_links.specs.declared.entries.MailFault.{MailFault}
use Rattle.mail_book.specs.MailReplays.{mail_fault}
use Rattle.mail_book.specs.MailLaws.{MailLogsEnd, MailLogsLeadToOne, MailLogsFailOnce, MailLogsLeadOrFail}
use Rattle.message_links.proofs.GoodMails.{IsMailGood, start_good, step_good}
use Rattle.mail_book.proofs.MailSteps.{step_one, step_free, step_or_fault}

-- the first entry without a step, from a position on
pub record FailsFrom (U : Unfolding) (at : ℕ) (c : MailCore) (log : List MailEntryValue) (index : ℕ) (why : MailFault) : Type 0 where
  pub front : List MailEntryValue
  pub entry : MailEntryValue
  pub rest : List MailEntryValue
  pub cut : log ≡ front ++ entry ∷ rest
  pub place : index ≡ length front
  pub before : MailCore
  pub runs : MailRun U at c front before
  pub refuses : mail_fault before entry ≡ Some why

none_some : {X : Type 0} {x : X} {o : Option X} → o ≡ None → o ≡ Some x → ⊥
none_some p q = let r = sym p ∙ q in cc

module _ (P : Program) (is : IsProgram P) (keeps : StepsKeepGood) (fit : CopiesFit) (free : FaultlessStep) (agree : StepsAgree) where
  abbrev U : Unfolding
  U = unfolding_of P

  abbrev Good : MailCore → Type 0
  Good c = IsMailGood (unfolding_of P) c

  next_good : (at : ℕ) (c next : MailCore) (e : MailEntryValue) → Good c → MailStep (unfolding_of P) at c e next → Good next
  next_good at c next e g s = step_good P is keeps fit at c next e g s

  one_run : (at : ℕ) (c a b : MailCore) (log : List MailEntryValue) → Good c → MailRun (unfolding_of P) at c log a → MailRun (unfolding_of P) at c log b → a ≡ b
  one_run at c a b [] g r s = r ∙ sym s
  one_run at c a b (e ∷ es) g r s =
      let q : s.0 ≡ r.0 = step_one agree (unfolding_of P) at c s.0 r.0 e g s.1 r.1 in
      one_run (suc at) r.0 a b es (next_good at c r.0 e g r.1) r.2 (subst (λ m. MailRun (unfolding_of P) (suc at) m es b) q s.2)

  run_or_fails : (at : ℕ) (c : MailCore) (log : List MailEntryValue) → Good c
      → ((last : MailCore) × MailRun (unfolding_of P) at c log last) ⊎ ((i : ℕ) × (why : MailFault) × FailsFrom (unfolding_of P) at c log i why)
  run_or_fails at c [] g = inl (c, refl)
  run_or_fails at c (e ∷ es) g = ⊎_elim (λ s. steps s (run_or_fails (suc at) s.0 es (next_good at c s.0 e g s.1))) fails (step_or_fault P is free at c e g)
    where
      fails : (why : MailFault) × (mail_fault c e ≡ Some why) → ((last : MailCore) × MailRun (unfolding_of P) at c (e ∷ es) last) ⊎ ((i : ℕ) × (why : MailFault) × FailsFrom (unfolding_of P) at c (e ∷ es) i why)
      fails f = inr (0, f.0, record { front = []; entry = e; rest = es; cut = refl; place = refl; before = c; runs = refl; refuses = f.1 })

      steps : (s : (next : MailCore) × MailStep (unfolding_of P) at c e next)
          → ((last : MailCore) × MailRun (unfolding_of P) (suc at) s.0 es last) ⊎ ((i : ℕ) × (why : MailFault) × FailsFrom (unfolding_of P) (suc at) s.0 es i why)
          → ((last : MailCore) × MailRun (unfolding_of P) at c (e ∷ es) last) ⊎ ((i : ℕ) × (why : MailFault) × FailsFrom (unfolding_of P) at c (e ∷ es) i why)
      steps s later = ⊎_elim
          (λ r. inl (r.0, (s.0, s.1, r.1)))
          (λ f. inr (
            suc f.0,
            f.1,
            record {
              front = e ∷ f.2.front;
              entry = f.2.entry;
              rest = f.2.rest;
              cut = ap (λ xs. e ∷ xs) f.2.cut;
              place = ap suc f.2.place;
              before = f.2.before;
              runs = (s.0, s.1, f.2.runs);
              refuses = f.2.refuses;
            },
          ))
          later

  -- the failing entry is reached by no run
  no_run : (at : ℕ) (c last before : MailCore) (front rest : List MailEntryValue) (e : MailEntryValue) (why : MailFault) → Good c → MailRun (unfolding_of P) at c (front ++ e ∷ rest) last → MailRun (unfolding_of P) at c front before → mail_fault before e ≡ Some why → ⊥
  no_run at c last before [] rest e why g r s w =
      let free : mail_fault c e ≡ None = step_free (unfolding_of P) at c r.0 e g r.1 in
      none_some (ap (λ m. mail_fault m e) s ∙ free) w
  no_run at c last before (x ∷ front) rest e why g r s w =
      let q : s.0 ≡ r.0 = step_one agree (unfolding_of P) at c s.0 r.0 x g s.1 r.1 in
      no_run (suc at) r.0 last before front rest e why (next_good at c r.0 x g r.1) r.2 (subst (λ m. MailRun (unfolding_of P) (suc at) m front before) q s.2) w

  one_failure : (at : ℕ) (c a b : MailCore) (xs ys us vs : List MailEntryValue) (d e : MailEntryValue) (v w : MailFault) → Good c → xs ++ d ∷ us ≡ ys ++ e ∷ vs
      → MailRun (unfolding_of P) at c xs a → MailRun (unfolding_of P) at c ys b → mail_fault a d ≡ Some v → mail_fault b e ≡ Some w → (length xs ≡ length ys) × (v ≡ w)
  one_failure at c a b [] [] us vs d e v w g q r s h k =
      let same : d ≡ e = cc in
      let l : Some v ≡ Some w = sym h ∙ ap (λ m. mail_fault m d) (r ∙ sym s) ∙ ap (mail_fault b) same ∙ k in
      (refl, cc)
  one_failure at c a b [] (y ∷ ys) us vs d e v w g q r s h k =
      let same : d ≡ y = cc in
      let free : mail_fault c y ≡ None = step_free (unfolding_of P) at c s.0 y g s.1 in
      absurd (none_some (ap (λ m. mail_fault m d) r ∙ ap (mail_fault c) same ∙ free) h)
  one_failure at c a b (x ∷ xs) [] us vs d e v w g q r s h k =
      let same : e ≡ x = cc in
      let free : mail_fault c x ≡ None = step_free (unfolding_of P) at c r.0 x g r.1 in
      absurd (none_some (ap (λ m. mail_fault m e) s ∙ ap (mail_fault c) same ∙ free) k)
  one_failure at c a b (x ∷ xs) (y ∷ ys) us vs d e v w g q r s h k =
      let head : y ≡ x = cc in
      let tail : xs ++ d ∷ us ≡ ys ++ e ∷ vs = cc in
      let step : MailStep (unfolding_of P) at c x s.0 = subst (λ z. MailStep (unfolding_of P) at c z s.0) head s.1 in
      let o : s.0 ≡ r.0 = step_one agree (unfolding_of P) at c s.0 r.0 x g step r.1 in
      let ih = one_failure (suc at) r.0 a b xs ys us vs d e v w (next_good at c r.0 x g r.1) tail r.2 (subst (λ m. MailRun (unfolding_of P) (suc at) m ys b) o s.2) h k in
      (ap suc ih.0, ih.1)

-- ---- the laws

pub logs_end : StepsKeepGood → CopiesFit → FaultlessStep → StepsAgree → MailLogsEnd
logs_end keeps fit free agree P start log is s = ⊎_elim
    (λ r. inl r)
    (λ f. inr (f.0, f.1, record { front = f.2.front; entry = f.2.entry; rest = f.2.rest; cut = f.2.cut; place = f.2.place; before = f.2.before; runs = f.2.runs; refuses = f.2.refuses }))
    (run_or_fails P is keeps fit free agree 0 start log (start_good (unfolding_of P) start s))

pub logs_lead_to_one : StepsKeepGood → CopiesFit → FaultlessStep → StepsAgree → MailLogsLeadToOne
logs_lead_to_one keeps fit free agree P start a b log is s r q = one_run P is keeps fit free agree 0 start a b log (start_good (unfolding_of P) start s) r q

pub logs_fail_once : StepsKeepGood → CopiesFit → FaultlessStep → StepsAgree → MailLogsFailOnce
logs_fail_once keeps fit free agree P start log i j v w is s f g =
    let r = one_failure P is keeps fit free agree 0 start f.before g.before f.front g.front f.rest g.rest f.entry g.entry v w (start_good (unfolding_of P) start s) (sym f.cut ∙ g.cut) f.runs g.runs f.refuses g.refuses in
    (f.place ∙ r.0 ∙ sym g.place, r.1)

pub logs_lead_or_fail : StepsKeepGood → CopiesFit → FaultlessStep → StepsAgree → MailLogsLeadOrFail
logs_lead_or_fail keeps fit free agree P start last log i why is s r f =
    no_run P is keeps fit free agree 0 start last f.before f.front f.rest f.entry why (start_good (unfolding_of P) start s) (subst (λ l. MailRun (unfolding_of P) 0 start l last) f.cut r) f.runs f.refuses
