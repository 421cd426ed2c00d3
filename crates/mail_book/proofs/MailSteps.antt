-- From a good mail core an entry has one step or a fault.
use Rattle.std.proofs.Common.{◌≡◌, ◌⊎◌, ℕ, suc, ◌<◌, List, [], ◌∷◌, length, refl, sym, ◌∙◌, ap, arith, Bool, true, false, inl, inr, Option, Some, None}
use Rattle.std.specs.Prelude.{nat_lt, option_map}
use Rattle.std.proofs.lemmas.Bool.{ltb-true}
use Rattle.fc_values.specs.Trees.{TreeExport, Copy}
use Rattle.fc_nodes.specs.Program.{Program, Unfolding, unfolding_of, IsProgram}
use Rattle.topology.specs.Networks.{lives}
use Rattle.firing_core.specs.declared.entries.StepFault.{StepFault}
use Rattle.firing_core.specs.declared.entries.StepFault.TheVariants as step
use Rattle.firing_core.specs.Entries.{EndEntry}
use Rattle.firing_core.specs.Cores.{Core, begun, IsGood}
use Rattle.firing_core.specs.Replays.{fault_of, begin_fault, end_fault}
use Rattle.firing_core.specs.Laws.{FaultlessStep, StepsAgree}
use Rattle.firing_core.proofs.Maps.{put_same}
use Rattle.message_links.specs.MailCores.{reaches, Message as MailMessage, Pairs, put_pair, MailCore, MailEntryValue, MailBegin, MailEnd, MailIdle, MailDeliver, MailAgain, MailLose, without, posted, sees, with_core, MailEnds, Hears, MailStep}
use Rattle.message_links.specs.declared.entries.MailFault.{MailFault}
use Rattle.message_links.specs.declared.entries.MailFault.TheVariants as fault
use Rattle.message_links.proofs.GoodMails.{IsMailGood, some_is}
use Rattle.mail_book.specs.MailReplays.{message_fault, mail_fault}

-- one step
hears_one : (c a b : MailCore) (x y : ℕ) (stay : MailMessage → List MailMessage → List MailMessage) → Hears c x y stay a → Hears c x y stay b → a ≡ b
hears_one c a b x y stay h k =
    let q : h.oldest ∷ h.later ≡ k.oldest ∷ k.later = sym h.there ∙ k.there in
    let o : h.oldest ≡ k.oldest = cc in
    let l : h.later ≡ k.later = cc in
    h.after ∙ ap (λ m. heard m h.later) o ∙ ap (λ ms. heard k.oldest ms) l ∙ sym k.after
  where
    heard : MailMessage → List MailMessage → MailCore
    heard m ms = record { core = c.core; heard = put_pair c.heard x y (Some m.export); transit = put_pair c.transit x y (stay m ms) }

ends_one : (agree : StepsAgree) (U : Unfolding) (c a b : MailCore) (at d : ℕ) → IsGood U c.core → MailEnds U at c d a → MailEnds U at c d b → a ≡ b
ends_one agree U c a b at d g h k =
    let one : a.core ≡ b.core = (let p = (agree U c.core a.core (EndEntry d) g tt).0 h.ends in let q = (agree U c.core b.core (EndEntry d) g tt).0 k.ends in cc) in
    let p : a.core.exports d ≡ Some h.ends.export = ap (λ (x : Core). x.exports d) h.ends.after ∙ put_same c.core.exports d (Some h.ends.export) in
    let q : b.core.exports d ≡ Some k.ends.export = ap (λ (x : Core). x.exports d) k.ends.after ∙ put_same c.core.exports d (Some k.ends.export) in
    let e : h.ends.export ≡ k.ends.export = some_is h.ends.export k.ends.export (sym p ∙ ap (λ (x : Core). x.exports d) one ∙ q) in
    ap (λ (x : Core). made x a.heard a.transit) one
    ∙ ap (λ f. made b.core f a.transit) (h.heard ∙ sym k.heard)
    ∙ ap (λ f. made b.core b.heard f) (h.transit ∙ ap (λ x. posted c.core.net c.transit d (message x)) e ∙ sym k.transit)
  where
    made : Core → Pairs (Option TreeExport) → Pairs (List MailMessage) → MailCore
    made x f t = record { core = x; heard = f; transit = t }

    message : TreeExport → MailMessage
    message x = record { export = x; sent = Some at }

pub step_one : (agree : StepsAgree) (U : Unfolding) (at : ℕ) (c a b : MailCore) (e : MailEntryValue) → IsMailGood U c → MailStep U at c e a → MailStep U at c e b → a ≡ b
step_one agree U at c a b (MailBegin d) g h k = h.2 ∙ ap (with_core c) (h.1.2 ∙ sym k.1.2) ∙ sym k.2
step_one agree U at c a b (MailEnd d) g h k = ends_one agree U c a b at d g.good h k
step_one agree U at c a b MailIdle g h k = h ∙ sym k
step_one agree U at c a b (MailDeliver x y) g h k = hears_one c a b x y (λ m ms. ms) h k
step_one agree U at c a b (MailAgain x y) g h k = hears_one c a b x y (λ m ms. m ∷ ms) h k
step_one agree U at c a b (MailLose x y i) g h k = h.after ∙ sym k.after

-- a step or a fault
begin_free : (l : Bool) (f : Option Copy) → l ≡ true → f ≡ None → begin_fault l f ≡ None
begin_free l f p q = rw (p, q) refl

end_free : (l : Bool) (f : Option Copy) (s : Copy) → l ≡ true → f ≡ Some s → end_fault l f ≡ None
end_free l f s p q = rw (p, q) refl

lt_true : (i n : ℕ) → i < n → nat_lt i n ≡ true
lt_true i n h = grind arith

heard_free : (l : Bool) (ms ns : List MailMessage) (m : MailMessage) → l ≡ true → ms ≡ m ∷ ns → message_fault l (nat_lt 0 (length ms)) ≡ None
heard_free l ms ns m p q =
    let n : length ms ≡ suc (length ns) = ap length q in
    let t : nat_lt 0 (length ms) ≡ true = lt_true 0 (length ms) (omega (arith, n)) in
    rw (p, t) refl

pub step_free : (U : Unfolding) (at : ℕ) (c next : MailCore) (e : MailEntryValue) → IsMailGood U c → MailStep U at c e next → mail_fault c e ≡ None
step_free U at c next (MailBegin d) g h = ap (option_map fault.Step) (begin_free (lives c.core.net d) (c.core.flying d) h.1.0 h.1.1)
step_free U at c next (MailEnd d) g h = ap (option_map fault.Step) (end_free (lives c.core.net d) (c.core.flying d) h.ends.copy (g.good.flying d h.ends.copy h.ends.flies).there h.ends.flies)
step_free U at c next MailIdle g h = refl
step_free U at c next (MailDeliver a b) g h = heard_free (reaches c.core.net a b) (c.transit a b) h.later h.oldest h.linked h.there
step_free U at c next (MailAgain a b) g h = heard_free (reaches c.core.net a b) (c.transit a b) h.later h.oldest h.linked h.there
step_free U at c next (MailLose a b i) g h = let p = h.linked in let q = lt_true i (length (c.transit a b)) h.there in rw (p, q) refl

abbrev pub StepOrFault : Unfolding → ℕ → MailCore → MailEntryValue → Type 0
StepOrFault U at c e = ((next : MailCore) × MailStep U at c e next) ⊎ ((why : MailFault) × (mail_fault c e ≡ Some why))

-- what may be heard: a message, or nothing
hears_or : (U : Unfolding) (at : ℕ) (c : MailCore) (a b : ℕ) (stay : MailMessage → List MailMessage → List MailMessage)
    → ((next : MailCore) × Hears c a b stay next) ⊎ ((why : MailFault) × (message_fault (reaches c.core.net a b) (nat_lt 0 (length (c.transit a b))) ≡ Some why))
hears_or U at c a b stay = by_cases (reaches c.core.net a b) (c.transit a b) refl refl
  where
    by_cases : (l : Bool) (ms : List MailMessage) → reaches c.core.net a b ≡ l → c.transit a b ≡ ms
        → ((next : MailCore) × Hears c a b stay next) ⊎ ((why : MailFault) × (message_fault (reaches c.core.net a b) (nat_lt 0 (length (c.transit a b))) ≡ Some why))
    by_cases false ms p q = inr (fault.NoLink, rw p refl)
    by_cases true [] p q = inr (fault.Empty, rw (p, q) refl)
    by_cases true (m ∷ ms) p q = inl (
      record { core = c.core; heard = put_pair c.heard a b (Some m.export); transit = put_pair c.transit a b (stay m ms) },
      record { linked = p; oldest = m; later = ms; there = q; after = refl },
    )

pub step_or_fault : (P : Program) → IsProgram P → FaultlessStep → (at : ℕ) (c : MailCore) (e : MailEntryValue) → IsMailGood (unfolding_of P) c → StepOrFault (unfolding_of P) at c e
step_or_fault P is free at c (MailBegin d) g = by_cases (lives c.core.net d) (c.core.flying d) refl refl
  where
    by_cases : (l : Bool) (f : Option Copy) → lives c.core.net d ≡ l → c.core.flying d ≡ f → StepOrFault (unfolding_of P) at c (MailBegin d)
    by_cases true None p q = inl (with_core c (begun (sees c d) c.core d), (begun (sees c d) c.core d, (p, q, refl), refl))
    by_cases true (Some s) p q = inr (fault.Step step.Flying, rw (p, q) refl)
    by_cases false f p q = inr (fault.Step step.NoDevice, rw p refl)
step_or_fault P is free at c (MailEnd d) g = by_fault (fault_of c.core (EndEntry d)) refl
  where
    by_fault : (f : Option StepFault) → fault_of c.core (EndEntry d) ≡ f → StepOrFault (unfolding_of P) at c (MailEnd d)
    by_fault (Some why) q = inr (fault.Step why, ap (option_map fault.Step) q)
    by_fault None q =
        let s = (free P c.core (EndEntry d) is g.good tt).0 (q, refl) in
        inl (
          record { core = s.0; heard = c.heard; transit = posted c.core.net c.transit d (record { export = s.1.export; sent = Some at }) },
          record { ends = s.1; heard = refl; transit = refl },
        )
step_or_fault P is free at c MailIdle g = inl (c, refl)
step_or_fault P is free at c (MailDeliver a b) g = hears_or (unfolding_of P) at c a b (λ m ms. ms)
step_or_fault P is free at c (MailAgain a b) g = hears_or (unfolding_of P) at c a b (λ m ms. m ∷ ms)
step_or_fault P is free at c (MailLose a b i) g = by_cases (reaches c.core.net a b) (nat_lt i (length (c.transit a b))) refl refl
  where
    by_cases : (l t : Bool) → reaches c.core.net a b ≡ l → nat_lt i (length (c.transit a b)) ≡ t → StepOrFault (unfolding_of P) at c (MailLose a b i)
    by_cases false t p q = inr (fault.NoLink, rw p refl)
    by_cases true false p q = inr (fault.Empty, rw (p, q) refl)
    by_cases true true p q = inl (
      record { core = c.core; heard = c.heard; transit = put_pair c.transit a b (without i (c.transit a b)) },
      record { linked = p; there = ltb-true i (length (c.transit a b)) q; after = refl },
    )
