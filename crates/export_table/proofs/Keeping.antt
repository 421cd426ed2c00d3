-- What the type of the locked value keeps, after each entry.
use Rattle.std.proofs.Common.{◌≡◌, ℕ, ◌+◌, ◌≤◌, List, [], ◌∷◌, ◌++◌, length, refl, sym, ap, ◌∙◌, subst, arith, length-append}
use Rattle.fc_nodes.specs.Program.{unfolding_of}
use Rattle.firing_core.specs.declared.entries.Entry.{Entry}
use Rattle.firing_core.specs.Entries.{EditValue, EntryValue, BeginEntry, EndEntry, IdleEntry, EditEntry, entry_of, entries_of}
use Rattle.firing_core.specs.Cores.{Core}
use Rattle.firing_core.specs.CoreViews.{core_of}
use Rattle.firing_core.specs.Books.{BookValue, IsBook, AppendsEntry}
use Rattle.firing_core.specs.Laws.{LogsLeadToOne}
use Rattle.export_table.specs.Items.{Opening}
use Rattle.export_table.specs.Begins.{IsNext}
use Rattle.export_table.specs.Agendas.{AgendaValue}
use Rattle.export_table.specs.Holding.{HeldValue, IsHeld, Plans, Turned, BeginsWithin, EachIsNext, opening_in, opening_of, log_in, core_in}
use Rattle.export_table.proofs.Orders.{within_more, next_more}

-- ---- what one entry keeps

pub entries_snoc : (log : List Entry) (e : Entry) → entries_of (log ++ e ∷ []) ≡ entries_of log ++ entry_of e ∷ []
entries_snoc [] e = refl
entries_snoc (x ∷ xs) e = ap (λ l. entry_of x ∷ l) (entries_snoc xs e)

pub entries_length : (log : List Entry) → length (entries_of log) ≡ length log
entries_length [] = refl
entries_length (x ∷ xs) = omega (arith, entries_length xs)

pub past_in : (h : HeldValue) (a : AgendaValue) → IsHeld h a → h.front ≤ length (log_in h)
past_in h a k = let p = k.past in let l = entries_length h.book.log in omega (arith, p, l)

module _ (b b' : BookValue) (rounds turns front : ℕ) where
  abbrev Before : HeldValue
  Before = record { book = b; rounds = rounds; turns = turns; front = front }

  -- one entry more, where a begin in it was of the device that was next
  pub keeps : (a a' : AgendaValue) (e : Entry) → IsHeld Before a → AppendsEntry b b' e → b'.spare + 1 ≡ b.spare → a'.rounds ≡ rounds
      → Plans (opening_in Before) (log_in Before ++ entry_of e ∷ []) (core_of b'.core) a'
      → ((d : ℕ) → entry_of e ≡ BeginEntry d → IsBook b × LogsLeadToOne × IsNext (opening_in Before) (log_in Before) (core_in Before) d)
      → IsHeld (record { book = b'; rounds = a'.rounds; turns = turns; front = front }) a'
  keeps a a' e h step spare same plans begins =
      let long : length b'.log ≡ length b.log + 1 = ap length step.log ∙ length-append b.log (e ∷ []) in
      let past = h.past in let room = h.room in
      let opening : opening_in Before ≡ opening_of b' a'.rounds turns front = λ i. record { program = sym step.program i; start = sym step.start i; rounds = sym same i; turns = turns; front = front } in
      let log : log_in Before ++ entry_of e ∷ [] ≡ entries_of b'.log = sym (entries_snoc b.log e) ∙ ap entries_of (sym step.log) in
      record {
        past = omega arith;
        room = omega arith;
        plans = subst (λ (z : Opening × List EntryValue). Plans z.0 z.1 (core_of b'.core) a') (λ i. (opening i, log i)) plans;
        within = subst (λ (z : Opening × List EntryValue). BeginsWithin z.0 z.1) (λ i. (opening i, log i))
            (within_more (opening_in Before) (log_in Before) (entry_of e) (past_in Before a h) h.within (λ d is. let n = (begins d is).2 in let m = n.may in m.some));
        next = subst (λ (z : Opening × List EntryValue). EachIsNext z.0 z.1) (λ i. (opening i, log i))
            (next_more (opening_in Before) (log_in Before) (entry_of e) h.next (λ d core is run. let k = begins d is in let legal = k.0 in
            subst (λ (c : Core). IsNext (opening_in Before) (log_in Before) c d) (k.1 (unfolding_of b.program) (core_of b.start) (core_of b.core) core (log_in Before) legal.good legal.runs run) k.2));
      }

  pub turned : (a : AgendaValue) (r : ℕ) (e : Entry) → IsHeld Before a → IsBook b → AppendsEntry b b' e → r ≡ rounds → Turned Before (record { book = b'; rounds = r; turns = turns; front = front }) e
  turned a r e h legal step same = record { same = (same, refl, refl); book = step; legal = legal; past = h.past }

-- ---- entries that begin nothing

pub idle_begins : {X : Type 0} (d : ℕ) → IdleEntry ≡ BeginEntry d → X
idle_begins d is = absurd (cc)

pub end_begins : {X : Type 0} (e d : ℕ) → EndEntry e ≡ BeginEntry d → X
end_begins e d is = absurd (cc)

pub edit_begins : {X : Type 0} (e : EditValue) (d : ℕ) → EditEntry e ≡ BeginEntry d → X
edit_begins e d is = absurd (cc)

pub same_device : (d e : ℕ) → BeginEntry d ≡ BeginEntry e → d ≡ e
same_device d e is = cc
