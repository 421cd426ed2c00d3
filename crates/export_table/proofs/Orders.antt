-- Begins of a log, with one entry more: each was next, and no device has begun more than it may.
use Rattle.std.proofs.Common.{◌≡◌, ℕ, ◌+◌, ◌<◌, ◌≤◌, List, [], ◌∷◌, ◌++◌, length, refl, sym, ap, ◌∙◌, subst, arith, Bool, true, false, if◌then◌else◌, length-append, append_assoc}
use Rattle.std.proofs.lemmas.Bool.{eqb-true}
use Rattle.std.proofs.lemmas.List.{same_from_push, append-nil}
use Rattle.fc_nodes.specs.Program.{unfolding_of}
use Rattle.firing_core.specs.Entries.{EntryValue, BeginEntry, EndEntry, IdleEntry, EditEntry}
use Rattle.firing_core.specs.Cores.{Core, Run}
use Rattle.firing_core.specs.CoreViews.{core_of}
use Rattle.firing_core.specs.Stretches.{is_begin}
use Rattle.export_table.specs.Items.{Opening}
use Rattle.export_table.specs.Begins.{begun_in, is_join, IsNext}
use Rattle.export_table.specs.Holding.{BeginsWithin, EachIsNext}
use Rattle.export_table.proofs.Counting.{begun_snoc}

begin_is : (d : ℕ) (e : EntryValue) → is_begin d e ≡ true → e ≡ BeginEntry d
begin_is d (BeginEntry e) t = ap BeginEntry (eqb-true e d t)
begin_is d (EndEntry e) t = absurd (cc)
begin_is d IdleEntry t = absurd (cc)
begin_is d (EditEntry e) t = absurd (cc)

pub within_more : (o : Opening) (log : List EntryValue) (e : EntryValue) → o.front ≤ length log → BeginsWithin o log → ((d : ℕ) → e ≡ BeginEntry d → begun_in o log d < o.rounds) → BeginsWithin o (log ++ e ∷ [])
within_more o log e past w more d small = subst (λ n. n ≤ o.rounds) (sym (begun_snoc o log e d past)) (by_tests (is_join d e) (is_begin d e) refl)
  where
    by_tests : (p q : Bool) → is_begin d e ≡ q → (if p then 0 else begun_in o log d + (if q then 1 else 0)) ≤ o.rounds
    by_tests true q t = omega arith
    by_tests false true t = let l = more d (begin_is d e t) in omega (arith, l)
    by_tests false false t = let l = w d small in omega (arith, l)

-- a list is empty, or has a last item
cut_last : (xs : List EntryValue) → (xs ≡ [] → ⊥) → (front : List EntryValue) × (x : EntryValue) × (xs ≡ front ++ x ∷ [])
cut_last [] some = absurd (some refl)
cut_last (x ∷ []) some = ([], x, refl)
cut_last (x ∷ y ∷ ys) some = let k = cut_last (y ∷ ys) (λ e. absurd (cc)) in (x ∷ k.0, k.1, ap (λ l. x ∷ l) k.2)

pub next_more : (o : Opening) (log : List EntryValue) (e : EntryValue) → EachIsNext o log
    → ((d : ℕ) (core : Core) → e ≡ BeginEntry d → Run (unfolding_of o.program) (core_of o.start) log core → IsNext o log core d) → EachIsNext o (log ++ e ∷ [])
next_more o log e each here front core d s past run = by_rest s.0 s.1
  where
    by_rest : (rest : List EntryValue) → log ++ e ∷ [] ≡ (front ++ BeginEntry d ∷ []) ++ rest → IsNext o front core d
    by_rest [] is =
        let k = same_from_push log front e (BeginEntry d) (is ∙ append-nil (front ++ BeginEntry d ∷ [])) in
        subst (λ l. IsNext o l core d) k.0 (here d core k.1 (subst (λ l. Run (unfolding_of o.program) (core_of o.start) l core) (sym k.0) run))
    by_rest (x ∷ xs) is =
        let k = cut_last (x ∷ xs) (λ e. absurd (cc)) in
        let all = front ++ BeginEntry d ∷ [] in
        let same = is ∙ (ap (λ l. all ++ l) k.2 ∙ sym (append_assoc all k.0 (k.1 ∷ []))) in
        each front core d (k.0, (same_from_push log (all ++ k.0) e k.1 same).0) past run

-- at the opening
pub next_first : (o : Opening) (log : List EntryValue) → o.front ≡ length log → EachIsNext o log
next_first o log first front core d s past run =
    let long = ap length s.1 in let n = length-append (front ++ BeginEntry d ∷ []) s.0 in let m = length-append front (BeginEntry d ∷ []) in absurd (omega (arith, first, past, long, n, m))
