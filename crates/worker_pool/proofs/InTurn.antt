-- Runs in which devices begin in turn: they are joined, and numbers of begins stay in order along them.
use Rattle.std.proofs.Common.{◌≡◌, ℕ, ◌+◌, ◌<◌, ◌≤◌, List, [], ◌∷◌, ◌++◌, append_assoc, refl, sym, ap, subst, arith, Bool, true, false, nat_eq, if◌then◌else◌}
use Rattle.std.proofs.lemmas.Bool.{eqb-true, eqb-false, eq-eqb}
use Rattle.fc_values.specs.Fields.{is_in}
use Rattle.fc_nodes.specs.Program.{Unfolding}
use Rattle.firing_core.specs.Entries.{EntryValue, BeginEntry, EndEntry, IdleEntry, EditEntry, entries_of}
use Rattle.firing_core.specs.Cores.{Core, Run}
use Rattle.firing_core.specs.Books.{ends_of}
use Rattle.firing_core.specs.Stretches.{is_begin, begins}
use Rattle.worker_pool.specs.Pacing.{TakesTurn, BeginsInTurn, InTurn, IsOrdered}
use Rattle.worker_pool.proofs.Parts.{begins_join}

pub append_none : (l : List EntryValue) → l ≡ l ++ []
append_none [] = refl
append_none (x ∷ xs) = ap (λ (t : List EntryValue). x ∷ t) (append_none xs)

-- ---- one begin

pub begins_this : (d : ℕ) → begins d (BeginEntry d ∷ []) ≡ 1
begins_this d = rw (eq-eqb d d refl) refl

pub begins_other : (d e : ℕ) → (d ≡ e → ⊥) → begins e (BeginEntry d ∷ []) ≡ 0
begins_other d e n = by_test (nat_eq d e) refl
  where
    by_test : (b : Bool) → nat_eq d e ≡ b → (if b then 0 + 1 else 0) ≡ 0
    by_test true q = absurd (n (eqb-true d e q))
    by_test false q = refl

-- ---- runs in turn

pub turn_run : (U : Unfolding) (ids : List ℕ) (before : List EntryValue) (c last : Core) (es : List EntryValue) → InTurn U ids before c es last → Run U c es last
turn_run U ids before c last [] t = t
turn_run U ids before c last (e ∷ es) t = (t.0, t.1, turn_run U ids (before ++ e ∷ []) t.0 last es t.3)

pub turn_join : (U : Unfolding) (ids : List ℕ) (before : List EntryValue) (a b c : Core) (p q : List EntryValue) → InTurn U ids before a p b → InTurn U ids (before ++ p) b q c → InTurn U ids before a (p ++ q) c
turn_join U ids before a b c [] q r s = subst (λ (z : Core × List EntryValue). InTurn U ids z.1 z.0 q c) (λ i. (r i, sym (append_none before) i)) s
turn_join U ids before a b c (x ∷ xs) q r s =
    (r.0, r.1, r.2, turn_join U ids (before ++ x ∷ []) r.0 b c xs q r.3 (subst (λ (l : List EntryValue). InTurn U ids l b q c) (sym (append_assoc before (x ∷ []) xs)) s))

-- ends of flights are in turn
pub ends_turn : (U : Unfolding) (ids : List ℕ) (before : List EntryValue) (c last : Core) (ds : List ℕ) → Run U c (entries_of (ends_of ds)) last → InTurn U ids before c (entries_of (ends_of ds)) last
ends_turn U ids before c last [] r = r
ends_turn U ids before c last (d ∷ ds) r = (r.0, r.1, tt, ends_turn U ids (before ++ EndEntry d ∷ []) r.0 last ds r.2)

-- ---- only differences between numbers of begins matter

more_after : (e n : ℕ) (a b : List EntryValue) (x : EntryValue) → begins e a ≡ begins e b + n → begins e (a ++ x ∷ []) ≡ begins e (b ++ x ∷ []) + n
more_after e n a b x q = let k = begins_join e a (x ∷ []) in let l = begins_join e b (x ∷ []) in omega (arith, k, l, q)

turn_less : (ids : List ℕ) (n : ℕ) (a b : List EntryValue) (c : Core) (d : ℕ) → ((e : ℕ) → is_in e ids ≡ true → begins e a ≡ begins e b + n) → TakesTurn ids a c d → TakesTurn ids b c d
turn_less ids n a b c d q t = record {
  there = t.there;
  behind = λ e i. let l = t.behind e i in let k = q e i in let m = q d t.there in omega (arith, l, k, m);
  rests = λ e i s. t.rests e i (let k = q e i in let m = q d t.there in omega (arith, s, k, m));
  ahead = λ e i l. let h = t.ahead e i l in let k = q e i in let m = q d t.there in omega (arith, h, k, m);
}

pub turns_less : (U : Unfolding) (ids : List ℕ) (n : ℕ) (a b : List EntryValue) (c last : Core) (es : List EntryValue) → ((e : ℕ) → is_in e ids ≡ true → begins e a ≡ begins e b + n)
    → InTurn U ids a c es last → InTurn U ids b c es last
turns_less U ids n a b c last [] q t = t
turns_less U ids n a b c last (x ∷ es) q t = (t.0, t.1, one x t.2, turns_less U ids n (a ++ x ∷ []) (b ++ x ∷ []) t.0 last es (λ e i. more_after e n a b x (q e i)) t.3)
  where
    one : (x : EntryValue) → BeginsInTurn ids a c x → BeginsInTurn ids b c x
    one (BeginEntry d) s = turn_less ids n a b c d q s
    one (EndEntry d) s = tt
    one IdleEntry s = tt
    one (EditEntry e) s = tt

-- ---- numbers of begins stay in order

none_more : (d : ℕ) (before : List EntryValue) (x : EntryValue) → is_begin d x ≡ false → begins d (before ++ x ∷ []) ≡ begins d before
none_more d before x q = let k = begins_join d before (x ∷ []) in let l : begins d (x ∷ []) ≡ 0 = rw q refl in omega (arith, k, l)

pub same_ordered : (ids : List ℕ) (a b : List EntryValue) → ((e : ℕ) → begins e b ≡ begins e a) → IsOrdered ids a → IsOrdered ids b
same_ordered ids a b q o = record {
  falls = λ d e i j l. let f = o.falls d e i j l in let x = q d in let y = q e in omega (arith, f, x, y);
  near = λ d e i j. let f = o.near d e i j in let x = q d in let y = q e in omega (arith, f, x, y);
}

begun_ordered : (ids : List ℕ) (before : List EntryValue) (c : Core) (x : ℕ) → TakesTurn ids before c x → IsOrdered ids before → IsOrdered ids (before ++ BeginEntry x ∷ [])
begun_ordered ids before c x t o = record { falls = λ d e i j l. falls d e i j l (nat_eq x e) refl; near = λ d e i j. near d e i j (nat_eq x d) refl }
  where
    falls : (d e : ℕ) → is_in d ids ≡ true → is_in e ids ≡ true → d < e → (b : Bool) → nat_eq x e ≡ b → begins e (before ++ BeginEntry x ∷ []) ≤ begins d (before ++ BeginEntry x ∷ [])
    falls d e i j l true q =
        let s = eqb-true x e q in
        let h = t.ahead d i (subst (λ k. d < k) (sym s) l) in
        let k = begins_join x before (BeginEntry x ∷ []) in let m = begins_join d before (BeginEntry x ∷ []) in let one = begins_this x in
        subst (λ k. begins k (before ++ BeginEntry x ∷ []) ≤ begins d (before ++ BeginEntry x ∷ [])) s (omega (arith, h, k, m, one))
    falls d e i j l false q =
        let f = o.falls d e i j l in
        let k = begins_join e before (BeginEntry x ∷ []) in let m = begins_join d before (BeginEntry x ∷ []) in let z = begins_other x e (eqb-false x e q) in
        omega (arith, f, k, m, z)

    near : (d e : ℕ) → is_in d ids ≡ true → is_in e ids ≡ true → (b : Bool) → nat_eq x d ≡ b → begins d (before ++ BeginEntry x ∷ []) ≤ begins e (before ++ BeginEntry x ∷ []) + 1
    near d e i j true q =
        let s = eqb-true x d q in
        let h = t.behind e j in
        let k = begins_join x before (BeginEntry x ∷ []) in let m = begins_join e before (BeginEntry x ∷ []) in let one = begins_this x in
        subst (λ k. begins k (before ++ BeginEntry x ∷ []) ≤ begins e (before ++ BeginEntry x ∷ []) + 1) s (omega (arith, h, k, m, one))
    near d e i j false q =
        let f = o.near d e i j in
        let k = begins_join d before (BeginEntry x ∷ []) in let m = begins_join e before (BeginEntry x ∷ []) in let z = begins_other x d (eqb-false x d q) in
        omega (arith, f, k, m, z)

entry_ordered : (ids : List ℕ) (before : List EntryValue) (c : Core) (x : EntryValue) → BeginsInTurn ids before c x → IsOrdered ids before → IsOrdered ids (before ++ x ∷ [])
entry_ordered ids before c (BeginEntry d) t o = begun_ordered ids before c d t o
entry_ordered ids before c (EndEntry d) t o = same_ordered ids before (before ++ EndEntry d ∷ []) (λ e. none_more e before (EndEntry d) refl) o
entry_ordered ids before c IdleEntry t o = same_ordered ids before (before ++ IdleEntry ∷ []) (λ e. none_more e before IdleEntry refl) o
entry_ordered ids before c (EditEntry x) t o = same_ordered ids before (before ++ EditEntry x ∷ []) (λ e. none_more e before (EditEntry x) refl) o

turns_ordered : (U : Unfolding) (ids : List ℕ) (before : List EntryValue) (c last : Core) (es : List EntryValue) → InTurn U ids before c es last → IsOrdered ids before → IsOrdered ids (before ++ es)
turns_ordered U ids before c last [] t o = subst (IsOrdered ids) (append_none before) o
turns_ordered U ids before c last (x ∷ es) t o =
    subst (IsOrdered ids) (append_assoc before (x ∷ []) es) (turns_ordered U ids (before ++ x ∷ []) t.0 last es t.3 (entry_ordered ids before c x t.2 o))

pub turn_ordered : (U : Unfolding) (ids : List ℕ) (c last : Core) (es : List EntryValue) → InTurn U ids [] c es last → IsOrdered ids es
turn_ordered U ids c last es t = turns_ordered U ids [] c last es t (record { falls = λ d e i j l. omega arith; near = λ d e i j. omega arith })
