-- Rows of an agenda: which may begin, and where none may.
use Rattle.std.proofs.Common.{◌≡◌, ◌↔◌, ℕ, zero, suc, ◌+◌, ◌<◌, ◌≤◌, ◌⊎◌, inl, inr, ⊎_elim, min, List, [], ◌∷◌, length, map, refl, sym, ◌∙◌, subst, arith, Bool, true, false, nat_lt}
use Rattle.std.proofs.lemmas.Bool.{false≢true, ltb-true, ltb-false}
use mathlib.Core.Logic.{dite}
use native.Mathlib.Decide.{ℕ_discrete}
use Rattle.fc_values.proofs.Rising.{min_or}
use Rattle.export_table.specs.declared.agenda.Row.{Row}
use Rattle.export_table.specs.declared.agenda.Next.{Next}
use Rattle.export_table.specs.declared.agenda.Next.TheVariants as next
use Rattle.export_table.specs.Agendas.{AgendaValue, HasEnded, EndedExactly, IsReady, NoneReady, EndedBefore, IsLeastEnded, MayBeginRow, IsNextRow, RowsRest, Finds, IsInRound, IsKept, first_row, row_at}

-- ---- one row

-- it rests, or is in flight
rests_or : (r : Row) → (r.rests ≡ true) ⊎ (r.rests ≡ false)
rests_or r = by_test r.rests refl
  where
    by_test : (b : Bool) → r.rests ≡ b → (r.rests ≡ true) ⊎ (r.rests ≡ false)
    by_test true e = inl e
    by_test false e = inr e

ended_less : (m n : ℕ) (r : Row) → m ≤ n → HasEnded n r → HasEnded m r
ended_less m n r l h = (omega (arith, l, h.0), λ f. let k = h.1 f in omega (arith, l, k))

exactly_ended : (n : ℕ) (r : Row) → EndedExactly n r → HasEnded n r
exactly_ended n r e = ⊎_elim
    (λ (t : r.rests ≡ true). let k = e.0 t in (omega (arith, k), λ f. absurd (false≢true (sym f ∙ t))))
    (λ (f : r.rests ≡ false). let k = e.1 f in (omega (arith, k), λ _. omega (arith, k)))
    (rests_or r)

-- one that has ended exactly so many hasn't ended more
no_more : (m n : ℕ) (r : Row) → EndedExactly n r → HasEnded m r → m ≤ n
no_more m n r e h = ⊎_elim
    (λ (t : r.rests ≡ true). let k = e.0 t in let l = h.0 in omega (arith, k, l))
    (λ (f : r.rests ≡ false). let k = e.1 f in let l = h.1 f in omega (arith, k, l))
    (rests_or r)

-- ---- the least that is ended

-- a row with what it has ended
abbrev SomeEnds : ℕ → List Row → Type 0
SomeEnds n rows = (i : ℕ) × (i < length rows) × EndedExactly n (row_at rows i)

pub least_next : (rows : List Row) (least e n : ℕ) → EndedBefore least rows n → EndedExactly e (row_at rows n) → EndedBefore (min least e) rows (n + 1)
least_next rows least e n each here i l = dite (ℕ_discrete i n)
    (λ same. subst (λ k. HasEnded (min least e) (row_at rows k)) (sym same) (ended_less (min least e) e (row_at rows n) (omega arith) (exactly_ended e (row_at rows n) here)))
    (λ other. ended_less (min least e) least (row_at rows i) (omega arith) (each i (omega (arith, l, other))))

pub least_some : (rows : List Row) (least e n most : ℕ) → n < length rows → (least < most → SomeEnds least rows) → EndedExactly e (row_at rows n) → min least e < most → SomeEnds (min least e) rows
least_some rows least e n most more some here l = ⊎_elim
    (λ s. let low = s.0 in subst (λ k. SomeEnds k rows) (sym s.0) (some (omega (arith, l, low))))
    (λ s. subst (λ k. SomeEnds k rows) (sym s.0) (n, more, here))
    (min_or least e)

-- ---- the first rows

first_ended : (ns : List ℕ) → EndedBefore 0 (map first_row ns) (length (map first_row ns))
first_ended [] i l = absurd (omega (arith, l))
first_ended (n ∷ ns) zero l = (omega arith, λ f. absurd (false≢true (sym f)))
first_ended (n ∷ ns) (suc i) l = first_ended ns i (omega (arith, l))

pub first_kept : (rounds : ℕ) (rows : List Row) (ns : List ℕ) → rows ≡ map first_row ns → IsKept rounds rows 0 0 0
first_kept rounds rows ns is = record {
  most = omega arith;
  each = subst (λ l. EndedBefore 0 l (length l)) (sym is) (first_ended ns);
  ready = λ i l _. omega (arith, l);
  first_in = omega arith;
  more = λ i l. absurd (omega (arith, l));
  ended_in = omega arith;
}

-- ---- what may begin

-- An agenda after it looked: each device has ended so many firings, and the row at a place is the first that rests with as
-- many begun. Where there is none, some device hasn't ended more, unless that are all its firings.
pub record Looked (a : AgendaValue) (round first : ℕ) : Type 0 where
  pub most : round ≤ a.rounds
  pub each : EndedBefore round a.rows (length a.rows)
  pub before : NoneReady round a.rows first
  pub within : first ≤ length a.rows
  pub ready : first < length a.rows → IsReady round (row_at a.rows first)
  pub stuck : first ≡ length a.rows → round < a.rounds → SomeEnds round a.rows

module _ (a : AgendaValue) (round first : ℕ) (k : Looked a round first) where
  -- a row that may begin has begun as many as each has ended
  level : (i : ℕ) → MayBeginRow a i → round ≤ (row_at a.rows i).begun
  level i m = (k.each i m.within).0

  looked_begins : first < length a.rows → round < a.rounds → IsNextRow a first
  looked_begins l more = let here = k.ready l in record {
    may = record {
      within = l;
      rests = here.0;
      some = subst (λ n. n < a.rounds) (sym here.1) more;
      pace = subst (λ n. EndedBefore n a.rows (length a.rows)) (sym here.1) k.each;
    };
    smallest = λ j less m.
        let low = level j m in
        let ends : (row_at a.rows j).begun ≤ round = let e = (m.pace first l) in let h = e.0 in let b = here.1 in omega (arith, h, b) in
        k.before j less (m.rests, omega (arith, low, ends));
  }

  -- none rests with so many begun, or these are all
  abbrev Idle : Type 0
  Idle = (first ≡ length a.rows) ⊎ (a.rounds ≤ round)

  none_begins : Idle → (i : ℕ) → MayBeginRow a i → ⊥
  none_begins idle i m = let low = level i m in let some = m.some in ⊎_elim
      (λ (e : first ≡ length a.rows).
      let s = k.stuck e (omega (arith, low, some)) in
      let high = no_more (row_at a.rows i).begun round (row_at a.rows s.0) s.2 (m.pace s.0 s.1) in
      let within = m.within in
      k.before i (omega (arith, e, within)) (m.rests, omega (arith, low, high)))
      (λ (full : a.rounds ≤ round). omega (arith, full, low, some))
      idle

  all_begun : Idle → a.rounds ≤ round + 1 → (i : ℕ) → i < length a.rows → a.rounds ≤ (row_at a.rows i).begun
  all_begun idle last i l = let each = k.each i l in let low = each.0 in ⊎_elim
      (λ (e : first ≡ length a.rows). ⊎_elim
      (λ (t : (row_at a.rows i).rests ≡ true). dite (ℕ_discrete (row_at a.rows i).begun round)
      (λ same. absurd (k.before i (omega (arith, e, l)) (t, same)))
      (λ other. omega (arith, low, last, other)))
      (λ (f : (row_at a.rows i).rests ≡ false). let more = each.1 f in omega (arith, more, last))
      (rests_or (row_at a.rows i)))
      (λ (full : a.rounds ≤ round). omega (arith, full, low))
      idle

  last_round : Idle → ((i : ℕ) → i < length a.rows → a.rounds ≤ (row_at a.rows i).begun) → a.rounds ≤ round + 1
  last_round idle all = ⊎_elim
      (λ (e : first ≡ length a.rows). dite (ℕ_discrete round a.rounds) (λ same. omega (arith, same))
      (λ other. let most = k.most in
      let s = k.stuck e (omega (arith, most, other)) in
      let begun = all s.0 s.1 in
      ⊎_elim
      (λ (t : (row_at a.rows s.0).rests ≡ true). let n = s.2.0 t in omega (arith, n, begun))
      (λ (f : (row_at a.rows s.0).rests ≡ false). let n = s.2.1 f in omega (arith, n, begun))
      (rests_or (row_at a.rows s.0))))
      (λ (full : a.rounds ≤ round). omega (arith, full))
      idle

  looked_rests : Idle → (b : Bool) → (b ≡ true) ↔ (a.rounds ≤ round + 1) → RowsRest a b
  looked_rests idle b over = record {
    none = none_begins idle;
    over = ((λ t. all_begun idle (over.0 t)), (λ all. over.1 (last_round idle all)));
  }

  pub looked_finds : (n : Next) → IsInRound first (length a.rows) round a.rounds n → Finds a n
  looked_finds (next.Begins i) r = subst (IsNextRow a) (sym r.0) (looked_begins r.1 r.2)
  looked_finds (next.Rests b) r = looked_rests (by_test (nat_lt first (length a.rows)) refl) b r.1
    where
      by_test : (q : Bool) → nat_lt first (length a.rows) ≡ q → Idle
      by_test true t = inr (r.0 (ltb-true first (length a.rows) t))
      by_test false t = let high = ltb-false first (length a.rows) t in let low = k.within in inl (omega (arith, high, low))

-- ---- what looking finds

module _ (a : AgendaValue) (round first : ℕ) (rows : List Row) (same : rows ≡ a.rows) (before : NoneReady round rows first) (within : first ≤ length rows) (ready : first < length rows → IsReady round (row_at rows first)) where
  looked : round ≤ a.rounds → EndedBefore round a.rows (length a.rows) → (first ≡ length a.rows → round < a.rounds → SomeEnds round a.rows) → Looked a round first
  looked most each stuck = record {
    most = most;
    each = each;
    before = subst (λ l. NoneReady round l first) same before;
    within = subst (λ l. first ≤ length l) same within;
    ready = subst (λ l. first < length l → IsReady round (row_at l first)) same ready;
    stuck = stuck;
  }

  -- in the same round: a row was found, or one that hasn't ended more
  pub looked_on : (behind : ℕ) → round ≤ a.rounds → EndedBefore round a.rows (length a.rows) → (behind < length a.rows → EndedExactly round (row_at a.rows behind)) → (first ≡ length a.rows → behind < length a.rows) → Looked a round first
  looked_on behind most each exact more = looked most each (λ e _. (behind, more e, exact (more e)))

  -- in the next round
  pub looked_next : IsLeastEnded round a.rows a.rounds → Looked a round first
  looked_next least = looked least.low least.each (λ _ l. least.some l)
