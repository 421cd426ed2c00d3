-- A log in which devices begin in turn, each the same number of firings, and nothing flies at the end, has as many rounds.
use Rattle.std.proofs.Common.{◌≡◌, ℕ, zero, suc, ◌≤◌, List, [], ◌∷◌, ◌++◌, append_assoc, refl, sym, ap, ◌∙◌, subst, arith, inl, inr, ◌⊎◌, ⊎_elim, Bool, true, false, nat_eq, None}
use Rattle.std.proofs.lemmas.Bool.{eqb-true, eqb-false}
use Rattle.fc_values.specs.Fields.{is_in}
use Rattle.fc_nodes.specs.Program.{Unfolding}
use Rattle.firing_core.specs.Entries.{EntryValue, BeginEntry, EndEntry, IdleEntry, EditEntry}
use Rattle.firing_core.specs.Cores.{Core, Run}
use Rattle.firing_core.specs.Rounds.{has_edit, HasRounds}
use Rattle.firing_core.specs.Stretches.{is_begin, begins}
use Rattle.worker_pool.specs.Pacing.{TakesTurn, InTurn}
use Rattle.worker_pool.proofs.Parts.{begins_join, plain_cut, one_round}
use Rattle.worker_pool.proofs.Flights.{begun_fires}
use Rattle.worker_pool.proofs.InTurn.{append_none, begins_this, turn_run, turns_less}

-- ---- the first round of such a log

-- what stands before begins one firing of each device, none flies, and what follows begins one more
record Full (ids : List ℕ) (until : List EntryValue) (c : Core) (back : List EntryValue) : Type 0 where
  one : (e : ℕ) → is_in e ids ≡ true → begins e until ≡ 1
  rests : (e : ℕ) → is_in e ids ≡ true → c.flying e ≡ None
  next : ℕ
  there : is_in next ids ≡ true
  more : 1 ≤ begins next back

-- a log that is cut before the first begin of a device that has begun
record RoundCut (U : Unfolding) (ids : List ℕ) (before : List EntryValue) (c : Core) (es : List EntryValue) (last : Core) : Type 0 where
  front : List EntryValue
  back : List EntryValue
  middle : Core
  until : List EntryValue
  cut : es ≡ front ++ back
  until_is : until ≡ before ++ front
  first : Run U c front middle
  second : InTurn U ids until middle back last
  once : (e : ℕ) → is_in e ids ≡ true → begins e until ≤ 1
  next : (back ≡ []) ⊎ Full ids until middle back

none_more : (e : ℕ) (before : List EntryValue) (x : EntryValue) → is_begin e x ≡ false → begins e before ≤ 1 → begins e (before ++ x ∷ []) ≤ 1
none_more e before x q l = let k = begins_join e before (x ∷ []) in let z : begins e (x ∷ []) ≡ 0 = rw q refl in omega (arith, k, z, l)

module _ (U : Unfolding) (ids : List ℕ) where
  longer : (before : List EntryValue) (c next last : Core) (x : EntryValue) (es : List EntryValue) → Run U c (x ∷ []) next → RoundCut U ids (before ++ x ∷ []) next es last → RoundCut U ids before c (x ∷ es) last
  longer before c next last x es s k = record {
    front = x ∷ k.front;
    back = k.back;
    middle = k.middle;
    until = k.until;
    cut = ap (λ (l : List EntryValue). x ∷ l) k.cut;
    until_is = k.until_is ∙ append_assoc before (x ∷ []) k.front;
    first = (s.0, s.1, subst (λ (m : Core). Run U m k.front k.middle) s.2 k.first);
    second = k.second;
    once = k.once;
    next = k.next;
  }

  -- where the device has begun, the round is full
  full : (before : List EntryValue) (c last : Core) (d : ℕ) (es : List EntryValue) → ((e : ℕ) → is_in e ids ≡ true → begins e before ≤ 1) → (begins d before ≡ 0 → ⊥) → TakesTurn ids before c d
      → Full ids before c (BeginEntry d ∷ es)
  full before c last d es once some t = record {
    one = one;
    rests = λ e i. t.rests e i (one e i ∙ sym (one d t.there));
    next = d;
    there = t.there;
    more = let k = begins_join d (BeginEntry d ∷ []) es in let m = begins_this d in omega (arith, k, m);
  }
    where
      one : (e : ℕ) → is_in e ids ≡ true → begins e before ≡ 1
      one e i = let a = once e i in let b = t.behind e i in let s : 1 ≤ begins d before = positive (begins d before) some in omega (arith, a, b, s)
        where
          positive : (n : ℕ) → (n ≡ 0 → ⊥) → 1 ≤ n
          positive zero f = absurd (f refl)
          positive (suc n) f = omega arith

  stop : (before : List EntryValue) (c last : Core) (d : ℕ) (es : List EntryValue) → InTurn U ids before c (BeginEntry d ∷ es) last → ((e : ℕ) → is_in e ids ≡ true → begins e before ≤ 1)
      → (begins d before ≡ 0 → ⊥) → RoundCut U ids before c (BeginEntry d ∷ es) last
  stop before c last d es t once some = record {
    front = [];
    back = BeginEntry d ∷ es;
    middle = c;
    until = before;
    cut = refl;
    until_is = append_none before;
    first = refl;
    second = t;
    once = once;
    next = inr (full before c last d es once some t.2);
  }

  round_cut : (before : List EntryValue) (c last : Core) (es : List EntryValue) → InTurn U ids before c es last → ((e : ℕ) → is_in e ids ≡ true → begins e before ≤ 1) → RoundCut U ids before c es last
  round_cut before c last [] t once = record {
    front = [];
    back = [];
    middle = c;
    until = before;
    cut = refl;
    until_is = append_none before;
    first = refl;
    second = t;
    once = once;
    next = inl refl;
  }
  round_cut before c last (BeginEntry d ∷ es) t once = by_test (nat_eq (begins d before) 0) refl (λ o. round_cut (before ++ BeginEntry d ∷ []) t.0 last es t.3 o)
    where
      after : begins d before ≡ 0 → (e : ℕ) → is_in e ids ≡ true → begins e (before ++ BeginEntry d ∷ []) ≤ 1
      after z e i = at (nat_eq d e) refl
        where
          at : (b : Bool) → nat_eq d e ≡ b → begins e (before ++ BeginEntry d ∷ []) ≤ 1
          at true q =
              let s = eqb-true d e q in let k = begins_join d before (BeginEntry d ∷ []) in let m = begins_this d in
              subst (λ j. begins j (before ++ BeginEntry d ∷ []) ≤ 1) s (omega (arith, k, m, z))
          at false q = none_more e before (BeginEntry d) q (once e i)

      by_test : (b : Bool) → nat_eq (begins d before) 0 ≡ b → (((e : ℕ) → is_in e ids ≡ true → begins e (before ++ BeginEntry d ∷ []) ≤ 1) → RoundCut U ids (before ++ BeginEntry d ∷ []) t.0 es last)
          → RoundCut U ids before c (BeginEntry d ∷ es) last
      by_test true q ih = longer before c t.0 last (BeginEntry d) es (t.0, t.1, refl) (ih (after (eqb-true (begins d before) 0 q)))
      by_test false q ih = stop before c last d es t once (eqb-false (begins d before) 0 q)
  round_cut before c last (EndEntry d ∷ es) t once =
      longer before c t.0 last (EndEntry d) es (t.0, t.1, refl) (round_cut (before ++ EndEntry d ∷ []) t.0 last es t.3 (λ e i. none_more e before (EndEntry d) refl (once e i)))
  round_cut before c last (IdleEntry ∷ es) t once =
      longer before c t.0 last IdleEntry es (t.0, t.1, refl) (round_cut (before ++ IdleEntry ∷ []) t.0 last es t.3 (λ e i. none_more e before IdleEntry refl (once e i)))
  round_cut before c last (EditEntry x ∷ es) t once =
      longer before c t.0 last (EditEntry x) es (t.0, t.1, refl) (round_cut (before ++ EditEntry x ∷ []) t.0 last es t.3 (λ e i. none_more e before (EditEntry x) refl (once e i)))

-- ---- all rounds

-- a part that leads on without an edit, in which each of some devices begins so many firings, and none of which flies at its end
record Even (U : Unfolding) (ids : List ℕ) (k : ℕ) (c : Core) (part : List EntryValue) (last : Core) : Type 0 where
  turns : InTurn U ids [] c part last
  plain : has_edit part ≡ false
  begun : (e : ℕ) → is_in e ids ≡ true → begins e part ≡ k
  rests : (e : ℕ) → is_in e ids ≡ true → last.flying e ≡ None

module _ (U : Unfolding) (ids : List ℕ) (some : ℕ) (there : is_in some ids ≡ true) where
  last_round : (k : ℕ) (c last : Core) (part : List EntryValue) → Even U ids (suc k) c part last → k ≡ 0 → HasRounds ids part (suc k)
  last_round k c last part h z =
      subst (λ n. HasRounds ids part (suc n)) (sym z)
      (one_round ids part h.plain (λ d i. let b = h.begun d i in begun_fires U d part c last h.plain (turn_run U ids [] c last part h.turns) (omega (arith, b)) (h.rests d i)))

  -- what is left behind a full round
  rest_of : (k : ℕ) (c last : Core) (part : List EntryValue) → Even U ids (suc k) c part last → (cut : RoundCut U ids [] c part last) → Full ids cut.until cut.middle cut.back → Even U ids k cut.middle cut.back last
  rest_of k c last part h cut f = record {
    turns = turns_less U ids 1 cut.until [] cut.middle last cut.back (λ e i. f.one e i ∙ omega arith) cut.second;
    plain = (plain_cut cut.front cut.back (subst (λ (l : List EntryValue). has_edit l ≡ false) cut.cut h.plain)).1;
    begun = λ e i.
        let a = sym (ap (begins e) cut.cut) ∙ h.begun e i in let b = begins_join e cut.front cut.back in let o = sym (ap (begins e) cut.until_is) ∙ f.one e i in
        omega (arith, a, b, o);
    rests = h.rests;
  }

  full_round : (k : ℕ) (c last : Core) (part : List EntryValue) → Even U ids (suc (suc k)) c part last → (cut : RoundCut U ids [] c part last) → Full ids cut.until cut.middle cut.back
      → HasRounds ids cut.back (suc k) → HasRounds ids part (suc (suc k))
  full_round k c last part h cut f ih =
      let plain = (plain_cut cut.front cut.back (subst (λ (l : List EntryValue). has_edit l ≡ false) cut.cut h.plain)).0 in (
        cut.front,
        cut.back,
        cut.cut,
        record {
          plain = plain;
          fires = λ d i. let o = sym (ap (begins d) cut.until_is) ∙ f.one d i in begun_fires U d cut.front c cut.middle plain cut.first (omega (arith, o)) (f.rests d i);
        },
        ih,
      )

  -- where nothing is left, that was the last round
  no_rest : (k : ℕ) (c last : Core) (part : List EntryValue) → Even U ids (suc k) c part last → (cut : RoundCut U ids [] c part last) → cut.back ≡ [] → k ≡ 0
  no_rest k c last part h cut none =
      let a = sym (ap (begins some) cut.cut) ∙ h.begun some there in let b = begins_join some cut.front cut.back in
      let z : begins some cut.back ≡ 0 = ap (begins some) none in
      let l = cut.once some there in let u = ap (begins some) cut.until_is in
      omega (arith, a, b, z, l, u)

  even_rounds : (k : ℕ) (c last : Core) (part : List EntryValue) → Even U ids (suc k) c part last → HasRounds ids part (suc k)
  even_rounds zero c last part h = last_round zero c last part h refl
  even_rounds (suc k) c last part h = by_rest (round_cut U ids [] c last part h.turns (λ e i. omega arith)) (λ m es t. even_rounds k m last es t)
    where
      by_rest : RoundCut U ids [] c part last → ((m : Core) (es : List EntryValue) → Even U ids (suc k) m es last → HasRounds ids es (suc k)) → HasRounds ids part (suc (suc k))
      by_rest cut ih = ⊎_elim (λ n. last_round (suc k) c last part h (no_rest (suc k) c last part h cut n)) (λ f. full_round k c last part h cut f (ih cut.middle cut.back (rest_of (suc k) c last part h cut f))) cut.next

  pub paced_rounds : (k : ℕ) (c last : Core) (part : List EntryValue) → InTurn U ids [] c part last → has_edit part ≡ false → ((e : ℕ) → is_in e ids ≡ true → begins e part ≡ suc k)
      → ((e : ℕ) → is_in e ids ≡ true → last.flying e ≡ None) → HasRounds ids part (suc k)
  paced_rounds k c last part t p b r = even_rounds k c last part (record { turns = t; plain = p; begun = b; rests = r })
