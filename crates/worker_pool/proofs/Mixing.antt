-- A table in which an edit stands among firings.
use Rattle.std.proofs.Common.{◌≡◌, ℕ, ◌+◌, ◌≤◌, List, [], ◌∷◌, ◌++◌, map, drop, length, refl, sym, ap, ◌∙◌, subst, arith, inl, inr, ◌⊎◌, ⊎_elim, Bool, true, false, ◌||◌, nat_lt, if◌then◌else◌, None}
use Rattle.std.proofs.lemmas.Bool.{eq-eqb, ltb-true, ltb-false}
use Rattle.std.proofs.lemmas.List.{length-append, length-map}
use Rattle.std.proofs.Math.Seq.{drop-append_seam, drop-length}
use Rattle.fc_nodes.specs.Program.{Unfolding, unfolding_of}
use Rattle.topology.specs.Networks.{IsNetwork, Lives, numbers}
use Rattle.fc_values.specs.Trees.{Copy}
use Rattle.firing_core.specs.Entries.{EditValue, EntryValue, BeginEntry, EndEntry, IdleEntry, EditEntry, entry_of, entries_of}
use Rattle.firing_core.specs.Cores.{Core, Step, Run}
use Rattle.firing_core.specs.CoreViews.{core_of}
use Rattle.firing_core.specs.Books.{BookValue, IsBook}
use Rattle.firing_core.specs.Laws.{LogsLeadToOne}
use Rattle.firing_core.specs.Rounds.{is_edit, has_edit, HasEnd}
use Rattle.firing_core.specs.Stretches.{is_begin, begins, IsMixed, NoneFlies, IsSmallest}
use Rattle.turn_lock.specs.Logs.{StartsWith, In, Rises}
use Rattle.turn_lock.specs.Passes.{PassView, opened, kept_part, new_part, joined}
use Rattle.turn_lock.proofs.Lists.{in_snoc, from_merged}
use Rattle.atomic_table.specs.Seated.{TableId}
use Rattle.export_table.specs.Items.{Opening}
use Rattle.export_table.specs.Begins.{since_join, begun_in, MayBegin, IsNext, NoneMayBegin}
use Rattle.export_table.specs.Holding.{opening_of, BeginsWithin, EachIsNext}
use Rattle.export_table.specs.Firings.{FiringValue}
use Rattle.export_table.specs.Turns.{TookTurn, Began, Rested, Closes}
use Rattle.worker_pool.specs.Working.{FiredOn}
use Rattle.worker_pool.specs.Pacing.{IsOrdered}
use Rattle.worker_pool.specs.Rounding.{AtMost}
use Rattle.worker_pool.specs.Mixing.{EditedThenEnded, MixedTogether}
use Rattle.worker_pool.proofs.Parts.{end_front}
use Rattle.worker_pool.proofs.InTurn.{append_none, turn_ordered}
use Rattle.worker_pool.proofs.Choosing.{AreCalm, plain_calm, calm_join, calm_numbers, none_joins, since_none, book_turns}
use Rattle.worker_pool.proofs.Stretching.{first_device}
use Rattle.worker_pool.proofs.Passes.{starts_trans}
use Rattle.worker_pool.proofs.Closing.{closed_run, plain_entries, live_number}
use Rattle.worker_pool.proofs.Flights.{grounded}

-- ---- the one edit of a pass

abbrev head_or : EntryValue → List EntryValue → EntryValue
head_or e [] = e
head_or e (x ∷ xs) = x

abbrev behind_head : List EntryValue → List EntryValue
behind_head [] = []
behind_head (x ∷ xs) = xs

in_map : (mine : List (ℕ × EntryValue)) (xs ys : List EntryValue) (e : EntryValue) → map (λ (z : ℕ × EntryValue). z.1) mine ≡ xs ++ e ∷ ys → (p : ℕ) × In (p, e) mine
in_map [] [] ys e is = absurd cc
in_map [] (x ∷ xs) ys e is = absurd cc
in_map (z ∷ zs) [] ys e is = (z.0, inl (λ i. (z.0, sym (ap (head_or IdleEntry) is) i)))
in_map (z ∷ zs) (x ∷ xs) ys e is = let k = in_map zs xs ys e (ap behind_head is) in (k.0, inr k.1)

no : true ≡ false → ⊥
no t = absurd cc

-- an entry in front of the one edit is none
plain_head : (z : ℕ × EntryValue) (zs : List (ℕ × EntryValue)) (xs ys : List EntryValue) (x : EntryValue) (e : EditValue) (q : ℕ) → Rises (z ∷ zs)
    → ((p : ℕ) (x : EntryValue) → In (p, x) (z ∷ zs) → (is_edit x ≡ false) ⊎ (p ≡ q)) → map (λ (z : ℕ × EntryValue). z.1) (z ∷ zs) ≡ x ∷ (xs ++ EditEntry e ∷ ys)
    → has_edit xs ≡ false → (b : Bool) → is_edit x ≡ b → (is_edit x || has_edit xs) ≡ false
plain_head z zs xs ys x e q r f is ih false t = rw t ih
plain_head z zs xs ys x e q r f is ih true t = absurd (⊎_elim (λ (k : is_edit z.1 ≡ false). no (sym t ∙ (ap is_edit (sym (ap (head_or IdleEntry) is)) ∙ k))) later (f z.0 z.1 (inl refl)))
  where
    later : z.0 ≡ q → ⊥
    later s =
        let k = in_map zs xs ys (EditEntry e) (ap behind_head is) in
        let l = r.0 k.0 (EditEntry e) k.1 in
        ⊎_elim (λ (t : true ≡ false). no t) (λ (t : k.0 ≡ q). absurd (omega (arith, l, s, t))) (f k.0 (EditEntry e) (inr k.1))

-- entries of which only the one at a place is an edit: in front of it and behind it there is none
pub lone_edit : (mine : List (ℕ × EntryValue)) (xs ys : List EntryValue) (e : EditValue) (q : ℕ) → Rises mine
    → ((p : ℕ) (x : EntryValue) → In (p, x) mine → (is_edit x ≡ false) ⊎ (p ≡ q)) → map (λ (z : ℕ × EntryValue). z.1) mine ≡ xs ++ EditEntry e ∷ ys
    → (has_edit xs ≡ false) × (has_edit ys ≡ false)
lone_edit [] [] ys e q r f is = absurd cc
lone_edit [] (x ∷ xs) ys e q r f is = absurd cc
lone_edit (z ∷ zs) [] ys e q r f is = (refl, subst (λ l. has_edit l ≡ false) (ap behind_head is) (plain_entries zs (λ p x i. ⊎_elim (λ t. t) (λ s. late p x i s) (f p x (inr i)))))
  where
    here : z.0 ≡ q
    here = ⊎_elim (λ t. absurd (no (ap is_edit (sym (ap (head_or IdleEntry) is)) ∙ t))) (λ s. s) (f z.0 z.1 (inl refl))

    late : (p : ℕ) (x : EntryValue) → In (p, x) zs → p ≡ q → is_edit x ≡ false
    late p x i s = let l = r.0 p x i in let h = here in absurd (omega (arith, l, s, h))
lone_edit (z ∷ zs) (x ∷ xs) ys e q r f is =
    let ih = lone_edit zs xs ys e q r.1 (λ p y i. f p y (inr i)) (ap behind_head is) in
    (plain_head z zs xs ys x e q r f is ih.0 (is_edit x) refl, ih.1)

-- ---- one end of a device that begins once

-- a device that ends twice has begun between
pub ends_twice : (U : Unfolding) (d : ℕ) (xs ys : List EntryValue) (c last : Core) → Run U c (xs ++ ys) last → begins d (xs ++ ys) ≡ 0 → HasEnd d xs → HasEnd d ys → ⊥
ends_twice U d [] ys c last r b h g = h
ends_twice U d (x ∷ xs) ys c last r b (inl e) g =
    grounded U d (xs ++ ys) r.0 last r.2 (landed x e r.1) (less (is_begin d x) b) (end_front d xs ys g)
  where
    landed : (x : EntryValue) → x ≡ EndEntry d → Step U c x r.0 → r.0.flying d ≡ None
    landed x e s = after (subst (λ y. Step U c y r.0) e s)
      where
        after : Step U c (EndEntry d) r.0 → r.0.flying d ≡ None
        after t = ap (λ (k : Core). k.flying d) t.after ∙ ap (λ (b : Bool). if b then None else c.flying d) (eq-eqb d d refl)

    less : (t : Bool) → (if t then begins d (xs ++ ys) + 1 else begins d (xs ++ ys)) ≡ 0 → begins d (xs ++ ys) ≡ 0
    less true z = absurd (omega (arith, z))
    less false z = z
ends_twice U d (x ∷ xs) ys c last r b (inr h) g = ends_twice U d xs ys r.0 last r.2 (less (is_begin d x) b) h g
  where
    less : (t : Bool) → (if t then begins d (xs ++ ys) + 1 else begins d (xs ++ ys)) ≡ 0 → begins d (xs ++ ys) ≡ 0
    less true z = absurd (omega (arith, z))
    less false z = z

-- ---- the entries of a table with one edit

mixed_calm : (first : ℕ) (among after : List EntryValue) (e : EditValue) → IsMixed e → has_edit among ≡ false → has_edit after ≡ false → AreCalm (BeginEntry first ∷ among ++ EditEntry e ∷ after)
mixed_calm first among after e m p q = (tt, calm_join among (EditEntry e ∷ after) (plain_calm among p) (m, plain_calm after q))

-- ---- the first firing

start_long : (xs ys : List EntryValue) → StartsWith xs ys → length xs ≤ length ys → xs ≡ ys
start_long xs ys s l = s.1 ∙ (ap (λ r. ys ++ r) (short s.0 (let e = ap length s.1 in let j = length-append ys s.0 in omega (arith, e, j, l))) ∙ sym (append_none ys))
  where
    short : (r : List EntryValue) → length r ≤ 0 → r ≡ []
    short [] l = refl
    short (x ∷ xs) l = absurd (omega (arith, l))

module _ (lock : TableId) (turns : ℕ) (old : BookValue) (one : LogsLeadToOne) (was : IsBook old) where
  abbrev o : Opening
  o = opening_of old 1 turns (length old.log)

  abbrev v0 : PassView EntryValue
  v0 = opened lock (entries_of old.log) turns

  -- the first turn is taken on the log of the book
  pub first_log : (w : PassView EntryValue) (before : List EntryValue) (core : Core) (e : EntryValue) → TookTurn o v0 w before core e → before ≡ entries_of old.log
  first_log w before core e t = start_long before (entries_of old.log) t.begins (let g = t.grown in let m = length-map old.log entry_of in omega (arith, g, m))

  first_core : (w : PassView EntryValue) (before : List EntryValue) (core : Core) (e : EntryValue) → TookTurn o v0 w before core e → core ≡ core_of old.core
  first_core w before core e t = one (unfolding_of old.program) (core_of old.start) core (core_of old.core) (entries_of old.log) was.good
      (subst (λ l. Run (unfolding_of old.program) (core_of old.start) l core) (first_log w before core e t) t.leads) was.runs

  none_begun : (d : ℕ) → begun_in o (entries_of old.log) d ≡ 0
  none_begun d = ap (λ l. begins d (since_join d l)) ((λ i. drop (sym (length-map old.log entry_of) i) (entries_of old.log)) ∙ drop-length (entries_of old.log))

  -- where nothing has begun, each device that is there may begin
  may_begin : NoneFlies (core_of old.core) → (d : ℕ) → Lives (core_of old.core).net d → MayBegin o (entries_of old.log) (core_of old.core) d
  may_begin rests d live = record {
    there = live;
    rests = rests d;
    some = let n = none_begun d in omega (arith, n);
    pace = λ e l. (let n = none_begun d in omega (arith, n), λ q. rests e);
  }

  pub never_rests : (w : PassView EntryValue) (b : Bool) → NoneFlies (core_of old.core) → IsNetwork (core_of old.core).net → Rested o v0 w b → ⊥
  never_rests w b rests net r =
      let d = first_device old.core.net.devices net.some in
      let none = subst (λ (z : List EntryValue × Core). NoneMayBegin o z.0 z.1) (λ i. (first_log w r.before r.core IdleEntry r.turn i, first_core w r.before r.core IdleEntry r.turn i)) r.none in
      none d.0 (may_begin rests d.0 d.1)

  pub first_smallest : (w : PassView EntryValue) (f : FiringValue) → NoneFlies (core_of old.core) → Began o v0 w f → IsSmallest (core_of old.core).net f.device
  first_smallest w f rests b =
      let n = subst (λ (z : List EntryValue × Core). IsNext o z.0 z.1 f.device) (λ i. (first_log w b.before b.core (BeginEntry f.device) b.turn i, first_core w b.before b.core (BeginEntry f.device) b.turn i)) b.next in
      record {
        there = n.may.there;
        least = λ e live. by_test e live (nat_lt e f.device) refl n;
      }
    where
      by_test : (e : ℕ) → Lives (core_of old.core).net e → (t : Bool) → nat_lt e f.device ≡ t → IsNext o (entries_of old.log) (core_of old.core) f.device → f.device ≤ e
      by_test e live true q n = absurd (n.smallest e (ltb-true e f.device q) (may_begin rests e live))
      by_test e live false q n = ltb-false e f.device q

  -- what the pass has written after it is no edit
  pub first_plain : (w : PassView EntryValue) (f : FiringValue) → Began o v0 w f → (p : ℕ) (x : EntryValue) → In (p, x) w.mine → is_edit x ≡ false
  first_plain w f b p x i =
      let mine : w.mine ≡ (length b.before, BeginEntry f.device) ∷ [] = ap (λ (q : PassView EntryValue). q.mine) b.turn.view in
      ⊎_elim (λ t. ap (λ (z : ℕ × EntryValue). is_edit z.1) t) (λ t. absurd t) (subst (In (p, x)) mine i)

-- ---- the log in its pieces

glue_one : (N R : List EntryValue) (z : EntryValue) → (N ++ z ∷ []) ++ R ≡ N ++ z ∷ R
glue_one [] R z = refl
glue_one (n ∷ ns) R z = ap (λ (l : List EntryValue). n ∷ l) (glue_one ns R z)

glue_two : (M N R : List EntryValue) (y z : EntryValue) → (((M ++ y ∷ []) ++ N) ++ z ∷ []) ++ R ≡ M ++ y ∷ (N ++ z ∷ R)
glue_two [] N R y z = ap (λ (l : List EntryValue). y ∷ l) (glue_one N R z)
glue_two (m ∷ ms) N R y z = ap (λ (l : List EntryValue). m ∷ l) (glue_two ms N R y z)

glue_all : (A M N R : List EntryValue) (x y z : EntryValue) → (((((A ++ x ∷ []) ++ M) ++ y ∷ []) ++ N) ++ z ∷ []) ++ R ≡ A ++ (x ∷ M ++ y ∷ (N ++ z ∷ R))
glue_all [] M N R x y z = ap (λ (l : List EntryValue). x ∷ l) (glue_two M N R y z)
glue_all (a ∷ more) M N R x y z = ap (λ (l : List EntryValue). a ∷ l) (glue_all more M N R x y z)

module _ (lock : TableId) (turns share : ℕ) (old new : BookValue) (e : EditValue) (f : FiringValue) (v1 v3 u1 v4 : PassView EntryValue)
    (one : LogsLeadToOne) (was : IsBook old) (is : IsBook new) (net : IsNetwork (core_of old.core).net) (rests : NoneFlies (core_of old.core)) (mixed : IsMixed e)
    (b : Began (opening_of old 1 turns (length old.log)) (opened lock (entries_of old.log) turns) v1 f)
    (w : EditedThenEnded (opening_of old 1 turns (length old.log)) (kept_part share v1) v3 e f.snap.device)
    (u : FiredOn (new_part share v1) u1)
    (joins_to : v4 ≡ joined v3 u1) (seen : StartsWith v4.seen v3.seen)
    (c : Closes (opening_of old 1 turns (length old.log)) v4 new)
    (within : BeginsWithin (opening_of old 1 turns (length old.log)) (entries_of new.log))
    (next : EachIsNext (opening_of old 1 turns (length old.log)) (entries_of new.log)) where
  abbrev d : ℕ
  d = f.device

  same_device : f.snap.device ≡ d
  same_device = ap (λ (s : Copy). s.device) b.copy

  at_first : b.before ≡ entries_of old.log
  at_first = first_log lock turns old one was v1 b.before b.core (BeginEntry d) b.turn

  seen_first : v1.seen ≡ entries_of old.log ++ BeginEntry d ∷ []
  seen_first = ap (λ (p : PassView EntryValue). p.seen) b.turn.view ∙ ap (λ (l : List EntryValue). l ++ BeginEntry d ∷ []) at_first

  abbrev among : List EntryValue
  among = w.edited.turn.begins.0

  abbrev mid : List EntryValue
  mid = w.ended.begins.0

  last : StartsWith (entries_of new.log) v3.seen
  last = starts_trans (entries_of new.log) v4.seen v3.seen c.begins seen

  abbrev after : List EntryValue
  after = mid ++ EndEntry f.snap.device ∷ last.0

  abbrev part : List EntryValue
  part = BeginEntry d ∷ among ++ EditEntry e ∷ after

  at_edit : w.edited.before ≡ (entries_of old.log ++ BeginEntry d ∷ []) ++ among
  at_edit = w.edited.turn.begins.1 ∙ ap (λ (l : List EntryValue). l ++ among) seen_first

  at_end : w.before ≡ (((entries_of old.log ++ BeginEntry d ∷ []) ++ among) ++ EditEntry e ∷ []) ++ mid
  at_end = w.ended.begins.1 ∙ ap (λ (l : List EntryValue). l ++ mid) (ap (λ (p : PassView EntryValue). p.seen) w.edited.turn.view ∙ ap (λ (l : List EntryValue). l ++ EditEntry e ∷ []) at_edit)

  log : entries_of new.log ≡ entries_of old.log ++ part
  log = last.1 ∙ (ap (λ (l : List EntryValue). l ++ last.0) (ap (λ (p : PassView EntryValue). p.seen) w.ended.view ∙ ap (λ (l : List EntryValue). l ++ EndEntry f.snap.device ∷ []) at_end)
      ∙ glue_all (entries_of old.log) among mid last.0 (BeginEntry d) (EditEntry e) (EndEntry f.snap.device))

  behind : drop (length old.log) (entries_of new.log) ≡ part
  behind = (λ i. drop (sym (length-map old.log entry_of) i) (log i)) ∙ drop-append_seam (entries_of old.log) part

  whole : map (λ (z : ℕ × EntryValue). z.1) v4.mine ≡ part
  whole = sym c.whole ∙ behind

  only : (p : ℕ) (x : EntryValue) → In (p, x) v4.mine → (is_edit x ≡ false) ⊎ (p ≡ length w.edited.before)
  only p x i = ⊎_elim of_caller of_workers (from_merged (p, x) v3.mine u1.mine (subst (In (p, x)) (ap (λ (q : PassView EntryValue). q.mine) joins_to) i))
    where
      of_workers : In (p, x) u1.mine → (is_edit x ≡ false) ⊎ (p ≡ length w.edited.before)
      of_workers m = ⊎_elim (λ t. absurd t) (λ t. inl t) (u.plain p x m)

      of_edit : In (p, x) w.middle.mine → (is_edit x ≡ false) ⊎ (p ≡ length w.edited.before)
      of_edit m = ⊎_elim (λ t. inl (first_plain lock turns old one was v1 f b p x t)) (λ t. inr (ap (λ (z : ℕ × EntryValue). z.0) t))
          (in_snoc (p, x) (length w.edited.before, EditEntry e) v1.mine (subst (In (p, x)) (ap (λ (q : PassView EntryValue). q.mine) w.edited.turn.view) m))

      of_caller : In (p, x) v3.mine → (is_edit x ≡ false) ⊎ (p ≡ length w.edited.before)
      of_caller m = ⊎_elim of_edit (λ t. inl (ap (λ (z : ℕ × EntryValue). is_edit z.1) t))
          (in_snoc (p, x) (length w.before, EndEntry f.snap.device) w.middle.mine (subst (In (p, x)) (ap (λ (q : PassView EntryValue). q.mine) w.ended.view) m))

  plain : (has_edit (BeginEntry d ∷ among) ≡ false) × (has_edit after ≡ false)
  plain = lone_edit v4.mine (BeginEntry d ∷ among) after e (length w.edited.before) c.rises only whole

  leads : Run (unfolding_of old.program) (core_of old.core) part (core_of new.core)
  leads = closed_run (opening_of old 1 turns (length old.log)) v4 old new part one was is refl refl c log

  calm : AreCalm part
  calm = mixed_calm d among after e mixed plain.0 plain.1

  ordered : IsOrdered (numbers old.core.net.devices) part
  ordered = turn_ordered (unfolding_of old.program) (numbers old.core.net.devices) (core_of old.core) (core_of new.core) part
      (book_turns (opening_of old 1 turns (length old.log)) old new part was refl refl refl next log calm leads)

  once : AtMost 1 (core_of old.core).net part
  once x t = subst (λ (l : List EntryValue). begins x l ≤ 1) (since_none x part (none_joins x part calm))
      (subst (λ (l : List EntryValue). begins x (since_join x l) ≤ 1) behind (within x (live_number (core_of old.core).net x net t)))

  smallest : IsSmallest (core_of old.core).net d
  smallest = first_smallest lock turns old one was v1 f rests b

  none_more : begins d (among ++ EditEntry e ∷ after) ≡ 0
  none_more = less (once d smallest.there)
    where
      less : begins d part ≤ 1 → begins d (among ++ EditEntry e ∷ after) ≡ 0
      less l = let k = subst (λ (t : Bool). (if t then begins d (among ++ EditEntry e ∷ after) + 1 else begins d (among ++ EditEntry e ∷ after)) ≤ 1) (eq-eqb d d refl) l in omega (arith, k)

  pub mixed_together : MixedTogether old e new
  mixed_together = record {
    program = c.program;
    start = c.start;
    first = d;
    among = among;
    after = after;
    log = log;
    leads = leads;
    smallest = smallest;
    flies = λ h. ends_twice (unfolding_of old.program) d among (EditEntry e ∷ after) leads.0 (core_of new.core) leads.2 none_more h
        (inr (end_front d mid (EndEntry f.snap.device ∷ last.0) (inl (ap EndEntry same_device))));
    plain_among = plain.0;
    plain_after = plain.1;
    once = once;
    ordered = ordered;
    devices = calm_numbers (unfolding_of old.program) (core_of old.core) (core_of new.core) part calm leads;
  }
