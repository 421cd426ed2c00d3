-- What a table begins it begins in turn.
use Rattle.std.proofs.Common.{◌≡◌, ℕ, ◌<◌, ◌≤◌, List, [], ◌∷◌, ◌++◌, append_assoc, drop, length, refl, sym, ap, ◌∙◌, subst, arith, Bool, true, false, ◌||◌, nat_eq, None}
use Rattle.std.proofs.lemmas.Bool.{eqb-true, eqb-false}
use Rattle.std.proofs.lemmas.List.{length-append, length-map}
use Rattle.std.proofs.Math.Seq.{drop-append_seam}
use Rattle.fc_values.proofs.Booleans.{or_no}
use Rattle.fc_values.specs.Fields.{is_in}
use Rattle.fc_nodes.specs.Program.{Program, Unfolding, unfolding_of}
use Rattle.topology.specs.Networks.{Lives, numbers}
use Rattle.firing_core.specs.Entries.{EditValue, LinkEdit, UnlinkEdit, SetEdit, PokeEdit, JoinEdit, LeaveEdit, EntryValue, BeginEntry, EndEntry, IdleEntry, EditEntry, entry_of, entries_of}
use Rattle.firing_core.specs.Cores.{Core, Step, Run}
use Rattle.firing_core.specs.CoreViews.{CoreValue, core_of}
use Rattle.firing_core.specs.Books.{BookValue, IsBook}
use Rattle.firing_core.specs.Rounds.{is_edit, has_edit}
use Rattle.firing_core.specs.Stretches.{begins, IsMixed}
use Rattle.firing_core.proofs.Cuts.{run_join}
use Rattle.firing_core.proofs.Mixed.{mixed_numbers}
use Rattle.export_table.specs.Items.{Opening}
use Rattle.export_table.specs.Begins.{joins, is_join, has_join, since_join, begun_in, MayBegin, IsNext}
use Rattle.export_table.specs.Holding.{EachIsNext}
use Rattle.worker_pool.specs.Pacing.{TakesTurn, BeginsInTurn, InTurn}
use Rattle.worker_pool.proofs.InTurn.{append_none}

-- ---- entries by which no device joins or leaves

abbrev pub IsCalm : EntryValue → Type 0
IsCalm (BeginEntry d) = Unit {0}
IsCalm (EndEntry d) = Unit {0}
IsCalm IdleEntry = Unit {0}
IsCalm (EditEntry e) = IsMixed e

abbrev pub AreCalm : List EntryValue → Type 0
AreCalm [] = Unit {0}
AreCalm (e ∷ es) = IsCalm e × AreCalm es

plain_one : (e : EntryValue) → is_edit e ≡ false → IsCalm e
plain_one (BeginEntry d) p = tt
plain_one (EndEntry d) p = tt
plain_one IdleEntry p = tt
plain_one (EditEntry e) p = absurd cc

pub plain_calm : (es : List EntryValue) → has_edit es ≡ false → AreCalm es
plain_calm [] p = tt
plain_calm (e ∷ es) p = let k = or_no (is_edit e) (has_edit es) p in (plain_one e k.0, plain_calm es k.1)

pub calm_join : (xs ys : List EntryValue) → AreCalm xs → AreCalm ys → AreCalm (xs ++ ys)
calm_join [] ys a b = b
calm_join (x ∷ xs) ys a b = (a.0, calm_join xs ys a.1 b)

mixed_joins : (d : ℕ) (e : EditValue) → IsMixed e → joins d e ≡ false
mixed_joins d (LinkEdit a b w) m = refl
mixed_joins d (UnlinkEdit a b) m = refl
mixed_joins d (SetEdit x i v) m = refl
mixed_joins d (PokeEdit x v) m = refl
mixed_joins d (JoinEdit x) m = absurd m
mixed_joins d (LeaveEdit x) m = absurd m

one_joins : (d : ℕ) (e : EntryValue) → IsCalm e → is_join d e ≡ false
one_joins d (BeginEntry x) p = refl
one_joins d (EndEntry x) p = refl
one_joins d IdleEntry p = refl
one_joins d (EditEntry x) p = mixed_joins d x p

pub none_joins : (d : ℕ) (es : List EntryValue) → AreCalm es → has_join d es ≡ false
none_joins d [] p = refl
none_joins d (e ∷ es) p = rw (one_joins d e p.0) (none_joins d es p.1)

pub since_none : (d : ℕ) (es : List EntryValue) → has_join d es ≡ false → since_join d es ≡ es
since_none d [] p = refl
since_none d (e ∷ es) p = by_tests (is_join d e) (has_join d es) refl refl p
  where
    by_tests : (a b : Bool) → is_join d e ≡ a → has_join d es ≡ b → (a || b) ≡ false → since_join d (e ∷ es) ≡ e ∷ es
    by_tests true b q r h = absurd cc
    by_tests false true q r h = absurd cc
    by_tests false false q r h = rw (q, r) refl

-- they keep the devices
calm_step : (U : Unfolding) (c next : Core) (e : EntryValue) → IsCalm e → Step U c e next → numbers next.net.devices ≡ numbers c.net.devices
calm_step U c next (BeginEntry d) p s = ap (λ (k : Core). numbers k.net.devices) s.2
calm_step U c next (EndEntry d) p s = ap (λ (k : Core). numbers k.net.devices) s.after
calm_step U c next IdleEntry p s = ap (λ (k : Core). numbers k.net.devices) s
calm_step U c next (EditEntry e) p s = ap (λ (k : Core). numbers k.net.devices) s.after ∙ mixed_numbers U c e p

pub calm_numbers : (U : Unfolding) (c last : Core) (es : List EntryValue) → AreCalm es → Run U c es last → numbers last.net.devices ≡ numbers c.net.devices
calm_numbers U c last [] p r = ap (λ (k : Core). numbers k.net.devices) r
calm_numbers U c last (e ∷ es) p r = calm_numbers U r.0 last es p.1 r.2 ∙ calm_step U c r.0 e p.0 r.1

-- ---- the smallest device that may begin takes its turn

module _ (o : Opening) (base : List EntryValue) (front : o.front ≡ length base) where
  begun_is : (before : List EntryValue) → AreCalm before → (d : ℕ) → begun_in o (base ++ before) d ≡ begins d before
  begun_is before calm d =
      ap (λ (l : List EntryValue). begins d (since_join d l)) (ap (λ n. drop n (base ++ before)) front ∙ drop-append_seam base before)
      ∙ ap (begins d) (since_none d before (none_joins d before calm))

  module _ (ids : List ℕ) (before : List EntryValue) (calm : AreCalm before) (c : Core) (is : numbers c.net.devices ≡ ids) (d : ℕ) (n : IsNext o (base ++ before) c d) where
    live : (e : ℕ) → is_in e ids ≡ true → Lives c.net e
    live e i = subst (λ (l : List ℕ). is_in e l ≡ true) (sym is) i

    behind : (e : ℕ) → is_in e ids ≡ true → begins d before ≤ begins e before
    behind e i = let p = (n.may.pace e (live e i)).0 in let a = begun_is before calm d in let b = begun_is before calm e in omega (arith, p, a, b)

    rests : (e : ℕ) → is_in e ids ≡ true → begins e before ≡ begins d before → c.flying e ≡ None
    rests e i q = (n.may.pace e (live e i)).1 (begun_is before calm e ∙ (q ∙ sym (begun_is before calm d)))

    -- a device that is level with it may begin
    level : (e : ℕ) → is_in e ids ≡ true → begins e before ≡ begins d before → MayBegin o (base ++ before) c e
    level e i q =
        let same : begun_in o (base ++ before) d ≡ begun_in o (base ++ before) e = begun_is before calm d ∙ (sym q ∙ sym (begun_is before calm e)) in
        record {
          there = live e i;
          rests = rests e i q;
          some = subst (λ k. k < o.rounds) same n.may.some;
          pace = λ x l. let p = n.may.pace x l in (subst (λ k. k ≤ begun_in o (base ++ before) x) same p.0, λ s. p.1 (s ∙ sym same));
        }

    ahead : (e : ℕ) → is_in e ids ≡ true → e < d → begins d before < begins e before
    ahead e i l = by_test (nat_eq (begins e before) (begins d before)) refl
      where
        past : begins d before ≤ begins e before → (begins e before ≡ begins d before → ⊥) → begins d before < begins e before
        past a b = omega (arith, a, b)

        by_test : (b : Bool) → nat_eq (begins e before) (begins d before) ≡ b → begins d before < begins e before
        by_test true q = absurd (n.smallest e l (level e i (eqb-true (begins e before) (begins d before) q)))
        by_test false q = past (behind e i) (eqb-false (begins e before) (begins d before) q)

    pub next_takes : TakesTurn ids before c d
    next_takes = record { there = subst (λ (l : List ℕ). is_in d l ≡ true) is n.may.there; behind = behind; rests = rests; ahead = ahead }

  -- ---- and so each begin of a table

  module _ (whole : List EntryValue) (next : EachIsNext o whole) (ids : List ℕ) where
    abbrev U : Unfolding
    U = unfolding_of o.program

    abbrev start : Core
    start = core_of o.start

    begin_takes : (before : List EntryValue) → AreCalm before → (c : Core) → numbers c.net.devices ≡ ids → Run U start (base ++ before) c → (e : EntryValue) (es : List EntryValue)
        → whole ≡ (base ++ before) ++ e ∷ es → BeginsInTurn ids before c e
    begin_takes before calm c is r (BeginEntry d) es cut = next_takes ids before calm c is d (next (base ++ before) c d (es, cut ∙ sym (append_assoc (base ++ before) (BeginEntry d ∷ []) es))
        (let a = length-append base before in omega (arith, a, front)) r)
    begin_takes before calm c is r (EndEntry d) es cut = tt
    begin_takes before calm c is r IdleEntry es cut = tt
    begin_takes before calm c is r (EditEntry x) es cut = tt

    pub table_turns : (before : List EntryValue) → AreCalm before → (c last : Core) → numbers c.net.devices ≡ ids → Run U start (base ++ before) c → (es : List EntryValue) → AreCalm es
        → whole ≡ (base ++ before) ++ es → Run U c es last → InTurn U ids before c es last
    table_turns before calm c last is r [] k cut s = s
    table_turns before calm c last is r (e ∷ es) k cut s = (
      s.0,
      s.1,
      begin_takes before calm c is r e es cut,
      table_turns (before ++ e ∷ []) (calm_join before (e ∷ []) calm (k.0, tt)) s.0 last (calm_step U c s.0 e k.0 s.1 ∙ is)
          (subst (λ (l : List EntryValue). Run U start l s.0) (append_assoc base before (e ∷ []))
          (run_join U start c s.0 (base ++ before) (e ∷ []) r (s.0, s.1, refl)))
          es k.1 (cut ∙ (sym (append_assoc (base ++ before) (e ∷ []) es) ∙ ap (λ (l : List EntryValue). l ++ es) (append_assoc base before (e ∷ [])))) s.2,
    )

-- of a table over a book
pub book_turns : (o : Opening) (old new : BookValue) (part : List EntryValue) → IsBook old → o.program ≡ old.program → o.start ≡ old.start → o.front ≡ length old.log → EachIsNext o (entries_of new.log)
    → entries_of new.log ≡ entries_of old.log ++ part → AreCalm part → Run (unfolding_of old.program) (core_of old.core) part (core_of new.core)
    → InTurn (unfolding_of old.program) (numbers old.core.net.devices) [] (core_of old.core) part (core_of new.core)
book_turns o old new part was program start front next log calm leads =
    let base = entries_of old.log in
    let begun : Run (unfolding_of o.program) (core_of o.start) (base ++ []) (core_of old.core) =
    subst (λ (z : Program × CoreValue × List EntryValue). Run (unfolding_of z.0) (core_of z.1) z.2 (core_of old.core)) (λ i. (sym program i, sym start i, append_none base i)) was.runs in
    let turns = table_turns o base (front ∙ sym (length-map old.log entry_of)) (entries_of new.log) next (numbers old.core.net.devices) [] tt (core_of old.core) (core_of new.core) refl begun part calm
    (log ∙ ap (λ (l : List EntryValue). l ++ part) (append_none base))
    (subst (λ (p : Program). Run (unfolding_of p) (core_of old.core) part (core_of new.core)) (sym program) leads) in
    subst (λ (p : Program). InTurn (unfolding_of p) (numbers old.core.net.devices) [] (core_of old.core) part (core_of new.core)) program turns
