-- What is known of what lines have added, and of the core to which they led; and what one more line keeps of it.
use Rattle.std.proofs.Common.{◌≡◌, ℕ, suc, ◌+◌, ◌≤◌, List, [], ◌∷◌, ◌++◌, map, length, length-append, append_assoc, append-nil, refl, sym, ap, ◌∙◌, subst, arith, false}
use Rattle.std.proofs.lemmas.List.{length-map}
use Rattle.fc_values.specs.Exports.{FlatExport}
use Rattle.fc_nodes.specs.declared.verdicts.Verdict.{Verdict}
use Rattle.fc_nodes.specs.Program.{Unfolding}
use Rattle.topology.proofs.Lemmas.{put_numbers}
use Rattle.topology.specs.Networks.{Network, NetDevice, numbers}
use Rattle.firing_core.specs.declared.entries.Part.{Part}
use Rattle.firing_core.specs.Cores.{Core, Run, edited}
use Rattle.firing_core.specs.Entries.{EditValue, LinkEdit, UnlinkEdit, SetEdit, PokeEdit, JoinEdit, LeaveEdit}
use Rattle.firing_core.specs.Entries.{EntryValue, BeginEntry, EditEntry}
use Rattle.firing_core.specs.Laws.{PlainRunsKeepNet, RunsCut}
use Rattle.firing_core.specs.Rounds.{has_edit, after_edit, HasRounds}
use Rattle.firing_core.specs.Stretches.{MixStretch}
use Rattle.fragment_check.specs.Verdicts.{verdict_of}
use Rattle.round_count.specs.Laws.{RoundsFollow}
use Rattle.edit_commands.specs.Scripts.{CommandValue, RunCommand, EditCommand, ScrambleCommand, ShowCommand, MixCommand}
use Rattle.session.specs.ScriptRuns.{Added, both, nothing, poke, part_of, shown_after, DoesLine, DoesLines, RunsRounds, MixesEdit, MakesEdit, Scrambles, ShowsCore}
use Rattle.session.specs.Shown.{Shown, ShowsValues, ShowsVerdict, verdict_in}
use Rattle.session.specs.Since.{place_after, rounds_from, rounds_since, last_verdict}
use Rattle.firing_core.proofs.Mixed.{mixed_numbers}
use Rattle.round_count.proofs.EditsInLogs.{after_last, after_short, plain_both}
use Rattle.session.proofs.AfterEdits.{after_plain, rounds_join}
use Rattle.session.proofs.PartRounds.{AllBegin, begin_later, begin_both, rounds_both, rounds_none, rounds_one}

pub record Follows (U : Unfolding) (c : Core) (a : Added) (now : Core) : Type 0 where
  pub run : Run U c a.stretch now
  pub verdict : verdict_in U now ≡ last_verdict (verdict_in U c) a.shown
  pub begin : AllBegin a.parts (length a.stretch)
  pub rounds : HasRounds (numbers now.net.devices) (after_edit a.stretch) (rounds_since a)

pub follows_none : (U : Unfolding) (c : Core) → Follows U c nothing c
follows_none U c = record { run = refl; verdict = refl; begin = tt; rounds = refl }

verdict_more : (v : Verdict) (xs ys : List Shown) → last_verdict v (xs ++ ys) ≡ last_verdict (last_verdict v xs) ys
verdict_more v [] ys = refl
verdict_more v (ShowsValues line core ∷ xs) ys = verdict_more v xs ys
verdict_more v (ShowsVerdict line other ∷ xs) ys = verdict_more other xs ys

-- ---- what is added

none_added : (a : Added) → both a nothing ≡ a
none_added a = λ i. record { stretch = append-nil a.stretch i; parts = append-nil a.parts i; shown = append-nil a.shown i }

added_both : (a b d : Added) → both (both a b) d ≡ both a (both b d)
added_both a b d = λ i. record { stretch = append_assoc a.stretch b.stretch d.stretch i; parts = append_assoc a.parts b.parts d.parts i; shown = append_assoc a.shown b.shown d.shown i }

-- an entry more
added_more : (a : Added) (e : EntryValue) (es : List EntryValue)
    → both (both a (record { stretch = e ∷ []; parts = []; shown = [] })) (record { stretch = es; parts = []; shown = [] }) ≡ both a (record { stretch = e ∷ es; parts = []; shown = [] })
added_more a e es = added_both a (record { stretch = e ∷ []; parts = []; shown = [] }) (record { stretch = es; parts = []; shown = [] })

-- ---- networks

verdict_at : (U : Unfolding) (c d : Core) → numbers d.net.devices ≡ numbers c.net.devices → verdict_in U d ≡ verdict_in U c
verdict_at U c d e =
    let k : length d.net.devices ≡ length c.net.devices =
    sym (length-map d.net.devices (λ (n : NetDevice). n.id)) ∙ (ap (λ (l : List ℕ). length l) e ∙ length-map c.net.devices (λ (n : NetDevice). n.id)) in
    ap (verdict_of U) k

edit_verdict : (U : Unfolding) (c d : Core) (line : ℕ) (e : EditValue) → d ≡ edited U c e → verdict_in U d ≡ last_verdict (verdict_in U c) (shown_after U line e d)
edit_verdict U c d line (LinkEdit a b w) q = verdict_at U c d (ap (λ (k : Core). numbers k.net.devices) q)
edit_verdict U c d line (UnlinkEdit a b) q = verdict_at U c d (ap (λ (k : Core). numbers k.net.devices) q)
edit_verdict U c d line (SetEdit x i v) q = verdict_at U c d (ap (λ (k : Core). numbers k.net.devices) q ∙ put_numbers x i v c.net.devices)
edit_verdict U c d line (PokeEdit x v) q = verdict_at U c d (ap (λ (k : Core). numbers k.net.devices) q)
edit_verdict U c d line (JoinEdit x) q = refl
edit_verdict U c d line (LeaveEdit x) q = refl

parted : (xs : List EntryValue) (y : EntryValue) (ys zs : List EntryValue) → xs ++ y ∷ ys ++ zs ≡ (xs ++ y ∷ ys) ++ zs
parted [] y ys zs = refl
parted (x ∷ xs) y ys zs = ap (λ l. x ∷ l) (parted xs y ys zs)

-- ---- one stretch more

module _ (plain_net : PlainRunsKeepNet) (cut : RunsCut) (follow : RoundsFollow) (U : Unfolding) (c : Core) where
  -- a stretch without an edit
  follows_plain : (a b : Added) (now next : Core) (j : ℕ) → Follows U c a now → has_edit b.stretch ≡ false → Run U now b.stretch next
      → HasRounds (numbers now.net.devices) b.stretch j → rounds_from (place_after a.stretch) b.parts ≡ j
      → AllBegin b.parts (length (a.stretch ++ b.stretch)) → ((v : Verdict) → last_verdict v b.shown ≡ v) → Follows U c (both a b) next
  follows_plain a b now next j f plain run rounds counts begin silent = record {
    run = (cut U c next a.stretch b.stretch).1 (now, f.run, run);
    verdict = verdict_at U now next (ap (λ (n : Network). numbers n.devices) net) ∙ (f.verdict ∙ sym (verdict_more (verdict_in U c) a.shown b.shown ∙ silent (last_verdict (verdict_in U c) a.shown)));
    begin = begin_both a.parts b.parts (length (a.stretch ++ b.stretch)) (begin_later a.parts (length a.stretch) (length (a.stretch ++ b.stretch)) f.begin longer) begin;
    rounds = subst (λ (ns : List ℕ). HasRounds ns (after_edit (a.stretch ++ b.stretch)) (rounds_since (both a b))) (sym (ap (λ (n : Network). numbers n.devices) net))
        (subst (λ l. HasRounds (numbers now.net.devices) l (rounds_since (both a b))) (sym after)
        (subst (λ n. HasRounds (numbers now.net.devices) (after_edit a.stretch ++ b.stretch) n) (sym sum)
        (rounds_join follow (numbers now.net.devices) (after_edit a.stretch) b.stretch (rounds_since a) j f.rounds rounds)));
  }
    where
      net : next.net ≡ now.net
      net = plain_net U now next b.stretch plain run

      longer : length a.stretch ≤ length (a.stretch ++ b.stretch)
      longer = let l = length-append a.stretch b.stretch in omega (arith, l)

      after : after_edit (a.stretch ++ b.stretch) ≡ after_edit a.stretch ++ b.stretch
      after = after_plain a.stretch b.stretch plain

      place : place_after (a.stretch ++ b.stretch) ≡ place_after a.stretch
      place =
          let l = length-append a.stretch b.stretch in
          let m = ap (λ (xs : List EntryValue). length xs) after ∙ length-append (after_edit a.stretch) b.stretch in
          let s = after_short a.stretch in
          omega (arith, l, m, s)

      sum : rounds_since (both a b) ≡ rounds_since a + j
      sum = ap (λ n. rounds_from n (a.parts ++ b.parts)) place ∙ (rounds_both (place_after a.stretch) a.parts b.parts ∙ ap (λ n. rounds_since a + n) counts)

  -- a stretch with an edit: what stands before it counts no more
  follows_edit : (a b : Added) (now next : Core) (front after : List EntryValue) (e : EditValue) (j : ℕ) → Follows U c a now
      → b.stretch ≡ front ++ EditEntry e ∷ after → has_edit after ≡ false → Run U now b.stretch next
      → HasRounds (numbers next.net.devices) after j → rounds_from (length a.stretch + suc (length front)) b.parts ≡ j
      → AllBegin b.parts (length (a.stretch ++ b.stretch)) → verdict_in U next ≡ last_verdict (verdict_in U now) b.shown → Follows U c (both a b) next
  follows_edit a b now next front after e j f is plain run rounds counts begin says = record {
    run = (cut U c next a.stretch b.stretch).1 (now, f.run, run);
    verdict = says ∙ (ap (λ v. last_verdict v b.shown) f.verdict ∙ sym (verdict_more (verdict_in U c) a.shown b.shown));
    begin = begin_both a.parts b.parts (length (a.stretch ++ b.stretch)) (begin_later a.parts (length a.stretch) (length (a.stretch ++ b.stretch)) f.begin longer) begin;
    rounds = subst (λ l. HasRounds (numbers next.net.devices) l (rounds_since (both a b))) (sym left)
        (subst (λ n. HasRounds (numbers next.net.devices) after n) (sym sum) rounds);
  }
    where
      whole : a.stretch ++ b.stretch ≡ (a.stretch ++ front) ++ EditEntry e ∷ after
      whole = ap (λ l. a.stretch ++ l) is ∙ sym (append_assoc a.stretch front (EditEntry e ∷ after))

      left : after_edit (a.stretch ++ b.stretch) ≡ after
      left = ap (λ l. after_edit l) whole ∙ after_last (a.stretch ++ front) after e plain

      lengths : length (a.stretch ++ b.stretch) ≡ length a.stretch + suc (length front) + length after
      lengths =
          let l = ap (λ (xs : List EntryValue). length xs) whole ∙ length-append (a.stretch ++ front) (EditEntry e ∷ after) in
          let m = length-append a.stretch front in
          omega (arith, l, m)

      longer : length a.stretch ≤ length (a.stretch ++ b.stretch)
      longer = let l = lengths in omega (arith, l)

      place : place_after (a.stretch ++ b.stretch) ≡ length a.stretch + suc (length front)
      place = let l = lengths in let m = ap (λ (xs : List EntryValue). length xs) left in omega (arith, l, m)

      sum : rounds_since (both a b) ≡ j
      sum =
          ap (λ n. rounds_from n (a.parts ++ b.parts)) place
          ∙ (rounds_both (length a.stretch + suc (length front)) a.parts b.parts
          ∙ (let none = rounds_none (length a.stretch + suc (length front)) (length a.stretch) a.parts f.begin (omega arith) in omega (arith, none, counts)))

  -- ---- lines

  runs_rounds : (a b : Added) (now next : Core) (line r : ℕ) → Follows U c a now → RunsRounds U now (length a.stretch) line r b next → Follows U c (both a b) next
  runs_rounds a b now next line r f d =
      let x : Part = part_of line r (length a.stretch) (length a.stretch + length b.stretch) in
      let l = length-append a.stretch b.stretch in
      follows_plain a b now next r f d.runs.plain d.runs.leads d.runs.covers
      (ap (λ ps. rounds_from (place_after a.stretch) ps) d.part ∙ rounds_one (place_after a.stretch) x (omega arith))
      (subst (λ ps. AllBegin ps (length (a.stretch ++ b.stretch))) (sym d.part) (omega (arith, l), tt))
      (λ v. ap (λ s. last_verdict v s) d.silent)

  shows_core : (a b : Added) (now next : Core) (line : ℕ) → Follows U c a now → ShowsCore now line b next → Follows U c (both a b) next
  shows_core a b now next line f d =
      follows_plain a b now next 0 f (ap (λ l. has_edit l) d.stretch) (subst (λ l. Run U now l next) (sym d.stretch) d.same)
      (ap (λ l. has_edit l) d.stretch) (ap (λ ps. rounds_from (place_after a.stretch) ps) d.none)
      (subst (λ ps. AllBegin ps (length (a.stretch ++ b.stretch))) (sym d.none) tt)
      (λ v. ap (λ s. last_verdict v s) d.shows)

  makes_edit : (a b : Added) (now next : Core) (line : ℕ) (e : EditValue) → Follows U c a now → MakesEdit U now e (shown_after U line e next) b next → Follows U c (both a b) next
  makes_edit a b now next line e f d =
      follows_edit a b now next [] [] e 0 f d.stretch refl d.leads refl
      (ap (λ ps. rounds_from (length a.stretch + 1) ps) d.none) (subst (λ ps. AllBegin ps (length (a.stretch ++ b.stretch))) (sym d.none) tt)
      (edit_verdict U now next line e (made (subst (λ l. Run U now l next) d.stretch d.leads)) ∙ ap (λ s. last_verdict (verdict_in U now) s) (sym d.shows))
    where
      made : Run U now (EditEntry e ∷ []) next → next ≡ edited U now e
      made r = r.2 ∙ r.1.after

  mixes_edit : (a b : Added) (now next : Core) (line r : ℕ) (e : EditValue) → Follows U c a now → MixesEdit U now (length a.stretch) line r e b next → Follows U c (both a b) next
  mixes_edit a b now next line r e f d =
      let x : Part = part_of line r (length a.stretch + d.place) (length a.stretch + length b.stretch) in
      let l = length-append a.stretch b.stretch in
      let n = lengths in
      let h = d.behind in
      follows_edit a b now next front m.after e r f is m.plain_after m.leads
      (subst (λ (ns : List ℕ). HasRounds ns m.after r) (sym same) m.covers)
      (ap (λ ps. rounds_from (length a.stretch + suc (length front)) ps) d.part ∙ rounds_one (length a.stretch + suc (length front)) x (omega (arith, n, h)))
      (subst (λ ps. AllBegin ps (length (a.stretch ++ b.stretch))) (sym d.part) (omega (arith, l, h), tt))
      (verdict_at U now next same ∙ ap (λ s. last_verdict (verdict_in U now) s) (sym d.silent))
    where
      m : MixStretch U now r e b.stretch next
      m = d.mixes

      front : List EntryValue
      front = m.before ++ BeginEntry m.first ∷ m.among

      is : b.stretch ≡ front ++ EditEntry e ∷ m.after
      is = m.cut ∙ parted m.before (BeginEntry m.first) m.among (EditEntry e ∷ m.after)

      lengths : length b.stretch ≡ length front + suc (length m.after)
      lengths = ap (λ (xs : List EntryValue). length xs) is ∙ length-append front (EditEntry e ∷ m.after)

      plain_front : has_edit front ≡ false
      plain_front = plain_both m.before (BeginEntry m.first ∷ m.among) m.plain_before m.plain_among

      same : numbers next.net.devices ≡ numbers now.net.devices
      same =
          let k = (cut U now next front (EditEntry e ∷ m.after)).0 (subst (λ l. Run U now l next) is m.leads) in
          let first = plain_net U now k.0 front plain_front k.1 in
          let second = plain_net U k.2.0 next m.after m.plain_after k.2.2 in
          ap (λ (n : Network). numbers n.devices) second
          ∙ (ap (λ (z : Core). numbers z.net.devices) k.2.1.after
          ∙ (mixed_numbers U k.0 e d.mixed ∙ ap (λ (n : Network). numbers n.devices) first))

  pokes : (xs : List (ℕ × FlatExport)) (a : Added) (now next : Core) → Follows U c a now → Run U now (map poke xs) next
      → Follows U c (both a (record { stretch = map poke xs; parts = []; shown = [] })) next
  pokes [] a now next f r =
      subst (λ z. Follows U c z next) (sym (none_added a)) (subst (λ (k : Core). Follows U c a k) (sym r) f)
  pokes (x ∷ xs) a now next f r =
      let one : Added = record { stretch = poke x ∷ []; parts = []; shown = [] } in
      let first : Follows U c (both a one) r.0 =
      follows_edit a one now r.0 [] [] (PokeEdit x.0 x.1) 0 f refl refl (r.0, r.1, refl) refl refl tt
      (verdict_at U now r.0 (ap (λ (k : Core). numbers k.net.devices) r.1.after)) in
      subst (λ z. Follows U c z next) (added_more a (poke x) (map poke xs)) (pokes xs (both a one) r.0 next first r.2)

  scrambles : (a b : Added) (now next : Core) (n : ℕ) → Follows U c a now → Scrambles U now n b next → Follows U c (both a b) next
  scrambles a b now next n f d =
      let s : Follows U c (both a (record { stretch = map poke d.rubbish; parts = []; shown = [] })) next =
      pokes d.rubbish a now next f (subst (λ l. Run U now l next) d.stretch d.leads) in
      subst (λ (l : List EntryValue). Follows U c (both a (record { stretch = l; parts = b.parts; shown = b.shown })) next) (sym d.stretch)
      (subst (λ (l : List Part). Follows U c (both a (record { stretch = map poke d.rubbish; parts = l; shown = b.shown })) next) (sym d.none)
      (subst (λ (l : List Shown). Follows U c (both a (record { stretch = map poke d.rubbish; parts = []; shown = l })) next) (sym d.silent) s))

  -- one more line
  one_line : (line : ℕ × CommandValue) (a b : Added) (now next : Core) → Follows U c a now → DoesLine U now (length a.stretch) line b next → Follows U c (both a b) next
  one_line (line, RunCommand r) a b now next f d = runs_rounds a b now next line r f d
  one_line (line, EditCommand e) a b now next f d = makes_edit a b now next line e f d
  one_line (line, ScrambleCommand n) a b now next f d = scrambles a b now next n f d
  one_line (line, ShowCommand) a b now next f d = shows_core a b now next line f d
  one_line (line, MixCommand r e) a b now next f d = mixes_edit a b now next line r e f d

  -- lines, one after another
  pub all_lines : (lines : List (ℕ × CommandValue)) (a b : Added) (now last : Core) → Follows U c a now → DoesLines U now (length a.stretch) lines b last → Follows U c (both a b) last
  all_lines [] a b now last f d =
      subst (λ z. Follows U c (both a z) last) (sym d.0) (subst (λ z. Follows U c z last) (sym (none_added a)) (subst (λ (k : Core). Follows U c a k) (sym d.1) f))
  all_lines (line ∷ lines) a b now last f d =
      let l = length-append a.stretch d.0.stretch in
      let rest = subst (λ n. DoesLines U d.2 n lines d.1 last) (sym l) d.5 in
      subst (λ z. Follows U c z last) (added_both a d.0 d.1 ∙ ap (λ z. both a z) (sym d.3))
      (all_lines lines (both a d.0) d.1 d.2 last (one_line line a d.0 now d.2 f d.4) rest)
