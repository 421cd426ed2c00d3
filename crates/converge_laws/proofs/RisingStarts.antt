-- Crates above cite this module. One round raises the level of a core by one, from whatever state: a device's begin in
-- the round comes after the end of any older firing of it, so that each older copy is published by then.
use Rattle.std.proofs.Common.{◌≡◌, ◌+◌, ℕ, zero, suc, List, [], ◌∷◌, ◌++◌, refl, sym, ◌∙◌, ap, subst, Bool, true, false}
use Rattle.std.proofs.Common.{◌||◌, Option, Some, None, arith, inl, inr}
use Rattle.fc_values.specs.Trees.{TreeExport, Copy}
use Rattle.fc_nodes.specs.Program.{Program, Unfolding, unfolding_of, IsProgram}
use Rattle.value_trees.specs.Copies.{FitsCopy}
use Rattle.device_eval.specs.Copies.{EvaluatesCopy}
use Rattle.topology.specs.Networks.{Network, Lives, IsNetwork, numbers}
use Rattle.firing_core.specs.Entries.{EntryValue, BeginEntry, EndEntry, IdleEntry, EditEntry}
use Rattle.firing_core.specs.Cores.{Map, Core, copy_of, Step, StepSeeing, Run, IsGood}
use Rattle.firing_core.specs.Rounds.{is_edit, has_edit, HasEnd, HasFiring, Covers, HasRounds}
use Rattle.firing_core.specs.Laws.{StepsKeepGood, CopiesFit, RunsCut}
use Rattle.firing_core.proofs.Maps.{put_case, put_same}
use Rattle.converge_laws.specs.CoreLevels.{GoodTable}
use Rattle.converge_laws.specs.StartLevels.{MaybeLevel, TableFrom, CopyFrom, FromLevel, Lifts, SeenFrom, FreshFrom}
use Rattle.converge_laws.specs.StartLevels.{FiredFrom, LiftsByRounds}

no_edit : (e : EntryValue) (es : List EntryValue) → has_edit (e ∷ es) ≡ false
    → (is_edit e ≡ false) × (has_edit es ≡ false)
no_edit e es h = by_test (is_edit e) refl h
  where
    by_test : (b : Bool) → is_edit e ≡ b → (b || has_edit es) ≡ false → (is_edit e ≡ false) × (has_edit es ≡ false)
    by_test true k h = absurd cc
    by_test false k h = (k, h)

module _ (keeps : StepsKeepGood) (fit : CopiesFit) (cuts : RunsCut) (L : MaybeLevel) (p : Program) (N : Network)
    (program : IsProgram p) (net : IsNetwork N) (same : N.declared ≡ p.declared) (r : Lifts L (unfolding_of p) N) where
  abbrev U : Unfolding
  U = unfolding_of p

  fits_of : (f : Map TreeExport) (d : ℕ) → Lives N d → GoodTable U N f → FitsCopy U (copy_of N f d)
  fits_of f d l t = fit U (record { net = N; exports = f; flying = λ e. None }) d
      (record { net = net; declared = same; exports = t; flying = λ e s q. absurd cc }) l

  copy_down : (j d : ℕ) (s : Copy) → Lives N d → CopyFrom L U N (suc j) d s → CopyFrom L U N j d s
  copy_down zero d s l h = (
    subst (FitsCopy U) (sym h.3) (fits_of h.0 d l h.1),
    λ e v. r.down 0 d (Some e) l (r.fires 0 h.0 h.1 h.2 d l e (subst (λ c. EvaluatesCopy U c e) h.3 v)),
  )
  copy_down (suc j) d s l h = (h.0, h.1, (λ e k. r.down j e (h.0 e) k (h.2 e k)), h.3)

  copy_ends : (j d : ℕ) (s : Copy) (e : TreeExport) → Lives N d → CopyFrom L U N j d s → EvaluatesCopy U s e
      → L j d (Some e)
  copy_ends zero d s e l h v = h.1 e v
  copy_ends (suc j) d s e l h v = r.fires j h.0 h.1 h.2 d l e (subst (λ c. EvaluatesCopy U c e) h.3 v)

  taken : (j : ℕ) (t : ℕ → Map TreeExport) (c : Core) → FromLevel L U N j c → SeenFrom L U N j t → (d e : ℕ) → e ≡ d
      → (s : Copy) → Some (copy_of c.net (t d) d) ≡ Some s → CopyFrom L U N (suc j) e s
  taken j t c a v d e q s h =
      let h' : copy_of c.net (t d) d ≡ s = cc in
      (t d, (v d).0, (v d).1, sym h' ∙ ap (λ n. copy_of n (t d) d) a.same ∙ ap (copy_of N (t d)) (sym q))

  -- copies in flight, at the level of each device or one up
  abbrev Flight : ℕ → ℕ → Option Copy → Type 0
  Flight j d o = (s : Copy) → o ≡ Some s → CopyFrom L U N j d s

  -- the level is kept by a step
  pub kept : (j : ℕ) (t : ℕ → Map TreeExport) (c next : Core) (e : EntryValue) → is_edit e ≡ false
      → FromLevel L U N j c → SeenFrom L U N j t → IsGood U next → StepSeeing U t c e next → FromLevel L U N j next
  kept j t c next (BeginEntry d) n a v good s = record {
    same = ap (λ (x : Core). x.net) s.2 ∙ a.same;
    good = good;
    exports = subst (λ (x : Core). TableFrom L N j x.exports) (sym s.2) a.exports;
    copies = subst (λ (x : Core). (e : ℕ) → Lives N e → Flight j e (x.flying e)) (sym s.2) (λ e l.
        put_case (Flight j e) c.flying d e (Some (copy_of c.net (t d) d))
        (λ q u h. copy_down j e u l (taken j t c a v d e q u h)) (a.copies e l));
  }
  kept j t c next (EndEntry d) n a v good s = record {
    same = ap (λ (x : Core). x.net) s.after ∙ a.same;
    good = good;
    exports = subst (λ (x : Core). TableFrom L N j x.exports) (sym s.after) (λ e l.
        put_case (L j e) c.exports d e (Some s.export)
        (λ q. copy_ends j e s.copy s.export l (a.copies e l s.copy (ap c.flying q ∙ s.flies)) s.evaluates)
        (a.exports e l));
    copies = subst (λ (x : Core). (e : ℕ) → Lives N e → Flight j e (x.flying e)) (sym s.after) (λ e l.
        put_case (Flight j e) c.flying d e None (λ q u h. absurd cc) (a.copies e l));
  }
  kept j t c next IdleEntry n a v good s = subst (FromLevel L U N j) (sym s) a
  kept j t c next (EditEntry x) n a v good s = absurd cc

  pub fresh : (j d : ℕ) (t : ℕ → Map TreeExport) (c next : Core) (e : EntryValue) → is_edit e ≡ false
      → FromLevel L U N j c → SeenFrom L U N j t → StepSeeing U t c e next → FreshFrom L U N j d c
      → FreshFrom L U N j d next
  fresh j d t c next (BeginEntry b) n a v s w = subst (FreshFrom L U N j d) (sym s.2)
      (put_case (Flight (suc j) d) c.flying b d (Some (copy_of c.net (t b) b)) (λ q u h. taken j t c a v b d q u h) w)
  fresh j d t c next (EndEntry b) n a v s w = subst (FreshFrom L U N j d) (sym s.after)
      (put_case (Flight (suc j) d) c.flying b d None (λ q u h. absurd cc) w)
  fresh j d t c next IdleEntry n a v s w = subst (FreshFrom L U N j d) (sym s) w
  fresh j d t c next (EditEntry x) n a v s w = absurd cc

  pub begins : (j d : ℕ) (t : ℕ → Map TreeExport) (c next : Core) → FromLevel L U N j c → SeenFrom L U N j t
      → StepSeeing U t c (BeginEntry d) next → FreshFrom L U N j d next
  begins j d t c next a v s = subst (FreshFrom L U N j d) (sym s.2) (λ u h.
      taken j t c a v d d refl u (sym (put_same c.flying d (Some (copy_of c.net (t d) d))) ∙ h))

  pub finished : (j d : ℕ) (t : ℕ → Map TreeExport) (c next : Core) (e : EntryValue) → is_edit e ≡ false → Lives N d
      → FromLevel L U N j c → SeenFrom L U N j t → StepSeeing U t c e next → FiredFrom L U N j d c
      → FiredFrom L U N j d next
  finished j d t c next e n l a v s w = (exports_keep e n s, fresh j d t c next e n a v s w.1)
    where
      exports_keep : (e : EntryValue) → is_edit e ≡ false → StepSeeing U t c e next → L (suc j) d (next.exports d)
      exports_keep (BeginEntry b) n s = subst (λ (x : Core). L (suc j) d (x.exports d)) (sym s.2) w.0
      exports_keep (EndEntry b) n s = subst (λ (x : Core). L (suc j) d (x.exports d)) (sym s.after)
          (put_case (L (suc j) d) c.exports b d (Some s.export)
          (λ q. copy_ends (suc j) d s.copy s.export l (w.1 s.copy (ap c.flying q ∙ s.flies)) s.evaluates) w.0)
      exports_keep IdleEntry n s = subst (λ (x : Core). L (suc j) d (x.exports d)) (sym s) w.0
      exports_keep (EditEntry x) n s = absurd cc

  pub ends : (j d : ℕ) (t : ℕ → Map TreeExport) (c next : Core) → Lives N d → FromLevel L U N j c
      → SeenFrom L U N j t → StepSeeing U t c (EndEntry d) next → FreshFrom L U N j d c → FiredFrom L U N j d next
  ends j d t c next l a v s w = (
    subst (λ (x : Core). L (suc j) d (x.exports d)) (sym s.after)
        (subst (L (suc j) d) (sym (put_same c.exports d (Some s.export)))
        (copy_ends (suc j) d s.copy s.export l (w s.copy s.flies) s.evaluates)),
    fresh j d t c next (EndEntry d) refl a v s w,
  )

  good_table : (c : Core) → c.net ≡ N → IsGood U c → GoodTable U N c.exports
  good_table c e good = subst (λ n. GoodTable U n c.exports) e good.exports

  -- over runs
  seen : (j : ℕ) (c : Core) → FromLevel L U N j c → SeenFrom L U N j (λ d. c.exports)
  seen j c a = λ d. (good_table c a.same a.good, a.exports)

  step_kept : (j : ℕ) (c next : Core) (e : EntryValue) → is_edit e ≡ false → FromLevel L U N j c → Step U c e next
      → FromLevel L U N j next
  step_kept j c next e n a s = kept j (λ d. c.exports) c next e n a (seen j c a) (keeps p c next e program a.good s) s

  run_level : (j : ℕ) (log : List EntryValue) (c last : Core) → has_edit log ≡ false → FromLevel L U N j c
      → Run U c log last → FromLevel L U N j last
  run_level j [] c last n a s = subst (FromLevel L U N j) (sym s) a
  run_level j (e ∷ es) c last n a s =
      let m = no_edit e es n in run_level j es s.0 last m.1 (step_kept j c s.0 e m.0 a s.1) s.2

  run_finished : (j d : ℕ) (log : List EntryValue) (c last : Core) → has_edit log ≡ false → Lives N d
      → FromLevel L U N j c → Run U c log last → FiredFrom L U N j d c → FiredFrom L U N j d last
  run_finished j d [] c last n l a s w = subst (FiredFrom L U N j d) (sym s) w
  run_finished j d (e ∷ es) c last n l a s w =
      let m = no_edit e es n in
      run_finished j d es s.0 last m.1 l (step_kept j c s.0 e m.0 a s.1) s.2
      (finished j d (λ x. c.exports) c s.0 e m.0 l a (seen j c a) s.1 w)

  run_ends : (j d : ℕ) (log : List EntryValue) (c last : Core) → has_edit log ≡ false → Lives N d
      → FromLevel L U N j c → Run U c log last → FreshFrom L U N j d c → HasEnd d log → FiredFrom L U N j d last
  run_ends j d [] c last n l a s w h = absurd h
  run_ends j d (e ∷ es) c last n l a s w (inl i) =
      let m = no_edit e es n in
      run_finished j d es s.0 last m.1 l (step_kept j c s.0 e m.0 a s.1) s.2
      (ends j d (λ x. c.exports) c s.0 l a (seen j c a) (subst (λ x. Step U c x s.0) i s.1) w)
  run_ends j d (e ∷ es) c last n l a s w (inr h) =
      let m = no_edit e es n in
      run_ends j d es s.0 last m.1 l (step_kept j c s.0 e m.0 a s.1) s.2
      (fresh j d (λ x. c.exports) c s.0 e m.0 a (seen j c a) s.1 w) h

  run_fires : (j d : ℕ) (log : List EntryValue) (c last : Core) → has_edit log ≡ false → Lives N d
      → FromLevel L U N j c → Run U c log last → HasFiring d log → FiredFrom L U N j d last
  run_fires j d [] c last n l a s h = absurd h
  run_fires j d (e ∷ es) c last n l a s (inl h) =
      let m = no_edit e es n in
      run_ends j d es s.0 last m.1 l (step_kept j c s.0 e m.0 a s.1) s.2
      (begins j d (λ x. c.exports) c s.0 a (seen j c a) (subst (λ x. Step U c x s.0) h.0 s.1)) h.1
  run_fires j d (e ∷ es) c last n l a s (inr h) =
      let m = no_edit e es n in run_fires j d es s.0 last m.1 l (step_kept j c s.0 e m.0 a s.1) s.2 h

  -- one covering part
  run_part : (j : ℕ) (part : List EntryValue) (c last : Core) → FromLevel L U N j c → Run U c part last
      → Covers (numbers N.devices) part → FromLevel L U N (suc j) last
  run_part j part c last a s v =
      let k = run_level j part c last v.plain a s in
      record {
        same = k.same;
        good = k.good;
        exports = λ d l. (run_fires j d part c last v.plain l a s (v.fires d l)).0;
        copies = λ d l. (run_fires j d part c last v.plain l a s (v.fires d l)).1;
      }

  run_rounds : (k j : ℕ) (log : List EntryValue) (c last : Core) → FromLevel L U N j c → Run U c log last
      → HasRounds (numbers N.devices) log k → FromLevel L U N (j + k) last
  run_rounds zero j log c last a s v =
      let z : j ≡ j + 0 = omega arith in
      subst (λ (i : ℕ). FromLevel L U N i last) z (run_level j log c last v a s)
  run_rounds (suc k) j log c last a s v =
      let s' : Run U c (v.0 ++ v.1) last = subst (λ (xs : List EntryValue). Run U c xs last) v.2 s in
      let m = (cuts U c last v.0 v.1).0 s' in
      let z : suc j + k ≡ j + suc k = omega arith in
      subst (λ (i : ℕ). FromLevel L U N i last) z
      (run_rounds k (suc j) v.1 m.0 last (run_part j v.0 c m.0 a m.1 v.3) m.2 v.4)

  -- so many rounds
  pub levels_of_rounds : LiftsByRounds L U N
  levels_of_rounds j k log c last a s v = run_rounds k j log c last a s v

  pub rounds_law : (k : ℕ) (log : List EntryValue) (c last : Core) → FromLevel L U N 0 c → Run U c log last
      → HasRounds (numbers N.devices) log k → FromLevel L U N k last
  rounds_law k log c last a s v =
      let z : 0 + k ≡ k = omega arith in
      subst (λ (i : ℕ). FromLevel L U N i last) z (run_rounds k 0 log c last a s v)
