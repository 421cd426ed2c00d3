-- Crates above cite this module. One round raises the level of a core by one, from whatever state and whatever is
-- edited: a device that is there all the time begins and ends a firing, and one that isn't there at some moment has
-- neither an export nor a copy in flight then.
use Rattle.std.proofs.Common.{◌≡◌, ◌+◌, ◌⊎◌, ℕ, zero, suc, List, [], ◌∷◌, ◌++◌, refl, sym, ◌∙◌, ap, subst, true}
use Rattle.std.proofs.Common.{false, Option, Some, None, arith, inl, inr}
use Rattle.fc_values.specs.Trees.{TreeExport, Copy}
use Rattle.fc_nodes.specs.Program.{Program, Unfolding, unfolding_of, IsProgram}
use Rattle.value_trees.specs.Copies.{FitsCopy}
use Rattle.device_eval.specs.Copies.{EvaluatesCopy}
use Rattle.topology.specs.Networks.{Network, lives, Lives, IsNetwork}
use Rattle.topology.proofs.Lemmas.{can_join, drop_gone}
use Rattle.firing_core.specs.Entries.{EditValue, LinkEdit, UnlinkEdit, SetEdit, PokeEdit, JoinEdit, LeaveEdit}
use Rattle.firing_core.specs.Entries.{EntryValue, BeginEntry, EndEntry, IdleEntry, EditEntry}
use Rattle.firing_core.specs.Cores.{Map, Core, copy_of, edited, edit_fault, Step, StepSeeing, Run, IsGood}
use Rattle.firing_core.specs.Rounds.{HasEnd, HasFiring}
use Rattle.firing_core.specs.Laws.{StepsKeepGood, CopiesFit, RunsCut}
use Rattle.firing_core.proofs.Maps.{put_case, put_same}
use Rattle.converge_laws.specs.CoreLevels.{GoodTable}
use Rattle.converge_laws.specs.StartLevels.{MaybeLevel}
use Rattle.net_moves.specs.Moves.{net_edited, is_poke, Allowed, Stays, IsThere, IsAway, CoversThere, HasRoundsThere}
use Rattle.net_moves.proofs.Moving.{edited_net, step_nets, run_nets, there_or_away, stays_first, stays_cut}
use Rattle.moving_laws.specs.MovingLevels.{TableOf, TakenAt, CopyOf, MovingLevel, LiftsMoving, SeenOf, FreshOf}
use Rattle.moving_laws.specs.MovingLevels.{FiredOf, MovesByRounds}

module _ (keeps : StepsKeepGood) (fit : CopiesFit) (cuts : RunsCut) (L : MaybeLevel) (p : Program) (In : Allowed)
    (program : IsProgram p) (r : LiftsMoving L (unfolding_of p) In) where
  abbrev U : Unfolding
  U = unfolding_of p

  fits_of : (n : Network) (f : Map TreeExport) (d : ℕ) → IsNetwork n → n.declared ≡ U.declared → Lives n d
      → GoodTable U n f → FitsCopy U (copy_of n f d)
  fits_of n f d net same l t = fit U (record { net = n; exports = f; flying = λ e. None }) d
      (record { net = net; declared = same; exports = t; flying = λ e s q. absurd cc }) l

  taken_ends : (j d : ℕ) (s : Copy) (e : TreeExport) → TakenAt L U In j d s → EvaluatesCopy U s e → L (suc j) d (Some e)
  taken_ends j d s e h v = r.fires j h.net h.table h.allowed h.is_net h.declared h.good h.level d h.there e
      (subst (λ c. EvaluatesCopy U c e) h.is v)

  copy_down : (j d : ℕ) (s : Copy) → CopyOf L U In (suc j) d s → CopyOf L U In j d s
  copy_down zero d s h = (
    subst (FitsCopy U) (sym h.is) (fits_of h.net h.table d h.is_net h.declared h.there h.good),
    λ e v. r.down 0 d (Some e) (taken_ends 0 d s e h v),
  )
  copy_down (suc j) d s h = record {
    net = h.net;
    allowed = h.allowed;
    is_net = h.is_net;
    declared = h.declared;
    there = h.there;
    table = h.table;
    good = h.good;
    level = λ e. r.down j e (h.table e) (h.level e);
    is = h.is;
  }

  copy_ends : (j d : ℕ) (s : Copy) (e : TreeExport) → CopyOf L U In j d s → EvaluatesCopy U s e → L j d (Some e)
  copy_ends zero d s e h v = h.1 e v
  copy_ends (suc j) d s e h v = taken_ends j d s e h v

  taken : (j : ℕ) (t : ℕ → Map TreeExport) (c : Core) → MovingLevel L U In j c → SeenOf L U j c.net t → (d e : ℕ)
      → Lives c.net d → e ≡ d → (s : Copy) → Some (copy_of c.net (t d) d) ≡ Some s → CopyOf L U In (suc j) e s
  taken j t c a v d e l q s h =
      let h' : copy_of c.net (t d) d ≡ s = cc in
      record {
        net = c.net;
        allowed = a.allowed;
        is_net = a.good.net;
        declared = a.good.declared;
        there = subst (Lives c.net) (sym q) l;
        table = t d;
        good = (v d).0;
        level = (v d).1;
        is = sym h' ∙ ap (copy_of c.net (t d)) (sym q);
      }

  -- copies in flight, at the level of each device or one up
  abbrev Flight : ℕ → ℕ → Option Copy → Type 0
  Flight j d o = (s : Copy) → o ≡ Some s → CopyOf L U In j d s

  -- ---- what edits do to a device: nothing, or it has no export and no copy in flight any more, and it wasn't there,
  -- or isn't there any more

  edit_flying : (Q : Option Copy → Type 0) (c : Core) (x : EditValue) (d : ℕ) → Q None → Q (c.flying d)
      → Q ((edited U c x).flying d)
  edit_flying Q c (LinkEdit a b w) d none h = h
  edit_flying Q c (UnlinkEdit a b) d none h = h
  edit_flying Q c (SetEdit e i v) d none h = h
  edit_flying Q c (PokeEdit e x) d none h = h
  edit_flying Q c (JoinEdit x) d none h = put_case Q c.flying x.id d None (λ q. none) h
  edit_flying Q c (LeaveEdit e) d none h = h

  edit_exports : (k : ℕ) (c : Core) (x : EditValue) → is_poke (EditEntry x) ≡ false → In c.net → In (net_edited c.net x)
      → edit_fault c x ≡ None → (d : ℕ) → L k d (c.exports d) → L k d ((edited U c x).exports d)
  edit_exports k c (LinkEdit a b w) n i o f d h = h
  edit_exports k c (UnlinkEdit a b) n i o f d h = h
  edit_exports k c (SetEdit e x v) n i o f d h = h
  edit_exports k c (PokeEdit e x) n i o f d h = absurd cc
  edit_exports k c (JoinEdit x) n i o f d h = put_case (L k d) c.exports x.id d None
      (λ q. r.away k d c.net i (subst (λ e. lives c.net e ≡ false) (sym q) (can_join c.net x f).new)) h
  edit_exports k c (LeaveEdit e) n i o f d h = put_case (L k d) c.exports e d None
      (λ q. r.away k d (net_edited c.net (LeaveEdit e)) o
      (subst (λ m. lives (net_edited c.net (LeaveEdit e)) m ≡ false) (sym q) (drop_gone e c.net.devices))) h

  -- ---- steps

  module _ (j : ℕ) (t : ℕ → Map TreeExport) (c next : Core) (a : MovingLevel L U In j c) (v : SeenOf L U j c.net t)
    where
      -- the level is kept by a step
      pub kept : (e : EntryValue) → is_poke e ≡ false → In next.net → IsGood U next → StepSeeing U t c e next
          → MovingLevel L U In j next
      kept (BeginEntry d) n i good s = record {
        allowed = i;
        good = good;
        exports = subst (λ (x : Core). TableOf L j x.exports) (sym s.2) a.exports;
        copies = λ e. subst (λ (x : Core). Flight j e (x.flying e)) (sym s.2)
            (put_case (Flight j e) c.flying d e (Some (copy_of c.net (t d) d))
            (λ q u h. copy_down j e u (taken j t c a v d e s.0 q u h)) (a.copies e));
      }
      kept (EndEntry d) n i good s = record {
        allowed = i;
        good = good;
        exports = subst (λ (x : Core). TableOf L j x.exports) (sym s.after) (λ e.
            put_case (L j e) c.exports d e (Some s.export)
            (λ q. copy_ends j e s.copy s.export (a.copies e s.copy (ap c.flying q ∙ s.flies)) s.evaluates)
            (a.exports e));
        copies = λ e. subst (λ (x : Core). Flight j e (x.flying e)) (sym s.after)
            (put_case (Flight j e) c.flying d e None (λ q u h. absurd cc) (a.copies e));
      }
      kept IdleEntry n i good s = subst (MovingLevel L U In j) (sym s) a
      kept (EditEntry x) n i good s =
          let o : In (net_edited c.net x) = subst In (ap (λ (y : Core). y.net) s.after ∙ edited_net U c x) i in
          record {
            allowed = i;
            good = good;
            exports = subst (λ (y : Core). TableOf L j y.exports) (sym s.after)
                (λ d. edit_exports j c x n a.allowed o s.allowed d (a.exports d));
            copies = λ d. subst (λ (y : Core). Flight j d (y.flying d)) (sym s.after)
                (edit_flying (Flight j d) c x d (λ u h. absurd cc) (a.copies d));
          }

      pub fresh : (d : ℕ) (e : EntryValue) → StepSeeing U t c e next → FreshOf L U In j d c → FreshOf L U In j d next
      fresh d (BeginEntry b) s w = subst (FreshOf L U In j d) (sym s.2)
          (put_case (Flight (suc j) d) c.flying b d (Some (copy_of c.net (t b) b))
          (λ q u h. taken j t c a v b d s.0 q u h) w)
      fresh d (EndEntry b) s w = subst (FreshOf L U In j d) (sym s.after)
          (put_case (Flight (suc j) d) c.flying b d None (λ q u h. absurd cc) w)
      fresh d IdleEntry s w = subst (FreshOf L U In j d) (sym s) w
      fresh d (EditEntry x) s w = subst (FreshOf L U In j d) (sym s.after)
          (edit_flying (Flight (suc j) d) c x d (λ u h. absurd cc) w)

      pub begins : (d : ℕ) → StepSeeing U t c (BeginEntry d) next → FreshOf L U In j d next
      begins d s = subst (FreshOf L U In j d) (sym s.2) (λ u h.
          taken j t c a v d d s.0 refl u (sym (put_same c.flying d (Some (copy_of c.net (t d) d))) ∙ h))

      pub finished : (d : ℕ) (e : EntryValue) → is_poke e ≡ false → In next.net → StepSeeing U t c e next
          → FiredOf L U In j d c → FiredOf L U In j d next
      finished d e n i s w = (exports_keep e n s, fresh d e s w.1)
        where
          exports_keep : (e : EntryValue) → is_poke e ≡ false → StepSeeing U t c e next → L (suc j) d (next.exports d)
          exports_keep (BeginEntry b) n s = subst (λ (x : Core). L (suc j) d (x.exports d)) (sym s.2) w.0
          exports_keep (EndEntry b) n s = subst (λ (x : Core). L (suc j) d (x.exports d)) (sym s.after)
              (put_case (L (suc j) d) c.exports b d (Some s.export)
              (λ q. copy_ends (suc j) d s.copy s.export (w.1 s.copy (ap c.flying q ∙ s.flies)) s.evaluates) w.0)
          exports_keep IdleEntry n s = subst (λ (x : Core). L (suc j) d (x.exports d)) (sym s) w.0
          exports_keep (EditEntry x) n s =
              let o : In (net_edited c.net x) = subst In (ap (λ (y : Core). y.net) s.after ∙ edited_net U c x) i in
              subst (λ (y : Core). L (suc j) d (y.exports d)) (sym s.after)
              (edit_exports (suc j) c x n a.allowed o s.allowed d w.0)

      pub ends : (d : ℕ) → StepSeeing U t c (EndEntry d) next → FreshOf L U In j d c → FiredOf L U In j d next
      ends d s w = (
        subst (λ (x : Core). L (suc j) d (x.exports d)) (sym s.after)
            (subst (L (suc j) d) (sym (put_same c.exports d (Some s.export)))
            (copy_ends (suc j) d s.copy s.export (w s.copy s.flies) s.evaluates)),
        fresh d (EndEntry d) s w,
      )

  -- a device that isn't there has neither an export nor a copy in flight, so it counts as one that has fired
  pub gone : (j d : ℕ) (c : Core) → MovingLevel L U In j c → lives c.net d ≡ false → FiredOf L U In j d c
  gone j d c a g = (by_export (c.exports d) refl, by_flight)
    where
      by_export : (o : Option TreeExport) → c.exports d ≡ o → L (suc j) d o
      by_export None q = r.away (suc j) d c.net a.allowed g
      by_export (Some x) q = let l = (a.good.exports d x q).there in let z : false ≡ true = sym g ∙ l in absurd cc

      by_flight : FreshOf L U In j d c
      by_flight s q = let l = (a.good.flying d s q).there in let z : false ≡ true = sym g ∙ l in absurd cc

  -- ---- over runs

  seen : (j : ℕ) (c : Core) → MovingLevel L U In j c → SeenOf L U j c.net (λ d. c.exports)
  seen j c a d = (a.good.exports, a.exports)

  -- what a log leaves to be done after its first entry
  record After (c next : Core) (es : List EntryValue) : Type 0 where
    pub allowed : In next.net
    pub stays : Stays In next.net es

  after : (c next : Core) (e : EntryValue) (es : List EntryValue) → Stays In c.net (e ∷ es) → Step U c e next
      → After c next es
  after c next e es h s =
      let q = step_nets U (λ d. c.exports) c next e s in
      let k : Stays In next.net es = subst (λ n. Stays In n es) (sym q) h.2 in
      record { allowed = stays_first In next.net es k; stays = k }

  step_kept : (j : ℕ) (c next : Core) (e : EntryValue) → is_poke e ≡ false → In next.net → MovingLevel L U In j c
      → Step U c e next → MovingLevel L U In j next
  step_kept j c next e n i a s =
      kept j (λ d. c.exports) c next a (seen j c a) e n i (keeps p c next e program a.good s) s

  run_level : (j : ℕ) (log : List EntryValue) (c last : Core) → Stays In c.net log → MovingLevel L U In j c
      → Run U c log last → MovingLevel L U In j last
  run_level j [] c last h a s = subst (MovingLevel L U In j) (sym s) a
  run_level j (e ∷ es) c last h a s =
      let k = after c s.0 e es h s.1 in
      run_level j es s.0 last k.stays (step_kept j c s.0 e h.1 k.allowed a s.1) s.2

  run_finished : (j d : ℕ) (log : List EntryValue) (c last : Core) → Stays In c.net log → MovingLevel L U In j c
      → Run U c log last → FiredOf L U In j d c → FiredOf L U In j d last
  run_finished j d [] c last h a s w = subst (FiredOf L U In j d) (sym s) w
  run_finished j d (e ∷ es) c last h a s w =
      let k = after c s.0 e es h s.1 in
      run_finished j d es s.0 last k.stays (step_kept j c s.0 e h.1 k.allowed a s.1) s.2
      (finished j (λ x. c.exports) c s.0 a (seen j c a) d e h.1 k.allowed s.1 w)

  run_ends : (j d : ℕ) (log : List EntryValue) (c last : Core) → Stays In c.net log → MovingLevel L U In j c
      → Run U c log last → FreshOf L U In j d c → HasEnd d log → FiredOf L U In j d last
  run_ends j d [] c last h a s w i = absurd i
  run_ends j d (e ∷ es) c last h a s w (inl i) =
      let k = after c s.0 e es h s.1 in
      run_finished j d es s.0 last k.stays (step_kept j c s.0 e h.1 k.allowed a s.1) s.2
      (ends j (λ x. c.exports) c s.0 a (seen j c a) d (subst (λ x. Step U c x s.0) i s.1) w)
  run_ends j d (e ∷ es) c last h a s w (inr i) =
      let k = after c s.0 e es h s.1 in
      run_ends j d es s.0 last k.stays (step_kept j c s.0 e h.1 k.allowed a s.1) s.2
      (fresh j (λ x. c.exports) c s.0 a (seen j c a) d e s.1 w) i

  run_fires : (j d : ℕ) (log : List EntryValue) (c last : Core) → Stays In c.net log → MovingLevel L U In j c
      → Run U c log last → HasFiring d log → FiredOf L U In j d last
  run_fires j d [] c last h a s i = absurd i
  run_fires j d (e ∷ es) c last h a s (inl i) =
      let k = after c s.0 e es h s.1 in
      run_ends j d es s.0 last k.stays (step_kept j c s.0 e h.1 k.allowed a s.1) s.2
      (begins j (λ x. c.exports) c s.0 a (seen j c a) d (subst (λ x. Step U c x s.0) i.0 s.1)) i.1
  run_fires j d (e ∷ es) c last h a s (inr i) =
      let k = after c s.0 e es h s.1 in
      run_fires j d es s.0 last k.stays (step_kept j c s.0 e h.1 k.allowed a s.1) s.2 i

  run_away : (j d : ℕ) (log : List EntryValue) (c last : Core) → Stays In c.net log → MovingLevel L U In j c
      → Run U c log last → IsAway d c.net log → FiredOf L U In j d last
  run_away j d [] c last h a s g = subst (FiredOf L U In j d) (sym s) (gone j d c a g)
  run_away j d (e ∷ es) c last h a s (inl g) = run_finished j d (e ∷ es) c last h a s (gone j d c a g)
  run_away j d (e ∷ es) c last h a s (inr g) =
      let k = after c s.0 e es h s.1 in
      run_away j d es s.0 last k.stays (step_kept j c s.0 e h.1 k.allowed a s.1) s.2
      (subst (λ n. IsAway d n es) (sym (step_nets U (λ x. c.exports) c s.0 e s.1)) g)

  -- one covering part
  run_device : (j d : ℕ) (part : List EntryValue) (c last : Core) → Stays In c.net part → MovingLevel L U In j c
      → Run U c part last → CoversThere c.net part → FiredOf L U In j d last
  run_device j d part c last h a s v = by_cases (there_or_away d c.net part)
    where
      by_cases : IsThere d c.net part ⊎ IsAway d c.net part → FiredOf L U In j d last
      by_cases (inl t) = run_fires j d part c last h a s (v d t)
      by_cases (inr g) = run_away j d part c last h a s g

  run_part : (j : ℕ) (part : List EntryValue) (c last : Core) → Stays In c.net part → MovingLevel L U In j c
      → Run U c part last → CoversThere c.net part → MovingLevel L U In (suc j) last
  run_part j part c last h a s v =
      let k = run_level j part c last h a s in
      record {
        allowed = k.allowed;
        good = k.good;
        exports = λ d. (run_device j d part c last h a s v).0;
        copies = λ d. (run_device j d part c last h a s v).1;
      }

  run_rounds : (k j : ℕ) (log : List EntryValue) (c last : Core) → Stays In c.net log → MovingLevel L U In j c
      → Run U c log last → HasRoundsThere c.net log k → MovingLevel L U In (j + k) last
  run_rounds zero j log c last h a s v =
      let z : j ≡ j + 0 = omega arith in
      subst (λ (i : ℕ). MovingLevel L U In i last) z (run_level j log c last h a s)
  run_rounds (suc k) j log c last h a s v =
      let s' : Run U c (v.0 ++ v.1) last = subst (λ (xs : List EntryValue). Run U c xs last) v.2 s in
      let h' = stays_cut In c.net v.0 v.1 (subst (Stays In c.net) v.2 h) in
      let m = (cuts U c last v.0 v.1).0 s' in
      let q = run_nets U c m.0 v.0 m.1 in
      let z : suc j + k ≡ j + suc k = omega arith in
      subst (λ (i : ℕ). MovingLevel L U In i last) z
      (run_rounds k (suc j) v.1 m.0 last (subst (λ n. Stays In n v.1) (sym q) h'.1)
      (run_part j v.0 c m.0 h'.0 a m.1 v.3) m.2 (subst (λ n. HasRoundsThere n v.1 k) (sym q) v.4))

  -- so many rounds
  pub moves_by_rounds : MovesByRounds L U In
  moves_by_rounds j k log c last a s h v = run_rounds k j log c last h a s v
