-- From each good core there is a stretch with an edit among firings, where the core allows the edit.
use Rattle.std.proofs.Common.{ℕ, ◌≡◌, ◌+◌, ◌≤◌, Bool, true, false, nat_eq, ◌||◌, List, [], ◌∷◌, ◌++◌, refl, sym, ap, subst, ◌∙◌, inl, inr, arith, append_assoc, not, Option, Some, None, if◌then◌else◌}
use Rattle.std.proofs.lemmas.Bool.{eqb-true}
use Rattle.fc_values.proofs.Booleans.{or_true}
use Rattle.fc_values.proofs.Rising.{rises_tail, rises_apart}
use Rattle.fc_values.specs.Fields.{Rises, is_in}
use Rattle.fc_values.specs.Trees.{Copy}
use Rattle.fc_nodes.specs.Program.{Program, Unfolding, unfolding_of, IsProgram}
use Rattle.topology.specs.Changes.{first_fault, link_fault, unlink_fault, set_fault}
use Rattle.topology.specs.declared.types.NetFault.TheVariants as net
use Rattle.topology.specs.Networks.{Network, Lives, lives, numbers}
use Rattle.firing_core.specs.Entries.{EditValue, LinkEdit, UnlinkEdit, SetEdit, PokeEdit, JoinEdit, LeaveEdit, EntryValue, BeginEntry, EndEntry, EditEntry}
use Rattle.firing_core.specs.Cores.{Core, Edits, EditFits, IsGood, edited, edit_fault}
use Rattle.firing_core.specs.Rounds.{HasEnd, HasRounds}
use Rattle.firing_core.specs.Laws.{FaultlessStep, StepsKeepGood, RunsCut}
use Rattle.firing_core.specs.Stretches.{begins, NoneFlies, IsMixed, MixStretch}
use Rattle.round_count.specs.Laws.{RoundsFollow}
use Rattle.firing_core.proofs.Mixed.{mixed_numbers}
use Rattle.session.proofs.Pokes.{is_itself}
use Rattle.session.proofs.Sweeps.{Goes, goes_both, begins_both, sweep, sweeps, sweep_plain, sweep_out, sweep_in, sweeps_begin, sweeps_cover, swapped, begins_one, ends_one, fire_all, fire_rounds, settle_all}

-- ---- numbers of devices

no_end : (d : ℕ) (ds : List ℕ) → is_in d ds ≡ false → HasEnd d (sweep ds) → ⊥
no_end d [] h e = e
no_end d (x ∷ xs) h e = by_test (nat_eq d x) refl h (no_end d xs) e
  where
    by_test : (b : Bool) → nat_eq d x ≡ b → (b || is_in d xs) ≡ false → (is_in d xs ≡ false → HasEnd d (sweep xs) → ⊥) → HasEnd d (sweep (x ∷ xs)) → ⊥
    by_test true t q ih k = absurd cc
    by_test false t q ih (inl k) = absurd cc
    by_test false t q ih (inr (inl k)) =
        let same : x ≡ d = cc in
        let u : nat_eq d x ≡ true = rw same (is_itself d) in
        absurd cc
    by_test false t q ih (inr (inr k)) = ih q k

least : (d e : ℕ) (ds : List ℕ) → Rises (d ∷ ds) → is_in e (d ∷ ds) ≡ true → d ≤ e
least d e [] r h = by_test (nat_eq e d) refl h
  where
    by_test : (b : Bool) → nat_eq e d ≡ b → (b || false) ≡ true → d ≤ e
    by_test true t q = let k = eqb-true e d t in omega arith
    by_test false t q = absurd cc
least d e (x ∷ xs) r h = by_test (nat_eq e d) refl h (least x e xs r.1)
  where
    by_test : (b : Bool) → nat_eq e d ≡ b → (b || is_in e (x ∷ xs)) ≡ true → (is_in e (x ∷ xs) ≡ true → x ≤ e) → d ≤ e
    by_test true t q ih = let k = eqb-true e d t in omega arith
    by_test false t q ih = let k = r.0 in let l = ih q in omega arith

-- ---- edits among firings

mixed_flying : (U : Unfolding) (c : Core) (e : EditValue) → IsMixed e → (edited U c e).flying ≡ c.flying
mixed_flying U c (LinkEdit a b w) m = refl
mixed_flying U c (UnlinkEdit a b) m = refl
mixed_flying U c (SetEdit d i v) m = refl
mixed_flying U c (PokeEdit d x) m = refl
mixed_flying U c (JoinEdit x) m = absurd m
mixed_flying U c (LeaveEdit d) m = absurd m

mixed_fault : (c k : Core) (e : EditValue) → IsMixed e → k.net ≡ c.net → edit_fault k e ≡ edit_fault c e
mixed_fault c k (LinkEdit a b w) m n = ap (λ (x : Network). link_fault x a b w) n
mixed_fault c k (UnlinkEdit a b) m n = ap (λ (x : Network). unlink_fault x a b) n
mixed_fault c k (SetEdit d i v) m n = ap (λ (x : Network). set_fault x d i v) n
mixed_fault c k (PokeEdit d y) m n = ap (λ (x : Network). first_fault ((not (lives x d), net.NoDevice) ∷ [])) n
mixed_fault c k (JoinEdit x) m n = absurd m
mixed_fault c k (LeaveEdit d) m n = absurd m

-- ---- the stretch

module _ (step : FaultlessStep) (keep : StepsKeepGood) (cut : RunsCut) (follow : RoundsFollow) (P : Program) (p : IsProgram P)
    (c : Core) (good : IsGood (unfolding_of P) c) (rounds : ℕ) (e : EditValue) (mixed : IsMixed e) (fits : EditFits (unfolding_of P) e)
    (allowed : edit_fault c e ≡ None) (d : ℕ) (ds : List ℕ) (are : numbers c.net.devices ≡ d ∷ ds) where
  rising : Rises (d ∷ ds)
  rising = subst Rises are good.net.rising

  apart : is_in d ds ≡ false
  apart = rises_apart d ds rising

  lives_here : (i : ℕ) → is_in i (d ∷ ds) ≡ true → Lives c.net i
  lives_here i h = ap (is_in i) are ∙ h

  begun_each : (i : ℕ) (after : List EntryValue) → is_in i (d ∷ ds) ≡ true → begins i after ≡ rounds → begins i (BeginEntry d ∷ sweep ds ++ EditEntry e ∷ after) ≡ rounds + 1
  begun_each i after h k = by_test (nat_eq i d) refl h
    where
      rest : begins i (sweep ds ++ EditEntry e ∷ after) ≡ begins i (sweep ds) + rounds
      rest = begins_both i (sweep ds) (EditEntry e ∷ after) ∙ ap (λ n. begins i (sweep ds) + n) k

      by_test : (b : Bool) → nat_eq i d ≡ b → (b || is_in i ds) ≡ true → begins i (BeginEntry d ∷ sweep ds ++ EditEntry e ∷ after) ≡ rounds + 1
      by_test true t q =
          let same = eqb-true i d t in
          let none : begins i (sweep ds) ≡ 0 = rw same (sweep_out d ds apart) in
          let other : nat_eq d i ≡ true = rw same (is_itself d) in
          let all = rest in
          rw other (omega arith)
      by_test false t q =
          let one = sweep_in i ds (rises_tail d ds rising) q in
          let other = swapped i d t in
          let all = rest in
          rw other (omega arith)

  pub mix_stretch : (part : List EntryValue) × (last : Core) × MixStretch (unfolding_of P) c rounds e part last
  mix_stretch =
      let U : Unfolding = unfolding_of P in
      let here : is_in d (d ∷ ds) ≡ true = ap (λ b. b || is_in d ds) (is_itself d) in
      let a = settle_all step keep cut P p c good in
      let s = a.0 in
      let b = begins_one step keep cut P p s.last d s.goes.good (ap (λ (n : Network). lives n d) s.goes.net ∙ lives_here d here) (a.1 d) in
      let lives_b : (i : ℕ) → is_in i (d ∷ ds) ≡ true → Lives b.next.net i =
      λ i h. ap (λ (n : Network). lives n i) (b.goes.net ∙ s.goes.net) ∙ lives_here i h in
      let q = fire_all step keep cut P p ds b.next b.goes.good (λ i h. lives_b i (or_true (nat_eq i d) (is_in i ds) h)) (λ i h. b.flying i ∙ others i b.copy s.last a.1 h) in
      let m : Core = q.0 in
      let net_m : m.net ≡ c.net = q.1.net ∙ b.goes.net ∙ s.goes.net in
      let made = (step P m (EditEntry e) p q.1.good fits).0 (refl, mixed_fault c m e mixed net_m ∙ allowed) in
      let v : Core = made.0 in
      let edits : Edits U m e v = made.1 in
      let good_v = keep P m v (EditEntry e) p q.1.good made.1 in
      let flying_v : (i : ℕ) → v.flying i ≡ (if nat_eq i d then Some b.copy else s.last.flying i) =
      λ i. ap (λ (k : Core). k.flying i) edits.after ∙ ap (λ (f : ℕ → Option Copy). f i) (mixed_flying U m e mixed) ∙ q.2 i ∙ b.flying i in
      let z = ends_one step keep cut P p v d b.copy good_v (flying_v d ∙ ap (λ t. if t then Some b.copy else s.last.flying d) (is_itself d)) in
      let numbers_v : numbers v.net.devices ≡ d ∷ ds =
      ap (λ (k : Core). numbers k.net.devices) edits.after ∙ mixed_numbers U m e mixed ∙ ap (λ (n : Network). numbers n.devices) net_m ∙ are in
      let none_z : NoneFlies z.next = λ i. z.flying i ∙ at_rest i b.copy v s.last (flying_v i) (a.1 i) in
      let r = fire_rounds step keep cut P p rounds (d ∷ ds) z.next z.goes.good (λ i h. ap (λ (n : Network). lives n i) z.goes.net ∙ ap (is_in i) numbers_v ∙ h) none_z in
      let after : List EntryValue = EndEntry d ∷ sweeps rounds (d ∷ ds) in
      let front : List EntryValue = s.log ++ BeginEntry d ∷ sweep ds in
      let first : Goes U c front m = goes_both cut U c s.last m s.log (BeginEntry d ∷ sweep ds) s.goes (goes_both cut U s.last b.next m (BeginEntry d ∷ []) (sweep ds) b.goes q.1) in
      let second : Goes U v after r.0 = goes_both cut U v z.next r.0 (EndEntry d ∷ []) (sweeps rounds (d ∷ ds)) z.goes r.1 in (
        front ++ EditEntry e ∷ after,
        r.0,
        record {
          leads = (cut U c r.0 front (EditEntry e ∷ after)).1 (m, first.run, (v, made.1, second.run));
          before = s.log;
          first = d;
          among = sweep ds;
          after = after;
          cut = refl;
          smallest = record { there = lives_here d here; least = λ i h. least d i ds rising (ap (is_in i) (sym are) ∙ h) };
          none_before = s.begun;
          flies = no_end d ds apart;
          plain_before = s.goes.plain;
          plain_among = sweep_plain ds;
          plain_after = second.plain;
          begun = λ i h. all_begun i s.log after (s.begun i) (ap (is_in i) (sym are) ∙ h) (sweeps_begin rounds i (d ∷ ds) rising (ap (is_in i) (sym are) ∙ h));
          covers = subst (λ l. HasRounds l after rounds) (sym are) (follow (d ∷ ds) (EndEntry d ∷ []) (sweeps rounds (d ∷ ds)) rounds refl (sweeps_cover rounds (d ∷ ds)));
          rests = r.2;
        },
      )
    where
      others : (i : ℕ) (copy : Copy) (k : Core) → NoneFlies k → is_in i ds ≡ true → (if nat_eq i d then Some copy else k.flying i) ≡ None
      others i copy k none h = by_test (nat_eq i d) refl
        where
          by_test : (b : Bool) → nat_eq i d ≡ b → (if b then Some copy else k.flying i) ≡ None
          by_test true t =
              let same = eqb-true i d t in
              let there : is_in d ds ≡ true = rw (sym same) h in
              absurd (clash (is_in d ds) there apart)
            where
              clash : (b : Bool) → b ≡ true → b ≡ false → ⊥
              clash true x y = absurd cc
              clash false x y = absurd cc
          by_test false t = none i

      at_rest : (i : ℕ) (copy : Copy) (v k : Core) → v.flying i ≡ (if nat_eq i d then Some copy else k.flying i) → k.flying i ≡ None → (if nat_eq i d then None else v.flying i) ≡ None
      at_rest i copy v k = by_test (nat_eq i d)
        where
          by_test : (b : Bool) → v.flying i ≡ (if b then Some copy else k.flying i) → k.flying i ≡ None → (if b then None else v.flying i) ≡ None
          by_test true x y = refl
          by_test false x y = x ∙ y

      all_begun : (i : ℕ) (before after : List EntryValue) → begins i before ≡ 0 → is_in i (d ∷ ds) ≡ true → begins i after ≡ rounds
          → begins i (before ++ BeginEntry d ∷ sweep ds ++ EditEntry e ∷ after) ≡ rounds + 1
      all_begun i before after none h k =
          let there = begun_each i after h k in
          ap (begins i) (append_assoc before (BeginEntry d ∷ sweep ds) (EditEntry e ∷ after))
          ∙ begins_both i before (BeginEntry d ∷ sweep ds ++ EditEntry e ∷ after) ∙ omega arith
