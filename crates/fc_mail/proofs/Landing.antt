-- The flights of a good core can be ended, one after another, and then no device is in flight.
use Rattle.std.proofs.Common.{ℕ, ◌≡◌, List, [], ◌∷◌, refl, ap, ◌∙◌, sym, subst, Bool, true, false, ◌||◌, if◌then◌else◌, nat_eq, Option, Some, None}
use Rattle.std.specs.Prelude.{is_some}
use Rattle.std.proofs.lemmas.Bool.{eqb-true, eq-eqb}
use Rattle.fc_values.specs.Fields.{Rises, is_in}
use Rattle.fc_values.specs.Trees.{Copy}
use Rattle.fc_values.proofs.Rising.{rises_apart, rises_tail}
use Rattle.fc_nodes.specs.Program.{IsProgram, Program, unfolding_of}
use Rattle.topology.specs.Networks.{lives, numbers}
use Rattle.firing_core.specs.Entries.{EndEntry, entries_of}
use Rattle.firing_core.specs.Cores.{Map, Core, put, Step, Run, IsGood}
use Rattle.firing_core.specs.Books.{fliers, in_flight, ends_of}
use Rattle.firing_core.specs.Replays.{fault_of, end_fault}
use Rattle.firing_core.specs.Laws.{StepsKeepGood, FaultlessStep}
use Rattle.firing_core.proofs.Maps.{put_same}

module _ (free : FaultlessStep) (keeps : StepsKeepGood) (P : Program) (is : IsProgram P) where
  -- the flights of these devices are ended, and others stay
  record Down (f : Map Copy) (c : Core) (ds : List ℕ) : Type 0 where
    last : Core
    run : Run (unfolding_of P) c (entries_of (ends_of (fliers f ds))) last
    good : IsGood (unfolding_of P) last
    net : last.net ≡ c.net
    none : (d : ℕ) → is_in d ds ≡ true → last.flying d ≡ None
    out : (d : ℕ) → is_in d ds ≡ false → last.flying d ≡ c.flying d

  abbrev Same : Map Copy → Core → List ℕ → Type 0
  Same f c ds = (d : ℕ) → is_in d ds ≡ true → c.flying d ≡ f d

  one_down : (f : Map Copy) (c : Core) (d : ℕ) (ds : List ℕ) → Rises (d ∷ ds) → IsGood (unfolding_of P) c → Same f c (d ∷ ds)
      → ((k : Core) → IsGood (unfolding_of P) k → Same f k ds → Down f k ds) → Down f c (d ∷ ds)
  one_down f c d ds r g same more = by_flight (f d) refl
    where
      here : (t : Bool) → t ≡ true → (t || is_in d ds) ≡ true
      here t q = rw q refl

      later : (e : ℕ) (t : Bool) → is_in e ds ≡ true → (t || is_in e ds) ≡ true
      later x true q = refl
      later x false q = q

      mine : c.flying d ≡ f d
      mine = same d (here (nat_eq d d) (eq-eqb d d refl))

      far : is_in d ds ≡ false
      far = rises_apart d ds r

      flies : (l : Bool) (o : Option Copy) (x : Copy) → l ≡ true → o ≡ Some x → end_fault l o ≡ None
      flies l o x p q = rw (p, q) refl

      apart : (e : ℕ) → is_in e ds ≡ true → nat_eq e d ≡ false
      apart e h = by_test (nat_eq e d) refl
        where
          by_test : (t : Bool) → nat_eq e d ≡ t → t ≡ false
          by_test true q =
              let k : e ≡ d = eqb-true e d q in
              let away : is_in e ds ≡ false = subst (λ x. is_in x ds ≡ false) (sym k) far in
              absurd cc
          by_test false q = refl

      stays : f d ≡ None → Down f c ds → Down f c (d ∷ ds)
      stays q h = record {
        last = h.last;
        run = subst (λ es. Run (unfolding_of P) c (entries_of (ends_of es)) h.last) (sym (list (f d) q)) h.run;
        good = h.good;
        net = h.net;
        none = λ e i. none_at e (nat_eq e d) refl i;
        out = λ e i. h.out e (not_later e (nat_eq e d) i);
      }
        where
          list : (o : Option Copy) → o ≡ None → (if is_some o then d ∷ fliers f ds else fliers f ds) ≡ fliers f ds
          list o e = rw e refl

          not_later : (e : ℕ) (t : Bool) → (t || is_in e ds) ≡ false → is_in e ds ≡ false
          not_later x true i = absurd cc
          not_later x false i = i

          none_at : (e : ℕ) (t : Bool) → nat_eq e d ≡ t → (t || is_in e ds) ≡ true → h.last.flying e ≡ None
          none_at e true p i =
              let k : e ≡ d = eqb-true e d p in
              subst (λ x. h.last.flying x ≡ None) (sym k) (h.out d far ∙ mine ∙ q)
          none_at e false p i = h.none e i

      ends : (x : Copy) → f d ≡ Some x → Down f c (d ∷ ds)
      ends x q =
          let flight : c.flying d ≡ Some x = mine ∙ q in
          let faultless : fault_of c (EndEntry d) ≡ None = flies (lives c.net d) (c.flying d) x (g.flying d x flight).there flight in
          let s : (next : Core) × Step (unfolding_of P) c (EndEntry d) next = (free P c (EndEntry d) is g tt).0 (faultless, refl) in
          let good : IsGood (unfolding_of P) s.0 = keeps P c s.0 (EndEntry d) is g s.1 in
          let fly : (e : ℕ) → s.0.flying e ≡ put c.flying d None e = λ e. ap (λ (k : Core). k.flying e) s.1.after in
          let other : (e : ℕ) → nat_eq e d ≡ false → s.0.flying e ≡ c.flying e = λ e p. fly e ∙ ap (λ b. if b then None else c.flying e) p in
          let h = more s.0 good (λ e i. other e (apart e i) ∙ same e (later e (nat_eq e d) i)) in
          record {
            last = h.last;
            run = subst (λ es. Run (unfolding_of P) c (entries_of (ends_of es)) h.last) (sym (list (f d) q)) (s.0, s.1, h.run);
            good = h.good;
            net = h.net ∙ ap (λ (k : Core). k.net) s.1.after;
            none = λ e i. none_at s.0 h (fly d ∙ put_same c.flying d None) e (nat_eq e d) refl i;
            out = λ e i. out_at s.0 h other e (nat_eq e d) refl i;
          }
        where
          list : (o : Option Copy) → o ≡ Some x → (if is_some o then d ∷ fliers f ds else fliers f ds) ≡ d ∷ fliers f ds
          list o e = rw e refl

          none_at : (k : Core) (h : Down f k ds) → k.flying d ≡ None → (e : ℕ) (t : Bool) → nat_eq e d ≡ t → (t || is_in e ds) ≡ true → h.last.flying e ≡ None
          none_at k h down e true p i =
              let w : e ≡ d = eqb-true e d p in
              subst (λ y. h.last.flying y ≡ None) (sym w) (h.out d far ∙ down)
          none_at k h down e false p i = h.none e i

          out_at : (k : Core) (h : Down f k ds) → ((e : ℕ) → nat_eq e d ≡ false → k.flying e ≡ c.flying e) → (e : ℕ) (t : Bool) → nat_eq e d ≡ t → (t || is_in e ds) ≡ false → h.last.flying e ≡ c.flying e
          out_at k h other e true p i = absurd cc
          out_at k h other e false p i = h.out e i ∙ other e p

      by_flight : (o : Option Copy) → f d ≡ o → Down f c (d ∷ ds)
      by_flight None q = stays q (more c g (λ e i. same e (later e (nat_eq e d) i)))
      by_flight (Some x) q = ends x q

  all_down : (f : Map Copy) (c : Core) (ds : List ℕ) → Rises ds → IsGood (unfolding_of P) c → Same f c ds → Down f c ds
  all_down f c [] r g same = record { last = c; run = refl; good = g; net = refl; none = λ d h. absurd cc; out = λ d h. refl }
  all_down f c (d ∷ ds) r g same = one_down f c d ds r g same (λ k good h. all_down f k ds (rises_tail d ds r) good h)

  -- a core in which all flights are ended
  pub record Landed (c : Core) : Type 0 where
    pub core : Core
    pub run : Run (unfolding_of P) c (entries_of (ends_of (in_flight c))) core
    pub good : IsGood (unfolding_of P) core
    pub net : core.net ≡ c.net
    pub rests : (d : ℕ) → core.flying d ≡ None

  pub landed : (c : Core) → IsGood (unfolding_of P) c → Landed c
  landed c g =
      let h = all_down c.flying c (numbers c.net.devices) g.net.rising g (λ d i. refl) in
      record { core = h.last; run = h.run; good = h.good; net = h.net; rests = λ d. rest h d (lives c.net d) refl }
    where
      rest : (h : Down c.flying c (numbers c.net.devices)) (d : ℕ) (t : Bool) → lives c.net d ≡ t → h.last.flying d ≡ None
      rest h d true q = h.none d q
      rest h d false q = h.out d q ∙ by_flight (c.flying d) refl
        where
          by_flight : (o : Option Copy) → c.flying d ≡ o → o ≡ None
          by_flight None e = refl
          by_flight (Some x) e = let k : lives c.net d ≡ true = (g.flying d x e).there in absurd cc
