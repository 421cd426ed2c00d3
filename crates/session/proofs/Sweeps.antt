-- From each good core there is a stretch of so many rounds: flights are ended, and then each device fires in turn.
use Rattle.std.proofs.Common.{ℕ, zero, suc, ◌≡◌, ◌+◌, Bool, true, false, nat_eq, ◌||◌, List, [], ◌∷◌, ◌++◌, refl, sym, ap, subst, ◌∙◌, inl, inr, arith, Option, Some, None, if◌then◌else◌}
use Rattle.std.proofs.lemmas.Bool.{eqb-true}
use Rattle.fc_values.proofs.Booleans.{or_true}
use Rattle.fc_values.proofs.Rising.{rises_tail, rises_apart}
use Rattle.fc_values.specs.Fields.{Rises, is_in}
use Rattle.fc_values.specs.Trees.{Copy}
use Rattle.fc_nodes.specs.Program.{Program, Unfolding, unfolding_of, IsProgram}
use Rattle.topology.specs.Networks.{Network, Lives, lives, numbers}
use Rattle.firing_core.specs.Entries.{EntryValue, BeginEntry, EndEntry}
use Rattle.firing_core.specs.Cores.{Core, Ends, Run, IsGood, begun, copy_of}
use Rattle.firing_core.specs.Replays.{begin_fault, end_fault}
use Rattle.firing_core.specs.Rounds.{has_edit, HasFiring, HasRounds}
use Rattle.firing_core.specs.Laws.{FaultlessStep, StepsKeepGood, RunsCut}
use Rattle.firing_core.specs.Stretches.{begins, is_begin, NoneFlies, RunStretch}
use Rattle.round_count.specs.Laws.{RoundsFollow}
use Rattle.session.proofs.Pokes.{is_itself}
use Rattle.round_count.proofs.EditsInLogs.{plain_both}

-- a run without an edit, to a good core
pub record Goes (U : Unfolding) (c : Core) (log : List EntryValue) (last : Core) : Type 0 where
  pub run : Run U c log last
  pub good : IsGood U last
  pub net : last.net ≡ c.net
  pub plain : has_edit log ≡ false

pub goes_none : (U : Unfolding) (c : Core) → IsGood U c → Goes U c [] c
goes_none U c g = record { run = refl; good = g; net = refl; plain = refl }

pub goes_both : RunsCut → (U : Unfolding) (a b c : Core) (xs ys : List EntryValue) → Goes U a xs b → Goes U b ys c → Goes U a (xs ++ ys) c
goes_both cut U a b c xs ys g h = record {
  run = (cut U a c xs ys).1 (b, g.run, h.run);
  good = h.good;
  net = h.net ∙ g.net;
  plain = plain_both xs ys g.plain h.plain;
}

-- ---- how many firings are begun

pub begins_both : (d : ℕ) (xs ys : List EntryValue) → begins d (xs ++ ys) ≡ begins d xs + begins d ys
begins_both d [] ys = omega arith
begins_both d (x ∷ xs) ys = by_test (is_begin d x) (begins_both d xs ys)
  where
    by_test : (b : Bool) → begins d (xs ++ ys) ≡ begins d xs + begins d ys
        → (if b then begins d (xs ++ ys) + 1 else begins d (xs ++ ys)) ≡ (if b then begins d xs + 1 else begins d xs) + begins d ys
    by_test true e = omega arith
    by_test false e = e

-- each of some devices fires in turn, and so for some rounds
abbrev pub sweep : List ℕ → List EntryValue
sweep [] = []
sweep (d ∷ ds) = BeginEntry d ∷ EndEntry d ∷ sweep ds

abbrev pub sweeps : ℕ → List ℕ → List EntryValue
sweeps zero ds = []
sweeps (suc k) ds = sweep ds ++ sweeps k ds

pub sweep_plain : (ds : List ℕ) → has_edit (sweep ds) ≡ false
sweep_plain [] = refl
sweep_plain (d ∷ ds) = sweep_plain ds

-- the order of two numbers doesn't matter
pub swapped : (d e : ℕ) → nat_eq d e ≡ false → nat_eq e d ≡ false
swapped d e t = by_back (nat_eq e d) refl
  where
    by_back : (b : Bool) → nat_eq e d ≡ b → nat_eq e d ≡ false
    by_back false u = u
    by_back true u = let k : nat_eq d e ≡ true = rw (eqb-true e d u) (is_itself d) in absurd cc

pub sweep_out : (d : ℕ) (ds : List ℕ) → is_in d ds ≡ false → begins d (sweep ds) ≡ 0
sweep_out d [] h = refl
sweep_out d (e ∷ es) h = by_test (nat_eq d e) refl h (sweep_out d es)
  where
    by_test : (b : Bool) → nat_eq d e ≡ b → (b || is_in d es) ≡ false → (is_in d es ≡ false → begins d (sweep es) ≡ 0) → begins d (sweep (e ∷ es)) ≡ 0
    by_test true t q ih = absurd cc
    by_test false t q ih = rw (swapped d e t) (ih q)

pub sweep_in : (d : ℕ) (ds : List ℕ) → Rises ds → is_in d ds ≡ true → begins d (sweep ds) ≡ 1
sweep_in d [] r h = absurd cc
sweep_in d (e ∷ es) r h = by_test (nat_eq d e) refl h (sweep_in d es (rises_tail e es r))
  where
    by_test : (b : Bool) → nat_eq d e ≡ b → (b || is_in d es) ≡ true → (is_in d es ≡ true → begins d (sweep es) ≡ 1) → begins d (sweep (e ∷ es)) ≡ 1
    by_test true t q ih =
        let k = eqb-true d e t in
        let none = sweep_out e es (rises_apart e es r) in
        let one : begins e (sweep es) + 1 ≡ 1 = omega (arith, none) in
        subst (λ x. begins x (sweep (e ∷ es)) ≡ 1) (sym k) (rw (is_itself e) one)
    by_test false t q ih = rw (swapped d e t) (ih q)

-- ---- each of some devices fires

pub sweep_fires : (d : ℕ) (ds : List ℕ) → is_in d ds ≡ true → HasFiring d (sweep ds)
sweep_fires d [] h = absurd cc
sweep_fires d (e ∷ es) h = by_test (nat_eq d e) refl h (sweep_fires d es)
  where
    by_test : (b : Bool) → nat_eq d e ≡ b → (b || is_in d es) ≡ true → (is_in d es ≡ true → HasFiring d (sweep es)) → HasFiring d (sweep (e ∷ es))
    by_test true t q ih =
        let k = sym (eqb-true d e t) in
        inl (ap BeginEntry k, inl (ap EndEntry k))
    by_test false t q ih = inr (inr (ih q))

pub sweeps_cover : (k : ℕ) (ds : List ℕ) → HasRounds ds (sweeps k ds) k
sweeps_cover zero ds = refl
sweeps_cover (suc k) ds = (sweep ds, sweeps k ds, refl, record { plain = sweep_plain ds; fires = λ d h. sweep_fires d ds h }, sweeps_cover k ds)

pub sweeps_begin : (k d : ℕ) (ds : List ℕ) → Rises ds → is_in d ds ≡ true → begins d (sweeps k ds) ≡ k
sweeps_begin zero d ds r h = refl
sweeps_begin (suc k) d ds r h =
    let one = sweep_in d ds r h in
    let ih = sweeps_begin k d ds r h in
    begins_both d (sweep ds) (sweeps k ds) ∙ omega arith

-- ---- runs

module _ (step : FaultlessStep) (keep : StepsKeepGood) (cut : RunsCut) (P : Program) (p : IsProgram P) where
  -- what a device that begins a firing leaves
  pub record Begins (c : Core) (d : ℕ) : Type 0 where
    pub copy : Copy
    pub next : Core
    pub goes : Goes (unfolding_of P) c (BeginEntry d ∷ []) next
    pub flying : (e : ℕ) → next.flying e ≡ (if nat_eq e d then Some copy else c.flying e)

  pub begins_one : (c : Core) (d : ℕ) → IsGood (unfolding_of P) c → Lives c.net d → c.flying d ≡ None → Begins c d
  begins_one c d g live none =
      let b = (step P c (BeginEntry d) p g tt).0 (ap (λ l. begin_fault l (c.flying d)) live ∙ ap (begin_fault true) none, refl) in
      let m : Core = b.0 in
      let is : m ≡ begun c.exports c d = b.1.2 in
      record {
        copy = copy_of c.net c.exports d;
        next = m;
        goes = record { run = (m, b.1, refl); good = keep P c m (BeginEntry d) p g b.1; net = ap (λ (k : Core). k.net) is; plain = refl };
        flying = λ e. ap (λ (k : Core). k.flying e) is;
      }

  -- what the end of a device's firing leaves
  pub record EndsOne (c : Core) (d : ℕ) : Type 0 where
    pub next : Core
    pub goes : Goes (unfolding_of P) c (EndEntry d ∷ []) next
    pub flying : (e : ℕ) → next.flying e ≡ (if nat_eq e d then None else c.flying e)

  pub ends_one : (c : Core) (d : ℕ) (copy : Copy) → IsGood (unfolding_of P) c → c.flying d ≡ Some copy → EndsOne c d
  ends_one c d copy g flies =
      let live = (g.flying d copy flies).there in
      let f = (step P c (EndEntry d) p g tt).0 (ap (λ l. end_fault l (c.flying d)) live ∙ ap (end_fault true) flies, refl) in
      let m : Core = f.0 in
      let ends : Ends (unfolding_of P) c d m = f.1 in
      record {
        next = m;
        goes = record { run = (m, f.1, refl); good = keep P c m (EndEntry d) p g f.1; net = ap (λ (k : Core). k.net) ends.after; plain = refl };
        flying = λ e. ap (λ (k : Core). k.flying e) ends.after;
      }

  -- a device fires
  pub fires : (c : Core) (d : ℕ) → IsGood (unfolding_of P) c → Lives c.net d → c.flying d ≡ None
      → (last : Core) × Goes (unfolding_of P) c (BeginEntry d ∷ EndEntry d ∷ []) last × ((e : ℕ) → last.flying e ≡ c.flying e)
  fires c d g live none =
      let b = begins_one c d g live none in
      let m : Core = b.next in
      let flies : m.flying d ≡ Some b.copy = b.flying d ∙ ap (λ t. if t then Some b.copy else c.flying d) (is_itself d) in
      let f = ends_one m d b.copy b.goes.good flies in (
        f.next,
        goes_both cut (unfolding_of P) c m f.next (BeginEntry d ∷ []) (EndEntry d ∷ []) b.goes f.goes,
        λ e. f.flying e ∙ stays m e b.copy (b.flying e),
      )
    where
      stays : (m : Core) (e : ℕ) (copy : Copy) → m.flying e ≡ (if nat_eq e d then Some copy else c.flying e) → (if nat_eq e d then None else m.flying e) ≡ c.flying e
      stays m e copy = by_test (nat_eq e d) refl
        where
          by_test : (b : Bool) → nat_eq e d ≡ b → m.flying e ≡ (if b then Some copy else c.flying e) → (if b then None else m.flying e) ≡ c.flying e
          by_test true t q = sym (ap c.flying (eqb-true e d t) ∙ none)
          by_test false t q = q

  -- each of some devices that are there fires in turn
  pub fire_all : (ds : List ℕ) (c : Core) → IsGood (unfolding_of P) c → ((d : ℕ) → is_in d ds ≡ true → Lives c.net d) → ((d : ℕ) → is_in d ds ≡ true → c.flying d ≡ None)
      → (last : Core) × Goes (unfolding_of P) c (sweep ds) last × ((e : ℕ) → last.flying e ≡ c.flying e)
  fire_all [] c g live none = (c, goes_none (unfolding_of P) c g, λ e. refl)
  fire_all (d ∷ ds) c g live none =
      let here : is_in d (d ∷ ds) ≡ true = ap (λ b. b || is_in d ds) (is_itself d) in
      let f = fires c d g (live d here) (none d here) in
      let m : Core = f.0 in
      let k = fire_all ds m f.1.good
      (λ e h. ap (λ (n : Network). lives n e) f.1.net ∙ live e (or_true (nat_eq e d) (is_in e ds) h))
      (λ e h. f.2 e ∙ none e (or_true (nat_eq e d) (is_in e ds) h)) in (
        k.0,
        goes_both cut (unfolding_of P) c m k.0 (BeginEntry d ∷ EndEntry d ∷ []) (sweep ds) f.1 k.1,
        λ e. k.2 e ∙ f.2 e,
      )

  -- and so for some rounds
  pub fire_rounds : (k : ℕ) (ds : List ℕ) (c : Core) → IsGood (unfolding_of P) c → ((d : ℕ) → is_in d ds ≡ true → Lives c.net d) → NoneFlies c
      → (last : Core) × Goes (unfolding_of P) c (sweeps k ds) last × NoneFlies last
  fire_rounds zero ds c g live none = (c, goes_none (unfolding_of P) c g, none)
  fire_rounds (suc k) ds c g live none =
      let f = fire_all ds c g live (λ d h. none d) in
      let m : Core = f.0 in
      let r = fire_rounds k ds m f.1.good (λ e h. ap (λ (n : Network). lives n e) f.1.net ∙ live e h) (λ d. f.2 d ∙ none d) in
      (r.0, goes_both cut (unfolding_of P) c m r.0 (sweep ds) (sweeps k ds) f.1 r.1, r.2)

  -- flights of some devices that are ended
  pub record Settles (c : Core) (ds : List ℕ) : Type 0 where
    pub log : List EntryValue
    pub last : Core
    pub goes : Goes (unfolding_of P) c log last
    pub begun : (d : ℕ) → begins d log ≡ 0
    pub rests : (d : ℕ) → is_in d ds ≡ true → last.flying d ≡ None
    pub keeps : (d : ℕ) → c.flying d ≡ None → last.flying d ≡ None

  settle : (ds : List ℕ) (c : Core) → IsGood (unfolding_of P) c → Settles c ds
  settle [] c g = record { log = []; last = c; goes = goes_none (unfolding_of P) c g; begun = λ d. refl; rests = λ d h. absurd cc; keeps = λ d h. h }
  settle (d ∷ ds) c g = by_flight (c.flying d) refl (settle ds)
    where
      at_rest : (s : Core) → s.flying d ≡ None → ((e : ℕ) → is_in e ds ≡ true → s.flying e ≡ None) → (e : ℕ) → (b : Bool) → nat_eq e d ≡ b → (b || is_in e ds) ≡ true → s.flying e ≡ None
      at_rest s n r e true t q = ap s.flying (eqb-true e d t) ∙ n
      at_rest s n r e false t q = r e q

      by_flight : (o : Option Copy) → c.flying d ≡ o → ((k : Core) → IsGood (unfolding_of P) k → Settles k ds) → Settles c (d ∷ ds)
      by_flight None n ih =
          let s = ih c g in
          record {
            log = s.log;
            last = s.last;
            goes = s.goes;
            begun = s.begun;
            rests = λ e h. at_rest s.last (s.keeps d n) s.rests e (nat_eq e d) refl h;
            keeps = s.keeps;
          }
      by_flight (Some copy) n ih =
          let f = ends_one c d copy g n in
          let s = ih f.next f.goes.good in
          record {
            log = EndEntry d ∷ s.log;
            last = s.last;
            goes = goes_both cut (unfolding_of P) c f.next s.last (EndEntry d ∷ []) s.log f.goes s.goes;
            begun = s.begun;
            rests = λ e h. at_rest s.last (s.keeps d (f.flying d ∙ ap (λ b. if b then None else c.flying d) (is_itself d))) s.rests e (nat_eq e d) refl h;
            keeps = λ e h. s.keeps e (f.flying e ∙ either (nat_eq e d) (c.flying e) h);
          }
        where
          either : (b : Bool) (o : Option Copy) → o ≡ None → (if b then None else o) ≡ None
          either true o h = refl
          either false o h = h

  -- all flights are ended
  pub settle_all : (c : Core) → IsGood (unfolding_of P) c → (s : Settles c (numbers c.net.devices)) × NoneFlies s.last
  settle_all c g =
      let s = settle (numbers c.net.devices) c g in
      (s, λ d. by_flight s d (c.flying d) refl)
    where
      by_flight : (s : Settles c (numbers c.net.devices)) (d : ℕ) (o : Option Copy) → c.flying d ≡ o → s.last.flying d ≡ None
      by_flight s d None n = s.keeps d n
      by_flight s d (Some copy) n = s.rests d (g.flying d copy n).there

  -- so many rounds
  pub run_stretch : RoundsFollow → (c : Core) (rounds : ℕ) → IsGood (unfolding_of P) c → (part : List EntryValue) × (last : Core) × RunStretch (unfolding_of P) c rounds part last
  run_stretch follow c rounds g =
      let ds : List ℕ = numbers c.net.devices in
      let a = settle_all c g in
      let s = a.0 in
      let r = fire_rounds rounds ds s.last s.goes.good (λ d h. ap (λ (n : Network). lives n d) s.goes.net ∙ h) a.1 in
      let both = goes_both cut (unfolding_of P) c s.last r.0 s.log (sweeps rounds ds) s.goes r.1 in (
        s.log ++ sweeps rounds ds,
        r.0,
        record {
          leads = both.run;
          plain = both.plain;
          begun = λ d h.
              let none = s.begun d in
              let all = sweeps_begin rounds d ds g.net.rising h in
              begins_both d s.log (sweeps rounds ds) ∙ omega arith;
          covers = follow ds s.log (sweeps rounds ds) rounds s.goes.plain (sweeps_cover rounds ds);
          rests = r.2;
        },
      )
