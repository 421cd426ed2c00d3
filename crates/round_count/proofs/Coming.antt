-- Why there are logs with any number of rounds: from a good core each device may end what it flies with, and then fire.
use Rattle.std.proofs.Common.{◌≡◌, ℕ, zero, suc, Bool, true, false, ◌||◌, List, [], ◌∷◌, ◌++◌, Option, Some, None, nat_eq, refl, sym, ap, ◌∙◌, subst, inl}
use Rattle.std.proofs.lemmas.Bool.{eqb-true, eq-eqb}
use Rattle.fc_values.specs.Fields.{is_in}
use Rattle.fc_values.specs.Trees.{Copy}
use Rattle.fc_nodes.specs.Program.{Program, unfolding_of, IsProgram}
use Rattle.topology.specs.Networks.{Network, Lives, lives, numbers}
use Rattle.firing_core.specs.Entries.{EntryValue, BeginEntry, EndEntry}
use Rattle.firing_core.specs.Cores.{Core, Run, Step, IsGood, begun, copy_of}
use Rattle.firing_core.specs.Laws.{StepsKeepGood, PlainRunsKeepNet, FaultlessStep, RunsCut}
use Rattle.firing_core.specs.Replays.{end_fault}
use Rattle.firing_core.specs.Rounds.{has_edit, HasFiring, HasRounds}
use Rattle.firing_core.proofs.Maps.{put_same}
use Rattle.round_count.specs.Laws.{SomeRounds, RoundsCome}
use Rattle.round_count.proofs.Logs.{plain_append, firing_before, firing_after}

no_fault : (l : Bool) (f : Option Copy) (s : Copy) → l ≡ true → f ≡ Some s → end_fault l f ≡ None
no_fault l f s p q = rw (p, q) refl

module _ (keeps : StepsKeepGood) (plain : PlainRunsKeepNet) (free : FaultlessStep) (cut : RunsCut) (P : Program) (is : IsProgram P) where
  -- a log without an edit from a good core, with the good core to which it leads
  record Leads (c : Core) (log : List EntryValue) : Type 0 where
    last : Core
    runs : Run (unfolding_of P) c log last
    quiet : has_edit log ≡ false
    good : IsGood (unfolding_of P) last
    net : last.net ≡ c.net

  nowhere : (c : Core) → IsGood (unfolding_of P) c → Leads c []
  nowhere c g = record { last = c; runs = refl; quiet = refl; good = g; net = refl }

  more : (c : Core) (xs ys : List EntryValue) (l : Leads c xs) → Leads l.last ys → Leads c (xs ++ ys)
  more c xs ys l m = record {
    last = m.last;
    runs = (cut (unfolding_of P) c m.last xs ys).1 (l.last, l.runs, m.runs);
    quiet = plain_append xs ys l.quiet m.quiet;
    good = m.good;
    net = m.net ∙ l.net;
  }

  begins : (c : Core) (d : ℕ) → IsGood (unfolding_of P) c → Lives c.net d → c.flying d ≡ None → Leads c (BeginEntry d ∷ [])
  begins c d g there rests =
      let step : Step (unfolding_of P) c (BeginEntry d) (begun c.exports c d) = (there, rests, refl) in
      record {
        last = begun c.exports c d;
        runs = (begun c.exports c d, step, refl);
        quiet = refl;
        good = keeps P c (begun c.exports c d) (BeginEntry d) is g step;
        net = refl;
      }

  -- an end leaves the device on the ground
  record Lands (c : Core) (d : ℕ) : Type 0 where
    leads : Leads c (EndEntry d ∷ [])
    rests : leads.last.flying d ≡ None

  ends : (c : Core) (d : ℕ) (s : Copy) → IsGood (unfolding_of P) c → Lives c.net d → c.flying d ≡ Some s → Lands c d
  ends c d s g there flies =
      let x : (next : Core) × Step (unfolding_of P) c (EndEntry d) next = (free P c (EndEntry d) is g tt).0 (no_fault (lives c.net d) (c.flying d) s there flies, refl) in
      record {
        leads = record {
          last = x.0;
          runs = (x.0, x.1, refl);
          quiet = refl;
          good = keeps P c x.0 (EndEntry d) is g x.1;
          net = ap (λ (k : Core). k.net) x.1.after;
        };
        rests = ap (λ (k : Core). k.flying d) x.1.after ∙ put_same c.flying d None;
      }

  -- a firing of a device on the ground, and of any device
  fires : (c : Core) (d : ℕ) → IsGood (unfolding_of P) c → Lives c.net d → c.flying d ≡ None → Leads c (BeginEntry d ∷ EndEntry d ∷ [])
  unfolding begins
  fires c d g there rests =
      let b = begins c d g there rests in
      let e = ends b.last d (copy_of c.net c.exports d) b.good there (put_same c.flying d (Some (copy_of c.net c.exports d))) in
      more c (BeginEntry d ∷ []) (EndEntry d ∷ []) b e.leads

  -- a log from a core in which each of some devices fires
  record Fired (c : Core) (ds : List ℕ) : Type 0 where
    log : List EntryValue
    leads : Leads c log
    each : (d : ℕ) → is_in d ds ≡ true → HasFiring d log

  fired : (c : Core) (d : ℕ) → IsGood (unfolding_of P) c → Lives c.net d → (log : List EntryValue) × Leads c log × HasFiring d log
  fired c d g there = by_flight (c.flying d) refl
    where
      by_flight : (o : Option Copy) → c.flying d ≡ o → (log : List EntryValue) × Leads c log × HasFiring d log
      by_flight None q = (BeginEntry d ∷ EndEntry d ∷ [], fires c d g there q, inl (refl, inl refl))
      by_flight (Some s) q =
          let e = ends c d s g there q in
          let f = fires e.leads.last d e.leads.good (subst (λ (n : Network). Lives n d) (sym e.leads.net) there) e.rests in
          ((EndEntry d ∷ []) ++ (BeginEntry d ∷ EndEntry d ∷ []), more c (EndEntry d ∷ []) (BeginEntry d ∷ EndEntry d ∷ []) e.leads f, firing_after d (EndEntry d ∷ []) (BeginEntry d ∷ EndEntry d ∷ []) (inl (refl, inl refl)))

  all_fire : (c : Core) (ds : List ℕ) → IsGood (unfolding_of P) c → ((d : ℕ) → is_in d ds ≡ true → Lives c.net d) → Fired c ds
  all_fire c [] g there = record { log = []; leads = nowhere c g; each = λ d h. absurd cc }
  all_fire c (d ∷ ds) g there =
      let one = fired c d g (there d (here (nat_eq d d) (eq-eqb d d refl))) in
      let rest = all_fire one.1.last ds one.1.good (λ e h. subst (λ (n : Network). Lives n e) (sym one.1.net) (there e (later (nat_eq e d) (is_in e ds) h))) in
      record {
        log = one.0 ++ rest.log;
        leads = more c one.0 rest.log one.1 rest.leads;
        each = λ e h. by_test e one.0 rest.log one.2 rest.each (nat_eq e d) refl h;
      }
    where
      here : (t : Bool) → t ≡ true → (t || is_in d ds) ≡ true
      here t q = rw q refl

      later : (t u : Bool) → u ≡ true → (t || u) ≡ true
      later true u q = refl
      later false u q = q

      by_test : (e : ℕ) (xs ys : List EntryValue) → HasFiring d xs → ((k : ℕ) → is_in k ds ≡ true → HasFiring k ys) → (t : Bool) → nat_eq e d ≡ t → (t || is_in e ds) ≡ true → HasFiring e (xs ++ ys)
      by_test e xs ys f h true q i = subst (λ k. HasFiring k (xs ++ ys)) (sym (eqb-true e d q)) (firing_before d xs ys f)
      by_test e xs ys f h false q i = firing_after e xs ys (h e i)

  come : (k : ℕ) (c : Core) → IsGood (unfolding_of P) c → SomeRounds (unfolding_of P) c k
  come zero c g = record { log = []; last = c; runs = refl; has = refl }
  come (suc k) c g =
      let part = all_fire c (numbers c.net.devices) g (λ d h. h) in
      let rest = come k part.leads.last part.leads.good in
      record {
        log = part.log ++ rest.log;
        last = rest.last;
        runs = (cut (unfolding_of P) c rest.last part.log rest.log).1 (part.leads.last, part.leads.runs, rest.runs);
        has = (
          part.log,
          rest.log,
          refl,
          record { plain = part.leads.quiet; fires = part.each },
          subst (λ (n : Network). HasRounds (numbers n.devices) rest.log k) part.leads.net rest.has,
        );
      }

pub rounds_come : StepsKeepGood → PlainRunsKeepNet → FaultlessStep → RunsCut → RoundsCome
rounds_come keeps plain free cut P start k is g = come keeps plain free cut P is k start g
