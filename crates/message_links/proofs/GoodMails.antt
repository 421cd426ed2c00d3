-- Crates above cite this module: mail steps keep a mail core good.
use Rattle.std.proofs.Common.{◌≡◌, ℕ, zero, suc, List, [], ◌∷◌, ◌++◌, length, refl, sym, ◌∙◌, ap, subst, Bool, true, false, ◌&&◌, if◌then◌else◌, nat_eq, Option, Some, None}
use Rattle.std.specs.Prelude.{nat_le}
use Rattle.std.proofs.lemmas.Bool.{eqb-true}
use Rattle.fc_values.specs.Trees.{TreeExport, Copy}
use Rattle.fc_nodes.specs.Program.{Program, Unfolding, unfolding_of, IsProgram}
use Rattle.topology.specs.Networks.{Network, Lives}
use Rattle.value_trees.specs.Copies.{FitsCopy}
use Rattle.firing_core.specs.Entries.{EndEntry}
use Rattle.firing_core.specs.Cores.{Core, copy_of, begun, Ends, GoodExport, GoodFlight, IsGood}
use Rattle.firing_core.specs.Laws.{StepsKeepGood, CopiesFit}
use Rattle.firing_core.proofs.Maps.{put_same}
use Rattle.message_links.specs.MailCores.{reaches, Message as MailMessage, Pairs, put_pair, MailCore, MailEntryValue, MailBegin, MailEnd, MailIdle, MailDeliver, MailAgain, MailLose, rest_of, without, pushed, posted, sees, with_core, MailEnds, Hears, Loses, MailStep, AreOld, IsMailStart}
use Rattle.message_links.specs.declared.entries.TheConstants.{MOST_IN_TRANSIT}
use Rattle.message_links.proofs.Reaching.{both_true}

abbrev pub AllGood : Unfolding → Network → ℕ → List MailMessage → Type 0
AllGood U N a [] = Unit {0}
AllGood U N a (m ∷ ms) = GoodExport U N a m.export × AllGood U N a ms

-- what is heard and what is in transit are well-typed exports of the sender
pub record IsMailGood (U : Unfolding) (c : MailCore) : Type 0 where
  pub good : IsGood U c.core
  pub heard : (a b : ℕ) (e : TreeExport) → c.heard a b ≡ Some e → GoodExport U c.core.net a e
  pub transit : (a b : ℕ) → AllGood U c.core.net a (c.transit a b)

old_good : (U : Unfolding) (N : Network) (a b : ℕ) (ms : List MailMessage) → AreOld U N a b ms → AllGood U N a ms
old_good U N a b [] h = tt
old_good U N a b (m ∷ ms) h = (h.1, old_good U N a b ms h.3)

pub start_good : (U : Unfolding) (c : MailCore) → IsMailStart U c → IsMailGood U c
start_good U c s = record {
  good = s.good;
  heard = λ a b e q. (s.heard a b e q).1;
  transit = λ a b. old_good U c.core.net a b (c.transit a b) (s.transit a b);
}

-- ---- what happens to lists of messages

good_rest : (U : Unfolding) (N : Network) (a : ℕ) (ms : List MailMessage) → AllGood U N a ms → AllGood U N a (rest_of ms)
good_rest U N a [] h = tt
good_rest U N a (m ∷ ms) h = h.1

good_without : (U : Unfolding) (N : Network) (a i : ℕ) (ms : List MailMessage) → AllGood U N a ms → AllGood U N a (without i ms)
good_without U N a i [] h = tt
good_without U N a zero (m ∷ ms) h = h.1
good_without U N a (suc i) (m ∷ ms) h = (h.0, good_without U N a i ms h.1)

good_snoc : (U : Unfolding) (N : Network) (a : ℕ) (ms : List MailMessage) (m : MailMessage) → AllGood U N a ms → GoodExport U N a m.export → AllGood U N a (ms ++ m ∷ [])
good_snoc U N a [] m h k = (k, tt)
good_snoc U N a (x ∷ ms) m h k = (h.0, good_snoc U N a ms m h.1 k)

good_pushed : (U : Unfolding) (N : Network) (a : ℕ) (ms : List MailMessage) (m : MailMessage) → AllGood U N a ms → GoodExport U N a m.export → AllGood U N a (pushed ms m)
good_pushed U N a ms m h k = by_test (nat_le MOST_IN_TRANSIT (length ms))
  where
    by_test : (b : Bool) → AllGood U N a ((if b then rest_of ms else ms) ++ m ∷ [])
    by_test true = good_snoc U N a (rest_of ms) m (good_rest U N a ms h) k
    by_test false = good_snoc U N a ms m h k

-- ---- what a write of a pair keeps

put_all : {X : Type 0} (Q : ℕ → X → Type 0) (f : Pairs X) (a b : ℕ) (x : X) → ((c d : ℕ) → Q c (f c d)) → Q a x → (c d : ℕ) → Q c (put_pair f a b x c d)
put_all {X} Q f a b x all here c d = by_test (nat_eq c a && nat_eq d b) refl
  where
    by_test : (t : Bool) → (nat_eq c a && nat_eq d b) ≡ t → Q c (if t then x else f c d)
    by_test true q = subst (λ y. Q y x) (sym (eqb-true c a (both_true (nat_eq c a) (nat_eq d b) q).0)) here
    by_test false q = all c d

pub some_is : (x y : TreeExport) → ◌≡◌ {A = Option TreeExport} (Some x) (Some y) → x ≡ y
some_is x y q = cc

module _ (U : Unfolding) (c : MailCore) (g : IsMailGood U c) where
  abbrev HeardGood : ℕ → Option TreeExport → Type 0
  HeardGood a o = (e : TreeExport) → o ≡ Some e → GoodExport U c.core.net a e

  -- the oldest message is heard
  hears_good : (a b : ℕ) (stay : MailMessage → List MailMessage → List MailMessage) (next : MailCore)
      → ((m : MailMessage) (ms : List MailMessage) → AllGood U c.core.net a (m ∷ ms) → AllGood U c.core.net a (stay m ms)) → Hears c a b stay next → IsMailGood U next
  hears_good a b stay next keeps h =
      let all : AllGood U c.core.net a (h.oldest ∷ h.later) = subst (AllGood U c.core.net a) h.there (g.transit a b) in
      subst (IsMailGood U) (sym h.after) (record {
        good = g.good;
        heard = put_all HeardGood c.heard a b (Some h.oldest.export) g.heard (λ e q. subst (GoodExport U c.core.net a) (some_is h.oldest.export e q) all.0);
        transit = put_all (AllGood U c.core.net) c.transit a b (stay h.oldest h.later) g.transit (keeps h.oldest h.later all);
      })

  loses_good : (a b i : ℕ) (next : MailCore) → Loses c a b i next → IsMailGood U next
  loses_good a b i next h = subst (IsMailGood U) (sym h.after) (record {
    good = g.good;
    heard = g.heard;
    transit = put_all (AllGood U c.core.net) c.transit a b (without i (c.transit a b)) g.transit (good_without U c.core.net a i (c.transit a b) (g.transit a b));
  })

  -- what a device sees is good, and so a copy of it fits
  seen_good : (d n : ℕ) (e : TreeExport) → sees c d n ≡ Some e → GoodExport U c.core.net n e
  seen_good d n e q = by_test (nat_eq n d) q
    where
      by_test : (t : Bool) → (if t then c.core.exports n else c.heard n d) ≡ Some e → GoodExport U c.core.net n e
      by_test true h = g.good.exports n e h
      by_test false h = g.heard n d e h

  begins_good : CopiesFit → (d : ℕ) (core : Core) → Lives c.core.net d → core ≡ begun (sees c d) c.core d → IsMailGood U (with_core c core)
  begins_good fit d core there is =
      let seeing : Core = record { net = c.core.net; exports = sees c d; flying = λ n. None } in
      let fits = fit U seeing d (record { net = g.good.net; declared = g.good.declared; exports = seen_good d; flying = λ n s q. absurd cc }) there in
      subst (λ (k : Core). IsMailGood U (with_core c k)) (sym is) (record {
        good = record {
          net = g.good.net;
          declared = g.good.declared;
          exports = g.good.exports;
          flying = λ n s q. by_test n s (nat_eq n d) refl q (λ r. g.good.flying n s r) fits;
        };
        heard = g.heard;
        transit = g.transit;
      })
    where
      by_test : (n : ℕ) (s : Copy) (t : Bool) → nat_eq n d ≡ t → (if t then Some (copy_of c.core.net (sees c d) d) else c.core.flying n) ≡ Some s
          → (c.core.flying n ≡ Some s → GoodFlight U c.core.net n s) → FitsCopy U (copy_of c.core.net (sees c d) d) → GoodFlight U c.core.net n s
      by_test n s true t q old fits =
          let e : copy_of c.core.net (sees c d) d ≡ s = cc in
          let k : d ≡ n = sym (eqb-true n d t) in
          subst (GoodFlight U c.core.net n) e (record { there = subst (Lives c.core.net) k there; names = k; fits = fits })
      by_test n s false t q old fits = old q

  ends_good : (P : Program) → IsProgram P → unfolding_of P ≡ U → StepsKeepGood → (at d : ℕ) (next : MailCore) → MailEnds U at c d next → IsMailGood U next
  ends_good P is same keeps at d next h =
      let core : IsGood U next.core = subst (λ V. IsGood V c.core → Ends V c.core d next.core → IsGood V next.core) same (λ k e. keeps P c.core next.core (EndEntry d) is k e) g.good h.ends in
      let net : next.core.net ≡ c.core.net = ap (λ (k : Core). k.net) h.ends.after in
      let out : next.core.exports d ≡ Some h.ends.export = ap (λ (k : Core). k.exports d) h.ends.after ∙ put_same c.core.exports d (Some h.ends.export) in
      let new : GoodExport U c.core.net d h.ends.export = subst (λ N. GoodExport U N d h.ends.export) net (core.exports d h.ends.export out) in
      record {
        good = core;
        heard = λ a b e q. subst (λ N. GoodExport U N a e) (sym net) (g.heard a b e (ap (λ f. f a b) (sym h.heard) ∙ q));
        transit = λ a b. subst (λ N. AllGood U N a (next.transit a b)) (sym net) (subst (λ f. AllGood U c.core.net a (f a b)) (sym h.transit) (sent a b h.ends.export new));
      }
    where
      sent : (a b : ℕ) (e : TreeExport) → GoodExport U c.core.net d e → AllGood U c.core.net a (posted c.core.net c.transit d (record { export = e; sent = Some at }) a b)
      sent a b e new = by_test (nat_eq a d && reaches c.core.net a b) refl
        where
          m : MailMessage
          m = record { export = e; sent = Some at }

          by_test : (t : Bool) → (nat_eq a d && reaches c.core.net a b) ≡ t → AllGood U c.core.net a (if t then pushed (c.transit a b) (record { export = e; sent = Some at }) else c.transit a b)
          by_test true q = good_pushed U c.core.net a (c.transit a b) (record { export = e; sent = Some at }) (g.transit a b)
              (subst (λ x. GoodExport U c.core.net x e) (sym (eqb-true a d (both_true (nat_eq a d) (reaches c.core.net a b) q).0)) new)
          by_test false q = g.transit a b

-- ---- the steps of a good mail core

module _ (P : Program) (is : IsProgram P) (keeps : StepsKeepGood) (fit : CopiesFit) where
  pub step_good : (at : ℕ) (c next : MailCore) (e : MailEntryValue) → IsMailGood (unfolding_of P) c → MailStep (unfolding_of P) at c e next → IsMailGood (unfolding_of P) next
  step_good at c next (MailBegin d) g s = subst (IsMailGood (unfolding_of P)) (sym s.2) (begins_good (unfolding_of P) c g fit d s.0 s.1.0 s.1.2)
  step_good at c next (MailEnd d) g s = ends_good (unfolding_of P) c g P is refl keeps at d next s
  step_good at c next MailIdle g s = subst (IsMailGood (unfolding_of P)) (sym s) g
  step_good at c next (MailDeliver a b) g s = hears_good (unfolding_of P) c g a b (λ m ms. ms) next (λ m ms h. h.1) s
  step_good at c next (MailAgain a b) g s = hears_good (unfolding_of P) c g a b (λ m ms. m ∷ ms) next (λ m ms h. h) s
  step_good at c next (MailLose a b i) g s = loses_good (unfolding_of P) c g a b i next s
