-- Crates above cite this module. So many rounds over message links raise the level of a mail core so many times, and so a
-- yes stabilises over them.
use Rattle.std.proofs.Common.{◌≡◌, ◌+◌, ℕ, zero, suc, List, [], ◌∷◌, ◌++◌, length, refl, sym, ◌∙◌, ap, subst, arith, false, true, Option, Some, None, append_assoc, append-nil}
use Rattle.fc_values.specs.Trees.{TreeExport}
use Rattle.fc_nodes.specs.Program.{Program, Unfolding, unfolding_of, IsProgram}
use Rattle.topology.specs.Networks.{Network, IsNetwork, Lives}
use Rattle.firing_core.specs.Cores.{GoodExport}
use Rattle.firing_core.specs.Laws.{StepsKeepGood, CopiesFit}
use Rattle.converge_laws.specs.CoreLevels.{ExportLevel, AtLevel, Raises, LevelsOfSteps, LevelsBegin}
use Rattle.converge_laws.specs.Verdicts.{YesRaises, level_by}
use Rattle.message_links.specs.MailCores.{Reaches, Message, MailCore, MailEntryValue, MailStep, MailRun, AreOld, IsMailStart}
use Rattle.message_links.specs.MailRounds.{Posts, posts_of, posts_along, oldest_post, EndsOwnBegin, CoversMail, HasMailRounds}
use Rattle.mail_laws.specs.Laws.{LevelsOfMailRounds, YesStabilisesMail}
use Rattle.message_links.proofs.MailRuns.{step_net}
use Rattle.message_links.proofs.Posts.{SamePosts, run_cut, run_posts}
use Rattle.message_links.proofs.Firings.{flies_along, fired_along, fired_more, fired_stays, has_fired, own_flies}
use Rattle.mail_laws.proofs.MailLevels.{MailAt, HeardAt, AllAt, AllBelow, Below, step_below, Within, start_within, step_within, next_place, run_within, Renewed, brought, run_renewed, some_heard}

module _ (keeps : StepsKeepGood) (fit : CopiesFit) (P : ExportLevel) (p : Program) (N : Network) (program : IsProgram p) (net : IsNetwork N) (same : N.declared ≡ p.declared)
    (r : Raises P (unfolding_of p) N) (begins : LevelsBegin P (unfolding_of p) N) (steps : LevelsOfSteps P (unfolding_of p) N) where
  abbrev U : Unfolding
  U = unfolding_of p

  abbrev At : ℕ → MailCore → Type 0
  At j c = MailAt keeps fit P p N program net same r begins steps j c

  abbrev Under : ℕ → MailCore → Type 0
  Under at c = Below keeps fit P p N program net same r begins steps at c

  abbrev In : List MailEntryValue → ℕ → ℕ → List MailEntryValue → MailCore → Type 0
  In part at j front c = Within keeps fit P p N program net same r begins steps part at j front c

  run_below : (at : ℕ) (c last : MailCore) (es : List MailEntryValue) → c.core.net ≡ N → Under at c → MailRun U at c es last → Under (at + length es) last
  run_below at c last [] n h s = let z : at ≡ at + 0 = omega arith in subst (Under (at + 0)) (sym s) (subst (λ k. Under k c) z h)
  run_below at c last (e ∷ es) n h s =
      let z : suc at + length es ≡ at + suc (length es) = omega arith in
      subst (λ k. Under k last) z (run_below (suc at) s.0 last es (step_net U at c s.0 e s.1 ∙ n) (step_below keeps fit P p N program net same r begins steps at c s.0 e n h s.1) s.2)

  -- one covering part
  run_part : (at j : ℕ) (q : Posts) (part : List MailEntryValue) (c last : MailCore) → At j c → Under at c → SamePosts q (posts_of c) → MailRun U at c part last → CoversMail N at q part → At (suc j) last
  run_part at j q part c last h b posts run v =
      record {
        core = record {
          same = end.core.same;
          good = end.core.good;
          exports = λ d l. (end.fired d l (all_fired d l)).0;
          copies = λ d l. (end.fired d l (all_fired d l)).1;
        };
        heard = λ a b l. (renewed a b l).heard;
        transit = λ a b l. (renewed a b l).transit;
      }
    where
      start : In part at j [] c
      start = start_within keeps fit P p N program net same r begins steps part at j c h b

      at_start : MailRun U (at + 0) c part last
      at_start = let z : at ≡ at + 0 = omega arith in subst (λ n. MailRun U n c part last) z run

      end : In part at j part last
      end = run_within keeps fit P p N program net same r begins steps part at j [] part [] c last (sym (append-nil part)) start at_start

      all_fired : (d : ℕ) → Lives N d → fired_along d false false part ≡ true
      all_fired d l =
          let first = has_fired d false false v.first (v.fires d l) in
          ap (fired_along d false false) v.cut ∙ fired_more d false false v.first v.second ∙ rw first (fired_stays d (flies_along d false v.first) v.second)

      renewed : (a b : ℕ) → Reaches N a b → Renewed keeps fit P p N program net same r begins steps part at j a b last
      renewed a b l =
          let w = v.brings a b l in
          let front : List MailEntryValue = v.first ++ w.before in
          let cut : part ≡ front ++ w.entry ∷ w.after = v.cut ∙ ap (λ xs. v.first ++ xs) w.cut ∙ sym (append_assoc v.first w.before (w.entry ∷ w.after)) in
          let parts = run_cut U at c last front (w.entry ∷ w.after) (subst (λ xs. MailRun U at c xs last) cut run) in
          let z : at ≡ at + 0 = omega arith in
          let there : In part at j front parts.0 = run_within keeps fit P p N program net same r begins steps part at j [] front (w.entry ∷ w.after) c parts.0 cut start (subst (λ n. MailRun U n c front parts.0) z parts.1) in
          let step : MailStep U (at + length front) parts.0 w.entry parts.2.0 = parts.2.1 in
          let post : oldest_post (posts_of parts.0 a b) ≡ Some (at + w.index) = ap oldest_post (sym (run_posts U N at q c parts.0 front h.core.same posts parts.1 a b)) ∙ w.sent in
          let own = own_flies a part w.index (subst (λ xs. EndsOwnBegin a xs w.index) (sym v.cut) w.own) in
          let now = brought keeps fit P p N program net same r begins steps part at j front parts.0 parts.2.0 w.entry a b w.index l there step w.hears post own in
          let next = step_within keeps fit P p N program net same r begins steps part at j front w.after parts.0 parts.2.0 w.entry cut there step in
          let rest = subst (λ n. MailRun U n parts.2.0 w.after last) (next_place keeps fit P p N program net same r begins steps part at j front w.entry) parts.2.2 in
          let all : part ≡ (front ++ w.entry ∷ []) ++ (w.after ++ []) = cut ∙ sym (append_assoc front (w.entry ∷ []) w.after) ∙ ap (λ xs. (front ++ w.entry ∷ []) ++ xs) (sym (append-nil w.after)) in
          run_renewed keeps fit P p N program net same r begins steps part at j (front ++ w.entry ∷ []) w.after [] parts.2.0 last a b l all next rest now

  -- so many rounds and a rest
  pub run_rounds : (k j at : ℕ) (q : Posts) (log : List MailEntryValue) (c last : MailCore) → At j c → Under at c → SamePosts q (posts_of c) → MailRun U at c log last → HasMailRounds N at q log k → AtLevel P U N (j + k) last.core
  run_rounds zero j at q log c last h b posts run v =
      let z : j ≡ j + 0 = omega arith in
      let z' : at ≡ at + 0 = omega arith in
      let start = start_within keeps fit P p N program net same r begins steps log at j c h b in
      let end = run_within keeps fit P p N program net same r begins steps log at j [] log [] c last (sym (append-nil log)) start (subst (λ n. MailRun U n c log last) z' run) in
      subst (λ i. AtLevel P U N i last.core) z end.core
  run_rounds (suc k) j at q log c last h b posts run v =
      let parts = run_cut U at c last v.0 v.1 (subst (λ xs. MailRun U at c xs last) v.2 run) in
      let next = run_part at j q v.0 c parts.0 h b posts parts.1 v.3 in
      let z : suc j + k ≡ j + suc k = omega arith in
      subst (λ i. AtLevel P U N i last.core) z
      (run_rounds k (suc j) (at + length v.0) (posts_along N at q v.0) v.1 parts.0 last next (run_below at c parts.0 v.0 h.core.same b parts.1) (run_posts U N at q c parts.0 v.0 h.core.same posts parts.1) parts.2 v.4)

  -- a start is at level 0, and no end of the log sent what is in transit
  pub start_at : (c : MailCore) → c.core.net ≡ N → IsMailStart U c → At 0 c × Under 0 c
  start_at c n s = (
    record { core = begins c.core n s.good; heard = heard; transit = λ a b l. (messages a b (c.transit a b) (s.transit a b)).0 },
    λ a b l. (messages a b (c.transit a b) (s.transit a b)).1,
  )
    where
      heard : (a b : ℕ) → Reaches N a b → HeardAt keeps fit P p N program net same r begins steps 0 a (c.heard a b)
      heard a b l = by_export (c.heard a b) refl
        where
          by_export : (o : Option TreeExport) → c.heard a b ≡ o → HeardAt keeps fit P p N program net same r begins steps 0 a o
          by_export None q = (tt, λ e k. absurd cc)
          by_export (Some e) q =
              let g = subst (λ m. GoodExport U m a e) n (s.heard a b e q).1 in
              some_heard keeps fit P p N program net same r begins steps [] 0 0 0 a e (r.first a e g.there g.typed, g)

      messages : (a b : ℕ) (ms : List Message) → AreOld U c.core.net a b ms → AllAt keeps fit P p N program net same r begins steps 0 a ms × AllBelow keeps fit P p N program net same r begins steps 0 ms
      messages a b [] h = (tt, tt)
      messages a b (m ∷ ms) h =
          let g = subst (λ k. GoodExport U k a m.export) n h.1 in
          let rest = messages a b ms h.3 in
          (((r.first a m.export g.there g.typed, g), rest.0), ((λ q e. absurd (none_some (sym h.2 ∙ e))), rest.1))
        where
          none_some : {q : ℕ} → None ≡ Some q → ⊥
          none_some e = cc

  pub levels_of_mail : LevelsOfMailRounds P (unfolding_of p) N
  levels_of_mail k start last log s n run rounds =
      let at = start_at start n s in
      let z : 0 + k ≡ k = omega arith in
      subst (λ i. AtLevel P U N i last.core) z (run_rounds k 0 0 (posts_of start) log start last at.0 at.1 (λ a b. refl) run rounds)

pub yes_stabilises_mail : YesRaises → StepsKeepGood → CopiesFit → YesStabilisesMail
yes_stabilises_mail raises keeps fit P N k program net same h =
    let y = raises P N k program net same h in
    record {
      one = y.one;
      reached = λ start last log s n run rounds d l.
          let end = levels_of_mail keeps fit (level_by (unfolding_of P) N y.one) P N program net same y.raises y.begins y.steps k start last log s n run rounds in
          y.reached d (last.core.exports d) (end.exports d l);
    }
