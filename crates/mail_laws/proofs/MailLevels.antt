-- A round over message links raises the level of a mail core by one: of its exports, of what was heard, and of what is
-- in transit. On an ordered pair messages that firings of the round sent come behind older ones.
use Rattle.std.proofs.Common.{◌≡◌, ◌⊎◌, ◌+◌, ◌<◌, ℕ, zero, suc, List, [], ◌∷◌, ◌++◌, map, length, refl, sym, ◌∙◌, ap, subst, arith, Bool, true, false, ◌&&◌, ◌||◌, if◌then◌else◌, Option, Some, None, nat_eq, inl, inr, append_assoc, append-nil}
use Rattle.std.specs.Prelude.{nat_le, take}
use Rattle.std.proofs.lemmas.Bool.{eqb-true, eq-eqb}
use Rattle.std.proofs.lemmas.List.{length-append}
use Rattle.std.proofs.Math.Seq.{take-append_seam}
use Rattle.fc_values.specs.Fields.{is_in}
use Rattle.fc_values.proofs.Booleans.{or_true}
use Rattle.fc_values.specs.Trees.{TreeExport, Copy}
use Rattle.value_trees.specs.Copies.{FitsCopy}
use Rattle.fc_nodes.specs.Program.{Program, Unfolding, unfolding_of, IsProgram}
use Rattle.topology.specs.Networks.{Network, IsNetwork, Lives, near}
use Rattle.topology.specs.Nearby.{neighbour_numbers}
use Rattle.firing_core.specs.Entries.{BeginEntry, EndEntry}
use Rattle.firing_core.specs.Cores.{Map, Core, put, near_copies, copy_of, begun, StepSeeing, Ends, GoodExport, GoodFlight, IsGood}
use Rattle.firing_core.specs.Laws.{StepsKeepGood, CopiesFit}
use Rattle.firing_core.proofs.Maps.{put_case, put_same}
use Rattle.converge_laws.specs.CoreLevels.{ExportLevel, MaybeAt, AtLevel, Raises, SeenAt, IsFresh, HasFired, StepsRaise, LevelsOfSteps, LevelsBegin}
use Rattle.message_links.specs.MailCores.{Reaches, reaches, Message, Pairs, put_pair, MailCore, MailEntryValue, MailBegin, MailEnd, MailIdle, MailDeliver, MailAgain, MailLose, rest_of, without, pushed, sees, MailStep, MailRun}
use Rattle.message_links.specs.declared.entries.TheConstants.{MOST_IN_TRANSIT}
use Rattle.message_links.specs.MailRounds.{posts_of, oldest_post}
use Rattle.message_links.proofs.Posts.{pair_case}
use Rattle.message_links.proofs.Reaching.{sender}
use Rattle.message_links.proofs.Firings.{flies_after, flies_along, fired_after, fired_along, flies_more, fired_more}

near_same : (f g : Map TreeExport) (ns : List (ℕ × ℕ)) → ((n : ℕ) → is_in n (neighbour_numbers ns) ≡ true → f n ≡ g n) → near_copies f ns ≡ near_copies g ns
near_same f g [] h = refl
near_same f g (n ∷ ns) h =
    let k : nat_eq n.0 n.0 ≡ true = eq-eqb n.0 n.0 refl in
    let e : f n.0 ≡ g n.0 = h n.0 (rw k refl) in
    let r = near_same f g ns (λ m i. h m (or_true (nat_eq m n.0) (is_in m (neighbour_numbers ns)) i)) in
    rw (e, r) refl

module _ (keeps : StepsKeepGood) (fit : CopiesFit) (P : ExportLevel) (p : Program) (N : Network) (program : IsProgram p) (net : IsNetwork N) (same : N.declared ≡ p.declared)
    (r : Raises P (unfolding_of p) N) (begins : LevelsBegin P (unfolding_of p) N) (steps : LevelsOfSteps P (unfolding_of p) N) where
  abbrev U : Unfolding
  U = unfolding_of p

  -- an export of a device at a level
  abbrev At : ℕ → ℕ → TreeExport → Type 0
  At j a e = P j a e × GoodExport U N a e

  abbrev pub HeardAt : ℕ → ℕ → Option TreeExport → Type 0
  HeardAt j a o = MaybeAt P j a o × ((e : TreeExport) → o ≡ Some e → GoodExport U N a e)

  abbrev pub AllAt : ℕ → ℕ → List Message → Type 0
  AllAt j a [] = Unit {0}
  AllAt j a (m ∷ ms) = At j a m.export × AllAt j a ms

  -- a mail core at a level
  pub record MailAt (j : ℕ) (c : MailCore) : Type 0 where
    pub core : AtLevel P U N j c.core
    pub heard : (a b : ℕ) → Reaches N a b → HeardAt j a (c.heard a b)
    pub transit : (a b : ℕ) → Reaches N a b → AllAt j a (c.transit a b)

  -- the messages in transit were sent before a position
  abbrev pub AllBelow : ℕ → List Message → Type 0
  AllBelow at [] = Unit {0}
  AllBelow at (m ∷ ms) = ((q : ℕ) → m.sent ≡ Some q → q < at) × AllBelow at ms

  abbrev pub Below : ℕ → MailCore → Type 0
  Below at c = (a b : ℕ) → Reaches N a b → AllBelow at (c.transit a b)

  -- ---- lists of messages

  rest_at : (j a : ℕ) (ms : List Message) → AllAt j a ms → AllAt j a (rest_of ms)
  rest_at j a [] h = tt
  rest_at j a (m ∷ ms) h = h.1

  without_at : (j a i : ℕ) (ms : List Message) → AllAt j a ms → AllAt j a (without i ms)
  without_at j a i [] h = tt
  without_at j a zero (m ∷ ms) h = h.1
  without_at j a (suc i) (m ∷ ms) h = (h.0, without_at j a i ms h.1)

  more_at : (j a : ℕ) (ms : List Message) (m : Message) → AllAt j a ms → At j a m.export → AllAt j a (ms ++ m ∷ [])
  more_at j a [] m h k = (k, tt)
  more_at j a (x ∷ ms) m h k = (h.0, more_at j a ms m h.1 k)

  pushed_at : (j a : ℕ) (ms : List Message) (m : Message) → AllAt j a ms → At j a m.export → AllAt j a (pushed ms m)
  pushed_at j a ms m h k = by_test (nat_le MOST_IN_TRANSIT (length ms))
    where
      by_test : (t : Bool) → AllAt j a ((if t then rest_of ms else ms) ++ m ∷ [])
      by_test true = more_at j a (rest_of ms) m (rest_at j a ms h) k
      by_test false = more_at j a ms m h k

  rest_below : (at : ℕ) (ms : List Message) → AllBelow at ms → AllBelow at (rest_of ms)
  rest_below at [] h = tt
  rest_below at (m ∷ ms) h = h.1

  without_below : (at i : ℕ) (ms : List Message) → AllBelow at ms → AllBelow at (without i ms)
  without_below at i [] h = tt
  without_below at zero (m ∷ ms) h = h.1
  without_below at (suc i) (m ∷ ms) h = (h.0, without_below at i ms h.1)

  later_below : (at : ℕ) (ms : List Message) → AllBelow at ms → AllBelow (suc at) ms
  later_below at [] h = tt
  later_below at (m ∷ ms) h = ((λ q e. let k = h.0 q e in omega (arith, k)), later_below at ms h.1)

  more_below : (at : ℕ) (ms : List Message) (m : Message) → AllBelow (suc at) ms → m.sent ≡ Some at → AllBelow (suc at) (ms ++ m ∷ [])
  more_below at [] m h e = ((λ q k. let z : at ≡ q = cc in omega (arith, z)), tt)
  more_below at (x ∷ ms) m h e = (h.0, more_below at ms m h.1 e)

  pushed_below : (at : ℕ) (ms : List Message) (m : Message) → AllBelow (suc at) ms → m.sent ≡ Some at → AllBelow (suc at) (pushed ms m)
  pushed_below at ms m h e = by_test (nat_le MOST_IN_TRANSIT (length ms))
    where
      by_test : (t : Bool) → AllBelow (suc at) ((if t then rest_of ms else ms) ++ m ∷ [])
      by_test true = more_below at (rest_of ms) m (rest_below (suc at) ms h) e
      by_test false = more_below at ms m h e

  pub step_below : (at : ℕ) (c next : MailCore) (e : MailEntryValue) → c.core.net ≡ N → Below at c → MailStep U at c e next → Below (suc at) next
  step_below at c next (MailBegin d) n h s a b l = subst (λ (x : MailCore). AllBelow (suc at) (x.transit a b)) (sym s.2) (later_below at (c.transit a b) (h a b l))
  step_below at c next (MailEnd d) n h s a b l = subst (λ f. AllBelow (suc at) (f a b)) (sym s.transit) (by_test (nat_eq a d && reaches c.core.net a b))
    where
      m : Message
      m = record { export = s.ends.export; sent = Some at }

      by_test : (t : Bool) → AllBelow (suc at) (if t then pushed (c.transit a b) m else c.transit a b)
      by_test true = pushed_below at (c.transit a b) m (later_below at (c.transit a b) (h a b l)) refl
      by_test false = later_below at (c.transit a b) (h a b l)
  step_below at c next MailIdle n h s a b l = subst (λ (x : MailCore). AllBelow (suc at) (x.transit a b)) (sym s) (later_below at (c.transit a b) (h a b l))
  step_below at c next (MailDeliver x y) n h s a b l = subst (λ (z : MailCore). AllBelow (suc at) (z.transit a b)) (sym s.after)
      (pair_case (AllBelow (suc at)) c.transit x y s.later a b (λ p q. (later_below at (s.oldest ∷ s.later) (subst (AllBelow at) s.there (subst (λ z. AllBelow at (c.transit z y)) p (subst (λ z. AllBelow at (c.transit a z)) q (h a b l))))).1) (later_below at (c.transit a b) (h a b l)))
  step_below at c next (MailAgain x y) n h s a b l = subst (λ (z : MailCore). AllBelow (suc at) (z.transit a b)) (sym s.after)
      (pair_case (AllBelow (suc at)) c.transit x y (s.oldest ∷ s.later) a b (λ p q. later_below at (s.oldest ∷ s.later) (subst (AllBelow at) s.there (subst (λ z. AllBelow at (c.transit z y)) p (subst (λ z. AllBelow at (c.transit a z)) q (h a b l))))) (later_below at (c.transit a b) (h a b l)))
  step_below at c next (MailLose x y i) n h s a b l = subst (λ (z : MailCore). AllBelow (suc at) (z.transit a b)) (sym s.after)
      (pair_case (AllBelow (suc at)) c.transit x y (without i (c.transit x y)) a b (λ p q. without_below (suc at) i (c.transit x y) (later_below at (c.transit x y) (subst (λ z. AllBelow at (c.transit z y)) p (subst (λ z. AllBelow at (c.transit a z)) q (h a b l))))) (later_below at (c.transit a b) (h a b l)))

  -- ---- one step of the core

  -- the tables that devices see, at each device of the network
  seen : MailCore → ℕ → Map TreeExport
  seen c d n = if nat_eq n d then c.core.exports n else (if reaches N n d then c.heard n d else c.core.exports n)

  seen_case : (Q : Option TreeExport → Type 0) (c : MailCore) (d n : ℕ) → Q (c.core.exports n) → (Reaches N n d → Q (c.heard n d)) → Q (seen c d n)
  unfolding seen
  seen_case Q c d n own heard = by_test (nat_eq n d) (reaches N n d) refl
    where
      by_test : (s t : Bool) → reaches N n d ≡ t → Q (if s then c.core.exports n else (if t then c.heard n d else c.core.exports n))
      by_test true t q = own
      by_test false true q = heard q
      by_test false false q = own

  -- what makes tables good
  pub record Heard (j : ℕ) (c : MailCore) : Type 0 where
    pub core : AtLevel P U N j c.core
    pub heard : (a b : ℕ) → Reaches N a b → HeardAt j a (c.heard a b)

  good_export : (c : Core) → c.net ≡ N → IsGood U c → (d : ℕ) (e : TreeExport) → c.exports d ≡ Some e → GoodExport U N d e
  good_export c n g d e q = subst (λ k. GoodExport U k d e) n (g.exports d e q)

  seen_at : (j : ℕ) (c : MailCore) → Heard j c → SeenAt P U N j (seen c)
  seen_at j c h d = (
    (λ n e. seen_case (λ o. o ≡ Some e → GoodExport U N n e) c d n (good_export c.core h.core.same h.core.good n e) (λ l. (h.heard n d l).1 e)),
    (λ n l. seen_case (MaybeAt P j n) c d n (h.core.exports n l) (λ k. (h.heard n d k).0)),
  )

  seen_copy : (j : ℕ) (c : MailCore) → Heard j c → (d : ℕ) → copy_of c.core.net (sees c d) d ≡ copy_of N (seen c d) d
  unfolding seen
  seen_copy j c h d =
      let n = h.core.same in
      let k : nat_eq d d ≡ true = eq-eqb d d refl in
      let own : sees c d d ≡ seen c d d = rw k refl in
      let around : near_copies (sees c d) (near N d) ≡ near_copies (seen c d) (near N d) = near_same (sees c d) (seen c d) (near N d) (λ m i. by_test m i) in
      rw (n, own, around) refl
    where
      by_test : (m : ℕ) → reaches N m d ≡ true → sees c d m ≡ seen c d m
      by_test m i = rw i refl

  good_begun : (j : ℕ) (c : MailCore) → Heard j c → (d : ℕ) → Lives N d → IsGood U (begun (seen c d) c.core d)
  good_begun j c h d l =
      let g = h.core.good in
      let t = (seen_at j c h d).0 in
      let fits = fit U (record { net = N; exports = seen c d; flying = λ e. None }) d (record { net = net; declared = same; exports = t; flying = λ e s q. absurd cc }) l in
      record {
        net = g.net;
        declared = g.declared;
        exports = g.exports;
        flying = λ e s q. put_case (λ o. o ≡ Some s → GoodFlight U c.core.net e s) c.core.flying d e (Some (copy_of c.core.net (seen c d) d))
            (λ i k. record {
              there = subst (λ n. Lives n e) (sym h.core.same) (subst (Lives N) (sym i) l);
              names = ap (λ (x : Copy). x.device) (sym (some_is k)) ∙ sym i;
              fits = subst (FitsCopy U) (ap (λ n. copy_of n (seen c d) d) (sym h.core.same) ∙ some_is k) fits;
            }) (g.flying e s) q;
      }
    where
      some_is : {x y : Copy} → Some x ≡ Some y → x ≡ y
      some_is k = cc

  begun_same : (j : ℕ) (c : MailCore) → Heard j c → (d : ℕ) → begun (sees c d) c.core d ≡ begun (seen c d) c.core d
  begun_same j c h d = ap (λ z. record { net = c.core.net; exports = c.core.exports; flying = put c.core.flying d (Some z) })
      (seen_copy j c h d ∙ ap (λ n. copy_of n (seen c d) d) (sym h.core.same))

  step_of : (j : ℕ) (c : MailCore) (next : Core) → Heard j c → StepsRaise P U N j (seen c) c.core next
  step_of j c next h = steps j (seen c) c.core next h.core (seen_at j c h)

  begins_seen : (j : ℕ) (c : MailCore) (core : Core) → Heard j c → (d : ℕ) → StepSeeing U (sees c) c.core (BeginEntry d) core → StepSeeing U (seen c) c.core (BeginEntry d) core
  begins_seen j c core h d s = (s.0, s.1, s.2 ∙ begun_same j c h d)

  good_begin : (j : ℕ) (c : MailCore) (core : Core) → Heard j c → (d : ℕ) → StepSeeing U (sees c) c.core (BeginEntry d) core → IsGood U core
  good_begin j c core h d s = subst (IsGood U) (sym (s.2 ∙ begun_same j c h d)) (good_begun j c h d (subst (λ n. Lives n d) h.core.same s.0))

  ender : (j : ℕ) (c : MailCore) (next : Core) → Heard j c → (d : ℕ) → Ends U c.core d next → Lives N d
  ender j c next h d s = subst (λ n. Lives n d) h.core.same (h.core.good.flying d s.copy s.flies).there

  good_end : (j : ℕ) (c : MailCore) (next : Core) → Heard j c → (d : ℕ) → Ends U c.core d next → IsGood U next
  good_end j c next h d s = keeps p c.core next (EndEntry d) program h.core.good s

  published : (c : MailCore) (next : Core) (d : ℕ) → (s : Ends U c.core d next) → next.exports d ≡ Some s.export
  published c next d s = ap (λ (x : Core). x.exports d) s.after ∙ put_same c.core.exports d (Some s.export)

  -- what is published, at a level at which the table has it
  sent_at : (i : ℕ) (c : MailCore) (next : Core) → next.net ≡ N → IsGood U next → (d : ℕ) → (s : Ends U c.core d next) → MaybeAt P i d (next.exports d) → At i d s.export
  sent_at i c next n g d s h = (subst (MaybeAt P i d) (published c next d s) h, good_export next n g d s.export (published c next d s))

  -- ---- a part of the log

  module _ (whole : List MailEntryValue) (at0 j : ℕ) where
    -- a message that no firing of the part sent
    abbrev Old : ℕ → Message → Type 0
    Old a m = At j a m.export × ((i : ℕ) → m.sent ≡ Some (at0 + i) → flies_along a false (take i whole) ≡ false)

    -- messages of a sender: older ones, and behind them those that are a level up, once it has fired
    abbrev Mixed : ℕ → Type 0 → List Message → Type 0
    Mixed a F [] = Unit {0}
    Mixed a F (m ∷ ms) = (Old a m × Mixed a F ms) ⊎ (AllAt (suc j) a (m ∷ ms) × F)

    mixed_map : (F G : Type 0) (a : ℕ) (ms : List Message) → (F → G) → Mixed a F ms → Mixed a G ms
    mixed_map F G a [] f h = tt
    mixed_map F G a (m ∷ ms) f (inl h) = inl (h.0, mixed_map F G a ms f h.1)
    mixed_map F G a (m ∷ ms) f (inr h) = inr (h.0, f h.1)

    mixed_new : (F : Type 0) (a : ℕ) (ms : List Message) → F → AllAt (suc j) a ms → Mixed a F ms
    mixed_new F a [] f h = tt
    mixed_new F a (m ∷ ms) f h = inr (h, f)

    mixed_rest : (F : Type 0) (a : ℕ) (ms : List Message) → Mixed a F ms → Mixed a F (rest_of ms)
    mixed_rest F a [] h = tt
    mixed_rest F a (m ∷ ms) (inl h) = h.1
    mixed_rest F a (m ∷ ms) (inr h) = mixed_new F a ms h.1 h.0.1

    mixed_without : (F : Type 0) (a i : ℕ) (ms : List Message) → Mixed a F ms → Mixed a F (without i ms)
    mixed_without F a i [] h = tt
    mixed_without F a zero (m ∷ ms) h = mixed_rest F a (m ∷ ms) h
    mixed_without F a (suc i) (m ∷ ms) (inl h) = inl (h.0, mixed_without F a i ms h.1)
    mixed_without F a (suc i) (m ∷ ms) (inr h) = inr ((h.0.0, without_at (suc j) a i ms h.0.1), h.1)

    mixed_more : (F : Type 0) (a : ℕ) (ms : List Message) (m : Message) → Mixed a F ms → (Old a m ⊎ F) → (F → At (suc j) a m.export) → Mixed a F (ms ++ m ∷ [])
    mixed_more F a [] m h (inl o) k = inl (o, tt)
    mixed_more F a [] m h (inr f) k = inr ((k f, tt), f)
    mixed_more F a (x ∷ ms) m (inl h) o k = inl (h.0, mixed_more F a ms m h.1 o k)
    mixed_more F a (x ∷ ms) m (inr h) o k = inr ((h.0.0, more_at (suc j) a ms m h.0.1 (k h.1)), h.1)

    mixed_pushed : (F : Type 0) (a : ℕ) (ms : List Message) (m : Message) → Mixed a F ms → (Old a m ⊎ F) → (F → At (suc j) a m.export) → Mixed a F (pushed ms m)
    mixed_pushed F a ms m h o k = by_test (nat_le MOST_IN_TRANSIT (length ms))
      where
        by_test : (t : Bool) → Mixed a F ((if t then rest_of ms else ms) ++ m ∷ [])
        by_test true = mixed_more F a (rest_of ms) m (mixed_rest F a ms h) o k
        by_test false = mixed_more F a ms m h o k

    mixed_old : (F : Type 0) (a : ℕ) (ms : List Message) → AllAt j a ms → AllBelow at0 ms → Mixed a F ms
    mixed_old F a [] h b = tt
    mixed_old F a (m ∷ ms) h b = inl ((h.0, (λ i e. let k = b.0 (at0 + i) e in absurd (omega (arith, k)))), mixed_old F a ms h.1 b.1)

    lower : (a : ℕ) (e : TreeExport) → Lives N a → At (suc j) a e → At j a e
    lower a e l h = (r.down j a e l h.0, h.1)

    oldest_at : (F : Type 0) (a : ℕ) (m : Message) (ms : List Message) → Lives N a → Mixed a F (m ∷ ms) → At j a m.export
    oldest_at F a m ms l (inl h) = h.0.0
    oldest_at F a m ms l (inr h) = lower a m.export l h.0.0

    pub some_heard : (i a : ℕ) (e : TreeExport) → At i a e → HeardAt i a (Some e)
    some_heard i a e h = (h.0, λ x q. let z : e ≡ x = cc in subst (GoodExport U N a) z h.1)

    -- a mail core behind the first entries of the part
    pub record Within (front : List MailEntryValue) (c : MailCore) : Type 0 where
      pub core : AtLevel P U N j c.core
      pub fresh : (a : ℕ) → flies_along a false front ≡ true → IsFresh P U N j a c.core
      pub fired : (a : ℕ) → Lives N a → fired_along a false false front ≡ true → HasFired P U N j a c.core
      pub heard : (a b : ℕ) → Reaches N a b → HeardAt j a (c.heard a b)
      pub pair : (a b : ℕ) → Reaches N a b → Mixed a (HasFired P U N j a c.core) (c.transit a b)

    heard_of : (front : List MailEntryValue) (c : MailCore) → Within front c → Heard j c
    heard_of front c w = record { core = w.core; heard = w.heard }

    pub start_within : (c : MailCore) → MailAt j c → Below at0 c → Within [] c
    start_within c h b = record {
      core = h.core;
      fresh = λ a q. absurd cc;
      fired = λ a l q. absurd cc;
      heard = h.heard;
      pair = λ a b' l. mixed_old (HasFired P U N j a c.core) a (c.transit a b') (h.transit a b' l) (b a b' l);
    }

    -- behind an entry of links alone
    on_links : (front : List MailEntryValue) (c : MailCore) (e : MailEntryValue) (heard : Pairs (Option TreeExport)) (transit : Pairs (List Message)) → Within front c
        → ((a : ℕ) (s : Bool) → flies_after a s e ≡ s) → ((a : ℕ) (s f : Bool) → fired_after a s f e ≡ f)
        → ((a b : ℕ) → Reaches N a b → HeardAt j a (heard a b))
        → ((a b : ℕ) → Reaches N a b → Mixed a (HasFired P U N j a c.core) (transit a b))
        → Within (front ++ e ∷ []) (record { core = c.core; heard = heard; transit = transit })
    on_links front c e heard transit w fl fi hs ms = record {
      core = w.core;
      fresh = λ a q. w.fresh a (sym (flies_more a false front (e ∷ []) ∙ fl a (flies_along a false front)) ∙ q);
      fired = λ a l q. w.fired a l (sym (fired_more a false false front (e ∷ []) ∙ fi a (flies_along a false front) (fired_along a false false front)) ∙ q);
      heard = hs;
      pair = ms;
    }

    begin_within : (front : List MailEntryValue) (c next : MailCore) (d : ℕ) → Within front c → MailStep U (at0 + length front) c (MailBegin d) next → Within (front ++ MailBegin d ∷ []) next
    begin_within front c next d w s =
        let h = heard_of front c w in
        let k = begins_seen j c s.0 h d s.1 in
        let up = step_of j c s.0 h in
        subst (Within (front ++ MailBegin d ∷ [])) (sym s.2) (record {
          core = up.level (BeginEntry d) refl (good_begin j c s.0 h d s.1) k;
          fresh = λ a q. by_flight up k a (nat_eq d a) refl (sym (flies_more a false front (MailBegin d ∷ [])) ∙ q);
          fired = λ a l q. up.fired a (BeginEntry d) refl l k (w.fired a l (sym (fired_more a false false front (MailBegin d ∷ [])) ∙ q));
          heard = w.heard;
          pair = λ a b l. mixed_map (HasFired P U N j a c.core) (HasFired P U N j a s.0) a (c.transit a b) (up.fired a (BeginEntry d) refl (sender N net a b l) k) (w.pair a b l);
        })
      where
        by_flight : StepsRaise P U N j (seen c) c.core s.0 → StepSeeing U (seen c) c.core (BeginEntry d) s.0 → (a : ℕ) (t : Bool) → nat_eq d a ≡ t → (if t then true else flies_along a false front) ≡ true → IsFresh P U N j a s.0
        by_flight up k a true t q = subst (λ x. IsFresh P U N j x s.0) (eqb-true d a t) (up.begins d k)
        by_flight up k a false t q = up.fresh a (BeginEntry d) refl k (w.fresh a q)

    end_within : (front es : List MailEntryValue) (c next : MailCore) (d : ℕ) → whole ≡ front ++ MailEnd d ∷ es → Within front c → MailStep U (at0 + length front) c (MailEnd d) next → Within (front ++ MailEnd d ∷ []) next
    end_within front es c next d cut w s =
        record {
          core = level;
          fresh = λ a q. by_flight a (nat_eq d a) (sym (flies_more a false front (MailEnd d ∷ [])) ∙ q);
          fired = λ a l q. by_firing a l (nat_eq d a) (flies_along a false front) refl refl (sym (fired_more a false false front (MailEnd d ∷ [])) ∙ q);
          heard = λ a b l. subst (λ f. HeardAt j a (f a b)) (sym s.heard) (w.heard a b l);
          pair = λ a b l. subst (λ f. Mixed a (HasFired P U N j a next.core) (f a b)) (sym s.transit) (by_link a b l (nat_eq a d) refl (reaches c.core.net a b));
        }
      where
        h : Heard j c
        h = heard_of front c w

        up : StepsRaise P U N j (seen c) c.core next.core
        up = step_of j c next.core h

        good : IsGood U next.core
        good = good_end j c next.core h d s.ends

        level : AtLevel P U N j next.core
        level = up.level (EndEntry d) refl good s.ends

        there : Lives N d
        there = ender j c next.core h d s.ends

        by_flight : (a : ℕ) (t : Bool) → (if t then false else flies_along a false front) ≡ true → IsFresh P U N j a next.core
        by_flight a true q = absurd cc
        by_flight a false q = up.fresh a (EndEntry d) refl s.ends (w.fresh a q)

        ended_own : flies_along d false front ≡ true → HasFired P U N j d next.core
        ended_own q = up.ends d there s.ends (w.fresh d q)

        by_firing : (a : ℕ) → Lives N a → (t o : Bool) → nat_eq d a ≡ t → flies_along a false front ≡ o → (if t then o || fired_along a false false front else fired_along a false false front) ≡ true → HasFired P U N j a next.core
        by_firing a l true true t o q = subst (λ x. HasFired P U N j x next.core) (eqb-true d a t) (ended_own (subst (λ x. flies_along x false front ≡ true) (sym (eqb-true d a t)) o))
        by_firing a l true false t o q = up.fired a (EndEntry d) refl l s.ends (w.fired a l q)
        by_firing a l false o t k q = up.fired a (EndEntry d) refl l s.ends (w.fired a l q)

        m : Message
        m = record { export = s.ends.export; sent = Some (at0 + length front) }

        new : HasFired P U N j d next.core → At (suc j) d s.ends.export
        new f = sent_at (suc j) c next.core level.same good d s.ends f.0

        old_or_fired : (o : Bool) → flies_along d false front ≡ o → Old d m ⊎ HasFired P U N j d next.core
        old_or_fired true q = inr (ended_own q)
        old_or_fired false q = inl (
          sent_at j c next.core level.same good d s.ends (level.exports d there),
          λ i e.
              let z : at0 + length front ≡ at0 + i = cc in
              let same_place : i ≡ length front = omega (arith, z) in
              let taken : take i whole ≡ front = ap (λ k. take k whole) same_place ∙ ap (take (length front)) cut ∙ take-append_seam front (MailEnd d ∷ es) in
              ap (flies_along d false) taken ∙ q,
        )

        stays : (a b : ℕ) → Reaches N a b → Mixed a (HasFired P U N j a next.core) (c.transit a b)
        stays a b l = mixed_map (HasFired P U N j a c.core) (HasFired P U N j a next.core) a (c.transit a b) (up.fired a (EndEntry d) refl (sender N net a b l) s.ends) (w.pair a b l)

        by_link : (a b : ℕ) → Reaches N a b → (t : Bool) → nat_eq a d ≡ t → (k : Bool) → Mixed a (HasFired P U N j a next.core) (if t && k then pushed (c.transit a b) m else c.transit a b)
        by_link a b l true t true =
            let e = eqb-true a d t in
            mixed_pushed (HasFired P U N j a next.core) a (c.transit a b) m (stays a b l)
            (subst (λ x. Old x m ⊎ HasFired P U N j x next.core) (sym e) (old_or_fired (flies_along d false front) refl))
            (subst (λ x. HasFired P U N j x next.core → At (suc j) x s.ends.export) (sym e) new)
        by_link a b l true t false = stays a b l
        by_link a b l false t k = stays a b l

    hears_within : (front : List MailEntryValue) (c : MailCore) (e : MailEntryValue) (x y : ℕ) (m : Message) (ms stay : List Message) → Within front c
        → ((a : ℕ) (s : Bool) → flies_after a s e ≡ s) → ((a : ℕ) (s f : Bool) → fired_after a s f e ≡ f) → c.transit x y ≡ m ∷ ms
        → ((a : ℕ) → Mixed a (HasFired P U N j a c.core) (m ∷ ms) → Mixed a (HasFired P U N j a c.core) stay)
        → Within (front ++ e ∷ []) (record { core = c.core; heard = put_pair c.heard x y (Some m.export); transit = put_pair c.transit x y stay })
    hears_within front c e x y m ms stay w fl fi there moves =
        on_links front c e (put_pair c.heard x y (Some m.export)) (put_pair c.transit x y stay) w fl fi
        (λ a b l. pair_case (HeardAt j a) c.heard x y (Some m.export) a b (λ p q. some_heard j a m.export (oldest_at (HasFired P U N j a c.core) a m ms (sender N net a b l) (messages a b p q l))) (w.heard a b l))
        (λ a b l. pair_case (Mixed a (HasFired P U N j a c.core)) c.transit x y stay a b (λ p q. moves a (messages a b p q l)) (w.pair a b l))
      where
        messages : (a b : ℕ) → a ≡ x → b ≡ y → Reaches N a b → Mixed a (HasFired P U N j a c.core) (m ∷ ms)
        messages a b p q l = subst (Mixed a (HasFired P U N j a c.core)) (ap (λ z. c.transit z b) p ∙ ap (c.transit x) q ∙ there) (w.pair a b l)

    pub step_within : (front es : List MailEntryValue) (c next : MailCore) (e : MailEntryValue) → whole ≡ front ++ e ∷ es → Within front c → MailStep U (at0 + length front) c e next → Within (front ++ e ∷ []) next
    step_within front es c next (MailBegin d) cut w s = begin_within front c next d w s
    step_within front es c next (MailEnd d) cut w s = end_within front es c next d cut w s
    step_within front es c next MailIdle cut w s = subst (Within (front ++ MailIdle ∷ [])) (sym s) (on_links front c MailIdle c.heard c.transit w (λ a s. refl) (λ a s f. refl) w.heard w.pair)
    step_within front es c next (MailDeliver x y) cut w s = subst (Within (front ++ MailDeliver x y ∷ [])) (sym s.after)
        (hears_within front c (MailDeliver x y) x y s.oldest s.later s.later w (λ a s. refl) (λ a s f. refl) s.there (λ a h. mixed_rest (HasFired P U N j a c.core) a (s.oldest ∷ s.later) h))
    step_within front es c next (MailAgain x y) cut w s = subst (Within (front ++ MailAgain x y ∷ [])) (sym s.after)
        (hears_within front c (MailAgain x y) x y s.oldest s.later (s.oldest ∷ s.later) w (λ a s. refl) (λ a s f. refl) s.there (λ a h. h))
    step_within front es c next (MailLose x y i) cut w s = subst (Within (front ++ MailLose x y i ∷ [])) (sym s.after)
        (on_links front c (MailLose x y i) c.heard (put_pair c.transit x y (without i (c.transit x y))) w (λ a s. refl) (λ a s f. refl) w.heard
        (λ a b l. pair_case (Mixed a (HasFired P U N j a c.core)) c.transit x y (without i (c.transit x y)) a b
        (λ p q. mixed_without (HasFired P U N j a c.core) a i (c.transit x y) (subst (Mixed a (HasFired P U N j a c.core)) (ap (λ z. c.transit z b) p ∙ ap (c.transit x) q) (w.pair a b l))) (w.pair a b l)))

    -- ---- an ordered pair that was brought a message of the part

    pub record Renewed (a b : ℕ) (c : MailCore) : Type 0 where
      pub fired : HasFired P U N j a c.core
      pub heard : HeardAt (suc j) a (c.heard a b)
      pub transit : AllAt (suc j) a (c.transit a b)

    renewed_step : (front : List MailEntryValue) (c next : MailCore) (e : MailEntryValue) (a b : ℕ) → Reaches N a b → Within front c → MailStep U (at0 + length front) c e next → Renewed a b c → Renewed a b next
    renewed_step front c next (MailBegin d) a b l w s n =
        let h = heard_of front c w in
        let k = begins_seen j c s.0 h d s.1 in
        subst (Renewed a b) (sym s.2) (record { fired = (step_of j c s.0 h).fired a (BeginEntry d) refl (sender N net a b l) k n.fired; heard = n.heard; transit = n.transit })
    renewed_step front c next (MailEnd d) a b l w s n =
        let h = heard_of front c w in
        let up = step_of j c next.core h in
        let good = good_end j c next.core h d s.ends in
        let level = up.level (EndEntry d) refl good s.ends in
        let fired = up.fired a (EndEntry d) refl (sender N net a b l) s.ends n.fired in
        record {
          fired = fired;
          heard = subst (λ f. HeardAt (suc j) a (f a b)) (sym s.heard) n.heard;
          transit = subst (λ f. AllAt (suc j) a (f a b)) (sym s.transit) (by_link good level fired (nat_eq a d) refl (reaches c.core.net a b));
        }
      where
        m : Message
        m = record { export = s.ends.export; sent = Some (at0 + length front) }

        by_link : IsGood U next.core → AtLevel P U N j next.core → HasFired P U N j a next.core → (t : Bool) → nat_eq a d ≡ t → (k : Bool) → AllAt (suc j) a (if t && k then pushed (c.transit a b) m else c.transit a b)
        by_link good level fired true t true =
            let e = eqb-true a d t in
            pushed_at (suc j) a (c.transit a b) m n.transit (subst (λ x. At (suc j) x s.ends.export) (sym e) (sent_at (suc j) c next.core level.same good d s.ends (subst (λ x. MaybeAt P (suc j) x (next.core.exports x)) e fired.0)))
        by_link good level fired true t false = n.transit
        by_link good level fired false t k = n.transit
    renewed_step front c next MailIdle a b l w s n = subst (Renewed a b) (sym s) n
    renewed_step front c next (MailDeliver x y) a b l w s n = subst (Renewed a b) (sym s.after) (record {
      fired = n.fired;
      heard = pair_case (HeardAt (suc j) a) c.heard x y (Some s.oldest.export) a b (λ p q. some_heard (suc j) a s.oldest.export (messages p q).0) n.heard;
      transit = pair_case (AllAt (suc j) a) c.transit x y s.later a b (λ p q. (messages p q).1) n.transit;
    })
      where
        messages : a ≡ x → b ≡ y → AllAt (suc j) a (s.oldest ∷ s.later)
        messages p q = subst (AllAt (suc j) a) (ap (λ z. c.transit z b) p ∙ ap (c.transit x) q ∙ s.there) n.transit
    renewed_step front c next (MailAgain x y) a b l w s n = subst (Renewed a b) (sym s.after) (record {
      fired = n.fired;
      heard = pair_case (HeardAt (suc j) a) c.heard x y (Some s.oldest.export) a b (λ p q. some_heard (suc j) a s.oldest.export (messages p q).0) n.heard;
      transit = pair_case (AllAt (suc j) a) c.transit x y (s.oldest ∷ s.later) a b messages n.transit;
    })
      where
        messages : a ≡ x → b ≡ y → AllAt (suc j) a (s.oldest ∷ s.later)
        messages p q = subst (AllAt (suc j) a) (ap (λ z. c.transit z b) p ∙ ap (c.transit x) q ∙ s.there) n.transit
    renewed_step front c next (MailLose x y i) a b l w s n = subst (Renewed a b) (sym s.after) (record {
      fired = n.fired;
      heard = n.heard;
      transit = pair_case (AllAt (suc j) a) c.transit x y (without i (c.transit x y)) a b
          (λ p q. without_at (suc j) a i (c.transit x y) (subst (AllAt (suc j) a) (ap (λ z. c.transit z b) p ∙ ap (c.transit x) q) n.transit)) n.transit;
    })

    -- a message of the part is brought
    pub brought : (front : List MailEntryValue) (c next : MailCore) (e : MailEntryValue) (a b i : ℕ) → Reaches N a b → Within front c → MailStep U (at0 + length front) c e next → ((e ≡ MailDeliver a b) ⊎ (e ≡ MailAgain a b))
        → oldest_post (posts_of c a b) ≡ Some (at0 + i) → flies_along a false (take i whole) ≡ true → Renewed a b next
    brought front c next e a b i l w s hears post own = by_entry hears
      where
        news : (m : Message) (ms : List Message) → c.transit a b ≡ m ∷ ms → Mixed a (HasFired P U N j a c.core) (m ∷ ms) → AllAt (suc j) a (m ∷ ms) × HasFired P U N j a c.core
        news m ms there (inl h) =
            let sent : m.sent ≡ Some (at0 + i) = ap (λ xs. oldest_post (map (λ (x : Message). x.sent) xs)) (sym there) ∙ post in
            absurd (false_true (sym (h.0.1 i sent) ∙ own))
          where
            false_true : false ≡ true → ⊥
            false_true q = cc
        news m ms there (inr h) = h

        here : {X : Type 0} (f : Pairs X) (x : X) → put_pair f a b x a b ≡ x
        here f x = let k : nat_eq a a ≡ true = eq-eqb a a refl in let m : nat_eq b b ≡ true = eq-eqb b b refl in rw (k, m) refl

        renewed : (m : Message) (ms stay : List Message) → c.transit a b ≡ m ∷ ms → (AllAt (suc j) a (m ∷ ms) → AllAt (suc j) a stay)
            → Renewed a b (record { core = c.core; heard = put_pair c.heard a b (Some m.export); transit = put_pair c.transit a b stay })
        renewed m ms stay there keep =
            let k = news m ms there (subst (Mixed a (HasFired P U N j a c.core)) there (w.pair a b l)) in
            record {
              fired = k.1;
              heard = subst (HeardAt (suc j) a) (sym (here c.heard (Some m.export))) (some_heard (suc j) a m.export k.0.0);
              transit = subst (AllAt (suc j) a) (sym (here c.transit stay)) (keep k.0);
            }

        by_entry : (e ≡ MailDeliver a b) ⊎ (e ≡ MailAgain a b) → Renewed a b next
        by_entry (inl q) = let t = subst (λ x. MailStep U (at0 + length front) c x next) q s in subst (Renewed a b) (sym t.after) (renewed t.oldest t.later t.later t.there (λ k. k.1))
        by_entry (inr q) = let t = subst (λ x. MailStep U (at0 + length front) c x next) q s in subst (Renewed a b) (sym t.after) (renewed t.oldest t.later (t.oldest ∷ t.later) t.there (λ k. k))

    -- ---- along the part

    pub next_place : (front : List MailEntryValue) (e : MailEntryValue) → suc (at0 + length front) ≡ at0 + length (front ++ e ∷ [])
    next_place front e = let k = length-append front (e ∷ []) in omega (arith, k)

    pub run_within : (front es rest : List MailEntryValue) (c last : MailCore) → whole ≡ front ++ (es ++ rest) → Within front c → MailRun U (at0 + length front) c es last → Within (front ++ es) last
    run_within front [] rest c last cut w s = subst (λ f. Within f last) (sym (append-nil front)) (subst (Within front) (sym s) w)
    run_within front (e ∷ es) rest c last cut w s =
        let step = step_within front (es ++ rest) c s.0 e cut w s.1 in
        let run = subst (λ n. MailRun U n s.0 es last) (next_place front e) s.2 in
        subst (λ f. Within f last) (append_assoc front (e ∷ []) es) (run_within (front ++ e ∷ []) es rest s.0 last (cut ∙ sym (append_assoc front (e ∷ []) (es ++ rest))) step run)

    pub run_renewed : (front es rest : List MailEntryValue) (c last : MailCore) (a b : ℕ) → Reaches N a b → whole ≡ front ++ (es ++ rest) → Within front c → MailRun U (at0 + length front) c es last → Renewed a b c → Renewed a b last
    run_renewed front [] rest c last a b l cut w s n = subst (Renewed a b) (sym s) n
    run_renewed front (e ∷ es) rest c last a b l cut w s n =
        let step = step_within front (es ++ rest) c s.0 e cut w s.1 in
        let run = subst (λ k. MailRun U k s.0 es last) (next_place front e) s.2 in
        run_renewed (front ++ e ∷ []) es rest s.0 last a b l (cut ∙ sym (append_assoc front (e ∷ []) (es ++ rest))) step run (renewed_step front c s.0 e a b l w s.1 n)
