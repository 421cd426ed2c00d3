-- Levels rise with the number of devices, so a yes for more devices is one for fewer, with no more rounds.
use Rattle.std.proofs.Common.{◌≡◌, ◌≤◌, ◌+◌, ◌*◌, ℕ, zero, suc, max, List, length, refl}
use Rattle.std.proofs.Common.{arith, Bool, true, false, Option, Some, None, nat_eq, if◌then◌else◌}
use Rattle.std.specs.declared.result.Result.{Result}
use Rattle.std.specs.declared.result.Result.TheVariants.{Ok, Err}
use Rattle.fc_values.specs.Types.{ValueType}
use Rattle.fc_values.specs.BuiltinTypes.{is_field}
use Rattle.fc_nodes.specs.Terms.{Leaf, Literal, Variable, Sense, Uid, NbrLink, Evolution, ByRep, ByShare}
use Rattle.fc_nodes.specs.Terms.{Term, Terms, Plain, Apply, Nbr, Evolve, If, Let, NoMore, More, size}
use Rattle.fc_nodes.specs.Variables.{is_own}
use Rattle.fc_nodes.specs.Subterms.{subterm_at}
use Rattle.fc_nodes.specs.declared.verdicts.Reason.{Reason}
use Rattle.fc_nodes.specs.declared.verdicts.Verdict.TheVariants as verdict
use Rattle.fc_nodes.specs.Program.{Unfolding, unfolding_of}
use Rattle.topology.specs.Networks.{NetDevice, numbers}
use Rattle.firing_core.specs.Entries.{EntryValue}
use Rattle.firing_core.specs.Rounds.{HasRounds}
use Rattle.net_moves.proofs.Plain.{plain_of}
use Rattle.interval_facts.specs.Ranges.{RangeValue, range_of}
use Rattle.fragment_check.specs.declared.kinds.Pattern.{Pattern}
use Rattle.fragment_check.specs.declared.kinds.Pattern.TheVariants as pattern
use Rattle.fragment_check.specs.Patterns.{pattern_of, first_refused}
use Rattle.fragment_check.specs.Levels.{Stages, Lvs, bind_level, reads_level, leaf_level, level_of, level_all}
use Rattle.fragment_check.specs.Verdicts.{stage_rounds, ranks, added_levels, added_by, added_at, variable_range}
use Rattle.fragment_check.specs.Verdicts.{stages_of, judged_of, main_level, verdict_by}
use Rattle.converge_laws.specs.Verdicts.{YesStabilises}
use Rattle.envelopes.specs.Envelopes.{MaybeDevice, DevicesWithin, no_device, is_there, is_away}
use Rattle.envelope_bounds.specs.Yes.{VerdictsRise, YesHoldsWithin}

-- ---- what a pattern adds

times_up : (e : Evolution) (a b : ℕ) → a ≤ b → stage_rounds e * a ≤ stage_rounds e * b
times_up ByRep a b h = omega (arith, h)
times_up ByShare a b h = omega (arith, h)

added_up : (m n : ℕ) → m ≤ n → (W : ℕ → RangeValue) (e : Evolution) (a : Pattern)
    → added_levels m W e a ≤ added_levels n W e a
added_up m n h W e pattern.Constant = omega arith
added_up m n h W e (pattern.Acyclic q) = times_up e (ranks m (W q)) (ranks n (W q)) (omega (arith, h))
added_up m n h W e (pattern.Minimising greatest growth) = omega arith
added_up m n h W e (pattern.Rising greatest growth rise) = omega arith

by_pattern : (m n : ℕ) → m ≤ n → (W : ℕ → RangeValue) (e : Evolution) (r : Result Pattern Reason)
    → added_by m W e r ≤ added_by n W e r
by_pattern m n h W e (Ok a) = added_up m n h W e a
by_pattern m n h W e (Err r) = omega arith

at_up : (m n : ℕ) → m ≤ n → (c : ℕ) (R W : ℕ → RangeValue) (p : ℕ) (t : Term)
    → added_at c R W m p t ≤ added_at c R W n p t
at_up m n h c R W p (Evolve t e a b) = by_pattern m n h W e (pattern_of c R p (Evolve t e a b))
at_up m n h c R W p (Plain t l) = omega arith
at_up m n h c R W p (Apply t o xs) = omega arith
at_up m n h c R W p (Nbr t a) = omega arith
at_up m n h c R W p (If t a b d) = omega arith
at_up m n h c R W p (Let t a b) = omega arith

stages_up : (U : Unfolding) (m n : ℕ) → m ≤ n → (p : ℕ) → stages_of U m p ≤ stages_of U n p
stages_up U m n h p =
    at_up m n h U.declared.ceiling (range_of U) (variable_range U) p (subterm_at p U.main)

-- ---- levels

module _ (K L : Stages) (h : (p : ℕ) → K p ≤ L p) where
  reads_up : (field : Bool) (b c l k : ℕ) → b ≤ c → l ≤ k → reads_level field b l ≤ reads_level field c k
  reads_up true b c l k u w = omega (arith, u, w)
  reads_up false b c l k u w = omega (arith, u, w)

  bind_up : (p l k : ℕ) (lv kv : Lvs) → l ≤ k → ((q : ℕ) → lv q ≤ kv q) → (q : ℕ)
      → bind_level p l lv q ≤ bind_level p k kv q
  bind_up p l k lv kv u w q = by_test (nat_eq p q)
    where
      by_test : (c : Bool) → (if c then l else lv q) ≤ (if c then k else kv q)
      by_test true = u
      by_test false = w q

  leaf_up : (b c x : ℕ) (lv kv : Lvs) (t : ValueType) (l : Leaf) → b ≤ c → ((q : ℕ) → lv q ≤ kv q)
      → leaf_level b x lv t l ≤ leaf_level c x kv t l
  leaf_up b c x lv kv t (Literal v) u w = u
  leaf_up b c x lv kv t (Variable q) u w = by_test (nat_eq q x)
    where
      by_test : (s : Bool) → (if s then suc b else reads_level (is_field t) b (lv q))
          ≤ (if s then suc c else reads_level (is_field t) c (kv q))
      by_test true = omega (arith, u)
      by_test false = reads_up (is_field t) b c (lv q) (kv q) u (w q)
  leaf_up b c x lv kv t (Sense i) u w = u
  leaf_up b c x lv kv t Uid u w = u
  leaf_up b c x lv kv t NbrLink u w = omega (arith, u)

  mutual
    level_up : (t : Term) (p b c x : ℕ) (lv kv : Lvs) → b ≤ c → ((q : ℕ) → lv q ≤ kv q)
        → level_of K p b x lv t ≤ level_of L p c x kv t
    level_up (Plain t l) p b c x lv kv u w = leaf_up b c x lv kv t l u w
    level_up (Apply t o xs) p b c x lv kv u w = all_up xs (suc p) b c x lv kv u w
    level_up (Nbr t a) p b c x lv kv u w = by_test (is_own x a) (level_up a (suc p) b c x lv kv u w)
      where
        by_test : (s : Bool) → level_of K (suc p) b x lv a ≤ level_of L (suc p) c x kv a
            → (if s then suc b else suc (level_of K (suc p) b x lv a))
            ≤ (if s then suc c else suc (level_of L (suc p) c x kv a))
        by_test true r = omega (arith, u)
        by_test false r = omega (arith, r)
    level_up (Evolve t e a d) p b c x lv kv u w =
        let r = level_up d (suc p + size a) b c p lv kv u w in let s = h p in omega (arith, r, s)
    level_up (If t a d e) p b c x lv kv u w =
        let r = level_up a (suc p) b c x lv kv u w in
        let s = level_up d (suc p + size a) (level_of K (suc p) b x lv a) (level_of L (suc p) c x kv a) x lv kv r w in
        let q = level_up e (suc p + size a + size d) (level_of K (suc p) b x lv a) (level_of L (suc p) c x kv a) x lv kv
        r w in
        greatest (level_of K (suc p) b x lv a) (level_of L (suc p) c x kv a)
        (level_of K (suc p + size a) (level_of K (suc p) b x lv a) x lv d)
        (level_of L (suc p + size a) (level_of L (suc p) c x kv a) x kv d)
        (level_of K (suc p + size a + size d) (level_of K (suc p) b x lv a) x lv e)
        (level_of L (suc p + size a + size d) (level_of L (suc p) c x kv a) x kv e) r s q
      where
        greatest : (i j k l m n : ℕ) → i ≤ j → k ≤ l → m ≤ n → max i (max k m) ≤ max j (max l n)
        greatest i j k l m n r s q = omega (arith, r, s, q)
    level_up (Let t a d) p b c x lv kv u w =
        let r = level_up a (suc p) b c x lv kv u w in
        level_up d (suc p + size a) b c x (bind_level p (level_of K (suc p) b x lv a) lv)
        (bind_level p (level_of L (suc p) c x kv a) kv) u
        (bind_up p (level_of K (suc p) b x lv a) (level_of L (suc p) c x kv a) lv kv r w)

    all_up : (ts : Terms) (p b c x : ℕ) (lv kv : Lvs) → b ≤ c → ((q : ℕ) → lv q ≤ kv q)
        → level_all K p b x lv ts ≤ level_all L p c x kv ts
    all_up NoMore p b c x lv kv u w = u
    all_up (More t ts) p b c x lv kv u w =
        both (level_of K p b x lv t) (level_of L p c x kv t) (level_all K (p + size t) b x lv ts)
        (level_all L (p + size t) c x kv ts) (level_up t p b c x lv kv u w) (all_up ts (p + size t) b c x lv kv u w)
      where
        both : (i j k l : ℕ) → i ≤ j → k ≤ l → max i k ≤ max j l
        both i j k l r s = omega (arith, r, s)

-- ---- verdicts

pub verdicts_rise : VerdictsRise
verdicts_rise U m n K h v = by_places (first_refused (judged_of U)) refl v
  where
    up : main_level U m ≤ main_level U n
    up = level_up (stages_of U m) (stages_of U n) (stages_up U m n h) U.main 0 1 1 (size U.main) (λ q. 0) (λ q. 0)
        (omega arith) (λ q. omega arith)

    by_places : (o : Option (ℕ × Reason)) → first_refused (judged_of U) ≡ o
        → verdict_by o (main_level U n) ≡ verdict.Yes K
        → (k : ℕ) × (verdict_by o (main_level U m) ≡ verdict.Yes k) × (k ≤ K)
    by_places (Some s) q e = absurd cc
    by_places None q e = let same : main_level U n ≡ K = cc in (main_level U m, refl, omega (arith, up, same))

-- ---- on a network within an envelope

-- it has no more devices
few_within : {ms : List MaybeDevice} {ns : List NetDevice} → DevicesWithin ms ns → length ns ≤ length ms
few_within no_device = omega arith
few_within (is_there m n {ms} {ns} e i r) = let h = few_within r in omega (arith, h)
few_within (is_away m {ms} {ns} u r) = let h = few_within r in omega (arith, h)

-- a log with some rounds has fewer ones too
fewer_rounds : (ds : List ℕ) (log : List EntryValue) (k K : ℕ) → k ≤ K → HasRounds ds log K → HasRounds ds log k
fewer_rounds ds log zero K h r = plain_of ds log K r
fewer_rounds ds log (suc k) zero h r = absurd (omega (arith, h))
fewer_rounds ds log (suc k) (suc K) h r = (r.0, r.1, r.2, r.3, fewer_rounds ds r.1 k K (omega (arith, h)) r.4)

pub yes_holds_within : YesStabilises → VerdictsRise → YesHoldsWithin
yes_holds_within says rise P E N K program net same w v =
    let f = rise (unfolding_of P) (length N.devices) (length E.devices) K (few_within w.devices) v in
    let s = says P N f.0 program net same f.1 in
    record {
      one = s.one;
      reached = λ start core log good on run has d l.
          s.reached start core log good on run (fewer_rounds (numbers N.devices) log f.0 K f.2 has) d l;
    }
