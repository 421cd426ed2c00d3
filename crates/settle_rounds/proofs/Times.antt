-- What settle rounds and settle times promise.
use Rattle.std.proofs.Common.{◌≡◌, ℕ, ◌≤◌, max, List, [], ◌∷◌, map, length, refl, sym, ◌∙◌, ap, subst, arith, Bool}
use Rattle.std.proofs.Common.{true, false, nat_eq, Option, Some, None, option_map}
use Rattle.std.specs.Option.{option_or}
use Rattle.fc_values.specs.Fields.{is_in}
use Rattle.fc_values.specs.Values.{LocalValue}
use Rattle.fc_nodes.specs.declared.verdicts.Verdict.{Verdict}
use Rattle.fc_nodes.specs.declared.verdicts.Verdict.TheVariants as verdict
use Rattle.fc_nodes.specs.Program.{Unfolding, unfolding_of}
use Rattle.topology.specs.Networks.{Network, IsNetwork, Lives, numbers}
use Rattle.fragment_check.specs.Verdicts.{verdict_of}
use Rattle.converge_laws.specs.Stabilising.{HasOneSolution}
use Rattle.converge_laws.specs.Verdicts.{YesStabilises}
use Rattle.mail_laws.specs.Laws.{YesStabilisesMail}
use Rattle.value_bounds.proofs.Values.{nat_same}
use Rattle.value_bounds.specs.BoundValues.{value_left}
use Rattle.envelopes.specs.Exactly.{exact_envelope}
use Rattle.envelopes.proofs.Exact.{exact_is}
use Rattle.bound_rounds.specs.Rounds.{BoundTable, rounds_from}
use Rattle.settle_rounds.specs.Rounds.{any_table, is_reached, ReachedAt, BoundsReach}
use Rattle.settle_rounds.specs.Starts.{ReachedFrom, BoundsReachFrom, LeftIsSolvedFrom, YesLeavesFrom, growing_cap}
use Rattle.settle_rounds.specs.Within.{StartTableWithin, StartsHoldWithin}
use Rattle.settle_rounds.specs.Settling.{settle_round, RoundsAre, RoundsSettle, YesLeaves}
use Rattle.settle_rounds.specs.Mail.{MailReachedAt, BoundsReachMail}
use Rattle.settle_rounds.specs.SettleTimes.{settle_cap, settles_to, cap_of, Settlings, settled_from, greatest_round}
use Rattle.settle_rounds.specs.SettleTimes.{rounds_of_yes, settle_time, IsSettleTime, Leading, RoundsLead, ValuesSolve}
use Rattle.settle_rounds.specs.SettleTimes.{TimeLeads, TimeIsLow, SettleTimesHold}
use Rattle.settle_rounds.specs.StartTimes.{StartTimesHold}

-- what a device settles to is what its settle round leaves
record LeftAt (U : Unfolding) (N : Network) (start : BoundTable) (most d k : ℕ) (v : LocalValue) : Type 0 where
  pub round : settle_round U (exact_envelope N) start most d ≡ Some k
  pub left : v ≡ value_left (rounds_from U N start k d).value

with_round : (f : ℕ → LocalValue) (o : Option ℕ) (k : ℕ) (v : LocalValue)
    → option_map {U = ℕ × LocalValue} (λ i. (i, f i)) o ≡ Some (k, v)
    → (o ≡ Some k) × (v ≡ f k)
with_round f None k v e = absurd cc
with_round f (Some i) k v e =
    let x : ℕ × LocalValue = (i, f i) in
    let y : ℕ × LocalValue = (k, v) in
    let p : x ≡ y = cc in
    let q : i ≡ k = ap (λ (w : ℕ × LocalValue). w.0) p in
    (ap Some q, sym (ap (λ (w : ℕ × LocalValue). w.1) p) ∙ ap f q)

left_at : (U : Unfolding) (N : Network) (start : BoundTable) (most d k : ℕ) (v : LocalValue)
    → settles_to U (exact_envelope N) start most d ≡ Some (k, v) → LeftAt U N start most d k v
left_at U N start most d k v e =
    let r = with_round (λ i. value_left (rounds_from U N start i d).value)
    (settle_round U (exact_envelope N) start most d) k v e in
    record { round = r.0; left = r.1 }

-- ---- the greatest round is no less than that of each device

record HasBelow (o : Option (ℕ × LocalValue)) (R : ℕ) : Type 0 where
  pub answer : ℕ × LocalValue
  pub is : o ≡ Some answer
  pub below : answer.0 ≤ R

module _ (f : ℕ → Option (ℕ × LocalValue)) where
  greatest_all : (ds : List ℕ) (R : ℕ) → greatest_round (map f ds) ≡ Some R → (d : ℕ) → is_in d ds ≡ true
      → HasBelow (f d) R
  greatest_all [] R e d h = absurd cc
  greatest_all (x ∷ ds) R e d h = by_first (f x) refl e (λ m p there. greatest_all ds m p d there)
    where
      by_first : (o : Option (ℕ × LocalValue)) → f x ≡ o → greatest_round (o ∷ map f ds) ≡ Some R
          → ((m : ℕ) → greatest_round (map f ds) ≡ Some m → is_in d ds ≡ true → HasBelow (f d) m) → HasBelow (f d) R
      by_first None q g ih = absurd cc
      by_first (Some s) q g ih = by_rest (greatest_round (map f ds)) refl g
        where
          by_rest : (r : Option ℕ) → greatest_round (map f ds) ≡ r → option_map (max s.0) r ≡ Some R → HasBelow (f d) R
          by_rest None p g = absurd cc
          by_rest (Some m) p g = by_test (nat_eq d x) refl
            where
              top : max s.0 m ≡ R
              top = cc

              by_test : (c : Bool) → nat_eq d x ≡ c → HasBelow (f d) R
              by_test true t = let same = nat_same d x t in record {
                answer = s;
                is = ap f same
                    ∙ q;
                below = omega (arith, top);
              }
              by_test false t =
                  let there : is_in d ds ≡ true = rw t at h in
                  let r = ih m p there in
                  record { answer = r.answer; is = r.is; below = omega (arith, r.below, top) }

greatest_low : (f : ℕ → Option (ℕ × LocalValue)) (K : ℕ) → ((d k : ℕ) (v : LocalValue) → f d ≡ Some (k, v) → k ≤ K)
    → (ds : List ℕ) (R : ℕ) → greatest_round (map f ds) ≡ Some R → R ≤ K
greatest_low f K h [] R e = let z : 0 ≡ R = cc in omega (arith, z)
greatest_low f K h (x ∷ ds) R e = by_first (f x) refl e (greatest_low f K h ds)
  where
    by_first : (o : Option (ℕ × LocalValue)) → f x ≡ o → greatest_round (o ∷ map f ds) ≡ Some R
        → ((m : ℕ) → greatest_round (map f ds) ≡ Some m → m ≤ K) → R ≤ K
    by_first None q g ih = absurd cc
    by_first (Some s) q g ih = by_rest (greatest_round (map f ds)) refl g
      where
        by_rest : (r : Option ℕ) → greatest_round (map f ds) ≡ r → option_map (max s.0) r ≡ Some R → R ≤ K
        by_rest None p g = absurd cc
        by_rest (Some m) p g =
            let top : max s.0 m ≡ R = cc in
            let l = ih m p in
            let l' = h x s.0 s.1 q in
            omega (arith, top, l, l')

cap_low : (K n k : ℕ) → k ≤ settle_cap (verdict.Yes K) n → k ≤ K
cap_low K n k h = omega (arith, h)

-- ---- a settle time of a verdict is the greatest round, or that of a yes

data TimeFrom (v : Verdict) (os : List (Option (ℕ × LocalValue))) (R : ℕ) : Type 0 where
  by_rounds : greatest_round os ≡ Some R → TimeFrom v os R
  by_yes : v ≡ verdict.Yes R → TimeFrom v os R

time_from : (v : Verdict) (os : List (Option (ℕ × LocalValue))) (R : ℕ) → settle_time v os ≡ Some R → TimeFrom v os R
time_from v os R e = by_greatest (greatest_round os) refl e
  where
    by_verdict : (v : Verdict) → rounds_of_yes v ≡ Some R → v ≡ verdict.Yes R
    by_verdict (verdict.Yes rounds) e = let same : rounds ≡ R = cc in ap verdict.Yes same
    by_verdict (verdict.No place reason) e = absurd cc

    by_greatest : (o : Option ℕ) → greatest_round os ≡ o → option_or o (rounds_of_yes v) ≡ Some R → TimeFrom v os R
    by_greatest None q h = by_yes (by_verdict v h)
    by_greatest (Some m) q h = by_rounds (q ∙ h)

-- ---- from a start

module _ (are : RoundsSettle) (U : Unfolding) (N : Network) (net : IsNetwork N) (start : BoundTable) where
  abbrev V : Verdict
  V = verdict_of U (length N.devices)

  abbrev settled : Settlings
  settled d = settled_from U N start d

  at_start : RoundsAre U (exact_envelope N) start
  at_start = are U (exact_envelope N) (exact_is N net) start

  settled_at : (d k : ℕ) (v : LocalValue) → settled d ≡ Some (k, v) → LeftAt U N start (cap_of U N) d k v
  settled_at d k v e = left_at U N start (cap_of U N) d k v e

  -- a settle round is no more than the rounds of a yes
  round_low : (K : ℕ) → V ≡ verdict.Yes K → (d k : ℕ) (v : LocalValue) → settled d ≡ Some (k, v) → k ≤ K
  round_low K y d k v e =
      let w = at_start.within (cap_of U N) d k (settled_at d k v e).round in
      cap_low K (length N.devices) k (subst (λ x. k ≤ settle_cap x (length N.devices)) y w)

  -- the rounds of a device that settles lead it to its value
  rounds_lead : (Leads : Leading) → ((k d : ℕ) → Lives N d → is_reached (rounds_from U N start k d) ≡ true → (m : ℕ)
      → k ≤ m → Leads m d (value_left (rounds_from U N start k d).value))
      → RoundsLead Leads N settled
  rounds_lead Leads law d k v l e m h =
      let a = settled_at d k v e in
      let s = at_start.settles (cap_of U N) d k a.round in
      subst (Leads m d) (sym a.left) (law k d l s.reached m h)

  values_solve : LeftIsSolvedFrom U N start → ValuesSolve U N settled
  values_solve left = record {
    one = left.one;
    values = λ d k v l e.
        let a = settled_at d k v e in
        a.left ∙ left.left k d l (at_start.settles (cap_of U N) d k a.round).reached;
  }

  time_leads : (Leads : Leading) → RoundsLead Leads N settled
      → ((K : ℕ) → V ≡ verdict.Yes K → (one : HasOneSolution U N) × ((d : ℕ) → Lives N d → Leads K d (one.field d)))
      → (R : ℕ) → IsSettleTime U N settled R → TimeLeads Leads U N settled R
  time_leads Leads rounds solve R e = by_time (time_from V (map settled (numbers N.devices)) R e)
    where
      by_time : TimeFrom V (map settled (numbers N.devices)) R → TimeLeads Leads U N settled R
      by_time (by_rounds q) = record {
        known = λ d k v l h.
            let b = greatest_all settled (numbers N.devices) R q d l in
            let w : b.answer ≡ (k, v) = cc in
            rounds d k v l h R (subst (λ (x : ℕ × LocalValue). x.0 ≤ R) w b.below);
        only_yes = λ d l h. let b = greatest_all settled (numbers N.devices) R q d l in absurd (cc (b.is, h));
        solved = λ d l h. let b = greatest_all settled (numbers N.devices) R q d l in absurd (cc (b.is, h));
      }
      by_time (by_yes y) = record {
        known = λ d k v l h. rounds d k v l h R (round_low R y d k v h);
        only_yes = λ d l h. y;
        solved = λ d l h. let s = solve R y in (s.0, s.1 d l);
      }

  time_low : (R : ℕ) → IsSettleTime U N settled R → TimeIsLow U N R
  time_low R e K y = by_time (time_from V (map settled (numbers N.devices)) R e)
    where
      by_time : TimeFrom V (map settled (numbers N.devices)) R → R ≤ K
      by_time (by_rounds q) = greatest_low settled K (round_low K y) (numbers N.devices) R q
      by_time (by_yes z) = let e : verdict.Yes R ≡ verdict.Yes K = sym z ∙ y in let w : R ≡ K = cc in omega (arith, w)

-- ---- from any exports, and from the table of a core

pub settle_times_hold : BoundsReach → BoundsReachMail → RoundsSettle → YesLeaves → YesStabilises → YesStabilisesMail
    → SettleTimesHold
settle_times_hold reach mail are leaves steady mail_steady P N program net same =
    let U = unfolding_of P in
    let rounds = rounds_lead are U N net (any_table U) (ReachedAt U N)
    (λ k d l h m g. reach P N program net same k d l h m g) in
    let mail_rounds = rounds_lead are U N net (any_table U) (MailReachedAt U N)
    (λ k d l h m g. mail P N program net same k d l h m g) in
    record {
      rounds = rounds;
      mail_rounds = mail_rounds;
      solves = λ K y. values_solve are U N net (any_table U) (leaves P N K program net same y);
      time = time_leads are U N net (any_table U) (ReachedAt U N) rounds (λ K y.
          let s = steady P N K program net same y in
          (s.one, λ d l start last log good is run has. s.reached start last log good is run has d l));
      mail_time = time_leads are U N net (any_table U) (MailReachedAt U N) mail_rounds (λ K y.
          let s = mail_steady P N K program net same y in
          (s.one, λ d l start last log good is run has. s.reached start last log good is run has d l));
      low = time_low are U N net (any_table U);
    }

pub start_times_hold : StartsHoldWithin → BoundsReachFrom → RoundsSettle → YesLeavesFrom → YesStabilises
    → StartTimesHold
start_times_hold starts reach are leaves steady P N program net same c good on table from =
    let U = unfolding_of P in
    let E = exact_envelope N in
    let most = growing_cap (length N.devices) in
    let h = (starts P E program c good most).hold table
    (subst (λ n. StartTableWithin U E n most c table) (sym on) from) in
    let rounds = rounds_lead are U N net table (ReachedFrom U N c)
    (λ k d l r m g. reach P N program net same table h.closed c good on h.holds k d l r m g) in
    record {
      rounds = rounds;
      solves = λ K y.
          values_solve are U N net table (leaves P N K program net same y table h.closed c good on h.holds);
      time = time_leads are U N net table (ReachedFrom U N c) rounds (λ K y.
          let s = steady P N K program net same y in
          (s.one, λ d l last r. s.reached c last r.log good on r.run r.rounds d l));
      low = time_low are U N net table;
    }
