-- The kids of a node, one by one.
use Rattle.std.proofs.Common.{◌≡◌, ℕ, zero, suc, ◌<◌, ◌+◌, List, [], ◌∷◌, ◌++◌, length, refl, sym, ◌∙◌, ap, arith, Bool, true, false, ◌||◌}
use Rattle.growth_facts.specs.declared.node_facts.Facts.{Facts}
use Rattle.growth_facts.specs.declared.node_facts.Kids.{Kids}
use Rattle.growth_facts.specs.Growth.{NodeFacts}
use Rattle.growth_facts.specs.Facts.{facts_value, any_uses, fact_at, AreKids}

uses_added : (fs : List NodeFacts) (f : NodeFacts) → any_uses (fs ++ f ∷ []) ≡ (any_uses fs || f.uses)
uses_added [] f = or_none f.uses
  where
    or_none : (b : Bool) → (b || false) ≡ b
    or_none true = refl
    or_none false = refl
uses_added (g ∷ fs) f = by_test g.uses (uses_added fs f)
  where
    by_test : (b : Bool) → any_uses (fs ++ f ∷ []) ≡ (any_uses fs || f.uses) → (b || any_uses (fs ++ f ∷ [])) ≡ ((b || any_uses fs) || f.uses)
    by_test true e = refl
    by_test false e = e

count_added : (fs : List NodeFacts) (f : NodeFacts) → length (fs ++ f ∷ []) ≡ length fs + 1
count_added [] f = refl
count_added (g ∷ fs) f = let e = count_added fs f in omega (arith, e)

-- a fact that is there stays, and the added one is next
stays : (fs : List NodeFacts) (f : NodeFacts) (i : ℕ) → i < length fs → fact_at i (fs ++ f ∷ []) ≡ fact_at i fs
stays [] f i l = absurd (omega (arith, l))
stays (g ∷ fs) f zero l = refl
stays (g ∷ fs) f (suc i) l = stays fs f i (omega (arith, l))

added : (fs : List NodeFacts) (f : NodeFacts) (i : ℕ) → i ≡ length fs → fact_at i (fs ++ f ∷ []) ≡ f
added [] f zero e = refl
added [] f (suc i) e = absurd (omega (arith, e))
added (g ∷ fs) f zero e = absurd (omega (arith, e))
added (g ∷ fs) f (suc i) e = added fs f i (omega (arith, e))

beyond : (fs : List NodeFacts) (f : NodeFacts) (i : ℕ) → length fs < i → fact_at i (fs ++ f ∷ []) ≡ fact_at i fs
beyond [] f zero l = absurd (omega (arith, l))
beyond [] f (suc i) l = refl
beyond (g ∷ fs) f zero l = absurd (omega (arith, l))
beyond (g ∷ fs) f (suc i) l = beyond fs f i (omega (arith, l))

module _ (k : Kids) (f : Facts) (u : Bool) (q : u ≡ (k.uses || f.uses)) (fs : List NodeFacts) (h : AreKids k fs) where
  uses_now : u ≡ any_uses (fs ++ facts_value f ∷ [])
  uses_now = let e = h.uses in q ∙ ap (λ b. b || f.uses) e ∙ sym (uses_added fs (facts_value f))

  count_now : k.count + 1 ≡ length (fs ++ facts_value f ∷ [])
  count_now = let e = h.count in let l = count_added fs (facts_value f) in omega (arith, e, l)

  pub added_second : 1 ≡ k.count → AreKids (record { uses = u; count = k.count + 1; first = k.first; second = f; third = k.third }) (fs ++ facts_value f ∷ [])
  added_second n = let c = h.count in record {
    uses = uses_now;
    count = count_now;
    first = h.first ∙ sym (stays fs (facts_value f) 0 (omega (arith, n, c)));
    second = sym (added fs (facts_value f) 1 (omega (arith, n, c)));
    third = h.third ∙ sym (beyond fs (facts_value f) 2 (omega (arith, n, c)));
  }

  pub added_third : 2 ≡ k.count → AreKids (record { uses = u; count = k.count + 1; first = k.first; second = k.second; third = f }) (fs ++ facts_value f ∷ [])
  added_third n = let c = h.count in record {
    uses = uses_now;
    count = count_now;
    first = h.first ∙ sym (stays fs (facts_value f) 0 (omega (arith, n, c)));
    second = h.second ∙ sym (stays fs (facts_value f) 1 (omega (arith, n, c)));
    third = sym (added fs (facts_value f) 2 (omega (arith, n, c)));
  }

  pub added_later : 2 < k.count → AreKids (record { uses = u; count = k.count + 1; first = k.first; second = k.second; third = k.third }) (fs ++ facts_value f ∷ [])
  added_later n = let c = h.count in record {
    uses = uses_now;
    count = count_now;
    first = h.first ∙ sym (stays fs (facts_value f) 0 (omega (arith, n, c)));
    second = h.second ∙ sym (stays fs (facts_value f) 1 (omega (arith, n, c)));
    third = h.third ∙ sym (stays fs (facts_value f) 2 (omega (arith, n, c)));
  }
