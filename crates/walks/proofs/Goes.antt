-- Walks go on, and what bounds the costs of all of them.
use Rattle.std.proofs.Common.{◌≡◌, ℕ, ◌+◌, ◌≤◌, inl, inr, min, List, [], ◌∷◌, ◌++◌, get_or, refl, sym, ◌∙◌, ap, subst, arith, Bool, true, false, nat_lt}
use Rattle.std.proofs.lemmas.Bool.{ltb-true, ltb-false}
use Rattle.std.proofs.lemmas.List.{get_or_default}
use Rattle.std.proofs.lemmas.List.Elements.{All-contains}
use Rattle.walks.specs.declared.types.WalkStep.{WalkStep}
use Rattle.walks.specs.Walks.{CostsValue, StartsAt, StepsAt, Goes, IsWalk, WalkCosts, IsLeastCost, StepFits, IsCosts, IsBefore}

-- what is known of a start and of a step
pub start_most : (C : CostsValue) → IsCosts C → (d s : ℕ) → StartsAt C d s → s ≤ C.ceiling
start_most C co d s h = All-contains (λ (x : ℕ × ℕ). x.1 ≤ C.ceiling) C.start (d, s) co.starts h

pub step_fits : (C : CostsValue) → IsCosts C → (n d k : ℕ) → StepsAt C n d k → StepFits C (record { from = n; to = d; cost = k })
step_fits C co n d k h = All-contains (StepFits C) C.steps (record { from = n; to = d; cost = k }) co.steps h

-- ---- one step more

pub goes_on : (C : CostsValue) (d c : ℕ) (w : List ℕ) (e t f k : ℕ) → Goes C d c w e t → StepsAt C e f k → Goes C d c (w ++ f ∷ []) f (t + k)
goes_on C d c [] e t f k g s = (k, subst (λ x. StepsAt C x f k) (sym g.0) s, (refl, ap (λ x. x + k) g.1))
goes_on C d c (n ∷ w) e t f k g s = (g.0, g.1, goes_on C n (c + g.0) w e t f k g.2 s)

pub walk_on : (C : CostsValue) (w : List ℕ) (e t f k : ℕ) → IsWalk C w e t → StepsAt C e f k → IsWalk C (w ++ f ∷ []) f (t + k)
walk_on C [] e t f k h s = elim h [ ]
walk_on C (d ∷ w) e t f k h s = (h.0, h.1, goes_on C d h.0 w e t f k h.2 s)

pub cost_on : (C : CostsValue) (w : List ℕ) (e v f k : ℕ) → WalkCosts C w e v → StepsAt C e f k → WalkCosts C (w ++ f ∷ []) f (min (v + k) C.ceiling)
cost_on C w e v f k h s =
    let q : min h.0 C.ceiling ≡ v = h.2 in
    let r : min (h.0 + k) C.ceiling ≡ min (v + k) C.ceiling = omega arith in
    (h.0 + k, walk_on C w e h.0 f k h.1 s, r)

pub cost_alone : (C : CostsValue) (d s : ℕ) → StartsAt C d s → s ≤ C.ceiling → WalkCosts C (d ∷ []) d s
cost_alone C d s h l = let q : min s C.ceiling ≡ s = omega arith in (s, (s, h, (refl, refl)), q)

-- ---- values that no start and no step undercuts bound the costs of walks

pub goes_above : (C : CostsValue) (f : ℕ → ℕ) → ((n d k : ℕ) → StepsAt C n d k → f d ≤ min (f n + k) C.ceiling)
    → (d c : ℕ) (w : List ℕ) (e t : ℕ) → f d ≤ min c C.ceiling → Goes C d c w e t → f e ≤ min t C.ceiling
goes_above C f st d c [] e t h g = subst (λ x. f x ≤ min t C.ceiling) g.0 (subst (λ x. f d ≤ min x C.ceiling) g.1 h)
goes_above C f st d c (n ∷ w) e t h g = let a = st d n g.0 g.1 in goes_above C f st n (c + g.0) w e t (omega arith) g.2

pub walk_above : (C : CostsValue) (f : ℕ → ℕ) → IsCosts C → ((d s : ℕ) → StartsAt C d s → f d ≤ s)
    → ((n d k : ℕ) → StepsAt C n d k → f d ≤ min (f n + k) C.ceiling)
    → (w : List ℕ) (e v : ℕ) → WalkCosts C w e v → f e ≤ v
walk_above C f co be st [] e v h = elim h.1 [ ]
walk_above C f co be st (d ∷ w) e v h =
    let a = be d h.1.0 h.1.1 in
    let b = start_most C co d h.1.0 h.1.1 in
    let q : min h.0 C.ceiling ≡ v = h.2 in
    let r = goes_above C f st d h.1.0 w e h.0 (omega arith) h.1.2 in
    omega arith

pub least_from : (C : CostsValue) (f : ℕ → ℕ) → IsCosts C → ((d s : ℕ) → StartsAt C d s → f d ≤ s)
    → ((n d k : ℕ) → StepsAt C n d k → f d ≤ min (f n + k) C.ceiling)
    → (d : ℕ) → (w : List ℕ) × WalkCosts C w d (f d) → IsLeastCost C d (f d)
least_from C f co be st d w = record { walk = w; least = λ x u h. walk_above C f co be st x d u h }

-- ---- a walk has one end and one sum

pub steps_one : (C : CostsValue) → IsCosts C → (n d j k : ℕ) → StepsAt C n d j → StepsAt C n d k → j ≡ k
steps_one C co n d j k g h = by_order (nat_lt g.0 h.0) refl (nat_lt h.0 g.0) refl
  where
    apart : (a b : WalkStep) → a.from ≡ n → a.to ≡ d → b.from ≡ n → b.to ≡ d → IsBefore a b → ⊥
    apart a b e f u v (inl l) = absurd (omega arith)
    apart a b e f u v (inr l) = let m = l.1 in absurd (omega arith)

    by_order : (p : Bool) → nat_lt g.0 h.0 ≡ p → (q : Bool) → nat_lt h.0 g.0 ≡ q → j ≡ k
    by_order true e q f =
        let x : WalkStep = record { from = n; to = d; cost = j } in
        let y : WalkStep = record { from = n; to = d; cost = k } in
        let gx : get_or C.steps g.0 x ≡ x = g.2 in
        let hy : get_or C.steps h.0 x ≡ y = get_or_default C.steps h.0 x y h.1 ∙ h.2 in
        absurd (apart (get_or C.steps g.0 x) (get_or C.steps h.0 x) (ap (λ (t : WalkStep). t.from) gx) (ap (λ (t : WalkStep). t.to) gx) (ap (λ (t : WalkStep). t.from) hy) (ap (λ (t : WalkStep). t.to) hy)
        (co.order g.0 h.0 x (ltb-true g.0 h.0 e) h.1))
    by_order false e true f =
        let x : WalkStep = record { from = n; to = d; cost = j } in
        let y : WalkStep = record { from = n; to = d; cost = k } in
        let gx : get_or C.steps g.0 x ≡ x = g.2 in
        let hy : get_or C.steps h.0 x ≡ y = get_or_default C.steps h.0 x y h.1 ∙ h.2 in
        absurd (apart (get_or C.steps h.0 x) (get_or C.steps g.0 x) (ap (λ (t : WalkStep). t.from) hy) (ap (λ (t : WalkStep). t.to) hy) (ap (λ (t : WalkStep). t.from) gx) (ap (λ (t : WalkStep). t.to) gx)
        (co.order h.0 g.0 x (ltb-true h.0 g.0 f) g.1))
    by_order false e false f =
        let a = ltb-false g.0 h.0 e in
        let b = ltb-false h.0 g.0 f in
        let i : g.0 ≡ h.0 = omega arith in
        let x : WalkStep = record { from = n; to = d; cost = j } in
        let y : WalkStep = record { from = n; to = d; cost = k } in
        ap (λ (t : WalkStep). t.cost) (sym g.2 ∙ ap (λ m. get_or C.steps m x) i ∙ get_or_default C.steps h.0 x y h.1 ∙ h.2)

pub goes_one : (C : CostsValue) → IsCosts C → (d c : ℕ) (w : List ℕ) (e t f u : ℕ) → Goes C d c w e t → Goes C d c w f u → (e ≡ f) × (t ≡ u)
goes_one C co d c [] e t f u g h = (sym g.0 ∙ h.0, sym g.1 ∙ h.1)
goes_one C co d c (n ∷ w) e t f u g h =
    let k = steps_one C co d n g.0 h.0 g.1 h.1 in
    goes_one C co n (c + g.0) w e t f u g.2 (subst (λ x. Goes C n (c + x) w f u) (sym k) h.2)
