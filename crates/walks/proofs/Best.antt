-- Best walks: there is one for each device, one alone, and it costs the least.
use Rattle.std.proofs.Common.{◌≡◌, ◌≢◌, ℕ, zero, suc, ◌+◌, ◌<◌, ◌≤◌, ◌⊎◌, inl, inr, min, List, [], ◌∷◌, ◌++◌, length, get_or, map, refl, sym, ◌∙◌, ap, subst, arith, Bool, true, false, nat_eq, nat_le}
use Rattle.std.specs.List.{All, Contains}
use Rattle.std.proofs.lemmas.List.Elements.{All-contains, All-head, All-tail, All-nil, All-cons, All-from_get_or, All-get_or, Contains-get_or}
use Rattle.std.proofs.lemmas.Bool.{eqb-true, eqb-false, leb-true, leb-false}
use Rattle.fc_values.specs.Fields.{Rises}
use Rattle.walks.specs.declared.types.WalkStep.{WalkStep}
use Rattle.walks.specs.Walks.{CostsValue, EvidenceValue, StartsAt, IsDevice, StepsAt, WalkCosts, IsLeastCost, LeadsTo, IsBestWalk, alone, onward, IsCosts, values_in, value_in, AreTraced}
use Rattle.walks.specs.Laws.{ClaimsAreLeast, TracedClaimsHold, OneBestWalk, BestWalksCostLeast, OneTrace, SomeTrace}
use Rattle.walks.proofs.Goes.{start_most, step_fits, cost_on, cost_alone, least_from}
use Rattle.walks.proofs.Least.{one_least, least_start, least_step}
use Rattle.walks.proofs.Fixed.{has_here, has_start, final, final_fixed, final_least}

-- ---- the smallest neighbour

-- a step from n makes up the value of d
abbrev LeadsBy : CostsValue → (ℕ → ℕ) → List WalkStep → ℕ → ℕ → Type 0
LeadsBy C f ss d n = (k : ℕ) × Contains ss (record { from = n; to = d; cost = k }) × (min (f n + k) C.ceiling ≡ f d)

abbrev HasSmallest : CostsValue → (ℕ → ℕ) → List WalkStep → ℕ → Type 0
HasSmallest C f ss d = ((n : ℕ) × LeadsBy C f ss d n × ((m : ℕ) → LeadsBy C f ss d m → n ≤ m)) ⊎ ((m : ℕ) → LeadsBy C f ss d m → ⊥)

later : (C : CostsValue) (f : ℕ → ℕ) (s : WalkStep) (ss : List WalkStep) (d n : ℕ) → LeadsBy C f ss d n → LeadsBy C f (s ∷ ss) d n
later C f s ss d n h = (h.0, (suc h.1.0, (let l = h.1.1 in omega arith), h.1.2), h.2)

-- a step that leads is the first one or a later one
sooner : (C : CostsValue) (f : ℕ → ℕ) (s : WalkStep) (ss : List WalkStep) (d n k i : ℕ) → i < length (s ∷ ss)
    → get_or (s ∷ ss) i (record { from = n; to = d; cost = k }) ≡ record { from = n; to = d; cost = k } → min (f n + k) C.ceiling ≡ f d
    → (s ≡ record { from = n; to = d; cost = k }) ⊎ LeadsBy C f ss d n
sooner C f s ss d n k zero l e g = inl e
sooner C f s ss d n k (suc i) l e g = inr (k, (i, omega arith, e), g)

skip : (C : CostsValue) (f : ℕ → ℕ) (s : WalkStep) (ss : List WalkStep) (d : ℕ) → (s.to ≡ d → min (f s.from + s.cost) C.ceiling ≡ f d → ⊥)
    → HasSmallest C f ss d → HasSmallest C f (s ∷ ss) d
skip C f s ss d other (inl h) = inl (
  h.0,
  later C f s ss d h.0 h.1,
  λ m x. elim (sooner C f s ss d m x.0 x.1.0 x.1.1 x.1.2 x.2) [
    | inl e ↦ absurd (other (ap (λ (t : WalkStep). t.to) e) (ap (λ (t : WalkStep). min (f t.from + t.cost) C.ceiling) e ∙ x.2))
    | inr y ↦ h.2 m y
  ],
)
skip C f s ss d other (inr h) = inr (λ m x. elim (sooner C f s ss d m x.0 x.1.0 x.1.1 x.1.2 x.2) [
  | inl e ↦ other (ap (λ (t : WalkStep). t.to) e) (ap (λ (t : WalkStep). min (f t.from + t.cost) C.ceiling) e ∙ x.2)
  | inr y ↦ h m y
])

take_first : (C : CostsValue) (f : ℕ → ℕ) (s : WalkStep) (ss : List WalkStep) (d : ℕ) → s.to ≡ d → min (f s.from + s.cost) C.ceiling ≡ f d
    → ((m : ℕ) → LeadsBy C f ss d m → s.from ≤ m) → HasSmallest C f (s ∷ ss) d
take_first C f s ss d t g below = inl (
  s.from,
  (s.cost, (0, omega arith, ap (λ m. record { from = s.from; to = m; cost = s.cost }) t), g),
  λ m x.
      elim (sooner C f s ss d m x.0 x.1.0 x.1.1 x.1.2 x.2) [
        | inl e ↦ let q : s.from ≡ m = ap (λ (u : WalkStep). u.from) e in omega arith
        | inr y ↦ below m y
      ],
)

keep_rest : (C : CostsValue) (f : ℕ → ℕ) (s : WalkStep) (ss : List WalkStep) (d n : ℕ) → n ≤ s.from → LeadsBy C f ss d n
    → ((m : ℕ) → LeadsBy C f ss d m → n ≤ m) → HasSmallest C f (s ∷ ss) d
keep_rest C f s ss d n l h below = inl (
  n,
  later C f s ss d n h,
  λ m x.
      elim (sooner C f s ss d m x.0 x.1.0 x.1.1 x.1.2 x.2) [
        | inl e ↦ let q : s.from ≡ m = ap (λ (u : WalkStep). u.from) e in omega arith
        | inr y ↦ below m y
      ],
)

or_first : (C : CostsValue) (f : ℕ → ℕ) (s : WalkStep) (ss : List WalkStep) (d : ℕ) → s.to ≡ d → min (f s.from + s.cost) C.ceiling ≡ f d
    → HasSmallest C f ss d → HasSmallest C f (s ∷ ss) d
or_first C f s ss d t g (inr h) = take_first C f s ss d t g (λ m y. absurd (h m y))
or_first C f s ss d t g (inl h) = by_test (nat_le s.from h.0) refl
  where
    by_test : (q : Bool) → nat_le s.from h.0 ≡ q → HasSmallest C f (s ∷ ss) d
    by_test true e = let a = leb-true s.from h.0 e in take_first C f s ss d t g (λ m y. let b = h.2 m y in omega arith)
    by_test false e = let a = leb-false s.from h.0 e in keep_rest C f s ss d h.0 (omega arith) h.1 h.2

smallest : (C : CostsValue) (f : ℕ → ℕ) (ss : List WalkStep) (d : ℕ) → HasSmallest C f ss d
smallest C f [] d = inr (λ m h. let l = h.1.1 in absurd (omega arith))
smallest C f (s ∷ ss) d = by_test (nat_eq s.to d) refl (nat_eq (min (f s.from + s.cost) C.ceiling) (f d)) refl (smallest C f ss d)
  where
    by_test : (q : Bool) → nat_eq s.to d ≡ q → (p : Bool) → nat_eq (min (f s.from + s.cost) C.ceiling) (f d) ≡ p → HasSmallest C f ss d → HasSmallest C f (s ∷ ss) d
    by_test true t true g ih = or_first C f s ss d (eqb-true s.to d t) (eqb-true (min (f s.from + s.cost) C.ceiling) (f d) g) ih
    by_test true t false g ih = skip C f s ss d (λ x y. eqb-false (min (f s.from + s.cost) C.ceiling) (f d) g y) ih
    by_test false t p g ih = skip C f s ss d (λ x y. eqb-false s.to d t x) ih

-- ---- one best walk

pub start_one : (C : CostsValue) → IsCosts C → (d s r : ℕ) → StartsAt C d s → StartsAt C d r → s ≡ r
start_one C co d s r h k = sym (has_start C co d s h) ∙ has_start C co d r k

best_one : (C : CostsValue) → IsCosts C → {d e : ℕ} {w x : List ℕ} → d ≡ e → IsBestWalk C d w → IsBestWalk C e x → w ≡ x
best_one C co q (alone d s st l) (alone e r st' l') = ap (λ y. y ∷ []) q
best_one C co q (alone d s st l) (onward e r v n w st' l' ne le sm b) =
    absurd (ne (start_one C co e r s st' (subst (λ y. StartsAt C y s) q st) ∙ one_least C e s v (subst (λ y. IsLeastCost C y s) q l) l'))
best_one C co q (onward d s v n w st l ne le sm b) (alone e r st' l') =
    absurd (ne (start_one C co d s r st (subst (λ y. StartsAt C y r) (sym q) st') ∙ one_least C d r v (subst (λ y. IsLeastCost C y r) (sym q) l') l))
best_one C co q (onward d s v n w st l ne le sm b) (onward e r u m x st' l' ne' le' sm' b') =
    let a : u ≡ v = one_least C d u v (subst (λ y. IsLeastCost C y u) (sym q) l') l in
    let f : LeadsTo C m d v = subst (λ y. LeadsTo C m y v) (sym q) (subst (λ z. LeadsTo C m e z) a le') in
    let g : LeadsTo C n e u = subst (λ y. LeadsTo C n y u) q (subst (λ z. LeadsTo C n d z) (sym a) le) in
    let i = sm m f in
    let j = sm' n g in
    ap (λ y. w ++ y ∷ []) q ∙ ap (λ y. y ++ e ∷ []) (best_one C co (omega arith) b b')

pub one_best : OneBestWalk
one_best C d w x co a b = best_one C co refl a b

-- ---- what it costs

best_cost : (C : CostsValue) → IsCosts C → {d : ℕ} {w : List ℕ} (v : ℕ) → IsBestWalk C d w → IsLeastCost C d v → WalkCosts C w d v
best_cost C co v (alone d s st l) m = subst (λ y. WalkCosts C (d ∷ []) d y) (one_least C d s v l m) (cost_alone C d s st (start_most C co d s st))
best_cost C co v (onward d s u n w st l ne le sm b) m =
    subst (λ y. WalkCosts C (w ++ d ∷ []) d y) (le.sum ∙ one_least C d u v l m) (cost_on C w n le.value d le.cost (best_cost C co le.value b le.least) le.step)

pub best_walks_cost_least : BestWalksCostLeast
best_walks_cost_least C d v w co b l = best_cost C co v b l

-- ---- there is one

module _ (C : CostsValue) (co : IsCosts C) where
  leads_by : (d m : ℕ) → LeadsTo C m d (final C d) → LeadsBy C (final C) C.steps d m
  leads_by d m le =
      let a : final C m ≡ le.value = one_least C m (final C m) le.value (final_least C co m (step_fits C co m d le.cost le.step).from) le.least in
      (le.cost, le.step, ap (λ x. min (x + le.cost) C.ceiling) a ∙ le.sum)

  leads_to : (d m : ℕ) → LeadsBy C (final C) C.steps d m → LeadsTo C m d (final C d)
  leads_to d m h = record {
    value = final C m;
    cost = h.0;
    least = final_least C co m (step_fits C co m d h.0 h.1).from;
    step = h.1;
    sum = h.2;
  }

  best_onward : (n d s : ℕ) → ((m r : ℕ) → final C m < n → StartsAt C m r → (w : List ℕ) × IsBestWalk C m w) → final C d < suc n → StartsAt C d s
      → s ≢ final C d → HasSmallest C (final C) C.steps d → (w : List ℕ) × IsBestWalk C d w
  best_onward n d s ih l h ne (inl x) =
      let fits = step_fits C co x.0 d x.1.0 x.1.1 in
      let a = fits.some in
      let b = (final_fixed C co).start d s h in
      let c = start_most C co d s h in
      let g : min (final C x.0 + x.1.0) C.ceiling ≡ final C d = x.1.2 in
      let p : final C d < s = omega (arith, ne) in
      let w = ih x.0 fits.from.0 (omega arith) fits.from.1 in
      (w.0 ++ d ∷ [], onward d s (final C d) x.0 w.0 h (final_least C co d (s, h)) ne (leads_to d x.0 x.1) (λ m y. x.2 m (leads_by d m y)) w.1)
  best_onward n d s ih l h ne (inr nobody) =
      absurd (elim ((final_fixed C co).made d s h) [
        | inl e ↦ ne (sym e)
        | inr m ↦ nobody m.0 (m.1, m.2, sym m.3)
      ])

  best_below : (n d s : ℕ) → final C d < n → StartsAt C d s → (w : List ℕ) × IsBestWalk C d w
  best_below zero d s l h = absurd (omega arith)
  best_below (suc n) d s l h = by_test (best_below n) (nat_eq s (final C d)) refl
    where
      by_test : ((m r : ℕ) → final C m < n → StartsAt C m r → (w : List ℕ) × IsBestWalk C m w) → (q : Bool) → nat_eq s (final C d) ≡ q → (w : List ℕ) × IsBestWalk C d w
      by_test ih true t =
          let e = eqb-true s (final C d) t in
          (d ∷ [], alone d s h (subst (λ y. IsLeastCost C d y) (sym e) (final_least C co d (s, h))))
      by_test ih false t = best_onward n d s ih l h (eqb-false s (final C d) t) (smallest C (final C) C.steps d)

  -- where a start isn't the least cost a neighbour makes it up
  pub some_leads : (d s v : ℕ) → StartsAt C d s → IsLeastCost C d v → s ≢ v → (m : ℕ) × LeadsTo C m d v
  some_leads d s v h l ne =
      let e : final C d ≡ v = one_least C d (final C d) v (final_least C co d (s, h)) l in
      elim ((final_fixed C co).made d s h) [
        | inl f ↦ absurd (ne (sym f ∙ e))
        | inr m ↦ (m.0, subst (λ x. LeadsTo C m.0 d x) e (leads_to d m.0 (m.1, m.2, sym m.3)))
      ]

  -- evidence for some of the devices
  abbrev Evident : List (ℕ × ℕ) → List EvidenceValue → Type 0
  Evident xs es = (map (λ (e : EvidenceValue). e.device) es ≡ map (λ (d : ℕ × ℕ). d.0) xs)
      × All (λ (e : EvidenceValue). IsLeastCost C e.device e.value) es × All (λ (e : EvidenceValue). IsBestWalk C e.device e.walk) es

  some_evidence : (xs : List (ℕ × ℕ)) → All (λ (x : ℕ × ℕ). IsDevice C x.0) xs → (es : List EvidenceValue) × Evident xs es
  some_evidence [] a = ([], (refl, All-nil (λ (e : EvidenceValue). IsLeastCost C e.device e.value), All-nil (λ (e : EvidenceValue). IsBestWalk C e.device e.walk)))
  some_evidence (x ∷ xs) a =
      let dev = All-head (λ (y : ℕ × ℕ). IsDevice C y.0) x xs a in
      let rest = some_evidence xs (All-tail (λ (y : ℕ × ℕ). IsDevice C y.0) x xs a) in
      let w = best_below (suc (final C x.0)) x.0 dev.0 (omega arith) dev.1 in
      let e : EvidenceValue = record { device = x.0; value = final C x.0; walk = w.0 } in (
        e ∷ rest.0,
        (
          ap (λ (ds : List ℕ). x.0 ∷ ds) rest.1.0,
          All-cons (λ (f : EvidenceValue). IsLeastCost C f.device f.value) e rest.0 (final_least C co x.0 dev) rest.1.1,
          All-cons (λ (f : EvidenceValue). IsBestWalk C f.device f.walk) e rest.0 w.1 rest.1.2,
        ),
      )

  starts_are_devices : All (λ (x : ℕ × ℕ). IsDevice C x.0) C.start
  starts_are_devices = All-from_get_or (λ (x : ℕ × ℕ). IsDevice C x.0) C.start (0, 0) (λ i l. ((get_or C.start i (0, 0)).1, Contains-get_or C.start i (0, 0) l))

pub some_trace : SomeTrace
some_trace C co =
    let r = some_evidence C co C.start (starts_are_devices C co) in
    (r.0, record { devices = r.1.0; least = r.1.1; best = r.1.2 })

-- ---- one trace

evidence_one : (C : CostsValue) → IsCosts C → (es fs : List EvidenceValue) → map (λ (e : EvidenceValue). e.device) es ≡ map (λ (e : EvidenceValue). e.device) fs
    → All (λ (e : EvidenceValue). IsLeastCost C e.device e.value) es → All (λ (e : EvidenceValue). IsBestWalk C e.device e.walk) es
    → All (λ (e : EvidenceValue). IsLeastCost C e.device e.value) fs → All (λ (e : EvidenceValue). IsBestWalk C e.device e.walk) fs → es ≡ fs
evidence_one C co [] [] q l b m c = refl
evidence_one C co [] (f ∷ fs) q l b m c = absurd (cc)
evidence_one C co (e ∷ es) [] q l b m c = absurd (cc)
evidence_one C co (e ∷ es) (f ∷ fs) q l b m c =
    let d : e.device ≡ f.device = cc in
    let r : map (λ (x : EvidenceValue). x.device) es ≡ map (λ (x : EvidenceValue). x.device) fs = cc in
    let L : EvidenceValue → Type 0 = λ (x : EvidenceValue). IsLeastCost C x.device x.value in
    let B : EvidenceValue → Type 0 = λ (x : EvidenceValue). IsBestWalk C x.device x.walk in
    let v : e.value ≡ f.value = one_least C f.device e.value f.value (subst (λ y. IsLeastCost C y e.value) d (All-head L e es l)) (All-head L f fs m) in
    let w : e.walk ≡ f.walk = best_one C co d (All-head B e es b) (All-head B f fs c) in
    let x = evidence_one C co es fs r (All-tail L e es l) (All-tail B e es b) (All-tail L f fs m) (All-tail B f fs c) in
    let y : e ≡ f = same_evidence e f d v w in
    ap (λ z. z ∷ es) y ∙ ap (λ z. f ∷ z) x
  where
    same_evidence : (g h : EvidenceValue) → g.device ≡ h.device → g.value ≡ h.value → g.walk ≡ h.walk → g ≡ h
    same_evidence g h d v w =
        ap (λ x. record { device = x; value = g.value; walk = g.walk }) d
        ∙ ap (λ x. record { device = h.device; value = x; walk = g.walk }) v
        ∙ ap (λ x. record { device = h.device; value = h.value; walk = x }) w

pub one_trace : OneTrace
one_trace C es fs co a b = evidence_one C co es fs (a.devices ∙ sym b.devices) a.least a.best b.least b.best

-- ---- claims

pairs_numbers : (es : List EvidenceValue) → map (λ (x : ℕ × ℕ). x.0) (values_in es) ≡ map (λ (e : EvidenceValue). e.device) es
pairs_numbers [] = refl
pairs_numbers (e ∷ es) = ap (λ (ds : List ℕ). e.device ∷ ds) (pairs_numbers es)

pairs_get : (es : List EvidenceValue) (i : ℕ) (e : EvidenceValue) (x : ℕ × ℕ) → i < length es
    → get_or (values_in es) i x ≡ ((get_or es i e).device, (get_or es i e).value)
pairs_get [] i e x l = absurd (omega arith)
pairs_get (f ∷ es) zero e x l = refl
pairs_get (f ∷ es) (suc i) e x l = pairs_get es i e x (omega arith)

pairs_length : (es : List EvidenceValue) → length (values_in es) ≡ length es
pairs_length [] = refl
pairs_length (e ∷ es) = ap suc (pairs_length es)

-- the value that a claim has for the device at a place
pub value_at : (C : CostsValue) → IsCosts C → (es : List EvidenceValue) → map (λ (e : EvidenceValue). e.device) es ≡ map (λ (d : ℕ × ℕ). d.0) C.start
    → (i : ℕ) (e : EvidenceValue) → i < length es → value_in es (get_or es i e).device ≡ (get_or es i e).value
value_at C co es q i e l =
    has_here (values_in es) (get_or es i e).device (get_or es i e).value i (subst Rises (sym (pairs_numbers es ∙ q)) co.rising) (omega (arith, pairs_length es)) (pairs_get es i e ((get_or es i e).device, (get_or es i e).value) l)

pub claims_least : ClaimsAreLeast
claims_least C es co h = All-from_get_or (λ (e : EvidenceValue). IsLeastCost C e.device e.value) es (record { device = 0; value = 0; walk = [] }) (λ i l.
    let none : EvidenceValue = record { device = 0; value = 0; walk = [] } in
    let e = get_or es i none in
    let w = All-get_or (λ (f : EvidenceValue). WalkCosts C f.walk f.device f.value) es i none l h.walks in
    let v = value_at C co es h.devices i none l in
    subst (λ x. IsLeastCost C e.device x) v (least_from C (value_in es) co
    (λ d s k. All-contains (λ (d : ℕ × ℕ). value_in es d.0 ≤ d.1) C.start (d, s) h.starts k)
    (λ n d c k. All-contains (λ (s : WalkStep). value_in es s.to ≤ min (value_in es s.from + s.cost) C.ceiling) C.steps (record { from = n; to = d; cost = c }) h.steps k)
    e.device (e.walk, subst (λ x. WalkCosts C e.walk e.device x) (sym v) w)))

-- the value of a device in a trace
number_there : (xs : List (ℕ × ℕ)) (es : List EvidenceValue) → map (λ (e : EvidenceValue). e.device) es ≡ map (λ (d : ℕ × ℕ). d.0) xs
    → (d s i : ℕ) → i < length xs → get_or xs i (d, s) ≡ (d, s) → (e : EvidenceValue) → (i < length es) × ((get_or es i e).device ≡ d)
number_there [] es q d s i l g e = absurd (omega arith)
number_there (x ∷ xs) [] q d s i l g e = absurd (cc)
number_there (x ∷ xs) (f ∷ es) q d s zero l g e =
    let a : f.device ≡ x.0 = cc in
    (omega arith, a ∙ ap (λ (y : ℕ × ℕ). y.0) g)
number_there (x ∷ xs) (f ∷ es) q d s (suc i) l g e =
    let r : map (λ (y : EvidenceValue). y.device) es ≡ map (λ (y : ℕ × ℕ). y.0) xs = cc in
    let h = number_there xs es r d s i (omega arith) g e in
    let k = h.0 in
    (omega arith, h.1)

traced_least : (C : CostsValue) → IsCosts C → (es : List EvidenceValue) → AreTraced C es → (d : ℕ) → IsDevice C d → IsLeastCost C d (value_in es d)
traced_least C co es t d h =
    let none : EvidenceValue = record { device = 0; value = 0; walk = [] } in
    let i = h.1.0 in
    let a = number_there C.start es t.devices d h.0 i h.1.1 h.1.2 none in
    let e = get_or es i none in
    let v = value_at C co es t.devices i none a.0 in
    let l = All-get_or (λ (f : EvidenceValue). IsLeastCost C f.device f.value) es i none a.0 t.least in
    subst (λ x. IsLeastCost C x (value_in es x)) a.1 (subst (λ x. IsLeastCost C e.device x) (sym v) l)

pub traced_hold : TracedClaimsHold
traced_hold C es co t = record {
  devices = t.devices;
  walks = All-from_get_or (λ (e : EvidenceValue). WalkCosts C e.walk e.device e.value) es (record { device = 0; value = 0; walk = [] }) (λ i l.
      let none : EvidenceValue = record { device = 0; value = 0; walk = [] } in
      let b = All-get_or (λ (f : EvidenceValue). IsBestWalk C f.device f.walk) es i none l t.best in
      let m = All-get_or (λ (f : EvidenceValue). IsLeastCost C f.device f.value) es i none l t.least in
      best_walks_cost_least C (get_or es i none).device (get_or es i none).value (get_or es i none).walk co b m);
  starts = All-from_get_or (λ (d : ℕ × ℕ). value_in es d.0 ≤ d.1) C.start (0, 0) (λ i l.
      let x = get_or C.start i (0, 0) in
      let st : StartsAt C x.0 x.1 = Contains-get_or C.start i (0, 0) l in
      least_start C co x.0 (value_in es x.0) x.1 (traced_least C co es t x.0 (x.1, st)) st);
  steps = All-from_get_or (λ (s : WalkStep). value_in es s.to ≤ min (value_in es s.from + s.cost) C.ceiling) C.steps (record { from = 0; to = 0; cost = 0 }) (λ i l.
      let s = get_or C.steps i (record { from = 0; to = 0; cost = 0 }) in
      let st : StepsAt C s.from s.to s.cost = Contains-get_or C.steps i (record { from = 0; to = 0; cost = 0 }) l in
      let fits = step_fits C co s.from s.to s.cost st in
      least_step C s.from s.to (value_in es s.from) (value_in es s.to) s.cost (traced_least C co es t s.from fits.from) (traced_least C co es t s.to fits.to) st);
}
