-- The device before another on its best walk.
use Rattle.std.proofs.Common.{◌≡◌, ◌≢◌, ℕ, zero, suc, ◌+◌, ◌<◌, ◌≤◌, inl, inr, min, List, [], ◌∷◌, ◌++◌, length, get_or, take, map, reverse, refl, sym, ◌∙◌, ap, subst, arith, Bool, true, false, nat_lt}
use Rattle.std.specs.List.{All, AllPairs, AllWithin, Contains}
use Rattle.std.proofs.lemmas.Bool.{ltb-true, ltb-false}
use Rattle.std.proofs.lemmas.List.{get_or_default, map-append, map_more, reverse-append}
use Rattle.std.proofs.lemmas.List.Elements.{All-map}
use Rattle.walks.specs.declared.types.WalkStep.{WalkStep}
use Rattle.walks.specs.declared.types.Evidence.{Evidence}
use Rattle.walks.specs.Walks.{CostsValue, EvidenceValue, evidence_of, claim_of, AreTraced, StartsAt, IsDevice, StepsAt, IsLeastCost, LeadsTo, IsBestWalk, alone, onward, IsBefore, IsCosts}
use Rattle.walks.specs.Tables.{AreLeast, IsParent, itself, neighbour}
use Rattle.walks.proofs.Goes.{start_most, step_fits}
use Rattle.walks.proofs.Least.{one_least, least_start}
use Rattle.walks.proofs.Best.{some_leads}

module _ (C : CostsValue) (co : IsCosts C) where
  leads_lower : (d s v n : ℕ) → StartsAt C d s → IsLeastCost C d v → s ≢ v → (le : LeadsTo C n d v) → le.value < v
  leads_lower d s v n st l ne le =
      let a = least_start C co d v s l st in
      let b = start_most C co d s st in
      let f = (step_fits C co n d le.cost le.step).some in
      let q : min (le.value + le.cost) C.ceiling ≡ v = le.sum in
      let p : v < s = omega (arith, ne) in
      omega arith

  pub parent_falls : (vs : List ℕ) → AreLeast C vs → (d n : ℕ) → IsDevice C d → IsParent C d n → (n ≡ d → ⊥) → get_or vs n 0 < get_or vs d 0
  parent_falls vs least d _ dev (itself s st l) ne = absurd (ne refl)
  parent_falls vs least d n dev (neighbour s v _ st l other le sm) ne =
      let f = step_fits C co n d le.cost le.step in
      let a = leads_lower d s v n st l other le in
      let b = one_least C n le.value (get_or vs n 0) le.least (least n f.from).1 in
      let e = one_least C d v (get_or vs d 0) l (least d dev).1 in
      omega arith

  pub parent_device : (d n : ℕ) → IsDevice C d → IsParent C d n → IsDevice C n
  parent_device d _ dev (itself s st l) = dev
  parent_device d n dev (neighbour s v _ st l other le sm) = (step_fits C co n d le.cost le.step).from

  pub parent_best : (d n : ℕ) (w : List ℕ) → IsParent C d n → (n ≡ d → ⊥) → IsBestWalk C n w → IsBestWalk C d (w ++ d ∷ [])
  parent_best d _ w (itself s st l) ne b = absurd (ne refl)
  parent_best d n w (neighbour s v _ st l other le sm) ne b = onward d s v n w st l other le sm b

  pub parent_alone : (d n : ℕ) → IsParent C d n → n ≡ d → IsBestWalk C d (d ∷ [])
  parent_alone d _ (itself s st l) e = alone d s st l
  parent_alone d n (neighbour s v _ st l other le sm) e =
      let a = leads_lower d s v n st l other le in
      let b = one_least C d le.value v (subst (λ x. IsLeastCost C x le.value) e le.least) l in
      absurd (omega arith)

  -- ---- the smallest neighbour among the steps from a device, rising

  leads_at : (part : List WalkStep) (d v : ℕ) → ((to cost : ℕ) → StepsAt C d to cost → Contains part (record { from = d; to = to; cost = cost }))
      → (m : ℕ) → LeadsTo C m d v → (k : ℕ) × (k < length part) × ((s : WalkStep) → (get_or part k s).to ≡ m)
  leads_at part d v all m le =
      let j = co.both_ways m d le.cost le.step in
      let h = all m j.0 j.1 in
      (h.0, h.1, λ s. ap (λ (t : WalkStep). t.to) (get_or_default part h.0 s (record { from = d; to = m; cost = j.0 }) h.1 ∙ h.2))

  pub smallest_first : (part : List WalkStep) (d v i : ℕ) (none : WalkStep) → ((to cost : ℕ) → StepsAt C d to cost → Contains part (record { from = d; to = to; cost = cost }))
      → AllPairs IsBefore part → All (λ (s : WalkStep). s.from ≡ d) part → i < length part → AllWithin (λ (s : WalkStep). LeadsTo C s.to d v → ⊥) part 0 i
      → (m : ℕ) → LeadsTo C m d v → (get_or part i none).to ≤ m
  smallest_first part d v i none all order from l other m le = at (leads_at part d v all m le)
    where
      at : (k : ℕ) × (k < length part) × ((s : WalkStep) → (get_or part k s).to ≡ m) → (get_or part i none).to ≤ m
      at x = by_place (nat_lt x.0 i) refl (nat_lt i x.0) refl
        where
          by_place : (p : Bool) → nat_lt x.0 i ≡ p → (q : Bool) → nat_lt i x.0 ≡ q → (get_or part i none).to ≤ m
          by_place true e q f = absurd (other x.0 none (omega arith) (ltb-true x.0 i e) (subst (λ y. LeadsTo C y d v) (sym (x.2 none)) le))
          by_place false e true f =
              let g = ltb-true i x.0 f in
              let t = x.2 none in
              let u = from i none l in
              let w = from x.0 none x.1 in
              elim (order i x.0 none g x.1) [
                | inl a ↦ absurd (omega arith)
                | inr a ↦ let b = a.1 in omega arith
              ]
          by_place false e false f =
              let a = ltb-false x.0 i e in
              let b = ltb-false i x.0 f in
              let q : x.0 ≡ i = omega arith in
              let t : (get_or part i none).to ≡ m = ap (λ k. (get_or part k none).to) (sym q) ∙ x.2 none in
              omega arith

  pub none_leads_to : (part : List WalkStep) (d v i : ℕ) → ((to cost : ℕ) → StepsAt C d to cost → Contains part (record { from = d; to = to; cost = cost }))
      → length part ≤ i → AllWithin (λ (s : WalkStep). LeadsTo C s.to d v → ⊥) part 0 i → (m : ℕ) → LeadsTo C m d v → ⊥
  none_leads_to part d v i all l other m le =
      let none : WalkStep = record { from = 0; to = 0; cost = 0 } in
      let x = leads_at part d v all m le in
      let k = x.1 in
      other x.0 none (omega arith) (omega arith) (subst (λ y. LeadsTo C y d v) (sym (x.2 none)) le)

  pub parent_none : (d s v : ℕ) → StartsAt C d s → IsLeastCost C d v → s ≢ v → ((m : ℕ) → LeadsTo C m d v → ⊥) → ⊥
  parent_none d s v st l ne other = let x = some_leads C co d s v st l ne in other x.0 x.1

-- ---- the walk and the traces, one after another

pub reverse_push : (xs : List ℕ) (x : ℕ) → reverse (xs ++ x ∷ []) ≡ x ∷ reverse xs
reverse_push xs x = reverse-append xs (x ∷ [])

pub take_rest : (n : ℕ) (xs : List (ℕ × ℕ)) → length xs ≤ n → take n xs ≡ xs
take_rest zero [] l = refl
take_rest zero (x ∷ xs) l = absurd (omega arith)
take_rest (suc n) [] l = refl
take_rest (suc n) (x ∷ xs) l = ap (λ ys. x ∷ ys) (take_rest n xs (omega arith))

pub more_devices : (xs : List (ℕ × ℕ)) (ts us : List Evidence) (i : ℕ) (e : Evidence) → i < length xs → e.device ≡ (get_or xs i (0, 0)).0 → us ≡ ts ++ e ∷ []
    → map (λ (f : Evidence). f.device) ts ≡ map (λ (d : ℕ × ℕ). d.0) (take i xs) → map (λ (f : Evidence). f.device) us ≡ map (λ (d : ℕ × ℕ). d.0) (take (i + 1) xs)
more_devices xs ts us i e l d p q =
    ap (λ ys. map (λ (f : Evidence). f.device) ys) p ∙ map-append (λ (f : Evidence). f.device) ts (e ∷ [])
    ∙ ap (λ ns. ns ++ e.device ∷ []) q ∙ ap (λ n. map (λ (x : ℕ × ℕ). x.0) (take i xs) ++ n ∷ []) d ∙ sym (map_more (λ (x : ℕ × ℕ). x.0) xs i (0, 0) l)

claim_devices : (ts : List Evidence) → map (λ (e : EvidenceValue). e.device) (claim_of ts) ≡ map (λ (f : Evidence). f.device) ts
claim_devices [] = refl
claim_devices (t ∷ ts) = ap (λ (ns : List ℕ). t.device ∷ ns) (claim_devices ts)

pub are_traced : (C : CostsValue) (xs : List (ℕ × ℕ)) (ts : List Evidence) (i : ℕ) → xs ≡ C.start → length xs ≤ i
    → map (λ (f : Evidence). f.device) ts ≡ map (λ (d : ℕ × ℕ). d.0) (take i xs) → All (λ (e : Evidence). IsLeastCost C e.device e.value) ts
    → All (λ (e : Evidence). IsBestWalk C e.device e.walk.items) ts → AreTraced C (claim_of ts)
are_traced C xs ts i q l d a b = record {
  devices = claim_devices ts ∙ d ∙ ap (λ ys. map (λ (x : ℕ × ℕ). x.0) ys) (take_rest i xs l ∙ q);
  least = All-map (λ (e : EvidenceValue). IsLeastCost C e.device e.value) evidence_of ts a;
  best = All-map (λ (e : EvidenceValue). IsBestWalk C e.device e.walk) evidence_of ts b;
}
