-- What a claim has at a place, and what its devices are.
use Rattle.std.proofs.Common.{◌≡◌, ℕ, zero, suc, ◌<◌, List, [], ◌∷◌, length, get_or, map, refl, sym, ◌∙◌, ap, subst, arith}
use Rattle.std.specs.List.{All, Contains}
use Rattle.std.proofs.lemmas.Bool.{ne_eqb}
use Rattle.walks.specs.declared.types.Evidence.{Evidence}
use Rattle.walks.specs.Walks.{CostsValue, EvidenceValue, evidence_of, claim_of, IsCosts, has, value_in, WalkCosts}
use Rattle.fc_values.specs.Fields.{Rises}
use Rattle.std.proofs.lemmas.List.{get_or_default}
use Rattle.walks.proofs.Fixed.{has_here}
use Rattle.walks.proofs.Best.{value_at}

pub evidence_get : (es : List Evidence) (i : ℕ) (e : Evidence) (f : EvidenceValue) → i < length es → get_or (claim_of es) i f ≡ evidence_of (get_or es i e)
evidence_get [] i e f l = absurd (omega arith)
evidence_get (x ∷ es) zero e f l = refl
evidence_get (x ∷ es) (suc i) e f l = evidence_get es i e f (omega arith)

pub claim_length : (es : List Evidence) → length (claim_of es) ≡ length es
claim_length [] = refl
claim_length (e ∷ es) = ap suc (claim_length es)

abbrev pub SameNumbers : List Evidence → List (ℕ × ℕ) → Type 0
SameNumbers es xs = map (λ (e : EvidenceValue). e.device) (claim_of es) ≡ map (λ (d : ℕ × ℕ). d.0) xs

pub same_numbers : (es : List Evidence) (xs : List (ℕ × ℕ)) → length es ≡ length xs
    → ((k : ℕ) (e : Evidence) (d : ℕ × ℕ) → k < length xs → (get_or es k e).device ≡ (get_or xs k d).0) → SameNumbers es xs
same_numbers [] [] l h = refl
same_numbers [] (x ∷ xs) l h = absurd (omega arith)
same_numbers (e ∷ es) [] l h = absurd (omega arith)
same_numbers (e ∷ es) (x ∷ xs) l h =
    ap (λ n. n ∷ map (λ (f : EvidenceValue). f.device) (claim_of es)) (h 0 e x (omega arith))
    ∙ ap (λ (ns : List ℕ). x.0 ∷ ns) (same_numbers es xs (omega arith) (λ k f d m. h (suc k) f d (omega arith)))

pub numbers_long : (es : List Evidence) (xs : List (ℕ × ℕ)) → SameNumbers es xs → length es ≡ length xs
numbers_long [] [] h = refl
numbers_long [] (x ∷ xs) h = absurd (cc)
numbers_long (e ∷ es) [] h = absurd (cc)
numbers_long (e ∷ es) (x ∷ xs) h = let r : SameNumbers es xs = cc in ap suc (numbers_long es xs r)

pub numbers_at : (es : List Evidence) (xs : List (ℕ × ℕ)) → SameNumbers es xs → (k : ℕ) (e : Evidence) (d : ℕ × ℕ) → k < length xs → (get_or es k e).device ≡ (get_or xs k d).0
numbers_at es [] h k e d l = absurd (omega arith)
numbers_at [] (x ∷ xs) h k e d l = absurd (cc)
numbers_at (f ∷ es) (x ∷ xs) h zero e d l = cc
numbers_at (f ∷ es) (x ∷ xs) h (suc k) e d l = let r : SameNumbers es xs = cc in numbers_at es xs r k e d (omega arith)

-- the value at the place of a device
pub value_there : (C : CostsValue) → IsCosts C → (es : List Evidence) → SameNumbers es C.start → (i d : ℕ) (e : Evidence) → i < length C.start
    → (get_or C.start i (0, 0)).0 ≡ d → value_in (claim_of es) d ≡ (get_or es i e).value
value_there C co es q i d e l f =
    let long = numbers_long es C.start q in
    let k : i < length es = omega arith in
    let g = evidence_get es i e (evidence_of e) k in
    let v = value_at C co (claim_of es) q i (evidence_of e) (omega (arith, claim_length es)) in
    let n : (get_or (claim_of es) i (evidence_of e)).device ≡ d = ap (λ (x : EvidenceValue). x.device) g ∙ numbers_at es C.start q i e (0, 0) l ∙ f in
    ap (λ x. value_in (claim_of es) x) (sym n) ∙ v ∙ ap (λ (x : EvidenceValue). x.value) g

not_later : (x : ℕ × ℕ) (xs : List (ℕ × ℕ)) (d : ℕ) → ((s : ℕ) → Contains (x ∷ xs) (d, s) → ⊥) → (s : ℕ) → Contains xs (d, s) → ⊥
not_later x xs d h s k = let l = k.1 in h s (suc k.0, omega arith, k.2)

-- where there is no such device there is no value
pub value_nowhere : (es : List Evidence) (xs : List (ℕ × ℕ)) → SameNumbers es xs → (d : ℕ) → ((s : ℕ) → Contains xs (d, s) → ⊥) → value_in (claim_of es) d ≡ 0
value_nowhere [] xs q d h = refl
value_nowhere (e ∷ es) [] q d h = absurd (cc)
value_nowhere (e ∷ es) (x ∷ xs) q d h =
    let r : SameNumbers es xs = cc in
    let n : e.device ≡ x.0 = cc in
    rw (ne_eqb e.device d (λ m. h x.1 (0, omega arith, ap (λ y. (y, x.1)) (sym n ∙ m)))) (value_nowhere es xs r d (not_later x xs d h))

-- pairs with and without a device
pub has_at : (xs : List (ℕ × ℕ)) (d : ℕ) → ((s : ℕ) → Contains xs (d, s) → ⊥) → has xs d ≡ 0
has_at [] d h = refl
has_at (x ∷ xs) d h = rw (ne_eqb x.0 d (λ m. h x.1 (0, omega arith, ap (λ y. (y, x.1)) m))) (has_at xs d (not_later x xs d h))

-- each walk of a claim costs its value
pub walks_have : (C : CostsValue) (es : List Evidence) → All (λ (e : Evidence). WalkCosts C e.walk.items e.device e.value) es
    → All (λ (e : EvidenceValue). WalkCosts C e.walk e.device e.value) (claim_of es)
walks_have C [] h k f l = absurd (omega arith)
walks_have C (e ∷ es) h zero f l = h 0 e (omega arith)
walks_have C (e ∷ es) h (suc k) f l = walks_have C es (λ i g m. h (suc i) g (omega arith)) k f (omega arith)

pub walk_at : (C : CostsValue) (es : List Evidence) (k : ℕ) (e : Evidence) → k < length es → All (λ (e : EvidenceValue). WalkCosts C e.walk e.device e.value) (claim_of es)
    → WalkCosts C (get_or es k e).walk.items (get_or es k e).device (get_or es k e).value
walk_at C [] k e l h = absurd (omega arith)
walk_at C (x ∷ es) zero e l h = h 0 (evidence_of e) (omega arith)
walk_at C (x ∷ es) (suc k) e l h = walk_at C es k e (omega arith) (λ i f m. h (suc i) f (omega arith))

pub has_read : (xs ys : List (ℕ × ℕ)) (d i : ℕ) (x : ℕ × ℕ) → ys ≡ xs → Rises (map (λ (y : ℕ × ℕ). y.0) xs) → i < length ys → (get_or ys i (0, 0)).0 ≡ d
    → x ≡ get_or xs i x → has xs d ≡ x.1
has_read xs ys d i x q r l e f =
    let m : i < length xs = subst (λ (zs : List (ℕ × ℕ)). i < length zs) q l in
    let n : x.0 ≡ d = ap (λ (y : ℕ × ℕ). y.0) (f ∙ get_or_default xs i x (0, 0) m) ∙ ap (λ (zs : List (ℕ × ℕ)). (get_or zs i (0, 0)).0) (sym q) ∙ e in
    has_here xs d x.1 i r m (get_or_default xs i (d, x.1) x m ∙ sym f ∙ ap (λ y. (y, x.1)) n)

-- a start that was read at a place
pub start_read : (xs ys : List (ℕ × ℕ)) (d i : ℕ) (x : ℕ × ℕ) → ys ≡ xs → i < length ys → (get_or ys i (0, 0)).0 ≡ d → x ≡ get_or xs i x → Contains xs (d, x.1)
start_read xs ys d i x q l e f =
    let m : i < length xs = subst (λ (zs : List (ℕ × ℕ)). i < length zs) q l in
    let n : x.0 ≡ d = ap (λ (y : ℕ × ℕ). y.0) (f ∙ get_or_default xs i x (0, 0) m) ∙ ap (λ (zs : List (ℕ × ℕ)). (get_or zs i (0, 0)).0) (sym q) ∙ e in
    (i, m, get_or_default xs i (d, x.1) x m ∙ sym f ∙ ap (λ y. (y, x.1)) n)
