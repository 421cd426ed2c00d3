-- The neighbours of a device: they rise, what they are, and whether two devices are linked.
use Rattle.std.proofs.Common.{◌≡◌, ◌≢◌, ℕ, zero, suc, ◌<◌, ◌≤◌, ◌⊎◌, inl, inr, min, max, List, [], ◌∷◌, ◌++◌, refl, sym, ◌∙◌, ap, subst, arith, Bool, true, false, nat_eq, if◌then◌else◌, ◌&&◌, ◌||◌}
use Rattle.std.specs.List.{Contains}
use Rattle.std.proofs.lemmas.Bool.{eqb-true, eq-eqb, ne_eqb}
use Rattle.std.proofs.lemmas.List.{map-append}
use Rattle.fc_values.specs.Types.{Declarations}
use Rattle.fc_values.specs.Fields.{Rises, is_in}
use Rattle.topology.specs.Networks.{Edge, near_in, BeforeAll, LinksFit}
use Rattle.topology.specs.Changes.{is_pair, has_pair}
use Rattle.topology.specs.Nearby.{neighbour_numbers}
use Rattle.fc_values.proofs.Rising.{strictly, min_or}
use Rattle.fc_values.proofs.Booleans.{by_iff}
use Rattle.fc_values.proofs.Numbers.{in_append}

-- ---- numbers

-- ---- neighbours, one link after another

pub near_split : (d : ℕ) (l : Edge) (ls : List Edge) → near_in d (l ∷ ls) ≡ near_in d (l ∷ []) ++ near_in d ls
near_split d l ls = by_tests (nat_eq l.a d) (nat_eq l.b d)
  where
    by_tests : (p q : Bool) → (if p then (l.b, l.weight) ∷ near_in d ls else (if q then (l.a, l.weight) ∷ near_in d ls else near_in d ls)) ≡ (if p then (l.b, l.weight) ∷ [] else (if q then (l.a, l.weight) ∷ [] else [])) ++ near_in d ls
    by_tests true q = refl
    by_tests false true = refl
    by_tests false false = refl

pub near_apart : (d : ℕ) (l : Edge) → (l.a ≡ d → ⊥) → (l.b ≡ d → ⊥) → near_in d (l ∷ []) ≡ []
near_apart d l h k = rw (ne_eqb l.a d h, ne_eqb l.b d k) refl

-- ---- they rise

abbrev pub AllAbove : ℕ → List (ℕ × ℕ) → Type 0
AllAbove e [] = Unit {0}
AllAbove e (n ∷ ns) = (e < n.0) × AllAbove e ns

-- the later neighbours of an end of a link are above its other end
pub above_first : (D : Declarations) (ds : List ℕ) (l : Edge) (ms : List Edge) → l.a < l.b → BeforeAll l ms → LinksFit D ds ms → AllAbove l.b (near_in l.a ms)
above_first D ds l [] o b f = tt
above_first D ds l (m ∷ ms) o b f = by_test (nat_eq m.a l.a) (nat_eq m.b l.a) refl refl (above_first D ds l ms o b.1 f.2)
  where
    by_test : (p q : Bool) → nat_eq m.a l.a ≡ p → nat_eq m.b l.a ≡ q → AllAbove l.b (near_in l.a ms) → AllAbove l.b (if p then (m.b, m.weight) ∷ near_in l.a ms else (if q then (m.a, m.weight) ∷ near_in l.a ms else near_in l.a ms))
    by_test true q s t ih = let e = eqb-true m.a l.a s in let k = b.0.second (sym e) in (k, ih)
    by_test false true s t ih = let e = eqb-true m.b l.a t in let k = b.0.first in let o' = f.0.order in absurd (omega arith)
    by_test false false s t ih = ih

pub above_second : (D : Declarations) (ds : List ℕ) (l : Edge) (ms : List Edge) → l.a < l.b → BeforeAll l ms → LinksFit D ds ms → AllAbove l.a (near_in l.b ms)
above_second D ds l [] o b f = tt
above_second D ds l (m ∷ ms) o b f = by_test (nat_eq m.a l.b) (nat_eq m.b l.b) refl refl (above_second D ds l ms o b.1 f.2)
  where
    by_test : (p q : Bool) → nat_eq m.a l.b ≡ p → nat_eq m.b l.b ≡ q → AllAbove l.a (near_in l.b ms) → AllAbove l.a (if p then (m.b, m.weight) ∷ near_in l.b ms else (if q then (m.a, m.weight) ∷ near_in l.b ms else near_in l.b ms))
    by_test true q s t ih = let e = eqb-true m.a l.b s in let o' = f.0.order in (omega arith, ih)
    by_test false true s t ih = (strictly l.a m.a b.0.first (λ e. let k = b.0.second e in let y = eqb-true m.b l.b t in absurd (omega arith)), ih)
    by_test false false s t ih = ih

rises_cons : (e : ℕ) (ns : List (ℕ × ℕ)) → AllAbove e ns → Rises (neighbour_numbers ns) → Rises (e ∷ neighbour_numbers ns)
rises_cons e [] a r = tt
rises_cons e (n ∷ ns) a r = (a.0, r)

pub near_rises : (D : Declarations) (ds : List ℕ) (d : ℕ) (ls : List Edge) → LinksFit D ds ls → Rises (neighbour_numbers (near_in d ls))
near_rises D ds d [] f = tt
near_rises D ds d (l ∷ ls) f = by_test (nat_eq l.a d) (nat_eq l.b d) refl refl (near_rises D ds d ls f.2)
  where
    by_test : (p q : Bool) → nat_eq l.a d ≡ p → nat_eq l.b d ≡ q → Rises (neighbour_numbers (near_in d ls)) → Rises (neighbour_numbers (if p then (l.b, l.weight) ∷ near_in d ls else (if q then (l.a, l.weight) ∷ near_in d ls else near_in d ls)))
    by_test true q s t ih = let e = eqb-true l.a d s in rises_cons l.b (near_in d ls) (subst (λ x. AllAbove l.b (near_in x ls)) e (above_first D ds l ls f.0.order f.1 f.2)) ih
    by_test false true s t ih = let e = eqb-true l.b d t in rises_cons l.a (near_in d ls) (subst (λ x. AllAbove l.a (near_in x ls)) e (above_second D ds l ls f.0.order f.1 f.2)) ih
    by_test false false s t ih = ih

-- ---- what they are

-- a neighbour of d is another device that is there, with a weight in the range of the metric
pub record IsNear (D : Declarations) (ds : List ℕ) (d : ℕ) (n : ℕ × ℕ) : Type 0 where
  pub there : is_in n.0 ds ≡ true
  pub other : n.0 ≢ d
  pub above : D.least ≤ n.1
  pub below : n.1 ≤ D.greatest

abbrev pub AllNear : Declarations → List ℕ → ℕ → List (ℕ × ℕ) → Type 0
AllNear D ds d [] = Unit {0}
AllNear D ds d (n ∷ ns) = IsNear D ds d n × AllNear D ds d ns

pub near_fits : (D : Declarations) (ds : List ℕ) (d : ℕ) (ls : List Edge) → LinksFit D ds ls → AllNear D ds d (near_in d ls)
near_fits D ds d [] f = tt
near_fits D ds d (l ∷ ls) f = by_test (nat_eq l.a d) (nat_eq l.b d) refl refl (near_fits D ds d ls f.2)
  where
    by_test : (p q : Bool) → nat_eq l.a d ≡ p → nat_eq l.b d ≡ q → AllNear D ds d (near_in d ls) → AllNear D ds d (if p then (l.b, l.weight) ∷ near_in d ls else (if q then (l.a, l.weight) ∷ near_in d ls else near_in d ls))
    by_test true q s t ih = let e = eqb-true l.a d s in let o = f.0.order in (record { there = f.0.to; other = λ x. absurd (omega arith); above = f.0.above; below = f.0.below }, ih)
    by_test false true s t ih = let e = eqb-true l.b d t in let o = f.0.order in (record { there = f.0.from; other = λ x. absurd (omega arith); above = f.0.above; below = f.0.below }, ih)
    by_test false false s t ih = ih

pub near_one : (D : Declarations) (ds : List ℕ) (d : ℕ) (n : ℕ × ℕ) (ns : List (ℕ × ℕ)) → AllNear D ds d ns → Contains ns n → IsNear D ds d n
near_one D ds d n [] a c = let h = c.1 in absurd (omega arith)
near_one D ds d n (m ∷ ms) a (zero, h, e) = subst (IsNear D ds d) e a.0
near_one D ds d n (m ∷ ms) a (suc k, h, e) = near_one D ds d n ms a.1 (k, omega arith, e)

pub near_none : (D : Declarations) (ds : List ℕ) (d : ℕ) (ls : List Edge) → LinksFit D ds ls → is_in d ds ≡ false → near_in d ls ≡ []
near_none D ds d [] f n = refl
near_none D ds d (l ∷ ls) f n =
    rw (ne_eqb l.a d (λ e. gone (subst (λ x. is_in x ds ≡ true) e f.0.from)), ne_eqb l.b d (λ e. gone (subst (λ x. is_in x ds ≡ true) e f.0.to))) (near_none D ds d ls f.2 n)
  where
    gone : is_in d ds ≡ true → ⊥
    gone t = absurd (cc)

-- ---- and they are neighbours of each other

in_front : (n : ℕ × ℕ) (ns : List (ℕ × ℕ)) → Contains (n ∷ ns) n
in_front n ns = (zero, omega arith, refl)

further : (n m : ℕ × ℕ) (ns : List (ℕ × ℕ)) → Contains ns n → Contains (m ∷ ns) n
further n m ns c = (suc c.0, (let h = c.1 in omega arith), c.2)

in_more : (d : ℕ) (n : ℕ × ℕ) (l : Edge) (ls : List Edge) → Contains (near_in d ls) n → Contains (near_in d (l ∷ ls)) n
in_more d n l ls c = by_tests (nat_eq l.a d) (nat_eq l.b d)
  where
    by_tests : (p q : Bool) → Contains (if p then (l.b, l.weight) ∷ near_in d ls else (if q then (l.a, l.weight) ∷ near_in d ls else near_in d ls)) n
    by_tests true q = further n (l.b, l.weight) (near_in d ls) c
    by_tests false true = further n (l.a, l.weight) (near_in d ls) c
    by_tests false false = c

first_or : (n m : ℕ × ℕ) (ns : List (ℕ × ℕ)) → Contains (m ∷ ns) n → (m ≡ n) ⊎ Contains ns n
first_or n m ns (zero, h, e) = inl e
first_or n m ns (suc k, h, e) = inr (k, omega arith, e)

abbrev two : ℕ → ℕ → ℕ × ℕ
two m n = (m, n)

same_two : {m n v w : ℕ} → m ≡ n → v ≡ w → two m v ≡ two n w
same_two {m} {n} {v} {w} e f = ap (λ k. two k v) e ∙ ap (two n) f

module _ (D : Declarations) (ds : List ℕ) (d e w : ℕ) where
  at_second : (l : Edge) (ls : List Edge) → l.a < l.b → l.a ≡ d → ◌≡◌ {A = ℕ × ℕ} (l.b, l.weight) (e, w) → Contains (near_in e (l ∷ ls)) (d, w)
  at_second l ls o x y =
      let u : l.b ≡ e = ap (λ (n : ℕ × ℕ). n.0) y in
      let v : l.weight ≡ w = ap (λ (n : ℕ × ℕ). n.1) y in
      rw (ne_eqb l.a e (λ z. absurd (omega arith)), eq-eqb l.b e u) (subst (Contains ((l.a, l.weight) ∷ near_in e ls)) (same_two x v) (in_front (l.a, l.weight) (near_in e ls)))

  at_first : (l : Edge) (ls : List Edge) → l.b ≡ d → ◌≡◌ {A = ℕ × ℕ} (l.a, l.weight) (e, w) → Contains (near_in e (l ∷ ls)) (d, w)
  at_first l ls x y =
      let u : l.a ≡ e = ap (λ (n : ℕ × ℕ). n.0) y in
      let v : l.weight ≡ w = ap (λ (n : ℕ × ℕ). n.1) y in
      rw (eq-eqb l.a e u) (subst (Contains ((l.b, l.weight) ∷ near_in e ls)) (same_two x v) (in_front (l.b, l.weight) (near_in e ls)))

  pub near_mutual : (ls : List Edge) → LinksFit D ds ls → Contains (near_in d ls) (e, w) → Contains (near_in e ls) (d, w)
  near_mutual [] f c = let h = c.1 in absurd (omega arith)
  near_mutual (l ∷ ls) f c = by_tests (nat_eq l.a d) (nat_eq l.b d) refl refl c (λ k. in_more e (d, w) l ls (near_mutual ls f.2 k))
    where
      by_tests : (p q : Bool) → nat_eq l.a d ≡ p → nat_eq l.b d ≡ q
          → Contains (if p then (l.b, l.weight) ∷ near_in d ls else (if q then (l.a, l.weight) ∷ near_in d ls else near_in d ls)) (e, w)
          → (Contains (near_in d ls) (e, w) → Contains (near_in e (l ∷ ls)) (d, w)) → Contains (near_in e (l ∷ ls)) (d, w)
      by_tests true q s t k ih = elim (first_or (e, w) (l.b, l.weight) (near_in d ls) k) [ inl x ↦ at_second l ls f.0.order (eqb-true l.a d s) x | inr x ↦ ih x ]
      by_tests false true s t k ih = elim (first_or (e, w) (l.a, l.weight) (near_in d ls) k) [ inl x ↦ at_first l ls (eqb-true l.b d t) x | inr x ↦ ih x ]
      by_tests false false s t k ih = ih k

-- ---- whether two devices are linked

near_true : (a b : ℕ) (l : Edge) → is_in b (neighbour_numbers (near_in a (l ∷ []))) ≡ true → ((l.a ≡ a) × (l.b ≡ b)) ⊎ ((l.b ≡ a) × (l.a ≡ b))
near_true a b l t = by_tests (nat_eq l.a a) (nat_eq l.b a) refl refl t
  where
    found : (m : ℕ) → (nat_eq b m || false) ≡ true → m ≡ b
    found m t = by_test (nat_eq b m) refl t
      where
        by_test : (q : Bool) → nat_eq b m ≡ q → (q || false) ≡ true → m ≡ b
        by_test true e t = sym (eqb-true b m e)
        by_test false e t = absurd (cc)

    by_tests : (p q : Bool) → nat_eq l.a a ≡ p → nat_eq l.b a ≡ q → is_in b (neighbour_numbers (if p then (l.b, l.weight) ∷ [] else (if q then (l.a, l.weight) ∷ [] else []))) ≡ true
        → ((l.a ≡ a) × (l.b ≡ b)) ⊎ ((l.b ≡ a) × (l.a ≡ b))
    by_tests true q e f t = inl (eqb-true l.a a e, found l.b t)
    by_tests false true e f t = inr (eqb-true l.b a f, found l.a t)
    by_tests false false e f t = absurd (cc)

true_near : (a b : ℕ) (l : Edge) → l.a < l.b → ((l.a ≡ a) × (l.b ≡ b)) ⊎ ((l.b ≡ a) × (l.a ≡ b)) → is_in b (neighbour_numbers (near_in a (l ∷ []))) ≡ true
true_near a b l o (inl h) = rw (eq-eqb l.a a h.0, eq-eqb b l.b (sym h.1)) refl
true_near a b l o (inr h) = let x = h.0 in rw (ne_eqb l.a a (λ e. absurd (omega arith)), eq-eqb l.b a h.0, eq-eqb b l.a (sym h.1)) refl

pair_true : (a b : ℕ) (l : Edge) → is_pair a b l ≡ true → (l.a ≡ a) × (l.b ≡ b)
pair_true a b l t = by_tests (nat_eq l.a a) (nat_eq l.b b) refl refl t
  where
    by_tests : (p q : Bool) → nat_eq l.a a ≡ p → nat_eq l.b b ≡ q → (p && q) ≡ true → (l.a ≡ a) × (l.b ≡ b)
    by_tests true true e f t = (eqb-true l.a a e, eqb-true l.b b f)
    by_tests true false e f t = absurd (cc)
    by_tests false q e f t = absurd (cc)

true_pair : (a b : ℕ) (l : Edge) → l.a ≡ a → l.b ≡ b → is_pair a b l ≡ true
true_pair a b l e f = rw (eq-eqb l.a a e, eq-eqb l.b b f) refl

pair_one : (a b : ℕ) (l : Edge) → l.a < l.b → is_in b (neighbour_numbers (near_in a (l ∷ []))) ≡ is_pair (min a b) (max a b) l
pair_one a b l o = by_iff (is_in b (neighbour_numbers (near_in a (l ∷ [])))) (is_pair (min a b) (max a b) l)
    (λ t. elim (near_true a b l t) [
      | inl h ↦ let x = h.0 in let y = h.1 in true_pair (min a b) (max a b) l (omega arith) (omega arith)
      | inr h ↦ let x = h.0 in let y = h.1 in true_pair (min a b) (max a b) l (omega arith) (omega arith)
    ])
    (λ t. let h = pair_true (min a b) (max a b) l t in elim (min_or a b) [
      | inl e ↦ true_near a b l o (inl (h.0 ∙ e.0, h.1 ∙ e.1))
      | inr e ↦ true_near a b l o (inr (h.1 ∙ e.1, h.0 ∙ e.0))
    ])

pub near_linked : (D : Declarations) (ds : List ℕ) (a b : ℕ) (ls : List Edge) → LinksFit D ds ls → is_in b (neighbour_numbers (near_in a ls)) ≡ has_pair (min a b) (max a b) ls
near_linked D ds a b [] f = refl
near_linked D ds a b (l ∷ ls) f =
    ap (λ ns. is_in b (neighbour_numbers ns)) (near_split a l ls)
    ∙ ap (is_in b) (map-append (λ (n : ℕ × ℕ). n.0) (near_in a (l ∷ [])) (near_in a ls))
    ∙ in_append b (neighbour_numbers (near_in a (l ∷ []))) (neighbour_numbers (near_in a ls))
    ∙ ap (λ x. x || is_in b (neighbour_numbers (near_in a ls))) (pair_one a b l f.0.order)
    ∙ ap (λ x. is_pair (min a b) (max a b) l || x) (near_linked D ds a b ls f.2)
