-- Rising links: without some, and with one more; the neighbours of a device among them.
use Rattle.std.proofs.Common.{◌≡◌, ℕ, suc, ◌+◌, ◌≤◌, ◌⊎◌, inl, inr, List, [], ◌∷◌, length, refl, sym, ◌∙◌, ap, arith, Bool, true, false, not, cond, nat_eq, nat_lt, if◌then◌else◌, ◌&&◌, ◌||◌, length-append}
use Rattle.std.specs.List.{filter}
use Rattle.std.proofs.lemmas.Bool.{eqb-true, eqb-false, ltb-true, ltb-false}
use Rattle.fc_values.specs.Types.{Declarations}
use Rattle.topology.specs.Networks.{Edge, near_in, Before, BeforeAll, IsRisingLinks, LinkFits, LinksFit}
use Rattle.topology.specs.Changes.{is_pair, is_before, has_pair, drop_pair, insert_edge}
use Rattle.fc_values.specs.Lists.{insert_after}
use Rattle.topology.proofs.Neighbours.{near_split}

-- ---- order

before_pass : (a b : ℕ) (l : Edge) (w : ℕ) → is_before a b l ≡ true → Before l (record { a = a; b = b; weight = w })
before_pass a b l w t = by_tests (nat_lt l.a a) (nat_eq l.a a) (nat_lt l.b b) refl refl refl t
  where
    by_tests : (p q r : Bool) → nat_lt l.a a ≡ p → nat_eq l.a a ≡ q → nat_lt l.b b ≡ r → (p || (q && r)) ≡ true → Before l (record { a = a; b = b; weight = w })
    by_tests true q r e f g t = let h = ltb-true l.a a e in record { first = omega arith; second = λ x. absurd (omega arith) }
    by_tests false true true e f g t = let h = eqb-true l.a a f in let k = ltb-true l.b b g in record { first = omega arith; second = λ x. k }
    by_tests false true false e f g t = absurd (cc)
    by_tests false false r e f g t = absurd (cc)

before_stop : (a b : ℕ) (l : Edge) (w : ℕ) → is_before a b l ≡ false → is_pair a b l ≡ false → Before (record { a = a; b = b; weight = w }) l
before_stop a b l w t u = by_tests (nat_lt l.a a) (nat_eq l.a a) (nat_lt l.b b) (nat_eq l.b b) refl refl refl refl t u
  where
    by_tests : (p q r s : Bool) → nat_lt l.a a ≡ p → nat_eq l.a a ≡ q → nat_lt l.b b ≡ r → nat_eq l.b b ≡ s → (p || (q && r)) ≡ false → (q && s) ≡ false → Before (record { a = a; b = b; weight = w }) l
    by_tests true q r s e f g h t u = absurd (cc)
    by_tests false true true s e f g h t u = absurd (cc)
    by_tests false true false true e f g h t u = absurd (cc)
    by_tests false true false false e f g h t u =
        let i = eqb-true l.a a f in let j = ltb-false l.b b g in let k = eqb-false l.b b h in
        record { first = omega arith; second = λ x. omega arith }
    by_tests false false r s e f g h t u =
        let i = ltb-false l.a a e in let j = eqb-false l.a a f in
        record { first = omega arith; second = λ x. absurd (j (sym x)) }

before_trans : (l m n : Edge) → Before l m → Before m n → Before l n
before_trans l m n p q = let x = p.first in let y = q.first in record {
  first = omega arith;
  second = λ e. let f : l.a ≡ m.a = omega arith in let g : m.a ≡ n.a = omega arith in let u = p.second f in let v = q.second g in omega arith;
}

before_all : (l m : Edge) (ns : List Edge) → Before l m → BeforeAll m ns → BeforeAll l ns
before_all l m [] p b = tt
before_all l m (n ∷ ns) p b = (before_trans l m n p b.0, before_all l m ns p b.1)

-- ---- links that are left

before_filter : (p : Edge → Bool) (l : Edge) (ls : List Edge) → BeforeAll l ls → BeforeAll l (filter p ls)
before_filter p l [] b = tt
before_filter p l (m ∷ ms) b = by_test (p m) (before_filter p l ms b.1)
  where
    by_test : (q : Bool) → BeforeAll l (filter p ms) → BeforeAll l (cond q (m ∷ filter p ms) (filter p ms))
    by_test true ih = (b.0, ih)
    by_test false ih = ih

pub filter_fit : (D : Declarations) (ds es : List ℕ) (p : Edge → Bool) (ls : List Edge)
    → ((l : Edge) → p l ≡ true → LinkFits D ds l → LinkFits D es l) → LinksFit D ds ls → LinksFit D es (filter p ls)
filter_fit D ds es p [] k f = tt
filter_fit D ds es p (l ∷ ls) k f = by_test (p l) refl (filter_fit D ds es p ls k f.2)
  where
    by_test : (q : Bool) → p l ≡ q → LinksFit D es (filter p ls) → LinksFit D es (cond q (l ∷ filter p ls) (filter p ls))
    by_test true e ih = (k l e f.0, before_filter p l ls f.1, ih)
    by_test false e ih = ih

-- ---- one link more

before_insert : (p : Edge → Bool) (e l : Edge) (ls : List Edge) → Before l e → BeforeAll l ls → BeforeAll l (insert_after p e ls)
before_insert p e l [] h b = (h, tt)
before_insert p e l (m ∷ ms) h b = by_test (p m) (before_insert p e l ms h b.1)
  where
    by_test : (q : Bool) → BeforeAll l (insert_after p e ms) → BeforeAll l (if q then m ∷ insert_after p e ms else e ∷ m ∷ ms)
    by_test true ih = (b.0, ih)
    by_test false ih = (h, b)

or_first : (p q : Bool) → (p || q) ≡ false → p ≡ false
or_first true q e = absurd (cc)
or_first false q e = refl

or_second : (p q : Bool) → (p || q) ≡ false → q ≡ false
or_second true q e = absurd (cc)
or_second false q e = e

pub insert_fit : (D : Declarations) (ds : List ℕ) (e : Edge) (ls : List Edge) → LinkFits D ds e → has_pair e.a e.b ls ≡ false → LinksFit D ds ls → LinksFit D ds (insert_edge e ls)
insert_fit D ds e [] h n f = (h, tt, tt)
insert_fit D ds e (l ∷ ls) h n f =
    by_test (is_before e.a e.b l) refl (insert_fit D ds e ls h (or_second (is_pair e.a e.b l) (has_pair e.a e.b ls) n) f.2)
  where
    by_test : (q : Bool) → is_before e.a e.b l ≡ q → LinksFit D ds (insert_edge e ls) → LinksFit D ds (if q then l ∷ insert_edge e ls else e ∷ l ∷ ls)
    by_test true t ih = (f.0, before_insert (is_before e.a e.b) e l ls (before_pass e.a e.b l e.weight t) f.1, ih)
    by_test false t ih =
        let b : Before e l = before_stop e.a e.b l e.weight t (or_first (is_pair e.a e.b l) (has_pair e.a e.b ls) n) in
        (h, (b, before_all e l ls b f.1), f)

-- ---- pairs

pub no_pair_left : (a b : ℕ) (ls : List Edge) → has_pair a b (drop_pair a b ls) ≡ false
no_pair_left a b [] = refl
no_pair_left a b (l ∷ ls) = by_test (is_pair a b l) refl (no_pair_left a b ls)
  where
    by_test : (q : Bool) → is_pair a b l ≡ q → has_pair a b (drop_pair a b ls) ≡ false → has_pair a b (cond (not q) (l ∷ drop_pair a b ls) (drop_pair a b ls)) ≡ false
    by_test true e ih = ih
    by_test false e ih = rw e ih

pub pair_absent : (a b : ℕ) (ls : List Edge) → has_pair a b ls ≡ false → drop_pair a b ls ≡ ls
pair_absent a b [] n = refl
pair_absent a b (l ∷ ls) n = rw (or_first (is_pair a b l) (has_pair a b ls) n) (ap (λ ms. l ∷ ms) (pair_absent a b ls (or_second (is_pair a b l) (has_pair a b ls) n)))

-- ---- neighbours, and how many there are

pub count : ℕ → List Edge → ℕ
count d ls = length (near_in d ls)

pub count_is : (d : ℕ) (ls : List Edge) → count d ls ≡ length (near_in d ls)
unfolding count
count_is d ls = refl

pub count_split : (d : ℕ) (l : Edge) (ls : List Edge) → count d (l ∷ ls) ≡ count d (l ∷ []) + count d ls
unfolding count
count_split d l ls = ap length (near_split d l ls) ∙ length-append (near_in d (l ∷ [])) (near_in d ls)

pub count_one : (d : ℕ) (l : Edge) → count d (l ∷ []) ≤ 1
unfolding count
count_one d l = by_tests (nat_eq l.a d) (nat_eq l.b d)
  where
    by_tests : (p q : Bool) → length {A = ℕ × ℕ} (if p then (l.b, l.weight) ∷ [] else (if q then (l.a, l.weight) ∷ [] else [])) ≤ 1
    by_tests true q = omega arith
    by_tests false true = omega arith
    by_tests false false = omega arith

pub count_touch : (d : ℕ) (l : Edge) → (l.a ≡ d) ⊎ (l.b ≡ d) → count d (l ∷ []) ≡ 1
unfolding count
count_touch d l h = by_tests (nat_eq l.a d) (nat_eq l.b d) refl refl h
  where
    by_tests : (p q : Bool) → nat_eq l.a d ≡ p → nat_eq l.b d ≡ q → (l.a ≡ d) ⊎ (l.b ≡ d) → length {A = ℕ × ℕ} (if p then (l.b, l.weight) ∷ [] else (if q then (l.a, l.weight) ∷ [] else [])) ≡ 1
    by_tests true q e f h = refl
    by_tests false true e f h = refl
    by_tests false false e f (inl x) = absurd (eqb-false l.a d e x)
    by_tests false false e f (inr x) = absurd (eqb-false l.b d f x)

pub count_filter : (d : ℕ) (p : Edge → Bool) (ls : List Edge) → count d (filter p ls) ≤ count d ls
count_filter d p [] = omega arith
count_filter d p (l ∷ ls) = by_test (p l) (count_filter d p ls)
  where
    by_test : (q : Bool) → count d (filter p ls) ≤ count d ls → count d (cond q (l ∷ filter p ls) (filter p ls)) ≤ count d (l ∷ ls)
    by_test true ih = omega (arith, count_split d l ls, count_split d l (filter p ls))
    by_test false ih = omega (arith, count_split d l ls)

pub count_insert : (d : ℕ) (p : Edge → Bool) (e : Edge) (ls : List Edge) → count d (insert_after p e ls) ≡ count d (e ∷ []) + count d ls
count_insert d p e [] = omega (arith, count_split d e [])
count_insert d p e (l ∷ ls) = by_test (p l) (count_insert d p e ls)
  where
    by_test : (q : Bool) → count d (insert_after p e ls) ≡ count d (e ∷ []) + count d ls → count d (if q then l ∷ insert_after p e ls else e ∷ l ∷ ls) ≡ count d (e ∷ []) + count d (l ∷ ls)
    by_test true ih = omega (arith, count_split d l ls, count_split d l (insert_after p e ls))
    by_test false ih = omega (arith, count_split d e (l ∷ ls))

-- a pair that is there is one neighbour less of each of the two
pub count_drop : (a b d : ℕ) (ls : List Edge) → has_pair a b ls ≡ true → (a ≡ d) ⊎ (b ≡ d) → suc (count d (drop_pair a b ls)) ≤ count d ls
count_drop a b d [] t h = absurd (cc)
count_drop a b d (l ∷ ls) t h = by_test (is_pair a b l) refl t (λ u. count_drop a b d ls u h)
  where
    both : (p q : Bool) → (p && q) ≡ true → (p ≡ true) × (q ≡ true)
    both true true e = (refl, refl)
    both true false e = absurd (cc)
    both false q e = absurd (cc)

    ends : is_pair a b l ≡ true → (l.a ≡ d) ⊎ (l.b ≡ d)
    ends e = let k = both (nat_eq l.a a) (nat_eq l.b b) e in elim h [ inl x ↦ inl (eqb-true l.a a k.0 ∙ x) | inr x ↦ inr (eqb-true l.b b k.1 ∙ x) ]

    by_test : (q : Bool) → is_pair a b l ≡ q → (q || has_pair a b ls) ≡ true → (has_pair a b ls ≡ true → suc (count d (drop_pair a b ls)) ≤ count d ls)
        → suc (count d (cond (not q) (l ∷ drop_pair a b ls) (drop_pair a b ls))) ≤ count d (l ∷ ls)
    by_test true e u ih = omega (arith, count_split d l ls, count_touch d l (ends e), count_filter d (λ m. not (is_pair a b m)) ls)
    by_test false e u ih = let k = ih u in omega (arith, count_split d l ls, count_split d l (drop_pair a b ls))

pub rising_fit : (D : Declarations) (ds : List ℕ) (ls : List Edge) → LinksFit D ds ls → IsRisingLinks ls
rising_fit D ds [] f = tt
rising_fit D ds (l ∷ ls) f = (f.1, rising_fit D ds ls f.2)
