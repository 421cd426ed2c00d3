-- The neighbours of a device after a change of the links.
use Rattle.std.proofs.Common.{◌≡◌, ℕ, ◌<◌, ◌⊎◌, inl, inr, List, [], ◌∷◌, ◌++◌, refl, sym, ◌∙◌, ap, arith, Bool, true, false, not, cond, nat_eq, nat_lt, if◌then◌else◌, ◌&&◌, ◌||◌}
use Rattle.std.specs.List.{filter}
use Rattle.std.proofs.lemmas.Bool.{eqb-true, ltb-true, lt-ltb, eq-eqb, ne_eqb}
use Rattle.fc_values.specs.Types.{Declarations}
use Rattle.topology.specs.Networks.{Edge, near_in, LinkFits, LinksFit}
use Rattle.topology.specs.Changes.{is_pair, is_before, touches, has_pair, drop_pair, drop_links, insert_edge, put_edge}
use Rattle.fc_values.specs.Lists.{insert_after}
use Rattle.topology.specs.Nearby.{drop_near, insert_near}
use Rattle.topology.proofs.Neighbours.{AllAbove, above_first, above_second, near_split, near_apart}
use Rattle.topology.proofs.Links.{insert_fit}

-- ---- devices that a change doesn't name

near_kept : (d : ℕ) (p : Edge → Bool) (ls : List Edge) → ((l : Edge) → p l ≡ false → near_in d (l ∷ []) ≡ []) → near_in d (filter p ls) ≡ near_in d ls
near_kept d p [] k = refl
near_kept d p (l ∷ ls) k = by_test (p l) refl (near_kept d p ls k)
  where
    by_test : (q : Bool) → p l ≡ q → near_in d (filter p ls) ≡ near_in d ls → near_in d (cond q (l ∷ filter p ls) (filter p ls)) ≡ near_in d (l ∷ ls)
    by_test true e ih = near_split d l (filter p ls) ∙ ap (λ ns. near_in d (l ∷ []) ++ ns) ih ∙ sym (near_split d l ls)
    by_test false e ih = ih ∙ ap (λ ns. ns ++ near_in d ls) (sym (k l e)) ∙ sym (near_split d l ls)

near_more : (d : ℕ) (p : Edge → Bool) (e : Edge) (ls : List Edge) → near_in d (e ∷ []) ≡ [] → near_in d (insert_after p e ls) ≡ near_in d ls
near_more d p e [] h = h
near_more d p e (l ∷ ls) h = by_test (p l) (near_more d p e ls h)
  where
    by_test : (q : Bool) → near_in d (insert_after p e ls) ≡ near_in d ls → near_in d (if q then l ∷ insert_after p e ls else e ∷ l ∷ ls) ≡ near_in d (l ∷ ls)
    by_test true ih = near_split d l (insert_after p e ls) ∙ ap (λ ns. near_in d (l ∷ []) ++ ns) ih ∙ sym (near_split d l ls)
    by_test false ih = near_split d e (l ∷ ls) ∙ ap (λ ns. ns ++ near_in d (l ∷ ls)) h

pair_ends : (a b : ℕ) (l : Edge) → not (is_pair a b l) ≡ false → (l.a ≡ a) × (l.b ≡ b)
pair_ends a b l e = by_tests (nat_eq l.a a) (nat_eq l.b b) refl refl e
  where
    by_tests : (p q : Bool) → nat_eq l.a a ≡ p → nat_eq l.b b ≡ q → not (p && q) ≡ false → (l.a ≡ a) × (l.b ≡ b)
    by_tests true true s t e = (eqb-true l.a a s, eqb-true l.b b t)
    by_tests true false s t e = absurd (cc)
    by_tests false q s t e = absurd (cc)

pub near_drop_other : (a b d : ℕ) (ls : List Edge) → (a ≡ d → ⊥) → (b ≡ d → ⊥) → near_in d (drop_pair a b ls) ≡ near_in d ls
near_drop_other a b d ls h k = near_kept d (λ l. not (is_pair a b l)) ls (λ l e. let p = pair_ends a b l e in near_apart d l (λ x. h (sym p.0 ∙ x)) (λ x. k (sym p.1 ∙ x)))

pub near_put_other : (e : Edge) (d : ℕ) (ls : List Edge) → (e.a ≡ d → ⊥) → (e.b ≡ d → ⊥) → near_in d (put_edge e ls) ≡ near_in d ls
near_put_other e d ls h k = near_more d (is_before e.a e.b) e (drop_pair e.a e.b ls) (near_apart d e h k) ∙ near_drop_other e.a e.b d ls h k

-- ---- links that are dropped

filter_append : {X : Type 0} (p : X → Bool) (xs ys : List X) → filter p (xs ++ ys) ≡ filter p xs ++ filter p ys
filter_append p [] ys = refl
filter_append p (x ∷ xs) ys = by_test (p x) (filter_append p xs ys)
  where
    by_test : (q : Bool) → filter p (xs ++ ys) ≡ filter p xs ++ filter p ys → cond q (x ∷ filter p (xs ++ ys)) (filter p (xs ++ ys)) ≡ cond q (x ∷ filter p xs) (filter p xs) ++ filter p ys
    by_test true ih = ap (λ zs. x ∷ zs) ih
    by_test false ih = ih

-- the neighbours are those that are left, where a link is dropped exactly where it leads to the device that goes
near_dropped : (d o : ℕ) (p : Edge → Bool) (P : Edge → Type 0) (ls : List Edge) → ((l : Edge) → P l → near_in d (filter p (l ∷ [])) ≡ drop_near o (near_in d (l ∷ [])))
    → ((D : Declarations) (ds : List ℕ) (l : Edge) → LinkFits D ds l → P l) → (D : Declarations) (ds : List ℕ) → LinksFit D ds ls → near_in d (filter p ls) ≡ drop_near o (near_in d ls)
near_dropped d o p P [] k g D ds f = refl
near_dropped d o p P (l ∷ ls) k g D ds f =
    let first : near_in d (filter p (l ∷ ls)) ≡ near_in d (filter p (l ∷ [])) ++ near_in d (filter p ls) = by_test (p l) in
    first ∙ ap (λ ns. ns ++ near_in d (filter p ls)) (k l (g D ds l f.0)) ∙ ap (λ ns. drop_near o (near_in d (l ∷ [])) ++ ns) (near_dropped d o p P ls k g D ds f.2)
    ∙ sym (filter_append (λ n. not (nat_eq n.0 o)) (near_in d (l ∷ [])) (near_in d ls)) ∙ ap (drop_near o) (sym (near_split d l ls))
  where
    by_test : (q : Bool) → near_in d (cond q (l ∷ filter p ls) (filter p ls)) ≡ near_in d (cond q (l ∷ []) []) ++ near_in d (filter p ls)
    by_test true = near_split d l (filter p ls)
    by_test false = refl

-- tests of numbers, in one place
pub same : (a b : ℕ) → a ≡ b → nat_eq a b ≡ true
same a b e = eq-eqb a b e

pub apart : (a b : ℕ) → (a ≡ b → ⊥) → nat_eq a b ≡ false
apart a b h = ne_eqb a b h

drop_first : (a b : ℕ) → a < b → (l : Edge) → l.a < l.b → near_in a (filter (λ m. not (is_pair a b m)) (l ∷ [])) ≡ drop_near b (near_in a (l ∷ []))
drop_first a b o l r = by_tests (nat_eq l.a a) (nat_eq l.b b) (nat_eq l.b a) (nat_eq l.a b) refl refl refl refl
  where
    by_tests : (p q r' s : Bool) → nat_eq l.a a ≡ p → nat_eq l.b b ≡ q → nat_eq l.b a ≡ r' → nat_eq l.a b ≡ s
        → near_in a (cond (not (p && q)) (l ∷ []) []) ≡ drop_near b (if p then (l.b, l.weight) ∷ [] else (if r' then (l.a, l.weight) ∷ [] else []))
    by_tests true true r' s e f g h = rw f refl
    by_tests true false r' s e f g h = rw (e, f) refl
    by_tests false q true true e f g h = let x = eqb-true l.b a g in let y = eqb-true l.a b h in absurd (omega arith)
    by_tests false q true false e f g h = rw (e, g, h) refl
    by_tests false q false s e f g h = rw (e, g) refl

drop_second : (a b : ℕ) → a < b → (l : Edge) → l.a < l.b → near_in b (filter (λ m. not (is_pair a b m)) (l ∷ [])) ≡ drop_near a (near_in b (l ∷ []))
drop_second a b o l r = by_tests (nat_eq l.a a) (nat_eq l.b b) (nat_eq l.a b) (nat_eq l.b a) refl refl refl refl
  where
    by_tests : (p q r' s : Bool) → nat_eq l.a a ≡ p → nat_eq l.b b ≡ q → nat_eq l.a b ≡ r' → nat_eq l.b a ≡ s
        → near_in b (cond (not (p && q)) (l ∷ []) []) ≡ drop_near a (if r' then (l.b, l.weight) ∷ [] else (if q then (l.a, l.weight) ∷ [] else []))
    by_tests true true true s e f g h = let x = eqb-true l.a a e in let y = eqb-true l.a b g in absurd (omega arith)
    by_tests true true false s e f g h = rw e refl
    by_tests true false true s e f g h = let x = eqb-true l.a a e in let y = eqb-true l.a b g in absurd (omega arith)
    by_tests true false false s e f g h = rw (g, f) refl
    by_tests false q true true e f g h = let x = eqb-true l.a b g in let y = eqb-true l.b a h in absurd (omega arith)
    by_tests false q true false e f g h = rw (g, h) refl
    by_tests false true false s e f g h = rw (g, f, e) refl
    by_tests false false false s e f g h = rw (g, f) refl

pub near_drop_first : (D : Declarations) (ds : List ℕ) (a b : ℕ) (ls : List Edge) → a < b → LinksFit D ds ls → near_in a (drop_pair a b ls) ≡ drop_near b (near_in a ls)
near_drop_first D ds a b ls o f = near_dropped a b (λ l. not (is_pair a b l)) (λ l. l.a < l.b) ls (drop_first a b o) (λ D ds l k. k.order) D ds f

pub near_drop_second : (D : Declarations) (ds : List ℕ) (a b : ℕ) (ls : List Edge) → a < b → LinksFit D ds ls → near_in b (drop_pair a b ls) ≡ drop_near a (near_in b ls)
near_drop_second D ds a b ls o f = near_dropped b a (λ l. not (is_pair a b l)) (λ l. l.a < l.b) ls (drop_second a b o) (λ D ds l k. k.order) D ds f

-- the neighbours that are left after a device has gone
leave_one : (o d : ℕ) → (o ≡ d → ⊥) → (l : Edge) → l.a < l.b → near_in d (filter (λ m. not (touches o m)) (l ∷ [])) ≡ drop_near o (near_in d (l ∷ []))
leave_one o d u l r = by_tests (nat_eq l.a o) (nat_eq l.b o) (nat_eq l.a d) (nat_eq l.b d) refl refl refl refl
  where
    by_tests : (p q r' s : Bool) → nat_eq l.a o ≡ p → nat_eq l.b o ≡ q → nat_eq l.a d ≡ r' → nat_eq l.b d ≡ s
        → near_in d (cond (not (p || q)) (l ∷ []) []) ≡ drop_near o (if r' then (l.b, l.weight) ∷ [] else (if s then (l.a, l.weight) ∷ [] else []))
    by_tests true q true s e f g h = absurd (u (sym (eqb-true l.a o e) ∙ eqb-true l.a d g))
    by_tests true q false true e f g h = rw e refl
    by_tests true q false false e f g h = refl
    by_tests false true true s e f g h = rw f refl
    by_tests false true false true e f g h = absurd (u (sym (eqb-true l.b o f) ∙ eqb-true l.b d h))
    by_tests false true false false e f g h = refl
    by_tests false false true s e f g h = rw (g, f) refl
    by_tests false false false true e f g h = rw (g, h, e) refl
    by_tests false false false false e f g h = rw (g, h) refl

pub near_leave : (D : Declarations) (ds : List ℕ) (o d : ℕ) (ls : List Edge) → (o ≡ d → ⊥) → LinksFit D ds ls → near_in d (drop_links o ls) ≡ drop_near o (near_in d ls)
near_leave D ds o d ls u f = near_dropped d o (λ l. not (touches o l)) (λ l. l.a < l.b) ls (leave_one o d u) (λ D ds l k. k.order) D ds f

-- ---- one link more

-- one neighbour more goes in front of greater ones
insert_above : (d w : ℕ) (ns : List (ℕ × ℕ)) → AllAbove d ns → insert_near d w ns ≡ (d, w) ∷ ns
insert_above d w [] a = refl
insert_above d w (n ∷ ns) a = by_test (nat_lt n.0 d) refl
  where
    by_test : (q : Bool) → nat_lt n.0 d ≡ q → (if q then n ∷ insert_near d w ns else (d, w) ∷ n ∷ ns) ≡ (d, w) ∷ n ∷ ns
    by_test true e = let h = ltb-true n.0 d e in let k = a.0 in absurd (omega arith)
    by_test false e = refl

insert_below : (d w : ℕ) (n : ℕ × ℕ) (ns : List (ℕ × ℕ)) → n.0 < d → insert_near d w (n ∷ ns) ≡ n ∷ insert_near d w ns
insert_below d w n ns h = rw (lt-ltb n.0 d h) refl

-- what a link that comes before one with these ends has for neighbours
pub before_ends : (a b : ℕ) (l : Edge) → is_before a b l ≡ true → (l.a < a) ⊎ ((l.a ≡ a) × (l.b < b))
before_ends a b l t = by_tests (nat_lt l.a a) (nat_eq l.a a) (nat_lt l.b b) refl refl refl t
  where
    by_tests : (p q r : Bool) → nat_lt l.a a ≡ p → nat_eq l.a a ≡ q → nat_lt l.b b ≡ r → (p || (q && r)) ≡ true → (l.a < a) ⊎ ((l.a ≡ a) × (l.b < b))
    by_tests true q r e f g t = inl (ltb-true l.a a e)
    by_tests false true true e f g t = inr (eqb-true l.a a f, ltb-true l.b b g)
    by_tests false true false e f g t = absurd (cc)
    by_tests false false r e f g t = absurd (cc)

front_first : (D : Declarations) (ds : List ℕ) (e l : Edge) (ns : List (ℕ × ℕ)) → e.a < e.b → LinkFits D ds l → is_before e.a e.b l ≡ true
    → insert_near e.b e.weight (near_in e.a (l ∷ []) ++ ns) ≡ near_in e.a (l ∷ []) ++ insert_near e.b e.weight ns
front_first D ds e l ns o f t = by_tests (nat_eq l.a e.a) (nat_eq l.b e.a) refl refl (before_ends e.a e.b l t)
  where
    by_tests : (p q : Bool) → nat_eq l.a e.a ≡ p → nat_eq l.b e.a ≡ q → (l.a < e.a) ⊎ ((l.a ≡ e.a) × (l.b < e.b))
        → insert_near e.b e.weight ((if p then (l.b, l.weight) ∷ [] else (if q then (l.a, l.weight) ∷ [] else [])) ++ ns) ≡ (if p then (l.b, l.weight) ∷ [] else (if q then (l.a, l.weight) ∷ [] else [])) ++ insert_near e.b e.weight ns
    by_tests true q s u (inl h) = let x = eqb-true l.a e.a s in absurd (omega arith)
    by_tests true q s u (inr h) = insert_below e.b e.weight (l.b, l.weight) ns h.1
    by_tests false true s u h = let x = eqb-true l.b e.a u in let y = f.order in insert_below e.b e.weight (l.a, l.weight) ns (omega arith)
    by_tests false false s u h = refl

front_second : (D : Declarations) (ds : List ℕ) (e l : Edge) (ns : List (ℕ × ℕ)) → e.a < e.b → LinkFits D ds l → is_before e.a e.b l ≡ true
    → insert_near e.a e.weight (near_in e.b (l ∷ []) ++ ns) ≡ near_in e.b (l ∷ []) ++ insert_near e.a e.weight ns
front_second D ds e l ns o f t = by_tests (nat_eq l.a e.b) (nat_eq l.b e.b) refl refl (before_ends e.a e.b l t)
  where
    by_tests : (p q : Bool) → nat_eq l.a e.b ≡ p → nat_eq l.b e.b ≡ q → (l.a < e.a) ⊎ ((l.a ≡ e.a) × (l.b < e.b))
        → insert_near e.a e.weight ((if p then (l.b, l.weight) ∷ [] else (if q then (l.a, l.weight) ∷ [] else [])) ++ ns) ≡ (if p then (l.b, l.weight) ∷ [] else (if q then (l.a, l.weight) ∷ [] else [])) ++ insert_near e.a e.weight ns
    by_tests true q s u (inl h) = let x = eqb-true l.a e.b s in absurd (omega arith)
    by_tests true q s u (inr h) = let x = eqb-true l.a e.b s in let y = h.0 in absurd (omega arith)
    by_tests false true s u (inl h) = insert_below e.a e.weight (l.a, l.weight) ns h
    by_tests false true s u (inr h) = let x = eqb-true l.b e.b u in let y = h.1 in absurd (omega arith)
    by_tests false false s u h = refl

module _ (D : Declarations) (ds : List ℕ) (e : Edge) where
  pub near_insert_first : (ls : List Edge) → LinkFits D ds e → has_pair e.a e.b ls ≡ false → LinksFit D ds ls → near_in e.a (insert_edge e ls) ≡ insert_near e.b e.weight (near_in e.a ls)
  near_insert_first [] h n f = rw (same e.a e.a refl) refl
  near_insert_first (l ∷ ls) h n f = by_test (is_before e.a e.b l) refl (near_insert_first ls h (rest (is_pair e.a e.b l) n) f.2) (insert_fit D ds e (l ∷ ls) h n f)
    where
      rest : (p : Bool) → (p || has_pair e.a e.b ls) ≡ false → has_pair e.a e.b ls ≡ false
      rest true x = absurd (cc)
      rest false x = x

      by_test : (q : Bool) → is_before e.a e.b l ≡ q → near_in e.a (insert_edge e ls) ≡ insert_near e.b e.weight (near_in e.a ls) → LinksFit D ds (if q then l ∷ insert_edge e ls else e ∷ l ∷ ls)
          → near_in e.a (if q then l ∷ insert_edge e ls else e ∷ l ∷ ls) ≡ insert_near e.b e.weight (near_in e.a (l ∷ ls))
      by_test true t ih g =
          near_split e.a l (insert_edge e ls) ∙ ap (λ ns. near_in e.a (l ∷ []) ++ ns) ih ∙ sym (front_first D ds e l (near_in e.a ls) h.order f.0 t) ∙ ap (insert_near e.b e.weight) (sym (near_split e.a l ls))
      by_test false t ih g =
          rw (same e.a e.a refl) (sym (insert_above e.b e.weight (near_in e.a (l ∷ ls)) (above_first D ds e (l ∷ ls) h.order g.1 g.2)))

  pub near_insert_second : (ls : List Edge) → LinkFits D ds e → has_pair e.a e.b ls ≡ false → LinksFit D ds ls → near_in e.b (insert_edge e ls) ≡ insert_near e.a e.weight (near_in e.b ls)
  near_insert_second [] h n f = let o = h.order in rw (apart e.a e.b (λ x. absurd (omega arith)), same e.b e.b refl) refl
  near_insert_second (l ∷ ls) h n f = by_test (is_before e.a e.b l) refl (near_insert_second ls h (rest (is_pair e.a e.b l) n) f.2) (insert_fit D ds e (l ∷ ls) h n f)
    where
      rest : (p : Bool) → (p || has_pair e.a e.b ls) ≡ false → has_pair e.a e.b ls ≡ false
      rest true x = absurd (cc)
      rest false x = x

      by_test : (q : Bool) → is_before e.a e.b l ≡ q → near_in e.b (insert_edge e ls) ≡ insert_near e.a e.weight (near_in e.b ls) → LinksFit D ds (if q then l ∷ insert_edge e ls else e ∷ l ∷ ls)
          → near_in e.b (if q then l ∷ insert_edge e ls else e ∷ l ∷ ls) ≡ insert_near e.a e.weight (near_in e.b (l ∷ ls))
      by_test true t ih g =
          near_split e.b l (insert_edge e ls) ∙ ap (λ ns. near_in e.b (l ∷ []) ++ ns) ih ∙ sym (front_second D ds e l (near_in e.b ls) h.order f.0 t) ∙ ap (insert_near e.a e.weight) (sym (near_split e.b l ls))
      by_test false t ih g =
          let o = h.order in
          rw (apart e.a e.b (λ x. absurd (omega arith)), same e.b e.b refl) (sym (insert_above e.a e.weight (near_in e.b (l ∷ ls)) (above_second D ds e (l ∷ ls) h.order g.1 g.2)))
