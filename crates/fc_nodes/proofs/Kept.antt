-- Crates above cite this module: the nodes that keep a value, counted along the list and along the term.
use Rattle.std.proofs.Common.{◌≡◌, ℕ, zero, suc, ◌+◌, List, [], ◌∷◌, ◌++◌, length, refl, sym, ◌∙◌, ap, arith, Option, Some, None, take, drop}
use Rattle.std.specs.Prelude.{is_some, option_to_list, slice_get}
use Rattle.std.specs.List.{cons_option}
use Rattle.std.proofs.lemmas.List.{length-append, append_assoc, drop_all}
use Rattle.fc_values.specs.Types.{LocalType, BoolType, ValueType}
use Rattle.fc_values.specs.BuiltinTypes.{inner}
use Rattle.fc_nodes.specs.declared.nodes.Node.{Node}
use Rattle.fc_nodes.specs.Terms.{Term, Terms, Plain, Apply, Nbr, Evolve, If, Let, NoMore, More, size, sizes, Sort, Has, view_of, view_keeps, node_keeps, one_if, kept, kept_all, kept_type, kept_types, all_kept_types, kept_before, nodes_kept_types, term_at, HasNode, Laid, AllLaid, WellFormed}

pub kept_none : (ns : List Node) → kept_before ns 0 ≡ 0
unfolding kept_before
kept_none [] = refl
kept_none (n ∷ ns) = refl

-- one place further
pub kept_step : (ns : List Node) (p : ℕ) (s : Sort) (t : ValueType) (ks : List ℕ) → HasNode ns p s t ks → kept_before ns (suc p) ≡ kept_before ns p + one_if (is_some (kept_type s t))
unfolding kept_before
kept_step [] p s t ks h = absurd cc
kept_step (n ∷ ns) zero s t ks h =
    let e : node_keeps n ≡ kept_type s t = seen h in
    let z : kept_before ns 0 ≡ 0 = kept_none ns in
    rw (z, e) (omega arith)
  where
    seen : Some (view_of n) ≡ Some (Has s t ks) → view_keeps (view_of n) ≡ kept_type s t
    seen h = let e : view_of n ≡ Has s t ks = cc in ap view_keeps e
kept_step (n ∷ ns) (suc p) s t ks h = let ih = kept_step ns p s t ks h in omega (arith, ih)

module _ (ns : List Node) where
  pub one_more : (p q : ℕ) (s : Sort) (t : ValueType) (ks : List ℕ) → HasNode ns p s t ks → q ≡ suc p → kept_before ns q ≡ kept_before ns p + one_if (is_some (kept_type s t))
  one_more p q s t ks h e = rw e (kept_step ns p s t ks h)

  mutual
    -- past a term that stands at p
    pub kept_size : (t : Term) (p q : ℕ) → Laid ns p t → q ≡ p + size t → kept_before ns q ≡ kept_before ns p + kept t
    kept_size (Plain t v) p q l e = let k = one_more p q _ _ _ l (omega arith) in omega (arith, k)
    kept_size (Apply t o xs) p q l e =
        let k = one_more p (suc p) _ _ _ l.0 refl in
        let ih = kept_sizes xs (suc p) q l.1 (omega arith) in
        omega (arith, k, ih)
    kept_size (Nbr t a) p q l e =
        let k = one_more p (suc p) _ _ _ l.0 refl in
        let ih = kept_size a (suc p) q l.1 (omega arith) in
        omega (arith, k, ih)
    kept_size (Evolve t v a b) p q l e =
        let k = one_more p (suc p) _ _ _ l.0 refl in
        let ih = kept_size a (suc p) (suc p + size a) l.1 refl in
        let ih' = kept_size b (suc p + size a) q l.2 (omega arith) in
        omega (arith, k, ih, ih')
    kept_size (If t c a b) p q l e =
        let k = one_more p (suc p) _ _ _ l.0 refl in
        let ih = kept_size c (suc p) (suc p + size c) l.1 refl in
        let ih' = kept_size a (suc p + size c) (suc p + size c + size a) l.2 refl in
        let ih'' = kept_size b (suc p + size c + size a) q l.3 (omega arith) in
        omega (arith, k, ih, ih', ih'')
    kept_size (Let t a b) p q l e =
        let k = one_more p (suc p) _ _ _ l.0 refl in
        let ih = kept_size a (suc p) (suc p + size a) l.1 refl in
        let ih' = kept_size b (suc p + size a) q l.2 (omega arith) in
        omega (arith, k, ih, ih')

    pub kept_sizes : (xs : Terms) (p q : ℕ) → AllLaid ns p xs → q ≡ p + sizes xs → kept_before ns q ≡ kept_before ns p + kept_all xs
    kept_sizes NoMore p q l e = let e' : q ≡ p = omega arith in rw e' (omega arith)
    kept_sizes (More x xs) p q l e =
        let ih = kept_size x p (p + size x) l.0 refl in
        let ih' = kept_sizes xs (p + size x) q l.1 (omega arith) in
        omega (arith, ih, ih')

-- the nodes of a program keep as much as its term
pub kept_whole : (ns : List Node) → WellFormed ns → kept_before ns (length ns) ≡ kept (term_at ns 0)
kept_whole ns w =
    let e = w.whole in
    let k = kept_size ns (term_at ns 0) 0 (length ns) w.laid (omega (arith, e)) in
    let z = kept_none ns in
    omega (arith, k, z)

mutual
  pub kept_long : (t : Term) → length (kept_types t) ≡ kept t
  kept_long (Plain t v) = refl
  kept_long (Apply t o xs) = all_kept_long xs
  kept_long (Nbr t a) = ap suc (kept_long a)
  kept_long (Evolve t v a b) =
      let e = length-append (kept_types a) (kept_types b) in
      let f = kept_long a in let g = kept_long b in ap suc (omega (arith, e, f, g))
  kept_long (If t c a b) =
      let d = length-append (kept_types c ++ kept_types a) (kept_types b) in
      let e = length-append (kept_types c) (kept_types a) in
      let f = kept_long c in let g = kept_long a in let h = kept_long b in ap suc (omega (arith, d, e, f, g, h))
  kept_long (Let t a b) =
      let e = length-append (kept_types a) (kept_types b) in
      let f = kept_long a in let g = kept_long b in omega (arith, e, f, g)

  pub all_kept_long : (xs : Terms) → length (all_kept_types xs) ≡ kept_all xs
  all_kept_long NoMore = refl
  all_kept_long (More x xs) =
      let e = length-append (kept_types x) (all_kept_types xs) in
      let f = kept_long x in let g = all_kept_long xs in omega (arith, e, f, g)

-- what the nodes before a place keep, and one node more
pub types_step : (ns : List Node) (p : ℕ) (s : Sort) (t : ValueType) (ks : List ℕ) → HasNode ns p s t ks → nodes_kept_types (take (suc p) ns) ≡ nodes_kept_types (take p ns) ++ option_to_list (kept_type s t)
types_step [] p s t ks h = absurd cc
types_step (n ∷ ns) zero s t ks h = let e : view_of n ≡ Has s t ks = cc in alone (view_keeps (view_of n)) (kept_type s t) (ap view_keeps e)
  where
    alone : (o o' : Option LocalType) → o ≡ o' → cons_option o [] ≡ [] ++ option_to_list o'
    alone None o' e = let e' : o' ≡ None = sym e in rw e' refl
    alone (Some x) o' e = let e' : o' ≡ Some x = sym e in rw e' refl
types_step (n ∷ ns) (suc p) s t ks h = before _ _ _ (node_keeps n) (types_step ns p s t ks h)
  where
    before : (xs ys zs : List LocalType) (o : Option LocalType) → xs ≡ ys ++ zs → cons_option o xs ≡ cons_option o ys ++ zs
    before xs ys zs None e = e
    before xs ys zs (Some x) e = ap (λ l. x ∷ l) e

-- the number of the nodes before a place that keep a value
pub types_long : (ns : List Node) (p : ℕ) → length (nodes_kept_types (take p ns)) ≡ kept_before ns p
unfolding kept_before
types_long [] zero = refl
types_long [] (suc p) = refl
types_long (n ∷ ns) zero = refl
types_long (n ∷ ns) (suc p) = one _ _ (node_keeps n) (types_long ns p)
  where
    one : (xs : List LocalType) (k : ℕ) (o : Option LocalType) → length xs ≡ k → length (cons_option o xs) ≡ one_if (is_some o) + k
    one xs k None e = omega (arith, e)
    one xs k (Some x) e = omega (arith, e)

-- what the nodes from a place on keep
from : List Node → ℕ → List LocalType
from ns p = nodes_kept_types (drop p ns)

from_step : (ns : List Node) (p : ℕ) (s : Sort) (t : ValueType) (ks : List ℕ) → HasNode ns p s t ks → from ns p ≡ cons_option (kept_type s t) (from ns (suc p))
unfolding from
from_step [] p s t ks h = absurd cc
from_step (n ∷ ns) zero s t ks h = let e : view_of n ≡ Has s t ks = cc in ap (λ o. cons_option (view_keeps o) (nodes_kept_types ns)) e
from_step (n ∷ ns) (suc p) s t ks h = from_step ns p s t ks h

module _ (ns : List Node) where
  both : (xs ys : List LocalType) (p q r : ℕ) → from ns p ≡ xs ++ from ns q → from ns q ≡ ys ++ from ns r → from ns p ≡ xs ++ ys ++ from ns r
  both xs ys p q r e f = e ∙ ap (λ zs. xs ++ zs) f ∙ sym (append_assoc xs ys (from ns r))

  at : (xs : List LocalType) (p q r : ℕ) → q ≡ r → from ns p ≡ xs ++ from ns q → from ns p ≡ xs ++ from ns r
  at xs p q r e f = f ∙ ap (λ k. xs ++ from ns k) e

  mutual
    from_term : (t : Term) (p : ℕ) → Laid ns p t → from ns p ≡ kept_types t ++ from ns (p + size t)
    from_term (Plain t v) p l = from_step ns p _ _ _ l ∙ ap (from ns) (omega arith)
    from_term (Apply t o xs) p l = from_step ns p _ _ _ l.0 ∙ at (all_kept_types xs) (suc p) (suc p + sizes xs) (p + suc (sizes xs)) (omega arith) (from_terms xs (suc p) l.1)
    from_term (Nbr t a) p l = from_step ns p _ _ _ l.0 ∙ ap (λ xs. inner t ∷ xs) (at (kept_types a) (suc p) (suc p + size a) (p + suc (size a)) (omega arith) (from_term a (suc p) l.1))
    from_term (Evolve t v a b) p l =
        let two = both (kept_types a) (kept_types b) (suc p) (suc p + size a) (suc p + size a + size b) (from_term a (suc p) l.1) (from_term b (suc p + size a) l.2) in
        from_step ns p _ _ _ l.0 ∙ ap (λ xs. inner t ∷ xs) (at (kept_types a ++ kept_types b) (suc p) (suc p + size a + size b) (p + suc (size a + size b)) (omega arith) two)
    from_term (If t c a b) p l =
        let two = both (kept_types c) (kept_types a) (suc p) (suc p + size c) (suc p + size c + size a) (from_term c (suc p) l.1) (from_term a (suc p + size c) l.2) in
        let three = both (kept_types c ++ kept_types a) (kept_types b) (suc p) (suc p + size c + size a) (suc p + size c + size a + size b) two (from_term b (suc p + size c + size a) l.3) in
        from_step ns p _ _ _ l.0 ∙ ap (λ xs. BoolType ∷ xs) (at (kept_types c ++ kept_types a ++ kept_types b) (suc p) (suc p + size c + size a + size b) (p + suc (size c + size a + size b)) (omega arith) three)
    from_term (Let t a b) p l =
        let two = both (kept_types a) (kept_types b) (suc p) (suc p + size a) (suc p + size a + size b) (from_term a (suc p) l.1) (from_term b (suc p + size a) l.2) in
        from_step ns p _ _ _ l.0 ∙ at (kept_types a ++ kept_types b) (suc p) (suc p + size a + size b) (p + suc (size a + size b)) (omega arith) two

    from_terms : (xs : Terms) (p : ℕ) → AllLaid ns p xs → from ns p ≡ all_kept_types xs ++ from ns (p + sizes xs)
    from_terms NoMore p l = ap (from ns) (omega arith)
    from_terms (More x xs) p l =
        let two = both (kept_types x) (all_kept_types xs) p (p + size x) (p + size x + sizes xs) (from_term x p l.0) (from_terms xs (p + size x) l.1) in
        at (kept_types x ++ all_kept_types xs) p (p + size x + sizes xs) (p + (size x + sizes xs)) (omega arith) two

append_none : (xs : List LocalType) → xs ++ [] ≡ xs
append_none [] = refl
append_none (x ∷ xs) = ap (λ l. x ∷ l) (append_none xs)

-- what the nodes of a program keep is what its term keeps
pub types_whole : (ns : List Node) → WellFormed ns → nodes_kept_types ns ≡ kept_types (term_at ns 0)
unfolding from
types_whole ns w =
    let e = w.whole in
    let past : from ns (0 + size (term_at ns 0)) ≡ [] = ap nodes_kept_types (drop_all (0 + size (term_at ns 0)) ns (omega (arith, e))) in
    from_term ns (term_at ns 0) 0 w.laid ∙ ap (λ xs. kept_types (term_at ns 0) ++ xs) past ∙ append_none (kept_types (term_at ns 0))

-- the slot of a node that keeps a value
pub kept_slot : (ns : List Node) (p : ℕ) (s : Sort) (t : ValueType) (ks : List ℕ) (x : LocalType) → HasNode ns p s t ks → kept_type s t ≡ Some x → slice_get (nodes_kept_types ns) (kept_before ns p) ≡ Some x
unfolding kept_before
kept_slot [] p s t ks x h k = absurd cc
kept_slot (n ∷ ns) zero s t ks x h k = let e : view_of n ≡ Has s t ks = cc in first (view_keeps (view_of n)) (ap view_keeps e ∙ k)
  where
    first : (o : Option LocalType) → o ≡ Some x → slice_get (cons_option o (nodes_kept_types ns)) 0 ≡ Some x
    first None e = absurd cc
    first (Some y) e = e
kept_slot (n ∷ ns) (suc p) s t ks x h k = later (node_keeps n) (kept_slot ns p s t ks x h k)
  where
    later : (o : Option LocalType) → slice_get (nodes_kept_types ns) (kept_before ns p) ≡ Some x → slice_get (cons_option o (nodes_kept_types ns)) (one_if (is_some o) + kept_before ns p) ≡ Some x
    later None e = let z : 0 + kept_before ns p ≡ kept_before ns p = omega arith in rw z e
    later (Some y) e = let z : 1 + kept_before ns p ≡ suc (kept_before ns p) = omega arith in rw z e
