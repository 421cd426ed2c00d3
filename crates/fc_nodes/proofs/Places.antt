-- Crates above cite this module: the term at a place, and the terms of its kids.
use Rattle.std.proofs.Common.{◌≡◌, ℕ, zero, suc, ◌<◌, ◌≤◌, ◌+◌, ◌-◌, List, [], ◌∷◌, length, refl, ◌∙◌, ap, subst, arith, Option, Some, None}
use Rattle.std.specs.Prelude.{slice_get, option_map}
use Rattle.std.proofs.lemmas.Option.{slice_get_past, slice_get_within}
use Rattle.fc_values.specs.Types.{ValueType}
use Rattle.fc_nodes.specs.declared.nodes.Node.{Node}
use Rattle.fc_nodes.specs.Terms.{Term, Plain, Apply, Nbr, Evolve, If, Let, Sort, OfLeaf, OfApply, OfNbr, OfEvolve, OfIf, OfLet, View, Has, view_of, view_at, term_by, term_for, terms_by, term_to, term_at, HasNode, Laid, Later, KidsLater, WellFormed}

-- the kids of each node come after it
pub record AllAbove (ns : List Node) : Type 0 where
  pub above : (p : ℕ) (s : Sort) (t : ValueType) (ks : List ℕ) → HasNode ns p s t ks → Later p ks

later_at : (ns : List Node) (p i : ℕ) (s : Sort) (t : ValueType) (ks : List ℕ) → KidsLater p ns → HasNode ns i s t ks → Later (p + i) ks
later_at [] p i s t ks l h = absurd cc
later_at (n ∷ ns) p zero s t ks l h =
    let e : n.kids.items ≡ ks = cc in
    let e' : p ≡ p + 0 = omega arith in
    subst (λ q. Later q ks) e' (subst (Later p) e l.0)
later_at (n ∷ ns) p (suc i) s t ks l h =
    let e : suc p + i ≡ p + suc i = omega arith in
    subst (λ q. Later q ks) e (later_at ns (suc p) i s t ks l.1 h)

pub all_above : (ns : List Node) → KidsLater 0 ns → AllAbove ns
all_above ns l = record { above = λ p s t ks h. let e : 0 + p ≡ p = omega arith in subst (λ q. Later q ks) e (later_at ns 0 p s t ks l h) }

pub formed_above : (ns : List Node) → WellFormed ns → AllAbove ns
formed_above ns w = all_above ns w.later

-- two readings that agree above a place give the same term there
module _ (f g : ℕ → Term) (p : ℕ) (agree : (k : ℕ) → p < k → f k ≡ g k) where
  same_all : (ks : List ℕ) → Later p ks → terms_by f ks ≡ terms_by g ks
  same_all [] h = refl
  same_all (k ∷ ks) h = let e = agree k h.0 in let es = same_all ks h.1 in cc

  same_by : (s : Sort) (t : ValueType) (ks : List ℕ) → Later p ks → term_by f s t ks ≡ term_by g s t ks
  same_by (OfLeaf l) t ks h = refl
  same_by (OfApply o) t ks h = ap (Apply t o) (same_all ks h)
  same_by OfNbr t [] h = refl
  same_by OfNbr t (a ∷ []) h = let e = agree a h.0 in cc
  same_by OfNbr t (a ∷ b ∷ ks) h = refl
  same_by (OfEvolve v) t [] h = refl
  same_by (OfEvolve v) t (a ∷ []) h = refl
  same_by (OfEvolve v) t (a ∷ b ∷ []) h = let e = agree a h.0 in let e' = agree b h.1.0 in cc
  same_by (OfEvolve v) t (a ∷ b ∷ c ∷ ks) h = refl
  same_by OfLet t [] h = refl
  same_by OfLet t (a ∷ []) h = refl
  same_by OfLet t (a ∷ b ∷ []) h = let e = agree a h.0 in let e' = agree b h.1.0 in cc
  same_by OfLet t (a ∷ b ∷ c ∷ ks) h = refl
  same_by OfIf t [] h = refl
  same_by OfIf t (a ∷ []) h = refl
  same_by OfIf t (a ∷ b ∷ []) h = refl
  same_by OfIf t (a ∷ b ∷ c ∷ []) h = let e = agree a h.0 in let e' = agree b h.1.0 in let e'' = agree c h.1.1.0 in cc
  same_by OfIf t (a ∷ b ∷ c ∷ d ∷ ks) h = refl

  same_for : (o : Option View) → ((s : Sort) (t : ValueType) (ks : List ℕ) → o ≡ Some (Has s t ks) → Later p ks) → term_for f o ≡ term_for g o
  same_for None h = refl
  same_for (Some (Has s t ks)) h = same_by s t ks (h s t ks refl)

past : (ns : List Node) (p : ℕ) → length ns ≤ p → view_at ns p ≡ None
past ns p h = rw (slice_get_past ns p h) refl

more : (ns : List Node) → AllAbove ns → (k j p : ℕ) → length ns - p ≤ k → length ns - p ≤ j → term_to k ns p ≡ term_to j ns p
unfolding term_to
more ns a zero zero p h h' = refl
more ns a zero (suc j) p h h' = rw (past ns p (omega arith)) refl
more ns a (suc k) zero p h h' = rw (past ns p (omega arith)) refl
more ns a (suc k) (suc j) p h h' =
    same_for (term_to k ns) (term_to j ns) p (λ q l. more ns a k j q (omega arith) (omega arith)) (view_at ns p) (a.above p)

-- a term is read from those of its kids
pub term_at_step : (ns : List Node) → AllAbove ns → (p : ℕ) → p < length ns → term_at ns p ≡ term_for (term_at ns) (view_at ns p)
unfolding term_at term_to
term_at_step ns a p h =
    more ns a (length ns - p) (suc (length ns - p)) p (omega arith) (omega arith)
    ∙ same_for (term_to (length ns - p) ns) (term_at ns) p (λ q l. more ns a (length ns - p) (length ns - q) q (omega arith) (omega arith)) (view_at ns p) (a.above p)

-- a place with a node is in range
pub in_range : (ns : List Node) (p : ℕ) (v : View) → view_at ns p ≡ Some v → p < length ns
in_range ns p v e = by_cases (slice_get ns p) refl e
  where
    by_cases : (o : Option Node) → slice_get ns p ≡ o → option_map view_of o ≡ Some v → p < length ns
    by_cases None h e = absurd (cc)
    by_cases (Some n) h e = slice_get_within ns p n h

-- the term of a node
pub term_is : (ns : List Node) → AllAbove ns → (p : ℕ) (s : Sort) (t : ValueType) (ks : List ℕ) → HasNode ns p s t ks → term_at ns p ≡ term_by (term_at ns) s t ks
term_is ns a p s t ks e = term_at_step ns a p (in_range ns p _ e) ∙ ap (term_for (term_at ns)) e

-- a term stands within the nodes
pub laid_within : (ns : List Node) (p : ℕ) (t : Term) → Laid ns p t → p < length ns
laid_within ns p (Plain t l) h = in_range ns p _ h
laid_within ns p (Apply t o xs) h = in_range ns p _ h.0
laid_within ns p (Nbr t a) h = in_range ns p _ h.0
laid_within ns p (Evolve t e a b) h = in_range ns p _ h.0
laid_within ns p (If t c a b) h = in_range ns p _ h.0
laid_within ns p (Let t a b) h = in_range ns p _ h.0
