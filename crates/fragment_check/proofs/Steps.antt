-- Crates above cite this module: the node at a place, and the terms of its kids.
use Rattle.std.proofs.Common.{◌≡◌, ℕ, suc, ◌<◌, ◌+◌, List, [], ◌∷◌, length, refl, sym, ◌∙◌, ap, subst, arith, get_or, ◌⊎◌, inl, inr, Bool, true, false, not, ◌&&◌, ◌||◌, Some, None, nat_eq}
use Rattle.std.specs.Prelude.{if◌then◌else◌}
use Rattle.fc_values.specs.declared.builtins.Builtin.{Builtin}
use Rattle.fc_values.specs.declared.builtins.Builtin.TheVariants as op
use Rattle.fc_values.specs.Types.{ValueType}
use Rattle.fc_nodes.specs.declared.nodes.Node.{Node}
use Rattle.fc_nodes.specs.Sorts.{evolution_by, is_nbr_sort, is_deep_sort}
use Rattle.fc_nodes.specs.Terms.{Leaf, Literal, Variable, Sense, Uid, NbrLink, Evolution, ByRep, Term, Terms, Plain, Apply, Nbr, Evolve, If, Let, NoMore, More, size, Sort, OfLeaf, OfApply, OfNbr, OfEvolve, OfIf, OfLet, term_at, term_by, terms_by, HasNode, Laid, AllLaid, places, WellFormed}
use Rattle.fc_nodes.specs.Places.{StandsAt}
use Rattle.fragment_check.specs.Facts.{InRow, evolution_of, facts_of, facts_of_all, under_nbr, beneath, variable_facts, no_facts, builtin_by, is_mux, facts_of_apply, is_less_sort, leaf_facts_by}
use Rattle.fc_nodes.proofs.Places.{AllAbove, formed_above, term_is, laid_within}
use Rattle.fc_nodes.proofs.Kids.{laid_term, OneKid, nbr_laid, kids_of, KidsAre, kids_are, size_some}
use Rattle.fc_nodes.specs.Variables.{is_variable, occurs, is_heard}
use Rattle.fragment_check.specs.declared.facts.Own.{Own}
use Rattle.fragment_check.specs.declared.facts.Gathered.{Gathered}
use Rattle.fragment_check.specs.declared.facts.Guarding.{Guarding}
use Rattle.fragment_check.specs.declared.facts.Guarding.TheVariants as guarding
use Rattle.fragment_check.specs.Patterns.{comparison, compared, guard, guard_by, three_of, guarding_or, guarding_in, together, guarding_of, is_bare}

pub nbr_sort : (s : Sort) → is_nbr_sort s ≡ true → s ≡ OfNbr
nbr_sort (OfLeaf l) e = absurd cc
nbr_sort (OfApply o) e = absurd cc
nbr_sort OfNbr e = refl
nbr_sort (OfEvolve v) e = absurd cc
nbr_sort OfIf e = absurd cc
nbr_sort OfLet e = absurd cc

pub builtin_sort : (s : Sort) (o : Builtin) → builtin_by s ≡ Some o → s ≡ OfApply o
builtin_sort (OfLeaf l) o e = absurd cc
builtin_sort (OfApply p) o e = cc
builtin_sort OfNbr o e = absurd cc
builtin_sort (OfEvolve v) o e = absurd cc
builtin_sort OfIf o e = absurd cc
builtin_sort OfLet o e = absurd cc

module _ (ns : List Node) (ab : AllAbove ns) where
  row : (xs : Terms) (p q : ℕ) → p < q → AllLaid ns q xs → InRow ns p (places q xs)
  row NoMore p q l h = tt
  row (More x xs) p q l h =
      let z = size_some x in
      (l, record { within = laid_within ns q x h.0; laid = subst (Laid ns q) (sym (laid_term ns ab x q h.0)) h.0 }, row xs q (q + size x) (omega (arith, z)) h.1)

-- a node at a place
module _ (ns : List Node) (formed : WellFormed ns) (p : ℕ) (st : StandsAt ns p) (s : Sort) (t : ValueType) (ks : List ℕ) (h : HasNode ns p s t ks) where
  here : KidsAre ns p (term_at ns p) ks
  here = kids_are ns (formed_above ns formed) p s t ks h st.laid

  pub kids_row : InRow ns p ks
  kids_row = let k = here in subst (InRow ns p) (sym k.stand_at) (row ns (formed_above ns formed) (kids_of (term_at ns p)) p (suc p) (omega arith) k.laid)

  pub kids_terms : kids_of (term_at ns p) ≡ terms_by (term_at ns) ks
  kids_terms = let k = here in k.kids

  pub one_kid : is_nbr_sort s ≡ true → OneKid ns p (Nbr t) ks
  one_kid z = nbr_laid ns (formed_above ns formed) p t ks (subst (λ q. HasNode ns p q t ks) (nbr_sort s z) h) st.laid

  pub some_kid : is_nbr_sort s ≡ true → 0 < length ks
  some_kid z = let k = one_kid z in let l = k.long in omega (arith, l)

  first_kid : is_nbr_sort s ≡ true → (q : ℕ) → q ≡ get_or ks 0 q → q ≡ get_or ks 0 0
  first_kid z q e = by_list ks (some_kid z) e
    where
      by_list : (ks : List ℕ) → 0 < length ks → q ≡ get_or ks 0 q → q ≡ get_or ks 0 0
      by_list [] l e = absurd (omega (arith, l))
      by_list (k ∷ ks) l e = e

  pub kid_stands : is_nbr_sort s ≡ true → (q : ℕ) → q ≡ get_or ks 0 q → StandsAt ns q
  kid_stands z q e = let k = one_kid z in subst (StandsAt ns) (sym (first_kid z q e)) (record { within = laid_within ns (get_or ks 0 0) _ k.first; laid = k.first })

  pub nbr_term : is_nbr_sort s ≡ true → (q : ℕ) → q ≡ get_or ks 0 q → term_at ns p ≡ Nbr t (term_at ns q)
  nbr_term z q e = let k = one_kid z in k.term ∙ ap (λ i. Nbr t (term_at ns i)) (sym (first_kid z q e))

  pub not_nbr : (x : ℕ) → is_nbr_sort s ≡ false → is_heard ByRep x (term_at ns p) ≡ false
  not_nbr x z = by_term (term_at ns p) st.laid
    where
      by_term : (u : Term) → Laid ns p u → is_heard ByRep x u ≡ false
      by_term (Plain u l) k = refl
      by_term (Apply u o xs) k = refl
      by_term (Nbr u a) k = let k0 = k.0 in let e : s ≡ OfNbr = cc in let f : is_nbr_sort s ≡ true = ap is_nbr_sort e in absurd cc
      by_term (Evolve u e a b) k = refl
      by_term (If u c a b) k = refl
      by_term (Let u a b) k = refl

  pub not_compared : (b : Term) → is_nbr_sort s ≡ false → compared (term_at ns p) b ≡ None
  not_compared b z = by_term (term_at ns p) st.laid
    where
      by_term : (u : Term) → Laid ns p u → compared u b ≡ None
      by_term (Plain u l) k = refl
      by_term (Apply u o xs) k = refl
      by_term (Nbr u a) k = let k0 = k.0 in let e : s ≡ OfNbr = cc in let f : is_nbr_sort s ≡ true = ap is_nbr_sort e in absurd cc
      by_term (Evolve u e a b) k = refl
      by_term (If u c a b) k = refl
      by_term (Let u a b) k = refl

  pub term_of_apply : (o : Builtin) → builtin_by s ≡ Some o → term_at ns p ≡ Apply t o (terms_by (term_at ns) ks)
  term_of_apply o e = term_is ns (formed_above ns formed) p (OfApply o) t ks (subst (λ q. HasNode ns p q t ks) (builtin_sort s o e) h)

-- two places
pub two_places : (ks : List ℕ) → length ks ≡ 2 → ks ≡ get_or ks 0 0 ∷ get_or ks 1 0 ∷ []
two_places [] e = absurd (omega (arith, e))
two_places (a ∷ []) e = absurd (omega (arith, e))
two_places (a ∷ b ∷ []) e = refl
two_places (a ∷ b ∷ c ∷ ks) e = absurd (omega (arith, e))

pub first_stands : (ns : List Node) (p : ℕ) (ks : List ℕ) → length ks ≡ 2 → InRow ns p ks → StandsAt ns (get_or ks 0 0)
first_stands ns p ks e h = let f = subst (InRow ns p) (two_places ks e) h in f.1

pub second_stands : (ns : List Node) (p : ℕ) (ks : List ℕ) → length ks ≡ 2 → InRow ns p ks → StandsAt ns (get_or ks 1 0)
second_stands ns p ks e h = let f = subst (InRow ns p) (two_places ks e) h in f.2.1

-- ---- facts of a node from those of its kids

or_none : (a : Bool) → (a || false) ≡ a
or_none true = refl
or_none false = refl

together_none : (g : Guarding) → together g guarding.Unused ≡ g
together_none guarding.Unused = refl
together_none (guarding.Potential p) = refl
together_none guarding.Others = refl
together_none guarding.Missing = refl

unheard : (a b : Bool) → a ≡ b → (not a && b) ≡ false
unheard true b e = refl
unheard false true e = absurd cc
unheard false false e = refl

pub facts_same : (a b : Gathered) → a.uses ≡ b.uses → a.nested ≡ b.nested → a.bare ≡ b.bare → a.guarding ≡ b.guarding → a ≡ b
facts_same a b e f g k =
    ap (λ u. record { uses = u; nested = a.nested; bare = a.bare; guarding = a.guarding }) e
    ∙ ap (λ n. record { uses = b.uses; nested = n; bare = a.bare; guarding = a.guarding }) f
    ∙ ap (λ c. record { uses = b.uses; nested = b.nested; bare = c; guarding = a.guarding }) g
    ∙ ap (λ c. record { uses = b.uses; nested = b.nested; bare = b.bare; guarding = c }) k

pub leaf_facts : (own : Own) (t : ValueType) (l : Leaf) → is_variable own.place l ≡ false → facts_of own (Plain t l) ≡ no_facts
leaf_facts own t l e = facts_same (facts_of own (Plain t l)) no_facts e refl (bare_none own.is_share) (ap (λ b. if b then guarding.Missing else guarding.Unused) e)
  where
    bare_none : (b : Bool) → (not (is_heard (evolution_by b) own.place (Plain t l)) && is_variable own.place l) ≡ false
    bare_none true = unheard (is_variable own.place l) (is_variable own.place l) refl
    bare_none false = e

pub own_facts : (own : Own) (t : ValueType) (q : ℕ) → facts_of own (Plain t (Variable q)) ≡ variable_facts own q
own_facts own t q = facts_same (facts_of own (Plain t (Variable q))) (variable_facts own q) refl refl (bare own.is_share) refl
  where
    bare : (b : Bool) → (not (is_heard (evolution_by b) own.place (Plain t (Variable q))) && nat_eq q own.place) ≡ (not b && nat_eq q own.place)
    bare true = unheard (nat_eq q own.place) (nat_eq q own.place) refl
    bare false = refl

pub nbr_facts : (own : Own) (t : ValueType) (a : Term) → facts_of own (Nbr t a) ≡ under_nbr (is_heard (evolution_of own) own.place (Nbr t a)) (facts_of_all own (More a NoMore))
nbr_facts own t a =
    let e = or_none (occurs own.place a) in
    let f = or_none (is_bare (evolution_of own) own.place a) in
    let g = together_none (guarding_of (evolution_of own) own.place a) in
    facts_same (facts_of own (Nbr t a)) (under_nbr (is_heard (evolution_of own) own.place (Nbr t a)) (facts_of_all own (More a NoMore)))
    (sym e) (ap (λ b. not (is_heard (evolution_of own) own.place (Nbr t a)) && b) (sym e)) (ap (λ b. not (is_heard (evolution_of own) own.place (Nbr t a)) && b) (sym f)) (sym g)

pub evolve_facts : (own : Own) (t : ValueType) (v : Evolution) (a b : Term) → facts_of own (Evolve t v a b) ≡ beneath (facts_of_all own (More a (More b NoMore)))
evolve_facts own t v a b =
    let e = or_none (occurs own.place b) in
    let f = or_none (is_bare (evolution_of own) own.place b) in
    let g = together_none (guarding_of (evolution_of own) own.place b) in
    facts_same (facts_of own (Evolve t v a b)) (beneath (facts_of_all own (More a (More b NoMore))))
    (ap (λ c. occurs own.place a || c) (sym e)) (ap (λ c. occurs own.place a || c) (sym e)) (ap (λ c. is_bare (evolution_of own) own.place a || c) (sym f)) (ap (together (guarding_of (evolution_of own) own.place a)) (sym g))

pub let_facts : (own : Own) (t : ValueType) (a b : Term) → facts_of own (Let t a b) ≡ beneath (facts_of_all own (More a (More b NoMore)))
let_facts own t a b =
    let e = or_none (occurs own.place b) in
    let f = or_none (is_bare (evolution_of own) own.place b) in
    let g = together_none (guarding_of (evolution_of own) own.place b) in
    facts_same (facts_of own (Let t a b)) (beneath (facts_of_all own (More a (More b NoMore))))
    (ap (λ c. occurs own.place a || c) (sym e)) (ap (λ c. occurs own.place a || c) (sym e)) (ap (λ c. is_bare (evolution_of own) own.place a || c) (sym f)) (ap (together (guarding_of (evolution_of own) own.place a)) (sym g))

pub if_facts : (own : Own) (t : ValueType) (c a b : Term) → facts_of own (If t c a b) ≡ beneath (facts_of_all own (More c (More a (More b NoMore))))
if_facts own t c a b =
    let e = or_none (occurs own.place b) in
    let f = or_none (is_bare (evolution_of own) own.place b) in
    let g = together_none (guarding_of (evolution_of own) own.place b) in
    facts_same (facts_of own (If t c a b)) (beneath (facts_of_all own (More c (More a (More b NoMore)))))
    (ap (λ d. occurs own.place c || (occurs own.place a || d)) (sym e)) (ap (λ d. occurs own.place c || (occurs own.place a || d)) (sym e)) (ap (λ d. is_bare (evolution_of own) own.place c || (is_bare (evolution_of own) own.place a || d)) (sym f))
    (ap (λ d. together (guarding_of (evolution_of own) own.place c) (together (guarding_of (evolution_of own) own.place a) d)) (sym g))

-- a builtin that is no guard
pub mux_alone : (o : Builtin) → is_mux o ≡ true → o ≡ op.Mux
mux_alone op.Mux e = refl
mux_alone op.Add e = absurd cc
mux_alone op.Sub e = absurd cc
mux_alone op.Mul e = absurd cc
mux_alone op.Rise e = absurd cc
mux_alone op.Min e = absurd cc
mux_alone op.Max e = absurd cc
mux_alone op.Less e = absurd cc
mux_alone op.Equal e = absurd cc
mux_alone op.And e = absurd cc
mux_alone op.Or e = absurd cc
mux_alone op.Not e = absurd cc
mux_alone op.Pair e = absurd cc
mux_alone op.Fst e = absurd cc
mux_alone op.Snd e = absurd cc
mux_alone op.MinHoodLoc e = absurd cc
mux_alone op.MaxHoodLoc e = absurd cc
mux_alone op.SumHood e = absurd cc
mux_alone op.AnyHood e = absurd cc
mux_alone op.AllHood e = absurd cc

pub no_mux : (e : Evolution) (x : ℕ) (o : Builtin) (xs : Terms) → is_mux o ≡ false → guard e x o xs ≡ None
no_mux e x op.Mux xs z = absurd cc
no_mux e x op.Add xs z = refl
no_mux e x op.Sub xs z = refl
no_mux e x op.Mul xs z = refl
no_mux e x op.Rise xs z = refl
no_mux e x op.Min xs z = refl
no_mux e x op.Max xs z = refl
no_mux e x op.Less xs z = refl
no_mux e x op.Equal xs z = refl
no_mux e x op.And xs z = refl
no_mux e x op.Or xs z = refl
no_mux e x op.Not xs z = refl
no_mux e x op.Pair xs z = refl
no_mux e x op.Fst xs z = refl
no_mux e x op.Snd xs z = refl
no_mux e x op.MinHoodLoc xs z = refl
no_mux e x op.MaxHoodLoc xs z = refl
no_mux e x op.SumHood xs z = refl
no_mux e x op.AnyHood xs z = refl
no_mux e x op.AllHood xs z = refl

not_three : (go : ℕ → Term) (ks : List ℕ) → (length ks ≡ 3 → ⊥) → three_of (terms_by go ks) ≡ None
not_three go [] e = refl
not_three go (a ∷ []) e = refl
not_three go (a ∷ b ∷ []) e = refl
not_three go (a ∷ b ∷ c ∷ []) e = absurd (e refl)
not_three go (a ∷ b ∷ c ∷ d ∷ ks) e = refl

no_guard : (e : Evolution) (x : ℕ) (o : Builtin) (go : ℕ → Term) (ks : List ℕ) (b : Bool) → b ≡ is_mux o → ((b ≡ true) × (length ks ≡ 3 → ⊥)) ⊎ (b ≡ false) → guard e x o (terms_by go ks) ≡ None
no_guard e x o go ks b z (inl h) = rw (mux_alone o (sym z ∙ h.0)) (ap (guard_by e x) (not_three go ks h.1))
no_guard e x o go ks b z (inr h) = no_mux e x o (terms_by go ks) (sym z ∙ h)

pub other_facts : (own : Own) (o : Builtin) (go : ℕ → Term) (ks : List ℕ) (b : Bool) → b ≡ is_mux o → ((b ≡ true) × (length ks ≡ 3 → ⊥)) ⊎ (b ≡ false) → facts_of_all own (terms_by go ks) ≡ facts_of_apply own o (terms_by go ks)
other_facts own o go ks b z h =
    let e = no_guard (evolution_of own) own.place o go ks b z h in
    facts_same (facts_of_all own (terms_by go ks)) (facts_of_apply own o (terms_by go ks)) refl refl refl (sym (ap (λ g. guarding_or g (guarding_in (evolution_of own) own.place (terms_by go ks))) e))

pub first_later : (ns : List Node) (p : ℕ) (ks : List ℕ) → p < length ns → InRow ns p ks → p < get_or ks 0 (length ns)
first_later ns p [] l h = l
first_later ns p (k ∷ ks) l h = h.0

-- ---- what is gathered of the node at a place

module _ (ns : List Node) (formed : WellFormed ns) (own : Own) (p : ℕ) (s : Sort) (t : ValueType) (ks : List ℕ) (h : HasNode ns p s t ks) where
  is_term : term_at ns p ≡ term_by (term_at ns) s t ks
  is_term = term_is ns (formed_above ns formed) p s t ks h

  pub apply_done : (o : Builtin) → builtin_by s ≡ Some o → facts_of own (term_at ns p) ≡ facts_of_apply own o (terms_by (term_at ns) ks)
  apply_done o e = ap (facts_of own) (is_term ∙ ap (λ q. term_by (term_at ns) q t ks) (builtin_sort s o e))

  pub leaf_done : builtin_by s ≡ None → is_nbr_sort s ≡ false → is_deep_sort s ≡ false → facts_of own (term_at ns p) ≡ leaf_facts_by own s
  leaf_done e f g = ap (facts_of own) is_term ∙ by_sort s e f g
    where
      by_sort : (s : Sort) → builtin_by s ≡ None → is_nbr_sort s ≡ false → is_deep_sort s ≡ false → facts_of own (term_by (term_at ns) s t ks) ≡ leaf_facts_by own s
      by_sort (OfLeaf (Literal v)) e f g = leaf_facts own t (Literal v) refl
      by_sort (OfLeaf (Variable q)) e f g = own_facts own t q
      by_sort (OfLeaf (Sense i)) e f g = leaf_facts own t (Sense i) refl
      by_sort (OfLeaf Uid) e f g = leaf_facts own t Uid refl
      by_sort (OfLeaf NbrLink) e f g = leaf_facts own t NbrLink refl
      by_sort (OfApply o) e f g = absurd cc
      by_sort OfNbr e f g = absurd cc
      by_sort (OfEvolve v) e f g = absurd cc
      by_sort OfIf e f g = absurd cc
      by_sort OfLet e f g = absurd cc

  pub deep_done : Laid ns p (term_at ns p) → kids_of (term_at ns p) ≡ terms_by (term_at ns) ks → is_deep_sort s ≡ true → facts_of own (term_at ns p) ≡ beneath (facts_of_all own (terms_by (term_at ns) ks))
  deep_done l k e = by_term (term_at ns p) l ∙ ap (λ xs. beneath (facts_of_all own xs)) k
    where
      by_term : (u : Term) → Laid ns p u → facts_of own u ≡ beneath (facts_of_all own (kids_of u))
      by_term (Plain u v) l = let f : s ≡ OfLeaf v = cc in let g = ap is_deep_sort f in absurd cc
      by_term (Apply u o xs) l = let l0 = l.0 in let f : s ≡ OfApply o = cc in let g = ap is_deep_sort f in absurd cc
      by_term (Nbr u a) l = let l0 = l.0 in let f : s ≡ OfNbr = cc in let g = ap is_deep_sort f in absurd cc
      by_term (Evolve u v a b) l = evolve_facts own u v a b
      by_term (If u c a b) l = if_facts own u c a b
      by_term (Let u a b) l = let_facts own u a b

  pub nbr_done : Laid ns p (term_at ns p) → kids_of (term_at ns p) ≡ terms_by (term_at ns) ks → is_nbr_sort s ≡ true
      → facts_of own (term_at ns p) ≡ under_nbr (is_heard (evolution_of own) own.place (term_at ns p)) (facts_of_all own (terms_by (term_at ns) ks))
  nbr_done l k e = by_term (term_at ns p) l ∙ ap (λ xs. under_nbr (is_heard (evolution_of own) own.place (term_at ns p)) (facts_of_all own xs)) k
    where
      by_term : (u : Term) → Laid ns p u → facts_of own u ≡ under_nbr (is_heard (evolution_of own) own.place u) (facts_of_all own (kids_of u))
      by_term (Plain u v) l = let f : s ≡ OfLeaf v = cc in let g = ap is_nbr_sort f in absurd cc
      by_term (Apply u o xs) l = let l0 = l.0 in let f : s ≡ OfApply o = cc in let g = ap is_nbr_sort f in absurd cc
      by_term (Nbr u a) l = nbr_facts own u a
      by_term (Evolve u v a b) l = let l0 = l.0 in let f : s ≡ OfEvolve v = cc in let g = ap is_nbr_sort f in absurd cc
      by_term (If u c a b) l = let l0 = l.0 in let f : s ≡ OfIf = cc in let g = ap is_nbr_sort f in absurd cc
      by_term (Let u a b) l = let l0 = l.0 in let f : s ≡ OfLet = cc in let g = ap is_nbr_sort f in absurd cc

-- ---- comparisons

less_sort : (s : Sort) → is_less_sort s ≡ true → s ≡ OfApply op.Less
less_sort (OfLeaf l) e = absurd cc
less_sort (OfApply op.Less) e = refl
less_sort (OfApply op.Mux) e = absurd cc
less_sort (OfApply op.Add) e = absurd cc
less_sort (OfApply op.Sub) e = absurd cc
less_sort (OfApply op.Mul) e = absurd cc
less_sort (OfApply op.Rise) e = absurd cc
less_sort (OfApply op.Min) e = absurd cc
less_sort (OfApply op.Max) e = absurd cc
less_sort (OfApply op.Equal) e = absurd cc
less_sort (OfApply op.And) e = absurd cc
less_sort (OfApply op.Or) e = absurd cc
less_sort (OfApply op.Not) e = absurd cc
less_sort (OfApply op.Pair) e = absurd cc
less_sort (OfApply op.Fst) e = absurd cc
less_sort (OfApply op.Snd) e = absurd cc
less_sort (OfApply op.MinHoodLoc) e = absurd cc
less_sort (OfApply op.MaxHoodLoc) e = absurd cc
less_sort (OfApply op.SumHood) e = absurd cc
less_sort (OfApply op.AnyHood) e = absurd cc
less_sort (OfApply op.AllHood) e = absurd cc
less_sort OfNbr e = absurd cc
less_sort (OfEvolve v) e = absurd cc
less_sort OfIf e = absurd cc
less_sort OfLet e = absurd cc

module _ (ns : List Node) (formed : WellFormed ns) (p : ℕ) (s : Sort) (t : ValueType) (ks : List ℕ) (h : HasNode ns p s t ks) where
  pub compared_is : is_less_sort s ≡ true → length ks ≡ 2 → comparison (term_at ns p) ≡ compared (term_at ns (get_or ks 0 0)) (term_at ns (get_or ks 1 0))
  compared_is z l = ap comparison (term_is ns (formed_above ns formed) p s t ks h ∙ ap (λ q. term_by (term_at ns) q t ks) (less_sort s z)) ∙ ap (λ k. comparison (Apply t op.Less (terms_by (term_at ns) k))) (two_places ks l)

pub at_kids : (ns : List Node) {ks ls : List ℕ} → ks ≡ ls → compared (term_at ns (get_or ks 0 0)) (term_at ns (get_or ks 1 0)) ≡ compared (term_at ns (get_or ls 0 0)) (term_at ns (get_or ls 1 0))
at_kids ns e = ap (λ k. compared (term_at ns (get_or k 0 0)) (term_at ns (get_or k 1 0))) e
