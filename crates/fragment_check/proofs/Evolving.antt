-- The `rep` or `share` at a place.
use Rattle.std.proofs.Common.{◌≡◌, ℕ, suc, ◌<◌, ◌+◌, List, [], ◌∷◌, length, refl, sym, ◌∙◌, ap, subst, arith, get_or, Bool, Some}
use Rattle.fc_values.specs.Types.{ValueType}
use Rattle.fc_nodes.specs.declared.nodes.Node.{Node}
use Rattle.fc_nodes.specs.Sorts.{evolution_by, is_share_sort}
use Rattle.fc_nodes.specs.Terms.{Evolution, ByRep, ByShare, Evolve, size, Sort, OfLeaf, OfApply, OfNbr, OfEvolve, OfIf, OfLet, Has, term_at, HasNode, WellFormed}
use Rattle.fc_nodes.specs.Places.{StandsAt}
use Rattle.fc_nodes.specs.Program.{Program, unfolding_of}
use Rattle.fc_nodes.proofs.Places.{formed_above, in_range, laid_within}
use Rattle.fc_nodes.proofs.Kids.{TwoKids, evolve_laid}
use Rattle.fc_nodes.proofs.Subterms.{subterm_is}
use Rattle.interval_facts.specs.Ranges.{range_of}
use Rattle.growth_facts.specs.Facts.{IsEvolving, IsEvolveView, evolution_at, evolution_in}
use Rattle.fc_nodes.proofs.Standing.{each_stands}
use Rattle.fragment_check.specs.Patterns.{pattern_of, body_pattern}
use Rattle.fragment_check.specs.Verdicts.{pattern_at}

abbrev pub evolution_sort : Sort → Evolution
evolution_sort (OfEvolve e) = e
evolution_sort _ = ByRep

module _ (ns : List Node) (formed : WellFormed ns) (p : ℕ) (s : Sort) (t : ValueType) (ks : List ℕ) (h : HasNode ns p s t ks) (evolving : IsEvolving ns p) where
  evolve_sort : s ≡ OfEvolve (evolution_sort s)
  evolve_sort = by_sort s (subst IsEvolveView h evolving)
    where
      by_sort : (s : Sort) → IsEvolveView (Some (Has s t ks)) → s ≡ OfEvolve (evolution_sort s)
      by_sort (OfLeaf l) v = absurd v
      by_sort (OfApply o) v = absurd v
      by_sort OfNbr v = absurd v
      by_sort (OfEvolve e) v = refl
      by_sort OfIf v = absurd v
      by_sort OfLet v = absurd v

  node_is : HasNode ns p (OfEvolve (evolution_sort s)) t ks
  node_is = subst (λ q. HasNode ns p q t ks) evolve_sort h

  pub evolution_shared : (b : Bool) → b ≡ is_share_sort s → evolution_by b ≡ evolution_sort s
  evolution_shared b e = ap evolution_by (e ∙ ap is_share_sort evolve_sort) ∙ by_evolution (evolution_sort s)
    where
      by_evolution : (e : Evolution) → evolution_by (is_share_sort (OfEvolve e)) ≡ e
      by_evolution ByRep = refl
      by_evolution ByShare = refl

  pub evolution_is : evolution_at ns p ≡ evolution_sort s
  evolution_is = ap evolution_in node_is

  pub two_kids : TwoKids ns p (Evolve t (evolution_sort s)) ks
  two_kids = evolve_laid ns (formed_above ns formed) p (evolution_sort s) t ks node_is (each_stands ns formed p (in_range ns p _ h)).laid

  pub some_body : 1 < length ks
  some_body = let k = two_kids in let l = k.long in omega (arith, l)

  body_at : (q : ℕ) → q ≡ get_or ks 1 q → q ≡ get_or ks 1 0
  body_at q e = by_list ks some_body e
    where
      by_list : (ks : List ℕ) → 1 < length ks → q ≡ get_or ks 1 q → q ≡ get_or ks 1 0
      by_list [] l e = absurd (omega (arith, l))
      by_list (a ∷ []) l e = absurd (omega (arith, l))
      by_list (a ∷ b ∷ ks) l e = e

  pub body_stands : (q : ℕ) → q ≡ get_or ks 1 q → StandsAt ns q
  body_stands q e = let k = two_kids in subst (StandsAt ns) (sym (body_at q e)) (record { within = laid_within ns (get_or ks 1 0) _ k.second; laid = k.second })

  pub body_is : (q : ℕ) → q ≡ get_or ks 1 q → q ≡ suc p + size (term_at ns (get_or ks 0 0))
  body_is q e = let k = two_kids in body_at q e ∙ k.second_is

  pub term_is : (q : ℕ) → q ≡ get_or ks 1 q → term_at ns p ≡ Evolve t (evolution_sort s) (term_at ns (get_or ks 0 0)) (term_at ns q)
  term_is q e = let k = two_kids in k.term ∙ ap (λ i. Evolve t (evolution_sort s) (term_at ns (get_or ks 0 0)) (term_at ns i)) (sym (body_at q e))

-- the pattern of the body is that of the node
module _ (P : Program) (formed : WellFormed P.nodes) (p : ℕ) (s : Sort) (t : ValueType) (ks : List ℕ) (h : HasNode P.nodes p s t ks) (evolving : IsEvolving P.nodes p) where
  pub pattern_is : (q : ℕ) → q ≡ get_or ks 1 q → (b : Bool) → b ≡ is_share_sort s
      → body_pattern P.declared.ceiling (range_of (unfolding_of P)) (evolution_by b) p q (term_at P.nodes q) ≡ pattern_at (unfolding_of P) p
  pattern_is q e b z =
      ap (λ v. body_pattern P.declared.ceiling (range_of (unfolding_of P)) v p q (term_at P.nodes q)) (evolution_shared P.nodes formed p s t ks h evolving b z)
      ∙ ap (λ i. body_pattern P.declared.ceiling (range_of (unfolding_of P)) (evolution_sort s) p i (term_at P.nodes q)) (body_is P.nodes formed p s t ks h evolving q e)
      ∙ sym (ap (pattern_of P.declared.ceiling (range_of (unfolding_of P)) p) (subterm_is P.nodes formed p ∙ term_is P.nodes formed p s t ks h evolving q e))
