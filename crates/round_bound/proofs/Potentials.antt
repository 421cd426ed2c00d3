-- The range of a binder's variable, and what a `rep` or `share` adds, by the node at its place.
use Rattle.std.proofs.Common.{◌≡◌, ℕ, suc, ◌≤◌, ◌<◌, ◌+◌, ◌-◌, List, length, refl, sym, ◌∙◌, ap, subst, arith, get_or, true, false, Some}
use Rattle.std.specs.declared.result.Result.TheVariants.{Ok}
use Rattle.fc_values.specs.Types.{LocalType, IntType, BoolType, PairType, ValueType, TypeLocal}
use Rattle.fc_values.specs.BuiltinTypes.{inner}
use Rattle.fc_nodes.specs.declared.nodes.Node.{Node}
use Rattle.fc_nodes.specs.Sorts.{is_evolve_sort, is_let_sort}
use Rattle.fc_nodes.specs.Terms.{Evolution, Uid, Term, Plain, Apply, Nbr, Evolve, If, Let, Sort, OfLeaf, OfApply, OfNbr, OfEvolve, OfIf, OfLet, View, view_at, term_to, term_at, HasNode, Laid, WellFormed}
use Rattle.fc_nodes.specs.Subterms.{subterm_at}
use Rattle.fc_nodes.specs.Program.{Program, Unfolding, unfolding_of}
use Rattle.fc_nodes.specs.Places.{StandsAt}
use Rattle.fc_nodes.proofs.Subterms.{subterm_is}
use Rattle.fc_nodes.proofs.Places.{laid_within}
use Rattle.interval_facts.specs.Ranges.{RangeValue, IntRange, BoolRange, full, range_of, AreRangesOf}
use Rattle.growth_facts.specs.Leads.{least_integer, greatest_integer}
use Rattle.growth_facts.specs.Facts.{IsEvolveView, IsEvolving, evolution_in, evolution_at}
use Rattle.fragment_check.specs.declared.kinds.Pattern.{Pattern}
use Rattle.fragment_check.specs.Patterns.{pattern_of}
use Rattle.fragment_check.specs.Verdicts.{added_levels, added_by, added_at, bound_range, variable_range, stages_of, pattern_at}
use Rattle.round_bound.specs.Walks.{greatest_full}

past_term : (ns : List Node) (q : ℕ) → length ns ≤ q → term_at ns q ≡ Plain (TypeLocal IntType) Uid
unfolding term_at term_to
past_term ns q l = let e : length ns - q ≡ 0 = omega (arith, l) in rw e refl

range_is : (P : Program) → WellFormed P.nodes → (q : ℕ) → variable_range (unfolding_of P) q ≡ bound_range P.declared.ceiling (range_of (unfolding_of P)) q (term_at P.nodes q)
range_is P formed q = ap (bound_range P.declared.ceiling (range_of (unfolding_of P)) q) (subterm_is P.nodes formed q)

-- past the nodes
pub past_range : (P : Program) → WellFormed P.nodes → (q : ℕ) → length P.nodes ≤ q → variable_range (unfolding_of P) q ≡ IntRange 0 P.declared.ceiling
past_range P formed q l = range_is P formed q ∙ ap (bound_range P.declared.ceiling (range_of (unfolding_of P)) q) (past_term P.nodes q l)

module _ (P : Program) (formed : WellFormed P.nodes) (q : ℕ) (st : StandsAt P.nodes q) (s : Sort) (t : ValueType) (ks : List ℕ) (h : HasNode P.nodes q s t ks) where
  pub let_range : is_let_sort s ≡ true → variable_range (unfolding_of P) q ≡ range_of (unfolding_of P) (suc q)
  let_range z = range_is P formed q ∙ by_term (term_at P.nodes q) st.laid
    where
      by_term : (u : Term) → Laid P.nodes q u → bound_range P.declared.ceiling (range_of (unfolding_of P)) q u ≡ range_of (unfolding_of P) (suc q)
      by_term (Plain u v) l = let f : s ≡ OfLeaf v = cc in let g = ap is_let_sort f in absurd cc
      by_term (Apply u o xs) l = let l0 = l.0 in let f : s ≡ OfApply o = cc in let g = ap is_let_sort f in absurd cc
      by_term (Nbr u a) l = let l0 = l.0 in let f : s ≡ OfNbr = cc in let g = ap is_let_sort f in absurd cc
      by_term (Evolve u v a b) l = let l0 = l.0 in let f : s ≡ OfEvolve v = cc in let g = ap is_let_sort f in absurd cc
      by_term (If u c a b) l = let l0 = l.0 in let f : s ≡ OfIf = cc in let g = ap is_let_sort f in absurd cc
      by_term (Let u a b) l = refl

  pub let_within : is_let_sort s ≡ true → suc q < length P.nodes
  let_within z = by_term (term_at P.nodes q) st.laid
    where
      by_term : (u : Term) → Laid P.nodes q u → suc q < length P.nodes
      by_term (Plain u v) l = let f : s ≡ OfLeaf v = cc in let g = ap is_let_sort f in absurd cc
      by_term (Apply u o xs) l = let l0 = l.0 in let f : s ≡ OfApply o = cc in let g = ap is_let_sort f in absurd cc
      by_term (Nbr u a) l = let l0 = l.0 in let f : s ≡ OfNbr = cc in let g = ap is_let_sort f in absurd cc
      by_term (Evolve u v a b) l = let l0 = l.0 in let f : s ≡ OfEvolve v = cc in let g = ap is_let_sort f in absurd cc
      by_term (If u c a b) l = let l0 = l.0 in let f : s ≡ OfIf = cc in let g = ap is_let_sort f in absurd cc
      by_term (Let u a b) l = laid_within P.nodes (suc q) a l.1

  pub evolve_range : is_evolve_sort s ≡ true → variable_range (unfolding_of P) q ≡ full P.declared.ceiling (inner t)
  evolve_range z = range_is P formed q ∙ by_term (term_at P.nodes q) st.laid
    where
      by_term : (u : Term) → Laid P.nodes q u → bound_range P.declared.ceiling (range_of (unfolding_of P)) q u ≡ full P.declared.ceiling (inner t)
      by_term (Plain u v) l = let f : s ≡ OfLeaf v = cc in let g = ap is_evolve_sort f in absurd cc
      by_term (Apply u o xs) l = let l0 = l.0 in let f : s ≡ OfApply o = cc in let g = ap is_evolve_sort f in absurd cc
      by_term (Nbr u a) l = let l0 = l.0 in let f : s ≡ OfNbr = cc in let g = ap is_evolve_sort f in absurd cc
      by_term (Evolve u v a b) l = let l0 = l.0 in let f : t ≡ u = cc in ap (λ i. full P.declared.ceiling (inner i)) (sym f)
      by_term (If u c a b) l = let l0 = l.0 in let f : s ≡ OfIf = cc in let g = ap is_evolve_sort f in absurd cc
      by_term (Let u a b) l = let l0 = l.0 in let f : s ≡ OfLet = cc in let g = ap is_evolve_sort f in absurd cc

  pub other_range : is_let_sort s ≡ false → is_evolve_sort s ≡ false → variable_range (unfolding_of P) q ≡ IntRange 0 P.declared.ceiling
  other_range z w = range_is P formed q ∙ by_term (term_at P.nodes q) st.laid
    where
      by_term : (u : Term) → Laid P.nodes q u → bound_range P.declared.ceiling (range_of (unfolding_of P)) q u ≡ IntRange 0 P.declared.ceiling
      by_term (Plain u v) l = refl
      by_term (Apply u o xs) l = refl
      by_term (Nbr u a) l = refl
      by_term (Evolve u v a b) l = let l0 = l.0 in let f : s ≡ OfEvolve v = cc in let g = ap is_evolve_sort f in absurd cc
      by_term (If u c a b) l = refl
      by_term (Let u a b) l = let l0 = l.0 in let f : s ≡ OfLet = cc in let g = ap is_let_sort f in absurd cc

pub full_greatest : (m : ℕ) (t : LocalType) → greatest_full m t ≡ greatest_integer (full m t)
full_greatest m IntType = refl
full_greatest m BoolType = refl
full_greatest m (PairType IntType t) = refl
full_greatest m (PairType BoolType t) = refl
full_greatest m (PairType (PairType r s) t) = refl

pub full_least : (m : ℕ) (t : LocalType) → 0 ≡ least_integer (full m t)
full_least m IntType = refl
full_least m BoolType = refl
full_least m (PairType IntType t) = refl
full_least m (PairType BoolType t) = refl
full_least m (PairType (PairType r s) t) = refl

-- the range at the place behind another one
pub range_behind : (U : Unfolding) (rs : List RangeValue) → AreRangesOf U rs → (q : ℕ) (r : RangeValue) → r ≡ get_or rs (q + 1) BoolRange → r ≡ range_of U (suc q)
range_behind U rs h q r e = let k : q + 1 ≡ suc q = omega arith in e ∙ ap (λ i. get_or rs i BoolRange) k ∙ ap (λ xs. get_or xs (suc q) BoolRange) h

-- what a `rep` or `share` adds
module _ (P : Program) (formed : WellFormed P.nodes) (n p : ℕ) (st : StandsAt P.nodes p) (evolving : IsEvolving P.nodes p) where
  pub added_is : stages_of (unfolding_of P) n p ≡ added_by n (variable_range (unfolding_of P)) (evolution_at P.nodes p) (pattern_at (unfolding_of P) p)
  added_is =
      ap (added_at P.declared.ceiling (range_of (unfolding_of P)) (variable_range (unfolding_of P)) n p) here
      ∙ by_term (term_at P.nodes p) st.laid
      ∙ ap (λ u. added_by n (variable_range (unfolding_of P)) (evolution_at P.nodes p) (pattern_of P.declared.ceiling (range_of (unfolding_of P)) p u)) (sym here)
    where
      here : subterm_at p (term_at P.nodes 0) ≡ term_at P.nodes p
      here = subterm_is P.nodes formed p

      no_view : {A : Type 0} (v : View) → view_at P.nodes p ≡ Some v → (IsEvolveView (Some v) → ⊥) → A
      no_view v e f = absurd (f (subst IsEvolveView e evolving))

      by_term : (u : Term) → Laid P.nodes p u → added_at P.declared.ceiling (range_of (unfolding_of P)) (variable_range (unfolding_of P)) n p u
          ≡ added_by n (variable_range (unfolding_of P)) (evolution_at P.nodes p) (pattern_of P.declared.ceiling (range_of (unfolding_of P)) p u)
      by_term (Plain u v) l = no_view _ l (λ x. x)
      by_term (Apply u o xs) l = no_view _ l.0 (λ x. x)
      by_term (Nbr u a) l = no_view _ l.0 (λ x. x)
      by_term (Evolve u v a b) l = ap (λ e. added_by n (variable_range (unfolding_of P)) e (pattern_of P.declared.ceiling (range_of (unfolding_of P)) p (Evolve u v a b))) (sym (ap evolution_in l.0))
      by_term (If u c a b) l = no_view _ l.0 (λ x. x)
      by_term (Let u a b) l = no_view _ l.0 (λ x. x)

  pub adds : (e : Evolution) (a : Pattern) → evolution_at P.nodes p ≡ e → pattern_at (unfolding_of P) p ≡ Ok a → added_levels n (variable_range (unfolding_of P)) e a ≡ stages_of (unfolding_of P) n p
  adds e a f g = sym (added_is ∙ ap (λ v. added_by n (variable_range (unfolding_of P)) v (pattern_at (unfolding_of P) p)) f ∙ ap (added_by n (variable_range (unfolding_of P)) e) g)
