-- What the walk over `rep` and `share` finds, step by step.
use Rattle.std.proofs.Common.{◌≡◌, ℕ, suc, ◌<◌, ◌+◌, List, [], ◌∷◌, ◌++◌, refl, sym, ◌∙◌, ap, subst, arith, get_or, true, false, Some, None, OnOk, IfErr}
use Rattle.std.proofs.lemmas.List.{append_assoc, append-nil}
use Rattle.std.specs.declared.result.Result.{Result}
use Rattle.std.specs.declared.result.Result.TheVariants.{Ok, Err}
use Rattle.fc_values.specs.Types.{ValueType}
use Rattle.fc_nodes.specs.declared.nodes.Node.{Node}
use Rattle.fc_nodes.specs.Sorts.{is_evolve_sort}
use Rattle.fc_nodes.specs.declared.verdicts.Reason.{Reason}
use Rattle.fc_nodes.specs.Terms.{Evolution, Term, Terms, Plain, Apply, Nbr, Evolve, If, Let, NoMore, More, size, Sort, OfLeaf, OfApply, OfNbr, OfEvolve, OfIf, OfLet, Has, term_at, HasNode, Laid, AllLaid, places, WellFormed}
use Rattle.fc_nodes.specs.Program.{Program, unfolding_of}
use Rattle.fc_nodes.specs.Places.{StandsAt}
use Rattle.fc_nodes.proofs.Places.{AllAbove, formed_above, laid_within}
use Rattle.fc_nodes.proofs.Kids.{laid_term, kids_of, kids_are}
use Rattle.fc_nodes.proofs.Subterms.{subterm_is}
use Rattle.interval_facts.specs.Ranges.{range_of, RangeValue}
use Rattle.growth_facts.specs.Facts.{IsEvolving, IsEvolveView}
use Rattle.fragment_check.specs.declared.kinds.Pattern.{Pattern}
use Rattle.fragment_check.specs.declared.faults.PatternFault.{PatternFault}
use Rattle.fragment_check.specs.declared.faults.PatternFault.TheVariants as fault
use Rattle.fragment_check.specs.Patterns.{JudgedPlace, pattern_of, judged, all_judged, refusal_first, first_refused, patterns_in}
use Rattle.fragment_check.specs.Verdicts.{pattern_at}
use Rattle.fragment_check.specs.Listing.{judged_at, judged_at_all, Finds, Refuses}
use Rattle.fragment_check.proofs.Evolving.{two_kids, body_is, term_is}

-- ---- lists one after the other

first_none : (js ks : List JudgedPlace) → first_refused js ≡ None → first_refused (js ++ ks) ≡ first_refused ks
first_none [] ks e = refl
first_none ((p, Ok a) ∷ js) ks e = first_none js ks e
first_none ((p, Err r) ∷ js) ks e = absurd cc

first_some : (js ks : List JudgedPlace) (f : ℕ × Reason) → first_refused js ≡ Some f → first_refused (js ++ ks) ≡ Some f
first_some [] ks f e = absurd cc
first_some ((p, Ok a) ∷ js) ks f e = first_some js ks f e
first_some ((p, Err r) ∷ js) ks f e = e

patterns_both : (js ks : List JudgedPlace) → patterns_in (js ++ ks) ≡ patterns_in js ++ patterns_in ks
patterns_both [] ks = refl
patterns_both ((p, Ok a) ∷ js) ks = ap (λ (l : List (ℕ × Pattern)). (p, a) ∷ l) (patterns_both js ks)
patterns_both ((p, Err r) ∷ js) ks = patterns_both js ks

finds_both : (js ks : List JudgedPlace) (old mid new : List (ℕ × Pattern)) → Finds js old mid → Finds ks mid new → Finds (js ++ ks) old new
finds_both js ks old mid new f g =
    (first_none js ks f.0 ∙ g.0, g.1 ∙ ap (λ l. l ++ patterns_in ks) f.1 ∙ append_assoc old (patterns_in js) (patterns_in ks) ∙ ap (λ l. old ++ l) (sym (patterns_both js ks)))

pub found_both : {A : Type 0} (r : Result A PatternFault) (js ks : List JudgedPlace) (old mid new : List (ℕ × Pattern)) → Finds js old mid → OnOk r (Finds ks mid new) → OnOk r (Finds (js ++ ks) old new)
found_both (Ok a) js ks old mid new f g = finds_both js ks old mid new f g
found_both (Err e) js ks old mid new f g = tt

pub refuses_first : (f : PatternFault) (js ks : List JudgedPlace) → Refuses js f → Refuses (js ++ ks) f
refuses_first (fault.Refused p why) js ks h = first_some js ks (p, why) h
refuses_first fault.Memory js ks h = tt

refuses_second : (f : PatternFault) (js ks : List JudgedPlace) → first_refused js ≡ None → Refuses ks f → Refuses (js ++ ks) f
refuses_second (fault.Refused p why) js ks n h = first_none js ks n ∙ h
refuses_second fault.Memory js ks n h = tt

pub refused_second : {A : Type 0} (r : Result A PatternFault) (js ks : List JudgedPlace) → first_refused js ≡ None → IfErr r (Refuses ks) → IfErr r (Refuses (js ++ ks))
refused_second (Ok a) js ks n h = tt
refused_second (Err f) js ks n h = refuses_second f js ks n h

pub refused_same : {A : Type 0} (r : Result A PatternFault) (js ks : List JudgedPlace) → js ≡ ks → IfErr r (Refuses js) → IfErr r (Refuses ks)
refused_same r js ks e h = subst (λ l. IfErr r (Refuses l)) e h

pub found_same : {A : Type 0} (r : Result A PatternFault) (js ks : List JudgedPlace) (old new : List (ℕ × Pattern)) → js ≡ ks → OnOk r (Finds js old new) → OnOk r (Finds ks old new)
found_same r js ks old new e h = subst (λ l. OnOk r (Finds l old new)) e h

-- one more
pub one_finds : (p : ℕ) (r : Result Pattern Reason) (a : Pattern) (old : List (ℕ × Pattern)) → r ≡ Ok a → Finds ((p, r) ∷ []) old (old ++ (p, a) ∷ [])
one_finds p r a old e = rw e (refl, refl)

-- ---- the `rep` and `share` in the term at a place

module _ (P : Program) (ab : AllAbove P.nodes) where
  in_row : (xs : Terms) (p : ℕ) → AllLaid P.nodes p xs → all_judged P.declared.ceiling (range_of (unfolding_of P)) p xs ≡ judged_at_all P (places p xs)
  in_row NoMore p l = refl
  in_row (More x xs) p l =
      let e = sym (ap (judged P.declared.ceiling (range_of (unfolding_of P)) p) (laid_term P.nodes ab x p l.0)) in
      let f = in_row xs (p + size x) l.1 in
      ap (λ js. js ++ all_judged P.declared.ceiling (range_of (unfolding_of P)) (p + size x) xs) e ∙ ap (λ js. judged_at P p ++ js) f

module _ (m : ℕ) (R : ℕ → RangeValue) where
  of_kids : (p : ℕ) (u : Term) → ((t : ValueType) (e : Evolution) (a b : Term) → u ≡ Evolve t e a b → ⊥) → judged m R p u ≡ all_judged m R (suc p) (kids_of u)
  of_kids p (Plain t l) n = refl
  of_kids p (Apply t o xs) n = refl
  of_kids p (Nbr t a) n = sym (append-nil (judged m R (suc p) a))
  of_kids p (Evolve t e a b) n = absurd (n t e a b refl)
  of_kids p (If t c a b) n = ap (λ l. judged m R (suc p) c ++ (judged m R (suc p + size c) a ++ l)) (sym (append-nil (judged m R (suc p + size c + size a) b)))
  of_kids p (Let t a b) n = ap (λ l. judged m R (suc p) a ++ l) (sym (append-nil (judged m R (suc p + size a) b)))

module _ (P : Program) (formed : WellFormed P.nodes) (p : ℕ) (st : StandsAt P.nodes p) (s : Sort) (t : ValueType) (ks : List ℕ) (h : HasNode P.nodes p s t ks) where
  not_evolve : is_evolve_sort s ≡ false → (u : Term) → Laid P.nodes p u → (t : ValueType) (e : Evolution) (a b : Term) → u ≡ Evolve t e a b → ⊥
  not_evolve z u l v e a b q = let l' : Laid P.nodes p (Evolve v e a b) = subst (Laid P.nodes p) q l in let l0 = l'.0 in let f : s ≡ OfEvolve e = cc in let g : is_evolve_sort s ≡ true = ap is_evolve_sort f in absurd cc

  pub kids_judged : is_evolve_sort s ≡ false → judged_at_all P ks ≡ judged_at P p
  kids_judged z =
      let k = kids_are P.nodes (formed_above P.nodes formed) p s t ks h st.laid in
      ap (judged_at_all P) k.stand_at ∙ sym (in_row P (formed_above P.nodes formed) (kids_of (term_at P.nodes p)) (suc p) k.laid)
      ∙ sym (of_kids P.declared.ceiling (range_of (unfolding_of P)) p (term_at P.nodes p) (not_evolve z (term_at P.nodes p) st.laid))

  pub evolving_here : is_evolve_sort s ≡ true → IsEvolving P.nodes p
  evolving_here z = subst IsEvolveView (sym h) (by_sort s z)
    where
      by_sort : (s : Sort) → is_evolve_sort s ≡ true → IsEvolveView (Some (Has s t ks))
      by_sort (OfLeaf l) z = absurd cc
      by_sort (OfApply o) z = absurd cc
      by_sort OfNbr z = absurd cc
      by_sort (OfEvolve e) z = tt
      by_sort OfIf z = absurd cc
      by_sort OfLet z = absurd cc

  pub evolving_judged : (z : is_evolve_sort s ≡ true) (q : ℕ) → q ≡ get_or ks 1 q → ((p, pattern_at (unfolding_of P) p) ∷ []) ++ judged_at P q ≡ judged_at P p
  evolving_judged z q e =
      let b = body_is P.nodes formed p s t ks h (evolving_here z) q e in
      let k = term_is P.nodes formed p s t ks h (evolving_here z) q e in
      ap (λ i. (p, pattern_at (unfolding_of P) p) ∷ judged P.declared.ceiling (range_of (unfolding_of P)) i (term_at P.nodes q)) b
      ∙ ap (λ u. (p, u) ∷ judged P.declared.ceiling (range_of (unfolding_of P)) (suc p + size (term_at P.nodes (get_or ks 0 0))) (term_at P.nodes q)) (ap (pattern_of P.declared.ceiling (range_of (unfolding_of P)) p) (subterm_is P.nodes formed p ∙ k))
      ∙ sym (ap (judged P.declared.ceiling (range_of (unfolding_of P)) p) k)

  pub evolving_refused : is_evolve_sort s ≡ true → (why : Reason) → pattern_at (unfolding_of P) p ≡ Err why → first_refused (judged_at P p) ≡ Some (p, why)
  evolving_refused z why e =
      let k = (two_kids P.nodes formed p s t ks h (evolving_here z)).term in
      let here = sym (ap (pattern_of P.declared.ceiling (range_of (unfolding_of P)) p) (subterm_is P.nodes formed p ∙ k)) ∙ e in
      ap (λ u. first_refused (judged P.declared.ceiling (range_of (unfolding_of P)) p u)) k
      ∙ ap (λ r. refusal_first p r (first_refused (judged P.declared.ceiling (range_of (unfolding_of P)) (suc p + size (term_at P.nodes (get_or ks 0 0))) (term_at P.nodes (get_or ks 1 0))))) here

  pub body_later : (z : is_evolve_sort s ≡ true) (q : ℕ) → q ≡ get_or ks 1 q → p < q
  body_later z q e = let b = body_is P.nodes formed p s t ks h (evolving_here z) q e in omega (arith, b)

pub root_stands : (ns : List Node) → WellFormed ns → StandsAt ns 0
root_stands ns w = record { within = laid_within ns 0 (term_at ns 0) w.laid; laid = w.laid }
