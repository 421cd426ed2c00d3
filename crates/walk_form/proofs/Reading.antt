-- The walk form, read from nodes.
use Rattle.std.proofs.Common.{◌≡◌, ℕ, suc, ◌<◌, ◌+◌, List, [], ◌∷◌, length, get_or, refl, sym, ◌∙◌, ap, subst, arith, Bool, true, false, Option, Some, None}
use Rattle.std.specs.Prelude.{IfNone, if◌then◌else◌}
use Rattle.fc_values.specs.declared.builtins.Builtin.TheVariants as op
use Rattle.fc_values.specs.Types.{IntType, BoolType, PairType, ValueType, TypeLocal, TypeField}
use Rattle.fc_nodes.specs.declared.nodes.Node.{Node}
use Rattle.fc_nodes.specs.Terms.{ByRep, ByShare, Term, Plain, Apply, Nbr, Evolve, If, Let, NoMore, More, size, Sort, OfLeaf, OfApply, OfNbr, OfEvolve, OfIf, OfLet, Has, term_at, HasNode, Laid, WellFormed}
use Rattle.fc_nodes.specs.Places.{StandsAt}
use Rattle.fc_nodes.specs.Sorts.{is_nbr_sort}
use Rattle.fc_nodes.specs.Variables.{is_own, is_heard}
use Rattle.fc_nodes.specs.Program.{Program, unfolding_of, IsProgram}
use Rattle.fc_nodes.proofs.Places.{formed_above, laid_within}
use Rattle.fc_nodes.proofs.Kids.{OneKid, TwoKids, nbr_laid, evolve_laid}
use Rattle.growth_facts.specs.Facts.{IsEvolving, IsEvolveView}
use Rattle.fragment_check.specs.Forms.{TwoAt}
use Rattle.fragment_check.specs.Verdicts.{pattern_at}
use Rattle.fragment_check.proofs.Steps.{nbr_sort}
use Rattle.walk_form.specs.declared.forms.Adds.{Adds}
use Rattle.walk_form.specs.Forms.{WalkTerms, added_term, sum_step, with_local, body_terms, root_terms, is_minimising, if_minimising, walk_terms}
use Rattle.walk_form.specs.Spans.{IsStepOf, IsWalkForm, IsBuiltinAt, is_int_rep, is_add}
use Rattle.walk_form.proofs.Inverted.{body_is, root_is}

view_same : (s r : Sort) (t u : ValueType) (ks ls : List ℕ) → Some (Has s t ks) ≡ Some (Has r u ls) → (s ≡ r) × (t ≡ u) × (ks ≡ ls)
view_same s r t u ks ls e = (cc, cc, cc)

-- ---- builtins of two arguments

pub add_sort : (s : Sort) → is_add s ≡ true → s ≡ OfApply op.Add
add_sort (OfLeaf l) e = absurd cc
add_sort (OfApply op.Add) e = refl
add_sort (OfApply op.Sub) e = absurd cc
add_sort (OfApply op.Mul) e = absurd cc
add_sort (OfApply op.Rise) e = absurd cc
add_sort (OfApply op.Min) e = absurd cc
add_sort (OfApply op.Max) e = absurd cc
add_sort (OfApply op.Less) e = absurd cc
add_sort (OfApply op.Equal) e = absurd cc
add_sort (OfApply op.And) e = absurd cc
add_sort (OfApply op.Or) e = absurd cc
add_sort (OfApply op.Not) e = absurd cc
add_sort (OfApply op.Mux) e = absurd cc
add_sort (OfApply op.Pair) e = absurd cc
add_sort (OfApply op.Fst) e = absurd cc
add_sort (OfApply op.Snd) e = absurd cc
add_sort (OfApply op.MinHoodLoc) e = absurd cc
add_sort (OfApply op.MaxHoodLoc) e = absurd cc
add_sort (OfApply op.SumHood) e = absurd cc
add_sort (OfApply op.AnyHood) e = absurd cc
add_sort (OfApply op.AllHood) e = absurd cc
add_sort OfNbr e = absurd cc
add_sort (OfEvolve v) e = absurd cc
add_sort OfIf e = absurd cc
add_sort OfLet e = absurd cc

-- ---- the sum

module _ (ns : List Node) (p a b : ℕ) (two : TwoAt ns op.Add p a b) where
  abbrev first : Term
  first = term_at ns a

  abbrev second : Term
  second = term_at ns b

  by_tests : (c d : Bool) → is_heard ByRep 0 first ≡ c → is_heard ByRep 0 second ≡ d
      → sum_step 0 p (Apply two.type op.Add (More first (More second NoMore))) ≡ (if c then added_term (suc p + size first) second else (if d then added_term (suc p) first else None))
  by_tests c d e f = rw (e, f) refl

  pub first_step : is_heard ByRep 0 first ≡ true → sum_step 0 p (term_at ns p) ≡ added_term b second
  first_step e =
      ap (sum_step 0 p) two.term ∙ by_tests true (is_heard ByRep 0 second) e refl ∙ ap (λ q. added_term q second) (sym two.second_is)

  pub second_step : is_heard ByRep 0 first ≡ false → is_heard ByRep 0 second ≡ true → sum_step 0 p (term_at ns p) ≡ added_term a first
  second_step e f = ap (sum_step 0 p) two.term ∙ by_tests false true e f ∙ ap (λ q. added_term q first) (sym two.first_is)

  pub no_step : is_heard ByRep 0 first ≡ false → is_heard ByRep 0 second ≡ false → sum_step 0 p (term_at ns p) ≡ None
  no_step e f = ap (sum_step 0 p) two.term ∙ by_tests false false e f

  whole : size (term_at ns p) ≡ suc (size first + size second)
  whole = let e : size (Apply two.type op.Add (More first (More second NoMore))) ≡ suc (size first + size second) = omega arith in ap size two.term ∙ e

  pub second_span : (end : ℕ) → end ≡ p + size (term_at ns p) → end ≡ b + size second
  second_span end e = let w = whole in let s = two.second_is in omega (arith, e, w, s)

  pub first_span : b ≡ a + size first
  first_span = let f = two.first_is in let s = two.second_is in omega (arith, f, s)

pub any_none : {A : Type 0} (o : Option A) {P : Type 0} → P → IfNone o P
any_none None p = p
any_none (Some x) p = tt

none_or : {A : Type 0} (o : Option A) → ((x : A) → o ≡ Some x → ⊥) → o ≡ None
none_or None h = refl
none_or (Some x) h = absurd (h x refl)

-- ---- what is heard

module _ (ns : List Node) (formed : WellFormed ns) (p : ℕ) (st : StandsAt ns p) (s : Sort) (t : ValueType) (ks : List ℕ) (h : HasNode ns p s t ks) where
  module _ (e : is_nbr_sort s ≡ true) where
    one : OneKid ns p (Nbr t) ks
    one = nbr_laid ns (formed_above ns formed) p t ks (subst (λ r. HasNode ns p r t ks) (nbr_sort s e) h) st.laid

    pub some_kid : 0 < length ks
    some_kid = let l = one.long in omega (arith, l)

    first_kid : (ls : List ℕ) (q : ℕ) → 0 < length ls → q ≡ get_or ls 0 q → q ≡ get_or ls 0 0
    first_kid [] q l f = absurd (omega (arith, l))
    first_kid (k ∷ ls) q l f = f

    pub kid_stands : (q : ℕ) → q ≡ get_or ks 0 q → StandsAt ns q
    kid_stands q f = subst (StandsAt ns) (sym (first_kid ks q some_kid f)) (record { within = laid_within ns (get_or ks 0 0) _ one.first; laid = one.first })

    pub heard_is : (q : ℕ) → q ≡ get_or ks 0 q → is_heard ByRep 0 (term_at ns p) ≡ is_own 0 (term_at ns q)
    heard_is q f = ap (is_heard ByRep 0) (one.term ∙ ap (λ i. Nbr t (term_at ns i)) (sym (first_kid ks q some_kid f)))

  pub not_heard : is_nbr_sort s ≡ false → is_heard ByRep 0 (term_at ns p) ≡ false
  not_heard e = by_term (term_at ns p) refl
    where
      by_nbr : (u : ValueType) (a : Term) → term_at ns p ≡ Nbr u a → ⊥
      by_nbr u a z =
          let l : Laid ns p (Nbr u a) = subst (Laid ns p) z st.laid in
          let v = view_same s OfNbr t u ks (suc p ∷ []) (sym h ∙ l.0) in
          let w = v.0 in
          absurd cc

      by_term : (u : Term) → term_at ns p ≡ u → is_heard ByRep 0 (term_at ns p) ≡ false
      by_term (Nbr u a) z = absurd (by_nbr u a z)
      by_term (Plain u l) z = rw z refl
      by_term (Apply u o xs) z = rw z refl
      by_term (Evolve u v a b) z = rw z refl
      by_term (If u c a b) z = rw z refl
      by_term (Let u a b) z = rw z refl

-- ---- the root

int_rep : (s : Sort) (t : ValueType) → is_int_rep s t ≡ true → (s ≡ OfEvolve ByRep) × (t ≡ TypeLocal IntType)
int_rep (OfEvolve ByRep) (TypeLocal IntType) e = (refl, refl)
int_rep (OfEvolve ByRep) (TypeLocal BoolType) e = absurd cc
int_rep (OfEvolve ByRep) (TypeLocal (PairType a b)) e = absurd cc
int_rep (OfEvolve ByRep) (TypeField t) e = absurd cc
int_rep (OfEvolve ByShare) t e = absurd cc
int_rep (OfLeaf l) t e = absurd cc
int_rep (OfApply o) t e = absurd cc
int_rep OfNbr t e = absurd cc
int_rep OfIf t e = absurd cc
int_rep OfLet t e = absurd cc

module _ (P : Program) (is : IsProgram P) (s : Sort) (t : ValueType) (ks : List ℕ) (h : HasNode P.nodes 0 s t ks) where
  abbrev ns : List Node
  ns = P.nodes

  pub no_root : is_int_rep s t ≡ false → walk_terms (unfolding_of P) ≡ None
  no_root e = by_pattern (is_minimising (pattern_at (unfolding_of P) 0))
    where
      contradiction : (w : WalkTerms) → root_terms (term_at ns 0) ≡ Some w → ⊥
      contradiction w f =
          let r = root_is (term_at ns 0) w f in
          let l : Laid ns 0 (Evolve (TypeLocal IntType) ByRep r.start r.body) = subst (Laid ns 0) r.is is.formed.laid in
          let v = view_same s (OfEvolve ByRep) t (TypeLocal IntType) ks (suc 0 ∷ (suc 0 + size r.start) ∷ []) (sym h ∙ l.0) in
          let x : is_int_rep (OfEvolve ByRep) (TypeLocal IntType) ≡ false = subst (λ z. is_int_rep z (TypeLocal IntType) ≡ false) v.0 (subst (λ z. is_int_rep s z ≡ false) v.1 e) in
          absurd cc

      by_pattern : (c : Bool) → if_minimising c (root_terms (term_at ns 0)) ≡ None
      by_pattern true = none_or (root_terms (term_at ns 0)) contradiction
      by_pattern false = refl

  pub not_minimising : is_minimising (pattern_at (unfolding_of P) 0) ≡ false → walk_terms (unfolding_of P) ≡ None
  not_minimising e = ap (λ c. if_minimising c (root_terms (term_at ns 0))) e

  module _ (e : is_int_rep s t ≡ true) where
    abbrev node : HasNode ns 0 (OfEvolve ByRep) (TypeLocal IntType) ks
    node = subst (λ y. HasNode ns 0 (OfEvolve ByRep) y ks) (int_rep s t e).1 (subst (λ x. HasNode ns 0 x t ks) (int_rep s t e).0 h)

    pub evolving : IsEvolving ns 0
    evolving = subst IsEvolveView (sym node) tt

    kids : TwoKids ns 0 (Evolve (TypeLocal IntType) ByRep) ks
    kids = evolve_laid ns (formed_above ns is.formed) 0 ByRep (TypeLocal IntType) ks node is.formed.laid

    pub some_body : 1 < length ks
    some_body = let l = kids.long in omega (arith, l)

    body_at : (ls : List ℕ) (q : ℕ) → 1 < length ls → q ≡ get_or ls 1 q → q ≡ get_or ls 1 0
    body_at [] q l f = absurd (omega (arith, l))
    body_at (a ∷ []) q l f = absurd (omega (arith, l))
    body_at (a ∷ b ∷ ls) q l f = f

    module _ (q : ℕ) (f : q ≡ get_or ks 1 q) where
      abbrev start : Term
      start = term_at ns (get_or ks 0 0)

      at_body : q ≡ get_or ks 1 0
      at_body = body_at ks q some_body f

      pub body_stands : StandsAt ns q
      body_stands = subst (StandsAt ns) (sym at_body) (record { within = laid_within ns (get_or ks 1 0) _ kids.second; laid = kids.second })

      root_term : term_at ns 0 ≡ Evolve (TypeLocal IntType) ByRep start (term_at ns q)
      root_term = kids.term ∙ ap (λ i. Evolve (TypeLocal IntType) ByRep start (term_at ns i)) (sym at_body)

      body_place : q ≡ suc 0 + size start
      body_place = at_body ∙ kids.second_is

      read : is_minimising (pattern_at (unfolding_of P) 0) ≡ true → walk_terms (unfolding_of P) ≡ body_terms 0 q (term_at ns q)
      read m =
          ap (λ c. if_minimising c (root_terms (term_at ns 0))) m
          ∙ ap root_terms root_term
          ∙ ap (λ i. body_terms 0 i (term_at ns q)) (sym body_place)

      -- no `minHoodLoc`
      pub no_hood : is_minimising (pattern_at (unfolding_of P) 0) ≡ true → (IsBuiltinAt op.MinHoodLoc ns q → ⊥) → walk_terms (unfolding_of P) ≡ None
      no_hood m g = read m ∙ none_or (body_terms 0 q (term_at ns q)) (λ w z. let b = body_is 0 q (term_at ns q) w z in g (b.type, b.sum, w.local, b.is))

      module _ (m : is_minimising (pattern_at (unfolding_of P) 0) ≡ true) (a l : ℕ) (two : TwoAt ns op.MinHoodLoc q a l) where
        body_read : walk_terms (unfolding_of P) ≡ with_local l (term_at ns l) (sum_step 0 a (term_at ns a))
        body_read =
            read m
            ∙ ap (body_terms 0 q) two.term
            ∙ ap (λ i. with_local i (term_at ns l) (sum_step 0 (suc q) (term_at ns a))) (sym two.second_is)
            ∙ ap (λ i. with_local l (term_at ns l) (sum_step 0 i (term_at ns a))) (sym two.first_is)

        pub no_summand : sum_step 0 a (term_at ns a) ≡ None → walk_terms (unfolding_of P) ≡ None
        no_summand z = body_read ∙ ap (with_local l (term_at ns l)) z

        pub sum_end : l ≡ a + size (term_at ns a)
        sum_end = let x = two.first_is in let y = two.second_is in omega (arith, x, y)

        local_end : length ns ≡ l + size (term_at ns l)
        local_end =
            let w = is.formed.whole ∙ ap size root_term in
            let z = ap size two.term in
            let x = two.second_is in
            let y = body_place in
            omega (arith, w, z, x, y)

        pub form_is : (x : Adds) → IsStepOf ns a x → IsWalkForm P (record { local = record { from = l; end = length ns }; adds = x })
        form_is x st = record {
          terms = body_read ∙ ap (with_local l (term_at ns l)) st.step;
          local = record { stands = two.second; end = local_end };
          step = st.span;
        }
