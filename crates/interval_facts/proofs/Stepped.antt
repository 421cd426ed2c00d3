-- Each node's range is a step from those of its kids, and of what a variable is bound to.
use Rattle.std.proofs.Common.{◌≡◌, ℕ, suc, ◌<◌, ◌≤◌, ◌+◌, List, [], ◌∷◌, ◌++◌, length, refl, sym, ◌∙◌, ap, subst, arith, Bool, true, false, Some, nat_eq, nat_lt}
use Rattle.std.specs.Prelude.{if◌then◌else◌}
use Rattle.std.proofs.lemmas.Bool.Decides.{nat_tests}
use Rattle.fc_values.specs.declared.builtins.Builtin.{Builtin}
use Rattle.fc_values.specs.Types.{LocalType, ValueType, TypeLocal, TypeField}
use Rattle.fc_values.specs.Builtins.{is_hood}
use Rattle.fc_values.specs.BuiltinTypes.{inner, inners, Takes, takes_add, takes_sub, takes_mul, takes_rise, takes_min, takes_max, takes_less, takes_equal, takes_and, takes_or, takes_not, takes_mux, takes_pair, takes_fst, takes_snd, Folds, folds_min, folds_max, folds_sum, folds_any, folds_all, rule_by, arity}
use Rattle.fc_nodes.specs.Terms.{Leaf, Literal, Variable, Sense, Uid, NbrLink, Evolution, ByRep, ByShare, Term, Terms, Plain, Apply, Nbr, Evolve, If, Let, NoMore, More, term_type, size, sizes, Sort, OfLeaf, OfApply, OfNbr, OfEvolve, OfIf, OfLet, Has, view_at, HasNode, Laid, AllLaid, places, term_at}
use Rattle.fc_nodes.specs.Typing.{Scope, type_at, types_of, HasType, HaveTypes}
use Rattle.fc_nodes.specs.Program.{Program, unfolding_of, IsProgram}
use Rattle.fc_nodes.proofs.Places.{AllAbove, formed_above}
use Rattle.fc_nodes.proofs.Kids.{laid_term}
use Rattle.interval_facts.specs.Ranges.{RangeValue, full, hull, builtin_range, Bounds, binding_range, leaf_range, term_range, term_ranges, node_ranges, all_node_ranges, ranges_of}
use Rattle.interval_facts.specs.Picks.{ranges_at}
use Rattle.interval_facts.specs.Steps.{range_in, variable_range, leaf_step, step_range, kids_taken, LeafIsBound, IsBound}
use Rattle.interval_facts.proofs.Tables.{Shows, shows_first, shows_second, shows_itself, as_many}

-- ---- as many arguments as a builtin takes

inners_long : (ts : List ValueType) → length (inners ts) ≡ length ts
inners_long [] = refl
inners_long (t ∷ ts) = ap suc (inners_long ts)

operator_arity : (o : Builtin) (ts : List LocalType) (t : LocalType) → Takes o ts t → length ts ≡ arity o
operator_arity _ _ _ takes_add = refl
operator_arity _ _ _ takes_sub = refl
operator_arity _ _ _ takes_mul = refl
operator_arity _ _ _ takes_rise = refl
operator_arity _ _ _ (takes_min t) = refl
operator_arity _ _ _ (takes_max t) = refl
operator_arity _ _ _ (takes_less t) = refl
operator_arity _ _ _ (takes_equal t) = refl
operator_arity _ _ _ takes_and = refl
operator_arity _ _ _ takes_or = refl
operator_arity _ _ _ takes_not = refl
operator_arity _ _ _ (takes_mux t) = refl
operator_arity _ _ _ (takes_pair s t l) = refl
operator_arity _ _ _ (takes_fst s t) = refl
operator_arity _ _ _ (takes_snd s t) = refl

hood_arity : (o : Builtin) (ts : List ValueType) (t : ValueType) → Folds o ts t → length ts ≡ arity o
hood_arity _ _ _ (folds_min t) = refl
hood_arity _ _ _ (folds_max t) = refl
hood_arity _ _ _ folds_sum = refl
hood_arity _ _ _ folds_any = refl
hood_arity _ _ _ folds_all = refl

rule_arity : (hood : Bool) (o : Builtin) (ts : List ValueType) (t : ValueType) → rule_by hood o ts t → length ts ≡ arity o
rule_arity true o ts t h = hood_arity o ts t h
rule_arity false o ts t h = sym (inners_long ts) ∙ operator_arity o (inners ts) h.local h.takes

places_long : (xs : Terms) (p : ℕ) → length (places p xs) ≡ length (types_of xs)
places_long NoMore p = refl
places_long (More x xs) p = ap suc (places_long xs (p + size x))

-- ---- each node

-- the node at a place takes its step
pub record StepsAt (P : Program) (rs : List RangeValue) (p : ℕ) (s : Sort) (t : ValueType) (ks : List ℕ) : Type 0 where
  pub here : range_in rs p ≡ step_range P rs (Has s t ks)
  pub long : length ks ≡ kids_taken s
  pub bound : IsBound P.nodes p s

abbrev pub Steps : Program → List RangeValue → ℕ → Type 0
Steps P rs p = (s : Sort) (t : ValueType) (ks : List ℕ) → HasNode P.nodes p s t ks → StepsAt P rs p s t ks

abbrev AllStep : Program → List RangeValue → ℕ → ℕ → Type 0
AllStep P rs q n = (p : ℕ) → q ≤ p → p < q + n → Steps P rs p

module _ (P : Program) (ab : AllAbove P.nodes) (rs : List RangeValue) where
  -- one node there
  own_step : (q : ℕ) (s : Sort) (t : ValueType) (ks : List ℕ) → HasNode P.nodes q s t ks → StepsAt P rs q s t ks → Steps P rs q
  own_step q s t ks h st s' t' ks' h' =
      let e : s ≡ s' = cc in
      let f : t ≡ t' = cc in
      let g : ks ≡ ks' = cc in
      subst (λ x. StepsAt P rs q x t' ks') e (subst (λ x. StepsAt P rs q s x ks') f (subst (λ x. StepsAt P rs q s t x) g st))

  first_all : (q n : ℕ) → Steps P rs q → AllStep P rs (suc q) n → AllStep P rs q (suc n)
  first_all q n h all p l m = by_test (nat_eq p q) refl
    where
      by_test : (c : Bool) → nat_eq p q ≡ c → Steps P rs p
      by_test true e = let same : q ≡ p = grind (arith, nat_tests) in subst (Steps P rs) same h
      by_test false e = let other : suc q ≤ p = grind (arith, nat_tests) in all p other (omega (arith, m))

  both_all : (q m n : ℕ) → AllStep P rs q m → AllStep P rs (q + m) n → AllStep P rs q (m + n)
  both_all q m n h k p l b = by_test (nat_lt p (q + m)) refl
    where
      by_test : (c : Bool) → nat_lt p (q + m) ≡ c → Steps P rs p
      by_test true e = let before : p < q + m = grind (arith, nat_tests) in h p l before
      by_test false e = let behind : q + m ≤ p = grind (arith, nat_tests) in k p behind (omega (arith, b))

  -- the binders in scope of the term at a place: what they bind ends before it, and the list has their variables' ranges
  abbrev BindersAre : ℕ → Scope → Bounds → Type 0
  BindersAre p [] [] = Unit {0}
  BindersAre p (b ∷ bs) (c ∷ cs) = (b.0 ≡ c.0) × (c.1 ≡ variable_range P.declared rs c.0 (view_at P.nodes c.0)) × (suc c.0 + size (term_at P.nodes (suc c.0)) ≤ p) × BindersAre p bs cs
  BindersAre p _ _ = ⊥

  binders_later : (p q : ℕ) (bs : Scope) (cs : Bounds) → p ≤ q → BindersAre p bs cs → BindersAre q bs cs
  binders_later p q [] [] l h = tt
  binders_later p q [] (c ∷ cs) l h = h
  binders_later p q (b ∷ bs) [] l h = h
  binders_later p q (b ∷ bs) (c ∷ cs) l h = let k = h.2 in (h.0, h.1, omega (arith, k, l), binders_later p q bs cs l h.3)

  variable_is : (other : RangeValue) (n p : ℕ) (t : ValueType) (bs : Scope) (cs : Bounds) → type_at n bs ≡ Some t → BindersAre p bs cs →
      (binding_range other n cs ≡ variable_range P.declared rs n (view_at P.nodes n)) × (suc n + size (term_at P.nodes (suc n)) ≤ p)
  variable_is other n p t [] [] e h = absurd cc
  variable_is other n p t [] (c ∷ cs) e h = absurd h
  variable_is other n p t (b ∷ bs) [] e h = absurd h
  variable_is other n p t (b ∷ bs) (c ∷ cs) e h = by_test (nat_eq c.0 n) refl (subst (λ x. (if nat_eq x n then Some b.1 else type_at n bs) ≡ Some t) h.0 e) (λ k. variable_is other n p t bs cs k h.3)
    where
      by_test : (own : Bool) → nat_eq c.0 n ≡ own → (if own then Some b.1 else type_at n bs) ≡ Some t →
          (type_at n bs ≡ Some t → (binding_range other n cs ≡ variable_range P.declared rs n (view_at P.nodes n)) × (suc n + size (term_at P.nodes (suc n)) ≤ p)) →
          ((if own then c.1 else binding_range other n cs) ≡ variable_range P.declared rs n (view_at P.nodes n)) × (suc n + size (term_at P.nodes (suc n)) ≤ p)
      by_test true i e k =
          let same : c.0 ≡ n = grind (arith, nat_tests) in
          (h.1 ∙ ap (λ x. variable_range P.declared rs x (view_at P.nodes x)) same, subst (λ x. suc x + size (term_at P.nodes (suc x)) ≤ p) same h.2)
      by_test false i e k = k e

  -- one more binder, before its body
  bind_more : (p : ℕ) (s : Sort) (t r : ValueType) (ks : List ℕ) (x : RangeValue) (a : Term) (bs : Scope) (cs : Bounds) → HasNode P.nodes p s t ks → Laid P.nodes (suc p) a →
      x ≡ variable_range P.declared rs p (Some (Has s t ks)) → BindersAre p bs cs → BindersAre (suc p + size a) ((p, r) ∷ bs) ((p, x) ∷ cs)
  bind_more p s t r ks x a bs cs h l e b =
      let same = ap size (laid_term P.nodes ab a (suc p) l) in
      (refl, e ∙ ap (variable_range P.declared rs p) (sym h), omega (arith, same), binders_later p (suc p + size a) bs cs (omega arith) b)

  shows_own : (u : Term) (cs : Bounds) (p : ℕ) → Shows (range_in rs) p (node_ranges P.declared cs p u) → range_in rs p ≡ term_range P.declared cs p u
  shows_own (Plain t l) cs p h = h.0
  shows_own (Apply t o xs) cs p h = h.0
  shows_own (Nbr t a) cs p h = h.0
  shows_own (Evolve t e a b) cs p h = h.0
  shows_own (If t c a b) cs p h = h.0
  shows_own (Let t a b) cs p h = h.0

  shows_all : (xs : Terms) (cs : Bounds) (p : ℕ) → Shows (range_in rs) p (all_node_ranges P.declared cs p xs) → ranges_at rs (places p xs) ≡ term_ranges P.declared cs p xs
  shows_all NoMore cs p h = refl
  shows_all (More x xs) cs p h =
      let long = as_many P.declared x cs p in
      let e = shows_own x cs p (shows_first (range_in rs) p (size x) (node_ranges P.declared cs p x) (all_node_ranges P.declared cs (p + size x) xs) long h) in
      let f = shows_all xs cs (p + size x) (shows_second (range_in rs) p (size x) (node_ranges P.declared cs p x) (all_node_ranges P.declared cs (p + size x) xs) long h) in
      cc

  leaf_is : (l : Leaf) (t : ValueType) (bs : Scope) (cs : Bounds) (p : ℕ) → HasType P.declared bs p (Plain t l) → BindersAre p bs cs →
      (leaf_range P.declared cs t l ≡ leaf_step P rs t l) × LeafIsBound P.nodes p l
  leaf_is (Literal v) t bs cs p h b = (refl, tt)
  leaf_is (Variable n) t bs cs p h b = variable_is (full P.declared.ceiling (inner t)) n p t bs cs h b
  leaf_is (Sense i) t bs cs p h b = (refl, tt)
  leaf_is Uid t bs cs p h b = (refl, tt)
  leaf_is NbrLink t bs cs p h b = (refl, tt)

  -- a `rep` or `share`, by its kids
  evolve_steps : (t : ValueType) (v : Evolution) (a u : Term) (bs : Scope) (cs : Bounds) (p : ℕ) (r : ValueType) → Laid P.nodes p (Evolve t v a u) → BindersAre p bs cs →
      Shows (range_in rs) p (node_ranges P.declared cs p (Evolve t v a u)) →
      (BindersAre (suc p) bs cs → Shows (range_in rs) (suc p) (node_ranges P.declared cs (suc p) a) → AllStep P rs (suc p) (size a)) →
      (BindersAre (suc p + size a) ((p, r) ∷ bs) ((p, full P.declared.ceiling (inner t)) ∷ cs) →
      Shows (range_in rs) (suc p + size a) (node_ranges P.declared ((p, full P.declared.ceiling (inner t)) ∷ cs) (suc p + size a) u) → AllStep P rs (suc p + size a) (size u)) →
      AllStep P rs p (size (Evolve t v a u))
  evolve_steps t v a u bs cs p r lay b sh first body =
      let long = as_many P.declared a cs (suc p) in
      let x = full P.declared.ceiling (inner t) in
      let sha = shows_first (range_in rs) (suc p) (size a) (node_ranges P.declared cs (suc p) a) (node_ranges P.declared ((p, x) ∷ cs) (suc p + size a) u) long sh.1 in
      let shu = shows_second (range_in rs) (suc p) (size a) (node_ranges P.declared cs (suc p) a) (node_ranges P.declared ((p, x) ∷ cs) (suc p + size a) u) long sh.1 in
      first_all p (size a + size u)
      (own_step p (OfEvolve v) t (suc p ∷ (suc p + size a) ∷ []) lay.0 (record { here = sh.0 ∙ sym (shows_own u ((p, x) ∷ cs) (suc p + size a) shu); long = refl; bound = tt }))
      (both_all (suc p) (size a) (size u) (first (binders_later p (suc p) bs cs (omega arith) b) sha)
      (body (bind_more p (OfEvolve v) t r (suc p ∷ (suc p + size a) ∷ []) x a bs cs lay.0 lay.1 refl b) shu))

  mutual
    steps : (u : Term) (bs : Scope) (cs : Bounds) (p : ℕ) → Laid P.nodes p u → HasType P.declared bs p u → BindersAre p bs cs → Shows (range_in rs) p (node_ranges P.declared cs p u) → AllStep P rs p (size u)
    steps (Plain t l) bs cs p lay h b sh =
        let k = leaf_is l t bs cs p h b in
        first_all p 0 (own_step p (OfLeaf l) t [] lay (record { here = sh.0 ∙ k.0; long = refl; bound = k.1 })) (λ q i j. absurd (omega (arith, i, j)))
    steps (Apply t o xs) bs cs p lay h b sh =
        let same = shows_all xs cs (suc p) sh.1 in
        first_all p (sizes xs)
        (own_step p (OfApply o) t (places (suc p) xs) lay.0 (record {
          here = sh.0 ∙ ap (builtin_range P.declared.ceiling (full P.declared.ceiling (inner t)) o) (sym same);
          long = places_long xs (suc p) ∙ rule_arity (is_hood o) o (types_of xs) t h.0;
          bound = tt;
        }))
        (all_steps xs bs cs (suc p) lay.1 h.1 (binders_later p (suc p) bs cs (omega arith) b) sh.1)
    steps (Nbr t a) bs cs p lay h b sh =
        first_all p (size a)
        (own_step p OfNbr t (suc p ∷ []) lay.0 (record { here = sh.0 ∙ sym (shows_own a cs (suc p) sh.1); long = refl; bound = tt }))
        (steps a bs cs (suc p) lay.1 h.3 (binders_later p (suc p) bs cs (omega arith) b) sh.1)
    steps (Evolve t ByRep a u) bs cs p lay h b sh =
        evolve_steps t ByRep a u bs cs p (TypeLocal h.0) lay b sh (λ c k. steps a bs cs (suc p) lay.1 h.4 c k)
        (λ c k. steps u ((p, TypeLocal h.0) ∷ bs) ((p, full P.declared.ceiling (inner t)) ∷ cs) (suc p + size a) lay.2 h.5 c k)
    steps (Evolve t ByShare a u) bs cs p lay h b sh =
        evolve_steps t ByShare a u bs cs p (TypeField h.0) lay b sh (λ c k. steps a bs cs (suc p) lay.1 h.4 c k)
        (λ c k. steps u ((p, TypeField h.0) ∷ bs) ((p, full P.declared.ceiling (inner t)) ∷ cs) (suc p + size a) lay.2 h.5 c k)
    steps (If t c a u) bs cs p lay h b sh =
        let long = as_many P.declared c cs (suc p) in
        let long_a = as_many P.declared a cs (suc p + size c) in
        let shc = shows_first (range_in rs) (suc p) (size c) (node_ranges P.declared cs (suc p) c) (node_ranges P.declared cs (suc p + size c) a ++ node_ranges P.declared cs (suc p + size c + size a) u) long sh.1 in
        let rest = shows_second (range_in rs) (suc p) (size c) (node_ranges P.declared cs (suc p) c) (node_ranges P.declared cs (suc p + size c) a ++ node_ranges P.declared cs (suc p + size c + size a) u) long sh.1 in
        let sha = shows_first (range_in rs) (suc p + size c) (size a) (node_ranges P.declared cs (suc p + size c) a) (node_ranges P.declared cs (suc p + size c + size a) u) long_a rest in
        let shu = shows_second (range_in rs) (suc p + size c) (size a) (node_ranges P.declared cs (suc p + size c) a) (node_ranges P.declared cs (suc p + size c + size a) u) long_a rest in
        let e = shows_own a cs (suc p + size c) sha in
        let f = shows_own u cs (suc p + size c + size a) shu in
        first_all p (size c + size a + size u)
        (own_step p OfIf t (suc p ∷ (suc p + size c) ∷ (suc p + size c + size a) ∷ []) lay.0 (record { here = sh.0 ∙ ap (λ r. hull r (term_range P.declared cs (suc p + size c + size a) u)) (sym e) ∙ ap (hull (range_in rs (suc p + size c))) (sym f); long = refl; bound = tt }))
        (both_all (suc p) (size c + size a) (size u)
        (both_all (suc p) (size c) (size a) (steps c bs cs (suc p) lay.1 h.5 (binders_later p (suc p) bs cs (omega arith) b) shc)
        (steps a bs cs (suc p + size c) lay.2 h.6 (binders_later p (suc p + size c) bs cs (omega arith) b) sha))
        (λ q i j. steps u bs cs (suc p + size c + size a) lay.3 h.7 (binders_later p (suc p + size c + size a) bs cs (omega arith) b) shu q (omega (arith, i)) (omega (arith, j))))
    steps (Let t a u) bs cs p lay h b sh =
        let long = as_many P.declared a cs (suc p) in
        let x = term_range P.declared cs (suc p) a in
        let sha = shows_first (range_in rs) (suc p) (size a) (node_ranges P.declared cs (suc p) a) (node_ranges P.declared ((p, x) ∷ cs) (suc p + size a) u) long sh.1 in
        let shu = shows_second (range_in rs) (suc p) (size a) (node_ranges P.declared cs (suc p) a) (node_ranges P.declared ((p, x) ∷ cs) (suc p + size a) u) long sh.1 in
        first_all p (size a + size u)
        (own_step p OfLet t (suc p ∷ (suc p + size a) ∷ []) lay.0 (record { here = sh.0 ∙ sym (shows_own u ((p, x) ∷ cs) (suc p + size a) shu); long = refl; bound = tt }))
        (both_all (suc p) (size a) (size u) (steps a bs cs (suc p) lay.1 h.1 (binders_later p (suc p) bs cs (omega arith) b) sha)
        (steps u ((p, term_type a) ∷ bs) ((p, x) ∷ cs) (suc p + size a) lay.2 h.2
        (bind_more p OfLet t (term_type a) (suc p ∷ (suc p + size a) ∷ []) x a bs cs lay.0 lay.1 (sym (shows_own a cs (suc p) sha)) b) shu))

    all_steps : (xs : Terms) (bs : Scope) (cs : Bounds) (p : ℕ) → AllLaid P.nodes p xs → HaveTypes P.declared bs p xs → BindersAre p bs cs → Shows (range_in rs) p (all_node_ranges P.declared cs p xs) → AllStep P rs p (sizes xs)
    all_steps NoMore bs cs p lay h b sh = λ q i j. absurd (omega (arith, i, j))
    all_steps (More x xs) bs cs p lay h b sh =
        let long = as_many P.declared x cs p in
        let first = shows_first (range_in rs) p (size x) (node_ranges P.declared cs p x) (all_node_ranges P.declared cs (p + size x) xs) long sh in
        let second = shows_second (range_in rs) p (size x) (node_ranges P.declared cs p x) (all_node_ranges P.declared cs (p + size x) xs) long sh in
        both_all p (size x) (sizes xs) (steps x bs cs p lay.0 h.0 b first)
        (all_steps xs bs cs (p + size x) lay.1 h.1 (binders_later p (p + size x) bs cs (omega arith) b) second)

-- each node of a program takes its step
pub program_steps : (P : Program) → IsProgram P → (p : ℕ) → p < length P.nodes → Steps P (ranges_of (unfolding_of P)) p
program_steps P program p l =
    let whole = program.formed.whole in
    steps P (formed_above P.nodes program.formed) (ranges_of (unfolding_of P)) (term_at P.nodes 0) [] [] 0 program.formed.laid program.typed tt (shows_itself (ranges_of (unfolding_of P)))
    p (omega arith) (omega (arith, whole, l))
