-- A term without the variable has no facts.
use Rattle.std.proofs.Common.{◌≡◌, ℕ, refl, ◌∙◌, ap, Bool, true, false, ◌||◌, ◌&&◌, None}
use Rattle.std.specs.Prelude.{not, if◌then◌else◌}
use Rattle.fc_values.specs.declared.builtins.Builtin.{Builtin}
use Rattle.fc_values.proofs.Booleans.{or_no}
use Rattle.fc_nodes.specs.Terms.{Evolution, ByRep, ByShare, Term, Terms, Plain, Apply, Nbr, Evolve, If, Let, NoMore, More}
use Rattle.fc_nodes.specs.Variables.{is_variable, occurs, occurs_in, is_heard}
use Rattle.fragment_check.specs.declared.facts.Own.{Own}
use Rattle.fragment_check.specs.declared.facts.Guarding.{Guarding}
use Rattle.fragment_check.specs.declared.facts.Guarding.TheVariants as guarding
use Rattle.fragment_check.specs.Patterns.{is_nested, is_nested_in, is_bare, is_bare_in, guarding_of, guarding_in, guarding_or, together, guard, guard_by, three_of, comparison}
use Rattle.fragment_check.specs.Facts.{evolution_of, facts_of, no_facts, is_mux}
use Rattle.fragment_check.proofs.Steps.{mux_alone, no_mux, facts_same}

none_both : (a b : Bool) → b ≡ false → (a && b) ≡ false
none_both true b e = e
none_both false b e = refl

both_unused : (g h : Guarding) → g ≡ guarding.Unused → h ≡ guarding.Unused → together g h ≡ guarding.Unused
both_unused g h e f = rw (e, f) refl

neither : (a b : Bool) → a ≡ false → b ≡ false → (a || b) ≡ false
neither a b e f = rw (e, f) refl

module _ (e : Evolution) (x : ℕ) where
  pub unheard : (t : Term) → occurs x t ≡ false → is_heard e x t ≡ false
  unheard t h = by_evolution e t h
    where
      by_evolution : (e : Evolution) (t : Term) → occurs x t ≡ false → is_heard e x t ≡ false
      by_evolution ByRep (Nbr t (Plain s l)) h = h
      by_evolution ByRep (Nbr t (Apply s o xs)) h = refl
      by_evolution ByRep (Nbr t (Nbr s a)) h = refl
      by_evolution ByRep (Nbr t (Evolve s f a b)) h = refl
      by_evolution ByRep (Nbr t (If s c a b)) h = refl
      by_evolution ByRep (Nbr t (Let s a b)) h = refl
      by_evolution ByRep (Plain t l) h = refl
      by_evolution ByRep (Apply t o xs) h = refl
      by_evolution ByRep (Evolve t f a b) h = refl
      by_evolution ByRep (If t c a b) h = refl
      by_evolution ByRep (Let t a b) h = refl
      by_evolution ByShare (Plain t l) h = h
      by_evolution ByShare (Nbr t a) h = refl
      by_evolution ByShare (Apply t o xs) h = refl
      by_evolution ByShare (Evolve t f a b) h = refl
      by_evolution ByShare (If t c a b) h = refl
      by_evolution ByShare (Let t a b) h = refl

  mutual
    not_nested : (t : Term) → occurs x t ≡ false → is_nested e x t ≡ false
    not_nested (Plain t l) h = refl
    not_nested (Apply t o xs) h = none_nested xs h
    not_nested (Nbr t a) h = none_both (not (is_heard e x (Nbr t a))) (occurs x a) h
    not_nested (Evolve t f a b) h = h
    not_nested (If t c a b) h = h
    not_nested (Let t a b) h = h

    none_nested : (xs : Terms) → occurs_in x xs ≡ false → is_nested_in e x xs ≡ false
    none_nested NoMore h = refl
    none_nested (More t ts) h = let k = or_no (occurs x t) (occurs_in x ts) h in neither _ _ (not_nested t k.0) (none_nested ts k.1)

  mutual
    not_bare : (t : Term) → occurs x t ≡ false → is_bare e x t ≡ false
    not_bare (Plain t l) h = none_both (not (is_heard e x (Plain t l))) (is_variable x l) h
    not_bare (Apply t o xs) h = none_bare xs h
    not_bare (Nbr t a) h = none_both (not (is_heard e x (Nbr t a))) (is_bare e x a) (not_bare a h)
    not_bare (Evolve t f a b) h = let k = or_no (occurs x a) (occurs x b) h in neither _ _ (not_bare a k.0) (not_bare b k.1)
    not_bare (If t c a b) h =
        let k = or_no (occurs x c) (occurs x a || occurs x b) h in
        let j = or_no (occurs x a) (occurs x b) k.1 in
        neither _ _ (not_bare c k.0) (neither _ _ (not_bare a j.0) (not_bare b j.1))
    not_bare (Let t a b) h = let k = or_no (occurs x a) (occurs x b) h in neither _ _ (not_bare a k.0) (not_bare b k.1)

    none_bare : (xs : Terms) → occurs_in x xs ≡ false → is_bare_in e x xs ≡ false
    none_bare NoMore h = refl
    none_bare (More t ts) h = let k = or_no (occurs x t) (occurs_in x ts) h in neither _ _ (not_bare t k.0) (none_bare ts k.1)

  no_guard : (o : Builtin) (xs : Terms) → occurs_in x xs ≡ false → guard e x o xs ≡ None
  no_guard o xs h = by_test (is_mux o) refl
    where
      by_terms : (xs : Terms) → occurs_in x xs ≡ false → guard_by e x (three_of xs) ≡ None
      by_terms NoMore h = refl
      by_terms (More a NoMore) h = refl
      by_terms (More a (More b NoMore)) h = refl
      by_terms (More a (More b (More c NoMore))) h =
          let k = or_no (occurs x a) (occurs x b || (occurs x c || false)) h in
          let j = or_no (occurs x b) (occurs x c || false) k.1 in
          ap (λ q. if q && (not (occurs x a) && not (occurs x c)) then comparison a else None) (unheard b j.0)
      by_terms (More a (More b (More c (More d ts)))) h = refl

      by_test : (b : Bool) → is_mux o ≡ b → guard e x o xs ≡ None
      by_test true q = ap (λ p. guard e x p xs) (mux_alone o q) ∙ by_terms xs h
      by_test false q = no_mux e x o xs q

  mutual
    pub not_guarded : (t : Term) → occurs x t ≡ false → guarding_of e x t ≡ guarding.Unused
    not_guarded (Plain t l) h = ap (λ b. if b then guarding.Missing else guarding.Unused) h
    not_guarded (Apply t o xs) h = ap (λ g. guarding_or g (guarding_in e x xs)) (no_guard o xs h) ∙ none_guarded xs h
    not_guarded (Nbr t a) h = not_guarded a h
    not_guarded (Evolve t f a b) h = let k = or_no (occurs x a) (occurs x b) h in both_unused _ _ (not_guarded a k.0) (not_guarded b k.1)
    not_guarded (If t c a b) h =
        let k = or_no (occurs x c) (occurs x a || occurs x b) h in
        let j = or_no (occurs x a) (occurs x b) k.1 in
        both_unused _ _ (not_guarded c k.0) (both_unused _ _ (not_guarded a j.0) (not_guarded b j.1))
    not_guarded (Let t a b) h = let k = or_no (occurs x a) (occurs x b) h in both_unused _ _ (not_guarded a k.0) (not_guarded b k.1)

    none_guarded : (xs : Terms) → occurs_in x xs ≡ false → guarding_in e x xs ≡ guarding.Unused
    none_guarded NoMore h = refl
    none_guarded (More t ts) h =
        let k = or_no (occurs x t) (occurs_in x ts) h in
        both_unused _ _ (not_guarded t k.0) (none_guarded ts k.1)

pub absent_facts : (own : Own) (t : Term) → occurs own.place t ≡ false → facts_of own t ≡ no_facts
absent_facts own t h =
    facts_same (facts_of own t) no_facts h (not_nested (evolution_of own) own.place t h) (not_bare (evolution_of own) own.place t h) (not_guarded (evolution_of own) own.place t h)
