-- The level of a body is the greatest of b + 1 and the levels of its parts.
use Rattle.std.proofs.Common.{◌≡◌, ℕ, suc, ◌≤◌, ◌+◌, List, [], ◌∷◌, ◌++◌, refl, ap, arith, Bool, true, false, ◌||◌}
use Rattle.std.specs.Prelude.{if◌then◌else◌, max}
use Rattle.fc_values.specs.Types.{ValueType}
use Rattle.fc_nodes.specs.Terms.{Leaf, Literal, Variable, Sense, Uid, NbrLink, Evolution, ByRep, ByShare, Term, Terms, Plain, Apply, Nbr, Evolve, If, Let, NoMore, More, size}
use Rattle.fc_nodes.specs.Variables.{is_variable, occurs, occurs_in, is_own, is_heard}
use Rattle.fragment_check.specs.Levels.{Stages, Lvs, leaf_level, level_of, level_all, parts, all_parts, greatest_level}
use Rattle.fragment_check.specs.Patterns.{is_nested, is_nested_in}
use Rattle.fragment_check.proofs.Shaped.{or_left, or_right, heard_where}

heard_own : (e : Evolution) (x : ℕ) (t : ValueType) (a : Term) → is_heard e x (Nbr t a) ≡ true → is_own x a ≡ true
heard_own ByRep x t a h = h
heard_own ByShare x t a h = absurd cc

own_parts : (x p : ℕ) (a : Term) → is_own x a ≡ true → parts x p a ≡ []
own_parts x p (Plain t l) o = rw o refl
own_parts x p (Apply t f xs) o = absurd cc
own_parts x p (Nbr t a) o = absurd cc
own_parts x p (Evolve t f a u) o = absurd cc
own_parts x p (If t c u v) o = absurd cc
own_parts x p (Let t a u) o = absurd cc

module _ (K : Stages) (b x : ℕ) (lv : Lvs) where
  abbrev greatest : List (ℕ × Term) → ℕ
  greatest = greatest_level K b x lv

  low : (us : List (ℕ × Term)) → suc b ≤ greatest us
  low [] = omega arith
  low (u ∷ us) = let l = low us in omega (arith, l)

  joined : (us vs : List (ℕ × Term)) → greatest (us ++ vs) ≡ max (greatest us) (greatest vs)
  joined [] vs = let l = low vs in omega (arith, l)
  joined (u ∷ us) vs = let l = joined us vs in omega (arith, l)

  leaf_deep : (t : ValueType) (l : Leaf) → is_variable x l ≡ true → leaf_level b x lv t l ≡ suc b
  leaf_deep t (Variable q) o = rw o refl
  leaf_deep t (Literal v) o = absurd cc
  leaf_deep t (Sense i) o = absurd cc
  leaf_deep t Uid o = absurd cc
  leaf_deep t NbrLink o = absurd cc

  module _ (e : Evolution) where
    nbr_own : (t : ValueType) (a : Term) → is_nested e x (Nbr t a) ≡ false → occurs x a ≡ true → is_own x a ≡ true
    nbr_own t a n o = heard_own e x t a (heard_where (is_heard e x (Nbr t a)) (occurs x a) n o)

    -- a body with its variable is above the level of the branch
    mutual
      deep : (p : ℕ) (t : Term) → occurs x t ≡ true → is_nested e x t ≡ false → suc b ≤ level_of K p b x lv t
      deep p (Plain t l) o n = let k = leaf_deep t l o in omega (arith, k)
      deep p (Nbr t a) o n = rw (nbr_own t a n o) (omega arith)
      deep p (Apply t f xs) o n = all_deep (suc p) xs o n
      deep p (Evolve t f a u) o n = absurd cc
      deep p (If t c u v) o n = absurd cc
      deep p (Let t a u) o n = absurd cc

      all_deep : (p : ℕ) (ts : Terms) → occurs_in x ts ≡ true → is_nested_in e x ts ≡ false → suc b ≤ level_all K p b x lv ts
      all_deep p NoMore o n = absurd cc
      all_deep p (More t ts) o n =
          by_test (occurs x t) refl o (λ k. deep p t k (or_left (is_nested e x t) (is_nested_in e x ts) n)) (λ k. all_deep (p + size t) ts k (or_right (is_nested e x t) (is_nested_in e x ts) n))
        where
          by_test : (c : Bool) → occurs x t ≡ c → (c || occurs_in x ts) ≡ true → (occurs x t ≡ true → suc b ≤ level_of K p b x lv t)
              → (occurs_in x ts ≡ true → suc b ≤ level_all K (p + size t) b x lv ts) → suc b ≤ level_all K p b x lv (More t ts)
          by_test true k o f g = let l = f k in omega (arith, l)
          by_test false k o f g = let l = g o in omega (arith, l)

    mutual
      part_level : (p : ℕ) (t : Term) → is_nested e x t ≡ false → greatest (parts x p t) ≡ max (level_of K p b x lv t) (suc b)
      part_level p (Plain t l) n = by_test (is_variable x l) refl
        where
          by_test : (c : Bool) → is_variable x l ≡ c → greatest (if c then [] else (p, Plain t l) ∷ []) ≡ max (leaf_level b x lv t l) (suc b)
          by_test true k = let j = leaf_deep t l k in omega (arith, j)
          by_test false k = refl
      part_level p (Nbr t a) n = by_test (occurs x a) refl
        where
          by_test : (c : Bool) → occurs x a ≡ c → greatest (if c then parts x (suc p) a else (p, Nbr t a) ∷ []) ≡ max (level_of K p b x lv (Nbr t a)) (suc b)
          by_test true k = let o = nbr_own t a n k in rw (own_parts x (suc p) a o, o) (omega arith)
          by_test false k = refl
      part_level p (Apply t f xs) n = by_test (occurs_in x xs) (all_part_levels (suc p) xs n)
        where
          by_test : (c : Bool) → greatest (all_parts x (suc p) xs) ≡ max (level_all K (suc p) b x lv xs) (suc b)
              → greatest (if c then all_parts x (suc p) xs else (p, Apply t f xs) ∷ []) ≡ max (level_all K (suc p) b x lv xs) (suc b)
          by_test true h = h
          by_test false h = refl
      part_level p (Evolve t f a u) n = ap (λ c. greatest (if c then parts x (suc p) a ++ parts x (suc p + size a) u else (p, Evolve t f a u) ∷ [])) n
      part_level p (If t c u v) n =
          ap (λ k. greatest (if k then parts x (suc p) c ++ (parts x (suc p + size c) u ++ parts x (suc p + size c + size u) v) else (p, If t c u v) ∷ [])) n
      part_level p (Let t a u) n = ap (λ c. greatest (if c then parts x (suc p) a ++ parts x (suc p + size a) u else (p, Let t a u) ∷ [])) n

      all_part_levels : (p : ℕ) (ts : Terms) → is_nested_in e x ts ≡ false → greatest (all_parts x p ts) ≡ max (level_all K p b x lv ts) (suc b)
      all_part_levels p NoMore n = omega arith
      all_part_levels p (More t ts) n =
          let f = part_level p t (or_left (is_nested e x t) (is_nested_in e x ts) n) in
          let g = all_part_levels (p + size t) ts (or_right (is_nested e x t) (is_nested_in e x ts) n) in
          let j = joined (parts x p t) (all_parts x (p + size t) ts) in
          omega (arith, f, g, j)

pub body_level : (K : Stages) (p b x : ℕ) (lv : Lvs) (e : Evolution) (u : Term) → occurs x u ≡ true → is_nested e x u ≡ false
    → level_of K p b x lv u ≡ greatest_level K b x lv (parts x p u)
body_level K p b x lv e u o n = let d = deep K b x lv e p u o n in let l = part_level K b x lv e p u n in omega (arith, d, l)
