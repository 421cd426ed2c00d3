-- Each node of a program has its place in the list of levels.
use Rattle.std.proofs.Common.{ℕ, zero, suc, ◌≡◌, ◌+◌, List, [], ◌∷◌, ◌++◌, length, length-append, refl, ap, ap₂, ◌∙◌, sym, arith, Option, None}
use Rattle.std.specs.List.{repeat}
use Rattle.fc_nodes.specs.Program.{IsProgram, Program, unfolding_of}
use Rattle.fc_nodes.specs.Terms.{Term, Terms, Plain, Apply, Nbr, Evolve, If, Let, NoMore, More, size, sizes, term_at}
use Rattle.fragment_check.specs.Levels.{Stages, Lvs, all_node_levels, bind_level, level_of, node_levels}
use Rattle.fragment_check.specs.Verdicts.{levels_of, stages_of}

joined : (xs ys : List (Option ℕ)) (n m : ℕ) → length xs ≡ n → length ys ≡ m → length (xs ++ ys) ≡ n + m
joined xs ys n m e f = length-append xs ys ∙ ap₂ (λ a b. a + b) e f

abbrev none : Option ℕ
none = None

none_long : (n : ℕ) → length (repeat n (none ∷ [])) ≡ n
none_long zero = refl
none_long (suc n) = ap suc (none_long n)

regrouped : (k n m : ℕ) → k + (n + m) ≡ k + n + m
regrouped k n m = omega arith

module _ (K : Stages) where
  mutual
    levels_long : (p b x : ℕ) (lv : Lvs) (t : Term) → length (node_levels K p b x lv t) ≡ size t
    levels_long p b x lv (Plain t l) = refl
    levels_long p b x lv (Apply t o xs) = ap suc (all_levels_long (suc p) b x lv xs)
    levels_long p b x lv (Nbr t a) = ap suc (levels_long (suc p) b x lv a)
    levels_long p b x lv (Evolve t e a u) =
        ap suc (joined (repeat (size a) (None ∷ [])) (node_levels K (suc p + size a) b p lv u) (size a) (size u) (none_long (size a)) (levels_long (suc p + size a) b p lv u))
    levels_long p b x lv (If t c u v) =
        let inner = level_of K (suc p) b x lv c in
        ap suc
        (joined (node_levels K (suc p) b x lv c) _ (size c) (size u + size v) (levels_long (suc p) b x lv c)
        (joined (node_levels K (suc p + size c) inner x lv u) (node_levels K (suc p + size c + size u) inner x lv v) (size u) (size v)
        (levels_long (suc p + size c) inner x lv u) (levels_long (suc p + size c + size u) inner x lv v))
        ∙ regrouped (size c) (size u) (size v))
    levels_long p b x lv (Let t a u) =
        let under = bind_level p (level_of K (suc p) b x lv a) lv in
        ap suc
        (joined (node_levels K (suc p) b x lv a) (node_levels K (suc p + size a) b x under u) (size a) (size u) (levels_long (suc p) b x lv a)
        (levels_long (suc p + size a) b x under u))

    all_levels_long : (p b x : ℕ) (lv : Lvs) (xs : Terms) → length (all_node_levels K p b x lv xs) ≡ sizes xs
    all_levels_long p b x lv NoMore = refl
    all_levels_long p b x lv (More t ts) =
        joined (node_levels K p b x lv t) (all_node_levels K (p + size t) b x lv ts) (size t) (sizes ts) (levels_long p b x lv t) (all_levels_long (p + size t) b x lv ts)

pub all_levels : (P : Program) (n : ℕ) → IsProgram P → length (levels_of (unfolding_of P) n) ≡ length P.nodes
all_levels P n is = levels_long (stages_of (unfolding_of P) n) 0 1 (size (term_at P.nodes 0)) (λ q. 0) (term_at P.nodes 0) ∙ sym is.formed.whole
