-- Levels are small.
use Rattle.std.proofs.Common.{◌≡◌, ℕ, zero, suc, ◌≤◌, ◌+◌, ◌*◌, List, [], ◌∷◌, ◌++◌, get_or, arith, Bool, true, false, nat_eq, Option, Some, None}
use Rattle.std.specs.Prelude.{if◌then◌else◌}
use Rattle.std.specs.List.{repeat}
use Rattle.fc_values.specs.Types.{ValueType}
use Rattle.fc_values.specs.BuiltinTypes.{is_field}
use Rattle.fc_nodes.specs.Terms.{Leaf, Literal, Variable, Sense, Uid, NbrLink, Term, Terms, Plain, Apply, Nbr, Evolve, If, Let, NoMore, More, size, sizes}
use Rattle.fc_nodes.specs.Variables.{is_own, occurs}
use Rattle.fragment_check.specs.Levels.{Stages, Lvs, bind_level, reads_level, leaf_level, level_of, level_all, level_unless, node_levels, all_node_levels}
use Rattle.round_bound.specs.Walks.{most_added}

abbrev step : ℕ
step = suc most_added

reads_few : (c : Bool) (b l B : ℕ) → b ≤ B → l ≤ B → reads_level c b l ≤ B + step
reads_few true b l B f g = omega (arith, f, g)
reads_few false b l B f g = omega (arith, f, g)

heard_few : (B b l n : ℕ) (c : Bool) → b ≤ B → l ≤ B + step * n → (if c then suc b else suc l) ≤ B + step * suc n
heard_few B b l n true f g = omega (arith, f)
heard_few B b l n false f g = omega (arith, g)

bind_few : (B p l : ℕ) (lv : Lvs) → l ≤ B → ((q : ℕ) → lv q ≤ B) → (q : ℕ) → bind_level p l lv q ≤ B
bind_few B p l lv f g q = by_test (nat_eq p q)
  where
    by_test : (c : Bool) → (if c then l else lv q) ≤ B
    by_test true = f
    by_test false = g q

module _ (K : Stages) (few : (p : ℕ) → K p ≤ most_added) where
  leaf_few : (B b x : ℕ) (lv : Lvs) (t : ValueType) (l : Leaf) → b ≤ B → ((q : ℕ) → lv q ≤ B) → leaf_level b x lv t l ≤ B + step
  leaf_few B b x lv t (Literal v) f g = omega (arith, f)
  leaf_few B b x lv t (Variable q) f g = by_test (nat_eq q x)
    where
      by_test : (c : Bool) → (if c then suc b else reads_level (is_field t) b (lv q)) ≤ B + step
      by_test true = omega (arith, f)
      by_test false = reads_few (is_field t) b (lv q) B f (g q)
  leaf_few B b x lv t (Sense i) f g = omega (arith, f)
  leaf_few B b x lv t Uid f g = omega (arith, f)
  leaf_few B b x lv t NbrLink f g = omega (arith, f)

  mutual
    pub level_few : (B p b x : ℕ) (lv : Lvs) (t : Term) → b ≤ B → ((q : ℕ) → lv q ≤ B) → level_of K p b x lv t ≤ B + step * size t
    level_few B p b x lv (Plain t l) f g = let r = leaf_few B b x lv t l f g in omega (arith, r)
    level_few B p b x lv (Apply t o xs) f g = let r = levels_few B (suc p) b x lv xs f g in omega (arith, r)
    level_few B p b x lv (Nbr t a) f g = heard_few B b (level_of K (suc p) b x lv a) (size a) (is_own x a) f (level_few B (suc p) b x lv a f g)
    level_few B p b x lv (Evolve t e a u) f g = let r = level_few B (suc p + size a) b p lv u f g in let k = few p in omega (arith, r, k)
    level_few B p b x lv (If t c u v) f g =
        let r = level_few B (suc p) b x lv c f g in
        let i = level_few (B + step * size c) (suc p + size c) (level_of K (suc p) b x lv c) x lv u r (λ q. let h = g q in omega (arith, h)) in
        let j = level_few (B + step * size c) (suc p + size c + size u) (level_of K (suc p) b x lv c) x lv v r (λ q. let h = g q in omega (arith, h)) in
        omega (arith, r, i, j)
    level_few B p b x lv (Let t a u) f g =
        let r = level_few B (suc p) b x lv a f g in
        let i = level_few (B + step * size a) (suc p + size a) b x (bind_level p (level_of K (suc p) b x lv a) lv) u (omega (arith, f)) (bind_few (B + step * size a) p (level_of K (suc p) b x lv a) lv r (λ q. let h = g q in omega (arith, h))) in
        omega (arith, i)

    levels_few : (B p b x : ℕ) (lv : Lvs) (xs : Terms) → b ≤ B → ((q : ℕ) → lv q ≤ B) → level_all K p b x lv xs ≤ B + step * sizes xs
    levels_few B p b x lv NoMore f g = omega (arith, f)
    levels_few B p b x lv (More y ys) f g =
        let r = level_few B p b x lv y f g in
        let s = levels_few B (p + size y) b x lv ys f g in
        omega (arith, r, s)

-- ---- of all nodes

-- each level is at most so much
abbrev pub AllAtMost : ℕ → List (Option ℕ) → Type 0
AllAtMost L [] = Unit {0}
AllAtMost L (None ∷ os) = AllAtMost L os
AllAtMost L (Some k ∷ os) = (k ≤ L) × AllAtMost L os

pub at_most_at : (L : ℕ) (os : List (Option ℕ)) → AllAtMost L os → (p k : ℕ) → get_or os p None ≡ Some k → k ≤ L
at_most_at L [] h p k e = absurd cc
at_most_at L (None ∷ os) h zero k e = absurd cc
at_most_at L (Some j ∷ os) h zero k e = let f : j ≡ k = cc in let h0 = h.0 in omega (arith, f, h0)
at_most_at L (None ∷ os) h (suc p) k e = at_most_at L os h p k e
at_most_at L (Some j ∷ os) h (suc p) k e = at_most_at L os h.1 p k e

both_most : (L : ℕ) (os qs : List (Option ℕ)) → AllAtMost L os → AllAtMost L qs → AllAtMost L (os ++ qs)
both_most L [] qs h k = k
both_most L (None ∷ os) qs h k = both_most L os qs h k
both_most L (Some j ∷ os) qs h k = (h.0, both_most L os qs h.1 k)

none_most : (L n : ℕ) → AllAtMost L (repeat n (None ∷ []))
none_most L zero = tt
none_most L (suc n) = none_most L n

unless_most : (L l : ℕ) (c : Bool) (os : List (Option ℕ)) → l ≤ L → AllAtMost L os → AllAtMost L (level_unless c l ∷ os)
unless_most L l true os h k = k
unless_most L l false os h k = (h, k)

module _ (K : Stages) (few : (p : ℕ) → K p ≤ most_added) (L : ℕ) where
  own_most : (B p b x : ℕ) (lv : Lvs) (t : Term) (os : List (Option ℕ)) → b ≤ B → ((q : ℕ) → lv q ≤ B) → B + step * size t ≤ L → AllAtMost L os
      → AllAtMost L (level_unless (occurs x t) (level_of K p b x lv t) ∷ os)
  own_most B p b x lv t os f g h k = let r = level_few K few B p b x lv t f g in unless_most L (level_of K p b x lv t) (occurs x t) os (omega (arith, r, h)) k

  mutual
    pub node_levels_few : (B p b x : ℕ) (lv : Lvs) (t : Term) → b ≤ B → ((q : ℕ) → lv q ≤ B) → B + step * size t ≤ L → AllAtMost L (node_levels K p b x lv t)
    node_levels_few B p b x lv (Plain t l) f g h = own_most B p b x lv (Plain t l) [] f g h tt
    node_levels_few B p b x lv (Apply t o xs) f g h =
        own_most B p b x lv (Apply t o xs) (all_node_levels K (suc p) b x lv xs) f g h (all_levels_few B (suc p) b x lv xs f g (omega (arith, h)))
    node_levels_few B p b x lv (Nbr t a) f g h =
        own_most B p b x lv (Nbr t a) (node_levels K (suc p) b x lv a) f g h (node_levels_few B (suc p) b x lv a f g (omega (arith, h)))
    node_levels_few B p b x lv (Evolve t e a u) f g h =
        let none = repeat (size a) (None ∷ []) in
        let body = node_levels K (suc p + size a) b p lv u in
        own_most B p b x lv (Evolve t e a u) (none ++ body) f g h
        (both_most L none body (none_most L (size a)) (node_levels_few B (suc p + size a) b p lv u f g (omega (arith, h))))
    node_levels_few B p b x lv (If t c u v) f g h =
        let r = level_few K few B (suc p) b x lv c f g in
        let more : (q : ℕ) → lv q ≤ B + step * size c = λ q. let k = g q in omega (arith, k) in
        let branch = level_of K (suc p) b x lv c in
        let condition = node_levels K (suc p) b x lv c in
        let first = node_levels K (suc p + size c) branch x lv u in
        let second = node_levels K (suc p + size c + size u) branch x lv v in
        let i = node_levels_few B (suc p) b x lv c f g (omega (arith, h)) in
        let j = node_levels_few (B + step * size c) (suc p + size c) branch x lv u r more (omega (arith, h)) in
        let k = node_levels_few (B + step * size c) (suc p + size c + size u) branch x lv v r more (omega (arith, h)) in
        own_most B p b x lv (If t c u v) (condition ++ (first ++ second)) f g h (both_most L condition (first ++ second) i (both_most L first second j k))
    node_levels_few B p b x lv (Let t a u) f g h =
        let r = level_few K few B (suc p) b x lv a f g in
        let level = level_of K (suc p) b x lv a in
        let more : (q : ℕ) → bind_level p level lv q ≤ B + step * size a = bind_few (B + step * size a) p level lv r (λ q. let k = g q in omega (arith, k)) in
        let bound = node_levels K (suc p) b x lv a in
        let body = node_levels K (suc p + size a) b x (bind_level p level lv) u in
        let i = node_levels_few B (suc p) b x lv a f g (omega (arith, h)) in
        let j = node_levels_few (B + step * size a) (suc p + size a) b x (bind_level p level lv) u (omega (arith, f)) more (omega (arith, h)) in
        own_most B p b x lv (Let t a u) (bound ++ body) f g h (both_most L bound body i j)

    all_levels_few : (B p b x : ℕ) (lv : Lvs) (xs : Terms) → b ≤ B → ((q : ℕ) → lv q ≤ B) → B + step * sizes xs ≤ L → AllAtMost L (all_node_levels K p b x lv xs)
    all_levels_few B p b x lv NoMore f g h = tt
    all_levels_few B p b x lv (More y ys) f g h =
        both_most L (node_levels K p b x lv y) (all_node_levels K (p + size y) b x lv ys)
        (node_levels_few B p b x lv y f g (omega (arith, h))) (all_levels_few B (p + size y) b x lv ys f g (omega (arith, h)))
