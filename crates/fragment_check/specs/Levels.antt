-- Levels: after how many rounds a node has the value of the solution.
use Rattle.std.specs.Prelude.{ℕ, suc, Bool, true, false, ◌+◌, List, [], ◌∷◌, ◌++◌, max, nat_eq, if◌then◌else◌, Option, Some, None}
use Rattle.std.specs.List.{repeat}
use Rattle.fc_values.specs.Types.{ValueType}
use Rattle.fc_values.specs.BuiltinTypes.{is_field}
use Rattle.fc_nodes.specs.Terms.{Leaf, Variable, NbrLink, Term, Terms, Plain, Apply, Nbr, Evolve, If, Let, NoMore, More, size}
use Rattle.fc_nodes.specs.Variables.{occurs, is_own}

-- of each place of a `rep` or `share`: how many levels it adds to that of its body
abbrev pub Stages : Type 0
Stages = ℕ → ℕ

-- of each place of a binder: the level of what it binds
abbrev pub Lvs : Type 0
Lvs = ℕ → ℕ

abbrev pub bind_level : ℕ → ℕ → Lvs → Lvs
bind_level p l lv = λ q. if nat_eq p q then l else lv q

abbrev pub reads_level : Bool → ℕ → ℕ → ℕ
reads_level true b l = max (suc b) l
reads_level false b l = max b l

abbrev pub leaf_level : ℕ → ℕ → Lvs → ValueType → Leaf → ℕ
leaf_level b x lv t (Variable q) = if nat_eq q x then suc b else reads_level (is_field t) b (lv q)
leaf_level b x lv t NbrLink = suc b
leaf_level b x lv t _ = b

-- The level of the term at place p in a branch of level b. x is the place of the nearest `rep` or `share` in whose body
-- it is: x and `nbr` of x count as b + 1, so a body with x has the greatest of b + 1 and the levels of its parts (the
-- law `LevelsOfBodies`).
abbrev mutual
  pub level_of : Stages → ℕ → ℕ → ℕ → Lvs → Term → ℕ
  level_of K p b x lv (Plain t l) = leaf_level b x lv t l
  level_of K p b x lv (Apply t o xs) = level_all K (suc p) b x lv xs
  level_of K p b x lv (Nbr t a) = if is_own x a then suc b else suc (level_of K (suc p) b x lv a)
  level_of K p b x lv (Evolve t e a u) = level_of K (suc p + size a) b p lv u + K p
  level_of K p b x lv (If t c u v) = max (level_of K (suc p) b x lv c)
      (max (level_of K (suc p + size c) (level_of K (suc p) b x lv c) x lv u)
      (level_of K (suc p + size c + size u) (level_of K (suc p) b x lv c) x lv v))
  level_of K p b x lv (Let t a u) = level_of K (suc p + size a) b x (bind_level p (level_of K (suc p) b x lv a) lv) u

  pub level_all : Stages → ℕ → ℕ → ℕ → Lvs → Terms → ℕ
  level_all K p b x lv NoMore = b
  level_all K p b x lv (More t ts) = max (level_of K p b x lv t) (level_all K (p + size t) b x lv ts)

-- the parts of the term at place p: its greatest subterms without x, each with its place
abbrev mutual
  pub parts : ℕ → ℕ → Term → List (ℕ × Term)
  parts x p (Plain t l) = if occurs x (Plain t l) then [] else (p, Plain t l) ∷ []
  parts x p (Apply t o xs) = if occurs x (Apply t o xs) then all_parts x (suc p) xs else (p, Apply t o xs) ∷ []
  parts x p (Nbr t a) = if occurs x (Nbr t a) then parts x (suc p) a else (p, Nbr t a) ∷ []
  parts x p (Evolve t e a u) = if occurs x (Evolve t e a u) then parts x (suc p) a ++ parts x (suc p + size a) u
      else (p, Evolve t e a u) ∷ []
  parts x p (If t c u v) = if occurs x (If t c u v)
      then parts x (suc p) c ++ (parts x (suc p + size c) u ++ parts x (suc p + size c + size u) v)
      else (p, If t c u v) ∷ []
  parts x p (Let t a u) = if occurs x (Let t a u) then parts x (suc p) a ++ parts x (suc p + size a) u
      else (p, Let t a u) ∷ []

  pub all_parts : ℕ → ℕ → Terms → List (ℕ × Term)
  all_parts x p NoMore = []
  all_parts x p (More t ts) = parts x p t ++ all_parts x (p + size t) ts

-- the greatest of b + 1 and the levels of terms, each with its place
abbrev pub greatest_level : Stages → ℕ → ℕ → Lvs → List (ℕ × Term) → ℕ
greatest_level K b x lv [] = suc b
greatest_level K b x lv (t ∷ ts) = max (level_of K t.0 b x lv t.1) (greatest_level K b x lv ts)

-- a term in which x occurs has no level of its own
abbrev pub level_unless : Bool → ℕ → Option ℕ
level_unless true l = None
level_unless false l = Some l

-- The levels of all nodes of a term, in preorder. There are none in first values of `rep` and `share`, and none where
-- the variable of the nearest `rep` or `share` around occurs. In a program of the fragment no variable of one further
-- out does.
abbrev mutual
  pub node_levels : Stages → ℕ → ℕ → ℕ → Lvs → Term → List (Option ℕ)
  node_levels K p b x lv (Plain t l) = level_unless (occurs x (Plain t l)) (level_of K p b x lv (Plain t l)) ∷ []
  node_levels K p b x lv (Apply t o xs) =
      level_unless (occurs x (Apply t o xs)) (level_of K p b x lv (Apply t o xs)) ∷ all_node_levels K (suc p) b x lv xs
  node_levels K p b x lv (Nbr t a) =
      level_unless (occurs x (Nbr t a)) (level_of K p b x lv (Nbr t a)) ∷ node_levels K (suc p) b x lv a
  node_levels K p b x lv (Evolve t e a u) =
      level_unless (occurs x (Evolve t e a u)) (level_of K p b x lv (Evolve t e a u))
      ∷ (repeat (size a) (None ∷ []) ++ node_levels K (suc p + size a) b p lv u)
  node_levels K p b x lv (If t c u v) = level_unless (occurs x (If t c u v)) (level_of K p b x lv (If t c u v))
      ∷ (node_levels K (suc p) b x lv c ++ (node_levels K (suc p + size c) (level_of K (suc p) b x lv c) x lv u
      ++ node_levels K (suc p + size c + size u) (level_of K (suc p) b x lv c) x lv v))
  node_levels K p b x lv (Let t a u) = level_unless (occurs x (Let t a u)) (level_of K p b x lv (Let t a u))
      ∷ (node_levels K (suc p) b x lv a ++ node_levels K (suc p + size a) b x
      (bind_level p (level_of K (suc p) b x lv a) lv) u)

  pub all_node_levels : Stages → ℕ → ℕ → ℕ → Lvs → Terms → List (Option ℕ)
  all_node_levels K p b x lv NoMore = []
  all_node_levels K p b x lv (More t ts) = node_levels K p b x lv t ++ all_node_levels K (p + size t) b x lv ts
