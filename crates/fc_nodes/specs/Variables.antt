-- Where the variable of a binder occurs, and which terms read the neighbours' values of it.
use Rattle.std.specs.Prelude.{ℕ, Bool, false, ◌||◌, nat_eq}
use Rattle.fc_nodes.specs.Terms.{Leaf, Variable, Evolution, ByRep, ByShare, Term, Terms, Plain, Apply, Nbr, Evolve, If, Let, NoMore, More}

-- whether a leaf is the variable of the binder at a place
abbrev pub is_variable : ℕ → Leaf → Bool
is_variable x (Variable q) = nat_eq q x
is_variable x _ = false

-- whether the variable of the binder at a place occurs in a term
abbrev mutual
  pub occurs : ℕ → Term → Bool
  occurs x (Plain t l) = is_variable x l
  occurs x (Apply t o xs) = occurs_in x xs
  occurs x (Nbr t a) = occurs x a
  occurs x (Evolve t e a b) = occurs x a || occurs x b
  occurs x (If t c a b) = occurs x c || (occurs x a || occurs x b)
  occurs x (Let t a b) = occurs x a || occurs x b

  pub occurs_in : ℕ → Terms → Bool
  occurs_in x NoMore = false
  occurs_in x (More t ts) = occurs x t || occurs_in x ts

-- whether a term is that variable itself
abbrev pub is_own : ℕ → Term → Bool
is_own x (Plain t l) = is_variable x l
is_own x _ = false

-- whether a term is the field of neighbours' values of the variable: in a `rep` its `nbr`, in a `share` the variable
abbrev pub is_heard : Evolution → ℕ → Term → Bool
is_heard ByRep x (Nbr t a) = is_own x a
is_heard ByShare x (Plain t l) = is_variable x l
is_heard _ x _ = false
