-- What a node sees beside the aligned exports: the binders in scope, and the weights of the links.
use Rattle.std.specs.Prelude.{ℕ, List, [], ◌∷◌, Option, Some, None, nat_eq, if◌then◌else◌}
use Rattle.fc_values.specs.Values.{IntValue}
use Rattle.fc_values.specs.Fields.{Entries, AnyValue}

-- the values of the binders in scope, by their places; the nearest counts
abbrev pub Vars : Type 0
Vars = List (ℕ × AnyValue)

abbrev pub variable_at : ℕ → Vars → Option AnyValue
variable_at n [] = None
variable_at n (v ∷ vs) = if nat_eq v.0 n then Some v.1 else variable_at n vs

-- the weight of each neighbour
abbrev pub weights : {A : Type 0} → List (ℕ × ℕ × A) → Entries
weights [] = []
weights (n ∷ ns) = (n.0, IntValue n.1) ∷ weights ns
