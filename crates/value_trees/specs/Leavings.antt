-- What a reading of items leaves, whatever it took.
use Rattle.std.specs.Prelude.{ℕ, List}
use Rattle.fc_nodes.specs.Terms.{Term, Terms}
use Rattle.value_trees.specs.KeptItems.{KeptItem, Taken, Took, Misfit, take_tree, take_trees}

-- the items that are left, or the place of the first misfit
pub data Leaving : Type 0 where
  Leaves : List KeptItem → Leaving
  Misses : ℕ → Leaving

abbrev pub leaving : {A : Type 0} → Taken A → Leaving
leaving (Took a xs) = Leaves xs
leaving (Misfit p) = Misses p

abbrev pub and_leaving : Leaving → (List KeptItem → Leaving) → Leaving
and_leaving (Leaves xs) f = f xs
and_leaving (Misses p) f = Misses p

-- what the term at a place leaves, and what terms one after another leave
abbrev pub leaves_by : ℕ → ℕ → Term → List KeptItem → Leaving
leaves_by c p t xs = leaving (take_tree c t p xs)

abbrev pub leaves_by_all : ℕ → ℕ → Terms → List KeptItem → Leaving
leaves_by_all c p ts xs = leaving (take_trees c ts p xs)
