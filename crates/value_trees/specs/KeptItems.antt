-- Items of kept lists: values, each with the place that it names, if it names one; and the trees whose kept values they
-- are.
use Rattle.std.specs.Prelude.{ℕ, suc, Bool, true, ◌≡◌, ◌+◌, ◌&&◌, List, [], ◌∷◌, map, Option, Some, None, nat_eq}
use Rattle.std.specs.Prelude.{if◌then◌else◌}
use Rattle.fc_values.specs.Types.{LocalType, BoolType}
use Rattle.fc_values.specs.Values.{LocalValue, Fits, local_of}
use Rattle.fc_values.specs.BuiltinTypes.{inner}
use Rattle.fc_values.specs.Trees.{Tree, Trees, Keep, Done, Then, leaf}
use Rattle.fc_nodes.specs.Terms.{Term, Terms, Plain, Apply, Nbr, Evolve, If, Let, NoMore, More, size}
use Rattle.fc_nodes.specs.Program.{Unfolding}
use Rattle.value_trees.specs.KeptReads.{has_type}
use Rattle.value_trees.specs.SlotFits.{truth_in}
use Rattle.value_trees.specs.declared.items.Item.{Item}

-- an item of a kept list: a value, and the place that it names, if it names one
pub record KeptItem : Type 0 where
  pub place : Option ℕ
  pub value : LocalValue

abbrev pub kept_of : Item → KeptItem
kept_of x = record { place = x.place; value = local_of x.value }

abbrev pub plain_item : LocalValue → KeptItem
plain_item v = record { place = None; value = v }

-- the values of items
abbrev pub values : List KeptItem → List LocalValue
values xs = map (λ (x : KeptItem). x.value) xs

-- whether an item may stand at a place
abbrev pub names_place : ℕ → Option ℕ → Bool
names_place p None = true
names_place p (Some q) = nat_eq q p

-- an item may stand at a place that keeps a value of a type
abbrev pub MayStand : ℕ → ℕ → LocalType → KeptItem → Type 0
MayStand p ceiling t x = (names_place p x.place ≡ true) × Fits ceiling t x.value

-- What items in preorder give for a term: something with the items that are left, or the first place whose item is
-- missing, names another place or misfits.
pub data Taken (A : Type 0) : Type 0 where
  Took : A → List KeptItem → Taken A
  Misfit : ℕ → Taken A

abbrev pub take_then : {A B : Type 0} → Taken A → (A → List KeptItem → Taken B) → Taken B
take_then (Took a xs) next = next a xs
take_then (Misfit p) next = Misfit p

-- the value that the node at a place keeps
abbrev pub take_value : ℕ → LocalType → ℕ → List KeptItem → Taken LocalValue
take_value ceiling t p [] = Misfit p
take_value ceiling t p (x ∷ xs) =
    if names_place p x.place && has_type ceiling t x.value then Took x.value xs else Misfit p

abbrev pub one_kid : Option LocalValue → Tree → Tree
one_kid v a = Keep v (Then a Done)

abbrev pub two_kids : Option LocalValue → Tree → Tree → Tree
two_kids v a b = Keep v (Then a (Then b Done))

-- The tree of the term at a place whose kept values, in preorder, are the first of some items. An `nbr` keeps a value
-- of its inner type, a `rep` or `share` one of its type, an `if` a truth value, which names the branch that has a tree.
abbrev mutual
  pub take_tree : ℕ → Term → ℕ → List KeptItem → Taken Tree
  take_tree c (Plain t l) p xs = Took leaf xs
  take_tree c (Apply t o ts) p xs = take_then (take_trees c ts (suc p) xs) (λ kids ys. Took (Keep None kids) ys)
  take_tree c (Nbr t a) p xs =
      take_then (take_value c (inner t) p xs) (λ v ys.
      take_then (take_tree c a (suc p) ys) (λ k zs. Took (one_kid (Some v) k) zs))
  take_tree c (Evolve t e a b) p xs =
      take_then (take_value c (inner t) p xs) (λ v ys. take_then (take_tree c a (suc p) ys) (λ k zs.
      take_then (take_tree c b (suc p + size a) zs) (λ l us. Took (two_kids (Some v) k l) us)))
  take_tree c (If t x a b) p xs =
      take_then (take_value c BoolType p xs) (λ v ys. take_then (take_tree c x (suc p) ys) (λ k zs.
      take_then (if truth_in v then take_tree c a (suc p + size x) zs else take_tree c b (suc p + size x + size a) zs)
      (λ l us. Took (two_kids (Some v) k l) us)))
  take_tree c (Let t a b) p xs =
      take_then (take_tree c a (suc p) xs) (λ k ys.
      take_then (take_tree c b (suc p + size a) ys) (λ l zs. Took (two_kids None k l) zs))

  pub take_trees : ℕ → Terms → ℕ → List KeptItem → Taken Trees
  take_trees c NoMore p xs = Took Done xs
  take_trees c (More t ts) p xs =
      take_then (take_tree c t p xs) (λ k ys.
      take_then (take_trees c ts (p + size t) ys) (λ ks zs. Took (Then k ks) zs))

-- ---- whole lists

-- the place of a misfit; where items are left, the number of nodes
abbrev pub misfit_by : ℕ → Taken Tree → Option ℕ
misfit_by n (Took tree []) = None
misfit_by n (Took tree (x ∷ xs)) = Some n
misfit_by n (Misfit p) = Some p

-- what items give for the whole of a program
abbrev pub take_main : Unfolding → List KeptItem → Taken Tree
take_main U xs = take_tree U.declared.ceiling U.main 0 xs

abbrev pub misfit_among : Unfolding → List KeptItem → Option ℕ
misfit_among U xs = misfit_by (size U.main) (take_main U xs)
