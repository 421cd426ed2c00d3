-- The kept slots of an export, with the places of the nodes that they belong to.
use Rattle.std.specs.Prelude.{ℕ, suc, ◌+◌, Bool, true, false, List, [], ◌∷◌, ◌++◌, is_some}
use Rattle.fc_values.specs.Values.{LocalValue}
use Rattle.fc_values.specs.Exports.{SlotValue}
use Rattle.fc_nodes.specs.declared.nodes.Node.{Node}
use Rattle.fc_nodes.specs.Terms.{Term, Terms, Plain, Apply, Nbr, Evolve, If, Let, NoMore, More, size, node_keeps}

-- one more where a test holds
abbrev pub more_if : {A : Type 0} → Bool → A → List A → List A
more_if true x xs = x ∷ xs
more_if false x xs = xs

-- the places of the nodes that keep a value, in the term at a place
abbrev mutual
  pub kept_places : Term → ℕ → List ℕ
  kept_places (Plain t l) p = []
  kept_places (Apply t o ts) p = all_kept_places ts (suc p)
  kept_places (Nbr t a) p = p ∷ kept_places a (suc p)
  kept_places (Evolve t e a b) p = p ∷ (kept_places a (suc p) ++ kept_places b (suc p + size a))
  kept_places (If t x a b) p =
      p ∷ (kept_places x (suc p) ++ kept_places a (suc p + size x) ++ kept_places b (suc p + size x + size a))
  kept_places (Let t a b) p = kept_places a (suc p) ++ kept_places b (suc p + size a)

  pub all_kept_places : Terms → ℕ → List ℕ
  all_kept_places NoMore p = []
  all_kept_places (More t ts) p = kept_places t p ++ all_kept_places ts (p + size t)

-- the same on nodes, the first of which has a place
abbrev pub node_places : List Node → ℕ → List ℕ
node_places [] p = []
node_places (n ∷ ns) p = more_if (is_some (node_keeps n)) p (node_places ns (suc p))

-- the values of the slots that are kept, each with the place of its slot
abbrev pub placed_slots : List ℕ → List SlotValue → List (ℕ × LocalValue)
placed_slots [] xs = []
placed_slots (p ∷ ps) [] = []
placed_slots (p ∷ ps) (x ∷ xs) = more_if x.0 (p, x.1) (placed_slots ps xs)
