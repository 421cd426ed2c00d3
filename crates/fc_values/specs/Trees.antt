-- Value trees, the exports of the definitions, and the copies that firings read.
use Rattle.std.specs.Prelude.{ℕ, zero, suc, List, Option, None}
use Rattle.fc_values.specs.Values.{LocalValue}

-- a tree: what its node keeps, and the trees of the node's kids
mutual
  pub data Tree : Type 0 where
    Keep : Option LocalValue → Trees → Tree

  pub data Trees : Type 0 where
    Done : Trees
    Then : Tree → Trees → Trees

-- a tree that keeps nothing and has no kids
abbrev pub leaf : Tree
leaf = Keep None Done

abbrev pub kept_of : Tree → Option LocalValue
kept_of (Keep v ts) = v

abbrev pub nth_tree : ℕ → Trees → Tree
nth_tree i Done = leaf
nth_tree zero (Then t ts) = t
nth_tree (suc i) (Then t ts) = nth_tree i ts

-- a kid of a tree by its number from 0
abbrev pub child : ℕ → Tree → Tree
child i (Keep v ts) = nth_tree i ts

-- an export: the value of `main`, and a tree
pub record TreeExport : Type 0 where
  pub value : LocalValue
  pub tree : Tree

-- a neighbour in a copy: its number, its weight, and its export
pub record NearCopy : Type 0 where
  pub device : ℕ
  pub weight : ℕ
  pub export : TreeExport

-- a copy: what a firing of a device reads
pub record Copy : Type 0 where
  pub device : ℕ
  pub inputs : List LocalValue
  pub own : Option TreeExport
  pub near : List NearCopy
