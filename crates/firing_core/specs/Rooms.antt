-- Rooms: memory for two copies, taken before a firing begins.
use Rattle.std.specs.Prelude.{◌≡◌, ◌≤◌, List, [], map, None, vec_capacity}
use Rattle.fc_values.specs.declared.values.Local.{Local}
use Rattle.fc_values.specs.declared.limits.TheConstants.{MOST_LINKS}
use Rattle.fc_values.specs.Types.{LocalType, Input, input_type}
use Rattle.fc_values.specs.Values.{local_of, form_of}
use Rattle.fc_nodes.specs.Program.{Unfolding}
use Rattle.value_trees.specs.declared.copies.Snap.{Snap}

-- what contracts see of a room: two blank copies
pub record RoomValue : Type 0 where
  pub first : Snap
  pub second : Snap

-- the types of some values, by their forms, and those of the declared inputs
abbrev pub types_of : List Local → List LocalType
types_of vs = map (λ (v : Local). form_of (local_of v)) vs

abbrev pub declared_types : Unfolding → List LocalType
declared_types U = map (λ (i : Input). input_type i.type) U.declared.inputs

-- a copy without exports that has a value of its type for each declared input, and memory for as many neighbours as a
-- device may have
pub record IsBlank (U : Unfolding) (s : Snap) : Type 0 where
  pub inputs : types_of s.inputs.items ≡ declared_types U
  pub own : s.own ≡ None
  pub near : s.near.items ≡ []
  pub wide : MOST_LINKS ≤ vec_capacity s.near

-- a room of a program
pub record IsRoom (U : Unfolding) (r : RoomValue) : Type 0 where
  pub first : IsBlank U r.first
  pub second : IsBlank U r.second
