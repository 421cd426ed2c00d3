-- Which slot each place of a program has.
use Rattle.std.specs.Prelude.{ℕ, false, ◌≡◌, List, map, Option, None, option_map, option_and_then, option_to_list, length, slice_index_or as get_or}
use Rattle.fc_values.specs.declared.values.Local.{Local}
use Rattle.fc_values.specs.Types.{LocalType}
use Rattle.fc_values.specs.Values.{local_of, form_of}
use Rattle.fc_values.specs.Exports.{SlotValue}
use Rattle.fc_nodes.specs.declared.nodes.Node.{Node}
use Rattle.fc_nodes.specs.Terms.{view_at, view_keeps, node_keeps, kept_before, kept_types, term_at}

-- what contracts see of a layout: the number of the slot of each place, if it has one, and a value for each slot
pub record LayoutValue : Type 0 where
  pub numbers : List (Option ℕ)
  pub blanks : List Local

-- the slot of a place
abbrev pub number_in : LayoutValue → ℕ → Option ℕ
number_in l p = get_or l.numbers p None

-- a slot that isn't kept
abbrev pub blank_slot : Local → SlotValue
blank_slot v = (false, local_of v)

-- a slot for each of these values, none of them kept
abbrev pub blank_slots : List Local → List SlotValue
blank_slots vs = map blank_slot vs

-- the types of some values, by their forms
abbrev pub forms_of : List Local → List LocalType
forms_of vs = map (λ (v : Local). form_of (local_of v)) vs

-- the type of what the node at a place keeps, where it keeps something
abbrev pub keeps_at : List Node → ℕ → Option LocalType
keeps_at ns p = option_and_then view_keeps (view_at ns p)

-- the number of a kept place among all kept places
abbrev pub number_at : List Node → ℕ → Option ℕ
number_at ns p = option_map (λ (t : LocalType). kept_before ns p) (keeps_at ns p)

-- each kept place has its number, no other place has one, and each slot has a value of the type that its place keeps
pub record IsLayout (ns : List Node) (l : LayoutValue) : Type 0 where
  pub each : (p : ℕ) → number_in l p ≡ number_at ns p
  pub forms : forms_of l.blanks ≡ kept_types (term_at ns 0)

-- the slot number of a further node, if it keeps something, after the slots of these values
abbrev pub next_number : List Local → Node → Option ℕ
next_number blanks n = option_map (λ (t : LocalType). length blanks) (node_keeps n)

-- the form of what a node keeps, if it keeps something
abbrev pub forms_kept : Node → List LocalType
forms_kept n = option_to_list (node_keeps n)
