-- Tables of exports in code, and rounds in which each device fires from one table.
use Rattle.std.specs.Prelude.{ℕ, ◌≡◌, List, [], ◌∷◌, map, length, Option, Some, None, option_map}
use Rattle.fc_values.specs.declared.exports.Export.{Export}
use Rattle.fc_values.specs.Values.{LocalValue, local_of}
use Rattle.fc_values.specs.Trees.{TreeExport, Copy}
use Rattle.fc_nodes.specs.Program.{Unfolding}
use Rattle.value_trees.specs.declared.copies.Near.{Near}
use Rattle.value_trees.specs.Snaps.{tree_of, IsExportOf}
use Rattle.device_eval.specs.Copies.{EvaluatesCopy}
use Rattle.topology.specs.Networks.{Network, numbers}
use Rattle.firing_core.specs.Cores.{Map, copy_of}
use Rattle.firing_core.specs.CoreViews.{device_slot, AllExports}
use Rattle.interval_facts.specs.Solutions.{SolvesMain}

-- the table that slots stand for, one for each device in the order of the network
abbrev pub table_of : Unfolding → Network → List (Option Export) → Map TreeExport
table_of U N xs = device_slot (numbers N.devices) (map (option_map (tree_of U)) xs)

-- a slot for each device, with exports of the program
pub record AreExportSlots (U : Unfolding) (N : Network) (xs : List (Option Export)) : Type 0 where
  pub many : length xs ≡ length N.devices
  pub exports : AllExports U xs

-- ---- firings

-- an export of the program is that of a copy
pub record IsExportOfCopy (U : Unfolding) (s : Copy) (e : Export) : Type 0 where
  pub export : IsExportOf U e
  pub evaluates : EvaluatesCopy U s (tree_of U e)

-- an export is that of a device that fires and sees a table
abbrev pub IsFiring : Unfolding → Network → List (Option Export) → ℕ → Export → Type 0
IsFiring U N xs d e = IsExportOfCopy U (copy_of N (table_of U N xs) d) e

-- each of some devices has fired, and sees a table
abbrev pub AreFirings : Unfolding → Network → List (Option Export) → List ℕ → List (Option Export) → Type 0
AreFirings U N xs [] [] = Unit {0}
AreFirings U N xs (d ∷ ds) (Some e ∷ ys) = IsFiring U N xs d e × AreFirings U N xs ds ys
AreFirings U N xs _ _ = ⊥

-- ---- what a device hears

-- a neighbour, if it has an export
abbrev pub heard_with : ℕ × ℕ → Option Export → List Near → List Near
heard_with n None ns = ns
heard_with n (Some e) ns = record { device = n.0; weight = n.1; export = e } ∷ ns

-- the neighbours that have an export, with it
abbrev pub heard_from : List ℕ → List (Option Export) → List (ℕ × ℕ) → List Near
heard_from is xs [] = []
heard_from is xs (n ∷ ns) = heard_with n (device_slot is xs n.0) (heard_from is xs ns)

-- ---- what rounds lead to

-- the exports of some devices have a field's values
abbrev pub AllHave : (ℕ → LocalValue) → List ℕ → List (Option Export) → Type 0
AllHave F [] [] = Unit {0}
AllHave F (d ∷ ds) (Some e ∷ xs) = (local_of e.value ≡ F d) × AllHave F ds xs
AllHave F _ _ = ⊥

-- they have those of each field that solves the program
abbrev pub HaveSolution : Unfolding → Network → List (Option Export) → Type 0
HaveSolution U N xs = (F : ℕ → LocalValue) → SolvesMain N U.main F → AllHave F (numbers N.devices) xs
