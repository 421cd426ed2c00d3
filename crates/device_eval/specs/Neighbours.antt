-- What the aligned neighbours keep, and the weights of their links.
use Rattle.std.specs.Prelude.{ℕ, List, [], ◌∷◌, Option, Some, None}
use Rattle.fc_values.specs.Values.{LocalValue}
use Rattle.fc_values.specs.Fields.{Entries}
use Rattle.fc_values.specs.Trees.{kept_of}
use Rattle.alignment.specs.Environments.{NearTree}

abbrev pub entry_before : ℕ → Option LocalValue → Option Entries → Option Entries
entry_before d (Some v) (Some es) = Some ((d, v) ∷ es)
entry_before d _ _ = None

-- what each neighbour keeps here, if each keeps something
abbrev pub kept_there : List NearTree → Option Entries
kept_there [] = Some []
kept_there (n ∷ ns) = entry_before n.0 (kept_of n.2) (kept_there ns)
