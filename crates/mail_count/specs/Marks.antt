-- What marks in code tell of a round.
use Rattle.std.specs.Prelude.{ℕ, Bool, ◌≡◌, ◌+◌, List, [], ◌∷◌, map, length, Vec}
use Rattle.std.specs.declared.alloc.Global.{Global}
use Rattle.topology.specs.Networks.{Network, numbers, near}
use Rattle.topology.specs.Nearby.{neighbour_numbers}
use Rattle.message_links.specs.MailCores.{Pairs}
use Rattle.mail_count.specs.declared.pairs.Bringing.{Bringing}
use Rattle.mail_count.specs.declared.marks.Marks.{Marks}
use Rattle.mail_count.specs.Seen.{Seen, missing}

-- what a map of ordered pairs has, row by row: a row for each device, in the order of the network, with an item for
-- each of its neighbours, as they rise. The device of a row sends, and its neighbours receive.
abbrev pub row_of : {X : Type 0} → Network → Pairs X → ℕ → List X
row_of N f a = map (f a) (neighbour_numbers (near N a))

abbrev pub pair_rows : {X : Type 0} → Network → Pairs X → List (List X)
pair_rows N f = map (row_of N f) (numbers N.devices)

abbrev pub own_row : List Bringing → List (List Bool)
own_row row = map (λ (b : Bringing). b.own.items) row

abbrev pub brought_row : List Bringing → List Bool
brought_row row = map (λ (b : Bringing). b.brought) row

abbrev pub own_rows : List (Vec Bringing Global) → List (List (List Bool))
own_rows rows = map (λ (r : Vec Bringing Global). own_row r.items) rows

abbrev pub brought_rows : List (Vec Bringing Global) → List (List Bool)
brought_rows rows = map (λ (r : Vec Bringing Global). brought_row r.items) rows

-- how many are false in all rows, and how many items they have
abbrev pub missing_rows : List (List Bool) → ℕ
missing_rows [] = 0
missing_rows (r ∷ rows) = missing r + missing_rows rows

abbrev pub many : {X : Type 0} → List (List X) → ℕ
many [] = 0
many (r ∷ rows) = length r + many rows

-- rows tell what was seen of the ordered pairs
pub record TellsPairs (N : Network) (rows : List (Vec Bringing Global)) (s : Seen) : Type 0 where
  pub own : own_rows rows ≡ pair_rows N s.own
  pub brought : brought_rows rows ≡ pair_rows N s.brought

-- marks tell what was seen, and how many devices and pairs are still missing
pub record Tells (N : Network) (m : Marks) (s : Seen) : Type 0 where
  pub flies : m.flies.items ≡ map s.flies (numbers N.devices)
  pub fired : m.fired.items ≡ map s.fired (numbers N.devices)
  pub rows : TellsPairs N m.rows.items s
  pub pairs : m.pairs ≡ many (brought_rows m.rows.items)
  pub devices_left : m.devices_left ≡ missing m.fired.items
  pub pairs_left : m.pairs_left ≡ missing_rows (brought_rows m.rows.items)

abbrev pub Told : Network → Marks → Type 0
Told N m = (s : Seen) × Tells N m s
