-- The agenda: what is left to begin.
use Rattle.std.specs.Prelude.{ℕ, Bool, true, false, ◌≡◌, ◌↔◌, ◌+◌, ◌<◌, ◌≤◌, List, length, get_or}
use Rattle.export_table.specs.declared.agenda.Row.{Row}
use Rattle.export_table.specs.declared.agenda.Next.{Next}
use Rattle.export_table.specs.declared.agenda.Next.TheVariants as next

-- how many firings each device may begin, a row for each device that is there, in their order, and the memory that is
-- taken for more rows
pub record AgendaValue : Type 0 where
  pub rounds : ℕ
  pub rows : List Row
  pub spare : ℕ

abbrev pub agenda_with : ℕ → List Row → ℕ → AgendaValue
agenda_with rounds rows spare = record { rounds = rounds; rows = rows; spare = spare }

abbrev pub no_row : Row
no_row = record { device = 0; begun = 0; rests = false }

-- the row at a place
abbrev pub row_at : List Row → ℕ → Row
row_at rows i = get_or rows i no_row

-- ---- one row

-- it has ended so many firings or more: where it is in flight, one less than it has begun
abbrev pub HasEnded : ℕ → Row → Type 0
HasEnded n r = (n ≤ r.begun) × (r.rests ≡ false → n < r.begun)

-- it has ended so many
abbrev pub EndedExactly : ℕ → Row → Type 0
EndedExactly n r = (r.rests ≡ true → n ≡ r.begun) × (r.rests ≡ false → n + 1 ≡ r.begun)

-- it rests, and has begun so many
abbrev pub IsReady : ℕ → Row → Type 0
IsReady n r = (r.rests ≡ true) × (r.begun ≡ n)

-- a device that has begun nothing, the row after a begin, and the row after an end
abbrev pub first_row : ℕ → Row
first_row d = record { device = d; begun = 0; rests = true }

abbrev pub begun_row : Row → Row
begun_row r = record { device = r.device; begun = r.begun + 1; rests = false }

abbrev pub ended_row : Row → Row
ended_row r = record { device = r.device; begun = r.begun; rests = true }

-- ---- all rows

-- no row before a place rests with so many firings begun
abbrev pub NoneReady : ℕ → List Row → ℕ → Type 0
NoneReady n rows place = (i : ℕ) → i < place → IsReady n (row_at rows i) → ⊥

-- each row before a place has ended so many firings or more
abbrev pub EndedBefore : ℕ → List Row → ℕ → Type 0
EndedBefore n rows place = (i : ℕ) → i < place → HasEnded n (row_at rows i)

-- the least number of firings that a device has ended, or so many, if that is less
pub record IsLeastEnded (n : ℕ) (rows : List Row) (most : ℕ) : Type 0 where
  pub each : EndedBefore n rows (length rows)
  pub low : n ≤ most
  pub some : n < most → (i : ℕ) × (i < length rows) × EndedExactly n (row_at rows i)

-- A row that may begin: it rests, it has firings left, and each device has ended as many firings as this one has begun.
pub record MayBeginRow (a : AgendaValue) (i : ℕ) : Type 0 where
  pub within : i < length a.rows
  pub rests : (row_at a.rows i).rests ≡ true
  pub some : (row_at a.rows i).begun < a.rounds
  pub pace : EndedBefore (row_at a.rows i).begun a.rows (length a.rows)

-- the first row that may begin
pub record IsNextRow (a : AgendaValue) (i : ℕ) : Type 0 where
  pub may : MayBeginRow a i
  pub smallest : (j : ℕ) → j < i → MayBeginRow a j → ⊥

-- no row may begin now; and it is over exactly where each has begun all its firings
pub record RowsRest (a : AgendaValue) (is_over : Bool) : Type 0 where
  pub none : (i : ℕ) → MayBeginRow a i → ⊥
  pub over : (is_over ≡ true) ↔ ((i : ℕ) → i < length a.rows → a.rounds ≤ (row_at a.rows i).begun)

-- What may begin in a round, where so many of all rows stand before the first that is ready: that one, where firings
-- are left. It is over where this is the last round.
abbrev pub IsInRound : ℕ → ℕ → ℕ → ℕ → Next → Type 0
IsInRound first rows round rounds (next.Begins i) = (i ≡ first) × (first < rows) × (round < rounds)
IsInRound first rows round rounds (next.Rests is_over) =
    (first < rows → rounds ≤ round) × ((is_over ≡ true) ↔ (rounds ≤ round + 1))

-- what may begin
abbrev pub Finds : AgendaValue → Next → Type 0
Finds a (next.Begins i) = IsNextRow a i
Finds a (next.Rests is_over) = RowsRest a is_over

-- what its type keeps: how far each device is at least, and before which places nothing is left to look at
pub record IsKept (rounds : ℕ) (rows : List Row) (round first ended : ℕ) : Type 0 where
  pub most : round ≤ rounds
  pub each : EndedBefore round rows (length rows)
  pub ready : NoneReady round rows first
  pub first_in : first ≤ length rows
  pub more : EndedBefore (round + 1) rows ended
  pub ended_in : ended ≤ length rows
