-- Marks: what each device still wants in a round, a firing (0), the end of one (1), or nothing (2 or more).
use Rattle.std.specs.Prelude.{ℕ, List, [], ◌∷◌, nat_eq, nat_lt, ◌+◌, ◌&&◌, if◌then◌else◌}
use Rattle.firing_core.specs.Entries.{EntryValue, BeginEntry, EndEntry, IdleEntry, EditEntry}

-- how many devices want something
abbrev pub wanting : List ℕ → ℕ
wanting [] = 0
wanting (m ∷ ms) = (if nat_lt m 2 then 1 else 0) + wanting ms

-- the mark of a device, changed from one to another where it has the first
abbrev pub moved : ℕ → ℕ → ℕ → List ℕ → List ℕ → List ℕ
moved e from to [] ms = []
moved e from to (d ∷ ds) [] = []
moved e from to (d ∷ ds) (m ∷ ms) = (if nat_eq m from && nat_eq d e then to else m) ∷ moved e from to ds ms

-- the marks of the devices after an entry
abbrev pub noted : EntryValue → List ℕ → List ℕ → List ℕ
noted (BeginEntry d) live ms = moved d 0 1 live ms
noted (EndEntry d) live ms = moved d 1 2 live ms
noted IdleEntry live ms = ms
noted (EditEntry e) live ms = ms
