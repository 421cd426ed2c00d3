-- What lines of changes in code stand for.
use Rattle.std.specs.Prelude.{ℕ, Option, option_map}
use Rattle.changes.specs.declared.types.Change.{Change}
use Rattle.changes.specs.declared.types.Change.TheVariants as change
use Rattle.changes.specs.declared.types.ChangeLine.{ChangeLine}
use Rattle.changes.specs.Changes.{ChangeValue, SetChange, LinkChange, UnlinkChange, LeaveChange, JoinChange}

abbrev pub change_in : Change → ChangeValue
change_in (change.Set d i p) = SetChange d i p
change_in (change.Link a b w) = LinkChange a b w
change_in (change.Unlink a b) = UnlinkChange a b
change_in (change.Leave d) = LeaveChange d
change_in (change.Join d ps) = JoinChange d ps.items

-- a line with its number
abbrev pub line_in : ChangeLine → ℕ × Option ChangeValue
line_in l = (l.number, option_map change_in l.change)
