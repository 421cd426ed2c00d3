use Rattle.std.proofs.Common.{◌≡◌, ◌++◌, map, drop}
use Rattle.bound_texts.specs.References.{lines_in}
use Rattle.last_bounds.specs.References.{last_bound_in}
use Rattle.fc_changes.specs.Lines.{bound_line_of}
use Rattle.fc_changes.proofs.texts.write_lasts.Given as goal

-- the lines of the last bounds that are left are those that are still to come
abbrev pub invariant-loop-last : goal.invariant-loop-last
invariant-loop-last l =
    lines_in l.lines.items ++ map (bound_line_of l.start) (map last_bound_in (drop l.last-index l.lasts))
    ≡ map (bound_line_of l.start) (map last_bound_in l.lasts)
