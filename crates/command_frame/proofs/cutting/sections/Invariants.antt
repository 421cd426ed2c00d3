use Rattle.std.proofs.Common.{length, ◌-◌, map}
use Rattle.command_frame.proofs.Cut.{IsCutTo}
use Rattle.command_frame.proofs.cutting.sections.Given as goal

abbrev pub invariant-lines : goal.invariant-lines
invariant-lines l = IsCutTo l.input (map (λ s. s.now) l.found.items) l.start l.at

abbrev pub decreases-lines : goal.decreases-lines
decreases-lines l = length l.input - l.at
