use Rattle.std.proofs.Common.{◌-◌, length}
use Rattle.stable_field.proofs.terms.+term_column.Given as goal

abbrev pub decreases-term_column : goal.decreases-term_column
decreases-term_column l = length l.program.now.nodes - l.place
