use Rattle.std.proofs.Common.{◌≡◌, length, map}
use Rattle.std.specs.Vec.Iter.{into_iter_items, into_iter_len}
use Rattle.edit_commands.specs.Scripts.{numbered}
use Rattle.session.proofs.Folding.{Upto}
use Rattle.session.proofs.scripts.run_script.Given as goal

abbrev pub invariant-loop-line : goal.invariant-loop-line
invariant-loop-line g l = record {
  upto : Upto l.fn.program.value l.fn.core (map numbered l.fn.lines.items) l.session (into_iter_items l.line-iterator);
  long : into_iter_len l.line-iterator ≡ length (into_iter_items l.line-iterator);
}
