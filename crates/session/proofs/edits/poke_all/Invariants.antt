use Rattle.std.proofs.Common.{◌≡◌, length}
use Rattle.std.specs.Vec.Iter.{into_iter_items, into_iter_len}
use Rattle.scenarios.specs.Rubbish.{of_devices}
use Rattle.session.proofs.Pokes.{Poked}
use Rattle.session.proofs.edits.poke_all.Given as goal

abbrev pub invariant-loop-device : goal.invariant-loop-device
invariant-loop-device l = record {
  poked : Poked l.fn.book (of_devices l.fn.exports.items) l.book (into_iter_items l.device-iterator);
  long : into_iter_len l.device-iterator ≡ length (into_iter_items l.device-iterator);
}
