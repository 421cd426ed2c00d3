use Rattle.std.proofs.Common.{◌+◌, arith}
use Rattle.firing_core.proofs.RoomSteps.{here_forms, written_next, written_whole}
use Rattle.firing_core.proofs.rooms.overwrite_locals.Goals as goal

pub overwrite-requires : goal.overwrite-requires
overwrite-requires c = here_forms c.loop-i.i c.loop-i.target c.args.source.now c.index-target-i.result c.index-source-i.result (omega arith) c.loop-i.invariant.written c.index-source-i.is

pub loop-i-preserved : goal.loop-i-preserved
loop-i-preserved c = record {
  written = written_next c.loop-i.i (c.loop-i.i + 1) c.loop-i.target c.args.source.now c.overwrite.new.target c.index-source-i.result (omega arith) (omega arith) c.overwrite.ensures c.index-source-i.is c.loop-i.invariant.written;
}

pub returns : goal.returns
returns c = written_whole c.loop-i.i c.loop-i.target c.args.source.now (omega arith) c.loop-i.invariant.written
