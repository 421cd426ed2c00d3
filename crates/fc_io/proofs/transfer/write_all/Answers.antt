use Rattle.std.proofs.Common.{arith, subst, sym, ◌∙◌}
use Rattle.fc_io.proofs.Moves.{take_rest}
use Rattle.std.proofs.KnownBytes.{Appends-trans}
use Rattle.std.specs.Io.KnownBytes.{Appends}
use Rattle.fc_io.proofs.transfer.write_all.Goals as goal

pub turns-preserved : goal.turns-preserved
turns-preserved g c =
    let grown = Appends-trans _ _ _ _ _ c.turns.invariant.1 c.in-Ok.ensures.bytes in (
      omega (arith, c.in-Ok.ensures.bound),
      subst (Appends (g.K.Sink.taken c.args.out.now) (g.K.Sink.taken c.write.new.self)) (sym (take_rest c.args.bytes.now c.turns.done c.in-Ok.count)) grown,
      c.in-Ok.ensures.cause.quiet ∙ c.turns.invariant.2,
      c.write.ensures.room ∙ c.turns.invariant.3,
    )
