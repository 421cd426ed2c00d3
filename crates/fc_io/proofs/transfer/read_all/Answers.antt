use Rattle.std.proofs.Common.{◌≡◌, ◌+◌, ◌-◌, min, vec_len, arith, take, ◌++◌}
use Rattle.std.proofs.KnownBytes.{Consumes-trans}
use Rattle.fc_io.proofs.Moves.{read_within}
use Rattle.fc_io.proofs.transfer.read_all.Goals as goal

pub returns-in_err-extend_from_slice-clause-beyond : goal.returns-in_err-extend_from_slice-clause-beyond
returns-in_err-extend_from_slice-clause-beyond g c =
    let want : c.min-want.result ≡ min 4096 (c.args.limit + 1 - c.len-in-turns.result) = c.min-want.ensures in
    let so_far : c.len-in-turns.result ≡ vec_len c.turns.bytes = c.len-in-turns.ensures in (
      c.turns.bytes.items ++ take c.in-Ok.count c.read.new.buf,
      Consumes-trans _ _ _ _ _ c.turns.invariant.0 c.in-Ok.ensures.bytes.0,
      read_within _ _ _ _ _ _ c.in-Ok.ensures.bound.0 c.read.auto.buf (omega (arith, want, so_far, c.turns-test.true)),
    )
