use Rattle.std.proofs.Common.{subst, sym}
use Rattle.fc_types.specs.Typing.{IsTyped}
use Rattle.fc_gen.proofs.generating.typed.Goals as goal

pub unreachable-requires : goal.unreachable-requires
unreachable-requires c =
    let typed = subst IsTyped (sym c.requires.program) (c.rings_are_typed.ensures c.args.devices c.requires.least c.requires.most).typed in
    rw c.in-Err-Fault.field-0-is at (c.in-Err-Fault.ensures.always typed)
