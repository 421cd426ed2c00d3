use Rattle.std.proofs.Common.{List, length, ap, arith}
use Rattle.fc_syntax.specs.Terms.{Declaration}
use Rattle.unfold.specs.Nodes.{Nodes}
use Rattle.fc_gen.proofs.generating.nodes.Goals as goal

pub unreachable-requires : goal.unreachable-requires
unreachable-requires c =
    let many = ap (λ (p : List Declaration). length (Nodes p)) c.in_ok-typed.ensures in
    let small = (c.rings_are_typed.ensures c.args.devices c.requires.least c.requires.most).small in
    let large = rw c.in-Err-TooLarge.field-0-is at c.in-Err-TooLarge.ensures.large in
    omega (arith, many, small, large)
