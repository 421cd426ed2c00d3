use Rattle.std.proofs.Common.{◌≤◌, arith}
use Rattle.closed_terms.specs.Parts.{IsLowered}
use Rattle.closed_terms.proofs.Whole.{main_is}
use Rattle.closed_terms.proofs.matching.is_part.Goals as goal

pub returns : goal.returns
returns c h =
    let v = c.size-size.ensures.value in
    let past : c.size-size.result ≤ c.loop-at.at = c.loop-at-test.false in
    let low : IsLowered c.args.place c.args.program.now.nodes c.args.part.now.nodes = λ i l. c.loop-at.invariant i (omega (arith, l, v, past)) in
    record {
      declared = c.requires.declared;
      main = main_is c.args.program.now c.declared-program.ensures.program c.args.place c.args.end c.requires.term c.args.part.now.nodes low (let q = c.if-size-end.false in omega (arith, v, q));
    }
