use Rattle.std.proofs.Common.{arith}
use Rattle.fc_types.specs.Views.{known_of}
use Rattle.unfold.proofs.Calls.{bare_same}
use Rattle.unfold.proofs.names.last_call.Goals as goal

pub loop-number-preserved : goal.loop-number-preserved
loop-number-preserved c =
    let r = c.in-Some.ensures in
    let i = c.loop-number.invariant in
    let l = r.2 in
    let f = i.fewer in
    record {
      same = bare_same (known_of c.args.known.now) c.args.visible c.loop-number.seen c.in-Some.number c.args.name.now.text.items c.loop-number.last.now.text.items c.in-Some.next.now.text.items r i.same;
      fewer = omega (arith, l, f);
    }
