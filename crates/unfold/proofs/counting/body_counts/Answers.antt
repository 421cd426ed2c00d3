use Rattle.std.proofs.Common.{◌∙◌, ap, length}
use Rattle.std.specs.Map.Iter.{deref_pair}
use Rattle.std.proofs.lemmas.Map.Iter.{iter_turn}
use Rattle.fc_types.specs.Before.{Function}
use Rattle.fc_types.specs.Views.{known_of, function_entry}
use Rattle.unfold.proofs.Firsts.{capped_more, entry_get, one_longer}
use Rattle.unfold.proofs.counting.body_counts.Goals as goal

pub loop-function-preserved : goal.loop-function-preserved
loop-function-preserved c =
    let turn = iter_turn deref_pair c.args.known.now.functions.entries c.loop-function.yielded c.into_iter-function-iterator.result c.loop-function.function-iterator c.next.new.self c.next.result c.into_iter-function-iterator.ensures.into_iter_gives.0 c.loop-function.yielded_by (c.in-Some.field-0-0, c.in-Some.function) c.in-Some.is c.next.ensures.steps in
    let e : Function = function_entry (c.in-Some.field-0-0.now, c.in-Some.function.now) in
    let at = entry_get c.args.known.now.functions.entries (length c.loop-function.yielded) (c.in-Some.field-0-0.now, c.in-Some.function.now) turn.1 in
    let long = c.loop-function.invariant.long in
    let own = rw c.deref.ensures.value at c.count-own.ensures in
    let capped = capped_more (known_of c.args.known.now) c.loop-function.counts.items c.count-own.result e c.loop-function.invariant.capped (rw long at) own in
    record {
      long = ap length c.in_ok-push.ensures.items ∙ one_longer c.loop-function.counts.items c.count-own.result c.loop-function.yielded (c.in-Some.field-0-0, c.in-Some.function) long;
      capped = rw c.in_ok-push.ensures.items capped;
    }
