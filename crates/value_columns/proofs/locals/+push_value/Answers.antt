use Rattle.std.proofs.Common.{◌≡◌, ap}
use Rattle.fc_values.specs.Values.{local_of, PairValue}
use Rattle.value_columns.proofs.LocalReads.{pair_behind}
use Rattle.value_columns.proofs.locals.+push_value.Goals as goal

pub returns-in_ok-push_value-in-Pair-2-clause-reads : goal.returns-in_ok-push_value-in-Pair-2-clause-reads
returns-in_ok-push_value-in-Pair-2-clause-reads t c =
    let a = local_of c.deref.result.now in
    let b = local_of c.deref-in-Pair.result.now in
    let both : local_of c.args.value.now ≡ PairValue a b =
    rw (c.deref.ensures, c.deref-in-Pair.ensures) (ap local_of c.in-Pair.is) in
    pair_behind (local_of c.args.value.now) a b c.args.words.now.items c.push_value.new.words.items
    c.push_value-in-Pair.new.words.items both c.in_ok-push_value-in-Pair.ensures.added
    c.in_ok-push_value-in-Pair-2.ensures.added
