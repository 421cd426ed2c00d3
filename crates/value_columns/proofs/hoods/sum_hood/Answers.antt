use Rattle.value_columns.proofs.OtherReads.{sum_folded}
use Rattle.value_columns.proofs.hoods.sum_hood.Goals as goal

pub returns-clause-sum : goal.returns-clause-sum
returns-clause-sum c = sum_folded c.args.words.now.items c.deref.result.now c.deref-2.result.now
    c.end_with.new.words.items c.args.rows c.args.at c.args.own c.args.ceiling c.sum_cut-first.result
    c.sum_cut-total.result c.deref.ensures.value c.deref-2.ensures.value c.requires.own c.requires.within
    c.sum_cut-first.ensures c.sum_cut-total.ensures c.end_with.ensures.last
