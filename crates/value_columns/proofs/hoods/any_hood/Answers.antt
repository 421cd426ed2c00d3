use Rattle.value_columns.proofs.OtherReads.{any_folded}
use Rattle.value_columns.proofs.hoods.any_hood.Goals as goal

pub returns-clause-any : goal.returns-clause-any
returns-clause-any c = any_folded c.args.words.now.items c.deref.result.now c.deref-2.result.now
    c.end_with.new.words.items c.args.rows c.args.at c.args.own c.word_of.result c.any_true-first.result
    c.any_true-any.result c.deref.ensures.value c.deref-2.ensures.value c.requires.own c.requires.within
    c.any_true-first.ensures c.any_true-any.ensures
    c.word_of.ensures c.end_with.ensures.last
