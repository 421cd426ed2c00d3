use Rattle.value_columns.proofs.OtherReads.{all_folded}
use Rattle.value_columns.proofs.hoods.all_hood.Goals as goal

pub returns-clause-all : goal.returns-clause-all
returns-clause-all c = all_folded c.args.words.now.items c.deref.result.now c.deref-2.result.now
    c.end_with.new.words.items c.args.rows c.args.at c.args.own c.word_of.result c.all_true-first.result
    c.all_true-all.result c.deref.ensures.value c.deref-2.ensures.value c.requires.own c.requires.within
    c.all_true-first.ensures c.all_true-all.ensures
    c.word_of.ensures c.end_with.ensures.last
