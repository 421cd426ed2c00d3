use Rattle.std.proofs.Common.{refl, ap, Some}
use Rattle.fc_values.specs.declared.exports.Export.{Export}
use Rattle.fc_values.specs.Exports.{export_of}
use Rattle.mail_book.proofs.MessageSteps.{first_there, some_items}
use Rattle.mail_book.proofs.letters.repeat.Goals as goal

pub returns-clause-some : goal.returns-clause-some
returns-clause-some c = λ q.
    let t = first_there c.args.letters.now.transit.items c.index.result.now (some_items c.args.letters.now.transit c.is_empty.result c.is_empty.ensures c.if-is_empty.false) c.index.ensures in
    record { oldest = c.index.result.now; later = t.0; there = t.1; heard = ap (λ (e : Export). Some (export_of e)) c.in_ok-export.ensures; transit = refl }
