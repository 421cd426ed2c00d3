use Rattle.std.proofs.Common.{List, refl, ◌∙◌, ap}
use Rattle.std.specs.List.{remove}
use Rattle.mail_book.specs.declared.letters.Message.{Message}
use Rattle.mail_book.proofs.MessageSteps.{first_there, some_items}
use Rattle.mail_book.proofs.letters.deliver.Goals as goal

pub returns-clause-ok : goal.returns-clause-ok
returns-clause-ok c =
    let t = first_there c.args.letters.now.transit.items c.remove-message.result (some_items c.args.letters.now.transit c.is_empty.result c.is_empty.ensures c.if-is_empty.false) c.remove-message.ensures.value in
    record {
      oldest = c.remove-message.result;
      later = t.0;
      there = t.1;
      heard = refl;
      transit = c.remove-message.ensures.items ∙ ap (λ (ms : List Message). remove ms 0) t.1;
    }
