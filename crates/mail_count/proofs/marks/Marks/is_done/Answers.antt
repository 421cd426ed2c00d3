use Rattle.std.proofs.Common.{sym, ◌∙◌, ap}
use Rattle.std.proofs.lemmas.Bool.{eqb-true, eq-eqb}
use Rattle.mail_count.specs.Seen.{missing}
use Rattle.mail_count.specs.Marks.{missing_rows}
use Rattle.mail_count.proofs.Greatest.{none_left, left_none}
use Rattle.mail_count.proofs.marks.Marks.is_done.Goals as goal

pub returns-then-self-eq0-clause-whole : goal.returns-then-self-eq0-clause-whole
returns-then-self-eq0-clause-whole c = λ N s net t q.
    none_left N net s (sym (t.devices_left ∙ ap missing t.fired) ∙ c.if-self-eq0.true) (sym (t.pairs_left ∙ ap missing_rows t.rows.brought) ∙ eqb-true c.args.self.now.pairs_left 0 q)

pub returns-then-self-eq0-clause-done : goal.returns-then-self-eq0-clause-done
returns-then-self-eq0-clause-done c = λ N s net t w. eq-eqb c.args.self.now.pairs_left 0 (t.pairs_left ∙ ap missing_rows t.rows.brought ∙ (left_none N net s w).1)

pub returns-else-self-eq0-clause-done : goal.returns-else-self-eq0-clause-done
returns-else-self-eq0-clause-done c = λ N s net t w. eq-eqb c.args.self.now.devices_left 0 (t.devices_left ∙ ap missing t.fired ∙ (left_none N net s w).0)
