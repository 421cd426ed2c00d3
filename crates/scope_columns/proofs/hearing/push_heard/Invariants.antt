use Rattle.fc_values.specs.Values.{local_of}
use Rattle.alignment.specs.Hearing.{field_with}
use Rattle.alignment.specs.References.{flat_of}
use Rattle.scope_columns.specs.Words.{values_in}
use Rattle.scope_columns.proofs.HeardColumns.{Columns}
use Rattle.scope_columns.proofs.hearing.push_heard.Given as goal

abbrev pub invariant-loop-leaf : goal.invariant-loop-leaf
invariant-loop-leaf l =
    Columns l.initial.words.items
    (values_in (field_with l.slot l.device (local_of l.own) (flat_of l.sight.env.now))) l.leaf l.words.items
