use Rattle.std.proofs.Common.{◌≡◌, ◌++◌, drop}
use Rattle.fc_values.specs.Types.{local_type_of}
use Rattle.alignment.specs.Hearing.{slot_entries}
use Rattle.alignment.specs.Slots.{NearHave}
use Rattle.alignment.specs.References.{nears_of}
use Rattle.scope_columns.specs.Words.{AllForm, slot_column}
use Rattle.scope_columns.proofs.hearing.push_slots.Given as goal

abbrev pub invariant-loop-n : goal.invariant-loop-n
invariant-loop-n l = record {
  have : NearHave l.slot (nears_of (drop l.n-index l.near));
  forms : AllForm (local_type_of l.ty) (slot_entries l.slot (nears_of (drop l.n-index l.near)));
  so_far : l.words.items ++ slot_column l.leaf l.slot (nears_of (drop l.n-index l.near))
      ≡ l.initial.words.items ++ slot_column l.leaf l.slot (nears_of l.near);
}
