use Rattle.std.proofs.Common.{◌≡◌, ◌+◌, drop}
use Rattle.alignment.specs.Environments.{near_numbers}
use Rattle.alignment.specs.References.{nears_of}
use Rattle.scope_columns.specs.Words.{row_of}
use Rattle.scope_columns.proofs.scopes.own_row.Given as goal

abbrev pub invariant-loop-n : goal.invariant-loop-n
invariant-loop-n l = record {
  row : l.row ≡ l.n-index;
  so_far : l.row + row_of l.device (near_numbers (nears_of (drop l.n-index l.near)))
      ≡ row_of l.device (near_numbers (nears_of l.near));
}
