-- What a book says, as plain values: by this books are compared, since a book in code holds exports of the code.
use Rattle.std.specs.Prelude.{List}
use Rattle.fc_nodes.specs.Program.{Unfolding, unfolding_of}
use Rattle.firing_core.specs.Books.{BookValue}
use Rattle.firing_core.specs.CoreViews.{core_of}
use Rattle.firing_core.specs.Cores.{Core}
use Rattle.firing_core.specs.Entries.{EntryValue, entries_of}

-- a program, the core that a log starts from, its entries, and the core to which they lead
pub record Ledger : Type 0 where
  pub program : Unfolding
  pub start : Core
  pub log : List EntryValue
  pub core : Core

abbrev pub ledger_of : BookValue → Ledger
ledger_of b = record {
  program = unfolding_of b.program;
  start = core_of b.start;
  log = entries_of b.log;
  core = core_of b.core;
}

-- the book of a program, a start and a log that leads to a core
abbrev pub book_of : Unfolding → Core → List EntryValue → Core → Ledger
book_of U start log core = record { program = U; start = start; log = log; core = core }
