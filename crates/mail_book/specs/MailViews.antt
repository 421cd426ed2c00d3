-- What contracts see of a mail core in code.
use Rattle.std.specs.Prelude.{List, [], None}
use Rattle.fc_nodes.specs.Program.{Unfolding}
use Rattle.topology.specs.Networks.{numbers}
use Rattle.firing_core.specs.Cores.{Core}
use Rattle.firing_core.specs.CoreViews.{CoreValue, core_of, program_of}
use Rattle.message_links.specs.MailCores.{MailCore}
use Rattle.mail_book.specs.declared.letters.Letters.{Letters}
use Rattle.mail_book.specs.Pairs.{AreRows}
use Rattle.mail_book.specs.Rows.{heard_at, transit_at, AllRows}

pub record MailValue : Type 0 where
  pub core : CoreValue
  pub rows : List (List Letters)

abbrev pub mail_with : CoreValue → List (List Letters) → MailValue
mail_with c rows = record { core = c; rows = rows }

abbrev pub unfolded_of : MailValue → Unfolding
unfolded_of m = program_of m.core

-- the mail core that it stands for
abbrev pub mail_of : MailValue → MailCore
mail_of m = record {
  core = core_of m.core;
  heard = heard_at (unfolded_of m) m.core.net m.rows;
  transit = transit_at (unfolded_of m) m.core.net m.rows;
}

-- what its type keeps: a place for each ordered pair of neighbours, and exports of the program alone
pub record IsMail (m : MailValue) : Type 0 where
  pub shape : AreRows m.core.net (numbers m.core.net.devices) m.rows
  pub letters : AllRows (unfolded_of m) m.rows

-- a core in which nothing was heard and nothing is in transit
abbrev pub quiet : Core → MailCore
quiet c = record { core = c; heard = λ a b. None; transit = λ a b. [] }
