-- Each mail log has a greatest number of rounds.
use Rattle.std.specs.Prelude.{ℕ, ◌≤◌, List}
use Rattle.fc_nodes.specs.Program.{Unfolding}
use Rattle.topology.specs.Networks.{Network}
use Rattle.message_links.specs.MailCores.{MailCore, MailEntryValue, IsMailStart}
use Rattle.message_links.specs.MailRounds.{Posts, posts_of, HasMailRounds}

-- the greatest number of rounds of a mail log
pub record IsGreatestMail (N : Network) (p : Posts) (log : List MailEntryValue) (k : ℕ) : Type 0 where
  pub has : HasMailRounds N 0 p log k
  pub greatest : (j : ℕ) → HasMailRounds N 0 p log j → j ≤ k

-- a log from a mail core from which a log may start has such a number
abbrev pub SomeGreatestMail : Type 0
SomeGreatestMail = (U : Unfolding) (start : MailCore) (log : List MailEntryValue) → IsMailStart U start
    → (k : ℕ) × IsGreatestMail start.core.net (posts_of start) log k
