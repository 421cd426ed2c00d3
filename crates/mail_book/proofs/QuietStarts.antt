-- Crates above cite this module: a mail log may start from a good core in which nothing was heard and nothing is in transit.
use Rattle.std.proofs.Common.{arith}
use Rattle.fc_nodes.specs.Program.{Unfolding}
use Rattle.firing_core.specs.Cores.{Core, IsGood}
use Rattle.message_links.specs.MailCores.{IsMailStart}
use Rattle.mail_book.specs.MailViews.{quiet}

pub quiet_start : (U : Unfolding) (c : Core) → IsGood U c → IsMailStart U (quiet c)
quiet_start U c good = record { good = good; heard = λ a b e q. absurd cc; transit = λ a b. tt; few = λ a b. omega arith }
