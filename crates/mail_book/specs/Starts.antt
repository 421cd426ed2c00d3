-- What the start of a mail log holds: exports that were heard, and messages in transit that no end of the log sent.
use Rattle.std.specs.Prelude.{ℕ, ◌≡◌, List, [], ◌∷◌, map, Option, Some, None}
use Rattle.fc_values.specs.Trees.{TreeExport}
use Rattle.fc_nodes.specs.Program.{Unfolding}
use Rattle.value_trees.specs.Snaps.{tree_of, IsExportOf}
use Rattle.topology.specs.Networks.{Network}
use Rattle.firing_core.specs.Cores.{Core}
use Rattle.message_links.specs.MailCores.{Message, MailCore, Pairs, Reaches, put_pair, pushed}
use Rattle.mail_book.specs.declared.starts.Post.{Post}
use Rattle.mail_book.specs.Rows.{heard_at, transit_at, AllRows}
use Rattle.mail_book.specs.declared.letters.Letters.{Letters}

-- an export from a device to another
pub record PostValue : Type 0 where
  pub from : ℕ
  pub to : ℕ
  pub export : TreeExport

abbrev pub post_of : Unfolding → Post → PostValue
post_of U p = record { from = p.from; to = p.to; export = tree_of U p.export }

abbrev pub post_values : Unfolding → List Post → List PostValue
post_values U ps = map (post_of U) ps

-- on ordered pairs of neighbours alone, exports of the program
abbrev pub AreHeld : Unfolding → Network → List Post → Type 0
AreHeld U N [] = Unit {0}
AreHeld U N (p ∷ ps) = Reaches N p.from p.to × IsExportOf U p.export × AreHeld U N ps

-- what is heard once these exports were heard, one after another
abbrev pub heard_after : Pairs (Option TreeExport) → List PostValue → Pairs (Option TreeExport)
heard_after f [] = f
heard_after f (p ∷ ps) = heard_after (put_pair f p.from p.to (Some p.export)) ps

-- a message that no end of the log sent
abbrev pub old_message : TreeExport → Message
old_message e = record { export = e; sent = None }

-- what is in transit once these exports were sent, one after another
abbrev pub sent_after : Pairs (List Message) → List PostValue → Pairs (List Message)
sent_after f [] = f
sent_after f (p ∷ ps) = sent_after (put_pair f p.from p.to (pushed (f p.from p.to) (old_message p.export))) ps

-- the mail core of a core in which these exports were heard, and these are in transit, the first of a pair as its oldest
abbrev pub holding : Core → List PostValue → List PostValue → MailCore
holding c heard transit = record {
  core = c;
  heard = heard_after (λ a b. None) heard;
  transit = sent_after (λ a b. []) transit;
}

-- exports were heard, and exports were sent, in rows
pub record Hears (U : Unfolding) (N : Network) (ps : List PostValue) (old new : List (List Letters)) : Type 0 where
  pub letters : AllRows U new
  pub heard : heard_at U N new ≡ heard_after (heard_at U N old) ps
  pub transit : transit_at U N new ≡ transit_at U N old

pub record Sends (U : Unfolding) (N : Network) (ps : List PostValue) (old new : List (List Letters)) : Type 0 where
  pub letters : AllRows U new
  pub heard : heard_at U N new ≡ heard_at U N old
  pub transit : transit_at U N new ≡ sent_after (transit_at U N old) ps
