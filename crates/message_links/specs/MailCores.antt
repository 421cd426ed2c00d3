-- Message links: a device knows of a neighbour only what that neighbour's messages brought. Messages may be lost,
-- repeated or late, but they arrive in the order in which they were sent.
use Rattle.std.specs.Prelude.{ℕ, zero, suc, Bool, true, ◌≡◌, ◌≤◌, ◌<◌, ◌&&◌, if◌then◌else◌, nat_eq, nat_le}
use Rattle.std.specs.Prelude.{List, [], ◌∷◌, ◌++◌, length, Option, Some, None}
use Rattle.fc_values.specs.Trees.{TreeExport}
use Rattle.fc_values.specs.Fields.{is_in}
use Rattle.fc_nodes.specs.Program.{Unfolding}
use Rattle.topology.specs.Networks.{Network, near}
use Rattle.topology.specs.Nearby.{neighbour_numbers}
use Rattle.message_links.specs.declared.entries.TheConstants.{MOST_IN_TRANSIT}
use Rattle.firing_core.specs.Entries.{BeginEntry}
use Rattle.firing_core.specs.Cores.{Map, Core, StepSeeing, Ends, GoodExport, IsGood}

-- whether messages go from one device to another: the sender is a neighbour of the receiver
abbrev pub reaches : Network → ℕ → ℕ → Bool
reaches N from to = is_in from (neighbour_numbers (near N to))

abbrev pub Reaches : Network → ℕ → ℕ → Type 0
Reaches N from to = reaches N from to ≡ true

-- a message: an export, and the position in the log of the end that made it; none where the start held it
pub record Message : Type 0 where
  pub export : TreeExport
  pub sent : Option ℕ

-- what is kept for each ordered pair of devices, the sender first
abbrev pub Pairs : Type 0 → Type 0
Pairs X = ℕ → ℕ → X

abbrev pub put_pair : {X : Type 0} → Pairs X → ℕ → ℕ → X → Pairs X
put_pair f a b x c d = if nat_eq c a && nat_eq d b then x else f c d

-- a core, what was last heard on each ordered pair of neighbours, and the messages in transit, the oldest first
pub record MailCore : Type 0 where
  pub core : Core
  pub heard : Pairs (Option TreeExport)
  pub transit : Pairs (List Message)

-- an entry of a mail log: a begin, an end, or a turn that changes nothing; the oldest message of an ordered pair is
-- delivered, or delivered and kept in transit; or a message in transit, counted from the oldest, is lost
pub data MailEntryValue : Type 0 where
  MailBegin : ℕ → MailEntryValue
  MailEnd : ℕ → MailEntryValue
  MailIdle : MailEntryValue
  MailDeliver : ℕ → ℕ → MailEntryValue
  MailAgain : ℕ → ℕ → MailEntryValue
  MailLose : ℕ → ℕ → ℕ → MailEntryValue

-- a list without its first item, and a list without the item at an index
abbrev pub rest_of : {X : Type 0} → List X → List X
rest_of [] = []
rest_of (x ∷ xs) = xs

abbrev pub without : {X : Type 0} → ℕ → List X → List X
without i [] = []
without zero (x ∷ xs) = xs
without (suc i) (x ∷ xs) = x ∷ without i xs

-- a list with one more item; a full list first loses its oldest
abbrev pub pushed : {X : Type 0} → List X → X → List X
pushed xs x = (if nat_le MOST_IN_TRANSIT (length xs) then rest_of xs else xs) ++ x ∷ []

-- what is in transit once a device has sent a message to each of its neighbours
abbrev pub posted : {X : Type 0} → Network → Pairs (List X) → ℕ → X → Pairs (List X)
posted N transit d x a b = if nat_eq a d && reaches N a b then pushed (transit a b) x else transit a b

-- the exports that a device sees: its own, and of another device what was heard of it
abbrev pub sees : MailCore → ℕ → Map TreeExport
sees c d n = if nat_eq n d then c.core.exports n else c.heard n d

abbrev pub with_core : MailCore → Core → MailCore
with_core c core = record { core = core; heard = c.heard; transit = c.transit }

-- an end, at a position of the log: what is published goes to each neighbour too
pub record MailEnds (U : Unfolding) (at : ℕ) (c : MailCore) (d : ℕ) (next : MailCore) : Type 0 where
  pub ends : Ends U c.core d next.core
  pub heard : next.heard ≡ c.heard
  pub transit : next.transit ≡ posted c.core.net c.transit d (record { export = ends.export; sent = Some at })

-- the oldest message of a pair is heard; `stay` says which of its messages remain in transit
pub record Hears (c : MailCore) (a b : ℕ) (stay : Message → List Message → List Message) (next : MailCore)
    : Type 0 where
  pub linked : Reaches c.core.net a b
  pub oldest : Message
  pub later : List Message
  pub there : c.transit a b ≡ oldest ∷ later
  pub after : next ≡ record {
    core = c.core;
    heard = put_pair c.heard a b (Some oldest.export);
    transit = put_pair c.transit a b (stay oldest later);
  }

-- the message of an index, counted from the oldest, is lost
pub record Loses (c : MailCore) (a b i : ℕ) (next : MailCore) : Type 0 where
  pub linked : Reaches c.core.net a b
  pub there : i < length (c.transit a b)
  pub after : next ≡ record {
    core = c.core;
    heard = c.heard;
    transit = put_pair c.transit a b (without i (c.transit a b));
  }

-- one step, at a position of the log
abbrev pub MailStep : Unfolding → ℕ → MailCore → MailEntryValue → MailCore → Type 0
MailStep U at c (MailBegin d) next =
    (core : Core) × StepSeeing U (sees c) c.core (BeginEntry d) core × (next ≡ with_core c core)
MailStep U at c (MailEnd d) next = MailEnds U at c d next
MailStep U at c MailIdle next = next ≡ c
MailStep U at c (MailDeliver a b) next = Hears c a b (λ m ms. ms) next
MailStep U at c (MailAgain a b) next = Hears c a b (λ m ms. m ∷ ms) next
MailStep U at c (MailLose a b i) next = Loses c a b i next

-- the entries of a log, from a position on, lead from a mail core to a mail core
abbrev pub MailRun : Unfolding → ℕ → MailCore → List MailEntryValue → MailCore → Type 0
MailRun U at c [] last = last ≡ c
MailRun U at c (e ∷ es) last = (next : MailCore) × MailStep U at c e next × MailRun U (suc at) next es last

-- messages that the start holds on an ordered pair: well-typed exports of the sender, and no end of the log sent them
abbrev pub AreOld : Unfolding → Network → ℕ → ℕ → List Message → Type 0
AreOld U N a b [] = Unit {0}
AreOld U N a b (m ∷ ms) = Reaches N a b × GoodExport U N a m.export × (m.sent ≡ None) × AreOld U N a b ms

-- A mail core from which a log may start: a good core; what is heard and what is in transit are well-typed exports of
-- the sender, on ordered pairs of neighbours alone, at most four messages on each.
pub record IsMailStart (U : Unfolding) (c : MailCore) : Type 0 where
  pub good : IsGood U c.core
  pub heard : (a b : ℕ) (e : TreeExport) → c.heard a b ≡ Some e → Reaches c.core.net a b × GoodExport U c.core.net a e
  pub transit : (a b : ℕ) → AreOld U c.core.net a b (c.transit a b)
  pub few : (a b : ℕ) → length (c.transit a b) ≤ MOST_IN_TRANSIT
