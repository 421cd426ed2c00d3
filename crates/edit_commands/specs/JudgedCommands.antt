-- What the commands of a script ask of the cores that they are given to, without its text.
use Rattle.std.specs.Prelude.{ℕ, ◌≡◌, ◌+◌, ◌<◌, ◌≤◌, List, [], ◌∷◌, None, is_some}
use Rattle.fc_nodes.specs.Program.{Unfolding}
use Rattle.topology.specs.Networks.{Network}
use Rattle.topology.specs.Changes.{linked, unlinked, with_input, joined, left}
use Rattle.firing_core.specs.Entries.{EditValue, LinkEdit, UnlinkEdit, SetEdit, PokeEdit, JoinEdit, LeaveEdit}
use Rattle.firing_core.specs.Cores.{Core, EditFits, edit_fault}
use Rattle.firing_core.specs.Stretches.{IsMixed}
use Rattle.edit_commands.specs.declared.scripts.TheConstants.{MOST_SCRAMBLES, MOST_FIRINGS}
use Rattle.edit_commands.specs.Scripts.{Progress, at_start, flies, firings_after, with_firings}
use Rattle.edit_commands.specs.Scripts.{CommandValue, RunCommand, EditCommand, ScrambleCommand}
use Rattle.edit_commands.specs.Scripts.{ShowCommand, MixCommand, AllCommandsFit, IsScript}

-- the network after an edit
abbrev pub net_after : Network → EditValue → Network
net_after n (LinkEdit a b w) = linked n a b w
net_after n (UnlinkEdit a b) = unlinked n a b
net_after n (SetEdit d i v) = with_input n d i v
net_after n (PokeEdit d x) = n
net_after n (JoinEdit x) = joined n x
net_after n (LeaveEdit d) = left n d

-- a core to which lines may lead: it has the network that they leave, and the flights are those at the start until a
-- `run` or a `mix` has ended them
pub record IsLeftBy (start : Core) (p : Progress) (c : Core) : Type 0 where
  pub net : c.net ≡ p.net
  pub flights : (d : ℕ) → is_some (c.flying d) ≡ flies start p.quiet d

-- an edit that fits the program, and that each such core allows. So a device that leaves doesn't fly
pub record IsAllowed (U : Unfolding) (start : Core) (p : Progress) (e : EditValue) : Type 0 where
  pub fits : EditFits U e
  pub allowed : (c : Core) → IsLeftBy start p c → edit_fault c e ≡ None

-- at least one round, and the firings of all lines stay within the limit
pub record MayRun (p : Progress) (rounds : ℕ) : Type 0 where
  pub some : 1 ≤ rounds
  pub within : firings_after p rounds ≤ MOST_FIRINGS

-- an edit and at least one round after its own
pub record MayMix (U : Unfolding) (start : Core) (p : Progress) (rounds : ℕ) (e : EditValue) : Type 0 where
  pub some : 1 ≤ rounds
  pub within : firings_after p (rounds + 1) ≤ MOST_FIRINGS
  pub mixed : IsMixed e
  pub edit : IsAllowed U start p e

-- a command that may come where lines have left this
abbrev pub MayCome : Unfolding → Core → Progress → CommandValue → Type 0
MayCome U start p (RunCommand r) = MayRun p r
MayCome U start p (EditCommand e) = IsAllowed U start p e
MayCome U start p (ScrambleCommand n) = p.scrambles < MOST_SCRAMBLES
MayCome U start p ShowCommand = Unit {0}
MayCome U start p (MixCommand r e) = MayMix U start p r e

abbrev pub with_net : Progress → Network → Progress
with_net p n = record p { net = n }

-- what a command leaves
abbrev pub after_command : Progress → CommandValue → Progress
after_command p (RunCommand r) = with_firings p r
after_command p (EditCommand e) = with_net p (net_after p.net e)
after_command p (ScrambleCommand n) = record p { scrambles = p.scrambles + 1 }
after_command p ShowCommand = p
after_command p (MixCommand r e) = with_net (with_firings p (r + 1)) (net_after p.net e)

-- commands with the numbers of their lines, each of which may come where those before it have left what they leave
abbrev pub AreJudged : Unfolding → Core → Progress → List (ℕ × CommandValue) → Type 0
AreJudged U start p [] = Unit {0}
AreJudged U start p (c ∷ cs) = MayCome U start p c.1 × AreJudged U start (after_command p c.1) cs

-- the commands of a script are judged so
abbrev pub ScriptsAreJudged : Type 0
ScriptsAreJudged =
    (U : Unfolding) (start : Core) (text : List ℕ) (cs : List (ℕ × CommandValue))
    → IsScript U start text cs → AllCommandsFit U cs → AreJudged U start (at_start start.net) cs
