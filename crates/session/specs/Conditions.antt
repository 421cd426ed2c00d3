-- What a command asks of the core to which it is given: that the command was judged against that core.
use Rattle.std.specs.Prelude.{ℕ, ◌≡◌, ◌≤◌, ◌+◌, ◌*◌, length, None}
use Rattle.fc_nodes.specs.Program.{Unfolding}
use Rattle.firing_core.specs.Entries.{EditValue}
use Rattle.firing_core.specs.Cores.{Core, EditFits, edit_fault}
use Rattle.firing_core.specs.Stretches.{IsMixed}
use Rattle.edit_commands.specs.declared.scripts.TheConstants.{MOST_FIRINGS}
use Rattle.edit_commands.specs.Scripts.{CommandValue, RunCommand, EditCommand, ScrambleCommand, ShowCommand, MixCommand}

-- so many rounds of a core's devices stay within the limit of firings
abbrev pub FewFirings : Core → ℕ → Type 0
FewFirings c rounds = rounds * length c.net.devices ≤ MOST_FIRINGS

pub record AllowsRounds (c : Core) (rounds : ℕ) : Type 0 where
  pub some : 1 ≤ rounds
  pub few : FewFirings c rounds

pub record AllowsEdit (U : Unfolding) (c : Core) (e : EditValue) : Type 0 where
  pub fits : EditFits U e
  pub allowed : edit_fault c e ≡ None

-- an edit among firings, whose device fires once more than there are rounds
pub record AllowsMix (U : Unfolding) (c : Core) (rounds : ℕ) (e : EditValue) : Type 0 where
  pub some : 1 ≤ rounds
  pub few : FewFirings c (rounds + 1)
  pub mixed : IsMixed e
  pub edit : AllowsEdit U c e

abbrev pub Allows : Unfolding → Core → CommandValue → Type 0
Allows U c (RunCommand r) = AllowsRounds c r
Allows U c (EditCommand e) = AllowsEdit U c e
Allows U c (ScrambleCommand n) = Unit {0}
Allows U c ShowCommand = Unit {0}
Allows U c (MixCommand r e) = AllowsMix U c r e
