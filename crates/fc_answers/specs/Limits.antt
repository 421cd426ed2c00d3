-- The limits of `fc`, as numerals. The definitions take them from constants of the code, so that whoever changes one
-- changes code and definitions together; here each is tied to its number.
use Rattle.std.specs.Prelude.{◌≡◌}
use Rattle.fc_values.specs.declared.limits.TheConstants.{MOST_BYTES, GREATEST, MOST_NODES, MOST_LINKS}
use Rattle.fc_values.specs.declared.limits.TheConstants.{MOST_SCENARIO_DEVICES, MOST_WORKERS}
use Rattle.topology.specs.declared.types.TheConstants.{MOST_DEVICES, GREATEST_NUMBER}
use Rattle.changes.specs.declared.types.TheConstants.{MOST_PAIRS}
use Rattle.fc_parser.specs.declared.limits.TheConstants.{MOST_TOKENS, MOST_BRACKETS}
use Rattle.unfold.specs.declared.count.TheConstants.{MOST_COUNTED}
use Rattle.edit_commands.specs.declared.values.TheConstants.{MOST_LEAVES}
use Rattle.edit_commands.specs.declared.scripts.TheConstants.{MOST_LINES, MOST_SCRAMBLES, MOST_FIRINGS}
use Rattle.message_links.specs.declared.entries.TheConstants.{MOST_IN_TRANSIT}
use Rattle.fc_mail.specs.declared.driven.TheConstants.{MOST_MESSAGES}
use Rattle.settle_rounds.specs.declared.limits.TheConstants.{MOST_BOUND_FIRINGS}

-- what each limit is
pub record LimitsAre : Type 0 where
  -- the bytes of an input
  pub bytes : MOST_BYTES ≡ 1048576
  -- the tokens of a declaration, and the brackets that are open at one of its places
  pub tokens : MOST_TOKENS ≡ 4096
  pub brackets : MOST_BRACKETS ≡ 200
  -- a number of a program or a scene
  pub number : GREATEST ≡ 1000000
  -- the nodes of a program once its calls are unfolded, and up to where the count of a greater one is exact
  pub nodes : MOST_NODES ≡ 2048
  pub counted : MOST_COUNTED ≡ 1000000
  -- the leaves of a value
  pub leaves : MOST_LEAVES ≡ 8
  -- the devices of a network, the number of a device, and the links of a device
  pub devices : MOST_DEVICES ≡ 1024
  pub device_number : GREATEST_NUMBER ≡ 65535
  pub links : MOST_LINKS ≡ 32
  -- the pairs of a device while the network changes
  pub pairs : MOST_PAIRS ≡ 128
  -- the lines of a script, its scrambles, and its firings
  pub lines : MOST_LINES ≡ 4096
  pub scrambles : MOST_SCRAMBLES ≡ 4
  pub firings : MOST_FIRINGS ≡ 1000000
  -- the threads of a run, and the devices of a scenario
  pub workers : MOST_WORKERS ≡ 16
  pub scenario_devices : MOST_SCENARIO_DEVICES ≡ 512
  -- the messages in transit on a link in one direction, and those of `mail --number`
  pub in_transit : MOST_IN_TRANSIT ≡ 4
  pub messages : MOST_MESSAGES ≡ 1000000
  -- the firings of bounds with which settle rounds are looked for
  pub bound_firings : MOST_BOUND_FIRINGS ≡ 1000000
