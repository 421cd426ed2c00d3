-- What the code of `gen` has on the way.
use Rattle.std.specs.Prelude.{ℕ, ◌≡◌, ◌≤◌, List, [], ◌∷◌}
use Rattle.fc_nodes.specs.Program.{Program, unfolding_of}
use Rattle.topology.specs.Networks.{Network}
use Rattle.firing_core.specs.declared.entries.Part.{Part}
use Rattle.firing_core.specs.CoreViews.{core_of}
use Rattle.firing_core.specs.Entries.{entries_of}
use Rattle.session.specs.ScriptRuns.{ScriptRun}
use Rattle.session.specs.declared.sessions.Session.{Session}
use Rattle.fc_gen.specs.Gens.{empty_on, scenario_lines}

-- a part lies within a log of so many entries
pub record IsWithin (entries : ℕ) (p : Part) : Type 0 where
  pub order : p.from ≤ p.to
  pub end : p.to ≤ entries

-- the first part does, if there is one
abbrev pub FirstWithin : ℕ → List Part → Type 0
FirstWithin n [] = Unit {0}
FirstWithin n (p ∷ ps) = IsWithin n p

-- the session of a scenario's lines, from a network without exports on
pub record IsRun (P : Program) (net : Network) (number rounds : ℕ) (s : Session) : Type 0 where
  pub program : s.book.program ≡ P
  pub start : core_of s.book.start ≡ empty_on net
  pub run : ScriptRun (unfolding_of P) (empty_on net) (scenario_lines number rounds) (entries_of s.book.log)
      s.parts.items s.text.items (core_of s.book.core)
