use Rattle.fc_nodes.specs.Program.{unfolding_of}
use Rattle.stable_field.specs.Tables.{AreExportSlots}
use Rattle.stable_field.specs.Levels.{IsAtLevel}
use Rattle.stable_field.proofs.rounds.settled.Given as goal

abbrev pub invariant-loop-done : goal.invariant-loop-done
invariant-loop-done l = record {
  table : AreExportSlots (unfolding_of l.program) l.net l.table.items;
  level : IsAtLevel (unfolding_of l.program) l.net l.done l.table.items;
}
