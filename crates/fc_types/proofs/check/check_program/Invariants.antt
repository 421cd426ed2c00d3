use Rattle.std.proofs.Common.{◌≡◌, map, take}
use Rattle.fc_syntax.specs.Terms.{declaration_of}
use Rattle.fc_types.specs.Before.{with_declarations, nothing_declared}
use Rattle.fc_types.specs.Typing.{AreTyped}
use Rattle.fc_types.specs.Views.{known_of}
use Rattle.fc_types.proofs.check.check_program.Given as goal

abbrev pub invariant-loop-index : goal.invariant-loop-index
invariant-loop-index l = record {
  known : known_of l.known ≡ with_declarations nothing_declared (map declaration_of (take l.index l.program.decls.items));
  typed : AreTyped nothing_declared (map declaration_of (take l.index l.program.decls.items));
}
