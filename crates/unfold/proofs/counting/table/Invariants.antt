use Rattle.std.proofs.Common.{◌≡◌, map, drop}
use Rattle.fc_syntax.specs.Terms.{declaration_of}
use Rattle.fc_types.specs.Before.{with_declarations, nothing_declared}
use Rattle.fc_types.specs.Typing.{AreTyped}
use Rattle.fc_types.specs.Views.{known_of}
use Rattle.unfold.proofs.counting.table.Given as goal

abbrev pub invariant-loop-decl : goal.invariant-loop-decl
invariant-loop-decl l = record {
  typed : AreTyped (known_of l.known) (map declaration_of (drop l.decl-index l.program.decls.items));
  known : with_declarations (known_of l.known) (map declaration_of (drop l.decl-index l.program.decls.items)) ≡ with_declarations nothing_declared (map declaration_of l.program.decls.items);
}
