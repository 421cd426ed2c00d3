use Rattle.std.proofs.Common.{◌≡◌, map, drop}
use Rattle.fc_syntax.specs.Terms.{declaration_of}
use Rattle.unfold.specs.Unfolding.{main_expression}
use Rattle.unfold.specs.Found.{HasMain}
use Rattle.unfold.proofs.counting.main_of.Given as goal

abbrev pub invariant-loop-decl : goal.invariant-loop-decl
invariant-loop-decl l = record {
  same : main_expression (map declaration_of (drop l.decl-index l.program.decls.items)) ≡ main_expression (map declaration_of l.program.decls.items);
  there : HasMain (map declaration_of (drop l.decl-index l.program.decls.items));
}
