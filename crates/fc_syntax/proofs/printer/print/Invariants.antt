use Rattle.std.proofs.Common.{◌≡◌, map, take}
use Rattle.fc_syntax.specs.Terms.{declaration_of}
use Rattle.fc_syntax.specs.Text.{program_text}
use Rattle.fc_syntax.proofs.printer.print.Given as goal

abbrev pub invariant-loop-decl : goal.invariant-loop-decl
invariant-loop-decl l = l.out.items ≡ program_text (map declaration_of (take l.decl-index l.program.decls.items))
