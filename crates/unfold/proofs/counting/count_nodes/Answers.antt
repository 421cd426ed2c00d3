use Rattle.std.proofs.Common.{◌∙◌, ap, length, min, sym}
use Rattle.fc_syntax.specs.Terms.{program_of, term_of}
use Rattle.fc_syntax.specs.declared.tree.Program.{Program}
use Rattle.fc_types.specs.Before.{with_declarations, nothing_declared}
use Rattle.fc_types.specs.Views.{known_of}
use Rattle.unfold.specs.Nodes.{Nodes}
use Rattle.unfold.proofs.Firsts.{counted_main}
use Rattle.unfold.proofs.counting.count_nodes.Goals as goal

pub returns : goal.returns
returns c =
    let v = c.program-program.ensures.value in
    let long = ap length c.deref.ensures.value ∙ c.in_ok-counts.ensures.long in
    let known = c.requires ∙ ap (λ (p : Program). with_declarations nothing_declared (program_of p)) (sym v) in
    c.count.ensures
    ∙ ap (min 1000000)
    (counted_main (program_of c.program-program.result.now) (known_of c.args.known.now) (length c.deref.result.now)
    (term_of c.main_of.result.now) known long c.main_of.ensures)
    ∙ ap (λ (p : Program). min 1000000 (length (Nodes (program_of p)))) v
