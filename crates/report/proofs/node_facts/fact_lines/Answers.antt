use Rattle.std.proofs.Common.{◌≡◌, ◌+◌, ◌++◌, ◌<◌, suc, None, get_or, ap, ap₂, subst, arith, ◌∙◌}
use Rattle.fc_nodes.specs.Subterms.{subterm_at}
use Rattle.fc_nodes.specs.Program.{unfolding_of}
use Rattle.interval_facts.proofs.Lengths.{place_there}
use Rattle.report.specs.Facts.{fact_line, facts_before}
use Rattle.report.proofs.node_facts.fact_lines.Goals as goal

pub at-requires : goal.at-requires
at-requires c =
    place_there c.args.program.now c.size-place-end.ensures.program c.args.ranges.now c.requires.ranges c.loop-place.place
    (subst (λ n. c.loop-place.place < n) c.size-place-end.ensures.value c.loop-place-test.true)

pub loop-place-preserved : goal.loop-place-preserved
loop-place-preserved c =
    let U = unfolding_of c.args.program.now in
    let place = c.loop-place.place in
    let next : suc place ≡ place + 1 = omega arith in
    c.in_ok-write_fact.ensures
    ∙ ap₂ (λ lines range. lines ++ fact_line place (subterm_at place U.main) range (get_or c.args.levels.now place None))
    c.loop-place.invariant c.at.ensures
    ∙ ap (facts_before U c.args.ranges.now c.args.levels.now) next
