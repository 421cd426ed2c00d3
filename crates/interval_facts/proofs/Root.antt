-- A solution of a program lies in the program's ranges.
use Rattle.std.proofs.Common.{◌≤◌, [], sym, subst}
use Rattle.fc_nodes.specs.Program.{unfolding_of}
use Rattle.fc_nodes.specs.Typing.{HasType}
use Rattle.topology.specs.Networks.{lives}
use Rattle.interval_facts.specs.Ranges.{ranges_of, range_of}
use Rattle.interval_facts.specs.Solutions.{no_binders, local_map}
use Rattle.interval_facts.specs.Laws.{SolutionsLieInRanges}
use Rattle.interval_facts.specs.Ranges.{node_ranges}
use Rattle.interval_facts.proofs.Tables.{Shows, shows_itself}
use Rattle.interval_facts.proofs.Claims.{in_ranges}

pub solution_lies : SolutionsLieInRanges
solution_lies p program N F net same s =
    let U = unfolding_of p in
    let metric = program.lawful.metric.0 in
    in_ranges N net (subst (λ D. D.least ≤ D.greatest) (sym same) metric) (range_of U) U.main 0 [] [] (lives N) no_binders (local_map F) (λ d i. i)
    (subst (λ D. HasType D [] 0 U.main) (sym same) program.typed) tt (λ n r e. absurd cc) s
    (subst (λ D. Shows (range_of U) 0 (node_ranges D [] 0 U.main)) (sym same) (shows_itself (ranges_of U)))
