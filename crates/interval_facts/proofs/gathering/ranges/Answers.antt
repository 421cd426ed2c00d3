use Rattle.std.proofs.Common.{sym, ◌∙◌, subst}
use Rattle.interval_facts.specs.Picks.{ranges_in}
use Rattle.interval_facts.specs.Gathering.{Extends, end_of}
use Rattle.interval_facts.specs.Laws.{SolutionsLieIn}
use Rattle.interval_facts.proofs.Gathered.{all_gathered}
use Rattle.interval_facts.proofs.Root.{solution_lies}
use Rattle.interval_facts.proofs.gathering.ranges.Goals as goal

pub returns-clause-ranges : goal.returns-clause-ranges
returns-clause-ranges c =
    c.new.ensures ∙ all_gathered c.args.program.now c.size.ensures.program (ranges_in c.gather.new.list.items)
    (subst (λ xs. Extends c.args.program.now (ranges_in xs) (ranges_in c.gather.new.list.items) (end_of c.args.program.now 0)) c.in_ok-list.ensures.items c.in_ok-gather.ensures)

pub returns-clause-solutions : goal.returns-clause-solutions
returns-clause-solutions c =
    subst (SolutionsLieIn c.args.program.now) (sym (returns-clause-ranges c)) (solution_lies c.args.program.now c.size.ensures.program)
