use Rattle.std.proofs.Common.{◌≤◌, ◌∙◌, ℕ, sym, ap, subst}
use Rattle.std.specs.List.{All}
use Rattle.fc_values.specs.Types.{Declarations}
use Rattle.walks.specs.Gathering.{AddFits, added_of, gathered}
use Rattle.walk_form.proofs.Asking.{starts_asked, adds_asked, costs_made}
use Rattle.walk_form.proofs.Neighbouring.{neighbours}
use Rattle.walk_form.proofs.gathering.form_costs.Goals as goal

pub gather-requires-clause-devices : goal.gather-requires-clause-devices
gather-requires-clause-devices c =
    (starts_asked c.yes_analyses.ensures c.solutions_are_one.ensures c.args.program.now c.args.net.now c.requires.yes.0 c.declared.ensures.program c.declared-network.ensures.network
    c.requires.declared c.requires.yes.1 c.args.form c.requires.form c.in_ok-start.start.items c.in_ok-start.ensures).0

pub gather-requires-clause-starts : goal.gather-requires-clause-starts
gather-requires-clause-starts c =
    let e = ap (λ (D : Declarations). D.ceiling) c.declared.ensures.value in
    subst (λ m. All (λ (d : ℕ × ℕ). d.1 ≤ m) c.in_ok-start.start.items) (sym e)
    (starts_asked c.yes_analyses.ensures c.solutions_are_one.ensures c.args.program.now c.args.net.now c.requires.yes.0 c.declared.ensures.program c.declared-network.ensures.network
    c.requires.declared c.requires.yes.1 c.args.form c.requires.form c.in_ok-start.start.items c.in_ok-start.ensures).1

pub gather-requires-clause-add : goal.gather-requires-clause-add
gather-requires-clause-add c =
    let e = ap (λ (D : Declarations). D.ceiling) c.declared.ensures.value in
    let law = c.neighbours_are_mutual.ensures in
    subst (λ m. AddFits m c.args.net.now (added_of c.in_ok-add.add)) (sym e)
    (adds_asked c.yes_analyses.ensures c.solutions_are_one.ensures c.args.program.now c.args.net.now c.requires.yes.0 c.declared.ensures.program c.declared-network.ensures.network
    c.requires.declared c.requires.yes.1 c.args.form c.requires.form
    (neighbours c.args.net.now c.declared-network.ensures.network law.rising law.there law.other law.above law.below law.mutual) (added_of c.in_ok-add.add) c.in_ok-add.ensures)

pub returns-clause-costs : goal.returns-clause-costs
returns-clause-costs c =
    let e = ap (λ (D : Declarations). D.ceiling) c.declared.ensures.value in
    costs_made c.yes_analyses.ensures c.solutions_are_one.ensures c.args.program.now c.args.net.now c.requires.yes.0 c.declared.ensures.program c.declared-network.ensures.network
    c.requires.declared c.requires.yes.1 c.args.form c.requires.form c.in_ok-start.start.items (added_of c.in_ok-add.add) _ c.in_ok-start.ensures c.in_ok-add.ensures
    (c.in_ok-gather.ensures.gathered ∙ ap (λ m. gathered m c.args.net.now c.in_ok-start.start.items (added_of c.in_ok-add.add)) e)
