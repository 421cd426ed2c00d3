use Rattle.std.proofs.Common.{◌∙◌, sym, ap, subst, map, length}
use Rattle.fc_values.specs.Fields.{entry_of}
use Rattle.fc_nodes.specs.Terms.{term_at}
use Rattle.fc_nodes.specs.Program.{unfolding_of}
use Rattle.stable_field.specs.Stable.{IsFaultOf}
use Rattle.walk_form.specs.Fields.{IsFieldAt, integers_in}
use Rattle.walk_form.proofs.Soloing.{recognised, field_found}
use Rattle.walk_form.proofs.integers.integers_at.Goals as goal

pub unreachable-requires : goal.unreachable-requires
unreachable-requires c =
    let r = subst (IsFaultOf (unfolding_of c.in_ok-alone.alone) (length c.args.net.now.devices)) c.in-Err-Unrecognised.field-0-is c.in-Err-Unrecognised.ensures.refused in
    recognised c.yes_analyses.ensures c.args.program.now c.in_ok-alone.alone c.args.net.now c.requires.yes.0 c.args.term c.declared-program.ensures.program c.declared-network.ensures.network
    c.requires.declared c.requires.yes.1 c.requires.part c.in_ok-alone.ensures.declared c.in_ok-alone.ensures.main _ _ r

pub returns-in-Ok : goal.returns-in-Ok
returns-in-Ok c =
    subst (IsFieldAt c.args.net.now c.args.term.from (term_at c.args.program.now.nodes c.args.term.from))
    (sym (c.in_ok-integers-in-Ok.ensures ∙ ap (λ v. integers_in (map entry_of v)) c.deref.ensures.value))
    (field_found c.yes_analyses.ensures c.args.program.now c.in_ok-alone.alone c.args.net.now c.requires.yes.0 c.args.term c.declared-program.ensures.program c.declared-network.ensures.network
    c.requires.declared c.requires.yes.1 c.requires.part c.in_ok-alone.ensures.declared c.in_ok-alone.ensures.main c.yes_stabilises.ensures c.solutions_are_one.ensures
    (map entry_of c.in-Ok.field.items) c.in-Ok.ensures.field)
