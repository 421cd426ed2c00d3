use Rattle.std.proofs.Common.{◌≡◌, ◌∙◌, ap, subst, length}
use Rattle.std.proofs.lemmas.List.{with_items_is}
use Rattle.fc_nodes.specs.Program.{unfolding_of}
use Rattle.bound_rounds.specs.declared.rounds.RoundKind.TheVariants as kind
use Rattle.value_bounds.specs.References.{local_bounds_in}
use Rattle.last_bounds.specs.References.{HasEnded, AreMade, values_in}
use Rattle.last_bounds.proofs.Ending.{made_lasts}
use Rattle.last_bounds.proofs.lasts.last_bounds.Goals as goal

pub rounds_to_end-requires-clause-ready : goal.rounds_to_end-requires-clause-ready
rounds_to_end-requires-clause-ready c = c.in_ok-table.ensures.ready kind.Firing

pub returns : goal.returns
returns c t s =
    let U = unfolding_of c.args.program.now in
    let E = c.args.envelope.now in
    let n = c.in_ok-rounds.rounds in
    let bs = c.rounds_to_end.new.table.bounds.items in
    let vs = c.rounds_to_end.new.changes in
    let ended : HasEnded U E t c.args.cap n bs vs = c.in_ok-rounds.ensures.ended t (c.in_ok-table.ensures.bounds t s) in
    let wide : length vs ≡ length E.devices =
    c.rounds_to_end.auto.changes ∙ ap length c.deref_mut.ensures.value ∙ c.in_ok-changes.ensures.many in
    let noted = c.deref-4.ensures.value ∙ with_items_is c.in_ok-changes.changes vs
    (c.rounds_to_end.auto.changes ∙ c.deref_mut.ensures.len) in
    let before = ap local_bounds_in c.deref-2.ensures.value ∙ c.in_ok-before.ensures
    ∙ ap values_in c.deref.ensures.value in
    let made = subst (λ ws. AreMade E ws bs vs n (length E.devices) c.in_ok-lasts.lasts.items) before
    (subst (λ us. AreMade E (local_bounds_in c.deref-2.result.now) bs us n (length E.devices) c.in_ok-lasts.lasts.items)
    noted (subst (λ xs. AreMade E (local_bounds_in c.deref-2.result.now) xs c.deref-4.result.now n (length E.devices)
    c.in_ok-lasts.lasts.items) c.deref-3.ensures.value c.in_ok-lasts.ensures.made)) in
    made_lasts U E t c.args.cap n c.args.start.items bs vs c.requires.some c.requires.fits.many s ended
    c.in_ok-lasts.lasts.items c.in_ok-lasts.ensures.many wide made
