use Rattle.std.proofs.Common.{◌≡◌, ◌∙◌, ◌+◌, length, arith, sym, refl, false, true}
use Rattle.fc_values.proofs.SlotReads.{slots_long}
use Rattle.device_eval.proofs.Steps.{ready_at}
use Rattle.device_eval.proofs.LeafAt.{sense_there}
use Rattle.device_eval.proofs.LetAt.{let_kids, let_value, let_may_value}
use Rattle.device_eval.proofs.NbrAt.{one, nbr_kid, nbr_may, nbr_near}
use Rattle.device_eval.proofs.EvolveAt.{evolve_kids, evolve_own, evolve_near, evolve_a, evolve_may_first}
use Rattle.device_eval.proofs.IfAt.{if_kids, if_own, if_near, if_condition, if_may_condition}
use Rattle.device_eval.proofs.MaySteps.{node_type}
use Rattle.scope_columns.proofs.ScopeSteps.{bound_type}
use Rattle.device_eval.proofs.ReadySteps.{ready_as}
use Rattle.device_eval.proofs.LeafSteps.{literal_evaluated, sense_evaluated, uid_evaluated, links_evaluated}
use Rattle.device_eval.proofs.LeafSteps.{variable_evaluated, variable_has, variables_aligned}
use Rattle.device_eval.proofs.KindSteps.{node_here, kid_behind, begin_body, body_done, heads_at}
use Rattle.device_eval.proofs.NodeSteps.{nbr_within, nbr_room, nbr_forms, nbr_evaluated, first_within, let_ready}
use Rattle.device_eval.proofs.NodeSteps.{let_allowed, let_evaluated, branch_begins, branch_allowed, branch_vars}
use Rattle.device_eval.proofs.NodeSteps.{branch_below, if_room, if_evaluated, truth_within, truth_read, rep_added}
use Rattle.device_eval.proofs.NodeSteps.{share_added}
use Rattle.device_eval.proofs.NodeSteps.{share_forms, start_ready, start_allowed, start_over, body_within}
use Rattle.device_eval.proofs.NodeSteps.{evolve_room, evolve_evaluated}
use Rattle.device_eval.proofs.ApplySteps.{apply_begins, apply_rule, apply_within, apply_own, apply_long}
use Rattle.device_eval.proofs.ApplySteps.{apply_evaluated}
use Rattle.device_eval.proofs.ColumnSteps.{kids_none, first_begins, kid_ends, rest_begins, kids_more}
use Rattle.device_eval.proofs.evaluation.+eval.Goals as goal

pub eval-push_variable-requires-clause-bound : goal.eval-push_variable-requires-clause-bound
eval-push_variable-requires-clause-bound t c =
    variable_has c.requires (rw c.in-Var.is at c.node-node.ensures.node)

pub eval-push_variable-requires-clause-aligned : goal.eval-push_variable-requires-clause-aligned
eval-push_variable-requires-clause-aligned t c = variables_aligned c.requires

pub eval-input_at-requires : goal.eval-input_at-requires
eval-input_at-requires t c =
    sense_there (ready_at c.requires.ready (rw c.in-Sense.is at c.node-node.ensures.node))

pub eval-returns-in_ok-push_value-in-Lit : goal.eval-returns-in_ok-push_value-in-Lit
eval-returns-in_ok-push_value-in-Lit t c =
    literal_evaluated c.requires (rw c.in-Lit.is at c.node-node.ensures.node) c.in_ok-push_value-in-Lit.ensures.added

pub eval-returns-in_ok-push_variable-in-Var : goal.eval-returns-in_ok-push_variable-in-Var
eval-returns-in_ok-push_variable-in-Var t c =
    variable_evaluated c.requires (rw c.in-Var.is at c.node-node.ensures.node) c.in_ok-push_variable-in-Var.ensures

pub eval-returns-in_ok-push_value-in-Sense : goal.eval-returns-in_ok-push_value-in-Sense
eval-returns-in_ok-push_value-in-Sense t c =
    sense_evaluated c.requires (rw c.in-Sense.is at c.node-node.ensures.node) c.input_at.ensures
    c.in_ok-push_value-in-Sense.ensures.added

pub eval-returns-in_ok-push-in-Uid : goal.eval-returns-in_ok-push-in-Uid
eval-returns-in_ok-push-in-Uid t c =
    uid_evaluated c.requires (rw c.in-Uid.is at c.node-node.ensures.node) c.uid.ensures
    c.in_ok-push-in-Uid.ensures.items

pub eval-returns-in_ok-push_links-in-NbrLink : goal.eval-returns-in_ok-push_links-in-NbrLink
eval-returns-in_ok-push_links-in-NbrLink t c =
    links_evaluated c.requires (rw c.in-NbrLink.is at c.node-node.ensures.node)
    c.in_ok-push_links-in-NbrLink.ensures.added
    (rw c.least_weight-least.ensures at c.in_ok-push_links-in-NbrLink.ensures.value)

pub eval-eval_nbr-requires : goal.eval-eval_nbr-requires
eval-eval_nbr-requires t c =
    let d = c.decreases in
    (omega (arith, d), record { here = c.requires; node = rw c.in-Nbr.is at c.node-node.ensures.node })

pub eval-eval_rep-requires : goal.eval-eval_rep-requires
eval-eval_rep-requires t c =
    let d = c.decreases in
    (omega (arith, d), record { here = c.requires; node = rw c.in-Rep.is at c.node-node.ensures.node })

pub eval-eval_share-requires : goal.eval-eval_share-requires
eval-eval_share-requires t c =
    let d = c.decreases in
    (omega (arith, d), record { here = c.requires; node = rw c.in-Share.is at c.node-node.ensures.node })

pub eval-eval_if-requires : goal.eval-eval_if-requires
eval-eval_if-requires t c =
    let d = c.decreases in
    (omega (arith, d), record { here = c.requires; node = rw c.in-If.is at c.node-node.ensures.node })

pub eval-eval_let-requires : goal.eval-eval_let-requires
eval-eval_let-requires t c =
    let d = c.decreases in
    (omega (arith, d), record { here = c.requires; node = rw c.in-Let.is at c.node-node.ensures.node })

pub eval_let-index-start-requires : goal.eval_let-index-start-requires
eval_let-index-start-requires t c =
    let o = let_kids (node_here c.requires) in
    let l = o.long in
    omega (arith, l)

pub eval_let-eval-requires : goal.eval_let-eval-requires
eval_let-eval-requires t c =
    let d = c.decreases in
    let r = let_value (node_here c.requires) c.index-start.ensures in
    let m = r.0 in
    let w = c.requires.here.ready.stands.within in (
      omega (arith, d, m, w),
      record {
        ready = r.2;
        may = let_may_value (node_here c.requires) c.requires.here.may c.index-start.ensures;
        sees = c.requires.here.sees;
      },
    )

pub eval_let-node-bound-requires : goal.eval_let-node-bound-requires
eval_let-node-bound-requires t c =
    let r = let_value (node_here c.requires) c.index-start.ensures in
    r.1

pub eval_let-index-next-requires : goal.eval_let-index-next-requires
eval_let-index-next-requires t c =
    let o = let_kids (node_here c.requires) in
    let l = o.long in
    omega (arith, l)

pub eval_let-eval_body-requires : goal.eval_let-eval_body-requires
eval_let-eval_body-requires t c =
    let place = c.len-at.ensures ∙ c.args.words.now.ok.0 in
    let d = c.decreases in
    let r = let_ready c.requires c.index-start.ensures c.index-next.ensures c.in_ok-eval.ensures in
    let m = r.0 in
    let w = c.requires.here.ready.stands.within in
    let type = node_type _ c.requires.here.ready.stands.formed c.node-bound.ensures.node in
    let l = c.in_ok-eval.ensures.added.long in (
      omega (arith, d, m, w),
      (
        begin_body _ _ r.2 (let_allowed c.requires c.index-start.ensures c.index-next.ensures c.in_ok-eval.ensures)
            c.requires.here.sees c.in_ok-eval.ensures.added
            (bound_type c.is_field.ensures c.inner.ensures ∙ sym type) place refl refl (λ b o. (b, o))
            c.requires.here.sees.own,
        omega (arith, l, place),
      ),
    )

pub eval_let-returns : goal.eval_let-returns
eval_let-returns t c =
    let place = c.len-at.ensures ∙ c.args.words.now.ok.0 in
    let type = bound_type c.is_field.ensures c.inner.ensures
    ∙ sym (node_type _ c.requires.here.ready.stands.formed c.node-bound.ensures.node) in
    let_evaluated c.requires c.index-start.ensures c.index-next.ensures c.in_ok-eval.ensures place
    c.in_ok-eval_body.ensures (heads_at _ _ type place) refl refl

pub eval_body-returns : goal.eval_body-returns
eval_body-returns t c =
    let w = c.requires.within in
    body_done _ c.in_ok-eval.ensures c.close_gap.ensures (omega (arith, w))

pub eval_nbr-index-requires : goal.eval_nbr-index-requires
eval_nbr-index-requires t c =
    let o = one (node_here c.requires) in
    let l = o.long in
    omega (arith, l)

pub eval_nbr-eval-requires : goal.eval_nbr-eval-requires
eval_nbr-eval-requires t c =
    let d = c.decreases in
    let r = nbr_kid (node_here c.requires) c.index.ensures in
    let m = r.0 in
    let w = c.requires.here.ready.stands.within in (
      omega (arith, d, m, w),
      record {
        ready = r.2;
        may = nbr_may (node_here c.requires) c.requires.here.may c.index.ensures;
        sees = c.requires.here.sees;
      },
    )

pub eval_nbr-value_at-requires-clause-within : goal.eval_nbr-value_at-requires-clause-within
eval_nbr-value_at-requires-clause-within t c =
    let place = c.len-at.ensures ∙ c.args.words.now.ok.0 in
    rw c.deref.ensures.value (nbr_within c.requires c.index.ensures c.in_ok-eval.ensures c.inner-ty.ensures place)

pub eval_nbr-push_heard-requires-clause-near : goal.eval_nbr-push_heard-requires-clause-near
eval_nbr-push_heard-requires-clause-near t c =
    nbr_near (node_here c.requires) c.slot_of-slot.ensures

pub eval_nbr-push_heard-requires-clause-forms : goal.eval_nbr-push_heard-requires-clause-forms
eval_nbr-push_heard-requires-clause-forms t c =
    let place = c.len-at.ensures ∙ c.args.words.now.ok.0 in
    nbr_forms c.requires c.index.ensures c.in_ok-eval.ensures c.inner-ty.ensures place
    (rw c.deref.ensures.value at c.in_ok-own.ensures) c.slot_of-slot.ensures

pub eval_nbr-put-requires : goal.eval_nbr-put-requires
eval_nbr-put-requires t c =
    let place = c.len-at.ensures ∙ c.args.words.now.ok.0 in
    slots_long c.eval.new.draft c.slot_of-slot.result
    (nbr_room c.requires c.index.ensures c.in_ok-eval.ensures c.inner-ty.ensures place
    (rw c.deref.ensures.value at c.in_ok-own.ensures) c.slot_of-slot.ensures)

pub eval_nbr-returns : goal.eval_nbr-returns
eval_nbr-returns t c =
    let place = c.len-at.ensures ∙ c.args.words.now.ok.0 in
    nbr_evaluated c.requires c.index.ensures c.in_ok-eval.ensures c.inner-ty.ensures place
    (rw c.deref.ensures.value at c.in_ok-own.ensures) c.slot_of-slot.ensures
    c.truncate.ensures.items c.in_ok-push_heard.ensures.added c.in_ok-push_heard.ensures.value c.put.ensures

pub eval_if-index-requires : goal.eval_if-index-requires
eval_if-index-requires t c =
    let o = if_kids (node_here c.requires) in
    let l = o.long in
    omega (arith, l)

pub eval_if-eval-requires : goal.eval_if-eval-requires
eval_if-eval-requires t c =
    let d = c.decreases in
    let r = if_condition (node_here c.requires) c.index.ensures in
    let m = r.0 in
    let w = c.requires.here.ready.stands.within in (
      omega (arith, d, m, w),
      record {
        ready = r.2;
        may = if_may_condition (node_here c.requires) c.requires.here.may c.index.ensures;
        sees = c.requires.here.sees;
      },
    )

pub eval_if-take_branch-requires-clause-own : goal.eval_if-take_branch-requires-clause-own
eval_if-take_branch-requires-clause-own t c =
    if_own (node_here c.requires) c.slot_of-slot.ensures

pub eval_if-take_branch-requires-clause-near : goal.eval_if-take_branch-requires-clause-near
eval_if-take_branch-requires-clause-near t c =
    if_near (node_here c.requires) c.slot_of-slot.ensures

pub eval_if-branch_of-kid-requires : goal.eval_if-branch_of-kid-requires
eval_if-branch_of-kid-requires t c =
    let o = if_kids (node_here c.requires) in
    rw c.deref.ensures.value o.long

pub eval_if-index-requires-2 : goal.eval_if-index-requires-2
eval_if-index-requires-2 t c =
    let place = c.len-at.ensures ∙ c.args.words.now.ok.0 in
    let within = truth_within c.requires c.index.ensures c.in_ok-eval.ensures place in
    let long = c.eval.new.words.ok.0 in
    omega (arith, within, long)

pub eval_if-eval-requires-2 : goal.eval_if-eval-requires-2
eval_if-eval-requires-2 t c =
    let place = c.len-at.ensures ∙ c.args.words.now.ok.0 in
    let d = c.decreases in
    let truth = truth_read c.requires c.index.ensures c.in_ok-eval.ensures place c.index-2.ensures in
    let kid = kid_behind _ c.branch_of-kid.ensures c.deref.ensures.value in
    let r = branch_begins c.requires c.index.ensures c.in_ok-eval.ensures place truth c.slot_of-slot.ensures
    c.truncate.ensures.items c.in_ok-take_branch.ensures kid in
    let m = r.0 in
    let w = c.requires.here.ready.stands.within in (
      omega (arith, d, m, w),
      ready_as r.2 (branch_allowed c.requires c.index.ensures c.in_ok-eval.ensures place truth c.slot_of-slot.ensures
          c.truncate.ensures.items c.in_ok-take_branch.ensures kid)
          (branch_vars c.requires c.index.ensures c.in_ok-eval.ensures place truth c.slot_of-slot.ensures
          c.truncate.ensures.items c.in_ok-take_branch.ensures kid) refl
          (branch_below c.requires c.index.ensures c.in_ok-eval.ensures place truth c.slot_of-slot.ensures
          c.truncate.ensures.items c.in_ok-take_branch.ensures kid) c.own_row.ensures,
    )

pub eval_if-put-requires : goal.eval_if-put-requires
eval_if-put-requires t c =
    let place = c.len-at.ensures ∙ c.args.words.now.ok.0 in
    let truth = truth_read c.requires c.index.ensures c.in_ok-eval.ensures place c.index-2.ensures in
    let kid = kid_behind _ c.branch_of-kid.ensures c.deref.ensures.value in
    slots_long c.eval-2.new.draft c.slot_of-slot.result
    (if_room c.requires c.index.ensures c.in_ok-eval.ensures place truth c.slot_of-slot.ensures c.truncate.ensures.items
    c.in_ok-take_branch.ensures kid c.in_ok-eval-2.ensures refl refl)

pub eval_if-returns : goal.eval_if-returns
eval_if-returns t c =
    let place = c.len-at.ensures ∙ c.args.words.now.ok.0 in
    let truth = truth_read c.requires c.index.ensures c.in_ok-eval.ensures place c.index-2.ensures in
    let kid = kid_behind _ c.branch_of-kid.ensures c.deref.ensures.value in
    if_evaluated c.requires c.index.ensures c.in_ok-eval.ensures place truth c.slot_of-slot.ensures
    c.truncate.ensures.items c.in_ok-take_branch.ensures kid c.in_ok-eval-2.ensures refl refl c.put.ensures

pub eval_rep-index-start-requires : goal.eval_rep-index-start-requires
eval_rep-index-start-requires t c =
    let o = evolve_kids (node_here c.requires) in
    let l = o.long in
    omega (arith, l)

pub eval_rep-index-next-requires : goal.eval_rep-index-next-requires
eval_rep-index-next-requires t c =
    let o = evolve_kids (node_here c.requires) in
    let l = o.long in
    omega (arith, l)

pub eval_rep-eval-requires : goal.eval_rep-eval-requires
eval_rep-eval-requires t c =
    let d = c.decreases in
    let r = evolve_a (node_here c.requires) c.index-start.ensures in
    let m = r.0 in
    let w = c.requires.here.ready.stands.within in (
      omega (arith, d, m, w),
      record {
        ready = r.2;
        may = evolve_may_first (node_here c.requires) c.requires.here.may c.index-start.ensures;
        sees = c.requires.here.sees;
      },
    )

pub eval_rep-value_at-requires-clause-within : goal.eval_rep-value_at-requires-clause-within
eval_rep-value_at-requires-clause-within t c =
    let place = c.len-at.ensures ∙ c.args.words.now.ok.0 in
    rw c.deref.ensures.value (first_within c.requires c.index-start.ensures c.index-next.ensures c.in_ok-eval.ensures
    c.inner-ty.ensures place)

pub eval_rep-own_or-requires : goal.eval_rep-own_or-requires
eval_rep-own_or-requires t c =
    evolve_own (node_here c.requires) c.slot_of-slot.ensures

pub eval_rep-eval_body-requires : goal.eval_rep-eval_body-requires
eval_rep-eval_body-requires t c =
    let place = c.len-at.ensures ∙ c.args.words.now.ok.0 in
    let d = c.decreases in
    let r = c.requires in
    let e = c.index-start.ensures in
    let e' = c.index-next.ensures in
    let done = c.in_ok-eval.ensures in
    let type = c.inner-ty.ensures in
    let first = rw c.deref.ensures.value at c.in_ok-first.ensures in
    let number = c.slot_of-slot.ensures in
    let cut = c.truncate.ensures.items in
    let a = rep_added r e e' done type place first number c.own_or.ensures c.in_ok-push_value.ensures.added in
    let s = start_ready r e e' done type place first number cut a.0 a.1 in
    let m = s.0 in
    let w = r.here.ready.stands.within in
    let o = start_over r e e' done type place first number cut a.0 a.1 in
    let l = o.long in (
      omega (arith, d, m, w),
      (
        begin_body false _ s.2 (start_allowed r e e' done type place first number cut a.0 a.1)
            r.here.sees (start_over r e e' done type place first number cut a.0 a.1) refl place refl refl
            (λ b o. (b, o))
            r.here.sees.own,
        omega (arith, l, place),
      ),
    )

pub eval_rep-value_at-requires-2-clause-within : goal.eval_rep-value_at-requires-2-clause-within
eval_rep-value_at-requires-2-clause-within t c =
    let place = c.len-at.ensures ∙ c.args.words.now.ok.0 in
    let r = c.requires in
    let e = c.index-start.ensures in
    let e' = c.index-next.ensures in
    let done = c.in_ok-eval.ensures in
    let type = c.inner-ty.ensures in
    let first = rw c.deref.ensures.value at c.in_ok-first.ensures in
    let number = c.slot_of-slot.ensures in
    let cut = c.truncate.ensures.items in
    let a = rep_added r e e' done type place first number c.own_or.ensures c.in_ok-push_value.ensures.added in
    rw c.deref-2.ensures.value (body_within r e e' done type place first number cut a.0 a.1 c.in_ok-eval_body.ensures
    refl refl refl)

pub eval_rep-put-requires : goal.eval_rep-put-requires
eval_rep-put-requires t c =
    let place = c.len-at.ensures ∙ c.args.words.now.ok.0 in
    let r = c.requires in
    let e = c.index-start.ensures in
    let e' = c.index-next.ensures in
    let done = c.in_ok-eval.ensures in
    let type = c.inner-ty.ensures in
    let first = rw c.deref.ensures.value at c.in_ok-first.ensures in
    let number = c.slot_of-slot.ensures in
    let cut = c.truncate.ensures.items in
    let a = rep_added r e e' done type place first number c.own_or.ensures c.in_ok-push_value.ensures.added in
    slots_long c.eval_body.new.draft c.slot_of-slot.result
    (evolve_room r e e' done type place first number cut a.0 a.1 c.in_ok-eval_body.ensures refl refl refl
    (rw c.deref-2.ensures.value at c.in_ok-kept.ensures))

pub eval_rep-returns : goal.eval_rep-returns
eval_rep-returns t c =
    let place = c.len-at.ensures ∙ c.args.words.now.ok.0 in
    let r = c.requires in
    let e = c.index-start.ensures in
    let e' = c.index-next.ensures in
    let done = c.in_ok-eval.ensures in
    let type = c.inner-ty.ensures in
    let first = rw c.deref.ensures.value at c.in_ok-first.ensures in
    let number = c.slot_of-slot.ensures in
    let cut = c.truncate.ensures.items in
    let a = rep_added r e e' done type place first number c.own_or.ensures c.in_ok-push_value.ensures.added in
    evolve_evaluated r e e' done type place first number cut a.0 a.1 c.in_ok-eval_body.ensures refl refl refl
    (rw c.deref-2.ensures.value at c.in_ok-kept.ensures) c.put.ensures

pub eval_share-index-start-requires : goal.eval_share-index-start-requires
eval_share-index-start-requires t c =
    let o = evolve_kids (node_here c.requires) in
    let l = o.long in
    omega (arith, l)

pub eval_share-index-next-requires : goal.eval_share-index-next-requires
eval_share-index-next-requires t c =
    let o = evolve_kids (node_here c.requires) in
    let l = o.long in
    omega (arith, l)

pub eval_share-eval-requires : goal.eval_share-eval-requires
eval_share-eval-requires t c =
    let d = c.decreases in
    let r = evolve_a (node_here c.requires) c.index-start.ensures in
    let m = r.0 in
    let w = c.requires.here.ready.stands.within in (
      omega (arith, d, m, w),
      record {
        ready = r.2;
        may = evolve_may_first (node_here c.requires) c.requires.here.may c.index-start.ensures;
        sees = c.requires.here.sees;
      },
    )

pub eval_share-value_at-requires-clause-within : goal.eval_share-value_at-requires-clause-within
eval_share-value_at-requires-clause-within t c =
    let place = c.len-at.ensures ∙ c.args.words.now.ok.0 in
    rw c.deref.ensures.value (first_within c.requires c.index-start.ensures c.index-next.ensures c.in_ok-eval.ensures
    c.inner-ty.ensures place)

pub eval_share-own_or-requires : goal.eval_share-own_or-requires
eval_share-own_or-requires t c =
    evolve_own (node_here c.requires) c.slot_of-slot.ensures

pub eval_share-push_heard-requires-clause-near : goal.eval_share-push_heard-requires-clause-near
eval_share-push_heard-requires-clause-near t c =
    evolve_near (node_here c.requires) c.slot_of-slot.ensures

pub eval_share-push_heard-requires-clause-forms : goal.eval_share-push_heard-requires-clause-forms
eval_share-push_heard-requires-clause-forms t c =
    let place = c.len-at.ensures ∙ c.args.words.now.ok.0 in
    share_forms c.requires c.index-start.ensures c.index-next.ensures c.in_ok-eval.ensures c.inner-ty.ensures place
    (rw c.deref.ensures.value at c.in_ok-first.ensures) c.slot_of-slot.ensures c.own_or.ensures

pub eval_share-eval_body-requires : goal.eval_share-eval_body-requires
eval_share-eval_body-requires t c =
    let place = c.len-at.ensures ∙ c.args.words.now.ok.0 in
    let d = c.decreases in
    let r = c.requires in
    let e = c.index-start.ensures in
    let e' = c.index-next.ensures in
    let done = c.in_ok-eval.ensures in
    let type = c.inner-ty.ensures in
    let first = rw c.deref.ensures.value at c.in_ok-first.ensures in
    let number = c.slot_of-slot.ensures in
    let cut = c.truncate.ensures.items in
    let a = share_added r e e' done type place first number c.own_or.ensures c.in_ok-push_heard.ensures.added
    c.in_ok-push_heard.ensures.value in
    let s = start_ready r e e' done type place first number cut a.0 a.1 in
    let m = s.0 in
    let w = r.here.ready.stands.within in
    let o = start_over r e e' done type place first number cut a.0 a.1 in
    let l = o.long in (
      omega (arith, d, m, w),
      (
        begin_body true _ s.2 (start_allowed r e e' done type place first number cut a.0 a.1)
            r.here.sees (start_over r e e' done type place first number cut a.0 a.1) refl place refl refl
            (λ b o. (b, o))
            r.here.sees.own,
        omega (arith, l, place),
      ),
    )

pub eval_share-value_at-requires-2-clause-within : goal.eval_share-value_at-requires-2-clause-within
eval_share-value_at-requires-2-clause-within t c =
    let place = c.len-at.ensures ∙ c.args.words.now.ok.0 in
    let r = c.requires in
    let e = c.index-start.ensures in
    let e' = c.index-next.ensures in
    let done = c.in_ok-eval.ensures in
    let type = c.inner-ty.ensures in
    let first = rw c.deref.ensures.value at c.in_ok-first.ensures in
    let number = c.slot_of-slot.ensures in
    let cut = c.truncate.ensures.items in
    let a = share_added r e e' done type place first number c.own_or.ensures c.in_ok-push_heard.ensures.added
    c.in_ok-push_heard.ensures.value in
    rw c.deref-2.ensures.value (body_within r e e' done type place first number cut a.0 a.1 c.in_ok-eval_body.ensures
    refl refl refl)

pub eval_share-put-requires : goal.eval_share-put-requires
eval_share-put-requires t c =
    let place = c.len-at.ensures ∙ c.args.words.now.ok.0 in
    let r = c.requires in
    let e = c.index-start.ensures in
    let e' = c.index-next.ensures in
    let done = c.in_ok-eval.ensures in
    let type = c.inner-ty.ensures in
    let first = rw c.deref.ensures.value at c.in_ok-first.ensures in
    let number = c.slot_of-slot.ensures in
    let cut = c.truncate.ensures.items in
    let a = share_added r e e' done type place first number c.own_or.ensures c.in_ok-push_heard.ensures.added
    c.in_ok-push_heard.ensures.value in
    slots_long c.eval_body.new.draft c.slot_of-slot.result
    (evolve_room r e e' done type place first number cut a.0 a.1 c.in_ok-eval_body.ensures refl refl refl
    (rw c.deref-2.ensures.value at c.in_ok-kept.ensures))

pub eval_share-returns : goal.eval_share-returns
eval_share-returns t c =
    let place = c.len-at.ensures ∙ c.args.words.now.ok.0 in
    let r = c.requires in
    let e = c.index-start.ensures in
    let e' = c.index-next.ensures in
    let done = c.in_ok-eval.ensures in
    let type = c.inner-ty.ensures in
    let first = rw c.deref.ensures.value at c.in_ok-first.ensures in
    let number = c.slot_of-slot.ensures in
    let cut = c.truncate.ensures.items in
    let a = share_added r e e' done type place first number c.own_or.ensures c.in_ok-push_heard.ensures.added
    c.in_ok-push_heard.ensures.value in
    evolve_evaluated r e e' done type place first number cut a.0 a.1 c.in_ok-eval_body.ensures refl refl refl
    (rw c.deref-2.ensures.value at c.in_ok-kept.ensures) c.put.ensures

pub eval_nbr-push_heard-requires-clause-width : goal.eval_nbr-push_heard-requires-clause-width
eval_nbr-push_heard-requires-clause-width t c =
    let place = c.len-at.ensures ∙ c.args.words.now.ok.0 in
    let w = nbr_within c.requires c.index.ensures c.in_ok-eval.ensures c.inner-ty.ensures place in
    let b = c.eval.new.words.ok.0 in
    omega (arith, w, b)

pub eval_share-push_heard-requires-clause-width : goal.eval_share-push_heard-requires-clause-width
eval_share-push_heard-requires-clause-width t c =
    let place = c.len-at.ensures ∙ c.args.words.now.ok.0 in
    let w = first_within c.requires c.index-start.ensures c.index-next.ensures c.in_ok-eval.ensures c.inner-ty.ensures
    place in
    let b = c.eval.new.words.ok.0 in
    omega (arith, w, b)

-- ---- builtins

pub eval-eval_apply-requires : goal.eval-eval_apply-requires
eval-eval_apply-requires t c =
    let d = c.decreases in
    (omega (arith, d), record { here = c.requires; node = rw c.in-Apply.is at c.node-node.ensures.node })

pub eval_apply-eval_kids-requires : goal.eval_apply-eval_kids-requires
eval_apply-eval_kids-requires t c =
    let d = c.decreases in
    let k = apply_begins c.requires c.deref.ensures.value in
    let l = k.0 in
    let w = c.requires.here.ready.stands.within in
    (omega (arith, d, l, w), k.1)

pub eval_apply-apply_builtin-requires-clause-rule : goal.eval_apply-apply_builtin-requires-clause-rule
eval_apply-apply_builtin-requires-clause-rule t c = apply_rule c.requires

pub eval_apply-apply_builtin-requires-clause-kids : goal.eval_apply-apply_builtin-requires-clause-kids
eval_apply-apply_builtin-requires-clause-kids t c = apply_within c.requires

pub eval_apply-apply_builtin-requires-clause-own : goal.eval_apply-apply_builtin-requires-clause-own
eval_apply-apply_builtin-requires-clause-own t c =
    let many : c.len-devices.result + 1 ≡ length c.args.sight.now.env.now.near.items + 1 =
    omega (arith, c.len-devices.ensures) in
    apply_own c.requires many

pub eval_apply-apply_builtin-requires-clause-length : goal.eval_apply-apply_builtin-requires-clause-length
eval_apply-apply_builtin-requires-clause-length t c =
    let at : c.len-at.result ≡ length c.args.words.now.items = omega (arith, c.len-at.ensures, c.args.words.now.ok.0) in
    let many : c.len-devices.result + 1 ≡ length c.args.sight.now.env.now.near.items + 1 =
    omega (arith, c.len-devices.ensures) in
    apply_long c.requires many c.rows_of-rows.ensures at c.deref.ensures.value c.in_ok-eval_kids.ensures

pub eval_apply-returns : goal.eval_apply-returns
eval_apply-returns t c =
    let at : c.len-at.result ≡ length c.args.words.now.items = omega (arith, c.len-at.ensures, c.args.words.now.ok.0) in
    let many : c.len-devices.result + 1 ≡ length c.args.sight.now.env.now.near.items + 1 =
    omega (arith, c.len-devices.ensures) in
    apply_evaluated c.requires many c.rows_of-rows.ensures at c.deref.ensures.value
    c.in_ok-eval_kids.ensures c.apply_builtin.ensures

pub eval_kids-returns-in_default : goal.eval_kids-returns-in_default
eval_kids-returns-in_default t c = kids_none c.args.kids.now c.in_default.ensures.cases

pub eval_kids-eval-requires : goal.eval_kids-eval-requires
eval_kids-eval-requires t c =
    let d = c.decreases in
    let k = first_begins c.in-Some.ensures.cases.0 c.requires in
    let w = k.0 in
    let e = k.1 in
    (omega (arith, d, w, e), k.2)

pub eval_kids-node-requires : goal.eval_kids-node-requires
eval_kids-node-requires t c = let k = first_begins c.in-Some.ensures.cases.0 c.requires in k.0

pub eval_kids-fill_rows-requires : goal.eval_kids-fill_rows-requires
eval_kids-fill_rows-requires t c =
    let type = node_type _ c.requires.ready.formed c.node.ensures.node in
    let at : c.len-at.result ≡ length c.args.words.now.items = omega (arith, c.len-at.ensures, c.args.words.now.ok.0) in
    kid_ends c.in-Some.ensures.cases.0 c.requires c.in_ok-eval.ensures type at

pub eval_kids-eval_kids-requires : goal.eval_kids-eval_kids-requires
eval_kids-eval_kids-requires t c =
    let d = c.decreases in
    let k = first_begins c.in-Some.ensures.cases.0 c.requires in
    let w = k.0 in
    let e = k.1 in
    let type = node_type _ c.requires.ready.formed c.node.ensures.node in
    let at : c.len-at.result ≡ length c.args.words.now.items = omega (arith, c.len-at.ensures, c.args.words.now.ok.0) in
    let r = rest_begins c.in-Some.ensures.cases.0 c.requires c.in_ok-eval.ensures type at c.in_ok-fill_rows.ensures in
    let l = r.0 in
    (omega (arith, d, w, e, l), r.1)

pub eval_kids-returns : goal.eval_kids-returns
eval_kids-returns t c =
    let type = node_type _ c.requires.ready.formed c.node.ensures.node in
    let at : c.len-at.result ≡ length c.args.words.now.items = omega (arith, c.len-at.ensures, c.args.words.now.ok.0) in
    kids_more c.in-Some.ensures.cases.0 c.requires c.in_ok-eval.ensures type at c.in_ok-fill_rows.ensures
    c.in_ok-eval_kids.ensures
