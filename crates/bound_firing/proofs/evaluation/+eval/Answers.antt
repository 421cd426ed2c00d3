use Rattle.std.proofs.Common.{◌∙◌, [], ◌∷◌, arith, ap, refl}
use Rattle.std.proofs.lemmas.List.{map-append}
use Rattle.std.proofs.lemmas.Result.{on_ok_weaker}
use Rattle.value_bounds.specs.References.{any_bound_in, any_bounds_in}
use Rattle.bound_firing.proofs.SlotReads.{slots_long}
use Rattle.bound_firing.proofs.LeafAt.{lit_done, variable_done, sense_done, uid_done, links_done}
use Rattle.bound_firing.proofs.LetAt.{let_kids, let_value, let_body, let_done}
use Rattle.bound_firing.proofs.NbrAt.{nbr_kids, nbr_there, nbr_kid, nbr_within, nbr_heard}
use Rattle.bound_firing.proofs.EvolveAt.{evolve_kids, evolve_there, evolve_a, evolve_b, evolve_within, evolve_kept}
use Rattle.bound_firing.proofs.IfAt.{if_kids, if_condition, if_there, if_true, if_false, if_done}
use Rattle.bound_firing.proofs.ApplyAt.{apply_ready, apply_later, none_done, kid_there, rest_there}
use Rattle.bound_firing.proofs.ApplyAt.{all_done}
use Rattle.bound_firing.proofs.HeldAt.{apply_built, built_one, built_two, built_three, built_all}
use Rattle.bound_firing.proofs.HeldAt.{one_item, two_items, three_items}
use Rattle.bound_firing.proofs.KidsAt.{ready_at}
use Rattle.bound_firing.proofs.evaluation.+eval.Goals as goal

pub eval-returns-in-Lit : goal.eval-returns-in-Lit
eval-returns-in-Lit t c =
    on_ok_weaker _ (λ e. lit_done _ _ (ready_at c.requires (rw c.in-Lit.is at c.node-node.ensures.node)) e)
    c.literal.ensures

pub eval-returns-in-Var : goal.eval-returns-in-Var
eval-returns-in-Var t c =
    on_ok_weaker _ (λ e. variable_done _ _ (ready_at c.requires (rw c.in-Var.is at c.node-node.ensures.node)) e)
    c.variable.ensures

pub eval-returns-in-Sense : goal.eval-returns-in-Sense
eval-returns-in-Sense t c =
    on_ok_weaker _ (λ e. sense_done _ _ (ready_at c.requires (rw c.in-Sense.is at c.node-node.ensures.node)) e)
    c.sensed.ensures

pub eval-returns-in-Uid : goal.eval-returns-in-Uid
eval-returns-in-Uid t c =
    rw c.uid.ensures (uid_done _ _ (ready_at c.requires (rw c.in-Uid.is at c.node-node.ensures.node)) refl)

pub eval-returns-in-NbrLink : goal.eval-returns-in-NbrLink
eval-returns-in-NbrLink t c =
    on_ok_weaker _ (λ e. links_done _ _ (ready_at c.requires (rw c.in-NbrLink.is at c.node-node.ensures.node))
    (rw c.least_weight.ensures at e)) c.links.ensures

pub eval_apply-eval_one-requires : goal.eval_apply-eval_one-requires
eval_apply-eval_one-requires t c =
    let d = c.decreases in
    let e = one_item c.as_slice.result.now c.in-len1.len_at_least c.in-len1.len_below ∙ c.as_slice.ensures.value in
    let l = apply_later c.requires e in
    let w = c.requires.ready.stands.within in
    (omega (arith, d, l, w), apply_ready c.requires _ _ e)

pub eval_apply-returns-in-len1 : goal.eval_apply-returns-in-len1
eval_apply-returns-in-len1 t c =
    let e = one_item c.as_slice.result.now c.in-len1.len_at_least c.in-len1.len_below ∙ c.as_slice.ensures.value in
    on_ok_weaker _ (λ d. apply_built c.requires _ _ e d) c.eval_one.ensures

pub eval_apply-eval_two-requires : goal.eval_apply-eval_two-requires
eval_apply-eval_two-requires t c =
    let d = c.decreases in
    let e = two_items c.as_slice.result.now c.in-len2.len_at_least c.in-len2.len_below ∙ c.as_slice.ensures.value in
    let l = apply_later c.requires e in
    let w = c.requires.ready.stands.within in
    (omega (arith, d, l, w), apply_ready c.requires _ _ e)

pub eval_apply-returns-in-len2 : goal.eval_apply-returns-in-len2
eval_apply-returns-in-len2 t c =
    let e = two_items c.as_slice.result.now c.in-len2.len_at_least c.in-len2.len_below ∙ c.as_slice.ensures.value in
    on_ok_weaker _ (λ d. apply_built c.requires _ _ e d) c.eval_two.ensures

pub eval_apply-eval_three-requires : goal.eval_apply-eval_three-requires
eval_apply-eval_three-requires t c =
    let d = c.decreases in
    let e = three_items c.as_slice.result.now c.in-len3.len_at_least c.in-len3.len_below ∙ c.as_slice.ensures.value in
    let l = apply_later c.requires e in
    let w = c.requires.ready.stands.within in
    (omega (arith, d, l, w), apply_ready c.requires _ _ e)

pub eval_apply-returns-in-len3 : goal.eval_apply-returns-in-len3
eval_apply-returns-in-len3 t c =
    let e = three_items c.as_slice.result.now c.in-len3.len_at_least c.in-len3.len_below ∙ c.as_slice.ensures.value in
    on_ok_weaker _ (λ d. apply_built c.requires _ _ e d) c.eval_three.ensures

pub eval_apply-eval_more-requires : goal.eval_apply-eval_more-requires
eval_apply-eval_more-requires t c =
    let d = c.decreases in
    let e = c.as_slice.ensures.value in
    let l = apply_later c.requires e in
    let w = c.requires.ready.stands.within in
    (omega (arith, d, l, w), apply_ready c.requires _ _ e)

pub eval_apply-returns-in_default : goal.eval_apply-returns-in_default
eval_apply-returns-in_default t c =
    let e = c.as_slice.ensures.value in
    on_ok_weaker _ (λ d. apply_built c.requires _ _ e d) c.eval_more.ensures

pub eval_more-eval_kids-requires : goal.eval_more-eval_kids-requires
eval_more-eval_kids-requires t c =
    let d = c.decreases in
    (omega (arith, d), c.requires)

pub eval_more-returns : goal.eval_more-returns
eval_more-returns t c =
    let value = rw (c.deref-2.ensures.value, c.in_ok-lent.ensures, c.deref.ensures.value, c.ceiling_of-ceiling.ensures)
    at c.in_ok-target.ensures in
    built_all (ap any_bounds_in c.in_ok-args.ensures.items) c.in_ok-eval_kids.ensures value

pub eval_one-held-requires : goal.eval_one-held-requires
eval_one-held-requires t c = c.requires.0.stands

pub eval_one-eval-requires : goal.eval_one-eval-requires
eval_one-eval-requires t c =
    let d = c.decreases in
    (omega (arith, d), c.requires.0)

pub eval_one-returns-in-Some : goal.eval_one-returns-in-Some
eval_one-returns-in-Some t c =
    on_ok_weaker _ (λ e. built_one c.args.kid (c.in-Some.ensures _ c.requires.0) e) c.of_one.ensures

pub eval_one-returns-in_ok-eval-in-None : goal.eval_one-returns-in_ok-eval-in-None
eval_one-returns-in_ok-eval-in-None t c =
    on_ok_weaker _ (λ e. built_one c.args.kid c.in_ok-eval-in-None.ensures e) c.make_one.ensures

pub eval_two-eval_argument-requires : goal.eval_two-eval_argument-requires
eval_two-eval_argument-requires t c =
    let d = c.decreases in
    (omega (arith, d), c.requires.0)

pub eval_two-eval_argument-requires-2 : goal.eval_two-eval_argument-requires-2
eval_two-eval_argument-requires-2 t c =
    let d = c.decreases in
    let l = c.requires.1 in
    let r = c.requires.2 _ _ c.in_ok-eval_argument.ensures in
    (omega (arith, d, l), r.0)

pub eval_two-returns : goal.eval_two-returns
eval_two-returns t c =
    on_ok_weaker _ (λ e. built_two c.args.first c.args.second c.in_ok-eval_argument.ensures
    c.in_ok-eval_argument-2.ensures e) c.make_two.ensures

pub eval_three-eval_argument-requires : goal.eval_three-eval_argument-requires
eval_three-eval_argument-requires t c =
    let d = c.decreases in
    (omega (arith, d), c.requires.0)

pub eval_three-eval_argument-requires-2 : goal.eval_three-eval_argument-requires-2
eval_three-eval_argument-requires-2 t c =
    let d = c.decreases in
    let l = c.requires.1 in
    let r = c.requires.2 _ _ c.in_ok-eval_argument.ensures in
    (omega (arith, d, l), r.0)

pub eval_three-eval_argument-requires-3 : goal.eval_three-eval_argument-requires-3
eval_three-eval_argument-requires-3 t c =
    let d = c.decreases in
    let l = c.requires.1 in
    let r = c.requires.2 _ _ c.in_ok-eval_argument.ensures in
    let l' = r.1 in
    let r' = r.2 _ _ c.in_ok-eval_argument-2.ensures in
    (omega (arith, d, l, l'), r'.0)

pub eval_three-returns : goal.eval_three-returns
eval_three-returns t c =
    on_ok_weaker _ (λ e. built_three c.args.first c.args.second c.args.third c.in_ok-eval_argument.ensures
    c.in_ok-eval_argument-2.ensures c.in_ok-eval_argument-3.ensures e) c.make_three.ensures

pub eval_argument-held-requires : goal.eval_argument-held-requires
eval_argument-held-requires t c = c.requires.stands

pub eval_argument-eval-requires : goal.eval_argument-eval-requires
eval_argument-eval-requires t c =
    let d = c.decreases in
    (omega (arith, d), c.requires)

pub eval_kids-returns-in_default : goal.eval_kids-returns-in_default
eval_kids-returns-in_default t c = none_done c.args.kids.now c.in_default.ensures.cases

pub eval_kids-eval_kids-requires : goal.eval_kids-eval_kids-requires
eval_kids-eval_kids-requires t c =
    let d = c.decreases in
    let k = kid_there _ _ _ _ _ _ c.in-Some.ensures.cases.0 c.requires in
    let w = k.0 in
    let e = k.1 in
    let r = rest_there _ _ _ _ _ _ c.in-Some.ensures.cases.0 c.requires c.in_ok-eval.ensures in
    let l = r.0 in
    (omega (arith, d, w, e, l), r.1)

pub eval_kids-returns : goal.eval_kids-returns
eval_kids-returns t c =
    let mid = ap any_bounds_in c.in_ok-push.ensures.items
    ∙ map-append any_bound_in c.args.args.now.items (c.eval.new.target ∷ []) in
    all_done _ _ _ _ _ _ c.in-Some.ensures.cases.0 c.requires c.in_ok-eval.ensures mid c.in_ok-eval_kids.ensures

pub eval_nbr-index-requires : goal.eval_nbr-index-requires
eval_nbr-index-requires t c =
    let o = nbr_kids c.requires in
    let l = o.long in
    omega (arith, l)

pub eval_nbr-eval-requires : goal.eval_nbr-eval-requires
eval_nbr-eval-requires t c =
    let d = c.decreases in
    let r = nbr_kid c.requires c.index.ensures in
    let m = r.0 in
    let w = c.requires.ready.stands.within in
    (omega (arith, d, m, w), r.1)

pub eval_nbr-hear-requires : goal.eval_nbr-hear-requires
eval_nbr-hear-requires t c =
    let h = nbr_there c.requires c.slot_of-slot.ensures in
    record {
      seats = h.1;
      within = slots_long _ _ (nbr_within c.requires c.slot_of-slot.ensures c.in_ok-eval.ensures);
    }

pub eval_nbr-returns : goal.eval_nbr-returns
eval_nbr-returns t c =
    on_ok_weaker _ (λ h. nbr_heard c.requires _ _ c.index.ensures c.slot_of-slot.ensures c.in_ok-eval.ensures h)
    c.hear.ensures

pub eval_evolve-index-requires : goal.eval_evolve-index-requires
eval_evolve-index-requires t c =
    let o = evolve_kids c.requires in
    let l = o.long in
    omega (arith, l)

pub eval_evolve-index-requires-2 : goal.eval_evolve-index-requires-2
eval_evolve-index-requires-2 t c =
    let o = evolve_kids c.requires in
    let l = o.long in
    omega (arith, l)

pub eval_evolve-eval-requires : goal.eval_evolve-eval-requires
eval_evolve-eval-requires t c =
    let d = c.decreases in
    let r = evolve_a c.requires c.index.ensures in
    let m = r.0 in
    let w = c.requires.ready.stands.within in
    (omega (arith, d, m, w), r.1)

pub eval_evolve-begin-requires : goal.eval_evolve-begin-requires
eval_evolve-begin-requires t c =
    let h = evolve_there c.requires c.slot_of-slot.ensures in
    h.1

pub eval_evolve-eval-requires-2 : goal.eval_evolve-eval-requires-2
eval_evolve-eval-requires-2 t c =
    let d = c.decreases in
    let r = evolve_b c.requires _ _ c.index.ensures c.in_ok-eval.ensures c.index-2.ensures in
    let m = r.0 in
    let w = c.requires.ready.stands.within in
    (omega (arith, d, m, w), r.1)

pub eval_evolve-keep-requires : goal.eval_evolve-keep-requires
eval_evolve-keep-requires t c =
    slots_long _ _ (evolve_within c.requires _ _ c.index.ensures c.in_ok-eval.ensures c.slot_of-slot.ensures
    c.in_ok-eval-2.ensures)

pub eval_evolve-returns : goal.eval_evolve-returns
eval_evolve-returns t c =
    on_ok_weaker _ (λ h. evolve_kept c.requires _ _ c.index.ensures c.in_ok-eval.ensures c.slot_of-slot.ensures
    c.index-2.ensures c.in_ok-begin.ensures (rw c.lend.ensures at c.in_ok-eval-2.ensures) h) c.keep.ensures

pub eval_if-index-requires : goal.eval_if-index-requires
eval_if-index-requires t c =
    let o = if_kids c.requires in
    let l = o.long in
    omega (arith, l)

pub eval_if-index-requires-2 : goal.eval_if-index-requires-2
eval_if-index-requires-2 t c =
    let o = if_kids c.requires in
    let l = o.long in
    omega (arith, l)

pub eval_if-index-requires-3 : goal.eval_if-index-requires-3
eval_if-index-requires-3 t c =
    let o = if_kids c.requires in
    let l = o.long in
    omega (arith, l)

pub eval_if-eval-requires : goal.eval_if-eval-requires
eval_if-eval-requires t c =
    let d = c.decreases in
    let r = if_condition c.requires c.index.ensures in
    let m = r.0 in
    let w = c.requires.ready.stands.within in
    (omega (arith, d, m, w), r.1)

pub eval_if-put-requires : goal.eval_if-put-requires
eval_if-put-requires t c =
    slots_long _ _ (if_there c.requires _ _ c.slot_of-slot.ensures c.index.ensures c.in_ok-eval.ensures refl)

pub eval_if-eval_branch-requires : goal.eval_if-eval_branch-requires
eval_if-eval_branch-requires t c =
    let d = c.decreases in
    let r = if_true c.requires _ _ c.slot_of-slot.ensures c.index.ensures c.in_ok-eval.ensures
    (rw c.take_local.ensures at c.put.ensures) c.index-2.ensures in
    let m = r.0 in
    let w = c.requires.ready.stands.within in
    (omega (arith, d, m, w), r.1)

pub eval_if-eval_branch-requires-2 : goal.eval_if-eval_branch-requires-2
eval_if-eval_branch-requires-2 t c =
    let d = c.decreases in
    let r = if_false c.requires _ _ c.slot_of-slot.ensures c.index.ensures c.in_ok-eval.ensures
    (rw c.take_local.ensures at c.put.ensures) c.index-2.ensures _ _ c.in_ok-first.ensures c.index-3.ensures in
    let m = r.0 in
    let w = c.requires.ready.stands.within in
    (omega (arith, d, m, w), r.1)

pub eval_if-returns : goal.eval_if-returns
eval_if-returns t c =
    if_done c.requires _ _ c.slot_of-slot.ensures c.index.ensures c.in_ok-eval.ensures
    (rw c.take_local.ensures at c.put.ensures) c.index-2.ensures _ _ c.in_ok-first.ensures c.index-3.ensures _ _
    c.in_ok-second.ensures c.in_ok-target.ensures

pub eval_let-index-requires-2 : goal.eval_let-index-requires-2
eval_let-index-requires-2 t c =
    let o = let_kids c.requires in
    let l = o.long in
    omega (arith, l)

pub eval_let-index-requires : goal.eval_let-index-requires
eval_let-index-requires t c =
    let o = let_kids c.requires in
    let l = o.long in
    omega (arith, l)

pub eval_let-eval_argument-requires : goal.eval_let-eval_argument-requires
eval_let-eval_argument-requires t c =
    let d = c.decreases in
    let r = let_value c.requires c.index.ensures in
    let m = r.0 in
    let w = c.requires.ready.stands.within in
    (omega (arith, d, m, w), r.1)

pub eval_let-eval-requires : goal.eval_let-eval-requires
eval_let-eval-requires t c =
    let d = c.decreases in
    let r = let_body c.requires _ _ c.index.ensures c.in_ok-eval_argument.ensures c.index-2.ensures in
    let m = r.0 in
    let w = c.requires.ready.stands.within in
    (omega (arith, d, m, w), r.1)

pub eval_let-returns : goal.eval_let-returns
eval_let-returns t c =
    on_ok_weaker _ (λ d. let_done c.requires _ _ c.index.ensures c.in_ok-eval_argument.ensures c.index-2.ensures
    (rw c.seen.ensures at d)) c.eval.ensures
