use Rattle.std.proofs.Common.{◌∙◌, [], ◌∷◌, sym, ap, subst, arith}
use Rattle.std.proofs.lemmas.Result.{err_from_is_err_and}
use Rattle.fc_nodes.specs.Program.{unfolding_of}
use Rattle.fragment_check.specs.Facts.{InRow}
use Rattle.fragment_check.specs.Verdicts.{pattern_at}
use Rattle.fragment_check.specs.Listing.{judged_at, judged_at_all}
use Rattle.fragment_check.proofs.Steps.{kids_row, first_later}
use Rattle.fragment_check.proofs.Evolving.{some_body, body_stands}
use Rattle.fragment_check.proofs.Judgements.{found_both, refuses_first, refused_second, refused_same, found_same, one_finds, kids_judged, evolving_here, evolving_judged, evolving_refused, body_later}
use Rattle.fragment_check.proofs.listing.+judge.Goals as goal

pub judge-returns-in-Err-clause-refused : goal.judge-returns-in-Err-clause-refused
judge-returns-in-Err-clause-refused t c =
    let z = sym c.is_evolving.ensures ∙ c.if-is_evolving.true in
    evolving_refused c.args.program.now c.node-node.ensures.program.formed c.args.place c.requires.stands _ _ _ c.node-node.ensures.node z c.in-Err.reason (sym c.in-Err.ensures)

pub judge-index-requires : goal.judge-index-requires
judge-index-requires t c =
    let z = sym c.is_evolving.ensures ∙ c.if-is_evolving.true in
    let l = some_body c.args.program.now.nodes c.node-node.ensures.program.formed c.args.place _ _ _ c.node-node.ensures.node (evolving_here c.args.program.now c.node-node.ensures.program.formed c.args.place c.requires.stands _ _ _ c.node-node.ensures.node z) in
    omega (arith, l)

pub judge-judge-requires : goal.judge-judge-requires
judge-judge-requires t c =
    let d = c.decreases in
    let w = c.requires.stands.within in
    let z = sym c.is_evolving.ensures ∙ c.if-is_evolving.true in
    let l = body_later c.args.program.now c.node-node.ensures.program.formed c.args.place c.requires.stands _ _ _ c.node-node.ensures.node z _ c.index.ensures in
    let s = body_stands c.args.program.now.nodes c.node-node.ensures.program.formed c.args.place _ _ _ c.node-node.ensures.node (evolving_here c.args.program.now c.node-node.ensures.program.formed c.args.place c.requires.stands _ _ _ c.node-node.ensures.node z) _ c.index.ensures in
    let v = s.within in
    (omega (arith, d, w, l, v), (c.requires.ranges, s))

pub judge-returns-then-is_evolving-clause-found : goal.judge-returns-then-is_evolving-clause-found
judge-returns-then-is_evolving-clause-found t c =
    let z = sym c.is_evolving.ensures ∙ c.if-is_evolving.true in
    let e = evolving_judged c.args.program.now c.node-node.ensures.program.formed c.args.place c.requires.stands _ _ _ c.node-node.ensures.node z _ c.index.ensures in
    let f = one_finds c.args.place (pattern_at (unfolding_of c.args.program.now) c.args.place) c.in-Ok.pattern c.args.found.now.items (sym c.in-Ok.ensures) in
    found_same c.judge.result _ _ _ _ e
    (found_both c.judge.result ((c.args.place, pattern_at (unfolding_of c.args.program.now) c.args.place) ∷ []) (judged_at c.args.program.now c.index.result.now) c.args.found.now.items _ _ f (rw c.in_ok-push-in-Ok.ensures.items at c.judge.ensures.found))

pub judge-returns-then-is_evolving-clause-refused : goal.judge-returns-then-is_evolving-clause-refused
judge-returns-then-is_evolving-clause-refused t c =
    let z = sym c.is_evolving.ensures ∙ c.if-is_evolving.true in
    let e = evolving_judged c.args.program.now c.node-node.ensures.program.formed c.args.place c.requires.stands _ _ _ c.node-node.ensures.node z _ c.index.ensures in
    let f = one_finds c.args.place (pattern_at (unfolding_of c.args.program.now) c.args.place) c.in-Ok.pattern c.args.found.now.items (sym c.in-Ok.ensures) in
    refused_same c.judge.result _ _ e
    (refused_second c.judge.result ((c.args.place, pattern_at (unfolding_of c.args.program.now) c.args.place) ∷ []) (judged_at c.args.program.now c.index.result.now) f.0 c.judge.ensures.refused)

pub judge-judge_all-requires : goal.judge-judge_all-requires
judge-judge_all-requires t c =
    let d = c.decreases in
    let w = c.requires.stands.within in
    let r = subst (InRow c.args.program.now.nodes c.args.place) (sym c.as_slice.ensures.value) (kids_row c.args.program.now.nodes c.node-node.ensures.program.formed c.args.place c.requires.stands _ _ _ c.node-node.ensures.node) in
    let f = first_later c.args.program.now.nodes c.args.place c.as_slice.result.now w r in
    (omega (arith, d, w, f), (c.requires.ranges, r))

pub judge-returns-clause-found : goal.judge-returns-clause-found
judge-returns-clause-found t c =
    let z = sym c.is_evolving.ensures ∙ c.if-is_evolving.false in
    let e = kids_judged c.args.program.now c.node-node.ensures.program.formed c.args.place c.requires.stands _ _ _ c.node-node.ensures.node z in
    found_same c.judge_all.result _ _ _ _ (ap (judged_at_all c.args.program.now) c.as_slice.ensures.value ∙ e) c.judge_all.ensures.found

pub judge-returns-clause-refused : goal.judge-returns-clause-refused
judge-returns-clause-refused t c =
    let z = sym c.is_evolving.ensures ∙ c.if-is_evolving.false in
    let e = kids_judged c.args.program.now c.node-node.ensures.program.formed c.args.place c.requires.stands _ _ _ c.node-node.ensures.node z in
    refused_same c.judge_all.result _ _ (ap (judged_at_all c.args.program.now) c.as_slice.ensures.value ∙ e) c.judge_all.ensures.refused

pub judge_all-returns-in_err-judge-clause-refused : goal.judge_all-returns-in_err-judge-clause-refused
judge_all-returns-in_err-judge-clause-refused t c =
    let p = err_from_is_err_and c.from_residual.result c.from_residual.ensures.1 in
    rw (c.in-Some.ensures.cases.0, p.1, p.2) (refuses_first c.in_err-judge.field-0.0 (judged_at c.args.program.now c.in-Some.first.now) (judged_at_all c.args.program.now c.in-Some.rest.now) c.in_err-judge.ensures.refused)

pub judge_all-returns-clause-found : goal.judge_all-returns-clause-found
judge_all-returns-clause-found t c =
    rw c.in-Some.ensures.cases.0 (found_both c.judge_all.result (judged_at c.args.program.now c.in-Some.first.now) (judged_at_all c.args.program.now c.in-Some.rest.now) _ _ _ c.in_ok-judge.ensures.found c.judge_all.ensures.found)

pub judge_all-returns-clause-refused : goal.judge_all-returns-clause-refused
judge_all-returns-clause-refused t c =
    rw c.in-Some.ensures.cases.0 (refused_second c.judge_all.result (judged_at c.args.program.now c.in-Some.first.now) (judged_at_all c.args.program.now c.in-Some.rest.now) c.in_ok-judge.ensures.found.0 c.judge_all.ensures.refused)
