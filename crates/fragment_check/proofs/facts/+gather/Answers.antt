use Rattle.std.proofs.Common.{◌∙◌, sym, ap, subst, arith}
use Rattle.fc_nodes.specs.Terms.{term_at, terms_by}
use Rattle.fragment_check.specs.Facts.{InRow, facts_of_all, facts_of_apply, under_nbr, beneath}
use Rattle.fragment_check.proofs.Steps.{kids_row, kids_terms, first_later, apply_done, leaf_done, deep_done, nbr_done, other_facts}
use Rattle.fragment_check.proofs.Absent.{absent_facts}
use Rattle.fragment_check.proofs.facts.+gather.Goals as goal

pub gather-apply_facts-requires : goal.gather-apply_facts-requires
gather-apply_facts-requires t c =
    let d = c.decreases in
    let w = c.requires.within in
    let r = kids_row c.args.program.now.nodes c.node-node.ensures.program.formed c.args.place c.requires _ _ _ c.node-node.ensures.node in
    (omega (arith, d, w), (w, subst (InRow c.args.program.now.nodes c.args.place) (sym c.as_slice-kids.ensures.value) r))

pub gather-gather_all-requires : goal.gather-gather_all-requires
gather-gather_all-requires t c =
    let d = c.decreases in
    let w = c.requires.within in
    let r = subst (InRow c.args.program.now.nodes c.args.place) (sym c.as_slice-kids.ensures.value) (kids_row c.args.program.now.nodes c.node-node.ensures.program.formed c.args.place c.requires _ _ _ c.node-node.ensures.node) in
    let f = first_later c.args.program.now.nodes c.args.place c.as_slice-kids.result.now w r in
    (omega (arith, d, w, f), r)

pub gather-returns-in-Some : goal.gather-returns-in-Some
gather-returns-in-Some t c =
    c.apply_facts.ensures
    ∙ ap (λ ks. facts_of_apply c.args.own c.in-Some.builtin (terms_by (term_at c.args.program.now.nodes) ks)) c.as_slice-kids.ensures.value
    ∙ sym (apply_done c.args.program.now.nodes c.node-node.ensures.program.formed c.args.own c.args.place _ _ _ c.node-node.ensures.node c.in-Some.builtin (sym c.in-Some.ensures))

pub gather-returns-then-is_nbr : goal.gather-returns-then-is_nbr
gather-returns-then-is_nbr t c =
    let k = kids_terms c.args.program.now.nodes c.node-node.ensures.program.formed c.args.place c.requires _ _ _ c.node-node.ensures.node in
    let e = c.is_heard-heard.ensures in
    c.under_nbr.ensures
    ∙ ap (under_nbr c.is_heard-heard.result) (c.gather_all.ensures ∙ ap (λ ks. facts_of_all c.args.own (terms_by (term_at c.args.program.now.nodes) ks)) c.as_slice-kids.ensures.value)
    ∙ ap (λ b. under_nbr b (facts_of_all c.args.own (terms_by (term_at c.args.program.now.nodes) c.node-node.result.now.kids.items))) e
    ∙ sym (nbr_done c.args.program.now.nodes c.node-node.ensures.program.formed c.args.own c.args.place _ _ _ c.node-node.ensures.node c.requires.laid k (sym c.is_nbr.ensures ∙ c.if-is_nbr.true))

pub gather-returns-then-not-occurs : goal.gather-returns-then-not-occurs
gather-returns-then-not-occurs t c =
    sym (absent_facts c.args.own (term_at c.args.program.now.nodes c.args.place) (sym c.occurs.ensures ∙ c.if-not-occurs.true))

pub gather-gather_all-requires-then-is_deep : goal.gather-gather_all-requires-then-is_deep
gather-gather_all-requires-then-is_deep t c =
    let d = c.decreases in
    let w = c.requires.within in
    let r = subst (InRow c.args.program.now.nodes c.args.place) (sym c.as_slice-kids.ensures.value) (kids_row c.args.program.now.nodes c.node-node.ensures.program.formed c.args.place c.requires _ _ _ c.node-node.ensures.node) in
    let f = first_later c.args.program.now.nodes c.args.place c.as_slice-kids.result.now w r in
    (omega (arith, d, w, f), r)

pub gather-returns-then-is_deep : goal.gather-returns-then-is_deep
gather-returns-then-is_deep t c =
    let k = kids_terms c.args.program.now.nodes c.node-node.ensures.program.formed c.args.place c.requires _ _ _ c.node-node.ensures.node in
    c.beneath.ensures
    ∙ ap beneath (c.gather_all-then-is_deep.ensures ∙ ap (λ ks. facts_of_all c.args.own (terms_by (term_at c.args.program.now.nodes) ks)) c.as_slice-kids.ensures.value)
    ∙ sym (deep_done c.args.program.now.nodes c.node-node.ensures.program.formed c.args.own c.args.place _ _ _ c.node-node.ensures.node c.requires.laid k (sym c.is_deep.ensures ∙ c.if-is_deep.true))

pub gather-returns : goal.gather-returns
gather-returns t c =
    c.leaf_facts.ensures
    ∙ sym (leaf_done c.args.program.now.nodes c.node-node.ensures.program.formed c.args.own c.args.place _ _ _ c.node-node.ensures.node (sym c.in_default.ensures) (sym c.is_nbr.ensures ∙ c.if-is_nbr.false) (sym c.is_deep.ensures ∙ c.if-is_deep.false))

pub apply_facts-returns-else-is_mux : goal.apply_facts-returns-else-is_mux
apply_facts-returns-else-is_mux t c =
    c.gather_all.ensures ∙ other_facts c.args.own c.args.builtin (term_at c.args.program.now.nodes) c.args.kids.now c.is_mux.result c.is_mux.ensures c.else-is_mux.either
