use Rattle.std.proofs.Common.{◌∙◌, sym, subst}
use Rattle.fc_values.specs.Types.{type_of}
use Rattle.fc_nodes.specs.Terms.{sort_of}
use Rattle.walk_form.specs.Spans.{IsWalkForm}
use Rattle.walk_form.proofs.Reading.{no_root, not_minimising, body_stands, no_hood, no_summand, form_is, any_none}
use Rattle.walk_form.proofs.forms.walk_form.Goals as goal

pub returns-then-not-is_int_rep-clause-none : goal.returns-then-not-is_int_rep-clause-none
returns-then-not-is_int_rep-clause-none c =
    no_root c.args.program.now c.size-end.ensures.program (sort_of c.node-root.result.now.op) (type_of c.node-root.result.now.ty) c.node-root.result.now.kids.items c.node-root.ensures.node
    (sym c.is_int_rep.ensures ∙ c.if-not-is_int_rep.true)

pub returns-then-not-is_minimising-clause-none : goal.returns-then-not-is_minimising-clause-none
returns-then-not-is_minimising-clause-none c =
    not_minimising c.args.program.now c.size-end.ensures.program (sort_of c.node-root.result.now.op) (type_of c.node-root.result.now.ty) c.node-root.result.now.kids.items c.node-root.ensures.node
    (sym c.is_minimising.ensures ∙ c.if-not-is_minimising.true)

pub hood_kids-requires : goal.hood_kids-requires
hood_kids-requires c =
    body_stands c.args.program.now c.size-end.ensures.program (sort_of c.node-root.result.now.op) (type_of c.node-root.result.now.ty) c.node-root.result.now.kids.items c.node-root.ensures.node
    (sym c.is_int_rep.ensures ∙ c.if-not-is_int_rep.false) c.index.result.now c.index.ensures

pub returns-in_err-h-clause-none : goal.returns-in_err-h-clause-none
returns-in_err-h-clause-none c =
    any_none c.from_residual.result
    (no_hood c.args.program.now c.size-end.ensures.program (sort_of c.node-root.result.now.op) (type_of c.node-root.result.now.ty) c.node-root.result.now.kids.items c.node-root.ensures.node
    (sym c.is_int_rep.ensures ∙ c.if-not-is_int_rep.false) c.index.result.now c.index.ensures (sym c.is_minimising.ensures ∙ c.if-not-is_minimising.false) c.in_err-h.ensures.none)

pub returns-in_err-adds-clause-none : goal.returns-in_err-adds-clause-none
returns-in_err-adds-clause-none c =
    any_none c.from_residual-in_err-adds.result
    (no_summand c.args.program.now c.size-end.ensures.program (sort_of c.node-root.result.now.op) (type_of c.node-root.result.now.ty) c.node-root.result.now.kids.items c.node-root.ensures.node
    (sym c.is_int_rep.ensures ∙ c.if-not-is_int_rep.false) c.index.result.now c.index.ensures (sym c.is_minimising.ensures ∙ c.if-not-is_minimising.false)
    c.in_ok-h.h c.in_ok-h.l c.in_ok-h.ensures.kids c.in_err-adds.ensures.none)

pub returns-clause-form : goal.returns-clause-form
returns-clause-form c =
    subst (λ n. IsWalkForm c.args.program.now (record { local = record { from = c.in_ok-h.l; end = n }; adds = c.in_ok-adds.adds })) (sym c.size-end.ensures.value)
    (form_is c.args.program.now c.size-end.ensures.program (sort_of c.node-root.result.now.op) (type_of c.node-root.result.now.ty) c.node-root.result.now.kids.items c.node-root.ensures.node
    (sym c.is_int_rep.ensures ∙ c.if-not-is_int_rep.false) c.index.result.now c.index.ensures (sym c.is_minimising.ensures ∙ c.if-not-is_minimising.false)
    c.in_ok-h.h c.in_ok-h.l c.in_ok-h.ensures.kids c.in_ok-adds.adds c.in_ok-adds.ensures.step)
