use Rattle.std.proofs.Common.{◌∙◌, arith}
use Rattle.bound_firing.proofs.HeldAt.{argument_stands, component_held, if_some, one_item, variable_held}
use Rattle.bound_firing.proofs.arguments.+held.Goals as goal

pub held-returns-in-Var : goal.held-returns-in-Var
held-returns-in-Var t c =
    if_some _ c.as_it_is.ensures (λ b e. variable_held _ _ (rw c.in-Var.is at c.node-node.ensures.node)
    (rw c.in_scope.ensures at e))

pub held_component-held-requires : goal.held_component-held-requires
held_component-held-requires t c =
    let d = c.decreases in
    let w = c.requires.stands.within in
    let e = one_item c.as_slice.result.now c.in-len1.len_at_least c.in-len1.len_below ∙ c.as_slice.ensures.value in
    let s = argument_stands c.requires.stands c.requires.node e in
    let l = s.0 in
    (omega (arith, d, w, l), s.1)

pub held_component-returns : goal.held_component-returns
held_component-returns t c =
    let e = one_item c.as_slice.result.now c.in-len1.len_at_least c.in-len1.len_below ∙ c.as_slice.ensures.value in
    if_some _ c.component.ensures (λ b i. component_held _ _ c.requires.node e c.in_ok-whole.ensures (i _ _))
