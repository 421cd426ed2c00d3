use Rattle.std.proofs.Common.{length, ◌∙◌, sym, ap, subst, arith, nat_lt}
use Rattle.std.specs.List.{prefix_len}
use Rattle.fc_values.specs.Fields.{Rises}
use Rattle.fc_values.proofs.Lists.{get_any}
use Rattle.fc_nodes.specs.Program.{Program}
use Rattle.fc_nodes.specs.Occurrences.{AreEnds, AreUses, lists_of}
use Rattle.fc_nodes.proofs.Counted.{between, uses_rise, list_is, unlisted}
use Rattle.fc_nodes.proofs.program.Unfolded.occurs.Goals as goal

pub returns-then-binder-len : goal.returns-then-binder-len
returns-then-binder-len c =
    let same = ap (λ (p : Program). p.nodes) c.self.view_is in
    let uses = subst (λ ns. AreUses ns (lists_of c.self.inside.uses.items)) same c.self.invariant.3 in
    let l = c.if-binder-len.true in
    let e = c.len.ensures in
    sym (unlisted c.args.self.now.nodes c.args.binder c.args.place c.requires c.self.inside.uses.items uses (omega (arith, l, e)))

pub before-requires : goal.before-requires
before-requires c =
    let same = ap (λ (p : Program). p.nodes) c.self.view_is in
    let l = c.if-binder-len.false in
    let e = c.len.ensures in
    let is = list_is c.args.self.now.nodes _ c.self.inside.uses.items same c.self.invariant.3 c.args.binder c.index.result.now (omega (arith, l, e)) c.index.ensures in
    subst Rises (sym (c.as_slice-uses.ensures.value ∙ is)) (uses_rise c.args.self.now.nodes c.args.binder (length c.args.self.now.nodes))

pub before-requires-2 : goal.before-requires-2
before-requires-2 c =
    let same = ap (λ (p : Program). p.nodes) c.self.view_is in
    let l = c.if-binder-len.false in
    let e = c.len.ensures in
    let is = list_is c.args.self.now.nodes _ c.self.inside.uses.items same c.self.invariant.3 c.args.binder c.index.result.now (omega (arith, l, e)) c.index.ensures in
    subst Rises (sym (c.as_slice-uses.ensures.value ∙ is)) (uses_rise c.args.self.now.nodes c.args.binder (length c.args.self.now.nodes))

pub returns : goal.returns
returns c =
    let same = ap (λ (p : Program). p.nodes) c.self.view_is in
    let ends = subst (λ ns. AreEnds ns c.self.inside.ends.items) same c.self.invariant.2 in
    let l = c.if-binder-len.false in
    let e = c.len.ensures in
    let is = list_is c.args.self.now.nodes _ c.self.inside.uses.items same c.self.invariant.3 c.args.binder c.index.result.now (omega (arith, l, e)) c.index.ensures in
    let w = c.requires.within in
    let m = ends.many in
    let end = c.index-2.ensures ∙ get_any c.self.inside.ends.items c.args.place c.index-2.result.now 0 (omega (arith, w, m)) ∙ ends.each c.args.place (omega arith) w in
    ap (λ a. nat_lt a c.before-3.result) c.before-2.ensures
    ∙ ap (λ b. nat_lt (prefix_len (λ n. nat_lt n c.args.place) c.as_slice-uses.result.now) b) c.before-3.ensures
    ∙ ap (λ us. nat_lt (prefix_len (λ n. nat_lt n c.args.place) us) (prefix_len (λ n. nat_lt n c.index-2.result.now) us)) (c.as_slice-uses.ensures.value ∙ is)
    ∙ between c.args.self.now.nodes c.args.binder c.args.place c.index-2.result.now c.requires end
