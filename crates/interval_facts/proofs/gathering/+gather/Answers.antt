use Rattle.std.proofs.Common.{arith, ◌∙◌, ap, subst}
use Rattle.std.proofs.lemmas.List.{map-set}
use Rattle.interval_facts.specs.Ranges.{range_value}
use Rattle.interval_facts.specs.Picks.{AreThere, ranges_in}
use Rattle.fc_nodes.specs.Terms.{sort_of, view_of}
use Rattle.interval_facts.specs.Steps.{step_range}
use Rattle.interval_facts.specs.Gathering.{IsThere}
use Rattle.interval_facts.proofs.Gathered.{pushed, as_long, begun, own_kids, own_taken, own_bound, own_place, ended}
use Rattle.interval_facts.proofs.gathering.+gather.Goals as goal

pub gather-gather_kids-requires : goal.gather-gather_kids-requires
gather-gather_kids-requires t c =
    let d = c.decreases in
    let w = c.requires.stands.within in
    (omega (arith, d, w), rw c.deref.ensures.value (begun c.args.program.now c.node-node.ensures.program c.args.place _ _ _ c.node-node.ensures.node (ranges_in c.args.list.now.items) c.requires _ _ (pushed c.args.list.now.items c.push.new.self.items _ c.in_ok-push.ensures.items)))

pub gather-own_range-requires-clause-kids : goal.gather-own_range-requires-clause-kids
gather-own_range-requires-clause-kids t c =
    subst (λ n. AreThere n c.node-node.result.now.kids.items) (as_long c.gather_kids.new.list.items _ c.deref-2.ensures.value)
    (own_kids c.args.program.now c.node-node.ensures.program c.args.place _ _ _ c.node-node.ensures.node (ranges_in c.args.list.now.items) c.requires _ _ (pushed c.args.list.now.items c.push.new.self.items _ c.in_ok-push.ensures.items) _ c.in_ok-gather_kids.ensures)

pub gather-own_range-requires-clause-taken : goal.gather-own_range-requires-clause-taken
gather-own_range-requires-clause-taken t c =
    own_taken c.args.program.now c.node-node.ensures.program c.args.place _ _ _ c.node-node.ensures.node (ranges_in c.args.list.now.items) c.requires _ _ (pushed c.args.list.now.items c.push.new.self.items _ c.in_ok-push.ensures.items) _ c.in_ok-gather_kids.ensures

pub gather-own_range-requires-clause-bound : goal.gather-own_range-requires-clause-bound
gather-own_range-requires-clause-bound t c =
    subst (λ n. IsThere c.args.program.now n (sort_of c.node-node.result.now.op)) (as_long c.gather_kids.new.list.items _ c.deref-2.ensures.value)
    (own_bound c.args.program.now c.node-node.ensures.program c.args.place _ _ _ c.node-node.ensures.node (ranges_in c.args.list.now.items) c.requires _ _ (pushed c.args.list.now.items c.push.new.self.items _ c.in_ok-push.ensures.items) _ c.in_ok-gather_kids.ensures)

pub gather-index_mut-requires : goal.gather-index_mut-requires
gather-index_mut-requires t c =
    let w = own_place c.args.program.now c.node-node.ensures.program c.args.place _ _ _ c.node-node.ensures.node (ranges_in c.args.list.now.items) c.requires _ _ (pushed c.args.list.now.items c.push.new.self.items _ c.in_ok-push.ensures.items) _ c.in_ok-gather_kids.ensures in
    let long = as_long c.gather_kids.new.list.items _ c.deref-2.ensures.value in
    let same = c.deref-2.ensures.len in
    omega (arith, w, long, same)

pub gather-returns : goal.gather-returns
gather-returns t c =
    ended c.args.program.now c.node-node.ensures.program c.args.place _ _ _ c.node-node.ensures.node (ranges_in c.args.list.now.items) c.requires _ _ (pushed c.args.list.now.items c.push.new.self.items _ c.in_ok-push.ensures.items) _ c.in_ok-gather_kids.ensures
    (range_value c.in_ok-range.range) (c.in_ok-range.ensures ∙ ap (λ xs. step_range c.args.program.now (ranges_in xs) (view_of c.node-node.result.now)) c.deref-2.ensures.value) _ (map-set range_value c.gather_kids.new.list.items c.args.place c.in_ok-range.range)
