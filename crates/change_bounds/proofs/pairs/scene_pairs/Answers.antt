use Rattle.std.proofs.Common.{◌∙◌, ap, true, if◌then◌else◌, Some, nat_eq, ◌&&◌, get_or, map}
use Rattle.std.proofs.lemmas.List.{take_all}
use Rattle.topology.specs.Networks.{edge_of}
use Rattle.std.specs.Prelude.{Option}
use Rattle.changes.specs.Changes.{range}
use Rattle.change_bounds.specs.declared.pairs.PairBound.{PairBound}
use Rattle.change_bounds.specs.Tables.{linked}
use Rattle.change_bounds.proofs.Told.{no_link, scene_pair, one_link_more, scene_said}
use Rattle.change_bounds.proofs.pairs.scene_pairs.Goals as goal

pub loop-link-preserved : goal.loop-link-preserved
loop-link-preserved c = λ x y.
    let ls = c.links-link-items.result.now in
    let k = c.loop-link.link-index in
    let l = get_or ls k no_link in
    c.in_ok-widen.ensures x y
    ∙ ap (λ (o : Option PairBound). if nat_eq x l.a && nat_eq y l.b then Some (linked o (range l.weight l.weight) true) else o) (c.loop-link.invariant x y)
    ∙ one_link_more c.args.network.now ls k c.links-link-items.ensures.network c.links-link-items.ensures.value c.loop-link-test.true x y

pub returns : goal.returns
returns c = λ x y.
    let ls = c.links-link-items.result.now in
    c.loop-link.invariant x y
    ∙ ap (λ xs. scene_pair (map edge_of xs) x y) (take_all c.loop-link.link-index ls c.loop-link-test.false)
    ∙ ap (λ es. scene_pair es x y) c.links-link-items.ensures.value
    ∙ scene_said c.args.network.now x y
