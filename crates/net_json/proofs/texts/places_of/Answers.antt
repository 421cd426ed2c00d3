use Rattle.std.proofs.Common.{ℕ, ◌+◌, List, ◌∙◌, sym, ap, drop, ◌++◌, arith, append-nil}
use Rattle.std.specs.Prelude.{is_some}
use Rattle.std.proofs.lemmas.List.{drop_all}
use Rattle.fc_nodes.specs.declared.nodes.Node.{Node}
use Rattle.fc_nodes.specs.Terms.{node_keeps}
use Rattle.net_json.specs.Placing.{node_places}
use Rattle.net_json.proofs.Placings.{places_whole, places_step, more_behind}
use Rattle.net_json.proofs.texts.places_of.Goals as goal

pub loop-place-preserved : goal.loop-place-preserved
loop-place-preserved c =
    let ns = c.args.program.now.nodes in
    let p = c.loop-place.place in
    let old = c.loop-place.places.items in
    let rest = node_places (drop (p + 1) ns) (p + 1) in
    ap (λ (us : List ℕ). us ++ rest) c.in_ok-push_place.ensures
    ∙ more_behind (is_some (node_keeps c.node.result.now)) p old rest
    ∙ ap (λ (us : List ℕ). old ++ us) (sym (places_step ns p (p + 1) _ _ _ c.node.ensures.node (omega arith)))
    ∙ c.loop-place.invariant

pub returns-clause-places : goal.returns-clause-places
returns-clause-places c =
    let ns = c.args.program.now.nodes in
    let p = c.loop-place.place in
    let old = c.loop-place.places.items in
    let n = c.size-place-end.ensures.value in
    let program = c.size-place-end.ensures.program in
    sym (append-nil old) ∙ ap (λ (ms : List Node). old ++ node_places ms p) (sym (drop_all p ns (omega (arith, n)))) ∙ c.loop-place.invariant ∙ places_whole ns program.formed
