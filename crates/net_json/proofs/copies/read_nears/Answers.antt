use Rattle.std.proofs.Common.{◌≡◌, ◌∙◌, sym, ap, subst, map, length, IfOk, IfErr}
use Rattle.serde_json.specs.View.{items_view}
use Rattle.fc_nodes.specs.Program.{unfolding_of}
use Rattle.value_trees.specs.Snaps.{near_copy}
use Rattle.net_json.specs.PlaceCode.{path_of}
use Rattle.net_json.specs.Judging.{Accepted, Refused, Misshaped, RefusedWith, gather}
use Rattle.net_json.specs.Reading.{count_items}
use Rattle.net_json.specs.Copies.{near_judged, near_number}
use Rattle.net_json.proofs.Shapes.{count_values}
use Rattle.net_json.proofs.Limits.{at_most, too_many}
use Rattle.net_json.proofs.copies.read_nears.Goals as goal

pub returns-then-items-gt-MOST_LINKS-clause-refused : goal.returns-then-items-gt-MOST_LINKS-clause-refused
returns-then-items-gt-MOST_LINKS-clause-refused c =
    too_many (Misshaped (path_of c.args.here.now)) (gather near_number (near_judged (unfolding_of c.args.program.now) c.args.device) (path_of c.args.here.now) (items_view c.args.items.now))
    (count_items (items_view c.args.items.now)) (length c.args.items.now) 32 (count_values c.args.items.now) c.if-items-gt-MOST_LINKS.true
    ∙ ap (λ text. Refused (Misshaped text)) (sym c.in_ok-path.ensures)

pub returns-clause-ok : goal.returns-clause-ok
returns-clause-ok c =
    subst (λ j. IfOk c.gather_nears.result (λ ns. j ≡ Accepted (map (near_copy (unfolding_of c.args.program.now)) ns.items)))
    (sym (at_most (Misshaped (path_of c.args.here.now)) (gather near_number (near_judged (unfolding_of c.args.program.now) c.args.device) (path_of c.args.here.now) (items_view c.args.items.now))
    (count_items (items_view c.args.items.now)) (length c.args.items.now) 32 (count_values c.args.items.now) c.if-items-gt-MOST_LINKS.false))
    c.gather_nears.ensures.ok

pub returns-clause-refused : goal.returns-clause-refused
returns-clause-refused c =
    subst (λ j. IfErr c.gather_nears.result (RefusedWith j))
    (sym (at_most (Misshaped (path_of c.args.here.now)) (gather near_number (near_judged (unfolding_of c.args.program.now) c.args.device) (path_of c.args.here.now) (items_view c.args.items.now))
    (count_items (items_view c.args.items.now)) (length c.args.items.now) 32 (count_values c.args.items.now) c.if-items-gt-MOST_LINKS.false))
    c.gather_nears.ensures.refused
