use Rattle.std.proofs.Common.{List, sym, ◌∙◌, ap, subst, map, option_map}
use Rattle.std.specs.Prelude.{codes}
use Rattle.std.proofs.lemmas.Result.{err_from_is_err_and}
use Rattle.fc_values.specs.Types.{Input, Declarations, input_of}
use Rattle.fc_values.specs.Values.{local_of}
use Rattle.fc_nodes.specs.Program.{unfolding_of}
use Rattle.value_trees.specs.Snaps.{tree_of}
use Rattle.value_trees.proofs.Fits.{parts_fit}
use Rattle.fc_values.specs.Inputs.{InputsFit}
use Rattle.net_json.specs.PlaceCode.{path_of}
use Rattle.net_json.specs.Judging.{Accepted, if_accepted, at_member}
use Rattle.net_json.specs.Inputs.{inputs_judged}
use Rattle.net_json.specs.Copies.{own_judged, nears_judged}
use Rattle.net_json.specs.CopyCode.{form_of}
use Rattle.net_json.proofs.Judgements.{refused_next, refused_later}
use Rattle.net_json.proofs.copies.read_parts.Goals as goal

pub returns-in_err-near-clause-refused : goal.returns-in_err-near-clause-refused
returns-in_err-near-clause-refused c =
    let U = unfolding_of c.args.program.now in
    let path = path_of c.args.here.now in
    let form = form_of c.args.form in
    let p = err_from_is_err_and c.from_residual-in_err-near.result c.from_residual-in_err-near.ensures.1 in
    let f = c.in_err-near.field-0.0 in
    let vs = map local_of c.in_ok-inputs.inputs.items in
    let own = option_map (tree_of U) c.in_ok-own.own in
    let declared = c.deref-2.ensures.value ∙ c.in_ok-wanted.ensures ∙ ap (map input_of) c.deref.ensures.value ∙ ap (λ (d : Declarations). d.inputs) c.declared-declared.ensures.value in
    let first = ap (λ (is : List Input). inputs_judged is (at_member path (codes "inputs")) form.inputs) (sym declared) ∙ c.in_ok-inputs.ensures.ok in
    rw (p.1, p.2) (refused_later (inputs_judged U.declared.inputs (at_member path (codes "inputs")) form.inputs)
    (λ vs. if_accepted (own_judged U (at_member path (codes "own")) form.own) (λ own. if_accepted (nears_judged U c.args.device (at_member path (codes "near")) form.near) (λ ns. Accepted (record { device = c.args.device; inputs = vs; own = own; near = ns })))) vs f first
    (refused_later (own_judged U (at_member path (codes "own")) form.own) (λ own. if_accepted (nears_judged U c.args.device (at_member path (codes "near")) form.near) (λ ns. Accepted (record { device = c.args.device; inputs = vs; own = own; near = ns }))) own f c.in_ok-own.ensures.ok
    (refused_next (nears_judged U c.args.device (at_member path (codes "near")) form.near) (λ ns. Accepted (record { device = c.args.device; inputs = vs; own = own; near = ns })) f
    c.in_err-near.ensures.refused)))

pub returns-clause-snap : goal.returns-clause-snap
returns-clause-snap c =
    let U = unfolding_of c.args.program.now in
    let vs = map local_of c.in_ok-inputs.inputs.items in
    let declared = c.deref-2.ensures.value ∙ c.in_ok-wanted.ensures ∙ ap (map input_of) c.deref.ensures.value ∙ ap (λ (d : Declarations). d.inputs) c.declared-declared.ensures.value in
    parts_fit U (record { device = c.args.device; inputs = c.in_ok-inputs.inputs; own = c.in_ok-own.own; near = c.in_ok-near.near })
    (subst (λ (is : List Input). InputsFit is vs) declared c.in_ok-inputs.ensures.fit)
    c.in_ok-own.ensures.export c.in_ok-near.ensures.near c.in_ok-near.ensures.few
