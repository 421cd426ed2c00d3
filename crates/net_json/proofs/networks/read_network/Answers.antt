use Rattle.std.proofs.Common.{◌≡◌, List, [], sym, ◌∙◌, ap, subst, map, IfOk, IfErr}
use Rattle.std.specs.Prelude.{codes}
use Rattle.std.proofs.lemmas.Result.{err_from_is_err_and}
use Rattle.serde_json.specs.View.{items_view}
use Rattle.fc_values.specs.Types.{Input, Declarations, declarations_of, input_of}
use Rattle.fc_nodes.specs.Program.{Unfolding, unfolding_of}
use Rattle.topology.specs.Networks.{NetDevice, Network, net_device_of, network_of}
use Rattle.serde_json.specs.Data.{Items}
use Rattle.net_json.specs.Judging.{JudgedScene, Accepted, if_accepted, RefusedWith}
use Rattle.net_json.specs.Devices.{devices_judged}
use Rattle.net_json.specs.Links.{links_judged}
use Rattle.net_json.specs.Scenes.{scene_path, network_judged}
use Rattle.net_json.proofs.Judgements.{refused_next}
use Rattle.net_json.proofs.AcceptedParts.{devices_accepted}
use Rattle.net_json.proofs.networks.read_network.Goals as goal

-- the devices of the definition are those of the call
devices_are : (is js : List Input) (ds : Items) → is ≡ js
    → devices_judged js (scene_path (codes "devices")) ds ≡ devices_judged is (scene_path (codes "devices")) ds
devices_are is js ds e = ap (λ (ks : List Input). devices_judged ks (scene_path (codes "devices")) ds) (sym e)

links_are : (U : Unfolding) (is : List Input) (D : Declarations) (ds ls : Items) (ns : List NetDevice) (n : Network)
    → is ≡ U.declared.inputs → D ≡ U.declared → devices_judged is (scene_path (codes "devices")) ds ≡ Accepted ns → n ≡ network_of D ns []
    → network_judged U ds ls ≡ links_judged (scene_path (codes "links")) n ls
links_are U is D ds ls ns n inputs declared e h =
    ap (λ (j : JudgedScene (List NetDevice)). if_accepted j (λ ms. links_judged (scene_path (codes "links")) (network_of U.declared ms []) ls))
    (devices_are is U.declared.inputs ds inputs ∙ e)
    ∙ ap (λ (m : Network). links_judged (scene_path (codes "links")) m ls) (sym (h ∙ ap (λ (d : Declarations). network_of d ns []) declared))

pub new-requires : goal.new-requires
new-requires c =
    let declared = c.in_ok-declared.declared in
    let ns = map net_device_of c.in_ok-devices.devices.items in
    devices_accepted (declarations_of declared) (scene_path (codes "devices")) (items_view c.args.devices.now) ns
    (subst (λ (is : List Input). devices_judged is (scene_path (codes "devices")) (items_view c.args.devices.now) ≡ Accepted ns) (ap (map input_of) c.deref.ensures.value) c.in_ok-devices.ensures.ok)

pub returns-in_err-devices-clause-refused : goal.returns-in_err-devices-clause-refused
returns-in_err-devices-clause-refused c =
    let U = unfolding_of c.args.program.now in
    let ds = items_view c.args.devices.now in
    let ls = items_view c.args.links.now in
    let f = c.in_err-devices.field-0.0 in
    let p = err_from_is_err_and c.from_residual-in_err-devices.result c.from_residual-in_err-devices.ensures.1 in
    let inputs = ap (map input_of) c.deref.ensures.value ∙ ap (λ (d : Declarations). d.inputs) (c.in_ok-declared.ensures ∙ c.declared.ensures.value) in
    let same = devices_are (map input_of c.deref.result.now) U.declared.inputs ds inputs in
    rw (p.1, p.2) (refused_next (devices_judged U.declared.inputs (scene_path (codes "devices")) ds) (λ ms. links_judged (scene_path (codes "links")) (network_of U.declared ms []) ls) f
    (subst (λ (j : JudgedScene (List NetDevice)). RefusedWith j f) (sym same) c.in_err-devices.ensures.refused))

pub returns-clause-ok : goal.returns-clause-ok
returns-clause-ok c =
    let declared = c.in_ok-declared.ensures ∙ c.declared.ensures.value in
    subst (λ (j : JudgedScene Network). IfOk c.read_links.result (λ n. j ≡ Accepted n))
    (sym (links_are (unfolding_of c.args.program.now) (map input_of c.deref.result.now) (declarations_of c.in_ok-declared.declared) (items_view c.args.devices.now) (items_view c.args.links.now)
    (map net_device_of c.in_ok-devices.devices.items) c.in_ok-draft.draft
    (ap (map input_of) c.deref.ensures.value ∙ ap (λ (d : Declarations). d.inputs) declared) declared c.in_ok-devices.ensures.ok c.in_ok-draft.ensures))
    c.read_links.ensures.ok

pub returns-clause-refused : goal.returns-clause-refused
returns-clause-refused c =
    let declared = c.in_ok-declared.ensures ∙ c.declared.ensures.value in
    subst (λ (j : JudgedScene Network). IfErr c.read_links.result (RefusedWith j))
    (sym (links_are (unfolding_of c.args.program.now) (map input_of c.deref.result.now) (declarations_of c.in_ok-declared.declared) (items_view c.args.devices.now) (items_view c.args.links.now)
    (map net_device_of c.in_ok-devices.devices.items) c.in_ok-draft.draft
    (ap (map input_of) c.deref.ensures.value ∙ ap (λ (d : Declarations). d.inputs) declared) declared c.in_ok-devices.ensures.ok c.in_ok-draft.ensures))
    c.read_links.ensures.refused
