use Rattle.std.proofs.Common.{◌∙◌, sym, ap, subst, option_map, option_and_then}
use Rattle.serde_json.specs.Find.{get, get_member}
use Rattle.serde_json.specs.View.{view, members_view}
use Rattle.serde_json.proofs.Views.{view_of_ref, view-lookup}
use Rattle.fc_values.specs.Types.{Input}
use Rattle.net_json.specs.InputCode.{IsTextOf}
use Rattle.net_json.proofs.MemberNames.{no_member, get_of_object}
use Rattle.net_json.proofs.inputs.member.Goals as goal

pub returns-in_err-input : goal.returns-in_err-input
returns-in_err-input c =
    let name = c.input.inside.input.now.name.text.items in
    let apart = subst (IsTextOf name) c.in_err-input.was c.input.invariant in
    ap (option_map (λ v. view v.now)) c.from_residual-in_err-input.ensures
    ∙ sym (no_member name c.in_ok-members.members.now.entries apart)
    ∙ ap (option_and_then (get_member name)) c.in_ok-members.ensures
    ∙ sym (get_of_object name (view c.args.value.now))
    ∙ ap (λ (i : Input). get i.name (view c.args.value.now)) c.input.view_is

pub returns : goal.returns
returns c =
    let name = c.input.inside.input.now.name.text.items in
    let same = subst (IsTextOf name) c.in_ok-input.was c.input.invariant in
    view_of_ref c.get.result
    ∙ ap (option_map view) c.get.ensures.value
    ∙ view-lookup c.in_ok-input.field-0.now c.in_ok-members.members.now.entries
    ∙ ap (λ n. get_member n (members_view c.in_ok-members.members.now.entries)) same
    ∙ ap (option_and_then (get_member name)) c.in_ok-members.ensures
    ∙ sym (get_of_object name (view c.args.value.now))
    ∙ ap (λ (i : Input). get i.name (view c.args.value.now)) c.input.view_is
