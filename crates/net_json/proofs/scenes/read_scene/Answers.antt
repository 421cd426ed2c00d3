use Rattle.std.proofs.Common.{◌≡◌, sym, ◌∙◌, ap, subst, true, false, IfOk, IfErr}
use Rattle.serde_json.specs.View.{view}
use Rattle.fc_nodes.specs.Program.{unfolding_of}
use Rattle.net_json.specs.Judging.{JudgedScene, Accepted, RefusedWith}
use Rattle.net_json.specs.SceneCode.{value_of_scene}
use Rattle.net_json.specs.Scenes.{SceneValue, of_reading}
use Rattle.net_json.proofs.Jsons.{json_is, no_json}
use Rattle.net_json.proofs.scenes.read_scene.Goals as goal

pub returns-in-Ok-clause-ok : goal.returns-in-Ok-clause-ok
returns-in-Ok-clause-ok c =
    let U = unfolding_of c.args.program.now in
    let e = c.in-Ok.ensures.ok in
    subst (λ (j : JudgedScene SceneValue). IfOk c.read_value.result (λ s. j ≡ Accepted (value_of_scene U s))) (sym (ap (of_reading U) (json_is c.args.text.now (view c.in-Ok.value) e.0 e.1))) c.read_value.ensures.ok

pub returns-in-Ok-clause-refused : goal.returns-in-Ok-clause-refused
returns-in-Ok-clause-refused c =
    let U = unfolding_of c.args.program.now in
    let e = c.in-Ok.ensures.ok in
    subst (λ (j : JudgedScene SceneValue). IfErr c.read_value.result (RefusedWith j)) (sym (ap (of_reading U) (json_is c.args.text.now (view c.in-Ok.value) e.0 e.1))) c.read_value.ensures.refused

pub returns-in-Err-2-clause-refused : goal.returns-in-Err-2-clause-refused
returns-in-Err-2-clause-refused c =
    ap (of_reading (unfolding_of c.args.program.now)) (no_json c.args.text.now (c.in-Err.ensures.err (λ m. let clash : false ≡ true = sym c.if-is_memory.false ∙ c.is_memory.ensures.1 m in absurd cc)))
