use Rattle.std.proofs.Common.{◌≡◌, ◌∙◌, refl, ap, map, rules, None}
use Rattle.std.specs.Prelude.{bytes_eq}
use Rattle.fc_types.specs.Before.{input_named, function_named}
use Rattle.fc_types.specs.Views.{input_entry, function_entry}
use Rattle.fc_types.proofs.Entries.{input_added, function_added}
use Rattle.fc_types.proofs.known.Known.declare.Goals as goal

pub returns-in_ok-insert-in-Input : goal.returns-in_ok-insert-in-Input
returns-in_ok-insert-in-Input c =
    let r = rw c.in-Input.is at c.requires in
    let none : input_named c.deref.result.now (map input_entry c.args.self.now.inputs.entries) ≡ None = rw c.deref.ensures.value r.0 in
    let added = ap (map input_entry) c.in_ok-insert-in-Input.ensures.entries ∙ input_added (λ a b. bytes_eq a.now b.now) (λ a b. refl) c.deref.result c.in-Input.ty c.args.self.now.inputs.entries none in
    rw (c.in-Input.is, ← c.deref.ensures.value) (search (rules, added))

pub returns-in_ok-insert-in-Def : goal.returns-in_ok-insert-in-Def
returns-in_ok-insert-in-Def c =
    let r = rw c.in-Def.is at c.requires in
    let none : function_named c.deref-in-Def-2.result.now (map function_entry c.args.self.now.functions.entries) ≡ None = rw c.deref-in-Def-2.ensures.value r.0 in
    let added = ap (map function_entry) c.in_ok-insert-in-Def.ensures.entries ∙ function_added (λ a b. bytes_eq a.now b.now) (λ a b. refl) c.deref-in-Def-2.result _ c.args.self.now.functions.entries none in
    rw (c.in-Def.is, ← c.deref-in-Def-2.ensures.value, ← c.deref-in-Def.ensures.value) (search (rules, added))
