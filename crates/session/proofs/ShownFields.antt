-- What a `show` writes where devices hold a field. Crates above cite this module.
use Rattle.std.proofs.Common.{◌≡◌, ℕ, List, [], ◌∷◌, ◌++◌, map, refl, ap, ◌∙◌, true, nat_eq, Option, Some}
use Rattle.std.proofs.lemmas.Bool.{eq-eqb}
use Rattle.std.specs.Prelude.{flat_map, option_map}
use Rattle.fc_values.proofs.Booleans.{or_true}
use Rattle.fc_values.specs.Fields.{is_in}
use Rattle.fc_values.specs.Trees.{TreeExport}
use Rattle.fc_values.specs.Values.{LocalValue}
use Rattle.topology.specs.Networks.{NetDevice, numbers}
use Rattle.firing_core.specs.Cores.{Core}
use Rattle.report.specs.Texts.{device_line, export_value, values_text, field_text}
use Rattle.session.specs.Promises.{HoldsField, field_on}

lines_of : (exports : ℕ → Option TreeExport) (field : ℕ → LocalValue) (ds : List NetDevice)
    → ((d : ℕ) → is_in d (numbers ds) ≡ true → (e : TreeExport) × (exports d ≡ Some e) × (e.value ≡ field d))
    → flat_map (λ (d : NetDevice). device_line d.id (option_map export_value (exports d.id))) ds ≡ field_text (map (λ (d : ℕ). (d, field d)) (numbers ds))
lines_of exports field [] h = refl
lines_of exports field (n ∷ ns) h =
    let k = h n.id (let t = eq-eqb n.id n.id refl in rw t refl) in
    let one : option_map export_value (exports n.id) ≡ Some (field n.id) = ap (λ o. option_map export_value o) k.1 ∙ ap (λ v. Some v) k.2 in
    let rest = lines_of exports field ns (λ d i. h d (or_true (nat_eq d n.id) (is_in d (numbers ns)) i)) in
    (λ i. device_line n.id (one i) ++ rest i)

pub values_held : (c : Core) (field : ℕ → LocalValue) → HoldsField c field → values_text c ≡ field_text (field_on c.net field)
values_held c field h = lines_of c.exports field c.net.devices h
