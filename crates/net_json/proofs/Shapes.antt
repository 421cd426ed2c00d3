-- Lists and objects of JSON by how many they are.
use Rattle.std.proofs.Common.{◌≡◌, suc, List, [], ◌∷◌, length, map, None, refl, ap, String, Global}
use Rattle.serde_json.specs.Data.{Data, array}
use Rattle.serde_json.specs.View.{view, items_of, members_view}
use Rattle.serde_json.specs.declared.value.Value.{Value}
use Rattle.net_json.specs.Reading.{value_of, count_items, count_members}
use Rattle.net_json.specs.KeptItems.{place_and_value}

pub count_entries : (es : List (String Global × Value)) → count_members (members_view es) ≡ length es
count_entries [] = refl
count_entries (e ∷ es) = ap suc (count_entries es)

pub no_pair : (ds : List Data) → (length ds ≡ 2 → ⊥) → None ≡ value_of (array (items_of ds))
no_pair [] h = refl
no_pair (a ∷ []) h = refl
no_pair (a ∷ b ∷ []) h = absurd (h refl)
no_pair (a ∷ b ∷ c ∷ ds) h = refl

pub count_values : (vs : List Value) → count_items (items_of (map view vs)) ≡ length vs
count_values [] = refl
count_values (v ∷ vs) = ap suc (count_values vs)

pub no_place : (ds : List Data) → (length ds ≡ 2 → ⊥) → None ≡ place_and_value (items_of ds)
no_place [] h = refl
no_place (a ∷ []) h = refl
no_place (a ∷ b ∷ []) h = absurd (h refl)
no_place (a ∷ b ∷ c ∷ ds) h = refl
