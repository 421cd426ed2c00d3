-- The members of an object have names that are text.
use Rattle.std.proofs.Common.{◌≡◌, ℕ, List, [], ◌∷◌, Some, None, String, Global, Ordering, Less, Equal, Greater, string_bytes, nat_cmp, is_eq, refl, sym, ap, ◌∙◌, subst, option_and_then}
use Rattle.std.specs.Str.{IsUtf8}
use Rattle.std.specs.Cmp.Lexicographic.{slice_cmp}
use Rattle.std.specs.Ordering.{match_ordering}
use Rattle.std.proofs.lemmas.Str.{IsUtf8-string_bytes}
use Rattle.std.proofs.lemmas.Map.Text.{is_eq-slice_cmp}
use Rattle.std.proofs.lemmas.Slice.Eq.{bytes_eq-Decides}
use Rattle.serde_json.specs.Data.{Data, null, boolean, number, string, array, object}
use Rattle.serde_json.specs.Find.{get, get_member, as_object}
use Rattle.serde_json.specs.View.{view, members_view}
use Rattle.serde_json.specs.declared.value.Value.{Value}

pub no_member : (name : List ℕ) (es : List (String Global × Value)) → (IsUtf8 name → ⊥) → get_member name (members_view es) ≡ None
no_member name [] u = refl
no_member name (e ∷ es) u = by_order (slice_cmp nat_cmp name (string_bytes e.0)) refl (no_member name es u)
  where
    by_order : (o : Ordering) → slice_cmp nat_cmp name (string_bytes e.0) ≡ o → get_member name (members_view es) ≡ None
        → match_ordering o (get_member name (members_view es)) (Some (view e.1)) (get_member name (members_view es)) ≡ None
    by_order Less t ih = ih
    by_order Equal t ih =
        let same : name ≡ string_bytes e.0 = (bytes_eq-Decides name (string_bytes e.0)).0 (sym (is_eq-slice_cmp name (string_bytes e.0)) ∙ ap is_eq t) in
        absurd (u (subst IsUtf8 (sym same) (IsUtf8-string_bytes e.0)))
    by_order Greater t ih = ih

pub get_of_object : (name : List ℕ) (d : Data) → get name d ≡ option_and_then (get_member name) (as_object d)
get_of_object name null = refl
get_of_object name (boolean b) = refl
get_of_object name (number n) = refl
get_of_object name (string s) = refl
get_of_object name (array ds) = refl
get_of_object name (object ms) = refl
