-- The JSON value of a text.
use Rattle.std.proofs.Common.{◌≡◌, ℕ, List, refl, Bool, true, false, Some, None}
use Rattle.std.specs.Prelude.{if◌then◌else◌}
use Rattle.std.specs.Str.{IsUtf8, is_utf8}
use Rattle.std.proofs.lemmas.Str.{IsUtf8-from_is_utf8, is_utf8-from_IsUtf8}
use Rattle.serde_json.specs.Data.{Data}
use Rattle.serde_json.specs.Read.{read}
use Rattle.net_json.specs.Scenes.{json_of}

module _ (text : List ℕ) where
  pub json_is : (d : Data) → IsUtf8 text → read text ≡ Some d → json_of text ≡ Some d
  json_is d u e = let t = is_utf8-from_IsUtf8 text u in rw t e

  pub no_json : (IsUtf8 text → read text ≡ None) → json_of text ≡ None
  no_json h = by_test (is_utf8 text) refl
    where
      by_test : (q : Bool) → is_utf8 text ≡ q → (if q then read text else None) ≡ None
      by_test true e = h (IsUtf8-from_is_utf8 text e)
      by_test false e = refl
