-- A link has three items.
use Rattle.std.proofs.Common.{◌≡◌, ◌<◌, ◌≤◌, List, [], ◌∷◌, length, None, refl, arith}
use Rattle.serde_json.specs.Data.{Data}
use Rattle.serde_json.specs.View.{items_of}
use Rattle.net_json.specs.Links.{three_numbers}

pub fewer : (ds : List Data) → length ds < 3 → three_numbers (items_of ds) ≡ None
fewer [] h = refl
fewer (a ∷ []) h = refl
fewer (a ∷ b ∷ []) h = refl
fewer (a ∷ b ∷ c ∷ ds) h = absurd (omega arith)

pub more : (ds : List Data) → 4 ≤ length ds → three_numbers (items_of ds) ≡ None
more [] h = absurd (omega arith)
more (a ∷ []) h = absurd (omega arith)
more (a ∷ b ∷ []) h = absurd (omega arith)
more (a ∷ b ∷ c ∷ []) h = absurd (omega arith)
more (a ∷ b ∷ c ∷ d ∷ ds) h = refl
