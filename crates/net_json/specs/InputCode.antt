-- The names of inputs in code.
use Rattle.std.specs.Prelude.{ℕ, ◌≡◌, List, Option, Some, None}
use Rattle.std.specs.Borrow.{Bor}
use Rattle.std.specs.Str.{IsUtf8}

-- a name as text, none where it isn't UTF-8
abbrev pub IsTextOf : List ℕ → Option (Bor (List ℕ)) → Type 0
IsTextOf name None = IsUtf8 name → ⊥
IsTextOf name (Some text) = text.now ≡ name
