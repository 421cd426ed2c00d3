-- Lists of anything.
use Rattle.std.specs.Prelude.{Bool, List, [], ◌∷◌, if◌then◌else◌}

-- one more, after those in front that pass a test
abbrev pub insert_after : {X : Type 0} → (X → Bool) → X → List X → List X
insert_after p x [] = x ∷ []
insert_after p x (y ∷ ys) = if p y then y ∷ insert_after p x ys else x ∷ y ∷ ys
