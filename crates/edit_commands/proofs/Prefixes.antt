-- How many things in front pass a test.
use Rattle.std.proofs.Common.{◌≡◌, ◌+◌, Bool, List, [], ◌∷◌, map, cond, refl, ap}
use Rattle.std.specs.List.{prefix_len}

pub prefix_len_mapped : {X Y : Type 0} (p : Y → Bool) (f : X → Y) (xs : List X) → prefix_len p (map f xs) ≡ prefix_len (λ x. p (f x)) xs
prefix_len_mapped p f [] = refl
prefix_len_mapped p f (x ∷ xs) = ap (λ n. cond (p (f x)) (1 + n) 0) (prefix_len_mapped p f xs)
