-- A list that is rewritten item by item.
use Rattle.std.proofs.Common.{◌≡◌, ℕ, zero, suc, ◌<◌, ◌≤◌, ◌+◌, List, [], ◌∷◌, ◌++◌, length, map, take, get_or, refl, ◌∙◌, ap, arith}
use Rattle.std.specs.Prelude.{slice_set}
use Rattle.std.proofs.Math.Seq.{take-suc}

-- the first items are replaced by what a function makes of them
abbrev pub mapped : {X : Type 0} → (X → X) → ℕ → List X → List X
mapped f zero xs = xs
mapped f (suc i) [] = []
mapped f (suc i) (x ∷ xs) = f x ∷ mapped f i xs

mapped_next : {X : Type 0} (f : X → X) (i : ℕ) (xs : List X) (z : X) → i < length xs → slice_set (mapped f i xs) i (f (get_or (mapped f i xs) i z)) ≡ mapped f (suc i) xs
mapped_next f zero [] z h = absurd (omega arith)
mapped_next f zero (x ∷ xs) z h = refl
mapped_next f (suc i) [] z h = absurd (omega arith)
mapped_next f (suc i) (x ∷ xs) z h = ap (λ ys. f x ∷ ys) (mapped_next f i xs z (omega arith))

pub one_mapped : {X : Type 0} (f : X → X) (i : ℕ) (old now : List X) (x y z : X) → now ≡ mapped f i old → i < length old → x ≡ get_or now i z → y ≡ f x → slice_set now i y ≡ mapped f (i + 1) old
one_mapped f i old now x y z is h read made =
    let s : suc i ≡ i + 1 = omega arith in
    let q : y ≡ f (get_or (mapped f i old) i z) = made ∙ ap f (read ∙ ap (λ xs. get_or xs i z) is) in
    ap (λ xs. slice_set xs i y) is ∙ ap (slice_set (mapped f i old) i) q ∙ mapped_next f i old z h ∙ ap (λ n. mapped f n old) s

pub all_mapped : {X : Type 0} (f : X → X) (i : ℕ) (xs : List X) → length xs ≤ i → mapped f i xs ≡ map f xs
all_mapped f zero [] h = refl
all_mapped f zero (x ∷ xs) h = absurd (omega arith)
all_mapped f (suc i) [] h = refl
all_mapped f (suc i) (x ∷ xs) h = ap (λ ys. f x ∷ ys) (all_mapped f i xs (omega arith))

pub set_mapped : {A B : Type 0} (f : A → B) (xs : List A) (p : ℕ) (v : A) → map f (slice_set xs p v) ≡ slice_set (map f xs) p (f v)
set_mapped f [] p v = refl
set_mapped f (x ∷ xs) zero v = refl
set_mapped f (x ∷ xs) (suc p) v = ap (λ ys. f x ∷ ys) (set_mapped f xs p v)

pub read_mapped : {A B : Type 0} (f : A → B) (xs : List A) (p : ℕ) (v : A) (z : B) → p < length xs → v ≡ get_or xs p v → f v ≡ get_or (map f xs) p z
read_mapped f [] p v z h q = absurd (omega arith)
read_mapped f (x ∷ xs) zero v z h q = ap f q
read_mapped f (x ∷ xs) (suc p) v z h q = read_mapped f xs p v z (omega arith) q

pub take_more : {X : Type 0} (xs : List X) (i : ℕ) (z : X) → i < length xs → take (i + 1) xs ≡ take i xs ++ get_or xs i z ∷ []
take_more xs i z h = let s : i + 1 ≡ suc i = omega arith in ap (λ n. take n xs) s ∙ take-suc xs i z h

pub take_all : {X : Type 0} (xs : List X) (i : ℕ) → length xs ≤ i → take i xs ≡ xs
take_all [] zero h = refl
take_all [] (suc i) h = refl
take_all (x ∷ xs) zero h = absurd (omega arith)
take_all (x ∷ xs) (suc i) h = ap (λ ys. x ∷ ys) (take_all xs i (omega arith))
