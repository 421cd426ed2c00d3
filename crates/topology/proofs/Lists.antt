-- Lists: one element more in its place, and the place that a search by halves finds.
use Rattle.std.proofs.Common.{◌≡◌, ℕ, zero, suc, ◌+◌, ◌≤◌, List, [], ◌∷◌, length, map, refl, ap, arith, Bool, true, false, cond}
use Rattle.std.specs.List.{insert, filter, prefix_len}
use Rattle.std.specs.List.Sorted.{IsPartitionPoint}

-- how many elements in front pass a test
abbrev pub front : {X : Type 0} → (X → Bool) → List X → ℕ
front p [] = zero
front p (x ∷ xs) = cond (p x) (suc (front p xs)) zero

pub front_len : {X : Type 0} (p : X → Bool) (xs : List X) → prefix_len p xs ≡ front p xs
front_len p [] = refl
front_len p (x ∷ xs) = by_test (p x) (front_len p xs)
  where
    by_test : (b : Bool) → prefix_len p xs ≡ front p xs → cond b (1 + prefix_len p xs) 0 ≡ cond b (suc (front p xs)) zero
    by_test true ih = omega arith
    by_test false ih = refl

-- the place that a search by halves finds is after those
pub front_is : {X : Type 0} (p : X → Bool) (xs : List X) (k : ℕ) → k ≤ length xs → IsPartitionPoint (λ y. p y ≡ true) (λ y. p y ≡ false) xs k → k ≡ front p xs
front_is p [] k h q = omega arith
front_is p (x ∷ xs) zero h q = let f : p x ≡ false = q.1 zero x (omega arith) (omega arith) in rw f refl
front_is p (x ∷ xs) (suc k) h q =
    let t : p x ≡ true = q.0 zero x (omega arith) (omega arith) in
    rw t (ap suc (front_is p xs k (omega arith) ((λ i d l u. q.0 (suc i) d (omega arith) (omega arith)), (λ i d l u. q.1 (suc i) d (omega arith) (omega arith)))))

pub front_within : {X : Type 0} (p : X → Bool) (xs : List X) → front p xs ≤ length xs
front_within p [] = omega arith
front_within p (x ∷ xs) = by_test (p x) (front_within p xs)
  where
    by_test : (b : Bool) → front p xs ≤ length xs → cond b (suc (front p xs)) zero ≤ suc (length xs)
    by_test true ih = omega arith
    by_test false ih = omega arith

pub filter_map_of : {X Y : Type 0} (f : X → Y) (p : Y → Bool) (xs : List X) → map f (filter (λ y. p (f y)) xs) ≡ filter p (map f xs)
filter_map_of f p [] = refl
filter_map_of f p (y ∷ ys) = by_test (p (f y)) (filter_map_of f p ys)
  where
    by_test : (b : Bool) → map f (filter (λ y. p (f y)) ys) ≡ filter p (map f ys) → map f (cond b (y ∷ filter (λ y. p (f y)) ys) (filter (λ y. p (f y)) ys)) ≡ cond b (f y ∷ filter p (map f ys)) (filter p (map f ys))
    by_test true ih = ap (λ zs. f y ∷ zs) ih
    by_test false ih = ih

pub filter_length : {X : Type 0} (p : X → Bool) (xs : List X) → length (filter p xs) ≤ length xs
filter_length p [] = omega arith
filter_length p (y ∷ ys) = by_test (p y) (filter_length p ys)
  where
    by_test : (b : Bool) → length (filter p ys) ≤ length ys → length (cond b (y ∷ filter p ys) (filter p ys)) ≤ suc (length ys)
    by_test true ih = omega arith
    by_test false ih = omega arith

pub prefix_within : {X : Type 0} (p : X → Bool) (xs : List X) → prefix_len p xs ≤ length xs
prefix_within p xs = let k = front_len p xs in let h = front_within p xs in omega arith

pub prefix_map : {X Y : Type 0} (f : X → Y) (p : Y → Bool) (xs : List X) → prefix_len (λ x. p (f x)) xs ≡ prefix_len p (map f xs)
prefix_map f p [] = refl
prefix_map f p (x ∷ xs) = by_test (p (f x)) (prefix_map f p xs)
  where
    by_test : (b : Bool) → prefix_len (λ x. p (f x)) xs ≡ prefix_len p (map f xs) → cond b (1 + prefix_len (λ x. p (f x)) xs) 0 ≡ cond b (1 + prefix_len p (map f xs)) 0
    by_test true ih = ap (λ n. 1 + n) ih
    by_test false ih = refl

-- an element put at a place of elements, and its image at the place of the images
pub map_insert : {X Y : Type 0} (f : X → Y) (xs : List X) (i : ℕ) (x : X) → map f (insert xs i x) ≡ insert (map f xs) i (f x)
map_insert f [] zero x = refl
map_insert f [] (suc i) x = refl
map_insert f (y ∷ ys) zero x = refl
map_insert f (y ∷ ys) (suc i) x = ap (λ zs. f y ∷ zs) (map_insert f ys i x)
