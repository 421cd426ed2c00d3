-- Steps of reading from and writing to lists of bytes.
use Rattle.std.proofs.Common.{ℕ, ◌≡◌, ◌+◌, ◌-◌, ◌<◌, ◌≤◌, List, [], ◌++◌, length, take, drop, ap, ◌∙◌, sym, arith, min, take-append-drop, length-drop}
use Rattle.std.proofs.Math.Seq.{take-add}
use Rattle.std.proofs.lemmas.List.{drop_all}
use Rattle.std.proofs.lemmas.Grind.{common_steps}

pub take_rest : (xs : List ℕ) (done count : ℕ) → take (done + count) xs ≡ take done xs ++ take count (take (length xs - done) (drop done xs))
take_rest xs done count = take-add done count xs ∙ grind (arith, common_steps)

later : (xs : List ℕ) (at count : ℕ) → drop count (drop at xs) ≡ drop (at + count) xs
later xs at count = grind (arith, common_steps)

-- the bytes that were given are the first of those that were left
pub read_front : (xs ys buf : List ℕ) (at count : ℕ) → ys ≡ xs → take count buf ≡ take count (drop at ys) → drop at xs ≡ take count buf ++ drop (at + count) xs
read_front xs ys buf at count same e =
    sym (take-append-drop count (drop at xs))
    ∙ ap (λ l. l ++ drop count (drop at xs)) (sym (e ∙ ap (λ l. take count (drop at l)) same))
    ∙ ap (λ l. take count buf ++ l) (later xs at count)

-- none are given only at the end
pub read_end : (xs ys : List ℕ) (at count most room : ℕ) → ys ≡ xs → count ≡ min (min most room) (length ys - at) → 0 < most → 0 < room → count ≡ 0
    → drop (at + count) xs ≡ []
read_end xs ys at count most room same e m r zero = drop_all (at + count) xs (omega (arith, ap length same))

-- how many are given, in the words of a contract
pub read_count : (xs ys left : List ℕ) (at count room most m : ℕ) → ys ≡ xs → drop at xs ≡ left → m ≡ most → count ≡ min (min m room) (length ys - at)
    → count ≡ min (min most room) (length left)
read_count xs ys left at count room most m same l n e = omega (arith, ap length same, sym (ap length l) ∙ length-drop at xs)

-- where no more is asked for than the limit leaves, no more is read than the limit and one
pub read_within : (xs given buf : List ℕ) (count want most : ℕ) → count ≤ length given → length given ≡ length (take want buf) → length xs + want ≤ most
    → length (xs ++ take count given) ≤ most
read_within xs given buf count want most c l w = grind (arith, common_steps)
