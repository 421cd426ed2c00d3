-- Rising numbers, read by place.
use Rattle.std.proofs.Common.{ℕ, zero, suc, ◌<◌, ◌≤◌, ◌≡◌, List, [], ◌∷◌, length, get_or, arith}
use Rattle.fc_values.specs.Fields.{Rises}

pub later_above : (d : ℕ) (ds : List ℕ) (k : ℕ) → Rises (d ∷ ds) → k < length ds → d < get_or ds k 0
later_above d [] k r h = absurd (omega arith)
later_above d (e ∷ ds) zero r h = r.0
later_above d (e ∷ ds) (suc k) r h = let l = later_above e ds k r.1 (omega arith) in omega arith

pub rises_rest : (d : ℕ) (ds : List ℕ) → Rises (d ∷ ds) → Rises ds
rises_rest d [] r = tt
rises_rest d (e ∷ ds) r = r.1

-- what a search by halves asks
pub rises_far : (ds : List ℕ) → Rises ds → (i j : ℕ) → i ≤ j → j < length ds → get_or ds i 0 ≤ get_or ds j 0
rises_far [] r i j le h = absurd (omega arith)
rises_far (d ∷ ds) r zero zero le h = omega arith
rises_far (d ∷ ds) r zero (suc j) le h = let l = later_above d ds j r (omega arith) in omega arith
rises_far (d ∷ ds) r (suc i) zero le h = absurd (omega arith)
rises_far (d ∷ ds) r (suc i) (suc j) le h = rises_far ds (rises_rest d ds r) i j (omega arith) (omega arith)

pub rises_apart : (ds : List ℕ) → Rises ds → (i j : ℕ) → i < j → j < length ds → get_or ds i 0 < get_or ds j 0
rises_apart [] r i j lt h = absurd (omega arith)
rises_apart (d ∷ ds) r i zero lt h = absurd (omega arith)
rises_apart (d ∷ ds) r zero (suc j) lt h = later_above d ds j r (omega arith)
rises_apart (d ∷ ds) r (suc i) (suc j) lt h = rises_apart ds (rises_rest d ds r) i j (omega arith) (omega arith)

-- a number stands at one place
pub rises_once : (ds : List ℕ) → Rises ds → (i j : ℕ) → i < length ds → j < length ds → get_or ds i 0 ≡ get_or ds j 0 → i ≡ j
rises_once ds r i j h k e =
    let f : i < j → get_or ds i 0 < get_or ds j 0 = λ l. rises_apart ds r i j l k in
    let g : j < i → get_or ds j 0 < get_or ds i 0 = λ l. rises_apart ds r j i l h in
    grind (arith, f, g)
