-- The rooms that workers keep: lists of them are cut and put together.
use Rattle.std.proofs.Common.{ℕ, zero, suc, List, [], ◌∷◌, ◌++◌, drop, take, length, Option, None, ◌≡◌, sym, ap, subst, arith}
use Rattle.std.proofs.lemmas.List.{length-append}
use Rattle.fc_nodes.specs.Program.{Program, Unfolding, unfolding_of}
use Rattle.firing_core.specs.Rooms.{RoomValue}
use Rattle.worker_pool.specs.Working.{AreRooms}

rooms_front : (U : Unfolding) (xs ys : List (Option RoomValue)) → AreRooms U (xs ++ ys) → AreRooms U xs
rooms_front U [] ys r = tt
rooms_front U (x ∷ xs) ys r = (r.0, rooms_front U xs ys r.1)

rooms_back : (U : Unfolding) (xs ys : List (Option RoomValue)) → AreRooms U (xs ++ ys) → AreRooms U ys
rooms_back U [] ys r = r
rooms_back U (x ∷ xs) ys r = rooms_back U xs ys r.1

pub rooms_both : (U : Unfolding) (xs ys : List (Option RoomValue)) → AreRooms U xs → AreRooms U ys → AreRooms U (xs ++ ys)
rooms_both U [] ys a b = b
rooms_both U (x ∷ xs) ys a b = (a.0, rooms_both U xs ys a.1 b)

rooms_take : (U : Unfolding) (n : ℕ) (rs : List (Option RoomValue)) → AreRooms U rs → AreRooms U (take n rs)
rooms_take U zero [] r = tt
rooms_take U zero (x ∷ xs) r = tt
rooms_take U (suc n) [] r = tt
rooms_take U (suc n) (x ∷ xs) r = (r.0, rooms_take U n xs r.1)

rooms_drop : (U : Unfolding) (n : ℕ) (rs : List (Option RoomValue)) → AreRooms U rs → AreRooms U (drop n rs)
rooms_drop U zero [] r = tt
rooms_drop U zero (x ∷ xs) r = r
rooms_drop U (suc n) [] r = tt
rooms_drop U (suc n) (x ∷ xs) r = rooms_drop U n xs r.1

-- rooms over which others were written
pub rooms_over : (U : Unfolding) (n : ℕ) (xs ys : List (Option RoomValue)) → AreRooms U xs → AreRooms U ys → AreRooms U (take n (xs ++ drop (length xs) ys))
rooms_over U n xs ys a b = rooms_take U n (xs ++ drop (length xs) ys) (rooms_both U xs (drop (length xs) ys) a (rooms_drop U (length xs) ys b))

-- of a list that is cut in two, the second part and the first
pub rooms_cut : (U : Unfolding) (all xs ys : List (Option RoomValue)) → all ≡ xs ++ ys → AreRooms U all → AreRooms U ys × AreRooms U xs
rooms_cut U all xs ys is r = let s = subst (AreRooms U) is r in (rooms_back U xs ys s, rooms_front U xs ys s)

-- one more place, without a room
pub rooms_more : (U : Unfolding) (rs : List (Option RoomValue)) → AreRooms U rs → AreRooms U (rs ++ None ∷ [])
rooms_more U rs r = rooms_both U rs (None ∷ []) r (tt, tt)

-- rooms of one program are rooms of an equal one
pub rooms_of_same : (p q : Program) (rs : List (Option RoomValue)) → p ≡ q → AreRooms (unfolding_of p) rs → AreRooms (unfolding_of q) rs
rooms_of_same p q rs is r = subst (λ (z : Program). AreRooms (unfolding_of z) rs) is r

-- some are lent to a table over a book of the same program, and come back before the others
pub rooms_lent : (p q : Program) (all xs ys : List (Option RoomValue)) → q ≡ p → all ≡ xs ++ ys → AreRooms (unfolding_of p) all → AreRooms (unfolding_of q) xs
rooms_lent p q all xs ys same is r = rooms_of_same p q xs (sym same) (rooms_cut (unfolding_of p) all xs ys is r).1

pub rooms_home : (p q : Program) (all xs ys new : List (Option RoomValue)) → q ≡ p → all ≡ xs ++ ys → AreRooms (unfolding_of p) all → AreRooms (unfolding_of q) new → AreRooms (unfolding_of p) (new ++ ys)
rooms_home p q all xs ys new same is r n = rooms_both (unfolding_of p) new ys (rooms_of_same q p new same n) (rooms_cut (unfolding_of p) all xs ys is r).0

pub rooms_many : (all xs ys new rest : List (Option RoomValue)) → all ≡ xs ++ ys → length new ≡ length xs → length rest ≡ length ys → length (new ++ rest) ≡ length all
rooms_many all xs ys new rest is a b =
    let n = length-append new rest in let m = length-append xs ys in let e = ap length is in omega (arith, n, m, e, a, b)
