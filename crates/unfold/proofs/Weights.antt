-- A bound on the work that is left: what the bodies of the functions that are seen weigh.
use Rattle.std.proofs.Common.{ℕ, zero, suc, ◌+◌, ◌<◌, ◌≤◌, arith, List, [], ◌∷◌, take}
use Rattle.fc_syntax.specs.Pieces.{weight}
use Rattle.fc_types.specs.Before.{Function, Earlier}
use Rattle.unfold.specs.Found.{FirstAt, first_here, first_later}

abbrev pub bodies : List Function → ℕ
bodies [] = 0
bodies (f ∷ fs) = weight f.body + bodies fs

abbrev pub seen : Earlier → ℕ → ℕ
seen B n = bodies (take n B.functions)

pub first_lighter : {x : List ℕ} {fs : List Function} {j : ℕ} {g : Function} → FirstAt x fs j g → (v : ℕ) → j < v → bodies (take j fs) + weight g.body ≤ bodies (take v fs)
first_lighter (first_here h) zero l = absurd (omega arith)
first_lighter (first_here h) (suc v) l = omega arith
first_lighter (first_later h k) zero l = absurd (omega arith)
first_lighter (first_later h k) (suc v) l = let r = first_lighter k v (omega arith) in omega (arith, r)

pub fewer_lighter : (fs : List Function) (j v : ℕ) → j ≤ v → bodies (take j fs) ≤ bodies (take v fs)
fewer_lighter [] zero v l = omega arith
fewer_lighter [] (suc j) v l = omega arith
fewer_lighter (f ∷ fs) zero v l = omega arith
fewer_lighter (f ∷ fs) (suc j) zero l = absurd (omega arith)
fewer_lighter (f ∷ fs) (suc j) (suc v) l = let r = fewer_lighter fs j v (omega arith) in omega (arith, r)
