-- What is left of a walk whose cost is found from its front.
use Rattle.std.proofs.Common.{◌≡◌, ℕ, ◌+◌, min, List, [], ◌∷◌, sym, ◌∙◌, ap, subst, arith}
use Rattle.walks.specs.Walks.{CostsValue, StartsAt, StepsAt, Goes, IsWalk, WalkCosts, IsCosts}
use Rattle.walks.proofs.Goes.{start_most, steps_one, goes_one}
use Rattle.walks.proofs.Best.{start_one}

-- from here, at this cost, what is left goes on exactly where the whole is a walk
abbrev pub WalkLeft : CostsValue → List ℕ → ℕ → ℕ → List ℕ → Type 0
WalkLeft C walk d cost rest = (r : ℕ) × (min r C.ceiling ≡ cost)
    × ((e t : ℕ) → Goes C d r rest e t → IsWalk C walk e t) × ((e t : ℕ) → IsWalk C walk e t → Goes C d r rest e t)

pub walk_begins : (C : CostsValue) → IsCosts C → (walk rest : List ℕ) (d s : ℕ) → walk ≡ d ∷ rest → StartsAt C d s → WalkLeft C walk d s rest
walk_begins C co walk rest d s q h =
    let a = start_most C co d s h in
    let b : min s C.ceiling ≡ s = omega arith in (
      s,
      b,
      λ e t g. subst (λ w. IsWalk C w e t) (sym q) (s, h, g),
      λ e t g. let i = subst (λ w. IsWalk C w e t) q g in subst (λ x. Goes C d x rest e t) (start_one C co d i.0 s i.1 h) i.2,
    )

pub walk_goes : (C : CostsValue) → IsCosts C → (walk : List ℕ) (d c n : ℕ) (rest : List ℕ) (k : ℕ) → WalkLeft C walk d c (n ∷ rest) → StepsAt C d n k
    → WalkLeft C walk n (min (c + k) C.ceiling) rest
walk_goes C co walk d c n rest k w h =
    let q : min w.0 C.ceiling ≡ c = w.1 in
    let p : min (w.0 + k) C.ceiling ≡ min (c + k) C.ceiling = omega arith in (
      w.0 + k,
      p,
      λ e t g. w.2 e t (k, h, g),
      λ e t g. let i = w.3 e t g in subst (λ x. Goes C n (w.0 + x) rest e t) (steps_one C co d n i.0 k i.1 h) i.2,
    )

pub walk_stuck : (C : CostsValue) (walk : List ℕ) (d c n : ℕ) (rest : List ℕ) → WalkLeft C walk d c (n ∷ rest) → ((k : ℕ) → StepsAt C d n k → ⊥)
    → (e v : ℕ) → WalkCosts C walk e v → ⊥
walk_stuck C walk d c n rest w none e v h = let g = w.3 e h.0 h.1 in none g.0 g.1

pub no_start : (C : CostsValue) (walk rest : List ℕ) (d : ℕ) → walk ≡ d ∷ rest → ((s : ℕ) → StartsAt C d s → ⊥) → (e v : ℕ) → WalkCosts C walk e v → ⊥
no_start C walk rest d q none e v h = let g = subst (λ w. IsWalk C w e h.0) q h.1 in none g.0 g.1

walk_same : (C : CostsValue) → IsCosts C → (w : List ℕ) (e t f u : ℕ) → IsWalk C w e t → IsWalk C w f u → (e ≡ f) × (t ≡ u)
walk_same C co [] e t f u g h = absurd g
walk_same C co (d ∷ w) e t f u g h =
    goes_one C co d g.0 w e t f u g.2 (subst (λ x. Goes C d x w f u) (sym (start_one C co d g.0 h.0 g.1 h.1)) h.2)

pub cost_same : (C : CostsValue) → IsCosts C → (w : List ℕ) (e v f u : ℕ) → WalkCosts C w e v → WalkCosts C w f u → (e ≡ f) × (v ≡ u)
cost_same C co w e v f u g h =
    let k = walk_same C co w e g.0 f h.0 g.1 h.1 in
    (k.0, sym g.2 ∙ ap (λ x. min x C.ceiling) k.1 ∙ h.2)
