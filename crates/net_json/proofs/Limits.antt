-- Judgements that begin with a test of how many there are.
use Rattle.std.proofs.Common.{◌≡◌, ℕ, ◌<◌, ◌≤◌, true, not, nat_eq, nat_le, ap, ◌∙◌, arith}
use Rattle.std.proofs.lemmas.Bool.{le-leb, lt-leb, ne_eqb}
use Rattle.net_json.specs.Judging.{JudgedScene, Refused, SceneRefusal, require}

some : (n : ℕ) → 0 < n → not (nat_eq n 0) ≡ true
some n h = ap not (ne_eqb n 0 (λ e. absurd (omega arith)))

module _ {A : Type 0} (none many : SceneRefusal) (rest : JudgedScene A) (n count : ℕ) (same : n ≡ count) where
  pub within : 0 < count → count ≤ 1024 → require (not (nat_eq n 0)) none (require (nat_le n 1024) many rest) ≡ rest
  within h l =
      ap (λ q. require q none (require (nat_le n 1024) many rest)) (some n (omega arith))
      ∙ ap (λ q. require q many rest) (le-leb n 1024 (omega arith))

  pub beyond : 1024 < count → require (not (nat_eq n 0)) none (require (nat_le n 1024) many rest) ≡ Refused many
  beyond l =
      ap (λ q. require q none (require (nat_le n 1024) many rest)) (some n (omega arith))
      ∙ ap (λ q. require q many rest) (lt-leb n 1024 (omega arith))

-- at most so many
module _ {A : Type 0} (many : SceneRefusal) (rest : JudgedScene A) (n count limit : ℕ) (same : n ≡ count) where
  pub at_most : count ≤ limit → require (nat_le n limit) many rest ≡ rest
  at_most l = ap (λ q. require q many rest) (le-leb n limit (omega arith))

  pub too_many : limit < count → require (nat_le n limit) many rest ≡ Refused many
  too_many l = ap (λ q. require q many rest) (lt-leb n limit (omega arith))
