-- The verdict on the program of a ring.
use Rattle.std.proofs.Common.{ℕ, ◌≡◌, ◌≤◌, ◌+◌, ◌*◌, min, max, refl, ap, ap₂, ◌∙◌, arith, None}
use Rattle.std.specs.declared.result.Result.{Result}
use Rattle.std.specs.declared.result.Result.TheVariants.{Ok}
use Rattle.fc_nodes.specs.declared.verdicts.Reason.{Reason}
use Rattle.fc_nodes.specs.declared.verdicts.Verdict.{Verdict}
use Rattle.fc_nodes.specs.declared.verdicts.Verdict.TheVariants as verdict
use Rattle.fc_nodes.specs.Terms.{Term, ByRep, size}
use Rattle.interval_facts.specs.Ranges.{RangeValue, IntRange, range_of}
use Rattle.growth_facts.specs.Growth.{Grows, growth_of}
use Rattle.growth_facts.specs.Leads.{least_integer}
use Rattle.fragment_check.specs.declared.kinds.Pattern.{Pattern}
use Rattle.fragment_check.specs.declared.kinds.Pattern.TheVariants as pattern
use Rattle.fragment_check.specs.Levels.{Stages, level_of}
use Rattle.fragment_check.specs.Patterns.{pattern_of, minimising, judged, first_refused, refusal_first}
use Rattle.fragment_check.specs.Verdicts.{added_by, stages_of, variable_range, verdict_by}
use Rattle.scenarios.specs.RingTerms.{near_term, ring_main, ring_unfolding}
use Rattle.scenarios.specs.Laws.{RingsStabilise}

-- ---- growth: what is heard of the variable, and 1 more
growth : (count : ℕ) (R : ℕ → RangeValue) → 3 ≤ count → R 6 ≡ IntRange 1 1
    → growth_of count R ByRep 0 3 near_term ≡ Grows 1
growth count R h link =
    let one : min count 1 ≡ 1 = omega arith in
    ap (λ r. Grows (min count (0 + least_integer r))) link ∙ ap Grows one

-- ---- the pattern
pattern_is : (count : ℕ) (R : ℕ → RangeValue) → 3 ≤ count → R 6 ≡ IntRange 1 1 → R 7 ≡ IntRange (min 0 count) (max 0 count)
    → pattern_of count R 0 (ring_main count) ≡ Ok (pattern.Minimising count 1)
pattern_is count R h link own =
    let top : max 0 count ≡ count = omega arith in
    ap₂ (minimising count) (growth count R h link) own ∙ ap (λ m. Ok (pattern.Minimising m 1)) top

-- ---- levels: that of the body, and what the pattern adds
added : (count n : ℕ) (W : ℕ → RangeValue) (r : Result Pattern Reason) → r ≡ Ok (pattern.Minimising count 1)
    → added_by n W ByRep r ≡ 2 * count
added count n W r e = ap (added_by n W ByRep) e ∙ omega arith

-- ---- the verdict
abbrev verdict_from : ℕ → (ℕ → RangeValue) → Stages → Term → Verdict
verdict_from c R K t = verdict_by (first_refused (judged c R 0 t)) (level_of K 0 1 (size t) (λ q. 0) t)

verdict_is : (count : ℕ) (R : ℕ → RangeValue) (K : Stages) → pattern_of count R 0 (ring_main count) ≡ Ok (pattern.Minimising count 1)
    → K 0 ≡ 2 * count → verdict_from count R K (ring_main count) ≡ verdict.Yes (2 + 2 * count)
verdict_is count R K p k =
    ap (λ r. verdict_by (refusal_first 0 r None) (2 + K 0)) p ∙ ap (λ l. verdict.Yes (2 + l)) k

pub rings_stabilise : RingsStabilise
rings_stabilise count devices low high =
    let U = ring_unfolding count in
    let R = range_of U in
    let found = pattern_is count R low refl refl in
    verdict_is count R (stages_of U devices) found
    (added count devices (variable_range U) (pattern_of count R 0 (ring_main count)) found)
