-- What stands since the last mark, byte by byte.
use Rattle.std.proofs.Common.{ℕ, ◌≡◌, ◌+◌, ◌-◌, ◌<◌, ◌≤◌, List, [], ◌∷◌, ◌++◌, length, get_or, take, drop, slice_range, sym, ap, subst, ◌∙◌, Some, None, arith, length-drop}
use Rattle.std.specs.Prelude.{Option}
use Rattle.std.proofs.lemmas.List.{take_more, get_or-drop}
use Rattle.std.proofs.lemmas.Grind.{common_steps}
use Rattle.edit_commands.specs.declared.values.Since.{Since}
use Rattle.edit_commands.specs.declared.values.Since.TheVariants as since
use Rattle.edit_commands.specs.Values.{Bytes, reading, opens, goes_on}
use Rattle.edit_commands.specs.Narrow.{PartValue, since_of, StandsBefore}

pub nothing_since : (text : List ℕ) (i : ℕ) → slice_range text i i ≡ []
nothing_since text i = grind (arith, common_steps)

pub byte_more : (text : List ℕ) (start i : ℕ) → start ≤ i → i < length text → slice_range text start (i + 1) ≡ slice_range text start i ++ get_or text i 0 ∷ []
byte_more text start i order within =
    let size : i + 1 - start ≡ (i - start) + 1 = omega arith in
    let there : start + (i - start) ≡ i = omega arith in
    ap (λ k. take k (drop start text)) size
    ∙ take_more (drop start text) (i - start) 0 (omega (arith, length-drop start text))
    ∙ ap (λ b. take (i - start) (drop start text) ++ b ∷ []) (get_or-drop start text (i - start) 0 ∙ ap (λ k. get_or text k 0) there)

-- a bracket opens where nothing stands
pub opened : (text : List ℕ) (os now : List (Option PartValue)) (s : Since) (start i : ℕ) → s ≡ since.Bytes start → start ≤ i → i ≤ start → now ≡ None ∷ os
    → Some (reading now (Bytes (slice_range text (i + 1) (i + 1)))) ≡ opens os (since_of text i s)
opened text os now s start i is order there e =
    let same : start ≡ i = omega arith in
    ap (λ bs. Some (reading now (Bytes bs))) (nothing_since text (i + 1))
    ∙ ap (λ ps. Some (reading ps (Bytes []))) e
    ∙ sym (ap (λ t. opens os (since_of text i t)) is ∙ ap (λ k. opens os (Bytes (slice_range text k i))) same ∙ ap (λ bs. opens os (Bytes bs)) (nothing_since text i))

pub gone_on : (text : List ℕ) (os : List (Option PartValue)) (s : Since) (start i : ℕ) → s ≡ since.Bytes start → start ≤ i → i < length text
    → Some (reading os (Bytes (slice_range text start (i + 1)))) ≡ goes_on os (since_of text i s) (get_or text i 0)
gone_on text os s start i is order within =
    ap (λ bs. Some (reading os (Bytes bs))) (byte_more text start i order within) ∙ sym (ap (λ t. goes_on os (since_of text i t) (get_or text i 0)) is)

pub before_at : (i start : ℕ) (s : Since) → s ≡ since.Bytes start → StandsBefore i s → start ≤ i
before_at i start s is h = subst (StandsBefore i) is h
