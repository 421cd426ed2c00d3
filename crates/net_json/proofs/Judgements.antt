-- Judgements one after another, and the faults of code.
use Rattle.std.proofs.Common.{◌≡◌, ℕ, zero, suc, ◌+◌, ◌<◌, ◌≤◌, List, [], ◌∷◌, length, map, drop, get_or, refl, sym, ap, ◌∙◌, subst, arith, drop-cons}
use Rattle.serde_json.specs.Data.{Data}
use Rattle.serde_json.specs.View.{view, items_of}
use Rattle.serde_json.specs.declared.value.Value.{Value}
use Rattle.net_json.specs.declared.types.JsonFault.{JsonFault}
use Rattle.net_json.specs.declared.types.JsonFault.TheVariants as fault
use Rattle.net_json.specs.Judging.{JudgedScene, Accepted, if_accepted, in_turn, at_index, RefusedWith}

-- what refuses the first check refuses the whole
pub refused_next : {A B : Type 0} (first : JudgedScene A) (next : A → JudgedScene B) (f : JsonFault) → RefusedWith first f → RefusedWith (if_accepted first next) f
refused_next first next fault.Json h = ap (λ j. if_accepted j next) h
refused_next first next (fault.Shape p) h = ap (λ j. if_accepted j next) h
refused_next first next (fault.Net p f) h = ap (λ j. if_accepted j next) h
refused_next first next (fault.Kept p place) h = ap (λ j. if_accepted j next) h
refused_next first next (fault.Devices count) h = ap (λ j. if_accepted j next) h
refused_next first next fault.Memory h = tt

-- what refuses the rest, behind a check that accepts
pub refused_later : {A B : Type 0} (first : JudgedScene A) (next : A → JudgedScene B) (x : A) (f : JsonFault) → first ≡ Accepted x → RefusedWith (next x) f → RefusedWith (if_accepted first next) f
refused_later first next x f e h = subst (λ j. RefusedWith (if_accepted j next) f) (sym e) h

-- ---- items in turn

module _ {A : Type 0} (judge : A → List ℕ → Data → JudgedScene A) (path : List ℕ) where
  -- the next item of a list of values
  pub turn : (before : A) (vs : List Value) (i : ℕ) (v : Value) → i < length vs
      → in_turn judge path before i (items_of (map view (drop i vs)))
      ≡ if_accepted (judge before (at_index path i) (view (get_or vs i v))) (λ next. in_turn judge path next (i + 1) (items_of (map view (drop (i + 1) vs))))
  turn before vs i v h =
      let e : i + 1 ≡ suc i = omega arith in
      ap (λ xs. in_turn judge path before i (items_of (map view xs))) (drop-cons vs i v h)
      ∙ ap (λ k. if_accepted (judge before (at_index path i) (view (get_or vs i v))) (λ next. in_turn judge path next (i + 1) (items_of (map view (drop k vs))))) (sym e)

  -- no item is left
  pub turn_end : (before : A) (vs : List Value) (i : ℕ) → length vs ≤ i → in_turn judge path before i (items_of (map view (drop i vs))) ≡ Accepted before
  turn_end before vs i h = ap (λ xs. in_turn judge path before i (items_of (map view xs))) (drop_past vs i h)
    where
      drop_past : (ws : List Value) (k : ℕ) → length ws ≤ k → drop k ws ≡ []
      drop_past [] zero l = refl
      drop_past [] (suc k) l = refl
      drop_past (w ∷ ws) zero l = absurd (omega arith)
      drop_past (w ∷ ws) (suc k) l = drop_past ws k (omega arith)
