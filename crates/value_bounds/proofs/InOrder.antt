-- Entries whose numbers rise: an entry by its position is the first with its number.
use Rattle.std.proofs.Common.{◌≡◌, ℕ, zero, suc, ◌+◌, ◌-◌, ◌<◌, ◌≤◌, List, [], ◌∷◌, length, drop, get_or}
use Rattle.std.proofs.Common.{refl, sym, ◌∙◌, ap, arith, true, false, nat_lt, ◌&&◌}
use Rattle.std.proofs.lemmas.Grind.{common_steps}
use Rattle.std.proofs.lemmas.Bool.{lt-ltb, le-ltb, ne_eqb}
use Rattle.fc_values.specs.Fields.{rises}
use Rattle.fc_values.proofs.ByPosition.{both_first, both_second}
use Rattle.value_bounds.specs.declared.bounds.BoundEntry.{BoundEntry}
use Rattle.value_bounds.specs.BoundBuiltins.{entry_at}
use Rattle.value_bounds.specs.Lookups.{numbers_in}
use Rattle.value_bounds.specs.References.{entries_in, local_bound_in}

abbrev numbers : List BoundEntry → List ℕ
numbers es = numbers_in (entries_in es)

-- each later number is above the first
above : (x : BoundEntry) (es : List BoundEntry) (i : ℕ) (e : BoundEntry) → rises (numbers (x ∷ es)) ≡ true
    → i < length es → x.device < (get_or es i e).device
above x [] i e r h = absurd (omega arith)
above x (y ∷ es) zero e r h =
    let k = both_first (nat_lt x.device y.device) (rises (numbers (y ∷ es))) r in grind (arith, common_steps)
above x (y ∷ es) (suc i) e r h =
    let first = both_first (nat_lt x.device y.device) (rises (numbers (y ∷ es))) r in
    let k = above y es i e (both_second (nat_lt x.device y.device) (rises (numbers (y ∷ es))) r) (omega arith) in
    grind (arith, common_steps)

rises_tail : (x : BoundEntry) (es : List BoundEntry) → rises (numbers (x ∷ es)) ≡ true → rises (numbers es) ≡ true
rises_tail x [] r = refl
rises_tail x (y ∷ es) r = both_second (nat_lt x.device y.device) (rises (numbers (y ∷ es))) r

at_position : (es : List BoundEntry) (i : ℕ) (e : BoundEntry) → rises (numbers es) ≡ true → i < length es
    → entry_at (entries_in es) (get_or es i e).device ≡ local_bound_in (get_or es i e).bound
at_position [] i e r h = absurd (omega arith)
at_position (x ∷ es) zero e r h = grind (arith, common_steps)
at_position (x ∷ es) (suc i) e r h =
    let k = above x es i e r (omega arith) in
    let ih = at_position es i e (rises_tail x es r) (omega arith) in
    let other = ne_eqb (get_or es i e).device x.device (λ q. absurd (omega arith)) in
    rw other ih

-- the entry at a position, if it has the number
pub entry_here : (es : List BoundEntry) (i k : ℕ) (e : BoundEntry) → rises (numbers_in (entries_in es)) ≡ true
    → i < length es → e ≡ get_or es i e → e.device ≡ k → local_bound_in e.bound ≡ entry_at (entries_in es) k
entry_here es i k e r h is d =
    ap (λ (x : BoundEntry). local_bound_in x.bound) is ∙ sym (at_position es i e r h)
    ∙ ap (λ (x : BoundEntry). entry_at (entries_in es) x.device) (sym is) ∙ ap (entry_at (entries_in es)) d

-- two neighbouring numbers, and those behind them
step : (es : List BoundEntry) (i : ℕ) (d e : BoundEntry) → suc i < length es
    → rises (drop i (numbers es))
    ≡ (nat_lt (get_or es i d).device (get_or es (suc i) e).device && rises (drop (suc i) (numbers es)))
step [] i d e h = absurd (omega arith)
step (x ∷ []) i d e h = absurd (omega arith)
step (x ∷ y ∷ es) zero d e h = refl
step (x ∷ y ∷ es) (suc i) d e h = step (y ∷ es) i d e (omega arith)

pub goes_on : (es : List BoundEntry) (p : ℕ) (d e : BoundEntry) → 1 ≤ p → p < length es
    → (get_or es (p - 1) d).device < (get_or es p e).device
    → rises (drop (p + 1 - 1) (numbers_in (entries_in es))) ≡ rises (drop (p - 1) (numbers_in (entries_in es)))
goes_on es zero d e some h l = absurd (omega arith)
goes_on es (suc i) d e some h l =
    let back : suc i - 1 ≡ i = omega arith in
    let on : suc i + 1 - 1 ≡ suc i = omega arith in
    let less : (get_or es i d).device < (get_or es (suc i) e).device = rw back at l in
    let test = lt-ltb (get_or es i d).device (get_or es (suc i) e).device less in
    rw (back, on, step es i d e h, test) refl

pub falls_here : (es : List BoundEntry) (p : ℕ) (d e : BoundEntry) → 1 ≤ p → p < length es
    → (get_or es p e).device ≤ (get_or es (p - 1) d).device
    → rises (drop (p - 1) (numbers_in (entries_in es))) ≡ false
falls_here es zero d e some h l = absurd (omega arith)
falls_here es (suc i) d e some h l =
    let back : suc i - 1 ≡ i = omega arith in
    let not_less : (get_or es (suc i) e).device ≤ (get_or es i d).device = rw back at l in
    let test = le-ltb (get_or es i d).device (get_or es (suc i) e).device not_less in
    rw (back, step es i d e h, test) refl

last_rises : (es : List BoundEntry) (i : ℕ) → length es ≤ suc i → rises (drop i (numbers es)) ≡ true
last_rises [] zero h = refl
last_rises [] (suc i) h = refl
last_rises (x ∷ []) zero h = refl
last_rises (x ∷ y ∷ es) zero h = absurd (omega arith)
last_rises (x ∷ es) (suc i) h = last_rises es i (omega arith)

pub at_the_end : (es : List BoundEntry) (p : ℕ) → 1 ≤ p → length es ≤ p
    → rises (drop (p - 1) (numbers_in (entries_in es))) ≡ true
at_the_end es p some h = last_rises es (p - 1) (omega arith)
