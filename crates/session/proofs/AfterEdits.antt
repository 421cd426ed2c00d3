-- The part of a log after its last edit, when entries are put behind the log.
use Rattle.std.proofs.Common.{◌≡◌, ℕ, zero, suc, ◌+◌, List, [], ◌∷◌, ◌++◌, refl, ap, ◌∙◌, subst, arith, Bool, true, false, ◌||◌, if◌then◌else◌, append_assoc}
use Rattle.fc_values.proofs.Booleans.{or_no}
use Rattle.firing_core.specs.Entries.{EntryValue}
use Rattle.firing_core.specs.Rounds.{is_edit, has_edit, after_edit, HasRounds}
use Rattle.round_count.specs.Laws.{RoundsFollow}

plain_after : (xs : List EntryValue) → has_edit xs ≡ false → after_edit xs ≡ xs
plain_after [] p = refl
plain_after (x ∷ xs) p = let k = or_no (is_edit x) (has_edit xs) p in rw (k.1) (rw (k.0) refl)

has_join : (xs ys : List EntryValue) → has_edit ys ≡ false → has_edit (xs ++ ys) ≡ has_edit xs
has_join [] ys p = p
has_join (x ∷ xs) ys p = ap (λ b. is_edit x || b) (has_join xs ys p)

first_of : (x : EntryValue) (xs ys : List EntryValue) (b : Bool) → (if b then xs ++ ys else x ∷ xs ++ ys) ≡ (if b then xs else x ∷ xs) ++ ys
first_of x xs ys true = refl
first_of x xs ys false = refl

-- entries without an edit stay behind
pub after_plain : (xs ys : List EntryValue) → has_edit ys ≡ false → after_edit (xs ++ ys) ≡ after_edit xs ++ ys
after_plain [] ys p = plain_after ys p
after_plain (x ∷ xs) ys p = by_test (has_edit xs) (has_join xs ys p) (after_plain xs ys p)
  where
    by_test : (b : Bool) → has_edit (xs ++ ys) ≡ b → after_edit (xs ++ ys) ≡ after_edit xs ++ ys
        → (if has_edit (xs ++ ys) then after_edit (xs ++ ys) else (if is_edit x then xs ++ ys else x ∷ xs ++ ys)) ≡ (if b then after_edit xs else (if is_edit x then xs else x ∷ xs)) ++ ys
    by_test true e ih = rw e ih
    by_test false e ih = rw e (first_of x xs ys (is_edit x))

-- rounds behind rounds
pub rounds_join : RoundsFollow → (live : List ℕ) (xs ys : List EntryValue) (j k : ℕ) → HasRounds live xs j → HasRounds live ys k → HasRounds live (xs ++ ys) (j + k)
rounds_join follow live xs ys zero k h g = let e : k ≡ zero + k = omega arith in subst (λ n. HasRounds live (xs ++ ys) n) e (follow live xs ys k h g)
rounds_join follow live xs ys (suc j) k h g = let e : suc (j + k) ≡ suc j + k = omega arith in subst (λ n. HasRounds live (xs ++ ys) n) e (more (rounds_join follow live h.1 ys j k h.4 g))
  where
    more : HasRounds live (h.1 ++ ys) (j + k) → HasRounds live (xs ++ ys) (suc (j + k))
    more ih = (h.0, h.1 ++ ys, ap (λ (l : List EntryValue). l ++ ys) h.2 ∙ append_assoc h.0 h.1 ys, h.3, ih)
