-- Crates above cite this module: logs without an edit, the part of a log after its last one, and its rounds.
use Rattle.std.proofs.Common.{◌≡◌, ◌≤◌, ℕ, zero, suc, ap, ◌∙◌, Bool, true, false, List, [], ◌∷◌, ◌++◌, length, refl, arith, if◌then◌else◌}
use Rattle.fc_values.proofs.Booleans.{or_no, or_true}
use Rattle.firing_core.specs.Entries.{EditValue, EntryValue, EditEntry}
use Rattle.firing_core.specs.Rounds.{is_edit, has_edit, after_edit, HasRounds}

pub plain_both : (xs ys : List EntryValue) → has_edit xs ≡ false → has_edit ys ≡ false → has_edit (xs ++ ys) ≡ false
plain_both [] ys p q = q
plain_both (x ∷ xs) ys p q = let k = or_no (is_edit x) (has_edit xs) p in rw (k.0) (plain_both xs ys k.1 q)

has_later : (xs ys : List EntryValue) (e : EditValue) → has_edit (xs ++ EditEntry e ∷ ys) ≡ true
has_later [] ys e = refl
has_later (x ∷ xs) ys e = or_true (is_edit x) (has_edit (xs ++ EditEntry e ∷ ys)) (has_later xs ys e)

-- behind an edit and entries without one, those are left
pub after_last : (xs ys : List EntryValue) (e : EditValue) → has_edit ys ≡ false → after_edit (xs ++ EditEntry e ∷ ys) ≡ ys
after_last [] ys e p = rw p refl
after_last (x ∷ xs) ys e p = rw (has_later xs ys e) (after_last xs ys e p)

pub after_short : (xs : List EntryValue) → length (after_edit xs) ≤ length xs
after_short [] = omega arith
after_short (x ∷ xs) = by_tests (has_edit xs) (is_edit x) (after_short xs)
  where
    by_tests : (b t : Bool) → length (after_edit xs) ≤ length xs → length (if b then after_edit xs else (if t then xs else x ∷ xs)) ≤ length (x ∷ xs)
    by_tests true t ih = omega (arith, ih)
    by_tests false true ih = omega arith
    by_tests false false ih = omega arith

rounds_plain : (live : List ℕ) (log : List EntryValue) (n : ℕ) → HasRounds live log n → has_edit log ≡ false
rounds_plain live log zero h = h
rounds_plain live log (suc n) h = ap (λ l. has_edit l) h.2 ∙ plain_both h.0 h.1 h.3.plain (rounds_plain live h.1 n h.4)

-- fewer rounds than there are
pub fewer : (live : List ℕ) (log : List EntryValue) (n k : ℕ) → k ≤ n → HasRounds live log n → HasRounds live log k
fewer live log n zero l h = rounds_plain live log n h
fewer live log zero (suc k) l h = absurd (omega (arith, l))
fewer live log (suc n) (suc k) l h = (h.0, h.1, h.2, h.3, fewer live h.1 n k (omega (arith, l)) h.4)
