-- A longer log has no fewer rounds.
use Rattle.std.proofs.Common.{◌≡◌, ◌≤◌, ℕ, zero, suc, Bool, true, false, ◌||◌, List, [], ◌∷◌, ◌++◌, if◌then◌else◌, refl, sym, ap, ◌∙◌, subst, append_assoc}
use Rattle.firing_core.specs.Entries.{EntryValue}
use Rattle.firing_core.specs.Rounds.{is_edit, has_edit, after_edit, HasRounds}
use Rattle.round_count.specs.Laws.{IsGreatest}
use Rattle.round_count.proofs.Logs.{plain_append, after_plain, rounds_after}

pub rounds_behind : (live : List ℕ) (log more : List EntryValue) (k : ℕ) → has_edit more ≡ false → HasRounds live log k → HasRounds live (log ++ more) k
rounds_behind live log more zero p h = plain_append log more h p
rounds_behind live log more (suc k) p h = (
  h.0,
  h.1 ++ more,
  ap (λ (xs : List EntryValue). xs ++ more) h.2 ∙ append_assoc h.0 h.1 more,
  h.3,
  rounds_behind live h.1 more k p h.4,
)

pub rounds_front : (live : List ℕ) (front log : List EntryValue) (k : ℕ) → has_edit front ≡ false → HasRounds live log k → HasRounds live (front ++ log) k
rounds_front live front log k p h = rounds_after live k front log p h

-- ---- the part after the last edit of a longer log

edit_append : (xs ys : List EntryValue) → has_edit (xs ++ ys) ≡ (has_edit xs || has_edit ys)
edit_append [] ys = refl
edit_append (x ∷ xs) ys = or_more (is_edit x) (has_edit (xs ++ ys)) (has_edit xs) (has_edit ys) (edit_append xs ys)
  where
    or_more : (a b c d : Bool) → b ≡ (c || d) → (a || b) ≡ ((a || c) || d)
    or_more true b c d h = refl
    or_more false b c d h = h

after_whole : (log : List EntryValue) → has_edit log ≡ false → after_edit log ≡ log
after_whole [] p = refl
after_whole (e ∷ es) p = by_tests (is_edit e) (has_edit es) refl refl p
  where
    by_tests : (a b : Bool) → is_edit e ≡ a → has_edit es ≡ b → (a || b) ≡ false → after_edit (e ∷ es) ≡ e ∷ es
    by_tests true b q r h = absurd cc
    by_tests false true q r h = absurd cc
    by_tests false false q r h = rw (r, q) refl

-- the last edit is in front
after_behind : (log more : List EntryValue) → has_edit more ≡ false → after_edit (log ++ more) ≡ after_edit log ++ more
after_behind [] more p = after_whole more p
after_behind (e ∷ es) more p = rw (edit_append es more, p) (by_tests (has_edit es) (is_edit e) (after_behind es more p))
  where
    by_tests : (a b : Bool) → after_edit (es ++ more) ≡ after_edit es ++ more
        → (if a || false then after_edit (es ++ more) else (if b then es ++ more else e ∷ (es ++ more))) ≡ (if a then after_edit es else (if b then es else e ∷ es)) ++ more
    by_tests true b h = h
    by_tests false true h = refl
    by_tests false false h = refl

-- the last edit is in what comes behind
after_front : (front log : List EntryValue) → has_edit log ≡ true → after_edit (front ++ log) ≡ after_edit log
after_front [] log p = refl
after_front (e ∷ es) log p = rw (edit_append es log, p) (by_test (has_edit es) (after_front es log p))
  where
    by_test : (a : Bool) → after_edit (es ++ log) ≡ after_edit log → (if a || true then after_edit (es ++ log) else (if is_edit e then es ++ log else e ∷ (es ++ log))) ≡ after_edit log
    by_test true h = h
    by_test false h = h

part_behind : (live : List ℕ) (log more : List EntryValue) (k : ℕ) → has_edit more ≡ false → HasRounds live (after_edit log) k → HasRounds live (after_edit (log ++ more)) k
part_behind live log more k p h = subst (λ (l : List EntryValue). HasRounds live l k) (sym (after_behind log more p)) (rounds_behind live (after_edit log) more k p h)

part_front : (live : List ℕ) (front log : List EntryValue) (k : ℕ) → HasRounds live (after_edit log) k → HasRounds live (after_edit (front ++ log)) k
part_front live front log k h = by_test (has_edit log) refl
  where
    by_test : (b : Bool) → has_edit log ≡ b → HasRounds live (after_edit (front ++ log)) k
    by_test true p = subst (λ (l : List EntryValue). HasRounds live l k) (sym (after_front front log p)) h
    by_test false p =
        subst (λ (l : List EntryValue). HasRounds live l k) (sym (after_behind front log p))
        (rounds_after live k (after_edit front) log (after_plain front) (subst (λ (l : List EntryValue). HasRounds live l k) (after_whole log p) h))

pub greatest_behind : (live : List ℕ) (log more : List EntryValue) (j k : ℕ) → has_edit more ≡ false → IsGreatest live log j → IsGreatest live (log ++ more) k → j ≤ k
greatest_behind live log more j k p g h = h.greatest j (part_behind live log more j p g.has)

pub greatest_front : (live : List ℕ) (front log : List EntryValue) (j k : ℕ) → IsGreatest live log j → IsGreatest live (front ++ log) k → j ≤ k
greatest_front live front log j k g h = h.greatest j (part_front live front log j g.has)
