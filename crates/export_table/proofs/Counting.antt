-- What a log with one entry more says of begins.
use Rattle.std.proofs.Common.{◌≡◌, ℕ, zero, suc, ◌+◌, ◌≤◌, List, [], ◌∷◌, ◌++◌, length, drop, refl, ap, ◌∙◌, arith, Bool, true, false, ◌||◌, if◌then◌else◌}
use Rattle.firing_core.specs.Entries.{EntryValue}
use Rattle.firing_core.specs.Stretches.{is_begin, begins}
use Rattle.export_table.specs.Items.{Opening}
use Rattle.export_table.specs.Begins.{is_join, has_join, since_join, begun_in}

drop_snoc : (n : ℕ) (xs : List EntryValue) (x : EntryValue) → n ≤ length xs → drop n (xs ++ x ∷ []) ≡ drop n xs ++ x ∷ []
drop_snoc zero xs x l = refl
drop_snoc (suc n) [] x l = absurd (omega (arith, l))
drop_snoc (suc n) (y ∷ ys) x l = drop_snoc n ys x (omega (arith, l))

has_snoc : (d : ℕ) (es : List EntryValue) (x : EntryValue) → has_join d (es ++ x ∷ []) ≡ (has_join d es || is_join d x)
has_snoc d [] x = by_test (is_join d x)
  where
    by_test : (b : Bool) → (b || false) ≡ (false || b)
    by_test true = refl
    by_test false = refl
has_snoc d (e ∷ es) x = ap (λ b. is_join d e || b) (has_snoc d es x) ∙ by_test (is_join d e)
  where
    by_test : (b : Bool) → (b || (has_join d es || is_join d x)) ≡ ((b || has_join d es) || is_join d x)
    by_test true = refl
    by_test false = refl

since_snoc : (d : ℕ) (es : List EntryValue) (x : EntryValue) → since_join d (es ++ x ∷ []) ≡ (if is_join d x then [] else since_join d es ++ x ∷ [])
since_snoc d [] x = refl
since_snoc d (e ∷ es) x = ap (λ b. if b then since_join d (es ++ x ∷ []) else (if is_join d e then es ++ x ∷ [] else e ∷ es ++ x ∷ [])) (has_snoc d es x)
    ∙ (ap (λ l. if has_join d es || is_join d x then l else (if is_join d e then es ++ x ∷ [] else e ∷ es ++ x ∷ [])) (since_snoc d es x)
    ∙ by_tests (has_join d es) (is_join d x) (is_join d e))
  where
    by_tests : (p q r : Bool) → (if p || q then (if q then [] else since_join d es ++ x ∷ []) else (if r then es ++ x ∷ [] else e ∷ es ++ x ∷ []))
        ≡ (if q then [] else (if p then since_join d es else (if r then es else e ∷ es)) ++ x ∷ [])
    by_tests true true r = refl
    by_tests true false r = refl
    by_tests false true r = refl
    by_tests false false true = refl
    by_tests false false false = refl

begins_snoc : (d : ℕ) (es : List EntryValue) (x : EntryValue) → begins d (es ++ x ∷ []) ≡ begins d es + (if is_begin d x then 1 else 0)
begins_snoc d [] x = by_test (is_begin d x)
  where
    by_test : (b : Bool) → (if b then 0 + 1 else 0) ≡ 0 + (if b then 1 else 0)
    by_test true = refl
    by_test false = refl
begins_snoc d (e ∷ es) x = by_test (is_begin d e) (begins_snoc d es x)
  where
    by_test : (b : Bool) → begins d (es ++ x ∷ []) ≡ begins d es + (if is_begin d x then 1 else 0)
        → (if b then begins d (es ++ x ∷ []) + 1 else begins d (es ++ x ∷ [])) ≡ (if b then begins d es + 1 else begins d es) + (if is_begin d x then 1 else 0)
    by_test true h = omega (arith, h)
    by_test false h = h

-- a device that joins has begun nothing; a begin counts one
pub begun_snoc : (o : Opening) (log : List EntryValue) (x : EntryValue) (d : ℕ) → o.front ≤ length log
    → begun_in o (log ++ x ∷ []) d ≡ (if is_join d x then 0 else begun_in o log d + (if is_begin d x then 1 else 0))
begun_snoc o log x d l = ap (λ es. begins d (since_join d es)) (drop_snoc o.front log x l) ∙ (ap (begins d) (since_snoc d (drop o.front log) x) ∙ by_test (is_join d x))
  where
    by_test : (b : Bool) → begins d (if b then [] else since_join d (drop o.front log) ++ x ∷ []) ≡ (if b then 0 else begins d (since_join d (drop o.front log)) + (if is_begin d x then 1 else 0))
    by_test true = refl
    by_test false = begins_snoc d (since_join d (drop o.front log)) x

-- where an entry neither begins a firing of the device nor lets it join
pub begun_other : (o : Opening) (log : List EntryValue) (x : EntryValue) (d : ℕ) → o.front ≤ length log → is_join d x ≡ false → is_begin d x ≡ false
    → begun_in o (log ++ x ∷ []) d ≡ begun_in o log d
begun_other o log x d l j b = begun_snoc o log x d l ∙ (ap (λ t. if t then 0 else begun_in o log d + (if is_begin d x then 1 else 0)) j ∙ (ap (λ t. begun_in o log d + (if t then 1 else 0)) b ∙ omega arith))

pub begun_more : (o : Opening) (log : List EntryValue) (x : EntryValue) (d : ℕ) → o.front ≤ length log → is_join d x ≡ false → is_begin d x ≡ true
    → begun_in o (log ++ x ∷ []) d ≡ begun_in o log d + 1
begun_more o log x d l j b = begun_snoc o log x d l ∙ (ap (λ t. if t then 0 else begun_in o log d + (if is_begin d x then 1 else 0)) j ∙ ap (λ t. begun_in o log d + (if t then 1 else 0)) b)

pub begun_none : (o : Opening) (log : List EntryValue) (x : EntryValue) (d : ℕ) → o.front ≤ length log → is_join d x ≡ true
    → begun_in o (log ++ x ∷ []) d ≡ 0
begun_none o log x d l j = begun_snoc o log x d l ∙ ap (λ t. if t then 0 else begun_in o log d + (if is_begin d x then 1 else 0)) j
