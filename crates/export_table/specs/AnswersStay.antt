-- What the lock asks of answers: an item answers an earlier one, and the items up to there decide which.
use Rattle.std.proofs.Common.{◌≡◌, ℕ, ◌+◌, ◌<◌, ◌⊎◌, ⊎_elim, nat_eq, zero, suc, List, [], ◌∷◌, ◌++◌, length, take, sym, refl, inl, inr, arith, Bool, true, false, Option, Some, None, if◌then◌else◌}
use Rattle.std.proofs.lemmas.Option.{none-some, same_Some}
use Rattle.std.proofs.lemmas.List.{take-append-le, length-take-le}
use Rattle.firing_core.specs.Entries.{EntryValue, BeginEntry, EndEntry, IdleEntry, EditEntry}
use Rattle.export_table.specs.Items.{ItemValue, OpeningItem, WrittenItem}
use Rattle.export_table.specs.Answers.{after_entry, after_item, begun_from, last_begin, entry_answers, item_answers, item_at, answers}

-- a begin stands in the list
entry_is : (d n p : ℕ) (was : Option ℕ) (x : EntryValue) → after_entry d n was x ≡ Some p → (was ≡ Some p) ⊎ (p ≡ n)
entry_is d n p was (BeginEntry e) is = choose (nat_eq e d) is where
  choose : (b : Bool) → (if b then Some n else was) ≡ Some p → (was ≡ Some p) ⊎ (p ≡ n)
  choose true t = inr (sym (same_Some n p t))
  choose false t = inl t
entry_is d n p was (EndEntry e) is = inl is
entry_is d n p was IdleEntry is = inl is
entry_is d n p was (EditEntry e) is = inl is

after_is : (d n p : ℕ) (was : Option ℕ) (x : ItemValue) → after_item d n was x ≡ Some p → (was ≡ Some p) ⊎ (p ≡ n)
after_is d n p was (OpeningItem o) is = inl is
after_is d n p was (WrittenItem x) is = entry_is d n p was x is

begun_below : (d n p : ℕ) (was : Option ℕ) (xs : List ItemValue) → begun_from d n was xs ≡ Some p
    → (was ≡ Some p) ⊎ (p < n + length xs)
begun_below d n p was [] e = inl e
begun_below d n p was (x ∷ xs) e = ⊎_elim
    (λ h. ⊎_elim (λ w. inl w) (λ (t : p ≡ n). inr (omega (arith, t))) (after_is d n p was x h))
    (λ (l : p < (n + 1) + length xs). inr (omega (arith, l)))
    (begun_below d (n + 1) p (after_item d n was x) xs e)

last_below : (d p : ℕ) (xs : List ItemValue) → last_begin d xs ≡ Some p → p < length xs
last_below d p xs e =
    ⊎_elim (λ n. absurd (none-some p n)) (λ (l : p < 0 + length xs). omega (arith, l)) (begun_below d 0 p None xs e)

item_append : (xs ys : List ItemValue) (j : ℕ) → j < length xs → item_at (xs ++ ys) j ≡ item_at xs j
item_append [] ys j l = absurd (omega (arith, l))
item_append (x ∷ xs) ys zero l = refl
item_append (x ∷ xs) ys (suc j) l = item_append xs ys j (omega (arith, l))

item_below : (xs : List ItemValue) (j : ℕ) (x : ItemValue) → item_at xs j ≡ Some x → j < length xs
item_below [] j x e = absurd (none-some x e)
item_below (z ∷ zs) zero x e = omega arith
item_below (z ∷ zs) (suc j) x e = let b = item_below zs j x e in omega (arith, b)

taken_below : (d p j : ℕ) (xs : List ItemValue) → j < length xs → last_begin d (take j xs) ≡ Some p → p < j
taken_below d p j xs l e =
    let b = last_below d p (take j xs) e in let n = length-take-le j xs (omega (arith, l)) in omega (arith, b, n)

entry_earlier : (xs : List ItemValue) (j p : ℕ) (e : EntryValue) → j < length xs
    → entry_answers (take j xs) e ≡ Some p → p < j
entry_earlier xs j p (BeginEntry d) l is = absurd (none-some p is)
entry_earlier xs j p (EndEntry d) l is = taken_below d p j xs l is
entry_earlier xs j p IdleEntry l is = absurd (none-some p is)
entry_earlier xs j p (EditEntry e) l is = absurd (none-some p is)

earlier_by : (xs : List ItemValue) (j p : ℕ) (o : Option ItemValue) → item_at xs j ≡ o
    → item_answers (take j xs) o ≡ Some p → p < j
earlier_by xs j p None at is = absurd (none-some p is)
earlier_by xs j p (Some (OpeningItem o)) at is = absurd (none-some p is)
earlier_by xs j p (Some (WrittenItem e)) at is = entry_earlier xs j p e (item_below xs j (WrittenItem e) at) is

pub answers_earlier : (xs : List ItemValue) (j p : ℕ) → answers xs j ≡ Some p → p < j
answers_earlier xs j p e = earlier_by xs j p (item_at xs j) refl e

pub answers_stay : (xs : List ItemValue) (x : ItemValue) (j : ℕ) → j < length xs
    → answers (xs ++ x ∷ []) j ≡ answers xs j
answers_stay xs x j l =
    λ i. item_answers (take-append-le j xs (x ∷ []) (omega (arith, l)) i) (item_append xs (x ∷ []) j l i)
