-- A column that is added in parts: the words before the device's own row, its own word, and the words behind.
use Rattle.std.proofs.Common.{◌≡◌, ℕ, zero, suc, ◌≤◌, List, [], ◌∷◌, ◌++◌, length, map, take, drop, sym, ◌∙◌, ap}
use Rattle.std.proofs.Common.{refl, subst, arith, Bool, true, false, nat_lt, append_assoc}
use Rattle.std.proofs.lemmas.List.{take-map, drop-map}
use Rattle.fc_values.specs.Types.{LocalType}
use Rattle.fc_values.specs.Values.{LocalValue, form_of}
use Rattle.fc_values.specs.Fields.{Entries, with_entry}
use Rattle.alignment.specs.Environments.{near_numbers}
use Rattle.alignment.specs.Hearing.{slot_entries}
use Rattle.alignment.specs.Slots.{NearHave}
use Rattle.alignment.specs.declared.environments.NearRef.{NearRef}
use Rattle.alignment.specs.References.{nears_of}
use Rattle.scope_columns.specs.Words.{AllForm, row_of}
use Rattle.scope_columns.proofs.DeviceRows.{numbers_long, own_within}
use Rattle.scope_columns.proofs.OwnRow.{with_row}

-- a column of some rows, with one more word between those before a row and those behind
pub row_between : {A B : Type 0} (g : A → B) (f : B → ℕ) (k x : ℕ) (xs : List A) (old : List ℕ)
    {all before behind : List A} {low own high : List ℕ} → all ≡ xs → before ≡ take k all → behind ≡ drop k all
    → low ≡ old ++ map f (map g before) → own ≡ low ++ x ∷ [] → high ≡ own ++ map f (map g behind)
    → high ≡ old ++ with_row k x (map f (map g xs))
row_between g f k x xs old {all} {before} {behind} {low} {own} {high} e p q l o h =
    let column : List ℕ = map f (map g xs) in
    let front : map f (map g before) ≡ take k column =
    ap (λ ys. map f (map g ys)) (p ∙ ap (take k) e)
    ∙ sym (take-map f k (map g xs) ∙ ap (map f) (take-map g k xs)) in
    let back : map f (map g behind) ≡ drop k column =
    ap (λ ys. map f (map g ys)) (q ∙ ap (drop k) e)
    ∙ sym (drop-map f k (map g xs) ∙ ap (map f) (drop-map g k xs)) in
    let first : low ≡ old ++ take k column = l ∙ ap (λ ws. old ++ ws) front in
    let with : own ≡ (old ++ take k column) ++ x ∷ [] = o ∙ ap (λ ws. ws ++ x ∷ []) first in
    h ∙ ap (λ ws. own ++ ws) back ∙ ap (λ ws. ws ++ drop k column) with
    ∙ append_assoc (old ++ take k column) (x ∷ []) (drop k column)
    ∙ append_assoc old (take k column) (x ∷ drop k column)

-- neighbours can be parted at the device's own row
pub parts_at : (d own : ℕ) (xs : List NearRef) {all : List NearRef} → all ≡ xs
    → own ≡ row_of d (near_numbers (nears_of xs)) → own ≤ length all
parts_at d own xs e h =
    omega (arith, ap length e, h, own_within d (near_numbers (nears_of xs)), numbers_long xs)

-- what holds of all neighbours holds of those before a row, and of those behind
have_taken : (slot k : ℕ) (xs : List NearRef) → NearHave slot (nears_of xs) → NearHave slot (nears_of (take k xs))
have_taken slot zero xs h = tt
have_taken slot (suc k) [] h = tt
have_taken slot (suc k) (x ∷ xs) h = (h.0, have_taken slot k xs h.1)

have_dropped : (slot k : ℕ) (xs : List NearRef) → NearHave slot (nears_of xs) → NearHave slot (nears_of (drop k xs))
have_dropped slot zero xs h = h
have_dropped slot (suc k) [] h = tt
have_dropped slot (suc k) (x ∷ xs) h = have_dropped slot k xs h.1

pub have_before : (slot k : ℕ) (xs : List NearRef) {all before : List NearRef} → all ≡ xs → before ≡ take k all
    → NearHave slot (nears_of xs) → NearHave slot (nears_of before)
have_before slot k xs e p h =
    subst (λ ys. NearHave slot (nears_of ys)) (sym (p ∙ ap (take k) e)) (have_taken slot k xs h)

pub have_behind : (slot k : ℕ) (xs : List NearRef) {all behind : List NearRef} → all ≡ xs → behind ≡ drop k all
    → NearHave slot (nears_of xs) → NearHave slot (nears_of behind)
have_behind slot k xs e p h =
    subst (λ ys. NearHave slot (nears_of ys)) (sym (p ∙ ap (drop k) e)) (have_dropped slot k xs h)

forms_taken : (t : LocalType) (slot k : ℕ) (xs : List NearRef) → AllForm t (slot_entries slot (nears_of xs))
    → AllForm t (slot_entries slot (nears_of (take k xs)))
forms_taken t slot zero xs h = tt
forms_taken t slot (suc k) [] h = tt
forms_taken t slot (suc k) (x ∷ xs) h = (h.0, forms_taken t slot k xs h.1)

forms_dropped : (t : LocalType) (slot k : ℕ) (xs : List NearRef) → AllForm t (slot_entries slot (nears_of xs))
    → AllForm t (slot_entries slot (nears_of (drop k xs)))
forms_dropped t slot zero xs h = h
forms_dropped t slot (suc k) [] h = tt
forms_dropped t slot (suc k) (x ∷ xs) h = forms_dropped t slot k xs h.1

pub forms_before : (t : LocalType) (slot k : ℕ) (xs : List NearRef) {all before : List NearRef} → all ≡ xs
    → before ≡ take k all
    → AllForm t (slot_entries slot (nears_of xs)) → AllForm t (slot_entries slot (nears_of before))
forms_before t slot k xs e p h =
    subst (λ ys. AllForm t (slot_entries slot (nears_of ys))) (sym (p ∙ ap (take k) e)) (forms_taken t slot k xs h)

pub forms_behind : (t : LocalType) (slot k : ℕ) (xs : List NearRef) {all behind : List NearRef} → all ≡ xs
    → behind ≡ drop k all
    → AllForm t (slot_entries slot (nears_of xs)) → AllForm t (slot_entries slot (nears_of behind))
forms_behind t slot k xs e p h =
    subst (λ ys. AllForm t (slot_entries slot (nears_of ys))) (sym (p ∙ ap (drop k) e)) (forms_dropped t slot k xs h)

-- the forms of a field, apart from the device's own value
pub forms_apart : (t : LocalType) (d : ℕ) (v : LocalValue) (es : Entries) → AllForm t (with_entry d v es)
    → (form_of v ≡ t) × AllForm t es
forms_apart t d v [] h = h
forms_apart t d v (e ∷ es) h = by_test (nat_lt d e.0) refl h (forms_apart t d v es)
  where
    by_test : (b : Bool) → nat_lt d e.0 ≡ b → AllForm t (with_entry d v (e ∷ es))
        → (AllForm t (with_entry d v es) → (form_of v ≡ t) × AllForm t es) → (form_of v ≡ t) × AllForm t (e ∷ es)
    by_test true k h f = rw k at h
    by_test false k h f =
        let h' : (form_of e.1 ≡ t) × AllForm t (with_entry d v es) = rw k at h in
        let r = f h'.1 in
        (r.0, (h'.0, r.1))
