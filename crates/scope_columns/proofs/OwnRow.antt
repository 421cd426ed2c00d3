-- A field with the device's own entry in its row.
use Rattle.std.proofs.Common.{◌≡◌, ℕ, zero, suc, ◌<◌, ◌+◌, List, [], ◌∷◌, ◌++◌, length, map, take, drop, refl, sym}
use Rattle.std.proofs.Common.{◌∙◌, ap, arith, Bool, true, false, nat_lt, get_or}
use Rattle.std.proofs.lemmas.List.{get_or_append_left, get_or-append-add, length-append, length-map}
use Rattle.fc_values.specs.Types.{LocalType, IntType, TypeField}
use Rattle.fc_values.specs.Values.{LocalValue, IntValue}
use Rattle.fc_values.specs.Fields.{Entries, ValueField, device_of, devices, with_entry, with_number}
use Rattle.alignment.specs.Environments.{near_numbers}
use Rattle.alignment.specs.Slots.{NearSlots}
use Rattle.value_columns.specs.Columns.{word_in, row_in, entries_in}
use Rattle.alignment.specs.Scopes.{weights}
use Rattle.scope_columns.specs.Words.{value_in, Added, row_of, values_in, weights_of}
use Rattle.alignment.proofs.Entries.{devices_with}

-- a list with one more in a row
abbrev pub with_row : {A : Type 0} → ℕ → A → List A → List A
with_row k x xs = take k xs ++ (x ∷ drop k xs)

pub entry_row : (d : ℕ) (v : LocalValue) (es : Entries) → with_entry d v es ≡ with_row (row_of d (devices es)) (d, v) es
entry_row d v [] = refl
entry_row d v (e ∷ es) = by_test (nat_lt d e.0) refl (entry_row d v es)
  where
    by_test : (b : Bool) → nat_lt d e.0 ≡ b → with_entry d v es ≡ with_row (row_of d (devices es)) (d, v) es
        → with_entry d v (e ∷ es) ≡ with_row (row_of d (devices (e ∷ es))) (d, v) (e ∷ es)
    by_test true t h = rw t refl
    by_test false t h = rw t (ap (λ (xs : Entries). e ∷ xs) h)

pub entries_are : (ws : List ℕ) (t : LocalType) (n at j : ℕ) (es : Entries)
    → ((i : ℕ) → i < length es → row_in ws t n at (j + i) ≡ (get_or es i (0, IntValue 0)).1)
    → entries_in ws t n at j (devices es) ≡ es
entries_are ws t n at j [] h = refl
entries_are ws t n at j (e ∷ es) h =
    let first : row_in ws t n at j ≡ e.1 = ap (row_in ws t n at) (omega arith) ∙ h 0 (omega arith) in
    let rest = entries_are ws t n at (j + 1) es
    (λ i l. ap (row_in ws t n at) (omega arith) ∙ h (suc i) (omega arith)) in
    rw (first, rest) refl

pub value_nth : (es : Entries) (i : ℕ) → i < length es
    → (get_or es i (0, IntValue 0)).1 ≡ get_or (values_in es) i (IntValue 0)
value_nth [] i h = absurd (omega arith)
value_nth (e ∷ es) zero h = refl
value_nth (e ∷ es) (suc i) h = value_nth es i (omega arith)

pub values_row : (k d : ℕ) (v : LocalValue) (es : Entries)
    → values_in (with_row k (d, v) es) ≡ with_row k v (values_in es)
values_row zero d v es = refl
values_row (suc k) d v [] = refl
values_row (suc k) d v (e ∷ es) = ap (λ (vs : List LocalValue). e.1 ∷ vs) (values_row k d v es)

pub long_row : {A : Type 0} (k : ℕ) (x : A) (xs : List A) → length (with_row k x xs) ≡ suc (length xs)
long_row zero x xs = refl
long_row (suc k) x [] = refl
long_row (suc k) x (y ∷ ys) = ap suc (long_row k x ys)

pub with_long : (d : ℕ) (v : LocalValue) (es : Entries) → length (with_entry d v es) ≡ suc (length es)
with_long d v es = ap length (entry_row d v es) ∙ long_row (row_of d (devices es)) (d, v) es

pub map_row : {A B : Type 0} (f : A → B) (k : ℕ) (x : A) (xs : List A)
    → map f (with_row k x xs) ≡ with_row k (f x) (map f xs)
map_row f zero x xs = refl
map_row f (suc k) x [] = refl
map_row f (suc k) x (y ∷ ys) = ap (λ zs. f y ∷ zs) (map_row f k x ys)

devices_of_weights : (ns : List NearSlots) → devices (weights ns) ≡ near_numbers ns
devices_of_weights [] = refl
devices_of_weights (n ∷ ns) = ap (λ (ds : List ℕ). n.0 ∷ ds) (devices_of_weights ns)

-- the weights as words
weight_values : (ns : List NearSlots) → values_in (weights ns) ≡ map IntValue (weights_of ns)
weight_values [] = refl
weight_values (n ∷ ns) = ap (λ (vs : List LocalValue). IntValue n.1 ∷ vs) (weight_values ns)

int_nth : (us : List ℕ) (i : ℕ) → i < length us → get_or (map IntValue us) i (IntValue 0) ≡ IntValue (get_or us i 0)
int_nth [] i h = absurd (omega arith)
int_nth (u ∷ us) zero h = refl
int_nth (u ∷ us) (suc i) h = int_nth us i (omega arith)

weights_long : (ns : List NearSlots) → length (weights ns) ≡ length (weights_of ns)
weights_long [] = refl
weights_long (n ∷ ns) = ap suc (weights_long ns)

module _ (d least row : ℕ) (ns : List NearSlots) (is_row : row ≡ row_of d (near_numbers ns)) where
  abbrev links_field : Entries
  links_field = with_entry d (IntValue least) (weights ns)

  abbrev links_words : List ℕ
  links_words = with_row row least (weights_of ns)

  links_values : values_in links_field ≡ map IntValue links_words
  links_values =
      let row' : row_of d (devices (weights ns)) ≡ row = ap (row_of d) (devices_of_weights ns) ∙ sym is_row in
      ap values_in (entry_row d (IntValue least) (weights ns))
      ∙ values_row (row_of d (devices (weights ns))) d (IntValue least) (weights ns)
      ∙ ap (λ k. with_row k (IntValue least) (values_in (weights ns))) row'
      ∙ ap (with_row row (IntValue least)) (weight_values ns) ∙ sym (map_row IntValue row least (weights_of ns))

  links_devices : devices links_field ≡ with_number d (near_numbers ns)
  links_devices = devices_with d (IntValue least) (weights ns) ∙ ap (with_number d) (devices_of_weights ns)

  links_long : length links_words ≡ length links_field
  links_long =
      long_row row least (weights_of ns) ∙ ap suc (sym (weights_long ns))
      ∙ sym (with_long d (IntValue least) (weights ns))

  module _ (old new : List ℕ) (e : new ≡ old ++ links_words) where
    links_word : (n i : ℕ) → i < length links_field
        → row_in new IntType n (length old) (0 + i) ≡ (get_or links_field i (0, IntValue 0)).1
    links_word n i h =
        let inside : i < length links_words = omega (arith, h, links_long) in
        let word : word_in new (length old + (0 + i)) ≡ get_or links_words i 0 =
        ap (λ k. word_in new (length old + k)) (omega arith) ∙ ap (λ us. word_in us (length old + i)) e
        ∙ get_or-append-add old links_words i 0 in
        ap IntValue word ∙ sym (int_nth links_words i inside) ∙ ap (λ vs. get_or vs i (IntValue 0)) (sym links_values)
        ∙ sym (value_nth links_field i h)

    pub links_added : Added (TypeField IntType) (with_number d (near_numbers ns)) old new
    links_added =
        let size : length links_words ≡ length (with_number d (near_numbers ns)) =
        links_long ∙ sym (length-map links_field device_of) ∙ ap length links_devices in
        record {
          kept = record { same = λ p h. ap (λ us. word_in us p) e ∙ get_or_append_left old links_words 0 p h };
          long = ap length e ∙ length-append old links_words ∙ ap (λ k. length old + k) (size ∙ omega arith);
        }

    pub links_value : value_in new (TypeField IntType) (with_number d (near_numbers ns)) (length old)
        ≡ ValueField links_field
    links_value =
        ap ValueField (ap (λ ds. entries_in new IntType (length ds) (length old) 0 ds) (sym links_devices)
        ∙ entries_are new IntType (length (devices links_field)) (length old) 0 links_field
        (links_word (length (devices links_field))))
