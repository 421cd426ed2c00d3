-- The field of what the neighbours have in a slot, pushed leaf by leaf.
use Rattle.std.proofs.Common.{◌≡◌, ℕ, zero, suc, ◌<◌, ◌+◌, ◌*◌, List, [], ◌∷◌, ◌++◌, length, map, refl, sym, ◌∙◌, ap}
use Rattle.std.proofs.Common.{arith, get_or, ◌⊎◌, inl, inr}
use Rattle.std.proofs.lemmas.Nat.{mul-add-lt}
use Rattle.std.proofs.lemmas.Bool.{cases_lt}
use Rattle.fc_values.specs.Exports.{slot_at}
use Rattle.std.proofs.lemmas.List.{get_or_append_left, get_or-append-add, length-append, length-map}
use Rattle.fc_values.specs.Types.{LocalType, TypeField, leaves}
use Rattle.fc_values.specs.Values.{LocalValue, IntValue, form_of}
use Rattle.fc_values.specs.Fields.{Entries, ValueField, device_of, devices, with_number}
use Rattle.alignment.specs.Environments.{near_numbers}
use Rattle.alignment.specs.Slots.{NearSlots, FlatEnv}
use Rattle.alignment.specs.Hearing.{slot_entries, field_with}
use Rattle.value_columns.specs.Columns.{word_in, row_in, entries_in}
use Rattle.value_columns.proofs.Rows.{same_word}
use Rattle.value_columns.proofs.LocalReads.{reads_row}
use Rattle.scope_columns.specs.Words.{value_in, SameBelow, Added, AllForm, row_of, leaf_word, slot_column, values_in}
use Rattle.alignment.proofs.Entries.{devices_with}
use Rattle.scope_columns.proofs.OwnRow.{with_row, entry_row, entries_are, value_nth, values_row, map_row}

-- so many columns of some values were added
pub record Columns (old : List ℕ) (vs : List LocalValue) (many : ℕ) (new : List ℕ) : Type 0 where
  pub below : SameBelow (length old) old new
  pub long : length new ≡ length old + length vs * many
  pub each : (k i : ℕ) → k < many → i < length vs
      → word_in new (length old + length vs * k + i) ≡ leaf_word k (get_or vs i (IntValue 0))

pub no_columns : (old : List ℕ) (vs : List LocalValue) → Columns old vs 0 old
no_columns old vs = record {
  below = record { same = λ p h. refl };
  long = omega arith;
  each = λ k i h l. absurd (omega arith);
}

leaf_nth : (k : ℕ) (vs : List LocalValue) (i : ℕ) → i < length vs
    → get_or (map (leaf_word k) vs) i 0 ≡ leaf_word k (get_or vs i (IntValue 0))
leaf_nth k [] i h = absurd (omega arith)
leaf_nth k (v ∷ vs) zero h = refl
leaf_nth k (v ∷ vs) (suc i) h = leaf_nth k vs i (omega arith)

pub one_column : {old mid new : List ℕ} {vs : List LocalValue} (many : ℕ) → Columns old vs many mid
    → new ≡ mid ++ map (leaf_word many) vs → Columns old vs (many + 1) new
one_column {old} {mid} {new} {vs} many h e =
    let l = h.long in
    let column = map (leaf_word many) vs in
    let size = length-map vs (leaf_word many) in
    record {
      below = record {
        same = λ p b. ap (λ us. word_in us p) e ∙ get_or_append_left mid column 0 p (omega (arith, b, l))
            ∙ h.below.same p b;
      };
      long = ap length e ∙ length-append mid column ∙ by_size l size;
      each = λ k i b c. by_column k i b c (k_cases k b);
    }
  where
    by_size : {m n : ℕ} → m ≡ length old + length vs * many → n ≡ length vs
        → m + n ≡ length old + length vs * (many + 1)
    by_size f g = omega (arith, f, g)

    k_cases : (k : ℕ) → k < many + 1 → (k < many) ⊎ (k ≡ many)
    k_cases k b = elim (cases_lt k many) [ inl h ↦ inl h | inr h ↦ inr (omega arith) ]

    by_column : (k i : ℕ) → k < many + 1 → i < length vs → (k < many) ⊎ (k ≡ many)
        → word_in new (length old + length vs * k + i) ≡ leaf_word k (get_or vs i (IntValue 0))
    by_column k i b c (inl f) =
        let l = h.long in
        let inside : length vs * k + i < length vs * many = omega (arith, mul-add-lt k (length vs) i many f c) in
        ap (λ us. word_in us (length old + length vs * k + i)) e
        ∙ get_or_append_left mid (map (leaf_word many) vs) 0 (length old + length vs * k + i)
        (omega (arith, l, inside)) ∙ h.each k i f c
    by_column k i b c (inr f) =
        let l = h.long in
        let place : length old + length vs * k + i ≡ length mid + i =
        ap (λ j. length old + length vs * j + i) f ∙ omega (arith, l) in
        same_word new (length old + length vs * k + i) (length mid + i) place
        ∙ ap (λ us. word_in us (length mid + i)) e ∙ get_or-append-add mid (map (leaf_word many) vs) i 0
        ∙ leaf_nth many vs i c ∙ ap (λ j. leaf_word j (get_or vs i (IntValue 0))) (sym f)

form_nth : (t : LocalType) (es : Entries) (i : ℕ) → AllForm t es → i < length es
    → form_of (get_or (values_in es) i (IntValue 0)) ≡ t
form_nth t [] i h b = absurd (omega arith)
form_nth t (e ∷ es) zero h b = h.0
form_nth t (e ∷ es) (suc i) h b = form_nth t es i h.1 (omega arith)

-- all columns of a field
module _ (t : LocalType) (es : Entries) (ds : List ℕ) (over : devices es ≡ ds) (forms : AllForm t es)
    {old new : List ℕ} (h : Columns old (values_in es) (leaves t) new) where
  same_long : length (values_in es) ≡ length ds
  same_long = length-map es _ ∙ sym (length-map es device_of) ∙ ap length over

  pub columns_added : Added (TypeField t) ds old new
  columns_added = record { kept = h.below; long = h.long ∙ ap (λ m. length old + m * leaves t) same_long }

  pub columns_value : value_in new (TypeField t) ds (length old) ≡ ValueField es
  columns_value =
      let n = length (values_in es) in
      let rows : (i : ℕ) → i < length es
      → row_in new t n (length old) (0 + i) ≡ (get_or es i (0, IntValue 0)).1 = λ i b.
      let c : i < n = omega (arith, b, length-map es (λ (e : ℕ × LocalValue). e.1)) in
      ap (row_in new t n (length old)) (omega arith)
      ∙ reads_row (get_or (values_in es) i (IntValue 0)) t new n (length old) i (form_nth t es i forms b)
      (λ k l. h.each k i l c) ∙ sym (value_nth es i b) in
      ap ValueField (ap (λ m. entries_in new t m (length old) 0 ds) (sym same_long)
      ∙ ap (entries_in new t n (length old) 0) (sym over) ∙ entries_are new t n (length old) 0 es rows)

-- the field of what the neighbours have in a slot
module _ (d k row : ℕ) (own : LocalValue) (env : FlatEnv) (is_row : row ≡ row_of d (near_numbers env.near)) where
  slot_devices : (ns : List NearSlots) → devices (slot_entries k ns) ≡ near_numbers ns
  slot_devices [] = refl
  slot_devices (n ∷ ns) = ap (λ (es : List ℕ). n.0 ∷ es) (slot_devices ns)

  pub heard_devices : devices (field_with k d own env) ≡ with_number d (near_numbers env.near)
  heard_devices = devices_with d own (slot_entries k env.near) ∙ ap (with_number d) (slot_devices env.near)

  slot_leaves : (leaf : ℕ) (ns : List NearSlots)
      → map (leaf_word leaf) (values_in (slot_entries k ns)) ≡ slot_column leaf k ns
  slot_leaves leaf [] = refl
  slot_leaves leaf (n ∷ ns) = ap (λ (us : List ℕ). leaf_word leaf (slot_at k n.2).1 ∷ us) (slot_leaves leaf ns)

  pub heard_leaves : (leaf : ℕ)
      → map (leaf_word leaf) (values_in (field_with k d own env))
      ≡ with_row row (leaf_word leaf own) (slot_column leaf k env.near)
  heard_leaves leaf =
      let es = slot_entries k env.near in
      let row' : row_of d (devices es) ≡ row = ap (row_of d) (slot_devices env.near) ∙ sym is_row in
      ap (λ xs. map (leaf_word leaf) (values_in xs)) (entry_row d own es)
      ∙ ap (map (leaf_word leaf)) (values_row (row_of d (devices es)) d own es)
      ∙ map_row (leaf_word leaf) (row_of d (devices es)) own (values_in es)
      ∙ ap (λ j. with_row j (leaf_word leaf own) (map (leaf_word leaf) (values_in es))) row'
      ∙ ap (with_row row (leaf_word leaf own)) (slot_leaves leaf env.near)
