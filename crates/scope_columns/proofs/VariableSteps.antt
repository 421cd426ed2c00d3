-- A variable that is added behind the words.
use Rattle.std.proofs.Common.{◌≡◌, ℕ, ◌<◌, ◌≤◌, ◌+◌, ◌-◌, ◌*◌, List, [], ◌∷◌, ◌++◌, length, take, drop}
use Rattle.std.proofs.Common.{sym, ◌∙◌, ap, subst, arith, true, false, Some}
use Rattle.std.specs.Prelude.{filter}
use Rattle.std.proofs.lemmas.List.{get_or_append_left, get_or-append-add, get_or-take, get_or-drop}
use Rattle.std.proofs.lemmas.List.{take_more, append_assoc, length-append, length-take-le, length-drop}
use Rattle.fc_values.specs.Types.{LocalType, ValueType, TypeLocal, TypeField, local_type_of, leaves}
use Rattle.fc_values.specs.BuiltinTypes.{lifted}
use Rattle.fc_values.specs.Fields.{ValueField, restricted, with_number}
use Rattle.fc_nodes.specs.Typing.{type_at}
use Rattle.alignment.specs.References.{numbers_in}
use Rattle.value_columns.specs.Columns.{word_in, row_in, entries_in}
use Rattle.scope_columns.specs.declared.scopes.Binder.{Binder}
use Rattle.scope_columns.specs.declared.scopes.Sight.{Sight}
use Rattle.alignment.specs.Scopes.{variable_at}
use Rattle.scope_columns.specs.Words.{words_for, value_in, SameBelow, Added, stays, kept_rows}
use Rattle.scope_columns.specs.Scopes.{IsAligned, VariableAdded, devices_in, binder_type, binder_words}
use Rattle.scope_columns.specs.Scopes.{vars_in, types_in}
use Rattle.scope_columns.proofs.WordSteps.{value_moved}
use Rattle.scope_columns.proofs.KeptRows.{chosen_rows, kept_long, all_kept}

-- one word more that is added once more
pub word_again : (ws : List ℕ) {mid new : List ℕ} {w : ℕ} (at i : ℕ) → at ≤ i → i < length ws
    → mid ≡ ws ++ take (i - at) (drop at ws) → w ≡ word_in mid i → new ≡ mid ++ (w ∷ [])
    → new ≡ ws ++ take (i + 1 - at) (drop at ws)
word_again ws {mid} {new} {w} at i low high so_far read e =
    let behind = drop at ws in
    let many = i - at in
    let size : length behind ≡ length ws - at = length-drop at ws in
    let next : i + 1 - at ≡ many + 1 = omega arith in
    let place : at + many ≡ i = omega arith in
    let word : w ≡ word_in behind many =
    read ∙ ap (λ us. word_in us i) so_far ∙ get_or_append_left ws (take many behind) 0 i high
    ∙ ap (word_in ws) (sym place) ∙ sym (get_or-drop at ws many 0) in
    e ∙ ap (λ us. us ++ (w ∷ [])) so_far ∙ append_assoc ws (take many behind) (w ∷ [])
    ∙ ap (λ us. ws ++ us) (
    ap (λ u. take many behind ++ (u ∷ [])) word
    ∙ sym (take_more behind many 0 (omega (arith, size)))
    ∙ ap (λ m. take m behind) (sym next)
    )

-- words that were added once more
pub copied : {ws new : List ℕ} (t : ValueType) (ds : List ℕ) (at many : ℕ) → many ≡ words_for t (length ds)
    → at + many ≤ length ws → new ≡ ws ++ take many (drop at ws)
    → Added t ds ws new × (value_in new t ds (length ws) ≡ value_in ws t ds at)
copied {ws} {new} t ds at many m h e =
    let again = take many (drop at ws) in
    let behind : length (drop at ws) ≡ length ws - at = length-drop at ws in
    let size : length again ≡ many = length-take-le many (drop at ws) (omega (arith, behind, h)) in (
      record {
        kept = record { same = λ p l. ap (λ us. word_in us p) e ∙ get_or_append_left ws again 0 p l };
        long = ap length e ∙ length-append ws again ∙ ap (λ k. length ws + k) (size ∙ m);
      },
      value_moved t ds new ws (length ws) at (λ p l.
          ap (λ us. word_in us (length ws + p)) e ∙ get_or-append-add ws again p 0
          ∙ get_or-take many (drop at ws) p 0 (omega (arith, l, m)) ∙ get_or-drop at ws p 0),
    )

-- what is known of a binder, by whether its value is a field
module _ (d : ℕ) (b : Binder) where
  pub local_words : b.is_field ≡ false → binder_words d b ≡ leaves (local_type_of b.ty.now)
  local_words f = ap (λ k. words_for (lifted k (local_type_of b.ty.now)) (length (devices_in d b.env.now))) f

  pub field_words : b.is_field ≡ true
      → binder_words d b ≡ length (devices_in d b.env.now) * leaves (local_type_of b.ty.now)
  field_words f = ap (λ k. words_for (lifted k (local_type_of b.ty.now)) (length (devices_in d b.env.now))) f

  pub field_aligned : (ns ds : List ℕ) → b.is_field ≡ true → IsAligned d ns (binder_type b) ds
      → IsAligned d ns (TypeField (local_type_of b.ty.now)) ds
  field_aligned ns ds f h = subst (λ k. IsAligned d ns (lifted k (local_type_of b.ty.now)) ds) f h

-- the value of a binder that a variable names, by whether it is a field
module _ {d binder : ℕ} {s : Sight} {ws new : List ℕ} (b : Binder)
    (has : type_at binder (types_in s.vars.now) ≡ Some (binder_type b))
    (bound : variable_at binder (vars_in d ws s.vars.now)
    ≡ Some (value_in ws (binder_type b) (devices_in d b.env.now) b.at)) where
  pub local_variable : b.is_field ≡ false → b.at + binder_words d b ≤ length ws
      → {many : ℕ} → many ≡ leaves (local_type_of b.ty.now) → new ≡ ws ++ take many (drop b.at ws)
      → VariableAdded d binder s ws new
  local_variable f h {many} m e =
      let T = TypeLocal (local_type_of b.ty.now) in
      let type : binder_type b ≡ T = ap (λ k. lifted k (local_type_of b.ty.now)) f in
      let size = ap (λ t. words_for t (length (devices_in d b.env.now))) type in
      let c = copied T (devices_in d s.env.now) b.at many m (omega (arith, h, size, m)) e in
      record {
        type = T;
        has = has ∙ ap Some type;
        value = value_in ws T (devices_in d b.env.now) b.at;
        bound = bound ∙ ap (λ t. Some (value_in ws t (devices_in d b.env.now) b.at)) type;
        added = c.0;
        is = c.1;
      }

  pub field_variable : b.is_field ≡ true
      → Added (TypeField (local_type_of b.ty.now)) (devices_in d s.env.now) ws new
      → value_in new (TypeField (local_type_of b.ty.now)) (devices_in d s.env.now) (length ws)
      ≡ restricted d (numbers_in s.env.now)
      (value_in ws (TypeField (local_type_of b.ty.now)) (devices_in d b.env.now) b.at)
      → VariableAdded d binder s ws new
  field_variable f a v =
      let T = TypeField (local_type_of b.ty.now) in
      let type : binder_type b ≡ T = ap (λ k. lifted k (local_type_of b.ty.now)) f in
      record {
        type = T;
        has = has ∙ ap Some type;
        value = value_in ws T (devices_in d b.env.now) b.at;
        bound = bound ∙ ap (λ t. Some (value_in ws t (devices_in d b.env.now) b.at)) type;
        added = a;
        is = v;
      }

-- A field of which all devices are still aligned, and one of which some are.
module _ (d : ℕ) (ns ds : List ℕ) (t : LocalType) (aligned : filter (stays d ns) ds ≡ with_number d ns)
    {ws new : List ℕ} (at : ℕ) where
  pub same_field : length ds ≡ length (with_number d ns) → {many : ℕ} → many ≡ length ds * leaves t
      → at + many ≤ length ws → new ≡ ws ++ take many (drop at ws)
      → Added (TypeField t) (with_number d ns) ws new
      × (value_in new (TypeField t) (with_number d ns) (length ws) ≡ restricted d ns (value_in ws (TypeField t) ds at))
  same_field l {many} m h e =
      let all = all_kept (stays d ns) ws t (length ds) at 0 ds (ap length aligned ∙ sym l) in
      let same : ds ≡ with_number d ns = sym all.0 ∙ aligned in
      let c = copied (TypeField t) ds at many m h e in (
        subst (λ es. Added (TypeField t) es ws new) same c.0,
        ap (λ es. value_in new (TypeField t) es (length ws)) (sym same) ∙ c.1 ∙ ap ValueField (sym all.1),
      )

  pub chosen_field : {kept : List ℕ} → kept ≡ kept_rows (stays d ns) 0 ds → SameBelow (length ws) ws new
      → length new ≡ length ws + length kept * leaves t
      → ((j : ℕ) → j < length kept
      → row_in new t (length kept) (length ws) j ≡ row_in ws t (length ds) at (word_in kept j))
      → Added (TypeField t) (with_number d ns) ws new
      × (value_in new (TypeField t) (with_number d ns) (length ws) ≡ restricted d ns (value_in ws (TypeField t) ds at))
  chosen_field {kept} k s l h =
      let es = with_number d ns in
      let many : length kept ≡ length es = ap length k ∙ kept_long (stays d ns) 0 ds ∙ ap length aligned in
      let rows : (i : ℕ) → i < length (kept_rows (stays d ns) 0 ds) → row_in new t (length kept) (length ws) i
      ≡ row_in ws t (length ds) at (word_in (kept_rows (stays d ns) 0 ds) i) =
      subst (λ ks. (i : ℕ) → i < length ks
      → row_in new t (length kept) (length ws) i ≡ row_in ws t (length ds) at (word_in ks i)) k h in
      let is = chosen_rows (stays d ns) ws new t (length ds) at (length kept) (length ws) ds rows in (
        record { kept = s; long = l ∙ ap (λ m. length ws + m * leaves t) many },
        ap ValueField (ap (λ m. entries_in new t m (length ws) 0 es) (sym many)
            ∙ ap (entries_in new t (length kept) (length ws) 0) (sym aligned) ∙ is),
      )
