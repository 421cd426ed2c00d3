-- A field restricted to some of its devices, out of the rows that are kept.
use Rattle.std.proofs.Common.{◌≡◌, ℕ, zero, suc, ◌<◌, ◌≤◌, ◌+◌, List, [], ◌∷◌, ◌++◌, length, drop, get_or}
use Rattle.std.proofs.Common.{refl, sym, subst, ◌∙◌, ap, arith, Bool, true, false, if◌then◌else◌}
use Rattle.std.proofs.lemmas.List.{append_assoc, append-nil, at_drop_more, at_drop_all}
use Rattle.std.specs.Prelude.{filter}
use Rattle.fc_values.specs.Types.{LocalType}
use Rattle.fc_values.specs.Values.{LocalValue}
use Rattle.fc_values.specs.Fields.{Entries}
use Rattle.value_columns.specs.Columns.{word_in, row_in, entries_in}
use Rattle.scope_columns.specs.Words.{kept_rows}

-- devices, each with the value in a row
abbrev with_rows : (ℕ → LocalValue) → List ℕ → List ℕ → Entries
with_rows f [] ks = []
with_rows f (d ∷ ds) [] = []
with_rows f (d ∷ ds) (k ∷ ks) = (d, f k) ∷ with_rows f ds ks

module _ (q : ℕ → Bool) where
  abbrev passes : ℕ × LocalValue → Bool
  passes e = q e.0

  pub kept_long : (i : ℕ) (ds : List ℕ) → length (kept_rows q i ds) ≡ length (filter q ds)
  kept_long i [] = refl
  kept_long i (d ∷ ds) = by_test (q d) refl (kept_long (i + 1) ds)
    where
      by_test : (b : Bool) → q d ≡ b → length (kept_rows q (i + 1) ds) ≡ length (filter q ds)
          → length (kept_rows q i (d ∷ ds)) ≡ length (filter q (d ∷ ds))
      by_test true t h = rw t (ap suc h)
      by_test false t h = rw t h

  filter_rows : (ws : List ℕ) (t : LocalType) (n at i : ℕ) (ds : List ℕ)
      → filter passes (entries_in ws t n at i ds) ≡ with_rows (row_in ws t n at) (filter q ds) (kept_rows q i ds)
  filter_rows ws t n at i [] = refl
  filter_rows ws t n at i (d ∷ ds) = by_test (q d) refl (filter_rows ws t n at (i + 1) ds)
    where
      by_test : (b : Bool) → q d ≡ b
          → filter passes (entries_in ws t n at (i + 1) ds)
          ≡ with_rows (row_in ws t n at) (filter q ds) (kept_rows q (i + 1) ds)
          → filter passes (entries_in ws t n at i (d ∷ ds))
          ≡ with_rows (row_in ws t n at) (filter q (d ∷ ds)) (kept_rows q i (d ∷ ds))
      by_test true t' h = rw t' (ap (λ (es : Entries). (d, row_in ws t n at i) ∷ es) h)
      by_test false t' h = rw t' h

  rows_are : (f : ℕ → LocalValue) (vs : List ℕ) (t : LocalType) (m to j : ℕ) (ds ks : List ℕ)
      → length ks ≡ length ds → ((i : ℕ) → i < length ks → row_in vs t m to (j + i) ≡ f (get_or ks i 0))
      → entries_in vs t m to j ds ≡ with_rows f ds ks
  rows_are f vs t m to j [] ks e h = refl
  rows_are f vs t m to j (d ∷ ds) [] e h = absurd (omega (arith, e))
  rows_are f vs t m to j (d ∷ ds) (k ∷ ks) e h =
      let first : row_in vs t m to j ≡ f k = ap (row_in vs t m to) (omega arith) ∙ h 0 (omega arith) in
      let rest = rows_are f vs t m to (j + 1) ds ks (omega (arith, e))
      (λ i l. ap (row_in vs t m to) (omega arith) ∙ h (suc i) (omega arith)) in
      rw (first, rest) refl

  -- rows that were chosen hold the restricted field
  pub chosen_rows : (ws vs : List ℕ) (t : LocalType) (n at m to : ℕ) (ds : List ℕ)
      → ((i : ℕ) → i < length (kept_rows q 0 ds)
      → row_in vs t m to i ≡ row_in ws t n at (get_or (kept_rows q 0 ds) i 0))
      → entries_in vs t m to 0 (filter q ds) ≡ filter passes (entries_in ws t n at 0 ds)
  chosen_rows ws vs t n at m to ds h =
      rows_are (row_in ws t n at) vs t m to 0 (filter q ds) (kept_rows q 0 ds) (kept_long 0 ds)
      (λ i l. ap (row_in vs t m to) (omega arith) ∙ h i l)
      ∙ sym (filter_rows ws t n at 0 ds)

  -- each kept row is one of the rows
  kept_below : (i n : ℕ) (ds : List ℕ) → i + length ds ≤ n → (j : ℕ) → j < length (kept_rows q i ds)
      → get_or (kept_rows q i ds) j 0 < n
  kept_below i n [] b j h = absurd (omega arith)
  kept_below i n (d ∷ ds) b j h = by_test (q d) refl j h (kept_below (i + 1) n ds (omega arith))
    where
      by_test : (t : Bool) → q d ≡ t → (j : ℕ) → j < length (kept_rows q i (d ∷ ds))
          → ((j : ℕ) → j < length (kept_rows q (i + 1) ds) → get_or (kept_rows q (i + 1) ds) j 0 < n)
          → get_or (kept_rows q i (d ∷ ds)) j 0 < n
      by_test true t zero h f = rw t (omega arith)
      by_test true t (suc j) h f =
          let l : suc j < suc (length (kept_rows q (i + 1) ds)) = rw t at h in rw t (f j (omega arith))
      by_test false t j h f = rw t (f j (rw t at h))

  pub kept_within : {n : ℕ} {ks : List ℕ} (ds : List ℕ) → ks ≡ kept_rows q 0 ds → length ds ≤ n
      → (j : ℕ) → j < length ks → word_in ks j < n
  kept_within {n} {ks} ds e b =
      subst (λ us. (j : ℕ) → j < length us → word_in us j < n) (sym e) (kept_below 0 n ds (omega (arith, b)))

  -- where as many devices stay as there are, all stay
  filter_short : (ds : List ℕ) → length (filter q ds) ≤ length ds
  filter_short [] = omega arith
  filter_short (d ∷ ds) = by_test (q d) refl (filter_short ds)
    where
      by_test : (b : Bool) → q d ≡ b → length (filter q ds) ≤ length ds → length (filter q (d ∷ ds)) ≤ suc (length ds)
      by_test true t h = rw t (omega (arith, h))
      by_test false t h = rw t (omega (arith, h))

  pub all_kept : (ws : List ℕ) (t : LocalType) (n at i : ℕ) (ds : List ℕ) → length (filter q ds) ≡ length ds
      → (filter q ds ≡ ds) × (filter passes (entries_in ws t n at i ds) ≡ entries_in ws t n at i ds)
  all_kept ws t n at i [] e = (refl, refl)
  all_kept ws t n at i (d ∷ ds) e = by_test (q d) refl e (all_kept ws t n at (i + 1) ds)
    where
      by_test : (b : Bool) → q d ≡ b → length (filter q (d ∷ ds)) ≡ suc (length ds)
          → (length (filter q ds) ≡ length ds
          → (filter q ds ≡ ds) × (filter passes (entries_in ws t n at (i + 1) ds) ≡ entries_in ws t n at (i + 1) ds))
          → (filter q (d ∷ ds) ≡ d ∷ ds)
          × (filter passes (entries_in ws t n at i (d ∷ ds)) ≡ entries_in ws t n at i (d ∷ ds))
      by_test true t' l f =
          let l' : suc (length (filter q ds)) ≡ suc (length ds) = rw t' at l in
          let r = f (omega (arith, l')) in (
            rw t' (ap (λ (es : List ℕ). d ∷ es) r.0),
            rw t' (ap (λ (es : Entries). (d, row_in ws t n at i) ∷ es) r.1),
          )
      by_test false t' l f =
          let l' : length (filter q ds) ≡ suc (length ds) = rw t' at l in
          let s = filter_short ds in
          absurd (omega (arith, l', s))

  -- the kept rows so far, with those that are still to come: one row more, and at the end
  module _ (xs zs : List ℕ) (i : ℕ) (ds : List ℕ) (so_far : xs ++ kept_rows q i (drop i ds) ≡ zs) where
    pub row_kept : {d : ℕ} {ys : List ℕ} → i < length ds → d ≡ get_or ds i 0 → q d ≡ true → ys ≡ xs ++ (i ∷ [])
        → ys ++ kept_rows q (i + 1) (drop (i + 1) ds) ≡ zs
    row_kept {d} {ys} h e t f =
        let more = kept_rows q (i + 1) (drop (i + 1) ds) in
        let test : q (get_or ds i 0) ≡ true = ap q (sym e) ∙ t in
        let here : kept_rows q i (drop i ds) ≡ i ∷ more =
        at_drop_more (kept_rows q i) ds i 0 h ∙ ap (λ b. if b then i ∷ more else more) test in
        ap (λ us. us ++ more) f ∙ append_assoc xs (i ∷ []) more ∙ ap (λ us. xs ++ us) (sym here) ∙ so_far

    pub row_left : {d : ℕ} → i < length ds → d ≡ get_or ds i 0 → q d ≡ false
        → xs ++ kept_rows q (i + 1) (drop (i + 1) ds) ≡ zs
    row_left {d} h e t =
        let more = kept_rows q (i + 1) (drop (i + 1) ds) in
        let test : q (get_or ds i 0) ≡ false = ap q (sym e) ∙ t in
        let here : kept_rows q i (drop i ds) ≡ more =
        at_drop_more (kept_rows q i) ds i 0 h ∙ ap (λ b. if b then i ∷ more else more) test in
        ap (λ us. xs ++ us) (sym here) ∙ so_far

    pub rows_done : length ds ≤ i → xs ≡ zs
    rows_done h =
        sym (append-nil xs) ∙ ap (λ us. xs ++ us) (sym (at_drop_all (kept_rows q i) ds i h)) ∙ so_far
