-- Crates above cite this module: a value among words depends on its own words alone. It stays where words are added,
-- and moves down with a gap.
use Rattle.std.proofs.Common.{◌≡◌, ℕ, ◌<◌, ◌≤◌, ◌+◌, ◌*◌, List, [], ◌∷◌, ◌++◌, length, take, drop, refl, sym, ◌∙◌}
use Rattle.std.proofs.Common.{ap, arith}
use Rattle.std.proofs.lemmas.Nat.{mul-add-lt}
use Rattle.std.proofs.lemmas.List.{get_or_append_left, get_or-append-add, get_or-take, get_or-drop}
use Rattle.std.proofs.lemmas.List.{length-take-le, length-append, length-drop}
use Rattle.fc_values.specs.Types.{LocalType, ValueType, TypeLocal, TypeField, leaves}
use Rattle.fc_values.specs.Fields.{ValueLocal, ValueField, devices}
use Rattle.value_columns.specs.Columns.{word_in, row_in, entries_in}
use Rattle.value_columns.proofs.Rows.{same_word, same_row}
use Rattle.scope_columns.specs.Words.{words_for, value_in, SameBelow, Added}

-- a leaf of a row is one of the words
leaf_inside : (n i k m : ℕ) → i < n → k < m → n * k + i < n * m
leaf_inside n i k m h l = omega (arith, mul-add-lt k n i m l h)

module _ (xs ys : List ℕ) (t : LocalType) (n at to : ℕ)
    (same : (p : ℕ) → p < n * leaves t → word_in xs (at + p) ≡ word_in ys (to + p)) where
  pub row_moved : (i : ℕ) → i < n → row_in xs t n at i ≡ row_in ys t n to i
  row_moved i h =
      same_row t xs ys n n at to i i
      (λ k b. same_word xs (at + n * k + i) (at + (n * k + i)) (omega arith)
      ∙ same (n * k + i) (leaf_inside n i k (leaves t) h b)
      ∙ same_word ys (to + (n * k + i)) (to + n * k + i) (omega arith))

  entries_moved : (i : ℕ) (ds : List ℕ) → i + length ds ≤ n → entries_in xs t n at i ds ≡ entries_in ys t n to i ds
  entries_moved i [] h = refl
  entries_moved i (d ∷ ds) h =
      let first = row_moved i (omega arith) in
      let rest = entries_moved (i + 1) ds (omega arith) in
      rw (first, rest) refl

pub value_moved : (t : ValueType) (ds xs ys : List ℕ) (at to : ℕ)
    → ((p : ℕ) → p < words_for t (length ds) → word_in xs (at + p) ≡ word_in ys (to + p))
    → value_in xs t ds at ≡ value_in ys t ds to
value_moved (TypeLocal t) ds xs ys at to same =
    ap ValueLocal (row_moved xs ys t 1 at to (λ p h. same p (omega arith)) 0 (omega arith))
value_moved (TypeField t) ds xs ys at to same =
    ap ValueField (entries_moved xs ys t (length ds) at to same 0 ds (omega arith))

-- the devices of a field
pub devices_entries : (ws : List ℕ) (t : LocalType) (n at i : ℕ) (ds : List ℕ)
    → devices (entries_in ws t n at i ds) ≡ ds
devices_entries ws t n at i [] = refl
devices_entries ws t n at i (d ∷ ds) = ap (λ (es : List ℕ). d ∷ es) (devices_entries ws t n at (i + 1) ds)

-- a value below a place stays
pub value_stays : (t : ValueType) (ds xs ys : List ℕ) (n at : ℕ) → SameBelow n xs ys
    → at + words_for t (length ds) ≤ n → value_in ys t ds at ≡ value_in xs t ds at
value_stays t ds xs ys n at s h = value_moved t ds ys xs at at (λ p l. s.same (at + p) (omega (arith, h, l)))

pub below_then : {xs ys zs : List ℕ} (n m : ℕ) → n ≤ m → SameBelow n xs ys → SameBelow m ys zs → SameBelow n xs zs
below_then n m h s s' = record { same = λ p l. s'.same p (omega (arith, h, l)) ∙ s.same p l }

-- what is added to words that stand for others is added to those
pub added_over : {t : ValueType} {ds xs ys zs : List ℕ} → SameBelow (length xs) xs ys → length ys ≡ length xs
    → Added t ds ys zs → Added t ds xs zs
added_over {t} {ds} {xs} {ys} {zs} s e a =
    let l = a.long in
    record { kept = below_then (length xs) (length ys) (omega (arith, e)) s a.kept; long = omega (arith, e, l) }

-- words that are cut to as many as before
pub cut_same : {t : ValueType} {ds xs ys zs : List ℕ} → Added t ds xs ys → zs ≡ take (length xs) ys
    → SameBelow (length xs) xs zs × (length zs ≡ length xs)
cut_same {t} {ds} {xs} {ys} {zs} a e =
    let l = a.long in
    let within : length xs ≤ length ys = omega (arith, l) in (
      record { same = λ p h. ap (λ ws. word_in ws p) e ∙ get_or-take (length xs) ys p 0 h ∙ a.kept.same p h },
      ap length e ∙ length-take-le (length xs) ys within,
    )

-- a gap in words
module _ (ws : List ℕ) (at many : ℕ) (h : at + many ≤ length ws) where
  gap_long : length (take at ws) ≡ at
  gap_long = length-take-le at ws (omega (arith, h))

  pub gap_low : (p : ℕ) → p < at → word_in (take at ws ++ drop (at + many) ws) p ≡ word_in ws p
  gap_low p l =
      get_or_append_left (take at ws) (drop (at + many) ws) 0 p (omega (arith, l, gap_long)) ∙ get_or-take at ws p 0 l

  pub gap_high : (p : ℕ) → word_in (take at ws ++ drop (at + many) ws) (at + p) ≡ word_in ws (at + many + p)
  gap_high p =
      same_word (take at ws ++ drop (at + many) ws) (at + p) (length (take at ws) + p) (omega (arith, gap_long))
      ∙ get_or-append-add (take at ws) (drop (at + many) ws) p 0 ∙ get_or-drop (at + many) ws p 0

  pub gap_size : length (take at ws ++ drop (at + many) ws) + many ≡ length ws
  gap_size = omega (arith, length-append (take at ws) (drop (at + many) ws), gap_long, length-drop (at + many) ws, h)

-- words that were cut off stay below
pub taken_same : (ws : List ℕ) (at : ℕ) → at ≤ length ws
    → SameBelow (length (take at ws)) (take at ws) ws × (length (take at ws) ≡ at)
taken_same ws at h =
    let l = length-take-le at ws h in
    (record { same = λ p b. sym (get_or-take at ws p 0 (omega (arith, b, l))) }, l)

-- A value that was added behind others, which are then taken out.
pub record Closed (t : ValueType) (ds old mid new end : List ℕ) : Type 0 where
  pub added : Added t ds old end
  pub value : value_in end t ds (length old) ≡ value_in new t ds (length mid)

pub gap_closed : {t : ValueType} {ds old mid new end : List ℕ} (many : ℕ) → SameBelow (length old) old mid
    → Added t ds mid new → length mid ≡ length old + many
    → end ≡ take (length old) new ++ drop (length old + many) new → Closed t ds old mid new end
gap_closed {t} {ds} {old} {mid} {new} {end} many s b m e =
    let l = b.long in
    let inside : length old + many ≤ length new = omega (arith, l, m) in
    let size = gap_size new (length old) many inside in
    let low : length old ≤ length mid = omega (arith, m) in
    record {
      added = record {
        kept = record {
          same = λ p h. ap (λ ws. word_in ws p) e ∙ gap_low new (length old) many inside p h
              ∙ b.kept.same p (omega (arith, h, low)) ∙ s.same p h;
        };
        long = ap length e ∙ by_size size l m;
      };
      value = value_moved t ds end new (length old) (length mid) (λ p h.
          ap (λ ws. word_in ws (length old + p)) e ∙ gap_high new (length old) many inside p
          ∙ same_word new (length old + many + p) (length mid + p) (omega (arith, m)));
    }
  where
    by_size : {k : ℕ} → k + many ≡ length new → length new ≡ length mid + words_for t (length ds)
        → length mid ≡ length old + many → k ≡ length old + words_for t (length ds)
    by_size f g h = omega (arith, f, g, h)
