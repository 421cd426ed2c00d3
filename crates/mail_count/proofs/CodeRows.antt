-- Rows in code after one ordered pair of them is written.
use Rattle.std.proofs.Common.{◌≡◌, ℕ, ◌<◌, List, [], length, map, get_or, ◌∙◌, ap, arith, Vec, Global, vec_len}
use Rattle.std.specs.Prelude.{slice_set}
use Rattle.std.specs.Vec.{with_item, with_items}
use Rattle.std.proofs.lemmas.List.{length-map, with_items_is}
use Rattle.mail_count.specs.declared.pairs.Bringing.{Bringing}
use Rattle.mail_count.proofs.Rewriting.{set_mapped, read_mapped}
use Rattle.mail_count.proofs.Tables.{set_same}

-- what is told of each item of rows
module _ {Y : Type 0} (f : Bringing → Y) where
  abbrev pub told : List (Vec Bringing Global) → List (List Y)
  told rows = map (λ (r : Vec Bringing Global). map f r.items) rows

  module _ (rows : List (Vec Bringing Global)) (row : ℕ) (v : Vec Bringing Global) (h : row < length rows) (q : v ≡ get_or rows row v) where
    pub told_row : map f v.items ≡ get_or (told rows) row []
    told_row = read_mapped (λ (r : Vec Bringing Global). map f r.items) rows row v [] h q

    pub told_set : (at : ℕ) (b : Bringing) → told (slice_set rows row (with_item v at b)) ≡ slice_set (told rows) row (slice_set (get_or (told rows) row []) at (f b))
    told_set at b =
        set_mapped (λ (r : Vec Bringing Global). map f r.items) rows row (with_item v at b)
        ∙ ap (slice_set (told rows) row) (set_mapped f v.items at b ∙ ap (λ xs. slice_set xs at (f b)) told_row)

    pub told_item : (at : ℕ) (old : Bringing) (z : Y) → at < length v.items → old ≡ get_or v.items at old → f old ≡ get_or (get_or (told rows) row []) at z
    told_item at old z l is = read_mapped f v.items at old z l is ∙ ap (λ xs. get_or xs at z) told_row

    -- an item that tells the same
    pub told_same : (at : ℕ) (old b : Bringing) → at < length v.items → old ≡ get_or v.items at old → f b ≡ f old → told (slice_set rows row (with_item v at b)) ≡ told rows
    told_same at old b l is same =
        let in_row : at < length (get_or (told rows) row []) = let k = length-map v.items f in let j = ap (length {A = Y}) told_row in omega arith in
        let in_rows : row < length (told rows) = let k = length-map rows (λ (r : Vec Bringing Global). map f r.items) in omega arith in
        told_set at b
        ∙ ap (λ y. slice_set (told rows) row (slice_set (get_or (told rows) row []) at y)) (same ∙ told_item at old (f old) l is)
        ∙ ap (slice_set (told rows) row) (set_same (get_or (told rows) row []) at (f old) in_row)
        ∙ set_same (told rows) row [] in_rows

    pub told_written : (new : List Bringing) → length new ≡ vec_len v → told (slice_set rows row (with_items v new)) ≡ slice_set (told rows) row (map f new)
    told_written new long = set_mapped (λ (r : Vec Bringing Global). map f r.items) rows row (with_items v new) ∙ ap (λ xs. slice_set (told rows) row (map f xs)) (with_items_is v new long)
