-- Rows of letters after those of one ordered pair are written.
use Rattle.std.proofs.Common.{◌≡◌, ℕ, zero, suc, ◌<◌, List, [], ◌∷◌, ◌++◌, length, map, get_or, refl, sym, ◌∙◌, ap, subst, arith, None, Vec, Global}
use Rattle.std.specs.Prelude.{slice_set}
use Rattle.std.specs.Vec.{with_item}
use Rattle.std.proofs.lemmas.List.{length-map, map-append, map-set}
use Rattle.fc_nodes.specs.Program.{Unfolding}
use Rattle.topology.specs.Networks.{Network, IsNetwork, numbers}
use Rattle.message_links.specs.MailCores.{put_pair}
use Rattle.mail_book.specs.declared.letters.Letters.{Letters}
use Rattle.mail_book.specs.Pairs.{at_pair, AreRows, AtPair}
use Rattle.mail_book.specs.Letters.{heard_of, transit_of, AreLetters, AllLetters}
use Rattle.mail_book.specs.Rows.{lists_of, heard_at, transit_at, AllRows}
use Rattle.mail_book.proofs.PairLookups.{pair_read, pair_write, written_rows, row_within, place_within}

get_map : {A B : Type 0} (f : A → B) (xs : List A) (p : ℕ) (z : A) → get_or (map f xs) p (f z) ≡ f (get_or xs p z)
get_map f [] p z = refl
get_map f (x ∷ xs) zero z = refl
get_map f (x ∷ xs) (suc p) z = get_map f xs p z

get_other : {A : Type 0} (xs : List A) (p : ℕ) (x y : A) → p < length xs → get_or xs p x ≡ get_or xs p y
get_other [] p x y h = absurd (omega arith)
get_other (z ∷ zs) zero x y h = refl
get_other (z ∷ zs) (suc p) x y h = get_other zs p x y (omega arith)

-- a row that was written in code
pub lists_set : (rows : List (Vec Letters Global)) (p : ℕ) (v : Vec Letters Global) → lists_of (slice_set rows p v) ≡ slice_set (lists_of rows) p v.items
lists_set rows p v = map-set (λ (r : Vec Letters Global). r.items) rows p v

pub lists_get : (rows : List (Vec Letters Global)) (p : ℕ) (v : Vec Letters Global) → p < length rows → v ≡ get_or rows p v → get_or (lists_of rows) p [] ≡ v.items
lists_get [] p v h q = absurd (omega arith)
lists_get (r ∷ rows) zero v h q = ap (λ (u : Vec Letters Global). u.items) (sym q)
lists_get (r ∷ rows) (suc p) v h q = lists_get rows p v (omega arith) q

pub lists_more : (rows : List (Vec Letters Global)) (r : Vec Letters Global) → lists_of (rows ++ r ∷ []) ≡ lists_of rows ++ r.items ∷ []
lists_more rows r = map-append (λ (v : Vec Letters Global). v.items) rows (r ∷ [])

pub lists_long : (rows : List (Vec Letters Global)) → length (lists_of rows) ≡ length rows
lists_long rows = length-map rows (λ (r : Vec Letters Global). r.items)

-- what letters tell, in rows
module _ {Y : Type 0} (f : Letters → Y) where
  abbrev pub told : List (List Letters) → List (List Y)
  told rows = map (λ r. map f r) rows

  pub told_rows : (N : Network) (ds : List ℕ) (rows : List (List Letters)) → AreRows N ds rows → AreRows N ds (told rows)
  told_rows N [] [] a = tt
  told_rows N [] (r ∷ rows) a = absurd a
  told_rows N (d ∷ ds) [] a = absurd a
  told_rows N (d ∷ ds) (r ∷ rows) a = (length-map r f ∙ a.0, told_rows N ds rows a.1)

  told_set : (rows : List (List Letters)) (p i : ℕ) (l : Letters) → told (slice_set rows p (slice_set (get_or rows p []) i l)) ≡ slice_set (told rows) p (slice_set (get_or (told rows) p []) i (f l))
  told_set rows p i l =
      map-set (λ r. map f r) rows p (slice_set (get_or rows p []) i l)
      ∙ ap (slice_set (told rows) p) (map-set f (get_or rows p []) i l ∙ ap (λ r. slice_set r i (f l)) (sym (get_map (λ r. map f r) rows p [])))

  module _ (N : Network) (net : IsNetwork N) (z : Y) (rows : List (List Letters)) (shape : AreRows N (numbers N.devices) rows) (a b : ℕ) (place : ℕ × ℕ) (at : AtPair N a b place) where
    pub told_read : (l : Letters) → l ≡ get_or (get_or rows place.0 []) place.1 l → at_pair N z (told rows) a b ≡ f l
    told_read l q =
        pair_read N net (told rows) (told_rows N (numbers N.devices) rows shape) a b place at z
        ∙ ap (λ r. get_or r place.1 z) (get_map (λ r. map f r) rows place.0 [])
        ∙ get_other (map f (get_or rows place.0 [])) place.1 z (f l) (let w = place_within N net rows shape a b place at in omega (arith, w, length-map (get_or rows place.0 []) f))
        ∙ get_map f (get_or rows place.0 []) place.1 l
        ∙ ap f (sym q)

    pub told_write : (l : Letters) → at_pair N z (told (slice_set rows place.0 (slice_set (get_or rows place.0 []) place.1 l))) ≡ put_pair (at_pair N z (told rows)) a b (f l)
    told_write l = ap (at_pair N z) (told_set rows place.0 place.1 l) ∙ pair_write N net (told rows) (told_rows N (numbers N.devices) rows shape) a b place at z (f l)

letters_set : (U : Unfolding) (r : List Letters) (i : ℕ) (l : Letters) → AllLetters U r → AreLetters U l → AllLetters U (slice_set r i l)
letters_set U [] i l a k = tt
letters_set U (m ∷ r) zero l a k = (k, a.1)
letters_set U (m ∷ r) (suc i) l a k = (a.0, letters_set U r i l a.1 k)

rows_set : (U : Unfolding) (rows : List (List Letters)) (p : ℕ) (r : List Letters) → AllRows U rows → AllLetters U r → AllRows U (slice_set rows p r)
rows_set U [] p r a k = tt
rows_set U (s ∷ rows) zero r a k = (k, a.1)
rows_set U (s ∷ rows) (suc p) r a k = (a.0, rows_set U rows p r a.1 k)

pub row_letters : (U : Unfolding) (rows : List (List Letters)) (p : ℕ) → AllRows U rows → AllLetters U (get_or rows p [])
row_letters U [] p a = tt
row_letters U (r ∷ rows) zero a = a.0
row_letters U (r ∷ rows) (suc p) a = row_letters U rows p a.1

pub letters_at : (U : Unfolding) (r : List Letters) (i : ℕ) (l : Letters) → AllLetters U r → i < length r → l ≡ get_or r i l → AreLetters U l
letters_at U [] i l a h q = absurd (omega arith)
letters_at U (m ∷ r) zero l a h q = subst (AreLetters U) (sym q) a.0
letters_at U (m ∷ r) (suc i) l a h q = letters_at U r i l a.1 (omega arith) q

-- the letters of an ordered pair, before and after
module _ (N : Network) (net : IsNetwork N) (rows : List (List Letters)) (shape : AreRows N (numbers N.devices) rows) (a b : ℕ) (place : ℕ × ℕ) (at : AtPair N a b place) where
  abbrev pub rewritten : Letters → List (List Letters)
  rewritten l = slice_set rows place.0 (slice_set (get_or rows place.0 []) place.1 l)

  pub in_rows : place.0 < length rows
  in_rows = row_within N net rows shape a b place at

  pub in_row : place.1 < length (get_or rows place.0 [])
  in_row = place_within N net rows shape a b place at

  pub rewritten_shape : (l : Letters) → AreRows N (numbers N.devices) (rewritten l)
  rewritten_shape l = written_rows N net rows shape a b place at l

  module _ (U : Unfolding) where
    pub heard_read : (l : Letters) → l ≡ get_or (get_or rows place.0 []) place.1 l → heard_at U N rows a b ≡ heard_of U l
    heard_read l q = told_read (heard_of U) N net None rows shape a b place at l q

    pub transit_read : (l : Letters) → l ≡ get_or (get_or rows place.0 []) place.1 l → transit_at U N rows a b ≡ transit_of U l
    transit_read l q = told_read (transit_of U) N net [] rows shape a b place at l q

    pub heard_write : (l : Letters) → heard_at U N (rewritten l) ≡ put_pair (heard_at U N rows) a b (heard_of U l)
    heard_write l = told_write (heard_of U) N net None rows shape a b place at l

    pub transit_write : (l : Letters) → transit_at U N (rewritten l) ≡ put_pair (transit_at U N rows) a b (transit_of U l)
    transit_write l = told_write (transit_of U) N net [] rows shape a b place at l

    pub rewritten_letters : (l : Letters) → AllRows U rows → AreLetters U l → AllRows U (rewritten l)
    rewritten_letters l all k = rows_set U rows place.0 (slice_set (get_or rows place.0 []) place.1 l) all (letters_set U (get_or rows place.0 []) place.1 l (row_letters U rows place.0 all) k)

    pub letters_there : (l : Letters) → l ≡ get_or (get_or rows place.0 []) place.1 l → AllRows U rows → AreLetters U l
    letters_there l q all = letters_at U (get_or rows place.0 []) place.1 l (row_letters U rows place.0 all) in_row q

-- ---- the same for rows in code

module _ (N : Network) (net : IsNetwork N) (rows : List (Vec Letters Global)) (shape : AreRows N (numbers N.devices) (lists_of rows)) (a b row at : ℕ) (pair : AtPair N a b (row, at)) where
  pub row_there : row < length rows
  row_there = let k = in_rows N net (lists_of rows) shape a b (row, at) pair in omega (arith, k, lists_long rows)

  module _ (v : Vec Letters Global) (q : v ≡ get_or rows row v) where
    row_items : get_or (lists_of rows) row [] ≡ v.items
    row_items = lists_get rows row v row_there q

    pub item_there : at < length v.items
    item_there = let k = in_row N net (lists_of rows) shape a b (row, at) pair in let l = ap (length {A = Letters}) row_items in omega (arith, k, l)

    pub item_is : (old : Letters) → old ≡ get_or v.items at old → old ≡ get_or (get_or (lists_of rows) row []) at old
    item_is old is = is ∙ ap (λ r. get_or r at old) (sym row_items)

    pub written_is : (l : Letters) → lists_of (slice_set rows row (with_item v at l)) ≡ rewritten N net (lists_of rows) shape a b (row, at) pair l
    written_is l = lists_set rows row (with_item v at l) ∙ ap (λ r. slice_set (lists_of rows) row (slice_set r at l)) (sym row_items)
