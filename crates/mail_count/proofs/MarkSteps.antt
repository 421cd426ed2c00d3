-- What marks tell, and how entries change it.
use Rattle.std.proofs.Common.{◌≡◌, ℕ, ◌<◌, ◌+◌, List, [], ◌∷◌, length, get_or, Bool, refl, sym, ◌∙◌, ap, arith, nat_eq}
use Rattle.std.specs.Prelude.{slice_set, not, ◌&&◌, ◌||◌, if◌then◌else◌, true, false, Vec}
use Rattle.std.specs.declared.alloc.Global.{Global}
use Rattle.std.specs.Vec.{with_item}
use Rattle.std.proofs.lemmas.List.{length-map}
use Rattle.topology.specs.Networks.{Network, NetDevice, IsNetwork, numbers, near}
use Rattle.topology.specs.Nearby.{neighbour_numbers}
use Rattle.mail_book.specs.Pairs.{AtPair}
use Rattle.message_links.specs.MailCores.{MailDeliver, MailAgain, MailLose, Pairs, put_pair, rest_of, without}
use Rattle.mail_count.specs.declared.pairs.Bringing.{Bringing}
use Rattle.mail_count.specs.Seen.{Seen, missing, ready, noted, oldest_own, brings}
use Rattle.mail_count.specs.declared.marks.Marks.{Marks}
use Rattle.mail_count.specs.Marks.{Tells, row_of, pair_rows, own_row, brought_row, own_rows, brought_rows, missing_rows, many}
use Rattle.mail_count.proofs.CodeRows.{told_row, told_set, told_item, told_same}
use Rattle.mail_count.proofs.Tables.{row_read, item_read, item_write, missing_rows_set, many_same}

pub many_rows : (N : Network) (m : Marks) (s : Seen) → Tells N m s → length m.rows.items ≡ length N.devices
many_rows N m s t =
    sym (length-map m.rows.items (λ (r : Vec Bringing Global). own_row r.items))
    ∙ ap (length {A = List (List Bool)}) t.rows.own
    ∙ length-map (numbers N.devices) (row_of N s.own)
    ∙ length-map N.devices (λ (n : NetDevice). n.id)

pub ready_is : (N : Network) (m : Marks) (s : Seen) → Tells N m s → nat_eq m.devices_left 0 ≡ ready N s
ready_is N m s t = ap (λ n. nat_eq n 0) (t.devices_left ∙ ap missing t.fired)

without_first : {X : Type 0} (xs : List X) → without 0 xs ≡ rest_of xs
without_first [] = refl
without_first (x ∷ xs) = refl

-- a message is brought and leaves
pub delivered : (N : Network) (s : Seen) (a b : ℕ) → noted N (noted N s (MailAgain a b)) (MailLose a b 0) ≡ noted N s (MailDeliver a b)
delivered N s a b = ap (λ xs. made (put_pair s.own a b xs)) (without_first (s.own a b))
  where
    made : Pairs (List Bool) → Seen
    made own = record { flies = s.flies; fired = s.fired; own = own; brought = (noted N s (MailDeliver a b)).brought }

-- a pair of neighbours stands in the rows
module _ (N : Network) (net : IsNetwork N) (m : Marks) (s : Seen) (t : Tells N m s) (a b row at : ℕ) (pair : AtPair N b a (row, at)) where
  row_there : row < length m.rows.items
  row_there =
      let h = pair.row.within in
      let k = length-map m.rows.items (λ (r : Vec Bringing Global). own_row r.items) in
      let l = ap (length {A = List (List Bool)}) t.rows.own in
      let n = length-map (numbers N.devices) (row_of N s.own) in
      let o = length-map N.devices (λ (x : NetDevice). x.id) in
      omega arith

  pub item_there : (v : Vec Bringing Global) → v ≡ get_or m.rows.items row v → (row < length m.rows.items) × (at < length v.items)
  item_there v q =
      let i = told_row (λ (x : Bringing). x.own.items) m.rows.items row v row_there q in
      let r : get_or (own_rows m.rows.items) row [] ≡ row_of N s.own a = ap (λ rows. get_or rows row []) t.rows.own ∙ row_read N net s.own a row pair.row in
      let k = length-map v.items (λ (x : Bringing). x.own.items) in
      let l = ap (length {A = List Bool}) (i ∙ r) in
      let n = length-map (neighbour_numbers (near N a)) (s.own a) in
      let o = length-map (near N a) (λ (x : ℕ × ℕ). x.0) in
      let h = pair.within in
      (row_there, omega arith)

  module _ (v : Vec Bringing Global) (q : v ≡ get_or m.rows.items row v) (old x : Bringing) (is : old ≡ get_or v.items at old) where
    abbrev pub written : List (Vec Bringing Global)
    written = slice_set m.rows.items row (with_item v at x)

    own_is : old.own.items ≡ s.own a b
    own_is =
        told_item (λ (y : Bringing). y.own.items) m.rows.items row v row_there q at old [] (item_there v q).1 is
        ∙ ap (λ rows. get_or (get_or rows row []) at []) t.rows.own ∙ item_read N net s.own a b (row, at) pair []

    brought_is : old.brought ≡ s.brought a b
    brought_is =
        told_item (λ (y : Bringing). y.brought) m.rows.items row v row_there q at old false (item_there v q).1 is
        ∙ ap (λ rows. get_or (get_or rows row []) at false) t.rows.brought ∙ item_read N net s.brought a b (row, at) pair false

    -- what is in transit is written, or what was brought
    pub own_written : (fs : List Bool) → x.own.items ≡ fs → own_rows written ≡ pair_rows N (put_pair s.own a b fs)
    own_written fs is_fs =
        told_set (λ (y : Bringing). y.own.items) m.rows.items row v row_there q at x
        ∙ ap (λ ys. slice_set (own_rows m.rows.items) row (slice_set (get_or (own_rows m.rows.items) row []) at ys)) is_fs
        ∙ ap (λ rows. slice_set rows row (slice_set (get_or rows row []) at fs)) t.rows.own
        ∙ item_write N net s.own a b (row, at) pair fs

    pub own_kept : x.own.items ≡ old.own.items → own_rows written ≡ own_rows m.rows.items
    own_kept same = told_same (λ (y : Bringing). y.own.items) m.rows.items row v row_there q at old x (item_there v q).1 is same

    pub brought_written : (f : Bool) → x.brought ≡ f → brought_rows written ≡ pair_rows N (put_pair s.brought a b f)
    brought_written f is_f =
        told_set (λ (y : Bringing). y.brought) m.rows.items row v row_there q at x
        ∙ ap (λ y. slice_set (brought_rows m.rows.items) row (slice_set (get_or (brought_rows m.rows.items) row []) at y)) is_f
        ∙ ap (λ rows. slice_set rows row (slice_set (get_or rows row []) at f)) t.rows.brought
        ∙ item_write N net s.brought a b (row, at) pair f

    pub brought_kept : x.brought ≡ old.brought → brought_rows written ≡ brought_rows m.rows.items
    brought_kept same = told_same (λ (y : Bringing). y.brought) m.rows.items row v row_there q at old x (item_there v q).1 is same

    -- how many are wanting then
    pub fewer : (old.brought ≡ true → x.brought ≡ true) → missing_rows (brought_rows written) + (if not old.brought && x.brought then 1 else 0) ≡ missing_rows (brought_rows m.rows.items)
    fewer on =
        let r = told_row (λ (y : Bringing). y.brought) m.rows.items row v row_there q in
        let o = told_item (λ (y : Bringing). y.brought) m.rows.items row v row_there q at old false (item_there v q).1 is in
        let k : row < length (brought_rows m.rows.items) = let w = row_there in let n = length-map m.rows.items (λ (r : Vec Bringing Global). brought_row r.items) in omega arith in
        let l : at < length (get_or (brought_rows m.rows.items) row []) = let w = (item_there v q).1 in let n = length-map v.items (λ (y : Bringing). y.brought) in let j = ap (length {A = Bool}) r in omega arith in
        ap (λ rows. missing_rows rows + (if not old.brought && x.brought then 1 else 0)) (told_set (λ (y : Bringing). y.brought) m.rows.items row v row_there q at x)
        ∙ ap (λ y. missing_rows (slice_set (brought_rows m.rows.items) row (slice_set (get_or (brought_rows m.rows.items) row []) at x.brought)) + (if not y && x.brought then 1 else 0)) o
        ∙ missing_rows_set (brought_rows m.rows.items) row at x.brought k l (λ z. on (o ∙ z))

    pub many_kept : many (brought_rows written) ≡ many (brought_rows m.rows.items)
    many_kept = ap many (brought_written x.brought refl) ∙ many_same N (put_pair s.brought a b x.brought) s.brought ∙ sym (ap many t.rows.brought)

    pub heard : x.own ≡ old.own → (ready : Bool) → ready ≡ nat_eq m.devices_left 0 → x.brought ≡ (old.brought || (ready && oldest_own old.own.items)) → brought_rows written ≡ pair_rows N (brings N s a b)
    heard same r is_r made =
        let k : r ≡ ready N s = is_r ∙ ready_is N m s t in
        brought_written (s.brought a b || (ready N s && oldest_own (s.own a b)))
        (made ∙ ap (λ y. y || (r && oldest_own old.own.items)) brought_is ∙ ap (λ y. s.brought a b || (y && oldest_own old.own.items)) k ∙ ap (λ ys. s.brought a b || (ready N s && oldest_own ys)) own_is)

    pub own_lost : (i : ℕ) → x.own.items ≡ without i old.own.items → own_rows written ≡ pair_rows N (put_pair s.own a b (without i (s.own a b)))
    own_lost i q = own_written (without i (s.own a b)) (q ∙ ap (without i) own_is)
