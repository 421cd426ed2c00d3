-- Maps of devices and of ordered pairs, written out as lists and rows.
use Rattle.std.proofs.Common.{◌≡◌, ℕ, zero, suc, ◌<◌, ◌+◌, List, [], ◌∷◌, length, map, get_or, refl, sym, ◌∙◌, ap, arith, Bool, true, false, ◌&&◌, ◌||◌, if◌then◌else◌, nat_eq}
use Rattle.std.specs.Prelude.{slice_set, not, replicate}
use Rattle.std.proofs.lemmas.Bool.{eqb-true, eq-eqb, ne_eqb}
use Rattle.std.proofs.lemmas.List.{length-map}
use Rattle.fc_values.specs.Fields.{is_in}
use Rattle.fc_values.proofs.Booleans.{or_true}
use Rattle.topology.specs.Networks.{Network, NetDevice, IsNetwork, lives, numbers, near}
use Rattle.topology.specs.Nearby.{neighbour_numbers, AtPlace}
use Rattle.topology.proofs.Lemmas.{near_none}
use Rattle.firing_core.proofs.Slots.{Distinct}
use Rattle.message_links.specs.MailCores.{Pairs, put_pair, posted, pushed, reaches, Reaches}
use Rattle.mail_book.specs.Pairs.{AtPair}
use Rattle.mail_book.proofs.PairLookups.{devices_apart, near_apart_at}
use Rattle.message_links.proofs.Reaching.{near_both}
use Rattle.mail_count.specs.Seen.{missing}
use Rattle.mail_count.specs.Marks.{row_of, pair_rows, missing_rows, many}
use Rattle.mail_count.proofs.Covers.{each_true, none_missing}

not_equal : (a b : ℕ) → nat_eq a b ≡ false → nat_eq b a ≡ false
not_equal a b h = by_test (nat_eq b a) refl
  where
    by_test : (t : Bool) → nat_eq b a ≡ t → nat_eq b a ≡ false
    by_test true q = let e = eqb-true b a q in let k : nat_eq a b ≡ true = eq-eqb a b (sym e) in absurd cc
    by_test false q = q

-- ---- lists of what a map has

module _ {X : Type 0} where
  pub map_in : (f g : ℕ → X) (ds : List ℕ) → ((a : ℕ) → is_in a ds ≡ true → f a ≡ g a) → map f ds ≡ map g ds
  map_in f g [] h = refl
  map_in f g (d ∷ ds) h =
      let k : nat_eq d d ≡ true = eq-eqb d d refl in
      ap (λ x. x ∷ map f ds) (h d (rw k refl)) ∙ ap (λ xs. g d ∷ xs) (map_in f g ds (λ a i. h a (or_true (nat_eq a d) (is_in a ds) i)))

  map_places : (f g : ℕ → X) (ds : List ℕ) → ((j : ℕ) → j < length ds → f (get_or ds j 0) ≡ g (get_or ds j 0)) → map f ds ≡ map g ds
  map_places f g [] h = refl
  map_places f g (d ∷ ds) h = ap (λ x. x ∷ map f ds) (h 0 (omega arith)) ∙ ap (λ xs. g d ∷ xs) (map_places f g ds (λ j l. h (suc j) (omega (arith, l))))

  -- one item written is a map that is changed there
  pub map_write : (f g : ℕ → X) (ds : List ℕ) (k d : ℕ) (v : X) → Distinct ds → k < length ds → get_or ds k 0 ≡ d → g d ≡ v → ((a : ℕ) → nat_eq a d ≡ false → g a ≡ f a) → slice_set (map f ds) k v ≡ map g ds
  map_write f g [] k d v n h e there other = absurd (omega arith)
  map_write f g (x ∷ ds) zero d v n h e there other =
      ap (λ y. y ∷ map f ds) (sym there ∙ ap g (sym e)) ∙ ap (λ ys. g x ∷ ys) (sym (map_places g f ds (λ j l. other (get_or ds j 0) (ne_eqb (get_or ds j 0) d (λ q. n.0 j l (q ∙ sym e))))))
  map_write f g (x ∷ ds) (suc k) d v n h e there other =
      ap (λ y. y ∷ slice_set (map f ds) k v) (sym (other x (ne_eqb x d (λ q. n.0 k (omega arith) (e ∙ sym q))))) ∙ ap (λ ys. g x ∷ ys) (map_write f g ds k d v n.1 (omega arith) e there other)

  -- a device that isn't there is in no list
  pub map_away : (f g : ℕ → X) (ds : List ℕ) (d : ℕ) → is_in d ds ≡ false → ((a : ℕ) → nat_eq a d ≡ false → g a ≡ f a) → map f ds ≡ map g ds
  map_away f g ds d h other = map_in f g ds (λ a i. sym (other a (by_test a i (nat_eq a d) refl)))
    where
      by_test : (a : ℕ) → is_in a ds ≡ true → (t : Bool) → nat_eq a d ≡ t → nat_eq a d ≡ false
      by_test a i true q = let e = ap (λ y. is_in y ds) (eqb-true a d q) in absurd cc
      by_test a i false q = q

  pub map_read : (f : ℕ → X) (ds : List ℕ) (k d : ℕ) (z : X) → k < length ds → get_or ds k 0 ≡ d → get_or (map f ds) k z ≡ f d
  map_read f [] k d z h e = absurd (omega arith)
  map_read f (x ∷ ds) zero d z h e = ap f e
  map_read f (x ∷ ds) (suc k) d z h e = map_read f ds k d z (omega arith) e

-- a truth value that is written for a device
module _ (f : ℕ → Bool) (N : Network) (net : IsNetwork N) (d : ℕ) where
  there : (p : ℕ) → p < length N.devices → p < length (numbers N.devices)
  there p h = let m = length-map N.devices (λ (n : NetDevice). n.id) in omega arith

  pub flag_write : (p : ℕ) (v : Bool) → p < length N.devices → get_or (numbers N.devices) p 0 ≡ d → slice_set (map f (numbers N.devices)) p v ≡ map (λ a. if nat_eq d a then v else f a) (numbers N.devices)
  flag_write p v h e =
      let k : nat_eq d d ≡ true = eq-eqb d d refl in
      map_write f (λ a. if nat_eq d a then v else f a) (numbers N.devices) p d v (devices_apart N net) (there p h) e (rw k refl) (λ a q. let r = not_equal a d q in rw r refl)

  pub flag_away : (v : Bool) → lives N d ≡ false → map f (numbers N.devices) ≡ map (λ a. if nat_eq d a then v else f a) (numbers N.devices)
  flag_away v far = map_away f (λ a. if nat_eq d a then v else f a) (numbers N.devices) d far (λ a q. let r = not_equal a d q in rw r refl)

  pub both_write : (g : ℕ → Bool) (p : ℕ) (v : Bool) → p < length N.devices → get_or (numbers N.devices) p 0 ≡ d → v ≡ (g d || f d) → slice_set (map f (numbers N.devices)) p v ≡ map (λ a. if nat_eq d a then g a || f a else f a) (numbers N.devices)
  both_write g p v h e is =
      let k : nat_eq d d ≡ true = eq-eqb d d refl in
      map_write f (λ a. if nat_eq d a then g a || f a else f a) (numbers N.devices) p d v (devices_apart N net) (there p h) e (rw k (sym is)) (λ a q. let r = not_equal a d q in rw r refl)

  pub both_away : (g : ℕ → Bool) → lives N d ≡ false → map f (numbers N.devices) ≡ map (λ a. if nat_eq d a then g a || f a else f a) (numbers N.devices)
  both_away g far = map_away f (λ a. if nat_eq d a then g a || f a else f a) (numbers N.devices) d far (λ a q. let r = not_equal a d q in rw r refl)

  pub flag_read : (p : ℕ) (z : Bool) → p < length N.devices → get_or (numbers N.devices) p 0 ≡ d → get_or (map f (numbers N.devices)) p z ≡ f d
  flag_read p z h e = map_read f (numbers N.devices) p d z (there p h) e

-- ---- rows

module _ {X : Type 0} (N : Network) (net : IsNetwork N) (f : Pairs X) where
  many_devices : length (numbers N.devices) ≡ length N.devices
  many_devices = length-map N.devices (λ (n : NetDevice). n.id)

  -- the row of a device
  module _ (d p : ℕ) (at : AtPlace N d p) where
    in_devices : p < length (numbers N.devices)
    in_devices = let m = many_devices in let w = at.within in omega arith

    pub row_read : get_or (pair_rows N f) p [] ≡ row_of N f d
    row_read = map_read (row_of N f) (numbers N.devices) p d [] in_devices at.is

    pub row_write : (g : Pairs X) (r : List X) → row_of N g d ≡ r → ((a : ℕ) → nat_eq a d ≡ false → row_of N g a ≡ row_of N f a) → slice_set (pair_rows N f) p r ≡ pair_rows N g
    row_write g r there other = map_write (row_of N f) (row_of N g) (numbers N.devices) p d r (devices_apart N net) in_devices at.is there other

  -- the item of an ordered pair
  module _ (a b : ℕ) (place : ℕ × ℕ) (at : AtPair N b a place) where
    in_near : place.1 < length (neighbour_numbers (near N a))
    in_near = let m = length-map (near N a) (λ (n : ℕ × ℕ). n.0) in let w = at.within in omega arith

    pub item_read : (z : X) → get_or (get_or (pair_rows N f) place.0 []) place.1 z ≡ f a b
    item_read z = ap (λ r. get_or r place.1 z) (row_read a place.0 at.row) ∙ map_read (f a) (neighbour_numbers (near N a)) place.1 b z in_near at.is

    pub item_write : (v : X) → slice_set (pair_rows N f) place.0 (slice_set (get_or (pair_rows N f) place.0 []) place.1 v) ≡ pair_rows N (put_pair f a b v)
    item_write v = row_write a place.0 at.row (put_pair f a b v) (slice_set (get_or (pair_rows N f) place.0 []) place.1 v) here other
      where
        here : row_of N (put_pair f a b v) a ≡ slice_set (get_or (pair_rows N f) place.0 []) place.1 v
        here =
            let k : nat_eq a a ≡ true = eq-eqb a a refl in
            let l : nat_eq b b ≡ true = eq-eqb b b refl in
            sym (ap (λ r. slice_set r place.1 v) (row_read a place.0 at.row)
            ∙ map_write (f a) (put_pair f a b v a) (neighbour_numbers (near N a)) place.1 b v (near_apart_at N a net) in_near at.is (rw (k, l) refl) (λ c q. rw (k, q) refl))

        other : (x : ℕ) → nat_eq x a ≡ false → row_of N (put_pair f a b v) x ≡ row_of N f x
        other x q = map_in (put_pair f a b v x) (f x) (neighbour_numbers (near N x)) (λ c i. rw q refl)

  -- a pair that isn't one of neighbours is in no row
  pub item_away : (a b : ℕ) (v : X) → reaches N b a ≡ false → pair_rows N (put_pair f a b v) ≡ pair_rows N f
  item_away a b v far = map_in (row_of N (put_pair f a b v)) (row_of N f) (numbers N.devices) (λ x i. by_test x (nat_eq x a) refl)
    where
      by_test : (x : ℕ) (t : Bool) → nat_eq x a ≡ t → row_of N (put_pair f a b v) x ≡ row_of N f x
      by_test x true q =
          let e = eqb-true x a q in
          sym (map_away (f x) (put_pair f a b v x) (neighbour_numbers (near N x)) b (ap (λ y. is_in b (neighbour_numbers (near N y))) e ∙ far) (λ c r. rw (q, r) refl))
      by_test x false q = map_in (put_pair f a b v x) (f x) (neighbour_numbers (near N x)) (λ c i. rw q refl)

-- what a device sends stands in its row
module _ {X : Type 0} (N : Network) (net : IsNetwork N) (f : Pairs (List X)) (d : ℕ) (x : X) where
  sent_here : row_of N (posted N f d x) d ≡ map (λ xs. pushed xs x) (row_of N f d)
  sent_here = map_in (posted N f d x d) (λ b. pushed (f d b) x) (neighbour_numbers (near N d)) (λ b i.
      let k : nat_eq d d ≡ true = eq-eqb d d refl in
      let l : reaches N d b ≡ true = sym (near_both N d b net) ∙ i in
      rw (k, l) refl) ∙ map_twice (neighbour_numbers (near N d))
    where
      map_twice : (bs : List ℕ) → map (λ b. pushed (f d b) x) bs ≡ map (λ xs. pushed xs x) (map (f d) bs)
      map_twice [] = refl
      map_twice (b ∷ bs) = ap (λ ys. pushed (f d b) x ∷ ys) (map_twice bs)

  pub row_sent : (p : ℕ) → AtPlace N d p → slice_set (pair_rows N f) p (map (λ xs. pushed xs x) (get_or (pair_rows N f) p [])) ≡ pair_rows N (posted N f d x)
  row_sent p at = row_write N net f d p at (posted N f d x) (map (λ xs. pushed xs x) (get_or (pair_rows N f) p []))
      (sent_here ∙ ap (map (λ xs. pushed xs x)) (sym (row_read N net f d p at)))
      (λ a q. map_in (posted N f d x a) (f a) (neighbour_numbers (near N a)) (λ b i. rw q refl))

  pub none_sent : lives N d ≡ false → pair_rows N (posted N f d x) ≡ pair_rows N f
  none_sent far = map_in (row_of N (posted N f d x)) (row_of N f) (numbers N.devices) (λ a i.
      map_in (posted N f d x a) (f a) (neighbour_numbers (near N a)) (λ b j. by_test a i (nat_eq a d) refl b))
    where
      by_test : (a : ℕ) → is_in a (numbers N.devices) ≡ true → (t : Bool) → nat_eq a d ≡ t → (b : ℕ) → posted N f d x a b ≡ f a b
      by_test a i true q b = let e = ap (λ y. is_in y (numbers N.devices)) (eqb-true a d q) in absurd cc
      by_test a i false q b = rw q refl

-- rows of a map over what a map has
pub rows_map : {X Y : Type 0} (N : Network) (g : X → Y) (f : Pairs X) → map (λ r. map g r) (pair_rows N f) ≡ pair_rows N (λ a b. g (f a b))
rows_map {X} {Y} N g f = outer (numbers N.devices)
  where
    inner : (a : ℕ) (bs : List ℕ) → map g (map (f a) bs) ≡ map (λ b. g (f a b)) bs
    inner a [] = refl
    inner a (b ∷ bs) = ap (λ ys. g (f a b) ∷ ys) (inner a bs)

    outer : (ds : List ℕ) → map (λ r. map g r) (map (row_of N f) ds) ≡ map (row_of N (λ a b. g (f a b))) ds
    outer [] = refl
    outer (d ∷ ds) =
        ap (λ r. r ∷ map (λ r. map g r) (map (row_of N f) ds)) (inner d (neighbour_numbers (near N d)))
        ∙ ap (λ rows. row_of N (λ a b. g (f a b)) d ∷ rows) (outer ds)

-- ---- how many are missing

pub missing_set : (bs : List Bool) (k : ℕ) (v : Bool) → k < length bs → (get_or bs k false ≡ true → v ≡ true) → missing (slice_set bs k v) + (if not (get_or bs k false) && v then 1 else 0) ≡ missing bs
missing_set [] k v h u = absurd (omega arith)
missing_set (true ∷ bs) zero true h u = omega arith
missing_set (true ∷ bs) zero false h u = let z = u refl in absurd cc
missing_set (false ∷ bs) zero true h u = omega arith
missing_set (false ∷ bs) zero false h u = omega arith
missing_set (b ∷ bs) (suc k) v h u = let ih = missing_set bs k v (omega arith) u in omega arith

pub missing_rows_set : (rows : List (List Bool)) (p k : ℕ) (v : Bool) → p < length rows → k < length (get_or rows p []) → (get_or (get_or rows p []) k false ≡ true → v ≡ true)
    → missing_rows (slice_set rows p (slice_set (get_or rows p []) k v)) + (if not (get_or (get_or rows p []) k false) && v then 1 else 0) ≡ missing_rows rows
missing_rows_set [] p k v h l u = absurd (omega arith)
missing_rows_set (r ∷ rows) zero k v h l u = let m = missing_set r k v l u in omega arith
missing_rows_set (r ∷ rows) (suc p) k v h l u = let ih = missing_rows_set rows p k v (omega arith) l u in omega arith

pub set_same : {X : Type 0} (xs : List X) (k : ℕ) (z : X) → k < length xs → slice_set xs k (get_or xs k z) ≡ xs
set_same [] k z h = absurd (omega arith)
set_same (x ∷ xs) zero z h = refl
set_same (x ∷ xs) (suc k) z h = ap (λ ys. x ∷ ys) (set_same xs k z (omega arith))

-- rows of a network have as many items, whatever these are
pub many_same : {X Y : Type 0} (N : Network) (f : Pairs X) (g : Pairs Y) → many (pair_rows N f) ≡ many (pair_rows N g)
many_same N f g = each (numbers N.devices)
  where
    each : (ds : List ℕ) → many (map (row_of N f) ds) ≡ many (map (row_of N g) ds)
    each [] = refl
    each (d ∷ ds) =
        let m = length-map (neighbour_numbers (near N d)) (f d) in
        let n = length-map (neighbour_numbers (near N d)) (g d) in
        let ih = each ds in
        omega arith

-- all false
pub all_missing : {X : Type 0} (xs : List X) → missing (map (λ x. false) xs) ≡ length xs
all_missing [] = refl
all_missing (x ∷ xs) = let ih = all_missing xs in omega arith

pub all_rows_missing : {X : Type 0} (rows : List (List X)) → missing_rows (map (λ r. map (λ x. false) r) rows) ≡ many rows
all_rows_missing [] = refl
all_rows_missing (r ∷ rows) = let m = all_missing r in let ih = all_rows_missing rows in omega arith

-- ---- none is missing

rows_true : (N : Network) (f : Pairs Bool) (ds : List ℕ) → missing_rows (map (row_of N f) ds) ≡ 0 → (a : ℕ) → is_in a ds ≡ true → missing (row_of N f a) ≡ 0
rows_true N f [] h a i = absurd cc
rows_true N f (x ∷ ds) h a i = by_test (nat_eq a x) refl i (rows_true N f ds (omega arith) a)
  where
    by_test : (t : Bool) → nat_eq a x ≡ t → (t || is_in a ds) ≡ true → (is_in a ds ≡ true → missing (row_of N f a) ≡ 0) → missing (row_of N f a) ≡ 0
    by_test true q i ih =
        let here : missing (row_of N f x) ≡ 0 = omega arith in
        ap (λ y. missing (row_of N f y)) (eqb-true a x q) ∙ here
    by_test false q i ih = ih i

true_rows : (N : Network) (f : Pairs Bool) (ds : List ℕ) → ((a : ℕ) → missing (row_of N f a) ≡ 0) → missing_rows (map (row_of N f) ds) ≡ 0
true_rows N f [] h = refl
true_rows N f (x ∷ ds) h = let k = h x in let ih = true_rows N f ds h in omega arith

module _ (N : Network) (net : IsNetwork N) (f : Pairs Bool) where
  pub pairs_true : missing_rows (pair_rows N f) ≡ 0 → (a b : ℕ) → Reaches N a b → f a b ≡ true
  pairs_true h a b l =
      let i : is_in b (neighbour_numbers (near N a)) ≡ true = near_both N a b net ∙ l in
      each_true (f a) (neighbour_numbers (near N a)) (rows_true N f (numbers N.devices) h a (by_test i (lives N a) refl)) b i
    where
      by_test : is_in b (neighbour_numbers (near N a)) ≡ true → (t : Bool) → lives N a ≡ t → is_in a (numbers N.devices) ≡ true
      by_test i true q = q
      by_test i false q =
          let e : is_in b (neighbour_numbers (near N a)) ≡ false = ap (λ ns. is_in b (neighbour_numbers ns)) (near_none N.declared (numbers N.devices) a N.links net.links q) in
          absurd cc

  pub true_pairs : ((a b : ℕ) → Reaches N a b → f a b ≡ true) → missing_rows (pair_rows N f) ≡ 0
  true_pairs h = true_rows N f (numbers N.devices) (λ a. none_missing (f a) (neighbour_numbers (near N a)) (λ b i. h a b (sym (near_both N a b net) ∙ i)))

pub all_false : {X : Type 0} (n : ℕ) (xs : List X) → n ≡ length xs → replicate n false ≡ map (λ x. false) xs
all_false zero [] h = refl
all_false zero (x ∷ xs) h = absurd (omega arith)
all_false (suc n) [] h = absurd (omega arith)
all_false (suc n) (x ∷ xs) h = ap (λ ys. false ∷ ys) (all_false n xs (omega arith))

pub rows_missing : (N : Network) → missing_rows (pair_rows N (λ a b. false)) ≡ many (pair_rows N (λ a b. false))
rows_missing N = each (numbers N.devices)
  where
    each : (ds : List ℕ) → missing_rows (map (row_of N (λ a b. false)) ds) ≡ many (map (row_of N (λ a b. false)) ds)
    each [] = refl
    each (d ∷ ds) = let m = all_missing (neighbour_numbers (near N d)) in let l = length-map (neighbour_numbers (near N d)) (λ (b : ℕ). false) in let ih = each ds in omega arith
