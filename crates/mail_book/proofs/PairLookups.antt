-- Crates above cite this module: reading and writing what rows have for an ordered pair.
use Rattle.std.proofs.Common.{◌≡◌, ℕ, zero, suc, ◌<◌, List, [], ◌∷◌, length, get_or, refl, sym, ◌∙◌, ap, subst, arith, Bool, true, false, ◌&&◌, ◌||◌, nat_eq, if◌then◌else◌, length-set}
use Rattle.std.specs.Prelude.{slice_set}
use Rattle.std.proofs.Math.Path.{fun_ext}
use Rattle.std.proofs.lemmas.Bool.{eqb-true, eq-eqb}
use Rattle.std.proofs.lemmas.List.{length-map}
use Rattle.fc_values.specs.Fields.{is_in}
use Rattle.topology.specs.Networks.{Network, NetDevice, IsNetwork, numbers, near}
use Rattle.topology.specs.Nearby.{neighbour_numbers}
use Rattle.topology.proofs.Lemmas.{near_rises}
use Rattle.firing_core.proofs.Slots.{Distinct, rises_distinct}
use Rattle.message_links.specs.MailCores.{reaches, Pairs, put_pair}
use Rattle.mail_book.specs.Pairs.{item_at, at_pair, AreRows, AtPair}

module _ {X : Type 0} (z : X) where
  -- the item of the number at a place
  pub item_here : (is : List ℕ) (xs : List X) (k d : ℕ) → Distinct is → k < length is → get_or is k 0 ≡ d → length xs ≡ length is → item_at z is xs d ≡ get_or xs k z
  item_here [] xs k d n h e l = absurd (omega arith)
  item_here (i ∷ is) [] k d n h e l = absurd (omega arith)
  item_here (i ∷ is) (x ∷ xs) zero d n h e l = let t = eq-eqb d i (sym e) in rw t refl
  item_here (i ∷ is) (x ∷ xs) (suc k) d n h e l = by_test (nat_eq d i) refl (item_here is xs k d n.1 (omega arith) e (omega arith))
    where
      by_test : (b : Bool) → nat_eq d i ≡ b → item_at z is xs d ≡ get_or xs k z → (if b then x else item_at z is xs d) ≡ get_or xs k z
      by_test true q ih = let y = eqb-true d i q in absurd (n.0 k (omega arith) (e ∙ y))
      by_test false q ih = ih

  -- a number that isn't there has none
  pub item_none : (is : List ℕ) (xs : List X) (d : ℕ) → is_in d is ≡ false → item_at z is xs d ≡ z
  item_none [] xs d e = refl
  item_none (i ∷ is) [] d e = refl
  item_none (i ∷ is) (x ∷ xs) d e = by_test (nat_eq d i) e (item_none is xs d)
    where
      by_test : (b : Bool) → (b || is_in d is) ≡ false → (is_in d is ≡ false → item_at z is xs d ≡ z) → (if b then x else item_at z is xs d) ≡ z
      by_test true q ih = absurd cc
      by_test false q ih = ih q

  -- one item written
  pub item_put : (is : List ℕ) (xs : List X) (k d : ℕ) (v : X) (e : ℕ) → Distinct is → k < length is → get_or is k 0 ≡ d → length xs ≡ length is → item_at z is (slice_set xs k v) e ≡ (if nat_eq e d then v else item_at z is xs e)
  item_put [] xs k d v e n h q l = absurd (omega arith)
  item_put (i ∷ is) [] k d v e n h q l = absurd (omega arith)
  item_put (i ∷ is) (x ∷ xs) zero d v e n h q l = subst (λ j. (if nat_eq e i then v else item_at z is xs e) ≡ (if nat_eq e j then v else (if nat_eq e i then x else item_at z is xs e))) q (by_test (nat_eq e i))
    where
      by_test : (b : Bool) → (if b then v else item_at z is xs e) ≡ (if b then v else (if b then x else item_at z is xs e))
      by_test true = refl
      by_test false = refl
  item_put (i ∷ is) (x ∷ xs) (suc k) d v e n h q l = by_test (nat_eq e i) refl (item_put is xs k d v e n.1 (omega arith) q (omega arith))
    where
      by_test : (b : Bool) → nat_eq e i ≡ b → item_at z is (slice_set xs k v) e ≡ (if nat_eq e d then v else item_at z is xs e) → (if b then x else item_at z is (slice_set xs k v) e) ≡ (if nat_eq e d then v else (if b then x else item_at z is xs e))
      by_test true t ih = other (nat_eq e d) refl
        where
          other : (b : Bool) → nat_eq e d ≡ b → x ≡ (if b then v else x)
          other true p = let y = eqb-true e i t in let w = eqb-true e d p in absurd (n.0 k (omega arith) (q ∙ sym w ∙ y))
          other false p = refl
      by_test false t ih = ih

-- the devices and the neighbours stand once
pub devices_apart : (N : Network) → IsNetwork N → Distinct (numbers N.devices)
devices_apart N net = rises_distinct (numbers N.devices) net.rising

pub near_apart_at : (N : Network) (d : ℕ) → IsNetwork N → Distinct (neighbour_numbers (near N d))
near_apart_at N d net = rises_distinct (neighbour_numbers (near N d)) (near_rises N.declared (numbers N.devices) d N.links net.links)

pub many_rows : {X : Type 0} (N : Network) (ds : List ℕ) (rows : List (List X)) → AreRows N ds rows → length rows ≡ length ds
many_rows N [] [] a = refl
many_rows N [] (r ∷ rows) a = absurd a
many_rows N (d ∷ ds) [] a = absurd a
many_rows N (d ∷ ds) (r ∷ rows) a = ap suc (many_rows N ds rows a.1)

pub row_long : {X : Type 0} (N : Network) (ds : List ℕ) (rows : List (List X)) (k d : ℕ) → AreRows N ds rows → k < length ds → get_or ds k 0 ≡ d → length (get_or rows k []) ≡ length (near N d)
row_long N [] rows k d a h e = absurd (omega arith)
row_long N (i ∷ ds) [] k d a h e = absurd a
row_long N (i ∷ ds) (r ∷ rows) zero d a h e = a.0 ∙ ap (λ j. length (near N j)) e
row_long N (i ∷ ds) (r ∷ rows) (suc k) d a h e = row_long N ds rows k d a.1 (omega arith) e

rows_set : {X : Type 0} (N : Network) (ds : List ℕ) (rows : List (List X)) (k : ℕ) (r : List X) → AreRows N ds rows → length r ≡ length (get_or rows k []) → AreRows N ds (slice_set rows k r)
rows_set N [] [] k r a h = tt
rows_set N [] (s ∷ rows) k r a h = absurd a
rows_set N (d ∷ ds) [] k r a h = absurd a
rows_set N (d ∷ ds) (s ∷ rows) zero r a h = (h ∙ a.0, a.1)
rows_set N (d ∷ ds) (s ∷ rows) (suc k) r a h = (a.0, rows_set N ds rows k r a.1 h)

-- rows of a network, and the place of a pair in them
module _ {X : Type 0} (N : Network) (net : IsNetwork N) (rows : List (List X)) (shape : AreRows N (numbers N.devices) rows) (a b : ℕ) (place : ℕ × ℕ) (at : AtPair N a b place) where
  many_devices : length (numbers N.devices) ≡ length N.devices
  many_devices = length-map N.devices (λ (n : NetDevice). n.id)

  in_devices : place.0 < length (numbers N.devices)
  in_devices = let m = many_devices in let w = at.row.within in omega arith

  many_near : length (neighbour_numbers (near N b)) ≡ length (near N b)
  many_near = length-map (near N b) (λ (n : ℕ × ℕ). n.0)

  in_near : place.1 < length (neighbour_numbers (near N b))
  in_near = let m = many_near in let w = at.within in omega arith

  abbrev pub the_row : List X
  the_row = get_or rows place.0 []

  row_is : item_at [] (numbers N.devices) rows b ≡ the_row
  row_is = item_here [] (numbers N.devices) rows place.0 b (devices_apart N net) in_devices at.row.is (many_rows N (numbers N.devices) rows shape)

  long : length the_row ≡ length (neighbour_numbers (near N b))
  long = row_long N (numbers N.devices) rows place.0 b shape in_devices at.row.is ∙ sym many_near

  pub row_within : place.0 < length rows
  row_within = let m = many_rows N (numbers N.devices) rows shape in let w = in_devices in omega arith

  pub place_within : place.1 < length the_row
  place_within = let m = long in let w = in_near in omega arith

  abbrev pub written : X → List (List X)
  written v = slice_set rows place.0 (slice_set the_row place.1 v)

  pub written_rows : (v : X) → AreRows N (numbers N.devices) (written v)
  written_rows v = rows_set N (numbers N.devices) rows place.0 (slice_set the_row place.1 v) shape (length-set the_row place.1 v)

  module _ (z : X) where
    pub pair_read : at_pair N z rows a b ≡ get_or the_row place.1 z
    pair_read = ap (λ r. item_at z (neighbour_numbers (near N b)) r a) row_is ∙ item_here z (neighbour_numbers (near N b)) the_row place.1 a (near_apart_at N b net) in_near at.is long

    written_at : (v : X) (c d : ℕ) → at_pair N z (written v) c d ≡ put_pair (at_pair N z rows) a b v c d
    written_at v c d =
        ap (λ r. item_at z (neighbour_numbers (near N d)) r c) (item_put [] (numbers N.devices) rows place.0 b (slice_set the_row place.1 v) d (devices_apart N net) in_devices at.row.is (many_rows N (numbers N.devices) rows shape))
        ∙ by_test (nat_eq d b) refl
      where
        here : item_at z (neighbour_numbers (near N b)) (slice_set the_row place.1 v) c ≡ (if nat_eq c a then v else at_pair N z rows c b)
        here = item_put z (neighbour_numbers (near N b)) the_row place.1 a v c (near_apart_at N b net) in_near at.is long ∙ ap (λ r. if nat_eq c a then v else item_at z (neighbour_numbers (near N b)) r c) (sym row_is)

        by_test : (t : Bool) → nat_eq d b ≡ t
            → item_at z (neighbour_numbers (near N d)) (if t then slice_set the_row place.1 v else item_at [] (numbers N.devices) rows d) c ≡ (if nat_eq c a && t then v else at_pair N z rows c d)
        by_test true q =
            let e = eqb-true d b q in
            subst (λ j. item_at z (neighbour_numbers (near N j)) (slice_set the_row place.1 v) c ≡ (if nat_eq c a && true then v else at_pair N z rows c j)) (sym e) (by_sender (nat_eq c a) here)
          where
            by_sender : (s : Bool) → item_at z (neighbour_numbers (near N b)) (slice_set the_row place.1 v) c ≡ (if s then v else at_pair N z rows c b) → item_at z (neighbour_numbers (near N b)) (slice_set the_row place.1 v) c ≡ (if s && true then v else at_pair N z rows c b)
            by_sender true h = h
            by_sender false h = h
        by_test false q = by_sender (nat_eq c a)
          where
            by_sender : (s : Bool) → at_pair N z rows c d ≡ (if s && false then v else at_pair N z rows c d)
            by_sender true = refl
            by_sender false = refl

    -- one item written is what the pair has
    pub pair_write : (v : X) → at_pair N z (written v) ≡ put_pair (at_pair N z rows) a b v
    pair_write v = fun_ext (λ c. fun_ext (λ d. written_at v c d))

-- a pair that isn't one of neighbours has nothing
pub pair_none : {X : Type 0} (N : Network) (z : X) (rows : List (List X)) (a b : ℕ) → reaches N a b ≡ false → at_pair N z rows a b ≡ z
pair_none N z rows a b h = item_none z (neighbour_numbers (near N b)) (item_at [] (numbers N.devices) rows b) a h

-- what a pair has, written again
pub put_same : {X : Type 0} (f : Pairs X) (a b : ℕ) (v : X) → f a b ≡ v → put_pair f a b v ≡ f
put_same f a b v q = fun_ext (λ c. fun_ext (λ d. by_tests c d (nat_eq c a) (nat_eq d b) refl refl))
  where
    by_tests : (c d : ℕ) (s t : Bool) → nat_eq c a ≡ s → nat_eq d b ≡ t → (if s && t then v else f c d) ≡ f c d
    by_tests c d true true p r = let x = eqb-true c a p in let y = eqb-true d b r in rw (x, y) (sym q)
    by_tests c d true false p r = refl
    by_tests c d false true p r = refl
    by_tests c d false false p r = refl
