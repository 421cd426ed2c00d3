-- What a device sees of its neighbours, gathered from its row, and the begin of a firing with it.
use Rattle.std.proofs.Common.{◌≡◌, ◌≢◌, ℕ, suc, ◌<◌, List, [], ◌∷◌, length, map, get_or, refl, sym, ◌∙◌, ap, subst, arith, Bool, true, false, ◌||◌, nat_eq, if◌then◌else◌, Option, Some, None}
use Rattle.std.specs.Prelude.{option_map}
use Rattle.std.proofs.lemmas.Bool.{eqb-true, eq-eqb, ne_eqb}
use Rattle.std.proofs.lemmas.List.{length-map}
use Rattle.fc_values.specs.declared.exports.Export.{Export}
use Rattle.fc_values.specs.Fields.{is_in}
use Rattle.fc_values.specs.Trees.{TreeExport}
use Rattle.fc_nodes.specs.Program.{Unfolding, unfolding_of}
use Rattle.fc_nodes.specs.Flat.{IsWellTyped}
use Rattle.value_trees.specs.declared.copies.Snap.{Snap}
use Rattle.value_trees.specs.Copies.{WhereSome, FitsCopy}
use Rattle.value_trees.specs.Snaps.{tree_of, snap_copy, IsExportOf}
use Rattle.topology.specs.Networks.{Network, NetDevice, Lives, numbers, near}
use Rattle.topology.specs.Nearby.{neighbour_numbers, AtPlace}
use Rattle.topology.proofs.Lemmas.{AllNear, near_fits}
use Rattle.firing_core.specs.Cores.{Map, put, Core, near_with, near_copies, copy_of, GoodExport, IsGood}
use Rattle.firing_core.specs.CoreViews.{CoreValue, core_of, program_of}
use Rattle.firing_core.specs.TakeOffs.{TakesOff}
use Rattle.firing_core.specs.Laws.{CopiesFit}
use Rattle.message_links.specs.MailCores.{MailCore, MailBegin, MailStep, sees}
use Rattle.mail_book.specs.declared.letters.Letters.{Letters}
use Rattle.mail_book.specs.Pairs.{item_at, AreRows}
use Rattle.mail_book.specs.Letters.{heard_of, AllLetters}
use Rattle.mail_book.specs.Rows.{heard_at, transit_at, heard_copies, AllRows}
use Rattle.mail_book.specs.MailViews.{mail_with, mail_of}
use Rattle.firing_core.proofs.Slots.{Distinct}
use Rattle.mail_book.proofs.PairLookups.{item_here, item_none, devices_apart, near_apart_at, many_rows, row_long}
use Rattle.mail_book.proofs.LetterWrites.{row_letters}

-- a number that is among others is one of them
far : (m : ℕ) (is : List ℕ) → is_in m is ≡ true → ((k : ℕ) → k < length is → get_or is k 0 ≢ m) → ⊥
far m [] i apart = absurd cc
far m (j ∷ is) i apart = here (nat_eq m j) refl i (λ r. far m is r (λ k h. apart (suc k) (omega (arith, h))))
  where
    here : (b : Bool) → nat_eq m j ≡ b → (b || is_in m is) ≡ true → (is_in m is ≡ true → ⊥) → ⊥
    here true q i ih = apart 0 (omega arith) (sym (eqb-true m j q))
    here false q i ih = ih i

-- ---- a row, read as a table

module _ (U : Unfolding) where
  -- the copies of the neighbours with what a table has are those of a row that the table reads
  pub row_copies : (table : Map TreeExport) (ns : List (ℕ × ℕ)) (ls : List Letters) → Distinct (neighbour_numbers ns) → length ls ≡ length ns
      → ((n : ℕ) → is_in n (neighbour_numbers ns) ≡ true → table n ≡ item_at None (neighbour_numbers ns) (map (heard_of U) ls) n) → near_copies table ns ≡ heard_copies U ns ls
  row_copies table [] ls n h t = refl
  row_copies table (x ∷ ns) [] n h t = absurd (omega arith)
  row_copies table (x ∷ ns) (l ∷ ls) n h t =
      let k : nat_eq x.0 x.0 ≡ true = eq-eqb x.0 x.0 refl in
      let first : table x.0 ≡ heard_of U l = t x.0 (rw k refl) ∙ rw k refl in
      ap (λ o. near_with x o (near_copies table ns)) first ∙ ap (near_with x (heard_of U l)) (row_copies table ns ls n.1 (omega arith) later)
    where
      later : (m : ℕ) → is_in m (neighbour_numbers ns) ≡ true → table m ≡ item_at None (neighbour_numbers ns) (map (heard_of U) ls) m
      later m i = by_test (nat_eq m x.0) refl (t m (in_more (nat_eq m x.0)))
        where
          in_more : (b : Bool) → (b || is_in m (neighbour_numbers ns)) ≡ true
          in_more true = refl
          in_more false = i

          by_test : (b : Bool) → nat_eq m x.0 ≡ b → table m ≡ (if b then heard_of U l else item_at None (neighbour_numbers ns) (map (heard_of U) ls) m) → table m ≡ item_at None (neighbour_numbers ns) (map (heard_of U) ls) m
          by_test true q e = let y = eqb-true m x.0 q in absurd (far m (neighbour_numbers ns) i (λ k h r. n.0 k h (r ∙ y)))
          by_test false q e = e

  -- what a row has heard is well-typed
  item_typed : (is : List ℕ) (ls : List Letters) (n : ℕ) (x : TreeExport) → AllLetters U ls → item_at None is (map (heard_of U) ls) n ≡ Some x → IsWellTyped U x
  item_typed [] ls n x a q = absurd cc
  item_typed (i ∷ is) [] n x a q = absurd cc
  item_typed (i ∷ is) (l ∷ ls) n x a q = by_test (nat_eq n i) q (item_typed is ls n x a.1)
    where
      typed : (o : Option Export) → WhereSome (IsExportOf U) o → option_map (tree_of U) o ≡ Some x → IsWellTyped U x
      typed None w p = absurd cc
      typed (Some e) w p = let r : tree_of U e ≡ x = cc in subst (IsWellTyped U) r w.typed

      by_test : (b : Bool) → (if b then heard_of U l else item_at None is (map (heard_of U) ls) n) ≡ Some x → (item_at None is (map (heard_of U) ls) n ≡ Some x → IsWellTyped U x) → IsWellTyped U x
      by_test true p ih = typed l.heard a.0.heard p
      by_test false p ih = ih p

  row_typed : (is : List ℕ) (rows : List (List Letters)) (d : ℕ) → AllRows U rows → AllLetters U (item_at [] is rows d)
  row_typed [] rows d a = tt
  row_typed (i ∷ is) [] d a = tt
  row_typed (i ∷ is) (r ∷ rows) d a = by_test (nat_eq d i) (row_typed is rows d a.1)
    where
      by_test : (b : Bool) → AllLetters U (item_at [] is rows d) → AllLetters U (if b then r else item_at [] is rows d)
      by_test true ih = a.0
      by_test false ih = ih

item_map : {A B : Type 0} (f : A → B) (z : A) (is : List ℕ) (xs : List A) (d : ℕ) → item_at (f z) is (map f xs) d ≡ f (item_at z is xs d)
item_map f z [] xs d = refl
item_map f z (i ∷ is) [] d = refl
item_map f z (i ∷ is) (x ∷ xs) d = by_test (nat_eq d i) (item_map f z is xs d)
  where
    by_test : (b : Bool) → item_at (f z) is (map f xs) d ≡ f (item_at z is xs d) → (if b then f x else item_at (f z) is (map f xs) d) ≡ f (if b then x else item_at z is xs d)
    by_test true ih = refl
    by_test false ih = ih

not_itself : (D : Network) (ds : List ℕ) (d : ℕ) (ns : List (ℕ × ℕ)) → AllNear D.declared ds d ns → is_in d (neighbour_numbers ns) ≡ true → ⊥
not_itself D ds d [] a i = absurd cc
not_itself D ds d (n ∷ ns) a i = by_test (nat_eq d n.0) refl i (not_itself D ds d ns a.1)
  where
    by_test : (b : Bool) → nat_eq d n.0 ≡ b → (b || is_in d (neighbour_numbers ns)) ≡ true → (is_in d (neighbour_numbers ns) ≡ true → ⊥) → ⊥
    by_test true q i ih = a.0.other (sym (eqb-true d n.0 q))
    by_test false q i ih = ih i

near_lives : (D : Network) (ds : List ℕ) (a b : ℕ) (ns : List (ℕ × ℕ)) → AllNear D.declared ds b ns → is_in a (neighbour_numbers ns) ≡ true → is_in a ds ≡ true
near_lives D ds a b [] all h = absurd cc
near_lives D ds a b (n ∷ ns) all h = by_test (nat_eq a n.0) refl h (near_lives D ds a b ns all.1)
  where
    by_test : (t : Bool) → nat_eq a n.0 ≡ t → (t || is_in a (neighbour_numbers ns)) ≡ true → (is_in a (neighbour_numbers ns) ≡ true → is_in a ds ≡ true) → is_in a ds ≡ true
    by_test true q i ih = let e = eqb-true a n.0 q in rw e all.0.there
    by_test false q i ih = ih i

-- a core, rows that fit it, and the place of a device
module _ (c : CoreValue) (good : IsGood (program_of c) (core_of c)) (rows : List (List Letters)) (shape : AreRows c.net (numbers c.net.devices) rows) (all : AllRows (program_of c) rows) (d p : ℕ) (at : AtPlace c.net d p) where
  N : Network
  N = c.net

  abbrev pub seen : Map TreeExport
  seen = sees (mail_of (mail_with c rows)) d

  fits : AllNear c.net.declared (numbers c.net.devices) d (near c.net d)
  fits = near_fits c.net.declared (numbers c.net.devices) d c.net.links good.net.links

  in_devices : p < length (numbers c.net.devices)
  in_devices = let w = at.within in omega (arith, w, length-map c.net.devices (λ (n : NetDevice). n.id))

  pub row_in : p < length rows
  row_in = let w = in_devices in omega (arith, w, many_rows c.net (numbers c.net.devices) rows shape)

  pub row_is_long : length (get_or rows p []) ≡ length (near c.net d)
  row_is_long = row_long c.net (numbers c.net.devices) rows p d shape in_devices at.is

  heard_row : (n : ℕ) → heard_at (program_of c) c.net rows n d ≡ item_at None (neighbour_numbers (near c.net d)) (map (heard_of (program_of c)) (get_or rows p [])) n
  heard_row n =
      ap (λ r. item_at None (neighbour_numbers (near c.net d)) r n)
      (item_map (λ r. map (heard_of (program_of c)) r) [] (numbers c.net.devices) rows d
      ∙ ap (λ r. map (heard_of (program_of c)) r) (item_here [] (numbers c.net.devices) rows p d (devices_apart c.net good.net) in_devices at.is (many_rows c.net (numbers c.net.devices) rows shape)))

  seen_near : (n : ℕ) → is_in n (neighbour_numbers (near c.net d)) ≡ true → seen n ≡ item_at None (neighbour_numbers (near c.net d)) (map (heard_of (program_of c)) (get_or rows p [])) n
  seen_near n i =
      let k : nat_eq n d ≡ false = ne_eqb n d (λ e. not_itself c.net (numbers c.net.devices) d (near c.net d) fits (subst (λ m. is_in m (neighbour_numbers (near c.net d)) ≡ true) e i)) in
      rw k (heard_row n)

  -- the neighbours of the copy
  pub near_seen : near_copies seen (near c.net d) ≡ heard_copies (program_of c) (near c.net d) (get_or rows p [])
  near_seen = row_copies (program_of c) seen (near c.net d) (get_or rows p []) (near_apart_at c.net d good.net) row_is_long seen_near

  pub own_seen : seen d ≡ (core_of c).exports d
  own_seen = let k : nat_eq d d ≡ true = eq-eqb d d refl in rw k refl

  -- what is seen is of devices that are there, and well-typed
  seen_good : (n : ℕ) (x : TreeExport) → seen n ≡ Some x → GoodExport (program_of c) c.net n x
  seen_good n x q = by_test (nat_eq n d) refl q
    where
      heard_good : heard_at (program_of c) c.net rows n d ≡ Some x → GoodExport (program_of c) c.net n x
      heard_good h = by_near (is_in n (neighbour_numbers (near c.net d))) refl
        where
          by_near : (b : Bool) → is_in n (neighbour_numbers (near c.net d)) ≡ b → GoodExport (program_of c) c.net n x
          by_near true i = record {
            there = near_lives c.net (numbers c.net.devices) n d (near c.net d) fits i;
            typed = item_typed (program_of c) (neighbour_numbers (near c.net d)) (get_or rows p []) n x (row_letters (program_of c) rows p all) (sym (heard_row n) ∙ h);
          }
          by_near false i = let e = item_none None (neighbour_numbers (near c.net d)) (map (heard_of (program_of c)) (get_or rows p [])) n i in let r : None ≡ Some x = sym e ∙ sym (heard_row n) ∙ h in absurd cc

      by_test : (b : Bool) → nat_eq n d ≡ b → (if b then (core_of c).exports n else heard_at (program_of c) c.net rows n d) ≡ Some x → GoodExport (program_of c) c.net n x
      by_test true t h = good.exports n x h
      by_test false t h = heard_good h

  -- the copy fits
  pub seen_fits : CopiesFit → Lives c.net d → FitsCopy (program_of c) (copy_of c.net seen d)
  seen_fits fit there = fit (program_of c) (record { net = c.net; exports = seen; flying = λ n. None }) d (record { net = good.net; declared = good.declared; exports = seen_good; flying = λ n s q. absurd cc }) there

-- rows beside a core of the same program and network
pub beside : (c next : CoreValue) (rows : List (List Letters)) → next.program ≡ c.program → next.net ≡ c.net
    → mail_of (mail_with next rows) ≡ record { core = core_of next; heard = heard_at (program_of c) c.net rows; transit = transit_at (program_of c) c.net rows }
beside c next rows program net =
    ap (λ P. let m : MailCore = record { core = core_of next; heard = heard_at (unfolding_of P) next.net rows; transit = transit_at (unfolding_of P) next.net rows } in m) program
    ∙ ap (λ M. let m : MailCore = record { core = core_of next; heard = heard_at (program_of c) M rows; transit = transit_at (program_of c) M rows } in m) net

-- a copy of what is seen that takes off is a begin
pub begins_seen : (c next : CoreValue) (rows : List (List Letters)) (d i : ℕ) (s : Snap) → s.device ≡ d → next.program ≡ c.program → next.net ≡ c.net → TakesOff (program_of c) (core_of c) s (core_of next)
    → snap_copy (program_of c) s ≡ copy_of c.net (sees (mail_of (mail_with c rows)) d) d → MailStep (program_of c) i (mail_of (mail_with c rows)) (MailBegin d) (mail_of (mail_with next rows))
begins_seen c next rows d i s names program net t copy = (
  core_of next,
  (
    subst (Lives c.net) names t.there,
    ap (core_of c).flying (sym names) ∙ t.rests,
    t.after
        ∙ ap (λ n. let k : Core = record { net = c.net; exports = (core_of c).exports; flying = put (core_of c).flying n (Some (snap_copy (program_of c) s)) } in k) names
        ∙ ap (λ y. let k : Core = record { net = c.net; exports = (core_of c).exports; flying = put (core_of c).flying d (Some y) } in k) copy,
  ),
  beside c next rows program net,
)
