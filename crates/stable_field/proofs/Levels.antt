-- A round raises the level of a table by one, and a table that a round doesn't change outside first values is at each
-- level.
use Rattle.std.proofs.Common.{◌≡◌, ℕ, zero, suc, ◌≤◌, List, [], ◌∷◌, map, length, refl, sym, ◌∙◌, ap, subst, arith, Bool, true, false, nat_eq, if◌then◌else◌, Option, Some, None}
use Rattle.std.proofs.lemmas.Bool.{eqb-true, eq-eqb}
use Rattle.std.specs.Prelude.{option_map, ◌||◌}
use Rattle.fc_values.specs.declared.exports.Export.{Export}
use Rattle.fc_values.specs.Values.{LocalValue}
use Rattle.fc_values.specs.Fields.{is_in}
use Rattle.fc_values.specs.Exports.{slots_of}
use Rattle.fc_values.specs.Trees.{TreeExport}
use Rattle.fc_nodes.specs.Program.{Program, Unfolding, unfolding_of, IsProgram}
use Rattle.value_trees.specs.Copies.{WhereSome}
use Rattle.value_trees.specs.Snaps.{tree_of, IsExportOf}
use Rattle.topology.specs.Networks.{Network, numbers, Lives, lives, IsNetwork}
use Rattle.firing_core.specs.Cores.{GoodExport}
use Rattle.firing_core.specs.CoreViews.{device_slot, AllExports}
use Rattle.interval_facts.specs.Solutions.{SolvesMain, local_map, no_binders}
use Rattle.converge_laws.specs.CoreLevels.{ExportLevel, MaybeAt, TableAt, GoodTable, Raises}
use Rattle.converge_laws.specs.Invariant.{ExportAt, no_stage}
use Rattle.converge_laws.specs.Laws.{SolutionsRaiseLevels, IsAnalysis, root_level}
use Rattle.converge_laws.specs.Verdicts.{analysis_of}
use Rattle.stable_field.specs.Tables.{table_of, AreExportSlots, IsFiring, AreFirings, AllHave, HaveSolution}
use Rattle.stable_field.specs.Outside.{AreOutside, SameExport, SameExports}
use Rattle.stable_field.specs.Levels.{IsAtLevel}
use Rattle.stable_field.proofs.SameLevels.{holds_same}

-- the exports in slots are well-typed ones of devices that are there
good_slots : (U : Unfolding) (N : Network) (is : List ℕ) (xs : List (Option Export)) → ((d : ℕ) → is_in d is ≡ true → Lives N d) → AllExports U xs
    → (d : ℕ) (e : TreeExport) → device_slot is (map (option_map (tree_of U)) xs) d ≡ Some e → GoodExport U N d e
good_slots U N [] xs live a d e q = absurd cc
good_slots U N (i ∷ is) [] live a d e q = absurd cc
good_slots U N (i ∷ is) (x ∷ xs) live a d e q =
    by_test (nat_eq d i) refl q (good_slots U N is xs (λ n h. live n (later n h)) a.1 d e)
  where
    later : (n : ℕ) → is_in n is ≡ true → (nat_eq n i || is_in n is) ≡ true
    later n h = or_true (nat_eq n i) h
      where
        or_true : (b : Bool) → is_in n is ≡ true → (b || is_in n is) ≡ true
        or_true true h = refl
        or_true false h = h

    by_test : (b : Bool) → nat_eq d i ≡ b → (if b then option_map (tree_of U) x else device_slot is (map (option_map (tree_of U)) xs) d) ≡ Some e
        → (device_slot is (map (option_map (tree_of U)) xs) d ≡ Some e → GoodExport U N d e) → GoodExport U N d e
    by_test true t q ih = by_slot x a.0 q
      where
        here : Lives N d
        here = live d (rw t refl)

        by_slot : (o : Option Export) → WhereSome (IsExportOf U) o → option_map (tree_of U) o ≡ Some e → GoodExport U N d e
        by_slot None w q = absurd cc
        by_slot (Some y) w q = let s : tree_of U y ≡ e = cc in subst (GoodExport U N d) s (record { there = here; typed = w.typed })
    by_test false t q ih = ih q

pub good_table : (U : Unfolding) (N : Network) (xs : List (Option Export)) → AreExportSlots U N xs → GoodTable U N (table_of U N xs)
good_table U N xs t = good_slots U N (numbers N.devices) xs (λ d h. h) t.exports

-- exports of firings are a table
pub firings_table : (U : Unfolding) (N : Network) (xs : List (Option Export)) (ds : List ℕ) (ys : List (Option Export)) → AreFirings U N xs ds ys → (length ys ≡ length ds) × AllExports U ys
firings_table U N xs [] [] f = (refl, tt)
firings_table U N xs [] (y ∷ ys) f = absurd f
firings_table U N xs (d ∷ ds) [] f = absurd f
firings_table U N xs (d ∷ ds) (None ∷ ys) f = absurd f
firings_table U N xs (d ∷ ds) (Some e ∷ ys) f = let r = firings_table U N xs ds ys f.1 in (ap suc r.0, (f.0.export, r.1))

module _ (U : Unfolding) (N : Network) (P : ExportLevel) (raises : Raises P U N) where
  -- a table of well-typed exports is at level 0
  pub begins : (xs : List (Option Export)) → AreExportSlots U N xs → TableAt P N 0 (table_of U N xs)
  begins xs t d l = by_slot (table_of U N xs d) (good_table U N xs t d)
    where
      by_slot : (o : Option TreeExport) → ((e : TreeExport) → o ≡ Some e → GoodExport U N d e) → MaybeAt P 0 d o
      by_slot None g = tt
      by_slot (Some e) g = raises.first d e l (g e refl).typed

  module _ (xs : List (Option Export)) (t : AreExportSlots U N xs) (j : ℕ) (at : TableAt P N j (table_of U N xs)) where
    fires : (d : ℕ) (e : Export) → Lives N d → IsFiring U N xs d e → P (suc j) d (tree_of U e)
    fires d e l f = raises.fires j (table_of U N xs) (good_table U N xs t) at d l (tree_of U e) f.evaluates

    -- the exports of firings are one level up
    raised : (ds : List ℕ) (ys : List (Option Export)) → AreFirings U N xs ds ys → ((d : ℕ) → is_in d ds ≡ true → Lives N d)
        → (d : ℕ) → is_in d ds ≡ true → MaybeAt P (suc j) d (device_slot ds (map (option_map (tree_of U)) ys) d)
    raised [] ys f live d i = absurd cc
    raised (c ∷ ds) [] f live d i = absurd f
    raised (c ∷ ds) (None ∷ ys) f live d i = absurd f
    raised (c ∷ ds) (Some e ∷ ys) f live d i = by_test (nat_eq d c) refl i (raised ds ys f.1 (λ n h. live n (later n h)) d)
      where
        later : (n : ℕ) → is_in n ds ≡ true → (nat_eq n c || is_in n ds) ≡ true
        later n h = or_true (nat_eq n c) h
          where
            or_true : (b : Bool) → is_in n ds ≡ true → (b || is_in n ds) ≡ true
            or_true true h = refl
            or_true false h = h

        by_test : (b : Bool) → nat_eq d c ≡ b → (b || is_in d ds) ≡ true → (is_in d ds ≡ true → MaybeAt P (suc j) d (device_slot ds (map (option_map (tree_of U)) ys) d))
            → MaybeAt P (suc j) d (if b then Some (tree_of U e) else device_slot ds (map (option_map (tree_of U)) ys) d)
        by_test true t i ih = fires d e (live d (rw t refl)) (subst (λ n. IsFiring U N xs n e) (sym (eqb-true d c t)) f.0)
        by_test false t i ih = ih i

    pub next_level : (ys : List (Option Export)) → AreFirings U N xs (numbers N.devices) ys → TableAt P N (suc j) (table_of U N ys)
    next_level ys f = raised (numbers N.devices) ys f (λ d h. h)

module _ (laws : SolutionsRaiseLevels) (P : Program) (N : Network) (program : IsProgram P) (net : IsNetwork N) (same : N.declared ≡ P.declared) (an : IsAnalysis (unfolding_of P) (analysis_of (unfolding_of P) (length N.devices)) N) where
  abbrev U : Unfolding
  U = unfolding_of P

  abbrev At : (F : ℕ → LocalValue) → SolvesMain N U.main F → ExportLevel
  At F s = ExportAt U (analysis_of U (length N.devices)) N F s

  up : (F : ℕ → LocalValue) (s : SolvesMain N U.main F) → Raises (At F s) U N
  up F s = laws P (analysis_of U (length N.devices)) N program net same an F s

  pub starts : (xs : List (Option Export)) → AreExportSlots U N xs → IsAtLevel U N 0 xs
  starts xs t F s = begins U N (At F s) (up F s) xs t

  pub rises : (xs ys : List (Option Export)) (j : ℕ) → AreExportSlots U N xs → AreFirings U N xs (numbers N.devices) ys → IsAtLevel U N j xs → IsAtLevel U N (suc j) ys
  rises xs ys j t f at F s = next_level U N (At F s) (up F s) xs t j (at F s) ys f

  module _ (is : List ℕ) (all : AreOutside U.main is) where
    -- an export that is another one outside first values is at its levels
    same_export : (F : ℕ → LocalValue) (s : SolvesMain N U.main F) (j d : ℕ) (a b : Export) → IsExportOf U a → SameExport is (Some a) (Some b) → At F s j d (tree_of U b) → At F s j d (tree_of U a)
    same_export F s j d a b w e h = record {
      typed = w.typed;
      value = λ l. e.0 ∙ h.value l;
      holds = holds_same (analysis_of U (length N.devices)) N j d (slots_of a.slots.list.items) (slots_of b.slots.list.items) U.main 0 0 1 (no_stage U.main) (λ q. 0) (lives N) no_binders (local_map F) s
          (all (slots_of a.slots.list.items) (slots_of b.slots.list.items) e.1) h.holds;
    }

    moved : (F : ℕ → LocalValue) (s : SolvesMain N U.main F) (j d : ℕ) (ds : List ℕ) (xs ys : List (Option Export)) → SameExports is xs ys → AllExports U xs
        → MaybeAt (At F s) j d (device_slot ds (map (option_map (tree_of U)) ys) d) → MaybeAt (At F s) j d (device_slot ds (map (option_map (tree_of U)) xs) d)
    moved F s j d [] xs ys q w h = h
    moved F s j d (c ∷ ds) [] [] q w h = h
    moved F s j d (c ∷ ds) [] (y ∷ ys) q w h = absurd q
    moved F s j d (c ∷ ds) (x ∷ xs) [] q w h = absurd q
    moved F s j d (c ∷ ds) (x ∷ xs) (y ∷ ys) q w h = by_test (nat_eq d c) h (moved F s j d ds xs ys q.1 w.1)
      where
        by_slot : (x y : Option Export) → SameExport is x y → WhereSome (IsExportOf U) x → MaybeAt (At F s) j d (option_map (tree_of U) y) → MaybeAt (At F s) j d (option_map (tree_of U) x)
        by_slot None None q w h = h
        by_slot None (Some b) q w h = absurd q
        by_slot (Some a) None q w h = absurd q
        by_slot (Some a) (Some b) q w h = same_export F s j d a b w q h

        by_test : (t : Bool) → MaybeAt (At F s) j d (if t then option_map (tree_of U) y else device_slot ds (map (option_map (tree_of U)) ys) d)
            → (MaybeAt (At F s) j d (device_slot ds (map (option_map (tree_of U)) ys) d) → MaybeAt (At F s) j d (device_slot ds (map (option_map (tree_of U)) xs) d))
            → MaybeAt (At F s) j d (if t then option_map (tree_of U) x else device_slot ds (map (option_map (tree_of U)) xs) d)
        by_test true h ih = by_slot x y q.0 w.0 h
        by_test false h ih = ih h

    -- a table that a round doesn't change outside first values is at each level
    stays_at : (xs ys : List (Option Export)) → AreExportSlots U N xs → AreFirings U N xs (numbers N.devices) ys → SameExports is xs ys → (j : ℕ) → IsAtLevel U N j xs
    stays_at xs ys t f q zero = starts xs t
    stays_at xs ys t f q (suc j) =
        let r = rises xs ys j t f (stays_at xs ys t f q j) in
        λ F s d l. moved F s (suc j) d (numbers N.devices) xs ys q t.exports (r F s d l)

  -- firings that see a table at the level of `main` have the values of the solution
  pub have_solution : (xs ys : List (Option Export)) (j : ℕ) → AreExportSlots U N xs → AreFirings U N xs (numbers N.devices) ys → IsAtLevel U N j xs
      → root_level U (analysis_of U (length N.devices)) ≤ j → HaveSolution U N ys
  have_solution xs ys j t f at h F s = values (numbers N.devices) ys f (λ d i. i)
    where
      values : (ds : List ℕ) (zs : List (Option Export)) → AreFirings U N xs ds zs → ((d : ℕ) → is_in d ds ≡ true → Lives N d) → AllHave F ds zs
      values [] [] f live = tt
      values [] (z ∷ zs) f live = absurd f
      values (d ∷ ds) [] f live = absurd f
      values (d ∷ ds) (None ∷ zs) f live = absurd f
      values (d ∷ ds) (Some e ∷ zs) f live = (
        (fires U N (At F s) (up F s) xs t j (at F s) d e (live d (let q = eq-eqb d d refl in rw q refl)) f.0).value (omega (arith, h)),
        values ds zs f.1 (λ n i. live n (or_true n (nat_eq n d) i)),
      )
        where
          or_true : (n : ℕ) (b : Bool) → is_in n ds ≡ true → (b || is_in n ds) ≡ true
          or_true n true i = refl
          or_true n false i = i

  pub stays_solution : (is : List ℕ) → AreOutside U.main is → (xs ys : List (Option Export)) → AreExportSlots U N xs → AreFirings U N xs (numbers N.devices) ys → SameExports is xs ys → HaveSolution U N ys
  stays_solution is all xs ys t f q =
      have_solution xs ys (root_level U (analysis_of U (length N.devices))) t f (stays_at is all xs ys t f q (root_level U (analysis_of U (length N.devices)))) (omega arith)
