-- Crates above cite this module: a round, which puts drafts in the place of bounds, and marks for the next one.
use Rattle.std.proofs.Common.{◌≡◌, ℕ, suc, ◌<◌, List, [], ◌∷◌, length, get_or, refl, sym, ◌∙◌, ap, subst, arith, Bool}
use Rattle.std.proofs.Common.{true, false, if◌then◌else◌}
use Rattle.std.specs.List.{list_any}
use Rattle.std.proofs.lemmas.List.Folds.{list_any_at}
use Rattle.fc_nodes.specs.Program.{Unfolding}
use Rattle.fc_nodes.specs.Terms.{kept}
use Rattle.firing_core.proofs.Taken.{in_at}
use Rattle.bound_firing.specs.declared.firing.ExportBound.{ExportBound as FlatBound}
use Rattle.bound_firing.specs.ExportReferences.{export_bound_in}
use Rattle.envelopes.specs.Envelopes.{Envelope, ids, MayLive, IsEnvelope}
use Rattle.bound_rounds.specs.declared.rounds.Table.{Table}
use Rattle.bound_rounds.specs.declared.rounds.RoundKind.{RoundKind}
use Rattle.bound_rounds.specs.Rounds.{BoundTable, next_within, IsFixedWithin}
use Rattle.bound_rounds.specs.Tables.{device_at, Stand, HaveSlots, FitTable, AllMarked, AreDue, IsFiredTable}
use Rattle.bound_rounds.specs.Tables.{AreSwapped, table_by}
use Rattle.bound_rounds.proofs.Closeness.{stands_at, unmarked_stays, next_live}
use Rattle.bound_rounds.proofs.Standing.{stand_at, at_stand, many_numbers}
use Rattle.bound_rounds.proofs.Tabled.{stand_live, by_stands}

pub at_lives : (E : Envelope) (i : ℕ) → i < length E.devices → MayLive E (device_at E i)
at_lives E i h = let m = many_numbers E in in_at (ids E.devices) i (device_at E i) (omega (arith, h, m)) refl

-- swapped lists have as many slots each
pub swapped_slots : (n : ℕ) (changed : List Bool) (xs ys zs : List FlatBound) → length xs ≡ length changed
    → length ys ≡ length changed → length zs ≡ length changed
    → AreSwapped changed (length changed) xs ys zs → HaveSlots n xs → HaveSlots n ys → HaveSlots n zs
swapped_slots n changed xs ys zs l l' m s h h' k d b =
    let e = s k d (omega (arith, b, m)) in
    ap (λ (x : FlatBound). length x.slots.items) e ∙ by_test (get_or changed k false)
  where
    by_test : (c : Bool) → length (if c then get_or ys k d else get_or xs k d).slots.items ≡ n
    by_test true = h' k d (omega (arith, b, m, l'))
    by_test false = h k d (omega (arith, b, m, l))

module _ (k : RoundKind) (U : Unfolding) (E : Envelope) (envelope : IsEnvelope E) (T : Table)
    (f : IsFiredTable k U E T) where
  abbrev n : ℕ
  n = length E.devices

  abbrev cs : List Bool
  cs = T.changed.items

  -- some bound is there, where there are devices
  first_bound : (i : ℕ) → i < n → FlatBound
  first_bound i h = get_first T.bounds.items f.fits.many
    where
      get_first : (xs : List FlatBound) → length xs ≡ length E.devices → FlatBound
      get_first [] l = absurd (omega (arith, h, l))
      get_first (x ∷ xs) l = x

  module _ (table : BoundTable) (st : Stand U E table T.bounds.items) where
    abbrev next : BoundTable
    next = next_within k U E table

    -- what did not change stays
    pub same_at : (i : ℕ) → i < n → get_or cs i false ≡ false → next (device_at E i) ≡ table (device_at E i)
    same_at i h e = (f.fired table st i (first_bound i h) h).same e

    pub fixed : ((i : ℕ) → i < n → get_or cs i false ≡ false) → IsFixedWithin k U E table
    fixed h d l =
        let p = stands_at E d l in
        subst (λ x. next x ≡ table x) p.is_there (same_at p.place p.within (h p.place p.within))

    -- and what changed doesn't
    pub moves : (i : ℕ) → i < n → get_or cs i false ≡ true → IsFixedWithin k U E table → ⊥
    moves i h e all = (f.fired table st i (first_bound i h) h).other e (all (device_at E i) (at_lives E i h))

    module _ (zs : List FlatBound) (long : length zs ≡ length E.devices)
        (s : AreSwapped cs (length cs) T.bounds.items T.drafts.items zs) where
      pub next_stands : Stand U E next zs
      next_stands = at_stand U E next zs long (λ i x h. ap (export_bound_in U)
          (s i x (omega (arith, h, f.changed))) ∙ by_test i x h (get_or cs i false) refl)
        where
          by_test : (i : ℕ) (x : FlatBound) → i < length E.devices → (c : Bool) → get_or cs i false ≡ c
              → export_bound_in U (if c then get_or T.drafts.items i x else get_or T.bounds.items i x)
              ≡ next_within k U E table (device_at E i)
          by_test i x h true e = (f.fired table st i x h).next e
          by_test i x h false e = stand_at U E table T.bounds.items st i x h ∙ sym (same_at i h e)

    next_due : (marks : List Bool) → length marks ≡ n → AllMarked E cs (length cs) marks → AreDue k U E next marks
    next_due marks long m = record {
      many = long;
      same = λ i h e. unmarked_stays k U E envelope table cs marks same_at
          (λ p l. m p (omega (arith, l, f.changed))) i h (at_lives E i h) e;
    }

  module _ (zs : List FlatBound) (long : length zs ≡ length E.devices) where
    pub next_fits : AreSwapped cs (length cs) T.bounds.items T.drafts.items zs → FitTable U E zs
    next_fits s = record {
      many = long;
      slots = swapped_slots (kept U.main) cs T.bounds.items T.drafts.items zs (f.fits.many ∙ sym f.changed)
          (f.drafts.many ∙ sym f.changed) (long ∙ sym f.changed) s f.fits.slots f.drafts.slots;
    }

    pub drafts_fit : AreSwapped cs (length cs) T.drafts.items T.bounds.items zs → FitTable U E zs
    drafts_fit s = record {
      many = long;
      slots = swapped_slots (kept U.main) cs T.drafts.items T.bounds.items zs (f.drafts.many ∙ sym f.changed)
          (f.fits.many ∙ sym f.changed) (long ∙ sym f.changed) s f.drafts.slots f.fits.slots;
    }

    -- the marks are right for each table for which the new bounds stand
    pub all_due : AreSwapped cs (length cs) T.bounds.items T.drafts.items zs → (marks : List Bool) → length marks ≡ n
        → AllMarked E cs (length cs) marks → (t : BoundTable) → Stand U E t zs → AreDue k U E t marks
    all_due s marks many m t h =
        let old = table_by U (ids E.devices) T.bounds.items in
        let st = by_stands U E envelope T.bounds.items f.fits.many in
        let d = next_due old st marks many m in
        let new = next_stands old st zs long s in
        let same = stand_live U E (next_within k U E old) t zs new h in record {
          many = many;
          same = λ i l e.
              let there = at_lives E i l in
              sym (next_live k U E envelope (next_within k U E old) t same (device_at E i) there) ∙ d.same i l e
              ∙ same (device_at E i) there;
        }

pub of_swapped : (cs es : List Bool) (xs ps ys qs zs : List FlatBound) → cs ≡ es → xs ≡ ps → ys ≡ qs
    → AreSwapped cs (length cs) xs ys zs → AreSwapped es (length es) ps qs zs
of_swapped cs es xs ps ys qs zs e p q s =
    subst (λ us. AreSwapped us (length us) ps qs zs) e (subst (λ us. AreSwapped cs (length cs) us qs zs) p
    (subst (λ us. AreSwapped cs (length cs) xs us zs) q s))

pub of_marked : (E : Envelope) (us es marks : List Bool) → us ≡ es → AllMarked E us (length us) marks
    → AllMarked E es (length es) marks
of_marked E us es marks e m = subst (λ ws. AllMarked E ws (length ws) marks) e m

-- where no element passes, none is true
pub none_true : (p : Bool → Bool) → p true ≡ true → (xs : List Bool) → list_any p xs ≡ false → (i : ℕ) → i < length xs
    → get_or xs i false ≡ false
none_true p t xs e i h = by_test (get_or xs i false) refl
  where
    by_test : (c : Bool) → get_or xs i false ≡ c → c ≡ false
    by_test false q = refl
    by_test true q = let a = list_any_at p xs i false h (ap p q ∙ t) in absurd cc

-- where some element passes, one is true
pub record TrueAt (xs : List Bool) : Type 0 where
  pub place : ℕ
  pub within : place < length xs
  pub is_true : get_or xs place false ≡ true

pub some_true : (p : Bool → Bool) → p false ≡ false → (xs : List Bool) → list_any p xs ≡ true → TrueAt xs
some_true p f [] e = absurd cc
some_true p f (true ∷ xs) e = record { place = 0; within = omega arith; is_true = refl }
some_true p f (false ∷ xs) e =
    let rest : list_any p xs ≡ true = rw f at e in
    let t = some_true p f xs rest in
    record { place = suc t.place; within = omega (arith, t.within); is_true = t.is_true }
