-- A core has at most one table from which its rounds within an envelope are counted, and each good core has one, which
-- is closed and holds the core.
use Rattle.std.proofs.Common.{◌≡◌, ℕ, zero, suc, ◌≤◌, List, [], ◌∷◌, refl, sym, ◌∙◌, ap, subst, arith, Bool, true}
use Rattle.std.proofs.Common.{false}
use Rattle.std.proofs.Common.{nat_eq, ◌⊎◌, inl, inr, Option, Some, None}
use Rattle.std.specs.Prelude.{nat_le}
use Rattle.std.proofs.lemmas.Bool.{cases_eq, or_right}
use Rattle.fc_values.specs.Fields.{is_in}
use Rattle.fc_values.specs.Trees.{TreeExport, Copy}
use Rattle.fc_nodes.specs.Program.{Program, Unfolding, unfolding_of, IsProgram}
use Rattle.device_eval.specs.Copies.{EvaluatesCopy}
use Rattle.topology.specs.Networks.{Network, lives, Lives}
use Rattle.firing_core.specs.Cores.{Core, copy_of, IsGood}
use Rattle.firing_core.specs.Laws.{CopiesFit}
use Rattle.value_bounds.proofs.Values.{nat_same, itself}
use Rattle.bound_firing.specs.Exports.{ExportBound}
use Rattle.export_bounds.specs.Exports.{exact_export, either_export}
use Rattle.export_bounds.specs.Laws.{ExportsHold}
use Rattle.bound_rounds.specs.declared.rounds.RoundKind.TheVariants as kind
use Rattle.bound_rounds.specs.Rounds.{BoundTable, next_within, grown_within, IsFullWithin}
use Rattle.envelopes.specs.Envelopes.{Envelope, ids, MayLive, surely_lives, IsEnvelope}
use Rattle.settle_rounds.specs.Rounds.{any_table}
use Rattle.settle_rounds.specs.Within.{FirstWithin, stands, stands_and_lands, lands, begins, comes, FirstTableWithin}
use Rattle.settle_rounds.specs.Within.{StartTableWithin, grows, any_start, OneStartWithin, StartHoldsWithin}
use Rattle.settle_rounds.specs.Within.{StartsHoldWithin}
use Rattle.settle_rounds.proofs.OneExport.{one_evaluation}
use Rattle.settle_rounds.proofs.HoldWithin.{any_closed_within, any_holds_within}
use Rattle.settle_rounds.proofs.Growing.{full_closed_within, grown_holds_within, some_first_within}
use Rattle.settle_rounds.proofs.Growing.{first_holds_within}
use Rattle.settle_rounds.proofs.Still.{after_agree, still_agree, still_stays_within}

-- ---- each device has one first bound

same_some : {A : Type 0} (o : Option A) (x y : A) → o ≡ Some x → o ≡ Some y → x ≡ y
same_some o x y p q = let z : Some x ≡ Some y = sym p ∙ q in cc

some_none : {A : Type 0} (o : Option A) (x : A) → o ≡ Some x → o ≡ None → ⊥
some_none o x p q = let z : Some x ≡ None = sym p ∙ q in absurd cc

module _ (U : Unfolding) (E : Envelope) (N : Network) (c : Core) (d : ℕ) where
  same_landing : (r s : Copy) (e f : TreeExport) → c.flying d ≡ Some r → EvaluatesCopy U r e → c.flying d ≡ Some s
      → EvaluatesCopy U s f → e ≡ f
  same_landing r s e f p v q w =
      one_evaluation U s e f (subst (λ x. EvaluatesCopy U x e) (same_some (c.flying d) r s p q) v) w

  not_there : Lives N d → lives N d ≡ false → ⊥
  not_there l g = let z : false ≡ true = sym g ∙ l in absurd cc

  one_first : (a b : ExportBound) → FirstWithin U E N c d a → FirstWithin U E N c d b → a ≡ b
  one_first a b (stands e q k) (stands f q' k') =
      ap (exact_export U (surely_lives E d)) (same_some (c.exports d) e f q q')
  one_first a b (stands e q k) (stands_and_lands e' s f q' k' w) = absurd (some_none (c.flying d) s k' k)
  one_first a b (stands e q k) (lands s f q' k' w) = absurd (some_none (c.exports d) e q q')
  one_first a b (stands e q k) (begins f l q' k' w) = absurd (some_none (c.exports d) e q q')
  one_first a b (stands e q k) (comes g q' k') = absurd (some_none (c.exports d) e q q')
  one_first a b (stands_and_lands e s f q k v) (stands e' q' k') = absurd (some_none (c.flying d) s k k')
  one_first a b (stands_and_lands e r f q k v) (stands_and_lands e' s f' q' k' w) =
      ap (λ x. either_export U (exact_export U (surely_lives E d) x) (exact_export U (surely_lives E d) f))
      (same_some (c.exports d) e e' q q')
      ∙ ap (λ x. either_export U (exact_export U (surely_lives E d) e') (exact_export U (surely_lives E d) x))
      (same_landing r s f f' k v k' w)
  one_first a b (stands_and_lands e r f q k v) (lands s f' q' k' w) = absurd (some_none (c.exports d) e q q')
  one_first a b (stands_and_lands e r f q k v) (begins f' l q' k' w) = absurd (some_none (c.exports d) e q q')
  one_first a b (stands_and_lands e r f q k v) (comes g q' k') = absurd (some_none (c.exports d) e q q')
  one_first a b (lands r f q k v) (stands e q' k') = absurd (some_none (c.exports d) e q' q)
  one_first a b (lands r f q k v) (stands_and_lands e s f' q' k' w) = absurd (some_none (c.exports d) e q' q)
  one_first a b (lands r f q k v) (lands s f' q' k' w) =
      ap (exact_export U false) (same_landing r s f f' k v k' w)
  one_first a b (lands r f q k v) (begins f' l q' k' w) = absurd (some_none (c.flying d) r k k')
  one_first a b (lands r f q k v) (comes g q' k') = absurd (some_none (c.flying d) r k k')
  one_first a b (begins f l q k v) (stands e q' k') = absurd (some_none (c.exports d) e q' q)
  one_first a b (begins f l q k v) (stands_and_lands e s f' q' k' w) = absurd (some_none (c.exports d) e q' q)
  one_first a b (begins f l q k v) (lands s f' q' k' w) = absurd (some_none (c.flying d) s k' k)
  one_first a b (begins f l q k v) (begins f' l' q' k' w) =
      ap (exact_export U false) (one_evaluation U (copy_of N c.exports d) f f' v w)
  one_first a b (begins f l q k v) (comes g q' k') = absurd (not_there l g)
  one_first a b (comes g q k) (stands e q' k') = absurd (some_none (c.exports d) e q' q)
  one_first a b (comes g q k) (stands_and_lands e s f q' k' w) = absurd (some_none (c.exports d) e q' q)
  one_first a b (comes g q k) (lands s f q' k' w) = absurd (some_none (c.flying d) s k' k)
  one_first a b (comes g q k) (begins f l q' k' w) = absurd (not_there l g)
  one_first a b (comes g q k) (comes g' q' k') = refl

-- ---- whether a table is full, and whether one of the first tables that grow is

module _ (decided : (b c : ExportBound) → (b ≡ c) ⊎ (b ≡ c → ⊥)) (f g : BoundTable) where
  abbrev AreSame : List ℕ → Type 0
  AreSame ds = (d : ℕ) → is_in d ds ≡ true → f d ≡ g d

  all_same : (ds : List ℕ) → AreSame ds ⊎ (AreSame ds → ⊥)
  all_same [] = inl (λ d h. absurd cc)
  all_same (x ∷ ds) = by_both (decided (f x) (g x)) (all_same ds)
    where
      by_both : (f x ≡ g x) ⊎ (f x ≡ g x → ⊥) → AreSame ds ⊎ (AreSame ds → ⊥)
          → AreSame (x ∷ ds) ⊎ (AreSame (x ∷ ds) → ⊥)
      by_both (inr other) rest =
          let here : is_in x (x ∷ ds) ≡ true = rw (itself x) refl in
          inr (λ h. other (h x here))
      by_both (inl same) (inr other) = inr (λ h. other (λ d t. h d (or_right (nat_eq d x) (is_in d ds) t)))
      by_both (inl same) (inl rest) = inl (λ d h. by_test d h (nat_eq d x) refl)
        where
          by_test : (d : ℕ) → is_in d (x ∷ ds) ≡ true → (t : Bool) → nat_eq d x ≡ t → f d ≡ g d
          by_test d h true t = let e = nat_same d x t in rw e same
          by_test d h false t = let there : is_in d ds ≡ true = rw t at h in rest d there

module _ (hold : ExportsHold) (U : Unfolding) (E : Envelope) where
  full_or : (table : BoundTable) → IsFullWithin U E table ⊎ (IsFullWithin U E table → ⊥)
  full_or table = all_same (hold U).decided (next_within kind.Growing U E table) table (ids E.devices)

  module _ (first : BoundTable) where
    -- one of the tables after at most so many rounds is full
    record GetsFull (most : ℕ) : Type 0 where
      pub rounds : ℕ
      pub within : rounds ≤ most
      pub full : IsFullWithin U E (grown_within U E first rounds)

    abbrev NeverFull : ℕ → Type 0
    NeverFull most = (i : ℕ) → i ≤ most → IsFullWithin U E (grown_within U E first i) → ⊥

    gets_full : (most : ℕ) → GetsFull most ⊎ NeverFull most
    gets_full zero = by_test (full_or (grown_within U E first 0))
      where
        by_test : IsFullWithin U E (grown_within U E first 0) ⊎ (IsFullWithin U E (grown_within U E first 0) → ⊥) →
            GetsFull 0 ⊎ NeverFull 0
        by_test (inl full) = inl (record { rounds = 0; within = omega arith; full = full })
        by_test (inr other) = inr (λ i l full. let z : i ≡ 0 = omega (arith, l) in
            other (subst (λ n. IsFullWithin U E (grown_within U E first n)) z full))
    gets_full (suc most) = by_both (gets_full most) (full_or (grown_within U E first (suc most)))
      where
        by_both : GetsFull most ⊎ NeverFull most
            → IsFullWithin U E (grown_within U E first (suc most)) ⊎
            (IsFullWithin U E (grown_within U E first (suc most)) → ⊥)
            → GetsFull (suc most) ⊎ NeverFull (suc most)
        by_both (inl found) last =
            inl (record { rounds = found.rounds; within = omega (arith, found.within); full = found.full })
        by_both (inr none) (inl full) = inl (record { rounds = suc most; within = omega arith; full = full })
        by_both (inr none) (inr other) = inr (λ i l full. elim (cases_eq i (suc most)) [
          | inl e ↦ other (subst (λ n. IsFullWithin U E (grown_within U E first n)) e full)
          | inr e ↦ none i (omega (arith, l, e)) full
        ])

-- ---- the table of a core

module _ (U : Unfolding) (E : Envelope) (N : Network) (envelope : IsEnvelope E) (most : ℕ) (c : Core) where
  -- tables that grow out of first bounds are the same after as many rounds, and full after as many
  module _ (f g : BoundTable) (first : FirstTableWithin U E N c f) (second : FirstTableWithin U E N c g) where
    agree : (d : ℕ) → MayLive E d → f d ≡ g d
    agree d l = one_first U E N c d (f d) (g d) (first d l) (second d l)

    grown_same : (i d : ℕ) → MayLive E d → grown_within U E f i d ≡ grown_within U E g i d
    grown_same i d l = after_agree kind.Growing U E envelope f g agree i d l

    full_same : (i : ℕ) → IsFullWithin U E (grown_within U E f i) → IsFullWithin U E (grown_within U E g i)
    full_same i full =
        still_agree kind.Growing U E envelope (grown_within U E f i) (grown_within U E g i) (grown_same i) full

  -- and a full one is that of any other number of rounds after which it is full
  both_full : (g : BoundTable) (i k : ℕ) → IsFullWithin U E (grown_within U E g i) →
      IsFullWithin U E (grown_within U E g k) → (d : ℕ)
      → MayLive E d → grown_within U E g i d ≡ grown_within U E g k d
  both_full g i k x y d l = by_order (nat_le i k) refl
    where
      by_order : (t : Bool) → nat_le i k ≡ t → grown_within U E g i d ≡ grown_within U E g k d
      by_order true t = sym (still_stays_within kind.Growing U E envelope g i k x (grind (arith, t)) d l)
      by_order false t = still_stays_within kind.Growing U E envelope g k i y (grind (arith, t)) d l

  same_start : (s t : BoundTable) → StartTableWithin U E N most c s → StartTableWithin U E N most c t → (d : ℕ) →
      MayLive E d → s d ≡ t d
  same_start s t (grows f i first l x) (grows g k second m y) d here =
      grown_same f g first second i d here ∙ both_full g i k (full_same f g first second i x) y d here
  same_start s t (grows f i first l x) (any_start g second none) d here =
      absurd (none i l (full_same f g first second i x))
  same_start s t (any_start f first none) (grows g k second m y) d here =
      absurd (none k m (full_same g f second first k y))
  same_start s t (any_start f first none) (any_start g second other) d here = refl

pub one_start_within : OneStartWithin
one_start_within U E N envelope most c s t = same_start U E N envelope most c s t

module _ (fit : CopiesFit) (hold : ExportsHold) (P : Program) (E : Envelope) (program : IsProgram P)
    (c : Core) (good : IsGood (unfolding_of P) c) (most : ℕ) where
  abbrev U : Unfolding
  U = unfolding_of P

  some_start : (table : BoundTable) × StartTableWithin U E c.net most c table
  some_start = by_first (some_first_within fit P E program c good)
    where
      by_first : (first : BoundTable) × FirstTableWithin U E c.net c first →
          (table : BoundTable) × StartTableWithin U E c.net most c table
      by_first t = by_full (gets_full hold U E t.0 most)
        where
          by_full : GetsFull hold U E t.0 most ⊎ NeverFull hold U E t.0 most
              → (table : BoundTable) × StartTableWithin U E c.net most c table
          by_full (inl found) = (grown_within U E t.0 found.rounds, grows t.0 found.rounds t.1 found.within found.full)
          by_full (inr none) = (any_table U, any_start t.0 t.1 none)

  start_holds : (s : BoundTable) → StartTableWithin U E c.net most c s → StartHoldsWithin U E c s
  start_holds s (grows first i has l full) = record {
    closed = full_closed_within hold U E (grown_within U E first i) full;
    holds = grown_holds_within hold U E first c (first_holds_within fit P E program c good hold first has) i;
  }
  start_holds s (any_start first has none) =
      record { closed = any_closed_within U E; holds = any_holds_within U E c good }

pub starts_hold_within : CopiesFit → ExportsHold → StartsHoldWithin
starts_hold_within fit hold P E program c good most = record {
  some = some_start fit hold P E program c good most;
  hold = start_holds fit hold P E program c good most;
}
