-- A table of bounds has a list of last bounds.
use Rattle.std.proofs.Common.{◌≡◌, ℕ, zero, suc, ◌<◌, ◌≤◌, List, [], ◌∷◌, length, map, get_or, refl, sym, ◌∙◌, ap, ap₂}
use Rattle.std.proofs.Common.{subst, arith, Bool, true, false, not, ◌||◌, nat_eq, ◌⊎◌, inl, inr, All}
use Rattle.std.proofs.lemmas.Bool.{cases_eq, or_right}
use Rattle.fc_values.specs.Fields.{is_in}
use Rattle.fc_nodes.specs.Program.{Unfolding}
use Rattle.value_bounds.specs.BoundValues.{BoundValue}
use Rattle.value_bounds.proofs.Values.{itself, nat_same}
use Rattle.bound_firing.specs.BoundTrees.{BoundTree}
use Rattle.bound_firing.specs.Exports.{ExportBound}
use Rattle.export_bounds.specs.Laws.{ExportsHold}
use Rattle.envelopes.specs.Envelopes.{Envelope, ids, MayLive, surely_lives, IsEnvelope}
use Rattle.bound_rounds.specs.declared.rounds.RoundKind.TheVariants as kind
use Rattle.bound_rounds.specs.Rounds.{BoundTable, next_within, rounds_within, HasBound, IsFixedWithin}
use Rattle.last_bounds.specs.LastBounds.{LastBound, EndsAfter, IsLastBound, AreLastBounds}
use Rattle.last_bounds.specs.Laws.{SomeList}
use Rattle.last_bounds.proofs.Ending.{last_there}

abbrev Decided : Type 0 → Type 0
Decided A = A ⊎ (A → ⊥)

-- ---- the least of some numbers of which something holds

module _ (P : ℕ → Type 0) (decided : (i : ℕ) → Decided (P i)) where
  record Least (most : ℕ) : Type 0 where
    pub number : ℕ
    pub within : number ≤ most
    pub holds : P number
    pub first : (i : ℕ) → i < number → P i → ⊥

  abbrev Never : ℕ → Type 0
  Never most = (i : ℕ) → i ≤ most → P i → ⊥

  least : (most : ℕ) → Least most ⊎ Never most
  least zero = by_test (decided 0)
    where
      by_test : Decided (P 0) → Least 0 ⊎ Never 0
      by_test (inl p) =
          inl (record { number = 0; within = omega arith; holds = p; first = λ i l q. absurd (omega (arith, l)) })
      by_test (inr other) = inr (λ i l q. let z : i ≡ 0 = omega (arith, l) in other (subst P z q))
  least (suc most) = by_both (least most) (decided (suc most))
    where
      by_both : Least most ⊎ Never most → Decided (P (suc most)) → Least (suc most) ⊎ Never (suc most)
      by_both (inl found) last =
          inl (record {
            number = found.number;
            within = omega (arith, found.within);
            holds = found.holds;
            first = found.first;
          })
      by_both (inr none) (inl p) = inl (record {
        number = suc most;
        within = omega arith;
        holds = p;
        first = λ i l q. none i (omega (arith, l)) q;
      })
      by_both (inr none) (inr other) = inr (λ i l q. elim (cases_eq i (suc most)) [
        | inl e ↦ other (subst P e q)
        | inr e ↦ none i (omega (arith, l, e)) q
      ])

-- ---- lists

all_with : (P : LastBound → Type 0) (l : LastBound) (ls : List LastBound) → P l → All P ls → All P (l ∷ ls)
all_with P l ls p h zero x b = p
all_with P l ls p h (suc i) x b = h i x (omega (arith, b))

module _ (decided : (b c : ExportBound) → Decided (b ≡ c)) where
  -- whether two tables are the same at some devices
  module _ (f g : BoundTable) where
    abbrev AreSame : List ℕ → Type 0
    AreSame ds = (d : ℕ) → is_in d ds ≡ true → f d ≡ g d

    are_same : (ds : List ℕ) → Decided (AreSame ds)
    are_same [] = inl (λ d h. absurd cc)
    are_same (x ∷ ds) = by_both (decided (f x) (g x)) (are_same ds)
      where
        by_both : Decided (f x ≡ g x) → Decided (AreSame ds) → Decided (AreSame (x ∷ ds))
        by_both (inr other) rest =
            let here : is_in x (x ∷ ds) ≡ true = rw (itself x) refl in
            inr (λ h. other (h x here))
        by_both (inl same) (inr other) = inr (λ h. other (λ d t. h d (or_right (nat_eq d x) (is_in d ds) t)))
        by_both (inl same) (inl rest) = inl (λ d h. by_test d h (nat_eq d x) refl)
          where
            by_test : (d : ℕ) → is_in d (x ∷ ds) ≡ true → (t : Bool) → nat_eq d x ≡ t → f d ≡ g d
            by_test d h true t = let e = nat_same d x t in rw e same
            by_test d h false t = let there : is_in d ds ≡ true = rw t at h in rest d there

  -- and two bounds of values
  same_value : BoundTree → (a b : BoundValue) → Decided (a ≡ b)
  same_value tree a b = by_exports (decided (export a) (export b))
    where
      export : BoundValue → ExportBound
      export x = record { value = x; tree = tree; sure = false }

      by_exports : Decided (export a ≡ export b) → Decided (a ≡ b)
      by_exports (inl same) = inl (ap (λ (e : ExportBound). e.value) same)
      by_exports (inr other) = inr (λ e. other (ap export e))

  module _ (U : Unfolding) (E : Envelope) (start : BoundTable) where
    -- ---- with which table rounds end
    ends : (cap : ℕ) → (n : ℕ) × EndsAfter U E start cap n
    ends cap = by_search (least (λ i. IsFixedWithin kind.Firing U E (rounds_within U E start i)) fixed cap)
      where
        fixed : (i : ℕ) → Decided (IsFixedWithin kind.Firing U E (rounds_within U E start i))
        fixed i = are_same (next_within kind.Firing U E (rounds_within U E start i)) (rounds_within U E start i)
            (ids E.devices)

        by_search : Least (λ i. IsFixedWithin kind.Firing U E (rounds_within U E start i)) fixed cap
            ⊎ Never (λ i. IsFixedWithin kind.Firing U E (rounds_within U E start i)) fixed cap
            → (n : ℕ) × EndsAfter U E start cap n
        by_search (inl f) =
            (f.number, record { within = f.within; fixed = λ less. f.holds; first = f.first })
        by_search (inr none) = (
          cap,
          record {
            within = omega arith;
            fixed = λ less. absurd (omega (arith, less));
            first = λ i less h. none i (omega (arith, less)) h;
          },
        )

    -- ---- whether a device has a bound after so many rounds
    has_bound : (d : ℕ) (b : BoundValue) (r : ℕ) → Decided (HasBound U E start r d b)
    has_bound d b r = by_both (same_value (start d).tree (rounds_within U E start r d).value b)
        (rounds_within U E start r d).sure refl (surely_lives E d) refl
      where
        by_both : Decided ((rounds_within U E start r d).value ≡ b) → (a : Bool)
            → (rounds_within U E start r d).sure ≡ a → (c : Bool) → surely_lives E d ≡ c
            → Decided (HasBound U E start r d b)
        by_both (inr other) a p c q = inr (λ h. other h.is)
        by_both (inl is) true p c q = inl (record { is = is; there = inl p })
        by_both (inl is) a p false q = inl (record { is = is; there = inr q })
        by_both (inl is) false p true q = inr (λ h. elim h.there [
          | inl sure ↦ absurd (cc (sym p ∙ sure))
          | inr away ↦ absurd (cc (sym q ∙ away))
        ])

    module _ (cap n : ℕ) (some : 1 ≤ cap) (ended : EndsAfter U E start cap n) where
      record Given (d : ℕ) : Type 0 where
        pub last : LastBound
        pub device : last.device ≡ d
        pub is : IsLastBound U E start n last

      given : (d : ℕ) → MayLive E d → Given d
      given d l = by_search (least (λ r. HasBound U E start r d bound) (has_bound d bound) n)
        where
          bound : BoundValue
          bound = (rounds_within U E start n d).value

          by_search : Least (λ r. HasBound U E start r d bound) (has_bound d bound) n
              ⊎ Never (λ r. HasBound U E start r d bound) (has_bound d bound) n → Given d
          by_search (inl f) = record {
            last = record {
              device = d;
              rounds = f.number;
              bound = bound;
              before = (start d).value;
              away = not (surely_lives E d);
            };
            device = refl;
            is = record {
              bound = refl;
              rounds = record { has = f.holds; first = f.first };
              before = refl;
              away = refl;
            };
          }
          by_search (inr none) = absurd (none n (omega arith) (last_there U E start cap n d some l ended))

      record GivenAll (is : List ℕ) : Type 0 where
        pub lasts : List LastBound
        pub devices : map (λ (l : LastBound). l.device) lasts ≡ is
        pub each : All (IsLastBound U E start n) lasts

      given_all : (is : List ℕ) → ((d : ℕ) → is_in d is ≡ true → MayLive E d) → GivenAll is
      given_all [] live = record { lasts = []; devices = refl; each = λ i x b. absurd (omega (arith, b)) }
      given_all (d ∷ is) live =
          let own : is_in d (d ∷ is) ≡ true = rw (itself d) refl in
          let one = given d (live d own) in
          let rest = given_all is (λ e there. live e (or_right (nat_eq e d) (is_in e is) there)) in
          record {
            lasts = one.last ∷ rest.lasts;
            devices = ap₂ (λ x xs. x ∷ xs) one.device rest.devices;
            each = all_with (IsLastBound U E start n) one.last rest.lasts one.is rest.each;
          }

pub some_list : ExportsHold → SomeList
some_list hold U E start cap envelope some =
    let end = ends (hold U).decided U E start cap in
    let all = given_all (hold U).decided U E start cap end.0 some end.1 (ids E.devices) (λ d there. there) in
    (all.lasts, record { rounds = end.0; ends = end.1; devices = all.devices; each = all.each })
