-- A table of bounds has at most one list of last bounds.
use Rattle.std.proofs.Common.{◌≡◌, ℕ, zero, suc, ◌<◌, ◌≤◌, List, [], ◌∷◌, length, map, get_or, refl, sym, ◌∙◌, ap, ap₂}
use Rattle.std.proofs.Common.{subst, arith, Bool, true, false, not, ◌||◌, nat_eq, ◌⊎◌, inl, inr, All}
use Rattle.std.proofs.lemmas.Bool.{cases_eq, cases_lt, or_right}
use Rattle.fc_values.specs.Fields.{is_in}
use Rattle.fc_nodes.specs.Program.{Unfolding}
use Rattle.value_bounds.specs.BoundValues.{BoundValue}
use Rattle.value_bounds.proofs.Values.{itself}
use Rattle.bound_firing.specs.Exports.{ExportBound}
use Rattle.envelopes.specs.Envelopes.{Envelope, ids, MayLive, surely_lives, IsEnvelope}
use Rattle.bound_rounds.specs.declared.rounds.RoundKind.TheVariants as kind
use Rattle.bound_rounds.specs.Rounds.{BoundTable, rounds_within, HasBound, IsFixedWithin}
use Rattle.bound_rounds.proofs.Closeness.{next_live}
use Rattle.last_bounds.specs.LastBounds.{LastBound, EndsAfter, HasBoundFirst, IsLastBound, AreLastBounds}
use Rattle.last_bounds.specs.Laws.{OneList}

abbrev Agree : Envelope → BoundTable → BoundTable → Type 0
Agree E s t = (d : ℕ) → MayLive E d → s d ≡ t d

-- ---- what is said of a device, part by part

abbrev made : ℕ → ℕ → BoundValue → BoundValue → Bool → LastBound
made device rounds bound before away =
    record { device = device; rounds = rounds; bound = bound; before = before; away = away }

same_parts : (l m : LastBound) → l.device ≡ m.device → l.rounds ≡ m.rounds → l.bound ≡ m.bound → l.before ≡ m.before
    → l.away ≡ m.away → l ≡ m
same_parts l m d r b f a =
    ap₂ (λ x y. made x y l.bound l.before l.away) d r
    ∙ ap₂ (λ x y. made m.device m.rounds x y l.away) b f
    ∙ ap (λ x. made m.device m.rounds m.bound m.before x) a

module _ (U : Unfolding) (E : Envelope) (envelope : IsEnvelope E) where
  -- ---- tables after rounds

  after_agree : (s t : BoundTable) → Agree E s t → (n : ℕ) → Agree E (rounds_within U E s n) (rounds_within U E t n)
  after_agree s t agree zero d l = agree d l
  after_agree s t agree (suc n) d l =
      next_live kind.Firing U E envelope (rounds_within U E s n) (rounds_within U E t n) (after_agree s t agree n) d l

  fixed_agree : (s t : BoundTable) → Agree E s t → IsFixedWithin kind.Firing U E s → IsFixedWithin kind.Firing U E t
  fixed_agree s t agree fixed d l = sym (next_live kind.Firing U E envelope s t agree d l) ∙ fixed d l ∙ agree d l

  module _ (s t : BoundTable) (agree : Agree E s t) where
    -- one doesn't end before the other
    not_before : (cap n m : ℕ) → EndsAfter U E s cap n → EndsAfter U E t cap m → n < m → ⊥
    not_before cap n m e f less = f.first n less
        (fixed_agree (rounds_within U E s n) (rounds_within U E t n) (after_agree s t agree n)
        (e.fixed (omega (arith, less, f.within))))

    has_agrees : (r d : ℕ) (b : BoundValue) → MayLive E d → HasBound U E s r d b → HasBound U E t r d b
    has_agrees r d b l h =
        let same = after_agree s t agree r d l in
        record { is = sym (ap (λ (x : ExportBound). x.value) same) ∙ h.is; there = by_cases same h.there }
      where
        by_cases : rounds_within U E s r d ≡ rounds_within U E t r d
            → ((rounds_within U E s r d).sure ≡ true) ⊎ (surely_lives E d ≡ false)
            → ((rounds_within U E t r d).sure ≡ true) ⊎ (surely_lives E d ≡ false)
        by_cases same (inl sure) = inl (sym (ap (λ (x : ExportBound). x.sure) same) ∙ sure)
        by_cases same (inr away) = inr away

    -- nor has a device its bound before
    not_earlier : (q r d : ℕ) (b : BoundValue) → MayLive E d → HasBoundFirst U E s q d b → HasBoundFirst U E t r d b
        → q < r → ⊥
    not_earlier q r d b l h g less = g.first q less (has_agrees q d b l h.has)

-- two numbers of which neither is the lesser
neither : (n m : ℕ) → (n < m → ⊥) → (m < n → ⊥) → n ≡ m
neither n m before after = elim (cases_lt n m) [
  | inl less ↦ absurd (before less)
  | inr more ↦ elim (cases_lt m n) [
    | inl less ↦ absurd (after less)
    | inr same ↦ omega (arith, more, same)
  ]
]

module _ (U : Unfolding) (E : Envelope) (envelope : IsEnvelope E) (s t : BoundTable) (agree : Agree E s t) where
  back : Agree E t s
  back d l = sym (agree d l)

  same_end : (cap n m : ℕ) → EndsAfter U E s cap n → EndsAfter U E t cap m → n ≡ m
  same_end cap n m e f =
      neither n m (not_before U E envelope s t agree cap n m e f) (not_before U E envelope t s back cap m n f e)

  same_round : (q r d : ℕ) (b : BoundValue) → MayLive E d → HasBoundFirst U E s q d b → HasBoundFirst U E t r d b
      → q ≡ r
  same_round q r d b l h g =
      neither q r (not_earlier U E envelope s t agree q r d b l h g) (not_earlier U E envelope t s back r q d b l g h)

  -- ---- of one device
  same_last : (n : ℕ) (l m : LastBound) → MayLive E l.device → l.device ≡ m.device → IsLastBound U E s n l
      → IsLastBound U E t n m → l ≡ m
  same_last n l m there same a b =
      let value : BoundTable → ℕ → BoundValue = λ table d. (table d).value in
      let bound : l.bound ≡ m.bound =
      a.bound ∙ ap (λ (x : ExportBound). x.value) (after_agree U E envelope s t agree n l.device there)
      ∙ ap (value (rounds_within U E t n)) same ∙ sym b.bound in
      let here = subst (λ d. HasBoundFirst U E t m.rounds d m.bound) (sym same) b.rounds in
      let first = subst (HasBoundFirst U E t m.rounds l.device) (sym bound) here in
      same_parts l m same (same_round l.rounds m.rounds l.device l.bound there a.rounds first) bound
      (a.before ∙ ap (λ (x : ExportBound). x.value) (agree l.device there) ∙ ap (value t) same ∙ sym b.before)
      (a.away ∙ ap (λ d. not (surely_lives E d)) same ∙ sym b.away)

  -- ---- of all
  abbrev devices : List LastBound → List ℕ
  devices ls = map (λ (l : LastBound). l.device) ls

  same_lasts : (n : ℕ) (is : List ℕ) (ls ms : List LastBound) → ((d : ℕ) → is_in d is ≡ true → MayLive E d)
      → devices ls ≡ is → devices ms ≡ is → All (IsLastBound U E s n) ls → All (IsLastBound U E t n) ms → ls ≡ ms
  same_lasts n [] [] [] live p q h g = refl
  same_lasts n [] [] (m ∷ ms) live p q h g = absurd cc
  same_lasts n [] (l ∷ ls) ms live p q h g = absurd cc
  same_lasts n (i ∷ is) [] ms live p q h g = absurd cc
  same_lasts n (i ∷ is) (l ∷ ls) [] live p q h g = absurd cc
  same_lasts n (i ∷ is) (l ∷ ls) (m ∷ ms) live p q h g =
      let first : l.device ≡ i = cc in
      let second : m.device ≡ i = cc in
      let rest : devices ls ≡ is = cc in
      let others : devices ms ≡ is = cc in
      let own : is_in l.device (i ∷ is) ≡ true = rw (first, itself i) refl in
      ap₂ (λ x xs. x ∷ xs)
      (same_last n l m (live l.device own) (first ∙ sym second) (h 0 l (omega arith)) (g 0 m (omega arith)))
      (same_lasts n is ls ms (λ d there. live d (or_right (nat_eq d i) (is_in d is) there)) rest others
      (λ k x b. h (suc k) x (omega (arith, b))) (λ k x b. g (suc k) x (omega (arith, b))))

pub one_list : OneList
one_list U E envelope s t agree cap ls ms a b =
    let n = same_end U E envelope s t agree cap a.rounds b.rounds a.ends b.ends in
    same_lasts U E envelope s t agree a.rounds (ids E.devices) ls ms (λ d there. there) a.devices b.devices a.each
    (subst (λ k. All (IsLastBound U E t k) ms) (sym n) b.each)
