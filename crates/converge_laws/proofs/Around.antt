-- Crates above cite this module: a device and its neighbours in a set: what fits over them.
use Rattle.std.proofs.Common.{◌≡◌, ◌≢◌, ℕ, List, [], ◌∷◌, map, refl, ◌∙◌, ap, subst, arith, Bool, true, false, Option, Some, None, nat_eq}
use Rattle.std.specs.Prelude.{if◌then◌else◌, filter}
use Rattle.std.proofs.lemmas.Bool.Decides.{nat_tests}
use Rattle.fc_values.specs.Types.{LocalType, BoolType, ValueType, TypeLocal, TypeField}
use Rattle.fc_values.specs.Values.{LocalValue, IntValue, BoolValue, PairValue, Fits}
use Rattle.fc_values.specs.Fields.{AnyValue, ValueLocal, ValueField, devices, Rises, AllFit, FitsOver, with_number, is_in}
use Rattle.fc_nodes.specs.Terms.{Term, Plain, Apply, Nbr, Evolve, If, Let, term_type}
use Rattle.fc_nodes.specs.Typing.{Scope, type_at}
use Rattle.topology.specs.Networks.{Network, numbers, near, IsNetwork}
use Rattle.fc_values.proofs.Numbers.{Part, part_none, part_skip, part_keep, rises_with, rises_part, not_in_part, still_stays}
use Rattle.alignment.proofs.Entries.{devices_with}
use Rattle.device_eval.proofs.Sights.{fit_with, bound_fits}
use Rattle.topology.proofs.Lemmas.{AllNear, near_rises, near_fits}
use Rattle.interval_facts.specs.Solutions.{Devices, In, ValueMap, ValueMaps, bind, near_among, around, FitsOn, field_of, where_is, Solves}
use Rattle.converge_laws.proofs.Near.{in_part}
use Rattle.device_eval.specs.Conditions.{VariableFits}
use Rattle.topology.specs.Nearby.{neighbour_numbers}

abbrev pub heard_in : Network → Devices → ℕ → List ℕ
heard_in N D d = neighbour_numbers (near_among N D d)

-- some of the numbers
pub parted : (p q : ℕ × ℕ → Bool) → ((n : ℕ × ℕ) → p n ≡ true → q n ≡ true) → (ns : List (ℕ × ℕ)) → Part (neighbour_numbers (filter p ns)) (neighbour_numbers (filter q ns))
parted p q f [] = part_none
parted p q f (n ∷ ns) = by_tests (p n) (q n) refl refl (parted p q f ns)
  where
    by_tests : (b c : Bool) → p n ≡ b → q n ≡ c → Part (neighbour_numbers (filter p ns)) (neighbour_numbers (filter q ns)) → Part (neighbour_numbers (filter p (n ∷ ns))) (neighbour_numbers (filter q (n ∷ ns)))
    by_tests true true i k r = rw (i, k) (part_keep n.0 r)
    by_tests true false i k r = let k' = f n i in absurd cc
    by_tests false true i k r = rw (i, k) (part_skip n.0 r)
    by_tests false false i k r = rw (i, k) r

pub all_part : (ns : List (ℕ × ℕ)) (q : ℕ × ℕ → Bool) → Part (neighbour_numbers (filter q ns)) (neighbour_numbers ns)
all_part [] q = part_none
all_part (n ∷ ns) q = by_test (q n) refl (all_part ns q)
  where
    by_test : (b : Bool) → q n ≡ b → Part (neighbour_numbers (filter q ns)) (neighbour_numbers ns) → Part (neighbour_numbers (filter q (n ∷ ns))) (neighbour_numbers (n ∷ ns))
    by_test true i r = rw i (part_keep n.0 r)
    by_test false i r = rw i (part_skip n.0 r)

pub entries_fit : (m : ℕ) (s : LocalType) (f : ℕ × ℕ → LocalValue) → ((n : ℕ × ℕ) → Fits m s (f n)) → (ms : List (ℕ × ℕ)) → AllFit m s (map (λ (n : ℕ × ℕ). (n.0, f n)) ms)
entries_fit m s f h [] = tt
entries_fit m s f h (n ∷ ms) = (h n, entries_fit m s f h ms)

pub entries_over : (f : ℕ × ℕ → LocalValue) (ms : List (ℕ × ℕ)) → devices (map (λ (n : ℕ × ℕ). (n.0, f n)) ms) ≡ neighbour_numbers ms
entries_over f [] = refl
entries_over f (n ∷ ms) = ap (λ (ns : List ℕ). n.0 ∷ ns) (entries_over f ms)

-- a value of a type, to stand where nothing is asked
abbrev pub some_or : Option AnyValue → AnyValue
some_or None = ValueLocal (IntValue 0)
some_or (Some v) = v

abbrev pub local_in : AnyValue → LocalValue
local_in (ValueLocal v) = v
local_in (ValueField es) = IntValue 0

pub local_back : (m : ℕ) (ds : List ℕ) (t : ValueType) (s : LocalType) (v : AnyValue) → t ≡ TypeLocal s → FitsOver m ds t v → (v ≡ ValueLocal (local_in v)) × Fits m s (local_in v)
local_back m ds (TypeLocal u) s (ValueLocal x) e h = let same : u ≡ s = cc in (refl, subst (λ w. Fits m w x) same h)
local_back m ds (TypeLocal u) s (ValueField es) e h = absurd h
local_back m ds (TypeField u) s v e h = absurd cc

abbrev pub truth_in : LocalValue → Bool
truth_in (BoolValue b) = b
truth_in (IntValue n) = false
truth_in (PairValue a b) = false

pub truth_back : (m : ℕ) (v : LocalValue) → Fits m BoolType v → v ≡ BoolValue (truth_in v)
truth_back m (BoolValue b) h = refl
truth_back m (IntValue n) h = absurd h
truth_back m (PairValue a b) h = absurd h

module _ (N : Network) (net : IsNetwork N) where
  abbrev M : ℕ
  M = N.declared.ceiling

  pub near_up : (D : Devices) (d : ℕ) → Rises (heard_in N D d)
  near_up D d = rises_part (all_part (near N d) (λ n. D n.0)) (near_rises N.declared (numbers N.devices) d N.links net.links)

  pub not_among : (d : ℕ) (ns : List (ℕ × ℕ)) → AllNear N.declared (numbers N.devices) d ns → is_in d (neighbour_numbers ns) ≡ false
  not_among d [] h = refl
  not_among d (n ∷ ns) h =
      let other : n.0 ≢ d = h.0.other in
      let test : nat_eq d n.0 ≡ false = grind (arith, other, nat_tests) in
      let rest = not_among d ns h.1 in
      rw (test, rest) refl

  pub near_apart : (D : Devices) (d : ℕ) → is_in d (heard_in N D d) ≡ false
  near_apart D d = not_in_part d (all_part (near N d) (λ n. D n.0)) (not_among d (near N d) (near_fits N.declared (numbers N.devices) d N.links net.links))

  pub around_up : (D : Devices) (d : ℕ) → Rises (around N D d)
  around_up D d = rises_with d (heard_in N D d) (near_apart D d) (near_up D d)

  -- a variable over a set of devices
  abbrev pub VarOn : Devices → ValueType → ValueMap → Type 0
  VarOn D t G = (d : ℕ) → In D d → VariableFits M d (heard_in N D d) t (G d)

  abbrev pub VarsOn : Devices → Scope → ValueMaps → Type 0
  VarsOn D scope V = (q : ℕ) (t : ValueType) → type_at q scope ≡ Some t → VarOn D t (V q)

  pub bound_on : (D : Devices) (t : ValueType) (F : ValueMap) → FitsOn N D t F → VarOn D t F
  bound_on D t F h = λ d i. bound_fits M d (heard_in N D d) t (F d) (near_up D d) (near_apart D d) (h d i)

  pub bind_on : (D : Devices) (p : ℕ) (t : ValueType) (G : ValueMap) (scope : Scope) (V : ValueMaps) → VarOn D t G → VarsOn D scope V → VarsOn D ((p, t) ∷ scope) (bind p G V)
  bind_on D p t G scope V g h q u e d i = by_test (nat_eq p q) e
    where
      by_test : (c : Bool) → (if c then Some t else type_at q scope) ≡ Some u → VariableFits M d (heard_in N D d) u ((if c then G else V q) d)
      by_test true e = let same : t ≡ u = cc in subst (λ x. VariableFits M d (heard_in N D d) x (G d)) same (g d i)
      by_test false e = h q u e d i

  pub in_branch : (b : Bool) (D : Devices) (k : ℕ → Bool) (n : ℕ × ℕ) → where_is b D k n.0 ≡ true → D n.0 ≡ true
  in_branch b D k n h = in_part b D k n.0 h

  pub fewer_on : (b : Bool) (D : Devices) (k : ℕ → Bool) (t : ValueType) (G : ValueMap) → VarOn D t G → VarOn (where_is b D k) t G
  fewer_on b D k (TypeLocal t) G h d i = by_value (G d) (h d (in_part b D k d i))
    where
      by_value : (v : AnyValue) → VariableFits M d (heard_in N D d) (TypeLocal t) v → VariableFits M d (heard_in N (where_is b D k) d) (TypeLocal t) v
      by_value (ValueLocal x) z = z
      by_value (ValueField es) z = absurd z
  fewer_on b D k (TypeField t) G h d i = by_value (G d) (h d (in_part b D k d i))
    where
      by_value : (v : AnyValue) → VariableFits M d (heard_in N D d) (TypeField t) v → VariableFits M d (heard_in N (where_is b D k) d) (TypeField t) v
      by_value (ValueField es) z = (z.0, still_stays d (parted (λ n. where_is b D k n.0) (λ n. D n.0) (in_branch b D k) (near N d)) (near_up D d) (near_apart D d) (devices es) z.1)
      by_value (ValueLocal x) z = absurd z

  pub field_fits : (D : Devices) (s : LocalType) (f : ℕ → LocalValue) → ((d : ℕ) → Fits M s (f d)) → FitsOn N D (TypeField s) (field_of N D f)
  field_fits D s f h d i = (
    devices_with d (f d) (map (λ (n : ℕ × ℕ). (n.0, f n.0)) (near_among N D d)) ∙ ap (with_number d) (entries_over (λ n. f n.0) (near_among N D d)),
    fit_with M s d (f d) (map (λ (n : ℕ × ℕ). (n.0, f n.0)) (near_among N D d)) (h d) (entries_fit M s (λ n. f n.0) (λ n. h n.0) (near_among N D d)),
  )

  pub solution_fits : (t : Term) (p : ℕ) (D : Devices) (V : ValueMaps) (F : ValueMap) → Solves N p t D V F → FitsOn N D (term_type t) F
  solution_fits (Plain t l) p D V F s = s.0
  solution_fits (Apply t o xs) p D V F s = s.0
  solution_fits (Nbr t a) p D V F s = s.0
  solution_fits (Evolve t e a u) p D V F s = s.0
  solution_fits (If t c u w) p D V F s = s.0
  solution_fits (Let t a u) p D V F s = s.0
