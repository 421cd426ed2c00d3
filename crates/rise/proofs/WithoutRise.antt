-- Crates above cite this module: solutions of a body with limited rise and of its target.
use Rattle.std.proofs.Common.{◌≡◌, ℕ, suc, ◌≤◌, ◌+◌, List, [], ◌∷◌, refl, sym, ◌∙◌, ap, subst, arith, true, false, Some, nat_eq, min}
use Rattle.std.specs.Prelude.{map}
use Rattle.std.proofs.lemmas.Bool.Decides.{nat_tests}
use Rattle.fc_values.specs.declared.builtins.Builtin.TheVariants as op
use Rattle.fc_values.specs.Types.{IntType, ValueType, TypeLocal}
use Rattle.fc_values.specs.Values.{LocalValue, IntValue, BoolValue, PairValue}
use Rattle.fc_values.specs.Fields.{AnyValue, ValueLocal, ValueField, FitsOver, restricted}
use Rattle.fc_values.specs.Builtins.{builtin_value}
use Rattle.fc_nodes.specs.Terms.{Variable, Term, Plain, Apply, Nbr, Evolve, If, Let, NoMore, More, term_type, size}
use Rattle.topology.specs.Networks.{Network}
use Rattle.topology.specs.Nearby.{neighbour_numbers}
use Rattle.interval_facts.specs.Ranges.{RangeValue, IntRange, BoolRange, PairRange, LiesIn}
use Rattle.interval_facts.specs.Solutions.{Devices, In, ValueMap, ValueMaps, bind, near_among, around, FitsOn, local_map, where_is, LeafIs, Solves, SolveAll}
use Rattle.interval_facts.specs.Claims.{MapLiesIn}
use Rattle.interval_facts.proofs.Claims.{fits_of, fewer}
use Rattle.growth_facts.specs.Leads.{least_integer}
use Rattle.rise.specs.Laws.{rising_body, in_body, SolvesWithoutRise}

module _ (N : Network) where
  abbrev M : ℕ
  M = N.declared.ceiling

  fits_as : (D : Devices) (t : ValueType) (F G : ValueMap) → ((d : ℕ) → In D d → F d ≡ G d) → FitsOn N D t F → FitsOn N D t G
  fits_as D t F G e h = λ d i. subst (λ v. FitsOver M (around N D d) t v) (e d i) (h d i)

  -- what agrees with a solution over the devices is one
  pub solves_agree : (t : Term) (p : ℕ) (D : Devices) (V : ValueMaps) (F G : ValueMap) → ((d : ℕ) → In D d → F d ≡ G d) → Solves N p t D V F → Solves N p t D V G
  solves_agree (Plain t l) p D V F G e s = (fits_as D t F G e s.0, (λ d i. subst (λ v. LeafIs N D l V d v) (e d i) (s.1 d i)))
  solves_agree (Apply t o xs) p D V F G e s = (fits_as D t F G e s.0, s.1, s.2, (λ d i. s.3 d i ∙ ap Some (e d i)))
  solves_agree (Nbr t a) p D V F G e s = (fits_as D t F G e s.0, s.1, s.2, (λ d i. sym (e d i) ∙ s.3 d i))
  solves_agree (Evolve t f a u) p D V F G e s = (fits_as D t F G e s.0, s.1, s.2, (λ d i. sym (e d i) ∙ s.3 d i))
  solves_agree (If t c u w) p D V F G e s = (
    fits_as D t F G e s.0,
    s.1,
    s.2,
    solves_agree u (suc p + size c) (where_is true D s.1) V F G (λ d i. e d (fewer true D s.1 d i)) s.3,
    solves_agree w (suc p + size c + size u) (where_is false D s.1) V F G (λ d i. e d (fewer false D s.1 d i)) s.4,
  )
  solves_agree (Let t a u) p D V F G e s = (fits_as D t F G e s.0, s.1, s.2, solves_agree u (suc p + size a) D (bind p s.1 V) F G e s.3)

  -- a value that is an integer
  record IsInteger (v : AnyValue) : Type 0 where
    number : ℕ
    is : v ≡ ValueLocal (IntValue number)

  integer_of : (ds : List ℕ) (v : AnyValue) → FitsOver M ds (TypeLocal IntType) v → IsInteger v
  integer_of ds (ValueLocal (IntValue n)) h = record { number = n; is = refl }
  integer_of ds (ValueLocal (BoolValue b)) h = absurd h
  integer_of ds (ValueLocal (PairValue a b)) h = absurd h
  integer_of ds (ValueField es) h = absurd h

  some_number : (r : RangeValue) (n : ℕ) → 1 ≤ least_integer r → LiesIn r (ValueLocal (IntValue n)) → 1 ≤ n
  some_number (IntRange a b) n l h = let h0 = h.0 in omega (arith, l, h0)
  some_number BoolRange n l h = absurd h
  some_number (PairRange q s) n l h = absurd h

  self_bound : (x d : ℕ) (f : ℕ → LocalValue) (V : ValueMaps) → in_body x f V x d ≡ ValueLocal (f d)
  self_bound x d f V = let e : nat_eq x x ≡ true = grind (arith, nat_tests) in rw e refl

  -- the value of `rise` at one device, and its own last value
  of_target : (d a b c : ℕ) (v : AnyValue) → 1 ≤ c → builtin_value op.Rise M d (ValueLocal (IntValue a) ∷ ValueLocal (IntValue b) ∷ ValueLocal (IntValue c) ∷ []) ≡ Some v → v ≡ ValueLocal (IntValue b) → a ≡ b
  of_target d a b c v l e q =
      let k : min a (b + c) ≡ b = numbers (e ∙ ap Some q) in omega (arith, k, l)
    where
      numbers : Some (ValueLocal (IntValue (min a (b + c)))) ≡ Some (ValueLocal (IntValue b)) → min a (b + c) ≡ b
      numbers h = cc

  to_target : (d a c : ℕ) → builtin_value op.Rise M d (ValueLocal (IntValue a) ∷ ValueLocal (IntValue a) ∷ ValueLocal (IntValue c) ∷ []) ≡ Some (ValueLocal (IntValue a))
  to_target d a c = let e : min a (a + c) ≡ a = omega arith in rw e refl

  module _ (D : Devices) (V : ValueMaps) (f : ℕ → LocalValue) (x p : ℕ) (t s : Term) (r : RangeValue) (tt' : term_type t ≡ TypeLocal IntType) (ts : term_type s ≡ TypeLocal IntType) (some : 1 ≤ least_integer r)
      (lies : (G : ValueMap) → Solves N (suc p + size t + 1) s D (in_body x f V) G → MapLiesIn D r G) where
    W : ValueMaps
    W = in_body x f V

    targets : Solves N p (rising_body x t s) D (in_body x f V) (local_map f) → Solves N (suc p) t D (in_body x f V) (local_map f) × ((G : ValueMap) × Solves N (suc p + size t + 1) s D (in_body x f V) G)
    targets h = parts h.0 h.1 h.2 h.3
      where
        parts : FitsOn N D (TypeLocal IntType) (local_map f) → (Gs : List ValueMap) → SolveAll N (suc p) (More t (More (Plain (TypeLocal IntType) (Variable x)) (More s NoMore))) D (in_body x f V) Gs
            → ((d : ℕ) → In D d → builtin_value op.Rise M d (map (λ (G : ValueMap). G d) Gs) ≡ Some (ValueLocal (f d)))
            → Solves N (suc p) t D (in_body x f V) (local_map f) × ((G : ValueMap) × Solves N (suc p + size t + 1) s D (in_body x f V) G)
        parts fits (T ∷ X ∷ S ∷ []) all e = (solves_agree t (suc p) D (in_body x f V) T (local_map f) same all.0, (S, all.1.1.0))
          where
            same : (d : ℕ) → In D d → T d ≡ ValueLocal (f d)
            same d i =
                let a = integer_of (around N D d) (T d) (subst (λ y. FitsOver M (around N D d) y (T d)) tt' (fits_of N t (suc p) D (in_body x f V) T all.0 d i)) in
                let b = integer_of (around N D d) (ValueLocal (f d)) (fits d i) in
                let c = integer_of (around N D d) (S d) (subst (λ y. FitsOver M (around N D d) y (S d)) ts (fits_of N s (suc p + size t + 1) D (in_body x f V) S all.1.1.0 d i)) in
                let own : X d ≡ ValueLocal (IntValue b.number) = all.1.0.1 d i ∙ ap (restricted d (neighbour_numbers (near_among N D d))) (self_bound x d f V) ∙ b.is in
                let low = some_number r c.number some (subst (LiesIn r) c.is (lies S all.1.1.0 d i)) in
                let ai = a.is in let ci = c.is in let bi = b.is in
                let value : builtin_value op.Rise M d (ValueLocal (IntValue a.number) ∷ ValueLocal (IntValue b.number) ∷ ValueLocal (IntValue c.number) ∷ []) ≡ Some (ValueLocal (f d)) =
                subst (λ y. builtin_value op.Rise M d (ValueLocal (IntValue a.number) ∷ ValueLocal (IntValue b.number) ∷ y ∷ []) ≡ Some (ValueLocal (f d))) ci
                (subst (λ y. builtin_value op.Rise M d (ValueLocal (IntValue a.number) ∷ y ∷ S d ∷ []) ≡ Some (ValueLocal (f d))) own
                (subst (λ y. builtin_value op.Rise M d (y ∷ X d ∷ S d ∷ []) ≡ Some (ValueLocal (f d))) ai (e d i))) in
                let k = of_target d a.number b.number c.number (ValueLocal (f d)) low value bi in
                ai ∙ ap (λ n. ValueLocal (IntValue n)) k ∙ sym bi
        parts fits [] all e = absurd all
        parts fits (T ∷ []) all e = absurd all.1
        parts fits (T ∷ X ∷ []) all e = absurd all.1.1
        parts fits (T ∷ X ∷ S ∷ Y ∷ Gs) all e = absurd all.1.1.1

    bodies : Solves N (suc p) t D (in_body x f V) (local_map f) × ((G : ValueMap) × Solves N (suc p + size t + 1) s D (in_body x f V) G) → Solves N p (rising_body x t s) D (in_body x f V) (local_map f)
    bodies h = (fits, local_map f ∷ local_map f ∷ h.1.0 ∷ [], (h.0, ((fits, own), (h.1.1, tt))), value)
      where
        fits : FitsOn N D (TypeLocal IntType) (local_map f)
        fits = subst (λ y. FitsOn N D y (local_map f)) tt' (fits_of N t (suc p) D (in_body x f V) (local_map f) h.0)

        own : (d : ℕ) → In D d → LeafIs N D (Variable x) (in_body x f V) d (ValueLocal (f d))
        own d i = sym (ap (restricted d (neighbour_numbers (near_among N D d))) (self_bound x d f V))

        value : (d : ℕ) → In D d → builtin_value op.Rise M d (ValueLocal (f d) ∷ ValueLocal (f d) ∷ h.1.0 d ∷ []) ≡ Some (ValueLocal (f d))
        value d i =
            let a = integer_of (around N D d) (ValueLocal (f d)) (fits d i) in
            let c = integer_of (around N D d) (h.1.0 d) (subst (λ y. FitsOver M (around N D d) y (h.1.0 d)) ts (fits_of N s (suc p + size t + 1) D (in_body x f V) h.1.0 h.1.1 d i)) in
            let ai = a.is in let ci = c.is in
            subst (λ y. builtin_value op.Rise M d (y ∷ y ∷ h.1.0 d ∷ []) ≡ Some y) (sym ai) (subst (λ y. builtin_value op.Rise M d (ValueLocal (IntValue a.number) ∷ ValueLocal (IntValue a.number) ∷ y ∷ []) ≡ Some (ValueLocal (IntValue a.number))) (sym ci) (to_target d a.number c.number))

pub without_rise : SolvesWithoutRise
without_rise N D V f x p t s r tt' ts some lies = (targets N D V f x p t s r tt' ts some lies, bodies N D V f x p t s r tt' ts some lies)
