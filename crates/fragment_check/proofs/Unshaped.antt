-- Where the pattern of a body is a reason, the body has no pattern's shape.
use Rattle.std.proofs.Common.{◌≡◌, ℕ, suc, ◌≤◌, ◌+◌, refl, sym, ◌∙◌, ap, subst, arith, ◌⊎◌, inl, inr, Bool, true, false, not, ◌&&◌, ◌||◌, Option, Some, None, nat_eq}
use Rattle.std.specs.Prelude.{if◌then◌else◌}
use Rattle.std.proofs.lemmas.Bool.Decides.{nat_tests}
use Rattle.std.specs.declared.result.Result.{Result}
use Rattle.std.specs.declared.result.Result.TheVariants.{Ok, Err}
use Rattle.fc_values.specs.declared.builtins.Builtin.{Builtin}
use Rattle.fc_values.specs.declared.builtins.Builtin.TheVariants as op
use Rattle.fc_values.specs.Types.{LocalType, ValueType}
use Rattle.fc_nodes.specs.declared.verdicts.Reason.{Reason}
use Rattle.fc_nodes.specs.declared.verdicts.Reason.TheVariants as reason
use Rattle.fc_nodes.specs.Terms.{Evolution, ByRep, ByShare, Term, Terms, Plain, Apply, Nbr, Evolve, If, Let, NoMore, More, size}
use Rattle.interval_facts.specs.Ranges.{RangeValue}
use Rattle.fc_nodes.specs.Variables.{is_variable, occurs, occurs_in, is_own, is_heard}
use Rattle.growth_facts.specs.Beside.{Shallow, AllShallow}
use Rattle.growth_facts.specs.Leads.{least_integer, greatest_integer}
use Rattle.growth_facts.specs.Growth.{GrowthValue, Grows, growth_of}
use Rattle.fragment_check.specs.declared.kinds.Pattern.{Pattern}
use Rattle.fragment_check.specs.declared.kinds.Pattern.TheVariants as pattern
use Rattle.fragment_check.specs.declared.facts.Guarding.{Guarding}
use Rattle.fragment_check.specs.declared.facts.Guarding.TheVariants as guarding
use Rattle.fragment_check.specs.Facts.{is_mux}
use Rattle.fragment_check.specs.Patterns.{is_nested, is_nested_in, is_bare, is_bare_in, is_unguarded, bare_beside, guard, guard_by, guarding_of, guarding_in, guarding_or, together, three_of, comparison, rise_of, evolution_form, IsHood, IsRise, is_pair_range, raising, minimising, minimising_by, rising, rising_by, by_form, by_guarding, body_pattern}
use Rattle.fragment_check.specs.Shapes.{HasPattern, constant, acyclic, minimising as minimises, rising as rises, IsGuard, guards, Guarded, AllGuarded}
use Rattle.fragment_check.proofs.Steps.{mux_alone, no_mux}
use Rattle.fragment_check.proofs.Absent.{unheard, not_guarded}
use Rattle.fragment_check.proofs.Shaped.{or_left, or_right, no_or, with_heard, with_none, bare_none}
use Rattle.fragment_check.proofs.Bodies.{RiseIs, rise_is}

-- ---- truth values

differ : {A : Type 0} (b : Bool) → b ≡ true → b ≡ false → A
differ b e f = let g : true ≡ false = sym e ∙ f in absurd cc

or_true : (a b : Bool) → b ≡ true → (a || b) ≡ true
or_true true b e = refl
or_true false b e = e

heard_or_none : (a b : Bool) → (b ≡ true → a ≡ true) → (not a && b) ≡ false
heard_or_none true b f = refl
heard_or_none false true f = let e = f refl in absurd cc
heard_or_none false false f = refl

-- ---- the variable

own_occurs : (x : ℕ) (a : Term) → is_own x a ≡ true → occurs x a ≡ true
own_occurs x (Plain t l) o = o
own_occurs x (Apply t f xs) o = absurd cc
own_occurs x (Nbr t a) o = absurd cc
own_occurs x (Evolve t f a b) o = absurd cc
own_occurs x (If t c a b) o = absurd cc
own_occurs x (Let t a b) o = absurd cc

own_nested : (e : Evolution) (x : ℕ) (a : Term) → is_own x a ≡ true → is_nested e x a ≡ false
own_nested e x (Plain t l) o = refl
own_nested e x (Apply t f xs) o = absurd cc
own_nested e x (Nbr t a) o = absurd cc
own_nested e x (Evolve t f a b) o = absurd cc
own_nested e x (If t c a b) o = absurd cc
own_nested e x (Let t a b) o = absurd cc

heard_occurs : (e : Evolution) (x : ℕ) (t : Term) → is_heard e x t ≡ true → occurs x t ≡ true
heard_occurs e x t h = by_test (occurs x t) refl
  where
    by_test : (c : Bool) → occurs x t ≡ c → occurs x t ≡ true
    by_test true k = k
    by_test false k = differ (is_heard e x t) h (unheard e x t k)

-- ---- where each occurrence is in what is heard alone, none is nested or bare

module _ (e : Evolution) (x : ℕ) (s : LocalType) where
  mutual
    shallow_nested : (t : Term) → Shallow e x s t → is_nested e x t ≡ false
    shallow_nested (Plain t l) h = refl
    shallow_nested (Apply t o xs) h = shallow_nested_in xs h.1
    shallow_nested (Nbr t a) h = heard_or_none (is_heard e x (Nbr t a)) (occurs x a) (λ k. (h k).0)
    shallow_nested (Evolve t f a b) h = h
    shallow_nested (If t c a b) h = h
    shallow_nested (Let t a b) h = h

    shallow_nested_in : (ts : Terms) → AllShallow e x s ts → is_nested_in e x ts ≡ false
    shallow_nested_in NoMore h = refl
    shallow_nested_in (More t ts) h = no_or (is_nested e x t) (is_nested_in e x ts) (shallow_nested t h.0) (shallow_nested_in ts h.1)

  mutual
    shallow_bare : (t : Term) → Shallow e x s t → is_bare e x t ≡ false
    shallow_bare (Plain t l) h = heard_or_none (is_heard e x (Plain t l)) (is_variable x l) (λ k. (h k).0)
    shallow_bare (Apply t o xs) h = shallow_bare_in xs h.1
    shallow_bare (Nbr t a) h = by_test (occurs x a) refl
      where
        by_test : (c : Bool) → occurs x a ≡ c → is_bare e x (Nbr t a) ≡ false
        by_test true k = with_heard (is_heard e x (Nbr t a)) (is_bare e x a) (h k).0
        by_test false k = with_none (is_heard e x (Nbr t a)) (is_bare e x a) (bare_none e x a k)
    shallow_bare (Evolve t f a b) h = bare_none e x (Evolve t f a b) h
    shallow_bare (If t c a b) h = bare_none e x (If t c a b) h
    shallow_bare (Let t a b) h = bare_none e x (Let t a b) h

    shallow_bare_in : (ts : Terms) → AllShallow e x s ts → is_bare_in e x ts ≡ false
    shallow_bare_in NoMore h = refl
    shallow_bare_in (More t ts) h = no_or (is_bare e x t) (is_bare_in e x ts) (shallow_bare t h.0) (shallow_bare_in ts h.1)

beside_none : (e : Evolution) (x : ℕ) (u : Term) → is_bare e x u ≡ false → (o : Option (Term × Term × Term)) → rise_of u ≡ o → bare_beside e x o (is_bare e x u) ≡ false
beside_none ByShare x u n o r = n
beside_none ByRep x u n None r = n
beside_none ByRep x u n (Some (a, own, w)) r = by_own (is_own x own)
  where
    all_none : (i : RiseIs u a own w) → (is_bare ByRep x a || (is_bare ByRep x own || (is_bare ByRep x w || false))) ≡ false
    all_none i = subst (λ t. is_bare ByRep x t ≡ false) i.term n

    by_own : (c : Bool) → (if c then is_bare ByRep x a || is_bare ByRep x w else is_bare ByRep x u) ≡ false
    by_own true =
        let k = all_none (rise_is u a own w r) in
        let j = or_right (is_bare ByRep x a) (is_bare ByRep x own || (is_bare ByRep x w || false)) k in
        no_or (is_bare ByRep x a) (is_bare ByRep x w) (or_left (is_bare ByRep x a) (is_bare ByRep x own || (is_bare ByRep x w || false)) k)
        (or_left (is_bare ByRep x w) false (or_right (is_bare ByRep x own) (is_bare ByRep x w || false) j))
    by_own false = n

shallow_guarded : (e : Evolution) (x : ℕ) (s : LocalType) (u : Term) → Shallow e x s u → is_unguarded e x u ≡ false
shallow_guarded e x s u h = beside_none e x u (shallow_bare e x s u h) (rise_of u) refl

-- ---- where each occurrence is guarded by one binder, that is the potential

abbrev guarding_if : ℕ → Bool → Guarding
guarding_if q true = guarding.Potential q
guarding_if q false = guarding.Unused

same_place : (q : ℕ) → nat_eq q q ≡ true
same_place q = grind (arith, nat_tests)

together_if : (q : ℕ) (a b : Bool) → together (guarding_if q a) (guarding_if q b) ≡ guarding_if q (a || b)
together_if q false b = refl
together_if q true false = refl
together_if q true true = ap (λ c. if c then guarding.Potential q else guarding.Others) (same_place q)

module _ (e : Evolution) (x q : ℕ) where
  heard_alone : (t : Term) → is_heard e x t ≡ true → Guarded e x q t → ⊥
  heard_alone t h g = by_term e t h g (heard_occurs e x t h)
    where
      by_term : (e : Evolution) (t : Term) → is_heard e x t ≡ true → Guarded e x q t → occurs x t ≡ true → ⊥
      by_term e (Plain t l) h g o = differ (is_variable x l) o g
      by_term ByRep (Apply t f xs) h g o = absurd cc
      by_term ByShare (Apply t f xs) h g o = absurd cc
      by_term e (Nbr t a) h g o = differ (occurs x a) o g
      by_term e (Evolve t f a b) h g o = differ (occurs x a || occurs x b) o g
      by_term e (If t c a b) h g o = differ (occurs x c || (occurs x a || occurs x b)) o g
      by_term e (Let t a b) h g o = differ (occurs x a || occurs x b) o g

  no_guard_by : (xs : Terms) → AllGuarded e x q xs → guard_by e x (three_of xs) ≡ None
  no_guard_by NoMore g = refl
  no_guard_by (More a NoMore) g = refl
  no_guard_by (More a (More h NoMore)) g = refl
  no_guard_by (More a (More h (More c (More d ts)))) g = refl
  no_guard_by (More a (More h (More c NoMore))) g = by_test (is_heard e x h) refl
    where
      by_test : (b : Bool) → is_heard e x h ≡ b → (if b && (not (occurs x a) && not (occurs x c)) then comparison a else None) ≡ None
      by_test true k = absurd (heard_alone h k g.1.0)
      by_test false k = refl

  no_guard_there : (o : Builtin) (xs : Terms) → AllGuarded e x q xs → guard e x o xs ≡ None
  no_guard_there o xs g = by_test (is_mux o) refl
    where
      by_test : (b : Bool) → is_mux o ≡ b → guard e x o xs ≡ None
      by_test true k = ap (λ p. guard e x p xs) (mux_alone o k) ∙ no_guard_by xs g
      by_test false k = no_mux e x o xs k

  guard_known : (t : Term) → IsGuard e x q t → guarding_of e x t ≡ guarding_if q (occurs x t)
  guard_known t' (guards t u v h s hd n os) = let ho = heard_occurs e x h hd in let k = same_place q in rw (hd, ho, n, os, k) refl

  mutual
    guarding_known : (t : Term) → Guarded e x q t → guarding_of e x t ≡ guarding_if q (occurs x t)
    guarding_known (Plain t l) g = rw g refl
    guarding_known (Apply t o xs) g = by_guard g.1 (λ k. all_guarding_known xs k)
      where
        by_guard : (IsGuard e x q (Apply t o xs) ⊎ AllGuarded e x q xs) → (AllGuarded e x q xs → guarding_in e x xs ≡ guarding_if q (occurs_in x xs)) → guarding_of e x (Apply t o xs) ≡ guarding_if q (occurs_in x xs)
        by_guard (inl k) f = guard_known (Apply t o xs) k
        by_guard (inr k) f = ap (λ g. guarding_or g (guarding_in e x xs)) (no_guard_there o xs k) ∙ f k
    guarding_known (Nbr t a) g = not_guarded e x a g ∙ sym (ap (guarding_if q) g)
    guarding_known (Evolve t f a b) g = not_guarded e x (Evolve t f a b) g ∙ sym (ap (guarding_if q) g)
    guarding_known (If t c a b) g = not_guarded e x (If t c a b) g ∙ sym (ap (guarding_if q) g)
    guarding_known (Let t a b) g = not_guarded e x (Let t a b) g ∙ sym (ap (guarding_if q) g)

    all_guarding_known : (ts : Terms) → AllGuarded e x q ts → guarding_in e x ts ≡ guarding_if q (occurs_in x ts)
    all_guarding_known NoMore g = refl
    all_guarding_known (More t ts) g =
        ap (λ k. together k (guarding_in e x ts)) (guarding_known t g.0) ∙ ap (together (guarding_if q (occurs x t))) (all_guarding_known ts g.1) ∙ together_if q (occurs x t) (occurs_in x ts)

-- ---- results

abbrev IsFound : Result Pattern Reason → Type 0
IsFound (Ok a) = Unit {0}
IsFound (Err r) = ⊥

raising_known : (g : GrowthValue) (c : ℕ) → g ≡ Grows c → 1 ≤ c → raising g ≡ Ok c
raising_known g c e l =
    let k : nat_eq c 0 ≡ false = grind (arith, nat_tests, l) in
    ap raising e ∙ ap (λ b. if b then Err reason.GrowthZero else Ok c) k

minimising_found : (m : ℕ) (g : GrowthValue) (l : RangeValue) (c : ℕ) → g ≡ Grows c → 1 ≤ c → (is_pair_range l ≡ true → greatest_integer l ≡ m → ⊥) → IsFound (minimising m g l)
minimising_found m g l c e some lead = subst (λ r. IsFound (minimising_by m l r)) (sym (raising_known g c e some)) (by_lead (is_pair_range l) (nat_eq (greatest_integer l) m) refl refl)
  where
    by_lead : (a b : Bool) → is_pair_range l ≡ a → nat_eq (greatest_integer l) m ≡ b
        → IsFound (if is_pair_range l && nat_eq (greatest_integer l) m then Err reason.LeadAtCeiling else Ok (pattern.Minimising (greatest_integer l) c))
    by_lead true true i j = absurd (lead i (grind (arith, nat_tests, j)))
    by_lead true false i j = rw (i, j) tt
    by_lead false b i j = rw i tt

rising_found : (g : GrowthValue) (l s : RangeValue) (c : ℕ) → g ≡ Grows c → 1 ≤ c → 1 ≤ least_integer s → IsFound (rising g l s)
rising_found g l s c e some rise =
    let k : nat_eq (least_integer s) 0 ≡ false = grind (arith, nat_tests, rise) in
    subst (λ r. IsFound (rising_by l s r)) (sym (raising_known g c e some)) (rw k tt)

by_guarding_found : (g : Guarding) (r : Result Pattern Reason) → IsFound r → IsFound (by_guarding g r)
by_guarding_found guarding.Unused r k = k
by_guarding_found (guarding.Potential q) r k = tt
by_guarding_found guarding.Others r k = k
by_guarding_found guarding.Missing r k = k

-- ---- a body

module _ (m : ℕ) (R : ℕ → RangeValue) (e : Evolution) (x p : ℕ) (s : LocalType) where
  body_found : (u : Term) → occurs x u ≡ true → is_nested e x u ≡ false → is_unguarded e x u ≡ false → IsFound (by_guarding (guarding_of e x u) (by_form m R e x p (guarding_of e x u) (evolution_form e x u)))
      → IsFound (body_pattern m R e x p u)
  body_found u o n b k = rw (o, n, b) k

  acyclic_found : (u : Term) (q : ℕ) → occurs x u ≡ true → Shallow e x s u → Guarded e x q u → IsFound (body_pattern m R e x p u)
  acyclic_found u q o sh g =
      let k : guarding_of e x u ≡ guarding.Potential q = guarding_known e x q u g ∙ ap (guarding_if q) o in
      body_found u o (shallow_nested e x s u sh) (shallow_guarded e x s u sh) (subst (λ i. IsFound (by_guarding i (by_form m R e x p i (evolution_form e x u)))) (sym k) tt)

  hood_found : (t : ValueType) (h l : Term) (c : ℕ) → occurs x (Apply t op.MinHoodLoc (More h (More l NoMore))) ≡ true → occurs x l ≡ false → Shallow e x s (Apply t op.MinHoodLoc (More h (More l NoMore)))
      → growth_of m R e x (suc p) h ≡ Grows c → 1 ≤ c → (is_pair_range (R (suc p + size h)) ≡ true → greatest_integer (R (suc p + size h)) ≡ m → ⊥)
      → IsFound (body_pattern m R e x p (Apply t op.MinHoodLoc (More h (More l NoMore))))
  hood_found t h l c o f sh g some lead =
      let U = Apply t op.MinHoodLoc (More h (More l NoMore)) in
      let found = minimising_found m (growth_of m R e x (suc p) h) (R (suc p + size h)) c g some lead in
      let is : evolution_form e x U ≡ IsHood h l = rw f refl in
      body_found U o (shallow_nested e x s U sh) (shallow_guarded e x s U sh)
      (by_guarding_found (guarding_of e x U) (by_form m R e x p (guarding_of e x U) (evolution_form e x U)) (subst (λ i. IsFound (by_form m R e x p (guarding_of e x U) i)) (sym is) found))

module _ (m : ℕ) (R : ℕ → RangeValue) (x p : ℕ) (s : LocalType) where
  rise_found : (t u : ValueType) (h l own w : Term) (c : ℕ) → is_own x own ≡ true → occurs x l ≡ false → occurs x w ≡ false
      → Shallow ByRep x s (Apply u op.MinHoodLoc (More h (More l NoMore))) → Shallow ByRep x s w → growth_of m R ByRep x (suc (suc p)) h ≡ Grows c → 1 ≤ c
      → 1 ≤ least_integer (R (suc (suc (suc p + size h + size l))))
      → IsFound (body_pattern m R ByRep x p (Apply t op.Rise (More (Apply u op.MinHoodLoc (More h (More l NoMore))) (More own (More w NoMore)))))
  rise_found t u h l own w c o f fw sh sw g some rise =
      let A = Apply u op.MinHoodLoc (More h (More l NoMore)) in
      let U = Apply t op.Rise (More A (More own (More w NoMore))) in
      let used : occurs x U ≡ true = or_true (occurs x A) _ (let k = own_occurs x own o in rw k refl) in
      let nested : is_nested ByRep x U ≡ false =
      no_or (is_nested ByRep x A) _ (shallow_nested ByRep x s A sh) (no_or (is_nested ByRep x own) _ (own_nested ByRep x own o) (no_or (is_nested ByRep x w) false (shallow_nested ByRep x s w sw) refl)) in
      let beside : (is_bare ByRep x A || is_bare ByRep x w) ≡ false = no_or (is_bare ByRep x A) (is_bare ByRep x w) (shallow_bare ByRep x s A sh) (shallow_bare ByRep x s w sw) in
      let guarded : is_unguarded ByRep x U ≡ false = ap (λ c. if c then is_bare ByRep x A || is_bare ByRep x w else is_bare ByRep x U) o ∙ beside in
      let found = rising_found (growth_of m R ByRep x (suc (suc p)) h) (R (suc (suc p) + size h)) (R (suc (suc (suc p + size h + size l)))) c g some rise in
      let is : evolution_form ByRep x U ≡ IsRise h l w = rw (o, fw, f) refl in
      body_found m R ByRep x p s U used nested guarded
      (by_guarding_found (guarding_of ByRep x U) (by_form m R ByRep x p (guarding_of ByRep x U) (evolution_form ByRep x U)) (subst (λ i. IsFound (by_form m R ByRep x p (guarding_of ByRep x U) i)) (sym is) found))

shape_found : (m : ℕ) (R : ℕ → RangeValue) (e : Evolution) (x p : ℕ) (s : LocalType) (u : Term) (a : Pattern) → HasPattern m R e x p s u a → IsFound (body_pattern m R e x p u)
shape_found m R e x p s u a (constant u' o) = rw o tt
shape_found m R e x p s u a (acyclic u' q o sh g) = acyclic_found m R e x p s u' q o sh g
shape_found m R e x p s u a (minimises t h l c o f sh g some lead) = hood_found m R e x p s t h l c o f sh g some lead
shape_found m R e x p s u a (rises t v h l own w c er rule o f fw sh sw g some rise) = by_rep e er o f fw sh sw g
  where
    by_rep : (e : Evolution) → e ≡ ByRep → is_own x own ≡ true → occurs x l ≡ false → occurs x w ≡ false
        → Shallow e x s (Apply v op.MinHoodLoc (More h (More l NoMore))) → Shallow e x s w → growth_of m R e x (suc (suc p)) h ≡ Grows c
        → IsFound (body_pattern m R e x p (Apply t op.Rise (More (Apply v op.MinHoodLoc (More h (More l NoMore))) (More own (More w NoMore)))))
    by_rep ByRep k o f fw sh sw g = rise_found m R x p s t v h l own w c o f fw sh sw g some rise
    by_rep ByShare k o f fw sh sw g = absurd cc

pub no_shape : (m : ℕ) (R : ℕ → RangeValue) (e : Evolution) (x p : ℕ) (s : LocalType) (u : Term) (r : Reason) → body_pattern m R e x p u ≡ Err r → (a : Pattern) → HasPattern m R e x p s u a → ⊥
no_shape m R e x p s u r k a h = subst IsFound k (shape_found m R e x p s u a h)
