-- A body that has a pattern has its shape.
use Rattle.std.proofs.Common.{◌≡◌, ℕ, suc, ◌+◌, ◌∷◌, refl, sym, ◌∙◌, ap, subst, arith, ◌⊎◌, inl, inr, Bool, true, false, not, ◌&&◌, ◌||◌, Option, Some, None, nat_eq}
use Rattle.std.specs.Prelude.{if◌then◌else◌}
use Rattle.std.proofs.lemmas.Bool.Decides.{nat_tests}
use Rattle.fc_values.specs.declared.builtins.Builtin.{Builtin}
use Rattle.fc_values.specs.declared.builtins.Builtin.TheVariants as op
use Rattle.fc_values.specs.Types.{LocalType, IntType, BoolType, PairType, ValueType, TypeLocal, TypeField, Declarations}
use Rattle.fc_nodes.specs.Typing.{Scope, type_at, HasType, HaveTypes, evolving_type}
use Rattle.fc_nodes.specs.Terms.{Leaf, Literal, Variable, Sense, Uid, NbrLink, Evolution, ByRep, ByShare, Term, Terms, Plain, Apply, Nbr, Evolve, If, Let, NoMore, More, term_type, size}
use Rattle.fc_nodes.specs.Variables.{is_variable, occurs, occurs_in, is_own, is_heard}
use Rattle.growth_facts.specs.Beside.{Shallow, AllShallow}
use Rattle.fragment_check.specs.declared.facts.Guarding.{Guarding}
use Rattle.fragment_check.specs.declared.facts.Guarding.TheVariants as guarding
use Rattle.fragment_check.specs.Patterns.{is_nested, is_nested_in, is_bare, is_bare_in, two_of, three_of, int_variable, same_binder, compared, compared_two, comparison, guard_by, guard, together, guarding_or, guarding_of, guarding_in}
use Rattle.fragment_check.specs.Shapes.{int_of, IsGuard, guards, Guarded, AllGuarded}

-- ---- truth values

pub or_left : (a b : Bool) → (a || b) ≡ false → a ≡ false
or_left true b e = absurd cc
or_left false b e = refl

pub or_right : (a b : Bool) → (a || b) ≡ false → b ≡ false
or_right true b e = absurd cc
or_right false b e = e

pub no_or : (a b : Bool) → a ≡ false → b ≡ false → (a || b) ≡ false
no_or a b e f = rw (e, f) refl

pub and_left : (a b : Bool) → (a && b) ≡ true → a ≡ true
and_left true b e = refl
and_left false b e = absurd cc

pub and_right : (a b : Bool) → (a && b) ≡ true → b ≡ true
and_right true b e = e
and_right false b e = absurd cc

pub not_true : (a : Bool) → not a ≡ true → a ≡ false
not_true true e = absurd cc
not_true false e = refl

-- not heard, and used: one of them fails
pub heard_where : (a b : Bool) → (not a && b) ≡ false → b ≡ true → a ≡ true
heard_where true b e f = refl
heard_where false b e f = absurd (let g : b ≡ false = e in let h : true ≡ false = sym f ∙ g in cc)

pub with_heard : (a b : Bool) → a ≡ true → (not a && b) ≡ false
with_heard a b e = rw e refl

pub with_none : (a b : Bool) → b ≡ false → (not a && b) ≡ false
with_none true b e = refl
with_none false b e = e

same_number : (m n : ℕ) → nat_eq m n ≡ true → nat_eq n m ≡ true
same_number m n e = grind (arith, nat_tests, e)

same_some : {A : Type 0} (a b : A) → Some a ≡ Some b → a ≡ b
same_some a b e = cc

-- ---- what is heard of the variable, by its type

module _ (D : Declarations) (scope : Scope) (e : Evolution) (x : ℕ) (s : LocalType) where
  abbrev inside : Scope
  inside = (x, evolving_type e s) ∷ scope

  own_type : (p n : ℕ) (t : ValueType) → HasType D inside p (Plain t (Variable n)) → nat_eq n x ≡ true → evolving_type e s ≡ t
  own_type p n t h k = let z = same_number n x k in same_some (evolving_type e s) t (sym (ap (λ b. if b then Some (evolving_type e s) else type_at n scope) z) ∙ h)

  leaf_type : (p : ℕ) (t : ValueType) (l : Leaf) → HasType D inside p (Plain t l) → is_variable x l ≡ true → evolving_type e s ≡ t
  leaf_type p t (Variable n) h k = own_type p n t h k
  leaf_type p t (Literal v) h k = absurd cc
  leaf_type p t (Sense i) h k = absurd cc
  leaf_type p t Uid h k = absurd cc
  leaf_type p t NbrLink h k = absurd cc

-- what is heard of a `share` is its variable, and of a `rep` the `nbr` of it
share_field : (D : Declarations) (scope : Scope) (e : Evolution) (x p : ℕ) (s : LocalType) (t : ValueType) (l : Leaf) → HasType D ((x, evolving_type e s) ∷ scope) p (Plain t l)
    → is_variable x l ≡ true → is_heard e x (Plain t l) ≡ true → t ≡ TypeField s
share_field D scope ByRep x p s t l h k i = absurd cc
share_field D scope ByShare x p s t l h k i = sym (leaf_type D scope ByShare x s p t l h k)

own_local : (D : Declarations) (scope : Scope) (x p : ℕ) (s : LocalType) (a : Term) → HasType D ((x, TypeLocal s) ∷ scope) p a → is_own x a ≡ true → term_type a ≡ TypeLocal s
own_local D scope x p s (Plain t l) h k = sym (leaf_type D scope ByRep x s p t l h k)
own_local D scope x p s (Apply t o xs) h k = absurd cc
own_local D scope x p s (Nbr t a) h k = absurd cc
own_local D scope x p s (Evolve t f a b) h k = absurd cc
own_local D scope x p s (If t c a b) h k = absurd cc
own_local D scope x p s (Let t a b) h k = absurd cc

same_local : (s u : LocalType) → TypeLocal s ≡ TypeLocal u → s ≡ u
same_local s u e = cc

rep_field : (D : Declarations) (scope : Scope) (e : Evolution) (x p : ℕ) (s : LocalType) (t : ValueType) (a : Term) → HasType D ((x, evolving_type e s) ∷ scope) p (Nbr t a)
    → is_heard e x (Nbr t a) ≡ true → t ≡ TypeField s
rep_field D scope ByShare x p s t a h i = absurd cc
rep_field D scope ByRep x p s t a h i = h.1 ∙ ap TypeField (same_local h.0 s (sym h.2 ∙ own_local D scope x (suc p) s a h.3 i))

-- ---- occurrences in what is heard alone

mutual
  pub shallow : (D : Declarations) (scope : Scope) (e : Evolution) (x p : ℕ) (s : LocalType) (t : Term) → HasType D ((x, evolving_type e s) ∷ scope) p t
      → is_nested e x t ≡ false → is_bare e x t ≡ false → Shallow e x s t
  shallow D scope e x p s (Plain t l) h n b = λ k. (heard_where (is_heard e x (Plain t l)) (is_variable x l) b k, share_field D scope e x p s t l h k (heard_where (is_heard e x (Plain t l)) (is_variable x l) b k))
  shallow D scope e x p s (Apply t o xs) h n b = (h.0, all_shallow D scope e x (suc p) s xs h.1 n b)
  shallow D scope e x p s (Nbr t a) h n b = λ k. (heard_where (is_heard e x (Nbr t a)) (occurs x a) n k, rep_field D scope e x p s t a h (heard_where (is_heard e x (Nbr t a)) (occurs x a) n k))
  shallow D scope e x p s (Evolve t f a u) h n b = n
  shallow D scope e x p s (If t c u v) h n b = n
  shallow D scope e x p s (Let t a u) h n b = n

  pub all_shallow : (D : Declarations) (scope : Scope) (e : Evolution) (x p : ℕ) (s : LocalType) (ts : Terms) → HaveTypes D ((x, evolving_type e s) ∷ scope) p ts
      → is_nested_in e x ts ≡ false → is_bare_in e x ts ≡ false → AllShallow e x s ts
  all_shallow D scope e x p s NoMore h n b = tt
  all_shallow D scope e x p s (More t ts) h n b = (
    shallow D scope e x p s t h.0 (or_left (is_nested e x t) (is_nested_in e x ts) n) (or_left (is_bare e x t) (is_bare_in e x ts) b),
    all_shallow D scope e x (p + size t) s ts h.1 (or_right (is_nested e x t) (is_nested_in e x ts) n) (or_right (is_bare e x t) (is_bare_in e x ts) b),
  )

-- ---- without the variable nothing is bare

mutual
  pub bare_none : (e : Evolution) (x : ℕ) (t : Term) → occurs x t ≡ false → is_bare e x t ≡ false
  bare_none e x (Plain t l) o = with_none (is_heard e x (Plain t l)) (is_variable x l) o
  bare_none e x (Apply t f xs) o = bares_none e x xs o
  bare_none e x (Nbr t a) o = with_none (is_heard e x (Nbr t a)) (is_bare e x a) (bare_none e x a o)
  bare_none e x (Evolve t f a b) o = no_or (is_bare e x a) (is_bare e x b) (bare_none e x a (or_left (occurs x a) (occurs x b) o)) (bare_none e x b (or_right (occurs x a) (occurs x b) o))
  bare_none e x (If t c a b) o =
      let r = or_right (occurs x c) (occurs x a || occurs x b) o in
      no_or (is_bare e x c) (is_bare e x a || is_bare e x b) (bare_none e x c (or_left (occurs x c) (occurs x a || occurs x b) o))
      (no_or (is_bare e x a) (is_bare e x b) (bare_none e x a (or_left (occurs x a) (occurs x b) r)) (bare_none e x b (or_right (occurs x a) (occurs x b) r)))
  bare_none e x (Let t a b) o = no_or (is_bare e x a) (is_bare e x b) (bare_none e x a (or_left (occurs x a) (occurs x b) o)) (bare_none e x b (or_right (occurs x a) (occurs x b) o))

  bares_none : (e : Evolution) (x : ℕ) (ts : Terms) → occurs_in x ts ≡ false → is_bare_in e x ts ≡ false
  bares_none e x NoMore o = refl
  bares_none e x (More t ts) o = no_or (is_bare e x t) (is_bare_in e x ts) (bare_none e x t (or_left (occurs x t) (occurs_in x ts) o)) (bares_none e x ts (or_right (occurs x t) (occurs_in x ts) o))

heard_bare : (e : Evolution) (x : ℕ) (t : Term) → is_heard e x t ≡ true → is_bare e x t ≡ false
heard_bare e x (Plain t l) h = with_heard (is_heard e x (Plain t l)) (is_variable x l) h
heard_bare e x (Nbr t a) h = with_heard (is_heard e x (Nbr t a)) (is_bare e x a) h
heard_bare ByRep x (Apply t o xs) h = absurd cc
heard_bare ByShare x (Apply t o xs) h = absurd cc
heard_bare ByRep x (Evolve t f a b) h = absurd cc
heard_bare ByShare x (Evolve t f a b) h = absurd cc
heard_bare ByRep x (If t c a b) h = absurd cc
heard_bare ByShare x (If t c a b) h = absurd cc
heard_bare ByRep x (Let t a b) h = absurd cc
heard_bare ByShare x (Let t a b) h = absurd cc

-- ---- guarded by one binder, or no occurrence

abbrev pub Within : ℕ → Guarding → Type 0
Within q guarding.Unused = Unit {0}
Within q (guarding.Potential p) = p ≡ q
Within q guarding.Others = ⊥
Within q guarding.Missing = ⊥

together_left : (q : ℕ) (a b : Guarding) → Within q (together a b) → Within q a
together_left q guarding.Unused b w = tt
together_left q (guarding.Potential p) guarding.Unused w = w
together_left q (guarding.Potential p) (guarding.Potential r) w = by_test (nat_eq p r) w
  where
    by_test : (c : Bool) → Within q (if c then guarding.Potential p else guarding.Others) → p ≡ q
    by_test true w = w
    by_test false w = absurd w
together_left q (guarding.Potential p) guarding.Others w = absurd w
together_left q (guarding.Potential p) guarding.Missing w = absurd w
together_left q guarding.Others guarding.Unused w = absurd w
together_left q guarding.Others (guarding.Potential r) w = absurd w
together_left q guarding.Others guarding.Others w = absurd w
together_left q guarding.Others guarding.Missing w = absurd w
together_left q guarding.Missing b w = absurd w

together_right : (q : ℕ) (a b : Guarding) → Within q (together a b) → Within q b
together_right q guarding.Unused b w = w
together_right q (guarding.Potential p) guarding.Unused w = tt
together_right q (guarding.Potential p) (guarding.Potential r) w = by_test (nat_eq p r) refl w
  where
    by_test : (c : Bool) → nat_eq p r ≡ c → Within q (if c then guarding.Potential p else guarding.Others) → r ≡ q
    by_test true k w = let z : p ≡ r = grind (arith, nat_tests, k) in sym z ∙ w
    by_test false k w = absurd w
together_right q (guarding.Potential p) guarding.Others w = absurd w
together_right q (guarding.Potential p) guarding.Missing w = absurd w
together_right q guarding.Others guarding.Unused w = absurd w
together_right q guarding.Others (guarding.Potential r) w = absurd w
together_right q guarding.Others guarding.Others w = absurd w
together_right q guarding.Others guarding.Missing w = absurd w
together_right q guarding.Missing b w = absurd w

-- what a guard is
pub record GuardParts (e : Evolution) (x : ℕ) (xs : Terms) (g : Guarding) : Type 0 where
  pub condition : Term
  pub heard : Term
  pub other : Term
  pub terms : xs ≡ More condition (More heard (More other NoMore))
  pub is_heard : is_heard e x heard ≡ true
  pub first : occurs x condition ≡ false
  pub last : occurs x other ≡ false
  pub compares : comparison condition ≡ Some g

parts_by : (e : Evolution) (x : ℕ) (g : Guarding) (c h s : Term) → guard_by e x (Some (c, h, s)) ≡ Some g → GuardParts e x (More c (More h (More s NoMore))) g
parts_by e x g c h s k = by_test (is_heard e x h && (not (occurs x c) && not (occurs x s))) refl k
  where
    by_test : (b : Bool) → (is_heard e x h && (not (occurs x c) && not (occurs x s))) ≡ b → (if b then comparison c else None) ≡ Some g → GuardParts e x (More c (More h (More s NoMore))) g
    by_test false z k = absurd cc
    by_test true z k =
        let r = and_right (is_heard e x h) (not (occurs x c) && not (occurs x s)) z in
        record {
          condition = c;
          heard = h;
          other = s;
          terms = refl;
          is_heard = and_left (is_heard e x h) (not (occurs x c) && not (occurs x s)) z;
          first = not_true (occurs x c) (and_left (not (occurs x c)) (not (occurs x s)) r);
          last = not_true (occurs x s) (and_right (not (occurs x c)) (not (occurs x s)) r);
          compares = k;
        }

mux_parts : (e : Evolution) (x : ℕ) (g : Guarding) (xs : Terms) → guard_by e x (three_of xs) ≡ Some g → GuardParts e x xs g
mux_parts e x g NoMore k = absurd cc
mux_parts e x g (More a NoMore) k = absurd cc
mux_parts e x g (More a (More b NoMore)) k = absurd cc
mux_parts e x g (More a (More b (More c NoMore))) k = parts_by e x g a b c k
mux_parts e x g (More a (More b (More c (More d xs)))) k = absurd cc

guard_parts : (e : Evolution) (x : ℕ) (g : Guarding) (o : Builtin) (xs : Terms) → guard e x o xs ≡ Some g → (o ≡ op.Mux) × GuardParts e x xs g
guard_parts e x g op.Mux xs k = (refl, mux_parts e x g xs k)
guard_parts e x g op.Add xs k = absurd cc
guard_parts e x g op.Sub xs k = absurd cc
guard_parts e x g op.Mul xs k = absurd cc
guard_parts e x g op.Rise xs k = absurd cc
guard_parts e x g op.Min xs k = absurd cc
guard_parts e x g op.Max xs k = absurd cc
guard_parts e x g op.Less xs k = absurd cc
guard_parts e x g op.Equal xs k = absurd cc
guard_parts e x g op.And xs k = absurd cc
guard_parts e x g op.Or xs k = absurd cc
guard_parts e x g op.Not xs k = absurd cc
guard_parts e x g op.Pair xs k = absurd cc
guard_parts e x g op.Fst xs k = absurd cc
guard_parts e x g op.Snd xs k = absurd cc
guard_parts e x g op.MinHoodLoc xs k = absurd cc
guard_parts e x g op.MaxHoodLoc xs k = absurd cc
guard_parts e x g op.SumHood xs k = absurd cc
guard_parts e x g op.AnyHood xs k = absurd cc
guard_parts e x g op.AllHood xs k = absurd cc

int_is : (t : Term) (q : ℕ) → int_variable t ≡ Some q → t ≡ int_of q
int_is (Plain (TypeLocal IntType) (Variable n)) q e = let k : n ≡ q = cc in ap int_of k
int_is (Plain (TypeLocal IntType) (Literal v)) q e = absurd cc
int_is (Plain (TypeLocal IntType) (Sense i)) q e = absurd cc
int_is (Plain (TypeLocal IntType) Uid) q e = absurd cc
int_is (Plain (TypeLocal IntType) NbrLink) q e = absurd cc
int_is (Plain (TypeLocal BoolType) l) q e = absurd cc
int_is (Plain (TypeLocal (PairType r s)) l) q e = absurd cc
int_is (Plain (TypeField t) l) q e = absurd cc
int_is (Apply t o xs) q e = absurd cc
int_is (Nbr t a) q e = absurd cc
int_is (Evolve t f a b) q e = absurd cc
int_is (If t c a b) q e = absurd cc
int_is (Let t a b) q e = absurd cc

-- both sides of a comparison that guards by q
record Sides (q : ℕ) (c : Term) : Type 0 where
  u : ValueType
  v : ValueType
  term : c ≡ Apply u op.Less (More (Nbr v (int_of q)) (More (int_of q) NoMore))

same_sides : (q : ℕ) (o p : Option ℕ) → Within q (same_binder o p) → (o ≡ Some q) × (p ≡ Some q)
same_sides q None p w = absurd w
same_sides q (Some m) None w = absurd w
same_sides q (Some m) (Some n) w = by_test (nat_eq m n) refl w
  where
    by_test : (c : Bool) → nat_eq m n ≡ c → Within q (if c then guarding.Potential m else guarding.Others) → (Some m ≡ Some q) × (Some n ≡ Some q)
    by_test true k w = let z : m ≡ n = grind (arith, nat_tests, k) in (ap Some w, ap Some (sym z ∙ w))
    by_test false k w = absurd w

sides_of : (q : ℕ) (g : Guarding) (u : ValueType) (a b : Term) → compared a b ≡ Some g → Within q g → Sides q (Apply u op.Less (More a (More b NoMore)))
sides_of q g u (Plain t l) b k w = absurd cc
sides_of q g u (Apply t o xs) b k w = absurd cc
sides_of q g u (Nbr v i) b k w =
    let z : same_binder (int_variable i) (int_variable b) ≡ g = cc in
    let p = same_sides q (int_variable i) (int_variable b) (subst (Within q) (sym z) w) in
    let f = int_is i q p.0 in
    let h = int_is b q p.1 in
    record { u = u; v = v; term = rw (f, h) refl }
sides_of q g u (Evolve t f a c) b k w = absurd cc
sides_of q g u (If t c a d) b k w = absurd cc
sides_of q g u (Let t a c) b k w = absurd cc

two_sides : (q : ℕ) (g : Guarding) (u : ValueType) (xs : Terms) → compared_two (two_of xs) ≡ Some g → Within q g → Sides q (Apply u op.Less xs)
two_sides q g u NoMore k w = absurd cc
two_sides q g u (More a NoMore) k w = absurd cc
two_sides q g u (More a (More b NoMore)) k w = sides_of q g u a b k w
two_sides q g u (More a (More b (More c xs))) k w = absurd cc

sides : (q : ℕ) (g : Guarding) (c : Term) → comparison c ≡ Some g → Within q g → Sides q c
sides q g (Plain t l) k w = absurd cc
sides q g (Apply u op.Less xs) k w = two_sides q g u xs k w
sides q g (Apply u op.Mux xs) k w = absurd cc
sides q g (Apply u op.Add xs) k w = absurd cc
sides q g (Apply u op.Sub xs) k w = absurd cc
sides q g (Apply u op.Mul xs) k w = absurd cc
sides q g (Apply u op.Rise xs) k w = absurd cc
sides q g (Apply u op.Min xs) k w = absurd cc
sides q g (Apply u op.Max xs) k w = absurd cc
sides q g (Apply u op.Equal xs) k w = absurd cc
sides q g (Apply u op.And xs) k w = absurd cc
sides q g (Apply u op.Or xs) k w = absurd cc
sides q g (Apply u op.Not xs) k w = absurd cc
sides q g (Apply u op.Pair xs) k w = absurd cc
sides q g (Apply u op.Fst xs) k w = absurd cc
sides q g (Apply u op.Snd xs) k w = absurd cc
sides q g (Apply u op.MinHoodLoc xs) k w = absurd cc
sides q g (Apply u op.MaxHoodLoc xs) k w = absurd cc
sides q g (Apply u op.SumHood xs) k w = absurd cc
sides q g (Apply u op.AnyHood xs) k w = absurd cc
sides q g (Apply u op.AllHood xs) k w = absurd cc
sides q g (Nbr t a) k w = absurd cc
sides q g (Evolve t f a b) k w = absurd cc
sides q g (If t c a b) k w = absurd cc
sides q g (Let t a b) k w = absurd cc

guard_is : (e : Evolution) (x q : ℕ) (t : ValueType) (o : Builtin) (xs : Terms) (g : Guarding) → guard e x o xs ≡ Some g → Within q g → IsGuard e x q (Apply t o xs)
guard_is e x q t o xs g k w =
    let m = guard_parts e x g o xs k in
    let r = m.1 in
    let z = sides q g r.condition r.compares w in
    let f = subst (λ c. occurs x c ≡ false) z.term r.first in
    let n : is_variable x (Variable q) ≡ false = or_left (is_variable x (Variable q)) _ f in
    let made = guards t z.u z.v r.heard r.other r.is_heard n r.last in
    subst (λ p. IsGuard e x q (Apply t p xs)) (sym m.0)
    (subst (λ l. IsGuard e x q (Apply t op.Mux l)) (sym r.terms) (subst (λ c. IsGuard e x q (Apply t op.Mux (More c (More r.heard (More r.other NoMore))))) (sym z.term) made))

missing_own : (x q : ℕ) (a : Term) (e : Evolution) → is_own x a ≡ true → Within q (guarding_of e x a) → ⊥
missing_own x q (Plain t l) e k w = subst (λ b. Within q (if b then guarding.Missing else guarding.Unused)) k w
missing_own x q (Apply t o xs) e k w = absurd cc
missing_own x q (Nbr t a) e k w = absurd cc
missing_own x q (Evolve t f a b) e k w = absurd cc
missing_own x q (If t c a b) e k w = absurd cc
missing_own x q (Let t a b) e k w = absurd cc

plain_within : (q : ℕ) (b : Bool) → Within q (if b then guarding.Missing else guarding.Unused) → b ≡ false
plain_within q true w = absurd w
plain_within q false w = refl

-- an `nbr` in which each occurrence is guarded is no `nbr` of the variable
nbr_within : (e : Evolution) (x q : ℕ) (t : ValueType) (a : Term) → is_nested e x (Nbr t a) ≡ false → Within q (guarding_of e x a) → occurs x a ≡ false
nbr_within ByShare x q t a n w = n
nbr_within ByRep x q t a n w = by_test (is_own x a) refl n
  where
    by_test : (b : Bool) → is_own x a ≡ b → (not b && occurs x a) ≡ false → occurs x a ≡ false
    by_test true k n = absurd (missing_own x q a ByRep k w)
    by_test false k n = n

mutual
  pub guarded : (D : Declarations) (scope : Scope) (e : Evolution) (x p q : ℕ) (t : Term) → HasType D scope p t → is_nested e x t ≡ false → Within q (guarding_of e x t) → Guarded e x q t
  guarded D scope e x p q (Plain t l) h n w = plain_within q (is_variable x l) w
  guarded D scope e x p q (Apply t o xs) h n w = (h.0, by_guard (guard e x o xs) refl w (λ k. all_guarded D scope e x (suc p) q xs h.1 n k))
    where
      by_guard : (g : Option Guarding) → guard e x o xs ≡ g → Within q (guarding_or g (guarding_in e x xs)) → (Within q (guarding_in e x xs) → AllGuarded e x q xs) → IsGuard e x q (Apply t o xs) ⊎ AllGuarded e x q xs
      by_guard (Some g) k w f = inl (guard_is e x q t o xs g k w)
      by_guard None k w f = inr (f w)
  guarded D scope e x p q (Nbr t a) h n w = nbr_within e x q t a n w
  guarded D scope e x p q (Evolve t f a b) h n w = n
  guarded D scope e x p q (If t c a b) h n w = n
  guarded D scope e x p q (Let t a b) h n w = n

  all_guarded : (D : Declarations) (scope : Scope) (e : Evolution) (x p q : ℕ) (ts : Terms) → HaveTypes D scope p ts → is_nested_in e x ts ≡ false → Within q (guarding_in e x ts) → AllGuarded e x q ts
  all_guarded D scope e x p q NoMore h n w = tt
  all_guarded D scope e x p q (More t ts) h n w = (
    guarded D scope e x p q t h.0 (or_left (is_nested e x t) (is_nested_in e x ts) n) (together_left q (guarding_of e x t) (guarding_in e x ts) w),
    all_guarded D scope e x (p + size t) q ts h.1 (or_right (is_nested e x t) (is_nested_in e x ts) n) (together_right q (guarding_of e x t) (guarding_in e x ts) w),
  )

-- where each occurrence is guarded, none is bare
mutual
  pub guarded_bare : (e : Evolution) (x q : ℕ) (t : Term) → Within q (guarding_of e x t) → is_bare e x t ≡ false
  guarded_bare e x q (Plain t l) w = with_none (is_heard e x (Plain t l)) (is_variable x l) (plain_within q (is_variable x l) w)
  guarded_bare e x q (Apply t o xs) w = by_guard (guard e x o xs) refl w (λ k. guarded_bares e x q xs k)
    where
      by_guard : (g : Option Guarding) → guard e x o xs ≡ g → Within q (guarding_or g (guarding_in e x xs)) → (Within q (guarding_in e x xs) → is_bare_in e x xs ≡ false) → is_bare_in e x xs ≡ false
      by_guard None k w f = f w
      by_guard (Some g) k w f =
          let r = (guard_parts e x g o xs k).1 in
          subst (λ l. is_bare_in e x l ≡ false) (sym r.terms)
          (no_or (is_bare e x r.condition) _ (bare_none e x r.condition r.first) (no_or (is_bare e x r.heard) _ (heard_bare e x r.heard r.is_heard) (no_or (is_bare e x r.other) false (bare_none e x r.other r.last) refl)))
  guarded_bare e x q (Nbr t a) w = with_none (is_heard e x (Nbr t a)) (is_bare e x a) (guarded_bare e x q a w)
  guarded_bare e x q (Evolve t f a b) w = no_or (is_bare e x a) (is_bare e x b) (guarded_bare e x q a (together_left q (guarding_of e x a) (guarding_of e x b) w)) (guarded_bare e x q b (together_right q (guarding_of e x a) (guarding_of e x b) w))
  guarded_bare e x q (If t c a b) w =
      let r = together_right q (guarding_of e x c) (together (guarding_of e x a) (guarding_of e x b)) w in
      no_or (is_bare e x c) (is_bare e x a || is_bare e x b) (guarded_bare e x q c (together_left q (guarding_of e x c) (together (guarding_of e x a) (guarding_of e x b)) w))
      (no_or (is_bare e x a) (is_bare e x b) (guarded_bare e x q a (together_left q (guarding_of e x a) (guarding_of e x b) r)) (guarded_bare e x q b (together_right q (guarding_of e x a) (guarding_of e x b) r)))
  guarded_bare e x q (Let t a b) w = no_or (is_bare e x a) (is_bare e x b) (guarded_bare e x q a (together_left q (guarding_of e x a) (guarding_of e x b) w)) (guarded_bare e x q b (together_right q (guarding_of e x a) (guarding_of e x b) w))

  guarded_bares : (e : Evolution) (x q : ℕ) (ts : Terms) → Within q (guarding_in e x ts) → is_bare_in e x ts ≡ false
  guarded_bares e x q NoMore w = refl
  guarded_bares e x q (More t ts) w = no_or (is_bare e x t) (is_bare_in e x ts) (guarded_bare e x q t (together_left q (guarding_of e x t) (guarding_in e x ts) w)) (guarded_bares e x q ts (together_right q (guarding_of e x t) (guarding_in e x ts) w))
