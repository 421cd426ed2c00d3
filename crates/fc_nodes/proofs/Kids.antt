-- Crates above cite this module: the kids of a node, where its term stands.
use Rattle.std.proofs.Common.{◌≡◌, ℕ, zero, suc, ◌<◌, ◌+◌, List, [], ◌∷◌, length, refl, sym, ◌∙◌, ap, subst, arith, get_or, Bool, true, false, Option, Some, None}
use Rattle.fc_values.specs.declared.builtins.Builtin.{Builtin}
use Rattle.fc_values.specs.Types.{LocalType, BoolType, ValueType}
use Rattle.fc_nodes.specs.declared.nodes.Node.{Node}
use Rattle.fc_nodes.specs.Terms.{Evolution, Uid, Term, Terms, Plain, Apply, Nbr, Evolve, If, Let, NoMore, More, size, sizes, Sort, OfLeaf, OfApply, OfNbr, OfEvolve, OfIf, OfLet, with_two_children, term_by, terms_by, term_at, HasNode, Laid, AllLaid, places, kept_type, is_branching}
use Rattle.fc_nodes.proofs.Places.{AllAbove, term_is, laid_within}
use Rattle.fc_values.specs.BuiltinTypes.{inner}
use Rattle.fc_nodes.specs.Places.{StandsAt, StandAfter}

module _ (ns : List Node) (ab : AllAbove ns) where
  mutual
    -- a term that stands at a place is the term there
    pub laid_term : (u : Term) (p : ℕ) → Laid ns p u → term_at ns p ≡ u
    laid_term (Plain t v) p l = term_is ns ab p _ _ _ l
    laid_term (Apply t o xs) p l = term_is ns ab p _ _ _ l.0 ∙ ap (Apply t o) (laid_terms xs (suc p) l.1)
    laid_term (Nbr t a) p l = term_is ns ab p _ _ _ l.0 ∙ ap (Nbr t) (laid_term a (suc p) l.1)
    laid_term (Evolve t v a b) p l = let e = laid_term a (suc p) l.1 in let f = laid_term b (suc p + size a) l.2 in term_is ns ab p _ _ _ l.0 ∙ cc
    laid_term (If t c a b) p l = let e = laid_term c (suc p) l.1 in let f = laid_term a (suc p + size c) l.2 in let g = laid_term b (suc p + size c + size a) l.3 in term_is ns ab p _ _ _ l.0 ∙ cc
    laid_term (Let t a b) p l = let e = laid_term a (suc p) l.1 in let f = laid_term b (suc p + size a) l.2 in term_is ns ab p _ _ _ l.0 ∙ cc

    pub laid_terms : (xs : Terms) (p : ℕ) → AllLaid ns p xs → terms_by (term_at ns) (places p xs) ≡ xs
    laid_terms NoMore p l = refl
    laid_terms (More x xs) p l = let e = laid_term x p l.0 in let f = laid_terms xs (p + size x) l.1 in cc

-- a term has a node
pub size_some : (t : Term) → 0 < size t
size_some (Plain t l) = omega arith
size_some (Apply t o xs) = omega arith
size_some (Nbr t a) = omega arith
size_some (Evolve t e a b) = omega arith
size_some (If t c a b) = omega arith
size_some (Let t a b) = omega arith

-- a node with one kid
pub record OneKid (ns : List Node) (p : ℕ) (f : Term → Term) (ks : List ℕ) : Type 0 where
  pub long : length ks ≡ 1
  pub term : term_at ns p ≡ f (term_at ns (get_or ks 0 0))
  pub first_is : get_or ks 0 0 ≡ suc p
  pub first : Laid ns (get_or ks 0 0) (term_at ns (get_or ks 0 0))

-- a node with two kids
pub record TwoKids (ns : List Node) (p : ℕ) (f : Term → Term → Term) (ks : List ℕ) : Type 0 where
  pub long : length ks ≡ 2
  pub term : term_at ns p ≡ f (term_at ns (get_or ks 0 0)) (term_at ns (get_or ks 1 0))
  pub first_is : get_or ks 0 0 ≡ suc p
  pub second_is : get_or ks 1 0 ≡ suc p + size (term_at ns (get_or ks 0 0))
  pub first : Laid ns (get_or ks 0 0) (term_at ns (get_or ks 0 0))
  pub second : Laid ns (get_or ks 1 0) (term_at ns (get_or ks 1 0))

-- a node with three kids
pub record ThreeKids (ns : List Node) (p : ℕ) (f : Term → Term → Term → Term) (ks : List ℕ) : Type 0 where
  pub long : length ks ≡ 3
  pub term : term_at ns p ≡ f (term_at ns (get_or ks 0 0)) (term_at ns (get_or ks 1 0)) (term_at ns (get_or ks 2 0))
  pub first_is : get_or ks 0 0 ≡ suc p
  pub second_is : get_or ks 1 0 ≡ suc p + size (term_at ns (get_or ks 0 0))
  pub third_is : get_or ks 2 0 ≡ suc p + size (term_at ns (get_or ks 0 0)) + size (term_at ns (get_or ks 1 0))
  pub first : Laid ns (get_or ks 0 0) (term_at ns (get_or ks 0 0))
  pub second : Laid ns (get_or ks 1 0) (term_at ns (get_or ks 1 0))
  pub third : Laid ns (get_or ks 2 0) (term_at ns (get_or ks 2 0))

-- a node with any number of kids
pub record SomeKids (ns : List Node) (p : ℕ) (f : Terms → Term) (ks : List ℕ) : Type 0 where
  pub term : term_at ns p ≡ f (terms_by (term_at ns) ks)
  pub stand_at : ks ≡ places (suc p) (terms_by (term_at ns) ks)
  pub kids : AllLaid ns (suc p) (terms_by (term_at ns) ks)

pub apply_laid : (ns : List Node) → AllAbove ns → (p : ℕ) (o : Builtin) (t : ValueType) (ks : List ℕ) → HasNode ns p (OfApply o) t ks → Laid ns p (term_at ns p) → SomeKids ns p (Apply t o) ks
apply_laid ns ab p o t ks h l = by_term (term_is ns ab p (OfApply o) t ks h) (subst (Laid ns p) (term_is ns ab p (OfApply o) t ks h) l)
  where
    by_term : term_at ns p ≡ term_by (term_at ns) (OfApply o) t ks → Laid ns p (term_by (term_at ns) (OfApply o) t ks) → SomeKids ns p (Apply t o) ks
    by_term e l = let h' = l.0 in let f : ks ≡ places (suc p) (terms_by (term_at ns) ks) = cc in record { term = e; stand_at = f; kids = l.1 }

pub nbr_laid : (ns : List Node) → AllAbove ns → (p : ℕ) (t : ValueType) (ks : List ℕ) → HasNode ns p OfNbr t ks → Laid ns p (term_at ns p) → OneKid ns p (Nbr t) ks
nbr_laid ns ab p t ks h l = by_kids ks h (term_is ns ab p OfNbr t ks h) (subst (Laid ns p) (term_is ns ab p OfNbr t ks h) l)
  where
    by_kids : (ks : List ℕ) → HasNode ns p OfNbr t ks → term_at ns p ≡ term_by (term_at ns) OfNbr t ks → Laid ns p (term_by (term_at ns) OfNbr t ks) → OneKid ns p (Nbr t) ks
    by_kids [] h e l = let x : OfNbr ≡ OfLeaf Uid = cc in absurd cc
    by_kids (a ∷ b ∷ ks) h e l = let x : OfNbr ≡ OfLeaf Uid = cc in absurd cc
    by_kids (a ∷ []) h e l =
        let h' = l.0 in
        let ea : a ≡ suc p = cc in
        record { long = refl; term = e; first_is = ea; first = subst (λ q. Laid ns q (term_at ns a)) (sym ea) l.1 }

-- a `rep`, a `share` or a `let`, of which f is the term
two_laid : (ns : List Node) (p : ℕ) (s : Sort) (t : ValueType) (f : Term → Term → Term) → (s ≡ OfLeaf Uid → ⊥)
    → ((a b : Term) → Laid ns p (f a b) → HasNode ns p s t (suc p ∷ (suc p + size a) ∷ []) × Laid ns (suc p) a × Laid ns (suc p + size a) b)
    → (ks : List ℕ) → HasNode ns p s t ks → term_at ns p ≡ with_two_children f (term_at ns) t ks → Laid ns p (with_two_children f (term_at ns) t ks) → TwoKids ns p f ks
two_laid ns p s t f apart parts [] h e l = absurd (apart cc)
two_laid ns p s t f apart parts (a ∷ []) h e l = absurd (apart cc)
two_laid ns p s t f apart parts (a ∷ b ∷ c ∷ ks) h e l = absurd (apart cc)
two_laid ns p s t f apart parts (a ∷ b ∷ []) h e l =
    let q = parts (term_at ns a) (term_at ns b) l in
    let q0 = q.0 in
    let ea : a ≡ suc p = cc in
    let eb : b ≡ suc p + size (term_at ns a) = cc in
    record {
      long = refl;
      term = e;
      first_is = ea;
      second_is = eb;
      first = subst (λ q. Laid ns q (term_at ns a)) (sym ea) q.1;
      second = subst (λ q. Laid ns q (term_at ns b)) (sym eb) q.2;
    }

pub evolve_laid : (ns : List Node) → AllAbove ns → (p : ℕ) (v : Evolution) (t : ValueType) (ks : List ℕ) → HasNode ns p (OfEvolve v) t ks → Laid ns p (term_at ns p) → TwoKids ns p (Evolve t v) ks
evolve_laid ns ab p v t ks h l =
    let e = term_is ns ab p (OfEvolve v) t ks h in
    two_laid ns p (OfEvolve v) t (Evolve t v) (λ i. absurd cc) (λ a b k. k) ks h e (subst (Laid ns p) e l)

pub let_laid : (ns : List Node) → AllAbove ns → (p : ℕ) (t : ValueType) (ks : List ℕ) → HasNode ns p OfLet t ks → Laid ns p (term_at ns p) → TwoKids ns p (Let t) ks
let_laid ns ab p t ks h l =
    let e = term_is ns ab p OfLet t ks h in
    two_laid ns p OfLet t (Let t) (λ i. absurd cc) (λ a b k. k) ks h e (subst (Laid ns p) e l)

pub if_laid : (ns : List Node) → AllAbove ns → (p : ℕ) (t : ValueType) (ks : List ℕ) → HasNode ns p OfIf t ks → Laid ns p (term_at ns p) → ThreeKids ns p (If t) ks
if_laid ns ab p t ks h l = by_kids ks h (term_is ns ab p OfIf t ks h) (subst (Laid ns p) (term_is ns ab p OfIf t ks h) l)
  where
    by_kids : (ks : List ℕ) → HasNode ns p OfIf t ks → term_at ns p ≡ term_by (term_at ns) OfIf t ks → Laid ns p (term_by (term_at ns) OfIf t ks) → ThreeKids ns p (If t) ks
    by_kids [] h e l = let x : OfIf ≡ OfLeaf Uid = cc in absurd cc
    by_kids (a ∷ []) h e l = let x : OfIf ≡ OfLeaf Uid = cc in absurd cc
    by_kids (a ∷ b ∷ []) h e l = let x : OfIf ≡ OfLeaf Uid = cc in absurd cc
    by_kids (a ∷ b ∷ d ∷ c ∷ ks) h e l = let x : OfIf ≡ OfLeaf Uid = cc in absurd cc
    by_kids (a ∷ b ∷ d ∷ []) h e l =
        let h' = l.0 in
        let ea : a ≡ suc p = cc in
        let eb : b ≡ suc p + size (term_at ns a) = cc in
        let ed : d ≡ suc p + size (term_at ns a) + size (term_at ns b) = cc in
        record {
          long = refl;
          term = e;
          first_is = ea;
          second_is = eb;
          third_is = ed;
          first = subst (λ q. Laid ns q (term_at ns a)) (sym ea) l.1;
          second = subst (λ q. Laid ns q (term_at ns b)) (sym eb) l.2;
          third = subst (λ q. Laid ns q (term_at ns d)) (sym ed) l.3;
        }

-- these places stand, after a place
abbrev pub AllStand : List Node → ℕ → List ℕ → Type 0
AllStand ns p [] = Unit {0}
AllStand ns p (k ∷ ks) = (p < k) × (k < length ns) × Laid ns k (term_at ns k) × AllStand ns p ks

-- the kids of a term
abbrev pub kids_of : Term → Terms
kids_of (Plain t l) = NoMore
kids_of (Apply t o xs) = xs
kids_of (Nbr t a) = More a NoMore
kids_of (Evolve t e a b) = More a (More b NoMore)
kids_of (If t c a b) = More c (More a (More b NoMore))
kids_of (Let t a b) = More a (More b NoMore)

pub size_kids : (u : Term) → size u ≡ suc (sizes (kids_of u))
size_kids (Plain t l) = refl
size_kids (Apply t o xs) = refl
size_kids (Nbr t a) = omega arith
size_kids (Evolve t e a b) = omega arith
size_kids (If t c a b) = omega arith
size_kids (Let t a b) = omega arith

-- the kids of the term at a place are the terms at the places of the node's kids
pub record KidsAre (ns : List Node) (p : ℕ) (u : Term) (ks : List ℕ) : Type 0 where
  pub kids : kids_of u ≡ terms_by (term_at ns) ks
  pub stands : AllStand ns p ks
  pub stand_at : ks ≡ places (suc p) (kids_of u)
  pub laid : AllLaid ns (suc p) (kids_of u)

module _ (ns : List Node) (ab : AllAbove ns) where
  stand : (u : Term) (p q : ℕ) → p < q → Laid ns q u → (p < q) × (q < length ns) × Laid ns q (term_at ns q)
  stand u p q h l = (h, laid_within ns q u l, rw (laid_term ns ab u q l) l)

  all_stand : (xs : Terms) (p q : ℕ) → p < q → AllLaid ns q xs → AllStand ns p (places q xs)
  all_stand NoMore p q h l = tt
  all_stand (More x xs) p q h l = let s = stand x p q h l.0 in (s.0, s.1, s.2, all_stand xs p (q + size x) (omega arith) l.1)

  kids_from : (u : Term) (p : ℕ) (ks : List ℕ) → ks ≡ places (suc p) (kids_of u) → AllLaid ns (suc p) (kids_of u) → KidsAre ns p u ks
  kids_from u p ks e l = record {
    kids = sym (ap (terms_by (term_at ns)) e ∙ laid_terms ns ab (kids_of u) (suc p) l);
    stands = subst (AllStand ns p) (sym e) (all_stand (kids_of u) p (suc p) (omega arith) l);
    stand_at = e;
    laid = l;
  }

  kids_as : (u : Term) (p : ℕ) → Laid ns p u → (s : Sort) (t : ValueType) (ks : List ℕ) → HasNode ns p s t ks → KidsAre ns p u ks
  kids_as (Plain t v) p l s t' ks h = let e : ks ≡ [] = cc in kids_from (Plain t v) p ks e tt
  kids_as (Apply t o xs) p l s t' ks h = let l0 = l.0 in let e : ks ≡ places (suc p) xs = cc in kids_from (Apply t o xs) p ks e l.1
  kids_as (Nbr t a) p l s t' ks h = let l0 = l.0 in let e : ks ≡ suc p ∷ [] = cc in kids_from (Nbr t a) p ks e (l.1, tt)
  kids_as (Evolve t v a b) p l s t' ks h = let l0 = l.0 in let e : ks ≡ suc p ∷ (suc p + size a) ∷ [] = cc in kids_from (Evolve t v a b) p ks e (l.1, (l.2, tt))
  kids_as (If t c a b) p l s t' ks h = let l0 = l.0 in let e : ks ≡ suc p ∷ (suc p + size c) ∷ (suc p + size c + size a) ∷ [] = cc in kids_from (If t c a b) p ks e (l.1, (l.2, (l.3, tt)))
  kids_as (Let t a b) p l s t' ks h = let l0 = l.0 in let e : ks ≡ suc p ∷ (suc p + size a) ∷ [] = cc in kids_from (Let t a b) p ks e (l.1, (l.2, tt))

  pub kids_are : (p : ℕ) (s : Sort) (t : ValueType) (ks : List ℕ) → HasNode ns p s t ks → Laid ns p (term_at ns p) → KidsAre ns p (term_at ns p) ks
  kids_are p s t ks h l = kids_as (term_at ns p) p l s t ks h

-- what the node of a term keeps
abbrev pub own_type : Term → Option LocalType
own_type (Plain t l) = None
own_type (Apply t o ts) = None
own_type (Nbr t a) = Some (inner t)
own_type (Evolve t e a b) = Some (inner t)
own_type (If t x a b) = Some BoolType
own_type (Let t a b) = None

abbrev pub branches : Term → Bool
branches (Plain t l) = false
branches (Apply t o ts) = false
branches (Nbr t a) = false
branches (Evolve t e a b) = false
branches (If t x a b) = true
branches (Let t a b) = false

module _ (ns : List Node) (s : Sort) (t : ValueType) (ks : List ℕ) where
  pub own_is : (u : Term) (p : ℕ) → HasNode ns p s t ks → Laid ns p u → kept_type s t ≡ own_type u
  own_is (Plain t' v) p h l = let e : s ≡ OfLeaf v = cc in rw e refl
  own_is (Apply t' o ts) p h l = let l0 = l.0 in let e : s ≡ OfApply o = cc in rw e refl
  own_is (Nbr t' a) p h l = let l0 = l.0 in let e : s ≡ OfNbr = cc in let f : t ≡ t' = cc in rw (e, f) refl
  own_is (Evolve t' v a b) p h l = let l0 = l.0 in let e : s ≡ OfEvolve v = cc in let f : t ≡ t' = cc in rw (e, f) refl
  own_is (If t' x a b) p h l = let l0 = l.0 in let e : s ≡ OfIf = cc in rw e refl
  own_is (Let t' a b) p h l = let l0 = l.0 in let e : s ≡ OfLet = cc in rw e refl

  pub branches_is : (u : Term) (p : ℕ) → HasNode ns p s t ks → Laid ns p u → is_branching s ≡ branches u
  branches_is (Plain t' v) p h l = let e : s ≡ OfLeaf v = cc in rw e refl
  branches_is (Apply t' o ts) p h l = let l0 = l.0 in let e : s ≡ OfApply o = cc in rw e refl
  branches_is (Nbr t' a) p h l = let l0 = l.0 in let e : s ≡ OfNbr = cc in rw e refl
  branches_is (Evolve t' v a b) p h l = let l0 = l.0 in let e : s ≡ OfEvolve v = cc in rw e refl
  branches_is (If t' x a b) p h l = let l0 = l.0 in let e : s ≡ OfIf = cc in rw e refl
  branches_is (Let t' a b) p h l = let l0 = l.0 in let e : s ≡ OfLet = cc in rw e refl

pub if_sort : (s : Sort) → is_branching s ≡ true → s ≡ OfIf
if_sort (OfLeaf l) e = absurd cc
if_sort (OfApply o) e = absurd cc
if_sort OfNbr e = absurd cc
if_sort (OfEvolve v) e = absurd cc
if_sort OfIf e = refl
if_sort OfLet e = absurd cc

stand_after : (ns : List Node) (p : ℕ) (ks : List ℕ) → AllStand ns p ks → StandAfter ns p ks
stand_after ns p [] h = tt
stand_after ns p (k ∷ ks) h = (h.0, record { within = h.1; laid = h.2 }, stand_after ns p ks h.3)

-- the kids of a node at a place stand after it
module _ (ns : List Node) (ab : AllAbove ns) (p : ℕ) (st : StandsAt ns p) (s : Sort) (t : ValueType) (ks : List ℕ) (h : HasNode ns p s t ks) where
  pub kids_stand : StandAfter ns p ks
  kids_stand = let i = kids_are ns ab p s t ks h st.laid in stand_after ns p ks i.stands

-- the kids of an `if` at a place
module _ (ns : List Node) (ab : AllAbove ns) (p : ℕ) (st : StandsAt ns p) (s : Sort) (t : ValueType) (ks : List ℕ) (h : HasNode ns p s t ks) (branching : is_branching s ≡ true) where
  pub three : ThreeKids ns p (If t) ks
  three = if_laid ns ab p t ks (subst (λ q. HasNode ns p q t ks) (if_sort s branching) h) st.laid

  pub kid_at : (i q : ℕ) → q ≡ get_or ks i q → i < 3 → q ≡ get_or ks i 0
  kid_at i q e l = let th = three in let long = th.long in read ks i q e (omega (arith, long, l))
    where
      read : (ks : List ℕ) (i q : ℕ) → q ≡ get_or ks i q → i < length ks → q ≡ get_or ks i 0
      read [] i q e l = absurd (omega arith)
      read (y ∷ ys) zero q e l = e
      read (y ∷ ys) (suc i) q e l = read ys i q e (omega arith)

  pub kid_stands : (i q : ℕ) → q ≡ get_or ks i q → i < 3 → (p < q) × (q < length ns) × StandsAt ns q
  kid_stands i q e l = by_index i (kid_at i q e l) l
    where
      by_index : (i : ℕ) → q ≡ get_or ks i 0 → i < 3 → (p < q) × (q < length ns) × StandsAt ns q
      by_index zero e l = let th = three in let f = th.first_is in let w = laid_within ns (get_or ks 0 0) _ th.first in (omega (arith, e, f), omega (arith, e, w), subst (StandsAt ns) (sym e) (record { within = w; laid = th.first }))
      by_index (suc zero) e l = let th = three in let f = th.second_is in let w = laid_within ns (get_or ks 1 0) _ th.second in (omega (arith, e, f), omega (arith, e, w), subst (StandsAt ns) (sym e) (record { within = w; laid = th.second }))
      by_index (suc (suc zero)) e l = let th = three in let f = th.third_is in let w = laid_within ns (get_or ks 2 0) _ th.third in (omega (arith, e, f), omega (arith, e, w), subst (StandsAt ns) (sym e) (record { within = w; laid = th.third }))
      by_index (suc (suc (suc i))) e l = absurd (omega arith)
