-- What solves a term whose binders are counted from its root solves the term at its place.
use Rattle.std.proofs.Common.{◌≡◌, ℕ, suc, ◌≤◌, ◌+◌, ◌-◌, List, [], ◌∷◌, refl, ◌∙◌, ap, subst, arith, Bool, true, false, nat_eq, if◌then◌else◌, Some}
use Rattle.std.proofs.lemmas.Bool.{eqb-true, eq-eqb, ne_eqb}
use Rattle.fc_values.specs.Types.{ValueType, Declarations}
use Rattle.fc_values.specs.Values.{BoolValue}
use Rattle.fc_values.specs.Fields.{restricted}
use Rattle.fc_nodes.specs.Terms.{Literal, Variable, Sense, Uid, NbrLink, Term, Terms, Plain, Apply, Nbr, Evolve, If, Let, NoMore, More, term_type, size, sizes}
use Rattle.fc_nodes.specs.Typing.{Scope, type_at, evolving_type, HasType, HaveTypes}
use Rattle.topology.specs.Networks.{Network}
use Rattle.topology.specs.Nearby.{neighbour_numbers}
use Rattle.interval_facts.specs.Solutions.{Devices, ValueMap, ValueMaps, bind, near_among, local_map, evolved, where_is, Solves, SolveAll}
use Rattle.closed_terms.specs.Parts.{lowered, all_lowered}

mutual
  pub same_size : (k : ℕ) (u : Term) → size (lowered k u) ≡ size u
  same_size k (Plain t l) = refl
  same_size k (Apply t o xs) = ap suc (same_sizes k xs)
  same_size k (Nbr t a) = ap suc (same_size k a)
  same_size k (Evolve t e a b) = let x = same_size k a in let y = same_size k b in omega (arith, x, y)
  same_size k (If t c a b) = let w = same_size k c in let x = same_size k a in let y = same_size k b in omega (arith, w, x, y)
  same_size k (Let t a b) = let x = same_size k a in let y = same_size k b in omega (arith, x, y)

  pub same_sizes : (k : ℕ) (xs : Terms) → sizes (all_lowered k xs) ≡ sizes xs
  same_sizes k NoMore = refl
  same_sizes k (More x xs) = let y = same_size k x in let ys = same_sizes k xs in omega (arith, y, ys)

-- a binder at place j that is counted from place k is at i
module _ (k i j : ℕ) (e : j ≡ k + i) where
  same_test : (q : ℕ) → k ≤ q → nat_eq i (q - k) ≡ nat_eq j q
  same_test q h = by_test (nat_eq j q) refl
    where
      by_test : (b : Bool) → nat_eq j q ≡ b → nat_eq i (q - k) ≡ b
      by_test true t = let z = eqb-true j q t in eq-eqb i (q - k) (omega (arith, z, e))
      by_test false t = ne_eqb i (q - k) (λ f. let z = eq-eqb j q (omega (arith, f, e, h)) in absurd cc)

module _ (N : Network) (Dc : Declarations) (k : ℕ) where
  -- the binders in scope have the same maps
  abbrev pub Agree : Scope → ValueMaps → ValueMaps → Type 0
  Agree [] V W = Unit {0}
  Agree (b ∷ bs) V W = (k ≤ b.0) × (W (b.0 - k) ≡ V b.0) × Agree bs V W

  in_scope : (n : ℕ) (t : ValueType) (bs : Scope) (V W : ValueMaps) → Agree bs V W → type_at n bs ≡ Some t → W (n - k) ≡ V n
  in_scope n t [] V W a q = absurd cc
  in_scope n t (b ∷ bs) V W a q = by_test (nat_eq b.0 n) refl q (in_scope n t bs V W a.2)
    where
      by_test : (c : Bool) → nat_eq b.0 n ≡ c → (if c then Some b.1 else type_at n bs) ≡ Some t → (type_at n bs ≡ Some t → W (n - k) ≡ V n) → W (n - k) ≡ V n
      by_test true y q ih = subst (λ m. W (m - k) ≡ V m) (eqb-true b.0 n y) a.1
      by_test false y q ih = ih q

  one : (b : Bool) (G x y : ValueMap) → y ≡ x → (if b then G else y) ≡ (if b then G else x)
  one true G x y q = refl
  one false G x y q = q

  bound : (i j : ℕ) → j ≡ k + i → (G : ValueMap) (bs : Scope) (V W : ValueMaps) → Agree bs V W → Agree bs (bind j G V) (bind i G W)
  bound i j e G [] V W a = tt
  bound i j e G (b ∷ bs) V W a =
      let s = same_test k i j e b.0 a.0 in
      (a.0, rw s (one (nat_eq j b.0) G (V b.0) (W (b.0 - k)) a.1), bound i j e G bs V W a.2)

  own : (i j : ℕ) → j ≡ k + i → (G : ValueMap) (V W : ValueMaps) → bind i G W (j - k) ≡ bind j G V j
  own i j e G V W = let s = eq-eqb i (j - k) (omega (arith, e)) in let r = eq-eqb j j refl in rw (s, r) refl

  mutual
    pub shift : (u : Term) (i j : ℕ) → j ≡ k + i → (bs : Scope) (D : Devices) (V W : ValueMaps) (F : ValueMap) → HasType Dc bs j u → Agree bs V W → Solves N i (lowered k u) D W F → Solves N j u D V F
    shift (Plain t (Literal v)) i j e bs D V W F h a s = s
    shift (Plain t (Variable n)) i j e bs D V W F h a s =
        let q = in_scope n t bs V W a h in
        (s.0, λ d l. s.1 d l ∙ ap (λ (G : ValueMap). restricted d (neighbour_numbers (near_among N D d)) (G d)) q)
    shift (Plain t (Sense x)) i j e bs D V W F h a s = s
    shift (Plain t Uid) i j e bs D V W F h a s = s
    shift (Plain t NbrLink) i j e bs D V W F h a s = s
    shift (Apply t o xs) i j e bs D V W F h a s = (s.0, s.1, shift_all xs (suc i) (suc j) (omega (arith, e)) bs D V W s.1 h.1 a s.2, s.3)
    shift (Nbr t x) i j e bs D V W F h a s = (s.0, s.1, shift x (suc i) (suc j) (omega (arith, e)) bs D V W (local_map s.1) h.3 a s.2, s.3)
    shift (Evolve t v x y) i j e bs D V W F h a s =
        let n = same_size k x in
        let G : ValueMap = evolved v N D s.1 in (
          s.0,
          s.1,
          shift y (suc i + size (lowered k x)) (suc j + size x) (omega (arith, e, n)) ((j, evolving_type v h.0) ∷ bs) D (bind j G V) (bind i G W) (local_map s.1) h.5 (omega (arith, e), own i j e G V W, bound i j e G bs V W a) s.2,
          s.3,
        )
    shift (If t c x y) i j e bs D V W F h a s =
        let m = same_size k c in
        let n = same_size k x in (
          s.0,
          s.1,
          shift c (suc i) (suc j) (omega (arith, e)) bs D V W (local_map (λ d. BoolValue (s.1 d))) h.5 a s.2,
          shift x (suc i + size (lowered k c)) (suc j + size c) (omega (arith, e, m)) bs (where_is true D s.1) V W F h.6 a s.3,
          shift y (suc i + size (lowered k c) + size (lowered k x)) (suc j + size c + size x) (omega (arith, e, m, n)) bs (where_is false D s.1) V W F h.7 a s.4,
        )
    shift (Let t x y) i j e bs D V W F h a s =
        let n = same_size k x in (
          s.0,
          s.1,
          shift x (suc i) (suc j) (omega (arith, e)) bs D V W s.1 h.1 a s.2,
          shift y (suc i + size (lowered k x)) (suc j + size x) (omega (arith, e, n)) ((j, term_type x) ∷ bs) D (bind j s.1 V) (bind i s.1 W) F h.2 (omega (arith, e), own i j e s.1 V W, bound i j e s.1 bs V W a) s.3,
        )

    shift_all : (xs : Terms) (i j : ℕ) → j ≡ k + i → (bs : Scope) (D : Devices) (V W : ValueMaps) (Gs : List ValueMap) → HaveTypes Dc bs j xs → Agree bs V W → SolveAll N i (all_lowered k xs) D W Gs → SolveAll N j xs D V Gs
    shift_all NoMore i j e bs D V W [] h a s = tt
    shift_all NoMore i j e bs D V W (G ∷ Gs) h a s = absurd s
    shift_all (More x xs) i j e bs D V W [] h a s = absurd s
    shift_all (More x xs) i j e bs D V W (G ∷ Gs) h a s =
        let n = same_size k x in
        (shift x i j e bs D V W G h.0 a s.0, shift_all xs (i + size (lowered k x)) (j + size x) (omega (arith, e, n)) bs D V W Gs h.1 a s.1)
