-- Two solutions of a body whose variable has two maps.
use Rattle.std.proofs.Common.{◌≡◌, ◌≢◌, ℕ, suc, ◌≤◌, ◌+◌, List, [], ◌∷◌, map, refl, sym, ◌∙◌, ap, arith, Bool, true, false}
use Rattle.std.proofs.lemmas.Bool.Decides.{nat_tests}
use Rattle.fc_values.specs.Types.{LocalType, ValueType}
use Rattle.fc_values.specs.Values.{LocalValue}
use Rattle.fc_values.specs.Fields.{AnyValue, ValueLocal, restricted}
use Rattle.fc_nodes.specs.Terms.{Leaf, Literal, Variable, Sense, Uid, NbrLink, Evolution, ByRep, ByShare, Term, Terms, Plain, Apply, Nbr, Evolve, If, Let, NoMore, More, size, sizes}
use Rattle.topology.specs.Networks.{Network, near, IsNetwork}
use Rattle.interval_facts.specs.Solutions.{Devices, In, ValueMap, ValueMaps, near_among, around, at_device, field_of, evolved, Solves, SolveAll}
use Rattle.fc_nodes.specs.Variables.{occurs, occurs_in, is_variable, is_heard}
use Rattle.converge_laws.specs.Fragment.{Analysis}
use Rattle.converge_laws.specs.Fragment.{TermInFragment, TermsInFragment}
use Rattle.interval_facts.specs.Claims.{InRanges, AllInRanges}
use Rattle.converge_laws.proofs.Step.{or_left, or_right}
use Rattle.converge_laws.proofs.Near.{AllSet, all_set}
use Rattle.growth_facts.specs.Beside.{Pairs, FieldPair, Beside, apart, heard, joined, BesideAll, no_more, one_more, Shallow, AllShallow}
use Rattle.growth_facts.proofs.FieldPairs.{pairs_with, field_cut}
use Rattle.topology.specs.Nearby.{neighbour_numbers}

map_pairs : (P : ℕ → LocalValue → LocalValue → Type 0) (g h : ℕ → LocalValue) (D : Devices) → ((n : ℕ) → In D n → P n (g n) (h n)) → (ms : List (ℕ × ℕ)) → AllSet D ms → Pairs P (map (λ (m : ℕ × ℕ). (m.0, g m.0)) ms) (map (λ (m : ℕ × ℕ). (m.0, h m.0)) ms)
map_pairs P g h D f [] a = tt
map_pairs P g h D f (m ∷ ms) a = (refl, f m.0 a.0, map_pairs P g h D f ms a.1)

module _ (N : Network) (net : IsNetwork N) (D : Devices) (d : ℕ) (i : In D d) (e : Evolution) (x : ℕ) (ty : LocalType) (P : ℕ → LocalValue → LocalValue → Type 0) (Part : ℕ → Term → AnyValue → Type 0) (V W : ValueMaps) (f f' : ℕ → LocalValue)
    (vs : (n : ℕ) → V x n ≡ evolved e N D f n) (ws : (n : ℕ) → W x n ≡ evolved e N D f' n) (close : (n : ℕ) → In D n → P n (f n) (f' n))
    (A : Analysis) (parts : (p : ℕ) (h : Term) (G : ValueMap) (z : Solves N p h D W G) → InRanges A.ranges N p h D W G z → Part p h (G d)) where
  abbrev M : ℕ
  M = N.declared.ceiling

  -- the other binders agree
  abbrev pub AgreeBut : (ℕ → Bool) → Type 0
  AgreeBut uses = (q : ℕ) → uses q ≡ true → q ≢ x → (n : ℕ) → In D n → V q n ≡ W q n

  -- parts without the variable have one value
  abbrev pub SameOf : Term → Type 0
  SameOf t = (p : ℕ) (F G : ValueMap) → occurs x t ≡ false → AgreeBut (λ q. occurs q t) → TermInFragment A N.declared.ceiling p t → Solves N p t D V F → (r : Solves N p t D W G) → InRanges A.ranges N p t D W G r → F d ≡ G d

  abbrev Both : ℕ → Term → ValueMap → ValueMap → Type 0
  Both p t F G = Beside M d (around N D d) e x (FieldPair P) Part p t (F d) (G d)

  fields_pair : (g h : ℕ → LocalValue) → ((n : ℕ) → In D n → P n (g n) (h n)) → FieldPair P (field_of N D g d) (field_of N D h d)
  fields_pair g h k = pairs_with P d (g d) (h d) (map (λ (m : ℕ × ℕ). (m.0, g m.0)) (near_among N D d)) (map (λ (m : ℕ × ℕ). (m.0, h m.0)) (near_among N D d)) (k d i) (map_pairs P g h D k (near_among N D d) (all_set D (near N d)))

  not_used : (p : ℕ) (t : Term) (F G : ValueMap) → SameOf t → occurs x t ≡ false → AgreeBut (λ q. occurs q t) → TermInFragment A N.declared.ceiling p t → Solves N p t D V F → (r : Solves N p t D W G) → InRanges A.ranges N p t D W G r → Both p t F G
  not_used p t F G same o ag fr s r rr = apart p t o (same p F G o ag fr s r rr) (parts p t G r rr)

  by_use : (p : ℕ) (t : Term) (F G : ValueMap) → SameOf t → AgreeBut (λ q. occurs q t) → TermInFragment A N.declared.ceiling p t → Solves N p t D V F → (r : Solves N p t D W G) → InRanges A.ranges N p t D W G r → (c : Bool) → occurs x t ≡ c → (occurs x t ≡ true → Both p t F G) → Both p t F G
  by_use p t F G same ag fr s r rr false o k = not_used p t F G same o ag fr s r rr
  by_use p t F G same ag fr s r rr true o k = k o

  share_pair : (ev : Evolution) → ev ≡ e → (p : ℕ) (t : ValueType) (l : Leaf) (F G : ValueMap) → Solves N p (Plain t l) D V F → Solves N p (Plain t l) D W G → is_variable x l ≡ true → is_heard ev x (Plain t l) ≡ true → FieldPair P (F d) (G d)
  share_pair ByRep q p t l F G s r u hd = absurd cc
  share_pair ByShare q p t (Literal v) F G s r u hd = absurd cc
  share_pair ByShare q p t (Sense k) F G s r u hd = absurd cc
  share_pair ByShare q p t Uid F G s r u hd = absurd cc
  share_pair ByShare q p t NbrLink F G s r u hd = absurd cc
  share_pair ByShare q p t (Variable n) F G s r u hd =
      let z : n ≡ x = grind (arith, u, nat_tests) in
      let v : V n d ≡ field_of N D f d = ap (λ y. V y d) z ∙ vs d ∙ ap (λ y. evolved y N D f d) (sym q) in
      let w : W n d ≡ field_of N D f' d = ap (λ y. W y d) z ∙ ws d ∙ ap (λ y. evolved y N D f' d) (sym q) in
      let a = s.1 d i in let b = r.1 d i in
      let k = field_cut P d (neighbour_numbers (near_among N D d)) (field_of N D f d) (field_of N D f' d) (fields_pair f f' close) in
      rw (a, b, v, w) k

  rep_pair : (ev : Evolution) → ev ≡ e → (p : ℕ) (t : ValueType) (a : Term) (F G : ValueMap) → Solves N p (Nbr t a) D V F → Solves N p (Nbr t a) D W G → is_heard ev x (Nbr t a) ≡ true → FieldPair P (F d) (G d)
  rep_pair ByShare q p t a F G s r hd = absurd cc
  rep_pair ByRep q p t (Plain t' (Variable k)) F G s r hd =
      let z : k ≡ x = grind (arith, hd, nat_tests) in
      let v : (n : ℕ) → In D n → s.1 n ≡ f n = λ n u. one (s.1 n) (f n) n (V k n) (s.2.1 n u) (ap (λ y. V y n) z ∙ vs n ∙ ap (λ y. evolved y N D f n) (sym q)) in
      let w : (n : ℕ) → In D n → r.1 n ≡ f' n = λ n u. one (r.1 n) (f' n) n (W k n) (r.2.1 n u) (ap (λ y. W y n) z ∙ ws n ∙ ap (λ y. evolved y N D f' n) (sym q)) in
      rw (s.3 d i, r.3 d i) (fields_pair s.1 r.1 (λ n u. rw (v n u, w n u) (close n u)))
    where
      one : (a b : LocalValue) (n : ℕ) (y : AnyValue) → ValueLocal a ≡ restricted n (neighbour_numbers (near_among N D n)) y → y ≡ ValueLocal b → a ≡ b
      one a b n y e e' = let e'' : ValueLocal a ≡ ValueLocal b = e ∙ ap (restricted n (neighbour_numbers (near_among N D n))) e' in cc
  rep_pair ByRep q p t (Plain t' (Literal v)) F G s r hd = absurd cc
  rep_pair ByRep q p t (Plain t' (Sense k)) F G s r hd = absurd cc
  rep_pair ByRep q p t (Plain t' Uid) F G s r hd = absurd cc
  rep_pair ByRep q p t (Plain t' NbrLink) F G s r hd = absurd cc
  rep_pair ByRep q p t (Apply t' o xs) F G s r hd = absurd cc
  rep_pair ByRep q p t (Nbr t' a) F G s r hd = absurd cc
  rep_pair ByRep q p t (Evolve t' g a u) F G s r hd = absurd cc
  rep_pair ByRep q p t (If t' c u w) F G s r hd = absurd cc
  rep_pair ByRep q p t (Let t' a u) F G s r hd = absurd cc

  mutual
    pub solved : (t : Term) → ((r : Term) → size r ≤ size t → SameOf r) → (p : ℕ) (F G : ValueMap) → Shallow e x ty t → AgreeBut (λ q. occurs q t) → TermInFragment A N.declared.ceiling p t → Solves N p t D V F → (r : Solves N p t D W G) → InRanges A.ranges N p t D W G r → Both p t F G
    solved (Plain t l) same p F G sh ag fr s r rr = by_use p (Plain t l) F G (same (Plain t l) (omega arith)) ag fr s r rr (is_variable x l) refl (λ u. heard p (Plain t l) (sh u).0 (share_pair e refl p t l F G s r u (sh u).0) (s.0 d i) (r.0 d i))
    solved (Nbr t a) same p F G sh ag fr s r rr = by_use p (Nbr t a) F G (same (Nbr t a) (omega arith)) ag fr s r rr (occurs x a) refl (λ u. heard p (Nbr t a) (sh u).0 (rep_pair e refl p t a F G s r (sh u).0) (s.0 d i) (r.0 d i))
    solved (Apply t o xs) same p F G sh ag fr s r rr =
        by_use p (Apply t o xs) F G (same (Apply t o xs) (omega arith)) ag fr s r rr (occurs_in x xs) refl (λ u. joined p t o xs (at_device d s.1) (at_device d r.1) sh.0 u (all_solved xs (λ y l. same y (omega (arith, l))) (suc p) s.1 r.1 sh.1 ag fr s.2 r.2 rr.1) (s.3 d i) (r.3 d i))
    solved (Evolve t g a u) same p F G sh ag fr s r rr = not_used p (Evolve t g a u) F G (same (Evolve t g a u) (omega arith)) sh ag fr s r rr
    solved (If t c u w) same p F G sh ag fr s r rr = not_used p (If t c u w) F G (same (If t c u w) (omega arith)) sh ag fr s r rr
    solved (Let t a u) same p F G sh ag fr s r rr = not_used p (Let t a u) F G (same (Let t a u) (omega arith)) sh ag fr s r rr

    pub all_solved : (xs : Terms) → ((r : Term) → size r ≤ sizes xs → SameOf r) → (p : ℕ) (Gs Hs : List ValueMap) → AllShallow e x ty xs → AgreeBut (λ q. occurs_in q xs) → TermsInFragment A N.declared.ceiling p xs → SolveAll N p xs D V Gs → (r : SolveAll N p xs D W Hs) → AllInRanges A.ranges N p xs D W Hs r
        → BesideAll M d (around N D d) e x (FieldPair P) Part p xs (at_device d Gs) (at_device d Hs)
    all_solved NoMore same p [] [] sh ag fr s r rr = no_more p
    all_solved NoMore same p [] (H ∷ Hs) sh ag fr s r rr = absurd r
    all_solved NoMore same p (G ∷ Gs) Hs sh ag fr s r rr = absurd s
    all_solved (More t ts) same p [] Hs sh ag fr s r rr = absurd s
    all_solved (More t ts) same p (G ∷ Gs) [] sh ag fr s r rr = absurd r
    all_solved (More t ts) same p (G ∷ Gs) (H ∷ Hs) sh ag fr s r rr =
        one_more p t ts (G d) (H d) (at_device d Gs) (at_device d Hs) (solved t (λ y l. same y (omega (arith, l))) p G H sh.0 (λ q o. ag q (or_left (occurs q t) (occurs_in q ts) o)) fr.0 s.0 r.0 rr.0) (all_solved ts (λ y l. same y (omega (arith, l))) (p + size t) Gs Hs sh.1 (λ q o. ag q (or_right (occurs q t) (occurs_in q ts) o)) fr.1 s.1 r.1 rr.1)
