-- How many links a network has at most.
use Rattle.std.proofs.Common.{◌≡◌, ◌≤◌, ◌<◌, ◌+◌, ◌*◌, ℕ, List, [], ◌∷◌, length, refl, arith, Bool, true, false, ◌||◌, nat_eq, if◌then◌else◌}
use Rattle.std.proofs.lemmas.Bool.{eqb-true}
use Rattle.std.proofs.lemmas.List.{length-map}
use Rattle.fc_values.specs.Types.{Declarations}
use Rattle.fc_values.specs.Fields.{is_in}
use Rattle.topology.specs.Networks.{Network, NetDevice, Edge, IsNetwork, LinksFit, near_in, numbers}

-- whether a device is an end of a link
abbrev hits : Edge → ℕ → ℕ
hits l d = if nat_eq l.a d then 1 else (if nat_eq l.b d then 1 else 0)

abbrev all_hits : Edge → List ℕ → ℕ
all_hits l [] = 0
all_hits l (d ∷ ds) = hits l d + all_hits l ds

abbrev all_near : List Edge → List ℕ → ℕ
all_near ls [] = 0
all_near ls (d ∷ ds) = length (near_in d ls) + all_near ls ds

one_more : (d : ℕ) (l : Edge) (ls : List Edge) → length (near_in d (l ∷ ls)) ≡ hits l d + length (near_in d ls)
one_more d l ls = by_tests (nat_eq l.a d) (nat_eq l.b d)
  where
    by_tests : (p q : Bool) → length (if p then (l.b, l.weight) ∷ near_in d ls else (if q then (l.a, l.weight) ∷ near_in d ls else near_in d ls)) ≡ (if p then 1 else (if q then 1 else 0)) + length (near_in d ls)
    by_tests true q = omega arith
    by_tests false true = omega arith
    by_tests false false = omega arith

more : (l : Edge) (ls : List Edge) (ds : List ℕ) → all_near (l ∷ ls) ds ≡ all_hits l ds + all_near ls ds
more l ls [] = refl
more l ls (d ∷ ds) = let o = one_more d l ls in let ih = more l ls ds in omega arith

hit_first : (l : Edge) (ds : List ℕ) → is_in l.a ds ≡ true → 1 ≤ all_hits l ds
hit_first l [] h = absurd cc
hit_first l (d ∷ ds) h = by_test (nat_eq l.a d) refl h (hit_first l ds)
  where
    by_test : (t : Bool) → nat_eq l.a d ≡ t → (t || is_in l.a ds) ≡ true → (is_in l.a ds ≡ true → 1 ≤ all_hits l ds) → 1 ≤ (if nat_eq l.a d then 1 else (if nat_eq l.b d then 1 else 0)) + all_hits l ds
    by_test true q k ih = rw q (omega arith)
    by_test false q k ih = let r = ih k in omega arith

hit_second : (l : Edge) (ds : List ℕ) → is_in l.b ds ≡ true → 1 ≤ all_hits l ds
hit_second l [] h = absurd cc
hit_second l (d ∷ ds) h = by_test (nat_eq l.b d) refl h (hit_second l ds)
  where
    other : (p : Bool) → 1 ≤ (if p then 1 else 1) + all_hits l ds
    other true = omega arith
    other false = omega arith

    by_test : (t : Bool) → nat_eq l.b d ≡ t → (t || is_in l.b ds) ≡ true → (is_in l.b ds ≡ true → 1 ≤ all_hits l ds) → 1 ≤ (if nat_eq l.a d then 1 else (if nat_eq l.b d then 1 else 0)) + all_hits l ds
    by_test true q k ih = rw q (other (nat_eq l.a d))
    by_test false q k ih = let r = ih k in omega arith

both_hit : (l : Edge) (ds : List ℕ) → l.a < l.b → is_in l.a ds ≡ true → is_in l.b ds ≡ true → 2 ≤ all_hits l ds
both_hit l [] o h k = absurd cc
both_hit l (d ∷ ds) o h k = by_tests (nat_eq l.a d) (nat_eq l.b d) refl refl h k (both_hit l ds o)
  where
    by_tests : (p q : Bool) → nat_eq l.a d ≡ p → nat_eq l.b d ≡ q → (p || is_in l.a ds) ≡ true → (q || is_in l.b ds) ≡ true → (is_in l.a ds ≡ true → is_in l.b ds ≡ true → 2 ≤ all_hits l ds)
        → 2 ≤ (if nat_eq l.a d then 1 else (if nat_eq l.b d then 1 else 0)) + all_hits l ds
    by_tests true true p q h k ih = let a = eqb-true l.a d p in let b = eqb-true l.b d q in absurd (omega arith)
    by_tests true false p q h k ih = let r = hit_second l ds k in rw p (omega arith)
    by_tests false true p q h k ih = let r = hit_first l ds h in rw (p, q) (omega arith)
    by_tests false false p q h k ih = let r = ih h k in omega arith

each_twice : (D : Declarations) (ds : List ℕ) (ls : List Edge) → LinksFit D ds ls → 2 * length ls ≤ all_near ls ds
each_twice D ds [] h = omega arith
each_twice D ds (l ∷ ls) h =
    let b = both_hit l ds h.0.order h.0.from h.0.to in
    let ih = each_twice D ds ls h.2 in
    let m = more l ls ds in
    omega arith

few_near : (ls : List Edge) (ds : List ℕ) → ((d : ℕ) → length (near_in d ls) ≤ 32) → all_near ls ds ≤ 32 * length ds
few_near ls [] h = omega arith
few_near ls (d ∷ ds) h = let k = h d in let ih = few_near ls ds h in omega arith

-- at most sixteen for each device
pub few_links : (N : Network) → IsNetwork N → 2 * length N.links ≤ 32 * length N.devices
few_links N net =
    let a = each_twice N.declared (numbers N.devices) N.links net.links in
    let b = few_near N.links (numbers N.devices) net.degree in
    let n = length-map N.devices (λ (d : NetDevice). d.id) in
    omega arith
