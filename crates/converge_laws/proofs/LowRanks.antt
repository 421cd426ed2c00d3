-- Ranks of devices by a potential.
use Rattle.std.proofs.Common.{◌≡◌, ◌≤◌, ◌<◌, ◌+◌, ◌-◌, ◌||◌, ℕ, zero, suc, List, [], ◌∷◌, map, length, refl, ap, subst, Bool, true, false, arith, nat_eq, nat_lt}
use Rattle.std.specs.Prelude.{filter}
use Rattle.std.proofs.lemmas.Bool.{eqb-true, eq-eqb}
use Rattle.std.proofs.lemmas.Bool.Decides.{nat_tests}
use Rattle.std.proofs.lemmas.List.{length-map}
use Rattle.fc_values.specs.Fields.{is_in}
use Rattle.fc_values.proofs.Booleans.{or_true}
use Rattle.fc_nodes.specs.Terms.{one_if}
use Rattle.topology.specs.Networks.{NetDevice, numbers}
use Rattle.interval_facts.specs.Solutions.{Devices}
use Rattle.converge_laws.specs.Ranks.{rank, potentials, RanksAreLow}

-- a lower number that is there has a lower rank
rank_lower : (ps : List ℕ) (p q : ℕ) → is_in p ps ≡ true → p < q → rank ps p < rank ps q
rank_lower ps p zero h l = absurd (omega (arith, l))
rank_lower ps p (suc q) h l = by_test (nat_eq p q) refl (λ b. rank_lower ps p q h b)
  where
    lifted : (b : Bool) → is_in q ps ≡ b → rank ps p < rank ps q → rank ps p < rank ps q + one_if b
    lifted true e u = omega (arith, u)
    lifted false e u = omega (arith, u)

    by_test : (b : Bool) → nat_eq p q ≡ b → (p < q → rank ps p < rank ps q) → rank ps p < rank ps q + one_if (is_in q ps)
    by_test true e k =
        let z : p ≡ q = grind (arith, e, nat_tests) in
        let h' : is_in q ps ≡ true = subst (λ n. is_in n ps ≡ true) z h in
        rw (z, h') (omega arith)
    by_test false e k = let below : p < q = grind (arith, e, l, nat_tests) in lifted (is_in q ps) refl (k below)

rank_none : (p : ℕ) → rank [] p ≡ 0
rank_none zero = refl
rank_none (suc p) = let ih = rank_none p in omega (arith, ih)

-- one number more counts at most once, and not at all where it isn't below
rank_more : (x : ℕ) (xs : List ℕ) (p : ℕ) → ((p ≤ x → rank (x ∷ xs) p ≤ rank xs p) × (rank (x ∷ xs) p ≤ suc (rank xs p)))
rank_more x xs zero = ((λ l. omega arith), omega arith)
rank_more x xs (suc p) = by_test (nat_eq p x) (is_in p xs) refl (rank_more x xs p)
  where
    by_test : (b i : Bool) → nat_eq p x ≡ b → ((p ≤ x → rank (x ∷ xs) p ≤ rank xs p) × (rank (x ∷ xs) p ≤ suc (rank xs p)))
        → ((suc p ≤ x → rank (x ∷ xs) p + one_if (b || i) ≤ rank xs p + one_if i) × (rank (x ∷ xs) p + one_if (b || i) ≤ suc (rank xs p + one_if i)))
    by_test true true e ih = let q = eqb-true p x e in let j = ih.0 (omega (arith, q)) in ((λ l. absurd (omega (arith, l, q))), omega (arith, j))
    by_test true false e ih = let q = eqb-true p x e in let j = ih.0 (omega (arith, q)) in ((λ l. absurd (omega (arith, l, q))), omega (arith, j))
    by_test false true e ih = let j = ih.1 in ((λ l. let k = ih.0 (omega (arith, l)) in omega (arith, k)), omega (arith, j))
    by_test false false e ih = let j = ih.1 in ((λ l. let k = ih.0 (omega (arith, l)) in omega (arith, k)), omega (arith, j))

rank_few : (ps : List ℕ) (p : ℕ) → rank ps p ≤ length ps
rank_few [] p = let e = rank_none p in omega (arith, e)
rank_few (x ∷ xs) p = let ih = rank_few xs p in let c = (rank_more x xs p).1 in omega (arith, ih, c)

-- a number that is there has a rank below their number
rank_below : (ps : List ℕ) (p : ℕ) → is_in p ps ≡ true → rank ps p < length ps
rank_below ps p h = let l = rank_lower ps p (suc p) h (omega arith) in let k = rank_few ps (suc p) in omega (arith, l, k)

abbrev AllFrom : ℕ → List ℕ → Type 0
AllFrom least [] = Unit {0}
AllFrom least (p ∷ ps) = (least ≤ p) × AllFrom least ps

not_there : (least : ℕ) (ps : List ℕ) (p : ℕ) → AllFrom least ps → p < least → is_in p ps ≡ false
not_there least [] p h l = refl
not_there least (x ∷ xs) p h l =
    let above = h.0 in
    let first : nat_eq p x ≡ false = grind (arith, above, l, nat_tests) in
    let rest = not_there least xs p h.1 l in
    rw (first, rest) refl

-- numbers from a least one on
rank_from : (least : ℕ) (ps : List ℕ) → AllFrom least ps → (p : ℕ) → rank ps p ≤ p - least
rank_from least ps h zero = omega arith
rank_from least ps h (suc p) = by_test (is_in p ps) refl (rank_from least ps h p)
  where
    by_test : (b : Bool) → is_in p ps ≡ b → rank ps p ≤ p - least → rank ps p + one_if b ≤ suc p - least
    by_test false e ih = omega (arith, ih)
    by_test true e ih = by_less (nat_lt p least) refl
      where
        by_less : (c : Bool) → nat_lt p least ≡ c → rank ps p + 1 ≤ suc p - least
        by_less true q = let z = not_there least ps p h (grind (arith, q, nat_tests)) in absurd cc
        by_less false q = let l : least ≤ p = grind (arith, q, nat_tests) in omega (arith, ih, l)

-- the devices of a set and their potentials
module _ (D : Devices) (potential : ℕ → ℕ) where
  potential_in : (d : ℕ) (ds : List ℕ) → D d ≡ true → is_in d ds ≡ true → is_in (potential d) (map potential (filter D ds)) ≡ true
  potential_in d [] i h = absurd cc
  potential_in d (n ∷ ns) i h = by_tests (nat_eq d n) (D n) refl refl h (potential_in d ns i)
    where
      by_tests : (b c : Bool) → nat_eq d n ≡ b → D n ≡ c → (b || is_in d ns) ≡ true → (is_in d ns ≡ true → is_in (potential d) (map potential (filter D ns)) ≡ true)
          → is_in (potential d) (map potential (filter D (n ∷ ns))) ≡ true
      by_tests true true e f h ih =
          let same : potential d ≡ potential n = ap potential (eqb-true d n e) in
          let here : nat_eq (potential d) (potential n) ≡ true = eq-eqb (potential d) (potential n) same in
          rw f (rw here refl)
      by_tests true false e f h ih = let same : D d ≡ D n = ap D (eqb-true d n e) in absurd cc
      by_tests false true e f h ih = rw f (or_true (nat_eq (potential d) (potential n)) (is_in (potential d) (map potential (filter D ns))) (ih h))
      by_tests false false e f h ih = rw f (ih h)

  potentials_few : (ds : List ℕ) → length (map potential (filter D ds)) ≤ length ds
  potentials_few [] = omega arith
  potentials_few (n ∷ ns) = by_test (D n) refl (potentials_few ns)
    where
      by_test : (c : Bool) → D n ≡ c → length (map potential (filter D ns)) ≤ length ns → length (map potential (filter D (n ∷ ns))) ≤ suc (length ns)
      by_test true f h = rw f (omega (arith, h))
      by_test false f h = rw f (omega (arith, h))

  potentials_from : (least : ℕ) (ds : List ℕ) → ((n : ℕ) → D n ≡ true → is_in n ds ≡ true → least ≤ potential n) → AllFrom least (map potential (filter D ds))
  potentials_from least [] h = tt
  potentials_from least (n ∷ ns) h = by_test (D n) refl (potentials_from least ns (λ k i m. h k i (or_true (nat_eq k n) (is_in k ns) m)))
    where
      here : is_in n (n ∷ ns) ≡ true
      here = let e = eq-eqb n n refl in rw e refl

      by_test : (c : Bool) → D n ≡ c → AllFrom least (map potential (filter D ns)) → AllFrom least (map potential (filter D (n ∷ ns)))
      by_test true f r = rw f (h n f here, r)
      by_test false f r = rw f r

pub ranks_are_low : RanksAreLow
ranks_are_low N D potential d i l =
    let ds = numbers N.devices in
    let ps = potentials N D potential in
    let here = potential_in D potential d ds i l in
    let below = rank_below ps (potential d) here in
    let few = potentials_few D potential ds in
    let many = length-map N.devices (λ (n : NetDevice). n.id) in
    record {
      lower = λ n j m h. rank_lower ps (potential n) (potential d) (potential_in D potential n ds j m) h;
      few = omega (arith, below, few, many);
      narrow = λ least greatest h.
          let from = rank_from least ps (potentials_from D potential least ds (λ n j m. (h n j m).0)) (potential d) in
          let top = (h d i l).1 in
          omega (arith, from, top);
    }
