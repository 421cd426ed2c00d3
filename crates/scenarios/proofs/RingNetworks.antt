-- Rings are networks.
use Rattle.std.proofs.Common.{◌≡◌, ℕ, zero, suc, ◌<◌, ◌≤◌, ◌+◌, ◌-◌, ◌%◌, List, length, refl, sym, ◌∙◌, ap, subst, arith, Bool, true, false, ◌||◌}
use Rattle.std.proofs.Common.{nat_eq, nat_lt, eqb-true, ltb-true}
use Rattle.std.proofs.lemmas.Bool.{eqb-false}
use Rattle.std.proofs.lemmas.Bool.Decides.{nat_tests}
use Rattle.fc_values.specs.Fields.{Rises, is_in}
use Rattle.topology.specs.Networks.{Edge, network_of, numbers, near_in, IsNetwork, DevicesFit, LinkFits, LinksFit, BeforeAll}
use Rattle.scenarios.specs.Laws.{RingsAreNetworks}
use Rattle.scenarios.specs.Rings.{ring_declared, ring_devices, ring_links, edge_between, chain}
use Rattle.scenarios.proofs.Neighbours.{near_first, near_inner, near_last, near_none}

many : (s k n : ℕ) → length (ring_devices s k n) ≡ n
many s k zero = refl
many s k (suc n) = ap suc (many s (suc k) n)

rising : (s k n : ℕ) → Rises (numbers (ring_devices s k n))
rising s k zero = tt
rising s k (suc zero) = tt
rising s k (suc (suc n)) = (omega arith, rising s (suc k) (suc n))

fit : (count s k n : ℕ) → k + n ≤ 65536 → DevicesFit (ring_declared count) (ring_devices s k n)
fit count s k zero h = tt
fit count s k (suc n) h = (omega arith, (tt, tt), fit count s (suc k) n (omega arith))

there : (s k n d : ℕ) → k ≤ d → d < k + n → is_in d (numbers (ring_devices s k n)) ≡ true
there s k zero d a b = absurd (omega arith)
there s k (suc n) d a b = by_test (nat_eq d k) refl (λ c. there s (suc k) n d c (omega arith))
  where
    by_test : (q : Bool) → nat_eq d k ≡ q → (suc k ≤ d → is_in d (numbers (ring_devices s (suc k) n)) ≡ true) → (q || is_in d (numbers (ring_devices s (suc k) n))) ≡ true
    by_test true e ih = refl
    by_test false e ih = let ne : d ≡ k → ⊥ = grind (arith, nat_tests) in ih (omega arith)

-- ---- links

before : (l : Edge) (k n : ℕ) → l.a < k → BeforeAll l (chain k n)
before l k zero h = tt
before l k (suc n) h = (record { first = omega arith; second = λ e. absurd (omega arith) }, before l (suc k) n (omega arith))

module _ (count s : ℕ) where
  ds : List ℕ
  ds = numbers (ring_devices s 0 count)

  link_fits : (a b : ℕ) → a < b → b < count → LinkFits (ring_declared count) (numbers (ring_devices s 0 count)) (edge_between a b)
  link_fits a b h l = record {
    order = h;
    from = there s 0 count a (omega arith) (omega arith);
    to = there s 0 count b (omega arith) (omega arith);
    above = omega arith;
    below = omega arith;
  }

  chain_fits : (k n : ℕ) → k + n < count → LinksFit (ring_declared count) (numbers (ring_devices s 0 count)) (chain k n)
  chain_fits k zero h = tt
  chain_fits k (suc n) h = (link_fits k (k + 1) (omega arith) (omega arith), before (edge_between k (k + 1)) (suc k) n (omega arith), chain_fits (suc k) n (omega arith))

  links_fit : 3 ≤ count → LinksFit (ring_declared count) (numbers (ring_devices s 0 count)) (ring_links count)
  links_fit h = (
    link_fits 0 1 (omega arith) (omega arith),
    (record { first = omega arith; second = λ e. omega arith }, before (edge_between 0 1) 1 (count - 2) (omega arith)),
    (link_fits 0 (count - 1) (omega arith) (omega arith), before (edge_between 0 (count - 1)) 1 (count - 2) (omega arith), chain_fits 1 (count - 2) (omega arith)),
  )

-- a device has two neighbours, and a number behind those of the devices none
few_links : (count : ℕ) → 3 ≤ count → (d : ℕ) → length (near_in d (ring_links count)) ≤ 32
few_links count low d = by_tests (nat_eq d 0) refl (nat_eq d (count - 1)) refl (nat_lt d count) refl
  where
    few : (ns : List (ℕ × ℕ)) → near_in d (ring_links count) ≡ ns → length ns ≤ 32 → length (near_in d (ring_links count)) ≤ 32
    few ns e h = subst (λ (ms : List (ℕ × ℕ)). length ms ≤ 32) (sym e) h

    by_tests : (p : Bool) → nat_eq d 0 ≡ p → (q : Bool) → nat_eq d (count - 1) ≡ q → (r : Bool) → nat_lt d count ≡ r → length (near_in d (ring_links count)) ≤ 32
    by_tests true e q f r g = few _ (ap (λ k. near_in k (ring_links count)) (eqb-true d 0 e) ∙ near_first count low) (omega arith)
    by_tests false e true f r g = few _ (ap (λ k. near_in k (ring_links count)) (eqb-true d (count - 1) f) ∙ near_last count low) (omega arith)
    by_tests false e false f true g =
        let some = eqb-false d 0 e in
        let apart = eqb-false d (count - 1) f in
        let less = ltb-true d count g in
        few _ (near_inner count low d (omega (arith, some)) (omega (arith, apart, less))) (omega arith)
    by_tests false e false f false g = few _ (near_none count low d (grind (arith, nat_tests))) (omega arith)

pub ring_network : (s count : ℕ) → 3 ≤ count → count ≤ 512 → IsNetwork (network_of (ring_declared count) (ring_devices s 0 count) (ring_links count))
ring_network s count h l =
    let m = many s 0 count in
    record {
      some = omega (arith, m);
      few = omega (arith, m);
      rising = rising s 0 count;
      devices = fit count s 0 count (omega arith);
      links = links_fit count s h;
      degree = few_links count h;
    }

pub rings_are_networks : RingsAreNetworks
rings_are_networks number count low high = record {
  network = ring_network (number % count) count low high;
  devices = many (number % count) 0 count;
  declared = refl;
  first = near_first count low;
  inner = near_inner count low;
  last = near_last count low;
}
