-- The next of the links of a network can be added to those before it.
use Rattle.std.proofs.Common.{◌≡◌, ℕ, zero, suc, map, take, drop, get_or, ◌<◌, ◌≤◌, ◌⊎◌, inl, inr, min, max, List, [], ◌∷◌, ◌++◌, length, refl, sym, ◌∙◌, ap, arith, Bool, true, false, nat_eq, nat_lt, ◌&&◌, ◌||◌, Option, Some, None, Result, Ok, Err, IfErr, OnOk}
use Rattle.std.proofs.lemmas.Bool.{ltb-false, eqb-true, le-leb, lt-leb, ne_eqb, eq-eqb, lt-ltb}
use Rattle.fc_values.specs.Types.{Declarations}
use Rattle.topology.specs.declared.types.NetFault.{NetFault}
use Rattle.topology.specs.declared.types.Link.{Link}
use Rattle.topology.specs.Networks.{edge_of, NetDevice, Edge, network_of, numbers, near_in, Before, BeforeAll, LinkFits, LinksFit, IsNetwork}
use Rattle.topology.specs.Changes.{is_pair, is_before, has_pair, insert_edge, put_edge, are_linked, is_full, link_fault, linked}
use Rattle.topology.proofs.Links.{count, count_is, count_split, count_touch, pair_absent}

module _ (D : Declarations) (ds : List ℕ) (l : Edge) (ms : List Edge) where
  last_fits : (ls : List Edge) → LinksFit D ds (ls ++ l ∷ ms) → LinkFits D ds l
  last_fits [] f = f.0
  last_fits (k ∷ ks) f = last_fits ks f.2

  last_after : (k : Edge) (ks : List Edge) → BeforeAll k (ks ++ l ∷ ms) → Before k l
  last_after k [] b = b.0
  last_after k (j ∷ js) b = last_after k js b.1

  no_pair : (ls : List Edge) → LinksFit D ds (ls ++ l ∷ ms) → has_pair l.a l.b ls ≡ false
  no_pair [] f = refl
  no_pair (k ∷ ks) f = rw (other k (last_after k ks f.1)) (no_pair ks f.2)
    where
      other : (k : Edge) → Before k l → is_pair l.a l.b k ≡ false
      other k b = by_tests (nat_eq k.a l.a) (nat_eq k.b l.b) refl refl
        where
          by_tests : (p q : Bool) → nat_eq k.a l.a ≡ p → nat_eq k.b l.b ≡ q → (p && q) ≡ false
          by_tests true true e g = let x = b.second (eqb-true k.a l.a e) in let y = eqb-true k.b l.b g in absurd (omega arith)
          by_tests true false e g = refl
          by_tests false q e g = refl

  at_end : (ls : List Edge) → LinksFit D ds (ls ++ l ∷ ms) → insert_edge l ls ≡ ls ++ l ∷ []
  at_end [] f = refl
  at_end (k ∷ ks) f = rw (comes_first k (last_after k ks f.1)) (ap (λ xs. k ∷ xs) (at_end ks f.2))
    where
      comes_first : (k : Edge) → Before k l → is_before l.a l.b k ≡ true
      comes_first k b = by_test (nat_lt k.a l.a) refl
        where
          by_test : (q : Bool) → nat_lt k.a l.a ≡ q → (q || (nat_eq k.a l.a && nat_lt k.b l.b)) ≡ true
          by_test true e = refl
          by_test false e = let x : k.a ≡ l.a = same_end e in rw (eq-eqb k.a l.a x, lt-ltb k.b l.b (b.second x)) refl
            where
              same_end : nat_lt k.a l.a ≡ false → k.a ≡ l.a
              same_end e = let y = b.first in let z = ltb-false k.a l.a e in omega arith

  count_front : (d : ℕ) (ls : List Edge) → (l.a ≡ d) ⊎ (l.b ≡ d) → suc (count d ls) ≤ count d (ls ++ l ∷ ms)
  count_front d [] h = omega (arith, count_split d l ms, count_touch d l h, count_is d [])
  count_front d (k ∷ ks) h = omega (arith, count_front d ks h, count_split d k ks, count_split d k (ks ++ l ∷ ms))

module _ (D : Declarations) (ns : List NetDevice) (ls : List Edge) (l : Edge) (ms : List Edge) (net : IsNetwork (network_of D ns (ls ++ l ∷ ms))) where
  fits : LinkFits D (numbers ns) l
  fits = last_fits D (numbers ns) l ms ls net.links

  lesser : min l.a l.b ≡ l.a
  lesser = let o = fits.order in omega arith

  greater : max l.a l.b ≡ l.b
  greater = let o = fits.order in omega arith

  not_linked : are_linked (network_of D ns ls) l.a l.b ≡ false
  not_linked = ap (λ m. has_pair m (max l.a l.b) ls) lesser ∙ ap (λ m. has_pair l.a m ls) greater ∙ no_pair D (numbers ns) l ms ls net.links

  not_full : (d : ℕ) → (l.a ≡ d) ⊎ (l.b ≡ d) → is_full (network_of D ns ls) d ≡ false
  not_full d h = let k = net.degree d in lt-leb 32 (length (near_in d ls)) (omega (arith, count_front D (numbers ns) l ms d ls h, count_is d ls, count_is d (ls ++ l ∷ ms)))

  pub may_link : link_fault (network_of D ns ls) l.a l.b l.weight ≡ None
  may_link =
      let o = fits.order in
      rw (fits.from, fits.to, ne_eqb l.a l.b (λ e. absurd (omega arith)), le-leb D.least l.weight fits.above, le-leb l.weight D.greatest fits.below, not_linked, not_full l.a (inl refl), not_full l.b (inr refl)) refl

  pub linked_is : linked (network_of D ns ls) l.a l.b l.weight ≡ network_of D ns (ls ++ l ∷ [])
  linked_is =
      ap (network_of D ns)
      (ap (λ m. put_edge (edge m (max l.a l.b)) ls) lesser ∙ ap (λ m. put_edge (edge l.a m) ls) greater
      ∙ ap (insert_edge l) (pair_absent l.a l.b ls (no_pair D (numbers ns) l ms ls net.links)) ∙ at_end D (numbers ns) l ms ls net.links)
    where
      edge : ℕ → ℕ → Edge
      edge m n = record { a = m; b = n; weight = l.weight }

-- what holds of an answer that is no fault
pub no_refusal : {A : Type 0} {P : Type 0} (r : Result A NetFault) (o : Option NetFault) → o ≡ None → IfErr r (λ f. o ≡ Some f) → OnOk r P → P
no_refusal (Ok x) o e h p = p
no_refusal (Err f) o e h p = let g : Some f ≡ None = sym h ∙ e in absurd cc

-- links up to one of them, this one, and those after it
front_and : (xs : List Link) (i : ℕ) (d : Link) → i < length xs → map edge_of (take (suc i) xs) ≡ map edge_of (take i xs) ++ edge_of (get_or xs i d) ∷ []
front_and [] i d h = absurd (omega arith)
front_and (x ∷ xs) zero d h = refl
front_and (x ∷ xs) (suc i) d h = ap (λ ys. edge_of x ∷ ys) (front_and xs i d (omega arith))

pub up_to : (xs : List Link) (i j : ℕ) (d : Link) → j ≡ suc i → i < length xs → map edge_of (take j xs) ≡ map edge_of (take i xs) ++ edge_of (get_or xs i d) ∷ []
up_to xs i j d e h = ap (λ m. map edge_of (take m xs)) e ∙ front_and xs i d h

pub parted : (xs : List Link) (i : ℕ) (d : Link) → i < length xs → map edge_of xs ≡ map edge_of (take i xs) ++ edge_of (get_or xs i d) ∷ map edge_of (drop (suc i) xs)
parted [] i d h = absurd (omega arith)
parted (x ∷ xs) zero d h = refl
parted (x ∷ xs) (suc i) d h = ap (λ ys. edge_of x ∷ ys) (parted xs i d (omega arith))
