-- Where a device stands among rising devices, and a link among rising links.
use Rattle.std.proofs.Common.{◌≡◌, ℕ, zero, suc, ◌+◌, ◌<◌, inl, inr, List, [], ◌∷◌, length, map, get_or, refl, sym, ◌∙◌, ap, subst, arith, Bool, true, false, cond, nat_eq, nat_lt, ◌||◌, ◌&&◌}
use Rattle.std.specs.List.{prefix_len, remove}
use Rattle.std.specs.List.Sorted.{IsPartitionedBy}
use Rattle.std.proofs.lemmas.Bool.{eqb-true, eqb-false, eq-eqb, ltb-true, ltb-false, lt-ltb, ne_eqb}
use Rattle.fc_values.specs.Fields.{Rises, is_in}
use Rattle.topology.specs.declared.types.Device.{Device}
use Rattle.topology.specs.declared.types.Link.{Link}
use Rattle.topology.specs.Networks.{NetDevice, Edge, net_device_of, edge_of, numbers, Before, BeforeAll, IsRisingLinks}
use Rattle.topology.specs.Changes.{is_before, is_pair, has_pair, drop_pair}
use Rattle.topology.proofs.Replaced.{Later, Arranged, later_kept}
use Rattle.topology.proofs.NearChanges.{before_ends}
use Rattle.topology.proofs.Devices.{rises_apart}
use Rattle.fc_values.proofs.Rising.{rises_tail, rises_at}

-- ---- devices

pub number_get : (xs : List Device) (i : ℕ) (d : Device) → i < length xs → get_or (numbers (map net_device_of xs)) i 0 ≡ (get_or xs i d).id
number_get [] i d h = absurd (omega arith)
number_get (x ∷ xs) zero d h = refl
number_get (x ∷ xs) (suc i) d h = number_get xs i d (omega arith)

pub numbers_length : (xs : List Device) → length (numbers (map net_device_of xs)) ≡ length xs
numbers_length [] = refl
numbers_length (x ∷ xs) = ap suc (numbers_length xs)

pub devices_parted : (id : ℕ) (xs : List Device) → Rises (numbers (map net_device_of xs)) → IsPartitionedBy (λ (x : Device). nat_lt x.id id) xs
devices_parted id xs r i j d h l t = by_test (nat_eq i j) refl
  where
    by_test : (q : Bool) → nat_eq i j ≡ q → nat_lt (get_or xs i d).id id ≡ true
    by_test true e = let k = eqb-true i j e in subst (λ m. nat_lt (get_or xs m d).id id ≡ true) (sym k) t
    by_test false e =
        let k = eqb-false i j e in
        let u = rises_at (numbers (map net_device_of xs)) r i j (omega (arith, k)) (omega (arith, numbers_length xs)) in
        let v = ltb-true (get_or xs j d).id id t in
        lt-ltb (get_or xs i d).id id (omega (arith, number_get xs i d (omega arith), number_get xs j d l))

-- a device of which neither the number at its place nor any other is, isn't there
pub not_there : (id k : ℕ) (ns : List NetDevice) → Rises (numbers ns) → k ≡ prefix_len (λ (n : NetDevice). nat_lt n.id id) ns → (k < length ns → get_or (numbers ns) k 0 ≡ id → ⊥) → is_in id (numbers ns) ≡ false
not_there id k [] r e h = refl
not_there id k (n ∷ ns) r e h = by_test (nat_lt n.id id) refl e (λ m g f. not_there id m ns (rises_tail n.id (numbers ns) r) g f)
  where
    by_test : (q : Bool) → nat_lt n.id id ≡ q → k ≡ cond q (1 + prefix_len (λ (n : NetDevice). nat_lt n.id id) ns) 0
        → ((m : ℕ) → m ≡ prefix_len (λ (n : NetDevice). nat_lt n.id id) ns → (m < length ns → get_or (numbers ns) m 0 ≡ id → ⊥) → is_in id (numbers ns) ≡ false)
        → is_in id (numbers (n ∷ ns)) ≡ false
    by_test true t u ih =
        let v = ltb-true n.id id t in
        rw (ne_eqb id n.id (λ x. absurd (omega arith)))
        (ih (prefix_len (λ (n : NetDevice). nat_lt n.id id) ns) refl (λ x y. h (omega arith) (at_next (prefix_len (λ (n : NetDevice). nat_lt n.id id) ns) u y)))
      where
        at_next : (m : ℕ) → k ≡ 1 + m → get_or (numbers ns) m 0 ≡ id → get_or (n.id ∷ numbers ns) k 0 ≡ id
        at_next m u y = let w : k ≡ suc m = omega arith in rw w y
    by_test false t u ih =
        let v = ltb-false n.id id t in
        let w : id ≡ n.id → ⊥ = λ x. h (omega arith) (rw u (sym x)) in
        rises_apart id (n ∷ ns) (omega (arith, w), r)

-- ---- links

before_closed : (a b : ℕ) (l m : Edge) → Before l m → is_before a b m ≡ true → is_before a b l ≡ true
before_closed a b l m p t = elim (before_ends a b m t) [
  | inl h ↦ let x = p.first in rw (lt-ltb l.a a (omega arith)) refl
  | inr h ↦ by_test (nat_eq l.a a) refl h
]
  where
    by_test : (q : Bool) → nat_eq l.a a ≡ q → (m.a ≡ a) × (m.b < b) → is_before a b l ≡ true
    by_test true e h = let x = eqb-true l.a a e in let y : l.b < m.b = p.second (x ∙ sym h.0) in let z = h.1 in rw (e, lt-ltb l.b b (omega arith)) (last (nat_lt l.a a))
      where
        last : (q : Bool) → (q || true) ≡ true
        last true = refl
        last false = refl
    by_test false e h = let x = eqb-false l.a a e in let y = p.first in let z = h.0 in rw (lt-ltb l.a a (omega (arith, x))) refl

before_get : (l : Edge) (ms : List Link) (j : ℕ) (d : Link) → BeforeAll l (map edge_of ms) → j < length ms → Before l (edge_of (get_or ms j d))
before_get l [] j d b h = absurd (omega arith)
before_get l (m ∷ ms) zero d b h = b.0
before_get l (m ∷ ms) (suc j) d b h = before_get l ms j d b.1 (omega arith)

pub links_parted : (a b : ℕ) (ls : List Link) → IsRisingLinks (map edge_of ls) → IsPartitionedBy (λ (l : Link). is_before a b (edge_of l)) ls
links_parted a b [] r i j d h l t = absurd (omega arith)
links_parted a b (m ∷ ms) r zero zero d h l t = t
links_parted a b (m ∷ ms) r zero (suc j) d h l t = before_closed a b (edge_of m) (edge_of (get_or ms j d)) (before_get (edge_of m) ms j d r.0 (omega arith)) t
links_parted a b (m ∷ ms) r (suc i) zero d h l t = absurd (omega arith)
links_parted a b (m ∷ ms) r (suc i) (suc j) d h l t = links_parted a b ms r.1 i j d (omega arith) (omega arith) t

-- ---- links are arranged round any pair

before_pair : (a b : ℕ) (l m : Edge) → Before l m → m.a ≡ a → m.b ≡ b → is_before a b l ≡ true
before_pair a b l m p e f = by_test (nat_lt l.a a) refl
  where
    by_test : (q : Bool) → nat_lt l.a a ≡ q → (q || (nat_eq l.a a && nat_lt l.b b)) ≡ true
    by_test true t = refl
    by_test false t =
        let u = ltb-false l.a a t in
        let v = p.first in
        let x : l.a ≡ m.a = omega arith in
        let y = p.second x in
        rw (eq-eqb l.a a (x ∙ e), lt-ltb l.b b (omega arith)) refl

links_later : (a b : ℕ) (l : Edge) (ms : List Edge) → is_before a b l ≡ false → BeforeAll l ms → Later (is_before a b) (is_pair a b) ms
links_later a b l [] t p = tt
links_later a b l (m ∷ ms) t p = (none (is_before a b m) refl, other (nat_eq m.a a) (nat_eq m.b b) refl refl, links_later a b l ms t p.1)
  where
    none : (q : Bool) → is_before a b m ≡ q → q ≡ false
    none true e = let f = before_closed a b l m p.0 e in absurd cc
    none false e = refl

    other : (q r : Bool) → nat_eq m.a a ≡ q → nat_eq m.b b ≡ r → (q && r) ≡ false
    other true true e f = let g = before_pair a b l m p.0 (eqb-true m.a a e) (eqb-true m.b b f) in absurd cc
    other true false e f = refl
    other false r e f = refl

pub links_arranged : (a b : ℕ) (ls : List Edge) → IsRisingLinks ls → Arranged (is_before a b) (is_pair a b) ls
links_arranged a b [] r = tt
links_arranged a b (l ∷ ls) r = (apart, λ t. links_later a b l ls t r.0, links_arranged a b ls r.1)
  where
    apart : is_before a b l ≡ true → is_pair a b l ≡ false
    apart t = elim (before_ends a b l t) [
      | inl h ↦ rw (ne_eqb l.a a (λ e. absurd (omega arith))) refl
      | inr h ↦ let k = h.1 in rw (ne_eqb l.b b (λ e. absurd (omega arith))) (never (nat_eq l.a a))
    ]
      where
        never : (q : Bool) → (q && false) ≡ false
        never true = refl
        never false = refl

-- ---- the link of a pair has the place before which all others come first

none_later : (a b : ℕ) (ls : List Edge) → Later (is_before a b) (is_pair a b) ls → has_pair a b ls ≡ false
none_later a b [] l = refl
none_later a b (m ∷ ms) l = rw l.1 (none_later a b ms l.2)

abbrev Removes : ℕ → ℕ → List Edge → ℕ → Type 0
Removes a b ls k = k ≡ prefix_len (is_before a b) ls → (k < length ls) × (remove ls k ≡ drop_pair a b ls)

pub pair_removed : (a b : ℕ) (ls : List Edge) (at : ℕ) → Arranged (is_before a b) (is_pair a b) ls → has_pair a b ls ≡ true → Removes a b ls at
pair_removed a b [] at r t e = absurd (cc)
pair_removed a b (l ∷ ls) at r t e = by_test (is_before a b l) refl e (λ k u. pair_removed a b ls k r.2 u)
  where
    by_test : (q : Bool) → is_before a b l ≡ q → at ≡ cond q (1 + prefix_len (is_before a b) ls) 0 → ((k : ℕ) → has_pair a b ls ≡ true → Removes a b ls k)
        → (at < suc (length ls)) × (remove (l ∷ ls) at ≡ drop_pair a b (l ∷ ls))
    by_test true u v ih = further (prefix_len (is_before a b) ls) refl v
      where
        further : (k : ℕ) → k ≡ prefix_len (is_before a b) ls → at ≡ 1 + k → (at < suc (length ls)) × (remove (l ∷ ls) at ≡ drop_pair a b (l ∷ ls))
        further k w z =
            let s : at ≡ suc k = omega arith in
            let h = ih k (rw (r.0 u) at t) w in
            let i = h.0 in
            (omega arith, rw (s, r.0 u) (ap (λ ms. l ∷ ms) h.1))
    by_test false u v ih =
        let later = r.1 u in
        let same : is_pair a b l ≡ true = first (is_pair a b l) (none_later a b ls later) t in
        (omega arith, rw (v, same) (sym (later_kept (is_before a b) (is_pair a b) ls later)))
      where
        first : (q : Bool) → has_pair a b ls ≡ false → (q || has_pair a b ls) ≡ true → q ≡ true
        first true e f = refl
        first false e f = absurd (cc)
