-- A network lies within an envelope where look-ups say so.
use Rattle.std.proofs.Common.{◌≡◌, ◌≤◌, ◌<◌, ℕ, List, [], ◌∷◌, map, refl, sym, ◌∙◌, ap, subst, arith, Bool}
use Rattle.std.proofs.Common.{true, false, ◌&&◌, ◌||◌, nat_eq, inl, inr, if◌then◌else◌}
use Rattle.std.proofs.lemmas.Bool.{eqb-true, eq-eqb}
use Rattle.fc_values.specs.Types.{Declarations}
use Rattle.fc_values.specs.Fields.{Rises, is_in}
use Rattle.fc_values.proofs.Rising.{rises_apart, rises_tail}
use Rattle.topology.specs.Networks.{NetDevice, Edge, Network, IsNetwork, numbers, lives, inputs_in, BeforeAll, LinksFit}
use Rattle.topology.specs.Changes.{is_pair, has_pair}
use Rattle.value_bounds.proofs.Values.{itself}
use Rattle.bound_firing.specs.Firing.{InputsLie}
use Rattle.envelopes.specs.Envelopes.{MaybeDevice, MaybeLink, Envelope, ids, sure_in, surely_lives, bounds_in, least_edge}
use Rattle.envelopes.specs.Envelopes.{IsEnvelope, DevicesWithin, no_device, is_there, is_away, LinkWithin, LinksWithin}
use Rattle.envelopes.specs.Envelopes.{no_link, is_linked, is_unlinked, LiesWithin}
use Rattle.envelopes.specs.Edits.{is_pair_of, sure_link, MayLink}
use Rattle.envelopes.specs.Lookups.{AllMayLink, LiesByLookups}
use Rattle.envelope_bounds.specs.Laws.{LookupsAgree}
use Rattle.envelopes.proofs.Within.{later_above, may_live_in, away_in, inputs_within}
use Rattle.envelope_bounds.proofs.EditsStay.{clash, any_true, in_front, not_first, pair_is, before_pair, pair_same}

-- ---- devices

-- what look-ups say of devices
record DevicesLie (ms : List MaybeDevice) (ns : List NetDevice) : Type 0 where
  pub devices : (d : ℕ) → is_in d (numbers ns) ≡ true → is_in d (ids ms) ≡ true
  pub inputs : (d : ℕ) → is_in d (numbers ns) ≡ true → InputsLie (bounds_in d ms) (inputs_in d ns)
  pub sure : (d : ℕ) → sure_in d ms ≡ true → is_in d (numbers ns) ≡ true

-- a sure device is one of them
sure_there : (d : ℕ) (ms : List MaybeDevice) → sure_in d ms ≡ true → is_in d (ids ms) ≡ true
sure_there d [] h = absurd cc
sure_there d (m ∷ ms) h = by_test (nat_eq d m.id) h (sure_there d ms)
  where
    by_test : (c : Bool) → (if c then m.sure else sure_in d ms) ≡ true
        → (sure_in d ms ≡ true → is_in d (ids ms) ≡ true) → (c || is_in d (ids ms)) ≡ true
    by_test true g ih = refl
    by_test false g ih = ih g

is_none : (d k : ℕ) (ks : List ℕ) → nat_eq d k ≡ false → (nat_eq d k || is_in d ks) ≡ true → is_in d ks ≡ true
is_none d k ks t h = rw t at h

-- the first may be away: the rest lies as all did
first_away : (m : MaybeDevice) (ms : List MaybeDevice) (ns : List NetDevice) → Rises (m.id ∷ ids ms)
    → is_in m.id (numbers ns) ≡ false → DevicesLie (m ∷ ms) ns → DevicesLie ms ns
first_away m ms ns u gone h = record {
  devices = λ d l. is_none d m.id (ids ms) (other d l) (h.devices d l);
  inputs = λ d l.
      let t = other d l in
      let g : InputsLie (if nat_eq d m.id then m.inputs else bounds_in d ms) (inputs_in d ns) = h.inputs d l in
      rw t at g;
  sure = λ d s.
      let t = not_first d m.id (ids ms) u (sure_there d ms s) in
      let g : (if nat_eq d m.id then m.sure else sure_in d ms) ≡ true = rw t s in
      h.sure d g;
}
  where
    other : (d : ℕ) → is_in d (numbers ns) ≡ true → nat_eq d m.id ≡ false
    other d l = by_test (nat_eq d m.id) refl
      where
        by_test : (c : Bool) → nat_eq d m.id ≡ c → nat_eq d m.id ≡ false
        by_test false t = t
        by_test true t =
            absurd (clash (is_in m.id (numbers ns)) (subst (λ k. is_in k (numbers ns) ≡ true) (eqb-true d m.id t) l)
            gone)

-- the first is there: the rest lies within the rest
both_first : (m : MaybeDevice) (ms : List MaybeDevice) (n : NetDevice) (ns : List NetDevice) → Rises (m.id ∷ ids ms)
    → Rises (n.id ∷ numbers ns) → n.id ≡ m.id → DevicesLie (m ∷ ms) (n ∷ ns) → DevicesLie ms ns
both_first m ms n ns u v e h = record {
  devices = λ d l.
      let t = apart d l in
      is_none d m.id (ids ms) t (h.devices d (in_front d n.id (numbers ns) l));
  inputs = λ d l.
      let t = apart d l in
      let t' = not_first d n.id (numbers ns) v l in
      let g : InputsLie (if nat_eq d m.id then m.inputs else bounds_in d ms)
      (if nat_eq d n.id then n.inputs else inputs_in d ns) = h.inputs d (in_front d n.id (numbers ns) l) in
      rw (t, t') at g;
  sure = λ d s.
      let t = not_first d m.id (ids ms) u (sure_there d ms s) in
      let g : (if nat_eq d m.id then m.sure else sure_in d ms) ≡ true = rw t s in
      is_none d n.id (numbers ns) (ap (nat_eq d) e ∙ t) (h.sure d g);
}
  where
    apart : (d : ℕ) → is_in d (numbers ns) ≡ true → nat_eq d m.id ≡ false
    apart d l = ap (nat_eq d) (sym e) ∙ not_first d n.id (numbers ns) v l

no_sure : (m : MaybeDevice) (ms : List MaybeDevice) (ns : List NetDevice) → is_in m.id (numbers ns) ≡ false
    → DevicesLie (m ∷ ms) ns → m.sure ≡ false
no_sure m ms ns gone h = by_test m.sure refl
  where
    by_test : (s : Bool) → m.sure ≡ s → m.sure ≡ false
    by_test false q = q
    by_test true q =
        let t = itself m.id in
        let g : (if nat_eq m.id m.id then m.sure else sure_in m.id ms) ≡ true = rw t q in
        absurd (clash (is_in m.id (numbers ns)) (h.sure m.id g) gone)

devices_by : (ms : List MaybeDevice) (ns : List NetDevice) → Rises (ids ms) → Rises (numbers ns) → DevicesLie ms ns
    → DevicesWithin ms ns
devices_by [] [] u v h = no_device
devices_by [] (n ∷ ns) u v h =
    let t = itself n.id in
    let here : (nat_eq n.id n.id || is_in n.id (numbers ns)) ≡ true = rw t refl in
    let z = h.devices n.id here in
    absurd cc
devices_by (m ∷ ms) [] u v h =
    is_away m (no_sure m ms [] refl h)
    (devices_by ms [] (rises_tail m.id (ids ms) u) tt (first_away m ms [] u refl h))
devices_by (m ∷ ms) (n ∷ ns) u v h = by_test (nat_eq n.id m.id) refl
    (λ k. devices_by ms ns (rises_tail m.id (ids ms) u) (rises_tail n.id (numbers ns) v) k)
    (λ k. devices_by ms (n ∷ ns) (rises_tail m.id (ids ms) u) v k)
  where
    here : (nat_eq n.id n.id || is_in n.id (numbers ns)) ≡ true
    here = let t = itself n.id in rw t refl

    -- the first device of the network comes later: the first one isn't there
    gone : nat_eq n.id m.id ≡ false → is_in m.id (n.id ∷ numbers ns) ≡ false
    gone t =
        let l = later_above m.id n.id (ids ms) u (is_none n.id m.id (ids ms) t (h.devices n.id here)) in
        rises_apart m.id (n.id ∷ numbers ns) (l, v)

    by_test : (c : Bool) → nat_eq n.id m.id ≡ c → (DevicesLie ms ns → DevicesWithin ms ns)
        → (DevicesLie ms (n ∷ ns) → DevicesWithin ms (n ∷ ns)) → DevicesWithin (m ∷ ms) (n ∷ ns)
    by_test true t both alone =
        let e = eqb-true n.id m.id t in
        let own = itself n.id in
        let g : InputsLie (if nat_eq n.id m.id then m.inputs else bounds_in n.id ms)
        (if nat_eq n.id n.id then n.inputs else inputs_in n.id ns) = h.inputs n.id here in
        is_there m n e (rw (t, own) at g) (both (both_first m ms n ns u v e h))
    by_test false t both alone =
        is_away m (no_sure m ms (n ∷ ns) (gone t) h) (alone (first_away m ms (n ∷ ns) u (gone t) h))

-- ---- links

record LinksLie (ms : List MaybeLink) (ls : List Edge) : Type 0 where
  pub links : AllMayLink ms ls
  pub sure : (a b : ℕ) → sure_link a b ms ≡ true → has_pair a b ls ≡ true

both : (p q : Bool) → (p && q) ≡ true → (p ≡ true) × (q ≡ true)
both true true h = (refl, refl)
both true false h = absurd cc
both false q h = absurd cc

later : (a b : ℕ) (m : MaybeLink) (ms : List MaybeLink) → sure_link a b ms ≡ true → sure_link a b (m ∷ ms) ≡ true
later a b m ms s = rw s (any_true (is_pair_of a b m && m.sure))

unsure : (m : MaybeLink) (ms : List MaybeLink) (ls : List Edge) → has_pair m.a m.b ls ≡ false → LinksLie (m ∷ ms) ls
    → m.sure ≡ false
unsure m ms ls gone h = by_test m.sure refl
  where
    by_test : (s : Bool) → m.sure ≡ s → m.sure ≡ false
    by_test false q = q
    by_test true q =
        let t = itself m.a in
        let t' = itself m.b in
        let g : sure_link m.a m.b (m ∷ ms) ≡ true = rw (t, t', q) refl in
        absurd (clash (has_pair m.a m.b ls) (h.sure m.a m.b g) gone)

-- a pair that comes later isn't the first
other_pair : (a b : ℕ) (m n : MaybeLink) → m.a ≤ n.a → (m.a ≡ n.a → m.b < n.b) → is_pair_of a b n ≡ true
    → is_pair_of a b m ≡ false
other_pair a b m n first second t = by_test (is_pair_of a b m) refl
  where
    by_test : (c : Bool) → is_pair_of a b m ≡ c → is_pair_of a b m ≡ false
    by_test false q = q
    by_test true q =
        let x = pair_is a b m q in
        let y = pair_is a b n t in
        let k = second (x.0 ∙ sym y.0) in
        let p = x.1 in
        let r = y.1 in
        absurd (omega (arith, k, p, r))

sure_pair : (a b : ℕ) (m : MaybeLink) (ms : List MaybeLink) → BeforeAll (least_edge m) (map least_edge ms)
    → sure_link a b ms ≡ true → is_pair_of a b m ≡ false
sure_pair a b m [] u h = absurd cc
sure_pair a b m (n ∷ ns) u h = by_test (is_pair_of a b n) refl h (sure_pair a b m ns u.1)
  where
    by_test : (c : Bool) → is_pair_of a b n ≡ c → ((c && n.sure) || sure_link a b ns) ≡ true
        → (sure_link a b ns ≡ true → is_pair_of a b m ≡ false) → is_pair_of a b m ≡ false
    by_test false t g ih = ih g
    by_test true t g ih = other_pair a b m n u.0.first u.0.second t

-- none of some links is of the pair of a link
abbrev NotPair : MaybeLink → List Edge → Type 0
NotPair m [] = Unit {0}
NotPair m (l ∷ ls) = (is_pair_of l.a l.b m ≡ false) × NotPair m ls

not_later : (m : MaybeLink) (l : Edge) (ls : List Edge) → m.a ≤ l.a → (m.a ≡ l.a → m.b ≤ l.b) → BeforeAll l ls
    → NotPair m ls
not_later m l [] first second u = tt
not_later m l (k ∷ ks) first second u =
    (by_test (is_pair_of k.a k.b m) refl, not_later m l ks first second u.1)
  where
    by_test : (c : Bool) → is_pair_of k.a k.b m ≡ c → is_pair_of k.a k.b m ≡ false
    by_test false q = q
    by_test true q =
        let x = pair_is k.a k.b m q in
        let p = x.0 in
        let r = x.1 in
        let f = u.0.first in
        let e : m.a ≡ l.a = omega (arith, p, f, first) in
        let s = second e in
        let g = u.0.second (sym e ∙ p) in
        absurd (omega (arith, r, s, g))

drop_first : (m : MaybeLink) (ms : List MaybeLink) (ls : List Edge) → NotPair m ls → AllMayLink (m ∷ ms) ls
    → AllMayLink ms ls
drop_first m ms [] n h = tt
drop_first m ms (l ∷ ls) n h = (by_case h.0, drop_first m ms ls n.1 h.1)
  where
    by_case : MayLink l.a l.b l.weight (m ∷ ms) → MayLink l.a l.b l.weight ms
    by_case (inl k) = absurd (clash (is_pair_of l.a l.b m) k.0 n.0)
    by_case (inr k) = k

-- links that may be there behind a link aren't of its pair
none_pair : (m : MaybeLink) (ms : List MaybeLink) (ls : List Edge) → BeforeAll (least_edge m) (map least_edge ms)
    → AllMayLink ms ls → has_pair m.a m.b ls ≡ false
none_pair m ms [] u h = refl
none_pair m ms (l ∷ ls) u h =
    let r = none_pair m ms ls u h.1 in
    let t = apart (is_pair m.a m.b l) refl in
    rw (t, r) refl
  where
    p : (m.a ≤ l.a) × (m.a ≡ l.a → m.b < l.b)
    p = before_pair l.a l.b l.weight m ms u h.0

    apart : (c : Bool) → is_pair m.a m.b l ≡ c → is_pair m.a m.b l ≡ false
    apart false q = q
    apart true q =
        let x = both (nat_eq l.a m.a) (nat_eq l.b m.b) q in
        let e = eqb-true l.a m.a x.0 in
        let e' = eqb-true l.b m.b x.1 in
        let k = p.1 (sym e) in
        absurd (omega (arith, k, e'))

module _ (D : Declarations) (ds : List ℕ) where
  links_by : (ms : List MaybeLink) (ls : List Edge) → LinksFit D ds (map least_edge ms)
      → (C : Declarations) (cs : List ℕ) → LinksFit C cs ls → LinksLie ms ls → LinksWithin ms ls
  links_by [] [] u C cs v h = no_link
  links_by [] (l ∷ ls) u C cs v h = absurd h.links.0
  links_by (m ∷ ms) [] u C cs v h = is_unlinked m (unsure m ms [] refl h)
      (links_by ms [] u.2 C cs tt (record { links = tt; sure = λ a b s. h.sure a b (later a b m ms s) }))
  links_by (m ∷ ms) (l ∷ ls) u C cs v h = by_test (is_pair_of l.a l.b m) refl h.links.0
      (λ k. links_by ms ls u.2 C cs v.2 k) (λ k. links_by ms (l ∷ ls) u.2 C cs v k)
    where
      lie_behind : LinkWithin m l → LinksLie ms ls
      lie_behind w = record {
        links =
            let e = w.a in
            let e' = w.b in
            drop_first m ms ls (not_later m l ls (omega (arith, e)) (λ q. omega (arith, e')) v.1) h.links.1;
        sure = λ a b s.
            let t = sure_pair a b m ms u.1 s in
            let q : is_pair a b l ≡ false = pair_same a b m l w ∙ t in
            let g = h.sure a b (later a b m ms s) in
            rw q at g;
      }

      by_test : (c : Bool) → is_pair_of l.a l.b m ≡ c → MayLink l.a l.b l.weight (m ∷ ms)
          → (LinksLie ms ls → LinksWithin ms ls) → (LinksLie ms (l ∷ ls) → LinksWithin ms (l ∷ ls))
          → LinksWithin (m ∷ ms) (l ∷ ls)
      by_test true t (inl k) rest alone =
          let x = pair_is l.a l.b m t in
          let w : LinkWithin m l = record { a = sym x.0; b = sym x.1; above = k.1; below = k.2 } in
          is_linked m l w (rest (lie_behind w))
      by_test true t (inr k) rest alone =
          let x = pair_is l.a l.b m t in
          let p = before_pair l.a l.b l.weight m ms u.1 k in
          let y = p.1 x.0 in
          let z = x.1 in
          absurd (omega (arith, y, z))
      by_test false t (inl k) rest alone = absurd (clash (is_pair_of l.a l.b m) k.0 t)
      by_test false t (inr k) rest alone =
          let p = before_pair l.a l.b l.weight m ms u.1 k in
          let first = p.0 in
          let n = not_later m l ls first (λ q. let y = p.1 q in omega (arith, y)) v.1 in
          let all : AllMayLink ms (l ∷ ls) = drop_first m ms (l ∷ ls) (t, n) h.links in
          is_unlinked m (unsure m ms (l ∷ ls) (none_pair m ms (l ∷ ls) u.1 all) h)
          (alone (record { links = all; sure = λ a b s. h.sure a b (later a b m ms s) }))

-- ---- both ways

all_more : (m : MaybeLink) (ms : List MaybeLink) (ls : List Edge) → AllMayLink ms ls → AllMayLink (m ∷ ms) ls
all_more m ms [] h = tt
all_more m ms (l ∷ ls) h = (inr h.0, all_more m ms ls h.1)

links_may : {ms : List MaybeLink} {ls : List Edge} → LinksWithin ms ls → AllMayLink ms ls
links_may no_link = tt
links_may (is_unlinked m {ms} {ls} u r) = all_more m ms ls (links_may r)
links_may (is_linked m l {ms} {ls} h r) =
    let t = eq-eqb m.a l.a (sym h.a) in
    let t' = eq-eqb m.b l.b (sym h.b) in
    let q : is_pair_of l.a l.b m ≡ true = rw (t, t') refl in
    (inl (q, h.above, h.below), all_more m ms ls (links_may r))

links_sure : (a b : ℕ) {ms : List MaybeLink} {ls : List Edge} → LinksWithin ms ls → sure_link a b ms ≡ true
    → has_pair a b ls ≡ true
links_sure a b no_link h = absurd cc
links_sure a b (is_unlinked m {ms} {ls} u r) h = links_sure a b r (by_test (is_pair_of a b m) h)
  where
    by_test : (c : Bool) → ((c && m.sure) || sure_link a b ms) ≡ true → sure_link a b ms ≡ true
    by_test false g = g
    by_test true g = rw u at g
links_sure a b (is_linked m l {ms} {ls} w r) h =
    by_test (is_pair_of a b m) refl (pair_same a b m l w) h (links_sure a b r)
  where
    by_test : (c : Bool) → is_pair_of a b m ≡ c → is_pair a b l ≡ is_pair_of a b m
        → ((c && m.sure) || sure_link a b ms) ≡ true → (sure_link a b ms ≡ true → has_pair a b ls ≡ true)
        → (is_pair a b l || has_pair a b ls) ≡ true
    by_test true t e g ih = let e' = e ∙ t in rw e' refl
    by_test false t e g ih = let e' = e ∙ t in rw e' (ih g)

module _ (E : Envelope) (N : Network) (envelope : IsEnvelope E) (net : IsNetwork N) where
  to_within : LiesByLookups E N → LiesWithin E N
  to_within h = record {
    declared = h.declared;
    devices = devices_by E.devices N.devices envelope.rising net.rising
        (record { devices = h.devices; inputs = h.inputs; sure = h.sure });
    links = links_by E.declared (ids E.devices) E.links N.links envelope.links N.declared (numbers N.devices) net.links
        (record { links = h.links; sure = h.sure_links });
  }

  from_within : LiesWithin E N → LiesByLookups E N
  from_within h = record {
    declared = h.declared;
    devices = λ d l. may_live_in d h.devices l;
    inputs = λ d l. inputs_within d envelope.rising h.devices l;
    sure = λ d s. by_test d s (lives N d) refl;
    links = links_may h.links;
    sure_links = λ a b s. links_sure a b h.links s;
  }
    where
      by_test : (d : ℕ) → surely_lives E d ≡ true → (c : Bool) → lives N d ≡ c → lives N d ≡ true
      by_test d s true q = q
      by_test d s false q = absurd (clash (surely_lives E d) s (away_in d h.devices q))

pub lookups_agree : LookupsAgree
lookups_agree E N envelope net = (to_within E N envelope net, from_within E N envelope net)
