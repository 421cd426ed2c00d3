-- Crates above cite this module: what a network within an envelope has of it, and the neighbours in an envelope.
use Rattle.std.proofs.Common.{◌≡◌, ◌<◌, ℕ, List, [], ◌∷◌, map, refl, sym, ◌∙◌, ap, subst, arith, Bool, true, false}
use Rattle.std.proofs.Common.{◌&&◌, ◌||◌, if◌then◌else◌}
use Rattle.std.specs.Prelude.{nat_eq}
use Rattle.std.proofs.lemmas.Bool.{eqb-true}
use Rattle.fc_values.specs.Types.{Declarations}
use Rattle.fc_values.specs.Fields.{Rises, is_in}
use Rattle.fc_values.proofs.Rising.{rises_apart, rises_tail, rises_weaker}
use Rattle.topology.specs.Networks.{NetDevice, Network, LinksFit, numbers, lives, Lives, inputs_in, near_in}
use Rattle.topology.specs.Nearby.{neighbour_numbers}
use Rattle.topology.proofs.Lemmas.{AllNear, near_fits}
use Rattle.value_bounds.proofs.Values.{nat_same}
use Rattle.bound_firing.specs.Firing.{InputsLie}
use Rattle.envelopes.specs.Envelopes.{MaybeDevice, MaybeLink, Envelope, ids, MayLive, sure_in, surely_lives, bounds_in}
use Rattle.envelopes.specs.Envelopes.{maybe_near, near_ids, least_edge, IsEnvelope, DevicesWithin, no_device}
use Rattle.envelopes.specs.Envelopes.{is_there, is_away, LiesWithin}

-- ---- devices

-- what is among later numbers is greater
pub later_above : (k d : ℕ) (ks : List ℕ) → Rises (k ∷ ks) → is_in d ks ≡ true → k < d
later_above k d [] u h = absurd cc
later_above k d (n ∷ ns) u h = by_test (nat_eq d n) refl h (later_above k d ns (rises_weaker k n ns u.0 u.1))
  where
    by_test : (c : Bool) → nat_eq d n ≡ c → (c || is_in d ns) ≡ true → (is_in d ns ≡ true → k < d) → k < d
    by_test true t g ih = let e = eqb-true d n t in let l = u.0 in omega (arith, e, l)
    by_test false t g ih = ih g

-- a device that is there is one of the envelope
pub may_live_in : (d : ℕ) {ms : List MaybeDevice} {ns : List NetDevice} → DevicesWithin ms ns →
    is_in d (numbers ns) ≡ true
    → is_in d (ids ms) ≡ true
may_live_in d no_device h = absurd cc
may_live_in d (is_away m {ms} {ns} u r) h = let e = may_live_in d r h in rw e (any (nat_eq d m.id))
  where
    any : (c : Bool) → (c || true) ≡ true
    any true = refl
    any false = refl
may_live_in d (is_there m n {ms} {ns} q i r) h = by_test (may_live_in d r) (nat_eq d m.id) refl (ap (nat_eq d) q) h
  where
    by_test : (is_in d (numbers ns) ≡ true → is_in d (ids ms) ≡ true) → (c : Bool) → nat_eq d m.id ≡ c
        → nat_eq d n.id ≡ nat_eq d m.id → (nat_eq d n.id || is_in d (numbers ns)) ≡ true
        → (nat_eq d m.id || is_in d (ids ms)) ≡ true
    by_test ih true t e g = rw t refl
    by_test ih false t e g = let e' = e ∙ t in rw t (ih (rw e' at g))

-- one that isn't there isn't sure
pub away_in : (d : ℕ) {ms : List MaybeDevice} {ns : List NetDevice} → DevicesWithin ms ns → is_in d (numbers ns) ≡ false
    → sure_in d ms ≡ false
away_in d no_device h = refl
away_in d (is_away m {ms} {ns} u r) h = by_test (nat_eq d m.id) (away_in d r h)
  where
    by_test : (c : Bool) → sure_in d ms ≡ false → (if c then m.sure else sure_in d ms) ≡ false
    by_test true ih = u
    by_test false ih = ih
away_in d (is_there m n {ms} {ns} q i r) h = by_test (away_in d r) (nat_eq d m.id) refl (ap (nat_eq d) q) h
  where
    by_test : (is_in d (numbers ns) ≡ false → sure_in d ms ≡ false) → (c : Bool) → nat_eq d m.id ≡ c
        → nat_eq d n.id ≡ nat_eq d m.id → (nat_eq d n.id || is_in d (numbers ns)) ≡ false
        → (if nat_eq d m.id then m.sure else sure_in d ms) ≡ false
    by_test ih true t e g = let e' = e ∙ t in let g' = rw e' at g in absurd cc
    by_test ih false t e g = let e' = e ∙ t in rw t (ih (rw e' at g))

-- its inputs lie in their bounds
pub inputs_within : (d : ℕ) {ms : List MaybeDevice} {ns : List NetDevice} → Rises (ids ms) → DevicesWithin ms ns
    → is_in d (numbers ns) ≡ true → InputsLie (bounds_in d ms) (inputs_in d ns)
inputs_within d u no_device h = absurd cc
inputs_within d u (is_away m {ms} {ns} w r) h =
    by_test (nat_eq d m.id) refl (inputs_within d (rises_tail m.id (ids ms) u) r h)
  where
    by_test : (c : Bool) → nat_eq d m.id ≡ c → InputsLie (bounds_in d ms) (inputs_in d ns)
        → InputsLie (if c then m.inputs else bounds_in d ms) (inputs_in d ns)
    by_test true t ih =
        let same = nat_same d m.id t in
        let here = may_live_in d r h in
        let gone = rises_apart m.id (ids ms) u in
        let here' : is_in m.id (ids ms) ≡ true = subst (λ k. is_in k (ids ms) ≡ true) same here in
        let z : false ≡ true = sym gone ∙ here' in
        absurd cc
    by_test false t ih = ih
inputs_within d u (is_there m n {ms} {ns} q i r) h =
    by_test (inputs_within d (rises_tail m.id (ids ms) u) r) (nat_eq d m.id) refl (ap (nat_eq d) q) h
  where
    by_test : (is_in d (numbers ns) ≡ true → InputsLie (bounds_in d ms) (inputs_in d ns)) → (c : Bool)
        → nat_eq d m.id ≡ c → nat_eq d n.id ≡ nat_eq d m.id → (nat_eq d n.id || is_in d (numbers ns)) ≡ true
        → InputsLie (if nat_eq d m.id then m.inputs else bounds_in d ms)
        (if nat_eq d n.id then n.inputs else inputs_in d ns)
    by_test ih true t e g = let e' = e ∙ t in rw (t, e') i
    by_test ih false t e g = let e' = e ∙ t in rw (t, e') (ih (rw e' at g))

module _ (E : Envelope) (N : Network) (w : LiesWithin E N) where
  pub may_live_of : (d : ℕ) → Lives N d → MayLive E d
  may_live_of d l = may_live_in d w.devices l

  pub away_of : (d : ℕ) → lives N d ≡ false → surely_lives E d ≡ false
  away_of d g = away_in d w.devices g

-- ---- neighbours

-- the neighbours that a device may have are those of the links as edges
pub near_same : (d : ℕ) (ls : List MaybeLink)
    → near_ids (maybe_near d ls) ≡ neighbour_numbers (near_in d (map least_edge ls))
near_same d [] = refl
near_same d (l ∷ ls) = by_tests (nat_eq l.a d) (nat_eq l.b d) (near_same d ls)
  where
    by_tests : (p q : Bool)
        → near_ids (maybe_near d ls) ≡ neighbour_numbers (near_in d (map least_edge ls))
        → near_ids (if p then (l.b, l) ∷ maybe_near d ls
        else (if q then (l.a, l) ∷ maybe_near d ls else maybe_near d ls))
        ≡ neighbour_numbers (if p then (l.b, l.least) ∷ near_in d (map least_edge ls)
        else (if q then (l.a, l.least) ∷ near_in d (map least_edge ls) else near_in d (map least_edge ls)))
    by_tests true q ih = ap (λ ks. l.b ∷ ks) ih
    by_tests false true ih = ap (λ ks. l.a ∷ ks) ih
    by_tests false false ih = ih

-- they are devices that may be there
all_live : (D : Declarations) (ds : List ℕ) (d : ℕ) (ns : List (ℕ × ℕ)) → AllNear D ds d ns → (e : ℕ)
    → is_in e (neighbour_numbers ns) ≡ true → is_in e ds ≡ true
all_live D ds d [] a e h = absurd cc
all_live D ds d (n ∷ ns) a e h = by_test (nat_eq e n.0) refl (all_live D ds d ns a.1 e)
  where
    by_test : (c : Bool) → nat_eq e n.0 ≡ c → (is_in e (neighbour_numbers ns) ≡ true → is_in e ds ≡ true) → is_in e ds ≡ true
    by_test true t ih = let same = nat_same e n.0 t in ap (λ x. is_in x ds) same ∙ a.0.there
    by_test false t ih = let r : is_in e (neighbour_numbers ns) ≡ true = rw t at h in ih r

pub near_there : (E : Envelope) → IsEnvelope E → (d e : ℕ) → is_in e (near_ids (maybe_near d E.links)) ≡ true
    → MayLive E e
near_there E envelope d e h =
    all_live E.declared (ids E.devices) d (near_in d (map least_edge E.links))
    (near_fits E.declared (ids E.devices) d (map least_edge E.links) envelope.links) e
    (subst (λ ks. is_in e ks ≡ true) (near_same d E.links) h)

-- the ends of links are devices that may be there
abbrev pub EndsLive : Envelope → List MaybeLink → Type 0
EndsLive E [] = Unit {0}
EndsLive E (m ∷ ms) = MayLive E m.a × MayLive E m.b × EndsLive E ms

pub ends_live : (E : Envelope) (D : Declarations) (ls : List MaybeLink) → LinksFit D (ids E.devices) (map least_edge ls)
    → EndsLive E ls
ends_live E D [] h = tt
ends_live E D (l ∷ ls) h = (h.0.from, h.0.to, ends_live E D ls h.2)

pub and_right : (a b : Bool) → b ≡ false → (a && b) ≡ false
and_right true b h = h
and_right false b h = refl
