-- Crates above cite this module: what a round makes of a device depends on its closed neighbourhood alone.
use Rattle.std.proofs.Common.{◌≡◌, ℕ, suc, ◌<◌, List, [], ◌∷◌, length, map, get_or, refl, sym, ◌∙◌, ap, subst, arith}
use Rattle.std.proofs.Common.{Bool, true, false, ◌||◌, nat_eq, min, max}
use Rattle.std.proofs.lemmas.Bool.{eq-eqb, eqb-true, ne_eqb}
use Rattle.std.proofs.lemmas.List.{length-map}
use Rattle.fc_values.specs.Fields.{is_in}
use Rattle.fc_nodes.specs.Program.{Unfolding}
use Rattle.topology.proofs.Lemmas.{near_linked}
use Rattle.export_bounds.specs.Exports.{either_export}
use Rattle.envelopes.specs.Envelopes.{MaybeDevice, MaybeLink, Envelope, ids, MayLive, maybe_near, near_ids, least_edge}
use Rattle.envelopes.specs.Envelopes.{IsEnvelope}
use Rattle.envelopes.proofs.Within.{near_there, near_same as near_edges}
use Rattle.bound_rounds.specs.declared.rounds.RoundKind.{RoundKind}
use Rattle.bound_rounds.specs.declared.rounds.RoundKind.TheVariants as kind
use Rattle.bound_rounds.specs.Rounds.{BoundTable, seat_in, fired_within, next_within, is_close, RoundsAreLocal}
use Rattle.bound_rounds.specs.Tables.{device_at, AllMarked}

pub or_second : (a b : Bool) → b ≡ true → (a || b) ≡ true
or_second true b e = refl
or_second false b e = e

module _ (f g : BoundTable) where
  near_same : (ns : List (ℕ × MaybeLink)) → ((e : ℕ) → is_in e (near_ids ns) ≡ true → f e ≡ g e)
      → map (seat_in f) ns ≡ map (seat_in g) ns
  near_same [] h = refl
  near_same (n ∷ ns) h =
      let t = eq-eqb n.0 n.0 refl in
      let first : is_in n.0 (near_ids (n ∷ ns)) ≡ true = rw t refl in
      let e = h n.0 first in
      let r = near_same ns (λ m i. h m (or_second (nat_eq m n.0) (is_in m (near_ids ns)) i)) in
      rw (e, r) refl

  fired_close : (U : Unfolding) (E : Envelope) (d : ℕ) → ((e : ℕ) → is_close E d e ≡ true → f e ≡ g e)
      → fired_within U E f d ≡ fired_within U E g d
  fired_close U E d h =
      let t = eq-eqb d d refl in
      let own : is_close E d d ≡ true = rw t refl in
      let e = h d own in
      let r = near_same (maybe_near d E.links)
      (λ m i. h m (or_second (nat_eq m d) (is_in m (near_ids (maybe_near d E.links))) i)) in
      rw (e, r) refl

pub rounds_are_local : RoundsAreLocal
rounds_are_local kind.Firing U E f g d h = fired_close f g U E d h
rounds_are_local kind.Growing U E f g d h =
    let t = eq-eqb d d refl in
    let own : is_close E d d ≡ true = rw t refl in
    let e : f d ≡ g d = h d own in
    let r = fired_close f g U E d h in
    ap (λ b. either_export U b (fired_within U E f d)) e ∙ ap (either_export U (g d)) r

-- ---- who is close

min_comm : (a b : ℕ) → min a b ≡ min b a
min_comm a b = omega arith

max_comm : (a b : ℕ) → max a b ≡ max b a
max_comm a b = omega arith

same_test : (a b : ℕ) → nat_eq a b ≡ nat_eq b a
same_test a b = by_test (nat_eq a b) refl
  where
    by_test : (c : Bool) → nat_eq a b ≡ c → c ≡ nat_eq b a
    by_test true t = sym (eq-eqb b a (sym (eqb-true a b t)))
    by_test false t = sym (ne_eqb b a (λ e. absurd (cc (eq-eqb a b (sym e), t))))

pub close_mutual : (E : Envelope) → IsEnvelope E → (d e : ℕ) → is_close E d e ≡ is_close E e d
close_mutual E envelope d e =
    let a = same_test e d in
    let near_d = near_edges d E.links in
    let near_e = near_edges e E.links in
    let p = near_linked E.declared (ids E.devices) d e (map least_edge E.links) envelope.links in
    let q = near_linked E.declared (ids E.devices) e d (map least_edge E.links) envelope.links in
    let m = min_comm d e in
    let m' = max_comm d e in
    cc

pub close_lives : (E : Envelope) → IsEnvelope E → (d : ℕ) → MayLive E d → (e : ℕ) → is_close E d e ≡ true → MayLive E e
close_lives E envelope d l e h = by_test (nat_eq e d) refl
  where
    by_test : (c : Bool) → nat_eq e d ≡ c → MayLive E e
    by_test true t = let same = eqb-true e d t in ap (λ x. is_in x (ids E.devices)) same ∙ l
    by_test false t =
        let r : is_in e (near_ids (maybe_near d E.links)) ≡ true = rw t at h in near_there E envelope d e r

-- ---- places of devices

pub record HasPlace (is : List ℕ) (d : ℕ) : Type 0 where
  pub place : ℕ
  pub within : place < length is
  pub is_there : get_or is place 0 ≡ d

place_of : (is : List ℕ) (d : ℕ) → is_in d is ≡ true → HasPlace is d
place_of [] d h = absurd cc
place_of (i ∷ is) d h = by_test (nat_eq d i) refl (place_of is d)
  where
    by_test : (c : Bool) → nat_eq d i ≡ c → (is_in d is ≡ true → HasPlace is d) → HasPlace (i ∷ is) d
    by_test true t ih = record { place = 0; within = omega arith; is_there = sym (eqb-true d i t) }
    by_test false t ih =
        let r : is_in d is ≡ true = rw t at h in
        let p = ih r in
        record { place = suc p.place; within = omega (arith, p.within); is_there = p.is_there }

pub record StandsAt (E : Envelope) (d : ℕ) : Type 0 where
  pub place : ℕ
  pub within : place < length E.devices
  pub is_there : device_at E place ≡ d

pub stands_at : (E : Envelope) (d : ℕ) → MayLive E d → StandsAt E d
stands_at E d l =
    let p = place_of (ids E.devices) d l in
    let m = length-map E.devices (λ (m : MaybeDevice). m.id) in
    record { place = p.place; within = omega (arith, p.within, m); is_there = p.is_there }

-- ---- what isn't marked stays

module _ (k : RoundKind) (U : Unfolding) (E : Envelope) (envelope : IsEnvelope E) (table : BoundTable)
    (changed marks : List Bool)
    (same : (i : ℕ) → i < length E.devices → get_or changed i false ≡ false
    → next_within k U E table (device_at E i) ≡ table (device_at E i))
    (marked : AllMarked E changed (length E.devices) marks) where
  pub unmarked_stays : (i : ℕ) → i < length E.devices → MayLive E (device_at E i) → get_or marks i true ≡ false
      → next_within k U E (next_within k U E table) (device_at E i) ≡ next_within k U E table (device_at E i)
  unmarked_stays i h l q = rounds_are_local k U E (next_within k U E table) table (device_at E i) near_stays
    where
      at_place : (p : ℕ) → p < length E.devices → is_close E (device_at E i) (device_at E p) ≡ true → (c : Bool)
          → get_or changed p false ≡ c
          → next_within k U E table (device_at E p) ≡ table (device_at E p)
      at_place p m close false t = same p m t
      at_place p m close true t =
          let away = marked p m t i h q in
          let both = close_mutual E envelope (device_at E i) (device_at E p) in
          absurd cc

      near_stays : (e : ℕ) → is_close E (device_at E i) e ≡ true → next_within k U E table e ≡ table e
      near_stays e close =
          let p = stands_at E e (close_lives E envelope (device_at E i) l e close) in
          subst (λ x. next_within k U E table x ≡ table x) p.is_there
          (at_place p.place p.within (subst (λ x. is_close E (device_at E i) x ≡ true) (sym p.is_there) close)
          (get_or changed p.place false) refl)

-- tables that are the same at the devices of an envelope
pub next_live : (k : RoundKind) (U : Unfolding) (E : Envelope) → IsEnvelope E → (f g : BoundTable)
    → ((e : ℕ) → MayLive E e → f e ≡ g e) → (d : ℕ) → MayLive E d → next_within k U E f d ≡ next_within k U E g d
next_live k U E envelope f g h d l = rounds_are_local k U E f g d (λ e close. h e (close_lives E envelope d l e close))
