-- Crates above cite this module: the devices of an envelope in code, by their places, and their neighbours.
use Rattle.std.proofs.Common.{◌≡◌, ℕ, zero, suc, ◌<◌, List, [], ◌∷◌, length, map, get_or, refl, sym, ◌∙◌, ap, subst}
use Rattle.std.proofs.Common.{arith, Bool, true, false, nat_eq}
use Rattle.std.proofs.lemmas.Bool.{eq-eqb, eqb-true}
use Rattle.std.proofs.lemmas.List.{length-map, get_or-map}
use Rattle.value_bounds.specs.References.{local_bounds_in}
use Rattle.firing_core.proofs.Slots.{Distinct, rises_distinct}
use Rattle.envelopes.specs.declared.types.DeviceBound.{DeviceBound}
use Rattle.envelopes.specs.declared.types.LinkBound.{LinkBound}
use Rattle.envelopes.specs.Envelopes.{MaybeDevice, MaybeLink, Envelope, ids, sure_in, surely_lives, bounds_in, IsEnvelope}
use Rattle.envelopes.specs.Code.{maybe_device_of, neighbour_of}
use Rattle.bound_rounds.specs.Tables.{device_at}

-- ---- devices

-- what is looked up of a device is what it has in code
record IsLookedUp (ms : List MaybeDevice) (d : ℕ) (x : DeviceBound) : Type 0 where
  pub inputs : local_bounds_in x.inputs.items ≡ bounds_in d ms
  pub sure : x.sure ≡ sure_in d ms

looked_up : (xs : List DeviceBound) (p d : ℕ) (x : DeviceBound) → Distinct (ids (map maybe_device_of xs))
    → p < length xs → x ≡ get_or xs p x → get_or (ids (map maybe_device_of xs)) p 0 ≡ d
    → IsLookedUp (map maybe_device_of xs) d x
looked_up [] p d x n h q e = absurd (omega arith)
looked_up (y ∷ ys) zero d x n h q e =
    let t = eq-eqb d y.id (sym e) in
    record {
      inputs = rw t (ap (λ (z : DeviceBound). local_bounds_in z.inputs.items) q);
      sure = rw t (ap (λ (z : DeviceBound). z.sure) q);
    }
looked_up (y ∷ ys) (suc p) d x n h q e = by_test (nat_eq d y.id) refl (looked_up ys p d x n.1 (omega arith) q e)
  where
    by_test : (b : Bool) → nat_eq d y.id ≡ b → IsLookedUp (map maybe_device_of ys) d x
        → IsLookedUp (map maybe_device_of (y ∷ ys)) d x
    by_test true t ih =
        let same = eqb-true d y.id t in
        let long = length-map ys maybe_device_of in
        let wide = length-map (map maybe_device_of ys) (λ (m : MaybeDevice). m.id) in
        absurd (n.0 p (omega (arith, h, long, wide)) (e ∙ same))
    by_test false t ih = record { inputs = rw t ih.inputs; sure = rw t ih.sure }

-- of an envelope whose devices are these
module _ (E : Envelope) (ds : List DeviceBound) (k : ℕ) (x : DeviceBound) (all : map maybe_device_of ds ≡ E.devices)
  where
    many : length ds ≡ length E.devices
    many = sym (length-map ds maybe_device_of) ∙ ap length all

    pub number_at : k < length E.devices → x ≡ get_or ds k x → device_at E k ≡ x.id
    number_at h q = subst (λ (ms : List MaybeDevice). get_or (ids ms) k 0 ≡ x.id) all
        (at ds k (let m = many in omega (arith, h, m)) q)
      where
        at : (es : List DeviceBound) (i : ℕ) → i < length es → x ≡ get_or es i x
            → get_or (ids (map maybe_device_of es)) i 0 ≡ x.id
        at [] i h q = absurd (omega arith)
        at (e ∷ es) zero h q = rw q refl
        at (e ∷ es) (suc i) h q = at es i (omega arith) q

    found : IsEnvelope E → k < length E.devices → x ≡ get_or ds k x → IsLookedUp E.devices (device_at E k) x
    found envelope h q =
        let n : Distinct (ids (map maybe_device_of ds)) = subst (λ (ms : List MaybeDevice). Distinct (ids ms)) (sym all)
        (rises_distinct (ids E.devices) envelope.rising) in
        let m = many in
        let at : get_or (ids (map maybe_device_of ds)) k 0 ≡ device_at E k =
        ap (λ (ms : List MaybeDevice). get_or (ids ms) k 0) all in
        subst (λ (ms : List MaybeDevice). IsLookedUp ms (device_at E k) x) all
        (looked_up ds k (device_at E k) x n (omega (arith, h, m)) q at)

    pub device_inputs : IsEnvelope E → k < length E.devices → x ≡ get_or ds k x
        → local_bounds_in x.inputs.items ≡ bounds_in (device_at E k) E.devices
    device_inputs envelope h q = (found envelope h q).inputs

    pub device_sure : IsEnvelope E → k < length E.devices → x ≡ get_or ds k x → x.sure ≡ surely_lives E (device_at E k)
    device_sure envelope h q = (found envelope h q).sure

-- ---- neighbours

-- no neighbour, in code and as it is read
abbrev pub no_bound : ℕ × LinkBound
no_bound = (0, record { a = 0; b = 0; least = 0; greatest = 0; sure = false })

abbrev pub no_near : ℕ × MaybeLink
no_near = (0, record { a = 0; b = 0; least = 0; greatest = 0; sure = false })

module _ (ns : List (ℕ × LinkBound)) (ms : List (ℕ × MaybeLink)) (all : map neighbour_of ns ≡ ms) where
  pub many_near : length ns ≡ length ms
  many_near = sym (length-map ns neighbour_of) ∙ ap length all

  pub near_read : (k : ℕ) → k < length ns → neighbour_of (get_or ns k no_bound) ≡ get_or ms k no_near
  near_read k h = sym (get_or-map neighbour_of ns k no_bound no_near h) ∙ ap (λ xs. get_or xs k no_near) all
