-- Crates above cite this module: the envelope of one network has this network within it alone.
use Rattle.std.proofs.Common.{◌≡◌, ℕ, List, [], ◌∷◌, map, refl, sym, ◌∙◌, ap, subst, arith, Bool, true, false, ◌||◌}
use Rattle.std.proofs.Common.{if◌then◌else◌}
use Rattle.std.specs.Prelude.{nat_eq}
use Rattle.fc_values.specs.Values.{LocalValue, IntValue, BoolValue, PairValue}
use Rattle.fc_values.specs.Fields.{is_in}
use Rattle.topology.specs.Networks.{NetDevice, Edge, Network, network_of, IsNetwork, Lives, numbers, inputs_in}
use Rattle.value_bounds.specs.BoundValues.{Lies, exactly}
use Rattle.value_bounds.proofs.Values.{lies_exactly}
use Rattle.bound_firing.specs.Firing.{InputsLie}
use Rattle.envelopes.specs.Envelopes.{ids, MayLive, sure_in, bounds_in, least_edge, IsEnvelope, DevicesWithin}
use Rattle.envelopes.specs.Envelopes.{no_device}
use Rattle.envelopes.specs.Envelopes.{is_there, is_away, LinksWithin, no_link, is_linked, is_unlinked, LiesWithin}
use Rattle.envelopes.specs.Exactly.{exact_device, exact_link, exact_envelope}

-- ---- what is exact is one

exact_value : (v w : LocalValue) → Lies (exactly v) w → w ≡ v
exact_value (IntValue n) (IntValue m) h = let x = h.0 in let y = h.1 in let e : m ≡ n =
    omega (arith, x, y) in ap IntValue e
exact_value (IntValue n) (BoolValue c) h = absurd h
exact_value (IntValue n) (PairValue x y) h = absurd h
exact_value (BoolValue b) (IntValue m) h = absurd h
exact_value (BoolValue true) (BoolValue true) h = refl
exact_value (BoolValue false) (BoolValue false) h = refl
exact_value (BoolValue true) (BoolValue false) h = let e = h.0 refl in absurd cc
exact_value (BoolValue false) (BoolValue true) h = let e = h.1 refl in absurd cc
exact_value (BoolValue b) (PairValue x y) h = absurd h
exact_value (PairValue v w) (IntValue m) h = absurd h
exact_value (PairValue v w) (BoolValue c) h = absurd h
exact_value (PairValue v w) (PairValue x y) h =
    let e = exact_value v x h.0 in let e' = exact_value w y h.1 in rw (e, e') refl

exact_inputs : (vs ws : List LocalValue) → InputsLie (map exactly vs) ws → ws ≡ vs
exact_inputs [] [] h = refl
exact_inputs [] (w ∷ ws) h = absurd h
exact_inputs (v ∷ vs) [] h = absurd h
exact_inputs (v ∷ vs) (w ∷ ws) h =
    let e = exact_value v w h.0 in let e' = exact_inputs vs ws h.1 in rw (e, e') refl

pub inputs_exact : (vs : List LocalValue) → InputsLie (map exactly vs) vs
inputs_exact [] = tt
inputs_exact (v ∷ vs) = (lies_exactly v, inputs_exact vs)

abbrev device_with : ℕ → List LocalValue → NetDevice
device_with i vs = record { id = i; inputs = vs }

one_device : (n m : NetDevice) → n.id ≡ m.id → n.inputs ≡ m.inputs → n ≡ m
one_device n m e e' = ap (λ i. device_with i n.inputs) e ∙ ap (device_with m.id) e'

exact_devices : (ns ms : List NetDevice) → DevicesWithin (map exact_device ns) ms → ms ≡ ns
exact_devices [] ms no_device = refl
exact_devices (n ∷ ns) ms (is_there x m {ns = rest} e h r) =
    let q = one_device m n e (exact_inputs n.inputs m.inputs h) in
    let q' = exact_devices ns rest r in
    rw (q, q') refl
exact_devices (n ∷ ns) ms (is_away x u r) = absurd cc

devices_exact : (ns : List NetDevice) → DevicesWithin (map exact_device ns) ns
devices_exact [] = no_device
devices_exact (n ∷ ns) = is_there (exact_device n) n refl (inputs_exact n.inputs) (devices_exact ns)

abbrev edge_with : ℕ → ℕ → ℕ → Edge
edge_with a b w = record { a = a; b = b; weight = w }

one_edge : (l m : Edge) → l.a ≡ m.a → l.b ≡ m.b → l.weight ≡ m.weight → l ≡ m
one_edge l m e f g =
    ap (λ x. edge_with x l.b l.weight) e ∙ ap (λ x. edge_with m.a x l.weight) f ∙ ap (edge_with m.a m.b) g

exact_links : (ls ms : List Edge) → LinksWithin (map exact_link ls) ms → ms ≡ ls
exact_links [] ms no_link = refl
exact_links (l ∷ ls) ms (is_linked x m {ls = rest} h r) =
    let lo = h.above in
    let hi = h.below in
    let w : m.weight ≡ l.weight = omega (arith, lo, hi) in
    let q = one_edge m l h.a h.b w in
    let q' = exact_links ls rest r in
    rw (q, q') refl
exact_links (l ∷ ls) ms (is_unlinked x u r) = absurd cc

links_exact : (ls : List Edge) → LinksWithin (map exact_link ls) ls
links_exact [] = no_link
links_exact (l ∷ ls) = is_linked (exact_link l) l
    (record { a = refl; b = refl; above = omega arith; below = omega arith }) (links_exact ls)

pub exact_within : (N : Network) → LiesWithin (exact_envelope N) N
exact_within N = record { declared = refl; devices = devices_exact N.devices; links = links_exact N.links }

pub exact_only : (N M : Network) → LiesWithin (exact_envelope N) M → M ≡ N
exact_only N M w =
    ap (λ D. network_of D M.devices M.links) w.declared
    ∙ ap (λ ns. network_of N.declared ns M.links) (exact_devices N.devices M.devices w.devices)
    ∙ ap (network_of N.declared N.devices) (exact_links N.links M.links w.links)

-- ---- it is an envelope

pub ids_same : (ns : List NetDevice) → ids (map exact_device ns) ≡ numbers ns
ids_same [] = refl
ids_same (n ∷ ns) = ap (λ ks. n.id ∷ ks) (ids_same ns)

pub live_of_exact : (N : Network) (d : ℕ) → MayLive (exact_envelope N) d → Lives N d
live_of_exact N d l = subst (λ ks. is_in d ks ≡ true) (ids_same N.devices) l

pub exact_may_live : (N : Network) (d : ℕ) → Lives N d → MayLive (exact_envelope N) d
exact_may_live N d l = subst (λ ks. is_in d ks ≡ true) (sym (ids_same N.devices)) l

least_same : (ls : List Edge) → map least_edge (map exact_link ls) ≡ ls
least_same [] = refl
least_same (l ∷ ls) = ap (λ ms. l ∷ ms) (least_same ls)

pub sure_exact : (d : ℕ) (ns : List NetDevice) → is_in d (numbers ns) ≡ true → sure_in d (map exact_device ns) ≡ true
sure_exact d [] h = absurd cc
sure_exact d (n ∷ ns) h = by_test (nat_eq d n.id) h (sure_exact d ns)
  where
    by_test : (c : Bool) → (c || is_in d (numbers ns)) ≡ true
        → (is_in d (numbers ns) ≡ true → sure_in d (map exact_device ns) ≡ true)
        → (if c then true else sure_in d (map exact_device ns)) ≡ true
    by_test true g ih = refl
    by_test false g ih = ih g

pub exact_is : (N : Network) → IsNetwork N → IsEnvelope (exact_envelope N)
exact_is N net =
    let i = ids_same N.devices in
    let l = least_same N.links in
    record {
      rising = rw i net.rising;
      links = rw (i, l) net.links;
    }

pub inputs_are : (d : ℕ) (ns : List NetDevice) → bounds_in d (map exact_device ns) ≡ map exactly (inputs_in d ns)
inputs_are d [] = refl
inputs_are d (n ∷ ns) = by_test (nat_eq d n.id) (inputs_are d ns)
  where
    by_test : (c : Bool) → bounds_in d (map exact_device ns) ≡ map exactly (inputs_in d ns)
        → (if c then map exactly n.inputs else bounds_in d (map exact_device ns))
        ≡ map exactly (if c then n.inputs else inputs_in d ns)
    by_test true ih = refl
    by_test false ih = ih
