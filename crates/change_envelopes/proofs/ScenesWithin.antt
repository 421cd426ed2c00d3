-- The scene lies within the envelope of the scene and lines, and links that are always there join devices that are.
use Rattle.std.proofs.Common.{ℕ, suc, ◌≡◌, ◌+◌, ◌≤◌, ◌<◌, ◌&&◌, ◌||◌, Bool, true, false, not, nat_eq, nat_lt, min, max, append_assoc, List, [], ◌∷◌, ◌++◌, refl, sym, ap, subst, ◌∙◌, arith, inl, inr, if◌then◌else◌}
use Rattle.std.proofs.Math.Bool.{or-true}
use Rattle.std.proofs.lemmas.Bool.Decides.{nat_tests}
use Rattle.std.specs.Prelude.{option_map, slice_get}
use Rattle.fc_values.specs.Types.{Declarations, Input}
use Rattle.fc_values.specs.Values.{LocalValue}
use Rattle.fc_values.specs.Fields.{is_in}
use Rattle.fc_values.specs.Inputs.{InputsFit}
use Rattle.topology.specs.Networks.{NetDevice, Edge, Network, IsNetwork, lives, numbers, inputs_in, DevicesFit, LinksFit}
use Rattle.topology.specs.Changes.{has_pair, are_linked}
use Rattle.value_bounds.specs.BoundValues.{exactly}
use Rattle.value_bounds.proofs.Values.{lies_exactly, itself}
use Rattle.bound_firing.specs.Firing.{InputsLie}
use Rattle.envelopes.specs.Envelopes.{MaybeLink, Envelope, ids}
use Rattle.envelopes.specs.Edits.{is_pair_of, sure_link, MayLink, SureEnds}
use Rattle.envelopes.specs.Lookups.{AllMayLink, LiesByLookups}
use Rattle.changes.specs.Changes.{range}
use Rattle.changes.specs.Changes.{ChangeValue}
use Rattle.changes.specs.Hand.{leaves_device, unlinks_pair, some_line}
use Rattle.change_bounds.specs.Bounds.{scene_bound, said_bounds, bounds_from, scene_weight, said_weights, weights_of_pair}
use Rattle.change_bounds.specs.Bounds.{stays, stays_linked}
use Rattle.change_envelopes.specs.Envelopes.{IsEnvelopeOf}
use Rattle.change_envelopes.specs.Laws.{ScenesLie, EndsStay}
use Rattle.change_envelopes.proofs.Hulls.{some_left, lies_hull, listed, SomeIn, in_left, in_widest, HasRange}
use Rattle.change_envelopes.proofs.MayHappen.{links_lie, no_link_back}

clash : (b : Bool) → b ≡ true → b ≡ false → ⊥
clash b t f = let z : false ≡ true = sym f ∙ t in absurd cc

both : (p q : Bool) → (p && q) ≡ true → (p ≡ true) × (q ≡ true)
both true true h = (refl, refl)
both true false h = absurd cc
both false q h = absurd cc

four : (p q r s : Bool) → (p && q && r && s) ≡ true → (p ≡ true) × (q ≡ true) × (r ≡ true) × (s ≡ true)
four true true true true h = (refl, refl, refl, refl)
four true true true false h = absurd cc
four true true false s h = absurd cc
four true false r s h = absurd cc
four false q r s h = absurd cc

-- ---- inputs

-- the values of a device have the declared inputs
fits_in : (D : Declarations) (d : ℕ) (ns : List NetDevice) → DevicesFit D ns → is_in d (numbers ns) ≡ true → InputsFit D.inputs (inputs_in d ns)
fits_in D d [] f h = absurd cc
fits_in D d (n ∷ ns) f h = by_test (nat_eq d n.id) h (λ g. fits_in D d ns f.2 g)
  where
    by_test : (t : Bool) → (t || is_in d (numbers ns)) ≡ true → (is_in d (numbers ns) ≡ true → InputsFit D.inputs (inputs_in d ns)) → InputsFit D.inputs (if t then n.inputs else inputs_in d ns)
    by_test true h later = f.1
    by_test false h later = later h

module _ (n : Network) (cs : List ChangeValue) (d : ℕ) where
  scene_lies : (is : List Input) (k : ℕ) (vs : List LocalValue) → ((j : ℕ) → slice_get (inputs_in d n.devices) (k + j) ≡ slice_get vs j) → InputsFit is vs → InputsLie (bounds_from n cs d k is) vs
  scene_lies [] k [] at f = tt
  scene_lies [] k (v ∷ vs) at f = absurd f
  scene_lies (x ∷ xs) k [] at f = absurd f
  scene_lies (x ∷ xs) k (v ∷ vs) at f = (
    lies_hull (scene_bound n d k ++ said_bounds d k x.type cs) v
        (some_left v (scene_bound n d k) (said_bounds d k x.type cs)
        (listed v (option_map exactly (slice_get (inputs_in d n.devices) k)) (exactly v) (ap (option_map exactly) (ap (slice_get (inputs_in d n.devices)) (omega arith) ∙ at 0)) (lies_exactly v))),
    scene_lies xs (k + 1) vs (λ j. ap (slice_get (inputs_in d n.devices)) (omega arith) ∙ at (suc j)) f.1,
  )

-- ---- links

-- a link of the scene has its weight among those of its pair
own_weight : (x y w : ℕ) (front ls : List Edge) (l : Edge) → l.a ≡ min x y → l.b ≡ max x y → l.weight ≡ w → SomeIn w (scene_weight x y (front ++ l ∷ ls))
own_weight x y w [] ls l p q r = by_tests (nat_eq l.a (min x y)) (nat_eq l.b (max x y)) (ap (nat_eq l.a) (sym p) ∙ itself l.a) (ap (nat_eq l.b) (sym q) ∙ itself l.b)
  where
    by_tests : (s t : Bool) → s ≡ true → t ≡ true → SomeIn w (if s && t then range l.weight l.weight ∷ scene_weight x y ls else scene_weight x y ls)
    by_tests true true e f = inl (record { above = omega (arith, r); below = omega (arith, r) })
    by_tests true false e f = absurd cc
    by_tests false t e f = absurd cc
own_weight x y w (m ∷ front) ls l p q r = by_test (nat_eq m.a (min x y) && nat_eq m.b (max x y)) (own_weight x y w front ls l p q r)
  where
    by_test : (t : Bool) → SomeIn w (scene_weight x y (front ++ l ∷ ls)) → SomeIn w (if t then range m.weight m.weight ∷ scene_weight x y (front ++ l ∷ ls) else scene_weight x y (front ++ l ∷ ls))
    by_test true h = inr h
    by_test false h = h

apart : (a b : ℕ) → a < b → nat_eq a b ≡ false
apart a b h = grind (arith, h)

module _ (n : Network) (cs : List ChangeValue) (E : Envelope) (h : IsEnvelopeOf n cs E) where
  links_may : (front ls : List Edge) → front ++ ls ≡ n.links → LinksFit n.declared (numbers n.devices) ls → AllMayLink E.links ls
  links_may front [] e f = tt
  links_may front (l ∷ ls) e f = (here, links_may (front ++ l ∷ []) ls (append_assoc front (l ∷ []) ls ∙ e) f.2)
    where
      lesser : min l.a l.b ≡ l.a
      lesser = omega (arith, f.0.order)

      greater : max l.a l.b ≡ l.b
      greater = omega (arith, f.0.order)

      range_there : HasRange l.weight (weights_of_pair n cs l.a l.b)
      range_there = in_widest (scene_weight l.a l.b n.links ++ said_weights n.declared l.a l.b cs) l.weight
          (in_left l.weight (scene_weight l.a l.b n.links) (said_weights n.declared l.a l.b cs)
          (subst (λ es. SomeIn l.weight (scene_weight l.a l.b es)) e (own_weight l.a l.b l.weight front ls l (sym lesser) (sym greater) refl)))

      here : MayLink l.a l.b l.weight E.links
      here =
          let g : MayLink (min l.a l.b) (max l.a l.b) l.weight E.links = links_lie n cs E h l.a l.b l.weight (apart l.a l.b f.0.order) range_there in
          subst (λ y. MayLink l.a y l.weight E.links) greater (subst (λ x. MayLink x (max l.a l.b) l.weight E.links) lesser g)

  -- a link that is always there has the lesser device first
  rising : (a b : ℕ) → sure_link a b E.links ≡ true → a < b
  rising a b s = by_test (nat_lt a b) refl
    where
      by_test : (t : Bool) → nat_lt a b ≡ t → a < b
      by_test true t = grind (arith, nat_tests)
      by_test false t =
          let o : b ≤ a = grind (arith, nat_tests) in
          absurd (clash (sure_link a b E.links) s (no_link_back E.declared (ids E.devices) E.links h.envelope.links a b o))

  stays_by : (a b : ℕ) → sure_link a b E.links ≡ true → (has_pair a b n.links ≡ true) × (stays n cs a ≡ true) × (stays n cs b ≡ true)
  stays_by a b s =
      let o = rising a b s in
      let lesser : min a b ≡ a = omega (arith, o) in
      let greater : max a b ≡ b = omega (arith, o) in
      let g : sure_link (min a b) (max a b) E.links ≡ true = ap (λ x. sure_link x (max a b) E.links) lesser ∙ ap (λ y. sure_link a y E.links) greater ∙ s in
      let all : stays_linked n cs a b ≡ true = sym (h.sure_links a b (apart a b o)) ∙ g in
      let k = four (are_linked n a b) (not (some_line (unlinks_pair a b) cs)) (stays n cs a) (stays n cs b) all in
      (sym (ap (λ x. has_pair x (max a b) n.links) lesser ∙ ap (λ y. has_pair a y n.links) greater) ∙ k.0, k.2, k.3)

  pub scene_within : IsNetwork n → LiesByLookups E n
  scene_within net = record {
    declared = sym h.declared;
    devices = λ d l. h.devices d ∙ rw l refl;
    inputs = λ d l.
        subst (λ bs. InputsLie bs (inputs_in d n.devices)) (sym (h.inputs d (h.devices d ∙ rw l refl)))
        (scene_lies n cs d n.declared.inputs 0 (inputs_in d n.devices) (λ j. ap (slice_get (inputs_in d n.devices)) (omega arith)) (fits_in n.declared d n.devices net.devices l));
    sure = λ d s. (both (lives n d) (not (some_line (leaves_device d) cs)) (sym (h.sure d) ∙ s)).0;
    links = links_may [] n.links refl net.links;
    sure_links = λ a b s. (stays_by a b s).0;
  }

  ends_from : (ms : List MaybeLink) → ((a b : ℕ) → sure_link a b ms ≡ true → sure_link a b E.links ≡ true) → SureEnds E.devices ms
  ends_from [] up = tt
  ends_from (m ∷ ms) up = (
    λ s.
        let x = itself m.a in
        let y = itself m.b in
        let own : sure_link m.a m.b (m ∷ ms) ≡ true = rw (x, y, s) refl in
        let k = stays_by m.a m.b (up m.a m.b own) in
        (h.sure m.a ∙ k.1, h.sure m.b ∙ k.2),
    ends_from ms (λ a b s. up a b (rw s (or-true (is_pair_of a b m && m.sure)))),
  )

  pub ends : SureEnds E.devices E.links
  ends = ends_from E.links (λ a b s. s)

pub scenes_lie : ScenesLie
scenes_lie n cs E net h = scene_within n cs E h net

pub ends_stay : EndsStay
ends_stay n cs E h = ends n cs E h
