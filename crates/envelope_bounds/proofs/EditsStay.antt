-- An edit that an envelope allows leads from a network within it to one within it.
use Rattle.std.proofs.Common.{◌≡◌, ◌≤◌, ◌<◌, ℕ, zero, suc, min, max, List, [], ◌∷◌, map, refl, sym, ◌∙◌, ap, subst}
use Rattle.std.proofs.Common.{arith, Bool, true, false, ◌&&◌, ◌||◌, nat_eq, nat_lt, inl, inr, if◌then◌else◌, None}
use Rattle.std.specs.Prelude.{slice_get, slice_set}
use Rattle.std.proofs.lemmas.Bool.{eqb-true, eqb-false, ne_eqb, lt-ltb, le-ltb}
use Rattle.fc_values.specs.Types.{Declarations}
use Rattle.fc_values.specs.Values.{LocalValue}
use Rattle.fc_values.specs.Fields.{Rises, is_in}
use Rattle.fc_values.specs.Lists.{insert_after}
use Rattle.fc_values.proofs.Rising.{rises_apart, rises_tail, rises_weaker}
use Rattle.fc_nodes.specs.Program.{Unfolding}
use Rattle.topology.specs.Networks.{NetDevice, Edge, numbers, BeforeAll, LinksFit}
use Rattle.topology.specs.Changes.{is_pair, is_before, drop_pair, drop_links, insert_edge}
use Rattle.topology.specs.Changes.{insert_device, drop_device, put_input}
use Rattle.topology.proofs.Lemmas.{can_join}
use Rattle.firing_core.specs.Entries.{EditValue, LinkEdit, UnlinkEdit, SetEdit, PokeEdit, JoinEdit, LeaveEdit}
use Rattle.firing_core.specs.Entries.{EntryValue, BeginEntry, EndEntry, IdleEntry, EditEntry}
use Rattle.firing_core.specs.Cores.{Core, Step, Run, edit_fault}
use Rattle.value_bounds.specs.BoundValues.{BoundValue, Lies}
use Rattle.bound_firing.specs.Firing.{InputsLie, input_bound}
use Rattle.envelopes.specs.Envelopes.{MaybeDevice, MaybeLink, Envelope, ids, sure_in, bounds_in, least_edge}
use Rattle.envelopes.specs.Envelopes.{IsEnvelope, DevicesWithin, no_device, is_there, is_away, LinkWithin, LinksWithin}
use Rattle.envelopes.specs.Envelopes.{no_link, is_linked, is_unlinked, LiesWithin}
use Rattle.net_moves.specs.Moves.{net_edited, net_next, is_poke, Stays}
use Rattle.envelopes.specs.Edits.{is_pair_of, sure_link, MayLink, SureEnds, MayEdit, MayEnter, AllMayEnter}
use Rattle.envelope_bounds.specs.Laws.{EditsStayWithin}
use Rattle.net_moves.proofs.Moving.{step_nets}
use Rattle.envelopes.proofs.Within.{later_above}

pub clash : (b : Bool) → b ≡ true → b ≡ false → ⊥
clash b t f = let z : false ≡ true = sym f ∙ t in absurd cc

pub any_true : (c : Bool) → (c || true) ≡ true
any_true true = refl
any_true false = refl

pub in_front : (d k : ℕ) (ks : List ℕ) → is_in d ks ≡ true → (nat_eq d k || is_in d ks) ≡ true
in_front d k ks h = by_test (nat_eq d k)
  where
    by_test : (c : Bool) → (c || is_in d ks) ≡ true
    by_test true = refl
    by_test false = h

-- what is among later numbers isn't the first
pub not_first : (d k : ℕ) (ks : List ℕ) → Rises (k ∷ ks) → is_in d ks ≡ true → nat_eq d k ≡ false
not_first d k ks u h = by_test (nat_eq d k) refl
  where
    by_test : (c : Bool) → nat_eq d k ≡ c → nat_eq d k ≡ false
    by_test false t = t
    by_test true t =
        let h' : is_in k ks ≡ true = subst (λ x. is_in x ks ≡ true) (eqb-true d k t) h in
        absurd (clash (is_in k ks) h' (rises_apart k ks u))

-- ---- another input

set_lies : (bs : List BoundValue) (vs : List LocalValue) (i : ℕ) (v : LocalValue) → InputsLie bs vs
    → Lies (input_bound (slice_get bs i)) v → InputsLie bs (slice_set vs i v)
set_lies [] [] i v h l = tt
set_lies [] (x ∷ xs) i v h l = absurd h
set_lies (b ∷ bs) [] i v h l = absurd h
set_lies (b ∷ bs) (x ∷ xs) zero v h l = (l, h.1)
set_lies (b ∷ bs) (x ∷ xs) (suc i) v h l = (h.0, set_lies bs xs i v h.1 l)

module _ (d i : ℕ) (v : LocalValue) where
  abbrev Fits : List MaybeDevice → Type 0
  Fits ms = is_in d (ids ms) ≡ true → Lies (input_bound (slice_get (bounds_in d ms) i)) v

  fits_later : (m : MaybeDevice) (ms : List MaybeDevice) → Rises (m.id ∷ ids ms) → Fits (m ∷ ms) → Fits ms
  fits_later m ms u f h =
      let t = not_first d m.id (ids ms) u h in
      let g : Lies (input_bound (slice_get (if nat_eq d m.id then m.inputs else bounds_in d ms) i)) v =
      f (in_front d m.id (ids ms) h) in
      rw t at g

  set_within : {ms : List MaybeDevice} {ns : List NetDevice} → Rises (ids ms) → Fits ms → DevicesWithin ms ns
      → DevicesWithin ms (put_input d i v ns)
  set_within u f no_device = no_device
  set_within u f (is_away m {ms} {ns} w r) =
      is_away m w (set_within (rises_tail m.id (ids ms) u) (fits_later m ms u f) r)
  set_within u f (is_there m n {ms} {ns} q h r) = by_test (nat_eq d m.id) refl (ap (nat_eq d) q)
      (set_within (rises_tail m.id (ids ms) u) (fits_later m ms u f) r)
    where
      by_test : (c : Bool) → nat_eq d m.id ≡ c → nat_eq d n.id ≡ nat_eq d m.id → DevicesWithin ms (put_input d i v ns)
          → DevicesWithin (m ∷ ms) (put_input d i v (n ∷ ns))
      by_test true t e s =
          let e' = e ∙ t in
          let here : (nat_eq d m.id || is_in d (ids ms)) ≡ true = rw t refl in
          let g : Lies (input_bound (slice_get (if nat_eq d m.id then m.inputs else bounds_in d ms) i)) v = f here in
          let g' = rw t at g in
          rw e' (is_there m (record n { inputs = slice_set n.inputs i v }) q (set_lies m.inputs n.inputs i v h g') s)
      by_test false t e s = let e' = e ∙ t in rw e' (is_there m n q h s)

-- ---- one device less

module _ (d : ℕ) where
  abbrev Unsure : List MaybeDevice → Type 0
  Unsure ms = is_in d (ids ms) ≡ true → sure_in d ms ≡ false

  unsure_later : (m : MaybeDevice) (ms : List MaybeDevice) → Rises (m.id ∷ ids ms) → Unsure (m ∷ ms) → Unsure ms
  unsure_later m ms u f h =
      let t = not_first d m.id (ids ms) u h in
      let g : (if nat_eq d m.id then m.sure else sure_in d ms) ≡ false = f (in_front d m.id (ids ms) h) in
      rw t at g

  leave_devices : {ms : List MaybeDevice} {ns : List NetDevice} → Rises (ids ms) → Unsure ms → DevicesWithin ms ns
      → DevicesWithin ms (drop_device d ns)
  leave_devices u f no_device = no_device
  leave_devices u f (is_away m {ms} {ns} w r) =
      is_away m w (leave_devices (rises_tail m.id (ids ms) u) (unsure_later m ms u f) r)
  leave_devices u f (is_there m n {ms} {ns} q h r) = by_test (nat_eq d m.id) refl (ap (nat_eq d) q)
      (leave_devices (rises_tail m.id (ids ms) u) (unsure_later m ms u f) r)
    where
      by_test : (c : Bool) → nat_eq d m.id ≡ c → nat_eq d n.id ≡ nat_eq d m.id → DevicesWithin ms (drop_device d ns)
          → DevicesWithin (m ∷ ms) (drop_device d (n ∷ ns))
      by_test true t e s =
          let e' = e ∙ t in
          let here : (nat_eq d m.id || is_in d (ids ms)) ≡ true = rw t refl in
          let g : (if nat_eq d m.id then m.sure else sure_in d ms) ≡ false = f here in
          let g' = rw t at g in
          rw e' (is_away m g' s)
      by_test false t e s = let e' = e ∙ t in rw e' (is_there m n q h s)

  -- a link of a device that isn't sure isn't
  touched : (ds : List MaybeDevice) (m : MaybeLink) → sure_in d ds ≡ false
      → (m.sure ≡ true → (sure_in m.a ds ≡ true) × (sure_in m.b ds ≡ true)) → (nat_eq m.a d || nat_eq m.b d) ≡ true
      → m.sure ≡ false
  touched ds m g ends t = by_sure m.sure refl
    where
      by_ends : (p q : Bool) → nat_eq m.a d ≡ p → nat_eq m.b d ≡ q → (p || q) ≡ true
          → (sure_in m.a ds ≡ true) × (sure_in m.b ds ≡ true) → ⊥
      by_ends true q x y h s =
          clash (sure_in d ds) (subst (λ k. sure_in k ds ≡ true) (eqb-true m.a d x) s.0) g
      by_ends false true x y h s =
          clash (sure_in d ds) (subst (λ k. sure_in k ds ≡ true) (eqb-true m.b d y) s.1) g
      by_ends false false x y h s = absurd cc

      by_sure : (s : Bool) → m.sure ≡ s → m.sure ≡ false
      by_sure false x = x
      by_sure true x = absurd (by_ends (nat_eq m.a d) (nat_eq m.b d) refl refl t (ends x))

  leave_links : (ds : List MaybeDevice) {ms : List MaybeLink} {ls : List Edge} → sure_in d ds ≡ false → SureEnds ds ms
      → LinksWithin ms ls → LinksWithin ms (drop_links d ls)
  leave_links ds g s no_link = no_link
  leave_links ds g s (is_unlinked m u r) = is_unlinked m u (leave_links ds g s.1 r)
  leave_links ds g s (is_linked m l {ms} {ls} h r) =
      by_test (nat_eq m.a d || nat_eq m.b d) refl (same_touch h.a h.b) (leave_links ds g s.1 r)
    where
      same_touch : l.a ≡ m.a → l.b ≡ m.b → (nat_eq l.a d || nat_eq l.b d) ≡ (nat_eq m.a d || nat_eq m.b d)
      same_touch x y = ap (λ k. nat_eq k d || nat_eq l.b d) x ∙ ap (λ k. nat_eq m.a d || nat_eq k d) y

      by_test : (c : Bool) → (nat_eq m.a d || nat_eq m.b d) ≡ c
          → (nat_eq l.a d || nat_eq l.b d) ≡ (nat_eq m.a d || nat_eq m.b d) → LinksWithin ms (drop_links d ls)
          → LinksWithin (m ∷ ms) (drop_links d (l ∷ ls))
      by_test true t e k = let e' = e ∙ t in rw e' (is_unlinked m (touched ds m g s.0 t) k)
      by_test false t e k = let e' = e ∙ t in rw e' (is_linked m l h k)

-- ---- one link less

or_left : (p q : Bool) → (p || q) ≡ false → p ≡ false
or_left true q h = absurd cc
or_left false q h = refl

or_right : (p q : Bool) → (p || q) ≡ false → q ≡ false
or_right true q h = absurd cc
or_right false q h = h

module _ (a b : ℕ) where
  pub pair_same : (m : MaybeLink) (l : Edge) → LinkWithin m l → is_pair a b l ≡ is_pair_of a b m
  pair_same m l h = ap (λ k. nat_eq k a && nat_eq l.b b) h.a ∙ ap (λ k. nat_eq m.a a && nat_eq k b) h.b

  unlink_within : {ms : List MaybeLink} {ls : List Edge} → sure_link a b ms ≡ false → LinksWithin ms ls
      → LinksWithin ms (drop_pair a b ls)
  unlink_within g no_link = no_link
  unlink_within g (is_unlinked m {ms} {ls} u r) =
      is_unlinked m u (unlink_within (or_right (is_pair_of a b m && m.sure) (sure_link a b ms) g) r)
  unlink_within g (is_linked m l {ms} {ls} h r) = by_test (is_pair_of a b m) refl (pair_same m l h)
      (unlink_within (or_right (is_pair_of a b m && m.sure) (sure_link a b ms) g) r)
    where
      by_test : (c : Bool) → is_pair_of a b m ≡ c → is_pair a b l ≡ is_pair_of a b m → LinksWithin ms (drop_pair a b ls)
          → LinksWithin (m ∷ ms) (drop_pair a b (l ∷ ls))
      by_test true t e s =
          let e' = e ∙ t in
          let k : (is_pair_of a b m && m.sure) ≡ false = or_left (is_pair_of a b m && m.sure) (sure_link a b ms) g in
          let k' = rw t at k in
          rw e' (is_unlinked m k' s)
      by_test false t e s = let e' = e ∙ t in rw e' (is_linked m l h s)

  -- ---- one link more, or another weight

  both_true : (p q : Bool) → (p && q) ≡ true → (p ≡ true) × (q ≡ true)
  both_true true true h = (refl, refl)
  both_true true false h = absurd cc
  both_true false q h = absurd cc

  pub pair_is : (m : MaybeLink) → is_pair_of a b m ≡ true → (m.a ≡ a) × (m.b ≡ b)
  pair_is m t = let k = both_true (nat_eq m.a a) (nat_eq m.b b) t in (eqb-true m.a a k.0, eqb-true m.b b k.1)

  abbrev BeforePair : MaybeLink → Type 0
  BeforePair m = (m.a ≤ a) × (m.a ≡ a → m.b < b)

  -- a link that comes before others comes before a pair among them
  pub before_pair : (w : ℕ) (m : MaybeLink) (ms : List MaybeLink) → BeforeAll (least_edge m) (map least_edge ms)
      → MayLink a b w ms → BeforePair m
  before_pair w m [] u h = absurd h
  before_pair w m (n ∷ ns) u (inl h) =
      let k = pair_is n h.0 in
      let x = u.0.first in
      let p = k.0 in
      let q = k.1 in (
        omega (arith, x, p),
        λ e. let y = u.0.second (e ∙ sym p) in omega (arith, y, q),
      )
  before_pair w m (n ∷ ns) u (inr h) = before_pair w m ns u.1 h

  passes : (m : MaybeLink) (l : Edge) → LinkWithin m l → BeforePair m
      → (is_before a b l ≡ true) × (is_pair a b l ≡ false)
  passes m l h p = by_test (nat_eq l.a a) refl
    where
      by_test : (c : Bool) → nat_eq l.a a ≡ c → (is_before a b l ≡ true) × (is_pair a b l ≡ false)
      by_test true t =
          let e = eqb-true l.a a t in
          let f = h.a in
          let g = h.b in
          let k = p.1 (sym f ∙ e) in
          let less : nat_lt l.b b ≡ true = lt-ltb l.b b (omega (arith, k, g)) in
          let other : nat_eq l.b b ≡ false = ne_eqb l.b b (λ z. absurd (omega (arith, k, g, z))) in
          (rw (t, less) (any_true (nat_lt l.a a)), rw (t, other) refl)
      by_test false t =
          let e = eqb-false l.a a t in
          let f = h.a in
          let k = p.0 in
          let less : nat_lt l.a a ≡ true = lt-ltb l.a a (omega (arith, k, f, e)) in
          (rw less refl, rw t refl)

  -- links behind the pair come after it, and none of them is one of it
  abbrev Behind : List MaybeLink → Type 0
  Behind [] = Unit {0}
  Behind (m ∷ ms) = ((a ≤ m.a) × (a ≡ m.a → b < m.b)) × Behind ms

  behind_of : (m : MaybeLink) (ms : List MaybeLink) → (m.a ≡ a) × (m.b ≡ b)
      → BeforeAll (least_edge m) (map least_edge ms) → Behind ms
  behind_of m [] e u = tt
  behind_of m (n ∷ ns) e u =
      let x = u.0.first in
      let p = e.0 in
      let q = e.1 in (
        (
          omega (arith, x, p),
          λ z. let y = u.0.second (p ∙ z) in omega (arith, y, q),
        ),
        behind_of m ns e u.1,
      )

  not_pair : (m : MaybeLink) → (a ≤ m.a) × (a ≡ m.a → b < m.b) → is_pair_of a b m ≡ false
  not_pair m h = by_test (nat_eq m.a a) refl
    where
      by_test : (c : Bool) → nat_eq m.a a ≡ c → is_pair_of a b m ≡ false
      by_test false t = rw t refl
      by_test true t =
          let k = h.1 (sym (eqb-true m.a a t)) in
          let other : nat_eq m.b b ≡ false = ne_eqb m.b b (λ z. absurd (omega (arith, k, z))) in
          rw (t, other) refl

  none_sure : (ms : List MaybeLink) → Behind ms → sure_link a b ms ≡ false
  none_sure [] h = refl
  none_sure (m ∷ ms) h = let t = not_pair m h.0 in let r = none_sure ms h.1 in rw (t, r) refl

  stops : (m : MaybeLink) (l : Edge) → LinkWithin m l → (a ≤ m.a) × (a ≡ m.a → b < m.b) → is_before a b l ≡ false
  stops m l h p =
      let f = h.a in
      let g = h.b in
      let x = p.0 in
      let less : nat_lt l.a a ≡ false = le-ltb l.a a (omega (arith, x, f)) in
      by_test less (nat_eq l.a a) refl
    where
      by_test : nat_lt l.a a ≡ false → (c : Bool) → nat_eq l.a a ≡ c → is_before a b l ≡ false
      by_test less false t = rw (less, t) refl
      by_test less true t =
          let f = h.a in
          let g = h.b in
          let k = p.1 (sym (eqb-true l.a a t) ∙ f) in
          let other : nat_lt l.b b ≡ false = le-ltb l.b b (omega (arith, k, g)) in
          rw (less, t, other) refl

  -- so it is put in front of them
  in_place : (e : Edge) {ms : List MaybeLink} {ls : List Edge} → Behind ms → LinksWithin ms ls
      → insert_after (is_before a b) e ls ≡ e ∷ ls
  in_place e h no_link = refl
  in_place e h (is_unlinked m u r) = in_place e h.1 r
  in_place e h (is_linked m l {ms} {ls} k r) = let s = stops m l k h.0 in rw s refl

  module _ (w : ℕ) where
    abbrev the_edge : Edge
    the_edge = record { a = a; b = b; weight = w }

    here_within : (m : MaybeLink) (ms : List MaybeLink) (ls : List Edge)
        → (is_pair_of a b m ≡ true) × (m.least ≤ w) × (w ≤ m.greatest)
        → BeforeAll (least_edge m) (map least_edge ms) → LinksWithin ms ls
        → LinksWithin (m ∷ ms) (insert_edge the_edge (drop_pair a b ls))
    here_within m ms ls h u r =
        let e = pair_is m h.0 in
        let v = behind_of m ms e u in
        let s = unlink_within (none_sure ms v) r in
        subst (LinksWithin (m ∷ ms)) (sym (in_place the_edge v s))
        (is_linked m the_edge (record { a = sym e.0; b = sym e.1; above = h.1; below = h.2 }) s)

    link_within : (D : Declarations) (ds : List ℕ) {ms : List MaybeLink} {ls : List Edge}
        → LinksFit D ds (map least_edge ms) → MayLink a b w ms → LinksWithin ms ls
        → LinksWithin ms (insert_edge the_edge (drop_pair a b ls))
    link_within D ds f h no_link = absurd h
    link_within D ds f (inl h) (is_unlinked m {ms} {ls} u r) = here_within m ms ls h f.1 r
    link_within D ds f (inr h) (is_unlinked m {ms} {ls} u r) = is_unlinked m u (link_within D ds f.2 h r)
    link_within D ds f (inl h) (is_linked m l {ms} {ls} k r) =
        let q = h.0 in
        let t : is_pair a b l ≡ true = pair_same m l k ∙ q in
        rw t (here_within m ms ls h f.1 r)
    link_within D ds f (inr h) (is_linked m l {ms} {ls} k r) =
        let p = passes m l k (before_pair w m ms f.1 h) in
        let before = p.0 in
        let other = p.1 in
        rw other (rw before (is_linked m l k (link_within D ds f.2 h r)))

-- ---- one device more

module _ (x : NetDevice) where
  -- it is put in front of devices that are all above it
  abbrev AllOver : List MaybeDevice → Type 0
  AllOver [] = Unit {0}
  AllOver (m ∷ ms) = (x.id < m.id) × AllOver ms

  over_of : (k : ℕ) (ms : List MaybeDevice) → x.id ≡ k → Rises (k ∷ ids ms) → AllOver ms
  over_of k [] e u = tt
  over_of k (m ∷ ms) e u = let l = u.0 in (omega (arith, l, e), over_of k ms e (rises_weaker k m.id (ids ms) u.0 u.1))

  first_place : {ms : List MaybeDevice} {ns : List NetDevice} → AllOver ms → DevicesWithin ms ns
      → insert_device x ns ≡ x ∷ ns
  first_place h no_device = refl
  first_place h (is_away m u r) = first_place h.1 r
  first_place h (is_there m n {ms} {ns} q k r) =
      let l = h.0 in
      let s : nat_lt n.id x.id ≡ false = le-ltb n.id x.id (omega (arith, l, q)) in
      rw s refl

  join_within : {ms : List MaybeDevice} {ns : List NetDevice} → Rises (ids ms) → is_in x.id (ids ms) ≡ true
      → InputsLie (bounds_in x.id ms) x.inputs → is_in x.id (numbers ns) ≡ false → DevicesWithin ms ns
      → DevicesWithin ms (insert_device x ns)
  join_within u l h g no_device = absurd cc
  join_within u l h g (is_away m {ms} {ns} w r) = by_test (nat_eq x.id m.id) refl l h
      (λ l' h'. join_within (rises_tail m.id (ids ms) u) l' h' g r)
    where
      by_test : (c : Bool) → nat_eq x.id m.id ≡ c → (c || is_in x.id (ids ms)) ≡ true
          → InputsLie (if c then m.inputs else bounds_in x.id ms) x.inputs
          → (is_in x.id (ids ms) ≡ true → InputsLie (bounds_in x.id ms) x.inputs
          → DevicesWithin ms (insert_device x ns))
          → DevicesWithin (m ∷ ms) (insert_device x ns)
      by_test true t l h ih =
          let e = eqb-true x.id m.id t in
          subst (DevicesWithin (m ∷ ms)) (sym (first_place (over_of m.id ms e u) r)) (is_there m x e h r)
      by_test false t l h ih = is_away m w (ih l h)
  join_within u l h g (is_there m n {ms} {ns} q k r) =
      by_test (nat_eq x.id m.id) refl (ap (nat_eq x.id) q) l h g
      (λ l' h' g'. join_within (rises_tail m.id (ids ms) u) l' h' g' r)
    where
      by_test : (c : Bool) → nat_eq x.id m.id ≡ c → nat_eq x.id n.id ≡ nat_eq x.id m.id
          → (c || is_in x.id (ids ms)) ≡ true → InputsLie (if c then m.inputs else bounds_in x.id ms) x.inputs
          → (nat_eq x.id n.id || is_in x.id (numbers ns)) ≡ false
          → (is_in x.id (ids ms) ≡ true → InputsLie (bounds_in x.id ms) x.inputs → is_in x.id (numbers ns) ≡ false
          → DevicesWithin ms (insert_device x ns))
          → DevicesWithin (m ∷ ms) (insert_device x (n ∷ ns))
      by_test true t e l h g ih = let e' = e ∙ t in let g' = rw e' at g in absurd cc
      by_test false t e l h g ih =
          let e' = e ∙ t in
          let g' : is_in x.id (numbers ns) ≡ false = rw e' at g in
          let less = later_above m.id x.id (ids ms) u l in
          let s : nat_lt n.id x.id ≡ true = lt-ltb n.id x.id (omega (arith, less, q)) in
          rw s (is_there m n q k (ih l h g'))

-- ---- edits, and logs

module _ (U : Unfolding) (E : Envelope) (envelope : IsEnvelope E) (ends : SureEnds E.devices E.links) where
  edit_within : (c : Core) (y : EditValue) → edit_fault c y ≡ None → LiesWithin E c.net → MayEdit E y
      → LiesWithin E (net_edited c.net y)
  edit_within c (LinkEdit a b v) f w h = record {
    declared = w.declared;
    devices = w.devices;
    links = link_within (min a b) (max a b) v E.declared (ids E.devices) envelope.links h w.links;
  }
  edit_within c (UnlinkEdit a b) f w h = record {
    declared = w.declared;
    devices = w.devices;
    links = unlink_within (min a b) (max a b) h w.links;
  }
  edit_within c (SetEdit d i v) f w h = record {
    declared = w.declared;
    devices = set_within d i v envelope.rising (λ l. h) w.devices;
    links = w.links;
  }
  edit_within c (PokeEdit d e) f w h = absurd h
  edit_within c (JoinEdit x) f w h = record {
    declared = w.declared;
    devices = join_within x envelope.rising h.0 h.1 (can_join c.net x f).new w.devices;
    links = w.links;
  }
  edit_within c (LeaveEdit d) f w h = record {
    declared = w.declared;
    devices = leave_devices d envelope.rising (λ l. h) w.devices;
    links = leave_links d E.devices h ends w.links;
  }

  not_poke : (e : EntryValue) → MayEnter E e → is_poke e ≡ false
  not_poke (BeginEntry d) h = refl
  not_poke (EndEntry d) h = refl
  not_poke IdleEntry h = refl
  not_poke (EditEntry (LinkEdit a b v)) h = refl
  not_poke (EditEntry (UnlinkEdit a b)) h = refl
  not_poke (EditEntry (SetEdit d i v)) h = refl
  not_poke (EditEntry (PokeEdit d e)) h = absurd h
  not_poke (EditEntry (JoinEdit x)) h = refl
  not_poke (EditEntry (LeaveEdit d)) h = refl

  entry_within : (c next : Core) (e : EntryValue) → Step U c e next → LiesWithin E c.net → MayEnter E e
      → LiesWithin E (net_next c.net e)
  entry_within c next (BeginEntry d) s w h = w
  entry_within c next (EndEntry d) s w h = w
  entry_within c next IdleEntry s w h = w
  entry_within c next (EditEntry y) s w h = edit_within c y s.allowed w h

  log_within : (c last : Core) (log : List EntryValue) → LiesWithin E c.net → Run U c log last → AllMayEnter E log
      → Stays (LiesWithin E) c.net log
  log_within c last [] w s h = w
  log_within c last (e ∷ es) w s h =
      let k = entry_within c s.0 e s.1 w h.0 in
      let q = step_nets U (λ d. c.exports) c s.0 e s.1 in (
        w,
        not_poke e h.0,
        subst (λ n. Stays (LiesWithin E) n es) q
            (log_within s.0 last es (subst (LiesWithin E) (sym q) k) s.2 h.1),
      )

pub edits_stay_within : EditsStayWithin
edits_stay_within U E envelope ends c last log w s h = log_within U E envelope ends c last log w s h
