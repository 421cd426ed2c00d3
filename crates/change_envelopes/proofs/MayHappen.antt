-- Each edit that a line allows is one that the envelope allows.
use Rattle.std.proofs.Common.{ℕ, ◌≡◌, ◌≤◌, ◌&&◌, ◌||◌, Bool, true, false, nat_eq, min, max, map, List, [], ◌∷◌, refl, sym, ap, subst, ◌∙◌, arith, inl, inr, Some, if◌then◌else◌}
use Rattle.std.specs.Prelude.{Option, slice_get}
use Rattle.fc_values.specs.Values.{LocalValue}
use Rattle.firing_core.specs.Entries.{EditValue}
use Rattle.value_bounds.specs.BoundValues.{Lies}
use Rattle.value_bounds.proofs.Values.{itself, nat_same}
use Rattle.bound_firing.specs.Firing.{InputsLie, input_bound}
use Rattle.topology.specs.Networks.{NetDevice, Network, lives, LinksFit}
use Rattle.topology.specs.Changes.{are_linked}
use Rattle.envelopes.specs.Envelopes.{MaybeDevice, MaybeLink, Envelope, MayLive, may_live, surely_lives, bounds_in, ids, least_edge}
use Rattle.fc_values.specs.Types.{Declarations}
use Rattle.fc_values.specs.Fields.{is_in}
use Rattle.envelopes.specs.Edits.{sure_link, MayLink, MayEdit}
use Rattle.changes.specs.declared.types.Range.{Range}
use Rattle.changes.specs.declared.types.Possible.{Possible}
use Rattle.changes.specs.Changes.{range}
use Rattle.changes.specs.Changes.{ChangeValue, SetChange, LinkChange, UnlinkChange, LeaveChange, JoinChange}
use Rattle.changes.specs.Hand.{at_hand, joins_device, leaves_device, unlinks_pair, some_line, said}
use Rattle.changes.specs.Faults.{NoneRefused}
use Rattle.change_bounds.specs.Bounds.{bounds_of_device, weights_of_pair}
use Rattle.change_bounds.specs.Bounds.{stays, stays_linked}
use Rattle.change_envelopes.specs.Envelopes.{weights_in, IsEnvelopeOf}
use Rattle.change_envelopes.specs.Allowed.{Allows, set_to, linked_by, unlinked, gone, back, come, gone_again, linked_again, InRange}
use Rattle.change_envelopes.specs.Laws.{IsSaid, LinesMayHappen}
use Rattle.change_envelopes.proofs.Hulls.{HasRange, set_lies, come_lies, linked_lies, own_pair}
use Rattle.change_envelopes.proofs.Accepted.{accepted, two_devices, not_there, leaver_there}

-- what one line says, some line says
pub some_says : (says : ChangeValue → Bool) (c : ChangeValue) (cs : List ChangeValue) → IsSaid c cs → says c ≡ true → some_line says cs ≡ true
some_says says c [] s h = absurd s
some_says says c (x ∷ xs) (inl e) h = let g : says x ≡ true = ap says e ∙ h in rw g refl
some_says says c (x ∷ xs) (inr s) h = by_test (says x) (some_says says c xs s h)
  where
    by_test : (b : Bool) → some_line says xs ≡ true → (b || some_line says xs) ≡ true
    by_test true g = refl
    by_test false g = g

-- a weight in the range of a pair is one that its link may have
pub may_link : (a b w : ℕ) (ms : List MaybeLink) (r : Range) → weights_in a b ms ≡ Some r → InRange r w → MayLink a b w ms
may_link a b w [] r e h = absurd cc
may_link a b w (m ∷ ms) r e h = by_test (nat_eq m.a a && nat_eq m.b b) refl e (λ g. may_link a b w ms r g h)
  where
    by_test : (t : Bool) → (nat_eq m.a a && nat_eq m.b b) ≡ t → (if t then Some (range m.least m.greatest) else weights_in a b ms) ≡ Some r
        → (weights_in a b ms ≡ Some r → MayLink a b w ms) → MayLink a b w (m ∷ ms)
    by_test true q g later =
        let f : range m.least m.greatest ≡ r = cc in
        let k : InRange (range m.least m.greatest) w = subst (λ x. InRange x w) (sym f) h in
        inl (q, k.above, k.below)
    by_test false q g later = inr (later g)

module _ (n : Network) (cs : List ChangeValue) (E : Envelope) (h : IsEnvelopeOf n cs E) where
  pub links_lie : (a b w : ℕ) → nat_eq a b ≡ false → HasRange w (weights_of_pair n cs a b) → MayLink (min a b) (max a b) w E.links
  links_lie a b w two r = may_link (min a b) (max a b) w E.links r.range (h.links a b two ∙ r.is) r.within

  no_stay : (d : ℕ) → stays n cs d ≡ false → surely_lives E d ≡ false
  no_stay d e = h.sure d ∙ e

  there : (d : ℕ) → at_hand n cs d ≡ true → MayLive E d
  there d e = h.devices d ∙ e

  within : (d : ℕ) (vs : List LocalValue) → MayLive E d → InputsLie (bounds_of_device n cs d) vs → InputsLie (bounds_in d E.devices) vs
  within d vs l i = subst (λ bs. InputsLie bs vs) (sym (h.inputs d l)) i

-- links have two devices, the lesser first
pub no_link_back : (D : Declarations) (ds : List ℕ) (ms : List MaybeLink) → LinksFit D ds (map least_edge ms) → (x y : ℕ) → y ≤ x → sure_link x y ms ≡ false
no_link_back D ds [] f x y o = refl
no_link_back D ds (m ∷ ms) f x y o = by_tests (nat_eq m.a x) (nat_eq m.b y) refl refl (no_link_back D ds ms f.2 x y o)
  where
    by_tests : (s t : Bool) → nat_eq m.a x ≡ s → nat_eq m.b y ≡ t → sure_link x y ms ≡ false → (((s && t) && m.sure) || sure_link x y ms) ≡ false
    by_tests true true p q later = let i = nat_same m.a x p in let j = nat_same m.b y q in absurd (omega (arith, f.0.order, o, i, j))
    by_tests true false p q later = later
    by_tests false t p q later = later

no_loop : (n : Network) (cs : List ChangeValue) (E : Envelope) → IsEnvelopeOf n cs E → (a b : ℕ) → a ≡ b → sure_link (min a b) (max a b) E.links ≡ false
no_loop n cs E h a b e = no_link_back E.declared (ids E.devices) E.links h.envelope.links (min a b) (max a b) (omega (arith, e))

-- a device that isn't in the envelope has no bounds
no_bounds : (d : ℕ) (ms : List MaybeDevice) → is_in d (ids ms) ≡ false → bounds_in d ms ≡ []
no_bounds d [] e = refl
no_bounds d (m ∷ ms) e = by_test (nat_eq d m.id) e (λ g. no_bounds d ms g)
  where
    by_test : (t : Bool) → (t || is_in d (ids ms)) ≡ false → (is_in d (ids ms) ≡ false → bounds_in d ms ≡ []) → (if t then m.inputs else bounds_in d ms) ≡ []
    by_test true e later = absurd cc
    by_test false e later = later e

not_in : (d i : ℕ) (v : LocalValue) (E : Envelope) → may_live E d ≡ false → Lies (input_bound (slice_get (bounds_in d E.devices) i)) v
not_in d i v E e = subst (λ bs. Lies (input_bound (slice_get bs i)) v) (sym (no_bounds d E.devices e)) tt

pub and_false : (a : Bool) → (a && false) ≡ false
and_false true = refl
and_false false = refl

pub or_true : (a : Bool) → (a || true) ≡ true
or_true true = refl
or_true false = refl

module _ (n : Network) (ls : List (ℕ × Option ChangeValue)) (E : Envelope) (none : NoneRefused n ls) (h : IsEnvelopeOf n (said ls) E) where
  said_leave : (d : ℕ) → IsSaid (LeaveChange d) (said ls) → stays n (said ls) d ≡ false
  said_leave d s = let g = some_says (leaves_device d) (LeaveChange d) (said ls) s (itself d) in rw g (and_false (lives n d))

  said_join : (d : ℕ) (ps : List Possible) → IsSaid (JoinChange d ps) (said ls) → stays n (said ls) d ≡ false
  said_join d ps s = let g = not_there n (said ls) d ps (accepted n ls (JoinChange d ps) none s) in rw g refl

  joined_there : (d : ℕ) (ps : List Possible) → IsSaid (JoinChange d ps) (said ls) → at_hand n (said ls) d ≡ true
  joined_there d ps s = let g = some_says (joins_device d) (JoinChange d ps) (said ls) s (itself d) in rw g (or_true (lives n d))

  said_unlink : (a b : ℕ) → IsSaid (UnlinkChange a b) (said ls) → stays_linked n (said ls) a b ≡ false
  said_unlink a b s =
      let g = some_says (unlinks_pair a b) (UnlinkChange a b) (said ls) s (own_pair a b) in
      rw g (off (are_linked n a b))
    where
      off : (t : Bool) → (t && false && stays n (said ls) a && stays n (said ls) b) ≡ false
      off true = refl
      off false = refl

  leave_back : (x : NetDevice) → InputsLie (bounds_of_device n (said ls) x.id) x.inputs → IsSaid (LeaveChange x.id) (said ls) → MayLive E x.id × InputsLie (bounds_in x.id E.devices) x.inputs
  leave_back x k s =
      let l = there n (said ls) E h x.id (leaver_there n (said ls) x.id (accepted n ls (LeaveChange x.id) none s)) in
      (l, within n (said ls) E h x.id x.inputs l k)

  -- two words for one device are no pair
  not_sure : (a b : ℕ) → IsSaid (UnlinkChange a b) (said ls) → (t : Bool) → nat_eq a b ≡ t → sure_link (min a b) (max a b) E.links ≡ false
  not_sure a b s false e = h.sure_links a b e ∙ said_unlink a b s
  not_sure a b s true e = no_loop n (said ls) E h a b (nat_same a b e)

  -- an edit that a line allows
  pub may_happen : (c : ChangeValue) → IsSaid c (said ls) → (e : EditValue) → Allows n (said ls) c e → MayEdit E e
  may_happen (SetChange d i p) s _ (set_to _ _ _ v k) = by_place (may_live E d) refl
    where
      by_place : (t : Bool) → may_live E d ≡ t → Lies (input_bound (slice_get (bounds_in d E.devices) i)) v
      by_place true l = subst (λ bs. Lies (input_bound (slice_get bs i)) v) (sym (h.inputs d l)) (set_lies n (said ls) d i p v s k)
      by_place false l = not_in d i v E l
  may_happen (LinkChange a b ws) s _ (linked_by _ _ w _ k) = links_lie n (said ls) E h a b w (two_devices n (said ls) a b ws (accepted n ls (LinkChange a b ws) none s)) (linked_lies n (said ls) a b w ws s k)
  may_happen (UnlinkChange a b) s _ (unlinked _ _) = not_sure a b s (nat_eq a b) refl
  may_happen (LeaveChange d) s _ (gone _) = no_stay n (said ls) E h d (said_leave d s)
  may_happen (LeaveChange _) s _ (back x k) = leave_back x k s
  may_happen (JoinChange _ ps) s _ (come x _ k) = let l = there n (said ls) E h x.id (joined_there x.id ps s) in (l, within n (said ls) E h x.id x.inputs l (come_lies n (said ls) x.id ps x.inputs s k))
  may_happen (JoinChange d ps) s _ (gone_again _ _) = no_stay n (said ls) E h d (said_join d ps s)
  may_happen (LeaveChange d) s _ (linked_again _ b w r two q k) = links_lie n (said ls) E h d b w two (record { range = r; is = q; within = k })

pub lines_may_happen : LinesMayHappen
lines_may_happen n ls E none h c s e k = may_happen n ls E none h c s e k
