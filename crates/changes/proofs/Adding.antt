-- What is at hand with one more line.
use Rattle.std.proofs.Common.{ℕ, suc, ◌≡◌, ◌+◌, ◌≤◌, ◌⊎◌, inl, inr, Bool, true, false, ◌&&◌, ◌||◌, not, min, max, nat_eq, List, ◌∷◌, length, cond, refl, sym, ap, ◌∙◌, arith, if◌then◌else◌}
use Rattle.std.proofs.lemmas.Bool.{eqb-true, eqb-false, eq-eqb, ne_eqb}
use Rattle.std.specs.HashSet as bag
use Rattle.std.specs.HashSet.{hash_set_len}
use Rattle.fc_values.specs.Fields.{is_in}
use Rattle.topology.specs.Networks.{Network, IsNetwork, lives, near}
use Rattle.topology.specs.Changes.{are_linked}
use Rattle.changes.specs.declared.hands.Hand.{Hand}
use Rattle.changes.specs.declared.types.Possible.{Possible}
use Rattle.changes.specs.declared.types.Weights.{Weights}
use Rattle.changes.specs.Changes.{ChangeValue, LinkChange, JoinChange}
use Rattle.changes.specs.Hand.{joins_device, links_pair, are_pair, some_line, at_hand, pair_at_hand, with_new, devices_at_hand, other_end, partners}
use Rattle.changes.specs.Kept.{same_pair, more_partners, IsHandOf}
use Rattle.fc_values.proofs.Booleans.{or_no}
use Rattle.changes.proofs.AtHand.{longer, in_devices, in_partners, at_hand_turned, pair_ends}

turned : (a b : ℕ) → nat_eq a b ≡ nat_eq b a
turned a b = by_test (nat_eq b a) refl
  where
    by_test : (t : Bool) → nat_eq b a ≡ t → nat_eq a b ≡ t
    by_test true e = eq-eqb a b (sym (eqb-true b a e))
    by_test false e = ne_eqb a b (λ q. eqb-false b a e (sym q))

length_new : (d : ℕ) (ds : List ℕ) (t : Bool) → is_in d ds ≡ t → length (with_new d ds) ≡ (if t then length ds else length ds + 1)
length_new d ds true e = rw e refl
length_new d ds false e = let k = longer d ds in rw e (omega arith)

absorbed : (p q : Bool) → (p || q) ≡ true → (p || q) ≡ (p || true)
absorbed true q e = refl
absorbed false q e = e

either_or : (l p has some : Bool) → (l || has) ≡ (l || some) → (l || cond p true has) ≡ (l || (p || some))
either_or true p has some e = refl
either_or false true has some e = refl
either_or false false has some e = e

module _ (n : Network) (cs : List ChangeValue) where
  -- ---- a device

  module _ (d : ℕ) (ps : List Possible) (has : ℕ → Bool) (h : (q : ℕ) → (lives n q || has q) ≡ at_hand n cs q) where
    pub devices_joined : (more : ℕ → Bool) → ((q : ℕ) → more q ≡ cond (nat_eq d q) true (has q)) → (q : ℕ) → (lives n q || more q) ≡ at_hand n (JoinChange d ps ∷ cs) q
    devices_joined more u q = ap (λ t. lives n q || t) (u q ∙ ap (λ t. cond t true (has q)) (turned d q)) ∙ either_or (lives n q) (nat_eq q d) (has q) _ (h q)

    pub count_joined : (added : Bool) (size more : ℕ) → at_hand n cs d ≡ false → added ≡ not (has d) → more ≡ size + (if added then 1 else 0) → length n.devices + size ≡ length (devices_at_hand n cs)
        → length n.devices + more ≡ length (devices_at_hand n (JoinChange d ps ∷ cs))
    count_joined added size more new a u e =
        let k = length_new d (devices_at_hand n cs) false (in_devices n cs d ∙ new) in
        let free = (or_no (lives n d) (has d) (h d ∙ new)).1 in
        let v : more ≡ size + 1 = u ∙ ap (λ b. size + (if b then 1 else 0)) (a ∙ ap not free) in
        omega arith

    pub devices_kept : at_hand n cs d ≡ true → (q : ℕ) → (lives n q || has q) ≡ at_hand n (JoinChange d ps ∷ cs) q
    devices_kept old q = h q ∙ by_test (nat_eq q d) refl
      where
        by_test : (t : Bool) → nat_eq q d ≡ t → at_hand n cs q ≡ (lives n q || (t || some_line (joins_device q) cs))
        by_test true e = absorbed (lives n q) (some_line (joins_device q) cs) (ap (at_hand n cs) (eqb-true q d e) ∙ old)
        by_test false e = refl

    pub count_kept : (size : ℕ) → at_hand n cs d ≡ true → length n.devices + size ≡ length (devices_at_hand n cs) → length n.devices + size ≡ length (devices_at_hand n (JoinChange d ps ∷ cs))
    count_kept size old e = e ∙ sym (length_new d (devices_at_hand n cs) true (in_devices n cs d ∙ old))

  -- ---- a pair

  module _ (a b : ℕ) (w : Weights) where
    pub pairs_linked : (has more : ℕ × ℕ → Bool) → ((x y : ℕ) → (are_linked n x y || has (min x y, max x y)) ≡ pair_at_hand n cs x y) → ((q : ℕ × ℕ) → more q ≡ cond (same_pair (min a b, max a b) q) true (has q))
        → (x y : ℕ) → (are_linked n x y || more (min x y, max x y)) ≡ pair_at_hand n (LinkChange a b w ∷ cs) x y
    pairs_linked has more h u x y = ap (λ t. are_linked n x y || t) (u (min x y, max x y)) ∙ either_or (are_linked n x y) (same_pair (min a b, max a b) (min x y, max x y)) (has (min x y, max x y)) _ (h x y)

    module _ (net : IsNetwork n) (count : ℕ → ℕ) (h : (d : ℕ) → length (near n d) + count d ≡ length (partners n cs d)) where
      by_ends : (d : ℕ) (s t new : Bool) → nat_eq a d ≡ s → nat_eq b d ≡ t → pair_at_hand n cs a b ≡ not new
          → length (other_end d a b (partners n cs d)) ≡ (if new && (s || t) then length (partners n cs d) + 1 else length (partners n cs d))
      by_ends d true t true e f k = rw e (length_new b (partners n cs d) false (in_partners n net cs d b ∙ ap (λ x. pair_at_hand n cs x b) (sym (eqb-true a d e)) ∙ k))
      by_ends d true t false e f k = rw e (length_new b (partners n cs d) true (in_partners n net cs d b ∙ ap (λ x. pair_at_hand n cs x b) (sym (eqb-true a d e)) ∙ k))
      by_ends d false true true e f k = rw (e, f) (length_new a (partners n cs d) false (in_partners n net cs d a ∙ ap (λ x. pair_at_hand n cs x a) (sym (eqb-true b d f)) ∙ at_hand_turned n cs a b ∙ k))
      by_ends d false true false e f k = rw (e, f) (length_new a (partners n cs d) true (in_partners n net cs d a ∙ ap (λ x. pair_at_hand n cs x a) (sym (eqb-true b d f)) ∙ at_hand_turned n cs a b ∙ k))
      by_ends d false false true e f k = rw (e, f) refl
      by_ends d false false false e f k = rw (e, f) refl

      -- the ends of a new pair have one partner more
      pub partners_linked : (more : ℕ → ℕ) → pair_at_hand n cs a b ≡ false → ((d : ℕ) → more d ≡ (if nat_eq a d || nat_eq b d then count d + 1 else count d))
          → (d : ℕ) → length (near n d) + more d ≡ length (partners n (LinkChange a b w ∷ cs) d)
      partners_linked more new u d = by_test (nat_eq a d || nat_eq b d) (u d) (by_ends d (nat_eq a d) (nat_eq b d) true refl refl new)
        where
          by_test : (t : Bool) → more d ≡ (if t then count d + 1 else count d) → length (other_end d a b (partners n cs d)) ≡ (if t then length (partners n cs d) + 1 else length (partners n cs d)) → length (near n d) + more d ≡ length (other_end d a b (partners n cs d))
          by_test true e k = let l = h d in omega arith
          by_test false e k = let l = h d in omega arith

      pub partners_kept : pair_at_hand n cs a b ≡ true → (d : ℕ) → length (near n d) + count d ≡ length (partners n (LinkChange a b w ∷ cs) d)
      partners_kept old d = h d ∙ sym (by_ends d (nat_eq a d) (nat_eq b d) false refl refl old)

few_more : (t : Bool) (m k size : ℕ) → m ≡ (if t then k + 1 else k) → k ≤ size → m ≤ suc size
few_more true m k size e h = omega arith
few_more false m k size e h = omega arith

-- two counts, one after the other
two_counts : (s t : Bool) (old mid new : ℕ) → (s ≡ true → t ≡ false) → mid ≡ (if s then old + 1 else old) → new ≡ (if t then mid + 1 else mid) → new ≡ (if s || t then old + 1 else old)
two_counts true true old mid new apart e f = absurd (let k = apart refl in cc)
two_counts true false old mid new apart e f = f ∙ e
two_counts false true old mid new apart e f = f ∙ ap (λ k. k + 1) e
two_counts false false old mid new apart e f = f ∙ e

pub both_counted : (a b : ℕ) (old mid new : ℕ → ℕ) → nat_eq a b ≡ false → ((d : ℕ) → mid d ≡ (if nat_eq a d then old d + 1 else old d)) → ((d : ℕ) → new d ≡ (if nat_eq b d then mid d + 1 else mid d)) → (d : ℕ) → new d ≡ (if nat_eq a d || nat_eq b d then old d + 1 else old d)
both_counted a b old mid new other e f d = two_counts (nat_eq a d) (nat_eq b d) (old d) (mid d) (new d) apart (e d) (f d)
  where
    apart : nat_eq a d ≡ true → nat_eq b d ≡ false
    apart s = ne_eqb b d (λ q. eqb-false a b other (eqb-true a d s ∙ sym q))

pub one_counted : (a b : ℕ) (old new : ℕ → ℕ) → a ≡ b → ((d : ℕ) → new d ≡ (if nat_eq a d then old d + 1 else old d)) → (d : ℕ) → new d ≡ (if nat_eq a d || nat_eq b d then old d + 1 else old d)
one_counted a b old new same e d = e d ∙ ap (λ t. if t then old d + 1 else old d) (by_test (nat_eq a d) refl)
  where
    by_test : (t : Bool) → nat_eq a d ≡ t → t ≡ (t || nat_eq b d)
    by_test true s = refl
    by_test false s = sym (ap (λ x. nat_eq x d) (sym same) ∙ s)

-- ---- a hand with the line of a pair

module _ (n : Network) (cs : List ChangeValue) (a b : ℕ) (w : Weights) (h : Hand) (net : IsNetwork n) (is : IsHandOf n cs h) where
  module _ (k : Hand) (same : k.joined ≡ h.joined) (low high : ℕ) (is_low : low ≡ min a b) (is_high : high ≡ max a b)
      (linked : (q : ℕ × ℕ) → bag.contains same_pair k.linked q ≡ cond (same_pair (low, high) q) true (bag.contains same_pair h.linked q)) where
    with_ends : (q : ℕ × ℕ) → bag.contains same_pair k.linked q ≡ cond (same_pair (min a b, max a b) q) true (bag.contains same_pair h.linked q)
    with_ends q = linked q ∙ ap (λ x. cond (same_pair (x, high) q) true (bag.contains same_pair h.linked q)) is_low ∙ ap (λ x. cond (same_pair (min a b, x) q) true (bag.contains same_pair h.linked q)) is_high

    pub pair_added : pair_at_hand n cs a b ≡ false → ((d : ℕ) → more_partners k d ≡ (if nat_eq a d || nat_eq b d then more_partners h d + 1 else more_partners h d)) → IsHandOf n (LinkChange a b w ∷ cs) k
    pair_added new more = record {
      devices = λ d. ap (λ s. lives n d || bag.contains nat_eq s d) same ∙ is.devices d;
      count = ap (λ s. length n.devices + hash_set_len s) same ∙ is.count;
      pairs = pairs_linked n cs a b w (bag.contains same_pair h.linked) (bag.contains same_pair k.linked) is.pairs with_ends;
      partners = partners_linked n cs a b w net (more_partners h) is.partners (more_partners k) new more;
      few = λ d. few_more (nat_eq a d || nat_eq b d) (more_partners k d) (more_partners h d) (length cs) (more d) (is.few d);
    }

  pub pair_kept : pair_at_hand n cs a b ≡ true → IsHandOf n (LinkChange a b w ∷ cs) h
  pair_kept old = record {
    devices = is.devices;
    count = is.count;
    pairs = λ x y. is.pairs x y ∙ by_pair x y (are_pair a b x y) refl;
    partners = partners_kept n cs a b w net (more_partners h) is.partners old;
    few = λ d. let f = is.few d in omega arith;
  }
    where
      by_pair : (x y : ℕ) (t : Bool) → are_pair a b x y ≡ t → pair_at_hand n cs x y ≡ (are_linked n x y || (t || some_line (links_pair x y) cs))
      by_pair x y true e = absorbed (are_linked n x y) (some_line (links_pair x y) cs) (by_ends (pair_ends a b x y e))
        where
          by_ends : ((a ≡ x) × (b ≡ y)) ⊎ ((a ≡ y) × (b ≡ x)) → pair_at_hand n cs x y ≡ true
          by_ends (inl k) = ap (λ z. pair_at_hand n cs z y) (sym k.0) ∙ ap (λ z. pair_at_hand n cs a z) (sym k.1) ∙ old
          by_ends (inr k) = ap (λ z. pair_at_hand n cs z y) (sym k.1) ∙ ap (λ z. pair_at_hand n cs b z) (sym k.0) ∙ at_hand_turned n cs a b ∙ old
      by_pair x y false e = refl
