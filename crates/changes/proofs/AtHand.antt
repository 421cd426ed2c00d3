-- Devices and pairs at hand as rising lists of numbers, and who is in them.
use Rattle.std.proofs.Common.{ℕ, suc, ◌≡◌, ◌<◌, ◌⊎◌, inl, inr, Bool, true, false, ◌||◌, min, max, nat_eq, nat_lt, List, [], ◌∷◌, length, refl, sym, ap, subst, ◌∙◌, arith, if◌then◌else◌}
use Rattle.std.proofs.lemmas.Bool.{and_parts, eqb-true, eqb-false, eq-eqb, ltb-true, ltb-false}
use Rattle.std.specs.Prelude.{Option}
use Rattle.fc_values.specs.Fields.{Rises, is_in, with_number}
use Rattle.fc_values.proofs.Numbers.{rises_with}
use Rattle.fc_values.proofs.Rising.{rises_tail, rises_apart}
use Rattle.fc_values.proofs.Booleans.{by_iff}
use Rattle.topology.specs.Networks.{Network, IsNetwork, numbers, lives, near}
use Rattle.topology.specs.Nearby.{neighbour_numbers}
use Rattle.topology.specs.Changes.{are_linked}
use Rattle.topology.proofs.Neighbours.{near_rises, near_linked}
use Rattle.changes.specs.Changes.{ChangeValue, SetChange, LinkChange, UnlinkChange, LeaveChange, JoinChange}
use Rattle.changes.specs.Hand.{said_first, joins_device, links_pair, are_pair, some_line, at_hand, pair_at_hand, with_new, devices_at_hand, other_end, first_of, partners}

-- some lines, the last one first, in front of others
abbrev pub behind : List ChangeValue → List (ℕ × Option ChangeValue) → List ChangeValue
behind before [] = before
behind before (l ∷ ls) = behind (said_first l.1 before) ls

-- ---- rising lists

itself : (d : ℕ) → nat_eq d d ≡ true
itself d = eq-eqb d d refl

pub or_false : (p : Bool) → (p || false) ≡ p
or_false true = refl
or_false false = refl

swapped : (p q r : Bool) → (q || (p || r)) ≡ (p || (q || r))
swapped true true r = refl
swapped true false r = refl
swapped false true r = refl
swapped false false r = refl

in_with : (x d : ℕ) (ns : List ℕ) → is_in x (with_number d ns) ≡ (nat_eq x d || is_in x ns)
in_with x d [] = refl
in_with x d (n ∷ ns) = by_test (nat_lt d n) (in_with x d ns)
  where
    by_test : (t : Bool) → is_in x (with_number d ns) ≡ (nat_eq x d || is_in x ns) → is_in x (if t then (d ∷ n ∷ ns) else (n ∷ with_number d ns)) ≡ (nat_eq x d || (nat_eq x n || is_in x ns))
    by_test true h = refl
    by_test false h = ap (λ b. nat_eq x n || b) h ∙ swapped (nat_eq x d) (nat_eq x n) (is_in x ns)

pub in_new : (x d : ℕ) (ds : List ℕ) → is_in x (with_new d ds) ≡ (nat_eq x d || is_in x ds)
in_new x d ds = by_test (is_in d ds) refl
  where
    absorbed : is_in d ds ≡ true → (t : Bool) → nat_eq x d ≡ t → is_in x ds ≡ (t || is_in x ds)
    absorbed h true e = subst (λ y. is_in y ds ≡ true) (sym (eqb-true x d e)) h
    absorbed h false e = refl

    by_test : (t : Bool) → is_in d ds ≡ t → is_in x (if t then ds else with_number d ds) ≡ (nat_eq x d || is_in x ds)
    by_test true e = absorbed e (nat_eq x d) refl
    by_test false e = in_with x d ds

pub longer : (d : ℕ) (ns : List ℕ) → length (with_number d ns) ≡ suc (length ns)
longer d [] = refl
longer d (n ∷ ns) = by_order (nat_lt d n) (longer d ns)
  where
    by_order : (t : Bool) → length (with_number d ns) ≡ suc (length ns) → length (if t then (d ∷ n ∷ ns) else (n ∷ with_number d ns)) ≡ suc (suc (length ns))
    by_order true h = refl
    by_order false h = ap suc h

pub rises_new : (d : ℕ) (ds : List ℕ) → Rises ds → Rises (with_new d ds)
rises_new d ds r = by_test (is_in d ds) refl
  where
    by_test : (t : Bool) → is_in d ds ≡ t → Rises (if t then ds else with_number d ds)
    by_test true e = r
    by_test false e = rises_with d ds e r

-- rising lists with the same members are the same
pub same_members : (xs ys : List ℕ) → Rises xs → Rises ys → ((d : ℕ) → is_in d xs ≡ is_in d ys) → xs ≡ ys
same_members [] [] r s h = refl
same_members [] (y ∷ ys) r s h = let g = itself y in let k : false ≡ true = h y ∙ ap (λ b. b || is_in y ys) g in absurd cc
same_members (x ∷ xs) [] r s h = let g = itself x in let k : true ≡ false = sym (ap (λ b. b || is_in x xs) g) ∙ h x in absurd cc
same_members (x ∷ xs) (y ∷ ys) r s h = ap (λ n. n ∷ xs) first ∙ ap (λ ns. y ∷ ns) (same_members xs ys (rises_tail x xs r) (rises_tail y ys s) rest)
  where
    missing : (d e : ℕ) (ds es : List ℕ) → is_in d (d ∷ ds) ≡ is_in d (e ∷ es) → Rises (e ∷ es) → d < e → ⊥
    missing d e ds es g t o =
        let k = rises_apart d (e ∷ es) (o, t) in
        let m : true ≡ false = sym (ap (λ b. b || is_in d ds) (itself d)) ∙ g ∙ k in
        absurd cc

    by_order : (s t : Bool) → nat_lt x y ≡ s → nat_lt y x ≡ t → x ≡ y
    by_order true t e f = absurd (missing x y xs ys (h x) s (ltb-true x y e))
    by_order false true e f = absurd (missing y x ys xs (sym (h y)) r (ltb-true y x f))
    by_order false false e f = let g = ltb-false x y e in let k = ltb-false y x f in omega arith

    first : x ≡ y
    first = by_order (nat_lt x y) (nat_lt y x) refl refl

    off : (d : ℕ) (t : Bool) → nat_eq d x ≡ t → (t || is_in d xs) ≡ (t || is_in d ys) → is_in d xs ≡ is_in d ys
    off d false e g = g
    off d true e g =
        let q = eqb-true d x e in
        let k = rises_apart x xs r in
        let m = rises_apart y ys s in
        ap (λ n. is_in n xs) q ∙ k ∙ sym m ∙ ap (λ n. is_in n ys) (sym (q ∙ first))

    rest : (d : ℕ) → is_in d xs ≡ is_in d ys
    rest d = off d (nat_eq d x) refl (h d ∙ ap (λ n. nat_eq d n || is_in d ys) (sym first))

-- ---- devices

module _ (n : Network) where
  pub in_devices : (cs : List ChangeValue) (d : ℕ) → is_in d (devices_at_hand n cs) ≡ at_hand n cs d
  in_devices [] d = sym (or_false (lives n d))
  in_devices (SetChange e i p ∷ cs) d = in_devices cs d
  in_devices (LinkChange a b w ∷ cs) d = in_devices cs d
  in_devices (UnlinkChange a b ∷ cs) d = in_devices cs d
  in_devices (LeaveChange e ∷ cs) d = in_devices cs d
  in_devices (JoinChange e ps ∷ cs) d =
      in_new d e (devices_at_hand n cs)
      ∙ ap (λ b. nat_eq d e || b) (in_devices cs d)
      ∙ swapped (lives n d) (nat_eq d e) (some_line (joins_device d) cs)

  pub devices_rise : IsNetwork n → (cs : List ChangeValue) → Rises (devices_at_hand n cs)
  devices_rise net [] = net.rising
  devices_rise net (SetChange e i p ∷ cs) = devices_rise net cs
  devices_rise net (LinkChange a b w ∷ cs) = devices_rise net cs
  devices_rise net (UnlinkChange a b ∷ cs) = devices_rise net cs
  devices_rise net (LeaveChange e ∷ cs) = devices_rise net cs
  devices_rise net (JoinChange e ps ∷ cs) = rises_new e (devices_at_hand n cs) (devices_rise net cs)

-- ---- pairs

pub first_length : (xs : List (ℕ × ℕ)) → length (first_of xs) ≡ length xs
first_length [] = refl
first_length (x ∷ xs) = ap suc (first_length xs)

first_numbers : (xs : List (ℕ × ℕ)) → first_of xs ≡ neighbour_numbers xs
first_numbers [] = refl
first_numbers (x ∷ xs) = ap (λ ys. x.0 ∷ ys) (first_numbers xs)

-- a pair is that of two others in one order or the other
pub pair_ends : (x y a b : ℕ) → are_pair x y a b ≡ true → ((x ≡ a) × (y ≡ b)) ⊎ ((x ≡ b) × (y ≡ a))
pair_ends x y a b h = by_test (nat_eq x a) refl
  where
    parts : (nat_eq (min x y) (min a b) ≡ true) × (nat_eq (max x y) (max a b) ≡ true)
    parts = and_parts (nat_eq (min x y) (min a b)) (nat_eq (max x y) (max a b)) h

    by_test : (t : Bool) → nat_eq x a ≡ t → ((x ≡ a) × (y ≡ b)) ⊎ ((x ≡ b) × (y ≡ a))
    by_test true e =
        let q = eqb-true x a e in
        let lo = eqb-true (min x y) (min a b) parts.0 in
        let hi = eqb-true (max x y) (max a b) parts.1 in
        inl (q, omega arith)
    by_test false e =
        let q = eqb-false x a e in
        let lo = eqb-true (min x y) (min a b) parts.0 in
        let hi = eqb-true (max x y) (max a b) parts.1 in
        let k : x ≡ b = omega (arith, q) in
        inr (k, omega arith)

pub pair_same : (a b : ℕ) → are_pair a b a b ≡ true
pair_same a b = let x = itself (min a b) in let y = itself (max a b) in rw (x, y) refl

pub pair_turned : (x y a b : ℕ) → are_pair x y b a ≡ are_pair x y a b
pair_turned x y a b = let lo : min b a ≡ min a b = omega arith in let hi : max b a ≡ max a b = omega arith in rw (lo, hi) refl

module _ (n : Network) where
  pub at_hand_turned : (cs : List ChangeValue) (a b : ℕ) → pair_at_hand n cs b a ≡ pair_at_hand n cs a b
  at_hand_turned cs a b =
      let lo : min b a ≡ min a b = omega arith in
      let hi : max b a ≡ max a b = omega arith in
      ap (λ t. are_linked n b a || t) (lines_turned cs) ∙ rw (lo, hi) refl
    where
      lines_turned : (cs : List ChangeValue) → some_line (links_pair b a) cs ≡ some_line (links_pair a b) cs
      lines_turned [] = refl
      lines_turned (SetChange e i p ∷ cs) = lines_turned cs
      lines_turned (LinkChange x y w ∷ cs) = ap (λ t. t || some_line (links_pair b a) cs) (pair_turned x y a b) ∙ ap (λ t. are_pair x y a b || t) (lines_turned cs)
      lines_turned (UnlinkChange x y ∷ cs) = lines_turned cs
      lines_turned (LeaveChange e ∷ cs) = lines_turned cs
      lines_turned (JoinChange e ps ∷ cs) = lines_turned cs

in_other_end : (a b x y : ℕ) (ds : List ℕ) → is_in b (other_end a x y ds) ≡ (are_pair x y a b || is_in b ds)
in_other_end a b x y ds = by_tests (nat_eq x a) (nat_eq y a) refl refl
  where
    by_tests : (s t : Bool) → nat_eq x a ≡ s → nat_eq y a ≡ t → is_in b (if s then with_new y ds else (if t then with_new x ds else ds)) ≡ (are_pair x y a b || is_in b ds)
    by_tests true t e f = in_new b y ds ∙ ap (λ u. u || is_in b ds) (by_iff (nat_eq b y) (are_pair x y a b) there back)
      where
        there : nat_eq b y ≡ true → are_pair x y a b ≡ true
        there g = subst (λ z. are_pair x z a b ≡ true) (eqb-true b y g) (subst (λ z. are_pair z b a b ≡ true) (sym (eqb-true x a e)) (pair_same a b))

        ends : ((x ≡ a) × (y ≡ b)) ⊎ ((x ≡ b) × (y ≡ a)) → nat_eq b y ≡ true
        ends (inl k) = eq-eqb b y (sym (k.1))
        ends (inr k) = eq-eqb b y (sym k.0 ∙ eqb-true x a e ∙ sym k.1)

        back : are_pair x y a b ≡ true → nat_eq b y ≡ true
        back g = ends (pair_ends x y a b g)
    by_tests false true e f = in_new b x ds ∙ ap (λ u. u || is_in b ds) (by_iff (nat_eq b x) (are_pair x y a b) there back)
      where
        there : nat_eq b x ≡ true → are_pair x y a b ≡ true
        there g = subst (λ z. are_pair z y a b ≡ true) (eqb-true b x g) (subst (λ z. are_pair b z a b ≡ true) (sym (eqb-true y a f)) (sym (pair_turned b a a b) ∙ pair_same b a))

        ends : ((x ≡ a) × (y ≡ b)) ⊎ ((x ≡ b) × (y ≡ a)) → nat_eq b x ≡ true
        ends (inl k) = absurd (eqb-false x a e (k.0))
        ends (inr k) = eq-eqb b x (sym (k.0))

        back : are_pair x y a b ≡ true → nat_eq b x ≡ true
        back g = ends (pair_ends x y a b g)
    by_tests false false e f = by_pair (are_pair x y a b) refl
      where
        ends : ((x ≡ a) × (y ≡ b)) ⊎ ((x ≡ b) × (y ≡ a)) → ⊥
        ends (inl k) = eqb-false x a e (k.0)
        ends (inr k) = eqb-false y a f (k.1)

        by_pair : (t : Bool) → are_pair x y a b ≡ t → is_in b ds ≡ (t || is_in b ds)
        by_pair true g = absurd (ends (pair_ends x y a b g))
        by_pair false g = refl

module _ (n : Network) (net : IsNetwork n) where
  pub in_partners : (cs : List ChangeValue) (a b : ℕ) → is_in b (partners n cs a) ≡ pair_at_hand n cs a b
  in_partners [] a b = ap (is_in b) (first_numbers (near n a)) ∙ near_linked n.declared (numbers n.devices) a b n.links net.links ∙ sym (or_false (are_linked n a b))
  in_partners (SetChange e i p ∷ cs) a b = in_partners cs a b
  in_partners (LinkChange x y w ∷ cs) a b =
      in_other_end a b x y (partners n cs a)
      ∙ ap (λ t. are_pair x y a b || t) (in_partners cs a b)
      ∙ swapped (are_linked n a b) (are_pair x y a b) (some_line (links_pair a b) cs)
  in_partners (UnlinkChange x y ∷ cs) a b = in_partners cs a b
  in_partners (LeaveChange e ∷ cs) a b = in_partners cs a b
  in_partners (JoinChange e ps ∷ cs) a b = in_partners cs a b

  pub partners_rise : (cs : List ChangeValue) (a : ℕ) → Rises (partners n cs a)
  partners_rise [] a = subst Rises (sym (first_numbers (near n a))) (near_rises n.declared (numbers n.devices) a n.links net.links)
  partners_rise (SetChange e i p ∷ cs) a = partners_rise cs a
  partners_rise (LinkChange x y w ∷ cs) a = by_tests (nat_eq x a) (nat_eq y a) (partners_rise cs a)
    where
      by_tests : (s t : Bool) → Rises (partners n cs a) → Rises (if s then with_new y (partners n cs a) else (if t then with_new x (partners n cs a) else partners n cs a))
      by_tests true t r = rises_new y (partners n cs a) r
      by_tests false true r = rises_new x (partners n cs a) r
      by_tests false false r = r
  partners_rise (UnlinkChange x y ∷ cs) a = partners_rise cs a
  partners_rise (LeaveChange e ∷ cs) a = partners_rise cs a
  partners_rise (JoinChange e ps ∷ cs) a = partners_rise cs a
