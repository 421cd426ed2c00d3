-- A change that isn't refused leads from a network to a network.
use Rattle.std.proofs.Common.{◌≡◌, ◌≢◌, ℕ, ◌+◌, ◌<◌, ◌≤◌, ◌⊎◌, inl, inr, min, max, List, [], ◌∷◌, length, refl, sym, ◌∙◌, ap, subst, arith, Bool, true, false, not, nat_eq, nat_lt, nat_le, if◌then◌else◌, ◌&&◌, ◌||◌, Some, None}
use Rattle.std.proofs.lemmas.Bool.{eqb-true, eqb-false, leb-true, leb-false}
use Rattle.fc_values.specs.Types.{Declarations}
use Rattle.fc_values.specs.Fields.{Rises, is_in}
use Rattle.fc_values.specs.Values.{LocalValue}
use Rattle.topology.specs.declared.types.NetFault.{NetFault}
use Rattle.topology.specs.declared.types.NetFault.TheVariants as fault
use Rattle.fc_values.specs.Inputs.{InputsFit}
use Rattle.topology.specs.Inputs.{inputs_fault}
use Rattle.topology.specs.Networks.{NetDevice, Edge, Network, numbers, lives, near_in, near, LinkFits, LinksFit, IsNetwork}
use Rattle.topology.specs.Changes.{first_fault, is_pair, touches, has_pair, drop_pair, drop_links, put_edge, pair_edge, are_linked, is_full, in_metric, insert_device, drop_device, link_fault, linked, unlink_fault, unlinked, nth_fault, set_fault, with_input, join_fault, joined, leave_fault, left}
use Rattle.fc_values.proofs.Lists.{insert_length}
use Rattle.fc_values.proofs.Rising.{min_or}
use Rattle.topology.proofs.Links.{count, count_is, count_one, count_filter, count_insert, count_drop, filter_fit, insert_fit, no_pair_left}
use Rattle.topology.proofs.NearChanges.{near_put_other}
use Rattle.topology.proofs.Devices.{or_none, inputs_none, insert_in, insert_rises, insert_devices_fit, drop_in, drop_rises, drop_devices_fit, drop_length, put_numbers, put_length, put_devices_fit}
use Rattle.fc_values.proofs.Booleans.{or_true}

-- ---- no fault

pub no_fault : (c : Bool) (f : NetFault) (cs : List (Bool × NetFault)) → first_fault ((c, f) ∷ cs) ≡ None → (c ≡ false) × (first_fault cs ≡ None)
no_fault true f cs e = absurd (cc)
no_fault false f cs e = (refl, e)

both_true : (p q : Bool) → not (p && q) ≡ false → (p ≡ true) × (q ≡ true)
both_true true true e = (refl, refl)
both_true true false e = absurd (cc)
both_true false q e = absurd (cc)

is_true : (p : Bool) → not p ≡ false → p ≡ true
is_true true e = refl
is_true false e = absurd (cc)

either_false : (p q : Bool) → (p || q) ≡ false → (p ≡ false) × (q ≡ false)
either_false true q e = absurd (cc)
either_false false q e = (refl, e)

-- what the absence of a fault says
pub record CanLink (n : Network) (a b w : ℕ) : Type 0 where
  pub from : lives n a ≡ true
  pub to : lives n b ≡ true
  pub apart : a ≢ b
  pub above : n.declared.least ≤ w
  pub below : w ≤ n.declared.greatest
  pub room : (not (are_linked n a b) && (is_full n a || is_full n b)) ≡ false

pub can_link : (n : Network) (a b w : ℕ) → link_fault n a b w ≡ None → CanLink n a b w
can_link n a b w e =
    let p = no_fault (not (lives n a && lives n b)) fault.NoDevice ((nat_eq a b, fault.SelfLink) ∷ (not (in_metric n.declared w), fault.Weight) ∷ (not (are_linked n a b) && (is_full n a || is_full n b), fault.Degree) ∷ []) e in
    let q = no_fault (nat_eq a b) fault.SelfLink ((not (in_metric n.declared w), fault.Weight) ∷ (not (are_linked n a b) && (is_full n a || is_full n b), fault.Degree) ∷ []) p.1 in
    let r = no_fault (not (in_metric n.declared w)) fault.Weight ((not (are_linked n a b) && (is_full n a || is_full n b), fault.Degree) ∷ []) q.1 in
    let s = no_fault (not (are_linked n a b) && (is_full n a || is_full n b)) fault.Degree [] r.1 in
    let t = both_true (lives n a) (lives n b) p.0 in
    let u = both_true (nat_le n.declared.least w) (nat_le w n.declared.greatest) r.0 in
    record {
      from = t.0;
      to = t.1;
      apart = eqb-false a b q.0;
      above = leb-true n.declared.least w u.0;
      below = leb-true w n.declared.greatest u.1;
      room = s.0;
    }

-- ---- one link more, or another weight

min_max : (a b : ℕ) → a ≢ b → min a b < max a b
min_max a b h = omega (arith, h)

-- what is true of two devices is true of the lesser and the greater
pub of_min : (P : ℕ → Type 0) (a b : ℕ) → P a → P b → P (min a b) × P (max a b)
of_min P a b p q = elim (min_or a b) [ inl e ↦ (subst P (sym e.0) p, subst P (sym e.1) q) | inr e ↦ (subst P (sym e.0) q, subst P (sym e.1) p) ]

pub link_fits : (n : Network) (a b w : ℕ) → CanLink n a b w → LinkFits n.declared (numbers n.devices) (pair_edge a b w)
link_fits n a b w c =
    let t = of_min (λ d. is_in d (numbers n.devices) ≡ true) a b c.from c.to in
    record { order = min_max a b c.apart; from = t.0; to = t.1; above = c.above; below = c.below }

not_full : (n : Network) (d : ℕ) → is_full n d ≡ false → length (near n d) < 32
not_full n d e = leb-false 32 (length (near n d)) e

-- links are put in the place of their pair
pub put_fit : (D : Declarations) (ds : List ℕ) (e : Edge) (ls : List Edge) → LinkFits D ds e → LinksFit D ds ls → LinksFit D ds (put_edge e ls)
put_fit D ds e ls h f = insert_fit D ds e (drop_pair e.a e.b ls) h (no_pair_left e.a e.b ls) (filter_fit D ds ds (λ l. not (is_pair e.a e.b l)) ls (λ l k g. g) f)

-- no device has more than 32 links afterwards
put_degree : (n : Network) (e : Edge) (d : ℕ) → IsNetwork n → (not (has_pair e.a e.b n.links) && (is_full n e.a || is_full n e.b)) ≡ false → length (near_in d (put_edge e n.links)) ≤ 32
put_degree n e d net room = by_tests (nat_eq e.a d) (nat_eq e.b d) (has_pair e.a e.b n.links) refl refl refl room
  where
    more : count d (put_edge e n.links) ≡ count d (e ∷ []) + count d (drop_pair e.a e.b n.links)
    more = count_insert d (λ l. nat_lt l.a e.a || (nat_eq l.a e.a && nat_lt l.b e.b)) e (drop_pair e.a e.b n.links)

    free : (q : Bool) → (not q && (is_full n e.a || is_full n e.b)) ≡ false → q ≡ false → (is_full n e.a ≡ false) × (is_full n e.b ≡ false)
    free true u v = absurd (cc)
    free false u v = either_false (is_full n e.a) (is_full n e.b) u

    -- at an end of the link
    at_end : (q : Bool) → has_pair e.a e.b n.links ≡ q → (not q && (is_full n e.a || is_full n e.b)) ≡ false → (e.a ≡ d) ⊎ (e.b ≡ d) → length (near_in d (put_edge e n.links)) ≤ 32
    at_end true t u h = let k = net.degree d in omega (arith, more, count_one d e, count_drop e.a e.b d n.links t h, count_is d n.links, count_is d (put_edge e n.links))
    at_end false t u h =
        let f = free false u refl in
        let k : length (near n d) < 32 = elim h [ inl x ↦ subst (λ y. length (near n y) < 32) x (not_full n e.a f.0) | inr x ↦ subst (λ y. length (near n y) < 32) x (not_full n e.b f.1) ] in
        omega (arith, more, count_one d e, count_filter d (λ l. not (is_pair e.a e.b l)) n.links, count_is d n.links, count_is d (put_edge e n.links))

    by_tests : (p q r : Bool) → nat_eq e.a d ≡ p → nat_eq e.b d ≡ q → has_pair e.a e.b n.links ≡ r → (not (has_pair e.a e.b n.links) && (is_full n e.a || is_full n e.b)) ≡ false → length (near_in d (put_edge e n.links)) ≤ 32
    by_tests true q r s t v u = at_end r v (subst (λ x. (not x && (is_full n e.a || is_full n e.b)) ≡ false) v u) (inl (eqb-true e.a d s))
    by_tests false true r s t v u = at_end r v (subst (λ x. (not x && (is_full n e.a || is_full n e.b)) ≡ false) v u) (inr (eqb-true e.b d t))
    by_tests false false r s t v u = let k = net.degree d in let o = near_put_other e d n.links (eqb-false e.a d s) (eqb-false e.b d t) in omega (arith, ap length o)

or_swapped : (p q : Bool) → (p || q) ≡ (q || p)
or_swapped true true = refl
or_swapped true false = refl
or_swapped false true = refl
or_swapped false false = refl

full_min : (n : Network) (a b : ℕ) → (is_full n (min a b) || is_full n (max a b)) ≡ (is_full n a || is_full n b)
full_min n a b = elim (min_or a b) [ inl e ↦ by_ends e.0 e.1 | inr e ↦ by_ends e.0 e.1 ∙ or_swapped (is_full n b) (is_full n a) ]
  where
    by_ends : {x y : ℕ} → min a b ≡ x → max a b ≡ y → (is_full n (min a b) || is_full n (max a b)) ≡ (is_full n x || is_full n y)
    by_ends {x} {y} e f = ap (λ m. is_full n m || is_full n (max a b)) e ∙ ap (λ m. is_full n x || is_full n m) f

pub linked_network : (n : Network) (a b w : ℕ) → IsNetwork n → link_fault n a b w ≡ None → IsNetwork (linked n a b w)
linked_network n a b w net e =
    let c = can_link n a b w e in
    record {
      some = net.some;
      few = net.few;
      rising = net.rising;
      devices = net.devices;
      links = put_fit n.declared (numbers n.devices) (pair_edge a b w) n.links (link_fits n a b w c) net.links;
      degree = λ d. put_degree n (pair_edge a b w) d net (ap (λ x. not (are_linked n a b) && x) (full_min n a b) ∙ c.room);
    }

-- ---- one link less

pair_order : (D : Declarations) (ds : List ℕ) (a b : ℕ) (ls : List Edge) → LinksFit D ds ls → has_pair a b ls ≡ true → a < b
pair_order D ds a b [] f t = absurd (cc)
pair_order D ds a b (l ∷ ls) f t = by_tests (nat_eq l.a a) (nat_eq l.b b) refl refl t (λ u. pair_order D ds a b ls f.2 u)
  where
    by_tests : (p q : Bool) → nat_eq l.a a ≡ p → nat_eq l.b b ≡ q → ((p && q) || has_pair a b ls) ≡ true → (has_pair a b ls ≡ true → a < b) → a < b
    by_tests true true s u v ih = let x = eqb-true l.a a s in let y = eqb-true l.b b u in let o = f.0.order in omega arith
    by_tests true false s u v ih = ih v
    by_tests false q s u v ih = ih v

pub record CanUnlink (n : Network) (a b : ℕ) : Type 0 where
  pub pair : are_linked n a b ≡ true
  pub apart : a ≢ b

pub can_unlink : (n : Network) (a b : ℕ) → IsNetwork n → unlink_fault n a b ≡ None → CanUnlink n a b
can_unlink n a b net e =
    let p = no_fault (not (lives n a && lives n b)) fault.NoDevice ((not (are_linked n a b), fault.NoLink) ∷ []) e in
    let q = no_fault (not (are_linked n a b)) fault.NoLink [] p.1 in
    let t = is_true (are_linked n a b) q.0 in
    let o = pair_order n.declared (numbers n.devices) (min a b) (max a b) n.links net.links t in
    record { pair = t; apart = λ s. absurd (omega arith) }

pub unlinked_network : (n : Network) (a b : ℕ) → IsNetwork n → IsNetwork (unlinked n a b)
unlinked_network n a b net = record {
  some = net.some;
  few = net.few;
  rising = net.rising;
  devices = net.devices;
  links = filter_fit n.declared (numbers n.devices) (numbers n.devices) (λ l. not (is_pair (min a b) (max a b) l)) n.links (λ l k g. g) net.links;
  degree = λ d. let k = net.degree d in omega (arith, count_filter d (λ l. not (is_pair (min a b) (max a b) l)) n.links, count_is d n.links, count_is d (drop_pair (min a b) (max a b) n.links));
}

-- ---- another input

pub set_none : (n : Network) (d i : ℕ) (v : LocalValue) → set_fault n d i v ≡ None → (lives n d ≡ true) × (nth_fault n.declared.inputs i v ≡ None)
set_none n d i v e = by_test (lives n d) e
  where
    by_test : (q : Bool) → (if q then nth_fault n.declared.inputs i v else Some fault.NoDevice) ≡ None → (q ≡ true) × (nth_fault n.declared.inputs i v ≡ None)
    by_test true e = (refl, e)
    by_test false e = absurd (cc)

pub input_network : (n : Network) (d i : ℕ) (v : LocalValue) → IsNetwork n → nth_fault n.declared.inputs i v ≡ None → IsNetwork (with_input n d i v)
input_network n d i v net e = record {
  some = let k = net.some in omega (arith, put_length d i v n.devices);
  few = let k = net.few in omega (arith, put_length d i v n.devices);
  rising = subst Rises (sym (put_numbers d i v n.devices)) net.rising;
  devices = put_devices_fit n.declared d i v n.devices e net.devices;
  links = subst (λ ds. LinksFit n.declared ds n.links) (sym (put_numbers d i v n.devices)) net.links;
  degree = net.degree;
}

-- ---- one device more

pub record CanJoin (n : Network) (x : NetDevice) : Type 0 where
  pub new : lives n x.id ≡ false
  pub room : length n.devices < 1024
  pub inputs : InputsFit n.declared.inputs x.inputs

pub can_join : (n : Network) (x : NetDevice) → join_fault n x ≡ None → CanJoin n x
can_join n x e =
    let o = or_none (first_fault ((lives n x.id, fault.Twice) ∷ (nat_le 1024 (length n.devices), fault.Devices) ∷ (not (nat_eq (length x.inputs) (length n.declared.inputs)), fault.NoInput) ∷ [])) (inputs_fault n.declared.inputs x.inputs) e in
    let p = no_fault (lives n x.id) fault.Twice ((nat_le 1024 (length n.devices), fault.Devices) ∷ (not (nat_eq (length x.inputs) (length n.declared.inputs)), fault.NoInput) ∷ []) o.0 in
    let q = no_fault (nat_le 1024 (length n.devices)) fault.Devices ((not (nat_eq (length x.inputs) (length n.declared.inputs)), fault.NoInput) ∷ []) p.1 in
    let r = no_fault (not (nat_eq (length x.inputs) (length n.declared.inputs))) fault.NoInput [] q.1 in
    record {
      new = p.0;
      room = leb-false 1024 (length n.devices) q.0;
      inputs = inputs_none n.declared.inputs x.inputs (eqb-true (length x.inputs) (length n.declared.inputs) (is_true _ r.0)) o.1;
    }

pub links_over : (D : Declarations) (ds es : List ℕ) (ls : List Edge) → ((d : ℕ) → is_in d ds ≡ true → is_in d es ≡ true) → LinksFit D ds ls → LinksFit D es ls
links_over D ds es [] k f = tt
links_over D ds es (l ∷ ls) k f =
    let h = f.0 in
    (record { order = h.order; from = k l.a h.from; to = k l.b h.to; above = h.above; below = h.below }, f.1, links_over D ds es ls k f.2)

pub joined_network : (n : Network) (x : NetDevice) → IsNetwork n → x.id ≤ 65535 → join_fault n x ≡ None → IsNetwork (joined n x)
joined_network n x net small e =
    let c = can_join n x e in
    let m = insert_length (λ (d : NetDevice). nat_lt d.id x.id) x n.devices in
    record {
      some = omega arith;
      few = let k = c.room in omega arith;
      rising = insert_rises x n.devices net.rising c.new;
      devices = insert_devices_fit n.declared x n.devices small c.inputs net.devices;
      links = links_over n.declared (numbers n.devices) (numbers (insert_device x n.devices)) n.links (λ d t. insert_in d x n.devices ∙ or_true (nat_eq d x.id) (is_in d (numbers n.devices)) t) net.links;
      degree = net.degree;
    }

-- ---- one device less

pub record CanLeave (n : Network) (d : ℕ) : Type 0 where
  pub there : lives n d ≡ true
  pub others : 1 < length n.devices

pub can_leave : (n : Network) (d : ℕ) → leave_fault n d ≡ None → CanLeave n d
can_leave n d e =
    let p = no_fault (not (lives n d)) fault.NoDevice ((nat_le (length n.devices) 1, fault.Last) ∷ []) e in
    let q = no_fault (nat_le (length n.devices) 1) fault.Last [] p.1 in
    record { there = is_true (lives n d) p.0; others = leb-false (length n.devices) 1 q.0 }

link_stays : (D : Declarations) (d : ℕ) (ns : List NetDevice) (l : Edge) → not (touches d l) ≡ true → LinkFits D (numbers ns) l → LinkFits D (numbers (drop_device d ns)) l
link_stays D d ns l t f = by_tests (nat_eq l.a d) (nat_eq l.b d) refl refl t
  where
    by_tests : (p q : Bool) → nat_eq l.a d ≡ p → nat_eq l.b d ≡ q → not (p || q) ≡ true → LinkFits D (numbers (drop_device d ns)) l
    by_tests true q s u v = absurd (cc)
    by_tests false true s u v = absurd (cc)
    by_tests false false s u v = record {
      order = f.order;
      from = drop_in d l.a ns (λ e. eqb-false l.a d s (sym e)) ∙ f.from;
      to = drop_in d l.b ns (λ e. eqb-false l.b d u (sym e)) ∙ f.to;
      above = f.above;
      below = f.below;
    }

pub left_network : (n : Network) (d : ℕ) → IsNetwork n → leave_fault n d ≡ None → IsNetwork (left n d)
left_network n d net e =
    let c = can_leave n d e in
    let m = drop_length d n.devices net.rising c.there in
    record {
      some = let k = c.others in omega arith;
      few = let k = net.few in omega arith;
      rising = drop_rises d n.devices net.rising;
      devices = drop_devices_fit n.declared d n.devices net.devices;
      links = filter_fit n.declared (numbers n.devices) (numbers (drop_device d n.devices)) (λ l. not (touches d l)) n.links (λ l k g. link_stays n.declared d n.devices l k g) net.links;
      degree = λ g. let k = net.degree g in omega (arith, count_filter g (λ l. not (touches d l)) n.links, count_is g n.links, count_is g (drop_links d n.links));
    }
