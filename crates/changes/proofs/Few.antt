-- Lines none of which is refused bring few devices, and few pairs of each device.
use Rattle.std.proofs.Common.{ℕ, ◌≡◌, ◌<◌, ◌≤◌, Bool, true, false, ◌&&◌, ◌||◌, not, nat_eq, nat_le, List, [], ◌∷◌, length, refl, sym, ap, subst, ◌∙◌, arith, Some, None, if◌then◌else◌}
use Rattle.std.specs.Prelude.{Option, option_map}
use Rattle.std.specs.Option.{option_or}
use Rattle.std.proofs.lemmas.Bool.{eqb-true, leb-false}
use Rattle.fc_values.specs.Fields.{is_in, with_number}
use Rattle.topology.specs.declared.types.TheConstants.{MOST_DEVICES}
use Rattle.topology.specs.declared.types.NetFault.{NetFault}
use Rattle.topology.specs.declared.types.NetFault.TheVariants as fault
use Rattle.topology.specs.Inputs.{or_fault}
use Rattle.std.proofs.lemmas.List.{length-map}
use Rattle.topology.specs.Networks.{NetDevice, Network, IsNetwork, lives, near}
use Rattle.topology.specs.Changes.{first_fault, are_linked}
use Rattle.changes.specs.declared.types.TheConstants.{MOST_PAIRS}
use Rattle.changes.specs.Changes.{ChangeValue, SetChange, LinkChange, UnlinkChange, LeaveChange, JoinChange}
use Rattle.changes.specs.Hand.{said, said_first, joins_device, links_pair, some_line, at_hand, pair_at_hand, with_new, devices_at_hand, other_end, partners}
use Rattle.changes.specs.declared.types.ChangeFault.TheVariants as line
use Rattle.changes.specs.Faults.{is_crowded, change_fault, fault_of_line, numbered_fault, first_from, NoneRefused}
use Rattle.changes.proofs.AtHand.{behind, first_length, longer, or_false, in_devices, devices_rise, at_hand_turned, in_partners, partners_rise, same_members}

-- one more number at most
pub new_length : (d m : ℕ) (ds : List ℕ) → length ds ≤ m → (is_in d ds ≡ false → length ds < m) → length (with_new d ds) ≤ m
new_length d m ds few room = by_test (is_in d ds) refl
  where
    by_test : (t : Bool) → is_in d ds ≡ t → length (if t then ds else with_number d ds) ≤ m
    by_test true e = few
    by_test false e = let k = longer d ds in let r = room e in omega arith

-- what is brought is few
pub record IsFew (n : Network) (cs : List ChangeValue) : Type 0 where
  pub devices : length (devices_at_hand n cs) ≤ MOST_DEVICES
  pub pairs : (d : ℕ) → length (partners n cs d) ≤ MOST_PAIRS

module _ (n : Network) (net : IsNetwork n) (all : List ChangeValue) where
  joined_few : (before : List ChangeValue) (d : ℕ) → length (devices_at_hand n before) ≤ MOST_DEVICES
      → (lives n d || (not (some_line (joins_device d) before) && nat_le MOST_DEVICES (length (devices_at_hand n before)))) ≡ false
      → length (with_new d (devices_at_hand n before)) ≤ MOST_DEVICES
  joined_few before d few h = new_length d MOST_DEVICES (devices_at_hand n before) few room
    where
      by_tests : (p q r : Bool) → (p || (not q && r)) ≡ false → (p || q) ≡ false → r ≡ false
      by_tests true q r e f = absurd cc
      by_tests false true r e f = absurd cc
      by_tests false false r e f = e

      room : is_in d (devices_at_hand n before) ≡ false → length (devices_at_hand n before) < MOST_DEVICES
      room e = leb-false MOST_DEVICES (length (devices_at_hand n before)) (by_tests (lives n d) (some_line (joins_device d) before) (nat_le MOST_DEVICES (length (devices_at_hand n before))) h (sym (in_devices n before d) ∙ e))

  linked_few : (before : List ChangeValue) (a b : ℕ)
      → (not (pair_at_hand n before a b) && (is_crowded n before a || is_crowded n before b)) ≡ false
      → ((d : ℕ) → length (partners n before d) ≤ MOST_PAIRS) → (d : ℕ) → length (other_end d a b (partners n before d)) ≤ MOST_PAIRS
  linked_few before a b h few d = by_ends (nat_eq a d) (nat_eq b d) refl refl
    where
      by_tests : (p q r : Bool) → (not p && (q || r)) ≡ false → p ≡ false → (q ≡ false) × (r ≡ false)
      by_tests true q r e f = absurd cc
      by_tests false true r e f = absurd cc
      by_tests false false true e f = absurd cc
      by_tests false false false e f = (refl, refl)

      calm : pair_at_hand n before a b ≡ false → (is_crowded n before a ≡ false) × (is_crowded n before b ≡ false)
      calm e = by_tests (pair_at_hand n before a b) (is_crowded n before a) (is_crowded n before b) h e

      of_first : length (with_new b (partners n before a)) ≤ MOST_PAIRS
      of_first = new_length b MOST_PAIRS (partners n before a) (few a) (λ e. leb-false MOST_PAIRS (length (partners n before a)) ((calm (sym (in_partners n net before a b) ∙ e)).0))

      of_second : length (with_new a (partners n before b)) ≤ MOST_PAIRS
      of_second = new_length a MOST_PAIRS (partners n before b) (few b) (λ e. leb-false MOST_PAIRS (length (partners n before b))
          ((calm (sym (at_hand_turned n before a b) ∙ sym (in_partners n net before b a) ∙ e)).1))

      by_ends : (s t : Bool) → nat_eq a d ≡ s → nat_eq b d ≡ t → length (if s then with_new b (partners n before d) else (if t then with_new a (partners n before d) else partners n before d)) ≤ MOST_PAIRS
      by_ends true t e f = subst (λ x. length (with_new b (partners n before x)) ≤ MOST_PAIRS) (eqb-true a d e) of_first
      by_ends false true e f = subst (λ x. length (with_new a (partners n before x)) ≤ MOST_PAIRS) (eqb-true b d f) of_second
      by_ends false false e f = few d

  no_fault_link : (p q r s : Bool) → first_fault ((p, fault.NoDevice) ∷ (q, fault.SelfLink) ∷ (r, fault.Weight) ∷ (s, fault.Degree) ∷ []) ≡ None → s ≡ false
  no_fault_link true q r s e = absurd cc
  no_fault_link false true r s e = absurd cc
  no_fault_link false false true s e = absurd cc
  no_fault_link false false false true e = absurd cc
  no_fault_link false false false false e = refl

  no_fault_join : (p q r : Bool) (rest : Option NetFault) → or_fault (first_fault ((p, fault.Twice) ∷ (q, fault.Devices) ∷ (r, fault.NoInput) ∷ [])) rest ≡ None → (p || q) ≡ false
  no_fault_join true q r rest e = absurd cc
  no_fault_join false true r rest e = absurd cc
  no_fault_join false false r rest e = refl

  few_more : (before : List ChangeValue) (c : ChangeValue) → change_fault n all before c ≡ None → IsFew n before → IsFew n (c ∷ before)
  few_more before (SetChange d i p) h f = record { devices = f.devices; pairs = f.pairs }
  few_more before (LinkChange a b w) h f = let k = no_fault_link _ (nat_eq a b) _ (not (pair_at_hand n before a b) && (is_crowded n before a || is_crowded n before b)) h in
      record { devices = f.devices; pairs = linked_few before a b k f.pairs }
  few_more before (UnlinkChange a b) h f = record { devices = f.devices; pairs = f.pairs }
  few_more before (LeaveChange d) h f = record { devices = f.devices; pairs = f.pairs }
  few_more before (JoinChange d ps) h f = record {
    devices = joined_few before d f.devices (no_fault_join (lives n d) (not (some_line (joins_device d) before) && nat_le MOST_DEVICES (length (devices_at_hand n before))) _ _ h);
    pairs = f.pairs;
  }

  few_from : (before : List ChangeValue) (ls : List (ℕ × Option ChangeValue)) → first_from n all before ls ≡ None → IsFew n before → IsFew n (behind before ls)
  few_from before [] h f = f
  few_from before (l ∷ ls) h f = by_line l.1 h (λ next. few_from next ls)
    where
      Later : Type 0
      Later = (next : List ChangeValue) → first_from n all next ls ≡ None → IsFew n next → IsFew n (behind next ls)

      by_line : (o : Option ChangeValue) → option_or (numbered_fault l.0 (fault_of_line n all before o)) (first_from n all (said_first o before) ls) ≡ None → Later → IsFew n (behind (said_first o before) ls)
      by_line None g later = absurd cc
      by_line (Some c) g later = by_fault (change_fault n all before c) refl g
        where
          by_fault : (x : Option NetFault) → change_fault n all before c ≡ x → option_or (numbered_fault l.0 (option_map line.Net x)) (first_from n all (c ∷ before) ls) ≡ None → IsFew n (behind (c ∷ before) ls)
          by_fault (Some x) q g = absurd cc
          by_fault None q g = later (c ∷ before) g (few_more before c q f)

  -- the order of lines doesn't matter
  some_behind : (says : ChangeValue → Bool) (before : List ChangeValue) (ls : List (ℕ × Option ChangeValue)) → some_line says (behind before ls) ≡ (some_line says (said ls) || some_line says before)
  some_behind says before [] = refl
  some_behind says before (l ∷ ls) = by_line l.1 (λ next. some_behind says next ls)
    where
      turned : (p q r : Bool) → (q || (p || r)) ≡ ((p || q) || r)
      turned true true r = refl
      turned true false r = refl
      turned false true r = refl
      turned false false r = refl

      by_line : (o : Option ChangeValue) → ((next : List ChangeValue) → some_line says (behind next ls) ≡ (some_line says (said ls) || some_line says next))
          → some_line says (behind (said_first o before) ls) ≡ (some_line says (said_first o (said ls)) || some_line says before)
      by_line None later = later before
      by_line (Some c) later = later (c ∷ before) ∙ turned (says c) (some_line says (said ls)) (some_line says before)

  at_hand_behind : (ls : List (ℕ × Option ChangeValue)) (d : ℕ) → at_hand n (behind [] ls) d ≡ at_hand n (said ls) d
  at_hand_behind ls d = ap (λ t. lives n d || t) (some_behind (joins_device d) [] ls ∙ or_false (some_line (joins_device d) (said ls)))

  pair_behind : (ls : List (ℕ × Option ChangeValue)) (a b : ℕ) → pair_at_hand n (behind [] ls) a b ≡ pair_at_hand n (said ls) a b
  pair_behind ls a b = ap (λ t. are_linked n a b || t) (some_behind (links_pair a b) [] ls ∙ or_false (some_line (links_pair a b) (said ls)))

  same_devices : (ls : List (ℕ × Option ChangeValue)) → devices_at_hand n (behind [] ls) ≡ devices_at_hand n (said ls)
  same_devices ls = same_members _ _ (devices_rise n net (behind [] ls)) (devices_rise n net (said ls))
      (λ d. in_devices n (behind [] ls) d ∙ at_hand_behind ls d ∙ sym (in_devices n (said ls) d))

  same_partners : (ls : List (ℕ × Option ChangeValue)) (d : ℕ) → partners n (behind [] ls) d ≡ partners n (said ls) d
  same_partners ls d = same_members _ _ (partners_rise n net (behind [] ls) d) (partners_rise n net (said ls) d)
      (λ e. in_partners n net (behind [] ls) d e ∙ pair_behind ls d e ∙ sym (in_partners n net (said ls) d e))

  scene_few : IsFew n []
  scene_few = record {
    devices = let k = length-map n.devices (λ (x : NetDevice). x.id) in let f = net.few in omega arith;
    pairs = λ d. let k = first_length (near n d) in let g = net.degree d in omega arith;
  }

pub lines_are_few : (n : Network) → IsNetwork n → (ls : List (ℕ × Option ChangeValue)) → NoneRefused n ls → IsFew n (said ls)
lines_are_few n net ls h =
    let f = few_from n net (said ls) [] ls h (scene_few n net (said ls)) in
    record {
      devices = subst (λ ds. length ds ≤ MOST_DEVICES) (same_devices n net (said ls) ls) f.devices;
      pairs = λ d. subst (λ ds. length ds ≤ MOST_PAIRS) (same_partners n net (said ls) ls d) (f.pairs d);
    }
