-- What is known of a device after one line more.
use Rattle.std.proofs.Common.{◌≡◌, ℕ, Bool, true, false, not, ◌&&◌, ◌||◌, nat_eq, ◌+◌, ◌<◌, List, [], ◌∷◌, ◌++◌, length, take, map, get_or, refl, sym, ap, ◌∙◌, Some, None, if◌then◌else◌}
use Rattle.std.proofs.lemmas.List.{take_more, map-append}
use Rattle.fc_values.specs.Fields.{is_in}
use Rattle.fc_values.proofs.Numbers.{in_append}
use Rattle.topology.specs.declared.types.Device.{Device}
use Rattle.std.specs.Prelude.{Option}
use Rattle.topology.specs.Networks.{Network, NetDevice, net_device_of, numbers, lives}
use Rattle.changes.specs.Changes.{ChangeValue, SetChange, LinkChange, UnlinkChange, LeaveChange, JoinChange}
use Rattle.changes.specs.Hand.{some_line, joins_device, leaves_device}
use Rattle.change_bounds.specs.Tables.{presence, is_noted, is_gone, noted}
use Rattle.change_bounds.proofs.Lines.{some_more}

-- by whether a device is in the scene, comes, and leaves
abbrev present : Bool → Bool → Bool → Option Bool
present l j v = if l || j then Some (l && not v) else None

silent : (l j v : Bool) → present l (j || false) (v || false) ≡ present l j v
silent true j true = refl
silent true j false = refl
silent false true v = refl
silent false false v = refl

leaves : (l j v t : Bool) → present l (j || false) (v || t) ≡ (if t then is_gone (present l j v) else present l j v)
leaves true j true true = refl
leaves true j true false = refl
leaves true j false true = refl
leaves true j false false = refl
leaves false true v true = refl
leaves false true v false = refl
leaves false false v true = refl
leaves false false v false = refl

comes : (l j v t : Bool) → present l (j || t) (v || false) ≡ (if t then is_noted (present l j v) else present l j v)
comes true j true true = refl
comes true j true false = refl
comes true j false true = refl
comes true j false false = refl
comes false true v true = refl
comes false true v false = refl
comes false false v true = refl
comes false false v false = refl

module _ (n : Network) (cs : List ChangeValue) (d : ℕ) where
  more : (c : ChangeValue) → presence n (cs ++ c ∷ []) d ≡ present (lives n d) (some_line (joins_device d) cs || joins_device d c) (some_line (leaves_device d) cs || leaves_device d c)
  more c =
      ap (λ j. present (lives n d) j (some_line (leaves_device d) (cs ++ c ∷ []))) (some_more (joins_device d) cs c)
      ∙ ap (present (lives n d) (some_line (joins_device d) cs || joins_device d c)) (some_more (leaves_device d) cs c)

  pub presence_more : (c : ChangeValue) → presence n (cs ++ c ∷ []) d ≡ noted (presence n cs d) d c
  presence_more (SetChange e i p) = more (SetChange e i p) ∙ silent (lives n d) (some_line (joins_device d) cs) (some_line (leaves_device d) cs)
  presence_more (LinkChange a b w) = more (LinkChange a b w) ∙ silent (lives n d) (some_line (joins_device d) cs) (some_line (leaves_device d) cs)
  presence_more (UnlinkChange a b) = more (UnlinkChange a b) ∙ silent (lives n d) (some_line (joins_device d) cs) (some_line (leaves_device d) cs)
  presence_more (LeaveChange e) = more (LeaveChange e) ∙ leaves (lives n d) (some_line (joins_device d) cs) (some_line (leaves_device d) cs) (nat_eq d e)
  presence_more (JoinChange e ps) = more (JoinChange e ps) ∙ comes (lives n d) (some_line (joins_device d) cs) (some_line (leaves_device d) cs) (nat_eq d e)

-- one device more of a scene
module _ (ns : List Device) (k : ℕ) (x : Device) (is : x ≡ get_or ns k x) (h : k < length ns) where
  among : (d : ℕ) → is_in d (numbers (map net_device_of (take (k + 1) ns))) ≡ (is_in d (numbers (map net_device_of (take k ns))) || (nat_eq d x.id || false))
  among d =
      ap (λ xs. is_in d (numbers (map net_device_of xs))) (take_more ns k x h)
      ∙ ap (λ y. is_in d (numbers (map net_device_of (take k ns ++ y ∷ [])))) (sym is)
      ∙ ap (λ xs. is_in d (numbers xs)) (map-append net_device_of (take k ns) (x ∷ []))
      ∙ ap (is_in d) (map-append (λ (n : NetDevice). n.id) (map net_device_of (take k ns)) (net_device_of x ∷ []))
      ∙ in_append d (numbers (map net_device_of (take k ns))) (x.id ∷ [])

  pub one_device_more : (d : ℕ) → (if nat_eq d x.id then Some true else (if is_in d (numbers (map net_device_of (take k ns))) then Some true else None))
      ≡ (if is_in d (numbers (map net_device_of (take (k + 1) ns))) then Some true else None)
  one_device_more d = by_tests (is_in d (numbers (map net_device_of (take k ns)))) (nat_eq d x.id) ∙ ap (λ b. if b then Some true else None) (sym (among d))
    where
      by_tests : (p q : Bool) → (if q then Some true else (if p then Some true else None)) ≡ (if p || (q || false) then Some true else None)
      by_tests true true = refl
      by_tests true false = refl
      by_tests false true = refl
      by_tests false false = refl
