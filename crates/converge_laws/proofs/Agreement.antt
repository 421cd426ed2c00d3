-- Crates above cite this module: maps, fields and binders that agree.
use Rattle.std.proofs.Common.{◌≡◌, ℕ, List, [], ◌∷◌, map, refl, sym, ◌∙◌, ap, subst, arith, Bool, true, false, ◌&&◌, Some, nat_eq}
use Rattle.std.proofs.Math.Path.{fun_ext}
use Rattle.std.specs.Prelude.{if◌then◌else◌}
use Rattle.std.proofs.lemmas.Bool.Decides.{nat_tests}
use Rattle.fc_values.specs.Values.{LocalValue, BoolValue}
use Rattle.fc_values.specs.Fields.{Entries, AnyValue, ValueLocal, restricted}
use Rattle.fc_nodes.specs.Terms.{Leaf, Literal, Variable, Sense, Uid, NbrLink, Term, Terms}
use Rattle.alignment.specs.Environments.{same_truth}
use Rattle.topology.specs.Networks.{Network, near}
use Rattle.interval_facts.specs.Solutions.{Devices, In, ValueMap, ValueMaps, bind, near_among, field_of, where_is, LeafIs}
use Rattle.fc_nodes.specs.Variables.{occurs, occurs_in}
use Rattle.converge_laws.proofs.Near.{AllSet, all_set}
use Rattle.topology.specs.Nearby.{neighbour_numbers}

-- the maps of the binders that occur agree
abbrev pub AgreeFor : Devices → Term → ValueMaps → ValueMaps → Type 0
AgreeFor D t V W = (q : ℕ) → occurs q t ≡ true → (d : ℕ) → In D d → V q d ≡ W q d

abbrev pub AgreeIn : Devices → Terms → ValueMaps → ValueMaps → Type 0
AgreeIn D xs V W = (q : ℕ) → occurs_in q xs ≡ true → (d : ℕ) → In D d → V q d ≡ W q d

pub local_same : (v w : LocalValue) → ValueLocal v ≡ ValueLocal w → v ≡ w
local_same v w e = cc

pub truth_same : (b c : Bool) → ValueLocal (BoolValue b) ≡ ValueLocal (BoolValue c) → b ≡ c
truth_same b c e = cc

pub some_same : (v w : AnyValue) → Some v ≡ Some w → v ≡ w
some_same v w e = cc

abbrev entries : (ℕ → LocalValue) → List (ℕ × ℕ) → Entries
entries g ms = map (λ (m : ℕ × ℕ). (m.0, g m.0)) ms

map_same : (g h : ℕ → LocalValue) (D : Devices) → ((n : ℕ) → In D n → g n ≡ h n) → (ms : List (ℕ × ℕ)) → AllSet D ms → entries g ms ≡ entries h ms
map_same g h D e [] a = refl
map_same g h D e (m ∷ ms) a = let x = e m.0 a.0 in let r = map_same g h D e ms a.1 in rw (x, r) refl

pub set_same : (b : Bool) (D : Devices) (k l : ℕ → Bool) → ((d : ℕ) → In D d → k d ≡ l d) → where_is b D k ≡ where_is b D l
set_same b D k l e = fun_ext (λ d. by_test d (D d) refl)
  where
    by_test : (d : ℕ) (c : Bool) → D d ≡ c → (D d && same_truth b (k d)) ≡ (D d && same_truth b (l d))
    by_test d true q = let x = e d q in rw x refl
    by_test d false q = rw q refl

module _ (N : Network) where
  pub field_same : (D : Devices) (g h : ℕ → LocalValue) → ((n : ℕ) → In D n → g n ≡ h n) → (d : ℕ) → In D d → field_of N D g d ≡ field_of N D h d
  field_same D g h e d i = let x = e d i in let r = map_same g h D e (near_among N D d) (all_set D (near N d)) in rw (x, r) refl

  pub leaf_same : (D : Devices) (l : Leaf) (V W : ValueMaps) (d : ℕ) (v w : AnyValue) → ((q : ℕ) → l ≡ Variable q → V q d ≡ W q d) → LeafIs N D l V d v → LeafIs N D l W d w → v ≡ w
  leaf_same D (Literal x) V W d v w e h k = h ∙ sym k
  leaf_same D (Variable q) V W d v w e h k = h ∙ ap (restricted d (neighbour_numbers (near_among N D d))) (e q refl) ∙ sym k
  leaf_same D (Sense i) V W d v w e h k = let a = h.1 in let b = k.1 in let same : h.0 ≡ k.0 = cc in h.2 ∙ ap ValueLocal same ∙ sym k.2
  leaf_same D Uid V W d v w e h k = h ∙ sym k
  leaf_same D NbrLink V W d v w e h k = h ∙ sym k

  pub bind_agree : (D : Devices) (p : ℕ) (u : Term) (G H : ValueMap) (V W : ValueMaps) → ((d : ℕ) → In D d → G d ≡ H d) → AgreeFor D u V W → AgreeFor D u (bind p G V) (bind p H W)
  bind_agree D p u G H V W e h q o d i = by_test (nat_eq p q)
    where
      by_test : (c : Bool) → (if c then G else V q) d ≡ (if c then H else W q) d
      by_test true = e d i
      by_test false = h q o d i

  pub bind_apart : (D : Devices) (p : ℕ) (u : Term) (G H : ValueMap) (V W : ValueMaps) → occurs p u ≡ false → AgreeFor D u V W → AgreeFor D u (bind p G V) (bind p H W)
  bind_apart D p u G H V W n h q o d i = by_test (nat_eq p q) refl
    where
      by_test : (c : Bool) → nat_eq p q ≡ c → (if c then G else V q) d ≡ (if c then H else W q) d
      by_test true k = let z : p ≡ q = grind (arith, k, nat_tests) in let n' : occurs q u ≡ false = subst (λ x. occurs x u ≡ false) z n in absurd cc
      by_test false k = h q o d i
