-- The neighbours that a node sees are those of a set of devices, with trees of a kind.
use Rattle.std.proofs.Common.{◌≡◌, ℕ, List, [], ◌∷◌, map, refl, sym, ap, Bool, true, false, ◌&&◌, Option, Some, None, option_map}
use Rattle.std.specs.Prelude.{filter}
use Rattle.fc_values.specs.Values.{LocalValue, IntValue, BoolValue}
use Rattle.fc_values.specs.Fields.{AnyValue, restricted}
use Rattle.fc_values.specs.Trees.{Tree, kept_of, child}
use Rattle.alignment.specs.Environments.{NearTree, near_by, keeps_truth, same_truth, own_where, near_numbers as tree_numbers}
use Rattle.alignment.specs.Scopes.{weights}
use Rattle.device_eval.specs.Neighbours.{kept_there}
use Rattle.interval_facts.specs.Solutions.{Devices, In, where_is}
use Rattle.topology.specs.Nearby.{neighbour_numbers}

-- these devices with these weights, in order, each with a tree of a kind
abbrev pub NearAre : (ℕ → Tree → Type 0) → List (ℕ × ℕ) → List NearTree → Type 0
NearAre P [] [] = Unit {0}
NearAre P [] (n ∷ ns) = ⊥
NearAre P (m ∷ ms) [] = ⊥
NearAre P (m ∷ ms) (n ∷ ns) = (n.0 ≡ m.0) × (n.1 ≡ m.1) × P m.0 n.2 × NearAre P ms ns

abbrev pub OwnIs : (Tree → Type 0) → Option Tree → Type 0
OwnIs P None = ⊥
OwnIs P (Some t) = P t

module _ (P Q : ℕ → Tree → Type 0) where
  pub near_kid : (i : ℕ) → ((n : ℕ) (t : Tree) → P n t → Q n (child i t)) → (ms : List (ℕ × ℕ)) (ns : List NearTree) → NearAre P ms ns → NearAre Q ms (map (near_by (child i)) ns)
  near_kid i f [] [] h = tt
  near_kid i f [] (n ∷ ns) h = absurd h
  near_kid i f (m ∷ ms) [] h = absurd h
  near_kid i f (m ∷ ms) (n ∷ ns) h = (h.0, h.1, f m.0 n.2 h.2, near_kid i f ms ns h.3)

  pub near_as : ((n : ℕ) (t : Tree) → P n t → Q n t) → (ms : List (ℕ × ℕ)) (ns : List NearTree) → NearAre P ms ns → NearAre Q ms ns
  near_as f [] [] h = tt
  near_as f [] (n ∷ ns) h = absurd h
  near_as f (m ∷ ms) [] h = absurd h
  near_as f (m ∷ ms) (n ∷ ns) h = (h.0, h.1, f m.0 n.2 h.2, near_as f ms ns h.3)

pub own_kid : (P Q : Tree → Type 0) (i : ℕ) → ((t : Tree) → P t → Q (child i t)) → (o : Option Tree) → OwnIs P o → OwnIs Q (option_map (child i) o)
own_kid P Q i f None h = absurd h
own_kid P Q i f (Some t) h = f t h

pub own_as : (P Q : Tree → Type 0) → ((t : Tree) → P t → Q t) → (o : Option Tree) → OwnIs P o → OwnIs Q o
own_as P Q f None h = absurd h
own_as P Q f (Some t) h = f t h

-- the field of what they keep
pub kept_are : (g : ℕ → LocalValue) (ms : List (ℕ × ℕ)) (ns : List NearTree) → NearAre (λ n t. kept_of t ≡ Some (g n)) ms ns → kept_there ns ≡ Some (map (λ (m : ℕ × ℕ). (m.0, g m.0)) ms)
kept_are g [] [] h = refl
kept_are g [] (n ∷ ns) h = absurd h
kept_are g (m ∷ ms) [] h = absurd h
kept_are g (m ∷ ms) (n ∷ ns) h = let d = h.0 in let k = h.2 in let rest = kept_are g ms ns h.3 in rw (d, k, rest) refl

pub weights_are : (P : ℕ → Tree → Type 0) (ms : List (ℕ × ℕ)) (ns : List NearTree) → NearAre P ms ns → weights ns ≡ map (λ (m : ℕ × ℕ). (m.0, IntValue m.1)) ms
weights_are P [] [] h = refl
weights_are P [] (n ∷ ns) h = absurd h
weights_are P (m ∷ ms) [] h = absurd h
weights_are P (m ∷ ms) (n ∷ ns) h = let d = h.0 in let w = h.1 in let rest = weights_are P ms ns h.3 in rw (d, w, rest) refl

pub numbers_are : (P : ℕ → Tree → Type 0) (ms : List (ℕ × ℕ)) (ns : List NearTree) → NearAre P ms ns → tree_numbers ns ≡ neighbour_numbers ms
numbers_are P [] [] h = refl
numbers_are P [] (n ∷ ns) h = absurd h
numbers_are P (m ∷ ms) [] h = absurd h
numbers_are P (m ∷ ms) (n ∷ ns) h = let e = h.0 in let rest = numbers_are P ms ns h.3 in rw (e, rest) refl

pub same_is : (b c : Bool) → same_truth b c ≡ true → b ≡ c
same_is true true e = refl
same_is true false e = absurd cc
same_is false true e = absurd cc
same_is false false e = refl

pub is_same : (b c : Bool) → c ≡ b → same_truth b c ≡ true
is_same true true e = refl
is_same true false e = absurd cc
is_same false true e = absurd cc
is_same false false e = refl

-- a field restricted to them
pub restricted_is : (P : ℕ → Tree → Type 0) (d : ℕ) (ms : List (ℕ × ℕ)) (ns : List NearTree) (v : AnyValue) → NearAre P ms ns → restricted d (tree_numbers ns) v ≡ restricted d (neighbour_numbers ms) v
restricted_is P d ms ns v h = ap (λ (ks : List ℕ). restricted d ks v) (numbers_are P ms ns h)

-- those that took a branch, where each keeps the truth of the solution
module _ (P : ℕ → Tree → Type 0) (D : Devices) (k : ℕ → Bool) (b : Bool) where
  abbrev pub Truth : ℕ → Tree → Type 0
  Truth n t = (kept_of t ≡ Some (BoolValue (k n))) × P n t

  abbrev pub OnBranch : ℕ → Tree → Type 0
  OnBranch n t = (k n ≡ b) × P n t

  abbrev stays : NearTree → Bool
  stays n = keeps_truth b (kept_of n.2)

  abbrev in_set : ℕ × ℕ → Bool
  in_set n = D n.0

  abbrev in_branch : ℕ × ℕ → Bool
  in_branch n = where_is b D k n.0

  one_branch : (m : ℕ × ℕ) (n : NearTree) (ms : List (ℕ × ℕ)) (ns : List NearTree) → n.0 ≡ m.0 → n.1 ≡ m.1 → Truth m.0 n.2 → D m.0 ≡ true
      → NearAre OnBranch (filter in_branch ms) (filter stays ns) → (c : Bool) → same_truth b (k m.0) ≡ c → NearAre OnBranch (filter in_branch (m ∷ ms)) (filter stays (n ∷ ns))
  one_branch m n ms ns e e' t i rest true q = let kept = t.0 in rw (i, q, kept) (rw q (e, e', (sym (same_is b (k m.0) q), t.1), rest))
  one_branch m n ms ns e e' t i rest false q = let kept = t.0 in rw (i, q, kept) (rw q rest)

  pub near_branch : (ms : List (ℕ × ℕ)) (ns : List NearTree) → NearAre Truth (filter in_set ms) ns → NearAre OnBranch (filter in_branch ms) (filter stays ns)
  near_branch [] [] h = tt
  near_branch [] (n ∷ ns) h = absurd h
  near_branch (m ∷ ms) ns h = by_test (D m.0) refl ns h (λ xs g. near_branch ms xs g)
    where
      by_list : D m.0 ≡ true → (ns : List NearTree) → NearAre Truth (m ∷ filter in_set ms) ns → ((xs : List NearTree) → NearAre Truth (filter in_set ms) xs → NearAre OnBranch (filter in_branch ms) (filter stays xs)) → NearAre OnBranch (filter in_branch (m ∷ ms)) (filter stays ns)
      by_list i [] h ih = absurd h
      by_list i (n ∷ ns) h ih = one_branch m n ms ns h.0 h.1 h.2 i (ih ns h.3) (same_truth b (k m.0)) refl

      by_test : (c : Bool) → D m.0 ≡ c → (ns : List NearTree) → NearAre Truth (filter in_set (m ∷ ms)) ns → ((xs : List NearTree) → NearAre Truth (filter in_set ms) xs → NearAre OnBranch (filter in_branch ms) (filter stays xs)) → NearAre OnBranch (filter in_branch (m ∷ ms)) (filter stays ns)
      by_test true i ns h ih = by_list i ns (rw i at h) ih
      by_test false i ns h ih = rw i (ih ns (rw i at h))

pub own_branch : (P : Tree → Type 0) (b k : Bool) (o : Option Tree) → same_truth b k ≡ true → OwnIs (λ t. (kept_of t ≡ Some (BoolValue k)) × P t) o → OwnIs P (own_where (λ t. keeps_truth b (kept_of t)) o)
own_branch P b k None e h = absurd h
own_branch P b k (Some t) e h = let kept = h.0 in rw (kept, e) h.1

abbrev pub AllSet : Devices → List (ℕ × ℕ) → Type 0
AllSet D [] = Unit {0}
AllSet D (m ∷ ms) = In D m.0 × AllSet D ms

pub all_set : (D : Devices) (ms : List (ℕ × ℕ)) → AllSet D (filter (λ (n : ℕ × ℕ). D n.0) ms)
all_set D [] = tt
all_set D (m ∷ ms) = by_test (D m.0) refl (all_set D ms)
  where
    by_test : (c : Bool) → D m.0 ≡ c → AllSet D (filter (λ (n : ℕ × ℕ). D n.0) ms) → AllSet D (filter (λ (n : ℕ × ℕ). D n.0) (m ∷ ms))
    by_test true q h = rw q (q, h)
    by_test false q h = rw q h

pub in_part : (b : Bool) (D : Devices) (k : ℕ → Bool) (d : ℕ) → In (where_is b D k) d → In D d
in_part b D k d h = by_test (D d) refl h
  where
    by_test : (c : Bool) → D d ≡ c → (c && same_truth b (k d)) ≡ true → D d ≡ true
    by_test true q h = q
    by_test false q h = absurd cc
