-- What is said of a pair with one link of the scene more, and with one line more.
use Rattle.std.proofs.Common.{◌≡◌, ℕ, zero, suc, ◌+◌, ◌<◌, ◌≤◌, Bool, true, false, not, ◌&&◌, ◌||◌, min, max, nat_eq, nat_le, List, [], ◌∷◌, ◌++◌, length, take, map, get_or, append-nil, append_assoc, refl, sym, ap, subst, ◌∙◌, arith, Some, None, if◌then◌else◌}
use Rattle.std.specs.Prelude.{Option, option_map}
use Rattle.std.proofs.lemmas.List.{take_more, map-append}
use Rattle.std.proofs.lemmas.Bool.{leb-true, leb-false, le-leb}
use Rattle.fc_values.specs.Types.{Declarations}
use Rattle.topology.specs.declared.types.Link.{Link}
use Rattle.topology.specs.Networks.{Edge, Network, IsNetwork, LinksFit, edge_of, numbers}
use Rattle.topology.specs.Changes.{has_pair, are_linked}
use Rattle.value_bounds.proofs.Values.{nat_same}
use Rattle.changes.specs.declared.types.Range.{Range}
use Rattle.changes.specs.declared.types.Weights.{Weights}
use Rattle.changes.specs.Changes.{range, ChangeValue, SetChange, LinkChange, UnlinkChange, LeaveChange, JoinChange}
use Rattle.changes.specs.Hand.{some_line, are_pair, unlinks_pair}
use Rattle.change_bounds.specs.declared.pairs.PairBound.{PairBound}
use Rattle.change_bounds.specs.Bounds.{weights_range, said_weight, said_weights, scene_weight, wider, widest_from, widest, weights_of_pair}
use Rattle.change_bounds.specs.Tables.{pair_of, pair_said, linked, unlinked, is_lesser_first, told}
use Rattle.change_bounds.proofs.Keys.{same_number}
use Rattle.change_bounds.proofs.Lines.{some_more}

-- ---- the widest range

abbrev wider_than : Option Range → Range → Range
wider_than None r = r
wider_than (Some s) r = wider s r

widest_from_more : (s : Range) (rs : List Range) (r : Range) → widest_from s (rs ++ r ∷ []) ≡ wider (widest_from s rs) r
widest_from_more s [] r = refl
widest_from_more s (x ∷ xs) r = widest_from_more (wider s x) xs r

widest_more : (rs : List Range) (r : Range) → widest (rs ++ r ∷ []) ≡ Some (wider_than (widest rs) r)
widest_more [] r = refl
widest_more (x ∷ xs) r = ap Some (widest_from_more x xs r)

weights_more : (D : Declarations) (x y : ℕ) (cs : List ChangeValue) (c : ChangeValue) → said_weights D x y (cs ++ c ∷ []) ≡ said_weights D x y cs ++ said_weight D x y c
weights_more D x y [] c = append-nil (said_weight D x y c)
weights_more D x y (d ∷ ds) c = ap (λ rs. said_weight D x y d ++ rs) (weights_more D x y ds c) ∙ sym (append_assoc (said_weight D x y d) (said_weights D x y ds) (said_weight D x y c))

-- ---- pairs are the same in either order

pair_test : (a b x y : ℕ) → x ≤ y → are_pair a b x y ≡ is_lesser_first a b x y
pair_test a b x y o =
    let lesser : min x y ≡ x = omega (arith, o) in
    let greater : max x y ≡ y = omega (arith, o) in
    ap (λ k. nat_eq (min a b) k && nat_eq (max a b) (max x y)) lesser
    ∙ ap (λ k. nat_eq (min a b) x && nat_eq (max a b) k) greater
    ∙ ap (λ t. t && nat_eq (max a b) y) (same_number (min a b) x)
    ∙ ap (λ t. nat_eq x (min a b) && t) (same_number (max a b) y)

-- a greater device first is no pair
not_first : (a b x y : ℕ) → y < x → is_lesser_first a b x y ≡ false
not_first a b x y o = by_tests (nat_eq x (min a b)) (nat_eq y (max a b)) refl refl
  where
    by_tests : (s t : Bool) → nat_eq x (min a b) ≡ s → nat_eq y (max a b) ≡ t → (s && t) ≡ false
    by_tests true true e f = let p = nat_same x (min a b) e in let q = nat_same y (max a b) f in absurd (omega (arith, o, p, q))
    by_tests true false e f = refl
    by_tests false t e f = refl

-- ---- the scene

abbrev pub scene_pair : List Edge → ℕ → ℕ → Option PairBound
scene_pair ls x y = if nat_le x y then option_map (λ r. pair_of r true) (widest (scene_weight x y ls)) else None

none_linked : (x y : ℕ) (ls : List Edge) (ws : List Range) → widest (scene_weight x y ls ++ ws) ≡ None → has_pair (min x y) (max x y) ls ≡ false
none_linked x y [] ws e = refl
none_linked x y (l ∷ ls) ws e = by_test (nat_eq l.a (min x y) && nat_eq l.b (max x y)) e (none_linked x y ls ws)
  where
    by_test : (t : Bool) → widest ((if t then range l.weight l.weight ∷ scene_weight x y ls else scene_weight x y ls) ++ ws) ≡ None → (widest (scene_weight x y ls ++ ws) ≡ None → has_pair (min x y) (max x y) ls ≡ false) → (t || has_pair (min x y) (max x y) ls) ≡ false
    by_test true e later = absurd cc
    by_test false e later = later e

some_linked : (x y : ℕ) (ls : List Edge) (r : Range) → widest (scene_weight x y ls) ≡ Some r → has_pair (min x y) (max x y) ls ≡ true
some_linked x y [] r e = absurd cc
some_linked x y (l ∷ ls) r e = by_test (nat_eq l.a (min x y) && nat_eq l.b (max x y)) e (some_linked x y ls r)
  where
    by_test : (t : Bool) → widest (if t then range l.weight l.weight ∷ scene_weight x y ls else scene_weight x y ls) ≡ Some r → (widest (scene_weight x y ls) ≡ Some r → has_pair (min x y) (max x y) ls ≡ true) → (t || has_pair (min x y) (max x y) ls) ≡ true
    by_test true e later = refl
    by_test false e later = later e

scene_more : (x y : ℕ) (ls : List Edge) (l : Edge) → scene_weight x y (ls ++ l ∷ []) ≡ scene_weight x y ls ++ scene_weight x y (l ∷ [])
scene_more x y [] l = refl
scene_more x y (m ∷ ms) l = by_test (nat_eq m.a (min x y) && nat_eq m.b (max x y)) (scene_more x y ms l)
  where
    by_test : (t : Bool) → scene_weight x y (ms ++ l ∷ []) ≡ scene_weight x y ms ++ scene_weight x y (l ∷ [])
        → (if t then range m.weight m.weight ∷ scene_weight x y (ms ++ l ∷ []) else scene_weight x y (ms ++ l ∷ []))
        ≡ (if t then range m.weight m.weight ∷ scene_weight x y ms else scene_weight x y ms) ++ scene_weight x y (l ∷ [])
    by_test true h = ap (λ rs. range m.weight m.weight ∷ rs) h
    by_test false h = h

-- the weight of a link, where it is one of a pair
abbrev own_weight : Edge → Bool → List Range
own_weight l t = if t then range l.weight l.weight ∷ [] else []

-- one link more; it has the lesser device first
link_said : (ls : List Edge) (l : Edge) → l.a < l.b → (x y : ℕ)
    → (if nat_eq x l.a && nat_eq y l.b then Some (linked (scene_pair ls x y) (range l.weight l.weight) true) else scene_pair ls x y) ≡ scene_pair (ls ++ l ∷ []) x y
link_said ls l o x y = by_order (nat_le x y) refl
  where
    more : x ≤ y → scene_weight x y (ls ++ l ∷ []) ≡ scene_weight x y ls ++ own_weight l (nat_eq x l.a && nat_eq y l.b)
    more h =
        scene_more x y ls l
        ∙ ap (λ k. scene_weight x y ls ++ own_weight l (nat_eq l.a k && nat_eq l.b (max x y))) (omega (arith, h))
        ∙ ap (λ k. scene_weight x y ls ++ own_weight l (nat_eq l.a x && nat_eq l.b k)) (omega (arith, h))
        ∙ ap (λ t. scene_weight x y ls ++ own_weight l (t && nat_eq l.b y)) (same_number l.a x)
        ∙ ap (λ t. scene_weight x y ls ++ own_weight l (nat_eq x l.a && t)) (same_number l.b y)

    widen_one : (o : Option Range) → Some (linked (option_map (λ r. pair_of r true) o) (range l.weight l.weight) true) ≡ option_map (λ r. pair_of r true) (Some (wider_than o (range l.weight l.weight)))
    widen_one None = refl
    widen_one (Some r) = refl

    by_pair_test : (t : Bool) → (if t then Some (linked (option_map (λ r. pair_of r true) (widest (scene_weight x y ls))) (range l.weight l.weight) true) else option_map (λ r. pair_of r true) (widest (scene_weight x y ls)))
        ≡ option_map (λ r. pair_of r true) (widest (scene_weight x y ls ++ own_weight l t))
    by_pair_test true = widen_one (widest (scene_weight x y ls)) ∙ ap (option_map (λ r. pair_of r true)) (sym (widest_more (scene_weight x y ls) (range l.weight l.weight)))
    by_pair_test false = ap (λ rs. option_map (λ r. pair_of r true) (widest rs)) (sym (append-nil (scene_weight x y ls)))

    apart : y < x → (s t : Bool) → nat_eq x l.a ≡ s → nat_eq y l.b ≡ t → (if s && t then Some (linked None (range l.weight l.weight) true) else None) ≡ None
    apart h true true p q = let i = nat_same x l.a p in let j = nat_same y l.b q in absurd (omega (arith, o, h, i, j))
    apart h true false p q = refl
    apart h false t p q = refl

    by_order : (q : Bool) → nat_le x y ≡ q → (if nat_eq x l.a && nat_eq y l.b then Some (linked (if q then option_map (λ r. pair_of r true) (widest (scene_weight x y ls)) else None) (range l.weight l.weight) true)
        else (if q then option_map (λ r. pair_of r true) (widest (scene_weight x y ls)) else None)) ≡ (if q then option_map (λ r. pair_of r true) (widest (scene_weight x y (ls ++ l ∷ []))) else None)
    by_order true e = by_pair_test (nat_eq x l.a && nat_eq y l.b) ∙ ap (λ rs. option_map (λ r. pair_of r true) (widest rs)) (sym (more (leb-true x y e)))
    by_order false e = apart (leb-false x y e) (nat_eq x l.a) (nat_eq y l.b) refl refl

-- the links of a scene alone
pub scene_said : (n : Network) (x y : ℕ) → scene_pair n.links x y ≡ pair_said n [] x y
scene_said n x y = ap (λ o. if nat_le x y then o else None) (by_weights (widest (scene_weight x y n.links)) refl ∙ ap (λ rs. option_map (λ r. pair_of r (are_linked n x y && true)) (widest rs)) (sym (append-nil (scene_weight x y n.links))))
  where
    by_weights : (o : Option Range) → widest (scene_weight x y n.links) ≡ o → option_map (λ r. pair_of r true) o ≡ option_map (λ r. pair_of r (are_linked n x y && true)) (widest (scene_weight x y n.links))
    by_weights None e = sym (ap (option_map (λ r. pair_of r (are_linked n x y && true))) e)
    by_weights (Some r) e =
        ap (λ b. Some (pair_of r (b && true))) (sym (some_linked x y n.links r e))
        ∙ sym (ap (option_map (λ s. pair_of s (are_linked n x y && true))) e)

-- ---- lines

module _ (n : Network) (cs : List ChangeValue) (x y : ℕ) where
  abbrev sure_of : Bool → Bool
  sure_of gone = are_linked n x y && not gone

  abbrev all_of : Bool → Option Range → Option PairBound
  all_of gone o = option_map (λ r. pair_of r (sure_of gone)) o

  -- what is said where the lesser device is first
  more : (c : ChangeValue) → x ≤ y → pair_said n (cs ++ c ∷ []) x y
      ≡ all_of (some_line (unlinks_pair x y) cs || unlinks_pair x y c) (widest (scene_weight x y n.links ++ (said_weights n.declared x y cs ++ said_weight n.declared x y c)))
  more c o =
      ap (λ b. if b then all_of (some_line (unlinks_pair x y) (cs ++ c ∷ [])) (weights_of_pair n (cs ++ c ∷ []) x y) else None) (le-leb x y o)
      ∙ ap (λ g. all_of g (weights_of_pair n (cs ++ c ∷ []) x y)) (some_more (unlinks_pair x y) cs c)
      ∙ ap (λ rs. all_of (some_line (unlinks_pair x y) cs || unlinks_pair x y c) (widest (scene_weight x y n.links ++ rs))) (weights_more n.declared x y cs c)

  abbrev now : Option PairBound
  now = all_of (some_line (unlinks_pair x y) cs) (weights_of_pair n cs x y)

  here : x ≤ y → pair_said n cs x y ≡ now
  here o = ap (λ b. if b then now else None) (le-leb x y o)

  or_false : (b : Bool) → (b || false) ≡ b
  or_false true = refl
  or_false false = refl

  nothing_new : all_of (some_line (unlinks_pair x y) cs || false) (widest (scene_weight x y n.links ++ (said_weights n.declared x y cs ++ []))) ≡ now
  nothing_new =
      ap (λ g. all_of g (widest (scene_weight x y n.links ++ (said_weights n.declared x y cs ++ [])))) (or_false (some_line (unlinks_pair x y) cs))
      ∙ ap (λ rs. all_of (some_line (unlinks_pair x y) cs) (widest (scene_weight x y n.links ++ rs))) (append-nil (said_weights n.declared x y cs))

  -- a pair that nothing is said of isn't linked
  link_new : (g : Bool) (o : Option Range) → weights_of_pair n cs x y ≡ o → (r : Range) → all_of g (Some (wider_than o r)) ≡ Some (linked (all_of g o) r false)
  link_new g None e r = ap (λ b. Some (pair_of r (b && not g))) (none_linked x y n.links (said_weights n.declared x y cs) e)
  link_new g (Some s) e r = refl

  links : (a b : ℕ) (w : Weights) (t : Bool) → all_of (some_line (unlinks_pair x y) cs || false) (widest (scene_weight x y n.links ++ (said_weights n.declared x y cs ++ (if t then weights_range n.declared w ∷ [] else []))))
      ≡ (if t then Some (linked now (weights_range n.declared w) false) else now)
  links a b w true =
      ap (λ g. all_of g (widest (scene_weight x y n.links ++ (said_weights n.declared x y cs ++ weights_range n.declared w ∷ [])))) (or_false (some_line (unlinks_pair x y) cs))
      ∙ ap (λ rs. all_of (some_line (unlinks_pair x y) cs) (widest rs)) (sym (append_assoc (scene_weight x y n.links) (said_weights n.declared x y cs) (weights_range n.declared w ∷ [])))
      ∙ ap (all_of (some_line (unlinks_pair x y) cs)) (widest_more (scene_weight x y n.links ++ said_weights n.declared x y cs) (weights_range n.declared w))
      ∙ link_new (some_line (unlinks_pair x y) cs) (weights_of_pair n cs x y) refl (weights_range n.declared w)
  links a b w false = nothing_new

  gone_now : (s g : Bool) (o : Option Range) → option_map (λ r. pair_of r (s && not (g || true))) o ≡ option_map unlinked (option_map (λ r. pair_of r (s && not g)) o)
  gone_now s g None = refl
  gone_now true true (Some r) = refl
  gone_now true false (Some r) = refl
  gone_now false g (Some r) = refl

  unlinks : (t : Bool) → all_of (some_line (unlinks_pair x y) cs || t) (widest (scene_weight x y n.links ++ (said_weights n.declared x y cs ++ []))) ≡ (if t then option_map unlinked now else now)
  unlinks true =
      ap (λ rs. all_of (some_line (unlinks_pair x y) cs || true) (widest (scene_weight x y n.links ++ rs))) (append-nil (said_weights n.declared x y cs))
      ∙ gone_now (are_linked n x y) (some_line (unlinks_pair x y) cs) (weights_of_pair n cs x y)
  unlinks false = nothing_new

  in_order : (c : ChangeValue) → x ≤ y → pair_said n (cs ++ c ∷ []) x y ≡ told n.declared now x y c
  in_order (SetChange e i p) o = more (SetChange e i p) o ∙ nothing_new
  in_order (LinkChange a b w) o = more (LinkChange a b w) o ∙ links a b w (are_pair a b x y) ∙ ap (λ t. if t then Some (linked now (weights_range n.declared w) false) else now) (pair_test a b x y o)
  in_order (UnlinkChange a b) o = more (UnlinkChange a b) o ∙ unlinks (are_pair a b x y) ∙ ap (λ t. if t then option_map unlinked now else now) (pair_test a b x y o)
  in_order (LeaveChange e) o = more (LeaveChange e) o ∙ nothing_new
  in_order (JoinChange e ps) o = more (JoinChange e ps) o ∙ nothing_new

  none : (c : ChangeValue) → y < x → None ≡ told n.declared None x y c
  none (SetChange e i p) o = refl
  none (LinkChange a b w) o = ap (λ t. if t then Some (linked None (weights_range n.declared w) false) else None) (sym (not_first a b x y o))
  none (UnlinkChange a b) o = ap (λ t. if t then None else None) (sym (not_first a b x y o))
  none (LeaveChange e) o = refl
  none (JoinChange e ps) o = refl

  pub pair_more : (c : ChangeValue) → told n.declared (pair_said n cs x y) x y c ≡ pair_said n (cs ++ c ∷ []) x y
  pair_more c = by_order (nat_le x y) refl
    where
      by_order : (q : Bool) → nat_le x y ≡ q → told n.declared (pair_said n cs x y) x y c ≡ pair_said n (cs ++ c ∷ []) x y
      by_order true e = let o = leb-true x y e in ap (λ p. told n.declared p x y c) (here o) ∙ sym (in_order c o)
      by_order false e =
          ap (λ b. told n.declared (if b then now else None) x y c) e
          ∙ sym (none c (leb-false x y e))
          ∙ sym (ap (λ b. if b then all_of (some_line (unlinks_pair x y) (cs ++ c ∷ [])) (weights_of_pair n (cs ++ c ∷ []) x y) else None) e)

-- one link of a scene more, in code
abbrev pub no_link : Link
no_link = record { a = 0; b = 0; weight = 0 }

order_at : (D : Declarations) (ds : List ℕ) (ls : List Link) (k : ℕ) → LinksFit D ds (map edge_of ls) → k < length ls → (get_or ls k no_link).a < (get_or ls k no_link).b
order_at D ds [] k f h = absurd (omega (arith, h))
order_at D ds (l ∷ ls) zero f h = f.0.order
order_at D ds (l ∷ ls) (suc k) f h = order_at D ds ls k f.2 (omega (arith, h))

pub one_link_more : (n : Network) (ls : List Link) (k : ℕ) → IsNetwork n → map edge_of ls ≡ n.links → k < length ls → (x y : ℕ)
    → (if nat_eq x (get_or ls k no_link).a && nat_eq y (get_or ls k no_link).b
    then Some (linked (scene_pair (map edge_of (take k ls)) x y) (range (get_or ls k no_link).weight (get_or ls k no_link).weight) true) else scene_pair (map edge_of (take k ls)) x y)
    ≡ scene_pair (map edge_of (take (k + 1) ls)) x y
one_link_more n ls k net e h x y =
    let l = get_or ls k no_link in
    let o = order_at n.declared (numbers n.devices) ls k (subst (LinksFit n.declared (numbers n.devices)) (sym e) net.links) h in
    link_said (map edge_of (take k ls)) (edge_of l) o x y
    ∙ ap (λ es. scene_pair es x y) (sym (ap (map edge_of) (take_more ls k no_link h) ∙ map-append edge_of (take k ls) (l ∷ [])))
