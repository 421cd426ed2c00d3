-- What lines and a scene say of pairs: in one order of devices and the other, and of which pairs.
use Rattle.std.proofs.Common.{ℕ, ◌≡◌, ◌≤◌, Bool, true, false, ◌&&◌, ◌||◌, not, min, max, nat_eq, nat_le, List, [], ◌∷◌, ◌++◌, refl, sym, ap, subst, ◌∙◌, arith, inl, inr, Some, None, if◌then◌else◌}
use Rattle.std.specs.Prelude.{◌⊎◌, Option, is_some}
use Rattle.std.proofs.lemmas.Bool.{eqb-true, eqb-false, leb-true}
use Rattle.fc_values.specs.Types.{Declarations}
use Rattle.fc_values.specs.Fields.{is_in}
use Rattle.topology.specs.declared.types.NetFault.TheVariants as net
use Rattle.topology.specs.Networks.{Edge, Network, IsNetwork, LinksFit, numbers}
use Rattle.topology.specs.Changes.{are_linked, first_fault, has_pair, in_metric}
use Rattle.changes.specs.declared.types.Range.{Range}
use Rattle.changes.specs.declared.types.Weights.{Weights}
use Rattle.changes.specs.declared.types.Weights.TheVariants as weights
use Rattle.changes.specs.Changes.{range}
use Rattle.changes.specs.Changes.{ChangeValue, SetChange, LinkChange, UnlinkChange, LeaveChange, JoinChange}
use Rattle.changes.specs.Hand.{said, are_pair, links_pair, unlinks_pair, joins_device, some_line, at_hand, pair_at_hand}
use Rattle.changes.specs.Faults.{in_metric_all, is_crowded, NoneRefused}
use Rattle.change_bounds.specs.Bounds.{weights_range, said_weights, scene_weight, wider, widest_from, widest, weights_of_pair}
use Rattle.fc_values.proofs.Rising.{min_or}
use Rattle.changes.proofs.AtHand.{pair_ends}
use Rattle.change_envelopes.specs.Laws.{IsSaid}
use Rattle.change_envelopes.proofs.Accepted.{IsAccepted, accepted}

-- ---- the order of the devices doesn't matter

module _ (x y a b : ℕ) (low : min x y ≡ min a b) (high : max x y ≡ max a b) where
  scene_turned : (ls : List Edge) → scene_weight x y ls ≡ scene_weight a b ls
  scene_turned [] = refl
  scene_turned (l ∷ ls) = rw (low, high) (ap (λ rs. if nat_eq l.a (min a b) && nat_eq l.b (max a b) then range l.weight l.weight ∷ rs else rs) (scene_turned ls))

  pair_turned : (c d : ℕ) → are_pair c d x y ≡ are_pair c d a b
  pair_turned c d = rw (low, high) refl

  said_turned : (D : Declarations) (cs : List ChangeValue) → said_weights D x y cs ≡ said_weights D a b cs
  said_turned D [] = refl
  said_turned D (SetChange e i p ∷ cs) = said_turned D cs
  said_turned D (LinkChange c d w ∷ cs) = ap (λ t. (if t then weights_range D w ∷ [] else []) ++ said_weights D x y cs) (pair_turned c d) ∙ ap (λ rs. (if are_pair c d a b then weights_range D w ∷ [] else []) ++ rs) (said_turned D cs)
  said_turned D (UnlinkChange c d ∷ cs) = said_turned D cs
  said_turned D (LeaveChange e ∷ cs) = said_turned D cs
  said_turned D (JoinChange e ps ∷ cs) = said_turned D cs

  pub weights_turned : (n : Network) (cs : List ChangeValue) → weights_of_pair n cs x y ≡ weights_of_pair n cs a b
  weights_turned n cs = ap (λ rs. widest (rs ++ said_weights n.declared x y cs)) (scene_turned n.links) ∙ ap (λ rs. widest (scene_weight a b n.links ++ rs)) (said_turned n.declared cs)

  pub unlinks_turned : (cs : List ChangeValue) → some_line (unlinks_pair x y) cs ≡ some_line (unlinks_pair a b) cs
  unlinks_turned [] = refl
  unlinks_turned (SetChange e i p ∷ cs) = unlinks_turned cs
  unlinks_turned (LinkChange c d w ∷ cs) = unlinks_turned cs
  unlinks_turned (UnlinkChange c d ∷ cs) = ap (λ t. t || some_line (unlinks_pair x y) cs) (pair_turned c d) ∙ ap (λ t. are_pair c d a b || t) (unlinks_turned cs)
  unlinks_turned (LeaveChange e ∷ cs) = unlinks_turned cs
  unlinks_turned (JoinChange e ps ∷ cs) = unlinks_turned cs

  pub linked_turned : (n : Network) → are_linked n x y ≡ are_linked n a b
  linked_turned n = rw (low, high) refl

-- ---- a pair has weights where it is at hand

abbrev some_range : List Range → Bool
some_range [] = false
some_range (r ∷ rs) = true

some_widest : (rs : List Range) → is_some (widest rs) ≡ some_range rs
some_widest [] = refl
some_widest (r ∷ rs) = refl

some_append : (rs ss : List Range) → some_range (rs ++ ss) ≡ (some_range rs || some_range ss)
some_append [] ss = refl
some_append (r ∷ rs) ss = refl

some_scene : (a b : ℕ) (ls : List Edge) → some_range (scene_weight a b ls) ≡ has_pair (min a b) (max a b) ls
some_scene a b [] = refl
some_scene a b (l ∷ ls) = by_test (nat_eq l.a (min a b) && nat_eq l.b (max a b)) (some_scene a b ls)
  where
    by_test : (t : Bool) → some_range (scene_weight a b ls) ≡ has_pair (min a b) (max a b) ls
        → some_range (if t then range l.weight l.weight ∷ scene_weight a b ls else scene_weight a b ls) ≡ (t || has_pair (min a b) (max a b) ls)
    by_test true h = refl
    by_test false h = h

some_said : (D : Declarations) (a b : ℕ) (cs : List ChangeValue) → some_range (said_weights D a b cs) ≡ some_line (links_pair a b) cs
some_said D a b [] = refl
some_said D a b (SetChange e i p ∷ cs) = some_said D a b cs
some_said D a b (LinkChange c d w ∷ cs) = by_test (are_pair c d a b) (some_said D a b cs)
  where
    by_test : (t : Bool) → some_range (said_weights D a b cs) ≡ some_line (links_pair a b) cs
        → some_range ((if t then weights_range D w ∷ [] else []) ++ said_weights D a b cs) ≡ (t || some_line (links_pair a b) cs)
    by_test true h = refl
    by_test false h = h
some_said D a b (UnlinkChange c d ∷ cs) = some_said D a b cs
some_said D a b (LeaveChange e ∷ cs) = some_said D a b cs
some_said D a b (JoinChange e ps ∷ cs) = some_said D a b cs

pub some_weights : (n : Network) (cs : List ChangeValue) (a b : ℕ) → is_some (weights_of_pair n cs a b) ≡ pair_at_hand n cs a b
some_weights n cs a b =
    some_widest (scene_weight a b n.links ++ said_weights n.declared a b cs)
    ∙ some_append (scene_weight a b n.links) (said_weights n.declared a b cs)
    ∙ ap (λ t. t || some_range (said_weights n.declared a b cs)) (some_scene a b n.links)
    ∙ ap (λ t. are_linked n a b || t) (some_said n.declared a b cs)

-- ---- what is known of a line that links

pub record LinkFits (n : Network) (all : List ChangeValue) (a b : ℕ) (w : Weights) : Type 0 where
  pub two : nat_eq a b ≡ false
  pub first : at_hand n all a ≡ true
  pub second : at_hand n all b ≡ true
  pub metric : in_metric_all n.declared w ≡ true

abbrev pub LineFits : Network → List ChangeValue → ChangeValue → Type 0
LineFits n all (SetChange e i p) = Unit {0}
LineFits n all (LinkChange a b w) = LinkFits n all a b w
LineFits n all (UnlinkChange a b) = Unit {0}
LineFits n all (LeaveChange e) = Unit {0}
LineFits n all (JoinChange e ps) = Unit {0}

abbrev pub LinesFit : Network → (all cs : List ChangeValue) → Type 0
LinesFit n all [] = Unit {0}
LinesFit n all (c ∷ cs) = LineFits n all c × LinesFit n all cs

module _ (n : Network) (all : List ChangeValue) where
  link_fits : (a b : ℕ) (w : Weights) → IsAccepted n all (LinkChange a b w) → LinkFits n all a b w
  link_fits a b w (before, h) = by_tests (at_hand n all a) (at_hand n all b) refl refl (nat_eq a b) refl (in_metric_all n.declared w) refl (not (pair_at_hand n before a b) && (is_crowded n before a || is_crowded n before b)) h
    where
      by_tests : (p q : Bool) → at_hand n all a ≡ p → at_hand n all b ≡ q → (r : Bool) → nat_eq a b ≡ r → (s : Bool) → in_metric_all n.declared w ≡ s → (t : Bool)
          → first_fault ((not (p && q), net.NoDevice) ∷ (r, net.SelfLink) ∷ (not s, net.Weight) ∷ (t, net.Degree) ∷ []) ≡ None → LinkFits n all a b w
      by_tests true true e f false g true k t h = record { two = g; first = e; second = f; metric = k }
      by_tests true true e f false g false k t h = absurd cc
      by_tests true true e f true g s k t h = absurd cc
      by_tests true false e f r g s k t h = absurd cc
      by_tests false q e f r g s k t h = absurd cc

  line_fits : (c : ChangeValue) → IsAccepted n all c → LineFits n all c
  line_fits (SetChange e i p) h = tt
  line_fits (LinkChange a b w) h = link_fits a b w h
  line_fits (UnlinkChange a b) h = tt
  line_fits (LeaveChange e) h = tt
  line_fits (JoinChange e ps) h = tt

  all_fit : (cs : List ChangeValue) → ((c : ChangeValue) → IsSaid c cs → IsAccepted n all c) → LinesFit n all cs
  all_fit [] h = tt
  all_fit (c ∷ cs) h = (line_fits c (h c (inl refl)), all_fit cs (λ x s. h x (inr s)))

pub lines_fit : (n : Network) (ls : List (ℕ × Option ChangeValue)) → NoneRefused n ls → LinesFit n (said ls) (said ls)
lines_fit n ls ok = all_fit n (said ls) (said ls) (λ c s. accepted n ls c ok s)

-- ---- what is known of a pair at hand

-- its devices are two, and at hand
pub record PairFits (n : Network) (all : List ChangeValue) (a b : ℕ) : Type 0 where
  pub two : a ≡ b → ⊥
  pub first : at_hand n all a ≡ true
  pub second : at_hand n all b ≡ true

module _ (n : Network) (net : IsNetwork n) (all : List ChangeValue) where
  of_scene : (a b : ℕ) (ls : List Edge) → LinksFit n.declared (numbers n.devices) ls → has_pair (min a b) (max a b) ls ≡ true → PairFits n all a b
  of_scene a b [] f h = absurd cc
  of_scene a b (l ∷ ls) f h = by_tests (nat_eq l.a (min a b)) (nat_eq l.b (max a b)) refl refl h (of_scene a b ls f.2)
    where
      lives_at : (d : ℕ) → is_in d (numbers n.devices) ≡ true → at_hand n all d ≡ true
      lives_at d t = ap (λ p. p || some_line (joins_device d) all) t

      ends : l.a ≡ min a b → l.b ≡ max a b → PairFits n all a b
      ends e g = by_order (min_or a b)
        where
          by_order : ((min a b ≡ a) × (max a b ≡ b)) ⊎ ((min a b ≡ b) × (max a b ≡ a)) → PairFits n all a b
          by_order (inl o) = record {
            two = λ s. let k = f.0.order in absurd (omega (arith, k, e, g, o.0, o.1, s));
            first = lives_at a (subst (λ d. is_in d (numbers n.devices) ≡ true) (e ∙ o.0) f.0.from);
            second = lives_at b (subst (λ d. is_in d (numbers n.devices) ≡ true) (g ∙ o.1) f.0.to);
          }
          by_order (inr o) = record {
            two = λ s. let k = f.0.order in absurd (omega (arith, k, e, g, o.0, o.1, s));
            first = lives_at a (subst (λ d. is_in d (numbers n.devices) ≡ true) (g ∙ o.1) f.0.to);
            second = lives_at b (subst (λ d. is_in d (numbers n.devices) ≡ true) (e ∙ o.0) f.0.from);
          }

      by_tests : (s t : Bool) → nat_eq l.a (min a b) ≡ s → nat_eq l.b (max a b) ≡ t → ((s && t) || has_pair (min a b) (max a b) ls) ≡ true
          → (has_pair (min a b) (max a b) ls ≡ true → PairFits n all a b) → PairFits n all a b
      by_tests true true e g k later = ends (eqb-true l.a (min a b) e) (eqb-true l.b (max a b) g)
      by_tests true false e g k later = later k
      by_tests false t e g k later = later k

  of_lines : (a b : ℕ) (cs : List ChangeValue) → LinesFit n all cs → some_line (links_pair a b) cs ≡ true → PairFits n all a b
  of_lines a b [] f h = absurd cc
  of_lines a b (SetChange e i p ∷ cs) f h = of_lines a b cs f.1 h
  of_lines a b (LinkChange x y w ∷ cs) f h = by_test (are_pair x y a b) refl h (of_lines a b cs f.1)
    where
      ends : ((x ≡ a) × (y ≡ b)) ⊎ ((x ≡ b) × (y ≡ a)) → PairFits n all a b
      ends (inl e) = record {
        two = λ s. eqb-false x y f.0.two (e.0 ∙ s ∙ sym e.1);
        first = subst (λ d. at_hand n all d ≡ true) e.0 f.0.first;
        second = subst (λ d. at_hand n all d ≡ true) e.1 f.0.second;
      }
      ends (inr e) = record {
        two = λ s. eqb-false x y f.0.two (e.0 ∙ sym s ∙ sym e.1);
        first = subst (λ d. at_hand n all d ≡ true) e.1 f.0.second;
        second = subst (λ d. at_hand n all d ≡ true) e.0 f.0.first;
      }

      by_test : (t : Bool) → are_pair x y a b ≡ t → (t || some_line (links_pair a b) cs) ≡ true → (some_line (links_pair a b) cs ≡ true → PairFits n all a b) → PairFits n all a b
      by_test true e k later = ends (pair_ends x y a b e)
      by_test false e k later = later k
  of_lines a b (UnlinkChange x y ∷ cs) f h = of_lines a b cs f.1 h
  of_lines a b (LeaveChange e ∷ cs) f h = of_lines a b cs f.1 h
  of_lines a b (JoinChange e ps ∷ cs) f h = of_lines a b cs f.1 h

  pub pair_fits : LinesFit n all all → (a b : ℕ) → pair_at_hand n all a b ≡ true → PairFits n all a b
  pair_fits f a b h = by_test (are_linked n a b) refl h
    where
      by_test : (t : Bool) → are_linked n a b ≡ t → (t || some_line (links_pair a b) all) ≡ true → PairFits n all a b
      by_test true e k = of_scene a b n.links net.links e
      by_test false e k = of_lines a b all f k

-- ---- weights are in the metric

pub record InMetric (D : Declarations) (r : Range) : Type 0 where
  pub above : D.least ≤ r.least
  pub below : r.least ≤ D.greatest

abbrev pub AllInMetric : Declarations → List Range → Type 0
AllInMetric D [] = Unit {0}
AllInMetric D (r ∷ rs) = InMetric D r × AllInMetric D rs

widest_in : (D : Declarations) (r : Range) (rs : List Range) → InMetric D r → AllInMetric D rs → InMetric D (widest_from r rs)
widest_in D r [] h f = h
widest_in D r (s ∷ ss) h f =
    let a = h.above in let b = h.below in let c = f.0.above in
    widest_in D (wider r s) ss (record { above = omega (arith, a, c); below = omega (arith, b) }) f.1

append_in : (D : Declarations) (rs ss : List Range) → AllInMetric D rs → AllInMetric D ss → AllInMetric D (rs ++ ss)
append_in D [] ss f g = g
append_in D (r ∷ rs) ss f g = (f.0, append_in D rs ss f.1 g)

module _ (n : Network) (net : IsNetwork n) (metric : n.declared.least ≤ n.declared.greatest) (all : List ChangeValue) where
  scene_in : (a b : ℕ) (ls : List Edge) → LinksFit n.declared (numbers n.devices) ls → AllInMetric n.declared (scene_weight a b ls)
  scene_in a b [] f = tt
  scene_in a b (l ∷ ls) f = by_test (nat_eq l.a (min a b) && nat_eq l.b (max a b)) (scene_in a b ls f.2)
    where
      by_test : (t : Bool) → AllInMetric n.declared (scene_weight a b ls) → AllInMetric n.declared (if t then range l.weight l.weight ∷ scene_weight a b ls else scene_weight a b ls)
      by_test true h = (record { above = f.0.above; below = f.0.below }, h)
      by_test false h = h

  range_in : (w : Weights) → in_metric_all n.declared w ≡ true → InMetric n.declared (weights_range n.declared w)
  range_in (weights.Range r) h = by_tests (nat_le n.declared.least r.least) (nat_le r.least n.declared.greatest) (in_metric n.declared r.greatest) refl refl h
    where
      by_tests : (p q s : Bool) → nat_le n.declared.least r.least ≡ p → nat_le r.least n.declared.greatest ≡ q → ((p && q) && s) ≡ true → InMetric n.declared r
      by_tests true true s e f g = record { above = leb-true n.declared.least r.least e; below = leb-true r.least n.declared.greatest f }
      by_tests true false s e f g = absurd cc
      by_tests false q s e f g = absurd cc
  range_in weights.Any h = record { above = omega arith; below = metric }

  said_in : (a b : ℕ) (cs : List ChangeValue) → LinesFit n all cs → AllInMetric n.declared (said_weights n.declared a b cs)
  said_in a b [] f = tt
  said_in a b (SetChange e i p ∷ cs) f = said_in a b cs f.1
  said_in a b (LinkChange x y w ∷ cs) f = by_test (are_pair x y a b) (said_in a b cs f.1)
    where
      by_test : (t : Bool) → AllInMetric n.declared (said_weights n.declared a b cs) → AllInMetric n.declared ((if t then weights_range n.declared w ∷ [] else []) ++ said_weights n.declared a b cs)
      by_test true h = (range_in w f.0.metric, h)
      by_test false h = h
  said_in a b (UnlinkChange x y ∷ cs) f = said_in a b cs f.1
  said_in a b (LeaveChange e ∷ cs) f = said_in a b cs f.1
  said_in a b (JoinChange e ps ∷ cs) f = said_in a b cs f.1

  pub weights_in_metric : LinesFit n all all → (a b : ℕ) (r : Range) → weights_of_pair n all a b ≡ Some r → InMetric n.declared r
  weights_in_metric f a b r h = by_list (scene_weight a b n.links ++ said_weights n.declared a b all) (append_in n.declared (scene_weight a b n.links) (said_weights n.declared a b all) (scene_in a b n.links net.links) (said_in a b all f)) h
    where
      by_list : (rs : List Range) → AllInMetric n.declared rs → widest rs ≡ Some r → InMetric n.declared r
      by_list [] g e = absurd cc
      by_list (s ∷ ss) g e = subst (λ (o : Option Range). IfRange o) e (widest_in n.declared s ss g.0 g.1)
        where
          IfRange : Option Range → Type 0
          IfRange None = ⊥
          IfRange (Some q) = InMetric n.declared q
