-- What lies in one of some bounds lies in the least that holds all.
use Rattle.std.proofs.Common.{ℕ, zero, suc, ◌≡◌, ◌+◌, true, min, max, List, [], ◌∷◌, ◌++◌, refl, sym, ap, subst, ◌∙◌, arith, inl, inr, Some}
use Rattle.std.specs.Prelude.{◌⊎◌, Option, option_map, slice_get}
use Rattle.fc_values.specs.Types.{Declarations, Input}
use Rattle.fc_values.specs.Values.{LocalValue}
use Rattle.fc_values.specs.declared.types.InputTy.{InputTy}
use Rattle.value_bounds.specs.BoundValues.{BoundValue, Lies, either}
use Rattle.value_bounds.proofs.Values.{either_left, either_right, itself}
use Rattle.bound_firing.specs.Firing.{InputsLie, input_bound}
use Rattle.topology.specs.Networks.{Network}
use Rattle.changes.specs.declared.types.Range.{Range}
use Rattle.changes.specs.declared.types.Possible.{Possible}
use Rattle.changes.specs.declared.types.Weights.{Weights}
use Rattle.changes.specs.Changes.{ChangeValue, SetChange, LinkChange, JoinChange}
use Rattle.changes.specs.Hand.{are_pair}
use Rattle.change_bounds.specs.Bounds.{possible_bound, as_list, said_bound, said_bounds, scene_bound, joint_bound_from, joint_bound, bound_of_input, bounds_from, weights_range, said_weight, said_weights, wider, widest_from, widest, weights_of_pair, scene_weight}
use Rattle.change_envelopes.specs.Allowed.{IsPossible, ArePossible, InRange}
use Rattle.change_envelopes.specs.Laws.{IsSaid}

abbrev pub SomeLies : LocalValue → List BoundValue → Type 0
SomeLies v [] = ⊥
SomeLies v (b ∷ bs) = Lies b v ⊎ SomeLies v bs

pub some_left : (v : LocalValue) (bs cs : List BoundValue) → SomeLies v bs → SomeLies v (bs ++ cs)
some_left v [] cs h = absurd h
some_left v (b ∷ bs) cs (inl h) = inl h
some_left v (b ∷ bs) cs (inr h) = inr (some_left v bs cs h)

pub some_right : (v : LocalValue) (bs cs : List BoundValue) → SomeLies v cs → SomeLies v (bs ++ cs)
some_right v [] cs h = h
some_right v (b ∷ bs) cs h = inr (some_right v bs cs h)

hull_first : (b : BoundValue) (bs : List BoundValue) (v : LocalValue) → Lies b v → Lies (joint_bound_from b bs) v
hull_first b [] v h = h
hull_first b (c ∷ cs) v h = hull_first (either b c) cs v (either_left b c v h)

hull_rest : (b : BoundValue) (bs : List BoundValue) (v : LocalValue) → SomeLies v bs → Lies (joint_bound_from b bs) v
hull_rest b [] v h = absurd h
hull_rest b (c ∷ cs) v (inl h) = hull_first (either b c) cs v (either_right b c v h)
hull_rest b (c ∷ cs) v (inr h) = hull_rest (either b c) cs v h

pub lies_hull : (bs : List BoundValue) (v : LocalValue) → SomeLies v bs → Lies (joint_bound bs) v
lies_hull [] v h = absurd h
lies_hull (b ∷ bs) v (inl h) = hull_first b bs v h
lies_hull (b ∷ bs) v (inr h) = hull_rest b bs v h

-- ---- what one line says is among what all say

pub among : (d i : ℕ) (t : InputTy) (c : ChangeValue) (cs : List ChangeValue) (v : LocalValue) → IsSaid c cs → SomeLies v (said_bound d i t c) → SomeLies v (said_bounds d i t cs)
among d i t c [] v s h = absurd s
among d i t c (x ∷ xs) v (inl e) h = some_left v (said_bound d i t x) (said_bounds d i t xs) (subst (λ y. SomeLies v (said_bound d i t y)) (sym e) h)
among d i t c (x ∷ xs) v (inr s) h = some_right v (said_bound d i t x) (said_bounds d i t xs) (among d i t c xs v s h)

set_says : (d i : ℕ) (t : InputTy) (p : Possible) (v : LocalValue) → Lies (possible_bound t p) v → SomeLies v (said_bound d i t (SetChange d i p))
set_says d i t p v h = let x = itself d in let y = itself i in rw (x, y) (inl h)

pub listed : (v : LocalValue) (o : Option BoundValue) (b : BoundValue) → o ≡ Some b → Lies b v → SomeLies v (as_list o)
listed v o b e h = subst (λ x. SomeLies v (as_list x)) (sym e) (inl h)

join_says : (d i : ℕ) (t : InputTy) (ps : List Possible) (p : Possible) (v : LocalValue) → slice_get ps i ≡ Some p → Lies (possible_bound t p) v → SomeLies v (said_bound d i t (JoinChange d ps))
join_says d i t ps p v e h =
    let x = itself d in
    rw x (listed v (option_map (possible_bound t) (slice_get ps i)) (possible_bound t p) (ap (option_map (possible_bound t)) e) h)

module _ (n : Network) (cs : List ChangeValue) (d : ℕ) where
  line_lies : (c : ChangeValue) (i : ℕ) (t : InputTy) (v : LocalValue) → IsSaid c cs → SomeLies v (said_bound d i t c) → Lies (bound_of_input n cs d i t) v
  line_lies c i t v s h = lies_hull (scene_bound n d i ++ said_bounds d i t cs) v (some_right v (scene_bound n d i) (said_bounds d i t cs) (among d i t c cs v s h))

  -- a value that a line sets
  set_at : (is : List Input) (i k j : ℕ) (p : Possible) (v : LocalValue) → j ≡ k + i → IsSaid (SetChange d j p) cs → IsPossible is i p v → Lies (input_bound (slice_get (bounds_from n cs d k is) i)) v
  set_at [] i k j p v e s h = absurd h
  set_at (x ∷ xs) zero k j p v e s h =
      let f : j ≡ k = e ∙ omega arith in
      subst (λ y. Lies (bound_of_input n cs d y x.type) v) f (line_lies (SetChange d j p) j x.type v s (set_says d j x.type p v h))
  set_at (x ∷ xs) (suc i) k j p v e s h = set_at xs i (k + 1) j p v (omega (arith, e)) s h

  pub set_lies : (i : ℕ) (p : Possible) (v : LocalValue) → IsSaid (SetChange d i p) cs → IsPossible n.declared.inputs i p v → Lies (input_bound (slice_get (bounds_from n cs d 0 n.declared.inputs) i)) v
  set_lies i p v s h = set_at n.declared.inputs i 0 i p v (omega arith) s h

  -- the inputs that a line has a device come with
  come_at : (is : List Input) (k : ℕ) (qs ps : List Possible) (vs : List LocalValue) → ((j : ℕ) → slice_get qs (k + j) ≡ slice_get ps j) → IsSaid (JoinChange d qs) cs → ArePossible is ps vs → InputsLie (bounds_from n cs d k is) vs
  come_at [] k qs [] [] at s h = tt
  come_at [] k qs [] (v ∷ vs) at s h = absurd h
  come_at [] k qs (p ∷ ps) vs at s h = absurd h
  come_at (x ∷ xs) k qs [] vs at s h = absurd h
  come_at (x ∷ xs) k qs (p ∷ ps) [] at s h = absurd h
  come_at (x ∷ xs) k qs (p ∷ ps) (v ∷ vs) at s h = (
    line_lies (JoinChange d qs) k x.type v s (join_says d k x.type qs p v (ap (slice_get qs) (omega arith) ∙ at 0) h.0),
    come_at xs (k + 1) qs ps vs (λ j. ap (slice_get qs) (omega arith) ∙ at (suc j)) s h.1,
  )

  pub come_lies : (ps : List Possible) (vs : List LocalValue) → IsSaid (JoinChange d ps) cs → ArePossible n.declared.inputs ps vs → InputsLie (bounds_from n cs d 0 n.declared.inputs) vs
  come_lies ps vs s h = come_at n.declared.inputs 0 ps ps vs (λ j. ap (slice_get ps) (omega arith)) s h

-- ---- weights

abbrev pub SomeIn : ℕ → List Range → Type 0
SomeIn w [] = ⊥
SomeIn w (r ∷ rs) = InRange r w ⊎ SomeIn w rs

pub in_left : (w : ℕ) (rs ss : List Range) → SomeIn w rs → SomeIn w (rs ++ ss)
in_left w [] ss h = absurd h
in_left w (r ∷ rs) ss (inl h) = inl h
in_left w (r ∷ rs) ss (inr h) = inr (in_left w rs ss h)

pub in_right : (w : ℕ) (rs ss : List Range) → SomeIn w ss → SomeIn w (rs ++ ss)
in_right w [] ss h = h
in_right w (r ∷ rs) ss h = inr (in_right w rs ss h)

widest_first : (r : Range) (rs : List Range) (w : ℕ) → InRange r w → InRange (widest_from r rs) w
widest_first r [] w h = h
widest_first r (s ∷ ss) w h = widest_first (wider r s) ss w (record { above = omega (arith, h.above); below = omega (arith, h.below) })

widest_rest : (r : Range) (rs : List Range) (w : ℕ) → SomeIn w rs → InRange (widest_from r rs) w
widest_rest r [] w h = absurd h
widest_rest r (s ∷ ss) w (inl h) = widest_first (wider r s) ss w (record { above = omega (arith, h.above); below = omega (arith, h.below) })
widest_rest r (s ∷ ss) w (inr h) = widest_rest (wider r s) ss w h

-- a weight that lies in one range lies in the widest
pub record HasRange (w : ℕ) (o : Option Range) : Type 0 where
  pub range : Range
  pub is : o ≡ Some range
  pub within : InRange range w

pub in_widest : (rs : List Range) (w : ℕ) → SomeIn w rs → HasRange w (widest rs)
in_widest [] w h = absurd h
in_widest (r ∷ rs) w (inl h) = record { range = widest_from r rs; is = refl; within = widest_first r rs w h }
in_widest (r ∷ rs) w (inr h) = record { range = widest_from r rs; is = refl; within = widest_rest r rs w h }

weight_among : (D : Declarations) (a b w : ℕ) (c : ChangeValue) (cs : List ChangeValue) → IsSaid c cs → SomeIn w (said_weight D a b c) → SomeIn w (said_weights D a b cs)
weight_among D a b w c [] s h = absurd s
weight_among D a b w c (x ∷ xs) (inl e) h = in_left w (said_weight D a b x) (said_weights D a b xs) (subst (λ y. SomeIn w (said_weight D a b y)) (sym e) h)
weight_among D a b w c (x ∷ xs) (inr s) h = in_right w (said_weight D a b x) (said_weights D a b xs) (weight_among D a b w c xs s h)

pub own_pair : (a b : ℕ) → are_pair a b a b ≡ true
own_pair a b = let x = itself (min a b) in let y = itself (max a b) in rw (x, y) refl

pub linked_lies : (n : Network) (cs : List ChangeValue) (a b w : ℕ) (ws : Weights) → IsSaid (LinkChange a b ws) cs → InRange (weights_range n.declared ws) w → HasRange w (weights_of_pair n cs a b)
linked_lies n cs a b w ws s h =
    let p = own_pair a b in
    let own : SomeIn w (said_weight n.declared a b (LinkChange a b ws)) = rw p (inl h) in
    in_widest (scene_weight a b n.links ++ said_weights n.declared a b cs) w (in_right w (scene_weight a b n.links) (said_weights n.declared a b cs) (weight_among n.declared a b w (LinkChange a b ws) cs s own))
