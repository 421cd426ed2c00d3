-- Either of two trees out of their slots, node by node.
use Rattle.std.proofs.Common.{◌≡◌, ℕ, suc, ◌<◌, ◌≤◌, ◌+◌, List, refl, sym, ◌∙◌, ap, subst, arith, Bool, true}
use Rattle.std.proofs.Common.{false, Option, Some, None}
use Rattle.fc_values.specs.Types.{LocalType, ValueType}
use Rattle.fc_nodes.specs.Terms.{Leaf, Evolution, Term, Terms, Plain, Apply, Nbr, Evolve, If, Let, NoMore, More}
use Rattle.fc_nodes.specs.Terms.{kept, kept_all}
use Rattle.fc_values.specs.declared.builtins.Builtin.{Builtin}
use Rattle.fc_nodes.proofs.Kids.{kids_of, own_type, branches}
use Rattle.value_trees.specs.SlotFits.{after_own}
use Rattle.value_bounds.specs.BoundValues.{BoundValue, Unbounded}
use Rattle.bound_firing.specs.BoundTrees.{BoundTree, Hold, NoneBelow, Below, bare, slot_bound}
use Rattle.bound_firing.specs.BoundTrees.{bound_tree_at, bound_trees_at}
use Rattle.bound_firing.specs.Seats.{may_be}
use Rattle.bound_firing.specs.Walks.{SameOut}
use Rattle.bound_firing.proofs.Firings.{below_from, below_is}
use Rattle.bound_firing.proofs.Slots.{tree_same}
use Rattle.export_bounds.specs.Exports.{either_taken, either_tree, either_trees}
use Rattle.export_bounds.specs.Widening.{side_bound, side_tree, branch_by, side_in, SlotWidened, Widened, AreOfSide}
use Rattle.export_bounds.specs.Widening.{AllWidened, OwnOfSide, own_kept, OwnWidened}
use Rattle.export_bounds.specs.declared.either.Side.{Side}
use Rattle.export_bounds.specs.declared.either.Side.TheVariants as side

-- ---- slots that stay

pub out_none : (k : ℕ) (xs : List BoundValue) → SameOut k 0 xs xs
out_none k xs = record { long = refl; before = λ j l. refl; behind = λ j l. refl }

-- first n slots from k on are written, then l from m on
out_then : (k n m l e : ℕ) (xs ys zs : List BoundValue) → m ≡ k + n → e ≡ n + l → SameOut k n xs ys
    → SameOut m l ys zs → SameOut k e xs zs
out_then k n m l e xs ys zs p q o r = record {
  long = o.long ∙ r.long;
  before = λ j h. o.before j h ∙ r.before j (omega (arith, h, p));
  behind = λ j h. o.behind j (omega (arith, h, q)) ∙ r.behind j (omega (arith, h, p, q));
}

-- the tree of a side, where the slots before and behind were written too
moved : (s : Side) (t : Term) (k : ℕ) (xs ys us vs zs : List BoundValue) (n : ℕ) → Widened s t k xs us vs n
    → ((j : ℕ) → k ≤ j → slot_bound j ys ≡ slot_bound j us)
    → ((j : ℕ) → j < k + kept t → slot_bound j vs ≡ slot_bound j zs)
    → bound_tree_at t k zs ≡ side_tree s t (bound_tree_at t k xs) (bound_tree_at t k ys)
moved s t k xs ys us vs zs n d f g =
    let e = tree_same ys us t k (λ j l m. f j l) in
    let h = tree_same vs zs t k (λ j l m. g j m) in
    sym h ∙ d.tree ∙ ap (side_tree s t (bound_tree_at t k xs)) (sym e)

-- ---- the tree of each node

branch_tree : (m n : Bool) (t : Term) (B C : BoundTree)
    → side_tree (branch_by m n) t B C ≡ either_taken m n B C (either_tree t B C)
branch_tree true true t B C = refl
branch_tree true false t B C = refl
branch_tree false n t B C = refl

plain_side : (s : Side) (t : ValueType) (l : Leaf) → bare ≡ side_tree s (Plain t l) bare bare
plain_side side.Both t l = refl
plain_side side.First t l = refl
plain_side side.Second t l = refl

nbr_side : (s : Side) (t : ValueType) (a : Term) (x y : BoundValue) (A A' : BoundTree)
    → Hold (side_bound s x y) (Below (side_tree s a A A') NoneBelow)
    ≡ side_tree s (Nbr t a) (Hold x (Below A NoneBelow)) (Hold y (Below A' NoneBelow))
nbr_side side.Both t a x y A A' = refl
nbr_side side.First t a x y A A' = refl
nbr_side side.Second t a x y A A' = refl

evolve_side : (s : Side) (t : ValueType) (o : Evolution) (a b : Term) (x y : BoundValue) (A A' B B' : BoundTree)
    → Hold (side_bound s x y) (Below (side_tree s a A A') (Below (side_tree s b B B') NoneBelow))
    ≡ side_tree s (Evolve t o a b) (Hold x (Below A (Below B NoneBelow))) (Hold y (Below A' (Below B' NoneBelow)))
evolve_side side.Both t o a b x y A A' B B' = refl
evolve_side side.First t o a b x y A A' B B' = refl
evolve_side side.Second t o a b x y A A' B B' = refl

let_side : (s : Side) (t : ValueType) (a b : Term) (A A' B B' : BoundTree)
    → Hold Unbounded (Below (side_tree s a A A') (Below (side_tree s b B B') NoneBelow))
    ≡ side_tree s (Let t a b) (Hold Unbounded (Below A (Below B NoneBelow)))
    (Hold Unbounded (Below A' (Below B' NoneBelow)))
let_side side.Both t a b A A' B B' = refl
let_side side.First t a b A A' B B' = refl
let_side side.Second t a b A A' B B' = refl

if_side : (s : Side) (t : ValueType) (c a b : Term) (x y : BoundValue) (C C' A A' B B' : BoundTree)
    → Hold (side_bound s x y) (Below (side_tree s c C C') (Below (side_tree (side_in s true x y) a A A')
    (Below (side_tree (side_in s false x y) b B B') NoneBelow)))
    ≡ side_tree s (If t c a b) (Hold x (Below C (Below A (Below B NoneBelow))))
    (Hold y (Below C' (Below A' (Below B' NoneBelow))))
if_side side.Both t c a b x y C C' A A' B B' =
    let e = branch_tree (may_be true x) (may_be true y) a A A' in
    let f = branch_tree (may_be false x) (may_be false y) b B B' in
    rw (e, f) refl
if_side side.First t c a b x y C C' A A' B B' = refl
if_side side.Second t c a b x y C C' A A' B B' = refl

module _ (xs ys zs : List BoundValue) where
  all_both : (ts : Terms) (k i : ℕ) (B C : BoundTree) → below_from i B ≡ bound_trees_at ts k xs
      → below_from i C ≡ bound_trees_at ts k ys → AreOfSide side.Both ts k xs ys zs
      → bound_trees_at ts k zs ≡ either_trees i ts B C
  all_both NoMore k i B C u v h = refl
  all_both (More t ts) k i B C u v h =
      let w = below_is i B (bound_tree_at t k xs) (bound_trees_at ts (k + kept t) xs) u in
      let w' = below_is i C (bound_tree_at t k ys) (bound_trees_at ts (k + kept t) ys) v in
      let e = w.0 in
      let e' = w'.0 in
      let p = h.0 in
      let q = all_both ts (k + kept t) (suc i) B C w.1 w'.1 h.1 in
      rw (e, e', p, q) refl

  all_first : (ts : Terms) (k : ℕ) → AreOfSide side.First ts k xs ys zs
      → bound_trees_at ts k zs ≡ bound_trees_at ts k xs
  all_first NoMore k h = refl
  all_first (More t ts) k h = let p = h.0 in let q = all_first ts (k + kept t) h.1 in rw (p, q) refl

  all_second : (ts : Terms) (k : ℕ) → AreOfSide side.Second ts k xs ys zs
      → bound_trees_at ts k zs ≡ bound_trees_at ts k ys
  all_second NoMore k h = refl
  all_second (More t ts) k h = let p = h.0 in let q = all_second ts (k + kept t) h.1 in rw (p, q) refl

  apply_tree : (s : Side) (t : ValueType) (o : Builtin) (ts : Terms) (k : ℕ) → AreOfSide s ts k xs ys zs
      → bound_tree_at (Apply t o ts) k zs
      ≡ side_tree s (Apply t o ts) (bound_tree_at (Apply t o ts) k xs) (bound_tree_at (Apply t o ts) k ys)
  apply_tree side.Both t o ts k h = ap (Hold Unbounded) (all_both ts k 0 (bound_tree_at (Apply t o ts) k xs)
      (bound_tree_at (Apply t o ts) k ys) refl refl h)
  apply_tree side.First t o ts k h = ap (Hold Unbounded) (all_first ts k h)
  apply_tree side.Second t o ts k h = ap (Hold Unbounded) (all_second ts k h)

  if_tree : (s : Side) (t : ValueType) (c a b : Term) (k : ℕ)
      → slot_bound k zs ≡ side_bound s (slot_bound k xs) (slot_bound k ys)
      → bound_tree_at c (suc k) zs ≡ side_tree s c (bound_tree_at c (suc k) xs) (bound_tree_at c (suc k) ys)
      → bound_tree_at a (suc k + kept c) zs ≡ side_tree (side_in s true (slot_bound k xs) (slot_bound k ys)) a
      (bound_tree_at a (suc k + kept c) xs) (bound_tree_at a (suc k + kept c) ys)
      → bound_tree_at b (suc k + kept c + kept a) zs
      ≡ side_tree (side_in s false (slot_bound k xs) (slot_bound k ys)) b
      (bound_tree_at b (suc k + kept c + kept a) xs) (bound_tree_at b (suc k + kept c + kept a) ys)
      → bound_tree_at (If t c a b) k zs
      ≡ side_tree s (If t c a b) (bound_tree_at (If t c a b) k xs) (bound_tree_at (If t c a b) k ys)
  if_tree s t c a b k e p q r =
      rw (e, p, q, r) (if_side s t c a b (slot_bound k xs) (slot_bound k ys) (bound_tree_at c (suc k) xs)
      (bound_tree_at c (suc k) ys) (bound_tree_at a (suc k + kept c) xs) (bound_tree_at a (suc k + kept c) ys)
      (bound_tree_at b (suc k + kept c + kept a) xs) (bound_tree_at b (suc k + kept c + kept a) ys))

  -- any other node: its own slot, and its kids
  module _ (us : List BoundValue) (s : Side) (k : ℕ) where
    node_tree : (u : Term) → branches u ≡ false → OwnOfSide s (own_type u) k xs ys us
        → AreOfSide s (kids_of u) (after_own (own_type u) k) xs ys zs
        → ((j : ℕ) → j < after_own (own_type u) k → slot_bound j us ≡ slot_bound j zs)
        → bound_tree_at u k zs ≡ side_tree s u (bound_tree_at u k xs) (bound_tree_at u k ys)
    node_tree (Plain t l) e o h w = plain_side s t l
    node_tree (Apply t o' ts) e o h w = apply_tree s t o' ts k h
    node_tree (Nbr t a) e o h w =
        let f = sym (w k (omega arith)) ∙ o in
        let p = h.0 in
        rw (f, p) (nbr_side s t a (slot_bound k xs) (slot_bound k ys) (bound_tree_at a (suc k) xs)
        (bound_tree_at a (suc k) ys))
    node_tree (Evolve t v a b) e o h w =
        let f = sym (w k (omega arith)) ∙ o in
        let p = h.0 in
        let q = h.1.0 in
        rw (f, p, q) (evolve_side s t v a b (slot_bound k xs) (slot_bound k ys) (bound_tree_at a (suc k) xs)
        (bound_tree_at a (suc k) ys) (bound_tree_at b (suc k + kept a) xs) (bound_tree_at b (suc k + kept a) ys))
    node_tree (If t c a b) e o h w = absurd cc
    node_tree (Let t a b) e o h w =
        let p = h.0 in
        let q = h.1.0 in
        rw (p, q) (let_side s t a b (bound_tree_at a k xs) (bound_tree_at a k ys) (bound_tree_at b (k + kept a) xs)
        (bound_tree_at b (k + kept a) ys))

-- ---- a term, and terms one after another

pub none_widened : (s : Side) (k : ℕ) (xs ys : List BoundValue) → AllWidened s NoMore k xs ys ys k
none_widened s k xs ys = record { trees = tt; out = out_none k ys; end = omega arith }

all_stay : (s : Side) (ts : Terms) (k : ℕ) (xs ys us zs : List BoundValue) → AreOfSide s ts k xs us zs
    → ((j : ℕ) → k ≤ j → slot_bound j ys ≡ slot_bound j us) → AreOfSide s ts k xs ys zs
all_stay s NoMore k xs ys us zs h f = tt
all_stay s (More t ts) k xs ys us zs h f =
    let e = tree_same ys us t k (λ j l m. f j l) in (
      h.0 ∙ ap (side_tree s t (bound_tree_at t k xs)) (sym e),
      all_stay s ts (k + kept t) xs ys us zs h.1 (λ j l. f j (omega (arith, l))),
    )

pub more_widened : (s : Side) (t : Term) (ts : Terms) (k : ℕ) (xs ys us zs : List BoundValue) (n m : ℕ)
    → Widened s t k xs ys us n → AllWidened s ts n xs us zs m → AllWidened s (More t ts) k xs ys zs m
more_widened s t ts k xs ys us zs n m d all =
    let r = subst (λ i. AllWidened s ts i xs us zs m) d.end all in
    let e = r.end in
    record {
      trees = (
        moved s t k xs ys ys us zs n d (λ j l. refl) (λ j l. r.out.before j l),
        all_stay s ts (k + kept t) xs ys us zs r.trees (λ j l. d.out.behind j l),
      );
      out = out_then k (kept t) (k + kept t) (kept_all ts) (kept t + kept_all ts) ys us zs refl refl d.out r.out;
      end = omega (arith, e);
    }

pub after_is : (o : Option LocalType) (k : ℕ) → after_own o k ≡ k + own_kept o
after_is None k = omega arith
after_is (Some t) k = omega arith

pub kept_is : (u : Term) → kept u ≡ own_kept (own_type u) + kept_all (kids_of u)
kept_is (Plain t l) = omega arith
kept_is (Apply t o ts) = omega arith
kept_is (Nbr t a) = omega arith
kept_is (Evolve t v a b) = omega arith
kept_is (If t c a b) = omega arith
kept_is (Let t a b) = omega arith

pub node_widened : (s : Side) (u : Term) (k : ℕ) (xs ys us zs : List BoundValue) (n m : ℕ) → branches u ≡ false
    → OwnWidened s (own_type u) k xs ys us n → AllWidened s (kids_of u) n xs us zs m → Widened s u k xs ys zs m
node_widened s u k xs ys us zs n m b o all =
    let r = subst (λ i. AllWidened s (kids_of u) i xs us zs m) o.end all in
    let a = after_is (own_type u) k in
    let q = kept_is u in
    let e = r.end in
    record {
      tree = node_tree xs ys zs us s k u b o.held
          (all_stay s (kids_of u) (after_own (own_type u) k) xs ys us zs r.trees
          (λ j l. o.out.behind j (omega (arith, l, a))))
          (λ j l. r.out.before j l);
      out = out_then k (own_kept (own_type u)) (after_own (own_type u) k) (kept_all (kids_of u)) (kept u) ys us zs a q
          o.out r.out;
      end = omega (arith, e, a, q);
    }

module _ (s : Side) (t : ValueType) (c a b : Term) (k : ℕ) (xs ys u0 u1 u2 u3 : List BoundValue)
    (m1 n1 n2 n3 : ℕ) (sa sb : Side) where
  pub if_widened : SlotWidened s k xs ys u0 → m1 ≡ suc k → Widened s c m1 xs u0 u1 n1
      → sa ≡ side_in s true (slot_bound k xs) (slot_bound k ys) → Widened sa a n1 xs u1 u2 n2
      → sb ≡ side_in s false (slot_bound k xs) (slot_bound k ys) → Widened sb b n2 xs u2 u3 n3
      → Widened s (If t c a b) k xs ys u3 n3
  if_widened o e d1 ea d2 eb d3 =
      let w1 = subst (λ i. Widened s c i xs u0 u1 n1) e d1 in
      let w2 = subst (λ v. Widened v a (suc k + kept c) xs u1 u2 n2) ea
      (subst (λ i. Widened sa a i xs u1 u2 n2) w1.end d2) in
      let w3 = subst (λ v. Widened v b (suc k + kept c + kept a) xs u2 u3 n3) eb
      (subst (λ i. Widened sb b i xs u2 u3 n3) w2.end d3) in
      let first = moved s c (suc k) xs ys u0 u1 u3 n1 w1 (λ j l. o.out.behind j (omega (arith, l)))
      (λ j l. w2.out.before j l ∙ w3.out.before j (omega (arith, l))) in
      let second = moved (side_in s true (slot_bound k xs) (slot_bound k ys)) a (suc k + kept c) xs ys u1 u2 u3 n2 w2
      (λ j l. o.out.behind j (omega (arith, l)) ∙ w1.out.behind j l) (λ j l. w3.out.before j l) in
      let third = moved (side_in s false (slot_bound k xs) (slot_bound k ys)) b (suc k + kept c + kept a) xs ys u2 u3
      u3 n3 w3
      (λ j l. o.out.behind j (omega (arith, l)) ∙ w1.out.behind j (omega (arith, l)) ∙ w2.out.behind j l)
      (λ j l. refl) in
      let held : slot_bound k u3 ≡ side_bound s (slot_bound k xs) (slot_bound k ys) =
      sym (w1.out.before k (omega arith) ∙ w2.out.before k (omega arith) ∙ w3.out.before k (omega arith)) ∙ o.held in
      let o1 = out_then k 1 (suc k) (kept c) (suc (kept c)) ys u0 u1 (omega arith) (omega arith) o.out w1.out in
      let o2 = out_then k (suc (kept c)) (suc k + kept c) (kept a) (suc (kept c + kept a)) ys u1 u2 (omega arith)
      (omega arith) o1 w2.out in
      let o3 = out_then k (suc (kept c + kept a)) (suc k + kept c + kept a) (kept b) (suc (kept c + kept a + kept b))
      ys u2 u3 (omega arith) (omega arith) o2 w3.out in
      let f = w3.end in
      record { tree = if_tree xs ys u3 s t c a b k held first second third; out = o3; end = omega (arith, f) }
