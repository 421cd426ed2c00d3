-- The branch of an `if`: the exports that took it, as slots and as trees.
use Rattle.std.proofs.Common.{◌≡◌, ℕ, suc, ◌≤◌, ◌+◌, List, [], ◌∷◌, map, filter, refl, ◌∙◌, arith, Bool, true, false, Option, Some, None, option_map}
use Rattle.fc_values.specs.Types.{ValueType}
use Rattle.fc_values.specs.Values.{LocalValue, IntValue, BoolValue, PairValue}
use Rattle.fc_values.specs.Exports.{SlotValue, slot_at}
use Rattle.fc_values.specs.Trees.{kept_of, child}
use Rattle.fc_nodes.specs.Terms.{Term, If, kept}
use Rattle.fc_nodes.specs.Flat.{by_truth, IfTruth, tree_at, Clear, Marked}
use Rattle.alignment.specs.Environments.{NearTree, near_by, child_env, branch_env, keeps_truth, own_where}
use Rattle.device_eval.specs.Evaluation.{pick}
use Rattle.alignment.specs.Slots.{FlatEnv, NearSlots, slot_keeps, flat_branch}
use Rattle.device_eval.specs.Environments.{env_at, near_at, OwnFits, NearFit, EnvFits}

-- what a truth value picks
truth_picks : {A : Type 0} (r : Bool) (v : LocalValue) (x y : A) → keeps_truth r (Some v) ≡ true → by_truth v x y ≡ pick r x y
truth_picks r (IntValue n) x y e = absurd cc
truth_picks true (BoolValue true) x y e = refl
truth_picks true (BoolValue false) x y e = absurd cc
truth_picks false (BoolValue true) x y e = absurd cc
truth_picks false (BoolValue false) x y e = refl
truth_picks r (PairValue u w) x y e = absurd cc

truth_true : (v : LocalValue) (P Q : Type 0) → keeps_truth true (Some v) ≡ true → IfTruth v P Q → P
truth_true (IntValue n) P Q e h = absurd cc
truth_true (BoolValue true) P Q e h = h
truth_true (BoolValue false) P Q e h = absurd cc
truth_true (PairValue u w) P Q e h = absurd cc

truth_false : (v : LocalValue) (P Q : Type 0) → keeps_truth false (Some v) ≡ true → IfTruth v P Q → Q
truth_false (IntValue n) P Q e h = absurd cc
truth_false (BoolValue true) P Q e h = absurd cc
truth_false (BoolValue false) P Q e h = h
truth_false (PairValue u w) P Q e h = absurd cc

module _ (t : ValueType) (x a b : Term) (k : ℕ) (r : Bool) where
  -- the branch, and its first slot
  abbrev pub arm : Term
  arm = pick r a b

  abbrev pub arm_slot : ℕ
  arm_slot = pick r (suc k + kept x) (suc k + kept x + kept a)

  arm_tree : (xs : List SlotValue) → keeps_truth r (Some (slot_at k xs).1) ≡ true → child 1 (tree_at (If t x a b) k xs) ≡ tree_at arm arm_slot xs
  arm_tree xs e = truth_picks r (slot_at k xs).1 _ _ e ∙ by_case r
    where
      by_case : (q : Bool) → pick q (tree_at a (suc k + kept x) xs) (tree_at b (suc k + kept x + kept a) xs) ≡ tree_at (pick q a b) (pick q (suc k + kept x) (suc k + kept x + kept a)) xs
      by_case true = refl
      by_case false = refl

  NearAgree : List NearSlots → Type 0
  NearAgree ns = map (near_by (child 1)) (filter (λ (n : NearTree). keeps_truth r (kept_of n.2)) (map (near_at (If t x a b) k) ns)) ≡ map (near_at arm arm_slot) (filter (λ (n : NearSlots). slot_keeps k r n.2) ns)

  near_step : (n : NearSlots) (ns : List NearSlots) → (slot_at k n.2).0 ≡ true → NearAgree ns → (q : Bool) → keeps_truth r (Some (slot_at k n.2).1) ≡ q → NearAgree (n ∷ ns)
  unfolding NearAgree slot_at
  near_step n ns m ih true e = let here = arm_tree n.2 e in rw (m, e, ih, here) refl
  near_step n ns m ih false e = rw (m, e, ih) refl

  near_branch : (ns : List NearSlots) → NearFit (If t x a b) k ns → NearAgree ns
  unfolding NearAgree
  near_branch [] h = refl
  near_branch (n ∷ ns) h = near_step n ns h.0.0 (near_branch ns h.2) (keeps_truth r (Some (slot_at k n.2).1)) refl

  own_step : (xs : List SlotValue) → (slot_at k xs).0 ≡ true → (q : Bool) → keeps_truth r (Some (slot_at k xs).1) ≡ q → option_map (child 1) (own_where (λ u. keeps_truth r (kept_of u)) (Some (tree_at (If t x a b) k xs))) ≡ option_map (tree_at arm arm_slot) (own_where (slot_keeps k r) (Some xs))
  unfolding slot_at
  own_step xs m true e = let here = arm_tree xs e in rw (m, e, here) refl
  own_step xs m false e = rw (m, e) refl

  own_branch : (o : Option (List SlotValue)) → OwnFits (If t x a b) k o → option_map (child 1) (own_where (λ u. keeps_truth r (kept_of u)) (option_map (tree_at (If t x a b) k) o)) ≡ option_map (tree_at arm arm_slot) (own_where (slot_keeps k r) o)
  own_branch None h = refl
  own_branch (Some xs) h = own_step xs h.0.0 (keeps_truth r (Some (slot_at k xs).1)) refl

  pub env_branch : (e : FlatEnv) → EnvFits (If t x a b) k e → child_env 1 (branch_env r (env_at (If t x a b) k e)) ≡ env_at arm arm_slot (flat_branch k r e)
  unfolding NearAgree
  env_branch e f = let o = own_branch e.own f.own in let n = near_branch e.near f.near in rw (o, n) refl

-- the exports that keep the truth of an `if`, at the `if` itself
module _ (t : ValueType) (x a b : Term) (k : ℕ) (r : Bool) where
  NearStay : List NearSlots → Type 0
  NearStay ns = map (near_at (If t x a b) k) (filter (λ (n : NearSlots). slot_keeps k r n.2) ns) ≡ filter (λ (n : NearTree). keeps_truth r (kept_of n.2)) (map (near_at (If t x a b) k) ns)

  stay_step : (n : NearSlots) (ns : List NearSlots) → (slot_at k n.2).0 ≡ true → NearStay ns → (q : Bool) → keeps_truth r (Some (slot_at k n.2).1) ≡ q → NearStay (n ∷ ns)
  unfolding NearStay slot_at
  stay_step n ns m ih true e = rw (m, e, ih) refl
  stay_step n ns m ih false e = rw (m, e, ih) refl

  near_stay : (ns : List NearSlots) → NearFit (If t x a b) k ns → NearStay ns
  unfolding NearStay
  near_stay [] h = refl
  near_stay (n ∷ ns) h = stay_step n ns h.0.0 (near_stay ns h.2) (keeps_truth r (Some (slot_at k n.2).1)) refl

  stay_own : (xs : List SlotValue) → (slot_at k xs).0 ≡ true → (q : Bool) → keeps_truth r (Some (slot_at k xs).1) ≡ q → option_map (tree_at (If t x a b) k) (own_where (slot_keeps k r) (Some xs)) ≡ own_where (λ u. keeps_truth r (kept_of u)) (Some (tree_at (If t x a b) k xs))
  unfolding slot_at
  stay_own xs m true e = rw (m, e) refl
  stay_own xs m false e = rw (m, e) refl

  own_stay : (o : Option (List SlotValue)) → OwnFits (If t x a b) k o → option_map (tree_at (If t x a b) k) (own_where (slot_keeps k r) o) ≡ own_where (λ u. keeps_truth r (kept_of u)) (option_map (tree_at (If t x a b) k) o)
  own_stay None h = refl
  own_stay (Some xs) h = stay_own xs h.0.0 (keeps_truth r (Some (slot_at k xs).1)) refl

  pub branch_at : (e : FlatEnv) → EnvFits (If t x a b) k e → env_at (If t x a b) k (flat_branch k r e) ≡ branch_env r (env_at (If t x a b) k e)
  unfolding NearStay
  branch_at e f = let o = own_stay e.own f.own in let n = near_stay e.near f.near in rw (o, n) refl

-- the exports of a branch fit it
arm_marked : (t : ValueType) (x a b : Term) (k : ℕ) (r : Bool) (xs : List SlotValue) → Marked (If t x a b) k xs → keeps_truth r (Some (slot_at k xs).1) ≡ true → Marked (arm t x a b k r) (arm_slot t x a b k r) xs
arm_marked t x a b k true xs m e = (truth_true (slot_at k xs).1 (Marked a (suc k + kept x) xs × Clear (suc k + kept x + kept a) (kept b) xs) (Clear (suc k + kept x) (kept a) xs × Marked b (suc k + kept x + kept a) xs) e m.2).0
arm_marked t x a b k false xs m e = (truth_false (slot_at k xs).1 (Marked a (suc k + kept x) xs × Clear (suc k + kept x + kept a) (kept b) xs) (Clear (suc k + kept x) (kept a) xs × Marked b (suc k + kept x + kept a) xs) e m.2).1

pub arm_inside : (t : ValueType) (x a b : Term) (k : ℕ) (r : Bool) → arm_slot t x a b k r + kept (arm t x a b k r) ≤ k + kept (If t x a b)
arm_inside t x a b k true = omega arith
arm_inside t x a b k false = omega arith

pub arm_later : (t : ValueType) (x a b : Term) (k : ℕ) (r : Bool) → suc k + kept x ≤ arm_slot t x a b k r
arm_later t x a b k true = omega arith
arm_later t x a b k false = omega arith

module _ (t : ValueType) (x a b : Term) (k : ℕ) (r : Bool) where
  own_fits_arm : (o : Option (List SlotValue)) → OwnFits (If t x a b) k o → OwnFits (arm t x a b k r) (arm_slot t x a b k r) (own_where (slot_keeps k r) o)
  unfolding slot_at
  own_fits_arm None h = tt
  own_fits_arm (Some xs) h = by_test (keeps_truth r (Some (slot_at k xs).1)) refl
    where
      by_test : (q : Bool) → keeps_truth r (Some (slot_at k xs).1) ≡ q → OwnFits (arm t x a b k r) (arm_slot t x a b k r) (own_where (slot_keeps k r) (Some xs))
      by_test true e = let m = h.0.0 in let i = arm_inside t x a b k r in let l = h.1 in rw (m, e) (arm_marked t x a b k r xs h.0 e, omega (arith, i, l))
      by_test false e = let m = h.0.0 in rw (m, e) tt

  near_fit_arm : (ns : List NearSlots) → NearFit (If t x a b) k ns → NearFit (arm t x a b k r) (arm_slot t x a b k r) (filter (λ (n : NearSlots). slot_keeps k r n.2) ns)
  unfolding slot_at
  near_fit_arm [] h = tt
  near_fit_arm (n ∷ ns) h = by_test (near_fit_arm ns h.2) (keeps_truth r (Some (slot_at k n.2).1)) refl
    where
      by_test : NearFit (arm t x a b k r) (arm_slot t x a b k r) (filter (λ (n : NearSlots). slot_keeps k r n.2) ns) → (q : Bool) → keeps_truth r (Some (slot_at k n.2).1) ≡ q → NearFit (arm t x a b k r) (arm_slot t x a b k r) (filter (λ (n : NearSlots). slot_keeps k r n.2) (n ∷ ns))
      by_test ih true e = let m = h.0.0 in let i = arm_inside t x a b k r in let l = h.1 in rw (m, e) (arm_marked t x a b k r n.2 h.0 e, omega (arith, i, l), ih)
      by_test ih false e = let m = h.0.0 in rw (m, e) ih

  pub env_fits_arm : (e : FlatEnv) → EnvFits (If t x a b) k e → EnvFits (arm t x a b k r) (arm_slot t x a b k r) (flat_branch k r e)
  env_fits_arm e f = record { own = own_fits_arm e.own f.own; near = near_fit_arm e.near f.near }
