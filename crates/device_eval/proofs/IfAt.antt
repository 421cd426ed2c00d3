-- An `if` at a place of a program.
use Rattle.std.proofs.Common.{◌≡◌, ◌≢◌, ◌⊎◌, ⊎_elim, inl, inr, ℕ, suc, ◌<◌, ◌≤◌, ◌+◌, List, length, refl, sym, ◌∙◌, ap}
use Rattle.std.proofs.Common.{subst, arith, Bool, true, false, Some, IsSome, get_or, length-set}
use Rattle.std.specs.Prelude.{slice_set}
use Rattle.fc_values.specs.Types.{LocalType, ValueType, TypeLocal, BoolType, Declarations}
use Rattle.fc_values.specs.BuiltinTypes.{inner}
use Rattle.fc_values.specs.Values.{IntValue, BoolValue, PairValue}
use Rattle.fc_values.specs.Fields.{AnyValue, ValueLocal, ValueField}
use Rattle.fc_values.specs.Trees.{Tree, Keep, Done, Then}
use Rattle.fc_values.specs.Exports.{SlotValue, slot_at}
use Rattle.fc_nodes.specs.declared.nodes.Node.{Node}
use Rattle.fc_nodes.specs.Typing.{Scope, HasType}
use Rattle.fc_nodes.specs.Terms.{term_type, Term, If, OfIf, kept, kept_before, size, term_at, Laid}
use Rattle.fc_nodes.specs.Flat.{by_truth, IfTruth, tree_at, Clear, Marked}
use Rattle.fc_nodes.proofs.Places.{formed_above}
use Rattle.fc_nodes.proofs.Kids.{ThreeKids, if_laid}
use Rattle.fc_nodes.proofs.Kept.{one_more, kept_size}
use Rattle.alignment.specs.Environments.{Env, child_env, branch_env, near_numbers}
use Rattle.alignment.specs.Scopes.{Vars}
use Rattle.device_eval.specs.Evaluation.{Situation, Outcome, eval_of, after, on_truth, pick}
use Rattle.fc_nodes.specs.Layouts.{LayoutValue, number_in}
use Rattle.alignment.specs.Slots.{FlatEnv, flat_branch, OwnHas, NearHave}
use Rattle.device_eval.specs.Environments.{env_at}
use Rattle.device_eval.specs.Walks.{SameIn, Can, Did, CanAt, DidAt, Stands, IsTruth, Ready, ReadyAt}
use Rattle.fc_values.proofs.SlotReads.{slot_set_same, slot_set_other}
use Rattle.device_eval.specs.Places.{May, MayAt}
use Rattle.device_eval.proofs.Progress.{those_taking}
use Rattle.device_eval.proofs.MaySteps.{may_if_condition, may_if_branch, may_at, may_near}
use Rattle.device_eval.proofs.Frames.{tree_same, marked_same, env_child, env_fits, room_part, room_behind, still_then}
use Rattle.device_eval.proofs.Frames.{still_set}
use Rattle.device_eval.proofs.Steps.{after_some, can_all, did_all, kid_is, stands_kid, slot_is, own_has, near_have}
use Rattle.device_eval.proofs.Branches.{arm, arm_slot, env_branch, arm_inside, arm_later, env_fits_arm}

truth_is : (v : AnyValue) (f : Bool → Outcome) → IsSome (on_truth v f) → IsTruth v
truth_is (ValueLocal (BoolValue b)) f h = tt
truth_is (ValueLocal (IntValue n)) f h = absurd cc
truth_is (ValueLocal (PairValue x y)) f h = absurd cc
truth_is (ValueField es) f h = absurd cc

module _ (S : Situation) (p : ℕ) (t : ValueType) (x a b : Term) (k : ℕ) (vars : Vars) (env : FlatEnv)
    (xs : List SlotValue) (can : Can S p (If t x a b) k vars env xs) where
  if_first : Can S (suc p) x (suc k) vars env xs
  if_first = record {
    fits = env_fits (If t x a b) x k (suc k) (λ ys m. m.1) (omega arith) env can.fits;
    room = room_part k (suc (kept x + kept a + kept b)) (suc k) (kept x) xs can.room (omega arith) (omega arith);
    runs = rw (← env_child 0 (If t x a b) x k (suc k) (λ ys. refl) env) (after_some _ _ can.runs);
  }

  -- the rest of the rule, once the condition is known
  if_on : Tree → Bool → Outcome
  if_on tx r =
      after (pick r (eval_of S (suc p + size x) a vars (child_env 1 (branch_env r (env_at (If t x a b) k env))))
      (eval_of S (suc p + size x + size a) b vars (child_env 1 (branch_env r (env_at (If t x a b) k env)))))
      (λ v ty. Some (v, Keep (Some (BoolValue r)) (Then tx (Then ty Done))))

  if_unfolds : (va : AnyValue) (ys : List SlotValue) → Did S (suc p) x (suc k) vars env xs va ys
      → eval_of S p (If t x a b) vars (env_at (If t x a b) k env) ≡ on_truth va (if_on (tree_at x (suc k) ys))
  unfolding if_on
  if_unfolds va ys did = rw (env_child 0 (If t x a b) x k (suc k) (λ zs. refl) env, did.gives) refl

  abbrev pub arm_place : Bool → ℕ
  arm_place r = pick r (suc p + size x) (suc p + size x + size a)

  pick_eval : (r : Bool) (e : Env) → pick r (eval_of S (suc p + size x) a vars e)
      (eval_of S (suc p + size x + size a) b vars e) ≡ eval_of S (arm_place r) (pick r a b) vars e
  pick_eval true e = refl
  pick_eval false e = refl

  if_on_is : (tx : Tree) (r : Bool) → if_on tx r
      ≡ after (eval_of S (arm_place r) (arm t x a b k r) vars
      (env_at (arm t x a b k r) (arm_slot t x a b k r) (flat_branch k r env)))
      (λ v ty. Some (v, Keep (Some (BoolValue r)) (Then tx (Then ty Done))))
  unfolding if_on
  if_on_is tx r =
      rw (pick_eval r (child_env 1 (branch_env r (env_at (If t x a b) k env))), env_branch t x a b k r env can.fits)
      refl

  if_tree : (r : Bool) (zs : List SlotValue) → tree_at (arm t x a b k r) (arm_slot t x a b k r) zs
      ≡ by_truth (BoolValue r) (tree_at a (suc k + kept x) zs) (tree_at b (suc k + kept x + kept a) zs)
  if_tree true zs = refl
  if_tree false zs = refl

  if_marked : (r : Bool) (zs : List SlotValue) → Marked (arm t x a b k r) (arm_slot t x a b k r) zs
      → ((j : ℕ) → suc k + kept x ≤ j → j < k + suc (kept x + kept a + kept b)
      → (j < arm_slot t x a b k r) ⊎ (arm_slot t x a b k r + kept (arm t x a b k r) ≤ j) → (slot_at j zs).0 ≡ false)
      → IfTruth (BoolValue r) (Marked a (suc k + kept x) zs × Clear (suc k + kept x + kept a) (kept b) zs)
      (Clear (suc k + kept x) (kept a) zs × Marked b (suc k + kept x + kept a) zs)
  if_marked true zs m h = (m, record { clear = λ j l u. h j (omega arith) (omega arith) (inr l) })
  if_marked false zs m h = (record { clear = λ j l u. h j l (omega arith) (inl u) }, m)

  module _ (r : Bool) (ys : List SlotValue) (did : Did S (suc p) x (suc k) vars env xs (ValueLocal (BoolValue r))
      ys) where
    if_gives : eval_of S p (If t x a b) vars (env_at (If t x a b) k env)
        ≡ after (eval_of S (arm_place r) (arm t x a b k r) vars
        (env_at (arm t x a b k r) (arm_slot t x a b k r) (flat_branch k r env)))
        (λ v ty. Some (v, Keep (Some (BoolValue r)) (Then (tree_at x (suc k) ys) (Then ty Done))))
    if_gives = if_unfolds (ValueLocal (BoolValue r)) ys did ∙ if_on_is (tree_at x (suc k) ys) r

    if_second : Can S (arm_place r) (arm t x a b k r) (arm_slot t x a b k r) vars (flat_branch k r env) ys
    if_second =
        let i = arm_inside t x a b k r in
        let l = arm_later t x a b k r in
        record {
          fits = env_fits_arm t x a b k r env can.fits;
          room =
              room_behind (suc k) (kept x) (arm_slot t x a b k r) (kept (arm t x a b k r)) xs ys did.out
              (room_part k (suc (kept x + kept a + kept b)) (arm_slot t x a b k r) (kept (arm t x a b k r)) xs can.room
              (omega (arith, l)) (omega (arith, i))) (omega (arith, l));
          runs = after_some _ _ (rw if_gives at can.runs);
        }

    if_did : (v : AnyValue) (zs : List SlotValue)
        → Did S (arm_place r) (arm t x a b k r) (arm_slot t x a b k r) vars (flat_branch k r env) ys v zs
        → (k < length zs) × Did S p (If t x a b) k vars env xs v (slice_set zs k (true, BoolValue r))
    if_did v zs did' =
        let final = slice_set zs k (true, BoolValue r) in
        let long = did.out.long in
        let long' = did'.out.long in
        let within = can.room.within in
        let inside = arm_inside t x a b k r in
        let low = arm_later t x a b k r in
        let in_range : k < length zs = omega (arith, long, long', within) in
        let here = slot_set_same k (true, BoolValue r) zs in_range in
        let other : (j : ℕ) → j ≢ k → slot_at j zs ≡ slot_at j final = λ j h. sym
        (slot_set_other j k (true, BoolValue r) zs h) in
        let same_x : SameIn (suc k) (kept x) ys final =
        record { same = λ j l u. did'.out.before j (omega arith) ∙ other j (omega arith) } in
        let same_arm : SameIn (arm_slot t x a b k r) (kept (arm t x a b k r)) zs final =
        record { same = λ j l u. other j (omega arith) } in
        let same_else : (j : ℕ) → suc k + kept x ≤ j → (j < arm_slot t x a b k r)
        ⊎ (arm_slot t x a b k r + kept (arm t x a b k r) ≤ j)
        → slot_at j xs ≡ slot_at j final = λ j l o. did.out.behind j l
        ∙ ⊎_elim (did'.out.before j) (did'.out.behind j) o ∙ other j (omega arith) in
        let tx = tree_same x (suc k) ys final same_x in
        let ty = tree_same (arm t x a b k r) (arm_slot t x a b k r) zs final same_arm in (
          in_range,
          record {
            gives = if_gives ∙ rw (did'.gives, here, tx, ty, if_tree r final) refl;
            marked = (
              ap (λ (z : SlotValue). z.0) here,
              marked_same x (suc k) ys final same_x did.marked,
              rw here (if_marked r final (marked_same (arm t x a b k r) (arm_slot t x a b k r) zs final same_arm
                  did'.marked) (λ j l u o. ap (λ (z : SlotValue). z.0) (sym (same_else j l o))
                  ∙ can.room.clear.clear j (omega arith) (omega arith))),
            );
            out = record {
              long = long ∙ long' ∙ sym (length-set zs k (true, BoolValue r));
              before = λ j l. did.out.before j (omega arith) ∙ did'.out.before j (omega arith) ∙ other j (omega arith);
              behind = λ j l. did.out.behind j (omega arith) ∙ did'.out.behind j (omega arith) ∙ other j (omega arith);
            };
            still =
                still_then xs zs final (still_then xs ys zs did.still did'.still)
                (still_set zs k (BoolValue r) in_range);
          },
        )

module _ {S : Situation} {ns : List Node} {lay : LayoutValue} {p : ℕ} {t : ValueType} {ks : List ℕ} {vars : Vars}
    {env : FlatEnv} {xs : List SlotValue} (here : ReadyAt S ns lay p OfIf t ks vars env xs) where
  pub if_kids : ThreeKids ns p (If t) ks
  if_kids = if_laid ns (formed_above ns here.ready.stands.formed) p t ks here.node here.ready.stands.laid

  abbrev X : Term
  X = term_at ns (get_or ks 0 0)

  abbrev A : Term
  A = term_at ns (get_or ks 1 0)

  abbrev B : Term
  B = term_at ns (get_or ks 2 0)

  abbrev K : ℕ
  K = kept_before ns p

  can_if : Can S p (If t X A B) K vars env xs
  can_if = let o = if_kids in subst (λ u. Can S p u K vars env xs) o.term here.ready.can

  slot_0 : suc K ≡ kept_before ns (get_or ks 0 0)
  slot_0 = let o = if_kids in let k = one_more ns p (get_or ks 0 0) _ _ _ here.node o.first_is in omega (arith, k)

  slot_1 : suc K + kept X ≡ kept_before ns (get_or ks 1 0)
  slot_1 =
      let o = if_kids in
      let k = slot_0 in
      let i = o.first_is in
      let j = o.second_is in
      let s = kept_size ns X (get_or ks 0 0) (get_or ks 1 0) o.first (omega (arith, i, j)) in
      omega (arith, k, s)

  slot_2 : suc K + kept X + kept A ≡ kept_before ns (get_or ks 2 0)
  slot_2 =
      let o = if_kids in
      let k = slot_1 in
      let i = o.second_is in
      let j = o.third_is in
      let s = kept_size ns A (get_or ks 1 0) (get_or ks 2 0) o.second (omega (arith, i, j)) in
      omega (arith, k, s)

  pub if_slot : number_in lay p ≡ Some K
  if_slot = slot_is ns lay p here.ready.stands OfIf t ks BoolType here.node refl

  slot_as : (k : ℕ) → number_in lay p ≡ Some k → k ≡ K
  slot_as k e = let f = if_slot in cc

  pub if_own : {k : ℕ} → number_in lay p ≡ Some k → OwnHas k env.own
  if_own {k} e =
      let can' = can_if in subst (λ j. OwnHas j env.own) (sym (slot_as k e))
      (own_has (If t X A B) K env.own (omega arith) can'.fits.own)

  pub if_near : {k : ℕ} → number_in lay p ≡ Some k → NearHave k env.near
  if_near {k} e =
      let can' = can_if in subst (λ j. NearHave j env.near) (sym (slot_as k e))
      (near_have (If t X A B) K env.near (omega arith) can'.fits.near)

  pub if_condition : {q : ℕ} → q ≡ get_or ks 0 q → (p < q) × (q < length ns) × Ready S ns lay q vars env xs
  if_condition {q} e =
      let o = if_kids in
      let l = o.long in
      let e' = kid_is ks 0 q e (omega (arith, l)) in
      let i = o.first_is in
      let s = stands_kid ns lay p (get_or ks 0 0) here.ready.stands o.first in
      let w = s.within in
      let d = can_all S _ _ _ _ _ _ vars env env xs (sym (e' ∙ i)) (ap (term_at ns) (sym e'))
      (slot_0 ∙ ap (kept_before ns) (sym e')) refl (if_first S p t X A B K vars env xs can_if) in
      (omega (arith, e', i), omega (arith, e', w), record { can = d; stands = subst (λ r. Stands ns lay r) (sym e') s })

  may_i : {D : Declarations} {scope : Scope} → MayAt D S ns scope p vars env
      → May D S scope p (If t X A B) (near_numbers env.near) vars (env_at (If t X A B) K env)
  may_i {D} {scope} may =
      let o = if_kids in subst (λ u. May D S scope p u (near_numbers env.near) vars (env_at u K env)) o.term may

  pub if_may_condition : {D : Declarations} {scope : Scope} → MayAt D S ns scope p vars env → {q : ℕ}
      → q ≡ get_or ks 0 q → MayAt D S ns scope q vars env
  if_may_condition {D} {scope} may {q} e =
      let o = if_kids in
      let l = o.long in
      let e' = kid_is ks 0 q e (omega (arith, l)) in
      let m = subst (λ n. May D S scope (suc p) X (near_numbers env.near) vars n)
      (env_child 0 (If t X A B) X K (suc K) (λ ys. refl) env) (may_if_condition (may_i may)) in
      may_at env (sym (e' ∙ o.first_is)) (ap (term_at ns) (sym e')) (slot_0 ∙ ap (kept_before ns) (sym e')) m

  typed_if : {D : Declarations} {scope : Scope} → MayAt D S ns scope p vars env → HasType D scope p (If t X A B)
  typed_if {D} {scope} may = let o = if_kids in subst (HasType D scope p) o.term may.typed

  pub if_condition_type : {D : Declarations} {scope : Scope} → MayAt D S ns scope p vars env → {q : ℕ}
      → q ≡ get_or ks 0 q → term_type (term_at ns q) ≡ TypeLocal BoolType
  if_condition_type may {q} e =
      let o = if_kids in
      let l = o.long in
      let e' = kid_is ks 0 q e (omega (arith, l)) in
      let typed = typed_if may in
      ap (λ k. term_type (term_at ns k)) e' ∙ typed.2

  arm_type : {u : LocalType} (r : Bool) → term_type A ≡ TypeLocal u → term_type B ≡ TypeLocal u
      → term_type (term_at ns (get_or ks (pick r 1 2) 0)) ≡ TypeLocal u
  arm_type true a b = a
  arm_type false a b = b

  pub if_types : {D : Declarations} {scope : Scope} → MayAt D S ns scope p vars env → (r : Bool) {q : ℕ}
      → q ≡ get_or ks (pick r 1 2) 0 → (t ≡ TypeLocal (inner t)) × (term_type (term_at ns q) ≡ TypeLocal (inner t))
  if_types may r {q} e =
      let typed = typed_if may in
      let same = ap TypeLocal (sym (ap inner typed.1)) in
      (typed.1 ∙ same, ap (λ k. term_type (term_at ns k)) e ∙ arm_type r typed.3 typed.4 ∙ same)

  -- the branch
  arm_at : (r : Bool) → (arm_place S p t X A B K vars env xs can_if r ≡ get_or ks (pick r 1 2) 0)
      × (arm_slot t X A B K r ≡ kept_before ns (get_or ks (pick r 1 2) 0))
      × (arm t X A B K r ≡ term_at ns (get_or ks (pick r 1 2) 0))
      × Laid ns (get_or ks (pick r 1 2) 0) (term_at ns (get_or ks (pick r 1 2) 0)) × (p < get_or ks (pick r 1 2) 0)
  arm_at true = let o = if_kids in let i = o.second_is in (sym o.second_is, slot_1, refl, o.second, omega (arith, i))
  arm_at false = let o = if_kids in let i = o.third_is in (sym o.third_is, slot_2, refl, o.third, omega (arith, i))

  module _ {q : ℕ} (e : q ≡ get_or ks 0 q) {va : AnyValue} {ys : List SlotValue}
      (did : DidAt S ns q vars env xs va ys) where
    did_x : Did S (suc p) X (suc K) vars env xs va ys
    did_x =
        let o = if_kids in
        let l = o.long in
        let e' = kid_is ks 0 q e (omega (arith, l)) in
        did_all S _ _ _ _ _ _ vars env env xs ys va (e' ∙ o.first_is) (ap (term_at ns) e')
        (ap (kept_before ns) e' ∙ sym slot_0) refl did

    module _ {k : ℕ} (number : number_in lay p ≡ Some k) {r : Bool} (is : va ≡ ValueLocal (BoolValue r))
        {env' : FlatEnv} (from : env' ≡ flat_branch k r env) {q' : ℕ} (e' : q' ≡ get_or ks (pick r 1 2) 0) where
      did_r : Did S (suc p) X (suc K) vars env xs (ValueLocal (BoolValue r)) ys
      did_r = subst (λ u. Did S (suc p) X (suc K) vars env xs u ys) is did_x

      branch_is : flat_branch K r env ≡ env'
      branch_is = sym (from ∙ ap (λ (j : ℕ). flat_branch j r env) (slot_as k number))

      pub if_branch : (p < q') × (q' < length ns) × Ready S ns lay q' vars env' ys
      if_branch =
          let m = arm_at r in
          let d : Can S (arm_place S p t X A B K vars env xs can_if r) (arm t X A B K r) (arm_slot t X A B K r) vars
          (flat_branch K r env) ys = if_second S p t X A B K vars env xs can_if r ys did_r in
          let d' : CanAt S ns (get_or ks (pick r 1 2) 0) vars env' ys = can_all S _ _ _ _ _ _ vars _ _ ys m.0 m.2 m.1
          branch_is d in
          let s = stands_kid ns lay p (get_or ks (pick r 1 2) 0) here.ready.stands m.3 in
          let w = s.within in
          let o = m.4 in
          (rw e' o, rw e' w, record { can = rw e' d'; stands = rw e' s })

      pub if_may_branch : {D : Declarations} {scope : Scope} → MayAt D S ns scope p vars env
          → MayAt D S ns scope q' vars env'
      if_may_branch {D} {scope} may =
          let a = arm_at r in
          let can' = can_if in
          let i = may_i may in
          let ds = those_taking S.ceiling S.device (near_numbers env.near) (env_at (If t X A B) K env) t X A B i.env
          r in
          let there : May D S scope (arm_place S p t X A B K vars env xs can_if r) (arm t X A B K r) ds vars
          (env_at (arm t X A B K r) (arm_slot t X A B K r) env') =
          subst (λ n. May D S scope (arm_place S p t X A B K vars env xs can_if r) (arm t X A B K r) ds vars
          (env_at (arm t X A B K r) (arm_slot t X A B K r) n)) branch_is
          (subst (λ n. May D S scope (arm_place S p t X A B K vars env xs can_if r) (arm t X A B K r) ds vars n)
          (env_branch t X A B K r env can'.fits) (may_if_branch i r)) in
          may_at env' (a.0 ∙ sym e') (a.2 ∙ ap (term_at ns) (sym e')) (a.1 ∙ ap (kept_before ns) (sym e'))
          (may_near (arm_slot t X A B K r) env' there)

      pub if_done : {vb : AnyValue} {zs final : List SlotValue} → DidAt S ns q' vars env' ys vb zs
          → final ≡ slice_set zs k (true, BoolValue r) → (k < length zs) × DidAt S ns p vars env xs vb final
      if_done {vb} {zs} {final} did' g =
          let m = arm_at r in
          let o = if_kids in
          let s = slot_as k number in
          let d : Did S (arm_place S p t X A B K vars env xs can_if r) (arm t X A B K r) (arm_slot t X A B K r) vars
          (flat_branch K r env) ys vb zs = did_all S _ _ _ _ _ _ vars _ _ ys zs vb (e' ∙ sym m.0)
          (ap (term_at ns) e' ∙ sym m.2) (ap (kept_before ns) e' ∙ sym m.1) (sym branch_is) did' in
          let all = if_did S p t X A B K vars env xs can_if r ys did_r vb zs d in
          let w = all.0 in
          (omega (arith, s, w), rw (g, s, o.term) all.1)
