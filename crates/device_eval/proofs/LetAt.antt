-- A `let` at a place of a program.
use Rattle.std.proofs.Common.{◌≡◌, ℕ, suc, ◌<◌, ◌+◌, List, ◌∷◌, length, refl, sym, ◌∙◌, ap, subst, arith, Some, None}
use Rattle.std.proofs.Common.{get_or}
use Rattle.fc_values.specs.Types.{ValueType, Declarations}
use Rattle.fc_values.specs.Fields.{AnyValue}
use Rattle.fc_values.specs.Trees.{Keep, Done, Then}
use Rattle.fc_values.specs.Exports.{SlotValue}
use Rattle.fc_nodes.specs.declared.nodes.Node.{Node}
use Rattle.fc_nodes.specs.Typing.{Scope, HasType}
use Rattle.fc_nodes.specs.Terms.{term_type, Term, Let, OfLet, kept, kept_before, size, term_at}
use Rattle.fc_nodes.specs.Flat.{tree_at}
use Rattle.fc_nodes.proofs.Places.{formed_above}
use Rattle.fc_nodes.proofs.Kids.{TwoKids, let_laid}
use Rattle.fc_nodes.proofs.Kept.{one_more, kept_size}
use Rattle.alignment.specs.Scopes.{Vars}
use Rattle.device_eval.specs.Evaluation.{Situation, eval_of, after}
use Rattle.fc_nodes.specs.Layouts.{LayoutValue}
use Rattle.alignment.specs.Environments.{near_numbers}
use Rattle.alignment.specs.Slots.{FlatEnv}
use Rattle.device_eval.specs.Environments.{env_at}
use Rattle.device_eval.specs.Walks.{SameIn, Can, Did, DidAt, Stands, Ready, ReadyAt}
use Rattle.device_eval.specs.Places.{May, MayAt}
use Rattle.device_eval.proofs.MaySteps.{may_let_value, may_let_body, may_at}
use Rattle.device_eval.proofs.Frames.{tree_same, marked_same, env_child, env_fits, room_part, room_behind, still_then}
use Rattle.device_eval.proofs.Steps.{after_some, can_all, did_all, kid_is, stands_kid}

module _ (S : Situation) (p : ℕ) (t : ValueType) (a b : Term) (k : ℕ) (vars : Vars) (env : FlatEnv)
    (xs : List SlotValue) (can : Can S p (Let t a b) k vars env xs) where
  let_first : Can S (suc p) a k vars env xs
  let_first = record {
    fits = env_fits (Let t a b) a k k (λ ys m. m.0) (omega arith) env can.fits;
    room = room_part k (kept a + kept b) k (kept a) xs can.room (omega arith) (omega arith);
    runs = rw (← env_child 0 (Let t a b) a k k (λ ys. refl) env) (after_some _ _ can.runs);
  }

  module _ (va : AnyValue) (ys : List SlotValue) (did : Did S (suc p) a k vars env xs va ys) where
    let_gives : eval_of S p (Let t a b) vars (env_at (Let t a b) k env)
        ≡ after (eval_of S (suc p + size a) b ((p, va) ∷ vars) (env_at b (k + kept a) env))
        (λ v tb. Some (v, Keep None (Then (tree_at a k ys) (Then tb Done))))
    let_gives =
        rw (
          env_child 0 (Let t a b) a k k (λ zs. refl) env,
          did.gives,
          env_child 1 (Let t a b) b k (k + kept a) (λ zs. refl) env,
        ) refl

    let_second : Can S (suc p + size a) b (k + kept a) ((p, va) ∷ vars) env ys
    let_second = record {
      fits = env_fits (Let t a b) b k (k + kept a) (λ zs m. m.1) (omega arith) env can.fits;
      room =
          room_behind k (kept a) (k + kept a) (kept b) xs ys did.out
          (room_part k (kept a + kept b) (k + kept a) (kept b) xs can.room (omega arith) (omega arith)) (omega arith);
      runs = after_some _ _ (rw let_gives at can.runs);
    }

    let_did : (vb : AnyValue) (zs : List SlotValue)
        → Did S (suc p + size a) b (k + kept a) ((p, va) ∷ vars) env ys vb zs → Did S p (Let t a b) k vars env xs vb zs
    let_did vb zs did' =
        let same_a : SameIn k (kept a) ys zs = record { same = λ j l u. did'.out.before j u } in
        let ta = tree_same a k ys zs same_a in
        let g = did'.gives in
        record {
          gives = let_gives ∙ rw (g, ta) refl;
          marked = (marked_same a k ys zs same_a did.marked, did'.marked);
          out = record {
            long = did.out.long ∙ did'.out.long;
            before = λ j l. did.out.before j l ∙ did'.out.before j (omega arith);
            behind = λ j l. did.out.behind j (omega arith) ∙ did'.out.behind j (omega arith);
          };
          still = still_then xs ys zs did.still did'.still;
        }

module _ {S : Situation} {ns : List Node} {lay : LayoutValue} {p : ℕ} {t : ValueType} {ks : List ℕ} {vars : Vars}
    {env : FlatEnv} {xs : List SlotValue} (here : ReadyAt S ns lay p OfLet t ks vars env xs) where
  pub let_kids : TwoKids ns p (Let t) ks
  let_kids = let_laid ns (formed_above ns here.ready.stands.formed) p t ks here.node here.ready.stands.laid

  abbrev A : Term
  A = term_at ns (get_or ks 0 0)

  abbrev B : Term
  B = term_at ns (get_or ks 1 0)

  abbrev K : ℕ
  K = kept_before ns p

  can_l : Can S p (Let t A B) K vars env xs
  can_l = let o = let_kids in subst (λ u. Can S p u K vars env xs) o.term here.ready.can

  slot_0 : K ≡ kept_before ns (get_or ks 0 0)
  slot_0 = let o = let_kids in let k = one_more ns p (get_or ks 0 0) _ _ _ here.node o.first_is in omega (arith, k)

  slot_1 : K + kept A ≡ kept_before ns (get_or ks 1 0)
  slot_1 =
      let o = let_kids in
      let k = slot_0 in
      let i = o.first_is in
      let j = o.second_is in
      let s = kept_size ns A (get_or ks 0 0) (get_or ks 1 0) o.first (omega (arith, i, j)) in
      omega (arith, k, s)

  pub let_value : {q : ℕ} → q ≡ get_or ks 0 q → (p < q) × (q < length ns) × Ready S ns lay q vars env xs
  let_value {q} e =
      let o = let_kids in
      let l = o.long in
      let e' = kid_is ks 0 q e (omega (arith, l)) in
      let i = o.first_is in
      let s = stands_kid ns lay p (get_or ks 0 0) here.ready.stands o.first in
      let w = s.within in
      let d = can_all S _ _ _ _ _ _ vars env env xs (sym (e' ∙ i)) (ap (term_at ns) (sym e'))
      (slot_0 ∙ ap (kept_before ns) (sym e')) refl (let_first S p t A B K vars env xs can_l) in
      (omega (arith, e', i), omega (arith, e', w), record { can = d; stands = subst (λ r. Stands ns lay r) (sym e') s })

  module _ {q : ℕ} (e : q ≡ get_or ks 0 q) {va : AnyValue} {ys : List SlotValue}
      (did : DidAt S ns q vars env xs va ys) where
    did_a : Did S (suc p) A K vars env xs va ys
    did_a =
        let o = let_kids in
        let l = o.long in
        let e' = kid_is ks 0 q e (omega (arith, l)) in
        did_all S _ _ _ _ _ _ vars env env xs ys va (e' ∙ o.first_is) (ap (term_at ns) e')
        (ap (kept_before ns) e' ∙ sym slot_0) refl did

    pub let_body : {q' : ℕ} → q' ≡ get_or ks 1 q'
        → (p < q') × (q' < length ns) × Ready S ns lay q' ((p, va) ∷ vars) env ys
    let_body {q'} f =
        let o = let_kids in
        let l = o.long in
        let f' = kid_is ks 1 q' f (omega (arith, l)) in
        let i = o.second_is in
        let s = stands_kid ns lay p (get_or ks 1 0) here.ready.stands o.second in
        let w = s.within in
        let d = can_all S _ _ _ _ _ _ ((p, va) ∷ vars) env env ys (sym (f' ∙ i)) (ap (term_at ns) (sym f'))
        (slot_1 ∙ ap (kept_before ns) (sym f')) refl (let_second S p t A B K vars env xs can_l va ys did_a) in (
          omega (arith, f', i),
          omega (arith, f', w),
          record
              { can = d; stands = subst (λ r. Stands ns lay r) (sym f') s },
        )

    pub let_done : {q' : ℕ} → q' ≡ get_or ks 1 q' → {vb : AnyValue} {zs : List SlotValue}
        → DidAt S ns q' ((p, va) ∷ vars) env ys vb zs → DidAt S ns p vars env xs vb zs
    let_done {q'} f {vb} {zs} did' =
        let o = let_kids in
        let l = o.long in
        let f' = kid_is ks 1 q' f (omega (arith, l)) in
        let d = did_all S _ _ _ _ _ _ ((p, va) ∷ vars) env env ys zs vb (f' ∙ o.second_is) (ap (term_at ns) f')
        (ap (kept_before ns) f' ∙ sym slot_1) refl did' in
        did_all S p p _ _ K K vars env env xs zs vb refl (sym o.term) refl refl
        (let_did S p t A B K vars env xs can_l va ys did_a vb zs d)

  module _ {D : Declarations} {scope : Scope} (may : MayAt D S ns scope p vars env) where
    may_l : May D S scope p (Let t A B) (near_numbers env.near) vars (env_at (Let t A B) K env)
    may_l = let o = let_kids in subst (λ u. May D S scope p u (near_numbers env.near) vars (env_at u K env)) o.term may

    pub let_may_value : {q : ℕ} → q ≡ get_or ks 0 q → MayAt D S ns scope q vars env
    let_may_value {q} e =
        let o = let_kids in
        let l = o.long in
        let e' = kid_is ks 0 q e (omega (arith, l)) in
        let m = subst (λ n. May D S scope (suc p) A (near_numbers env.near) vars n)
        (env_child 0 (Let t A B) A K K (λ ys. refl) env) (may_let_value may_l) in
        may_at env (sym (e' ∙ o.first_is)) (ap (term_at ns) (sym e')) (slot_0 ∙ ap (kept_before ns) (sym e')) m

    pub let_may_body : {q : ℕ} (e : q ≡ get_or ks 0 q) {va : AnyValue} {ys : List SlotValue}
        → DidAt S ns q vars env xs va ys → {q' : ℕ} → q' ≡ get_or ks 1 q'
        → MayAt D S ns ((p, term_type (term_at ns q)) ∷ scope) q' ((p, va) ∷ vars) env
    let_may_body {q} e {va} {ys} did {q'} f =
        let o = let_kids in
        let l = o.long in
        let e' = kid_is ks 0 q e (omega (arith, l)) in
        let f' = kid_is ks 1 q' f (omega (arith, l)) in
        let d = did_a e did in
        let b = may_let_body may_l (ap (eval_of S (suc p) A vars) (env_child 0 (Let t A B) A K K (λ zs. refl) env)
        ∙ d.gives) in
        let m = subst (λ n. May D S ((p, term_type A) ∷ scope) (suc p + size A) B (near_numbers env.near) ((p, va) ∷ vars)
        n) (env_child 1 (Let t A B) B K (K + kept A) (λ zs. refl) env) b in
        subst (λ u. MayAt D S ns ((p, term_type u) ∷ scope) q' ((p, va) ∷ vars) env) (ap (term_at ns) (sym e'))
        (may_at env (sym (f' ∙ o.second_is)) (ap (term_at ns) (sym f')) (slot_1 ∙ ap (kept_before ns) (sym f')) m)

    pub let_type : {q : ℕ} → q ≡ get_or ks 1 q → t ≡ term_type (term_at ns q)
    let_type {q} f =
        let o = let_kids in
        let l = o.long in
        let f' = kid_is ks 1 q f (omega (arith, l)) in
        let typed : HasType D scope p (Let t A B) = subst (HasType D scope p) o.term may.typed in
        typed.0 ∙ ap (λ k. term_type (term_at ns k)) (sym f')
