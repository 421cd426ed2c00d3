-- A `rep` or `share` at a place of a program.
use Rattle.std.proofs.Common.{◌≡◌, ◌≢◌, ℕ, suc, ◌<◌, ◌+◌, List, [], ◌∷◌, length, map, refl, sym, ◌∙◌, ap, subst, arith}
use Rattle.std.proofs.Common.{true, Option, Some, None, get_or, length-set}
use Rattle.std.specs.Prelude.{slice_set, option_map}
use Rattle.fc_values.specs.Types.{ValueType, TypeLocal, Declarations}
use Rattle.fc_values.specs.BuiltinTypes.{inner}
use Rattle.fc_values.specs.Values.{LocalValue}
use Rattle.fc_values.specs.Fields.{AnyValue, ValueLocal, ValueField, with_entry}
use Rattle.fc_values.specs.Trees.{Tree, Keep, Done, Then}
use Rattle.fc_values.specs.Exports.{SlotValue, slot_at}
use Rattle.fc_nodes.specs.declared.nodes.Node.{Node}
use Rattle.fc_nodes.specs.Typing.{Scope, HasType, evolving_type}
use Rattle.fc_nodes.specs.Terms.{term_type, Evolution, ByRep, ByShare, Term, Evolve, OfEvolve, kept, kept_before, size}
use Rattle.fc_nodes.specs.Terms.{term_at}
use Rattle.fc_nodes.specs.Flat.{tree_at}
use Rattle.fc_nodes.proofs.Places.{formed_above}
use Rattle.fc_nodes.proofs.Kids.{TwoKids, evolve_laid}
use Rattle.fc_nodes.proofs.Kept.{one_more, kept_size}
use Rattle.device_eval.specs.Neighbours.{kept_there}
use Rattle.alignment.specs.Scopes.{Vars}
use Rattle.device_eval.specs.Evaluation.{Situation, Outcome, own_or, heard, evolving, eval_of, after, on_local}
use Rattle.device_eval.specs.Evaluation.{on_some}
use Rattle.fc_nodes.specs.Layouts.{LayoutValue, number_in}
use Rattle.alignment.specs.Environments.{near_numbers}
use Rattle.alignment.specs.Slots.{FlatEnv, NearSlots, OwnHas, NearHave}
use Rattle.device_eval.specs.Environments.{env_at, near_at}
use Rattle.alignment.specs.Hearing.{slot_entries, own_slot_or}
use Rattle.device_eval.specs.Starts.{started}
use Rattle.device_eval.specs.Walks.{SameIn, Can, Did, DidAt, Stands, Ready, ReadyAt}
use Rattle.fc_values.proofs.SlotReads.{slot_set_same, slot_set_other}
use Rattle.device_eval.specs.Places.{May, MayAt}
use Rattle.device_eval.proofs.MaySteps.{may_evolve_first, may_evolve_body, may_at}
use Rattle.device_eval.proofs.Frames.{tree_same, marked_same, env_child, env_fits, room_part, room_behind, still_then}
use Rattle.device_eval.proofs.Frames.{still_set}
use Rattle.device_eval.proofs.Steps.{after_some, can_all, did_all, kid_is, stands_kid, slot_is, own_has}
use Rattle.device_eval.proofs.Steps.{near_have}

-- what the variable starts from
module _ (t : ValueType) (v : Evolution) (a b : Term) (k : ℕ) where
  pub own_starts : (first : LocalValue) (o : Option (List SlotValue))
      → own_or (option_map (tree_at (Evolve t v a b) k) o) first ≡ Some (own_slot_or k first o)
  unfolding slot_at
  own_starts first None = refl
  own_starts first (Some xs) = refl

  near_starts : (ns : List NearSlots) → kept_there (map (near_at (Evolve t v a b) k) ns) ≡ Some (slot_entries k ns)
  unfolding slot_at
  near_starts [] = refl
  near_starts (n ∷ ns) = let ih = near_starts ns in rw ih refl

  starts_by : (e : Evolution) (device : ℕ) (env : FlatEnv) (first : LocalValue)
      → evolving e device (env_at (Evolve t v a b) k env) first ≡ Some (started e device env k first)
  starts_by ByRep device env first = let o = own_starts first env.own in rw o refl
  starts_by ByShare device env first =
      let o = own_starts first env.own in let n = near_starts env.near in rw (o, n) refl

-- the variable of a `share`, out of slots and out of trees
pub share_heard : (t : ValueType) (a b : Term) (k : ℕ) (env : FlatEnv) (device : ℕ) (first : LocalValue)
    → heard device (own_or (env_at (Evolve t ByShare a b) k env).own first)
    (kept_there (env_at (Evolve t ByShare a b) k env).near)
    ≡ Some (ValueField (with_entry device (own_slot_or k first env.own) (slot_entries k env.near)))
share_heard t a b k env device first = starts_by t ByShare a b k ByShare device env first

module _ (S : Situation) (p : ℕ) (t : ValueType) (v : Evolution) (a b : Term) (k : ℕ) (vars : Vars) (env : FlatEnv)
    (xs : List SlotValue) (can : Can S p (Evolve t v a b) k vars env xs) where
  evolve_first : Can S (suc p) a (suc k) vars env xs
  evolve_first = record {
    fits = env_fits (Evolve t v a b) a k (suc k) (λ ys m. m.1) (omega arith) env can.fits;
    room = room_part k (suc (kept a + kept b)) (suc k) (kept a) xs can.room (omega arith) (omega arith);
    runs = rw (← env_child 0 (Evolve t v a b) a k (suc k) (λ ys. refl) env) (after_some _ _ can.runs);
  }

  -- the rest of the rule, once the first value is known
  evolve_on : Tree → LocalValue → Outcome
  evolve_on ta first =
      after (eval_of S (suc p + size a) b ((p, started v S.device env k first) ∷ vars) (env_at b (suc k + kept a) env))
      (λ s tb.
      on_local s (λ w. Some (ValueLocal w, Keep (Some w) (Then ta (Then tb Done)))))

  module _ (va : AnyValue) (ys : List SlotValue) (did : Did S (suc p) a (suc k) vars env xs va ys) where
    evolve_unfolds : eval_of S p (Evolve t v a b) vars (env_at (Evolve t v a b) k env)
        ≡ on_local va (λ first. on_some (evolving v S.device (env_at (Evolve t v a b) k env) first) (λ x.
        after (eval_of S (suc p + size a) b ((p, x) ∷ vars) (env_at b (suc k + kept a) env)) (λ s tb.
        on_local s (λ w. Some (ValueLocal w, Keep (Some w) (Then (tree_at a (suc k) ys) (Then tb Done)))))))
    evolve_unfolds =
        rw (
          env_child 0 (Evolve t v a b) a k (suc k) (λ zs. refl) env,
          did.gives,
          env_child 1 (Evolve t v a b) b k (suc k + kept a) (λ zs. refl) env,
        ) refl

  module _ (first : LocalValue) (ys : List SlotValue)
      (did : Did S (suc p) a (suc k) vars env xs (ValueLocal first) ys) where
    evolve_gives : eval_of S p (Evolve t v a b) vars (env_at (Evolve t v a b) k env)
        ≡ evolve_on (tree_at a (suc k) ys) first
    unfolding evolve_on
    evolve_gives = evolve_unfolds (ValueLocal first) ys did ∙ rw (starts_by t v a b k v S.device env first) refl

    evolve_second : Can S (suc p + size a) b (suc k + kept a) ((p, started v S.device env k first) ∷ vars) env ys
    unfolding evolve_on
    evolve_second = record {
      fits = env_fits (Evolve t v a b) b k (suc k + kept a) (λ zs m. m.2) (omega arith) env can.fits;
      room =
          room_behind (suc k) (kept a) (suc k + kept a) (kept b) xs ys did.out
          (room_part k (suc (kept a + kept b)) (suc k + kept a) (kept b) xs can.room (omega arith) (omega arith))
          (omega arith);
      runs = after_some _ _ (rw evolve_gives at can.runs);
    }

    module _ (vb : AnyValue) (zs : List SlotValue)
        (did' : Did S (suc p + size a) b (suc k + kept a) ((p, started v S.device env k first) ∷ vars) env ys vb
        zs) where
      evolve_ends : eval_of S p (Evolve t v a b) vars (env_at (Evolve t v a b) k env)
          ≡ on_local vb (λ w. Some (
            ValueLocal w,
            Keep (Some w)
                (Then (tree_at a (suc k) ys) (Then (tree_at b (suc k + kept a) zs) Done)),
          ))
      unfolding evolve_on
      evolve_ends = let g = did'.gives in evolve_gives ∙ rw g refl

    evolve_did : (w : LocalValue) (zs : List SlotValue)
        → Did S (suc p + size a) b (suc k + kept a) ((p, started v S.device env k first) ∷ vars) env ys (ValueLocal w)
        zs
        → (k < length zs) × Did S p (Evolve t v a b) k vars env xs (ValueLocal w) (slice_set zs k (true, w))
    evolve_did w zs did' =
        let final = slice_set zs k (true, w) in
        let long = did.out.long in
        let long' = did'.out.long in
        let within = can.room.within in
        let in_range : k < length zs = omega (arith, long, long', within) in
        let here = slot_set_same k (true, w) zs in_range in
        let other : (j : ℕ) → j ≢ k → slot_at j zs ≡ slot_at j final = λ j n. sym (slot_set_other j k (true, w) zs n) in
        let same_a : SameIn (suc k) (kept a) ys final =
        record { same = λ j l u. did'.out.before j (omega arith) ∙ other j (omega arith) } in
        let same_b : SameIn (suc k + kept a) (kept b) zs final = record { same = λ j l u. other j (omega arith) } in
        let ta = tree_same a (suc k) ys final same_a in
        let tb = tree_same b (suc k + kept a) zs final same_b in (
          in_range,
          record {
            gives = evolve_ends (ValueLocal w) zs did' ∙ rw (here, ta, tb) refl;
            marked = (
              ap (λ (z : SlotValue). z.0) here,
              marked_same a (suc k) ys final same_a did.marked,
              marked_same b (suc k + kept a) zs final same_b did'.marked,
            );
            out = record {
              long = long ∙ long' ∙ sym (length-set zs k (true, w));
              before = λ j l. did.out.before j (omega arith) ∙ did'.out.before j (omega arith) ∙ other j (omega arith);
              behind = λ j l. did.out.behind j (omega arith) ∙ did'.out.behind j (omega arith) ∙ other j (omega arith);
            };
            still = still_then xs zs final (still_then xs ys zs did.still did'.still) (still_set zs k w in_range);
          },
        )

module _ {S : Situation} {ns : List Node} {lay : LayoutValue} {p : ℕ} {v : Evolution} {t : ValueType} {ks : List ℕ}
    {vars : Vars} {env : FlatEnv} {xs : List SlotValue} (here : ReadyAt S ns lay p (OfEvolve v) t ks vars env xs) where
  pub evolve_kids : TwoKids ns p (Evolve t v) ks
  evolve_kids = evolve_laid ns (formed_above ns here.ready.stands.formed) p v t ks here.node here.ready.stands.laid

  abbrev A : Term
  A = term_at ns (get_or ks 0 0)

  abbrev B : Term
  B = term_at ns (get_or ks 1 0)

  abbrev K : ℕ
  K = kept_before ns p

  can_e : Can S p (Evolve t v A B) K vars env xs
  can_e = let o = evolve_kids in subst (λ u. Can S p u K vars env xs) o.term here.ready.can

  slot_0 : suc K ≡ kept_before ns (get_or ks 0 0)
  slot_0 = let o = evolve_kids in let k = one_more ns p (get_or ks 0 0) _ _ _ here.node o.first_is in omega (arith, k)

  slot_1 : suc K + kept A ≡ kept_before ns (get_or ks 1 0)
  slot_1 =
      let o = evolve_kids in
      let k = slot_0 in
      let i = o.first_is in
      let j = o.second_is in
      let s = kept_size ns A (get_or ks 0 0) (get_or ks 1 0) o.first (omega (arith, i, j)) in
      omega (arith, k, s)

  pub evolve_slot : number_in lay p ≡ Some K
  evolve_slot = slot_is ns lay p here.ready.stands (OfEvolve v) t ks (inner t) here.node refl

  slot_as : (k : ℕ) → number_in lay p ≡ Some k → k ≡ K
  slot_as k e = let f = evolve_slot in cc

  pub evolve_own : {k : ℕ} → number_in lay p ≡ Some k → OwnHas k env.own
  evolve_own {k} e =
      let can' = can_e in subst (λ j. OwnHas j env.own) (sym (slot_as k e))
      (own_has (Evolve t v A B) K env.own (omega arith) can'.fits.own)

  pub evolve_near : {k : ℕ} → number_in lay p ≡ Some k → NearHave k env.near
  evolve_near {k} e =
      let can' = can_e in subst (λ j. NearHave j env.near) (sym (slot_as k e))
      (near_have (Evolve t v A B) K env.near (omega arith) can'.fits.near)

  pub evolve_a : {q : ℕ} → q ≡ get_or ks 0 q → (p < q) × (q < length ns) × Ready S ns lay q vars env xs
  evolve_a {q} e =
      let o = evolve_kids in
      let l = o.long in
      let e' = kid_is ks 0 q e (omega (arith, l)) in
      let i = o.first_is in
      let s = stands_kid ns lay p (get_or ks 0 0) here.ready.stands o.first in
      let w = s.within in
      let d = can_all S _ _ _ _ _ _ vars env env xs (sym (e' ∙ i)) (ap (term_at ns) (sym e'))
      (slot_0 ∙ ap (kept_before ns) (sym e')) refl (evolve_first S p t v A B K vars env xs can_e) in
      (omega (arith, e', i), omega (arith, e', w), record { can = d; stands = subst (λ r. Stands ns lay r) (sym e') s })

  may_e : {D : Declarations} {scope : Scope} → MayAt D S ns scope p vars env
      → May D S scope p (Evolve t v A B) (near_numbers env.near) vars (env_at (Evolve t v A B) K env)
  may_e {D} {scope} may =
      let o = evolve_kids in subst (λ u. May D S scope p u (near_numbers env.near) vars (env_at u K env)) o.term may

  pub evolve_may_first : {D : Declarations} {scope : Scope} → MayAt D S ns scope p vars env → {q : ℕ}
      → q ≡ get_or ks 0 q → MayAt D S ns scope q vars env
  evolve_may_first {D} {scope} may {q} e =
      let o = evolve_kids in
      let l = o.long in
      let e' = kid_is ks 0 q e (omega (arith, l)) in
      let m = subst (λ n. May D S scope (suc p) A (near_numbers env.near) vars n)
      (env_child 0 (Evolve t v A B) A K (suc K) (λ ys. refl) env) (may_evolve_first (may_e may)) in
      may_at env (sym (e' ∙ o.first_is)) (ap (term_at ns) (sym e')) (slot_0 ∙ ap (kept_before ns) (sym e')) m

  pub evolve_types : {D : Declarations} {scope : Scope} → MayAt D S ns scope p vars env → {q q' : ℕ} → q ≡ get_or ks 0 q
      → q' ≡ get_or ks 1 q'
      → (t ≡ TypeLocal (inner t)) × (term_type (term_at ns q) ≡ TypeLocal (inner t))
      × (term_type (term_at ns q') ≡ TypeLocal (inner t))
  evolve_types {D} {scope} may {q} {q'} e f =
      let o = evolve_kids in
      let l = o.long in
      let e' = kid_is ks 0 q e (omega (arith, l)) in
      let f' = kid_is ks 1 q' f (omega (arith, l)) in
      let typed : HasType D scope p (Evolve t v A B) = subst (HasType D scope p) o.term may.typed in
      let same = ap TypeLocal (sym (ap inner typed.1)) in (
        typed.1 ∙ same,
        ap (λ k. term_type (term_at ns k)) e' ∙ typed.2 ∙ same,
        ap (λ k. term_type (term_at ns k)) f'
            ∙ typed.3 ∙ same,
      )

  module _ {q : ℕ} (e : q ≡ get_or ks 0 q) {va : AnyValue} {ys : List SlotValue}
      (did : DidAt S ns q vars env xs va ys) where
    did_a : Did S (suc p) A (suc K) vars env xs va ys
    did_a =
        let o = evolve_kids in
        let l = o.long in
        let e' = kid_is ks 0 q e (omega (arith, l)) in
        did_all S _ _ _ _ _ _ vars env env xs ys va (e' ∙ o.first_is) (ap (term_at ns) e')
        (ap (kept_before ns) e' ∙ sym slot_0) refl did

    module _ {k : ℕ} (number : number_in lay p ≡ Some k) {first : LocalValue} (is : va ≡ ValueLocal first)
        {x : AnyValue} (from : x ≡ started v S.device env k first) where
      did_f : Did S (suc p) A (suc K) vars env xs (ValueLocal first) ys
      did_f = subst (λ u. Did S (suc p) A (suc K) vars env xs u ys) is did_a

      from_k : x ≡ started v S.device env K first
      from_k = from ∙ ap (λ (j : ℕ). started v S.device env j first) (slot_as k number)

      pub evolve_b : {q' : ℕ} → q' ≡ get_or ks 1 q'
          → (p < q') × (q' < length ns) × Ready S ns lay q' ((p, x) ∷ vars) env ys
      evolve_b {q'} f =
          let o = evolve_kids in
          let l = o.long in
          let f' = kid_is ks 1 q' f (omega (arith, l)) in
          let i = o.second_is in
          let s = stands_kid ns lay p (get_or ks 1 0) here.ready.stands o.second in
          let w = s.within in
          let c : Can S (suc p + size A) B (suc K + kept A) ((p, x) ∷ vars) env ys = subst
          (λ u. Can S (suc p + size A) B (suc K + kept A) ((p, u) ∷ vars) env ys) (sym from_k)
          (evolve_second S p t v A B K vars env xs can_e first ys did_f) in
          let d = can_all S _ _ _ _ _ _ ((p, x) ∷ vars) env env ys (sym (f' ∙ i)) (ap (term_at ns) (sym f'))
          (slot_1 ∙ ap (kept_before ns) (sym f')) refl c in (
            omega (arith, f', i),
            omega (arith, f', w),
            record
                { can = d; stands = subst (λ r. Stands ns lay r) (sym f') s },
          )

      pub evolve_may_body : {D : Declarations} {scope : Scope} → MayAt D S ns scope p vars env → {q' : ℕ}
          → q' ≡ get_or ks 1 q' → MayAt D S ns ((p, evolving_type v (inner t)) ∷ scope) q' ((p, x) ∷ vars) env
      evolve_may_body {D} {scope} may {q'} f =
          let o = evolve_kids in
          let l = o.long in
          let f' = kid_is ks 1 q' f (omega (arith, l)) in
          let d = did_f in
          let b = may_evolve_body (may_e may) (ap (eval_of S (suc p) A vars)
          (env_child 0 (Evolve t v A B) A K (suc K) (λ zs. refl) env) ∙ d.gives)
          (starts_by t v A B K v S.device env first ∙ ap Some (sym from_k)) in
          let m = subst (λ n. May D S ((p, evolving_type v (inner t)) ∷ scope) (suc p + size A) B
          (near_numbers env.near) ((p, x) ∷ vars) n) (env_child 1 (Evolve t v A B) B K (suc K + kept A) (λ zs. refl)
          env) b in
          may_at env (sym (f' ∙ o.second_is)) (ap (term_at ns) (sym f')) (slot_1 ∙ ap (kept_before ns) (sym f')) m

      module _ {q' : ℕ} (f : q' ≡ get_or ks 1 q') {vb : AnyValue} {zs : List SlotValue}
          (did' : DidAt S ns q' ((p, x) ∷ vars) env ys vb zs) where
        did_b : Did S (suc p + size A) B (suc K + kept A) ((p, started v S.device env K first) ∷ vars) env ys vb zs
        did_b =
            let o = evolve_kids in
            let l = o.long in
            let f' = kid_is ks 1 q' f (omega (arith, l)) in
            let d : Did S (suc p + size A) B (suc K + kept A) ((p, x) ∷ vars) env ys vb zs = did_all S _ _ _ _ _ _
            ((p, x) ∷ vars) env env ys zs vb (f' ∙ o.second_is) (ap (term_at ns) f')
            (ap (kept_before ns) f' ∙ sym slot_1) refl did' in
            subst (λ u. Did S (suc p + size A) B (suc K + kept A) ((p, u) ∷ vars) env ys vb zs) from_k d

        pub evolve_done : {w : LocalValue} {final : List SlotValue} → vb ≡ ValueLocal w
            → final ≡ slice_set zs k (true, w) → (k < length zs) × DidAt S ns p vars env xs vb final
        evolve_done {w} {final} g set =
            let o = evolve_kids in
            let s = slot_as k number in
            let d = evolve_did S p t v A B K vars env xs can_e first ys did_f w zs
            (subst (λ u. Did S (suc p + size A) B (suc K + kept A) ((p, started v S.device env K first) ∷ vars) env
            ys u zs) g did_b) in
            let r = d.0 in
            (omega (arith, s, r), rw (g, set, s, o.term) d.1)
