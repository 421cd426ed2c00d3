-- An `nbr` at a place of a program.
use Rattle.std.proofs.Common.{◌≡◌, ◌≢◌, ℕ, suc, ◌<◌, List, [], ◌∷◌, length, map, refl, sym, ◌∙◌, ap, subst, arith, true}
use Rattle.std.proofs.Common.{Some, get_or, length-set}
use Rattle.std.specs.Prelude.{slice_set}
use Rattle.fc_values.specs.Types.{ValueType, TypeLocal, TypeField, Declarations}
use Rattle.fc_values.specs.BuiltinTypes.{inner}
use Rattle.fc_values.specs.Values.{LocalValue}
use Rattle.fc_values.specs.Fields.{AnyValue, ValueLocal, ValueField, Entries, with_entry}
use Rattle.fc_values.specs.Trees.{Keep, Done, Then}
use Rattle.fc_values.specs.Exports.{SlotValue, slot_at}
use Rattle.fc_nodes.specs.declared.nodes.Node.{Node}
use Rattle.fc_nodes.specs.Typing.{Scope, HasType}
use Rattle.fc_nodes.specs.Terms.{term_type, Term, Nbr, OfNbr, kept, kept_before, term_at}
use Rattle.fc_nodes.specs.Flat.{tree_at}
use Rattle.fc_nodes.proofs.Places.{formed_above}
use Rattle.fc_nodes.proofs.Kids.{OneKid, nbr_laid}
use Rattle.fc_nodes.proofs.Kept.{one_more}
use Rattle.device_eval.specs.Neighbours.{kept_there}
use Rattle.alignment.specs.Scopes.{Vars}
use Rattle.device_eval.specs.Evaluation.{Situation, eval_of, heard, on_local}
use Rattle.fc_nodes.specs.Layouts.{LayoutValue, number_in}
use Rattle.alignment.specs.Environments.{near_numbers}
use Rattle.alignment.specs.Slots.{FlatEnv, NearSlots, NearHave}
use Rattle.device_eval.specs.Environments.{env_at, near_at}
use Rattle.alignment.specs.Hearing.{slot_entries}
use Rattle.device_eval.specs.Walks.{SameIn, Can, Did, DidAt, Stands, Ready, ReadyAt}
use Rattle.fc_values.proofs.SlotReads.{slot_set_same, slot_set_other}
use Rattle.device_eval.specs.Places.{May, MayAt}
use Rattle.device_eval.proofs.MaySteps.{may_nbr, may_at}
use Rattle.device_eval.proofs.Frames.{tree_same, marked_same, env_child, env_fits, room_part, still_then, still_set}
use Rattle.device_eval.proofs.Steps.{after_some, can_all, did_all, kid_is, stands_kid, slot_is, near_have}

kept_entries : (t : ValueType) (a : Term) (k : ℕ) (ns : List NearSlots)
    → kept_there (map (near_at (Nbr t a) k) ns) ≡ Some (slot_entries k ns)
unfolding slot_at
kept_entries t a k [] = refl
kept_entries t a k (n ∷ ns) = let ih = kept_entries t a k ns in rw ih refl

-- the field of an `nbr`, out of slots and out of trees
pub nbr_heard : (t : ValueType) (a : Term) (k : ℕ) (env : FlatEnv) (device : ℕ) (v : LocalValue)
    → heard device (Some v) (kept_there (env_at (Nbr t a) k env).near)
    ≡ Some (ValueField (with_entry device v (slot_entries k env.near)))
nbr_heard t a k env device v = let e = kept_entries t a k env.near in rw e refl

module _ (S : Situation) (p : ℕ) (t : ValueType) (a : Term) (k : ℕ) (vars : Vars) (env : FlatEnv) (xs : List SlotValue)
    (can : Can S p (Nbr t a) k vars env xs) where
  pub nbr_first : Can S (suc p) a (suc k) vars env xs
  nbr_first = record {
    fits = env_fits (Nbr t a) a k (suc k) (λ ys m. m.1) (omega arith) env can.fits;
    room = room_part k (suc (kept a)) (suc k) (kept a) xs can.room (omega arith) (omega arith);
    runs = rw (← env_child 0 (Nbr t a) a k (suc k) (λ ys. refl) env) (after_some _ _ can.runs);
  }

  nbr_gives : (va : AnyValue) (ys : List SlotValue) → Did S (suc p) a (suc k) vars env xs va ys
      → eval_of S p (Nbr t a) vars (env_at (Nbr t a) k env)
      ≡ on_local va (λ v. Some (
        ValueField (with_entry S.device v (slot_entries k env.near)),
        Keep (Some v) (Then (tree_at a (suc k) ys) Done),
      ))
  nbr_gives va ys did =
      rw (env_child 0 (Nbr t a) a k (suc k) (λ zs. refl) env, did.gives, kept_entries t a k env.near) refl

  pub nbr_did : (w : LocalValue) (ys : List SlotValue) → Did S (suc p) a (suc k) vars env xs (ValueLocal w) ys
      → (k < length ys) × Did S p (Nbr t a) k vars env xs (ValueField (with_entry S.device w (slot_entries k env.near)))
      (slice_set ys k (true, w))
  nbr_did w ys did =
      let final = slice_set ys k (true, w) in
      let long = did.out.long in
      let within = can.room.within in
      let in_range : k < length ys = omega (arith, long, within) in
      let here = slot_set_same k (true, w) ys in_range in
      let other : (j : ℕ) → j ≢ k → slot_at j ys ≡ slot_at j final = λ j n. sym (slot_set_other j k (true, w) ys n) in
      let same_a : SameIn (suc k) (kept a) ys final = record { same = λ j l u. other j (omega arith) } in
      let ta = tree_same a (suc k) ys final same_a in (
        in_range,
        record {
          gives = nbr_gives (ValueLocal w) ys did ∙ rw (here, ta) refl;
          marked = (ap (λ (z : SlotValue). z.0) here, marked_same a (suc k) ys final same_a did.marked);
          out = record {
            long = long ∙ sym (length-set ys k (true, w));
            before = λ j l. did.out.before j (omega arith) ∙ other j (omega arith);
            behind = λ j l. did.out.behind j (omega arith) ∙ other j (omega arith);
          };
          still = still_then xs ys final did.still (still_set ys k w in_range);
        },
      )

module _ {S : Situation} {ns : List Node} {lay : LayoutValue} {p : ℕ} {t : ValueType} {ks : List ℕ} {vars : Vars}
    {env : FlatEnv} {xs : List SlotValue} (here : ReadyAt S ns lay p OfNbr t ks vars env xs) where
  pub one : OneKid ns p (Nbr t) ks
  one = nbr_laid ns (formed_above ns here.ready.stands.formed) p t ks here.node here.ready.stands.laid

  can_n : Can S p (Nbr t (term_at ns (get_or ks 0 0))) (kept_before ns p) vars env xs
  can_n = let o = one in subst (λ u. Can S p u (kept_before ns p) vars env xs) o.term here.ready.can

  slot_next : suc (kept_before ns p) ≡ kept_before ns (get_or ks 0 0)
  slot_next = let o = one in let k = one_more ns p (get_or ks 0 0) _ _ _ here.node o.first_is in omega (arith, k)

  pub nbr_slot : number_in lay p ≡ Some (kept_before ns p)
  nbr_slot = slot_is ns lay p here.ready.stands OfNbr t ks (inner t) here.node refl

  slot_as : (k : ℕ) → number_in lay p ≡ Some k → k ≡ kept_before ns p
  slot_as k e = let f = nbr_slot in cc

  pub nbr_near : {k : ℕ} → number_in lay p ≡ Some k → NearHave k env.near
  nbr_near {k} e =
      let can' = can_n in subst (λ j. NearHave j env.near) (sym (slot_as k e))
      (near_have (Nbr t (term_at ns (get_or ks 0 0))) (kept_before ns p) env.near (omega arith) can'.fits.near)

  pub nbr_kid : {q : ℕ} → q ≡ get_or ks 0 q → (p < q) × (q < length ns) × Ready S ns lay q vars env xs
  nbr_kid {q} e =
      let o = one in
      let l = o.long in
      let e' = kid_is ks 0 q e (omega (arith, l)) in
      let i = o.first_is in
      let s = stands_kid ns lay p (get_or ks 0 0) here.ready.stands o.first in
      let w = s.within in
      let d = can_all S _ _ _ _ _ _ vars env env xs (sym (e' ∙ i)) (ap (term_at ns) (sym e'))
      (slot_next ∙ ap (kept_before ns) (sym e')) refl
      (nbr_first S p t (term_at ns (get_or ks 0 0)) (kept_before ns p) vars env xs can_n) in
      (omega (arith, e', i), omega (arith, e', w), record { can = d; stands = subst (λ r. Stands ns lay r) (sym e') s })

  module _ {q : ℕ} (e : q ≡ get_or ks 0 q) {va : AnyValue} {ys : List SlotValue}
      (did : DidAt S ns q vars env xs va ys) where
    did_n : Did S (suc p) (term_at ns (get_or ks 0 0)) (suc (kept_before ns p)) vars env xs va ys
    did_n =
        let o = one in
        let l = o.long in
        let e' = kid_is ks 0 q e (omega (arith, l)) in
        did_all S _ _ _ _ _ _ vars env env xs ys va (e' ∙ o.first_is) (ap (term_at ns) e')
        (ap (kept_before ns) e' ∙ sym slot_next) refl did

    pub nbr_done : {k : ℕ} {w : LocalValue} {es : Entries} {final : List SlotValue} → number_in lay p ≡ Some k
        → va ≡ ValueLocal w → es ≡ with_entry S.device w (slot_entries k env.near) → final ≡ slice_set ys k (true, w)
        → (k < length ys) × DidAt S ns p vars env xs (ValueField es) final
    nbr_done {k} {w} {es} {final} n v f g =
        let o = one in
        let d = nbr_did S p t (term_at ns (get_or ks 0 0)) (kept_before ns p) vars env xs can_n w ys
        (subst (λ u. Did S (suc p) (term_at ns (get_or ks 0 0)) (suc (kept_before ns p)) vars env xs u ys) v
        did_n) in
        let s = slot_as k n in
        let r = d.0 in
        (omega (arith, s, r), rw (f, g, s, o.term) d.1)

  pub nbr_may : {D : Declarations} {scope : Scope} → MayAt D S ns scope p vars env → {q : ℕ} → q ≡ get_or ks 0 q
      → MayAt D S ns scope q vars env
  nbr_may {D} {scope} may {q} e =
      let o = one in
      let l = o.long in
      let e' = kid_is ks 0 q e (omega (arith, l)) in
      let N = Nbr t (term_at ns (get_or ks 0 0)) in
      let here' : May D S scope p N (near_numbers env.near) vars (env_at N (kept_before ns p) env) = subst
      (λ u. May D S scope p u (near_numbers env.near) vars (env_at u (kept_before ns p) env)) o.term may in
      let m = subst (λ n. May D S scope (suc p) (term_at ns (get_or ks 0 0)) (near_numbers env.near) vars n)
      (env_child 0 N (term_at ns (get_or ks 0 0)) (kept_before ns p) (suc (kept_before ns p)) (λ ys. refl) env)
      (may_nbr here') in
      may_at env (sym (e' ∙ o.first_is)) (ap (term_at ns) (sym e')) (slot_next ∙ ap (kept_before ns) (sym e')) m

  pub nbr_types : {D : Declarations} {scope : Scope} → MayAt D S ns scope p vars env → {q : ℕ} → q ≡ get_or ks 0 q
      → (t ≡ TypeField (inner t)) × (term_type (term_at ns q) ≡ TypeLocal (inner t))
  nbr_types {D} {scope} may {q} e =
      let o = one in
      let l = o.long in
      let e' = kid_is ks 0 q e (omega (arith, l)) in
      let typed : HasType D scope p (Nbr t (term_at ns (get_or ks 0 0))) = subst (HasType D scope p) o.term may.typed in
      let same = sym (ap inner typed.1) in
      (typed.1 ∙ ap TypeField same, ap (λ k. term_type (term_at ns k)) e' ∙ typed.2 ∙ ap TypeLocal same)
