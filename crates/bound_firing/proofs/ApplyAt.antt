-- A builtin at a place of a program, and its arguments one after another.
use Rattle.std.proofs.Common.{◌≡◌, ℕ, suc, ◌<◌, ◌+◌, List, [], ◌∷◌, ◌++◌, length, refl, sym, ◌∙◌, ap, subst, arith}
use Rattle.std.proofs.Common.{get_or, append_assoc, append-nil}
use Rattle.fc_values.specs.declared.builtins.Builtin.{Builtin}
use Rattle.fc_values.specs.Types.{ValueType}
use Rattle.fc_nodes.specs.declared.nodes.Node.{Node}
use Rattle.fc_nodes.specs.Terms.{Term, Terms, NoMore, More, Apply, OfApply, kept, kept_all, kept_before, size}
use Rattle.fc_nodes.specs.Terms.{Laid, AllLaid, places, term_at, terms_by, WellFormed}
use Rattle.fc_nodes.specs.Layouts.{LayoutValue, IsLayout}
use Rattle.fc_nodes.proofs.Places.{formed_above, laid_within}
use Rattle.fc_nodes.proofs.Kids.{laid_term, size_some, SomeKids, apply_laid}
use Rattle.fc_nodes.proofs.Kept.{kept_step, kept_size}
use Rattle.value_bounds.specs.BoundValues.{BoundValue}
use Rattle.value_bounds.specs.BoundBuiltins.{AnyBound, builtin_bound}
use Rattle.bound_firing.specs.BoundTrees.{bound_trees_at}
use Rattle.bound_firing.specs.Firing.{BoundSituation, BoundVars, bounds_of}
use Rattle.bound_firing.specs.FlatSeats.{FlatSeats, seats_over}
use Rattle.bound_firing.specs.Walks.{Room, SameOut, Reach, Can, Did, DidAt, Ready, ReadyAt, EachReady, EachDid}
use Rattle.bound_firing.specs.Walks.{none_did, one_did, AllDid}
use Rattle.bound_firing.proofs.Slots.{tree_same}
use Rattle.bound_firing.proofs.Seated.{IsRest, rest_all, rest_next, argument_seats}
use Rattle.bound_firing.proofs.Frames.{room_part, room_behind, same_out, reach_as}
use Rattle.bound_firing.proofs.KidsAt.{KidAt, kid_ready, kid_did}

module _ (S : BoundSituation) (ns : List Node) (lay : LayoutValue) (layout : IsLayout ns lay) (formed : WellFormed ns)
    (vars : BoundVars) (F : FlatSeats) where
  -- a term that stands at a place after p
  stands_there : (p q : ℕ) (u : Term) (k : ℕ) → p < q → Laid ns q u → k ≡ kept_before ns q → KidAt ns lay p q q u k
  stands_there p q u k h l e =
      let is = laid_term ns (formed_above ns formed) u q l in
      record {
        later = h;
        place = refl;
        term = is;
        slot = sym e;
        stands = record {
          layout = layout;
          formed = formed;
          laid = subst (Laid ns q) (sym is) l;
          within = laid_within ns q u l;
        };
      }

  later_than : (q : ℕ) (u : Term) (us : Terms) → Laid ns q u → q < get_or (places (q + size u) us) 0 (length ns)
  later_than q u NoMore l = laid_within ns q u l
  later_than q u (More v vs) l = let s = size_some u in omega (arith, s)

  next_slot : (q : ℕ) (u : Term) (k : ℕ) → Laid ns q u → k ≡ kept_before ns q
      → k + kept u ≡ kept_before ns (q + size u)
  next_slot q u k l e = let s = kept_size ns u q (q + size u) l refl in omega (arith, e, s)

  each_ready : (p : ℕ) (us : Terms) (q k : ℕ) (xs : List BoundValue) → p < q → AllLaid ns q us → k ≡ kept_before ns q
      → Room k (kept_all us) xs → Reach (length xs) F → EachReady S ns lay (places q us) vars F xs
  each_ready p NoMore q k xs h l e r g = tt
  each_ready p (More u us) q k xs h l e r g =
      let at = stands_there p q u k h l.0 e in
      let can : Can u k F xs = record {
        room = room_part k (kept u + kept_all us) k (kept u) xs r (omega arith) (omega arith);
        reach = g;
      } in (
        kid_ready ns lay p q q u k at F xs can,
        later_than q u us l.0,
        λ b ys d.
            let did = kid_did ns lay p q q u k at S vars F xs b ys d in
            each_ready p us (q + size u) (k + kept u) ys (omega (arith, h)) l.1 (next_slot q u k l.0 e)
            (room_behind k (kept u) (k + kept u) (kept_all us) xs ys did.out
            (room_part k (kept u + kept_all us) (k + kept u) (kept_all us) xs r (omega arith) (omega arith))
            (omega arith)) (reach_as (length xs) (length ys) F did.out.long g),
      )

  -- the arguments of a builtin from the i-th on
  module _ (t : ValueType) (o : Builtin) (all : Terms) (k0 : ℕ) where
    record Gives (q i : ℕ) (us : Terms) (k : ℕ) (xs : List BoundValue) (bs : List AnyBound) (ys : List BoundValue)
        : Type 0 where
      pub gives : bounds_of S q i us vars (seats_over (Apply t o all) k0 F) ≡ (bs, bound_trees_at us k ys)
      pub out : SameOut k (kept_all us) xs ys

    each_did : (p : ℕ) (us : Terms) (q i k : ℕ) (xs : List BoundValue) (bs : List AnyBound) (ys : List BoundValue)
        → p < q → AllLaid ns q us → k ≡ kept_before ns q → IsRest i all k0 us k
        → EachDid S ns vars F (places q us) xs bs ys → Gives q i us k xs bs ys
    each_did p NoMore q i k xs _ _ h l e s none_did = record { gives = refl; out = same_out k 0 xs }
    each_did p (More u us) q i k xs _ zs h l e s (one_did _ b {bs} {ys} d ds) =
        let did = kid_did ns lay p q q u k (stands_there p q u k h l.0 e) S vars F xs b ys d in
        let r = each_did p us (q + size u) (suc i) (k + kept u) ys bs zs (omega (arith, h)) l.1
        (next_slot q u k l.0 e) (rest_next i all k0 u us k s) ds in
        let tu = tree_same ys zs u k (λ j a c. r.out.before j c) in
        record {
          gives = rw (argument_seats i all k0 u us k s t o F, did.gives, r.gives, tu) refl;
          out = record {
            long = did.out.long ∙ r.out.long;
            before = λ j a. did.out.before j a ∙ r.out.before j (omega arith);
            behind = λ j a. did.out.behind j (omega arith) ∙ r.out.behind j (omega arith);
          };
        }

module _ {ns : List Node} {lay : LayoutValue} {p : ℕ} {o : Builtin} {t : ValueType} {ks : List ℕ} {F : FlatSeats}
    {xs : List BoundValue} (here : ReadyAt ns lay p (OfApply o) t ks F xs) where
  all : Terms
  all = terms_by (term_at ns) ks

  kids : SomeKids ns p (Apply t o) ks
  kids = apply_laid ns (formed_above ns here.ready.stands.formed) p o t ks here.node here.ready.stands.laid

  term_is : term_at ns p ≡ Apply t o all
  unfolding all
  term_is = let i = kids in i.term

  kids_laid : AllLaid ns (suc p) all
  unfolding all
  kids_laid = let i = kids in i.kids

  kids_are : ks ≡ places (suc p) all
  unfolding all
  kids_are = let i = kids in i.stand_at

  can_a : Can (Apply t o all) (kept_before ns p) F xs
  can_a = subst (λ u. Can u (kept_before ns p) F xs) term_is here.ready.can

  slot_next : kept_before ns p ≡ kept_before ns (suc p)
  slot_next = let k = kept_step ns p _ _ _ here.node in omega (arith, k)

  pub apply_ready : (S : BoundSituation) (vars : BoundVars) {qs : List ℕ} → qs ≡ ks → EachReady S ns lay qs vars F xs
  apply_ready S vars {qs} e =
      let c = can_a in
      subst (λ js. EachReady S ns lay js vars F xs) (sym (e ∙ kids_are))
      (each_ready S ns lay here.ready.stands.layout here.ready.stands.formed vars F p all (suc p) (kept_before ns p) xs
      (omega arith) kids_laid slot_next c.room c.reach)

  pub apply_done : (S : BoundSituation) (vars : BoundVars) {qs : List ℕ} {old bs : List AnyBound} {ys : List BoundValue}
      → qs ≡ ks → old ≡ [] → AllDid S ns qs vars F xs old bs ys
      → DidAt S ns p vars F xs (builtin_bound o S.ceiling S.device bs) ys
  apply_done S vars {qs} {old} {bs} {ys} e f d =
      let same : bs ≡ d.bounds = d.added ∙ ap (λ cs. cs ++ d.bounds) f in
      let each : EachDid S ns vars F (places (suc p) all) xs d.bounds ys =
      subst (λ js. EachDid S ns vars F js xs d.bounds ys) (e ∙ kids_are) d.each in
      let r = each_did S ns lay here.ready.stands.layout here.ready.stands.formed vars F t o all (kept_before ns p) p
      all (suc p) 0 (kept_before ns p) xs d.bounds ys (omega arith) kids_laid slot_next
      (rest_all all (kept_before ns p)) each in
      let g : Did S p (Apply t o all) (kept_before ns p) vars F xs (builtin_bound o S.ceiling S.device bs) ys =
      record { gives = rw (r.gives, ← same) refl; out = r.out } in
      subst (λ u. Did S p u (kept_before ns p) vars F xs (builtin_bound o S.ceiling S.device bs) ys) (sym term_is) g

  later_of : (us : Terms) → p < get_or (places (suc p) us) 0 (length ns)
  later_of NoMore = here.ready.stands.within
  later_of (More u us) = omega arith

  pub apply_later : {qs : List ℕ} → qs ≡ ks → p < get_or qs 0 (length ns)
  apply_later e = subst (λ qs. p < get_or qs 0 (length ns)) (sym (e ∙ kids_are)) (later_of all)

-- ---- one more place

first_within : {ns : List Node} {lay : LayoutValue} {F : FlatSeats} {xs : List BoundValue} {q : ℕ}
    → Ready ns lay q F xs → q < length ns
first_within r = r.stands.within

pub none_done : {S : BoundSituation} {ns : List Node} {vars : BoundVars} {F : FlatSeats} {xs : List BoundValue}
    {old : List AnyBound} (ks : List ℕ) → length ks ≡ 0 → AllDid S ns ks vars F xs old old xs
none_done {S} {ns} {vars} {F} {xs} {old} [] e =
    record { bounds = []; added = sym (append-nil old); each = none_did }
none_done {S} {ns} {vars} {F} {xs} {old} (k ∷ ks) e = absurd (omega (arith, e))

module _ (S : BoundSituation) (ns : List Node) (lay : LayoutValue) (vars : BoundVars) (F : FlatSeats)
    (xs : List BoundValue) {ks : List ℕ} {k : ℕ} {rest : List ℕ} (e : ks ≡ k ∷ rest)
    (here : EachReady S ns lay ks vars F xs) where
  ready : EachReady S ns lay (k ∷ rest) vars F xs
  ready = subst (λ qs. EachReady S ns lay qs vars F xs) e here

  pub kid_there : (k < length ns) × (get_or ks 0 (length ns) ≡ k) × Ready ns lay k F xs
  kid_there = let r = ready in (first_within r.0, rw e refl, r.0)

  module _ {b : AnyBound} {ys : List BoundValue} (did : DidAt S ns k vars F xs b ys) where
    pub rest_there : (k < get_or rest 0 (length ns)) × EachReady S ns lay rest vars F ys
    rest_there = let r = ready in (r.1, r.2 b ys did)

    pub all_done : {zs : List BoundValue} {old mid new : List AnyBound} → mid ≡ old ++ b ∷ []
        → AllDid S ns rest vars F ys mid new zs → AllDid S ns ks vars F xs old new zs
    all_done {zs} {old} {mid} {new} m d =
        subst (λ qs. AllDid S ns qs vars F xs old new zs) (sym e) (record {
          bounds = b ∷ d.bounds;
          added = d.added ∙ ap (λ cs. cs ++ d.bounds) m ∙ append_assoc old (b ∷ []) d.bounds;
          each = one_did k b did d.each;
        })
