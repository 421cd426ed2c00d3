-- One more place of a row.
use Rattle.std.proofs.Common.{◌≡◌, ℕ, ◌<◌, ◌≤◌, ◌+◌, List, [], ◌∷◌, ◌++◌, length, refl, sym, ◌∙◌, ap, subst, arith, Some, None, IsSome, get_or, append_assoc, append-nil, ◌⊎◌, inl, inr}
use Rattle.fc_values.specs.Fields.{AnyValue}
use Rattle.fc_values.specs.Exports.{SlotValue, slot_at}
use Rattle.fc_nodes.specs.declared.nodes.Node.{Node}
use Rattle.fc_nodes.specs.Terms.{Term, Plain, Apply, Nbr, Evolve, If, Let, kept, kept_before, size, term_at, Laid}
use Rattle.fc_nodes.proofs.Places.{laid_within}
use Rattle.fc_nodes.proofs.Kept.{kept_size, kept_none}
use Rattle.alignment.specs.Scopes.{Vars}
use Rattle.device_eval.specs.Evaluation.{Situation, Outcome, Outcomes, and_then}
use Rattle.fc_nodes.specs.Layouts.{LayoutValue}
use Rattle.alignment.specs.Slots.{FlatEnv}
use Rattle.device_eval.specs.Walks.{Room, SameIn, SameOut, CanAt, DidAt, Ready}
use Rattle.device_eval.specs.Rows.{row_kept, Row, first_of, CanEach, DidEach, ReadyEach}
use Rattle.device_eval.proofs.Frames.{tree_same, marked_same, room_part, room_behind, still_same, still_then}

both_first : (o : Outcome) (os : Outcomes) → IsSome (and_then o os) → IsSome o
both_first None os h = absurd cc
both_first (Some r) os h = refl

both_second : (o : Outcome) (os : Outcomes) → IsSome (and_then o os) → IsSome os
both_second None os h = absurd cc
both_second (Some r) None h = absurd cc
both_second (Some r) (Some rs) h = refl

-- the rest of a row begins where the first ends
rest_slot : (ns : List Node) (k : ℕ) (ks : List ℕ) → Laid ns k (term_at ns k) → Row ns (k + size (term_at ns k)) ks → (ks ≡ []) ⊎ (kept_before ns (first_of ks) ≡ kept_before ns k + kept (term_at ns k))
rest_slot ns k [] l r = inl refl
rest_slot ns k (q ∷ ks) l r = inr (let e = r.0 in kept_size ns (term_at ns k) k q l e)

pub rest_row : (ns : List Node) (q : ℕ) (ks : List ℕ) → Row ns q ks → Row ns (first_of ks) ks
rest_row ns q [] r = tt
rest_row ns q (k ∷ ks) r = (refl, r.1, subst (λ j. Row ns (j + size (term_at ns k)) ks) (sym r.0) r.2)

no_room : (ns : List Node) (ys : List SlotValue) → Room (kept_before ns 0) 0 ys
no_room ns ys = let z = kept_none ns in record { clear = record { clear = λ j l u. absurd (omega arith) }; within = omega (arith, z) }

-- what a row leaves as it was
row_before : (ns : List Node) (k : ℕ) (ks : List ℕ) (ys zs : List SlotValue) → (ks ≡ []) ⊎ (kept_before ns (first_of ks) ≡ kept_before ns k + kept (term_at ns k)) → SameOut (kept_before ns (first_of ks)) (row_kept ns ks) ys zs → (j : ℕ) → j < kept_before ns k + kept (term_at ns k) → slot_at j ys ≡ slot_at j zs
row_before ns k ks ys zs (inl e) o j l = let z = kept_none ns in let o' = subst (λ qs. SameOut (kept_before ns (first_of qs)) (row_kept ns qs) ys zs) e o in o'.behind j (omega (arith, z))
row_before ns k ks ys zs (inr e) o j l = o.before j (omega (arith, e))

row_behind : (ns : List Node) (k : ℕ) (ks : List ℕ) (ys zs : List SlotValue) → (ks ≡ []) ⊎ (kept_before ns (first_of ks) ≡ kept_before ns k + kept (term_at ns k)) → SameOut (kept_before ns (first_of ks)) (row_kept ns ks) ys zs → (j : ℕ) → kept_before ns k + (kept (term_at ns k) + row_kept ns ks) ≤ j → slot_at j ys ≡ slot_at j zs
row_behind ns k ks ys zs (inl e) o j l = let z = kept_none ns in let o' = subst (λ qs. SameOut (kept_before ns (first_of qs)) (row_kept ns qs) ys zs) e o in o'.behind j (omega (arith, z))
row_behind ns k ks ys zs (inr e) o j l = o.behind j (omega (arith, e))

module _ (S : Situation) (ns : List Node) (k : ℕ) (ks : List ℕ) (vars : Vars) (env : FlatEnv) (xs : List SlotValue) (can : CanEach S ns (k ∷ ks) vars env xs) where
  pub first_can : CanAt S ns k vars env xs
  first_can =
      let f = can.fits in
      record { fits = f.0; room = room_part (kept_before ns k) (kept (term_at ns k) + row_kept ns ks) (kept_before ns k) (kept (term_at ns k)) xs can.room (omega arith) (omega arith); runs = both_first _ _ can.runs }

  rest_room : (ys : List SlotValue) → SameOut (kept_before ns k) (kept (term_at ns k)) xs ys → (ks ≡ []) ⊎ (kept_before ns (first_of ks) ≡ kept_before ns k + kept (term_at ns k)) → Room (kept_before ns (first_of ks)) (row_kept ns ks) ys
  rest_room ys o (inl e) = subst (λ qs. Room (kept_before ns (first_of qs)) (row_kept ns qs) ys) (sym e) (no_room ns ys)
  rest_room ys o (inr e) = room_behind (kept_before ns k) (kept (term_at ns k)) (kept_before ns (first_of ks)) (row_kept ns ks) xs ys o (room_part (kept_before ns k) (kept (term_at ns k) + row_kept ns ks) (kept_before ns (first_of ks)) (row_kept ns ks) xs can.room (omega (arith, e)) (omega (arith, e))) (omega (arith, e))

  pub rest_can : (v : AnyValue) (ys : List SlotValue) → DidAt S ns k vars env xs v ys → CanEach S ns ks vars env ys
  rest_can v ys did =
      let r = can.row in
      let f = can.fits in
      record { row = rest_row ns _ ks r.2; fits = f.1; room = rest_room ys did.out (rest_slot ns k ks r.1 r.2); runs = both_second _ _ can.runs }

  pub row_done : (v : AnyValue) (ys zs : List SlotValue) (old mid new : List AnyValue) → DidAt S ns k vars env xs v ys → mid ≡ old ++ v ∷ [] → DidEach S ns ks vars env ys mid new zs → DidEach S ns (k ∷ ks) vars env xs old new zs
  row_done v ys zs old mid new did e rest =
      let r = can.row in
      let g = did.gives in
      let g' = rest.gives in
      let added = rest.added in
      let at = rest_slot ns k ks r.1 r.2 in
      let same_k : SameIn (kept_before ns k) (kept (term_at ns k)) ys zs = record { same = λ j l u. row_before ns k ks ys zs at rest.out j u } in
      let tk = tree_same (term_at ns k) (kept_before ns k) ys zs same_k in
      record {
        vs = v ∷ rest.vs;
        added = added ∙ ap (λ ws. ws ++ rest.vs) e ∙ append_assoc old (v ∷ []) rest.vs;
        gives = rw (g, g', tk) refl;
        marked = (marked_same (term_at ns k) (kept_before ns k) ys zs same_k did.marked, rest.marked);
        out = record {
          long = did.out.long ∙ rest.out.long;
          before = λ j l. did.out.before j l ∙ row_before ns k ks ys zs at rest.out j (omega arith);
          behind = λ j l. did.out.behind j (omega arith) ∙ row_behind ns k ks ys zs at rest.out j l;
        };
        still = still_then xs ys zs did.still rest.still;
      }

pub none_done : {S : Situation} {ns : List Node} {vars : Vars} {env : FlatEnv} {xs : List SlotValue} {old : List AnyValue} (ks : List ℕ) → length ks ≡ 0 → DidEach S ns ks vars env xs old old xs
none_done {S} {ns} {vars} {env} {xs} {old} [] e = record {
  vs = [];
  added = sym (append-nil old);
  gives = refl;
  marked = tt;
  out = record { long = refl; before = λ j l. refl; behind = λ j l. refl };
  still = still_same xs;
}
none_done {S} {ns} {vars} {env} {xs} {old} (k ∷ ks) e = absurd (omega (arith, e))

positive : (t : Term) → 0 < size t
positive (Plain t l) = omega arith
positive (Apply t o xs) = omega arith
positive (Nbr t a) = omega arith
positive (Evolve t v a b) = omega arith
positive (If t c a b) = omega arith
positive (Let t a b) = omega arith

-- a row with its first and the rest
module _ {S : Situation} {ns : List Node} {lay : LayoutValue} {ks : List ℕ} {k : ℕ} {rest : List ℕ} (e : ks ≡ k ∷ rest) {vars : Vars} {env : FlatEnv} {xs : List SlotValue} (here : ReadyEach S ns lay ks vars env xs) where
  can_k : CanEach S ns (k ∷ rest) vars env xs
  can_k = subst (λ qs. CanEach S ns qs vars env xs) e here.can

  pub kid_ready : (k < length ns) × (get_or ks 0 (length ns) ≡ k) × Ready S ns lay k vars env xs
  kid_ready =
      let can' = can_k in
      let r = can'.row in
      let w = laid_within ns k (term_at ns k) r.1 in
      (w, rw e refl, record { can = first_can S ns k rest vars env xs can'; stands = record { layout = here.layout; formed = here.formed; laid = r.1; within = w } })

  rest_later : (qs : List ℕ) → Row ns (k + size (term_at ns k)) qs → k < length ns → k < get_or qs 0 (length ns)
  rest_later [] r w = w
  rest_later (q ∷ qs) r w = let p = positive (term_at ns k) in let f = r.0 in omega (arith, f, p)

  module _ {v : AnyValue} {ys : List SlotValue} (did : DidAt S ns k vars env xs v ys) where
    pub rest_ready : (k < get_or rest 0 (length ns)) × ReadyEach S ns lay rest vars env ys
    rest_ready =
        let can' = can_k in
        let r = can'.row in
        (rest_later rest r.2 (laid_within ns k (term_at ns k) r.1), record { can = rest_can S ns k rest vars env xs can' v ys did; layout = here.layout; formed = here.formed })

    pub each_done : {zs : List SlotValue} {old mid new : List AnyValue} → mid ≡ old ++ v ∷ [] → DidEach S ns rest vars env ys mid new zs → DidEach S ns ks vars env xs old new zs
    each_done {zs} {old} {mid} {new} m r = subst (λ qs. DidEach S ns qs vars env xs old new zs) (sym e) (row_done S ns k rest vars env xs can_k v ys zs old mid new did m r)
