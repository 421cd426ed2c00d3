-- The kids of a node at a place of a program.
use Rattle.std.proofs.Common.{◌≡◌, ℕ, zero, suc, ◌<◌, List, [], ◌∷◌, length, refl, sym, ◌∙◌, ap, subst, arith, get_or}
use Rattle.std.proofs.Common.{Some}
use Rattle.fc_values.specs.Types.{LocalType, ValueType}
use Rattle.fc_nodes.specs.declared.nodes.Node.{Node}
use Rattle.fc_nodes.specs.Terms.{Term, Sort, kept_type, kept_before, term_at, HasNode, Laid}
use Rattle.fc_nodes.specs.Layouts.{LayoutValue, number_in, number_at}
use Rattle.fc_nodes.proofs.Places.{laid_within}
use Rattle.device_eval.specs.Walks.{Stands}
use Rattle.value_bounds.specs.BoundValues.{BoundValue}
use Rattle.value_bounds.specs.BoundBuiltins.{AnyBound}
use Rattle.bound_firing.specs.Firing.{BoundSituation, BoundVars}
use Rattle.bound_firing.specs.FlatSeats.{FlatSeats}
use Rattle.bound_firing.specs.Walks.{Can, Did, DidAt, Ready, ReadyAt}

-- at place q, which is `there`, stands the kid u, with first slot k
pub record KidAt (ns : List Node) (l : LayoutValue) (p q there : ℕ) (u : Term) (k : ℕ) : Type 0 where
  pub later : p < q
  pub place : q ≡ there
  pub term : term_at ns q ≡ u
  pub slot : kept_before ns q ≡ k
  pub stands : Stands ns l q

module _ (ns : List Node) (l : LayoutValue) (p q there : ℕ) (u : Term) (k : ℕ) (kid : KidAt ns l p q there u k) where
  pub kid_ready : (F : FlatSeats) (xs : List BoundValue) → Can u k F xs → Ready ns l q F xs
  kid_ready F xs can = record {
    can = subst (λ v. Can v (kept_before ns q) F xs) (sym kid.term) (subst (λ j. Can u j F xs) (sym kid.slot) can);
    stands = kid.stands;
  }

  pub kid_did : (S : BoundSituation) (vars : BoundVars) (F : FlatSeats) (xs : List BoundValue) (b : AnyBound)
      (ys : List BoundValue) → DidAt S ns q vars F xs b ys → Did S there u k vars F xs b ys
  kid_did S vars F xs b ys did =
      subst (λ i. Did S i u k vars F xs b ys) kid.place
      (subst (λ j. Did S q u j vars F xs b ys) kid.slot
      (subst (λ v. Did S q v (kept_before ns q) vars F xs b ys) kid.term did))

-- an index that was read
kid_is : (ks : List ℕ) (i x : ℕ) → x ≡ get_or ks i x → i < length ks → x ≡ get_or ks i 0
kid_is [] i x e h = absurd (omega arith)
kid_is (k ∷ ks) zero x e h = e
kid_is (k ∷ ks) (suc i) x e h = kid_is ks i x e (omega arith)

pub kid_at : (ns : List Node) (l : LayoutValue) (p : ℕ) → Stands ns l p → (ks : List ℕ) (i q there k : ℕ)
    → q ≡ get_or ks i q → i < length ks → p < there → get_or ks i 0 ≡ there → kept_before ns (get_or ks i 0) ≡ k
    → Laid ns (get_or ks i 0) (term_at ns (get_or ks i 0)) → KidAt ns l p q there (term_at ns (get_or ks i 0)) k
kid_at ns l p st ks i q there k e h later is slot laid =
    let e' = kid_is ks i q e h in
    record {
      later = omega (arith, later, e', is);
      place = e' ∙ is;
      term = ap (term_at ns) e';
      slot = ap (kept_before ns) e' ∙ slot;
      stands = record {
        layout = st.layout;
        formed = st.formed;
        laid = subst (λ r. Laid ns r (term_at ns r)) (sym e') laid;
        within = subst (λ r. r < length ns) (sym e') (laid_within ns (get_or ks i 0) (term_at ns (get_or ks i 0)) laid);
      };
    }

-- the slot of a kept place
pub slot_is : (ns : List Node) (l : LayoutValue) (p : ℕ) → Stands ns l p → (s : Sort) (t : ValueType) (ks : List ℕ)
    (u : LocalType) → HasNode ns p s t ks → kept_type s t ≡ Some u → number_in l p ≡ Some (kept_before ns p)
slot_is ns l p st s t ks u h e = st.layout.each p ∙ number_is
  where
    number_is : number_at ns p ≡ Some (kept_before ns p)
    number_is = rw (h, e) refl

-- the node at a place that is ready
pub ready_at : {ns : List Node} {l : LayoutValue} {p : ℕ} {s : Sort} {t : ValueType} {ks : List ℕ} {F : FlatSeats}
    {xs : List BoundValue} → Ready ns l p F xs → HasNode ns p s t ks → ReadyAt ns l p s t ks F xs
ready_at r h = record { ready = r; node = h }
