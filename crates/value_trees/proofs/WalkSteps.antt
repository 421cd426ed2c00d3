-- Crates above cite this module: the steps of a walk over slots.
use Rattle.std.proofs.Common.{◌≡◌, ℕ, suc, ◌<◌, ◌+◌, List, length, sym, ◌∙◌, ap, subst, arith, Bool, true, false, not, ◌&&◌, Option, Some, None, get_or}
use Rattle.std.proofs.lemmas.List.{length-map}
use Rattle.std.proofs.lemmas.Bool.Decides.{nat_tests}
use Rattle.fc_values.specs.declared.exports.Slot.{Slot}
use Rattle.fc_values.specs.Types.{LocalType, ValueType, BoolType}
use Rattle.fc_values.specs.Values.{LocalValue, Fits}
use Rattle.fc_values.specs.BuiltinTypes.{inner}
use Rattle.fc_values.specs.Exports.{SlotValue, FlatExport, slot_of, slots_of, slot_at}
use Rattle.fc_nodes.specs.declared.nodes.Node.{Node}
use Rattle.fc_nodes.specs.Terms.{Term, Plain, Apply, Nbr, Evolve, If, Let, term_type, kept, kept_all, Sort, kept_type, term_at, terms_by, HasNode, Laid, is_branching}
use Rattle.fc_nodes.specs.Flat.{IsExport}
use Rattle.fc_nodes.specs.Program.{Program, Unfolding, unfolding_of, IsProgram}
use Rattle.fc_nodes.proofs.Places.{AllAbove, laid_within}
use Rattle.fc_nodes.proofs.Kids.{kids_of, KidsAre, kids_are, own_type, branches, own_is, branches_is, three}
use Rattle.value_trees.specs.SlotFits.{ValueSlotFits, SlotFits, SlotsFit, AllSlotsFit, OwnSlotFits, after_own, truth_in, WalkIs}
use Rattle.value_trees.specs.Walks.{FitsMain, ends_at}
use Rattle.fc_nodes.specs.Places.{StandsAt}
use Rattle.value_trees.proofs.SlotTrees.{fit_export, export_fit}
use Rattle.fc_values.proofs.SlotReads.{slot_read}

pub walk_as : (P Q : Type 0) (m n : ℕ) (r : Option ℕ) → (P → Q) → (Q → P) → m ≡ n → WalkIs P m r → WalkIs Q n r
walk_as P Q m n None f g e h = λ q. h (g q)
walk_as P Q m n (Some k) f g e h = (f h.0, h.1 ∙ e)

pub walk_none : (P Q : Type 0) (m n : ℕ) (r s : Option ℕ) → r ≡ None → s ≡ None → (Q → P) → WalkIs P m r → WalkIs Q n s
walk_none P Q m n None None e f g h = λ q. h (g q)
walk_none P Q m n (Some k) s e f g h = absurd cc
walk_none P Q m n None (Some k) e f g h = absurd cc

-- one slot
module _ (g : Bool) (c : ℕ) (u : LocalType) (xs : List Slot) (k : ℕ) (s : Slot) (e : s ≡ get_or xs k s) (l : k < length xs) where
  read : slot_at k (slots_of xs) ≡ slot_of s
  read = slot_read xs k s e l

  pub slot_here : ValueSlotFits g c u (slot_of s) → SlotFits g c u k (slots_of xs)
  slot_here h = let h' = subst (ValueSlotFits g c u) (sym read) h in record { within = omega (arith, l, length-map xs slot_of); kept = h'.0; value = h'.1 }

  pub here_slot : SlotFits g c u k (slots_of xs) → ValueSlotFits g c u (slot_of s)
  here_slot h = subst (ValueSlotFits g c u) read (h.kept, h.value)

module _ (g : Bool) (c : ℕ) (k : ℕ) (xs : List SlotValue) where
  own_of : (u : Term) → SlotsFit g c u k xs → OwnSlotFits g c (own_type u) k xs
  own_of (Plain t l) h = tt
  own_of (Apply t o ts) h = tt
  own_of (Nbr t a) h = h.0
  own_of (Evolve t e a b) h = h.0
  own_of (If t x a b) h = h.0
  own_of (Let t a b) h = tt

  kids_fit : (u : Term) → branches u ≡ false → SlotsFit g c u k xs → AllSlotsFit g c (kids_of u) (after_own (own_type u) k) xs
  kids_fit (Plain t l) e h = tt
  kids_fit (Apply t o ts) e h = h
  kids_fit (Nbr t a) e h = h.1
  kids_fit (Evolve t v a b) e h = h.1
  kids_fit (If t x a b) e h = absurd cc
  kids_fit (Let t a b) e h = h

  whole_fits : (u : Term) → branches u ≡ false → OwnSlotFits g c (own_type u) k xs → AllSlotsFit g c (kids_of u) (after_own (own_type u) k) xs → SlotsFit g c u k xs
  whole_fits (Plain t l) e o h = tt
  whole_fits (Apply t op ts) e o h = h
  whole_fits (Nbr t a) e o h = (o, h)
  whole_fits (Evolve t v a b) e o h = (o, h)
  whole_fits (If t x a b) e o h = absurd cc
  whole_fits (Let t a b) e o h = h

  kept_whole : (u : Term) → after_own (own_type u) k + kept_all (kids_of u) ≡ k + kept u
  kept_whole (Plain t l) = omega arith
  kept_whole (Apply t o ts) = omega arith
  kept_whole (Nbr t a) = omega arith
  kept_whole (Evolve t e a b) = omega arith
  kept_whole (If t x a b) = omega arith
  kept_whole (Let t a b) = omega arith

pub type_is : (ns : List Node) (s : Sort) (t : ValueType) (ks : List ℕ) (u : Term) (p : ℕ) → HasNode ns p s t ks → Laid ns p u → term_type u ≡ t
type_is ns s t ks (Plain t' v) p h l = let e : t' ≡ t = cc in e
type_is ns s t ks (Apply t' o ts) p h l = let l0 = l.0 in let e : t' ≡ t = cc in e
type_is ns s t ks (Nbr t' a) p h l = let l0 = l.0 in let e : t' ≡ t = cc in e
type_is ns s t ks (Evolve t' v a b) p h l = let l0 = l.0 in let e : t' ≡ t = cc in e
type_is ns s t ks (If t' x a b) p h l = let l0 = l.0 in let e : t' ≡ t = cc in e
type_is ns s t ks (Let t' a b) p h l = let l0 = l.0 in let e : t' ≡ t = cc in e

-- a node at a place, and the walk past it
module _ (ns : List Node) (ab : AllAbove ns) (p : ℕ) (st : StandsAt ns p) (s : Sort) (t : ValueType) (ks : List ℕ) (h : HasNode ns p s t ks) (g : Bool) (c : ℕ) (k : ℕ) (xs : List SlotValue) where
  kids : KidsAre ns p (term_at ns p) ks
  kids = kids_are ns ab p s t ks h st.laid

  own_same : kept_type s t ≡ own_type (term_at ns p)
  own_same = own_is ns s t ks (term_at ns p) p h st.laid

  pub own_needed : SlotsFit g c (term_at ns p) k xs → OwnSlotFits g c (kept_type s t) k xs
  own_needed f = subst (λ o. OwnSlotFits g c o k xs) (sym own_same) (own_of g c k xs (term_at ns p) f)

  pub kids_walked : is_branching s ≡ false → (from : ℕ) → OwnSlotFits g c (kept_type s t) k xs → from ≡ after_own (kept_type s t) k → (r : Option ℕ)
      → WalkIs (AllSlotsFit g c (terms_by (term_at ns) ks) from xs) (from + kept_all (terms_by (term_at ns) ks)) r → WalkIs (SlotsFit g c (term_at ns p) k xs) (k + kept (term_at ns p)) r
  kids_walked b from own e r w =
      let i = kids in
      let plain : branches (term_at ns p) ≡ false = sym (branches_is ns s t ks (term_at ns p) p h st.laid) ∙ b in
      let from_is : from ≡ after_own (own_type (term_at ns p)) k = e ∙ ap (λ o. after_own o k) own_same in
      let same : kids_of (term_at ns p) ≡ terms_by (term_at ns) ks = i.kids in
      let own' = subst (λ o. OwnSlotFits g c o k xs) own_same own in
      let all = kept_whole g c k xs (term_at ns p) in
      walk_as _ _ _ _ r
      (λ f. whole_fits g c k xs (term_at ns p) plain own' (subst (λ j. AllSlotsFit g c (kids_of (term_at ns p)) j xs) from_is (subst (λ us. AllSlotsFit g c us from xs) (sym same) f)))
      (λ f. subst (λ us. AllSlotsFit g c us from xs) same (subst (λ j. AllSlotsFit g c (kids_of (term_at ns p)) j xs) (sym from_is) (kids_fit g c k xs (term_at ns p) plain f)))
      (ap (λ us. from + kept_all us) (sym same) ∙ ap (λ j. j + kept_all (kids_of (term_at ns p))) from_is ∙ all)
      w

-- an `if` at a place
module _ (ns : List Node) (ab : AllAbove ns) (p : ℕ) (st : StandsAt ns p) (s : Sort) (t : ValueType) (ks : List ℕ) (h : HasNode ns p s t ks) (branching : is_branching s ≡ true) (g : Bool) (c : ℕ) (k : ℕ) (xs : List SlotValue) where
  module _ (q0 q1 q2 : ℕ) (f0 : q0 ≡ get_or ks 0 0) (f1 : q1 ≡ get_or ks 1 0) (f2 : q2 ≡ get_or ks 2 0) where
    pub term_is : term_at ns p ≡ If t (term_at ns q0) (term_at ns q1) (term_at ns q2)
    term_is =
        let th = three ns ab p st s t ks h branching in
        th.term ∙ ap (λ q. If t (term_at ns q) (term_at ns (get_or ks 1 0)) (term_at ns (get_or ks 2 0))) (sym f0)
        ∙ ap (λ q. If t (term_at ns q0) (term_at ns q) (term_at ns (get_or ks 2 0))) (sym f1)
        ∙ ap (λ q. If t (term_at ns q0) (term_at ns q1) (term_at ns q)) (sym f2)

    as_if : SlotsFit g c (term_at ns p) k xs → SlotsFit g c (If t (term_at ns q0) (term_at ns q1) (term_at ns q2)) k xs
    as_if f = subst (λ u. SlotsFit g c u k xs) term_is f

    pub first_of : SlotsFit g c (term_at ns p) k xs → SlotsFit g c (term_at ns q0) (k + 1) xs
    first_of f = let e : suc k ≡ k + 1 = omega arith in subst (λ j. SlotsFit g c (term_at ns q0) j xs) e (as_if f).1.0

    module _ (truth : Bool) (et : truth ≡ truth_in (slot_at k xs).1) (n1 : ℕ) (en1 : n1 ≡ k + 1 + kept (term_at ns q0)) (g1 : Bool) (eg1 : g1 ≡ (g && truth)) where
      n1_is : suc k + kept (term_at ns q0) ≡ n1
      n1_is = omega arith

      g1_is : (g && truth_in (slot_at k xs).1) ≡ g1
      g1_is = ap (λ b. g && b) (sym et) ∙ sym eg1

      pub second_of : SlotsFit g c (term_at ns p) k xs → SlotsFit g1 c (term_at ns q1) n1 xs
      second_of f = subst (λ j. SlotsFit g1 c (term_at ns q1) j xs) n1_is (subst (λ b. SlotsFit b c (term_at ns q1) (suc k + kept (term_at ns q0)) xs) g1_is (as_if f).1.1.0)

      module _ (n2 : ℕ) (en2 : n2 ≡ n1 + kept (term_at ns q1)) (g2 : Bool) (eg2 : g2 ≡ (g && not truth)) where
        n2_is : suc k + kept (term_at ns q0) + kept (term_at ns q1) ≡ n2
        n2_is = omega arith

        g2_is : (g && not (truth_in (slot_at k xs).1)) ≡ g2
        g2_is = ap (λ b. g && not b) (sym et) ∙ sym eg2

        pub third_of : SlotsFit g c (term_at ns p) k xs → SlotsFit g2 c (term_at ns q2) n2 xs
        third_of f = subst (λ j. SlotsFit g2 c (term_at ns q2) j xs) n2_is (subst (λ b. SlotsFit b c (term_at ns q2) (suc k + kept (term_at ns q0) + kept (term_at ns q1)) xs) g2_is (as_if f).1.1.1)

        pub if_walked : SlotFits g c BoolType k xs → SlotsFit g c (term_at ns q0) (k + 1) xs → SlotsFit g1 c (term_at ns q1) n1 xs → SlotsFit g2 c (term_at ns q2) n2 xs → (n3 : ℕ) → n3 ≡ n2 + kept (term_at ns q2)
            → SlotsFit g c (term_at ns p) k xs × (n3 ≡ k + kept (term_at ns p))
        if_walked o a b d n3 e =
            let e0' : k + 1 ≡ suc k = omega arith in
            let a' : SlotsFit g c (term_at ns q0) (suc k) xs = subst (λ j. SlotsFit g c (term_at ns q0) j xs) e0' a in
            let b' = subst (λ v. SlotsFit v c (term_at ns q1) (suc k + kept (term_at ns q0)) xs) (sym g1_is) (subst (λ j. SlotsFit g1 c (term_at ns q1) j xs) (sym n1_is) b) in
            let d' = subst (λ v. SlotsFit v c (term_at ns q2) (suc k + kept (term_at ns q0) + kept (term_at ns q1)) xs) (sym g2_is) (subst (λ j. SlotsFit g2 c (term_at ns q2) j xs) (sym n2_is) d) in
            let all : SlotsFit g c (If t (term_at ns q0) (term_at ns q1) (term_at ns q2)) k xs = (o, (a', (b', d'))) in
            let long = ap kept term_is in
            let i = n2_is in
            (subst (λ u. SlotsFit g c u k xs) (sym term_is) all, omega (arith, long, e, i))

-- a walk that ends at the last slot
pub ends_whole : (P : Type 0) (n m : ℕ) (r : Option ℕ) → WalkIs P n r → (ends_at m r ≡ true → P × (m ≡ n)) × (P → m ≡ n → ends_at m r ≡ true)
ends_whole P n m None h = (λ e. absurd cc, λ q e. absurd (h q))
ends_whole P n m (Some k) h = (λ e. (h.0, let same : k ≡ m = grind (arith, nat_tests) in sym same ∙ h.1), λ q e. let same : k ≡ m = h.1 ∙ sym e in grind (arith, nat_tests))

-- the value of `main`
module _ (P : Program) (p : IsProgram P) (s : Sort) (t : ValueType) (ks : List ℕ) (h : HasNode P.nodes 0 s t ks) (c : ℕ) (e : c ≡ P.declared.ceiling) (u : LocalType) (f : u ≡ inner t) (v : LocalValue) where
  main_type : u ≡ inner (term_type (unfolding_of P).main)
  main_type = f ∙ ap inner (sym (type_is P.nodes s t ks (term_at P.nodes 0) 0 h p.formed.laid))

  pub fits_main : Fits c u v → FitsMain (unfolding_of P) v
  fits_main q = subst (λ d. Fits d (inner (term_type (unfolding_of P).main)) v) e (subst (λ w. Fits c w v) main_type q)

  pub main_fits : FitsMain (unfolding_of P) v → Fits c u v
  main_fits q = subst (λ w. Fits c w v) (sym main_type) (subst (λ d. Fits d (inner (term_type (unfolding_of P).main)) v) (sym e) q)

-- an export whose slots were walked to the end
module _ (U : Unfolding) (x : FlatExport) (v : FitsMain U x.value) (n : ℕ) (e : n ≡ length x.slots) (r : Option ℕ) (w : WalkIs (SlotsFit true U.declared.ceiling U.main 0 x.slots) (0 + kept U.main) r) where
  pub walked_export : ends_at n r ≡ true → IsExport U x
  walked_export t = let both = (ends_whole _ _ n r w).0 t in let k = both.1 in fit_export U x v both.0 (omega (arith, k, e))

  pub export_walked : IsExport U x → ends_at n r ≡ true
  export_walked h = let f = export_fit U x h in let k = f.2 in (ends_whole _ _ n r w).1 f.1 (omega (arith, k, e))

-- the root
pub root_stands : (P : Program) → IsProgram P → StandsAt P.nodes 0
root_stands P p = record { within = laid_within P.nodes 0 (term_at P.nodes 0) p.formed.laid; laid = p.formed.laid }
