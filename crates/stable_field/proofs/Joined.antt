-- A builtin of two terms of local type, from the values of these at all devices.
use Rattle.std.proofs.Common.{◌≡◌, ℕ, suc, ◌+◌, List, [], ◌∷◌, ◌++◌, length, map, get_or, refl, sym, ◌∙◌, ap, subst, arith, Bool, true, false, ◌||◌, nat_eq, Option, Some}
use Rattle.std.proofs.Common.{Vec, Global}
use Rattle.std.proofs.lemmas.Bool.{eq-eqb}
use Rattle.fc_values.specs.declared.values.Local.{Local}
use Rattle.fc_values.specs.declared.builtins.Builtin.{Builtin}
use Rattle.fc_values.specs.declared.types.LocalTy.{LocalTy}
use Rattle.fc_values.specs.declared.types.Ty.TheVariants as ty
use Rattle.fc_values.specs.Types.{LocalType, ValueType, TypeLocal, TypeField, Declarations, local_type_of, type_of as value_type_of}
use Rattle.fc_values.specs.Values.{LocalValue, Fits}
use Rattle.fc_values.specs.Fields.{AnyValue, ValueLocal, ValueField, Entries, FitsOver, FitEachOver, Rises, devices, entry_of, is_in}
use Rattle.fc_values.proofs.BuiltinTyped.{builtin_typed}
use Rattle.fc_nodes.specs.Terms.{Term, Apply, NoMore, More, term_type, size, Sort, OfLeaf, OfApply, OfNbr, OfEvolve, OfIf, OfLet, Has, view_of, view_at, sort_of, term_by, term_at, HasNode}
use Rattle.fc_nodes.specs.declared.nodes.Node.{Node}
use Rattle.fc_nodes.specs.declared.nodes.Op.{Op}
use Rattle.fc_nodes.specs.declared.nodes.Op.TheVariants as op
use Rattle.fc_nodes.specs.Typing.{HasType}
use Rattle.fc_nodes.specs.Places.{StandsAt}
use Rattle.fc_nodes.specs.Program.{Program, Unfolding, IsProgram}
use Rattle.fc_nodes.proofs.Places.{formed_above, term_is}
use Rattle.fc_nodes.proofs.Kids.{apply_laid, kids_stand}
use Rattle.value_trees.specs.Copies.{WhereSome}
use Rattle.topology.specs.Networks.{Network, IsNetwork, Lives, lives, numbers}
use Rattle.interval_facts.specs.Solutions.{In, around, no_binders, local_map, Solves, SolveAll}
use Rattle.interval_facts.proofs.Claims.{fits_of}
use Rattle.converge_laws.specs.Stabilising.{HasOneSolution}
use Rattle.closed_terms.specs.Parts.{IsClosedTerm}
use Rattle.stable_field.specs.declared.terms.ClosedProgram.{ClosedProgram}
use Rattle.stable_field.specs.Stable.{IsStableField}
use Rattle.stable_field.specs.Columns.{IsColumn, IsKnown, AllKnown, IsJoin, value_of_two, joined_value, HasLocal, HaveLocal, joined_entries}
use Rattle.stable_field.proofs.Firings.{devices_are}

pub in_some : {X : Type 0} (Q : X → Type 0) (o : Option X) (x : X) → o ≡ Some x → WhereSome Q o → Q x
in_some Q o x e w = subst (WhereSome Q) e w

-- a column that was found, as a slice
pub read_column : (N : Network) (p : ℕ) (t : Term) (o : Option (Vec (ℕ × Local) Global)) (v : Vec (ℕ × Local) Global) (xs : List (ℕ × Local)) → o ≡ Some v → xs ≡ v.items
    → WhereSome (λ (w : Vec (ℕ × Local) Global). IsColumn N p t (map entry_of w.items)) o → IsColumn N p t (map entry_of xs)
read_column N p t o v xs e q w =
    subst (λ (ys : List (ℕ × Local)). IsColumn N p t (map entry_of ys)) (sym q) (in_some (λ (z : Vec (ℕ × Local) Global). IsColumn N p t (map entry_of z.items)) o v e w)

or_true : (b c : Bool) → c ≡ true → (b || c) ≡ true
or_true true c e = refl
or_true false c e = e

-- ---- columns

-- the column of `main` has the values of the one field
module _ (U : Unfolding) (N : Network) (one : HasOneSolution U N) (es : Entries) (c : IsColumn N 0 U.main es) where
  same_field : (ds : List ℕ) → ((d : ℕ) → is_in d ds ≡ true → Lives N d) → map {B = ℕ × LocalValue} (λ (d : ℕ). (d, c.field d)) ds ≡ map {B = ℕ × LocalValue} (λ (d : ℕ). (d, one.field d)) ds
  same_field [] live = refl
  same_field (d ∷ ds) live =
      let q = one.only c.field c.solves d (live d (let t = eq-eqb d d refl in rw t refl)) in
      let r = same_field ds (λ n i. live n (or_true (nat_eq n d) (is_in n ds) i)) in
      rw (q, r) refl

  pub stable_column : IsStableField U N es
  stable_column = record { one = one; values = c.values ∙ same_field (numbers N.devices) (λ d i. i) }

pub column_rises : (U : Unfolding) (N : Network) (es : Entries) → IsNetwork N → IsStableField U N es → Rises (devices es)
column_rises U N es net s = subst Rises (sym (ap devices s.values ∙ devices_are s.one.field (numbers N.devices))) net.rising

pub one_known : (D : Declarations) (N : Network) (ks : List ClosedProgram) (k : ClosedProgram) → AllKnown D N ks → IsKnown D N k → AllKnown D N (ks ++ k ∷ [])
one_known D N [] k a h = (h, tt)
one_known D N (j ∷ ks) k a h = (a.0, one_known D N ks k a.1 h)

-- ---- terms

module _ (P : Program) (p end : ℕ) (t : IsClosedTerm P p end) (o : Builtin) (a b : ℕ) (j : IsJoin P p o a b) where
  abbrev x : Term
  x = term_at P.nodes a

  abbrev y : Term
  y = term_at P.nodes b

  typed : HasType P.declared [] p (Apply j.type o (More x (More y NoMore)))
  typed = subst (HasType P.declared [] p) j.term t.closed

  long : end ≡ p + size (Apply j.type o (More x (More y NoMore)))
  long = t.ends ∙ ap (λ u. p + size u) j.term

  pub first_term : IsClosedTerm P a b
  first_term = record {
    stands = j.first;
    closed = subst (λ q. HasType P.declared [] q x) (sym j.first_is) typed.1.0;
    local = j.first_local;
    ends = let e = j.first_is in let f = j.second_is in omega (arith, e, f);
    within = let f = j.second_is in let l = long in let w = t.within in omega (arith, f, l, w);
  }

  pub second_term : IsClosedTerm P b end
  second_term = record {
    stands = j.second;
    closed = subst (λ q. HasType P.declared [] q y) (sym j.second_is) typed.1.1.0;
    local = j.second_local;
    ends = let f = j.second_is in let l = long in omega (arith, f, l);
    within = t.within;
  }

  type_local : j.type ≡ TypeLocal t.local.0
  type_local = sym (ap term_type j.term) ∙ t.local.1

  module _ (N : Network) (es fs : Entries) (ca : IsColumn N a x es) (cb : IsColumn N b y fs) where
    abbrev M : ℕ
    M = N.declared.ceiling

    abbrev H : ℕ → LocalValue
    H d = joined_value o M d (ca.field d) (cb.field d)

    anywhere : (ds : List ℕ) (u : ValueType) (s : LocalType) (v : LocalValue) → u ≡ TypeLocal s → FitsOver M ds u (ValueLocal v) → FitsOver M [] u (ValueLocal v)
    anywhere ds (TypeLocal r) s v e h = h
    anywhere ds (TypeField r) s v e h = absurd h

    by_value : (d : ℕ) (v : AnyValue) → value_of_two o M d (ca.field d) (cb.field d) ≡ Some v → FitsOver M [] (TypeLocal t.local.0) v → HasLocal o M d (ca.field d) (cb.field d) × Fits M t.local.0 (H d)
    by_value d (ValueLocal v) q f = (rw q refl, rw q f)
    by_value d (ValueField v) q f = absurd f

    made : (d : ℕ) → In (lives N) d → HasLocal o M d (ca.field d) (cb.field d) × Fits M t.local.0 (H d)
    made d i =
        let fa = anywhere (around N (lives N) d) (term_type x) j.first_local.0 (ca.field d) j.first_local.1 (fits_of N x a (lives N) no_binders (local_map ca.field) ca.solves d i) in
        let fb = anywhere (around N (lives N) d) (term_type y) j.second_local.0 (cb.field d) j.second_local.1 (fits_of N y b (lives N) no_binders (local_map cb.field) cb.solves d i) in
        let rest : FitEachOver M [] (term_type y ∷ []) (ValueLocal (cb.field d) ∷ []) = (fb, tt) in
        let h = builtin_typed o M d [] (term_type x ∷ term_type y ∷ []) j.type (ValueLocal (ca.field d) ∷ ValueLocal (cb.field d) ∷ []) typed.0 refl (fa, rest) in
        by_value d h.0 h.1 (subst (λ u. FitsOver M [] u h.0) type_local h.2)

    solves : Solves N p (Apply j.type o (More x (More y NoMore))) (lives N) no_binders (local_map H)
    solves =
        let rest : SolveAll N (suc p + size x) (More y NoMore) (lives N) no_binders (local_map cb.field ∷ []) =
        (subst (λ q. Solves N q y (lives N) no_binders (local_map cb.field)) j.second_is cb.solves, tt) in (
          (λ d i. subst (λ u. FitsOver M (around N (lives N) d) u (ValueLocal (H d))) (sym type_local) (made d i).1),
          (local_map ca.field ∷ local_map cb.field ∷ []),
          (subst (λ q. Solves N q x (lives N) no_binders (local_map ca.field)) j.first_is ca.solves, rest),
          (λ d i. (made d i).0),
        )

    all_joined : (ds : List ℕ) → joined_entries o M (map (λ (d : ℕ). (d, ca.field d)) ds) (map (λ (d : ℕ). (d, cb.field d)) ds) ≡ map (λ (d : ℕ). (d, H d)) ds
    all_joined [] = refl
    all_joined (d ∷ ds) = ap (λ r. (d, H d) ∷ r) (all_joined ds)

    all_have : (ds : List ℕ) → ((d : ℕ) → is_in d ds ≡ true → Lives N d) → HaveLocal o M (map (λ (d : ℕ). (d, ca.field d)) ds) (map (λ (d : ℕ). (d, cb.field d)) ds)
    all_have [] live = tt
    all_have (d ∷ ds) live = (
      (made d (live d (let t = eq-eqb d d refl in rw t refl))).0,
      all_have ds (λ n i. live n (or_true (nat_eq n d) (is_in n ds) i)),
    )

    module _ (c : ℕ) (e : c ≡ M) where
      pub have_local : HaveLocal o c es fs
      have_local =
          subst (λ k. HaveLocal o k es fs) (sym e)
          (subst (λ r. HaveLocal o M es r) (sym cb.values) (subst (λ r. HaveLocal o M r (map (λ (d : ℕ). (d, cb.field d)) (numbers N.devices))) (sym ca.values) (all_have (numbers N.devices) (λ d i. i))))

      pub joined_column : (gs : Entries) → gs ≡ joined_entries o c es fs → IsColumn N p (term_at P.nodes p) gs
      joined_column gs q = record {
        field = H;
        values = q ∙ ap (λ k. joined_entries o k es fs) e ∙ ap (λ r. joined_entries o M r fs) ca.values
            ∙ ap (joined_entries o M (map (λ (d : ℕ). (d, ca.field d)) (numbers N.devices))) cb.values ∙ all_joined (numbers N.devices);
        solves = subst (λ u. Solves N p u (lives N) no_binders (local_map H)) (sym j.term) solves;
      }

-- ---- a node with two kids of local type

of_type : (go : ℕ → Term) (s : Sort) (t : ValueType) (ks : List ℕ) → term_type (term_by go s t ks) ≡ t
of_type go (OfLeaf l) t ks = refl
of_type go (OfApply o) t ks = refl
of_type go OfNbr t [] = refl
of_type go OfNbr t (a ∷ []) = refl
of_type go OfNbr t (a ∷ b ∷ ks) = refl
of_type go (OfEvolve e) t [] = refl
of_type go (OfEvolve e) t (a ∷ []) = refl
of_type go (OfEvolve e) t (a ∷ b ∷ []) = refl
of_type go (OfEvolve e) t (a ∷ b ∷ c ∷ ks) = refl
of_type go OfIf t [] = refl
of_type go OfIf t (a ∷ []) = refl
of_type go OfIf t (a ∷ b ∷ []) = refl
of_type go OfIf t (a ∷ b ∷ c ∷ []) = refl
of_type go OfIf t (a ∷ b ∷ c ∷ d ∷ ks) = refl
of_type go OfLet t [] = refl
of_type go OfLet t (a ∷ []) = refl
of_type go OfLet t (a ∷ b ∷ []) = refl
of_type go OfLet t (a ∷ b ∷ c ∷ ks) = refl

pub node_type : (P : Program) → IsProgram P → (p : ℕ) (s : Sort) (t : ValueType) (ks : List ℕ) → HasNode P.nodes p s t ks → term_type (term_at P.nodes p) ≡ t
node_type P program p s t ks h = ap term_type (term_is P.nodes (formed_above P.nodes program.formed) p s t ks h) ∙ of_type (term_at P.nodes) s t ks

module _ (P : Program) (program : IsProgram P) (p : ℕ) (st : StandsAt P.nodes p) (o : Builtin) (t : ValueType) (ks : List ℕ) (h : HasNode P.nodes p (OfApply o) t ks) (a b : ℕ) (e : ks ≡ a ∷ b ∷ []) where
  two : HasNode P.nodes p (OfApply o) t (a ∷ b ∷ [])
  two = subst (HasNode P.nodes p (OfApply o) t) e h

  pub first_stands : StandsAt P.nodes a
  first_stands = (kids_stand P.nodes (formed_above P.nodes program.formed) p st (OfApply o) t (a ∷ b ∷ []) two).1

  pub second_stands : StandsAt P.nodes b
  second_stands = (kids_stand P.nodes (formed_above P.nodes program.formed) p st (OfApply o) t (a ∷ b ∷ []) two).2.1

  pub is_join : (s : LocalType) → term_type (term_at P.nodes a) ≡ TypeLocal s → (r : LocalType) → term_type (term_at P.nodes b) ≡ TypeLocal r → IsJoin P p o a b
  is_join s f r g =
      let k = apply_laid P.nodes (formed_above P.nodes program.formed) p o t (a ∷ b ∷ []) two st.laid in
      let q = k.stand_at in
      let qa : a ≡ suc p = cc in
      let qb : b ≡ suc p + size (term_at P.nodes a) = cc in
      record {
        type = t;
        term = k.term;
        first_is = qa;
        second_is = qb;
        first = first_stands;
        second = second_stands;
        first_local = (s, f);
        second_local = (r, g);
      }

pub apply_node : (ns : List Node) (p : ℕ) (n : Node) (o : Builtin) → n.op ≡ op.Apply o → view_at ns p ≡ Some (view_of n) → HasNode ns p (OfApply o) (value_type_of n.ty) n.kids.items
apply_node ns p n o e h = h ∙ ap (λ (x : Op). Some (Has (sort_of x) (value_type_of n.ty) n.kids.items)) e

pub local_node : (P : Program) → IsProgram P → (p : ℕ) (n : Node) (x : LocalTy) → n.ty ≡ ty.Local x → view_at P.nodes p ≡ Some (view_of n) → (s : LocalType) × (term_type (term_at P.nodes p) ≡ TypeLocal s)
local_node P program p n x e h = (local_type_of x, node_type P program p (sort_of n.op) (value_type_of n.ty) n.kids.items h ∙ ap value_type_of e)

-- a list of two
pub of_two : (xs : List ℕ) (a b : ℕ) → length xs ≡ 2 → a ≡ get_or xs 0 a → b ≡ get_or xs 1 b → xs ≡ a ∷ b ∷ []
of_two [] a b l e f = absurd (omega (arith, l))
of_two (x ∷ []) a b l e f = absurd (omega (arith, l))
of_two (x ∷ y ∷ []) a b l e f = rw (e, f) refl
of_two (x ∷ y ∷ z ∷ xs) a b l e f = absurd (omega (arith, l))
