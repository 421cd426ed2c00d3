-- The nodes of a term alone are those of a program.
use Rattle.std.proofs.Common.{◌≡◌, ℕ, zero, suc, ◌<◌, ◌≤◌, ◌+◌, ◌-◌, List, [], ◌∷◌, ◌++◌, length, refl, sym, ◌∙◌, ap, subst, arith, Bool, true, false, Some, nat_eq, nat_lt}
use Rattle.std.specs.Prelude.{option_map, if◌then◌else◌}
use Rattle.std.proofs.lemmas.Bool.Decides.{nat_tests}
use Rattle.std.proofs.Math.Seq.{get_or-append_seam}
use Rattle.std.proofs.lemmas.List.{length-append, get_or_append_left}
use Rattle.std.proofs.lemmas.Option.{slice_get-get_or}
use Rattle.fc_values.specs.declared.builtins.Builtin.TheVariants as op
use Rattle.fc_values.specs.Types.{LocalType, IntType, BoolType, ValueType, TypeLocal, Declarations, type_of as value_type_of}
use Rattle.fc_values.specs.Values.{IntValue, BoolValue}
use Rattle.fc_values.specs.BuiltinTypes.{HasRule, takes_not}
use Rattle.fc_nodes.specs.declared.nodes.Node.{Node}
use Rattle.fc_nodes.specs.Terms.{Literal, ByRep, Term, Terms, Plain, Apply, Nbr, Evolve, If, Let, NoMore, More, term_type, size, sizes, Sort, OfLeaf, OfApply, OfEvolve, OfLet, View, Has, sort_of, view_of, view_at, term_at, HasNode, Laid, AllLaid, Later, KidsLater, WellFormed}
use Rattle.fc_nodes.specs.Typing.{Scope, HasType}
use Rattle.fc_nodes.specs.Program.{Program, IsLawful, IsProgram}
use Rattle.fc_nodes.proofs.Places.{AllAbove, all_above, formed_above, in_range}
use Rattle.fc_nodes.proofs.Kids.{laid_term}
use Rattle.walk_form.specs.declared.forms.Span.{Span}
use Rattle.walk_form.specs.Alone.{nots, filler, alone_term, front_view, alone_view, AreAlone}
use Rattle.walk_form.specs.Spans.{IsSpan}
use Rattle.walk_form.proofs.Parts.{Placed}
use Rattle.walk_form.proofs.Under.{under_size, typed_under}

pub size_nots : (k : ℕ) → size (nots k) ≡ suc k
size_nots zero = refl
size_nots (suc k) = let e = size_nots k in omega (arith, e)

-- the term stands behind the filler
pub filled : (p : ℕ) → 4 ≤ p → suc 0 + size (filler (p - 4)) ≡ p
filled p l = let e = size_nots (p - 4) in omega (arith, e, l)

-- ---- types

nots_type : (k : ℕ) → term_type (nots k) ≡ TypeLocal BoolType
nots_type zero = refl
nots_type (suc k) = refl

not_rule : (t : ValueType) → t ≡ TypeLocal BoolType → HasRule op.Not (t ∷ []) (TypeLocal BoolType)
not_rule t e = subst (λ u. HasRule op.Not (u ∷ []) (TypeLocal BoolType)) (sym e) (record { local = BoolType; takes = takes_not; value = refl })

nots_typed : (D : Declarations) (scope : Scope) (p k : ℕ) → HasType D scope p (nots k)
nots_typed D scope p zero = refl
nots_typed D scope p (suc k) = (not_rule (term_type (nots k)) (nots_type k), (nots_typed D scope (suc p) k, tt))

filler_typed : (D : Declarations) (scope : Scope) (p k : ℕ) → HasType D scope p (filler k)
filler_typed D scope p k = (refl, nots_typed D scope (suc p) k, (refl, omega arith))

pub alone_typed : (D : Declarations) (p : ℕ) (t : Term) → 4 ≤ p → term_type t ≡ TypeLocal IntType → HasType D ((0, TypeLocal IntType) ∷ []) p t → HasType D [] 0 (alone_term p t)
alone_typed D p t l e h =
    (IntType, refl, refl, e, filler_typed D [] 1 (p - 4), subst (λ q. HasType D ((0, TypeLocal IntType) ∷ []) q t) (sym (filled p l)) h)

-- ---- nodes

later_from : (ms : List Node) (p : ℕ) → ((i : ℕ) (s : Sort) (t : ValueType) (ks : List ℕ) → HasNode ms i s t ks → Later (p + i) ks) → KidsLater p ms
later_from [] p h = tt
later_from (n ∷ ms) p h = (
  subst (λ q. Later q n.kids.items) (let e : p + 0 ≡ p = omega arith in e) (h 0 (sort_of n.op) (value_type_of n.ty) n.kids.items refl),
  later_from ms (suc p) (λ i s t ks e. subst (λ q. Later q ks) (let f : p + suc i ≡ suc p + i = omega arith in f) (h (suc i) s t ks e)),
)

view_kids : (s r : Sort) (t u : ValueType) (ks ls : List ℕ) → Has s t ks ≡ Has r u ls → ls ≡ ks
view_kids s r t u ks ls e = cc

some_same : (v w : View) → Some v ≡ Some w → v ≡ w
some_same v w e = cc

module _ (ns ms : List Node) (p end : ℕ) (low : 4 ≤ p) (within : p ≤ end) (above : AllAbove ns) (h : AreAlone ns p end ms) where
  front : (i : ℕ) → i < p → view_at ms i ≡ Some (front_view p i)
  front i l = let e : nat_lt i p ≡ true = grind (arith, l, nat_tests) in h.each i (omega (arith, l, within)) ∙ rw e refl

  behind : (i : ℕ) → p ≤ i → i < end → view_at ms i ≡ view_at ns i
  behind i l k = let e : nat_lt i p ≡ false = grind (arith, l, nat_tests) in h.each i k ∙ rw e refl

  at_not : (i : ℕ) → 2 ≤ i → i + 2 < p → front_view p i ≡ Has (OfApply op.Not) (TypeLocal BoolType) (suc i ∷ [])
  at_not i l k =
      let a : nat_eq i 0 ≡ false = grind (arith, l, nat_tests) in
      let b : nat_eq i 1 ≡ false = grind (arith, l, nat_tests) in
      let c : nat_lt (i + 2) p ≡ true = grind (arith, k, nat_tests) in
      rw (a, b, c) refl

  at_truth : (i : ℕ) → 2 ≤ i → i + 2 ≡ p → front_view p i ≡ Has (OfLeaf (Literal (BoolValue true))) (TypeLocal BoolType) []
  at_truth i l k =
      let a : nat_eq i 0 ≡ false = grind (arith, l, nat_tests) in
      let b : nat_eq i 1 ≡ false = grind (arith, l, nat_tests) in
      let c : nat_lt (i + 2) p ≡ false = grind (arith, k, nat_tests) in
      let d : nat_eq (i + 2) p ≡ true = grind (arith, k, nat_tests) in
      rw (a, b, c, d) refl

  at_number : (i : ℕ) → 2 ≤ i → i + 1 ≡ p → front_view p i ≡ Has (OfLeaf (Literal (IntValue 0))) (TypeLocal IntType) []
  at_number i l k =
      let a : nat_eq i 0 ≡ false = grind (arith, l, nat_tests) in
      let b : nat_eq i 1 ≡ false = grind (arith, l, nat_tests) in
      let c : nat_lt (i + 2) p ≡ false = grind (arith, k, nat_tests) in
      let d : nat_eq (i + 2) p ≡ false = grind (arith, k, nat_tests) in
      rw (a, b, c, d) refl

  nots_laid : (k i : ℕ) → 2 ≤ i → i + k + 2 ≡ p → Laid ms i (nots k)
  nots_laid zero i l e = front i (omega (arith, e)) ∙ ap (λ v. Some v) (at_truth i l (omega (arith, e)))
  nots_laid (suc k) i l e =
      (front i (omega (arith, e)) ∙ ap (λ v. Some v) (at_not i l (omega (arith, e))), (nots_laid k (suc i) (omega (arith, l)) (omega (arith, e)), tt))

  filler_laid : Laid ms 1 (filler (p - 4))
  filler_laid =
      let e = size_nots (p - 4) in
      let last : suc 1 + size (nots (p - 4)) ≡ p - 1 = omega (arith, e, low) in
      let first : view_at ms 1 ≡ Some (Has OfLet (TypeLocal IntType) (2 ∷ (p - 1) ∷ [])) = front 1 (omega (arith, low)) in
      let number : view_at ms (p - 1) ≡ Some (Has (OfLeaf (Literal (IntValue 0))) (TypeLocal IntType) []) =
      front (p - 1) (omega (arith, low)) ∙ ap (λ v. Some v) (at_number (p - 1) (omega (arith, low)) (omega (arith, low))) in (
        subst (λ q. view_at ms 1 ≡ Some (Has OfLet (TypeLocal IntType) (2 ∷ q ∷ []))) (sym last) first,
        nots_laid (p - 4) 2 (omega arith) (omega (arith, low)),
        subst (λ q. HasNode ms q (OfLeaf (Literal (IntValue 0))) (TypeLocal IntType) []) (sym last) number,
      )

  mutual
    moved : (u : Term) (q : ℕ) → p ≤ q → q + size u ≤ end → Laid ns q u → Laid ms q u
    moved (Plain t l) q a b k = behind q a (omega (arith, b)) ∙ k
    moved (Apply t o xs) q a b k = (behind q a (omega (arith, b)) ∙ k.0, moved_all xs (suc q) (omega (arith, a)) (omega (arith, b)) k.1)
    moved (Nbr t u) q a b k = (behind q a (omega (arith, b)) ∙ k.0, moved u (suc q) (omega (arith, a)) (omega (arith, b)) k.1)
    moved (Evolve t e u v) q a b k = (
      behind q a (omega (arith, b)) ∙ k.0,
      moved u (suc q) (omega (arith, a)) (omega (arith, b)) k.1,
      moved v (suc q + size u) (omega (arith, a)) (omega (arith, b)) k.2,
    )
    moved (If t c u v) q a b k = (
      behind q a (omega (arith, b)) ∙ k.0,
      moved c (suc q) (omega (arith, a)) (omega (arith, b)) k.1,
      moved u (suc q + size c) (omega (arith, a)) (omega (arith, b)) k.2,
      moved v (suc q + size c + size u) (omega (arith, a)) (omega (arith, b)) k.3,
    )
    moved (Let t u v) q a b k = (
      behind q a (omega (arith, b)) ∙ k.0,
      moved u (suc q) (omega (arith, a)) (omega (arith, b)) k.1,
      moved v (suc q + size u) (omega (arith, a)) (omega (arith, b)) k.2,
    )

    moved_all : (xs : Terms) (q : ℕ) → p ≤ q → q + sizes xs ≤ end → AllLaid ns q xs → AllLaid ms q xs
    moved_all NoMore q a b k = tt
    moved_all (More x xs) q a b k = (moved x q a (omega (arith, b)) k.0, moved_all xs (q + size x) (omega (arith, a)) (omega (arith, b)) k.1)

  front_later : (i : ℕ) → i < p → (s : Sort) (t : ValueType) (ks : List ℕ) → Has s t ks ≡ front_view p i → Later i ks
  front_later i l s t ks e = by_zero (nat_eq i 0) refl e
    where
      by_truth : (c : Bool) → Has s t ks ≡ (if c then Has (OfLeaf (Literal (BoolValue true))) (TypeLocal BoolType) [] else Has (OfLeaf (Literal (IntValue 0))) (TypeLocal IntType) []) → Later i ks
      by_truth true e = subst (Later i) (view_kids s _ t _ ks [] e) tt
      by_truth false e = subst (Later i) (view_kids s _ t _ ks [] e) tt

      by_not : (c : Bool) → Has s t ks ≡ (if c then Has (OfApply op.Not) (TypeLocal BoolType) (suc i ∷ []) else (if nat_eq (i + 2) p then Has (OfLeaf (Literal (BoolValue true))) (TypeLocal BoolType) [] else Has (OfLeaf (Literal (IntValue 0))) (TypeLocal IntType) [])) → Later i ks
      by_not true e = subst (Later i) (view_kids s _ t _ ks (suc i ∷ []) e) (omega arith, tt)
      by_not false e = by_truth (nat_eq (i + 2) p) e

      by_one : (c : Bool) → nat_eq i 1 ≡ c → Has s t ks ≡ (if c then Has OfLet (TypeLocal IntType) (2 ∷ (p - 1) ∷ []) else (if nat_lt (i + 2) p then Has (OfApply op.Not) (TypeLocal BoolType) (suc i ∷ []) else (if nat_eq (i + 2) p then Has (OfLeaf (Literal (BoolValue true))) (TypeLocal BoolType) [] else Has (OfLeaf (Literal (IntValue 0))) (TypeLocal IntType) []))) → Later i ks
      by_one true k e = let z : i ≡ 1 = grind (arith, k, nat_tests) in subst (Later i) (view_kids s _ t _ ks (2 ∷ (p - 1) ∷ []) e) (omega (arith, z), (omega (arith, z, low), tt))
      by_one false k e = by_not (nat_lt (i + 2) p) e

      by_zero : (c : Bool) → nat_eq i 0 ≡ c → Has s t ks ≡ (if c then Has (OfEvolve ByRep) (TypeLocal IntType) (1 ∷ p ∷ []) else (if nat_eq i 1 then Has OfLet (TypeLocal IntType) (2 ∷ (p - 1) ∷ []) else (if nat_lt (i + 2) p then Has (OfApply op.Not) (TypeLocal BoolType) (suc i ∷ []) else (if nat_eq (i + 2) p then Has (OfLeaf (Literal (BoolValue true))) (TypeLocal BoolType) [] else Has (OfLeaf (Literal (IntValue 0))) (TypeLocal IntType) [])))) → Later i ks
      by_zero true k e = let z : i ≡ 0 = grind (arith, k, nat_tests) in subst (Later i) (view_kids s _ t _ ks (1 ∷ p ∷ []) e) (omega (arith, z), (omega (arith, z, low), tt))
      by_zero false k e = by_one (nat_eq i 1) refl e

  kids_later : (i : ℕ) (s : Sort) (t : ValueType) (ks : List ℕ) → HasNode ms i s t ks → Later i ks
  kids_later i s t ks e = by_test (nat_lt i p) refl
    where
      by_test : (c : Bool) → nat_lt i p ≡ c → Later i ks
      by_test true k = let l : i < p = grind (arith, k, nat_tests) in front_later i l s t ks (some_same _ _ (sym e ∙ front i l))
      by_test false k =
          let l : p ≤ i = grind (arith, k, nat_tests) in
          let r = in_range ms i _ e in
          let m = h.many in
          above.above i s t ks (sym (behind i l (omega (arith, r, m))) ∙ e)

  alone_later : KidsLater 0 ms
  alone_later = later_from ms 0 (λ i s t ks e. let z : 0 + i ≡ i = omega arith in subst (λ q. Later q ks) (sym z) (kids_later i s t ks e))

  module _ (t : Term) (laid : Laid ns p t) (long : end ≡ p + size t) where
    alone_laid : Laid ms 0 (alone_term p t)
    alone_laid =
        let f = filled p low in
        let root : view_at ms 0 ≡ Some (Has (OfEvolve ByRep) (TypeLocal IntType) (1 ∷ p ∷ [])) = front 0 (omega (arith, low)) in (
          subst (λ q. view_at ms 0 ≡ Some (Has (OfEvolve ByRep) (TypeLocal IntType) (1 ∷ q ∷ []))) (sym f) root,
          filler_laid,
          subst (λ q. Laid ms q t) (sym f) (moved t p (omega arith) (omega (arith, long)) laid),
        )

    pub alone_main : term_at ms 0 ≡ alone_term p t
    alone_main = laid_term ms (all_above ms alone_later) (alone_term p t) 0 alone_laid

    pub alone_formed : WellFormed ms
    alone_formed = record {
      later = alone_later;
      laid = subst (Laid ms 0) (sym alone_main) alone_laid;
      whole = let f = filled p low in let m = h.many in let z : length ms ≡ size (alone_term p t) = omega (arith, f, m, long) in z ∙ ap size (sym alone_main);
    }

-- one node more
pub alone_more : (ns : List Node) (p end : ℕ) (ms new : List Node) (n : Node) → AreAlone ns p end ms → Some (view_of n) ≡ alone_view ns p end → new ≡ ms ++ n ∷ []
    → AreAlone ns p (end + 1) new
alone_more ns p end ms new n h e q = subst (AreAlone ns p (end + 1)) (sym q) (record {
  many = let l = length-append ms (n ∷ []) in let m = h.many in omega (arith, l, m);
  each = λ i l. by_test i l (nat_lt i end) refl;
})
  where
    longer : length (ms ++ n ∷ []) ≡ length ms + 1
    longer = length-append ms (n ∷ [])

    front : (i : ℕ) → i < length ms → view_at (ms ++ n ∷ []) i ≡ view_at ms i
    front i l = ap (option_map view_of) (slice_get-get_or (ms ++ n ∷ []) i n (omega (arith, l, longer)) ∙ ap Some (get_or_append_left ms (n ∷ []) n i l) ∙ sym (slice_get-get_or ms i n l))

    last : view_at (ms ++ n ∷ []) (length ms) ≡ Some (view_of n)
    last = ap (option_map view_of) (slice_get-get_or (ms ++ n ∷ []) (length ms) n (omega (arith, longer)) ∙ ap Some (get_or-append_seam ms n [] n))

    by_test : (i : ℕ) → i < end + 1 → (c : Bool) → nat_lt i end ≡ c → view_at (ms ++ n ∷ []) i ≡ alone_view ns p i
    by_test i l true t = let k : i < end = grind (arith, t, nat_tests) in let m = h.many in front i (omega (arith, k, m)) ∙ h.each i k
    by_test i l false t =
        let k : end ≤ i = grind (arith, t, nat_tests) in
        let m = h.many in
        let z : length ms ≡ i = omega (arith, k, l, m) in
        let y : end ≡ i = omega (arith, k, l) in
        subst (λ x. view_at (ms ++ n ∷ []) x ≡ Some (view_of n)) z last ∙ e ∙ ap (alone_view ns p) y

-- the nodes end within those of the program
pub ends_within : (P : Program) (s : Span) → IsProgram P → IsSpan P.nodes s → Placed P s.from (term_at P.nodes s.from) → s.end ≤ length P.nodes
ends_within P s is span h =
    let u = (under_size (suc 0 + size h.start) h.body s.from (term_at P.nodes s.from) h.stands).1 in
    let w = is.formed.whole ∙ ap size h.main in
    let e = span.end in
    omega (arith, u, w, e)

pub is_alone : (P : Program) (s : Span) (ms : List Node) (D : Declarations) → IsProgram P → D ≡ P.declared → IsSpan P.nodes s → Placed P s.from (term_at P.nodes s.from)
    → AreAlone P.nodes s.from s.end ms → IsProgram (record { declared = D; nodes = ms }) × (term_at ms 0 ≡ alone_term s.from (term_at P.nodes s.from))
is_alone P s ms D is same span h alone =
    let t = term_at P.nodes s.from in
    let e = span.end in
    let main = alone_main P.nodes ms s.from s.end h.low (omega (arith, e)) (formed_above P.nodes is.formed) alone t span.stands.laid e in
    let ty = subst (HasType P.declared [] 0) h.main is.typed in
    let body : HasType P.declared ((0, TypeLocal IntType) ∷ []) (suc 0 + size h.start) h.body = body_typed h.start h.body ty in
    let typed = alone_typed P.declared s.from t h.low h.type (typed_under P.declared ((0, TypeLocal IntType) ∷ []) (suc 0 + size h.start) h.body s.from t h.stands body) in (
      record {
        lawful = subst (λ d. IsLawful d) (sym same) is.lawful;
        formed = alone_formed P.nodes ms s.from s.end h.low (omega (arith, e)) (formed_above P.nodes is.formed) alone t span.stands.laid e;
        typed = subst (λ d. HasType d [] 0 (term_at ms 0)) (sym same) (subst (HasType P.declared [] 0) (sym main) typed);
        root = (IntType, ap term_type main);
        short = let w = ends_within P s is span h in let m = alone.many in let z = is.short in omega (arith, w, m, z);
      },
      main,
    )
  where
    local_same : (s t : LocalType) → TypeLocal s ≡ TypeLocal t → s ≡ t
    local_same s t e = cc

    body_typed : (a b : Term) → HasType P.declared [] 0 (Evolve (TypeLocal IntType) ByRep a b) → HasType P.declared ((0, TypeLocal IntType) ∷ []) (suc 0 + size a) b
    body_typed a b k = subst (λ r. HasType P.declared ((0, TypeLocal r) ∷ []) (suc 0 + size a) b) (sym (local_same IntType k.0 k.1)) k.5
