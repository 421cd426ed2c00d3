-- Nodes behind others, as they are written form by form.
use Rattle.std.proofs.Common.{◌≡◌, refl, sym, ap, ◌∙◌, ℕ, suc, ◌+◌, arith, List, [], ◌∷◌, ◌++◌, length, map, take, append_assoc, append-nil}
use Rattle.std.specs.Prelude.{slice_set}
use Rattle.std.proofs.lemmas.List.{length-map}
use Rattle.fc_values.specs.declared.builtins.Builtin.{Builtin}
use Rattle.fc_values.specs.declared.types.Ty.{Ty}
use Rattle.fc_values.specs.Types.{ValueType, TypeField, type_of}
use Rattle.fc_values.specs.BuiltinTypes.{inner}
use Rattle.fc_syntax.specs.Terms.{SourceTerm, SourceTerms, NoTerms, MoreTerms, ApplyTerm, NbrTerm, IfTerm, LetTerm}
use Rattle.fc_types.specs.Before.{Earlier}
use Rattle.fc_types.specs.Judging.{judge_builtin}
use Rattle.fc_nodes.specs.declared.nodes.Node.{Node}
use Rattle.fc_nodes.specs.Terms.{Term, Evolution, size, View, Has, Sort, OfApply, OfNbr, OfEvolve, OfIf, OfLet, places, view_of, term_type}
use Rattle.fc_nodes.specs.Typing.{types_of}
use Rattle.unfold.specs.Nodes.{listed, all_listed}
use Rattle.unfold.specs.Counting.{count}
use Rattle.unfold.specs.Unfolding.{NamesInScope, with_binder, variable_type, type_given, evolve_term}
use Rattle.unfold.specs.Views.{counted}
use Rattle.unfold.specs.Writing.{IsWritten, first_meanings, unfolded_in, all_unfolded_in}
use Rattle.unfold.proofs.Sizes.{unfolded_size, counts_are}

-- what is set behind others
set_behind : (xs ys : List View) (v w : View) → slice_set (xs ++ v ∷ ys) (length xs) w ≡ xs ++ w ∷ ys
set_behind [] ys v w = refl
set_behind (x ∷ xs) ys v w = ap (λ (l : List View). x ∷ l) (set_behind xs ys v w)

set_before : (V0 V1 V2 V3 : List View) (v w : View) (place : ℕ) (xs : List View) → place ≡ length V0 → V1 ≡ V0 ++ v ∷ [] → V2 ≡ V1 ++ xs → V3 ≡ slice_set V2 place w → V3 ≡ V0 ++ w ∷ xs
set_before V0 V1 V2 V3 v w place xs p e f g =
    let long : V2 ≡ V0 ++ v ∷ xs = f ∙ ap (λ (l : List View). l ++ xs) e ∙ append_assoc V0 (v ∷ []) xs in
    g ∙ ap (λ (l : List View). slice_set l place w) long ∙ ap (λ (n : ℕ). slice_set (V0 ++ v ∷ xs) n w) p ∙ set_behind V0 xs v w

pub two_behind : (V1 V2 V3 xs ys : List View) → V2 ≡ V1 ++ xs → V3 ≡ V2 ++ ys → V3 ≡ V1 ++ (xs ++ ys)
two_behind V1 V2 V3 xs ys e f = f ∙ ap (λ (l : List View). l ++ ys) e ∙ append_assoc V1 xs ys

-- one kid, two kids and three kids behind a node
module _ (N0 N1 : List Node) (v : View) (s : Sort) (place : ℕ) (p : place ≡ length N0) (more : length N1 ≡ length N0 + 1) (begun : map view_of N1 ≡ map view_of N0 ++ v ∷ []) where
  here : place ≡ length (map view_of N0)
  here = p ∙ sym (length-map N0 view_of)

  next : length N1 ≡ suc (length N0)
  next = omega (arith, more)

  pub one_kid : (A : ℕ → Term) (N2 N3 : List Node) (t : ValueType) (kids : List ℕ) → map view_of N2 ≡ map view_of N1 ++ listed (length N1) (A (length N1)) → kids ≡ (place + 1) ∷ [] →
      map view_of N3 ≡ slice_set (map view_of N2) place (Has s t kids) → map view_of N3 ≡ map view_of N0 ++ Has s t (suc (length N0) ∷ []) ∷ listed (suc (length N0)) (A (suc (length N0)))
  one_kid A N2 N3 t kids e k f =
      let e' = rw next at e in
      let k' : kids ≡ suc (length N0) ∷ [] = k ∙ ap (λ (n : ℕ). n ∷ []) (omega (arith, p)) in
      let g = set_before (map view_of N0) (map view_of N1) (map view_of N2) (map view_of N3) v (Has s t kids) place (listed (suc (length N0)) (A (suc (length N0)))) here begun e' f in
      rw k' at g

  pub two_kids : (A G : ℕ → Term) (N2 N3 N4 : List Node) (t : ValueType) (kids : List ℕ) (second : ℕ) →
      length N2 ≡ length N1 + size (A (length N1)) → map view_of N2 ≡ map view_of N1 ++ listed (length N1) (A (length N1)) → map view_of N3 ≡ map view_of N2 ++ listed (length N2) (G (length N2)) →
      second ≡ length N2 → kids ≡ (place + 1) ∷ second ∷ [] → map view_of N4 ≡ slice_set (map view_of N3) place (Has s t kids) →
      map view_of N4 ≡ map view_of N0 ++ Has s t (suc (length N0) ∷ (suc (length N0) + size (A (suc (length N0)))) ∷ []) ∷
      (listed (suc (length N0)) (A (suc (length N0))) ++ listed (suc (length N0) + size (A (suc (length N0)))) (G (suc (length N0) + size (A (suc (length N0))))))
  two_kids A G N2 N3 N4 t kids second l e e2 q k f =
      let a = A (suc (length N0)) in
      let l' : length N2 ≡ suc (length N0) + size a = rw next at l in
      let e' : map view_of N2 ≡ map view_of N1 ++ listed (suc (length N0)) a = rw next at e in
      let e2' : map view_of N3 ≡ map view_of N2 ++ listed (suc (length N0) + size a) (G (suc (length N0) + size a)) = rw l' at e2 in
      let first : place + 1 ≡ suc (length N0) = omega (arith, p) in
      let k' : kids ≡ suc (length N0) ∷ (suc (length N0) + size a) ∷ [] = k ∙ ap (λ (n : ℕ). n ∷ second ∷ []) first ∙ ap (λ (n : ℕ). suc (length N0) ∷ n ∷ []) (q ∙ l') in
      let both = two_behind (map view_of N1) (map view_of N2) (map view_of N3) (listed (suc (length N0)) a) (listed (suc (length N0) + size a) (G (suc (length N0) + size a))) e' e2' in
      let g = set_before (map view_of N0) (map view_of N1) (map view_of N3) (map view_of N4) v (Has s t kids) place _ here begun both f in
      rw k' at g

  pub three_kids : (A G H : ℕ → Term) (N2 N3 N4 N5 : List Node) (t : ValueType) (kids : List ℕ) (second third : ℕ) →
      length N2 ≡ length N1 + size (A (length N1)) → map view_of N2 ≡ map view_of N1 ++ listed (length N1) (A (length N1)) →
      length N3 ≡ length N2 + size (G (length N2)) → map view_of N3 ≡ map view_of N2 ++ listed (length N2) (G (length N2)) →
      map view_of N4 ≡ map view_of N3 ++ listed (length N3) (H (length N3)) →
      second ≡ length N2 → third ≡ length N3 → kids ≡ (place + 1) ∷ second ∷ third ∷ [] → map view_of N5 ≡ slice_set (map view_of N4) place (Has s t kids) →
      (q r : ℕ) → q ≡ suc (length N0) + size (A (suc (length N0))) → r ≡ q + size (G q) →
      map view_of N5 ≡ map view_of N0 ++ Has s t (suc (length N0) ∷ q ∷ r ∷ []) ∷ (listed (suc (length N0)) (A (suc (length N0))) ++ listed q (G q) ++ listed r (H r))
  three_kids A G H N2 N3 N4 N5 t kids second third l e l2 e2 e3 m m2 k f q r q-is r-is =
      let a = A (suc (length N0)) in
      let l' : length N2 ≡ q = (rw next at l) ∙ sym q-is in
      let e' : map view_of N2 ≡ map view_of N1 ++ listed (suc (length N0)) a = rw next at e in
      let l2' : length N3 ≡ r = (rw l' at l2) ∙ sym r-is in
      let e2' : map view_of N3 ≡ map view_of N2 ++ listed q (G q) = rw l' at e2 in
      let e3' : map view_of N4 ≡ map view_of N3 ++ listed r (H r) = rw l2' at e3 in
      let first : place + 1 ≡ suc (length N0) = omega (arith, p) in
      let k' : kids ≡ suc (length N0) ∷ q ∷ r ∷ [] =
      k ∙ ap (λ (n : ℕ). n ∷ second ∷ third ∷ []) first ∙ ap (λ (n : ℕ). suc (length N0) ∷ n ∷ third ∷ []) (m ∙ l') ∙ ap (λ (n : ℕ). suc (length N0) ∷ q ∷ n ∷ []) (m2 ∙ l2') in
      let two = two_behind (map view_of N1) (map view_of N2) (map view_of N3) (listed (suc (length N0)) a) (listed q (G q)) e' e2' in
      let all = two_behind (map view_of N1) (map view_of N3) (map view_of N4) (listed (suc (length N0)) a ++ listed q (G q)) (listed r (H r)) two e3' in
      let g = set_before (map view_of N0) (map view_of N1) (map view_of N4) (map view_of N5) v (Has s t kids) place _ here begun all f in
      rw k' at g

-- a term has the counted size
pub size_is : (B : Earlier) (n : ℕ) (S : NamesInScope) (p : ℕ) (e : SourceTerm) → size (unfolded_in B n S p e) ≡ count (counted B n) e
size_is B n S p e = unfolded_size B.inputs (first_meanings B n) (counted B n) (counts_are B.inputs [] [] (take n B.functions) tt) e S p

module _ (B : Earlier) (n : ℕ) (S : NamesInScope) (N0 N1 : List Node) (v : View) (place : ℕ) (p : place ≡ length N0) (more : length N1 ≡ length N0 + 1) (begun : map view_of N1 ≡ map view_of N0 ++ v ∷ []) where
  after : length N1 ≡ suc (length N0)
  after = omega (arith, more)

  at_first : (e : SourceTerm) (N2 : List Node) (start : Ty) → IsWritten N1 N2 start (unfolded_in B n S (length N1) e) → type_of start ≡ term_type (unfolded_in B n S (suc (length N0)) e)
  at_first e N2 start w = let t = w.type in rw after at t

  longer : (T : NamesInScope) (q : ℕ) (e : SourceTerm) (m k : ℕ) → m ≡ k + count (counted B n) e → m ≡ k + size (unfolded_in B n T q e)
  longer T q e m k l = let s = size_is B n T q e in omega (arith, s, l)

  pub nbr_written : (e : SourceTerm) (N2 N3 : List Node) (inside t ct : Ty) (kids : List ℕ) → IsWritten N1 N2 inside (unfolded_in B n S (length N1) e) →
      type_of t ≡ TypeField (inner (type_of inside)) → type_of ct ≡ type_of t → kids ≡ (place + 1) ∷ [] →
      map view_of N3 ≡ slice_set (map view_of N2) place (Has OfNbr (type_of ct) kids) → IsWritten N0 N3 t (unfolded_in B n S (length N0) (NbrTerm e))
  nbr_written e N2 N3 inside t ct kids w f c k g =
      let i = at_first e N2 inside w in
      let f' : type_of t ≡ TypeField (inner (term_type (unfolded_in B n S (suc (length N0)) e))) = f ∙ ap (λ u. TypeField (inner u)) i in
      let g' = one_kid N0 N1 v OfNbr place p more begun (λ q. unfolded_in B n S q e) N2 N3 (type_of ct) kids w.nodes k g in
      let c' = c ∙ f' in
      record { nodes = rw c' at g'; type = f' }

  pub evolve_written : (w : Evolution) (x : List ℕ) (e b : SourceTerm) (N2 N3 N4 : List Node) (start end ct : Ty) (bt : ValueType) (second : ℕ) (kids : List ℕ) →
      length N2 ≡ length N1 + count (counted B n) e → IsWritten N1 N2 start (unfolded_in B n S (length N1) e) →
      bt ≡ variable_type w (type_of start) → IsWritten N2 N3 end (unfolded_in B n (with_binder x place bt S) (length N2) b) →
      second ≡ length N2 → type_of ct ≡ type_of start → kids ≡ (place + 1) ∷ second ∷ [] →
      map view_of N4 ≡ slice_set (map view_of N3) place (Has (OfEvolve w) (type_of ct) kids) →
      IsWritten N0 N4 start (evolve_term w x S (length N0) (unfolded_in B n S (suc (length N0)) e) (λ inner q. unfolded_in B n inner q b))
  evolve_written w x e b N2 N3 N4 start end ct bt second kids l h v' i q c k g =
      let t = at_first e N2 start h in
      let a = unfolded_in B n S (suc (length N0)) e in
      let bt' : bt ≡ variable_type w (type_of start) = v' in
      let bound : with_binder x place bt S ≡ with_binder x (length N0) (variable_type w (term_type a)) S =
      ap (λ (m : ℕ). with_binder x m bt S) p ∙ ap (λ (u : ValueType). with_binder x (length N0) u S) (v' ∙ ap (variable_type w) t) in
      let i' : map view_of N3 ≡ map view_of N2 ++ listed (length N2) (unfolded_in B n (with_binder x (length N0) (variable_type w (term_type a)) S) (length N2) b) =
      i.nodes ∙ ap (λ (T : NamesInScope). map view_of N2 ++ listed (length N2) (unfolded_in B n T (length N2) b)) bound in
      let g' = two_kids N0 N1 v (OfEvolve w) place p more begun (λ m. unfolded_in B n S m e) (λ m. unfolded_in B n (with_binder x (length N0) (variable_type w (term_type a)) S) m b) N2 N3 N4
      (type_of ct) kids second (longer S (length N1) e (length N2) (length N1) l) h.nodes i' q k g in
      let c' = c ∙ t in
      record { nodes = rw c' at g'; type = t }

  pub let_written : (x : List ℕ) (e b : SourceTerm) (N2 N3 N4 : List Node) (start end ct : Ty) (second : ℕ) (kids : List ℕ) →
      length N2 ≡ length N1 + count (counted B n) e → IsWritten N1 N2 start (unfolded_in B n S (length N1) e) →
      IsWritten N2 N3 end (unfolded_in B n (with_binder x place (type_of start) S) (length N2) b) →
      second ≡ length N2 → type_of ct ≡ type_of end → kids ≡ (place + 1) ∷ second ∷ [] →
      map view_of N4 ≡ slice_set (map view_of N3) place (Has OfLet (type_of ct) kids) →
      IsWritten N0 N4 end (unfolded_in B n S (length N0) (LetTerm x e b))
  let_written x e b N2 N3 N4 start end ct second kids l h i q c k g =
      let t = at_first e N2 start h in
      let a = unfolded_in B n S (suc (length N0)) e in
      let T : NamesInScope = with_binder x (length N0) (term_type a) S in
      let bound : with_binder x place (type_of start) S ≡ T = ap (λ (m : ℕ). with_binder x m (type_of start) S) p ∙ ap (λ (u : ValueType). with_binder x (length N0) u S) t in
      let i' : map view_of N3 ≡ map view_of N2 ++ listed (length N2) (unfolded_in B n T (length N2) b) =
      i.nodes ∙ ap (λ (R : NamesInScope). map view_of N2 ++ listed (length N2) (unfolded_in B n R (length N2) b)) bound in
      let l' = longer S (length N1) e (length N2) (length N1) l in
      let there : length N2 ≡ suc (length N0) + size a = rw after at l' in
      let j : type_of end ≡ term_type (unfolded_in B n T (suc (length N0) + size a) b) =
      i.type ∙ ap (λ (R : NamesInScope). term_type (unfolded_in B n R (length N2) b)) bound ∙ ap (λ (m : ℕ). term_type (unfolded_in B n T m b)) there in
      let g' = two_kids N0 N1 v OfLet place p more begun (λ m. unfolded_in B n S m e) (λ m. unfolded_in B n T m b) N2 N3 N4 (type_of ct) kids second l' h.nodes i' q k g in
      let c' = c ∙ j in
      record { nodes = rw c' at g'; type = j }

  pub if_written : (e a b : SourceTerm) (N2 N3 N4 N5 : List Node) (condition then other ct : Ty) (second third : ℕ) (kids : List ℕ) →
      length N2 ≡ length N1 + count (counted B n) e → IsWritten N1 N2 condition (unfolded_in B n S (length N1) e) →
      length N3 ≡ length N2 + count (counted B n) a → IsWritten N2 N3 then (unfolded_in B n S (length N2) a) →
      IsWritten N3 N4 other (unfolded_in B n S (length N3) b) →
      second ≡ length N2 → third ≡ length N3 → type_of ct ≡ type_of then → kids ≡ (place + 1) ∷ second ∷ third ∷ [] →
      map view_of N5 ≡ slice_set (map view_of N4) place (Has OfIf (type_of ct) kids) →
      IsWritten N0 N5 then (unfolded_in B n S (length N0) (IfTerm e a b))
  if_written e a b N2 N3 N4 N5 condition then other ct second third kids l h l2 i j q r c k g =
      let u = unfolded_in B n S (suc (length N0)) e in
      let l' = longer S (length N1) e (length N2) (length N1) l in
      let there : length N2 ≡ suc (length N0) + size u = rw after at l' in
      let t : type_of then ≡ term_type (unfolded_in B n S (suc (length N0) + size u) a) = i.type ∙ ap (λ (m : ℕ). term_type (unfolded_in B n S m a)) there in
      let g' = three_kids N0 N1 v OfIf place p more begun (λ m. unfolded_in B n S m e) (λ m. unfolded_in B n S m a) (λ m. unfolded_in B n S m b) N2 N3 N4 N5
      (type_of ct) kids second third l' h.nodes (longer S (length N2) a (length N3) (length N2) l2) i.nodes j.nodes q r k g
      (suc (length N0) + size u) (suc (length N0) + size u + size (unfolded_in B n S (suc (length N0) + size u) a)) refl refl in
      let c' = c ∙ t in
      record { nodes = rw c' at g'; type = t }

  pub apply_written : (b : Builtin) (es : SourceTerms) (N2 N3 : List Node) (t ct : Ty) (types : List ValueType) (kids : List ℕ) →
      map view_of N2 ≡ map view_of N1 ++ all_listed (length N1) (all_unfolded_in B n S (length N1) es) →
      kids ≡ places (length N1) (all_unfolded_in B n S (length N1) es) → types ≡ types_of (all_unfolded_in B n S (length N1) es) →
      type_of t ≡ type_given (judge_builtin b types) → type_of ct ≡ type_of t → map view_of N3 ≡ slice_set (map view_of N2) place (Has (OfApply b) (type_of ct) kids) →
      IsWritten N0 N3 t (unfolded_in B n S (length N0) (ApplyTerm b es))
  apply_written b es N2 N3 t ct types kids e k y f c g =
      let us = all_unfolded_in B n S (suc (length N0)) es in
      let e' = rw after at e in
      let k' = rw after at k in
      let y' = rw after at y in
      let f' : type_of t ≡ type_given (judge_builtin b (types_of us)) = f ∙ ap (λ (ts : List ValueType). type_given (judge_builtin b ts)) y' in
      let c' = c ∙ f' in
      let here' : place ≡ length (map view_of N0) = p ∙ sym (length-map N0 view_of) in
      let g' = set_before (map view_of N0) (map view_of N1) (map view_of N2) (map view_of N3) v (Has (OfApply b) (type_of ct) kids) place (all_listed (suc (length N0)) us) here' begun e' g in
      record { nodes = rw (c', k') at g'; type = f' }

  pub one_written : (b : Builtin) (e : SourceTerm) (N2 N3 : List Node) (kid t : Ty) → IsWritten N1 N2 kid (unfolded_in B n S (length N1) e) → type_of t ≡ type_given (judge_builtin b (type_of kid ∷ [])) →
      map view_of N3 ≡ slice_set (map view_of N2) place (Has (OfApply b) (type_of t) ((place + 1) ∷ [])) → IsWritten N0 N3 t (unfolded_in B n S (length N0) (ApplyTerm b (MoreTerms e NoTerms)))
  one_written b e N2 N3 kid t w f g =
      let row = w.nodes ∙ ap (λ (l : List View). map view_of N1 ++ l) (sym (append-nil (listed (length N1) (unfolded_in B n S (length N1) e)))) in
      let first : place + 1 ≡ length N1 = omega (arith, p, more) in
      apply_written b (MoreTerms e NoTerms) N2 N3 t t (type_of kid ∷ []) ((place + 1) ∷ []) row (ap (λ (m : ℕ). m ∷ []) first) (ap (λ (u : ValueType). u ∷ []) w.type) f refl g
