-- Calls and expressions in a row, as their nodes are written.
use Rattle.std.proofs.Common.{◌≡◌, refl, sym, ap, subst, ◌∙◌, ℕ, zero, suc, ◌+◌, ◌-◌, ◌<◌, ◌≤◌, arith, List, [], ◌∷◌, ◌++◌, length, map, take, drop, get_or, Option, append_assoc}
use Rattle.std.specs.Prelude.{slice_set, Result, Ok, Err, OnOk}
use Rattle.std.proofs.lemmas.List.{length-append, take_all}
use Rattle.fc_values.specs.declared.types.Ty.{Ty}
use Rattle.fc_values.specs.Types.{ValueType, type_of}
use Rattle.fc_syntax.specs.declared.tree.Expr.{Expr}
use Rattle.fc_syntax.specs.Terms.{SourceTerm, SourceTerms, NoTerms, MoreTerms, CallTerm, Parameter, term_of, terms}
use Rattle.fc_types.specs.Before.{Earlier, Function}
use Rattle.fc_nodes.specs.declared.nodes.Node.{Node}
use Rattle.fc_nodes.specs.Terms.{Term, size, View, Has, OfLet, places, view_of, term_type}
use Rattle.fc_nodes.specs.Typing.{types_of}
use Rattle.unfold.specs.Found.{FirstAt, NoneAmong}
use Rattle.unfold.specs.Nodes.{listed, all_listed}
use Rattle.unfold.specs.Counting.{count, size_of}
use Rattle.unfold.specs.Unfolding.{NamesInScope, with_binder, Meaning, meaning_of, params_of, body_of, with_argument, behind_first, untyped, unfolded_call}
use Rattle.unfold.specs.Views.{counted}
use Rattle.unfold.specs.Writing.{ComesTo, IsWritten, SameCall, arguments, first_meanings, unfolded_in, all_unfolded_in, call_by, call_in}
use Rattle.unfold.proofs.Firsts.{meaning_found, meaning_none, size_found, size_none}
use Rattle.unfold.proofs.Written.{size_is, two_kids, two_behind}

-- an argument more
given_front : (params : List Parameter) (p : ℕ) (t : ValueType) (given : NamesInScope) (x : List ℕ) (q : ℕ) (s : ValueType) → with_argument params p t (with_binder x q s given) ≡ with_binder x q s (with_argument params p t given)
given_front [] p t given x q s = refl
given_front (y ∷ params) p t given x q s = refl

given_more : (given : List (ℕ × ValueType)) (params : List Parameter) (p : ℕ) (t : ValueType) → with_argument (drop (length given) params) p t (arguments given params) ≡ arguments (given ++ (p, t) ∷ []) params
given_more [] [] p t = refl
given_more [] (x ∷ params) p t = refl
given_more (a ∷ given) [] p t = refl
given_more (a ∷ given) (x ∷ params) p t = given_front (drop (length given) params) p t (arguments given params) x.name a.0 a.1 ∙ ap (with_binder x.name a.0 a.1) (given_more given params p t)

behind_drop : (k : ℕ) (params : List Parameter) → behind_first (drop k params) ≡ drop (suc k) params
behind_drop zero [] = refl
behind_drop zero (x ∷ params) = refl
behind_drop (suc k) [] = refl
behind_drop (suc k) (x ∷ params) = behind_drop k params

call_more : (ms : List Meaning) (B : Earlier) (S : NamesInScope) (params : List Parameter) (body : NamesInScope → ℕ → Term) (given : List (ℕ × ValueType)) (p q : ℕ) (t : ValueType) (es : SourceTerms) →
    unfolded_call B.inputs ms S (behind_first (drop (length given) params)) (with_argument (drop (length given) params) p t (arguments given params)) q body es ≡ call_by ms B S params body (given ++ (p, t) ∷ []) q es
call_more ms B S params body given p q t es =
    let long = length-append given ((p, t) ∷ []) in
    let k : suc (length given) ≡ length (given ++ (p, t) ∷ []) = omega (arith, long) in
    ap (λ (l : List Parameter). unfolded_call B.inputs ms S l (with_argument (drop (length given) params) p t (arguments given params)) q body es) (behind_drop (length given) params)
    ∙ ap (λ (g : NamesInScope). unfolded_call B.inputs ms S (drop (suc (length given)) params) g q body es) (given_more given params p t)
    ∙ ap (λ (m : ℕ). unfolded_call B.inputs ms S (drop m params) (arguments (given ++ (p, t) ∷ []) params) q body es) k

module _ (B : Earlier) (n : ℕ) (S : NamesInScope) (f : List ℕ) where
  pub call_written : (e : SourceTerm) (es : SourceTerms) (N0 N1 N2 N3 N4 : List Node) (v : View) (place : ℕ) (given more : List (ℕ × ValueType)) (start end ct : Ty) (second : ℕ) (kids : List ℕ) →
      place ≡ length N0 → length N1 ≡ length N0 + 1 → map view_of N1 ≡ map view_of N0 ++ v ∷ [] →
      length N2 ≡ length N1 + count (counted B n) e → IsWritten N1 N2 start (unfolded_in B n S (length N1) e) →
      more ≡ given ++ (place, type_of start) ∷ [] → IsWritten N2 N3 end (call_in B n S f more (length N2) es) →
      second ≡ length N2 → type_of ct ≡ type_of end → kids ≡ (place + 1) ∷ second ∷ [] →
      map view_of N4 ≡ slice_set (map view_of N3) place (Has OfLet (type_of ct) kids) →
      IsWritten N0 N4 end (call_in B n S f given (length N0) (MoreTerms e es))
  call_written e es N0 N1 N2 N3 N4 v place given more start end ct second kids p after begun l h m i q c k g =
      let a = unfolded_in B n S (suc (length N0)) e in
      let next : length N1 ≡ suc (length N0) = omega (arith, after) in
      let ty = h.type in
      let t : type_of start ≡ term_type a = rw next at ty in
      let s = size_is B n S (length N1) e in
      let l' : length N2 ≡ length N1 + size (unfolded_in B n S (length N1) e) = omega (arith, s, l) in
      let there : length N2 ≡ suc (length N0) + size a = rw next at l' in
      let ms = first_meanings B n in
      let params = params_of (meaning_of f ms) in
      let body = body_of (meaning_of f ms) in
      let G : ℕ → Term = (λ r. unfolded_call B.inputs ms S (behind_first (drop (length given) params)) (with_argument (drop (length given) params) (length N0) (term_type a) (arguments given params)) r body es) in
      let same : call_in B n S f more (length N2) es ≡ G (length N2) =
      ap (λ (z : List (ℕ × ValueType)). call_in B n S f z (length N2) es) (m ∙ ap (λ (r : ℕ). given ++ (r, type_of start) ∷ []) p ∙ ap (λ (u : ValueType). given ++ (length N0, u) ∷ []) t)
      ∙ sym (call_more ms B S params body given (length N0) (length N2) (term_type a) es) in
      let i' : map view_of N3 ≡ map view_of N2 ++ listed (length N2) (G (length N2)) = i.nodes ∙ ap (λ (u : Term). map view_of N2 ++ listed (length N2) u) same in
      let j : type_of end ≡ term_type (G (suc (length N0) + size a)) = i.type ∙ ap term_type same ∙ ap (λ (r : ℕ). term_type (G r)) there in
      let g' = two_kids N0 N1 v OfLet place p after begun (λ r. unfolded_in B n S r e) G N2 N3 N4 (type_of ct) kids second l' h.nodes i' q k g in
      let c' = c ∙ j in
      record { nodes = rw c' at g'; type = j }

-- the body
module _ (B : Earlier) (n : ℕ) (x : List ℕ) where
  pub found_body : (j : ℕ) (g : Function) (given : List (ℕ × ValueType)) (N0 N1 : List Node) (t : Ty) → FirstAt x B.functions j g → j < n →
      IsWritten N0 N1 t (unfolded_in B j (arguments given g.params) (length N0) g.body) → IsWritten N0 N1 t (call_in B n [] x given (length N0) NoTerms)
  found_body j g given N0 N1 t first l w =
      let e = meaning_found first B.inputs [] n refl l in
      let same : call_in B n [] x given (length N0) NoTerms ≡ unfolded_in B j (arguments given g.params) (length N0) g.body =
      ap (λ (o : Option Meaning). body_of o (arguments given (params_of o)) (length N0)) e in
      let P : Term → Type 0 = (λ u. IsWritten N0 N1 t u) in
      subst P (sym same) w

  pub no_body : (given : List (ℕ × ValueType)) (N0 N1 : List Node) (t : Ty) → NoneAmong x B.functions n → IsWritten N0 N1 t untyped → IsWritten N0 N1 t (call_in B n [] x given (length N0) NoTerms)
  no_body given N0 N1 t none w =
      let e = meaning_none x B.inputs [] B.functions n refl none in
      let same : call_in B n [] x given (length N0) NoTerms ≡ untyped = ap (λ (o : Option Meaning). body_of o (arguments given (params_of o)) (length N0)) e in
      let P : Term → Type 0 = (λ u. IsWritten N0 N1 t u) in
      subst P (sym same) w

  pub found_size : (j : ℕ) (g : Function) → FirstAt x B.functions j g → j < n → size_of x (counted B n) ≡ count (counted B j) g.body
  found_size j g first l = size_found first [] n tt l

  pub no_size : NoneAmong x B.functions n → size_of x (counted B n) ≡ 1
  no_size none = size_none x [] B.functions n tt none

-- expressions in a row
pub first_and_rest : (xs : List Expr) (x : Expr) → 1 ≤ length xs → x ≡ get_or xs 0 x → terms (map term_of xs) ≡ MoreTerms (term_of x) (terms (map term_of (take (length xs - 1) (drop 1 xs))))
first_and_rest [] x l e = absurd (omega arith)
first_and_rest (y ∷ xs) x l e =
    let all = take_all (length (y ∷ xs) - 1) xs (omega arith) in
    ap (λ (z : Expr). MoreTerms (term_of z) (terms (map term_of xs))) (sym e) ∙ ap (λ (zs : List Expr). MoreTerms (term_of x) (terms (map term_of zs))) (sym all)

module _ (B : Earlier) (n : ℕ) (S : NamesInScope) (e : SourceTerm) (es : SourceTerms) (N0 N1 : List Node) (t : Ty) (long : length N1 ≡ length N0 + count (counted B n) e) (w : IsWritten N0 N1 t (unfolded_in B n S (length N0) e)) where
  behind : length N1 ≡ length N0 + size (unfolded_in B n S (length N0) e)
  behind = let s = size_is B n S (length N0) e in omega (arith, s, long)

  pub row_nodes : (N2 : List Node) → map view_of N2 ≡ map view_of N1 ++ all_listed (length N1) (all_unfolded_in B n S (length N1) es) →
      map view_of N2 ≡ map view_of N0 ++ all_listed (length N0) (all_unfolded_in B n S (length N0) (MoreTerms e es))
  row_nodes N2 h = let h' = rw behind at h in two_behind (map view_of N0) (map view_of N1) (map view_of N2) _ _ w.nodes h'

  pub row_places : (ps qs rs : List ℕ) (k : ℕ) → k ≡ length N0 → qs ≡ ps ++ k ∷ [] → rs ≡ qs ++ places (length N1) (all_unfolded_in B n S (length N1) es) →
      rs ≡ ps ++ places (length N0) (all_unfolded_in B n S (length N0) (MoreTerms e es))
  row_places ps qs rs k q f h =
      let h' = rw behind at h in
      let us = all_unfolded_in B n S (length N0 + size (unfolded_in B n S (length N0) e)) es in
      h' ∙ ap (λ (l : List ℕ). l ++ places (length N0 + size (unfolded_in B n S (length N0) e)) us) (f ∙ ap (λ (m : ℕ). ps ++ m ∷ []) q) ∙ append_assoc ps (length N0 ∷ []) _

  pub row_types : (ss rs qs : List ValueType) (u : ValueType) → u ≡ type_of t → rs ≡ ss ++ u ∷ [] → qs ≡ rs ++ types_of (all_unfolded_in B n S (length N1) es) →
      qs ≡ ss ++ types_of (all_unfolded_in B n S (length N0) (MoreTerms e es))
  row_types ss rs qs u q f h =
      let h' = rw behind at h in
      let us = all_unfolded_in B n S (length N0 + size (unfolded_in B n S (length N0) e)) es in
      h' ∙ ap (λ (l : List ValueType). l ++ types_of us) (f ∙ ap (λ (m : ValueType). ss ++ m ∷ []) (q ∙ w.type)) ∙ append_assoc ss (term_type (unfolded_in B n S (length N0) e) ∷ []) _

-- an expression alone
pub only_one : (xs : List Expr) (x : Expr) → length xs ≡ 1 → x ≡ get_or xs 0 x → terms (map term_of xs) ≡ MoreTerms (term_of x) NoTerms
only_one [] x l e = absurd (omega (arith, l))
only_one (y ∷ []) x l e = ap (λ (z : Expr). MoreTerms (term_of z) NoTerms) (sym e)
only_one (y ∷ z ∷ zs) x l e = absurd (omega (arith, l))

-- a call without arguments whose body is one
bare_term : (B : Earlier) (n j : ℕ) (x y : List ℕ) (g : Function) → FirstAt x B.functions j g → j < n → g.body ≡ CallTerm y NoTerms → (S : NamesInScope) (p : ℕ) → unfolded_in B n S p (CallTerm x NoTerms) ≡ unfolded_in B j S p (CallTerm y NoTerms)
bare_term B n j x y g first l e S p =
    let m = meaning_found first B.inputs [] n refl l in
    ap (λ (o : Option Meaning). body_of o [] p) m ∙ ap (λ (b : SourceTerm). unfolded_in B j [] p b) e

pub bare_same : (B : Earlier) (v n j : ℕ) (f x y : List ℕ) (r : (g : Function) × FirstAt x B.functions j g × (j < n) × (g.body ≡ CallTerm y NoTerms)) → SameCall B v f n x → SameCall B v f j y
bare_same B v n j f x y r h =
    let s = found_size B n x j r.0 r.1 r.2 in
    let z = h.size in
    let c : count (counted B j) r.0.body ≡ 0 + size_of y (counted B j) = ap (count (counted B j)) r.3 in
    record { term = λ S p. h.term S p ∙ bare_term B n j x y r.0 r.1 r.2 r.3 S p; size = omega (arith, z, s, c) }

pub same_written : (B : Earlier) (n : ℕ) (f : List ℕ) (m : ℕ) (g : List ℕ) (N0 N1 : List Node) (t : Ty) → SameCall B n f m g →
    IsWritten N0 N1 t (call_in B m [] g [] (length N0) NoTerms) → IsWritten N0 N1 t (call_in B n [] f [] (length N0) NoTerms)
same_written B n f m g N0 N1 t h w = let P : Term → Type 0 = (λ u. IsWritten N0 N1 t u) in subst P (sym (h.term [] (length N0))) w

pub last_written : (B : Earlier) (n : ℕ) (f : List ℕ) (j : ℕ) (body : SourceTerm) (N0 N1 : List Node) (t : Ty) → ComesTo B n f j body → IsWritten N0 N1 t (unfolded_in B j [] (length N0) body) →
    IsWritten N0 N1 t (call_in B n [] f [] (length N0) NoTerms)
last_written B n f j body N0 N1 t h w =
    let w' = subst (λ (b : SourceTerm). IsWritten N0 N1 t (unfolded_in B j [] (length N0) b)) (sym h.body_is) w in
    same_written B n f h.seen h.last N0 N1 t h.same (found_body B h.seen h.last j h.function [] N0 N1 t h.first h.earlier w')

-- what is written is the same, if memory suffices
pub ended_as : {A E : Type 0} → (r : Result A E) (N0 N1 : List Node) (t : Ty) (u v : Term) → (IsWritten N0 N1 t u → IsWritten N0 N1 t v) → OnOk r (IsWritten N0 N1 t u) → OnOk r (IsWritten N0 N1 t v)
ended_as (Ok x) N0 N1 t u v f h = f h
ended_as (Err m) N0 N1 t u v f h = tt

pub longer_as : {A E : Type 0} → (r : Result A E) (k m n : ℕ) → m ≡ n → OnOk r (k ≡ m) → OnOk r (k ≡ n)
longer_as (Ok t) k m n e h = h ∙ e
longer_as (Err x) k m n e h = tt
