-- The unfolding of a typed expression is typed.
use Rattle.std.proofs.Common.{◌≡◌, refl, sym, ap, subst, ◌∙◌, ℕ, suc, ◌+◌, ◌≤◌, arith, Bool, true, false, cond, List, [], ◌∷◌, ◌++◌, map, Option, Some, append_assoc}
use Rattle.std.specs.Prelude.{bytes_eq, slice_get}
use Rattle.std.proofs.lemmas.List.{map-append}
use Rattle.fc_values.specs.declared.builtins.Builtin.{Builtin}
use Rattle.fc_values.specs.Types.{ValueType, TypeLocal, TypeField, Input, input_type, Declarations}
use Rattle.fc_values.specs.BuiltinTypes.{HasRule, inner}
use Rattle.fc_syntax.specs.Terms.{SourceTerm, SourceTerms, Parameter}
use Rattle.fc_types.specs.Before.{Function, Earlier, input_named, function_named, Scope as NamedTypes}
use Rattle.fc_types.specs.Typing.{HasType as Has, int_type, truth_type, variable_type as variable_has, uid_type, nbr_link_type, sense_type, builtin_type, nbr_type, rep_type, share_type, if_type, let_type, call_type, HaveTypes as HaveAll, no_types, more_types}
use Rattle.fc_types.specs.Faults.{shared_type}
use Rattle.fc_types.specs.Judging.{judge_builtin}
use Rattle.fc_types.proofs.Rules.{rule_judged}
use Rattle.fc_nodes.specs.Terms.{Term, Terms, term_type, size}
use Rattle.fc_nodes.specs.Typing.{Scope as Places, HasType, HaveTypes, types_of}
use Rattle.unfold.specs.Unfolding.{NamesInScope, with_binder, Meaning, meaning_of, input_number, sense_by, type_given, apply_term, params_of, body_of, unfolded, unfolded_call, unfolded_all}
use Rattle.unfold.proofs.Stands.{forget, forget_one, Stand, stand_later, stand_under, stand_bound, stand_given, variable_typed}

-- a term has this type, where it stands
abbrev pub Typed : Declarations → Places → ℕ → Term → ValueType → Type 0
Typed D N p u t = HasType D N p u × (term_type u ≡ t)

-- a function's body has its result's type wherever its parameters stand
abbrev pub GivesResult : Declarations → Function → (NamesInScope → ℕ → Term) → Type 0
GivesResult D f body = (given : NamesInScope) (N : Places) (p : ℕ) → forget given ≡ f.params → Stand given N p → Typed D N p (body given p) f.result

pub record IsGood (D : Declarations) (f : Function) (m : Meaning) : Type 0 where
  pub name : f.name ≡ m.name
  pub params : f.params ≡ m.params
  pub body : GivesResult D f m.body

abbrev pub AreGood : Declarations → List Function → List Meaning → Type 0
AreGood D [] [] = Unit {0}
AreGood D (f ∷ fs) (m ∷ ms) = IsGood D f m × AreGood D fs ms
AreGood D _ _ = ⊥

-- what holds of the declarations before, against those of the whole program
pub record MeaningsHold (D : Declarations) (ms : List Meaning) (B : Earlier) : Type 0 where
  pub ceiling : B.ceiling ≡ D.ceiling
  pub inputs : (x : List ℕ) (i : Input) → input_named x B.inputs ≡ Some i → (n : ℕ) × (input_number x D.inputs ≡ Some n) × (slice_get D.inputs n ≡ Some i)
  pub functions : AreGood D B.functions ms

named_good : (D : Declarations) (x : List ℕ) (fs : List Function) (ms : List Meaning) (g : Function) → AreGood D fs ms → function_named x fs ≡ Some g →
    (g.params ≡ params_of (meaning_of x ms)) × GivesResult D g (body_of (meaning_of x ms))
named_good D x [] [] g h e = absurd cc
named_good D x [] (m ∷ ms) g h e = absurd h
named_good D x (f ∷ fs) [] g h e = absurd h
named_good D x (f ∷ fs) (m ∷ ms) g h e = let n = h.0.name in go (bytes_eq x f.name) (bytes_eq x m.name) (ap (bytes_eq x) n) e (meaning_of x ms) (λ q. named_good D x fs ms g h.1 q)
  where
    found : f ≡ g → (g.params ≡ m.params) × GivesResult D g m.body
    found q = let P : Function → Type 0 = (λ k. (k.params ≡ m.params) × GivesResult D k m.body) in subst P q (h.0.params, h.0.body)

    go : (b c : Bool) → b ≡ c → cond b (Some f) (function_named x fs) ≡ Some g → (o : Option Meaning) →
        (function_named x fs ≡ Some g → (g.params ≡ params_of o) × GivesResult D g (body_of o)) →
        (g.params ≡ params_of (cond c (Some m) o)) × GivesResult D g (body_of (cond c (Some m) o))
    go true true q e o k = found cc
    go true false q e o k = absurd cc
    go false true q e o k = absurd cc
    go false false q e o k = k e

sense_typed : (D : Declarations) (N : Places) (p : ℕ) (i : Input) (n : ℕ) (o : Option ℕ) → o ≡ Some n → slice_get D.inputs n ≡ Some i → Typed D N p (sense_by D.inputs o) (TypeLocal (input_type i.type))
sense_typed D N p i n o e f = rw (e, f) ((input_type i.type, rw f refl, refl), refl)

apply_typed : (D : Declarations) (N : Places) (p : ℕ) (b : Builtin) (xs : Terms) (ts : List ValueType) (t : ValueType) → HaveTypes D N (suc p) xs → types_of xs ≡ ts → HasRule b ts t → Typed D N p (apply_term b xs) t
apply_typed D N p b xs ts t h e r =
    let r' : HasRule b (types_of xs) t = rw e r in
    let j = rule_judged b (types_of xs) t r' in
    let g : type_given (judge_builtin b (types_of xs)) ≡ t = ap type_given j in
    ((rw g r', h), g)

bound_scope : (x : List ℕ) (p : ℕ) (s t : ValueType) (S : NamesInScope) (scope : NamedTypes) → s ≡ t → forget S ≡ scope → forget (with_binder x p s S) ≡ record { name = x; type = t } ∷ scope
bound_scope x p s t S scope e q = rw (e, q) refl

bound_stand : (x : List ℕ) (p : ℕ) (s t : ValueType) (S : NamesInScope) (N : Places) (q : ℕ) → s ≡ t → suc p ≤ q → Stand S N p → Stand (with_binder x p s S) ((p, t) ∷ N) q
bound_stand x p s t S N q e l h = rw e (stand_bound x S N p q t l h)

append_none : (xs : List Parameter) → xs ++ [] ≡ xs
append_none [] = refl
append_none (x ∷ xs) = ap (λ l. x ∷ l) (append_none xs)

head_same : (s t : ValueType) (ss ts : List ValueType) → s ∷ ss ≡ t ∷ ts → s ≡ t
head_same s t ss ts e = cc

tail_same : (s t : ValueType) (ss ts : List ValueType) → s ∷ ss ≡ t ∷ ts → ss ≡ ts
tail_same s t ss ts e = cc

given_scope : (x : Parameter) (p : ℕ) (s : ValueType) (given : NamesInScope) (params all : List Parameter) → s ≡ x.type → forget given ++ x ∷ params ≡ all →
    forget (given ++ record { name = x.name; place = p; type = s } ∷ []) ++ params ≡ all
given_scope x p s given params all e f =
    let m : forget (given ++ record { name = x.name; place = p; type = s } ∷ []) ≡ forget given ++ x ∷ [] =
    map-append forget_one given (record { name = x.name; place = p; type = s } ∷ []) ∙ ap (λ (t : ValueType). forget given ++ record { name = x.name; type = t } ∷ []) e in
    ap (λ (l : List Parameter). l ++ params) m ∙ append_assoc (forget given) (x ∷ []) params ∙ f

module _ (D : Declarations) (ms : List Meaning) where
  mutual
    pub typed : {B : Earlier} {scope : NamedTypes} {e : SourceTerm} {t : ValueType} → Has B scope e t → MeaningsHold D ms B → (S : NamesInScope) (N : Places) (p : ℕ) → forget S ≡ scope → Stand S N p →
        Typed D N p (unfolded D.inputs ms S p e) t
    typed (int_type h) k S N p q s = let c = k.ceiling in ((refl, omega (arith, h, c)), refl)
    typed truth_type k S N p q s = (refl, refl)
    typed (variable_has {x = x} {t = t} h) k S N p q s = variable_typed D x S N p t s (rw q h)
    typed uid_type k S N p q s = (refl, refl)
    typed nbr_link_type k S N p q s = (refl, refl)
    typed (sense_type {x = x} {i = i} h) k S N p q s = let r = k.inputs x i h in sense_typed D N p i r.0 (input_number x D.inputs) r.1 r.2
    typed (builtin_type {b = b} {es = es} {ts = ts} {t = t} h r) k S N p q s =
        let a = typed_all h k S N (suc p) q (stand_later S N p (suc p) (omega arith) s) in
        apply_typed D N p b (unfolded_all D.inputs ms S (suc p) es) ts t a.0 a.1 r
    typed (nbr_type {e = e} {t = t} h) k S N p q s =
        let a = typed h k S N (suc p) q (stand_later S N p (suc p) (omega arith) s) in
        ((t, ap (λ u. TypeField (inner u)) a.1, a.1, a.0), ap (λ u. TypeField (inner u)) a.1)
    typed (rep_type {e = e} {x = x} {b = b} {t = t} h h' f) k S N p q s =
        let a = typed h k S N (suc p) q (stand_later S N p (suc p) (omega arith) s) in
        let u = unfolded D.inputs ms S (suc p) e in
        let c = typed h' k (with_binder x p (term_type u) S) ((p, TypeLocal t) ∷ N) (suc p + size u) (bound_scope x p (term_type u) (TypeLocal t) S _ a.1 q) (bound_stand x p (term_type u) (TypeLocal t) S N (suc p + size u) a.1 (omega arith) s) in
        ((t, a.1, a.1, c.1, a.0, c.0), a.1)
    typed (share_type {e = e} {x = x} {b = b} {t = t} h h' f) k S N p q s =
        let a = typed h k S N (suc p) q (stand_later S N p (suc p) (omega arith) s) in
        let u = unfolded D.inputs ms S (suc p) e in
        let v = ap shared_type a.1 in
        let c = typed h' k (with_binder x p (shared_type (term_type u)) S) ((p, TypeField t) ∷ N) (suc p + size u) (bound_scope x p (shared_type (term_type u)) (TypeField t) S _ v q) (bound_stand x p (shared_type (term_type u)) (TypeField t) S N (suc p + size u) v (omega arith) s) in
        ((t, a.1, a.1, c.1, a.0, c.0), a.1)
    typed (if_type {c = c} {a = a} {b = b} {t = t} h h' h'') k S N p q s =
        let u = unfolded D.inputs ms S (suc p) c in
        let v = unfolded D.inputs ms S (suc p + size u) a in
        let x = typed h k S N (suc p) q (stand_later S N p (suc p) (omega arith) s) in
        let y = typed h' k S N (suc p + size u) q (stand_later S N p (suc p + size u) (omega arith) s) in
        let z = typed h'' k S N (suc p + size u + size v) q (stand_later S N p (suc p + size u + size v) (omega arith) s) in
        ((t, y.1, x.1, y.1, z.1, x.0, y.0, z.0), y.1)
    typed (let_type {x = x} {a = e} {b = b} {s = r} h h' f) k S N p q s =
        let a = typed h k S N (suc p) q (stand_later S N p (suc p) (omega arith) s) in
        let u = unfolded D.inputs ms S (suc p) e in
        let c = typed h' k (with_binder x p (term_type u) S) ((p, term_type u) ∷ N) (suc p + size u) (bound_scope x p (term_type u) r S _ a.1 q) (stand_bound x S N p (suc p + size u) (term_type u) (omega arith) s) in
        ((refl, a.0, c.0), c.1)
    typed (call_type {B = B} {f = f} {es = es} {g = g} e h) k S N p q s =
        let n = named_good D f B.functions ms g k.functions e in
        typed_call h k S N p q s (params_of (meaning_of f ms)) [] (body_of (meaning_of f ms)) g.params g.result (ap (map (λ (x : Parameter). x.type)) n.0) (sym n.0) tt n.1

    pub typed_call : {B : Earlier} {scope : NamedTypes} {es : SourceTerms} {ts : List ValueType} → HaveAll B scope es ts → MeaningsHold D ms B → (S : NamesInScope) (N : Places) (p : ℕ) → forget S ≡ scope → Stand S N p →
        (params : List Parameter) (given : NamesInScope) (body : NamesInScope → ℕ → Term) (all : List Parameter) (r : ValueType) → ts ≡ map (λ (x : Parameter). x.type) params → forget given ++ params ≡ all → Stand given N p →
        ((inner : NamesInScope) (M : Places) (i : ℕ) → forget inner ≡ all → Stand inner M i → Typed D M i (body inner i) r) → Typed D N p (unfolded_call D.inputs ms S params given p body es) r
    typed_call no_types k S N p q s [] given body all r e f g h = h given N p (sym (append_none (forget given)) ∙ f) g
    typed_call no_types k S N p q s (x ∷ params) given body all r e f g h = absurd cc
    typed_call (more_types h h') k S N p q s [] given body all r e f g b = absurd cc
    typed_call (more_types {e = w} {t = t} {ts = ts} h h') k S N p q s (x ∷ params) given body all r e f g b =
        let a = typed h k S N (suc p) q (stand_later S N p (suc p) (omega arith) s) in
        let u = unfolded D.inputs ms S (suc p) w in
        let same : term_type u ≡ x.type = a.1 ∙ head_same t x.type ts _ e in
        let c = typed_call h' k S ((p, term_type u) ∷ N) (suc p + size u) q (stand_under S N p (suc p + size u) (term_type u) (omega arith) s) params
        (given ++ record { name = x.name; place = p; type = term_type u } ∷ []) body all r (tail_same t x.type ts _ e)
        (given_scope x p (term_type u) given params all same f) (stand_given x.name given N p (suc p + size u) (term_type u) (omega arith) g) b in
        ((refl, a.0, c.0), c.1)

    pub typed_all : {B : Earlier} {scope : NamedTypes} {es : SourceTerms} {ts : List ValueType} → HaveAll B scope es ts → MeaningsHold D ms B → (S : NamesInScope) (N : Places) (p : ℕ) → forget S ≡ scope → Stand S N p →
        HaveTypes D N p (unfolded_all D.inputs ms S p es) × (types_of (unfolded_all D.inputs ms S p es) ≡ ts)
    typed_all no_types k S N p q s = (tt, refl)
    typed_all (more_types {e = e} h h') k S N p q s =
        let a = typed h k S N p q s in
        let u = unfolded D.inputs ms S p e in
        let c = typed_all h' k S N (p + size u) q (stand_later S N p (p + size u) (omega arith) s) in
        let i = a.1 in let j = c.1 in
        ((a.0, c.0), cc)
