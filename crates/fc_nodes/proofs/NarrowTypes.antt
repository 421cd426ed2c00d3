-- Crates above cite this module: no type of a program has more than eight leaves.
use Rattle.std.proofs.Common.{ℕ, suc, ◌≡◌, ◌+◌, ◌≤◌, Bool, true, false, List, [], ◌∷◌, refl, sym, ap, subst, ◌∙◌, Some, None, Option, nat_eq, if◌then◌else◌, arith}
use Rattle.std.specs.Prelude.{option_map, slice_get}
use Rattle.fc_values.specs.declared.builtins.Builtin.{Builtin}
use Rattle.fc_values.specs.Builtins.{is_hood}
use Rattle.fc_values.specs.declared.types.InputTy.{InputTy}
use Rattle.fc_values.specs.declared.types.InputTy.TheVariants as input
use Rattle.fc_values.specs.Types.{LocalType, IntType, BoolType, ValueType, TypeLocal, Declarations, Input, input_type, leaves}
use Rattle.fc_values.specs.Values.{LocalValue, IntValue, BoolValue, PairValue}
use Rattle.fc_values.specs.BuiltinTypes.{Takes, Folds, rule_by, lifted, inner, inners, has_field, takes_add, takes_sub, takes_mul, takes_rise, takes_min, takes_max, takes_less, takes_equal, takes_and, takes_or, takes_not, takes_mux, takes_pair, takes_fst, takes_snd, folds_min, folds_max, folds_sum, folds_any, folds_all}
use Rattle.fc_nodes.specs.Terms.{Leaf, Literal, Variable, Sense, Uid, NbrLink, Evolution, ByRep, ByShare, Term, Terms, Plain, Apply, Nbr, Evolve, If, Let, NoMore, More, term_type, size}
use Rattle.fc_nodes.specs.Typing.{Scope, type_at, IsLiteral, LeafHasType, evolving_type, types_of, HasType, HaveTypes}

pub record IsNarrow (s : LocalType) : Type 0 where
  pub few : leaves s ≤ 8

abbrev AreNarrow : List LocalType → Type 0
AreNarrow [] = Unit {0}
AreNarrow (s ∷ ss) = IsNarrow s × AreNarrow ss

-- Q holds of each type that a term keeps
abbrev mutual
  pub Keeps : (LocalType → Type 0) → Term → Type 0
  Keeps Q (Plain t l) = Unit {0}
  Keeps Q (Apply t o xs) = AllKeep Q xs
  Keeps Q (Nbr t a) = Q (inner t) × Keeps Q a
  Keeps Q (Evolve t e a b) = Q (inner t) × Keeps Q a × Keeps Q b
  Keeps Q (If t x a b) = Q BoolType × Keeps Q x × Keeps Q a × Keeps Q b
  Keeps Q (Let t a b) = Keeps Q a × Keeps Q b

  pub AllKeep : (LocalType → Type 0) → Terms → Type 0
  AllKeep Q NoMore = Unit {0}
  AllKeep Q (More x xs) = Keeps Q x × AllKeep Q xs

int_narrow : IsNarrow IntType
int_narrow = record { few = omega arith }

bool_narrow : IsNarrow BoolType
bool_narrow = record { few = omega arith }

-- ---- builtins

takes_narrow : (o : Builtin) (ss : List LocalType) (s : LocalType) → Takes o ss s → AreNarrow ss → IsNarrow s
takes_narrow o ss s takes_add h = int_narrow
takes_narrow o ss s takes_sub h = int_narrow
takes_narrow o ss s takes_mul h = int_narrow
takes_narrow o ss s takes_rise h = int_narrow
takes_narrow o ss s (takes_min t) h = h.0
takes_narrow o ss s (takes_max t) h = h.0
takes_narrow o ss s (takes_less t) h = bool_narrow
takes_narrow o ss s (takes_equal t) h = bool_narrow
takes_narrow o ss s takes_and h = bool_narrow
takes_narrow o ss s takes_or h = bool_narrow
takes_narrow o ss s takes_not h = bool_narrow
takes_narrow o ss s (takes_mux t) h = h.1.0
takes_narrow o ss s (takes_pair t u few) h = record { few = few }
takes_narrow o ss s (takes_fst t u) h = record { few = omega (arith, h.0.few) }
takes_narrow o ss s (takes_snd t u) h = record { few = omega (arith, h.0.few) }

folds_narrow : (o : Builtin) (ts : List ValueType) (t : ValueType) → Folds o ts t → AreNarrow (inners ts) → IsNarrow (inner t)
folds_narrow o ts t (folds_min s) h = h.0
folds_narrow o ts t (folds_max s) h = h.0
folds_narrow o ts t folds_sum h = int_narrow
folds_narrow o ts t folds_any h = bool_narrow
folds_narrow o ts t folds_all h = bool_narrow

inner_lifted : (b : Bool) (s : LocalType) → inner (lifted b s) ≡ s
inner_lifted true s = refl
inner_lifted false s = refl

rule_narrow : (b : Bool) (o : Builtin) (ts : List ValueType) (t : ValueType) → rule_by b o ts t → AreNarrow (inners ts) → IsNarrow (inner t)
rule_narrow true o ts t r h = folds_narrow o ts t r h
rule_narrow false o ts t r h =
    let e : r.local ≡ inner t = sym (inner_lifted (has_field ts) r.local) ∙ sym (ap inner r.value) in
    subst IsNarrow e (takes_narrow o (inners ts) r.local r.takes h)

-- ---- leaves

abbrev ScopeIsNarrow : Scope → Type 0
ScopeIsNarrow [] = Unit {0}
ScopeIsNarrow (b ∷ bs) = IsNarrow (inner b.1) × ScopeIsNarrow bs

variable_narrow : (n : ℕ) (scope : Scope) (t : ValueType) → type_at n scope ≡ Some t → ScopeIsNarrow scope → IsNarrow (inner t)
variable_narrow n [] t e h = absurd cc
variable_narrow n (b ∷ bs) t e h = by_test (λ f. variable_narrow n bs t f h.1) (nat_eq b.0 n) e
  where
    by_test : (type_at n bs ≡ Some t → IsNarrow (inner t)) → (c : Bool) → (if c then Some b.1 else type_at n bs) ≡ Some t → IsNarrow (inner t)
    by_test ih true f = let g : b.1 ≡ t = cc in subst (λ u. IsNarrow (inner u)) g h.0
    by_test ih false f = ih f

input_narrow : (ty : InputTy) → IsNarrow (input_type ty)
input_narrow input.Truth = bool_narrow
input_narrow (input.Whole least greatest) = int_narrow

sense_narrow : (o : Option Input) (s : LocalType) → option_map (λ (x : Input). input_type x.type) o ≡ Some s → IsNarrow s
sense_narrow None s e = absurd cc
sense_narrow (Some x) s e = let f : input_type x.type ≡ s = cc in subst IsNarrow f (input_narrow x.type)

literal_narrow : (c : ℕ) (t : ValueType) (v : LocalValue) → IsLiteral c t v → IsNarrow (inner t)
literal_narrow c t (IntValue n) h = subst (λ u. IsNarrow (inner u)) (sym h.0) int_narrow
literal_narrow c t (BoolValue b) h = subst (λ u. IsNarrow (inner u)) (sym h) bool_narrow
literal_narrow c t (PairValue v w) h = absurd h

leaf_narrow : (D : Declarations) (scope : Scope) (t : ValueType) (l : Leaf) → LeafHasType D scope t l → ScopeIsNarrow scope → IsNarrow (inner t)
leaf_narrow D scope t (Literal v) h s = literal_narrow D.ceiling t v h
leaf_narrow D scope t (Variable n) h s = variable_narrow n scope t h s
leaf_narrow D scope t (Sense i) h s = subst (λ u. IsNarrow (inner u)) (sym h.2) (sense_narrow (slice_get D.inputs i) h.0 h.1)
leaf_narrow D scope t Uid h s = subst (λ u. IsNarrow (inner u)) (sym h) int_narrow
leaf_narrow D scope t NbrLink h s = subst (λ u. IsNarrow (inner u)) (sym h) int_narrow

evolving_inner : (e : Evolution) (s : LocalType) → inner (evolving_type e s) ≡ s
evolving_inner ByRep s = refl
evolving_inner ByShare s = refl

-- ---- terms

local_narrow : (s : LocalType) (t u : ValueType) → t ≡ TypeLocal s → u ≡ TypeLocal s → IsNarrow (inner u) → IsNarrow (inner t)
local_narrow s t u e f h = let g : inner u ≡ inner t = ap inner f ∙ sym (ap inner e) in subst IsNarrow g h

module _ (D : Declarations) where
  mutual
    pub term_narrow : (scope : Scope) (p : ℕ) (t : Term) → HasType D scope p t → ScopeIsNarrow scope → IsNarrow (inner (term_type t)) × Keeps IsNarrow t
    term_narrow scope p (Plain t l) h s = (leaf_narrow D scope t l h s, tt)
    term_narrow scope p (Apply t o xs) h s =
        let ih = terms_narrow scope (suc p) xs h.1 s in
        (rule_narrow (is_hood o) o (types_of xs) t h.0 ih.0, ih.1)
    term_narrow scope p (Nbr t a) h s =
        let ih = term_narrow scope (suc p) a h.3 s in
        let e : inner (term_type a) ≡ inner t = ap inner h.2 ∙ sym (ap inner h.1) in
        let n : IsNarrow (inner t) = subst IsNarrow e ih.0 in
        (n, (n, ih.1))
    term_narrow scope p (Evolve t e a b) h s =
        let ih = term_narrow scope (suc p) a h.4 s in
        let n : IsNarrow (inner t) = local_narrow h.0 t (term_type a) h.1 h.2 ih.0 in
        let w : inner t ≡ inner (evolving_type e h.0) = ap inner h.1 ∙ sym (evolving_inner e h.0) in
        let ih' = term_narrow ((p, evolving_type e h.0) ∷ scope) (suc p + size a) b h.5 (subst IsNarrow w n, s) in
        (n, (n, ih.1, ih'.1))
    term_narrow scope p (If t x a b) h s =
        let ih = term_narrow scope (suc p) x h.5 s in
        let ih' = term_narrow scope (suc p + size x) a h.6 s in
        let ih'' = term_narrow scope (suc p + size x + size a) b h.7 s in
        (local_narrow h.0 t (term_type a) h.1 h.3 ih'.0, (bool_narrow, ih.1, ih'.1, ih''.1))
    term_narrow scope p (Let t a b) h s =
        let ih = term_narrow scope (suc p) a h.1 s in
        let ih' = term_narrow ((p, term_type a) ∷ scope) (suc p + size a) b h.2 (ih.0, s) in
        (subst (λ u. IsNarrow (inner u)) (sym h.0) ih'.0, (ih.1, ih'.1))

    pub terms_narrow : (scope : Scope) (p : ℕ) (xs : Terms) → HaveTypes D scope p xs → ScopeIsNarrow scope → AreNarrow (inners (types_of xs)) × AllKeep IsNarrow xs
    terms_narrow scope p NoMore h s = (tt, tt)
    terms_narrow scope p (More x xs) h s =
        let ih = term_narrow scope p x h.0 s in
        let ih' = terms_narrow scope (p + size x) xs h.1 s in
        ((ih.0, ih'.0), (ih.1, ih'.1))
