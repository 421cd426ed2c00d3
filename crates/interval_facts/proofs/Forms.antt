-- Crates above cite this module: the range of a node has the form of the node's type.
use Rattle.std.proofs.Common.{◌≡◌, ℕ, suc, ◌+◌, List, [], ◌∷◌, refl, sym, ◌∙◌, ap, subst, Bool, true, false, Option, Some, None, option_map, nat_eq, arith}
use Rattle.std.specs.Prelude.{if◌then◌else◌, slice_get}
use Rattle.fc_values.specs.declared.builtins.Builtin.{Builtin}
use Rattle.fc_values.specs.declared.types.InputTy.{InputTy}
use Rattle.fc_values.specs.declared.types.InputTy.TheVariants as input
use Rattle.fc_values.specs.Types.{LocalType, IntType, BoolType, PairType, ValueType, TypeLocal, TypeField, Declarations, Input, input_type}
use Rattle.fc_values.specs.Values.{LocalValue, IntValue, BoolValue, PairValue}
use Rattle.fc_values.specs.Builtins.{is_hood}
use Rattle.fc_values.specs.BuiltinTypes.{Takes, takes_add, takes_sub, takes_mul, takes_rise, takes_min, takes_max, takes_less, takes_equal, takes_and, takes_or, takes_not, takes_mux, takes_pair, takes_fst, takes_snd, Folds, folds_min, folds_max, folds_sum, folds_any, folds_all, inner, inners, has_field, lifted, rule_by}
use Rattle.fc_nodes.specs.Terms.{Leaf, Literal, Variable, Sense, Uid, NbrLink, ByRep, ByShare, Term, Terms, Plain, Apply, Nbr, Evolve, If, Let, NoMore, More, term_type, size}
use Rattle.fc_nodes.specs.Typing.{Scope, type_at, types_of, HasType, HaveTypes, LeafHasType}
use Rattle.interval_facts.specs.Ranges.{RangeValue, IntRange, BoolRange, PairRange, InRange, full, hull, least_range, greatest_range, least_hood, greatest_hood, builtin_range, Bounds, binding_range, input_range, sense_range, leaf_range, term_range, term_ranges}
pub use Rattle.interval_facts.specs.Scopes.{HasForm, HaveForms, BoundsFit}

-- two ranges of one type
data Two : LocalType → RangeValue → RangeValue → Type 0 where
  integers : (a b c d : ℕ) → Two IntType (IntRange a b) (IntRange c d)
  truths : Two BoolType BoolRange BoolRange
  pairs : (t u : LocalType) (r s r' s' : RangeValue) → Two t r s → Two u r' s' → Two (PairType t u) (PairRange r r') (PairRange s s')

two : (t : LocalType) (r s : RangeValue) → HasForm t r → HasForm t s → Two t r s
two IntType (IntRange a b) (IntRange c d) f g = integers a b c d
two BoolType BoolRange BoolRange f g = truths
two (PairType t u) (PairRange r r') (PairRange s s') f g = pairs t u r s r' s' (two t r s f.0 g.0) (two u r' s' f.1 g.1)
two t r s f g = absurd assumption

hull_form : {t : LocalType} {r s : RangeValue} → Two t r s → HasForm t (hull r s)
hull_form (integers a b c d) = tt
hull_form truths = tt
hull_form (pairs t u r s r' s' p q) = (hull_form p, hull_form q)

least_form : {t : LocalType} {r s : RangeValue} → Two t r s → HasForm t (least_range r s)
least_form (integers a b c d) = tt
least_form truths = tt
least_form (pairs t u r s r' s' p q) = (least_form p, hull_form q)

greatest_form : {t : LocalType} {r s : RangeValue} → Two t r s → HasForm t (greatest_range r s)
greatest_form (integers a b c d) = tt
greatest_form truths = tt
greatest_form (pairs t u r s r' s' p q) = (greatest_form p, hull_form q)

least_hood_form : {t : LocalType} {r s : RangeValue} → Two t r s → HasForm t (least_hood r s)
least_hood_form (integers a b c d) = tt
least_hood_form truths = tt
least_hood_form (pairs t u r s r' s' p q) = (least_hood_form p, hull_form q)

greatest_hood_form : {t : LocalType} {r s : RangeValue} → Two t r s → HasForm t (greatest_hood r s)
greatest_hood_form (integers a b c d) = tt
greatest_hood_form truths = tt
greatest_hood_form (pairs t u r s r' s' p q) = (greatest_hood_form p, hull_form q)

pub full_form : (m : ℕ) (t : LocalType) → HasForm t (full m t)
full_form m IntType = tt
full_form m BoolType = tt
full_form m (PairType s t) = (full_form m s, full_form m t)

pub full_as : (m : ℕ) (t : ValueType) (s : LocalType) → t ≡ TypeLocal s → HasForm s (full m (inner t))
full_as m t s e = subst (λ u. HasForm u (full m (inner t))) (ap inner e) (full_form m (inner t))

-- of two ranges of one type, each lies in the hull
first_in : {t : LocalType} {r s : RangeValue} → Two t r s → (v : LocalValue) → InRange r v → InRange (hull r s) v
first_in (integers a b c d) (IntValue n) h = (omega (arith, h.0), omega (arith, h.1))
first_in (integers a b c d) (BoolValue n) h = absurd h
first_in (integers a b c d) (PairValue v w) h = absurd h
first_in truths v h = h
first_in (pairs t u r s r' s' p q) (PairValue v w) h = (first_in p v h.0, first_in q w h.1)
first_in (pairs t u r s r' s' p q) (IntValue n) h = absurd h
first_in (pairs t u r s r' s' p q) (BoolValue n) h = absurd h

second_in : {t : LocalType} {r s : RangeValue} → Two t r s → (v : LocalValue) → InRange s v → InRange (hull r s) v
second_in (integers a b c d) (IntValue n) h = (omega (arith, h.0), omega (arith, h.1))
second_in (integers a b c d) (BoolValue n) h = absurd h
second_in (integers a b c d) (PairValue v w) h = absurd h
second_in truths v h = h
second_in (pairs t u r s r' s' p q) (PairValue v w) h = (second_in p v h.0, second_in q w h.1)
second_in (pairs t u r s r' s' p q) (IntValue n) h = absurd h
second_in (pairs t u r s r' s' p q) (BoolValue n) h = absurd h

pub hull_has_first : (t : LocalType) (r s : RangeValue) (v : LocalValue) → HasForm t r → HasForm t s → InRange r v → InRange (hull r s) v
hull_has_first t r s v f g h = first_in (two t r s f g) v h

pub hull_has_second : (t : LocalType) (r s : RangeValue) (v : LocalValue) → HasForm t r → HasForm t s → InRange s v → InRange (hull r s) v
hull_has_second t r s v f g h = second_in (two t r s f g) v h

module _ (m : ℕ) (other : RangeValue) where
  operator_form : (o : Builtin) (ts : List LocalType) (t : LocalType) → Takes o ts t → (rs : List RangeValue) → HaveForms ts rs → HasForm t (builtin_range m other o rs)
  operator_form _ _ _ takes_add (IntRange a b ∷ IntRange c d ∷ []) h = tt
  operator_form _ _ _ takes_sub (IntRange a b ∷ IntRange c d ∷ []) h = tt
  operator_form _ _ _ takes_mul (IntRange a b ∷ IntRange c d ∷ []) h = tt
  operator_form _ _ _ takes_rise (IntRange a b ∷ IntRange c d ∷ IntRange e f ∷ []) h = tt
  operator_form _ _ _ (takes_min t) (r ∷ s ∷ []) h = least_form (two t r s h.0 h.1.0)
  operator_form _ _ _ (takes_max t) (r ∷ s ∷ []) h = greatest_form (two t r s h.0 h.1.0)
  operator_form _ _ _ (takes_less t) rs h = tt
  operator_form _ _ _ (takes_equal t) rs h = tt
  operator_form _ _ _ takes_and rs h = tt
  operator_form _ _ _ takes_or rs h = tt
  operator_form _ _ _ takes_not rs h = tt
  operator_form _ _ _ (takes_mux t) (q ∷ r ∷ s ∷ []) h = hull_form (two t r s h.1.0 h.1.1.0)
  operator_form _ _ _ (takes_pair t u l) (r ∷ s ∷ []) h = (h.0, h.1.0)
  operator_form _ _ _ (takes_fst t u) (PairRange r s ∷ []) h = h.0.0
  operator_form _ _ _ (takes_snd t u) (PairRange r s ∷ []) h = h.0.1
  operator_form _ _ _ takes rs h = absurd assumption

  hood_form : (o : Builtin) (ts : List ValueType) (t : ValueType) → Folds o ts t → (rs : List RangeValue) → HaveForms (inners ts) rs → HasForm (inner t) (builtin_range m other o rs)
  hood_form _ _ _ (folds_min t) (r ∷ s ∷ []) h = least_hood_form (two t r s h.0 h.1.0)
  hood_form _ _ _ (folds_max t) (r ∷ s ∷ []) h = greatest_hood_form (two t r s h.0 h.1.0)
  hood_form _ _ _ folds_sum rs h = tt
  hood_form _ _ _ folds_any rs h = tt
  hood_form _ _ _ folds_all rs h = tt
  hood_form _ _ _ folds rs h = absurd assumption

  inner_lifted : (b : Bool) (t : LocalType) → inner (lifted b t) ≡ t
  inner_lifted true t = refl
  inner_lifted false t = refl

  builtin_form : (hood : Bool) (o : Builtin) (ts : List ValueType) (t : ValueType) → rule_by hood o ts t → (rs : List RangeValue) → HaveForms (inners ts) rs → HasForm (inner t) (builtin_range m other o rs)
  builtin_form true o ts t rule rs h = hood_form o ts t rule rs h
  builtin_form false o ts t rule rs h =
      let e : inner t ≡ rule.local = ap inner rule.value ∙ inner_lifted (has_field ts) rule.local in
      subst (λ u. HasForm u (builtin_range m other o rs)) (sym e) (operator_form o (inners ts) rule.local rule.takes rs h)

bound_form : (other : RangeValue) (n : ℕ) (t : ValueType) (bs : Scope) (cs : Bounds) → type_at n bs ≡ Some t → BoundsFit bs cs → HasForm (inner t) (binding_range other n cs)
bound_form other n t [] [] e h = absurd cc
bound_form other n t [] (c ∷ cs) e h = absurd h
bound_form other n t (b ∷ bs) [] e h = absurd h
bound_form other n t (b ∷ bs) (c ∷ cs) e h = by_test (nat_eq b.0 n) refl e (λ k. bound_form other n t bs cs k h.2)
  where
    by_test : (own : Bool) → nat_eq b.0 n ≡ own → (if own then Some b.1 else type_at n bs) ≡ Some t → (type_at n bs ≡ Some t → HasForm (inner t) (binding_range other n cs)) → HasForm (inner t) (if nat_eq c.0 n then c.1 else binding_range other n cs)
    by_test true i e k = let j : nat_eq c.0 n ≡ true = rw h.0 at i in let same : b.1 ≡ t = cc in rw j (subst (λ u. HasForm (inner u) c.1) same h.1)
    by_test false i e k = let j : nat_eq c.0 n ≡ false = rw h.0 at i in rw j (k e)

input_form : (ty : InputTy) → HasForm (input_type ty) (input_range ty)
input_form input.Truth = tt
input_form (input.Whole a b) = tt

sense_form : (other : RangeValue) (o : Option Input) (s : LocalType) → option_map (λ (x : Input). input_type x.type) o ≡ Some s → HasForm s (sense_range other o)
sense_form other None s e = absurd cc
sense_form other (Some i) s e = let same : input_type i.type ≡ s = cc in subst (λ u. HasForm u (input_range i.type)) same (input_form i.type)

leaf_form : (D : Declarations) (bs : Scope) (cs : Bounds) (t : ValueType) (l : Leaf) → LeafHasType D bs t l → BoundsFit bs cs → HasForm (inner t) (leaf_range D cs t l)
leaf_form D bs cs t (Literal (IntValue n)) h b = rw h.0 tt
leaf_form D bs cs t (Literal (BoolValue x)) h b = rw h tt
leaf_form D bs cs t (Literal (PairValue v w)) h b = absurd h
leaf_form D bs cs t (Variable n) h b = bound_form (full D.ceiling (inner t)) n t bs cs h b
leaf_form D bs cs t (Sense i) h b = subst (λ z. HasForm (inner z) (sense_range (full D.ceiling (inner t)) (slice_get D.inputs i))) (sym h.2) (sense_form (full D.ceiling (inner t)) (slice_get D.inputs i) h.0 h.1)
leaf_form D bs cs t Uid h b = rw h tt
leaf_form D bs cs t NbrLink h b = rw h tt

module _ (D : Declarations) where
  mutual
    pub range_form : (t : Term) (bs : Scope) (cs : Bounds) (p : ℕ) → HasType D bs p t → BoundsFit bs cs → HasForm (inner (term_type t)) (term_range D cs p t)
    range_form (Plain t l) bs cs p h b = leaf_form D bs cs t l h b
    range_form (Apply t o xs) bs cs p h b = builtin_form D.ceiling (full D.ceiling (inner t)) (is_hood o) o (types_of xs) t h.0 (term_ranges D cs (suc p) xs) (ranges_form xs bs cs (suc p) h.1 b)
    range_form (Nbr t a) bs cs p h b = subst (λ z. HasForm z (term_range D cs (suc p) a)) (ap inner h.2 ∙ sym (ap inner h.1)) (range_form a bs cs (suc p) h.3 b)
    range_form (Evolve t ByRep a u) bs cs p h b =
        let g = full_as D.ceiling t h.0 h.1 in
        let r = range_form u ((p, TypeLocal h.0) ∷ bs) ((p, full D.ceiling (inner t)) ∷ cs) (suc p + size a) h.5 (refl, g, b) in
        subst (λ z. HasForm (inner z) (term_range D ((p, full D.ceiling (inner t)) ∷ cs) (suc p + size a) u)) (h.3 ∙ sym h.1) r
    range_form (Evolve t ByShare a u) bs cs p h b =
        let g = full_as D.ceiling t h.0 h.1 in
        let r = range_form u ((p, TypeField h.0) ∷ bs) ((p, full D.ceiling (inner t)) ∷ cs) (suc p + size a) h.5 (refl, g, b) in
        subst (λ z. HasForm (inner z) (term_range D ((p, full D.ceiling (inner t)) ∷ cs) (suc p + size a) u)) (h.3 ∙ sym h.1) r
    range_form (If t c a u) bs cs p h b =
        let r = range_form a bs cs (suc p + size c) h.6 b in
        let s = range_form u bs cs (suc p + size c + size a) h.7 b in
        let r' = subst (λ z. HasForm (inner z) (term_range D cs (suc p + size c) a)) (h.3 ∙ sym h.1) r in
        let s' = subst (λ z. HasForm (inner z) (term_range D cs (suc p + size c + size a) u)) (h.4 ∙ sym h.1) s in
        hull_form (two (inner t) (term_range D cs (suc p + size c) a) (term_range D cs (suc p + size c + size a) u) r' s')
    range_form (Let t a u) bs cs p h b =
        let r = range_form a bs cs (suc p) h.1 b in
        subst (λ z. HasForm (inner z) (term_range D ((p, term_range D cs (suc p) a) ∷ cs) (suc p + size a) u)) (sym h.0)
        (range_form u ((p, term_type a) ∷ bs) ((p, term_range D cs (suc p) a) ∷ cs) (suc p + size a) h.2 (refl, r, b))

    pub ranges_form : (xs : Terms) (bs : Scope) (cs : Bounds) (p : ℕ) → HaveTypes D bs p xs → BoundsFit bs cs → HaveForms (inners (types_of xs)) (term_ranges D cs p xs)
    ranges_form NoMore bs cs p h b = tt
    ranges_form (More x xs) bs cs p h b = (range_form x bs cs p h.0 b, ranges_form xs bs cs (p + size x) h.1 b)
