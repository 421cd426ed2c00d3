-- Solutions of a body with limited rise, where the maps in scope lie in their ranges.
use Rattle.std.proofs.Common.{◌≡◌, ◌↔◌, ℕ, suc, ◌+◌, List, [], ◌∷◌, refl, ap, subst, arith, Bool, true, false, ◌||◌}
use Rattle.fc_values.specs.declared.builtins.Builtin.TheVariants as op
use Rattle.fc_values.specs.Types.{LocalType, IntType, ValueType, TypeLocal, TypeField}
use Rattle.fc_values.specs.Values.{LocalValue, IntValue, BoolValue, PairValue, Fits}
use Rattle.fc_values.specs.BuiltinTypes.{Takes, takes_rise, inner, inners, is_field, has_field, lifted, HasRule}
use Rattle.fc_nodes.specs.Terms.{term_type, size}
use Rattle.interval_facts.specs.Ranges.{InRange, full, term_range}
use Rattle.interval_facts.specs.Solutions.{ValueMap, FitsOn, local_map, Solves}
use Rattle.interval_facts.specs.Claims.{MapLiesIn}
use Rattle.interval_facts.proofs.Claims.{fits_of, bound_holds, term_lies}
use Rattle.rise.specs.Laws.{rising_body, in_body, SolvesWithoutRiseInScope}
use Rattle.rise.proofs.WithoutRise.{without_rise}

-- the arguments of `rise` are local integers, where its value is local
record AreIntegers (a b : ValueType) : Type 0 where
  first : a ≡ TypeLocal IntType
  second : b ≡ TypeLocal IntType

local_integer : (a : ValueType) → inner a ≡ IntType → is_field a ≡ false → a ≡ TypeLocal IntType
local_integer (TypeLocal t) e f = ap TypeLocal e
local_integer (TypeField t) e f = absurd cc

both_plain : (p q : Bool) → (p || (false || (q || false))) ≡ false → (p ≡ false) × (q ≡ false)
both_plain false false e = (refl, refl)
both_plain true q e = absurd cc
both_plain false true e = absurd cc

not_lifted : (b : Bool) (t : LocalType) → TypeLocal IntType ≡ lifted b t → b ≡ false
not_lifted true t e = absurd cc
not_lifted false t e = refl

taken : (ts : List LocalType) (t : LocalType) → Takes op.Rise ts t → ts ≡ IntType ∷ IntType ∷ IntType ∷ []
taken _ _ takes_rise = refl

are_integers : (a b : ValueType) → HasRule op.Rise (a ∷ TypeLocal IntType ∷ b ∷ []) (TypeLocal IntType) → AreIntegers a b
are_integers a b rule =
    let k = taken (inners (a ∷ TypeLocal IntType ∷ b ∷ [])) rule.local rule.takes in
    let plain = both_plain (is_field a) (is_field b) (not_lifted (has_field (a ∷ TypeLocal IntType ∷ b ∷ [])) rule.local rule.value) in
    let i : inner a ≡ IntType = cc in
    let j : inner b ≡ IntType = cc in
    record { first = local_integer a i plain.0; second = local_integer b j plain.1 }

-- integers that fit lie in the full range
fits_full : (m : ℕ) (v : LocalValue) → Fits m IntType v → InRange (full m IntType) v
fits_full m (IntValue n) h = (omega arith, h)
fits_full m (BoolValue b) h = absurd h
fits_full m (PairValue a b) h = absurd h

pub without_rise_in_scope : SolvesWithoutRiseInScope
without_rise_in_scope N D bs cs V f x p t s net metric live fit hold typed some =
    (λ h. (all h.0).0 h, λ h. (all (own h.0)).1 h)
  where
    integers : AreIntegers (term_type t) (term_type s)
    integers = are_integers (term_type t) (term_type s) typed.0

    own : Solves N (suc p) t D (in_body x f V) (local_map f) → FitsOn N D (TypeLocal IntType) (local_map f)
    own h = let i = integers in subst (λ y. FitsOn N D y (local_map f)) i.first (fits_of N t (suc p) D (in_body x f V) (local_map f) h)

    lies : FitsOn N D (TypeLocal IntType) (local_map f) → (G : ValueMap) → Solves N (suc p + size t + 1) s D (in_body x f V) G → MapLiesIn D (term_range N.declared ((x, full N.declared.ceiling IntType) ∷ cs) (suc p + size t + 1) s) G
    lies fits G h =
        term_lies N net metric s (suc p + size t + 1) ((x, TypeLocal IntType) ∷ bs) ((x, full N.declared.ceiling IntType) ∷ cs) D (in_body x f V) G live typed.1.1.1.0 (refl, tt, fit)
        (bound_holds D x (full N.declared.ceiling IntType) (local_map f) cs V (λ d i. fits_full N.declared.ceiling (f d) (fits d i)) hold) h

    all : FitsOn N D (TypeLocal IntType) (local_map f) → Solves N p (rising_body x t s) D (in_body x f V) (local_map f)
        ↔ (Solves N (suc p) t D (in_body x f V) (local_map f) × ((G : ValueMap) × Solves N (suc p + size t + 1) s D (in_body x f V) G))
    all fits = let i = integers in without_rise N D V f x p t s (term_range N.declared ((x, full N.declared.ceiling IntType) ∷ cs) (suc p + size t + 1) s) i.first i.second some (lies fits)
