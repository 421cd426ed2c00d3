-- The kids of a builtin: their places and their types.
use Rattle.std.proofs.Common.{◌≡◌, ℕ, suc, ◌<◌, ◌+◌, List, [], ◌∷◌, length, refl, ap, arith}
use Rattle.fc_values.specs.declared.builtins.Builtin.{Builtin}
use Rattle.fc_values.specs.Types.{LocalType}
use Rattle.fc_values.specs.BuiltinTypes.{Takes, takes_add, takes_sub, takes_mul, takes_rise, takes_min, takes_max}
use Rattle.fc_values.specs.BuiltinTypes.{takes_less, takes_equal, takes_and, takes_or, takes_not, takes_mux, takes_pair}
use Rattle.fc_values.specs.BuiltinTypes.{takes_fst, takes_snd, inners}
use Rattle.fc_nodes.specs.declared.nodes.Node.{Node}
use Rattle.fc_nodes.specs.Terms.{size, term_at, terms_by, term_type}
use Rattle.fc_nodes.specs.Typing.{types_of}
use Rattle.fc_nodes.proofs.Places.{laid_within}
use Rattle.device_eval.specs.Rows.{Row}
use Rattle.device_eval.specs.Kids.{kid_types, AreWithin}

-- the types of a builtin's arguments are those of its kids
pub types_are : (ns : List Node) (ks : List ℕ) → types_of (terms_by (term_at ns) ks) ≡ kid_types ns ks
types_are ns [] = refl
types_are ns (k ∷ ks) = ap (λ ts. term_type (term_at ns k) ∷ ts) (types_are ns ks)

pub row_within : (ns : List Node) (q : ℕ) (ks : List ℕ) → Row ns q ks → AreWithin (length ns) ks
row_within ns q [] r = tt
row_within ns q (k ∷ ks) r = (laid_within ns k (term_at ns k) r.1, row_within ns (q + size (term_at ns k)) ks r.2)

-- an operator has one, two or three arguments
few_types : {b : Builtin} {ts : List LocalType} {t : LocalType} → Takes b ts t → (0 < length ts) × (length ts < 4)
few_types takes_add = (omega arith, omega arith)
few_types takes_sub = (omega arith, omega arith)
few_types takes_mul = (omega arith, omega arith)
few_types takes_rise = (omega arith, omega arith)
few_types (takes_min t) = (omega arith, omega arith)
few_types (takes_max t) = (omega arith, omega arith)
few_types (takes_less t) = (omega arith, omega arith)
few_types (takes_equal t) = (omega arith, omega arith)
few_types takes_and = (omega arith, omega arith)
few_types takes_or = (omega arith, omega arith)
few_types takes_not = (omega arith, omega arith)
few_types (takes_mux t) = (omega arith, omega arith)
few_types (takes_pair s t small) = (omega arith, omega arith)
few_types (takes_fst s t) = (omega arith, omega arith)
few_types (takes_snd s t) = (omega arith, omega arith)

types_long : (ns : List Node) (ks : List ℕ) → length (inners (kid_types ns ks)) ≡ length ks
types_long ns [] = refl
types_long ns (k ∷ ks) = ap suc (types_long ns ks)

pub few_kids : {b : Builtin} {t : LocalType} (ns : List Node) (ks : List ℕ) → Takes b (inners (kid_types ns ks)) t
    → (0 < length ks) × (length ks < 4)
few_kids ns ks takes =
    let f = few_types takes in
    let a = f.0 in
    let b = f.1 in
    let l = types_long ns ks in
    (omega (arith, a, l), omega (arith, b, l))
