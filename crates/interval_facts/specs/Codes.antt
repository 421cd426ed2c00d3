-- A code that tells ranges apart, for types whose models hold them: the range in postfix order.
use Rattle.std.specs.Prelude.{ℕ, zero, suc, ◌≡◌, List, [], ◌∷◌, refl}
use Rattle.std.specs.Coded.{Coded, code_by, coded×, coded_ℕ, coded_list}
use Rattle.std.proofs.Common.{◌∙◌, ap}
use Rattle.interval_facts.specs.Ranges.{RangeValue, IntRange, BoolRange, PairRange}

-- a token: two ends, truth values, or the mark of a pair
abbrev pub Token : Type 0
Token = ℕ × (ℕ × ℕ)

abbrev pub written : RangeValue → List Token → List Token
written (IntRange a b) rest = (0, (a, b)) ∷ rest
written BoolRange rest = (1, (0, 0)) ∷ rest
written (PairRange r s) rest = written r (written s ((2, (0, 0)) ∷ rest))

abbrev pub pair_top : List RangeValue → List RangeValue
pair_top (s ∷ r ∷ stack) = PairRange r s ∷ stack
pair_top stack = stack

abbrev pub shift : ℕ → ℕ → ℕ → List RangeValue → List RangeValue
shift zero a b stack = IntRange a b ∷ stack
shift (suc zero) a b stack = BoolRange ∷ stack
shift (suc (suc k)) a b stack = pair_top stack

abbrev pub read_on : List Token → List RangeValue → List RangeValue
read_on [] stack = stack
read_on (t ∷ ts) stack = read_on ts (shift t.0 t.1.0 t.1.1 stack)

abbrev pub top : List RangeValue → RangeValue
top [] = BoolRange
top (r ∷ rs) = r

pub read_back : (r : RangeValue) (rest : List Token) (stack : List RangeValue) →
    read_on (written r rest) stack ≡ read_on rest (r ∷ stack)
read_back (IntRange a b) rest stack = refl
read_back BoolRange rest stack = refl
read_back (PairRange r s) rest stack =
    read_back r (written s ((2, (0, 0)) ∷ rest)) stack ∙ read_back s ((2, (0, 0)) ∷ rest) (r ∷ stack)

abbrev pub range_value_code : Coded RangeValue
range_value_code =
    code_by (List Token) (coded_list (coded× coded_ℕ (coded× coded_ℕ coded_ℕ))) (λ r. written r [])
    (λ ts. top (read_on ts [])) (λ r. ap top (read_back r [] []))
