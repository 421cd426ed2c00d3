-- A code that tells local values apart, for types whose models hold them: the value in postfix order.
use Rattle.std.specs.Prelude.{ℕ, zero, suc, ◌≡◌, Bool, true, false, List, [], ◌∷◌, refl}
use Rattle.std.specs.Coded.{Coded, code_by, coded×, coded_ℕ, coded_list}
use Rattle.std.proofs.Common.{◌∙◌, ap}
use Rattle.fc_values.specs.Values.{LocalValue, IntValue, BoolValue, PairValue}

abbrev pub truth_number : Bool → ℕ
truth_number false = 0
truth_number true = 1

abbrev pub number_truth : ℕ → Bool
number_truth zero = false
number_truth (suc n) = true

-- a token: an integer, a truth value, or the mark of a pair
abbrev pub written : LocalValue → List (ℕ × ℕ) → List (ℕ × ℕ)
written (IntValue n) rest = (0, n) ∷ rest
written (BoolValue b) rest = (1, truth_number b) ∷ rest
written (PairValue a b) rest = written a (written b ((2, 0) ∷ rest))

abbrev pub pair_top : List LocalValue → List LocalValue
pair_top (b ∷ a ∷ stack) = PairValue a b ∷ stack
pair_top stack = stack

abbrev pub shift : ℕ → ℕ → List LocalValue → List LocalValue
shift zero n stack = IntValue n ∷ stack
shift (suc zero) n stack = BoolValue (number_truth n) ∷ stack
shift (suc (suc k)) n stack = pair_top stack

abbrev pub read_on : List (ℕ × ℕ) → List LocalValue → List LocalValue
read_on [] stack = stack
read_on (t ∷ ts) stack = read_on ts (shift t.0 t.1 stack)

abbrev pub top : List LocalValue → LocalValue
top [] = IntValue 0
top (v ∷ vs) = v

pub truth_back : (b : Bool) → number_truth (truth_number b) ≡ b
truth_back false = refl
truth_back true = refl

pub read_back : (v : LocalValue) (rest : List (ℕ × ℕ)) (stack : List LocalValue)
    → read_on (written v rest) stack ≡ read_on rest (v ∷ stack)
read_back (IntValue n) rest stack = refl
read_back (BoolValue b) rest stack = ap (λ c. read_on rest (BoolValue c ∷ stack)) (truth_back b)
read_back (PairValue a b) rest stack =
    read_back a (written b ((2, 0) ∷ rest)) stack ∙ read_back b ((2, 0) ∷ rest) (a ∷ stack)

abbrev pub local_value_code : Coded LocalValue
local_value_code = code_by (List (ℕ × ℕ)) (coded_list (coded× coded_ℕ coded_ℕ)) (λ v. written v [])
    (λ ts. top (read_on ts [])) (λ v. ap top (read_back v [] []))
