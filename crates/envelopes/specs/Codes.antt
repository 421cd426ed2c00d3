-- A code that tells bounds of values apart, for types whose models hold them: the bound in postfix order.
use Rattle.std.specs.Prelude.{ℕ, zero, suc, ◌≡◌, List, [], ◌∷◌, refl}
use Rattle.std.specs.Coded.{Coded, code_by, coded×, coded_ℕ, coded_list}
use Rattle.std.proofs.Common.{◌∙◌, ap}
use Rattle.fc_values.specs.Codes.{truth_number, number_truth, truth_back}
use Rattle.value_bounds.specs.BoundValues.{BoundValue, Between, Truths, Both, Unbounded}

-- a token: two ends, two truth values, the mark of a pair, or that nothing is said
abbrev Token : Type 0
Token = ℕ × (ℕ × ℕ)

abbrev pub written : BoundValue → List Token → List Token
written (Between a b) rest = (0, (a, b)) ∷ rest
written (Truths a b) rest = (1, (truth_number a, truth_number b)) ∷ rest
written (Both a b) rest = written a (written b ((2, (0, 0)) ∷ rest))
written Unbounded rest = (3, (0, 0)) ∷ rest

abbrev pub pair_top : List BoundValue → List BoundValue
pair_top (b ∷ a ∷ stack) = Both a b ∷ stack
pair_top stack = stack

abbrev pub shift : ℕ → ℕ → ℕ → List BoundValue → List BoundValue
shift zero a b stack = Between a b ∷ stack
shift (suc zero) a b stack = Truths (number_truth a) (number_truth b) ∷ stack
shift (suc (suc zero)) a b stack = pair_top stack
shift (suc (suc (suc k))) a b stack = Unbounded ∷ stack

abbrev pub read_on : List Token → List BoundValue → List BoundValue
read_on [] stack = stack
read_on (t ∷ ts) stack = read_on ts (shift t.0 t.1.0 t.1.1 stack)

abbrev pub top : List BoundValue → BoundValue
top [] = Unbounded
top (v ∷ vs) = v

pub read_back : (v : BoundValue) (rest : List Token) (stack : List BoundValue)
    → read_on (written v rest) stack ≡ read_on rest (v ∷ stack)
read_back (Between a b) rest stack = refl
read_back (Truths a b) rest stack =
    ap (λ x. read_on rest (Truths x (number_truth (truth_number b)) ∷ stack)) (truth_back a)
    ∙ ap (λ x. read_on rest (Truths a x ∷ stack)) (truth_back b)
read_back (Both a b) rest stack =
    read_back a (written b ((2, (0, 0)) ∷ rest)) stack ∙ read_back b ((2, (0, 0)) ∷ rest) (a ∷ stack)
read_back Unbounded rest stack = refl

abbrev pub bound_value_code : Coded BoundValue
bound_value_code = code_by (List Token) (coded_list (coded× coded_ℕ (coded× coded_ℕ coded_ℕ))) (λ v. written v [])
    (λ ts. top (read_on ts [])) (λ v. ap top (read_back v [] []))
