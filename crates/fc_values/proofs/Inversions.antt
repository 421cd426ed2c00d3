-- what the arguments are, where an operator has a value
use Rattle.std.proofs.Common.{◌≡◌, ◌≤◌, ℕ, Bool, List, [], ◌∷◌, length, Some, IsSome, refl, ap, arith, suc}
use Rattle.std.proofs.lemmas.List.{length-map}
use Rattle.fc_values.specs.declared.builtins.Builtin.{Builtin}
use Rattle.fc_values.specs.declared.builtins.Builtin.TheVariants as op
use Rattle.fc_values.specs.declared.values.Value.{Value}
use Rattle.fc_values.specs.Fields.{AnyValue, value_of, values_of}
use Rattle.fc_values.specs.Positions.{arguments_nth}
use Rattle.fc_values.specs.Values.{LocalValue, IntValue, BoolValue, PairValue}
use Rattle.fc_values.specs.Builtins.{of_two_integers, of_three_integers, of_truth, of_two_truths, of_two, of_pair, of_choice, local_value}
use Rattle.fc_values.specs.Rows.{AreTwo, AreTwoIntegers, AreThreeIntegers, IsTruth, AreTwoTruths, IsPair, IsChoice, head_of, tail_of}

pub are_two : (f : LocalValue → LocalValue → LocalValue) (xs : List LocalValue) → IsSome (of_two f xs) → AreTwo xs
are_two f (a ∷ b ∷ []) h = tt
are_two f xs h = absurd cc

pub two_of : (f : LocalValue → LocalValue → LocalValue) (xs : List LocalValue) → AreTwo xs → of_two f xs ≡ Some (f (head_of xs) (head_of (tail_of xs)))
two_of f (a ∷ b ∷ []) h = refl
two_of f xs h = absurd h

pub are_two_integers : (f : ℕ → ℕ → LocalValue) (xs : List LocalValue) → IsSome (of_two_integers f xs) → AreTwoIntegers xs
are_two_integers f (IntValue a ∷ IntValue b ∷ []) h = (tt, tt)
are_two_integers f xs h = absurd cc

pub are_three_integers : (f : ℕ → ℕ → ℕ → LocalValue) (xs : List LocalValue) → IsSome (of_three_integers f xs) → AreThreeIntegers xs
are_three_integers f (IntValue a ∷ IntValue b ∷ IntValue c ∷ []) h = (tt, tt, tt)
are_three_integers f xs h = absurd cc

pub is_truth : (f : Bool → LocalValue) (xs : List LocalValue) → IsSome (of_truth f xs) → IsTruth xs
is_truth f (BoolValue a ∷ []) h = tt
is_truth f xs h = absurd cc

pub are_two_truths : (f : Bool → Bool → LocalValue) (xs : List LocalValue) → IsSome (of_two_truths f xs) → AreTwoTruths xs
are_two_truths f (BoolValue a ∷ BoolValue b ∷ []) h = (tt, tt)
are_two_truths f xs h = absurd cc

pub is_pair : (f : LocalValue → LocalValue → LocalValue) (xs : List LocalValue) → IsSome (of_pair f xs) → IsPair xs
is_pair f (PairValue a b ∷ []) h = tt
is_pair f xs h = absurd cc

pub is_choice : (xs : List LocalValue) → IsSome (of_choice xs) → IsChoice xs
is_choice (BoolValue c ∷ a ∷ b ∷ []) h = tt
is_choice xs h = absurd cc

-- an operator has one to three arguments
abbrev OneToThree : ℕ → Type 0
OneToThree n = (1 ≤ n) × (n ≤ 3)

two_few : (xs : List LocalValue) → AreTwo xs → OneToThree (length xs)
two_few (a ∷ b ∷ []) h = (omega arith, omega arith)
two_few xs h = absurd h

two_integers_few : (xs : List LocalValue) → AreTwoIntegers xs → OneToThree (length xs)
two_integers_few (a ∷ b ∷ []) h = (omega arith, omega arith)
two_integers_few xs h = absurd h

three_integers_few : (xs : List LocalValue) → AreThreeIntegers xs → OneToThree (length xs)
three_integers_few (a ∷ b ∷ c ∷ []) h = (omega arith, omega arith)
three_integers_few xs h = absurd h

truth_few : (xs : List LocalValue) → IsTruth xs → OneToThree (length xs)
truth_few (a ∷ []) h = (omega arith, omega arith)
truth_few xs h = absurd h

two_truths_few : (xs : List LocalValue) → AreTwoTruths xs → OneToThree (length xs)
two_truths_few (a ∷ b ∷ []) h = (omega arith, omega arith)
two_truths_few xs h = absurd h

pair_few : (xs : List LocalValue) → IsPair xs → OneToThree (length xs)
pair_few (a ∷ []) h = (omega arith, omega arith)
pair_few xs h = absurd h

choice_few : (xs : List LocalValue) → IsChoice xs → OneToThree (length xs)
choice_few (a ∷ b ∷ c ∷ []) h = (omega arith, omega arith)
choice_few xs h = absurd h

few : (builtin : Builtin) (ceiling : ℕ) (xs : List LocalValue) → IsSome (local_value builtin ceiling xs) → OneToThree (length xs)
few op.Add ceiling xs h = two_integers_few xs (are_two_integers _ xs h)
few op.Sub ceiling xs h = two_integers_few xs (are_two_integers _ xs h)
few op.Mul ceiling xs h = two_integers_few xs (are_two_integers _ xs h)
few op.Rise ceiling xs h = three_integers_few xs (are_three_integers _ xs h)
few op.Min ceiling xs h = two_few xs (are_two _ xs h)
few op.Max ceiling xs h = two_few xs (are_two _ xs h)
few op.Less ceiling xs h = two_few xs (are_two _ xs h)
few op.Equal ceiling xs h = two_few xs (are_two _ xs h)
few op.Pair ceiling xs h = two_few xs (are_two _ xs h)
few op.And ceiling xs h = two_truths_few xs (are_two_truths _ xs h)
few op.Or ceiling xs h = two_truths_few xs (are_two_truths _ xs h)
few op.Not ceiling xs h = truth_few xs (is_truth _ xs h)
few op.Mux ceiling xs h = choice_few xs (is_choice xs h)
few op.Fst ceiling xs h = pair_few xs (is_pair _ xs h)
few op.Snd ceiling xs h = pair_few xs (is_pair _ xs h)
few op.MinHoodLoc ceiling xs h = absurd cc
few op.MaxHoodLoc ceiling xs h = absurd cc
few op.SumHood ceiling xs h = absurd cc
few op.AnyHood ceiling xs h = absurd cc
few op.AllHood ceiling xs h = absurd cc

nth_length : (i : ℕ) (xs : List AnyValue) → length (arguments_nth i xs) ≡ length xs
nth_length i [] = refl
nth_length i (x ∷ xs) = ap suc (nth_length i xs)

pub few_arguments : (builtin : Builtin) (ceiling i : ℕ) (xs : List Value) → IsSome (local_value builtin ceiling (arguments_nth i (values_of xs))) → (1 ≤ length xs) × (length xs ≤ 3)
few_arguments builtin ceiling i xs h =
    let f = few builtin ceiling (arguments_nth i (values_of xs)) h in
    let a = f.0 in
    let b = f.1 in
    let same = nth_length i (values_of xs) in
    (omega (arith, a, same, length-map xs value_of), omega (arith, b, same, length-map xs value_of))

pub ruleset rows_fit = (are_two, two_of, are_two_integers, are_three_integers, is_truth, are_two_truths, is_pair, is_choice)
