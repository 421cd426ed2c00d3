-- Numbers, digit by digit.
use Rattle.std.proofs.Common.{ℕ, ◌≡◌, ◌+◌, ◌-◌, ◌*◌, ◌<◌, List, [], ◌∷◌, ◌++◌, length, take, get_or, ap, ◌∙◌, sym, arith, min}
use Rattle.std.proofs.lemmas.List.{take_more}
use Rattle.fc_lexer.specs.Kinds.{number_value, written}
use Rattle.fc_lexer.proofs.Digits.{written_more}

cut_once : (w d : ℕ) → min (min w 1000001 * 10 + d) 1000001 ≡ min (w * 10 + d) 1000001
cut_once w d = omega arith

number_more : (ds : List ℕ) (d : ℕ) → number_value (ds ++ d ∷ []) ≡ min (number_value ds * 10 + (d - 48)) 1000001
number_more ds d = ap (λ w. min w 1000001) (written_more ds d) ∙ sym (cut_once (written ds) (d - 48))

pub next_number : (ds : List ℕ) (i value : ℕ) → i < length ds → value ≡ number_value (take i ds) → min (value * 10 + (get_or ds i 0 - 48)) 1000001 ≡ number_value (take (i + 1) ds)
next_number ds i value h e = ap (λ v. min (v * 10 + (get_or ds i 0 - 48)) 1000001) e ∙ sym (number_more (take i ds) (get_or ds i 0)) ∙ ap number_value (sym (take_more ds i 0 h))
