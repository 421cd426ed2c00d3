-- No section is longer than its input.
use Rattle.std.proofs.Common.{ℕ, ◌≡◌, ◌+◌, ◌≤◌, Bool, true, false, cond, List, [], ◌∷◌, length, refl, subst, sym, arith, length-append}
use Rattle.std.specs.Prelude.{◌==◌}
use Rattle.std.specs.List.{onto_first}
use Rattle.fc_io.specs.Lines.{lines_of}
use Rattle.command_frame.specs.Sections.{AreWithin, is_separator, onto_section, sections_from, sections_of}

abbrev total : List (List ℕ) → ℕ
total [] = 0
total (l ∷ ls) = length l + total ls

onto_total : (b : ℕ) (ls : List (List ℕ)) → total (onto_first b ls) ≡ total ls + 1
onto_total b [] = refl
onto_total b (l ∷ ls) = omega arith

total_lines : (bs : List ℕ) → total (lines_of bs) ≡ length bs
total_lines [] = refl
total_lines (b ∷ bs) =
    let rest : total (lines_of bs) ≡ length bs = total_lines bs in
    let P : Bool → Type 0 = λ t. total (cond t ((b ∷ []) ∷ lines_of bs) (onto_first b (lines_of bs))) ≡ length (b ∷ bs) in
    elim (b == 10) as P [ true ↦ omega (arith, rest) | false ↦ omega (arith, rest, onto_total b (lines_of bs)) ]

pub more_room : (n m : ℕ) (ss : List (List ℕ)) → n ≤ m → AreWithin n ss → AreWithin m ss
more_room n m [] le w = tt
more_room n m (s ∷ ss) le w = (omega (arith, w.0), more_room n m ss le w.1)

onto_within : (n : ℕ) (line : List ℕ) (ss : List (List ℕ)) → AreWithin n ss → AreWithin (length line + n) (onto_section line ss)
onto_within n line [] w = (omega arith, tt)
onto_within n line (s ∷ ss) w = (omega (arith, length-append line s, w.0), more_room n (length line + n) ss (omega arith) w.1)

sections_within : (ls : List (List ℕ)) → AreWithin (total ls) (sections_from ls)
sections_within [] = (omega arith, tt)
sections_within (l ∷ ls) =
    let rest : AreWithin (total ls) (sections_from ls) = sections_within ls in
    let P : Bool → Type 0 = λ t. AreWithin (total (l ∷ ls)) (cond t ([] ∷ sections_from ls) (onto_section l (sections_from ls))) in
    elim (is_separator l) as P [
      | true ↦ (omega arith, more_room (total ls) (total (l ∷ ls)) (sections_from ls) (omega arith) rest)
      | false ↦ onto_within (total ls) l (sections_from ls) rest
    ]

pub within_input : (input : List ℕ) (sections : List (List ℕ)) → sections ≡ sections_of input → AreWithin (length input) sections
within_input input sections e = subst (AreWithin (length input)) (sym e) (subst (λ n. AreWithin n (sections_of input)) (total_lines input) (sections_within (lines_of input)))
