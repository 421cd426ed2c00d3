-- Lines by their places.
use Rattle.std.proofs.Common.{ℕ, zero, suc, ◌≡◌, ◌+◌, ◌<◌, ◌≤◌, List, [], ◌∷◌, length, map, get_or, take, drop, refl, sym, ap, ◌∙◌, arith, Some, None, add-one}
use Rattle.std.specs.Prelude.{Option, option_map}
use Rattle.std.specs.Option.{option_or}
use Rattle.topology.specs.Networks.{Network}
use Rattle.changes.specs.declared.types.Change.{Change}
use Rattle.changes.specs.declared.types.ChangeLine.{ChangeLine}
use Rattle.changes.specs.Changes.{ChangeValue}
use Rattle.changes.specs.Code.{change_in, line_in}
use Rattle.changes.specs.Hand.{said, said_first}
use Rattle.changes.specs.declared.types.ChangeFault.{ChangeFault}
use Rattle.changes.specs.Faults.{fault_of_line, numbered_fault, first_from}
use Rattle.changes.specs.Kept.{line_at}
use Rattle.changes.proofs.AtHand.{behind}

pub line_is : (ls : List ChangeLine) (i : ℕ) (d : ChangeLine) → i < length ls → line_at i ls ≡ line_in (get_or ls i d)
line_is [] i d h = absurd (omega arith)
line_is (l ∷ ls) zero d h = refl
line_is (l ∷ ls) (suc i) d h = line_is ls i d (omega arith)

pub says_at : (ls : List ChangeLine) (i : ℕ) (d : ChangeLine) (o : Option Change) → i < length ls → (get_or ls i d).change ≡ o → (line_at i ls).1 ≡ option_map change_in o
says_at ls i d o h e = ap (λ (l : ℕ × Option ChangeValue). l.1) (line_is ls i d h) ∙ ap (option_map change_in) e

-- what the lines from a place on say
said_at : (ls : List ChangeLine) (i : ℕ) → i < length ls → said (map line_in (drop i ls)) ≡ said_first (line_at i ls).1 (said (map line_in (drop (suc i) ls)))
said_at [] i h = absurd (omega arith)
said_at (l ∷ ls) zero h = refl
said_at (l ∷ ls) (suc i) h = said_at ls i (omega arith)

pub said_from : (ls : List ChangeLine) (i j : ℕ) → i < length ls → j ≡ i + 1 → said (map line_in (drop i ls)) ≡ said_first (line_at i ls).1 (said (map line_in (drop j ls)))
said_from ls i j h e = said_at ls i h ∙ ap (λ k. said_first (line_at i ls).1 (said (map line_in (drop k ls)))) (sym (e ∙ add-one i))

pub said_few : (ls : List ChangeLine) → length (said (map line_in ls)) ≤ length ls
said_few [] = omega arith
said_few (l ∷ ls) = by_line (line_in l).1 (said_few ls)
  where
    by_line : (o : Option ChangeValue) → length (said (map line_in ls)) ≤ length ls → length (said_first o (said (map line_in ls))) ≤ suc (length ls)
    by_line None h = omega arith
    by_line (Some c) h = omega arith

-- the lines before a place, the last one first
abbrev pub before : ℕ → List ChangeLine → List ChangeValue
before i ls = behind [] (map line_in (take i ls))

behind_next : (cs : List ChangeValue) (ls : List ChangeLine) (i : ℕ) → i < length ls → behind cs (map line_in (take (suc i) ls)) ≡ said_first (line_at i ls).1 (behind cs (map line_in (take i ls)))
behind_next cs [] i h = absurd (omega arith)
behind_next cs (l ∷ ls) zero h = refl
behind_next cs (l ∷ ls) (suc i) h = behind_next (said_first (line_in l).1 cs) ls i (omega arith)

pub before_next : (ls : List ChangeLine) (i : ℕ) → i < length ls → before (i + 1) ls ≡ said_first (line_at i ls).1 (before i ls)
before_next ls i h = ap (λ k. before k ls) (add-one i) ∙ behind_next [] ls i h

behind_few : (cs : List ChangeValue) (ls : List ChangeLine) (i : ℕ) → length (behind cs (map line_in (take i ls))) ≤ length cs + i
behind_few cs [] zero = omega arith
behind_few cs [] (suc i) = omega arith
behind_few cs (l ∷ ls) zero = omega arith
behind_few cs (l ∷ ls) (suc i) = let h = behind_few (said_first (line_in l).1 cs) ls i in let k = more (line_in l).1 in omega arith
  where
    more : (o : Option ChangeValue) → length (said_first o cs) ≤ suc (length cs)
    more None = omega arith
    more (Some c) = omega arith

pub before_few : (ls : List ChangeLine) (i : ℕ) → length (before i ls) ≤ i
before_few ls i = let h = behind_few [] ls i in omega arith

-- ---- the lines from a place on, judged

rest_at : (n : Network) (all cs : List ChangeValue) (ls : List ChangeLine) (i : ℕ) → i < length ls
    → first_from n all cs (map line_in (drop i ls)) ≡ option_or (numbered_fault (line_at i ls).0 (fault_of_line n all cs (line_at i ls).1)) (first_from n all (said_first (line_at i ls).1 cs) (map line_in (drop (suc i) ls)))
rest_at n all cs [] i h = absurd (omega arith)
rest_at n all cs (l ∷ ls) zero h = refl
rest_at n all cs (l ∷ ls) (suc i) h = rest_at n all cs ls i (omega arith)

-- a line that is refused
pub refused_at : (n : Network) (all cs : List ChangeValue) (ls : List ChangeLine) (i k : ℕ) (f : ChangeFault) → i < length ls → (line_at i ls).0 ≡ k → Some f ≡ fault_of_line n all cs (line_at i ls).1
    → first_from n all cs (map line_in (drop i ls)) ≡ Some (k, f)
refused_at n all cs ls i k f h e g = let o = sym g in rest_at n all cs ls i h ∙ rw (e, o) refl

-- a line that isn't
pub passed_at : (n : Network) (all : List ChangeValue) (ls : List ChangeLine) (i : ℕ) → i < length ls → None ≡ fault_of_line n all (before i ls) (line_at i ls).1
    → first_from n all (before i ls) (map line_in (drop i ls)) ≡ first_from n all (before (i + 1) ls) (map line_in (drop (i + 1) ls))
passed_at n all ls i h g =
    rest_at n all (before i ls) ls i h
    ∙ ap (λ o. option_or (numbered_fault (line_at i ls).0 o) (first_from n all (said_first (line_at i ls).1 (before i ls)) (map line_in (drop (suc i) ls)))) (sym g)
    ∙ ap (λ cs. first_from n all cs (map line_in (drop (suc i) ls))) (sym (before_next ls i h))
    ∙ ap (λ k. first_from n all (before (i + 1) ls) (map line_in (drop k ls))) (sym (add-one i))
