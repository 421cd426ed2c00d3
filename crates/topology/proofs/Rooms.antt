-- A network has at most 32 links for each of its devices.
use Rattle.std.proofs.Common.{◌≡◌, ℕ, suc, ◌+◌, ◌*◌, ◌≤◌, inl, List, [], ◌∷◌, length, refl, arith, Bool, true, false, not, cond, nat_eq, ◌||◌}
use Rattle.std.specs.List.{filter}
use Rattle.std.proofs.lemmas.Bool.{eqb-true}
use Rattle.fc_values.specs.Types.{Declarations}
use Rattle.topology.specs.Networks.{Edge, near_in, LinksFit}
use Rattle.fc_values.specs.Fields.{is_in}
use Rattle.topology.proofs.Links.{count, count_is, count_split, count_touch, count_filter}

-- each link is from one of the devices
abbrev FromAll : List ℕ → List Edge → Type 0
FromAll ds [] = Unit {0}
FromAll ds (l ∷ ls) = (is_in l.a ds ≡ true) × FromAll ds ls

from_fit : (D : Declarations) (ds : List ℕ) (ls : List Edge) → LinksFit D ds ls → FromAll ds ls
from_fit D ds [] f = tt
from_fit D ds (l ∷ ls) f = (f.0.from, from_fit D ds ls f.2)

abbrev others : ℕ → List Edge → List Edge
others d ls = filter (λ (l : Edge). not (nat_eq l.a d)) ls

from_others : (d : ℕ) (ds : List ℕ) (ls : List Edge) → FromAll (d ∷ ds) ls → FromAll ds (others d ls)
from_others d ds [] f = tt
from_others d ds (l ∷ ls) f = by_test (nat_eq l.a d) f.0 (from_others d ds ls f.1)
  where
    by_test : (q : Bool) → (q || is_in l.a ds) ≡ true → FromAll ds (others d ls) → FromAll ds (cond (not q) (l ∷ others d ls) (others d ls))
    by_test true t ih = ih
    by_test false t ih = (t, ih)

others_length : (d : ℕ) (ls : List Edge) → length ls ≤ length (others d ls) + count d ls
others_length d [] = omega arith
others_length d (l ∷ ls) = by_test (nat_eq l.a d) refl (others_length d ls)
  where
    by_test : (q : Bool) → nat_eq l.a d ≡ q → length ls ≤ length (others d ls) + count d ls → suc (length ls) ≤ length (cond (not q) (l ∷ others d ls) (others d ls)) + count d (l ∷ ls)
    by_test true t ih = omega (arith, count_split d l ls, count_touch d l (inl (eqb-true l.a d t)))
    by_test false t ih = omega (arith, count_split d l ls)

few_from : (ds : List ℕ) (ls : List Edge) → FromAll ds ls → ((d : ℕ) → count d ls ≤ 32) → length ls ≤ 32 * length ds
few_from [] [] f h = omega arith
few_from [] (l ∷ ls) f h = let k = f.0 in absurd (cc)
few_from (d ∷ ds) ls f h =
    let k = few_from ds (others d ls) (from_others d ds ls f) (λ e. let a = h e in let b = count_filter e (λ (l : Edge). not (nat_eq l.a d)) ls in omega arith) in
    let m = others_length d ls in
    let o = h d in
    omega arith

pub few_links : (D : Declarations) (ds : List ℕ) (ls : List Edge) → LinksFit D ds ls → ((d : ℕ) → length (near_in d ls) ≤ 32) → length ls ≤ 32 * length ds
few_links D ds ls f h = few_from ds ls (from_fit D ds ls f) (λ d. let k = h d in omega (arith, count_is d ls))
