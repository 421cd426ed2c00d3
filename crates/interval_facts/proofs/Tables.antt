-- Crates above cite this module: the ranges of all nodes as a table by places.
use Rattle.std.proofs.Common.{◌≡◌, ℕ, suc, ◌+◌, List, [], ◌∷◌, ◌++◌, length, get_or, refl, ap, subst, arith}
use Rattle.std.proofs.lemmas.List.{length-append}
use Rattle.fc_values.specs.Types.{Declarations}
use Rattle.fc_values.specs.BuiltinTypes.{inner}
use Rattle.fc_nodes.specs.Terms.{Term, Terms, Plain, Apply, Nbr, Evolve, If, Let, NoMore, More, size, sizes}
use Rattle.interval_facts.specs.Ranges.{RangeValue, BoolRange, full, Bounds, term_range, node_ranges, all_node_ranges}

-- from a place on a table has the entries of a list
abbrev pub Shows : (ℕ → RangeValue) → ℕ → List RangeValue → Type 0
Shows rs p [] = Unit {0}
Shows rs p (r ∷ l) = (rs p ≡ r) × Shows rs (suc p) l

shows_both : (rs : ℕ → RangeValue) (p : ℕ) (k l : List RangeValue) → Shows rs p (k ++ l) → Shows rs p k × Shows rs (p + length k) l
shows_both rs p [] l h = (tt, subst (λ q. Shows rs q l) (omega arith) h)
shows_both rs p (r ∷ k) l h = let b = shows_both rs (suc p) k l h.1 in ((h.0, b.0), subst (λ q. Shows rs q l) (omega arith) b.1)

pub shows_first : (rs : ℕ → RangeValue) (p n : ℕ) (k l : List RangeValue) → length k ≡ n → Shows rs p (k ++ l) → Shows rs p k
shows_first rs p n k l e h = (shows_both rs p k l h).0

pub shows_second : (rs : ℕ → RangeValue) (p n : ℕ) (k l : List RangeValue) → length k ≡ n → Shows rs p (k ++ l) → Shows rs (p + n) l
shows_second rs p n k l e h = subst (λ m. Shows rs (p + m) l) e (shows_both rs p k l h).1

pub shows_behind : (k l : List RangeValue) → Shows (λ q. get_or (k ++ l) q BoolRange) (length k) l
shows_behind k [] = tt
shows_behind k (r ∷ l) = (get_behind k r l, subst (λ n. Shows (λ q. get_or (k ++ r ∷ l) q BoolRange) n l) (omega (arith, length-append k (r ∷ []))) (one_more k r l (shows_behind (k ++ r ∷ []) l)))
  where
    get_behind : (k : List RangeValue) (r : RangeValue) (l : List RangeValue) → get_or (k ++ r ∷ l) (length k) BoolRange ≡ r
    get_behind [] r l = refl
    get_behind (x ∷ k) r l = get_behind k r l

    joined : (k : List RangeValue) (r : RangeValue) (l : List RangeValue) → (k ++ r ∷ []) ++ l ≡ k ++ r ∷ l
    joined [] r l = refl
    joined (x ∷ k) r l = ap (λ (z : List RangeValue). x ∷ z) (joined k r l)

    one_more : (k : List RangeValue) (r : RangeValue) (l : List RangeValue) → Shows (λ q. get_or ((k ++ r ∷ []) ++ l) q BoolRange) (length (k ++ r ∷ [])) l → Shows (λ q. get_or (k ++ r ∷ l) q BoolRange) (length (k ++ r ∷ [])) l
    one_more k r l h = subst (λ z. Shows (λ q. get_or z q BoolRange) (length (k ++ r ∷ [])) l) (joined k r l) h

-- a list shows itself
pub shows_itself : (l : List RangeValue) → Shows (λ q. get_or l q BoolRange) 0 l
shows_itself l = shows_behind [] l

module _ (D : Declarations) where
  mutual
    -- as many ranges as nodes
    pub as_many : (t : Term) (cs : Bounds) (p : ℕ) → length (node_ranges D cs p t) ≡ size t
    as_many (Plain t l) cs p = refl
    as_many (Apply t o xs) cs p = ap suc (all_as_many xs cs (suc p))
    as_many (Nbr t a) cs p = ap suc (as_many a cs (suc p))
    as_many (Evolve t e a u) cs p =
        let i = as_many a cs (suc p) in
        let j = as_many u ((p, full D.ceiling (inner t)) ∷ cs) (suc p + size a) in
        let k = length-append (node_ranges D cs (suc p) a) (node_ranges D ((p, full D.ceiling (inner t)) ∷ cs) (suc p + size a) u) in
        omega (arith, i, j, k)
    as_many (If t c u w) cs p =
        let i = as_many c cs (suc p) in
        let j = as_many u cs (suc p + size c) in
        let k = as_many w cs (suc p + size c + size u) in
        let l = length-append (node_ranges D cs (suc p + size c) u) (node_ranges D cs (suc p + size c + size u) w) in
        let m = length-append (node_ranges D cs (suc p) c) (node_ranges D cs (suc p + size c) u ++ node_ranges D cs (suc p + size c + size u) w) in
        omega (arith, i, j, k, l, m)
    as_many (Let t a u) cs p =
        let i = as_many a cs (suc p) in
        let j = as_many u ((p, term_range D cs (suc p) a) ∷ cs) (suc p + size a) in
        let k = length-append (node_ranges D cs (suc p) a) (node_ranges D ((p, term_range D cs (suc p) a) ∷ cs) (suc p + size a) u) in
        omega (arith, i, j, k)

    pub all_as_many : (xs : Terms) (cs : Bounds) (p : ℕ) → length (all_node_ranges D cs p xs) ≡ sizes xs
    all_as_many NoMore cs p = refl
    all_as_many (More x xs) cs p =
        let i = as_many x cs p in
        let j = all_as_many xs cs (p + size x) in
        let k = length-append (node_ranges D cs p x) (all_node_ranges D cs (p + size x) xs) in
        omega (arith, i, j, k)
