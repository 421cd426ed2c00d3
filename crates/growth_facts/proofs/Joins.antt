-- The facts of a node are joined from those of its kids.
use Rattle.std.proofs.Common.{◌≡◌, ℕ, suc, ◌+◌, List, ◌∷◌, refl, sym, ◌∙◌, ap, Bool, true, false, ◌||◌}
use Rattle.fc_values.specs.declared.builtins.Builtin.TheVariants as op
use Rattle.fc_values.specs.Types.{ValueType}
use Rattle.fc_values.specs.BuiltinTypes.{inner}
use Rattle.fc_nodes.specs.declared.nodes.Node.{Node}
use Rattle.fc_nodes.specs.Terms.{Evolution, ByRep, ByShare, Term, Terms, Plain, Apply, Nbr, Evolve, If, Let, NoMore, More, term_type, size, Sort, OfLeaf, OfApply, OfNbr, OfEvolve, OfIf, OfLet, term_at, HasNode, Laid, AllLaid, places}
use Rattle.fc_nodes.specs.Places.{StandsAt}
use Rattle.fc_nodes.specs.Program.{Program, unfolding_of}
use Rattle.fc_nodes.proofs.Places.{AllAbove}
use Rattle.fc_nodes.proofs.Kids.{laid_term, kids_of, kids_are}
use Rattle.interval_facts.specs.Ranges.{RangeValue, range_of}
use Rattle.fc_nodes.specs.Variables.{is_variable, occurs, occurs_in, is_own, is_heard}
use Rattle.growth_facts.specs.Leads.{is_integer, leads, least_integer}
use Rattle.growth_facts.specs.Growth.{is_heard_rest, GrowthValue, NodeFacts, growth_by, growth_apart, growth_heard, node_growth, growth_of, facts_in, facts_of}
use Rattle.growth_facts.specs.Facts.{any_uses, heard_sort, rest_sort, sort_growth, joined, facts_at}
use Rattle.fc_nodes.specs.Sorts.{is_own_sort}

-- what a term is, without its kids
abbrev pub term_sort : Term → Sort
term_sort (Plain t l) = OfLeaf l
term_sort (Apply t o xs) = OfApply o
term_sort (Nbr t a) = OfNbr
term_sort (Evolve t e a b) = OfEvolve e
term_sort (If t c a b) = OfIf
term_sort (Let t a b) = OfLet

pub or_none : (a : Bool) → a ≡ (a || false)
or_none true = refl
or_none false = refl

module _ (m : ℕ) (rs : ℕ → RangeValue) (e : Evolution) (x : ℕ) where
  all_use : (p : ℕ) (xs : Terms) → any_uses (facts_in m rs e x p xs) ≡ occurs_in x xs
  all_use p NoMore = refl
  all_use p (More t ts) = ap (λ b. occurs x t || b) (all_use (p + size t) ts)

  uses_is : (p : ℕ) (u : Term) → occurs x u ≡ (is_own_sort x (term_sort u) || any_uses (facts_in m rs e x (suc p) (kids_of u)))
  uses_is p (Plain t l) = or_none (is_variable x l)
  uses_is p (Apply t o xs) = sym (all_use (suc p) xs)
  uses_is p (Nbr t a) = or_none (occurs x a)
  uses_is p (Evolve t f a b) = ap (λ c. occurs x a || c) (or_none (occurs x b))
  uses_is p (If t c a b) = ap (λ k. occurs x c || (occurs x a || k)) (or_none (occurs x b))
  uses_is p (Let t a b) = ap (λ c. occurs x a || c) (or_none (occurs x b))

  own_is : (u : Term) → is_own x u ≡ is_own_sort x (term_sort u)
  own_is (Plain t l) = refl
  own_is (Apply t o xs) = refl
  own_is (Nbr t a) = refl
  own_is (Evolve t f a b) = refl
  own_is (If t c a b) = refl
  own_is (Let t a b) = refl

  rest_is : (p : ℕ) (u : Term) → is_heard_rest e x u ≡ rest_sort (term_sort u) (facts_in m rs e x (suc p) (kids_of u))
  rest_is p (Plain t l) = refl
  rest_is p (Apply t op.Snd NoMore) = refl
  rest_is p (Apply t op.Snd (More h NoMore)) = refl
  rest_is p (Apply t op.Snd (More h (More k ts))) = refl
  rest_is p (Apply t o xs) = refl
  rest_is p (Nbr t a) = refl
  rest_is p (Evolve t f a b) = refl
  rest_is p (If t c a b) = refl
  rest_is p (Let t a b) = refl

  growth_is : (p : ℕ) (u : Term) → growth_of m rs e x p u ≡ node_growth m rs e x p u (sort_growth m p (term_sort u) (facts_in m rs e x (suc p) (kids_of u)))
  growth_is p (Plain t l) = refl
  growth_is p (Apply t o xs) = refl
  growth_is p (Nbr t a) = refl
  growth_is p (Evolve t f a b) = refl
  growth_is p (If t c a b) = refl
  growth_is p (Let t a b) = refl

heard_is : (m : ℕ) (rs : ℕ → RangeValue) (e : Evolution) (x p : ℕ) (u : Term) → is_heard e x u ≡ heard_sort e x (term_sort u) (facts_in m rs e x (suc p) (kids_of u))
heard_is m rs ByRep x p (Plain t l) = refl
heard_is m rs ByRep x p (Apply t o xs) = refl
heard_is m rs ByRep x p (Nbr t a) = refl
heard_is m rs ByRep x p (Evolve t f a b) = refl
heard_is m rs ByRep x p (If t c a b) = refl
heard_is m rs ByRep x p (Let t a b) = refl
heard_is m rs ByShare x p (Plain t l) = refl
heard_is m rs ByShare x p (Apply t o xs) = refl
heard_is m rs ByShare x p (Nbr t a) = refl
heard_is m rs ByShare x p (Evolve t f a b) = refl
heard_is m rs ByShare x p (If t c a b) = refl
heard_is m rs ByShare x p (Let t a b) = refl

abbrev made : Bool → Bool → Bool → Bool → Bool → Bool → ℕ → GrowthValue → NodeFacts
made b o h r i l lo g = record {
  uses = b;
  own = o;
  heard = h;
  rest = r;
  integer = i;
  leads = l;
  least = lo;
  growth = g;
}

-- the facts of a term from those of its kids
pub joined_is : (m : ℕ) (rs : ℕ → RangeValue) (e : Evolution) (x p : ℕ) (u : Term)
    → facts_of m rs e x p u ≡ joined m e x p (term_sort u) (inner (term_type u)) (least_integer (rs p)) (facts_in m rs e x (suc p) (kids_of u))
joined_is m rs e x p u =
    let fs = facts_in m rs e x (suc p) (kids_of u) in
    let q1 = uses_is m rs e x p u in
    let q2 = own_is m rs e x u in
    let q3 = heard_is m rs e x p u in
    let q4 = rest_is m rs e x p u in
    let q5 = growth_is m rs e x p u in
    with_all (occurs x u) (is_own_sort x (term_sort u) || any_uses fs) (is_own x u) (is_own_sort x (term_sort u)) (is_heard e x u) (heard_sort e x (term_sort u) fs) (is_heard_rest e x u) (rest_sort (term_sort u) fs)
    (growth_of m rs e x p u) (sort_growth m p (term_sort u) fs) q1 q2 q3 q4 q5
  where
    with_all : (b b' o o' h h' r r' : Bool) (g g' : GrowthValue) → b ≡ b' → o ≡ o' → h ≡ h' → r ≡ r' → g ≡ growth_by b h (growth_apart m p (least_integer (rs p))) (growth_heard p (leads (inner (term_type u)))) g'
        → made b o h r (is_integer (inner (term_type u))) (leads (inner (term_type u))) (least_integer (rs p)) g
        ≡ made b' o' h' r' (is_integer (inner (term_type u))) (leads (inner (term_type u))) (least_integer (rs p)) (growth_by b' h' (growth_apart m p (least_integer (rs p))) (growth_heard p (leads (inner (term_type u)))) g')
    with_all b b' o o' h h' r r' g g' i j k l n = rw (n, i, j, k, l) refl

pub sort_is : (ns : List Node) (p : ℕ) (u : Term) (s : Sort) (t : ValueType) (ks : List ℕ) → Laid ns p u → HasNode ns p s t ks → (term_sort u ≡ s) × (term_type u ≡ t)
sort_is ns p (Plain t l) s t' ks h k = (cc, cc)
sort_is ns p (Apply t o xs) s t' ks h k = let l = h.0 in (cc, cc)
sort_is ns p (Nbr t a) s t' ks h k = let l = h.0 in (cc, cc)
sort_is ns p (Evolve t e a b) s t' ks h k = let l = h.0 in (cc, cc)
sort_is ns p (If t c a b) s t' ks h k = let l = h.0 in (cc, cc)
sort_is ns p (Let t a b) s t' ks h k = let l = h.0 in (cc, cc)

-- the facts of terms that stand one after another, by their places
facts_by_place : (P : Program) → AllAbove P.nodes → (e : Evolution) (x p : ℕ) (xs : Terms) → AllLaid P.nodes p xs
    → facts_in P.declared.ceiling (range_of (unfolding_of P)) e x p xs ≡ facts_at P e x (places p xs)
facts_by_place P ab e x p NoMore l = refl
facts_by_place P ab e x p (More t ts) l =
    let h = laid_term P.nodes ab t p l.0 in
    let r = facts_by_place P ab e x (p + size t) ts l.1 in
    ap (λ fs. facts_of P.declared.ceiling (range_of (unfolding_of P)) e x p t ∷ fs) r
    ∙ ap (λ u. facts_of P.declared.ceiling (range_of (unfolding_of P)) e x p u ∷ facts_at P e x (places (p + size t) ts)) (sym h)

-- a node at a place
node_joined : (P : Program) → AllAbove P.nodes → (e : Evolution) (x p : ℕ) → StandsAt P.nodes p → (s : Sort) (t : ValueType) (ks : List ℕ) → HasNode P.nodes p s t ks
    → facts_of P.declared.ceiling (range_of (unfolding_of P)) e x p (term_at P.nodes p)
    ≡ joined P.declared.ceiling e x p s (inner t) (least_integer (range_of (unfolding_of P) p)) (facts_at P e x ks)
node_joined P ab e x p st s t ks h =
    let i = kids_are P.nodes ab p s t ks h st.laid in
    let z = sort_is P.nodes p (term_at P.nodes p) s t ks st.laid h in
    let lo = least_integer (range_of (unfolding_of P) p) in
    let by = facts_by_place P ab e x (suc p) (kids_of (term_at P.nodes p)) i.laid ∙ ap (facts_at P e x) (sym i.stand_at) in
    joined_is P.declared.ceiling (range_of (unfolding_of P)) e x p (term_at P.nodes p)
    ∙ ap (λ y. joined P.declared.ceiling e x p y (inner (term_type (term_at P.nodes p))) lo (facts_in P.declared.ceiling (range_of (unfolding_of P)) e x (suc p) (kids_of (term_at P.nodes p)))) z.0
    ∙ ap (λ y. joined P.declared.ceiling e x p s (inner y) lo (facts_in P.declared.ceiling (range_of (unfolding_of P)) e x (suc p) (kids_of (term_at P.nodes p)))) z.1
    ∙ ap (joined P.declared.ceiling e x p s (inner t) lo) by

-- the same by what a node in code says of the ceiling, the least integer and the kids
pub node_joined_as : (P : Program) → AllAbove P.nodes → (e : Evolution) (x p : ℕ) → StandsAt P.nodes p → (s : Sort) (t : ValueType) (ks : List ℕ) → HasNode P.nodes p s t ks
    → (m lo : ℕ) (js : List ℕ) (v : NodeFacts) → m ≡ P.declared.ceiling → lo ≡ least_integer (range_of (unfolding_of P) p) → js ≡ ks → v ≡ joined m e x p s (inner t) lo (facts_at P e x js)
    → v ≡ facts_of P.declared.ceiling (range_of (unfolding_of P)) e x p (term_at P.nodes p)
node_joined_as P ab e x p st s t ks h m lo js v i j k q =
    q
    ∙ ap (λ n. joined n e x p s (inner t) lo (facts_at P e x js)) i
    ∙ ap (λ n. joined P.declared.ceiling e x p s (inner t) n (facts_at P e x js)) j
    ∙ ap (λ ns. joined P.declared.ceiling e x p s (inner t) (least_integer (range_of (unfolding_of P) p)) (facts_at P e x ns)) k
    ∙ sym (node_joined P ab e x p st s t ks h)
