-- A variable occurs in a node's term where the node is it, or where it occurs in a kid.
use Rattle.std.proofs.Common.{◌≡◌, ℕ, List, [], ◌∷◌, refl, sym, ◌∙◌, ap, true, false, ◌||◌}
use Rattle.fc_values.specs.Types.{ValueType}
use Rattle.fc_nodes.specs.declared.nodes.Node.{Node}
use Rattle.fc_nodes.specs.Terms.{Evolution, Term, Plain, Apply, Nbr, Evolve, If, Let, Sort, OfLeaf, OfApply, OfNbr, OfEvolve, OfIf, OfLet, term_at, terms_by, HasNode}
use Rattle.fc_nodes.specs.Places.{StandsAt}
use Rattle.fc_nodes.specs.Program.{Program}
use Rattle.fc_nodes.proofs.Places.{AllAbove}
use Rattle.fc_nodes.proofs.Kids.{kids_of, kids_are}
use Rattle.fc_nodes.specs.Variables.{is_variable, occurs, occurs_in}
use Rattle.growth_facts.specs.Facts.{any_uses, facts_at}
use Rattle.fc_nodes.specs.Sorts.{is_own_sort, is_deep_sort}
use Rattle.growth_facts.proofs.Joins.{or_none, term_sort, sort_is}

split : (x : ℕ) (u : Term) → occurs x u ≡ (is_own_sort x (term_sort u) || occurs_in x (kids_of u))
split x (Plain t l) = or_none (is_variable x l)
split x (Apply t o xs) = refl
split x (Nbr t a) = or_none (occurs x a)
split x (Evolve t e a b) = ap (λ c. occurs x a || c) (or_none (occurs x b))
split x (If t c a b) = ap (λ k. occurs x c || (occurs x a || k)) (or_none (occurs x b))
split x (Let t a b) = ap (λ c. occurs x a || c) (or_none (occurs x b))

module _ (ns : List Node) (ab : AllAbove ns) (p : ℕ) (st : StandsAt ns p) (s : Sort) (t : ValueType) (ks : List ℕ) (h : HasNode ns p s t ks) where
  whole : (x : ℕ) → occurs x (term_at ns p) ≡ (is_own_sort x s || occurs_in x (terms_by (term_at ns) ks))
  whole x =
      let i = kids_are ns ab p s t ks h st.laid in
      let k = i.kids in
      let z = (sort_is ns p (term_at ns p) s t ks st.laid h).0 in
      split x (term_at ns p) ∙ ap (λ c. is_own_sort x c || occurs_in x (kids_of (term_at ns p))) z ∙ ap (λ xs. is_own_sort x s || occurs_in x xs) k

  by_kids : (x : ℕ) → is_own_sort x s ≡ false → occurs x (term_at ns p) ≡ occurs_in x (terms_by (term_at ns) ks)
  by_kids x o = whole x ∙ ap (λ c. c || occurs_in x (terms_by (term_at ns) ks)) o

-- the facts of kids tell whether it occurs in them
uses_at : (P : Program) (e : Evolution) (x : ℕ) (ks : List ℕ) → occurs_in x (terms_by (term_at P.nodes) ks) ≡ any_uses (facts_at P e x ks)
uses_at P e x [] = refl
uses_at P e x (k ∷ ks) = ap (λ b. occurs x (term_at P.nodes k) || b) (uses_at P e x ks)

deep_apart : (x : ℕ) (s : Sort) → is_deep_sort s ≡ true → is_own_sort x s ≡ false
deep_apart x (OfLeaf l) e = absurd cc
deep_apart x (OfApply o) e = absurd cc
deep_apart x OfNbr e = absurd cc
deep_apart x (OfEvolve v) e = refl
deep_apart x OfIf e = refl
deep_apart x OfLet e = refl

-- a variable occurs in a `rep`, a `share`, an `if` or a `let` where it occurs in a kid
pub deep_uses : (P : Program) → AllAbove P.nodes → (e : Evolution) (x p : ℕ) → StandsAt P.nodes p → (s : Sort) (t : ValueType) (ks js : List ℕ) → HasNode P.nodes p s t ks
    → is_deep_sort s ≡ true → js ≡ ks → occurs x (term_at P.nodes p) ≡ any_uses (facts_at P e x js)
deep_uses P ab e x p st s t ks js h d j = by_kids P.nodes ab p st s t ks h x (deep_apart x s d) ∙ uses_at P e x ks ∙ ap (λ is. any_uses (facts_at P e x is)) (sym j)
