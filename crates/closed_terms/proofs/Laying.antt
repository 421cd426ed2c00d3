-- Nodes that are counted from a place are the preorder of the term there.
use Rattle.std.proofs.Common.{◌≡◌, ℕ, zero, suc, ◌<◌, ◌≤◌, ◌+◌, ◌-◌, List, [], ◌∷◌, ◌++◌, length, map, refl, sym, ◌∙◌, ap, subst, arith, Option, Some, None, ◌⊎◌, inl, inr, length-append}
use Rattle.std.specs.Prelude.{option_map}
use Rattle.fc_values.specs.Types.{ValueType}
use Rattle.fc_nodes.specs.declared.nodes.Node.{Node}
use Rattle.fc_nodes.specs.Terms.{Term, Terms, Plain, Apply, Nbr, Evolve, If, Let, NoMore, More, size, sizes, Sort, OfApply, OfNbr, OfEvolve, OfIf, OfLet, View, Has, view_of, view_at, term_at, HasNode, Laid, AllLaid, places, Later, KidsLater, WellFormed}
use Rattle.fc_nodes.proofs.Places.{AllAbove, all_above}
use Rattle.fc_nodes.proofs.Kids.{laid_term}
use Rattle.fc_nodes.proofs.Standing.{below_or}
use Rattle.closed_terms.specs.Parts.{lowered, all_lowered, lowered_sort, lowered_view, IsLowered}
use Rattle.closed_terms.proofs.Shifting.{same_size}

module _ (k : ℕ) where
  later_lowered : (i : ℕ) (ks : List ℕ) → Later (k + i) ks → Later i (map (λ (q : ℕ). q - k) ks)
  later_lowered i [] l = tt
  later_lowered i (q ∷ ks) l = let h = l.0 in (omega (arith, h), later_lowered i ks l.1)

  places_lowered : (xs : Terms) (i j : ℕ) → j ≡ k + i → map (λ (q : ℕ). q - k) (places j xs) ≡ places i (all_lowered k xs)
  places_lowered NoMore i j e = refl
  places_lowered (More x xs) i j e =
      let n = same_size k x in
      let a : j - k ≡ i = omega (arith, e) in
      let r = places_lowered xs (i + size (lowered k x)) (j + size x) (omega (arith, e, n)) in
      rw (a, r) refl

-- the kids of each node come after it, where those of the views do
later_from : (ms : List Node) (q : ℕ) → ((i : ℕ) → i < length ms → (s : Sort) (t : ValueType) (ks : List ℕ) → HasNode ms i s t ks → Later (q + i) ks) → KidsLater q ms
later_from [] q h = tt
later_from (m ∷ ms) q h =
    let e : q + 0 ≡ q = omega arith in (
      subst (λ r. Later r m.kids.items) e (h 0 (omega arith) _ _ _ refl),
      later_from ms (suc q) (λ i l s t ks n. let f : q + suc i ≡ suc q + i = omega arith in subst (λ r. Later r ks) f (h (suc i) (omega (arith, l)) s t ks n)),
    )

module _ (ns ms : List Node) (ab : AllAbove ns) (k : ℕ) (low : IsLowered k ns ms) where
  kids_later : KidsLater 0 ms
  kids_later = later_from ms 0 later
    where
      by_view : (i : ℕ) (o : Option View) → view_at ns (k + i) ≡ o → (s : Sort) (t : ValueType) (ks : List ℕ) → option_map (lowered_view k) o ≡ Some (Has s t ks) → Later i ks
      by_view i None v s t ks q = absurd cc
      by_view i (Some (Has s' t' ks')) v s t ks q =
          let e : map (λ (x : ℕ). x - k) ks' ≡ ks = cc in
          subst (Later i) e (later_lowered k i ks' (ab.above (k + i) s' t' ks' v))

      later : (i : ℕ) → i < length ms → (s : Sort) (t : ValueType) (ks : List ℕ) → HasNode ms i s t ks → Later (0 + i) ks
      later i l s t ks n =
          let e : i ≡ 0 + i = omega arith in
          subst (λ r. Later r ks) e (by_view i (view_at ns (k + i)) refl s t ks (sym (low i l) ∙ n))

  node : (i j : ℕ) → j ≡ k + i → i < length ms → (s : Sort) (t : ValueType) (ks : List ℕ) → HasNode ns j s t ks → HasNode ms i (lowered_sort k s) t (map (λ (q : ℕ). q - k) ks)
  node i j e l s t ks n = low i l ∙ ap (option_map (lowered_view k)) (subst (λ x. view_at ns x ≡ Some (Has s t ks)) e n)

  with_kids : (i j : ℕ) → j ≡ k + i → i < length ms → (s : Sort) (t : ValueType) (xs : Terms) → HasNode ns j s t (places (suc j) xs) → HasNode ms i (lowered_sort k s) t (places (suc i) (all_lowered k xs))
  with_kids i j e l s t xs n = subst (HasNode ms i (lowered_sort k s) t) (places_lowered k xs (suc i) (suc j) (omega (arith, e))) (node i j e l s t (places (suc j) xs) n)

  mutual
    laid : (u : Term) (i j : ℕ) → j ≡ k + i → i + size u ≤ length ms → Laid ns j u → Laid ms i (lowered k u)
    laid (Plain t v) i j e h l = node i j e (omega (arith, h)) _ t [] l
    laid (Apply t o xs) i j e h l = (with_kids i j e (omega (arith, h)) (OfApply o) t xs l.0, all_laid xs (suc i) (suc j) (omega (arith, e)) (omega (arith, h)) l.1)
    laid (Nbr t a) i j e h l = (with_kids i j e (omega (arith, h)) OfNbr t (More a NoMore) l.0, laid a (suc i) (suc j) (omega (arith, e)) (omega (arith, h)) l.1)
    laid (Evolve t v a b) i j e h l =
        let n = same_size k a in (
          with_kids i j e (omega (arith, h)) (OfEvolve v) t (More a (More b NoMore)) l.0,
          laid a (suc i) (suc j) (omega (arith, e)) (omega (arith, h)) l.1,
          laid b (suc i + size (lowered k a)) (suc j + size a) (omega (arith, e, n)) (omega (arith, h, n)) l.2,
        )
    laid (If t c a b) i j e h l =
        let m = same_size k c in
        let n = same_size k a in (
          with_kids i j e (omega (arith, h)) OfIf t (More c (More a (More b NoMore))) l.0,
          laid c (suc i) (suc j) (omega (arith, e)) (omega (arith, h)) l.1,
          laid a (suc i + size (lowered k c)) (suc j + size c) (omega (arith, e, m)) (omega (arith, h, m)) l.2,
          laid b (suc i + size (lowered k c) + size (lowered k a)) (suc j + size c + size a) (omega (arith, e, m, n)) (omega (arith, h, m, n)) l.3,
        )
    laid (Let t a b) i j e h l =
        let n = same_size k a in (
          with_kids i j e (omega (arith, h)) OfLet t (More a (More b NoMore)) l.0,
          laid a (suc i) (suc j) (omega (arith, e)) (omega (arith, h)) l.1,
          laid b (suc i + size (lowered k a)) (suc j + size a) (omega (arith, e, n)) (omega (arith, h, n)) l.2,
        )

    all_laid : (xs : Terms) (i j : ℕ) → j ≡ k + i → i + sizes xs ≤ length ms → AllLaid ns j xs → AllLaid ms i (all_lowered k xs)
    all_laid NoMore i j e h l = tt
    all_laid (More x xs) i j e h l =
        let n = same_size k x in
        (laid x i j e (omega (arith, h)) l.0, all_laid xs (i + size (lowered k x)) (j + size x) (omega (arith, e, n)) (omega (arith, h, n)) l.1)

  module _ (u : Term) (l : Laid ns k u) (many : length ms ≡ size u) where
    whole : Laid ms 0 (lowered k u)
    whole = laid u 0 k (omega arith) (omega (arith, many)) l

    pub term_is : term_at ms 0 ≡ lowered k u
    term_is = laid_term ms (all_above ms kids_later) (lowered k u) 0 whole

    pub formed : WellFormed ms
    formed = record {
      later = kids_later;
      laid = subst (Laid ms 0) (sym term_is) whole;
      whole = many ∙ sym (same_size k u) ∙ ap size (sym term_is);
    }

-- ---- one node more

view_left : (ms : List Node) (n : Node) (i : ℕ) → i < length ms → view_at (ms ++ n ∷ []) i ≡ view_at ms i
view_left [] n i l = absurd (omega (arith, l))
view_left (m ∷ ms) n zero l = refl
view_left (m ∷ ms) n (suc i) l = view_left ms n i (omega (arith, l))

view_last : (ms : List Node) (n : Node) (i : ℕ) → i ≡ length ms → view_at (ms ++ n ∷ []) i ≡ Some (view_of n)
view_last [] n zero e = refl
view_last [] n (suc i) e = absurd (omega (arith, e))
view_last (m ∷ ms) n zero e = absurd (omega (arith, e))
view_last (m ∷ ms) n (suc i) e = view_last ms n i (omega (arith, e))

module _ (k : ℕ) (ns ms : List Node) (low : IsLowered k ns ms) (j : ℕ) (e : j ≡ k + length ms) (v : View) (at : view_at ns j ≡ Some v) (n : Node) (is : view_of n ≡ lowered_view k v) where
  pub one_more : IsLowered k ns (ms ++ n ∷ [])
  one_more i l = by_place (below_or i (length ms))
    where
      by_place : (i < length ms) ⊎ (length ms ≤ i) → view_at (ms ++ n ∷ []) i ≡ option_map (lowered_view k) (view_at ns (k + i))
      by_place (inl h) = view_left ms n i h ∙ low i h
      by_place (inr h) =
          let m = length-append ms (n ∷ []) in
          let q : i ≡ length ms = omega (arith, h, l, m) in
          let r : j ≡ k + i = omega (arith, q, e) in
          view_last ms n i q ∙ ap Some is ∙ sym (ap (option_map (lowered_view k)) (subst (λ x. view_at ns x ≡ Some v) r at))
