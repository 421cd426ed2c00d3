-- The links that are written out of a table of pairs: what look-ups find in them.
use Rattle.std.proofs.Common.{ℕ, ◌≡◌, ◌<◌, Bool, true, false, cond, ◌&&◌, ◌||◌, nat_eq, nat_lt, List, [], ◌∷◌, map, refl, sym, ap, ◌∙◌, arith, Some, None, if◌then◌else◌}
use Rattle.std.specs.Prelude.{Option, option_map}
use Rattle.std.proofs.lemmas.Bool.{ltb-true, eqb-true, eq-eqb, ne_eqb, eqb-false}
use Rattle.std.specs.Ordering.{nat_cmp, ordering_then, is_eq}
use Rattle.std.specs.declared.cmp.Ordering.{Ordering}
use Rattle.std.specs.declared.cmp.Ordering.TheVariants.{Less, Equal, Greater}
use Rattle.std.specs.List.Sorted.{IsStrictlySortedBy}
use Rattle.std.specs.List.{AllByRecursion}
use Rattle.std.specs.Map.{lookup, keys_of}
use Rattle.std.specs.BTreeMap.{is_at}
use Rattle.topology.specs.Networks.{Before, BeforeAll}
use Rattle.envelopes.specs.Envelopes.{least_edge}
use Rattle.envelopes.specs.Edits.{sure_link}
use Rattle.change_bounds.specs.Tables.{by_pair}
use Rattle.change_bounds.specs.declared.pairs.PairBound.{PairBound}
use Rattle.change_envelopes.specs.Envelopes.{weights_in}
use Rattle.change_envelopes.specs.Written.{link_by, links_by}

abbrev pub Entry : Type 0
Entry = (ℕ × ℕ) × PairBound

-- ---- the order of pairs

tied : (a b : ℕ) → is_eq (nat_cmp a b) ≡ nat_eq b a
tied a b = by_tests (nat_lt a b) refl (nat_eq a b) refl
  where
    by_tests : (s : Bool) → nat_lt a b ≡ s → (t : Bool) → nat_eq a b ≡ t → is_eq (cond s Less (cond t Equal Greater)) ≡ nat_eq b a
    by_tests true e t f = let l = ltb-true a b e in sym (ne_eqb b a (λ same. absurd (omega (arith, l, same))))
    by_tests false e true f = sym (eq-eqb b a (sym (eqb-true a b f)))
    by_tests false e false f = sym (ne_eqb b a (λ same. eqb-false a b f (sym same)))

tied_then : (o p : Ordering) → is_eq (ordering_then o p) ≡ (is_eq o && is_eq p)
tied_then Less p = refl
tied_then Equal p = refl
tied_then Greater p = refl

-- a pair is found by both numbers
pub found_at : (a b : ℕ) (k : ℕ × ℕ) → is_at (by_pair (a, b)) k ≡ (nat_eq k.0 a && nat_eq k.1 b)
found_at a b k = tied_then (nat_cmp a k.0) (nat_cmp b k.1) ∙ ap (λ t. t && is_eq (nat_cmp b k.1)) (tied a k.0) ∙ ap (λ t. nat_eq k.0 a && t) (tied b k.1)

less_number : (a b : ℕ) → nat_cmp a b ≡ Less → a < b
less_number a b h = by_tests (nat_lt a b) refl (nat_eq a b) h
  where
    by_tests : (s : Bool) → nat_lt a b ≡ s → (t : Bool) → cond s Less (cond t Equal Greater) ≡ Less → a < b
    by_tests true e t g = ltb-true a b e
    by_tests false e true g = absurd cc
    by_tests false e false g = absurd cc

tied_number : (a b : ℕ) → nat_cmp a b ≡ Equal → a ≡ b
tied_number a b h = by_tests (nat_lt a b) (nat_eq a b) refl h
  where
    by_tests : (s t : Bool) → nat_eq a b ≡ t → cond s Less (cond t Equal Greater) ≡ Equal → a ≡ b
    by_tests true t e g = absurd cc
    by_tests false true e g = eqb-true a b e
    by_tests false false e g = absurd cc

pub data IsLess (k l : ℕ × ℕ) : Type 0 where
  by_first : k.0 < l.0 → IsLess k l
  by_second : k.0 ≡ l.0 → k.1 < l.1 → IsLess k l

pub is_less : (k l : ℕ × ℕ) → by_pair k l ≡ Less → IsLess k l
is_less k l h = by_order (nat_cmp k.0 l.0) refl h
  where
    by_order : (o : Ordering) → nat_cmp k.0 l.0 ≡ o → ordering_then o (nat_cmp k.1 l.1) ≡ Less → IsLess k l
    by_order Less e g = by_first (less_number k.0 l.0 e)
    by_order Equal e g = by_second (tied_number k.0 l.0 e) (less_number k.1 l.1 g)
    by_order Greater e g = absurd cc

-- ---- look-ups

module _ (stays : ℕ → Bool) where
  pub weights_found : (a b : ℕ) (es : List Entry) → weights_in a b (links_by stays es) ≡ option_map (λ (p : PairBound). p.weights) (lookup (is_at (by_pair (a, b))) es)
  weights_found a b [] = refl
  weights_found a b (e ∷ es) = by_test (nat_eq e.0.0 a && nat_eq e.0.1 b) (is_at (by_pair (a, b)) e.0) (found_at a b e.0) (weights_found a b es)
    where
      by_test : (s t : Bool) → t ≡ s → weights_in a b (links_by stays es) ≡ option_map (λ (p : PairBound). p.weights) (lookup (is_at (by_pair (a, b))) es)
          → (if s then Some (e.1.weights) else weights_in a b (links_by stays es)) ≡ option_map (λ (p : PairBound). p.weights) (cond t (Some e.1) (lookup (is_at (by_pair (a, b))) es))
      by_test true true q h = refl
      by_test false false q h = h
      by_test true false q h = absurd cc
      by_test false true q h = absurd cc

  -- whether the link of what is found is always there
  abbrev pub is_sure : ℕ → ℕ → Option PairBound → Bool
  is_sure a b None = false
  is_sure a b (Some p) = p.sure && stays a && stays b

  -- behind a pair it isn't found again
  none_behind : (k : ℕ × ℕ) (es : List Entry) → AllByRecursion (λ y. by_pair k y ≡ Less) (keys_of es) → sure_link k.0 k.1 (links_by stays es) ≡ false
  none_behind k [] h = refl
  none_behind k (e ∷ es) h = by_test (nat_eq e.0.0 k.0 && nat_eq e.0.1 k.1) refl (none_behind k es h.1)
    where
      other : IsLess k e.0 → (nat_eq e.0.0 k.0 && nat_eq e.0.1 k.1) ≡ true → ⊥
      other (by_first l) t = let x = eqb-true e.0.0 k.0 (first_true (nat_eq e.0.0 k.0) (nat_eq e.0.1 k.1) t) in absurd (omega (arith, l, x))
        where
          first_true : (p q : Bool) → (p && q) ≡ true → p ≡ true
          first_true true q g = refl
          first_true false q g = absurd cc
      other (by_second s l) t = let x = eqb-true e.0.1 k.1 (second_true (nat_eq e.0.0 k.0) (nat_eq e.0.1 k.1) t) in absurd (omega (arith, l, x))
        where
          second_true : (p q : Bool) → (p && q) ≡ true → q ≡ true
          second_true true true g = refl
          second_true true false g = absurd cc
          second_true false q g = absurd cc

      by_test : (t : Bool) → (nat_eq e.0.0 k.0 && nat_eq e.0.1 k.1) ≡ t → sure_link k.0 k.1 (links_by stays es) ≡ false
          → ((t && (link_by stays e).sure) || sure_link k.0 k.1 (links_by stays es)) ≡ false
      by_test true g ih = absurd (other (is_less k e.0 h.0) g)
      by_test false g ih = ih

  pub sure_found : (a b : ℕ) (es : List Entry) → IsStrictlySortedBy by_pair (keys_of es) → sure_link a b (links_by stays es) ≡ is_sure a b (lookup (is_at (by_pair (a, b))) es)
  unfolding IsStrictlySortedBy
  sure_found a b [] h = refl
  sure_found a b (e ∷ es) h = by_tests (nat_eq e.0.0 a) (nat_eq e.0.1 b) refl refl (is_at (by_pair (a, b)) e.0) (found_at a b e.0) (sure_found a b es h.1)
    where
      or_false : (p : Bool) → (p || false) ≡ p
      or_false true = refl
      or_false false = refl

      by_tests : (r s : Bool) → nat_eq e.0.0 a ≡ r → nat_eq e.0.1 b ≡ s → (t : Bool) → t ≡ (nat_eq e.0.0 a && nat_eq e.0.1 b)
          → sure_link a b (links_by stays es) ≡ is_sure a b (lookup (is_at (by_pair (a, b))) es)
          → (((r && s) && (link_by stays e).sure) || sure_link a b (links_by stays es)) ≡ is_sure a b (cond t (Some e.1) (lookup (is_at (by_pair (a, b))) es))
      by_tests true true f g true q ih =
          let x = eqb-true e.0.0 a f in
          let y = eqb-true e.0.1 b g in
          let gone : sure_link a b (links_by stays es) ≡ false =
          ap (λ u. sure_link u b (links_by stays es)) (sym x) ∙ ap (λ u. sure_link e.0.0 u (links_by stays es)) (sym y) ∙ none_behind e.0 es h.0 in
          ap (λ u. (link_by stays e).sure || u) gone ∙ or_false (link_by stays e).sure ∙ ap (λ u. e.1.sure && stays u && stays e.0.1) x ∙ ap (λ u. e.1.sure && stays a && stays u) y
      by_tests true true f g false q ih = let no : false ≡ true = q ∙ ap (λ u. u && nat_eq e.0.1 b) f ∙ g in absurd cc
      by_tests true false f g t q ih = later t (q ∙ ap (λ u. nat_eq e.0.0 a && u) g ∙ ap (λ u. u && false) f) ih
        where
          later : (t : Bool) → t ≡ false → sure_link a b (links_by stays es) ≡ is_sure a b (lookup (is_at (by_pair (a, b))) es)
              → sure_link a b (links_by stays es) ≡ is_sure a b (cond t (Some e.1) (lookup (is_at (by_pair (a, b))) es))
          later true w ih = absurd cc
          later false w ih = ih
      by_tests false s f g t q ih = later t (q ∙ ap (λ u. u && nat_eq e.0.1 b) f) ih
        where
          later : (t : Bool) → t ≡ false → sure_link a b (links_by stays es) ≡ is_sure a b (lookup (is_at (by_pair (a, b))) es)
              → sure_link a b (links_by stays es) ≡ is_sure a b (cond t (Some e.1) (lookup (is_at (by_pair (a, b))) es))
          later true w ih = absurd cc
          later false w ih = ih

  -- ---- they rise

  before_edge : (e f : Entry) → by_pair e.0 f.0 ≡ Less → Before (least_edge (link_by stays e)) (least_edge (link_by stays f))
  before_edge e f h = by_less (is_less e.0 f.0 h)
    where
      by_less : IsLess e.0 f.0 → Before (least_edge (link_by stays e)) (least_edge (link_by stays f))
      by_less (by_first l) = record { first = omega (arith, l); second = λ s. absurd (omega (arith, l, s)) }
      by_less (by_second s l) = record { first = omega (arith, s); second = λ t. l }

  pub before_all : (e : Entry) (es : List Entry) → AllByRecursion (λ y. by_pair e.0 y ≡ Less) (keys_of es) → BeforeAll (least_edge (link_by stays e)) (map least_edge (links_by stays es))
  before_all e [] h = tt
  before_all e (f ∷ es) h = (before_edge e f h.0, before_all e es h.1)
