-- The growth law.
use Rattle.std.proofs.Common.{◌≡◌, ℕ, ◌≤◌, ◌<◌, ◌+◌, List, [], ◌∷◌, length, get_or, refl, sym, ◌∙◌, ap, subst, arith, true, min}
use Rattle.fc_values.specs.Types.{ValueType}
use Rattle.fc_values.specs.Values.{LocalValue}
use Rattle.fc_values.specs.Fields.{Entries, AnyValue, ValueLocal, ValueField, rises, FitsOver}
use Rattle.fc_values.specs.Positions.{argument_nth}
use Rattle.fc_nodes.specs.Terms.{Evolution, Term, Terms}
use Rattle.interval_facts.specs.Ranges.{RangeValue}
use Rattle.growth_facts.specs.Leads.{lead}
use Rattle.growth_facts.specs.Growth.{Grows, growth_of}
use Rattle.growth_facts.specs.Beside.{Pairs, Beside, apart, heard, joined, BesideAll, no_more, one_more, Hears, IsPart}
use Rattle.growth_facts.specs.Laws.{GrowthLaw}
use Rattle.growth_facts.proofs.FieldPairs.{field_nth}
use Rattle.growth_facts.proofs.Grow.{above_law, raised_law, same_law}

-- each side beside itself
module _ (a b : ℕ → LocalValue) where
  first_pairs : (es fs : Entries) → Pairs (λ n v w. (v ≡ a n) × (w ≡ b n)) es fs → Pairs (λ n v w. (v ≡ a n) × (w ≡ a n)) es es
  first_pairs [] fs h = tt
  first_pairs (e ∷ es) [] h = absurd h
  first_pairs (e ∷ es) (f ∷ fs) h = (refl, (h.1.0, h.1.0), first_pairs es fs h.2)

  second_pairs : (es fs : Entries) → Pairs (λ n v w. (v ≡ a n) × (w ≡ b n)) es fs → Pairs (λ n v w. (v ≡ b n) × (w ≡ b n)) fs fs
  second_pairs [] [] h = tt
  second_pairs [] (f ∷ fs) h = absurd h
  second_pairs (e ∷ es) [] h = absurd h
  second_pairs (e ∷ es) (f ∷ fs) h = let s = h.1.1 in (refl, (subst (λ n. f.1 ≡ b n) h.0 s, subst (λ n. f.1 ≡ b n) h.0 s), second_pairs es fs h.2)

  first_heard : (v w : AnyValue) → Hears a b v w → Hears a a v v
  first_heard (ValueField es) (ValueField fs) h = first_pairs es fs h
  first_heard (ValueField es) (ValueLocal w) h = absurd h
  first_heard (ValueLocal v) w h = absurd h

  second_heard : (v w : AnyValue) → Hears a b v w → Hears b b w w
  second_heard (ValueField es) (ValueField fs) h = second_pairs es fs h
  second_heard (ValueField es) (ValueLocal w) h = absurd h
  second_heard (ValueLocal v) w h = absurd h

  module _ (m d : ℕ) (ds : List ℕ) (e : Evolution) (x : ℕ) (rs : ℕ → RangeValue) where
    abbrev Part : ℕ → Term → AnyValue → Type 0
    Part = IsPart m ds rs

    mutual
      first_beside : {p : ℕ} {h : Term} {v w : AnyValue} → Beside m d ds e x (Hears a b) Part p h v w → Beside m d ds e x (Hears a a) Part p h v v
      first_beside (apart {v} {w} p h o q k) = apart p h o refl (subst (Part p h) (sym q) k)
      first_beside (heard {v} {w} p h o n f f') = heard p h o (first_heard v w n) f f
      first_beside (joined p t o xs vs ws rule u c q q') = joined p t o xs vs vs rule u (all_first c) q q

      all_first : {p : ℕ} {xs : Terms} {vs ws : List AnyValue} → BesideAll m d ds e x (Hears a b) Part p xs vs ws → BesideAll m d ds e x (Hears a a) Part p xs vs vs
      all_first (no_more p) = no_more p
      all_first (one_more p t ts v w vs ws c cs) = one_more p t ts v v vs vs (first_beside c) (all_first cs)

    mutual
      second_beside : {p : ℕ} {h : Term} {v w : AnyValue} → Beside m d ds e x (Hears a b) Part p h v w → Beside m d ds e x (Hears b b) Part p h w w
      second_beside (apart {v} {w} p h o q k) = apart p h o refl k
      second_beside (heard {v} {w} p h o n f f') = heard p h o (second_heard v w n) f' f'
      second_beside (joined p t o xs vs ws rule u c q q') = joined p t o xs ws ws rule u (all_second c) q' q'

      all_second : {p : ℕ} {xs : Terms} {vs ws : List AnyValue} → BesideAll m d ds e x (Hears a b) Part p xs vs ws → BesideAll m d ds e x (Hears b b) Part p xs ws ws
      all_second (no_more p) = no_more p
      all_second (one_more p t ts v w vs ws c cs) = one_more p t ts w w ws ws (second_beside c) (all_second cs)

-- one value, of which a is heard
above_one : (m d : ℕ) (ds : List ℕ) (e : Evolution) (x : ℕ) (rs : ℕ → RangeValue) (a : ℕ → LocalValue) (p c : ℕ) (h : Term) (v : AnyValue) → rises ds ≡ true
    → Beside m d ds e x (Hears a a) (IsPart m ds rs) p h v v → growth_of m rs e x p h ≡ Grows c → (i : ℕ) → i < length ds → min m (lead (a (get_or ds i 0)) + c) ≤ lead (argument_nth i v)
above_one m d ds e x rs a p c h v up s g i l =
    (above_law m d ds e x (Hears a a) (IsPart m ds rs) rs up (λ p h w k. k) i (lead (a (get_or ds i 0))) l high s c g).0
  where
    high : (v w : AnyValue) (t : ValueType) → Hears a a v w → FitsOver m ds t v → FitsOver m ds t w → (lead (a (get_or ds i 0)) ≤ lead (argument_nth i v)) × (lead (a (get_or ds i 0)) ≤ lead (argument_nth i w))
    high v w t n f f' =
        let k = field_nth (λ n v w. (v ≡ a n) × (w ≡ a n)) m ds t v w i l n f in
        let q = ap lead k.0 in let q' = ap lead k.1 in (omega (arith, q), omega (arith, q'))

pub growth_law : GrowthLaw
growth_law m d ds e x rs a b p c h v w up s g i l = record {
  first = above_one m d ds e x rs a p c h v up (first_beside a b m d ds e x rs s) g i l;
  second = above_one m d ds e x rs b p c h w up (second_beside a b m d ds e x rs s) g i l;
  raised = λ k. raised_law m d ds e x (Hears a b) (IsPart m ds rs) rs up (λ p h w k. k) i 0 l (more k) s c g;
  same = λ k. same_law m d ds e x (Hears a b) (IsPart m ds rs) rs up (λ p h w k. k) i 0 l (alike k) s c g;
}
  where
    here : (v w : AnyValue) (t : ValueType) → Hears a b v w → FitsOver m ds t v → (argument_nth i v ≡ a (get_or ds i 0)) × (argument_nth i w ≡ b (get_or ds i 0))
    here v w t n f = field_nth (λ n v w. (v ≡ a n) × (w ≡ b n)) m ds t v w i l n f

    more : lead (a (get_or ds i 0)) ≤ lead (b (get_or ds i 0)) → (v w : AnyValue) (t : ValueType) → Hears a b v w → FitsOver m ds t v → FitsOver m ds t w → lead (argument_nth i v) ≤ lead (argument_nth i w)
    more k v w t n f f' = let z = here v w t n f in let q = ap lead z.0 in let q' = ap lead z.1 in omega (arith, k, q, q')

    alike : a (get_or ds i 0) ≡ b (get_or ds i 0) → (v w : AnyValue) (t : ValueType) → Hears a b v w → FitsOver m ds t v → FitsOver m ds t w → argument_nth i v ≡ argument_nth i w
    alike k v w t n f f' = let z = here v w t n f in z.0 ∙ k ∙ sym z.1
