-- Two bounds are the same, or they aren't.
use Rattle.std.proofs.Common.{◌≡◌, ◌⊎◌, inl, inr, refl, ap, Bool, true, false}
use Rattle.std.proofs.lemmas.Bool.{cases_eq}
use Rattle.value_bounds.specs.BoundValues.{BoundValue, Between, Truths, Both, Unbounded}
use Rattle.bound_firing.specs.BoundTrees.{BoundTree, BoundTrees, Hold, NoneBelow, Below}
use Rattle.bound_firing.specs.Exports.{ExportBound}

abbrev Decided : {A : Type 0} → A → A → Type 0
Decided a b = (a ≡ b) ⊎ (a ≡ b → ⊥)

-- what is made of two parts, each of which is told by the whole
of_parts : {A B C : Type 0} (f : A → B → C) (a c : A) (b d : B) → (f a b ≡ f c d → a ≡ c)
    → (f a b ≡ f c d → b ≡ d) → (a ≡ c) ⊎ (a ≡ c → ⊥) → (b ≡ d) ⊎ (b ≡ d → ⊥)
    → (f a b ≡ f c d) ⊎ (f a b ≡ f c d → ⊥)
of_parts f a c b d p q (inl e) (inl g) = inl cc
of_parts f a c b d p q (inl e) (inr n) = inr (λ h. n (q h))
of_parts f a c b d p q (inr n) s = inr (λ h. n (p h))

truth_decided : (a b : Bool) → Decided a b
truth_decided true true = inl refl
truth_decided false false = inl refl
truth_decided true false = inr (λ h. absurd cc)
truth_decided false true = inr (λ h. absurd cc)

value_decided : (b c : BoundValue) → Decided b c
value_decided (Between a b) (Between c d) = of_parts Between a c b d (λ h. cc) (λ h. cc) (cases_eq a c) (cases_eq b d)
value_decided (Truths a b) (Truths c d) =
    of_parts Truths a c b d (λ h. cc) (λ h. cc) (truth_decided a c) (truth_decided b d)
value_decided (Both a b) (Both c d) =
    of_parts Both a c b d (λ h. cc) (λ h. cc) (value_decided a c) (value_decided b d)
value_decided Unbounded Unbounded = inl refl
value_decided b c = inr (λ h. absurd cc)

mutual
  tree_decided : (B C : BoundTree) → Decided B C
  tree_decided (Hold b bs) (Hold c cs) =
      of_parts Hold b c bs cs (λ h. cc) (λ h. cc) (value_decided b c) (trees_decided bs cs)

  trees_decided : (bs cs : BoundTrees) → Decided bs cs
  trees_decided NoneBelow NoneBelow = inl refl
  trees_decided (Below b bs) (Below c cs) =
      of_parts Below b c bs cs (λ h. cc) (λ h. cc) (tree_decided b c) (trees_decided bs cs)
  trees_decided NoneBelow (Below c cs) = inr (λ h. absurd cc)
  trees_decided (Below b bs) NoneBelow = inr (λ h. absurd cc)

abbrev made : BoundValue → BoundTree → Bool → ExportBound
made v t s = record { value = v; tree = t; sure = s }

made_same : (v w : BoundValue) (t u : BoundTree) (s r : Bool) → v ≡ w → t ≡ u → s ≡ r → made v t s ≡ made w u r
made_same v w t u s r e f g = rw (e, f, g) refl

pub export_decided : (b c : ExportBound) → Decided b c
export_decided b c = by_parts (value_decided b.value c.value) (tree_decided b.tree c.tree) (truth_decided b.sure c.sure)
  where
    by_parts : Decided b.value c.value → Decided b.tree c.tree → Decided b.sure c.sure → Decided b c
    by_parts (inl e) (inl f) (inl g) = inl (made_same b.value c.value b.tree c.tree b.sure c.sure e f g)
    by_parts (inr n) f g = inr (λ h. n (ap (λ (x : ExportBound). x.value) h))
    by_parts (inl e) (inr n) g = inr (λ h. n (ap (λ (x : ExportBound). x.tree) h))
    by_parts (inl e) (inl f) (inr n) = inr (λ h. n (ap (λ (x : ExportBound). x.sure) h))
