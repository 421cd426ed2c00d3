-- Crates above cite this module: the lesser and the greater of two values, by the integers that lead them.
use Rattle.std.proofs.Common.{◌≡◌, ℕ, ◌≤◌, ◌<◌, refl, sym, ◌∙◌, subst, arith, ◌⊎◌, inl, inr, Bool, true, false, nat_eq, nat_lt, min, max}
use Rattle.std.specs.Prelude.{if◌then◌else◌}
use Rattle.std.specs.Ordering.{nat_cmp}
use Rattle.std.specs.declared.cmp.Ordering.{Ordering}
use Rattle.std.specs.declared.cmp.Ordering.TheVariants as ord
use Rattle.std.proofs.lemmas.Bool.Decides.{nat_tests}
use Rattle.fc_values.specs.Types.{LocalType, IntType, BoolType, PairType}
use Rattle.fc_values.specs.Values.{LocalValue, IntValue, BoolValue, PairValue, Fits, SameForm, then_order, compare_values, is_less, lesser, greater}
use Rattle.fc_nodes.proofs.Standing.{below_or}
use Rattle.growth_facts.specs.Leads.{lead, Close}

pub fits_form : (m : ℕ) (t : LocalType) (v w : LocalValue) → Fits m t v → Fits m t w → SameForm v w
fits_form m IntType (IntValue a) (IntValue b) h k = tt
fits_form m IntType (IntValue a) (BoolValue b) h k = absurd k
fits_form m IntType (IntValue a) (PairValue b c) h k = absurd k
fits_form m IntType (BoolValue a) w h k = absurd h
fits_form m IntType (PairValue a b) w h k = absurd h
fits_form m BoolType (BoolValue a) (BoolValue b) h k = tt
fits_form m BoolType (BoolValue a) (IntValue b) h k = absurd k
fits_form m BoolType (BoolValue a) (PairValue b c) h k = absurd k
fits_form m BoolType (IntValue a) w h k = absurd h
fits_form m BoolType (PairValue a b) w h k = absurd h
fits_form m (PairType s t) (PairValue a b) (PairValue c d) h k = (fits_form m s a c h.0 k.0, fits_form m t b d h.1 k.1)
fits_form m (PairType s t) (PairValue a b) (IntValue c) h k = absurd k
fits_form m (PairType s t) (PairValue a b) (BoolValue c) h k = absurd k
fits_form m (PairType s t) (IntValue a) w h k = absurd h
fits_form m (PairType s t) (BoolValue a) w h k = absurd h

-- what an order says of the leading integers
abbrev Says : Ordering → ℕ → ℕ → Type 0
Says ord.Less a b = a ≤ b
Says ord.Equal a b = a ≡ b
Says ord.Greater a b = b ≤ a

nat_says : (a b : ℕ) → Says (nat_cmp a b) a b
nat_says a b = by_tests (nat_lt a b) (nat_eq a b) refl refl
  where
    by_tests : (c e : Bool) → nat_lt a b ≡ c → nat_eq a b ≡ e → Says (if c then ord.Less else (if e then ord.Equal else ord.Greater)) a b
    by_tests true e k l = grind (arith, k, nat_tests)
    by_tests false true k l = grind (arith, l, nat_tests)
    by_tests false false k l = grind (arith, k, nat_tests)

then_says : (o p : Ordering) (a b : ℕ) → Says o a b → Says (then_order o p) a b
then_says ord.Less p a b h = h
then_says ord.Equal ord.Less a b h = omega (arith, h)
then_says ord.Equal ord.Equal a b h = h
then_says ord.Equal ord.Greater a b h = omega (arith, h)
then_says ord.Greater p a b h = h

pub compare_says : (v w : LocalValue) → SameForm v w → Says (compare_values v w) (lead v) (lead w)
compare_says (IntValue a) (IntValue b) f = nat_says a b
compare_says (BoolValue false) (BoolValue false) f = refl
compare_says (BoolValue false) (BoolValue true) f = omega arith
compare_says (BoolValue true) (BoolValue false) f = omega arith
compare_says (BoolValue true) (BoolValue true) f = refl
compare_says (PairValue a b) (PairValue c d) f = then_says (compare_values a c) (compare_values b d) (lead a) (lead c) (compare_says a c f.0)
compare_says (IntValue a) (BoolValue b) f = absurd f
compare_says (IntValue a) (PairValue b c) f = absurd f
compare_says (BoolValue a) (IntValue b) f = absurd f
compare_says (BoolValue a) (PairValue b c) f = absurd f
compare_says (PairValue a b) (IntValue c) f = absurd f
compare_says (PairValue a b) (BoolValue c) f = absurd f

-- the lesser and the greater of two
less_is : (v w : LocalValue) → SameForm v w → (o : Ordering) → compare_values v w ≡ o → lead v < lead w → is_less o ≡ true
less_is v w f ord.Less e l = refl
less_is v w f ord.Equal e l = let s : Says ord.Equal (lead v) (lead w) = subst (λ o. Says o (lead v) (lead w)) e (compare_says v w f) in absurd (omega (arith, s, l))
less_is v w f ord.Greater e l = let s : Says ord.Greater (lead v) (lead w) = subst (λ o. Says o (lead v) (lead w)) e (compare_says v w f) in absurd (omega (arith, s, l))

not_less : (v w : LocalValue) → SameForm v w → (o : Ordering) → compare_values v w ≡ o → lead w < lead v → is_less o ≡ false
not_less v w f ord.Less e l = let s : Says ord.Less (lead v) (lead w) = subst (λ o. Says o (lead v) (lead w)) e (compare_says v w f) in absurd (omega (arith, s, l))
not_less v w f ord.Equal e l = refl
not_less v w f ord.Greater e l = refl

pub first_less : (a b : LocalValue) → SameForm b a → lead a < lead b → lesser a b ≡ a
first_less a b f l = let e = not_less b a f (compare_values b a) refl l in rw e refl

pub second_less : (a b : LocalValue) → SameForm b a → lead b < lead a → lesser a b ≡ b
second_less a b f l = let e = less_is b a f (compare_values b a) refl l in rw e refl

pub lesser_lead : (a b : LocalValue) → SameForm b a → lead (lesser a b) ≡ min (lead a) (lead b)
lesser_lead a b f = by_order (compare_values b a) refl
  where
    by_order : (o : Ordering) → compare_values b a ≡ o → lead (if is_less o then b else a) ≡ min (lead a) (lead b)
    by_order ord.Less e = let s : Says ord.Less (lead b) (lead a) = subst (λ o. Says o (lead b) (lead a)) e (compare_says b a f) in omega (arith, s)
    by_order ord.Equal e = let s : Says ord.Equal (lead b) (lead a) = subst (λ o. Says o (lead b) (lead a)) e (compare_says b a f) in omega (arith, s)
    by_order ord.Greater e = let s : Says ord.Greater (lead b) (lead a) = subst (λ o. Says o (lead b) (lead a)) e (compare_says b a f) in omega (arith, s)

pub greater_lead : (a b : LocalValue) → SameForm a b → lead (greater a b) ≡ max (lead a) (lead b)
greater_lead a b f = by_order (compare_values a b) refl
  where
    by_order : (o : Ordering) → compare_values a b ≡ o → lead (if is_less o then b else a) ≡ max (lead a) (lead b)
    by_order ord.Less e = let s : Says ord.Less (lead a) (lead b) = subst (λ o. Says o (lead a) (lead b)) e (compare_says a b f) in omega (arith, s)
    by_order ord.Equal e = let s : Says ord.Equal (lead a) (lead b) = subst (λ o. Says o (lead a) (lead b)) e (compare_says a b f) in omega (arith, s)
    by_order ord.Greater e = let s : Says ord.Greater (lead a) (lead b) = subst (λ o. Says o (lead a) (lead b)) e (compare_says a b f) in omega (arith, s)

module _ (b m : ℕ) (t : LocalType) where
  one_less : (v w x : LocalValue) → Fits m t v → Fits m t w → Fits m t x → b ≤ lead w → b ≤ lead x → Close b (lesser v w) (lesser v x)
  one_less v w x fv fw fx h h' = by_case (below_or (lead v) b)
    where
      by_case : (lead v < b) ⊎ (b ≤ lead v) → Close b (lesser v w) (lesser v x)
      by_case (inl l) = inl (first_less v w (fits_form m t w v fw fv) (omega (arith, l, h)) ∙ sym (first_less v x (fits_form m t x v fx fv) (omega (arith, l, h'))))
      by_case (inr l) = let e = lesser_lead v w (fits_form m t w v fw fv) in let e' = lesser_lead v x (fits_form m t x v fx fv) in inr (omega (arith, e, h, l), omega (arith, e', h', l))

  other_less : (v w x : LocalValue) → Fits m t v → Fits m t w → Fits m t x → b ≤ lead w → b ≤ lead x → Close b (lesser w v) (lesser x v)
  other_less v w x fv fw fx h h' = by_case (below_or (lead v) b)
    where
      by_case : (lead v < b) ⊎ (b ≤ lead v) → Close b (lesser w v) (lesser x v)
      by_case (inl l) = inl (second_less w v (fits_form m t v w fv fw) (omega (arith, l, h)) ∙ sym (second_less x v (fits_form m t v x fv fx) (omega (arith, l, h'))))
      by_case (inr l) = let e = lesser_lead w v (fits_form m t v w fv fw) in let e' = lesser_lead x v (fits_form m t v x fv fx) in inr (omega (arith, e, h, l), omega (arith, e', h', l))

  pub lesser_close : (v v' w w' : LocalValue) → Fits m t v → Fits m t v' → Fits m t w → Fits m t w' → Close b v v' → Close b w w' → Close b (lesser v w) (lesser v' w')
  lesser_close v v' w w' f f' g g' (inl e) (inl e') = inl (rw (e, e') refl)
  lesser_close v v' w w' f f' g g' (inl e) (inr h) = rw e (one_less v' w w' f' g g' h.0 h.1)
  lesser_close v v' w w' f f' g g' (inr h) (inl e) = rw e (other_less w' v v' g' f f' h.0 h.1)
  lesser_close v v' w w' f f' g g' (inr h) (inr h') =
      let e = lesser_lead v w (fits_form m t w v g f) in let e' = lesser_lead v' w' (fits_form m t w' v' g' f') in inr (omega (arith, e, h.0, h'.0), omega (arith, e', h.1, h'.1))
