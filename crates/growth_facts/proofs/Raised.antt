-- The growth law of one operator, of arguments that are raised.
use Rattle.std.proofs.Common.{◌≡◌, ℕ, zero, suc, ◌≤◌, ◌+◌, ◌*◌, List, [], ◌∷◌, refl, ap, subst, arith, Bool, true, false, not, ◌||◌, ◌&&◌, Some, nat_le, min, max}
use Rattle.fc_values.specs.declared.builtins.Builtin.{Builtin}
use Rattle.fc_values.specs.declared.builtins.Builtin.TheVariants as op
use Rattle.fc_values.specs.Types.{LocalType, IntType}
use Rattle.fc_values.specs.Values.{LocalValue, IntValue, BoolValue, PairValue, Fits, lesser, greater}
use Rattle.fc_values.specs.Builtins.{local_value}
use Rattle.fc_values.specs.BuiltinTypes.{Takes, takes_add, takes_mul, takes_min, takes_max, takes_mux, takes_pair, takes_fst}
use Rattle.growth_facts.specs.Leads.{lead}
use Rattle.growth_facts.specs.Growth.{Grows, NodeFacts, only_if, on_one_side, raised, lesser_growth, op_growth}
use Rattle.growth_facts.proofs.Closeness.{fits_form, lesser_lead, greater_lead}
use Rattle.growth_facts.proofs.Above.{grows_raised, grows_lesser, grows_if, two_ints, first_true}

-- two values of an argument: they fit; without the variable they are one; with a growth the second is led by no less; and
-- so it is where they are what is heard
pub record IsRaised (m : ℕ) (f : NodeFacts) (t : LocalType) (u w : LocalValue) : Type 0 where
  pub first : Fits m t u
  pub second : Fits m t w
  pub apart : f.uses ≡ false → u ≡ w
  pub grows : (g : ℕ) → f.growth ≡ Grows g → lead u ≤ lead w
  pub heard : f.heard ≡ true → lead u ≤ lead w

pub data AllRaised (m : ℕ) : List NodeFacts → List LocalType → List LocalValue → List LocalValue → Type 0 where
  none_raised : AllRaised m [] [] [] []
  one_raised : (f : NodeFacts) (t : LocalType) (u w : LocalValue) (fs : List NodeFacts) (ts : List LocalType) (us ws : List LocalValue) → IsRaised m f t u w → AllRaised m fs ts us ws → AllRaised m (f ∷ fs) (t ∷ ts) (u ∷ us) (w ∷ ws)

times_first : (x y z : ℕ) → x ≤ y → x * z ≤ y * z
times_first x y zero l = omega arith
times_first x y (suc z) l = let r = times_first x y z l in omega (arith, l, r)

times_second : (x y z : ℕ) → x ≤ y → z * x ≤ z * y
times_second x y zero l = omega arith
times_second x y (suc z) l = let r = times_second x y z l in omega (arith, l, r)

module _ (m n : ℕ) where
  add_raised : (f h : NodeFacts) (a a' b b' : LocalValue) (g : ℕ) → IsRaised m f IntType a a' → IsRaised m h IntType b b' → (p q : Bool) → f.uses ≡ p → h.uses ≡ q
      → on_one_side p q n (raised m h.least f.growth) (raised m f.least h.growth) ≡ Grows g → lead a + lead b ≤ lead a' + lead b'
  add_raised f h a a' b b' g x y true false i j e = let z = grows_raised m 0 h.least g f.growth e in let u = x.grows z.0 z.1 in let v = ap lead (y.apart j) in omega (arith, u, v)
  add_raised f h a a' b b' g x y false true i j e = let z = grows_raised m 0 f.least g h.growth e in let u = y.grows z.0 z.1 in let v = ap lead (x.apart i) in omega (arith, u, v)
  add_raised f h a a' b b' g x y true true i j e = absurd cc
  add_raised f h a a' b b' g x y false false i j e = absurd cc

  mul_raised : (f h : NodeFacts) (a a' b b' : LocalValue) (g : ℕ) → IsRaised m f IntType a a' → IsRaised m h IntType b b' → (p q : Bool) → f.uses ≡ p → h.uses ≡ q
      → on_one_side p q n (only_if (nat_le 1 h.least) n f.growth) (only_if (nat_le 1 f.least) n h.growth) ≡ Grows g → lead a * lead b ≤ lead a' * lead b'
  mul_raised f h a a' b b' g x y true false i j e =
      let z = grows_if m 0 (nat_le 1 h.least) n g f.growth e in let u = x.grows g z.1 in subst (λ c. lead a * lead b ≤ lead a' * lead c) (y.apart j) (times_first (lead a) (lead a') (lead b) u)
  mul_raised f h a a' b b' g x y false true i j e =
      let z = grows_if m 0 (nat_le 1 f.least) n g h.growth e in let u = y.grows g z.1 in subst (λ c. lead a * lead b ≤ lead c * lead b') (x.apart i) (times_second (lead b) (lead b') (lead a) u)
  mul_raised f h a a' b b' g x y true true i j e = absurd cc
  mul_raised f h a a' b b' g x y false false i j e = absurd cc

  max_raised : (f h : NodeFacts) (t : LocalType) (a a' b b' : LocalValue) (g : ℕ) → IsRaised m f t a a' → IsRaised m h t b b' → (p q : Bool) → f.uses ≡ p → h.uses ≡ q
      → on_one_side p q n f.growth h.growth ≡ Grows g → max (lead a) (lead b) ≤ max (lead a') (lead b')
  max_raised f h t a a' b b' g x y true false i j e = let u = x.grows g e in let v = ap lead (y.apart j) in omega (arith, u, v)
  max_raised f h t a a' b b' g x y false true i j e = let u = y.grows g e in let v = ap lead (x.apart i) in omega (arith, u, v)
  max_raised f h t a a' b b' g x y true true i j e = absurd cc
  max_raised f h t a a' b b' g x y false false i j e = absurd cc

  -- both choices
  both_raised : (f h : NodeFacts) (t : LocalType) (a a' b b' : LocalValue) (g : ℕ) → IsRaised m f t a a' → IsRaised m h t b b' → lesser_growth f.growth h.growth ≡ Grows g → (lead a ≤ lead a') × (lead b ≤ lead b')
  both_raised f h t a a' b b' g x y e = let z = grows_lesser m 0 g f.growth h.growth e in (x.grows z.0 z.2, y.grows z.1 z.3)

  mux_raised : (c c' a a' b b' r z : LocalValue) → c ≡ c' → (lead a ≤ lead a') × (lead b ≤ lead b') → local_value op.Mux m (c ∷ a ∷ b ∷ []) ≡ Some r → local_value op.Mux m (c' ∷ a' ∷ b' ∷ []) ≡ Some z → lead r ≤ lead z
  mux_raised (BoolValue true) c' a a' b b' r z e l s s' =
      let k : Some a' ≡ Some z = rw (← e) at s' in let q : a ≡ r = cc in let q' : a' ≡ z = cc in subst (λ v. lead v ≤ lead z) q (subst (λ v. lead a ≤ lead v) q' l.0)
  mux_raised (BoolValue false) c' a a' b b' r z e l s s' =
      let k : Some b' ≡ Some z = rw (← e) at s' in let q : b ≡ r = cc in let q' : b' ≡ z = cc in subst (λ v. lead v ≤ lead z) q (subst (λ v. lead b ≤ lead v) q' l.1)
  mux_raised (IntValue c) c' a a' b b' r z e l s s' = absurd cc
  mux_raised (PairValue c d) c' a a' b b' r z e l s s' = absurd cc

  fst_raised : (a a' r z : LocalValue) → lead a ≤ lead a' → local_value op.Fst m (a ∷ []) ≡ Some r → local_value op.Fst m (a' ∷ []) ≡ Some z → lead r ≤ lead z
  fst_raised (PairValue a b) (PairValue a' b') r z l s s' = let q : a ≡ r = cc in let q' : a' ≡ z = cc in subst (λ v. lead v ≤ lead z) q (subst (λ v. lead a ≤ lead v) q' l)
  fst_raised (IntValue a) a' r z l s s' = absurd cc
  fst_raised (BoolValue a) a' r z l s s' = absurd cc
  fst_raised (PairValue a b) (IntValue a') r z l s s' = absurd cc
  fst_raised (PairValue a b) (BoolValue a') r z l s s' = absurd cc

  -- the lead of a value of which one knows what it is
  leads_as : {v w r z : LocalValue} → lead v ≤ lead w → Some v ≡ Some r → Some w ≡ Some z → lead r ≤ lead z
  leads_as {v} {w} {r} {z} l s s' = let q : v ≡ r = cc in let q' : w ≡ z = cc in subst (λ a. lead a ≤ lead z) q (subst (λ a. lead v ≤ lead a) q' l)

  not_is : (b : Bool) → not b ≡ true → b ≡ false
  not_is true e = absurd cc
  not_is false e = refl

  pub op_raised : (o : Builtin) (ts : List LocalType) (t : LocalType) (fs : List NodeFacts) (us ws : List LocalValue) (g : ℕ) (r z : LocalValue) → Takes o ts t → AllRaised m fs ts us ws
      → op_growth m n o fs ≡ Grows g → local_value o m us ≡ Some r → local_value o m ws ≡ Some z → lead r ≤ lead z
  op_raised _ _ _ _ _ _ g r z takes_add (one_raised f _ a a' _ _ _ _ x (one_raised h _ b b' _ _ _ _ y none_raised)) e s s' =
      let l = add_raised f h a a' b b' g x y f.uses h.uses refl refl e in
      let q = ap lead (two_ints m 0 (λ i j. IntValue (min m (i + j))) a b r s) in let q' = ap lead (two_ints m 0 (λ i j. IntValue (min m (i + j))) a' b' z s') in omega (arith, l, q, q')
  op_raised _ _ _ _ _ _ g r z takes_mul (one_raised f _ a a' _ _ _ _ x (one_raised h _ b b' _ _ _ _ y none_raised)) e s s' =
      let l = mul_raised f h a a' b b' g x y f.uses h.uses refl refl e in
      let q = ap lead (two_ints m 0 (λ i j. IntValue (min m (i * j))) a b r s) in let q' = ap lead (two_ints m 0 (λ i j. IntValue (min m (i * j))) a' b' z s') in omega (arith, l, q, q')
  op_raised _ _ _ _ _ _ g r z (takes_max t) (one_raised f _ a a' _ _ _ _ x (one_raised h _ b b' _ _ _ _ y none_raised)) e s s' =
      let l = max_raised f h t a a' b b' g x y f.uses h.uses refl refl e in
      let q = greater_lead a b (fits_form m t a b x.first y.first) in let q' = greater_lead a' b' (fits_form m t a' b' x.second y.second) in
      leads_as {v = greater a b} {w = greater a' b'} (omega (arith, l, q, q')) s s'
  op_raised _ _ _ _ _ _ g r z (takes_min t) (one_raised f _ a a' _ _ _ _ x (one_raised h _ b b' _ _ _ _ y none_raised)) e s s' =
      let l = both_raised f h t a a' b b' g x y e in
      let q = lesser_lead a b (fits_form m t b a y.first x.first) in let q' = lesser_lead a' b' (fits_form m t b' a' y.second x.second) in
      leads_as {v = lesser a b} {w = lesser a' b'} (omega (arith, l.0, l.1, q, q')) s s'
  op_raised _ _ _ _ _ _ g r z (takes_mux t) (one_raised c _ d d' _ _ _ _ w (one_raised f _ a a' _ _ _ _ x (one_raised h _ b b' _ _ _ _ y none_raised))) e s s' =
      let i = grows_if m 0 (not c.uses) n g (lesser_growth f.growth h.growth) e in
      mux_raised d d' a a' b b' r z (w.apart (not_is c.uses i.0)) (both_raised f h t a a' b b' g x y i.1) s s'
  op_raised _ _ _ _ _ _ g r z (takes_pair t t' few) (one_raised f _ a a' _ _ _ _ x (one_raised h _ b b' _ _ _ _ y none_raised)) e s s' =
      let i = grows_if m 0 (f.integer && (not h.uses || h.rest)) n g f.growth e in
      leads_as {v = PairValue a b} {w = PairValue a' b'} (x.grows g i.1) s s'
  op_raised _ _ _ _ _ _ g r z (takes_fst t t') (one_raised f _ a a' _ _ _ _ x none_raised) e s s' =
      let i = grows_if m 0 (f.heard && f.leads) n g (Grows 0) e in fst_raised a a' r z (x.heard (first_true f.heard f.leads i.0)) s s'
  op_raised _ _ _ fs us ws g r z takes h e s s' = absurd cc
