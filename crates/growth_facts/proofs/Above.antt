-- The growth law of one operator, of what is at least a bound.
use Rattle.std.proofs.Common.{◌≡◌, ℕ, zero, suc, ◌≤◌, ◌+◌, ◌*◌, List, [], ◌∷◌, refl, ap, subst, arith, Bool, true, false, not, ◌||◌, ◌&&◌, Some, nat_le, min}
use Rattle.std.proofs.lemmas.Bool.Decides.{nat_tests}
use Rattle.fc_values.specs.declared.builtins.Builtin.{Builtin}
use Rattle.fc_values.specs.declared.builtins.Builtin.TheVariants as op
use Rattle.fc_values.specs.Types.{LocalType, IntType, BoolType, PairType}
use Rattle.fc_values.specs.Values.{LocalValue, IntValue, BoolValue, PairValue, Fits, lesser, greater}
use Rattle.fc_values.specs.Builtins.{of_two_integers, local_value}
use Rattle.fc_values.specs.BuiltinTypes.{Takes, takes_add, takes_mul, takes_min, takes_max, takes_mux, takes_pair, takes_fst}
use Rattle.growth_facts.specs.Leads.{lead}
use Rattle.growth_facts.specs.Growth.{GrowthValue, Grows, Lacks, NodeFacts, only_if, on_one_side, raised, lesser_growth, op_growth}
use Rattle.growth_facts.proofs.Closeness.{fits_form, lesser_lead, greater_lead}

pub first_true : (a b : Bool) → (a && b) ≡ true → a ≡ true
first_true true b e = refl
first_true false b e = absurd cc

-- an argument: it fits; without x it is at least its least; with a growth it is that much above k; what is heard is at least k
pub record IsAbove (m k : ℕ) (f : NodeFacts) (t : LocalType) (u : LocalValue) : Type 0 where
  pub fits : Fits m t u
  pub apart : f.uses ≡ false → f.least ≤ lead u
  pub grows : (g : ℕ) → f.growth ≡ Grows g → min m (k + g) ≤ lead u
  pub heard : f.heard ≡ true → k ≤ lead u

abbrev pub AllAbove : ℕ → ℕ → List NodeFacts → List LocalType → List LocalValue → Type 0
AllAbove m k [] [] [] = Unit {0}
AllAbove m k (f ∷ fs) (t ∷ ts) (u ∷ us) = IsAbove m k f t u × AllAbove m k fs ts us
AllAbove m k _ _ _ = ⊥

record One (m k : ℕ) (t : LocalType) (fs : List NodeFacts) (us : List LocalValue) : Type 0 where
  f : NodeFacts
  u : LocalValue
  fs_is : fs ≡ f ∷ []
  us_is : us ≡ u ∷ []
  above : IsAbove m k f t u

record Two (m k : ℕ) (s t : LocalType) (fs : List NodeFacts) (us : List LocalValue) : Type 0 where
  f : NodeFacts
  g : NodeFacts
  u : LocalValue
  v : LocalValue
  fs_is : fs ≡ f ∷ g ∷ []
  us_is : us ≡ u ∷ v ∷ []
  first : IsAbove m k f s u
  second : IsAbove m k g t v

record Three (m k : ℕ) (r s t : LocalType) (fs : List NodeFacts) (us : List LocalValue) : Type 0 where
  e : NodeFacts
  f : NodeFacts
  g : NodeFacts
  x : LocalValue
  u : LocalValue
  v : LocalValue
  fs_is : fs ≡ e ∷ f ∷ g ∷ []
  us_is : us ≡ x ∷ u ∷ v ∷ []
  first : IsAbove m k e r x
  second : IsAbove m k f s u
  third : IsAbove m k g t v

module _ (m k : ℕ) where
  none_of : (fs : List NodeFacts) (us : List LocalValue) → AllAbove m k fs [] us → (fs ≡ []) × (us ≡ [])
  none_of [] [] h = (refl, refl)
  none_of [] (u ∷ us) h = absurd h
  none_of (f ∷ fs) us h = absurd h

  one_of : (t : LocalType) (fs : List NodeFacts) (us : List LocalValue) → AllAbove m k fs (t ∷ []) us → One m k t fs us
  one_of t (f ∷ fs) (u ∷ us) h = let n = none_of fs us h.1 in record { f = f; u = u; fs_is = ap (λ (x : List NodeFacts). f ∷ x) n.0; us_is = ap (λ (x : List LocalValue). u ∷ x) n.1; above = h.0 }
  one_of t [] us h = absurd h
  one_of t (f ∷ fs) [] h = absurd h

  two_of : (s t : LocalType) (fs : List NodeFacts) (us : List LocalValue) → AllAbove m k fs (s ∷ t ∷ []) us → Two m k s t fs us
  two_of s t (f ∷ fs) (u ∷ us) h = let n = one_of t fs us h.1 in record { f = f; g = n.f; u = u; v = n.u; fs_is = ap (λ (x : List NodeFacts). f ∷ x) n.fs_is; us_is = ap (λ (x : List LocalValue). u ∷ x) n.us_is; first = h.0; second = n.above }
  two_of s t [] us h = absurd h
  two_of s t (f ∷ fs) [] h = absurd h

  three_of : (r s t : LocalType) (fs : List NodeFacts) (us : List LocalValue) → AllAbove m k fs (r ∷ s ∷ t ∷ []) us → Three m k r s t fs us
  three_of r s t (f ∷ fs) (u ∷ us) h = let n = two_of s t fs us h.1 in record { e = f; f = n.f; g = n.g; x = u; u = n.u; v = n.v; fs_is = ap (λ (x : List NodeFacts). f ∷ x) n.fs_is; us_is = ap (λ (x : List LocalValue). u ∷ x) n.us_is; first = h.0; second = n.first; third = n.second }
  three_of r s t [] us h = absurd h
  three_of r s t (f ∷ fs) [] h = absurd h

  pub two_ints : (f : ℕ → ℕ → LocalValue) (a b r : LocalValue) → of_two_integers f (a ∷ b ∷ []) ≡ Some r → f (lead a) (lead b) ≡ r
  two_ints f (IntValue x) (IntValue y) r e = cc
  two_ints f (IntValue x) (BoolValue y) r e = absurd cc
  two_ints f (IntValue x) (PairValue y z) r e = absurd cc
  two_ints f (BoolValue x) b r e = absurd cc
  two_ints f (PairValue x y) b r e = absurd cc

  pub grows_raised : (s g : ℕ) (o : GrowthValue) → raised m s o ≡ Grows g → (c : ℕ) × (o ≡ Grows c) × (g ≡ min m (c + s))
  grows_raised s g (Lacks q) h = absurd cc
  grows_raised s g (Grows c) h = (c, refl, cc)

  pub grows_lesser : (g : ℕ) (o p : GrowthValue) → lesser_growth o p ≡ Grows g → (c : ℕ) × (e : ℕ) × (o ≡ Grows c) × (p ≡ Grows e) × (g ≡ min c e)
  grows_lesser g (Lacks q) p h = absurd cc
  grows_lesser g (Grows c) (Lacks q) h = absurd cc
  grows_lesser g (Grows c) (Grows e) h = (c, e, refl, refl, cc)

  pub grows_if : (b : Bool) (p g : ℕ) (o : GrowthValue) → only_if b p o ≡ Grows g → (b ≡ true) × (o ≡ Grows g)
  grows_if true p g o h = (refl, h)
  grows_if false p g o h = absurd cc

  times_more : (x y : ℕ) → 1 ≤ y → x ≤ x * y
  times_more x zero l = absurd (omega (arith, l))
  times_more x (suc y) l = omega arith

  module _ (n : ℕ) where
    add_above : (f h : NodeFacts) (a b : LocalValue) (g : ℕ) (r : LocalValue) → IsAbove m k f IntType a → IsAbove m k h IntType b → (p q : Bool) → f.uses ≡ p → h.uses ≡ q
        → on_one_side p q n (raised m h.least f.growth) (raised m f.least h.growth) ≡ Grows g → IntValue (min m (lead a + lead b)) ≡ r → min m (k + g) ≤ lead r
    add_above f h a b g r x y true false i j e s = let z = grows_raised h.least g f.growth e in let u = x.grows z.0 z.1 in let v = y.apart j in let w = z.2 in let l = ap lead s in omega (arith, u, v, w, l)
    add_above f h a b g r x y false true i j e s = let z = grows_raised f.least g h.growth e in let u = y.grows z.0 z.1 in let v = x.apart i in let w = z.2 in let l = ap lead s in omega (arith, u, v, w, l)
    add_above f h a b g r x y true true i j e s = absurd cc
    add_above f h a b g r x y false false i j e s = absurd cc

    mul_above : (f h : NodeFacts) (a b : LocalValue) (g : ℕ) (r : LocalValue) → IsAbove m k f IntType a → IsAbove m k h IntType b → (p q : Bool) → f.uses ≡ p → h.uses ≡ q
        → on_one_side p q n (only_if (nat_le 1 h.least) n f.growth) (only_if (nat_le 1 f.least) n h.growth) ≡ Grows g → IntValue (min m (lead a * lead b)) ≡ r → min m (k + g) ≤ lead r
    mul_above f h a b g r x y true false i j e s =
        let z = grows_if (nat_le 1 h.least) n g f.growth e in let z0 = z.0 in let low : 1 ≤ h.least = grind (arith, z0, nat_tests) in
        let u = x.grows g z.1 in let v = y.apart j in let t = times_more (lead a) (lead b) (omega (arith, low, v)) in let l = ap lead s in omega (arith, u, t, l)
    mul_above f h a b g r x y false true i j e s =
        let z = grows_if (nat_le 1 f.least) n g h.growth e in let z0 = z.0 in let low : 1 ≤ f.least = grind (arith, z0, nat_tests) in
        let u = y.grows g z.1 in let v = x.apart i in let t = times_more (lead b) (lead a) (omega (arith, low, v)) in let l = ap lead s in let c : lead a * lead b ≡ lead b * lead a = omega arith in omega (arith, u, t, l, c)
    mul_above f h a b g r x y true true i j e s = absurd cc
    mul_above f h a b g r x y false false i j e s = absurd cc

    max_above : (t : LocalType) (f h : NodeFacts) (a b : LocalValue) (g : ℕ) → IsAbove m k f t a → IsAbove m k h t b → (p q : Bool) → on_one_side p q n f.growth h.growth ≡ Grows g → min m (k + g) ≤ lead (greater a b)
    max_above t f h a b g x y true false e = let u = x.grows g e in let l = greater_lead a b (fits_form m t a b x.fits y.fits) in omega (arith, u, l)
    max_above t f h a b g x y false true e = let u = y.grows g e in let l = greater_lead a b (fits_form m t a b x.fits y.fits) in omega (arith, u, l)
    max_above t f h a b g x y true true e = absurd cc
    max_above t f h a b g x y false false e = absurd cc

    min_above : (t : LocalType) (f h : NodeFacts) (a b : LocalValue) (g : ℕ) → IsAbove m k f t a → IsAbove m k h t b → lesser_growth f.growth h.growth ≡ Grows g → min m (k + g) ≤ lead (lesser a b)
    min_above t f h a b g x y e =
        let z = grows_lesser g f.growth h.growth e in let u = x.grows z.0 z.2 in let v = y.grows z.1 z.3 in let w = z.4 in let l = lesser_lead a b (fits_form m t b a y.fits x.fits) in omega (arith, u, v, w, l)

    mux_above : (t : LocalType) (f h : NodeFacts) (c a b r : LocalValue) (g : ℕ) → IsAbove m k f t a → IsAbove m k h t b → (p : Bool) → only_if p n (lesser_growth f.growth h.growth) ≡ Grows g
        → local_value op.Mux m (c ∷ a ∷ b ∷ []) ≡ Some r → min m (k + g) ≤ lead r
    mux_above t f h (BoolValue true) a b r g x y true e s =
        let z = grows_lesser g f.growth h.growth e in let u = x.grows z.0 z.2 in let q = z.4 in let a' : a ≡ r = cc in let l = ap lead a' in omega (arith, u, q, l)
    mux_above t f h (BoolValue false) a b r g x y true e s =
        let z = grows_lesser g f.growth h.growth e in let u = y.grows z.1 z.3 in let q = z.4 in let a' : b ≡ r = cc in let l = ap lead a' in omega (arith, u, q, l)
    mux_above t f h (BoolValue c) a b r g x y false e s = absurd cc
    mux_above t f h (IntValue c) a b r g x y p e s = absurd cc
    mux_above t f h (PairValue c c') a b r g x y p e s = absurd cc

    fst_above : (f : NodeFacts) (s t : LocalType) (a r : LocalValue) (g : ℕ) → IsAbove m k f (PairType s t) a → only_if (f.heard && f.leads) n (Grows 0) ≡ Grows g → local_value op.Fst m (a ∷ []) ≡ Some r → min m (k + g) ≤ lead r
    fst_above f s t (PairValue a b) r g x e q =
        let z = grows_if (f.heard && f.leads) n g (Grows 0) e in let u = x.heard (first_true f.heard f.leads z.0) in let g' : 0 ≡ g = let z1 = z.1 in cc in let a' : a ≡ r = cc in let l = ap lead a' in omega (arith, u, g', l)
    fst_above f s t (IntValue a) r g x e q = absurd cc
    fst_above f s t (BoolValue a) r g x e q = absurd cc

    pub op_above : (o : Builtin) (ts : List LocalType) (t : LocalType) (fs : List NodeFacts) (us : List LocalValue) (g : ℕ) (r : LocalValue) → Takes o ts t → AllAbove m k fs ts us → op_growth m n o fs ≡ Grows g → local_value o m us ≡ Some r → min m (k + g) ≤ lead r
    op_above _ _ _ fs us g r takes_add h e s =
        let i = two_of IntType IntType fs us h in
        add_above i.f i.g i.u i.v g r i.first i.second i.f.uses i.g.uses refl refl (subst (λ x. op_growth m n op.Add x ≡ Grows g) i.fs_is e) (two_ints (λ a b. IntValue (min m (a + b))) i.u i.v r (subst (λ x. local_value op.Add m x ≡ Some r) i.us_is s))
    op_above _ _ _ fs us g r takes_mul h e s =
        let i = two_of IntType IntType fs us h in
        mul_above i.f i.g i.u i.v g r i.first i.second i.f.uses i.g.uses refl refl (subst (λ x. op_growth m n op.Mul x ≡ Grows g) i.fs_is e) (two_ints (λ a b. IntValue (min m (a * b))) i.u i.v r (subst (λ x. local_value op.Mul m x ≡ Some r) i.us_is s))
    op_above _ _ _ fs us g r (takes_max t) h e s =
        let i = two_of t t fs us h in
        let s' : Some (greater i.u i.v) ≡ Some r = subst (λ x. local_value op.Max m x ≡ Some r) i.us_is s in
        let r' : greater i.u i.v ≡ r = cc in
        subst (λ x. min m (k + g) ≤ lead x) r' (max_above t i.f i.g i.u i.v g i.first i.second i.f.uses i.g.uses (subst (λ x. op_growth m n op.Max x ≡ Grows g) i.fs_is e))
    op_above _ _ _ fs us g r (takes_min t) h e s =
        let i = two_of t t fs us h in
        let s' : Some (lesser i.u i.v) ≡ Some r = subst (λ x. local_value op.Min m x ≡ Some r) i.us_is s in
        let r' : lesser i.u i.v ≡ r = cc in
        subst (λ x. min m (k + g) ≤ lead x) r' (min_above t i.f i.g i.u i.v g i.first i.second (subst (λ x. op_growth m n op.Min x ≡ Grows g) i.fs_is e))
    op_above _ _ _ fs us g r (takes_mux t) h e s =
        let i = three_of BoolType t t fs us h in
        mux_above t i.f i.g i.x i.u i.v r g i.second i.third (not i.e.uses) (subst (λ x. op_growth m n op.Mux x ≡ Grows g) i.fs_is e) (subst (λ x. local_value op.Mux m x ≡ Some r) i.us_is s)
    op_above _ _ _ fs us g r (takes_pair a b few) h e s =
        let i = two_of a b fs us h in
        let s' : Some (PairValue i.u i.v) ≡ Some r = subst (λ x. local_value op.Pair m x ≡ Some r) i.us_is s in
        let r' : PairValue i.u i.v ≡ r = cc in
        let z = grows_if (i.f.integer && (not i.g.uses || i.g.rest)) n g i.f.growth (subst (λ x. op_growth m n op.Pair x ≡ Grows g) i.fs_is e) in
        subst (λ x. min m (k + g) ≤ lead x) r' (i.first.grows g z.1)
    op_above _ _ _ fs us g r (takes_fst a b) h e s =
        let i = one_of (PairType a b) fs us h in
        fst_above i.f a b i.u r g i.above (subst (λ x. op_growth m n op.Fst x ≡ Grows g) i.fs_is e) (subst (λ x. local_value op.Fst m x ≡ Some r) i.us_is s)
    op_above _ _ _ fs us g r takes h e s = absurd cc
