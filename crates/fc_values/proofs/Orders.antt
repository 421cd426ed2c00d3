-- Crates above cite this module: the order of values of one form.
use Rattle.std.proofs.Common.{◌≡◌, ℕ, zero, suc, ◌<◌, ◌⊎◌, inl, inr, List, [], ◌∷◌, length, get_or, refl, sym, ◌∙◌, ap, arith, subst, Bool, true, false, if◌then◌else◌, Some}
use Rattle.std.specs.Ordering.{nat_cmp, MatchOrdering, ordering_reverse}
use Rattle.std.specs.Cmp.{nat_cmp_is}
use Rattle.std.proofs.lemmas.Cmp.{ranked}
use Rattle.std.specs.List.{All, Contains}
use Rattle.std.specs.declared.cmp.Ordering.{Ordering}
use Rattle.std.specs.declared.cmp.Ordering.TheVariants as ord
use Rattle.fc_values.specs.Types.{LocalType}
use Rattle.fc_values.specs.Values.{LocalValue, IntValue, BoolValue, PairValue, SameForm, form_of, compare_truths, then_order, compare_values, is_less, is_equal, lesser, greater}
use Rattle.fc_values.specs.Builtins.{least_of, greatest_of}
use Rattle.fc_values.specs.Laws.{AtMost, IsLeast, IsGreatest, LeastIsLeast, GreatestIsGreatest, EqualSaysSame}
use Rattle.fc_values.proofs.Forms.{same_form}

-- ---- whole numbers and truth values

nat_flips : (a b : ℕ) → nat_cmp b a ≡ ordering_reverse (nat_cmp a b)
nat_flips a b = by_order (nat_cmp a b) (ranked a b (nat_cmp a b) refl)
  where
    by_order : (o : Ordering) → MatchOrdering o (a < b) (a ≡ b) (b < a) → nat_cmp b a ≡ ordering_reverse o
    by_order ord.Less h = sym (nat_cmp_is b a ord.Greater h)
    by_order ord.Equal h = sym (nat_cmp_is b a ord.Equal (sym h))
    by_order ord.Greater h = sym (nat_cmp_is b a ord.Less h)

nat_less : (a b : ℕ) → nat_cmp a b ≡ ord.Less → a < b
nat_less a b e = subst (λ o. MatchOrdering o (a < b) (a ≡ b) (b < a)) e (ranked a b (nat_cmp a b) refl)

nat_same : (a b : ℕ) → nat_cmp a b ≡ ord.Equal → a ≡ b
nat_same a b e = subst (λ o. MatchOrdering o (a < b) (a ≡ b) (b < a)) e (ranked a b (nat_cmp a b) refl)

nat_chain : (a b c : ℕ) → nat_cmp a b ≡ ord.Less → nat_cmp b c ≡ ord.Less → nat_cmp a c ≡ ord.Less
nat_chain a b c e f = let x = nat_less a b e in let y = nat_less b c f in sym (nat_cmp_is a c ord.Less (omega arith))

truth_flips : (a b : Bool) → compare_truths b a ≡ ordering_reverse (compare_truths a b)
truth_flips false false = refl
truth_flips false true = refl
truth_flips true false = refl
truth_flips true true = refl

truth_same : (a b : Bool) → compare_truths a b ≡ ord.Equal → a ≡ b
truth_same false false e = refl
truth_same true true e = refl
truth_same false true e = absurd cc
truth_same true false e = absurd cc

truth_chain : (a b c : Bool) → compare_truths a b ≡ ord.Less → compare_truths b c ≡ ord.Less → compare_truths a c ≡ ord.Less
truth_chain false b true e f = refl
truth_chain false false false e f = absurd cc
truth_chain false true false e f = absurd cc
truth_chain true false c e f = absurd cc
truth_chain true true c e f = absurd cc

-- ---- values of one form

then_flips : (o r : Ordering) → then_order (ordering_reverse o) (ordering_reverse r) ≡ ordering_reverse (then_order o r)
then_flips ord.Less r = refl
then_flips ord.Equal r = refl
then_flips ord.Greater r = refl

-- compared the other way round
pub compare_flips : (v w : LocalValue) → SameForm v w → compare_values w v ≡ ordering_reverse (compare_values v w)
compare_flips (IntValue a) (IntValue b) h = nat_flips a b
compare_flips (BoolValue a) (BoolValue b) h = truth_flips a b
compare_flips (PairValue a b) (PairValue c d) h =
    let p = compare_flips a c h.0 in
    let q = compare_flips b d h.1 in
    rw (p, q) (then_flips (compare_values a c) (compare_values b d))
compare_flips (IntValue a) (BoolValue b) h = absurd h
compare_flips (IntValue a) (PairValue c d) h = absurd h
compare_flips (BoolValue a) (IntValue b) h = absurd h
compare_flips (BoolValue a) (PairValue c d) h = absurd h
compare_flips (PairValue a b) (IntValue c) h = absurd h
compare_flips (PairValue a b) (BoolValue c) h = absurd h

-- values that compare as equal are the same
pub compare_same : (v w : LocalValue) → SameForm v w → compare_values v w ≡ ord.Equal → v ≡ w
compare_same (IntValue a) (IntValue b) h e = ap IntValue (nat_same a b e)
compare_same (BoolValue a) (BoolValue b) h e = ap BoolValue (truth_same a b e)
compare_same (PairValue a b) (PairValue c d) h e = by_order (compare_same a c h.0) (compare_same b d h.1) (compare_values a c) refl e
  where
    by_order : (compare_values a c ≡ ord.Equal → a ≡ c) → (compare_values b d ≡ ord.Equal → b ≡ d)
        → (o : Ordering) → compare_values a c ≡ o → then_order o (compare_values b d) ≡ ord.Equal → PairValue a b ≡ PairValue c d
    by_order p q ord.Equal s f = let x = p s in let y = q f in cc
    by_order p q ord.Less s f = absurd cc
    by_order p q ord.Greater s f = absurd cc
compare_same (IntValue a) (BoolValue b) h e = absurd h
compare_same (IntValue a) (PairValue c d) h e = absurd h
compare_same (BoolValue a) (IntValue b) h e = absurd h
compare_same (BoolValue a) (PairValue c d) h e = absurd h
compare_same (PairValue a b) (IntValue c) h e = absurd h
compare_same (PairValue a b) (BoolValue c) h e = absurd h

-- a value compares as equal with itself
nat_itself : (a : ℕ) → nat_cmp a a ≡ ord.Equal
nat_itself a = sym (nat_cmp_is a a ord.Equal refl)

pub compare_itself : (v : LocalValue) → compare_values v v ≡ ord.Equal
compare_itself (IntValue a) = nat_itself a
compare_itself (BoolValue false) = refl
compare_itself (BoolValue true) = refl
compare_itself (PairValue a b) = let p = compare_itself a in let q = compare_itself b in rw (p, q) refl

-- what comes before a value comes before those behind it
pub compare_chain : (u v w : LocalValue) → SameForm u v → SameForm v w → compare_values u v ≡ ord.Less → compare_values v w ≡ ord.Less → compare_values u w ≡ ord.Less
compare_chain (IntValue a) (IntValue b) (IntValue c) h k e f = nat_chain a b c e f
compare_chain (BoolValue a) (BoolValue b) (BoolValue c) h k e f = truth_chain a b c e f
compare_chain (PairValue a x) (PairValue b y) (PairValue c z) h k e f = by_orders (compare_chain a b c h.0 k.0) (compare_chain x y z h.1 k.1) (compare_values a b) (compare_values b c) refl refl e f
  where
    by_orders : (compare_values a b ≡ ord.Less → compare_values b c ≡ ord.Less → compare_values a c ≡ ord.Less)
        → (compare_values x y ≡ ord.Less → compare_values y z ≡ ord.Less → compare_values x z ≡ ord.Less) → (o r : Ordering) → compare_values a b ≡ o → compare_values b c ≡ r → then_order o (compare_values x y) ≡ ord.Less → then_order r (compare_values y z) ≡ ord.Less
        → then_order (compare_values a c) (compare_values x z) ≡ ord.Less
    by_orders p1 p2 ord.Less ord.Less s t e f = let p = p1 s t in rw p refl
    by_orders p1 p2 ord.Less ord.Equal s t e f = let p = compare_same b c k.0 t in let q : compare_values a c ≡ ord.Less = rw (← p) s in rw q refl
    by_orders p1 p2 ord.Equal ord.Less s t e f = let p = compare_same a b h.0 s in let q : compare_values a c ≡ ord.Less = rw p t in rw q refl
    by_orders p1 p2 ord.Equal ord.Equal s t e f =
        let p = compare_same a b h.0 s in
        let q : compare_values a c ≡ ord.Equal = rw p t in
        rw q (p2 e f)
    by_orders p1 p2 ord.Greater r s t e f = absurd cc
    by_orders p1 p2 ord.Less ord.Greater s t e f = absurd cc
    by_orders p1 p2 ord.Equal ord.Greater s t e f = absurd cc
compare_chain (IntValue a) (BoolValue b) w h k e f = absurd h
compare_chain (IntValue a) (PairValue b y) w h k e f = absurd h
compare_chain (BoolValue a) (IntValue b) w h k e f = absurd h
compare_chain (BoolValue a) (PairValue b y) w h k e f = absurd h
compare_chain (PairValue a x) (IntValue b) w h k e f = absurd h
compare_chain (PairValue a x) (BoolValue b) w h k e f = absurd h
compare_chain (IntValue a) (IntValue b) (BoolValue c) h k e f = absurd k
compare_chain (IntValue a) (IntValue b) (PairValue c z) h k e f = absurd k
compare_chain (BoolValue a) (BoolValue b) (IntValue c) h k e f = absurd k
compare_chain (BoolValue a) (BoolValue b) (PairValue c z) h k e f = absurd k
compare_chain (PairValue a x) (PairValue b y) (IntValue c) h k e f = absurd k
compare_chain (PairValue a x) (PairValue b y) (BoolValue c) h k e f = absurd k

pub at_most_chain : (u v w : LocalValue) → SameForm u v → SameForm v w → AtMost u v → AtMost v w → AtMost u w
at_most_chain u v w h k (inl e) (inl f) = inl (compare_chain u v w h k e f)
at_most_chain u v w h k (inl e) (inr f) = inl (rw (← f) e)
at_most_chain u v w h k (inr e) q = rw e q

-- ---- the lesser and the greater of two

-- of two values of one form, one is at most the other
not_less : (a b : LocalValue) → SameForm a b → is_less (compare_values b a) ≡ false → AtMost a b
not_less a b h e = by_order (compare_values a b) refl (compare_flips a b h)
  where
    by_order : (o : Ordering) → compare_values a b ≡ o → compare_values b a ≡ ordering_reverse o → AtMost a b
    by_order ord.Less s t = inl s
    by_order ord.Equal s t = inr (compare_same a b h s)
    by_order ord.Greater s t = let u : is_less (compare_values b a) ≡ true = rw t refl in absurd cc

is_less_says : (a b : LocalValue) → is_less (compare_values a b) ≡ true → compare_values a b ≡ ord.Less
is_less_says a b e = by_order (compare_values a b) refl e
  where
    by_order : (o : Ordering) → compare_values a b ≡ o → is_less o ≡ true → compare_values a b ≡ ord.Less
    by_order ord.Less s t = s
    by_order ord.Equal s t = absurd cc
    by_order ord.Greater s t = absurd cc

-- one of two, and which it is
pub record Chosen (P : LocalValue → LocalValue → Type 0) (a b v : LocalValue) : Type 0 where
  pub one : (v ≡ a) ⊎ (v ≡ b)
  pub first : P v a
  pub second : P v b

pub lesser_is : (a b : LocalValue) → SameForm a b → Chosen AtMost a b (lesser a b)
lesser_is a b h = by_test (is_less (compare_values b a)) refl
  where
    by_test : (t : Bool) → is_less (compare_values b a) ≡ t → Chosen AtMost a b (if t then b else a)
    by_test true e = record { one = inr refl; first = inl (is_less_says b a e); second = inr refl }
    by_test false e = record { one = inl refl; first = inr refl; second = not_less a b h e }

same_back : (a b : LocalValue) → SameForm a b → SameForm b a
same_back (IntValue a) (IntValue b) h = tt
same_back (BoolValue a) (BoolValue b) h = tt
same_back (PairValue a b) (PairValue c d) h = (same_back a c h.0, same_back b d h.1)
same_back (IntValue a) (BoolValue b) h = absurd h
same_back (IntValue a) (PairValue c d) h = absurd h
same_back (BoolValue a) (IntValue b) h = absurd h
same_back (BoolValue a) (PairValue c d) h = absurd h
same_back (PairValue a b) (IntValue c) h = absurd h
same_back (PairValue a b) (BoolValue c) h = absurd h

pub greater_is : (a b : LocalValue) → SameForm a b → Chosen (λ v w. AtMost w v) a b (greater a b)
greater_is a b h = by_test (is_less (compare_values a b)) refl
  where
    by_test : (t : Bool) → is_less (compare_values a b) ≡ t → Chosen (λ v w. AtMost w v) a b (if t then b else a)
    by_test true e = record { one = inr refl; first = inl (is_less_says a b e); second = inr refl }
    by_test false e = record { one = inl refl; first = inr refl; second = not_less b a (same_back a b h) e }

-- ---- the least and the greatest of some

abbrev fold : (LocalValue → LocalValue → LocalValue) → LocalValue → List LocalValue → LocalValue
fold pick best [] = best
fold pick best (v ∷ vs) = fold pick (pick best v) vs

least_folds : (v : LocalValue) (vs : List LocalValue) → fold lesser v vs ≡ least_of v vs
least_folds v [] = refl
least_folds v (w ∷ ws) = least_folds (lesser v w) ws

greatest_folds : (v : LocalValue) (vs : List LocalValue) → fold greater v vs ≡ greatest_of v vs
greatest_folds v [] = refl
greatest_folds v (w ∷ ws) = greatest_folds (greater v w) ws

module _ (t : LocalType) (pick : LocalValue → LocalValue → LocalValue) (P : LocalValue → LocalValue → Type 0)
    (itself : (v : LocalValue) → P v v)
    (chain : (u v w : LocalValue) → form_of u ≡ t → form_of v ≡ t → form_of w ≡ t → P u v → P v w → P u w)
    (picks : (a b : LocalValue) → form_of a ≡ t → form_of b ≡ t → Chosen P a b (pick a b)) where
  record Best (vs : List LocalValue) (v : LocalValue) : Type 0 where
    one : Contains vs v
    each : All (λ w. P v w) vs
    form : form_of v ≡ t

  pick_form : (a b : LocalValue) → form_of a ≡ t → form_of b ≡ t → form_of (pick a b) ≡ t
  pick_form a b ea eb = let c = picks a b ea eb in elim c.one [ inl e ↦ ap form_of e ∙ ea | inr e ↦ ap form_of e ∙ eb ]

  best : (v : LocalValue) (vs : List LocalValue) → All (λ w. form_of w ≡ t) (v ∷ vs) → Best (v ∷ vs) (fold pick v vs)
  best v [] h = record { one = (0, omega arith, refl); each = only; form = h 0 v (omega arith) }
    where
      only : (k : ℕ) (d : LocalValue) → k < 1 → P v (get_or (v ∷ []) k d)
      only zero d l = itself v
      only (suc k) d l = absurd (omega arith)
  best v (w ∷ vs) h =
      let fv = h 0 v (omega arith) in
      let fw = h 1 v (omega arith) in
      let c = picks v w fv fw in
      let fp = pick_form v w fv fw in
      joined c (best (pick v w) vs (rest fp))
    where
      rest : form_of (pick v w) ≡ t → (k : ℕ) (d : LocalValue) → k < suc (length vs) → form_of (get_or (pick v w ∷ vs) k d) ≡ t
      rest fp zero d l = fp
      rest fp (suc k) d l = h (suc (suc k)) d (omega arith)

      found : Chosen P v w (pick v w) → (r : LocalValue) → Contains (pick v w ∷ vs) r → Contains (v ∷ w ∷ vs) r
      found c r (zero, l, e) = elim c.one [ inl p ↦ (0, omega arith, sym p ∙ e) | inr p ↦ (1, omega arith, sym p ∙ e) ]
      found c r (suc k, l, e) = (suc (suc k), omega arith, e)

      joined : Chosen P v w (pick v w) → Best (pick v w ∷ vs) (fold pick (pick v w) vs) → Best (v ∷ w ∷ vs) (fold pick (pick v w) vs)
      joined c b = record { one = found c (fold pick (pick v w) vs) b.one; each = all; form = b.form }
        where
          fp : form_of (pick v w) ≡ t
          fp = pick_form v w (h 0 v (omega arith)) (h 1 v (omega arith))

          all : (k : ℕ) (d : LocalValue) → k < suc (suc (length vs)) → P (fold pick (pick v w) vs) (get_or (v ∷ w ∷ vs) k d)
          all zero d l = chain (fold pick (pick v w) vs) (pick v w) v b.form fp (h 0 v (omega arith)) (b.each 0 d (omega arith)) c.first
          all (suc zero) d l = chain (fold pick (pick v w) vs) (pick v w) w b.form fp (h 1 v (omega arith)) (b.each 0 d (omega arith)) c.second
          all (suc (suc k)) d l = b.each (suc k) d (omega arith)

both_forms : (t : LocalType) (a b : LocalValue) → form_of a ≡ t → form_of b ≡ t → SameForm a b
both_forms t a b e f = same_form a b (e ∙ sym f)

pub least_is_least : LeastIsLeast
least_is_least t v vs h =
    let b = best t lesser AtMost (λ u. inr refl) (λ u w x e f g. at_most_chain u w x (both_forms t u w e f) (both_forms t w x f g))
    (λ a c e f. lesser_is a c (both_forms t a c e f)) v vs h in
    subst (IsLeast (v ∷ vs)) (least_folds v vs) (record { one = b.one; least = b.each })

pub greatest_is_greatest : GreatestIsGreatest
greatest_is_greatest t v vs h =
    let b = best t greater (λ u w. AtMost w u) (λ u. inr refl) (λ u w x e f g p q. at_most_chain x w u (both_forms t x w g f) (both_forms t w u f e) q p)
    (λ a c e f. greater_is a c (both_forms t a c e f)) v vs h in
    subst (IsGreatest (v ∷ vs)) (greatest_folds v vs) (record { one = b.one; greatest = b.each })

pub equal_says_same : EqualSaysSame
equal_says_same ceiling v w h = (forth, back)
  where
    forth : Some (BoolValue (is_equal (compare_values v w))) ≡ Some (BoolValue true) → v ≡ w
    forth e = let t : is_equal (compare_values v w) ≡ true = cc in by_order (compare_values v w) refl t
      where
        by_order : (o : Ordering) → compare_values v w ≡ o → is_equal o ≡ true → v ≡ w
        by_order ord.Equal s t = compare_same v w h s
        by_order ord.Less s t = absurd cc
        by_order ord.Greater s t = absurd cc

    back : v ≡ w → Some (BoolValue (is_equal (compare_values v w))) ≡ Some (BoolValue true)
    back e = let p : compare_values v w ≡ ord.Equal = rw (← e) (compare_itself v) in rw p refl
