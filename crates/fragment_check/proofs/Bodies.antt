-- The pattern of a body says what the body is.
use Rattle.std.proofs.Common.{◌≡◌, ℕ, suc, ◌≤◌, ◌+◌, ◌∷◌, refl, sym, ◌∙◌, ap, subst, arith, Bool, true, false, not, ◌&&◌, ◌||◌, Option, Some, None, nat_eq}
use Rattle.std.specs.Prelude.{if◌then◌else◌}
use Rattle.std.proofs.lemmas.Bool.Decides.{nat_tests}
use Rattle.std.specs.declared.result.Result.{Result}
use Rattle.std.specs.declared.result.Result.TheVariants.{Ok, Err}
use Rattle.fc_values.specs.declared.builtins.Builtin.TheVariants as op
use Rattle.fc_values.specs.Types.{LocalType, ValueType, Declarations}
use Rattle.fc_nodes.specs.declared.verdicts.Reason.{Reason}
use Rattle.fc_nodes.specs.declared.verdicts.Reason.TheVariants as reason
use Rattle.fc_nodes.specs.Typing.{Scope, HasType, evolving_type}
use Rattle.fc_nodes.specs.Terms.{Evolution, ByRep, ByShare, Term, Terms, Plain, Apply, Nbr, Evolve, If, Let, NoMore, More, size}
use Rattle.interval_facts.specs.Ranges.{RangeValue}
use Rattle.fc_nodes.specs.Variables.{occurs, is_own}
use Rattle.growth_facts.specs.Leads.{least_integer, greatest_integer}
use Rattle.growth_facts.specs.Growth.{GrowthValue, Grows, Lacks, growth_of}
use Rattle.fragment_check.specs.declared.kinds.Pattern.{Pattern}
use Rattle.fragment_check.specs.declared.kinds.Pattern.TheVariants as pattern
use Rattle.fragment_check.specs.declared.facts.Guarding.{Guarding}
use Rattle.fragment_check.specs.declared.facts.Guarding.TheVariants as guarding
use Rattle.fragment_check.specs.Patterns.{is_nested, is_nested_in, is_bare, is_unguarded, bare_beside, guarding_of, two_of, three_of, settled_hood, hood_of, rise_of, risen_hood, risen_form, form_by, evolution_form, IsOther, is_pair_range, raising, minimising, minimising_by, rising, rising_by, by_form, by_guarding, no_pattern, body_pattern}
use Rattle.fragment_check.specs.Shapes.{HasPattern, constant, acyclic, minimising as minimises, rising as rises}
use Rattle.fragment_check.proofs.Shaped.{or_left, or_right, and_left, and_right, not_true, shallow, guarded, guarded_bare, Within}

-- ---- the arguments of a builtin

record HoodIs (x : ℕ) (u h l : Term) : Type 0 where
  type : ValueType
  term : u ≡ Apply type op.MinHoodLoc (More h (More l NoMore))
  local : occurs x l ≡ false

settled_is : (x : ℕ) (t : ValueType) (a b h l : Term) → settled_hood x (Some (a, b)) ≡ Some (h, l) → HoodIs x (Apply t op.MinHoodLoc (More a (More b NoMore))) h l
settled_is x t a b h l e = by_test (occurs x b) refl e
  where
    by_test : (c : Bool) → occurs x b ≡ c → if◌then◌else◌ {A = Option (Term × Term)} c None (Some (a, b)) ≡ Some (h, l) → HoodIs x (Apply t op.MinHoodLoc (More a (More b NoMore))) h l
    by_test true k e = absurd cc
    by_test false k e =
        let f : (a, b) ≡ (h, l) = cc in
        let fa : a ≡ h = ap (λ (p : Term × Term). p.0) f in
        let fb : b ≡ l = ap (λ (p : Term × Term). p.1) f in
        record { type = t; term = rw (fa, fb) refl; local = subst (λ i. occurs x i ≡ false) fb k }

two_hood : (x : ℕ) (t : ValueType) (xs : Terms) (h l : Term) → settled_hood x (two_of xs) ≡ Some (h, l) → HoodIs x (Apply t op.MinHoodLoc xs) h l
two_hood x t NoMore h l e = absurd cc
two_hood x t (More a NoMore) h l e = absurd cc
two_hood x t (More a (More b NoMore)) h l e = settled_is x t a b h l e
two_hood x t (More a (More b (More c xs))) h l e = absurd cc

hood_is : (x : ℕ) (u h l : Term) → hood_of x u ≡ Some (h, l) → HoodIs x u h l
hood_is x (Plain t v) h l e = absurd cc
hood_is x (Apply t op.MinHoodLoc xs) h l e = two_hood x t xs h l e
hood_is x (Apply t op.Less xs) h l e = absurd cc
hood_is x (Apply t op.Mux xs) h l e = absurd cc
hood_is x (Apply t op.Add xs) h l e = absurd cc
hood_is x (Apply t op.Sub xs) h l e = absurd cc
hood_is x (Apply t op.Mul xs) h l e = absurd cc
hood_is x (Apply t op.Rise xs) h l e = absurd cc
hood_is x (Apply t op.Min xs) h l e = absurd cc
hood_is x (Apply t op.Max xs) h l e = absurd cc
hood_is x (Apply t op.Equal xs) h l e = absurd cc
hood_is x (Apply t op.And xs) h l e = absurd cc
hood_is x (Apply t op.Or xs) h l e = absurd cc
hood_is x (Apply t op.Not xs) h l e = absurd cc
hood_is x (Apply t op.Pair xs) h l e = absurd cc
hood_is x (Apply t op.Fst xs) h l e = absurd cc
hood_is x (Apply t op.Snd xs) h l e = absurd cc
hood_is x (Apply t op.MaxHoodLoc xs) h l e = absurd cc
hood_is x (Apply t op.SumHood xs) h l e = absurd cc
hood_is x (Apply t op.AnyHood xs) h l e = absurd cc
hood_is x (Apply t op.AllHood xs) h l e = absurd cc
hood_is x (Nbr t a) h l e = absurd cc
hood_is x (Evolve t f a b) h l e = absurd cc
hood_is x (If t c a b) h l e = absurd cc
hood_is x (Let t a b) h l e = absurd cc

pub record RiseIs (u a b c : Term) : Type 0 where
  pub type : ValueType
  pub term : u ≡ Apply type op.Rise (More a (More b (More c NoMore)))

three_rise : (t : ValueType) (xs : Terms) (a b c : Term) → three_of xs ≡ Some (a, b, c) → RiseIs (Apply t op.Rise xs) a b c
three_rise t NoMore a b c e = absurd cc
three_rise t (More i NoMore) a b c e = absurd cc
three_rise t (More i (More j NoMore)) a b c e = absurd cc
three_rise t (More i (More j (More k NoMore))) a b c e =
    let f : (i, j, k) ≡ (a, b, c) = cc in
    let fi : i ≡ a = ap (λ (p : Term × Term × Term). p.0) f in
    let fj : j ≡ b = ap (λ (p : Term × Term × Term). p.1) f in
    let fk : k ≡ c = ap (λ (p : Term × Term × Term). p.2) f in
    record { type = t; term = rw (fi, fj, fk) refl }
three_rise t (More i (More j (More k (More n xs)))) a b c e = absurd cc

pub rise_is : (u a b c : Term) → rise_of u ≡ Some (a, b, c) → RiseIs u a b c
rise_is (Plain t v) a b c e = absurd cc
rise_is (Apply t op.Rise xs) a b c e = three_rise t xs a b c e
rise_is (Apply t op.Less xs) a b c e = absurd cc
rise_is (Apply t op.Mux xs) a b c e = absurd cc
rise_is (Apply t op.Add xs) a b c e = absurd cc
rise_is (Apply t op.Sub xs) a b c e = absurd cc
rise_is (Apply t op.Mul xs) a b c e = absurd cc
rise_is (Apply t op.Min xs) a b c e = absurd cc
rise_is (Apply t op.Max xs) a b c e = absurd cc
rise_is (Apply t op.Equal xs) a b c e = absurd cc
rise_is (Apply t op.And xs) a b c e = absurd cc
rise_is (Apply t op.Or xs) a b c e = absurd cc
rise_is (Apply t op.Not xs) a b c e = absurd cc
rise_is (Apply t op.Pair xs) a b c e = absurd cc
rise_is (Apply t op.Fst xs) a b c e = absurd cc
rise_is (Apply t op.Snd xs) a b c e = absurd cc
rise_is (Apply t op.MinHoodLoc xs) a b c e = absurd cc
rise_is (Apply t op.MaxHoodLoc xs) a b c e = absurd cc
rise_is (Apply t op.SumHood xs) a b c e = absurd cc
rise_is (Apply t op.AnyHood xs) a b c e = absurd cc
rise_is (Apply t op.AllHood xs) a b c e = absurd cc
rise_is (Nbr t i) a b c e = absurd cc
rise_is (Evolve t f i j) a b c e = absurd cc
rise_is (If t i j k) a b c e = absurd cc
rise_is (Let t i j) a b c e = absurd cc

-- ---- results

module _ {A E : Type 0} where
  pub ok_is : (a b : A) → ◌≡◌ {A = Result A E} (Ok a) (Ok b) → a ≡ b
  ok_is a b e = cc

  pub no_err : {B : Type 0} (f : E) (b : A) → ◌≡◌ {A = Result A E} (Err f) (Ok b) → B
  no_err f b e = absurd cc

-- a growth that raises
raising_is : (g : GrowthValue) (c : ℕ) → raising g ≡ Ok c → (g ≡ Grows c) × (1 ≤ c)
raising_is (Lacks q) c e = absurd cc
raising_is (Grows n) c e = by_test (nat_eq n 0) refl e
  where
    by_test : (b : Bool) → nat_eq n 0 ≡ b → ◌≡◌ {A = Result ℕ Reason} (if b then Err reason.GrowthZero else Ok n) (Ok c) → (Grows n ≡ Grows c) × (1 ≤ c)
    by_test true k e = absurd cc
    by_test false k e = let f = ok_is n c e in (ap Grows f, grind (arith, nat_tests, k, f))

record Minimises (m : ℕ) (l : RangeValue) (g : GrowthValue) (a : Pattern) : Type 0 where
  growth : ℕ
  grows : g ≡ Grows growth
  some : 1 ≤ growth
  lead : is_pair_range l ≡ true → greatest_integer l ≡ m → ⊥
  pattern_is : a ≡ pattern.Minimising (greatest_integer l) growth

minimises_is : (m : ℕ) (l : RangeValue) (g : GrowthValue) (a : Pattern) → minimising m g l ≡ Ok a → Minimises m l g a
minimises_is m l g a e = by_raising (raising g) refl e
  where
    by_lead : (c : ℕ) (b : Bool) → (is_pair_range l && nat_eq (greatest_integer l) m) ≡ b → ◌≡◌ {A = Result Pattern Reason} (if b then Err reason.LeadAtCeiling else Ok (pattern.Minimising (greatest_integer l) c)) (Ok a)
        → (g ≡ Grows c) × (1 ≤ c) → Minimises m l g a
    by_lead c true k e r = no_err reason.LeadAtCeiling a e
    by_lead c false k e r = record {
      growth = c;
      grows = r.0;
      some = r.1;
      lead = λ i j. let n : nat_eq (greatest_integer l) m ≡ true = grind (arith, nat_tests, j) in let q : (is_pair_range l && nat_eq (greatest_integer l) m) ≡ true = rw (i, n) refl in let w : true ≡ false = sym q ∙ k in absurd cc;
      pattern_is = sym (ok_is (pattern.Minimising (greatest_integer l) c) a e);
    }

    by_raising : (r : Result ℕ Reason) → raising g ≡ r → minimising_by m l r ≡ Ok a → Minimises m l g a
    by_raising (Err f) k e = no_err f a e
    by_raising (Ok c) k e = by_lead c (is_pair_range l && nat_eq (greatest_integer l) m) refl e (raising_is g c k)

record Rises (l s : RangeValue) (g : GrowthValue) (a : Pattern) : Type 0 where
  growth : ℕ
  grows : g ≡ Grows growth
  some : 1 ≤ growth
  rise : 1 ≤ least_integer s
  pattern_is : a ≡ pattern.Rising (greatest_integer l) growth (least_integer s)

rises_is : (l s : RangeValue) (g : GrowthValue) (a : Pattern) → rising g l s ≡ Ok a → Rises l s g a
rises_is l s g a e = by_raising (raising g) refl e
  where
    by_zero : (c : ℕ) (b : Bool) → nat_eq (least_integer s) 0 ≡ b → ◌≡◌ {A = Result Pattern Reason} (if b then Err reason.RiseZero else Ok (pattern.Rising (greatest_integer l) c (least_integer s))) (Ok a)
        → (g ≡ Grows c) × (1 ≤ c) → Rises l s g a
    by_zero c true k e r = no_err reason.RiseZero a e
    by_zero c false k e r = record {
      growth = c;
      grows = r.0;
      some = r.1;
      rise = grind (arith, nat_tests, k);
      pattern_is = sym (ok_is (pattern.Rising (greatest_integer l) c (least_integer s)) a e);
    }

    by_raising : (r : Result ℕ Reason) → raising g ≡ r → rising_by l s r ≡ Ok a → Rises l s g a
    by_raising (Err f) k e = no_err f a e
    by_raising (Ok c) k e = by_zero c (nat_eq (least_integer s) 0) refl e (raising_is g c k)

no_rise : (e : Evolution) (x : ℕ) (b : Bool) → bare_beside e x None b ≡ b
no_rise ByRep x b = refl
no_rise ByShare x b = refl

-- ---- a body

module _ (D : Declarations) (scope : Scope) (m : ℕ) (R : ℕ → RangeValue) (e : Evolution) (x p : ℕ) (s : LocalType) where
  -- minHoodLoc(h, l)
  hood_shape : (u h l : Term) (a : Pattern) → HoodIs x u h l → HasType D ((x, evolving_type e s) ∷ scope) p u → occurs x u ≡ true → is_nested e x u ≡ false → is_unguarded e x u ≡ false
      → minimising m (growth_of m R e x (suc p) h) (R (suc p + size h)) ≡ Ok a → HasPattern m R e x p s u a
  hood_shape u h l a i ty o n b k =
      let g = minimises_is m (R (suc p + size h)) (growth_of m R e x (suc p) h) a k in
      let U = Apply i.type op.MinHoodLoc (More h (More l NoMore)) in
      let ty' : HasType D ((x, evolving_type e s) ∷ scope) p U = subst (HasType D ((x, evolving_type e s) ∷ scope) p) i.term ty in
      let n' : is_nested e x U ≡ false = subst (λ t. is_nested e x t ≡ false) i.term n in
      let b' : is_unguarded e x U ≡ false = subst (λ t. is_unguarded e x t ≡ false) i.term b in
      let sh = shallow D scope e x p s U ty' n' (sym (no_rise e x (is_bare e x U)) ∙ b') in
      subst (λ t. HasPattern m R e x p s t a) (sym i.term) (subst (HasPattern m R e x p s U) (sym g.pattern_is) (minimises i.type h l g.growth (subst (λ t. occurs x t ≡ true) i.term o) i.local sh g.grows g.some g.lead))

  by_other : (u : Term) (a : Pattern) (g : Guarding) → by_form m R e x p g IsOther ≡ Ok a → HasPattern m R e x p s u a
  by_other u a g k = no_err (no_pattern g) a k

-- rise(minHoodLoc(h, l), x, w)
rise_shape : (D : Declarations) (scope : Scope) (m : ℕ) (R : ℕ → RangeValue) (x p : ℕ) (s : LocalType) (u a own w h l : Term) (c : Pattern) (i : RiseIs u a own w) (j : HoodIs x a h l) → HasType D ((x, evolving_type ByRep s) ∷ scope) p u
    → is_own x own ≡ true → occurs x w ≡ false → is_nested ByRep x u ≡ false → (is_bare ByRep x a || is_bare ByRep x w) ≡ false
    → rising (growth_of m R ByRep x (suc (suc p)) h) (R (suc (suc p) + size h)) (R (suc (suc (suc p + size h + size l)))) ≡ Ok c → HasPattern m R ByRep x p s u c
rise_shape D scope m R x p s u a own w h l c i j ty o wf n b k =
    let g = rises_is (R (suc (suc p) + size h)) (R (suc (suc (suc p + size h + size l)))) (growth_of m R ByRep x (suc (suc p)) h) c k in
    let A = Apply j.type op.MinHoodLoc (More h (More l NoMore)) in
    let whole : u ≡ Apply i.type op.Rise (More A (More own (More w NoMore))) = i.term ∙ ap (λ t. Apply i.type op.Rise (More t (More own (More w NoMore)))) j.term in
    let ty' : HasType D ((x, evolving_type ByRep s) ∷ scope) p (Apply i.type op.Rise (More A (More own (More w NoMore)))) = subst (HasType D ((x, evolving_type ByRep s) ∷ scope) p) whole ty in
    let n' : is_nested ByRep x (Apply i.type op.Rise (More A (More own (More w NoMore)))) ≡ false = subst (λ t. is_nested ByRep x t ≡ false) whole n in
    let nr = or_right (is_nested ByRep x A) (is_nested_in ByRep x (More own (More w NoMore))) n' in
    let nw = or_left (is_nested ByRep x w) false (or_right (is_nested ByRep x own) (is_nested_in ByRep x (More w NoMore)) nr) in
    let ba : is_bare ByRep x A ≡ false = subst (λ t. is_bare ByRep x t ≡ false) j.term (or_left (is_bare ByRep x a) (is_bare ByRep x w) b) in
    let sa = shallow D scope ByRep x (suc p) s A ty'.1.0 (or_left (is_nested ByRep x A) (is_nested_in ByRep x (More own (More w NoMore))) n') ba in
    let sw = shallow D scope ByRep x _ s w ty'.1.1.1.0 nw (or_right (is_bare ByRep x a) (is_bare ByRep x w) b) in
    subst (λ t. HasPattern m R ByRep x p s t c) (sym whole)
    (subst (HasPattern m R ByRep x p s (Apply i.type op.Rise (More A (More own (More w NoMore))))) (sym g.pattern_is) (rises i.type j.type h l own w g.growth refl ty'.0 o j.local wf sa sw g.grows g.some g.rise))

-- a `rep` body that is no settled `minHoodLoc`
risen_shape : (D : Declarations) (scope : Scope) (m : ℕ) (R : ℕ → RangeValue) (x p : ℕ) (s : LocalType) (u : Term) (a : Pattern) (g : Guarding) → HasType D ((x, evolving_type ByRep s) ∷ scope) p u
    → is_nested ByRep x u ≡ false → is_unguarded ByRep x u ≡ false → (o : Option (Term × Term × Term)) → rise_of u ≡ o → by_form m R ByRep x p g (risen_form ByRep x o) ≡ Ok a → HasPattern m R ByRep x p s u a
risen_shape D scope m R x p s u a g ty n b None q k = no_err (no_pattern g) a k
risen_shape D scope m R x p s u a g ty n b (Some (i, own, w)) q k = by_own (is_own x own && not (occurs x w)) refl k
  where
    guarded_there : bare_beside ByRep x (Some (i, own, w)) (is_bare ByRep x u) ≡ false
    guarded_there = subst (λ r. bare_beside ByRep x r (is_bare ByRep x u) ≡ false) q b

    by_hood : (h : Option (Term × Term)) → hood_of x i ≡ h → (is_own x own && not (occurs x w)) ≡ true → by_form m R ByRep x p g (risen_hood h w) ≡ Ok a → HasPattern m R ByRep x p s u a
    by_hood None r z k = no_err (no_pattern g) a k
    by_hood (Some (h, l)) r z k =
        let o = and_left (is_own x own) (not (occurs x w)) z in
        let bare : (is_bare ByRep x i || is_bare ByRep x w) ≡ false = subst (λ c. (if c then is_bare ByRep x i || is_bare ByRep x w else is_bare ByRep x u) ≡ false) o guarded_there in
        rise_shape D scope m R x p s u i own w h l a (rise_is u i own w q) (hood_is x i h l r) ty o (not_true (occurs x w) (and_right (is_own x own) (not (occurs x w)) z)) n bare k

    by_own : (c : Bool) → (is_own x own && not (occurs x w)) ≡ c → by_form m R ByRep x p g (if c then risen_hood (hood_of x i) w else IsOther) ≡ Ok a → HasPattern m R ByRep x p s u a
    by_own false z k = no_err (no_pattern g) a k
    by_own true z k = by_hood (hood_of x i) refl z k

other_shape : (D : Declarations) (scope : Scope) (m : ℕ) (R : ℕ → RangeValue) (e : Evolution) (x p : ℕ) (s : LocalType) (u : Term) (a : Pattern) (g : Guarding) → HasType D ((x, evolving_type e s) ∷ scope) p u
    → is_nested e x u ≡ false → is_unguarded e x u ≡ false → by_form m R e x p g (risen_form e x (rise_of u)) ≡ Ok a → HasPattern m R e x p s u a
other_shape D scope m R ByRep x p s u a g ty n b k = risen_shape D scope m R x p s u a g ty n b (rise_of u) refl k
other_shape D scope m R ByShare x p s u a g ty n b k = no_err (no_pattern g) a k

module _ (D : Declarations) (scope : Scope) (m : ℕ) (R : ℕ → RangeValue) (e : Evolution) (x p : ℕ) (s : LocalType) (u : Term) (a : Pattern) (ty : HasType D ((x, evolving_type e s) ∷ scope) p u) where
  form_shape : (g : Guarding) → occurs x u ≡ true → is_nested e x u ≡ false → is_unguarded e x u ≡ false → by_form m R e x p g (evolution_form e x u) ≡ Ok a → HasPattern m R e x p s u a
  form_shape g o n b k = by_hood (hood_of x u) refl k
    where
      by_hood : (h : Option (Term × Term)) → hood_of x u ≡ h → by_form m R e x p g (form_by h (risen_form e x (rise_of u))) ≡ Ok a → HasPattern m R e x p s u a
      by_hood None r k = other_shape D scope m R e x p s u a g ty n b k
      by_hood (Some (h, l)) r k = hood_shape D scope m R e x p s u h l a (hood_is x u h l r) ty o n b k

  guarded_shape : (g : Guarding) → guarding_of e x u ≡ g → occurs x u ≡ true → is_nested e x u ≡ false → is_unguarded e x u ≡ false → by_guarding g (by_form m R e x p g (evolution_form e x u)) ≡ Ok a → HasPattern m R e x p s u a
  guarded_shape guarding.Unused z o n b k = form_shape guarding.Unused o n b k
  guarded_shape guarding.Others z o n b k = form_shape guarding.Others o n b k
  guarded_shape guarding.Missing z o n b k = form_shape guarding.Missing o n b k
  guarded_shape (guarding.Potential q) z o n b k =
      let w : Within q (guarding_of e x u) = subst (Within q) (sym z) refl in
      subst (HasPattern m R e x p s u) (ok_is (pattern.Acyclic q) a k) (acyclic u q o (shallow D scope e x p s u ty n (guarded_bare e x q u w)) (guarded D ((x, evolving_type e s) ∷ scope) e x p q u ty n w))

  -- a body whose pattern is found has it
  pub body_shape : body_pattern m R e x p u ≡ Ok a → HasPattern m R e x p s u a
  body_shape k = by_use (occurs x u) refl k
    where
      rest : Result Pattern Reason
      rest = by_guarding (guarding_of e x u) (by_form m R e x p (guarding_of e x u) (evolution_form e x u))

      by_bare : (c : Bool) → is_unguarded e x u ≡ c → occurs x u ≡ true → is_nested e x u ≡ false → (if c then Err reason.Unguarded else rest) ≡ Ok a → HasPattern m R e x p s u a
      by_bare true z o n k = no_err reason.Unguarded a k
      by_bare false z o n k = guarded_shape (guarding_of e x u) refl o n z k

      by_nested : (c : Bool) → is_nested e x u ≡ c → occurs x u ≡ true → (if c then Err reason.Nested else (if is_unguarded e x u then Err reason.Unguarded else rest)) ≡ Ok a → HasPattern m R e x p s u a
      by_nested true z o k = no_err reason.Nested a k
      by_nested false z o k = by_bare (is_unguarded e x u) refl o z k

      by_use : (c : Bool) → occurs x u ≡ c → (if not c then Ok pattern.Constant else (if is_nested e x u then Err reason.Nested else (if is_unguarded e x u then Err reason.Unguarded else rest))) ≡ Ok a → HasPattern m R e x p s u a
      by_use false z k = subst (HasPattern m R e x p s u) (ok_is pattern.Constant a k) (constant u z)
      by_use true z k = by_nested (is_nested e x u) refl z k
