-- A term of the walk form alone has a yes: no pattern asks for ranges but those of the term's own nodes, and these stay.
use Rattle.std.proofs.Common.{◌≡◌, ℕ, suc, ◌<◌, ◌≤◌, ◌+◌, ◌-◌, List, [], ◌∷◌, ◌++◌, length, refl, sym, ◌∙◌, ap, ap₂, subst, arith, Bool, true, false, not, ◌&&◌, Option, Some, None, inl, inr}
use Rattle.std.specs.Prelude.{if◌then◌else◌}
use Rattle.std.specs.declared.result.Result.{Result}
use Rattle.std.specs.declared.result.Result.TheVariants.{Ok, Err}
use Rattle.fc_values.specs.declared.builtins.Builtin.TheVariants as op
use Rattle.fc_values.specs.Types.{IntType, TypeLocal}
use Rattle.fc_nodes.specs.declared.verdicts.Reason.{Reason}
use Rattle.fc_nodes.specs.declared.verdicts.Verdict.TheVariants as verdict
use Rattle.fc_nodes.specs.Terms.{Evolution, ByRep, ByShare, Term, Terms, Plain, Apply, Nbr, Evolve, If, Let, NoMore, More, size, sizes}
use Rattle.fc_nodes.specs.Variables.{occurs, is_own}
use Rattle.fc_nodes.specs.Program.{Program, Unfolding, unfolding_of}
use Rattle.fc_nodes.proofs.Standing.{below_or}
use Rattle.interval_facts.specs.Ranges.{RangeValue, Bounds, full, range_of, ranges_of, node_ranges}
use Rattle.interval_facts.proofs.Tables.{Shows, shows_second, shows_itself, as_many}
use Rattle.growth_facts.specs.Growth.{GrowthValue, NodeFacts, Lacks, growth_of, facts_in, node_growth, op_growth, facts_with}
use Rattle.fc_nodes.specs.declared.verdicts.Reason.TheVariants as reason
use Rattle.fragment_check.specs.declared.kinds.Pattern.{Pattern}
use Rattle.fragment_check.specs.declared.kinds.Pattern.TheVariants as pattern
use Rattle.fragment_check.specs.declared.facts.Guarding.{Guarding}
use Rattle.fragment_check.specs.Patterns.{two_of, three_of, settled_hood, hood_of, rise_of, risen_hood, risen_form, Form, IsHood, IsRise, IsOther, form_by, evolution_form, by_form, by_guarding, guarding_of, minimising, rising, body_pattern, pattern_of, JudgedPlace, judged, all_judged, first_refused, refusal_first, is_nested, is_unguarded}
use Rattle.fragment_check.specs.Verdicts.{verdict_of, verdict_by, judged_of, main_level}
use Rattle.walk_form.specs.Alone.{filler, alone_term}
use Rattle.walk_form.proofs.Laying.{filled}
use Rattle.walk_form.proofs.Under.{Under, judged_under, shows_under}

-- ---- the parts of a form stand within the body

abbrev HoodIn : ℕ → Option (Term × Term) → Type 0
HoodIn n None = Unit {0}
HoodIn n (Some (h, l)) = n ≡ suc (size h + size l)

hood_two : (x : ℕ) (xs : Terms) → HoodIn (suc (sizes xs)) (settled_hood x (two_of xs))
hood_two x NoMore = tt
hood_two x (More a NoMore) = tt
hood_two x (More a (More b (More c xs))) = tt
hood_two x (More h (More l NoMore)) = by_test (occurs x l)
  where
    by_test : (c : Bool) → HoodIn (suc (size h + (size l + 0))) (if c then None else Some (h, l))
    by_test true = tt
    by_test false = omega arith

hood_in : (x : ℕ) (u : Term) → HoodIn (size u) (hood_of x u)
hood_in x (Plain t l) = tt
hood_in x (Nbr t a) = tt
hood_in x (Evolve t v a b) = tt
hood_in x (If t c a b) = tt
hood_in x (Let t a b) = tt
hood_in x (Apply t op.MinHoodLoc xs) = hood_two x xs
hood_in x (Apply t op.Add xs) = tt
hood_in x (Apply t op.Sub xs) = tt
hood_in x (Apply t op.Mul xs) = tt
hood_in x (Apply t op.Rise xs) = tt
hood_in x (Apply t op.Min xs) = tt
hood_in x (Apply t op.Max xs) = tt
hood_in x (Apply t op.Less xs) = tt
hood_in x (Apply t op.Equal xs) = tt
hood_in x (Apply t op.And xs) = tt
hood_in x (Apply t op.Or xs) = tt
hood_in x (Apply t op.Not xs) = tt
hood_in x (Apply t op.Mux xs) = tt
hood_in x (Apply t op.Pair xs) = tt
hood_in x (Apply t op.Fst xs) = tt
hood_in x (Apply t op.Snd xs) = tt
hood_in x (Apply t op.MaxHoodLoc xs) = tt
hood_in x (Apply t op.SumHood xs) = tt
hood_in x (Apply t op.AnyHood xs) = tt
hood_in x (Apply t op.AllHood xs) = tt

abbrev RiseIn : ℕ → Option (Term × Term × Term) → Type 0
RiseIn n None = Unit {0}
RiseIn n (Some (a, b, c)) = (n ≡ suc (size a + size b + size c)) × (1 ≤ size b)

some_size : (t : Term) → 1 ≤ size t
some_size (Plain t l) = omega arith
some_size (Apply t o xs) = omega arith
some_size (Nbr t a) = omega arith
some_size (Evolve t e a b) = omega arith
some_size (If t c a b) = omega arith
some_size (Let t a b) = omega arith

rise_three : (xs : Terms) → RiseIn (suc (sizes xs)) (three_of xs)
rise_three NoMore = tt
rise_three (More a NoMore) = tt
rise_three (More a (More b NoMore)) = tt
rise_three (More a (More b (More c (More d xs)))) = tt
rise_three (More a (More b (More c NoMore))) = (omega arith, some_size b)

rise_in : (u : Term) → RiseIn (size u) (rise_of u)
rise_in (Plain t l) = tt
rise_in (Nbr t a) = tt
rise_in (Evolve t v a b) = tt
rise_in (If t c a b) = tt
rise_in (Let t a b) = tt
rise_in (Apply t op.Rise xs) = rise_three xs
rise_in (Apply t op.Add xs) = tt
rise_in (Apply t op.Sub xs) = tt
rise_in (Apply t op.Mul xs) = tt
rise_in (Apply t op.Min xs) = tt
rise_in (Apply t op.Max xs) = tt
rise_in (Apply t op.Less xs) = tt
rise_in (Apply t op.Equal xs) = tt
rise_in (Apply t op.And xs) = tt
rise_in (Apply t op.Or xs) = tt
rise_in (Apply t op.Not xs) = tt
rise_in (Apply t op.Mux xs) = tt
rise_in (Apply t op.Pair xs) = tt
rise_in (Apply t op.Fst xs) = tt
rise_in (Apply t op.Snd xs) = tt
rise_in (Apply t op.MinHoodLoc xs) = tt
rise_in (Apply t op.MaxHoodLoc xs) = tt
rise_in (Apply t op.SumHood xs) = tt
rise_in (Apply t op.AnyHood xs) = tt
rise_in (Apply t op.AllHood xs) = tt

is_own_size : (x : ℕ) (b : Term) → is_own x b ≡ true → size b ≡ 1
is_own_size x (Plain t l) e = refl
is_own_size x (Apply t o xs) e = absurd cc
is_own_size x (Nbr t a) e = absurd cc
is_own_size x (Evolve t v a b) e = absurd cc
is_own_size x (If t c a b) e = absurd cc
is_own_size x (Let t a b) e = absurd cc

abbrev FormIn : ℕ → Form → Type 0
FormIn n (IsHood h l) = n ≡ suc (size h + size l)
FormIn n (IsRise h l s) = n ≡ suc (suc (suc (size h + size l + size s)))
FormIn n IsOther = Unit {0}

form_in : (e : Evolution) (x : ℕ) (u : Term) → FormIn (size u) (evolution_form e x u)
form_in e x u = by_hood (hood_of x u) (hood_in x u)
  where
    by_first : (n k : ℕ) (s : Term) (o : Option (Term × Term)) → HoodIn k o → n ≡ suc (k + 1 + size s) → FormIn n (risen_hood o s)
    by_first n k s None i f = tt
    by_first n k s (Some (h, l)) i f = omega (arith, i, f)

    by_own : (a b s : Term) (c d : Bool) → is_own x b ≡ c → RiseIn (size u) (Some (a, b, s)) → FormIn (size u) (if c && d then risen_hood (hood_of x a) s else IsOther)
    by_own a b s false d k r = tt
    by_own a b s true false k r = tt
    by_own a b s true true k r =
        let z = is_own_size x b k in
        let r0 = r.0 in
        by_first (size u) (size a) s (hood_of x a) (hood_in x a) (omega (arith, z, r0))

    by_rise : (v : Evolution) (o : Option (Term × Term × Term)) → RiseIn (size u) o → FormIn (size u) (risen_form v x o)
    by_rise ByRep None r = tt
    by_rise ByRep (Some (a, b, s)) r = by_own a b s (is_own x b) (not (occurs x s)) refl r
    by_rise ByShare o r = tt

    by_hood : (o : Option (Term × Term)) → HoodIn (size u) o → FormIn (size u) (form_by o (risen_form e x (rise_of u)))
    by_hood None i = by_rise e (rise_of u) (rise_in u)
    by_hood (Some (h, l)) i = i

-- ---- ranges that agree on a term

module _ (m : ℕ) (R S : ℕ → RangeValue) where
  abbrev pub SameOn : ℕ → ℕ → Type 0
  SameOn p n = (q : ℕ) → p ≤ q → q < p + n → R q ≡ S q

  narrow : (p n q k : ℕ) → p ≤ q → q + k ≤ p + n → SameOn p n → SameOn q k
  narrow p n q k a b h r c d = h r (omega (arith, a, c)) (omega (arith, b, d))

  pub shows_same : (l : List RangeValue) (p : ℕ) → Shows R p l → Shows S p l → SameOn p (length l)
  shows_same [] p h k q a b = absurd (omega (arith, a, b))
  shows_same (r ∷ l) p h k q a b = elim (below_or p q) [
    | inl g ↦ shows_same l (suc p) h.1 k.1 q (omega (arith, g)) (omega (arith, b))
    | inr g ↦ let e : p ≡ q = omega (arith, a, g) in subst (λ n. R n ≡ S n) e (h.0 ∙ sym k.0)
  ]

  module _ (e : Evolution) (x : ℕ) where
    node_same : (p : ℕ) (t : Term) (g h : GrowthValue) → R p ≡ S p → g ≡ h → node_growth m R e x p t g ≡ node_growth m S e x p t h
    node_same p t g h k f = rw (k, f) refl

    with_same : (p : ℕ) (t : Term) (g h : GrowthValue) → R p ≡ S p → g ≡ h → facts_with R e x p t g ≡ facts_with S e x p t h
    with_same p t g h k f = rw (k, f) refl

    mutual
      growth_same : (t : Term) (p : ℕ) → SameOn p (size t) → growth_of m R e x p t ≡ growth_of m S e x p t
      growth_same (Plain t l) p h = node_same p (Plain t l) (Lacks p) (Lacks p) (h p (omega arith) (omega arith)) refl
      growth_same (Apply t o xs) p h =
          node_same p (Apply t o xs) _ _ (h p (omega arith) (omega arith))
          (ap (op_growth m p o) (facts_same xs (suc p) (narrow p (suc (sizes xs)) (suc p) (sizes xs) (omega arith) (omega arith) h)))
      growth_same (Nbr t a) p h = node_same p (Nbr t a) (Lacks p) (Lacks p) (h p (omega arith) (omega arith)) refl
      growth_same (Evolve t v a b) p h = node_same p (Evolve t v a b) (Lacks p) (Lacks p) (h p (omega arith) (omega arith)) refl
      growth_same (If t c a b) p h = node_same p (If t c a b) (Lacks p) (Lacks p) (h p (omega arith) (omega arith)) refl
      growth_same (Let t a b) p h = node_same p (Let t a b) (Lacks p) (Lacks p) (h p (omega arith) (omega arith)) refl

      facts_same : (xs : Terms) (p : ℕ) → SameOn p (sizes xs) → facts_in m R e x p xs ≡ facts_in m S e x p xs
      facts_same NoMore p h = refl
      facts_same (More t ts) p h =
          let z = some_size t in
          ap₂ {A = NodeFacts} {B = List NodeFacts} (λ f fs. f ∷ fs)
          (with_same p t _ _ (h p (omega arith) (omega (arith, z))) (growth_same t p (narrow p (size t + sizes ts) p (size t) (omega arith) (omega arith) h)))
          (facts_same ts (p + size t) (narrow p (size t + sizes ts) (p + size t) (sizes ts) (omega arith) (omega arith) h))

    form_same : (p : ℕ) (g : Guarding) (n : ℕ) (f : Form) → FormIn n f → SameOn p n → by_form m R e x p g f ≡ by_form m S e x p g f
    form_same p g n (IsHood h l) i k =
        let z = some_size l in
        ap₂ (minimising m) (growth_same h (suc p) (narrow p n (suc p) (size h) (omega arith) (omega (arith, i)) k)) (k (suc p + size h) (omega arith) (omega (arith, i, z)))
    form_same p g n (IsRise h l s) i k =
        let z = some_size l in
        let y = some_size s in
        let a = growth_same h (suc (suc p)) (narrow p n (suc (suc p)) (size h) (omega arith) (omega (arith, i)) k) in
        let b = k (suc (suc p) + size h) (omega arith) (omega (arith, i, z)) in
        let c = k (suc (suc (suc p + size h + size l))) (omega arith) (omega (arith, i, y)) in
        ap (λ v. rising v (R (suc (suc p) + size h)) (R (suc (suc (suc p + size h + size l))))) a
        ∙ ap₂ (λ v w. rising (growth_of m S e x (suc (suc p)) h) v w) b c
    form_same p g n IsOther i k = refl

    body_same : (p : ℕ) (u : Term) → SameOn p (size u) → body_pattern m R e x p u ≡ body_pattern m S e x p u
    body_same p u h =
        ap (λ r. choose (occurs x u) (is_nested e x u) (is_unguarded e x u) (by_guarding (guarding_of e x u) r))
        (form_same p (guarding_of e x u) (size u) (evolution_form e x u) (form_in e x u) h)
      where
        choose : Bool → Bool → Bool → Result Pattern Reason → Result Pattern Reason
        choose o n g r = if not o then Ok pattern.Constant else (if n then Err reason.Nested else (if g then Err reason.Unguarded else r))

  mutual
    pub judged_same : (t : Term) (p : ℕ) → SameOn p (size t) → judged m R p t ≡ judged m S p t
    judged_same (Plain t l) p h = refl
    judged_same (Apply t o xs) p h = all_same xs (suc p) (narrow p (suc (sizes xs)) (suc p) (sizes xs) (omega arith) (omega arith) h)
    judged_same (Nbr t a) p h = judged_same a (suc p) (narrow p (suc (size a)) (suc p) (size a) (omega arith) (omega arith) h)
    judged_same (Evolve t e a b) p h =
        ap₂ {A = JudgedPlace} {B = List JudgedPlace} (λ j js. j ∷ js)
        (ap (λ r. (p, r)) (body_same e p (suc p + size a) b (narrow p (suc (size a + size b)) (suc p + size a) (size b) (omega arith) (omega arith) h)))
        (judged_same b (suc p + size a) (narrow p (suc (size a + size b)) (suc p + size a) (size b) (omega arith) (omega arith) h))
    judged_same (If t c a b) p h =
        ap₂ {A = List JudgedPlace} {B = List JudgedPlace} (λ x y. x ++ y)
        (judged_same c (suc p) (narrow p (suc (size c + size a + size b)) (suc p) (size c) (omega arith) (omega arith) h))
        (ap₂ {A = List JudgedPlace} {B = List JudgedPlace} (λ x y. x ++ y)
        (judged_same a (suc p + size c) (narrow p (suc (size c + size a + size b)) (suc p + size c) (size a) (omega arith) (omega arith) h))
        (judged_same b (suc p + size c + size a) (narrow p (suc (size c + size a + size b)) (suc p + size c + size a) (size b) (omega arith) (omega arith) h)))
    judged_same (Let t a b) p h =
        ap₂ {A = List JudgedPlace} {B = List JudgedPlace} (λ x y. x ++ y)
        (judged_same a (suc p) (narrow p (suc (size a + size b)) (suc p) (size a) (omega arith) (omega arith) h))
        (judged_same b (suc p + size a) (narrow p (suc (size a + size b)) (suc p + size a) (size b) (omega arith) (omega arith) h))

    all_same : (xs : Terms) (p : ℕ) → SameOn p (sizes xs) → all_judged m R p xs ≡ all_judged m S p xs
    all_same NoMore p h = refl
    all_same (More t ts) p h =
        ap₂ {A = List JudgedPlace} {B = List JudgedPlace} (λ x y. x ++ y)
        (judged_same t p (narrow p (size t + sizes ts) p (size t) (omega arith) (omega arith) h))
        (all_same ts (p + size t) (narrow p (size t + sizes ts) (p + size t) (sizes ts) (omega arith) (omega arith) h))

-- ---- the ranges of a body

abbrev bounds : Unfolding → Bounds
bounds U = (0, full U.declared.ceiling IntType) ∷ []

pub body_shows : (U : Unfolding) (a b : Term) → U.main ≡ Evolve (TypeLocal IntType) ByRep a b
    → Shows (range_of U) (suc 0 + size a) (node_ranges U.declared (bounds U) (suc 0 + size a) b)
body_shows U a b e =
    let all : Shows (range_of U) 0 (node_ranges U.declared [] 0 U.main) = shows_itself (ranges_of U) in
    let whole : Shows (range_of U) 0 (node_ranges U.declared [] 0 (Evolve (TypeLocal IntType) ByRep a b)) = subst (λ t. Shows (range_of U) 0 (node_ranges U.declared [] 0 t)) e all in
    shows_second (range_of U) (suc 0) (size a) (node_ranges U.declared [] (suc 0) a) (node_ranges U.declared (bounds U) (suc 0 + size a) b) (as_many U.declared a [] (suc 0)) whole.1

-- ---- the verdict

body_judged : (m : ℕ) (R : ℕ → RangeValue) (a b : Term) → first_refused (judged m R 0 (Evolve (TypeLocal IntType) ByRep a b)) ≡ None → first_refused (judged m R (suc 0 + size a) b) ≡ None
body_judged m R a b e = by_result (pattern_of m R 0 (Evolve (TypeLocal IntType) ByRep a b)) e
  where
    by_result : (r : Result Pattern Reason) → refusal_first 0 r (first_refused (judged m R (suc 0 + size a) b)) ≡ None → first_refused (judged m R (suc 0 + size a) b) ≡ None
    by_result (Ok p) e = e
    by_result (Err r) e = absurd cc

constant_judged : (m : ℕ) (R : ℕ → RangeValue) (a b : Term) → occurs 0 b ≡ false → first_refused (judged m R (suc 0 + size a) b) ≡ None → first_refused (judged m R 0 (Evolve (TypeLocal IntType) ByRep a b)) ≡ None
constant_judged m R a b o e = rw o e

none_yes : (U : Unfolding) (n : ℕ) → first_refused (judged_of U) ≡ None → verdict_of U n ≡ verdict.Yes (main_level U n)
none_yes U n e = ap (λ o. verdict_by o (main_level U n)) e

yes_none : (o : Option (ℕ × Reason)) (n k : ℕ) → verdict_by o n ≡ verdict.Yes k → o ≡ None
yes_none None n k e = refl
yes_none (Some r) n k e = absurd cc

module _ (P Q : Program) (declared : Q.declared ≡ P.declared) (a b : Term) (main : (unfolding_of P).main ≡ Evolve (TypeLocal IntType) ByRep a b)
    (q : ℕ) (t : Term) (stands : Under (suc 0 + size a) b q t) (low : 4 ≤ q) (free : occurs 0 t ≡ false)
    (other : (unfolding_of Q).main ≡ alone_term q t) where
  abbrev U : Unfolding
  U = unfolding_of P

  abbrev W : Unfolding
  W = unfolding_of Q

  abbrev M : ℕ
  M = P.declared.ceiling

  here_shows : Shows (range_of U) q (node_ranges P.declared (bounds U) q t)
  here_shows = shows_under P.declared (bounds U) (range_of U) (suc 0 + size a) b q t stands (body_shows U a b main)

  there_shows : Shows (range_of W) q (node_ranges P.declared (bounds U) q t)
  there_shows =
      subst (λ D. Shows (range_of W) q (node_ranges D ((0, full D.ceiling IntType) ∷ []) q t)) declared
      (subst (λ n. Shows (range_of W) n (node_ranges Q.declared (bounds W) n t)) (filled q low) (body_shows W (filler (q - 4)) t other))

  pub ranges_same : SameOn M (range_of U) (range_of W) q (size t)
  ranges_same =
      subst (λ n. SameOn M (range_of U) (range_of W) q n) (as_many P.declared t (bounds U) q)
      (shows_same M (range_of U) (range_of W) (node_ranges P.declared (bounds U) q t) q here_shows there_shows)

  pub alone_yes : (n k l : ℕ) → verdict_of U n ≡ verdict.Yes k → verdict_of W l ≡ verdict.Yes (main_level W l)
  alone_yes n k l agreed =
      let all = yes_none (first_refused (judged_of U)) (main_level U n) k agreed in
      let whole = subst (λ u. first_refused (judged M (range_of U) 0 u) ≡ None) main all in
      let here = judged_under M (range_of U) (suc 0 + size a) b q t stands (body_judged M (range_of U) a b whole) in
      let there = subst (λ js. first_refused js ≡ None) (judged_same M (range_of U) (range_of W) t q ranges_same) here in
      let behind = subst (λ n. first_refused (judged M (range_of W) n t) ≡ None) (sym (filled q low)) there in
      let root = constant_judged M (range_of W) (filler (q - 4)) t free behind in
      none_yes W l
      (subst (λ u. first_refused (judged Q.declared.ceiling (range_of W) 0 u) ≡ None) (sym other)
      (subst (λ D. first_refused (judged D.ceiling (range_of W) 0 (alone_term q t)) ≡ None) (sym declared) root))
