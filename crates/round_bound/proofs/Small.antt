-- What a `rep` or `share` adds to the level of its body is small.
use Rattle.std.proofs.Common.{◌≡◌, ℕ, zero, suc, ◌≤◌, ◌+◌, ◌-◌, ◌*◌, ◌/◌, List, [], ◌∷◌, refl, ap, arith, Bool, true, false, not, ◌&&◌, ◌||◌, nat_eq, nat_lt, nat_le}
use Rattle.std.specs.Prelude.{if◌then◌else◌}
use Rattle.std.specs.declared.result.Result.{Result}
use Rattle.std.specs.declared.result.Result.TheVariants.{Ok, Err}
use Rattle.std.proofs.Math.Nat.{div-mul-le_self, div-le_self}
use Rattle.std.proofs.lemmas.Bool.Decides.{nat_tests}
use Rattle.fc_values.specs.declared.builtins.Builtin.{Builtin}
use Rattle.fc_values.specs.declared.builtins.Builtin.TheVariants as op
use Rattle.fc_values.specs.BuiltinTypes.{inner}
use Rattle.fc_nodes.specs.declared.verdicts.Reason.{Reason}
use Rattle.fc_nodes.specs.declared.verdicts.Reason.TheVariants as reason
use Rattle.fc_nodes.specs.Terms.{Evolution, ByRep, ByShare, Term, Terms, Plain, Apply, Nbr, Evolve, If, Let, NoMore, More, size, term_type, term_at}
use Rattle.fc_nodes.specs.Subterms.{subterm_at}
use Rattle.fc_nodes.specs.Program.{Program, IsProgram, unfolding_of}
use Rattle.interval_facts.specs.Ranges.{RangeValue, IntRange, BoolRange, PairRange, range_of}
use Rattle.fc_nodes.specs.Variables.{occurs, is_heard}
use Rattle.growth_facts.specs.Leads.{leads, least_integer, greatest_integer}
use Rattle.growth_facts.specs.Growth.{GrowthValue, Grows, Lacks, NodeFacts, only_if, on_one_side, raised, lesser_growth, op_growth, growth_by, growth_apart, growth_heard, node_growth, growth_of, facts_in}
use Rattle.growth_facts.specs.Turns.{steps_of, turns_of, rounds_of}
use Rattle.fragment_check.specs.declared.kinds.Pattern.{Pattern}
use Rattle.fragment_check.specs.declared.kinds.Pattern.TheVariants as pattern
use Rattle.fragment_check.specs.declared.facts.Guarding.{Guarding}
use Rattle.fragment_check.specs.declared.facts.Guarding.TheVariants as guarding
use Rattle.fragment_check.specs.Patterns.{is_nested, is_unguarded, guarding_of, evolution_form, Form, IsHood, IsRise, IsOther, is_pair_range, raising, minimising_by, rising_by, by_form, by_guarding, body_pattern, pattern_of}
use Rattle.fragment_check.specs.Verdicts.{ranks, added_levels, added_by, added_at, bound_range, variable_range, stages_of, pattern_at}
use Rattle.round_bound.specs.Walks.{most_added, PatternFew}
use Rattle.round_bound.proofs.Bounded.{EndsAtMost, full_few, range_few}

-- ---- growth

abbrev GrowthFew : ℕ → GrowthValue → Type 0
GrowthFew m (Grows c) = c ≤ m
GrowthFew m (Lacks p) = Unit {0}

abbrev FactsFew : ℕ → List NodeFacts → Type 0
FactsFew m [] = Unit {0}
FactsFew m (f ∷ fs) = GrowthFew m f.growth × FactsFew m fs

module _ (m p : ℕ) where
  only_few : (b : Bool) (g : GrowthValue) → GrowthFew m g → GrowthFew m (only_if b p g)
  only_few true g f = f
  only_few false g f = tt

  side_few : (a b : Bool) (g h : GrowthValue) → GrowthFew m g → GrowthFew m h → GrowthFew m (on_one_side a b p g h)
  side_few true true g h f k = tt
  side_few true false g h f k = f
  side_few false true g h f k = k
  side_few false false g h f k = tt

  raised_few : (least : ℕ) (g : GrowthValue) → GrowthFew m (raised m least g)
  raised_few least (Grows c) = omega arith
  raised_few least (Lacks q) = tt

  lesser_few : (g h : GrowthValue) → GrowthFew m g → GrowthFew m h → GrowthFew m (lesser_growth g h)
  lesser_few (Grows a) (Grows b) f k = omega (arith, f)
  lesser_few (Grows a) (Lacks q) f k = tt
  lesser_few (Lacks q) h f k = tt

  op_few : (o : Builtin) (fs : List NodeFacts) → FactsFew m fs → GrowthFew m (op_growth m p o fs)
  op_few op.Add [] f = tt
  op_few op.Add (a ∷ []) f = tt
  op_few op.Add (a ∷ b ∷ []) f = side_few a.uses b.uses (raised m b.least a.growth) (raised m a.least b.growth) (raised_few b.least a.growth) (raised_few a.least b.growth)
  op_few op.Add (a ∷ b ∷ c ∷ fs) f = tt
  op_few op.Max [] f = tt
  op_few op.Max (a ∷ []) f = tt
  op_few op.Max (a ∷ b ∷ []) f = side_few a.uses b.uses a.growth b.growth f.0 f.1.0
  op_few op.Max (a ∷ b ∷ c ∷ fs) f = tt
  op_few op.Mul [] f = tt
  op_few op.Mul (a ∷ []) f = tt
  op_few op.Mul (a ∷ b ∷ []) f = side_few a.uses b.uses _ _ (only_few (nat_le 1 b.least) a.growth f.0) (only_few (nat_le 1 a.least) b.growth f.1.0)
  op_few op.Mul (a ∷ b ∷ c ∷ fs) f = tt
  op_few op.Min [] f = tt
  op_few op.Min (a ∷ []) f = tt
  op_few op.Min (a ∷ b ∷ []) f = lesser_few a.growth b.growth f.0 f.1.0
  op_few op.Min (a ∷ b ∷ c ∷ fs) f = tt
  op_few op.Mux [] f = tt
  op_few op.Mux (s ∷ []) f = tt
  op_few op.Mux (s ∷ a ∷ []) f = tt
  op_few op.Mux (s ∷ a ∷ b ∷ []) f = only_few (not s.uses) (lesser_growth a.growth b.growth) (lesser_few a.growth b.growth f.1.0 f.1.1.0)
  op_few op.Mux (s ∷ a ∷ b ∷ c ∷ fs) f = tt
  op_few op.Pair [] f = tt
  op_few op.Pair (a ∷ []) f = tt
  op_few op.Pair (h ∷ t ∷ []) f = only_few (h.integer && (not t.uses || t.rest)) h.growth f.0
  op_few op.Pair (a ∷ b ∷ c ∷ fs) f = tt
  op_few op.Fst [] f = tt
  op_few op.Fst (h ∷ []) f = only_few (h.heard && h.leads) (Grows 0) (omega arith)
  op_few op.Fst (a ∷ b ∷ fs) f = tt
  op_few op.Sub fs f = tt
  op_few op.Rise fs f = tt
  op_few op.Less fs f = tt
  op_few op.Equal fs f = tt
  op_few op.And fs f = tt
  op_few op.Or fs f = tt
  op_few op.Not fs f = tt
  op_few op.Snd fs f = tt
  op_few op.MinHoodLoc fs f = tt
  op_few op.MaxHoodLoc fs f = tt
  op_few op.SumHood fs f = tt
  op_few op.AnyHood fs f = tt
  op_few op.AllHood fs f = tt

  by_few : (u h : Bool) (apart heard other : GrowthValue) → GrowthFew m apart → GrowthFew m heard → GrowthFew m other → GrowthFew m (growth_by u h apart heard other)
  by_few false h apart heard other f g k = f
  by_few true true apart heard other f g k = g
  by_few true false apart heard other f g k = k

  node_few : (rs : ℕ → RangeValue) (e : Evolution) (x : ℕ) (t : Term) (other : GrowthValue) → GrowthFew m other → GrowthFew m (node_growth m rs e x p t other)
  node_few rs e x t other k =
      by_few (occurs x t) (is_heard e x t) (growth_apart m p (least_integer (rs p))) (growth_heard p (leads (inner (term_type t)))) other
      (only_few (nat_eq (least_integer (rs p)) m) (Grows m) (omega arith)) (only_few (leads (inner (term_type t))) (Grows 0) (omega arith)) k

mutual
  growth_few : (m : ℕ) (rs : ℕ → RangeValue) (e : Evolution) (x p : ℕ) (t : Term) → GrowthFew m (growth_of m rs e x p t)
  growth_few m rs e x p (Plain t l) = node_few m p rs e x (Plain t l) (Lacks p) tt
  growth_few m rs e x p (Apply t o xs) = node_few m p rs e x (Apply t o xs) _ (op_few m p o (facts_in m rs e x (suc p) xs) (facts_few m rs e x (suc p) xs))
  growth_few m rs e x p (Nbr t a) = node_few m p rs e x (Nbr t a) (Lacks p) tt
  growth_few m rs e x p (Evolve t f a b) = node_few m p rs e x (Evolve t f a b) (Lacks p) tt
  growth_few m rs e x p (If t c a b) = node_few m p rs e x (If t c a b) (Lacks p) tt
  growth_few m rs e x p (Let t a b) = node_few m p rs e x (Let t a b) (Lacks p) tt

  facts_few : (m : ℕ) (rs : ℕ → RangeValue) (e : Evolution) (x p : ℕ) (ts : Terms) → FactsFew m (facts_in m rs e x p ts)
  facts_few m rs e x p NoMore = tt
  facts_few m rs e x p (More t ts) = (growth_few m rs e x p t, facts_few m rs e x (p + size t) ts)

-- ---- patterns

greatest_few : (m : ℕ) (r : RangeValue) → EndsAtMost m r → greatest_integer r ≤ m
greatest_few m (IntRange a b) f = f.1
greatest_few m BoolRange f = omega arith
greatest_few m (PairRange (IntRange a b) s) f = f.0.1
greatest_few m (PairRange BoolRange s) f = omega arith
greatest_few m (PairRange (PairRange r u) s) f = omega arith

least_few : (m : ℕ) (r : RangeValue) → EndsAtMost m r → least_integer r ≤ m
least_few m (IntRange a b) f = f.0
least_few m BoolRange f = omega arith
least_few m (PairRange (IntRange a b) s) f = f.0.0
least_few m (PairRange BoolRange s) f = omega arith
least_few m (PairRange (PairRange r u) s) f = omega arith

abbrev pub ResultFew : ℕ → Result Pattern Reason → Type 0
ResultFew m (Ok a) = PatternFew m a
ResultFew m (Err r) = Unit {0}

abbrev RaisedFew : ℕ → Result ℕ Reason → Type 0
RaisedFew m (Ok c) = (1 ≤ c) × (c ≤ m)
RaisedFew m (Err r) = Unit {0}

positive : (c : ℕ) → nat_eq c 0 ≡ false → 1 ≤ c
positive c e = grind (arith, nat_tests, e)

module _ (m : ℕ) where
  raising_few : (g : GrowthValue) → GrowthFew m g → RaisedFew m (raising g)
  raising_few (Lacks q) f = tt
  raising_few (Grows c) f = by_test (nat_eq c 0) refl
    where
      by_test : (b : Bool) → nat_eq c 0 ≡ b → RaisedFew m (if b then Err reason.GrowthZero else Ok c)
      by_test true e = tt
      by_test false e = (positive c e, f)

  if_few : (b : Bool) (r s : Result Pattern Reason) → ResultFew m r → ResultFew m s → ResultFew m (if b then r else s)
  if_few true r s f g = f
  if_few false r s f g = g

  minimising_few : (l : RangeValue) (r : Result ℕ Reason) → EndsAtMost m l → RaisedFew m r → ResultFew m (minimising_by m l r)
  minimising_few l (Err r) f g = tt
  minimising_few l (Ok c) f g = if_few (is_pair_range l && nat_eq (greatest_integer l) m) _ (Ok (pattern.Minimising (greatest_integer l) c)) tt (greatest_few m l f, g.0, g.1)

  rising_few : (l s : RangeValue) (r : Result ℕ Reason) → EndsAtMost m l → EndsAtMost m s → RaisedFew m r → ResultFew m (rising_by l s r)
  rising_few l s (Err r) f k g = tt
  rising_few l s (Ok c) f k g = by_test (nat_eq (least_integer s) 0) refl
    where
      by_test : (b : Bool) → nat_eq (least_integer s) 0 ≡ b → ResultFew m (if b then Err reason.RiseZero else Ok (pattern.Rising (greatest_integer l) c (least_integer s)))
      by_test true e = tt
      by_test false e = (greatest_few m l f, g.0, g.1, positive (least_integer s) e, least_few m s k)

  module _ (R : ℕ → RangeValue) (few : (q : ℕ) → EndsAtMost m (R q)) (e : Evolution) (x p : ℕ) where
    form_few : (g : Guarding) (f : Form) → ResultFew m (by_form m R e x p g f)
    form_few g (IsHood h l) = minimising_few (R (suc p + size h)) (raising (growth_of m R e x (suc p) h)) (few (suc p + size h)) (raising_few (growth_of m R e x (suc p) h) (growth_few m R e x (suc p) h))
    form_few g (IsRise h l s) =
        rising_few (R (suc (suc p) + size h)) (R (suc (suc (suc p + size h + size l)))) (raising (growth_of m R e x (suc (suc p)) h)) (few (suc (suc p) + size h)) (few (suc (suc (suc p + size h + size l))))
        (raising_few (growth_of m R e x (suc (suc p)) h) (growth_few m R e x (suc (suc p)) h))
    form_few g IsOther = tt

    guarding_few : (g : Guarding) (r : Result Pattern Reason) → ResultFew m r → ResultFew m (by_guarding g r)
    guarding_few guarding.Unused r f = f
    guarding_few (guarding.Potential q) r f = tt
    guarding_few guarding.Others r f = f
    guarding_few guarding.Missing r f = f

    body_few : (u : Term) → ResultFew m (body_pattern m R e x p u)
    body_few u =
        if_few (not (occurs x u)) (Ok pattern.Constant) _ tt
        (if_few (is_nested e x u) _ _ tt
        (if_few (is_unguarded e x u) _ _ tt
        (guarding_few (guarding_of e x u) _ (form_few (guarding_of e x u) (evolution_form e x u)))))

  pub pattern_few : (R : ℕ → RangeValue) → ((q : ℕ) → EndsAtMost m (R q)) → (p : ℕ) (t : Term) → ResultFew m (pattern_of m R p t)
  pattern_few R few p (Plain t l) = tt
  pattern_few R few p (Apply t o xs) = tt
  pattern_few R few p (Nbr t a) = tt
  pattern_few R few p (Evolve t e a b) = body_few R few e p (suc p + size a) b
  pattern_few R few p (If t c a b) = tt
  pattern_few R few p (Let t a b) = tt

-- ---- what they add

times_less : (q a b : ℕ) → a ≤ b → q * a ≤ q * b
times_less zero a b l = omega arith
times_less (suc q) a b l = let r = times_less q a b l in omega (arith, l, r)

enough : (c r : ℕ) → 1 ≤ r → c ≤ c * r
enough c zero l = absurd (omega (arith, l))
enough c (suc r) l = omega arith

-- as many turns as the growth make it up
few_turns : (c r : ℕ) → 1 ≤ r → turns_of c r ≤ c
few_turns c r l = by_test (nat_lt c (turns_of c r)) refl
  where
    by_test : (b : Bool) → nat_lt c (turns_of c r) ≡ b → turns_of c r ≤ c
    by_test false e = grind (arith, nat_tests, e)
    by_test true e =
        let more : suc c ≤ turns_of c r = grind (arith, nat_tests, e) in
        let whole = div-mul-le_self (c + (r - 1)) r in
        let least = times_less r (suc c) (turns_of c r) more in
        let some = enough c r l in
        let turned : r * turns_of c r ≡ turns_of c r * r = omega arith in
        let apart : r * suc c ≡ c * r + r = omega arith in
        absurd (omega (arith, whole, least, some, turned, apart, l))

few_rounds : (greatest c r : ℕ) → 1 ≤ r → 1 ≤ c → c ≤ 1000000 → greatest ≤ 1000000 → rounds_of greatest c r ≤ 3000000
few_rounds greatest c r some one few most =
    let fewer = few_turns c r some in
    let all = times_less (greatest / c) (turns_of c r + 1) (c + 1) (omega (arith, fewer)) in
    let whole = div-mul-le_self greatest c in
    let less = div-le_self greatest c in
    let apart : greatest / c * (c + 1) ≡ greatest / c * c + greatest / c = omega arith in
    let same : (steps_of greatest c - 1) * (turns_of c r + 1) ≡ greatest / c * (turns_of c r + 1) = ap (λ q. q * (turns_of c r + 1)) (omega arith) in
    omega (arith, fewer, all, whole, less, apart, same, few, most, one)

pub few_ranks : (n m : ℕ) (r : RangeValue) → EndsAtMost m r → m ≤ 1000000 → ranks n r ≤ 1000000
few_ranks n m r f l = let g = greatest_few m r f in omega (arith, g, l)

module _ (m : ℕ) (most : m ≤ 1000000) (n : ℕ) (W : ℕ → RangeValue) (few : (q : ℕ) → EndsAtMost m (W q)) where
  levels_few : (e : Evolution) (a : Pattern) → PatternFew m a → added_levels n W e a ≤ most_added
  levels_few e pattern.Constant f = omega arith
  levels_few ByRep (pattern.Acyclic q) f = let r = few_ranks n m (W q) (few q) most in omega (arith, r)
  levels_few ByShare (pattern.Acyclic q) f = let r = few_ranks n m (W q) (few q) most in omega (arith, r)
  levels_few ByRep (pattern.Minimising greatest growth) f = let f0 = f.0 in let less = div-le_self greatest growth in omega (arith, f0, less, most)
  levels_few ByShare (pattern.Minimising greatest growth) f = let f0 = f.0 in let less = div-le_self greatest growth in omega (arith, f0, less, most)
  levels_few e (pattern.Rising greatest growth rise) f =
      let f0 = f.0 in let f2 = f.2 in few_rounds greatest growth rise f.3 f.1 (omega (arith, f2, most)) (omega (arith, f0, most))

  by_levels_few : (e : Evolution) (r : Result Pattern Reason) → ResultFew m r → added_by n W e r ≤ most_added
  by_levels_few e (Ok a) f = levels_few e a f
  by_levels_few e (Err r) f = omega arith

  pub added_few : (R : ℕ → RangeValue) → ((q : ℕ) → EndsAtMost m (R q)) → (p : ℕ) (t : Term) → added_at m R W n p t ≤ most_added
  added_few R rs p (Plain t l) = omega arith
  added_few R rs p (Apply t o xs) = omega arith
  added_few R rs p (Nbr t a) = omega arith
  added_few R rs p (Evolve t e a b) = by_levels_few e (pattern_of m R p (Evolve t e a b)) (pattern_few m R rs p (Evolve t e a b))
  added_few R rs p (If t c a b) = omega arith
  added_few R rs p (Let t a b) = omega arith

bound_few : (m : ℕ) (R : ℕ → RangeValue) → ((q : ℕ) → EndsAtMost m (R q)) → (q : ℕ) (t : Term) → EndsAtMost m (bound_range m R q t)
bound_few m R few q (Plain t l) = (omega arith, omega arith)
bound_few m R few q (Apply t o xs) = (omega arith, omega arith)
bound_few m R few q (Nbr t a) = (omega arith, omega arith)
bound_few m R few q (Evolve t e a b) = full_few m (inner t)
bound_few m R few q (If t c a b) = (omega arith, omega arith)
bound_few m R few q (Let t a b) = few (suc q)

pub variable_few : (P : Program) → IsProgram P → (q : ℕ) → EndsAtMost P.declared.ceiling (variable_range (unfolding_of P) q)
variable_few P h q = bound_few P.declared.ceiling (range_of (unfolding_of P)) (range_few P h) q (subterm_at q (term_at P.nodes 0))

pub stages_few : (P : Program) → IsProgram P → (n p : ℕ) → stages_of (unfolding_of P) n p ≤ most_added
stages_few P h n p = added_few P.declared.ceiling h.lawful.most n (variable_range (unfolding_of P)) (variable_few P h) (range_of (unfolding_of P)) (range_few P h) p (subterm_at p (term_at P.nodes 0))

pub pattern_at_few : (P : Program) → IsProgram P → (p : ℕ) → ResultFew P.declared.ceiling (pattern_at (unfolding_of P) p)
pattern_at_few P h p = pattern_few P.declared.ceiling (range_of (unfolding_of P)) (range_few P h) p (subterm_at p (term_at P.nodes 0))
