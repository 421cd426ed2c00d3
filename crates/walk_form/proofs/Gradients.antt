-- What a yes says of a program of the walk form: the local argument and the summand are without the variable, and the summand
-- is at least 1.
use Rattle.std.proofs.Common.{◌≡◌, ℕ, suc, ◌+◌, ◌≤◌, refl, sym, ◌∙◌, ap, subst, arith, Bool, true, false, ◌||◌, min, length, Some}
use Rattle.fc_values.specs.declared.builtins.Builtin.TheVariants as op
use Rattle.fc_values.specs.Types.{LocalType, IntType, ValueType, TypeLocal}
use Rattle.fc_values.specs.BuiltinTypes.{inner}
use Rattle.fc_nodes.specs.declared.verdicts.Verdict.TheVariants as verdict
use Rattle.fc_nodes.specs.Terms.{Evolution, ByRep, Term, Plain, Apply, Nbr, Evolve, If, Let, NoMore, More, term_type, size}
use Rattle.fc_nodes.specs.Variables.{occurs, is_own, is_heard}
use Rattle.fc_nodes.specs.Program.{Program, Unfolding, unfolding_of, IsProgram}
use Rattle.topology.specs.Networks.{Network, IsNetwork}
use Rattle.interval_facts.specs.Ranges.{RangeValue}
use Rattle.growth_facts.specs.Leads.{least_integer, leads}
use Rattle.growth_facts.specs.Growth.{GrowthValue, Grows, growth_of, only_if, raised, on_one_side}
use Rattle.fragment_check.specs.declared.kinds.Pattern.{Pattern}
use Rattle.fragment_check.specs.declared.kinds.Pattern.TheVariants as pattern
use Rattle.fragment_check.specs.Shapes.{HasPattern, constant, acyclic, minimising, rising}
use Rattle.fragment_check.specs.Verdicts.{verdict_of}
use Rattle.converge_laws.specs.Fragment.{Analysis, TermInFragment}
use Rattle.converge_laws.specs.Verdicts.{analysis_of, pattern_or, YesAnalyses}
use Rattle.walk_form.specs.Forms.{StepTerm, WalkTerms, walk_terms}
use Rattle.walk_form.proofs.Inverted.{IsAdded, IsSum, gradient}
use Rattle.walk_form.proofs.Inverted as inverted
use Rattle.walk_form.proofs.Under.{Under}
use Rattle.walk_form.proofs.Under as under

-- ---- what is heard

pub heard_occurs : (x : ℕ) (a : Term) → is_heard ByRep x a ≡ true → occurs x a ≡ true
heard_occurs x (Nbr t (Plain u l)) e = e
heard_occurs x (Nbr t (Apply u o xs)) e = absurd cc
heard_occurs x (Nbr t (Nbr u a)) e = absurd cc
heard_occurs x (Nbr t (Evolve u v a b)) e = absurd cc
heard_occurs x (Nbr t (If u c a b)) e = absurd cc
heard_occurs x (Nbr t (Let u a b)) e = absurd cc
heard_occurs x (Plain u l) e = absurd cc
heard_occurs x (Apply u o xs) e = absurd cc
heard_occurs x (Evolve u v a b) e = absurd cc
heard_occurs x (If u c a b) e = absurd cc
heard_occurs x (Let u a b) e = absurd cc

module _ (m : ℕ) (R : ℕ → RangeValue) (x : ℕ) where
  heard_growth : (q : ℕ) (a : Term) → is_heard ByRep x a ≡ true → growth_of m R ByRep x q a ≡ only_if (leads (inner (term_type a))) q (Grows 0)
  heard_growth q (Nbr t a) e = let o : occurs x a ≡ true = heard_occurs x (Nbr t a) e in let h : is_own x a ≡ true = e in rw (o, h) refl
  heard_growth q (Plain u l) e = absurd cc
  heard_growth q (Apply u o xs) e = absurd cc
  heard_growth q (Evolve u v a b) e = absurd cc
  heard_growth q (If u c a b) e = absurd cc
  heard_growth q (Let u a b) e = absurd cc

  some_least : (q least c : ℕ) (b : Bool) → raised m least (only_if b q (Grows 0)) ≡ Grows c → 1 ≤ c → 1 ≤ least
  some_least q least c true e l = let f : min m (0 + least) ≡ c = cc in omega (arith, f, l)
  some_least q least c false e l = absurd cc

  -- the other summand is without the variable, and at least 1
  record Free (q : ℕ) (b : Term) : Type 0 where
    free : occurs x b ≡ false
    some : 1 ≤ least_integer (R q)

  free_second : (p q r : ℕ) (a b : Term) (c : ℕ) (g h : GrowthValue) (t : Bool) → occurs x b ≡ t
      → on_one_side true t p (raised m (least_integer (R r)) g) h ≡ Grows c → 1 ≤ c
      → g ≡ only_if (leads (inner (term_type a))) q (Grows 0) → Free r b
  free_second p q r a b c g h true k e l f = absurd cc
  free_second p q r a b c g h false k e l f =
      record { free = k; some = some_least q (least_integer (R r)) c (leads (inner (term_type a))) (ap (raised m (least_integer (R r))) (sym f) ∙ e) l }

  free_first : (p q r : ℕ) (a b : Term) (c : ℕ) (g h : GrowthValue) (t : Bool) → occurs x a ≡ t
      → on_one_side t true p h (raised m (least_integer (R r)) g) ≡ Grows c → 1 ≤ c
      → g ≡ only_if (leads (inner (term_type b))) q (Grows 0) → Free r a
  free_first p q r a b c g h true k e l f = absurd cc
  free_first p q r a b c g h false k e l f =
      record { free = k; some = some_least q (least_integer (R r)) c (leads (inner (term_type b))) (ap (raised m (least_integer (R r))) (sym f) ∙ e) l }

  or_second : (a b : Bool) → b ≡ true → (a || (b || false)) ≡ true
  or_second true b e = refl
  or_second false true e = refl
  or_second false false e = absurd cc

  abbrev sum_of : ValueType → Term → Term → Term
  sum_of t a b = Apply t op.Add (More a (More b NoMore))

  abbrev raised_first : ℕ → Term → Term → GrowthValue
  raised_first p a b = raised m (least_integer (R (suc p + size a))) (growth_of m R ByRep x (suc p) a)

  abbrev raised_second : ℕ → Term → Term → GrowthValue
  raised_second p a b = raised m (least_integer (R (suc p))) (growth_of m R ByRep x (suc p + size a) b)

  growth_first : (p : ℕ) (t : ValueType) (a b : Term) → occurs x a ≡ true
      → growth_of m R ByRep x p (sum_of t a b) ≡ on_one_side true (occurs x b) p (raised_first p a b) (raised_second p a b)
  growth_first p t a b o = rw o refl

  growth_second : (p : ℕ) (t : ValueType) (a b : Term) → occurs x b ≡ true
      → growth_of m R ByRep x p (sum_of t a b) ≡ on_one_side (occurs x a) true p (raised_first p a b) (raised_second p a b)
  growth_second p t a b o = let e = or_second (occurs x a) (occurs x b) o in rw (e, o) refl

  -- what is added, and where it stands
  pub record Summand (p : ℕ) (h : Term) (s : StepTerm) : Type 0 where
    pub place : ℕ
    pub term : Term
    pub stands : Under p h place term
    pub added : IsAdded place term s
    pub free : occurs x term ≡ false
    pub some : 1 ≤ least_integer (R place)

  pub summand : (p : ℕ) (h : Term) (s : StepTerm) (c : ℕ) → IsSum x p h s → growth_of m R ByRep x p h ≡ Grows c → 1 ≤ c → Summand p h s
  summand p h s c (inverted.first t a b s' hd ad) e l =
      let f = free_second p (suc p) (suc p + size a) a b c (growth_of m R ByRep x (suc p) a) (raised_second p a b) (occurs x b) refl
      (sym (growth_first p t a b (heard_occurs x a hd)) ∙ e) l (heard_growth (suc p) a hd) in
      record {
        place = suc p + size a;
        term = b;
        stands = under.second p t op.Add a b NoMore (suc p + size a) b (under.here (suc p + size a) b);
        added = ad;
        free = f.free;
        some = f.some;
      }
  summand p h s c (inverted.second t a b s' hd ad) e l =
      let f = free_first p (suc p + size a) (suc p) a b c (growth_of m R ByRep x (suc p + size a) b) (raised_first p a b) (occurs x a) refl
      (sym (growth_second p t a b (heard_occurs x b hd)) ∙ e) l (heard_growth (suc p + size a) b hd) in
      record {
        place = suc p;
        term = a;
        stands = under.first p t op.Add a (More b NoMore) (suc p) a (under.here (suc p) a);
        added = ad;
        free = f.free;
        some = f.some;
      }

-- ---- the pattern

pub record LeastFacts (m : ℕ) (R : ℕ → RangeValue) (e : Evolution) (x p : ℕ) (u : Term) : Type 0 where
  pub type : ValueType
  pub sum : Term
  pub local : Term
  pub is : u ≡ Apply type op.MinHoodLoc (More sum (More local NoMore))
  pub free : occurs x local ≡ false
  pub growth : ℕ
  pub grows : growth_of m R e x (suc p) sum ≡ Grows growth
  pub some : 1 ≤ growth

least_facts : (m : ℕ) (R : ℕ → RangeValue) (e : Evolution) (x p : ℕ) (s : LocalType) (u : Term) (a : Pattern) (g c : ℕ) → HasPattern m R e x p s u a
    → a ≡ pattern.Minimising g c → LeastFacts m R e x p u
least_facts m R e x p s u a g c (constant u' o) q = absurd cc
least_facts m R e x p s u a g c (acyclic u' v o sh gd) q = absurd cc
least_facts m R e x p s u a g c (rising t v h l own w k er hr io fl fw sh sw gr pos more) q = absurd cc
least_facts m R e x p s u a g c (minimising t h l k o f sh gr pos top) q =
    record { type = t; sum = h; local = l; is = refl; free = f; growth = k; grows = gr; some = pos }

-- ---- a program of the walk form with a yes

pub record Gradient (P : Program) (A : Analysis) (m : ℕ) (w : WalkTerms) : Type 0 where
  pub start : Term
  pub type : ValueType
  pub sum : Term
  pub main : (unfolding_of P).main ≡ Evolve (TypeLocal IntType) ByRep start (Apply type op.MinHoodLoc (More sum (More w.local NoMore)))
  pub place : w.place ≡ suc (suc 0 + size start) + size sum
  pub is_sum : IsSum 0 (suc (suc 0 + size start)) sum w.step
  pub free : occurs 0 w.local ≡ false
  pub added : Summand m A.ranges 0 (suc (suc 0 + size start)) sum w.step
  pub fragment : TermInFragment A m (suc 0 + size start) (Apply type op.MinHoodLoc (More sum (More w.local NoMore)))

sums_same : (t u : ValueType) (a b c d : Term) → Apply t op.MinHoodLoc (More a (More b NoMore)) ≡ Apply u op.MinHoodLoc (More c (More d NoMore)) → (a ≡ c) × (b ≡ d)
sums_same t u a b c d e = (cc, cc)

module _ (analyses : YesAnalyses) (P : Program) (N : Network) (k : ℕ) (is : IsProgram P) (net : IsNetwork N) (same : N.declared ≡ P.declared)
    (agreed : verdict_of (unfolding_of P) (length N.devices) ≡ verdict.Yes k) (w : WalkTerms) (form : walk_terms (unfolding_of P) ≡ Some w) where
  abbrev U : Unfolding
  U = unfolding_of P

  abbrev A : Analysis
  A = analysis_of U (length N.devices)

  abbrev M : ℕ
  M = N.declared.ceiling

  pub gradient_is : Gradient P A M w
  gradient_is =
      let g = gradient U w form in
      let r = g.root in
      let b = r.form in
      let analysis = (analyses P N k is net same agreed).analysis in
      let parts : TermInFragment A M 0 (Evolve (TypeLocal IntType) ByRep r.start r.body) = subst (TermInFragment A M 0) r.is analysis.fragment in
      let least = least_facts M A.ranges ByRep 0 (suc 0 + size r.start) IntType r.body (A.pattern 0) g.least.greatest g.least.growth parts.0 (ap pattern_or g.least.is) in
      let alike = sums_same b.type least.type b.sum w.local least.sum least.local (sym b.is ∙ least.is) in
      record {
        start = r.start;
        type = b.type;
        sum = b.sum;
        main = r.is ∙ ap (Evolve (TypeLocal IntType) ByRep r.start) b.is;
        place = b.place;
        is_sum = b.step;
        free = subst (λ l. occurs 0 l ≡ false) (sym alike.1) least.free;
        added = summand M A.ranges 0 (suc (suc 0 + size r.start)) b.sum w.step least.growth b.step
            (subst (λ h. growth_of M A.ranges ByRep 0 (suc (suc 0 + size r.start)) h ≡ Grows least.growth) (sym alike.0) least.grows) least.some;
        fragment = subst (TermInFragment A M (suc 0 + size r.start)) b.is parts.2;
      }
