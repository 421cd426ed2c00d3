-- The walk form, taken apart.
use Rattle.std.proofs.Common.{◌≡◌, ℕ, suc, ◌+◌, refl, subst, Bool, true, false, Option, Some, None}
use Rattle.std.specs.Prelude.{if◌then◌else◌}
use Rattle.std.specs.declared.result.Result.{Result}
use Rattle.std.specs.declared.result.Result.TheVariants.{Ok, Err}
use Rattle.fc_values.specs.declared.builtins.Builtin.TheVariants as op
use Rattle.fc_values.specs.Types.{LocalType, IntType, BoolType, PairType, ValueType, TypeLocal, TypeField}
use Rattle.fc_nodes.specs.declared.verdicts.Reason.{Reason}
use Rattle.fc_nodes.specs.Terms.{Literal, Variable, Sense, Uid, NbrLink, ByRep, ByShare, Term, Terms, Plain, Apply, Nbr, Evolve, If, Let, NoMore, More, term_type, size}
use Rattle.fc_nodes.specs.Variables.{is_heard}
use Rattle.fc_nodes.specs.Program.{Unfolding}
use Rattle.fragment_check.specs.declared.kinds.Pattern.{Pattern}
use Rattle.fragment_check.specs.declared.kinds.Pattern.TheVariants as pattern
use Rattle.fragment_check.specs.Patterns.{two_of}
use Rattle.fragment_check.specs.Verdicts.{pattern_at}
use Rattle.walk_form.specs.Forms.{StepTerm, StepValue, StepWeight, WalkTerms, is_links, added_value, added_term, added_beside, sum_step, with_local, hood_terms, body_terms, root_terms, is_minimising, if_minimising, walk_terms}

-- what a summand adds
pub data IsAdded (p : ℕ) (b : Term) : StepTerm → Type 0 where
  links : (t : ValueType) → b ≡ Plain t NbrLink → IsAdded p b StepWeight
  local : (t : LocalType) → term_type b ≡ TypeLocal t → IsAdded p b (StepValue p b)

-- the two summands: what is heard of x, and what is added, whichever stands first
pub data IsSum (x p : ℕ) : Term → StepTerm → Type 0 where
  first : (t : ValueType) (a b : Term) (s : StepTerm) → is_heard ByRep x a ≡ true → IsAdded (suc p + size a) b s
      → IsSum x p (Apply t op.Add (More a (More b NoMore))) s
  second : (t : ValueType) (a b : Term) (s : StepTerm) → is_heard ByRep x b ≡ true → IsAdded (suc p) a s
      → IsSum x p (Apply t op.Add (More a (More b NoMore))) s

-- the body
pub record IsBody (x p : ℕ) (u : Term) (w : WalkTerms) : Type 0 where
  pub type : ValueType
  pub sum : Term
  pub is : u ≡ Apply type op.MinHoodLoc (More sum (More w.local NoMore))
  pub place : w.place ≡ suc p + size sum
  pub step : IsSum x (suc p) sum w.step

pub record IsRoot (u : Term) (w : WalkTerms) : Type 0 where
  pub start : Term
  pub body : Term
  pub is : u ≡ Evolve (TypeLocal IntType) ByRep start body
  pub form : IsBody 0 (suc 0 + size start) body w

links_of : (b : Term) → is_links b ≡ true → (t : ValueType) × (b ≡ Plain t NbrLink)
links_of (Plain t NbrLink) e = (t, refl)
links_of (Plain t (Literal v)) e = absurd cc
links_of (Plain t (Variable q)) e = absurd cc
links_of (Plain t (Sense i)) e = absurd cc
links_of (Plain t Uid) e = absurd cc
links_of (Apply t o xs) e = absurd cc
links_of (Nbr t a) e = absurd cc
links_of (Evolve t v a b) e = absurd cc
links_of (If t c a b) e = absurd cc
links_of (Let t a b) e = absurd cc

some_same : (s r : StepTerm) → Some s ≡ Some r → s ≡ r
some_same s r e = cc

added_is : (p : ℕ) (b : Term) (s : StepTerm) → added_term p b ≡ Some s → IsAdded p b s
added_is p b s e = by_links (is_links b) refl e
  where
    by_type : (t : ValueType) → term_type b ≡ t → added_value p b t ≡ Some s → IsAdded p b s
    by_type (TypeLocal t) k e = subst (IsAdded p b) (some_same (StepValue p b) s e) (local t k)
    by_type (TypeField t) k e = absurd cc

    by_links : (c : Bool) → is_links b ≡ c → (if c then Some StepWeight else added_value p b (term_type b)) ≡ Some s → IsAdded p b s
    by_links true k e = let l = links_of b k in subst (IsAdded p b) (some_same StepWeight s e) (links l.0 l.1)
    by_links false k e = by_type (term_type b) refl e

beside_is : (x p : ℕ) (t : ValueType) (xs : Terms) (s : StepTerm) → added_beside x (suc p) (two_of xs) ≡ Some s → IsSum x p (Apply t op.Add xs) s
beside_is x p t NoMore s e = absurd cc
beside_is x p t (More a NoMore) s e = absurd cc
beside_is x p t (More a (More b (More c xs))) s e = absurd cc
beside_is x p t (More a (More b NoMore)) s e = by_first (is_heard ByRep x a) refl e
  where
    by_second : (c : Bool) → is_heard ByRep x b ≡ c → (if c then added_term (suc p) a else None) ≡ Some s → IsSum x p (Apply t op.Add (More a (More b NoMore))) s
    by_second true k e = second t a b s k (added_is (suc p) a s e)
    by_second false k e = absurd cc

    by_first : (c : Bool) → is_heard ByRep x a ≡ c → (if c then added_term (suc p + size a) b else (if is_heard ByRep x b then added_term (suc p) a else None)) ≡ Some s
        → IsSum x p (Apply t op.Add (More a (More b NoMore))) s
    by_first true k e = first t a b s k (added_is (suc p + size a) b s e)
    by_first false k e = by_second (is_heard ByRep x b) refl e

pub sum_is : (x p : ℕ) (h : Term) (s : StepTerm) → sum_step x p h ≡ Some s → IsSum x p h s
sum_is x p (Plain t l) s e = absurd cc
sum_is x p (Nbr t a) s e = absurd cc
sum_is x p (Evolve t v a b) s e = absurd cc
sum_is x p (If t c a b) s e = absurd cc
sum_is x p (Let t a b) s e = absurd cc
sum_is x p (Apply t op.Add xs) s e = beside_is x p t xs s e
sum_is x p (Apply t op.Sub xs) s e = absurd cc
sum_is x p (Apply t op.Mul xs) s e = absurd cc
sum_is x p (Apply t op.Rise xs) s e = absurd cc
sum_is x p (Apply t op.Min xs) s e = absurd cc
sum_is x p (Apply t op.Max xs) s e = absurd cc
sum_is x p (Apply t op.Less xs) s e = absurd cc
sum_is x p (Apply t op.Equal xs) s e = absurd cc
sum_is x p (Apply t op.And xs) s e = absurd cc
sum_is x p (Apply t op.Or xs) s e = absurd cc
sum_is x p (Apply t op.Not xs) s e = absurd cc
sum_is x p (Apply t op.Mux xs) s e = absurd cc
sum_is x p (Apply t op.Pair xs) s e = absurd cc
sum_is x p (Apply t op.Fst xs) s e = absurd cc
sum_is x p (Apply t op.Snd xs) s e = absurd cc
sum_is x p (Apply t op.MinHoodLoc xs) s e = absurd cc
sum_is x p (Apply t op.MaxHoodLoc xs) s e = absurd cc
sum_is x p (Apply t op.SumHood xs) s e = absurd cc
sum_is x p (Apply t op.AnyHood xs) s e = absurd cc
sum_is x p (Apply t op.AllHood xs) s e = absurd cc

terms_same : (w v : WalkTerms) → Some w ≡ Some v → w ≡ v
terms_same w v e = cc

hood_is : (x p : ℕ) (t : ValueType) (xs : Terms) (w : WalkTerms) → hood_terms x (suc p) (two_of xs) ≡ Some w → IsBody x p (Apply t op.MinHoodLoc xs) w
hood_is x p t NoMore w e = absurd cc
hood_is x p t (More a NoMore) w e = absurd cc
hood_is x p t (More a (More b (More c xs))) w e = absurd cc
hood_is x p t (More h (More l NoMore)) w e = by_step (sum_step x (suc p) h) refl e
  where
    by_step : (o : Option StepTerm) → sum_step x (suc p) h ≡ o → with_local (suc p + size h) l o ≡ Some w → IsBody x p (Apply t op.MinHoodLoc (More h (More l NoMore))) w
    by_step None k e = absurd cc
    by_step (Some s) k e =
        subst (IsBody x p (Apply t op.MinHoodLoc (More h (More l NoMore)))) (terms_same _ w e)
        (record { type = t; sum = h; is = refl; place = refl; step = sum_is x (suc p) h s k })

pub body_is : (x p : ℕ) (u : Term) (w : WalkTerms) → body_terms x p u ≡ Some w → IsBody x p u w
body_is x p (Plain t l) w e = absurd cc
body_is x p (Nbr t a) w e = absurd cc
body_is x p (Evolve t v a b) w e = absurd cc
body_is x p (If t c a b) w e = absurd cc
body_is x p (Let t a b) w e = absurd cc
body_is x p (Apply t op.MinHoodLoc xs) w e = hood_is x p t xs w e
body_is x p (Apply t op.Add xs) w e = absurd cc
body_is x p (Apply t op.Sub xs) w e = absurd cc
body_is x p (Apply t op.Mul xs) w e = absurd cc
body_is x p (Apply t op.Rise xs) w e = absurd cc
body_is x p (Apply t op.Min xs) w e = absurd cc
body_is x p (Apply t op.Max xs) w e = absurd cc
body_is x p (Apply t op.Less xs) w e = absurd cc
body_is x p (Apply t op.Equal xs) w e = absurd cc
body_is x p (Apply t op.And xs) w e = absurd cc
body_is x p (Apply t op.Or xs) w e = absurd cc
body_is x p (Apply t op.Not xs) w e = absurd cc
body_is x p (Apply t op.Mux xs) w e = absurd cc
body_is x p (Apply t op.Pair xs) w e = absurd cc
body_is x p (Apply t op.Fst xs) w e = absurd cc
body_is x p (Apply t op.Snd xs) w e = absurd cc
body_is x p (Apply t op.MaxHoodLoc xs) w e = absurd cc
body_is x p (Apply t op.SumHood xs) w e = absurd cc
body_is x p (Apply t op.AnyHood xs) w e = absurd cc
body_is x p (Apply t op.AllHood xs) w e = absurd cc

pub root_is : (u : Term) (w : WalkTerms) → root_terms u ≡ Some w → IsRoot u w
root_is (Evolve (TypeLocal IntType) ByRep a u) w e = record { start = a; body = u; is = refl; form = body_is 0 (suc 0 + size a) u w e }
root_is (Evolve (TypeLocal IntType) ByShare a u) w e = absurd cc
root_is (Evolve (TypeLocal BoolType) v a u) w e = absurd cc
root_is (Evolve (TypeLocal (PairType s t)) v a u) w e = absurd cc
root_is (Evolve (TypeField t) v a u) w e = absurd cc
root_is (Plain t l) w e = absurd cc
root_is (Apply t o xs) w e = absurd cc
root_is (Nbr t a) w e = absurd cc
root_is (If t c a b) w e = absurd cc
root_is (Let t a b) w e = absurd cc

-- a pattern of a least of what is heard
pub record IsLeastOf (r : Result Pattern Reason) : Type 0 where
  pub greatest : ℕ
  pub growth : ℕ
  pub is : r ≡ Ok (pattern.Minimising greatest growth)

least_of : (r : Result Pattern Reason) → is_minimising r ≡ true → IsLeastOf r
least_of (Ok (pattern.Minimising g c)) e = record { greatest = g; growth = c; is = refl }
least_of (Ok pattern.Constant) e = absurd cc
least_of (Ok (pattern.Acyclic q)) e = absurd cc
least_of (Ok (pattern.Rising g c r)) e = absurd cc
least_of (Err r) e = absurd cc

pub record IsGradient (U : Unfolding) (w : WalkTerms) : Type 0 where
  pub root : IsRoot U.main w
  pub least : IsLeastOf (pattern_at U 0)

pub gradient : (U : Unfolding) (w : WalkTerms) → walk_terms U ≡ Some w → IsGradient U w
gradient U w e = by_pattern (is_minimising (pattern_at U 0)) refl e
  where
    by_pattern : (c : Bool) → is_minimising (pattern_at U 0) ≡ c → if_minimising c (root_terms U.main) ≡ Some w → IsGradient U w
    by_pattern true k e = record { root = root_is U.main w e; least = least_of _ k }
    by_pattern false k e = absurd cc
