-- Crates above cite this module: where a node may be evaluated, so may its kids, and the value fits.
use Rattle.std.proofs.Common.{◌≡◌, ℕ, suc, ◌+◌, List, [], ◌∷◌, refl, sym, ◌∙◌, ap, subst, Bool, true, false, Some, None}
use Rattle.fc_values.specs.declared.builtins.Builtin.{Builtin}
use Rattle.fc_values.specs.Types.{LocalType, ValueType, Declarations}
use Rattle.fc_values.specs.Values.{LocalValue, Fits}
use Rattle.fc_values.specs.Fields.{AnyValue, ValueLocal, ValueField, FitsOver, with_number}
use Rattle.fc_values.specs.BuiltinTypes.{inner}
use Rattle.fc_values.specs.Trees.{Tree}
use Rattle.fc_nodes.specs.declared.nodes.Node.{Node}
use Rattle.fc_nodes.specs.Terms.{Sort, OfLeaf, OfApply, OfNbr, OfEvolve, OfIf, OfLet, HasNode, WellFormed, term_by}
use Rattle.fc_nodes.specs.Terms.{term_at, Evolution, Term, Terms, Apply, Nbr, Evolve, If, Let, NoMore, More, term_type}
use Rattle.fc_nodes.specs.Terms.{size}
use Rattle.fc_nodes.specs.Typing.{Scope, evolving_type, HasType, HaveTypes}
use Rattle.fc_nodes.specs.Flat.{FitsTree}
use Rattle.fc_nodes.proofs.Places.{formed_above, term_is}
use Rattle.alignment.specs.Environments.{Env, child_env, branch_env, near_numbers}
use Rattle.alignment.specs.Slots.{FlatEnv}
use Rattle.device_eval.specs.Environments.{env_at}
use Rattle.alignment.specs.Scopes.{Vars}
use Rattle.device_eval.specs.Evaluation.{Situation, evolving, eval_of, Outcome, pick}
use Rattle.device_eval.specs.Conditions.{Suits, VariableFits, VarsFit}
use Rattle.device_eval.specs.Places.{May, MayAll}
use Rattle.device_eval.proofs.LeafAt.{numbers_same}
use Rattle.device_eval.proofs.Sights.{bound_fits}
use Rattle.device_eval.proofs.Progress.{Gives, local_of_type, evolves, progress, SeeFrom, apply_sees, first_sees}
use Rattle.device_eval.proofs.Progress.{rest_see, nbr_sees, evolve_sees_first, evolve_sees_body, evolve_keeps}
use Rattle.device_eval.proofs.Progress.{those_taking, if_sees_condition, if_sees_true, if_sees_false, if_vars}
use Rattle.device_eval.proofs.Progress.{let_sees_value, let_sees_body}

-- the value of an outcome
abbrev outcome_value : Outcome → AnyValue
outcome_value None = ValueField []
outcome_value (Some r) = r.0

same_some : {x y : AnyValue} → Some x ≡ Some y → x ≡ y
same_some e = cc

same_local : {x y : LocalValue} → ValueLocal x ≡ ValueLocal y → x ≡ y
same_local e = cc

module _ {D : Declarations} {S : Situation} {scope : Scope} {p : ℕ} {t : Term} {ds : List ℕ} {vars : Vars} {env : Env}
    (may : May D S scope p t ds vars env) where
  pub may_gives : Gives S.ceiling S.device ds (term_type t) (FitsTree S.ceiling t) (eval_of S p t vars env)
  may_gives = progress D S may.suits t scope p ds vars env may.typed may.vars may.env

  -- the value fits the node's type, over exactly the device and its aligned neighbours
  pub may_value : {v : AnyValue} {tree : Tree} → eval_of S p t vars env ≡ Some (v, tree)
      → FitsOver S.ceiling (with_number S.device ds) (term_type t) v
  may_value {v} {tree} e =
      let g = may_gives in
      let same : g.value ≡ v = ap outcome_value (sym g.is ∙ e) in
      subst (FitsOver S.ceiling (with_number S.device ds) (term_type t)) same g.fits

-- terms one after another
may_kids : (D : Declarations) (S : Situation) (scope : Scope) (ds : List ℕ) (vars : Vars) (env : Env) (xs : Terms)
    (q i : ℕ) → HaveTypes D scope q xs → Suits D S → VarsFit S.ceiling S.device ds scope vars
    → SeeFrom S.ceiling S.device ds i xs env → MayAll D S scope q i xs ds vars env
may_kids D S scope ds vars env NoMore q i ty su vf ef = tt
may_kids D S scope ds vars env (More x xs) q i ty su vf ef = (
  record { typed = ty.0; suits = su; vars = vf; env = first_sees S.ceiling S.device ds env i x xs ef },
  may_kids D S scope ds vars env xs (q + size x) (suc i) ty.1 su vf (rest_see S.ceiling S.device ds env i x xs ef),
)

module _ {D : Declarations} {S : Situation} {scope : Scope} {p : ℕ} {t : ValueType} {ds : List ℕ} {vars : Vars}
    {env : Env} where
  pub may_nbr : {a : Term} → May D S scope p (Nbr t a) ds vars env → May D S scope (suc p) a ds vars (child_env 0 env)
  may_nbr {a} m =
      record { typed = m.typed.3; suits = m.suits; vars = m.vars; env = nbr_sees S.ceiling S.device ds env t a m.env }

  module _ {e : Evolution} {a b : Term} (m : May D S scope p (Evolve t e a b) ds vars env) where
    pub may_evolve_first : May D S scope (suc p) a ds vars (child_env 0 env)
    may_evolve_first =
        record {
          typed = m.typed.4;
          suits = m.suits;
          vars = m.vars;
          env = evolve_sees_first S.ceiling S.device ds env t e a b m.env;
        }

    pub may_evolve_body : {first : LocalValue} {tree : Tree} {x : AnyValue}
        → eval_of S (suc p) a vars (child_env 0 env) ≡ Some (ValueLocal first, tree)
        → evolving e S.device env first ≡ Some x
        → May D S ((p, evolving_type e (inner t)) ∷ scope) (suc p + size a) b ds ((p, x) ∷ vars) (child_env 1 env)
    may_evolve_body {first} {tree} {x} ea ex =
        let s : LocalType = inner t in
        let is : inner t ≡ m.typed.0 = ap inner m.typed.1 in
        let la = local_of_type S.ceiling (with_number S.device ds) (term_type a) m.typed.0 (ValueLocal first) m.typed.2
        (may_value may_evolve_first ea) in
        let fits : Fits S.ceiling s first = subst (λ u. Fits S.ceiling u first) (sym is)
        (subst (Fits S.ceiling m.typed.0) (same_local (sym la.is)) la.fits) in
        let st = evolves S.ceiling S.device ds e s env first (evolve_keeps S.ceiling S.device ds env t e a b m.env)
        fits in
        let same : st.value ≡ x = same_some (sym st.is ∙ ex) in
        record {
          typed = subst (λ u. HasType D ((p, evolving_type e u) ∷ scope) (suc p + size a) b) (sym is) m.typed.5;
          suits = m.suits;
          vars = (refl, subst (λ v. VariableFits S.ceiling S.device ds (evolving_type e s) v) same st.fits, m.vars);
          env = evolve_sees_body S.ceiling S.device ds env t e a b m.env;
        }

  module _ {c a b : Term} (m : May D S scope p (If t c a b) ds vars env) where
    pub may_if_condition : May D S scope (suc p) c ds vars (child_env 0 env)
    may_if_condition =
        record {
          typed = m.typed.5;
          suits = m.suits;
          vars = m.vars;
          env = if_sees_condition S.ceiling S.device ds env t c a b m.env;
        }

    pub may_if_branch : (k : Bool) → May D S scope (pick k (suc p + size c) (suc p + size c + size a)) (pick k a b)
        (those_taking S.ceiling S.device ds env t c a b m.env k) vars (child_env 1 (branch_env k env))
    may_if_branch true =
        record {
          typed = m.typed.6;
          suits = m.suits;
          vars = if_vars S.ceiling S.device ds env t c a b m.env true scope
              vars m.vars;
          env = if_sees_true S.ceiling S.device ds env t c a b m.env;
        }
    may_if_branch false =
        record {
          typed = m.typed.7;
          suits = m.suits;
          vars = if_vars S.ceiling S.device ds env t c a b m.env false scope
              vars m.vars;
          env = if_sees_false S.ceiling S.device ds env t c a b m.env;
        }

  module _ {a b : Term} (m : May D S scope p (Let t a b) ds vars env) where
    pub may_let_value : May D S scope (suc p) a ds vars (child_env 0 env)
    may_let_value =
        record {
          typed = m.typed.1;
          suits = m.suits;
          vars = m.vars;
          env = let_sees_value S.ceiling S.device ds env t a b m.env;
        }

    pub may_let_body : {v : AnyValue} {tree : Tree} → eval_of S (suc p) a vars (child_env 0 env) ≡ Some (v, tree)
        → May D S ((p, term_type a) ∷ scope) (suc p + size a) b ds ((p, v) ∷ vars) (child_env 1 env)
    may_let_body {v} {tree} e = record {
      typed = m.typed.2;
      suits = m.suits;
      vars = (
        refl,
        bound_fits S.ceiling S.device ds (term_type a) v m.env.rising m.env.other (may_value may_let_value e),
        m.vars,
      );
      env = let_sees_body S.ceiling S.device ds env t a b m.env;
    }

  pub may_apply : {o : Builtin} {xs : Terms} → May D S scope p (Apply t o xs) ds vars env
      → MayAll D S scope (suc p) 0 xs ds vars env
  may_apply {o} {xs} m =
      may_kids D S scope ds vars env xs (suc p) 0 m.typed.1 m.suits m.vars
      (apply_sees S.ceiling S.device ds env t o xs m.env)

-- the same under equal names
pub may_at : {D : Declarations} {S : Situation} {scope : Scope} {p p' : ℕ} {t t' : Term} {k k' : ℕ} {ds : List ℕ}
    {vars : Vars} (env : FlatEnv) → p ≡ p' → t ≡ t' → k ≡ k'
    → May D S scope p t ds vars (env_at t k env) → May D S scope p' t' ds vars (env_at t' k' env)
may_at {D} {S} {scope} {p} {p'} {t} {t'} {k} {k'} {ds} {vars} env e f g m =
    subst (λ q. May D S scope q t' ds vars (env_at t' k' env)) e
    (subst (λ u. May D S scope p u ds vars (env_at u k' env)) f
    (subst (λ j. May D S scope p t ds vars (env_at t j env)) g m))

-- the neighbours are those of the exports
pub may_near : {D : Declarations} {S : Situation} {scope : Scope} {p : ℕ} {t : Term} (k : ℕ) {ds : List ℕ} {vars : Vars}
    (env : FlatEnv) → May D S scope p t ds vars (env_at t k env)
    → May D S scope p t (near_numbers env.near) vars (env_at t k env)
may_near {D} {S} {scope} {p} {t} k {ds} {vars} env m =
    subst (λ ns. May D S scope p t ns vars (env_at t k env)) (sym m.env.numbers ∙ numbers_same t k env.near) m

-- the type that a node names
pub type_by : (go : ℕ → Term) (s : Sort) (t : ValueType) (ks : List ℕ) → term_type (term_by go s t ks) ≡ t
type_by go (OfLeaf l) t ks = refl
type_by go (OfApply o) t ks = refl
type_by go OfNbr t [] = refl
type_by go OfNbr t (a ∷ []) = refl
type_by go OfNbr t (a ∷ b ∷ ks) = refl
type_by go (OfEvolve e) t [] = refl
type_by go (OfEvolve e) t (a ∷ []) = refl
type_by go (OfEvolve e) t (a ∷ b ∷ []) = refl
type_by go (OfEvolve e) t (a ∷ b ∷ c ∷ ks) = refl
type_by go OfIf t [] = refl
type_by go OfIf t (a ∷ []) = refl
type_by go OfIf t (a ∷ b ∷ []) = refl
type_by go OfIf t (a ∷ b ∷ c ∷ []) = refl
type_by go OfIf t (a ∷ b ∷ c ∷ d ∷ ks) = refl
type_by go OfLet t [] = refl
type_by go OfLet t (a ∷ []) = refl
type_by go OfLet t (a ∷ b ∷ []) = refl
type_by go OfLet t (a ∷ b ∷ c ∷ ks) = refl

pub node_type : {ns : List Node} (p : ℕ) {s : Sort} {t : ValueType} {ks : List ℕ} → WellFormed ns → HasNode ns p s t ks
    → term_type (term_at ns p) ≡ t
node_type {ns} p {s} {t} {ks} w h = ap term_type (term_is ns (formed_above ns w) p s t ks h) ∙ type_by (term_at ns) s t ks
