-- Crates above cite this module: what is seen by seats fires to what lies in the bound that they fire to.
use Rattle.std.proofs.Common.{◌≡◌, ℕ, zero, suc, ◌+◌, List, [], ◌∷◌, refl, sym, ◌∙◌, ap, subst, Bool, true, false, min}
use Rattle.std.proofs.Common.{Option, Some, None, if◌then◌else◌}
use Rattle.std.specs.Prelude.{nat_eq, slice_get}
use Rattle.fc_values.specs.Types.{ValueType}
use Rattle.fc_values.specs.Values.{LocalValue, IntValue, BoolValue}
use Rattle.fc_values.specs.Fields.{AnyValue, ValueLocal, ValueField}
use Rattle.fc_values.specs.Trees.{Tree, Trees, Keep, Done, Then, kept_of, child, nth_tree}
use Rattle.fc_nodes.specs.Terms.{Variable, NbrLink, Evolution, ByRep, ByShare, Term, Terms, Plain, Apply, Nbr, Evolve}
use Rattle.fc_nodes.specs.Terms.{If, Let, More, size}
use Rattle.alignment.specs.Environments.{Env, NearTree, branch_env}
use Rattle.alignment.specs.Scopes.{Vars, variable_at}
use Rattle.device_eval.specs.Evaluation.{Situation}
use Rattle.device_eval.specs.Rules.{Evaluates, EvaluateAll, literal, variable, sense, uid, nbr_link, builtin, nbr, rep}
use Rattle.device_eval.specs.Rules.{share, if_true, if_false, binding, none, one_more}
use Rattle.value_bounds.specs.BoundValues.{BoundValue, Lies}
use Rattle.value_bounds.specs.BoundBuiltins.{AnyBound, BoundLocal, BoundField, BoundAny, LiesIn, AllLieIn}
use Rattle.bound_firing.specs.BoundTrees.{BoundTree, BoundTrees, Hold, NoneBelow, Below, held, nth_below, below}
use Rattle.bound_firing.specs.BoundTrees.{KeptLies, TreeLies, TreesLie}
use Rattle.bound_firing.specs.Seats.{NearSeat, Seats, child_seats, branch_seats, may_be, Fitting, OwnSeen, SeenNear}
use Rattle.bound_firing.specs.Seats.{no_seat, takes, free, Sees}
use Rattle.bound_firing.specs.Firing.{BoundVars, variable_bound, VarsLie, local_part, InputsLie, BoundSituation, bounding, input_bound, own_bound}
use Rattle.bound_firing.specs.Firing.{evolving_bound, either_bound, bound_of, bounds_of, Lands, FiringsLand}
use Rattle.value_bounds.proofs.Values.{lies_exactly, either_left, either_right}
use Rattle.bound_firing.proofs.Branch.{kids, branch, may_hold, restricts}
use Rattle.bound_firing.proofs.Hearing.{weights_lie, kept_lie, own_lies}
use Rattle.value_bounds.proofs.Builtins.{builtin_lies}

-- ---- what is seen, by another relation

module _ (Q R : Fitting) (d : ℕ) (f : (B : BoundTree) (T : Tree) → Q B T → R B T) where
  near_as : {ss : List NearSeat} {ns : List NearTree} → SeenNear Q ss ns → SeenNear R ss ns
  near_as no_seat = no_seat
  near_as (takes s n t h) = takes s n (record { device = t.device; weight = t.weight; fits = f s.tree n.2 t.fits })
      (near_as h)
  near_as (free s u h) = free s u (near_as h)

  own_as : (s : Option (Bool × BoundTree)) (o : Option Tree) → OwnSeen Q s o → OwnSeen R s o
  own_as None None h = tt
  own_as None (Some T) h = absurd h
  own_as (Some s) None h = h
  own_as (Some s) (Some T) h = f s.1 T h

  pub seen_as : (seats : Seats) (env : Env) → Sees Q d seats env → Sees R d seats env
  seen_as seats env h = record { own = own_as seats.own env.own h.own; near = near_as h.near; apart = h.apart }

-- ---- variables and local parts

pub local_lies : (d : ℕ) (b : AnyBound) (v : LocalValue) → LiesIn d b (ValueLocal v) → Lies (local_part b) v
local_lies d (BoundLocal b) v h = h
local_lies d (BoundField own es') v h = absurd h
local_lies d BoundAny v h = tt

variable_lies : (d n : ℕ) (bs : BoundVars) (vs : Vars) (v : AnyValue) → VarsLie d bs vs → variable_at n vs ≡ Some v
    → LiesIn d (variable_bound n bs) v
variable_lies d n [] [] v h e = absurd cc
variable_lies d n [] (x ∷ vs) v h e = absurd h
variable_lies d n (b ∷ bs) [] v h e = absurd h
variable_lies d n (b ∷ bs) (x ∷ vs) v h e = by_test (nat_eq b.0 n) refl (ap (λ i. nat_eq i n) h.0) e
    (variable_lies d n bs vs v h.2)
  where
    by_test : (c : Bool) → nat_eq b.0 n ≡ c → nat_eq b.0 n ≡ nat_eq x.0 n
        → (if nat_eq x.0 n then Some x.1 else variable_at n vs) ≡ Some v
        → (variable_at n vs ≡ Some v → LiesIn d (variable_bound n bs) v)
        → LiesIn d (if nat_eq b.0 n then b.1 else variable_bound n bs) v
    by_test true q s g ih = let t = sym s ∙ q in let g' = rw t at g in let same : x.1 ≡ v = cc in
        rw q (subst (LiesIn d b.1) same h.1)
    by_test false q s g ih = let t = sym s ∙ q in let g' = rw t at g in rw q (ih g')

input_lies : (ins : List BoundValue) (vs : List LocalValue) (i : ℕ) (v : LocalValue) → InputsLie ins vs
    → slice_get vs i ≡ Some v → Lies (input_bound (slice_get ins i)) v
input_lies [] [] i v h e = absurd cc
input_lies [] (x ∷ vs) i v h e = absurd h
input_lies (b ∷ bs) [] i v h e = absurd h
input_lies (b ∷ bs) (x ∷ vs) zero v h e = let same : x ≡ v = cc in subst (Lies b) same h.0
input_lies (b ∷ bs) (x ∷ vs) (suc i) v h e = input_lies bs vs i v h.1 e

-- ---- kids of a tree and of its bound

abbrev pub trees_from : ℕ → Trees → Trees
trees_from zero ts = ts
trees_from (suc i) Done = Done
trees_from (suc i) (Then t ts) = trees_from i ts

abbrev pub kids_from : ℕ → Tree → Trees
kids_from i (Keep v ts) = trees_from i ts

abbrev pub bounds_from : ℕ → BoundTrees → BoundTrees
bounds_from zero bs = bs
bounds_from (suc i) NoneBelow = NoneBelow
bounds_from (suc i) (Below b bs) = bounds_from i bs

abbrev pub below_from : ℕ → BoundTree → BoundTrees
below_from i (Hold b bs) = bounds_from i bs

tree_from : (i : ℕ) (us : Trees) (t : Tree) (ts : Trees) → trees_from i us ≡ Then t ts → (nth_tree i us ≡ t)
    × (trees_from (suc i) us ≡ ts)
tree_from zero Done t ts e = absurd cc
tree_from zero (Then t' ts') t ts e = (cc, cc)
tree_from (suc i) Done t ts e = absurd cc
tree_from (suc i) (Then t' ts') t ts e = tree_from i ts' t ts e

pub kid_is : (i : ℕ) (T t : Tree) (ts : Trees) → kids_from i T ≡ Then t ts → (child i T ≡ t)
    × (kids_from (suc i) T ≡ ts)
kid_is i (Keep v us) t ts e = tree_from i us t ts e

bound_from : (i : ℕ) (us : BoundTrees) (t : BoundTree) (ts : BoundTrees) → bounds_from i us ≡ Below t ts
    → (nth_below i us ≡ t) × (bounds_from (suc i) us ≡ ts)
bound_from zero NoneBelow t ts e = absurd cc
bound_from zero (Below t' ts') t ts e = (cc, cc)
bound_from (suc i) NoneBelow t ts e = absurd cc
bound_from (suc i) (Below t' ts') t ts e = bound_from i ts' t ts e

pub below_is : (i : ℕ) (B b : BoundTree) (bs : BoundTrees) → below_from i B ≡ Below b bs → (below i B ≡ b)
    × (below_from (suc i) B ≡ bs)
below_is i (Hold v us) b bs e = bound_from i us b bs e

-- ---- either

first_lies : (d : ℕ) (t : Bool) (A B : AnyBound) (v : AnyValue) → LiesIn d A v → LiesIn d (either_bound true t A B) v
first_lies d false A B v h = h
first_lies d true (BoundLocal a) (BoundLocal b) (ValueLocal v) h = either_left a b v h
first_lies d true (BoundLocal a) (BoundLocal b) (ValueField es) h = absurd h
first_lies d true (BoundLocal a) (BoundField own es') v h = tt
first_lies d true (BoundLocal a) BoundAny v h = tt
first_lies d true (BoundField own es') B v h = tt
first_lies d true BoundAny B v h = tt

second_lies : (d : ℕ) (t : Bool) (A B : AnyBound) (v : AnyValue) → LiesIn d B v → LiesIn d (either_bound t true A B) v
second_lies d false A B v h = h
second_lies d true (BoundLocal a) (BoundLocal b) (ValueLocal v) h = either_right a b v h
second_lies d true (BoundLocal a) (BoundLocal b) (ValueField es) h = absurd h
second_lies d true (BoundLocal a) (BoundField own es') v h = tt
second_lies d true (BoundLocal a) BoundAny v h = tt
second_lies d true (BoundField own es') B v h = tt
second_lies d true BoundAny B v h = tt

-- ---- the law

-- the same for terms one after another
record LandAll (S : Situation) (ins : List BoundValue) (p i : ℕ) (xs : Terms) (vars : BoundVars) (seats : Seats) (vs : List AnyValue)
    (ts : Trees) : Type 0 where
  pub lie : AllLieIn S.device (bounds_of (bounding S ins) p i xs vars seats).0 vs
  pub kept : (B : BoundTree) (T : Tree) → below_from i B ≡ (bounds_of (bounding S ins) p i xs vars seats).1 → kids_from i T ≡ ts
      → TreesLie i xs B T

-- what a node with a slot keeps lies in what is held
kept_nbr : (t : ValueType) (a : Term) (B : BoundTree) (T : Tree) → TreeLies (Nbr t a) B T
    → KeptLies (held B) (kept_of T)
kept_nbr t a B T h = h.0

kept_evolve : (t : ValueType) (e : Evolution) (a b : Term) (B : BoundTree) (T : Tree) → TreeLies (Evolve t e a b) B T
    → KeptLies (held B) (kept_of T)
kept_evolve t e a b B T h = h.0

kept_if : (t : ValueType) (c a b : Term) (B : BoundTree) (T : Tree) → TreeLies (If t c a b) B T
    → KeptLies (held B) (kept_of T)
kept_if t c a b B T h = h.0

module _ (S : Situation) (ins : List BoundValue) (fits : InputsLie ins S.inputs) where
  abbrev d : ℕ
  d = S.device

  abbrev site : BoundSituation
  site = bounding S ins

  mutual
    fires : {p : ℕ} {t : Term} {vars : Vars} {env : Env} {v : AnyValue} {tree : Tree} → Evaluates S p t vars env v tree
        → (bs : BoundVars) (seats : Seats) → VarsLie d bs vars → Sees (TreeLies t) d seats env
        → Lands S ins p t bs seats v tree
    fires (literal {p} {vars} {env} t v) bs seats u s = record { lies = lies_exactly v; kept = tt }
    fires (variable {p} {vars} {env} t n v e) bs seats u s = record {
      lies = restricts (TreeLies (Plain t (Variable n))) d seats.near env.near (variable_bound n bs) v s.near
          (variable_lies d n bs vars v u e);
      kept = tt;
    }
    fires (sense {p} {vars} {env} t i v e) bs seats u s = record
        { lies = input_lies ins S.inputs i v fits e; kept = tt }
    fires (uid {p} {vars} {env} t) bs seats u s = record
        { lies = lies_exactly (IntValue (min S.device S.ceiling)); kept = tt }
    fires (nbr_link {p} {vars} {env} t) bs seats u s = record
        { lies = weights_lie (TreeLies (Plain t NbrLink)) d seats.near env.near S.least s.apart s.near; kept = tt }
    fires (builtin {p} {vars} {env} t o xs vs ts v es e) bs seats u s =
        let r = fire_all es bs seats u (seen_as (TreeLies (Apply t o xs)) (TreesLie 0 xs) d (λ B T h. h) seats env s) in
        record {
          lies = builtin_lies o S.ceiling d (bounds_of site (suc p) 0 xs bs seats).0 vs v r.lie e;
          kept = r.kept (bound_of site p (Apply t o xs) bs seats).1 (Keep None ts) refl refl;
        }
    fires (nbr {p} {vars} {env} t a v ta es ea e) bs seats u s =
        let r = fires ea bs (child_seats 0 seats) u
        (kids (TreeLies (Nbr t a)) (TreeLies a) d 0 0 (λ B T h. h.1) seats env s) in
        let l = local_lies d (bound_of site (suc p) a bs (child_seats 0 seats)).0 v r.lies in
        record {
          lies = kept_lie (TreeLies (Nbr t a)) (kept_nbr t a) d seats.near env.near es
              (local_part (bound_of site (suc p) a bs (child_seats 0 seats)).0) v s.apart s.near e l;
          kept = (l, r.kept);
        }
    fires (rep {p} {vars} {env} t a b first x v ta tb ea e eb) bs seats u s =
        let r = fires ea bs (child_seats 0 seats) u
        (kids (TreeLies (Evolve t ByRep a b)) (TreeLies a) d 0 0 (λ B T h. h.1) seats env s) in
        let l = local_lies d (bound_of site (suc p) a bs (child_seats 0 seats)).0 first r.lies in
        let k = own_lies (TreeLies (Evolve t ByRep a b)) (kept_evolve t ByRep a b) seats.own env.own
        (local_part (bound_of site (suc p) a bs (child_seats 0 seats)).0) first x s.own e l in
        let q = fires eb ((p, evolving_bound ByRep seats (local_part (bound_of site (suc p) a bs (child_seats 0 seats)).0))
        ∷ bs) (child_seats 1 seats) (refl, k, u)
        (kids (TreeLies (Evolve t ByRep a b)) (TreeLies b) d 1 1 (λ B T h. h.2) seats env s) in
        let m = local_lies d (bound_of site (suc p + size a) b
        ((p, evolving_bound ByRep seats (local_part (bound_of site (suc p) a bs (child_seats 0 seats)).0)) ∷ bs)
        (child_seats 1 seats)).0 v q.lies in
        record { lies = m; kept = (m, r.kept, q.kept) }
    fires (share {p} {vars} {env} t a b first x v es ta tb ea e e' eb) bs seats u s =
        let r = fires ea bs (child_seats 0 seats) u
        (kids (TreeLies (Evolve t ByShare a b)) (TreeLies a) d 0 0 (λ B T h. h.1) seats env s) in
        let l = local_lies d (bound_of site (suc p) a bs (child_seats 0 seats)).0 first r.lies in
        let k = own_lies (TreeLies (Evolve t ByShare a b)) (kept_evolve t ByShare a b) seats.own env.own
        (local_part (bound_of site (suc p) a bs (child_seats 0 seats)).0) first x s.own e l in
        let f = kept_lie (TreeLies (Evolve t ByShare a b)) (kept_evolve t ByShare a b) d seats.near env.near es
        (own_bound seats.own (local_part (bound_of site (suc p) a bs (child_seats 0 seats)).0)) x s.apart s.near e' k
        in
        let q = fires eb ((
          p,
          evolving_bound ByShare seats
              (local_part (bound_of site (suc p) a bs (child_seats 0 seats)).0),
        ) ∷ bs) (child_seats 1 seats) (refl, f, u)
        (kids (TreeLies (Evolve t ByShare a b)) (TreeLies b) d 1 1 (λ B T h. h.2) seats env s) in
        let m = local_lies d (bound_of site (suc p + size a) b
        ((p, evolving_bound ByShare seats (local_part (bound_of site (suc p) a bs (child_seats 0 seats)).0)) ∷ bs)
        (child_seats 1 seats)).0 v q.lies in
        record { lies = m; kept = (m, r.kept, q.kept) }
    fires (if_true {p} {vars} {env} t c a b v tc tk ec ea) bs seats u s =
        let r = fires ec bs (child_seats 0 seats) u
        (kids (TreeLies (If t c a b)) (TreeLies c) d 0 0 (λ B T h. h.1) seats env s) in
        let l = local_lies d (bound_of site (suc p) c bs (child_seats 0 seats)).0 (BoolValue true) r.lies in
        let may = may_hold true (local_part (bound_of site (suc p) c bs (child_seats 0 seats)).0) l in
        let s' = branch true d (TreeLies (If t c a b)) (λ B T. TreeLies a (below 1 B) (child 1 T)) (kept_if t c a b)
        (λ B T e h. h.2 e) seats env s in
        let q = fires ea bs (child_seats 1 (branch_seats true seats)) u
        (kids (λ B T. TreeLies a (below 1 B) (child 1 T)) (TreeLies a) d 1 1 (λ B T h. h) (branch_seats true seats)
        (branch_env true env) s') in
        record {
          lies = rw may (first_lies d (may_be false (local_part (bound_of site (suc p) c bs (child_seats 0 seats)).0))
              (bound_of site (suc p + size c) a bs (child_seats 1 (branch_seats true seats))).0
              (bound_of site (suc p + size c + size a) b bs (child_seats 2 (branch_seats false seats))).0 v q.lies);
          kept = (l, r.kept, (λ e. rw may q.kept), (λ e. absurd cc));
        }
    fires (if_false {p} {vars} {env} t c a b v tc tk ec eb) bs seats u s =
        let r = fires ec bs (child_seats 0 seats) u
        (kids (TreeLies (If t c a b)) (TreeLies c) d 0 0 (λ B T h. h.1) seats env s) in
        let l = local_lies d (bound_of site (suc p) c bs (child_seats 0 seats)).0 (BoolValue false) r.lies in
        let may = may_hold false (local_part (bound_of site (suc p) c bs (child_seats 0 seats)).0) l in
        let s' = branch false d (TreeLies (If t c a b)) (λ B T. TreeLies b (below 2 B) (child 1 T)) (kept_if t c a b)
        (λ B T e h. h.3 e) seats env s in
        let q = fires eb bs (child_seats 2 (branch_seats false seats)) u
        (kids (λ B T. TreeLies b (below 2 B) (child 1 T)) (TreeLies b) d 2 1 (λ B T h. h) (branch_seats false seats)
        (branch_env false env) s') in
        record {
          lies = rw may (second_lies d (may_be true (local_part (bound_of site (suc p) c bs (child_seats 0 seats)).0))
              (bound_of site (suc p + size c) a bs (child_seats 1 (branch_seats true seats))).0
              (bound_of site (suc p + size c + size a) b bs (child_seats 2 (branch_seats false seats))).0 v q.lies);
          kept = (l, r.kept, (λ e. absurd cc), (λ e. rw may q.kept));
        }
    fires (binding {p} {vars} {env} t a b r' v ta tb ea eb) bs seats u s =
        let r = fires ea bs (child_seats 0 seats) u
        (kids (TreeLies (Let t a b)) (TreeLies a) d 0 0 (λ B T h. h.0) seats env s) in
        let q = fires eb ((p, (bound_of site (suc p) a bs (child_seats 0 seats)).0) ∷ bs) (child_seats 1 seats)
        (refl, r.lies, u)
        (kids (TreeLies (Let t a b)) (TreeLies b) d 1 1 (λ B T h. h.1) seats env s) in
        record { lies = q.lies; kept = (r.kept, q.kept) }

    fire_all : {p i : ℕ} {xs : Terms} {vars : Vars} {env : Env} {vs : List AnyValue} {ts : Trees}
        → EvaluateAll S p i xs vars env vs ts → (bs : BoundVars) (seats : Seats) → VarsLie d bs vars
        → Sees (TreesLie i xs) d seats env
        → LandAll S ins p i xs bs seats vs ts
    fire_all (none {p} {i} {vars} {env}) bs seats u s = record { lie = tt; kept = λ B T k k'. tt }
    fire_all (one_more {p} {i} {vars} {env} x xs v vs t ts e es) bs seats u s =
        let r = fires e bs (child_seats i seats) u
        (kids (TreesLie i (More x xs)) (TreeLies x) d i i (λ B T h. h.0) seats env s) in
        let q = fire_all es bs seats u (seen_as (TreesLie i (More x xs)) (TreesLie (suc i) xs) d
        (λ B T h. h.1) seats env s) in
        record {
          lie = (r.lies, q.lie);
          kept = λ B T k k'.
              let w = below_is i B (bound_of site p x bs (child_seats i seats)).1
              (bounds_of site (p + size x) (suc i) xs bs seats).1 k in
              let w' = kid_is i T t ts k' in (
                subst (λ y. TreeLies x y (child i T)) (sym w.0)
                    (subst (TreeLies x (bound_of site p x bs (child_seats i seats)).1) (sym w'.0) r.kept),
                q.kept B T w.1 w'.1,
              );
        }

pub firings_land : FiringsLand
firings_land S ins p t vars env v tree bs seats fits u s e = fires S ins fits e bs seats u s
