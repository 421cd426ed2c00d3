-- A term beneath builtins of another one, with the place at which it stands there.
use Rattle.std.proofs.Common.{◌≡◌, ℕ, suc, ◌+◌, ◌≤◌, List, [], ◌∷◌, ◌++◌, refl, arith, None}
use Rattle.std.specs.declared.result.Result.{Result}
use Rattle.std.specs.declared.result.Result.TheVariants.{Ok, Err}
use Rattle.fc_values.specs.declared.builtins.Builtin.{Builtin}
use Rattle.fc_values.specs.Types.{ValueType, Declarations}
use Rattle.fc_nodes.specs.declared.nodes.Node.{Node}
use Rattle.fc_nodes.specs.declared.verdicts.Reason.{Reason}
use Rattle.fc_nodes.specs.Terms.{Term, Terms, Apply, More, size, Laid}
use Rattle.fc_nodes.specs.Typing.{Scope, HasType}
use Rattle.topology.specs.Networks.{Network}
use Rattle.interval_facts.specs.Ranges.{RangeValue, Bounds, node_ranges, all_node_ranges}
use Rattle.interval_facts.specs.Solutions.{Devices, ValueMap, ValueMaps, Solves, SolveAll}
use Rattle.interval_facts.proofs.Tables.{Shows, shows_first, shows_second, as_many}
use Rattle.fragment_check.specs.declared.kinds.Pattern.{Pattern}
use Rattle.fragment_check.specs.Patterns.{JudgedPlace, judged, all_judged, first_refused, refusal_first}
use Rattle.converge_laws.specs.Fragment.{Analysis, TermInFragment}

pub data Under : ℕ → Term → ℕ → Term → Type 0 where
  here : (p : ℕ) (t : Term) → Under p t p t
  first : (p : ℕ) (t : ValueType) (o : Builtin) (x : Term) (xs : Terms) (q : ℕ) (u : Term) → Under (suc p) x q u
      → Under p (Apply t o (More x xs)) q u
  second : (p : ℕ) (t : ValueType) (o : Builtin) (x y : Term) (ys : Terms) (q : ℕ) (u : Term) → Under (suc p + size x) y q u
      → Under p (Apply t o (More x (More y ys))) q u

pub typed_under : (D : Declarations) (scope : Scope) (p : ℕ) (T : Term) (q : ℕ) (u : Term) → Under p T q u → HasType D scope p T → HasType D scope q u
typed_under D scope p T q u (here p' t') h = h
typed_under D scope p T q u (first p' t o x xs q' u' k) h = typed_under D scope (suc p') x q' u' k h.1.0
typed_under D scope p T q u (second p' t o x y ys q' u' k) h = typed_under D scope (suc p' + size x) y q' u' k h.1.1.0

pub laid_under : (ns : List Node) (p : ℕ) (T : Term) (q : ℕ) (u : Term) → Under p T q u → Laid ns p T → Laid ns q u
laid_under ns p T q u (here p' t') h = h
laid_under ns p T q u (first p' t o x xs q' u' k) h = laid_under ns (suc p') x q' u' k h.1.0
laid_under ns p T q u (second p' t o x y ys q' u' k) h = laid_under ns (suc p' + size x) y q' u' k h.1.1.0

-- none of a list is refused where none of two parts is
none_first : (xs ys : List JudgedPlace) → first_refused (xs ++ ys) ≡ None → (first_refused xs ≡ None) × (first_refused ys ≡ None)
none_first [] ys e = (refl, e)
none_first (j ∷ xs) ys e = by_result j.1 e (none_first xs ys)
  where
    by_result : (r : Result Pattern Reason) → refusal_first j.0 r (first_refused (xs ++ ys)) ≡ None
        → (first_refused (xs ++ ys) ≡ None → (first_refused xs ≡ None) × (first_refused ys ≡ None))
        → (refusal_first j.0 r (first_refused xs) ≡ None) × (first_refused ys ≡ None)
    by_result (Ok a) e rest = rest e
    by_result (Err r) e rest = absurd cc

pub judged_under : (m : ℕ) (R : ℕ → RangeValue) (p : ℕ) (T : Term) (q : ℕ) (u : Term) → Under p T q u → first_refused (judged m R p T) ≡ None
    → first_refused (judged m R q u) ≡ None
judged_under m R p T q u (here p' t') h = h
judged_under m R p T q u (first p' t o x xs q' u' k) h =
    judged_under m R (suc p') x q' u' k (none_first (judged m R (suc p') x) (all_judged m R (suc p' + size x) xs) h).0
judged_under m R p T q u (second p' t o x y ys q' u' k) h =
    let rest = (none_first (judged m R (suc p') x) (all_judged m R (suc p' + size x) (More y ys)) h).1 in
    judged_under m R (suc p' + size x) y q' u' k
    (none_first (judged m R (suc p' + size x) y) (all_judged m R (suc p' + size x + size y) ys) rest).0

pub shows_under : (D : Declarations) (cs : Bounds) (R : ℕ → RangeValue) (p : ℕ) (T : Term) (q : ℕ) (u : Term) → Under p T q u
    → Shows R p (node_ranges D cs p T) → Shows R q (node_ranges D cs q u)
shows_under D cs R p T q u (here p' t') h = h
shows_under D cs R p T q u (first p' t o x xs q' u' k) h =
    shows_under D cs R (suc p') x q' u' k
    (shows_first R (suc p') (size x) (node_ranges D cs (suc p') x) (all_node_ranges D cs (suc p' + size x) xs) (as_many D x cs (suc p')) h.1)
shows_under D cs R p T q u (second p' t o x y ys q' u' k) h =
    let rest = shows_second R (suc p') (size x) (node_ranges D cs (suc p') x) (all_node_ranges D cs (suc p' + size x) (More y ys)) (as_many D x cs (suc p')) h.1 in
    shows_under D cs R (suc p' + size x) y q' u' k
    (shows_first R (suc p' + size x) (size y) (node_ranges D cs (suc p' + size x) y) (all_node_ranges D cs (suc p' + size x + size y) ys) (as_many D y cs (suc p' + size x)) rest)

pub fragment_under : (A : Analysis) (m p : ℕ) (T : Term) (q : ℕ) (u : Term) → Under p T q u → TermInFragment A m p T → TermInFragment A m q u
fragment_under A m p T q u (here p' t') h = h
fragment_under A m p T q u (first p' t o x xs q' u' k) h = fragment_under A m (suc p') x q' u' k h.0
fragment_under A m p T q u (second p' t o x y ys q' u' k) h = fragment_under A m (suc p' + size x) y q' u' k h.1.0

-- a solution rests on one
pub record Rests (N : Network) (q : ℕ) (u : Term) (D : Devices) (V : ValueMaps) : Type 0 where
  pub map : ValueMap
  pub solves : Solves N q u D V map

pub rests_first : (N : Network) (p : ℕ) (x : Term) (xs : Terms) (D : Devices) (V : ValueMaps) (Gs : List ValueMap) → SolveAll N p (More x xs) D V Gs
    → (G : ValueMap) × (Hs : List ValueMap) × (Gs ≡ G ∷ Hs) × Solves N p x D V G × SolveAll N (p + size x) xs D V Hs
rests_first N p x xs D V [] s = absurd s
rests_first N p x xs D V (G ∷ Gs) s = (G, Gs, refl, s.0, s.1)

pub solves_under : (N : Network) (p : ℕ) (T : Term) (q : ℕ) (u : Term) (D : Devices) (V : ValueMaps) → Under p T q u → (F : ValueMap) → Solves N p T D V F → Rests N q u D V
solves_under N p T q u D V (here p' t') F s = record { map = F; solves = s }
solves_under N p T q u D V (first p' t o x xs q' u' k) F s =
    let r = rests_first N (suc p') x xs D V s.1 s.2 in
    solves_under N (suc p') x q' u' D V k r.0 r.3
solves_under N p T q u D V (second p' t o x y ys q' u' k) F s =
    let r = rests_first N (suc p') x (More y ys) D V s.1 s.2 in
    let z = rests_first N (suc p' + size x) y ys D V r.1 r.4 in
    solves_under N (suc p' + size x) y q' u' D V k z.0 z.3

pub under_size : (p : ℕ) (T : Term) (q : ℕ) (u : Term) → Under p T q u → (p ≤ q) × (q + size u ≤ p + size T)
under_size p T q u (here p' t') = (omega arith, omega arith)
under_size p T q u (first p' t o x xs q' u' k) = let r = under_size (suc p') x q' u' k in let a = r.0 in let b = r.1 in (omega (arith, a), omega (arith, b))
under_size p T q u (second p' t o x y ys q' u' k) = let r = under_size (suc p' + size x) y q' u' k in let a = r.0 in let b = r.1 in (omega (arith, a), omega (arith, b))
