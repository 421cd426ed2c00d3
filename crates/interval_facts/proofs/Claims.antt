-- Crates above cite this module: a solution lies in its ranges, node by node.
use Rattle.std.proofs.Common.{◌≡◌, ℕ, suc, ◌≤◌, ◌<◌, ◌+◌, List, [], ◌∷◌, length, refl, sym, ◌∙◌, ap, subst, arith, Bool, true, false, ◌&&◌, Option, Some, None, option_map, nat_eq, nat_lt}
use Rattle.std.specs.Prelude.{if◌then◌else◌}
use Rattle.std.proofs.lemmas.List.{length-map}
use Rattle.fc_values.specs.declared.builtins.Builtin.{Builtin}
use Rattle.fc_values.specs.Types.{LocalType, ValueType, TypeLocal, TypeField}
use Rattle.fc_values.specs.Values.{LocalValue, IntValue, BoolValue, PairValue, Fits}
use Rattle.fc_values.specs.Fields.{AnyValue, ValueLocal, ValueField, device_of, with_number, FitsOver, FitEachOver}
use Rattle.fc_values.specs.Builtins.{is_hood, hood_value, local_value, builtin_value}
use Rattle.fc_values.specs.BuiltinTypes.{inner, inners, rule_by, HasRule}
use Rattle.fc_values.specs.Positions.{argument_nth, arguments_nth}
use Rattle.fc_values.proofs.BuiltinTyped.{arguments_fit}
use Rattle.fc_nodes.specs.Terms.{Leaf, Literal, Variable, Sense, Uid, NbrLink, Evolution, ByRep, ByShare, Term, Terms, Plain, Apply, Nbr, Evolve, If, Let, NoMore, More, term_type, size}
use Rattle.fc_nodes.specs.Typing.{Scope, type_at, evolving_type, types_of, LeafHasType, HasType, HaveTypes}
use Rattle.alignment.specs.Environments.{same_truth}
use Rattle.topology.specs.Networks.{Network, IsNetwork, inputs_in}
use Rattle.topology.specs.Nearby.{neighbour_numbers}
use Rattle.topology.proofs.Lemmas.{inputs_fit}
use Rattle.interval_facts.specs.Ranges.{RangeValue, IntRange, InRange, AllInRange, LiesIn, full, hull, builtin_range, Bounds, binding_range, literal_range, leaf_range, term_range, term_ranges, node_ranges, all_node_ranges}
use Rattle.interval_facts.specs.Solutions.{Devices, In, ValueMap, ValueMaps, bind, near_among, around, FitsOn, local_map, evolved, where_is, at_device, LeafIs, Solves, SolveAll}
use Rattle.interval_facts.specs.Claims.{MapLiesIn, InRanges, AllInRanges}
use Rattle.interval_facts.proofs.Orders.{in_full}
use Rattle.interval_facts.proofs.Operators.{MaybeLies, operator_lies}
use Rattle.interval_facts.proofs.Hoods.{EachLiesIn, NoneIsEmpty, hood_lies}
use Rattle.interval_facts.specs.Scopes.{HasForm, BoundsFit}
pub use Rattle.interval_facts.specs.Scopes.{found, BoundsHold, Alive}
use Rattle.interval_facts.proofs.Forms.{full_as, hull_has_first, hull_has_second, range_form}
use Rattle.interval_facts.proofs.Pointwise.{OverThem, AllOver, pointwise_nth}
use Rattle.interval_facts.proofs.Tables.{Shows, shows_first, shows_second, as_many}
use Rattle.interval_facts.proofs.Values.{restricted_lies, field_lies, links_lie, sense_lies, lies_by_positions, arguments_lie}

-- there is a device around each
pub some_around : (d : ℕ) (ns : List ℕ) → 0 < length (with_number d ns)
some_around d [] = omega arith
some_around d (n ∷ ns) = by_test (nat_lt d n)
  where
    by_test : (c : Bool) → 0 < length (if c then (d ∷ n ∷ ns) else (n ∷ with_number d ns))
    by_test true = omega arith
    by_test false = omega arith

-- one binder more
pub bound_holds : (D : Devices) (p : ℕ) (r : RangeValue) (G : ValueMap) (bs : Bounds) (V : ValueMaps) → MapLiesIn D r G → BoundsHold D bs V → BoundsHold D ((p, r) ∷ bs) (bind p G V)
bound_holds D p r G bs V g h n s e d i = by_test (nat_eq p n) e
  where
    by_test : (c : Bool) → (if c then Some r else found n bs) ≡ Some s → LiesIn s ((if c then G else V n) d)
    by_test true e = let same : r ≡ s = cc in subst (λ x. LiesIn x (G d)) same (g d i)
    by_test false e = h n s e d i

is_found : (other : RangeValue) (n : ℕ) (t : ValueType) (bs : Scope) (cs : Bounds) → type_at n bs ≡ Some t → BoundsFit bs cs → found n cs ≡ Some (binding_range other n cs)
is_found other n t [] [] e h = absurd cc
is_found other n t [] (c ∷ cs) e h = absurd h
is_found other n t (b ∷ bs) [] e h = absurd h
is_found other n t (b ∷ bs) (c ∷ cs) e h = by_test (nat_eq c.0 n) refl (λ k. is_found other n t bs cs k h.2)
  where
    by_test : (own : Bool) → nat_eq c.0 n ≡ own → (type_at n bs ≡ Some t → found n cs ≡ Some (binding_range other n cs)) →
        (if own then Some c.1 else found n cs) ≡ Some (if own then c.1 else binding_range other n cs)
    by_test true i f = refl
    by_test false i f = let j : nat_eq b.0 n ≡ false = rw (sym h.0) at i in f (rw j at e)

pub fewer : (b : Bool) (D : Devices) (k : ℕ → Bool) (d : ℕ) → In (where_is b D k) d → In D d
fewer b D k d h = by_test (D d) h
  where
    by_test : (c : Bool) → (c && same_truth b (k d)) ≡ true → c ≡ true
    by_test true h = refl
    by_test false h = absurd cc

lies_as : (r : RangeValue) {v w : AnyValue} → v ≡ w → LiesIn r w → LiesIn r v
lies_as r e h = subst (LiesIn r) (sym e) h

literal_lies : (v : LocalValue) → InRange (literal_range v) v
literal_lies (IntValue n) = (omega arith, omega arith)
literal_lies (BoolValue b) = tt
literal_lies (PairValue a b) = (literal_lies a, literal_lies b)

-- a solution fits its type
pub fits_of : (N : Network) (t : Term) (p : ℕ) (D : Devices) (V : ValueMaps) (F : ValueMap) → Solves N p t D V F → FitsOn N D (term_type t) F
fits_of N (Plain t l) p D V F s = s.0
fits_of N (Apply t o xs) p D V F s = s.0
fits_of N (Nbr t a) p D V F s = s.0
fits_of N (Evolve t e a u) p D V F s = s.0
fits_of N (If t c u w) p D V F s = s.0
fits_of N (Let t a u) p D V F s = s.0

module _ (N : Network) (net : IsNetwork N) (metric : N.declared.least ≤ N.declared.greatest) where
  abbrev M : ℕ
  M = N.declared.ceiling

  leaf_lies : (t : ValueType) (l : Leaf) (p : ℕ) (bs : Scope) (cs : Bounds) (D : Devices) (V : ValueMaps) (F : ValueMap) → Alive N D → LeafHasType N.declared bs t l → BoundsFit bs cs → BoundsHold D cs V →
      (d : ℕ) → In D d → (v : AnyValue) → LeafIs N D l V d v → LiesIn (leaf_range N.declared cs t l) v
  leaf_lies t (Literal w) p bs cs D V F live ty fit h d i v e = lies_as _ e (literal_lies w)
  leaf_lies t (Variable n) p bs cs D V F live ty fit h d i v e =
      lies_as _ e (restricted_lies d (neighbour_numbers (near_among N D d)) (binding_range (full M (inner t)) n cs) (V n d) (h n (binding_range (full M (inner t)) n cs) (is_found (full M (inner t)) n t bs cs ty fit) d i))
  leaf_lies t (Sense j) p bs cs D V F live ty fit h d i v e =
      lies_as _ e.2 (sense_lies (full M (inner t)) N.declared.inputs (inputs_in d N.devices) j e.0 (inputs_fit N.declared N.devices d net.devices (live d i)) e.1)
  leaf_lies t Uid p bs cs D V F live ty fit h d i v e = lies_as (IntRange 0 M) e (omega arith, omega arith)
  leaf_lies t NbrLink p bs cs D V F live ty fit h d i v e = lies_as (IntRange N.declared.least N.declared.greatest) e (links_lie N net metric D d)

  fit_local : (ds : List ℕ) (t : ValueType) (v : LocalValue) → FitsOver M ds t (ValueLocal v) → Fits M (inner t) v
  fit_local ds (TypeLocal t) v h = h
  fit_local ds (TypeField t) v h = absurd h

  fit_over : (ds : List ℕ) (t : ValueType) (v : AnyValue) → FitsOver M ds t v → OverThem ds v
  fit_over ds (TypeLocal t) (ValueLocal v) h = tt
  fit_over ds (TypeLocal t) (ValueField es) h = absurd h
  fit_over ds (TypeField t) (ValueLocal v) h = absurd h
  fit_over ds (TypeField t) (ValueField es) h = h.0

  fit_all_over : (ds : List ℕ) (ts : List ValueType) (vs : List AnyValue) → FitEachOver M ds ts vs → AllOver ds vs
  fit_all_over ds [] [] h = tt
  fit_all_over ds [] (v ∷ vs) h = absurd h
  fit_all_over ds (t ∷ ts) [] h = absurd h
  fit_all_over ds (t ∷ ts) (ValueLocal v ∷ vs) h = (tt, fit_all_over ds ts vs h.1)
  fit_all_over ds (t ∷ ts) (ValueField es ∷ vs) h = (fit_over ds t (ValueField es) h.0, fit_all_over ds ts vs h.1)

  none_empty : (ds : List ℕ) → 0 < length ds → (vs : List AnyValue) → AllOver ds vs → NoneIsEmpty vs
  none_empty ds n [] h = tt
  none_empty ds n (ValueLocal v ∷ vs) h = none_empty ds n vs h.1
  none_empty ds n (ValueField es ∷ vs) h = (let e = ap length h.0 in omega (arith, n, e, length-map es device_of), none_empty ds n vs h.1)

  local_lies : (r : RangeValue) (o : Option LocalValue) (v : AnyValue) → MaybeLies r o → option_map ValueLocal o ≡ Some v → LiesIn r v
  local_lies r None v h e = absurd cc
  local_lies r (Some w) v h e = let same : ValueLocal w ≡ v = cc in subst (LiesIn r) same h

  some_lies : (r : RangeValue) (o : Option LocalValue) (v : LocalValue) → MaybeLies r o → o ≡ Some v → InRange r v
  some_lies r None v h e = absurd cc
  some_lies r (Some w) v h e = let same : w ≡ v = cc in subst (InRange r) same h

  builtin_lies : (other : RangeValue) (d : ℕ) (ds : List ℕ) (o : Builtin) (ts : List ValueType) (t : ValueType) (rs : List RangeValue) (vs : List AnyValue) (v : AnyValue) → 0 < length ds →
      HasRule o ts t → FitEachOver M ds ts vs → EachLiesIn rs vs → FitsOver M ds t v → builtin_value o M d vs ≡ Some v → LiesIn (builtin_range M other o rs) v
  builtin_lies other d ds o ts t rs vs v n rule f h g e = by_hood (is_hood o) refl rule
    where
      by_hood : (c : Bool) → is_hood o ≡ c → rule_by c o ts t → LiesIn (builtin_range M other o rs) v
      by_hood true i folds =
          let e' : option_map ValueLocal (hood_value o M d vs) ≡ Some v = rw i at e in
          local_lies (builtin_range M other o rs) (hood_value o M d vs) v (hood_lies M d other ds o ts t folds vs f (none_empty ds n vs (fit_all_over ds ts vs f)) rs h) e'
      by_hood false i lifts =
          let by = pointwise_nth o M d vs v i e in
          lies_by_positions ds (builtin_range M other o rs) v n (fit_over ds t v g)
          (λ k l w. some_lies (builtin_range M other o rs) (local_value o M (arguments_nth k vs)) (argument_nth k v)
          (operator_lies M other o (inners ts) lifts.local lifts.takes (arguments_nth k vs) (arguments_fit M ds ts vs k f l) rs (arguments_lie ds k l rs vs (fit_all_over ds ts vs f) h)) (by.each k w))

  entries_hull_first : (t : LocalType) (r s : RangeValue) (es : List (ℕ × LocalValue)) → HasForm t r → HasForm t s → AllInRange r es → AllInRange (hull r s) es
  entries_hull_first t r s [] f g h = tt
  entries_hull_first t r s (e ∷ es) f g h = (hull_has_first t r s e.1 f g h.0, entries_hull_first t r s es f g h.1)

  hull_lies_first : (t : LocalType) (r s : RangeValue) (v : AnyValue) → HasForm t r → HasForm t s → LiesIn r v → LiesIn (hull r s) v
  hull_lies_first t r s (ValueLocal v) f g h = hull_has_first t r s v f g h
  hull_lies_first t r s (ValueField es) f g h = entries_hull_first t r s es f g h

  entries_hull_second : (t : LocalType) (r s : RangeValue) (es : List (ℕ × LocalValue)) → HasForm t r → HasForm t s → AllInRange s es → AllInRange (hull r s) es
  entries_hull_second t r s [] f g h = tt
  entries_hull_second t r s (e ∷ es) f g h = (hull_has_second t r s e.1 f g h.0, entries_hull_second t r s es f g h.1)

  hull_lies_second : (t : LocalType) (r s : RangeValue) (v : AnyValue) → HasForm t r → HasForm t s → LiesIn s v → LiesIn (hull r s) v
  hull_lies_second t r s (ValueLocal v) f g h = hull_has_second t r s v f g h
  hull_lies_second t r s (ValueField es) f g h = entries_hull_second t r s es f g h

  all_fit : (xs : Terms) (p : ℕ) (D : Devices) (V : ValueMaps) (Gs : List ValueMap) → SolveAll N p xs D V Gs → (d : ℕ) → In D d → FitEachOver M (around N D d) (types_of xs) (at_device d Gs)
  all_fit NoMore p D V [] s d i = tt
  all_fit NoMore p D V (G ∷ Gs) s d i = absurd s
  all_fit (More x xs) p D V [] s d i = absurd s
  all_fit (More x xs) p D V (G ∷ Gs) s d i = (fits_of N x p D V G s.0 d i, all_fit xs (p + size x) D V Gs s.1 d i)

  abbrev MapsLie : Devices → List RangeValue → List ValueMap → Type 0
  MapsLie D [] [] = Unit {0}
  MapsLie D (r ∷ rs) (G ∷ Gs) = MapLiesIn D r G × MapsLie D rs Gs
  MapsLie D _ _ = ⊥

  maps_at : (D : Devices) (rs : List RangeValue) (Gs : List ValueMap) → MapsLie D rs Gs → (d : ℕ) → In D d → EachLiesIn rs (at_device d Gs)
  maps_at D [] [] h d i = tt
  maps_at D [] (G ∷ Gs) h d i = absurd h
  maps_at D (r ∷ rs) [] h d i = absurd h
  maps_at D (r ∷ rs) (G ∷ Gs) h d i = (h.0 d i, maps_at D rs Gs h.1 d i)

  -- what the variable of a `rep` or `share` is lies in the range of all values
  pub evolved_lies : (e : Evolution) (t : ValueType) (D : Devices) (F : ValueMap) (f : ℕ → LocalValue) → FitsOn N D t F → ((d : ℕ) → In D d → F d ≡ ValueLocal (f d)) → MapLiesIn D (full M (inner t)) (evolved e N D f)
  evolved_lies e t D F f h g = by_kind e
    where
      each : (d : ℕ) → In D d → InRange (full M (inner t)) (f d)
      each d i = in_full M (inner t) (f d) (fit_local (around N D d) t (f d) (subst (FitsOver M (around N D d) t) (g d i) (h d i)))

      by_kind : (e : Evolution) → MapLiesIn D (full M (inner t)) (evolved e N D f)
      by_kind ByRep d i = each d i
      by_kind ByShare d i = field_lies N D f (full M (inner t)) each d i

  pub evolving_form : (e : Evolution) (t : ValueType) (s : LocalType) → t ≡ TypeLocal s → HasForm (inner (evolving_type e s)) (full M (inner t))
  evolving_form ByRep t s e = full_as M t s e
  evolving_form ByShare t s e = full_as M t s e

  branch_in : (b : Bool) (D : Devices) (k : ℕ → Bool) (d : ℕ) → In D d → k d ≡ b → In (where_is b D k) d
  branch_in true D k d i e = rw (i, e) refl
  branch_in false D k d i e = rw (i, e) refl

  pub fewer_hold : (b : Bool) (D : Devices) (k : ℕ → Bool) (cs : Bounds) (V : ValueMaps) → BoundsHold D cs V → BoundsHold (where_is b D k) cs V
  fewer_hold b D k cs V h n r e d i = h n r e d (fewer b D k d i)

  mutual
    pub term_lies : (t : Term) (p : ℕ) (bs : Scope) (cs : Bounds) (D : Devices) (V : ValueMaps) (F : ValueMap) → Alive N D → HasType N.declared bs p t → BoundsFit bs cs → BoundsHold D cs V →
        Solves N p t D V F → MapLiesIn D (term_range N.declared cs p t) F
    term_lies (Plain t l) p bs cs D V F live ty fit h s = λ d i. leaf_lies t l p bs cs D V F live ty fit h d i (F d) (s.1 d i)
    term_lies (Apply t o xs) p bs cs D V F live ty fit h s = λ d i.
        builtin_lies (full M (inner t)) d (around N D d) o (types_of xs) t (term_ranges N.declared cs (suc p) xs) (at_device d s.1) (F d) (some_around d _) ty.0
        (all_fit xs (suc p) D V s.1 s.2 d i) (maps_at D (term_ranges N.declared cs (suc p) xs) s.1 (terms_lie xs (suc p) bs cs D V s.1 live ty.1 fit h s.2) d i) (s.0 d i) (s.3 d i)
    term_lies (Nbr t a) p bs cs D V F live ty fit h s = λ d i.
        lies_as _ (s.3 d i) (field_lies N D s.1 (term_range N.declared cs (suc p) a) (term_lies a (suc p) bs cs D V (local_map s.1) live ty.3 fit h s.2) d i)
    term_lies (Evolve t e a u) p bs cs D V F live ty fit h s = λ d i.
        lies_as _ (s.3 d i) (term_lies u (suc p + size a) ((p, evolving_type e ty.0) ∷ bs) ((p, full M (inner t)) ∷ cs) D (bind p (evolved e N D s.1) V) (local_map s.1) live ty.5
        (refl, evolving_form e t ty.0 ty.1, fit) (bound_holds D p (full M (inner t)) (evolved e N D s.1) cs V (evolved_lies e t D F s.1 s.0 s.3) h) s.2 d i)
    term_lies (If t c u w) p bs cs D V F live ty fit h s = λ d i.
        by_truth d i (s.1 d) refl
        (λ j. term_lies u (suc p + size c) bs cs (where_is true D s.1) V F (λ d j. live d (fewer true D s.1 d j)) ty.6 fit (fewer_hold true D s.1 cs V h) s.3 d j)
        (λ j. term_lies w (suc p + size c + size u) bs cs (where_is false D s.1) V F (λ d j. live d (fewer false D s.1 d j)) ty.7 fit (fewer_hold false D s.1 cs V h) s.4 d j)
        (range_form N.declared u bs cs (suc p + size c) ty.6 fit)
        (subst (λ z. HasForm (inner z) (term_range N.declared cs (suc p + size c + size u) w)) (ty.4 ∙ sym ty.3) (range_form N.declared w bs cs (suc p + size c + size u) ty.7 fit))
      where
        by_truth : (d : ℕ) → In D d → (b : Bool) → s.1 d ≡ b → (In (where_is true D s.1) d → LiesIn (term_range N.declared cs (suc p + size c) u) (F d)) →
            (In (where_is false D s.1) d → LiesIn (term_range N.declared cs (suc p + size c + size u) w) (F d)) →
            HasForm (inner (term_type u)) (term_range N.declared cs (suc p + size c) u) → HasForm (inner (term_type u)) (term_range N.declared cs (suc p + size c + size u) w) →
            LiesIn (term_range N.declared cs p (If t c u w)) (F d)
        by_truth d i true e f g x y = hull_lies_first (inner (term_type u)) _ _ (F d) x y (f (branch_in true D s.1 d i e))
        by_truth d i false e f g x y = hull_lies_second (inner (term_type u)) _ _ (F d) x y (g (branch_in false D s.1 d i e))
    term_lies (Let t a u) p bs cs D V F live ty fit h s =
        term_lies u (suc p + size a) ((p, term_type a) ∷ bs) ((p, term_range N.declared cs (suc p) a) ∷ cs) D (bind p s.1 V) F live ty.2
        (refl, range_form N.declared a bs cs (suc p) ty.1 fit, fit)
        (bound_holds D p (term_range N.declared cs (suc p) a) s.1 cs V (term_lies a (suc p) bs cs D V s.1 live ty.1 fit h s.2) h) s.3

    terms_lie : (xs : Terms) (p : ℕ) (bs : Scope) (cs : Bounds) (D : Devices) (V : ValueMaps) (Gs : List ValueMap) → Alive N D → HaveTypes N.declared bs p xs → BoundsFit bs cs → BoundsHold D cs V →
        SolveAll N p xs D V Gs → MapsLie D (term_ranges N.declared cs p xs) Gs
    terms_lie NoMore p bs cs D V [] live ty fit h s = tt
    terms_lie NoMore p bs cs D V (G ∷ Gs) live ty fit h s = absurd s
    terms_lie (More x xs) p bs cs D V [] live ty fit h s = absurd s
    terms_lie (More x xs) p bs cs D V (G ∷ Gs) live ty fit h s = (term_lies x p bs cs D V G live ty.0 fit h s.0, terms_lie xs (p + size x) bs cs D V Gs live ty.1 fit h s.1)

  lies_shown : (r s : RangeValue) (D : Devices) (F : ValueMap) → r ≡ s → MapLiesIn D s F → MapLiesIn D r F
  lies_shown r s D F e h = subst (λ z. MapLiesIn D z F) (sym e) h

  mutual
    pub in_ranges : (rs : ℕ → RangeValue) (t : Term) (p : ℕ) (bs : Scope) (cs : Bounds) (D : Devices) (V : ValueMaps) (F : ValueMap) → Alive N D → HasType N.declared bs p t → BoundsFit bs cs → BoundsHold D cs V →
        (s : Solves N p t D V F) → Shows rs p (node_ranges N.declared cs p t) → InRanges rs N p t D V F s
    in_ranges rs (Plain t l) p bs cs D V F live ty fit h s k = lies_shown (rs p) _ D F k.0 (term_lies (Plain t l) p bs cs D V F live ty fit h s)
    in_ranges rs (Apply t o xs) p bs cs D V F live ty fit h s k =
        (lies_shown (rs p) _ D F k.0 (term_lies (Apply t o xs) p bs cs D V F live ty fit h s), all_in_ranges rs xs (suc p) bs cs D V s.1 live ty.1 fit h s.2 k.1)
    in_ranges rs (Nbr t a) p bs cs D V F live ty fit h s k =
        (lies_shown (rs p) _ D F k.0 (term_lies (Nbr t a) p bs cs D V F live ty fit h s), in_ranges rs a (suc p) bs cs D V (local_map s.1) live ty.3 fit h s.2 k.1)
    in_ranges rs (Evolve t e a u) p bs cs D V F live ty fit h s k =
        let inside = shows_second rs (suc p) (size a) (node_ranges N.declared cs (suc p) a) _ (as_many N.declared a cs (suc p)) k.1 in (
          lies_shown (rs p) _ D F k.0 (term_lies (Evolve t e a u) p bs cs D V F live ty fit h s),
          in_ranges rs u (suc p + size a) ((p, evolving_type e ty.0) ∷ bs) ((p, full M (inner t)) ∷ cs) D (bind p (evolved e N D s.1) V) (local_map s.1) live ty.5
              (refl, evolving_form e t ty.0 ty.1, fit) (bound_holds D p (full M (inner t)) (evolved e N D s.1) cs V (evolved_lies e t D F s.1 s.0 s.3) h) s.2 inside,
        )
    in_ranges rs (If t c u w) p bs cs D V F live ty fit h s k =
        let first = shows_first rs (suc p) (size c) (node_ranges N.declared cs (suc p) c) _ (as_many N.declared c cs (suc p)) k.1 in
        let rest = shows_second rs (suc p) (size c) (node_ranges N.declared cs (suc p) c) _ (as_many N.declared c cs (suc p)) k.1 in
        let second = shows_first rs (suc p + size c) (size u) (node_ranges N.declared cs (suc p + size c) u) _ (as_many N.declared u cs (suc p + size c)) rest in
        let third = shows_second rs (suc p + size c) (size u) (node_ranges N.declared cs (suc p + size c) u) _ (as_many N.declared u cs (suc p + size c)) rest in (
          lies_shown (rs p) _ D F k.0 (term_lies (If t c u w) p bs cs D V F live ty fit h s),
          in_ranges rs c (suc p) bs cs D V (local_map (λ d. BoolValue (s.1 d))) live ty.5 fit h s.2 first,
          in_ranges rs u (suc p + size c) bs cs (where_is true D s.1) V F (λ d j. live d (fewer true D s.1 d j)) ty.6 fit (fewer_hold true D s.1 cs V h) s.3 second,
          in_ranges rs w (suc p + size c + size u) bs cs (where_is false D s.1) V F (λ d j. live d (fewer false D s.1 d j)) ty.7 fit (fewer_hold false D s.1 cs V h) s.4 third,
        )
    in_ranges rs (Let t a u) p bs cs D V F live ty fit h s k =
        let first = shows_first rs (suc p) (size a) (node_ranges N.declared cs (suc p) a) _ (as_many N.declared a cs (suc p)) k.1 in
        let second = shows_second rs (suc p) (size a) (node_ranges N.declared cs (suc p) a) _ (as_many N.declared a cs (suc p)) k.1 in (
          lies_shown (rs p) _ D F k.0 (term_lies (Let t a u) p bs cs D V F live ty fit h s),
          in_ranges rs a (suc p) bs cs D V s.1 live ty.1 fit h s.2 first,
          in_ranges rs u (suc p + size a) ((p, term_type a) ∷ bs) ((p, term_range N.declared cs (suc p) a) ∷ cs) D (bind p s.1 V) F live ty.2
              (refl, range_form N.declared a bs cs (suc p) ty.1 fit, fit)
              (bound_holds D p (term_range N.declared cs (suc p) a) s.1 cs V (term_lies a (suc p) bs cs D V s.1 live ty.1 fit h s.2) h) s.3 second,
        )

    pub all_in_ranges : (rs : ℕ → RangeValue) (xs : Terms) (p : ℕ) (bs : Scope) (cs : Bounds) (D : Devices) (V : ValueMaps) (Gs : List ValueMap) → Alive N D → HaveTypes N.declared bs p xs → BoundsFit bs cs → BoundsHold D cs V →
        (s : SolveAll N p xs D V Gs) → Shows rs p (all_node_ranges N.declared cs p xs) → AllInRanges rs N p xs D V Gs s
    all_in_ranges rs NoMore p bs cs D V Gs live ty fit h s k = tt
    all_in_ranges rs (More x xs) p bs cs D V [] live ty fit h s k = s
    all_in_ranges rs (More x xs) p bs cs D V (G ∷ Gs) live ty fit h s k =
        let first = shows_first rs p (size x) (node_ranges N.declared cs p x) _ (as_many N.declared x cs p) k in
        let second = shows_second rs p (size x) (node_ranges N.declared cs p x) _ (as_many N.declared x cs p) k in
        (in_ranges rs x p bs cs D V G live ty.0 fit h s.0 first, all_in_ranges rs xs (p + size x) bs cs D V Gs live ty.1 fit h s.1 second)
