-- Each term of the fragment has a solution.
use Rattle.std.proofs.Common.{◌≡◌, ℕ, zero, suc, ◌≤◌, ◌+◌, List, [], ◌∷◌, refl, sym, ◌∙◌, ap, subst, arith, Bool, true, false}
use Rattle.std.proofs.lemmas.Bool.Decides.{nat_tests}
use Rattle.fc_values.specs.declared.builtins.Builtin.TheVariants as op
use Rattle.fc_values.specs.Types.{LocalType, IntType, BoolType, ValueType, TypeLocal, TypeField}
use Rattle.fc_values.specs.Values.{LocalValue, IntValue, BoolValue, PairValue, Fits}
use Rattle.fc_values.specs.Fields.{ValueLocal, FitsOver, FitEachOver}
use Rattle.fc_values.specs.BuiltinTypes.{inner, HasRule, Takes, takes_rise}
use Rattle.fc_nodes.specs.Terms.{Literal, Variable, Sense, Uid, NbrLink, Evolution, ByRep, Term, Terms, Plain, Apply, Nbr, Evolve, If, Let, NoMore, More, term_type, size, sizes}
use Rattle.fc_nodes.specs.Typing.{Scope, evolving_type, types_of}
use Rattle.device_eval.specs.Conditions.{Suits}
use Rattle.topology.specs.Networks.{Network, Lives, IsNetwork}
use Rattle.interval_facts.specs.Ranges.{Bounds, full}
use Rattle.interval_facts.specs.Solutions.{Devices, In, ValueMap, ValueMaps, bind, around, at_device, local_map, evolved, where_is, Solves, SolveAll}
use Rattle.fc_nodes.specs.Variables.{occurs, is_own}
use Rattle.growth_facts.specs.Leads.{lead, least_integer}
use Rattle.fragment_check.specs.declared.kinds.Pattern.{Pattern}
use Rattle.fragment_check.specs.Shapes.{HasPattern, constant, acyclic, minimising, rising}
use Rattle.growth_facts.specs.Growth.{Grows, growth_of}
use Rattle.growth_facts.specs.Beside.{Shallow}
use Rattle.rise.specs.Laws.{rising_body}
use Rattle.rise.proofs.WithoutRise.{without_rise, solves_agree}
use Rattle.converge_laws.specs.Fragment.{Analysis, IsFor, TermInFragment, TermsInFragment}
use Rattle.converge_laws.proofs.Around.{VarsOn, bound_on, bind_on, fewer_on, truth_in, truth_back, solution_fits}
use Rattle.converge_laws.proofs.Existing.{some_value, some_fits, leaf_exists, apply_exists, as_local, within, within_fits, within_same, evolved_on, nbr_exists, if_exists, constant_exists}
use Rattle.converge_laws.proofs.Given.{situation_at}
use Rattle.converge_laws.proofs.Iterated.{Turn, val, val_fits, fixed, last_low, acyclic_fixed, last_hood, hood_fixed, hood_fixed_int}
use Rattle.converge_laws.proofs.One.{own_size}
use Rattle.converge_laws.proofs.Ranged.{lies_of}
use Rattle.converge_laws.proofs.Standing.{Standing, StandAll, ranged, in_arguments, in_first, in_rest, in_nbr, in_body, in_condition, in_true, in_false, in_bound, in_let}
use Rattle.fc_nodes.proofs.Kids.{size_some}

-- the types of the arguments of `rise`
record RiseTypes (a b c t : ValueType) : Type 0 where
  first : a ≡ TypeLocal IntType
  second : b ≡ TypeLocal IntType
  third : c ≡ TypeLocal IntType
  value : t ≡ TypeLocal IntType

rise_types : (a b c t : ValueType) (s : LocalType) → t ≡ TypeLocal s → HasRule op.Rise (a ∷ b ∷ c ∷ []) t → RiseTypes a b c t
rise_types (TypeLocal x) (TypeLocal y) (TypeLocal z) t s e rule = by_takes x y z rule.local rule.takes rule.value
  where
    by_takes : (x y z k : LocalType) → Takes op.Rise (x ∷ y ∷ z ∷ []) k → t ≡ TypeLocal k → RiseTypes (TypeLocal x) (TypeLocal y) (TypeLocal z) t
    by_takes x y z k takes_rise v = record { first = refl; second = refl; third = refl; value = v }
rise_types (TypeField x) b c t s e rule = let v = rule.value in absurd cc
rise_types (TypeLocal x) (TypeField y) c t s e rule = let v = rule.value in absurd cc
rise_types (TypeLocal x) (TypeLocal y) (TypeField z) t s e rule = let v = rule.value in absurd cc

own_form : (p : ℕ) (own : Term) → is_own p own ≡ true → term_type own ≡ TypeLocal IntType → own ≡ Plain (TypeLocal IntType) (Variable p)
own_form p (Plain t' (Variable n)) o e = let n' : n ≡ p = grind (arith, o, nat_tests) in rw (e, n') refl
own_form p (Plain t' (Literal x)) o e = absurd cc
own_form p (Plain t' (Sense i)) o e = absurd cc
own_form p (Plain t' Uid) o e = absurd cc
own_form p (Plain t' NbrLink) o e = absurd cc
own_form p (Apply t' f xs) o e = absurd cc
own_form p (Nbr t' k) o e = absurd cc
own_form p (Evolve t' f k l') o e = absurd cc
own_form p (If t' c' k l') o e = absurd cc
own_form p (Let t' k l') o e = absurd cc

int_value : (m : ℕ) (s : LocalType) (v : LocalValue) → s ≡ IntType → Fits m s v → v ≡ IntValue (lead v)
int_value m s v e f = by_form v (subst (λ k. Fits m k v) e f)
  where
    by_form : (v : LocalValue) → Fits m IntType v → v ≡ IntValue (lead v)
    by_form (IntValue n) f = refl
    by_form (BoolValue b) f = absurd f
    by_form (PairValue a b) f = absurd f

module _ (A : Analysis) (N : Network) (net : IsNetwork N) (for : IsFor A N) (metric : N.declared.least ≤ N.declared.greatest) (least : N.declared.least ≤ N.declared.ceiling) (greatest : N.declared.greatest ≤ N.declared.ceiling)
    (suits : (d : ℕ) → Lives N d → Suits N.declared (situation_at N d)) where
  abbrev M : ℕ
  M = N.declared.ceiling

  abbrev Stands : Scope → Bounds → ℕ → Term → Devices → ValueMaps → Type 0
  Stands bs cs p t D V = Standing A.ranges N net metric bs cs p t D V

  abbrev HasSolution : ℕ → Term → Devices → ValueMaps → Type 0
  HasSolution p t D V = (F : ValueMap) × Solves N p t D V F

  abbrev pub ExistsOf : Term → Type 0
  ExistsOf t = (bs : Scope) (cs : Bounds) (p : ℕ) (D : Devices) (V : ValueMaps) → TermInFragment A M p t → Standing A.ranges N net metric bs cs p t D V → VarsOn N net D bs V → (F : ValueMap) × Solves N p t D V F

  -- a solution as local values that fit everywhere
  turn_of : (e : Evolution) (x p : ℕ) (b : Term) (s : LocalType) (bs : Scope) (cs : Bounds) (D : Devices) (V : ValueMaps) (f : ℕ → LocalValue) → term_type b ≡ TypeLocal s → Stands bs cs p b D (bind x (evolved e N D f) V)
      → HasSolution p b D (bind x (evolved e N D f) V) → Turn A.ranges N e x p b s D V f
  turn_of e x p b s bs cs D V f typed st h =
      let l = as_local N net least greatest suits b s p D (bind x (evolved e N D f) V) h.0 typed h.1 in
      let g = within N net least greatest suits D s l.0 in
      let solved = solves_agree N b p D (bind x (evolved e N D f) V) (local_map l.0) (local_map g) (λ d i. ap ValueLocal (sym (within_same N net least greatest suits D s l.0 d i))) l.1 in
      record { value = g; fits = within_fits N net least greatest suits D s l.0 l.3; solves = solved; ranged = ranged A.ranges N net metric bs cs p b D (bind x (evolved e N D f) V) (local_map g) st solved }

  -- a solution of a body is one of its `rep` or `share`
  of_body : (t : ValueType) (e : Evolution) (a u : Term) (s : LocalType) (p : ℕ) (D : Devices) (V : ValueMaps) (f : ℕ → LocalValue) → t ≡ TypeLocal s → ((d : ℕ) → Fits M s (f d))
      → Solves N (suc p + size a) u D (bind p (evolved e N D f) V) (local_map f) → HasSolution p (Evolve t e a u) D V
  of_body t e a u s p D V f et fits h = (local_map f, ((λ d i. rw et (fits d)), f, h, (λ d i. refl)))

  module _ (t : ValueType) (e : Evolution) (a u : Term) (bs : Scope) (cs : Bounds) (p : ℕ) (D : Devices) (V : ValueMaps) (st : Standing A.ranges N net metric bs cs p (Evolve t e a u) D V) (vars : VarsOn N net D bs V) where
    abbrev s : LocalType
    s = st.typed.0

    abbrev at : ℕ
    at = suc p + size a

    abbrev scope : Scope
    scope = (p, evolving_type e st.typed.0) ∷ bs

    abbrev bounds : Bounds
    bounds = (p, full M (inner t)) ∷ cs

    stands : (f : ℕ → LocalValue) → ((d : ℕ) → Fits M s (f d)) → Stands scope bounds at u D (bind p (evolved e N D f) V)
    stands f fits = in_body A.ranges N net metric bs cs p t e a u D V f st fits

    binders : (f : ℕ → LocalValue) → ((d : ℕ) → Fits M s (f d)) → VarsOn N net D scope (bind p (evolved e N D f) V)
    binders f fits = bind_on N net D p (evolving_type e s) (evolved e N D f) bs V (evolved_on N net least greatest suits e D s f fits) vars

    -- a turn of the whole body
    body_turn : TermInFragment A M at u → ExistsOf u → (f : ℕ → LocalValue) → ((d : ℕ) → Fits M s (f d)) → Turn A.ranges N e p at u s D V f
    body_turn fr ih f fits = turn_of e p at u s scope bounds D V f st.typed.3 (stands f fits) (ih scope bounds at D (bind p (evolved e N D f) V) fr (stands f fits) (binders f fits))

    from_fixed : (fr : TermInFragment A M at u) (ih : ExistsOf u) (i : ℕ) → ((d : ℕ) → In D d → val A N net for e p at u s (inner t) D V (body_turn fr ih) st.typed.3 fr i d ≡ val A N net for e p at u s (inner t) D V (body_turn fr ih) st.typed.3 fr (suc i) d)
        → HasSolution p (Evolve t e a u) D V
    from_fixed fr ih i k = of_body t e a u s p D V (val A N net for e p at u s (inner t) D V (body_turn fr ih) st.typed.3 fr (suc i)) st.typed.1 (val_fits A N net for e p at u s (inner t) D V (body_turn fr ih) st.typed.3 fr (suc i))
        (fixed A N net for e p at u s (inner t) D V (body_turn fr ih) st.typed.3 fr i k)

  module _ (t : ValueType) (e : Evolution) (a : Term) (t1 u1 : ValueType) (h l own w : Term) (bs : Scope) (cs : Bounds) (p : ℕ) (D : Devices) (V : ValueMaps)
      (st : Standing A.ranges N net metric bs cs p (Evolve t e a (Apply t1 op.Rise (More (Apply u1 op.MinHoodLoc (More h (More l NoMore))) (More own (More w NoMore))))) D V) (vars : VarsOn N net D bs V) (c : ℕ) (rep : e ≡ ByRep)
      (rule : HasRule op.Rise (types_of (More (Apply u1 op.MinHoodLoc (More h (More l NoMore))) (More own (More w NoMore)))) t1) (ow : is_own p own ≡ true) (n0 : occurs p l ≡ false) (sh : Shallow e p (inner t) (Apply u1 op.MinHoodLoc (More h (More l NoMore))))
      (gr : growth_of N.declared.ceiling A.ranges e p (suc (suc (suc p + size a))) h ≡ Grows c) (pos : 1 ≤ c) (low : 1 ≤ least_integer (A.ranges (suc (suc (suc (suc p + size a) + size h + size l)))))
      (fr : TermInFragment A N.declared.ceiling (suc p + size a) (Apply t1 op.Rise (More (Apply u1 op.MinHoodLoc (More h (More l NoMore))) (More own (More w NoMore))))) (first : ExistsOf (Apply u1 op.MinHoodLoc (More h (More l NoMore)))) (third : ExistsOf w) where
    abbrev T : Term
    T = Apply u1 op.MinHoodLoc (More h (More l NoMore))

    abbrev U : Term
    U = Apply t1 op.Rise (More (Apply u1 op.MinHoodLoc (More h (More l NoMore))) (More own (More w NoMore)))

    abbrev k : LocalType
    k = st.typed.0

    abbrev place : ℕ
    place = suc p + size a

    abbrev scope' : Scope
    scope' = (p, evolving_type e st.typed.0) ∷ bs

    abbrev bounds' : Bounds
    bounds' = (p, full N.declared.ceiling (inner t)) ∷ cs

    types : RiseTypes u1 (term_type own) (term_type w) t1
    types = rise_types u1 (term_type own) (term_type w) t1 k st.typed.3 rule

    int : k ≡ IntType
    int = let q : TypeLocal k ≡ TypeLocal IntType = sym st.typed.3 ∙ types.value in cc

    target_type : u1 ≡ TypeLocal k
    target_type = types.first ∙ ap TypeLocal (sym int)

    all_stand : (f : ℕ → LocalValue) → ((d : ℕ) → Fits M k (f d)) → StandAll A.ranges N net metric scope' bounds' (suc place) (More T (More own (More w NoMore))) D (bind p (evolved e N D f) V)
    all_stand f fits = in_arguments A.ranges N net metric scope' bounds' place t1 op.Rise (More T (More own (More w NoMore))) D (bind p (evolved e N D f) V) (stands t e a U bs cs p D V st vars f fits)

    target_turn : (f : ℕ → LocalValue) → ((d : ℕ) → Fits M k (f d)) → Turn A.ranges N e p (suc place) T k D V f
    target_turn f fits =
        let there = in_first A.ranges N net metric scope' bounds' (suc place) T (More own (More w NoMore)) D (bind p (evolved e N D f) V) (all_stand f fits) in
        turn_of e p (suc place) T k scope' bounds' D V f target_type there (first scope' bounds' (suc place) D (bind p (evolved e N D f) V) fr.0 there (binders t e a U bs cs p D V st vars f fits))

    abbrev last : ℕ
    last = last_hood A N net for e p (suc place) u1 h l k (inner t) D V target_turn target_type fr.0 c sh n0 gr pos

    abbrev f : ℕ → LocalValue
    f = val A N net for e p (suc place) T k (inner t) D V target_turn target_type fr.0 (suc last)

    f_fits : (d : ℕ) → Fits M k (f d)
    f_fits d = val_fits A N net for e p (suc place) T k (inner t) D V target_turn target_type fr.0 (suc last) d

    target : Solves N (suc place) T D (bind p (evolved e N D f) V) (local_map f)
    target = fixed A N net for e p (suc place) T k (inner t) D V target_turn target_type fr.0 last
        (hood_fixed_int A N net for e p (suc place) u1 h l k (inner t) D V target_turn target_type fr.0 c sh n0 gr pos (λ i d. int_value M k (val A N net for e p (suc place) T k (inner t) D V target_turn target_type fr.0 i d) int (val_fits A N net for e p (suc place) T k (inner t) D V target_turn target_type fr.0 i d)))

    -- in a `rep` the variable is the value itself
    own_bound : bind p (evolved e N D f) V ≡ bind p (local_map f) V
    own_bound = ap (λ g. bind p (evolved g N D f) V) rep

    abbrev gain_place : ℕ
    gain_place = suc place + size T + 1

    same_place : suc place + size T + size own ≡ gain_place
    same_place = ap (λ n. suc place + size T + n) (own_size p own ow)

    gain_stands : Stands scope' bounds' gain_place w D (bind p (local_map f) V)
    gain_stands =
        let rest = in_rest A.ranges N net metric scope' bounds' (suc place + size T) own (More w NoMore) D (bind p (evolved e N D f) V) (in_rest A.ranges N net metric scope' bounds' (suc place) T (More own (More w NoMore)) D (bind p (evolved e N D f) V) (all_stand f f_fits)) in
        subst (λ n. Stands scope' bounds' n w D (bind p (local_map f) V)) same_place (subst (λ X. Stands scope' bounds' (suc place + size T + size own) w D X) own_bound (in_first A.ranges N net metric scope' bounds' (suc place + size T + size own) w NoMore D (bind p (evolved e N D f) V) rest))

    gain : HasSolution gain_place w D (bind p (local_map f) V)
    gain = third scope' bounds' gain_place D (bind p (local_map f) V) (subst (λ n. TermInFragment A M n w) same_place fr.1.1.0) gain_stands (subst (λ X. VarsOn N net D scope' X) own_bound (binders t e a U bs cs p D V st vars f f_fits))

    same_body : rising_body p T w ≡ U
    same_body = sym (ap (λ y. Apply y op.Rise (More T (More own (More w NoMore)))) types.value ∙ ap (λ y. Apply (TypeLocal IntType) op.Rise (More T (More y (More w NoMore)))) (own_form p own ow types.second))

    least_gain : 1 ≤ least_integer (A.ranges gain_place)
    least_gain = let q : suc (suc (suc place + size h + size l)) ≡ gain_place = omega arith in subst (λ n. 1 ≤ least_integer (A.ranges n)) q low

    rise_exists : HasSolution p (Evolve t e a U) D V
    rise_exists =
        let both = (without_rise N D V f p place T w (A.ranges gain_place) types.first types.third least_gain
        (λ G s. lies_of A.ranges N gain_place w D (bind p (local_map f) V) G s (ranged A.ranges N net metric scope' bounds' gain_place w D (bind p (local_map f) V) G gain_stands s))).1
        (subst (λ X. Solves N (suc place) T D X (local_map f)) own_bound target, gain) in
        of_body t e a U k p D V f st.typed.1 f_fits (subst (λ X. Solves N place U D X (local_map f)) (sym own_bound) (subst (λ y. Solves N place y D (bind p (local_map f) V) (local_map f)) same_body both))

  evolve_exists : (t : ValueType) (e : Evolution) (a u : Term) (bs : Scope) (cs : Bounds) (p : ℕ) (D : Devices) (V : ValueMaps) (st : Standing A.ranges N net metric bs cs p (Evolve t e a u) D V) (vars : VarsOn N net D bs V)
      (pt : Pattern) → HasPattern M A.ranges e p (suc p + size a) (inner t) u pt → TermInFragment A M (suc p + size a) u → ((y : Term) → size y ≤ size u → ExistsOf y) → HasSolution p (Evolve t e a u) D V
  evolve_exists t e a u bs cs p D V st vars pt (constant u' o) fr P =
      let s = st.typed.0 in
      let f : ℕ → LocalValue = λ d. some_value N net s in
      let k = body_turn t e a u bs cs p D V st vars fr (P u (omega arith)) f (λ d. some_fits N net s) in
      constant_exists N net least greatest suits t e a u s p D V (local_map k.value) st.typed.1 st.typed.3 o k.solves
  evolve_exists t e a u bs cs p D V st vars pt (acyclic u' q o sh gd) fr P =
      let ih = P u (omega arith) in
      from_fixed t e a u bs cs p D V st vars fr ih (last_low A N net for e p (suc p + size a) u st.typed.0 (inner t) D V (body_turn t e a u bs cs p D V st vars fr ih) st.typed.3 fr q sh gd o)
      (acyclic_fixed A N net for e p (suc p + size a) u st.typed.0 (inner t) D V (body_turn t e a u bs cs p D V st vars fr ih) st.typed.3 fr q sh gd o)
  evolve_exists t e a u bs cs p D V st vars pt (minimising t' h l c o n0 sh gr pos pair) fr P =
      let ih = P (Apply t' op.MinHoodLoc (More h (More l NoMore))) (omega arith) in
      let turn = body_turn t e a (Apply t' op.MinHoodLoc (More h (More l NoMore))) bs cs p D V st vars fr ih in
      from_fixed t e a (Apply t' op.MinHoodLoc (More h (More l NoMore))) bs cs p D V st vars fr ih (last_hood A N net for e p (suc p + size a) t' h l st.typed.0 (inner t) D V turn st.typed.3 fr c sh n0 gr pos)
      (hood_fixed A N net for e p (suc p + size a) t' h l st.typed.0 (inner t) D V turn st.typed.3 fr c sh n0 gr pos o pair)
  evolve_exists t e a u bs cs p D V st vars pt (rising t1 u1 h l own w c rep rule ow n0 nw sh shw gr pos low) fr P =
      rise_exists t e a t1 u1 h l own w bs cs p D V st vars c rep rule ow n0 sh gr pos low fr (P (Apply u1 op.MinHoodLoc (More h (More l NoMore))) (omega arith)) (P w (omega arith))

  all_exist : (xs : Terms) → ((y : Term) → size y ≤ sizes xs → ExistsOf y) → (bs : Scope) (cs : Bounds) (p : ℕ) (D : Devices) (V : ValueMaps) → TermsInFragment A M p xs → StandAll A.ranges N net metric bs cs p xs D V → VarsOn N net D bs V
      → (Gs : List ValueMap) × SolveAll N p xs D V Gs × ((d : ℕ) → In D d → FitEachOver M (around N D d) (types_of xs) (at_device d Gs))
  all_exist NoMore P bs cs p D V fr st vars = ([], tt, (λ d i. tt))
  all_exist (More x xs) P bs cs p D V fr st vars =
      let r = P x (omega arith) bs cs p D V fr.0 (in_first A.ranges N net metric bs cs p x xs D V st) vars in
      let rest = all_exist xs (λ y l. P y (omega (arith, l))) bs cs (p + size x) D V fr.1 (in_rest A.ranges N net metric bs cs p x xs D V st) vars in
      (r.0 ∷ rest.0, (r.1, rest.1), (λ d i. (solution_fits N net x p D V r.0 r.1 d i, rest.2 d i)))

  exists_to : (k : ℕ) (t : Term) → size t ≤ k → ExistsOf t
  exists_to zero t z bs cs p D V fr st vars = let o = size_some t in absurd (omega (arith, o, z))
  exists_to (suc k) (Plain t l) z bs cs p D V fr st vars = leaf_exists N net least greatest suits t l bs p D V st.alive st.typed vars
  exists_to (suc k) (Apply t o xs) z bs cs p D V fr st vars =
      let r = all_exist xs (λ y l. exists_to k y (omega (arith, z, l))) bs cs (suc p) D V fr (in_arguments A.ranges N net metric bs cs p t o xs D V st) vars in apply_exists N net least greatest suits t o xs p D V r.0 st.typed.0 r.1 r.2
  exists_to (suc k) (Nbr t a) z bs cs p D V fr st vars =
      let r = exists_to k a (omega (arith, z)) bs cs (suc p) D V fr (in_nbr A.ranges N net metric bs cs p t a D V st) vars in nbr_exists N net least greatest suits t a st.typed.0 p D V r.0 st.typed.1 st.typed.2 r.1
  exists_to (suc k) (Evolve t e a u) z bs cs p D V fr st vars = evolve_exists t e a u bs cs p D V st vars (A.pattern p) fr.0 fr.2 (λ y l. exists_to k y (omega (arith, z, l)))
  exists_to (suc k) (If t c u w) z bs cs p D V fr st vars =
      let ty = st.typed in
      let rc = exists_to k c (omega (arith, z)) bs cs (suc p) D V fr.0 (in_condition A.ranges N net metric bs cs p t c u w D V st) vars in
      let l = as_local N net least greatest suits c BoolType (suc p) D V rc.0 ty.2 rc.1 in
      let b : ℕ → Bool = λ d. truth_in (l.0 d) in
      let hc = solves_agree N c (suc p) D V (local_map l.0) (local_map (λ d. BoolValue (b d))) (λ d i. ap ValueLocal (truth_back M (l.0 d) (l.3 d i))) l.1 in
      let ru = exists_to k u (omega (arith, z)) bs cs (suc p + size c) (where_is true D b) V fr.1 (in_true A.ranges N net metric bs cs p t c u w D V b st) (λ q t e. fewer_on N net true D b t (V q) (vars q t e)) in
      let rw' = exists_to k w (omega (arith, z)) bs cs (suc p + size c + size u) (where_is false D b) V fr.2 (in_false A.ranges N net metric bs cs p t c u w D V b st) (λ q t e. fewer_on N net false D b t (V q) (vars q t e)) in
      if_exists N net least greatest suits t c u w ty.0 p D V b ru.0 rw'.0 ty.1 ty.3 ty.4 hc ru.1 rw'.1
  exists_to (suc k) (Let t a u) z bs cs p D V fr st vars =
      let ra = exists_to k a (omega (arith, z)) bs cs (suc p) D V fr.0 (in_bound A.ranges N net metric bs cs p t a u D V st) vars in
      let ru = exists_to k u (omega (arith, z)) ((p, term_type a) ∷ bs) _ (suc p + size a) D (bind p ra.0 V) fr.1 (in_let A.ranges N net metric bs cs p t a u D V ra.0 st ra.1)
      (bind_on N net D p (term_type a) ra.0 bs V (bound_on N net D (term_type a) ra.0 (solution_fits N net a (suc p) D V ra.0 ra.1)) vars) in
      (ru.0, ((λ d i. subst (λ y. FitsOver M (around N D d) y (ru.0 d)) (sym st.typed.0) (solution_fits N net u (suc p + size a) D (bind p ra.0 V) ru.0 ru.1 d i)), ra.0, ra.1, ru.1))

  pub exists : (t : Term) → ExistsOf t
  exists t = exists_to (size t) t (omega arith)
