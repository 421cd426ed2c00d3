-- Limited rise: a firing comes nearer to the solution by at least the rise.
use Rattle.std.proofs.Common.{◌≡◌, ℕ, zero, suc, ◌≤◌, ◌<◌, ◌+◌, ◌*◌, ◌/◌, List, [], ◌∷◌, refl, sym, ◌∙◌, ap, subst, arith, inr, true, false, Option, Some, None, min}
use Rattle.std.proofs.lemmas.Bool.Decides.{nat_tests}
use Rattle.fc_values.specs.Types.{LocalType, ValueType, TypeField}
use Rattle.fc_values.specs.BuiltinTypes.{inner}
use Rattle.fc_values.specs.Values.{LocalValue, Fits}
use Rattle.fc_values.specs.Fields.{AnyValue, ValueLocal, FitsOver}
use Rattle.fc_values.specs.Trees.{Tree, Trees, Keep, Done, Then, child}
use Rattle.fc_nodes.specs.Terms.{Evolution, ByRep, Term, Terms, Plain, Apply, Nbr, Evolve, If, Let, NoMore, More, size}
use Rattle.alignment.specs.Environments.{Env, child_env}
use Rattle.alignment.specs.Scopes.{Vars, variable_at}
use Rattle.device_eval.specs.Evaluation.{own_or}
use Rattle.topology.specs.Networks.{Network, IsNetwork}
use Rattle.interval_facts.specs.Solutions.{Devices, ValueMap, ValueMaps, bind, near_among, around, local_map, evolved, Solves}
use Rattle.fc_nodes.specs.Variables.{occurs}
use Rattle.fragment_check.specs.Levels.{Lvs, level_of}
use Rattle.converge_laws.specs.Fragment.{Analysis}
use Rattle.converge_laws.specs.Stages.{ClimbsBy, lag_of, Stage, StageBy, KeptAt, HeardAt}
use Rattle.growth_facts.specs.Leads.{lead, Close}
use Rattle.converge_laws.specs.Invariant.{stage_of, Holds}
use Rattle.interval_facts.specs.Claims.{InRanges}
use Rattle.converge_laws.proofs.Given.{situation_at, Given, StepOf}
use Rattle.converge_laws.proofs.Step.{self_eq}
use Rattle.converge_laws.proofs.Evolve.{Starts, Evolves, BodyRaised, body_given}
use Rattle.growth_facts.specs.Beside.{FieldPair, Beside, Shallow}
use Rattle.converge_laws.proofs.Seen.{seen}
use Rattle.converge_laws.proofs.Around.{heard_in}
use Rattle.fragment_check.specs.declared.kinds.Pattern.TheVariants as pattern
use Rattle.converge_laws.proofs.Ranged.{lies_of}
use Rattle.converge_laws.proofs.Around.{solution_fits}
use Rattle.growth_facts.specs.Beside.{IsPart}
use Rattle.fc_values.specs.declared.builtins.Builtin.TheVariants as op
use Rattle.fc_values.specs.Types.{IntType, BoolType, PairType, TypeLocal}
use Rattle.fc_values.specs.Values.{IntValue, BoolValue, PairValue}
use Rattle.fc_values.specs.Builtins.{builtin_value}
use Rattle.fc_values.specs.Positions.{argument_nth}
use Rattle.fc_values.specs.Fields.{restricted}
use Rattle.fc_values.proofs.Rising.{rises_test}
use Rattle.fc_nodes.specs.Terms.{term_type, Literal, Variable, Sense, Uid, NbrLink}
use Rattle.fc_nodes.specs.Flat.{FitsTree, FitTrees}
use Rattle.device_eval.specs.Rules.{Evaluates, EvaluateAll, builtin, none, one_more}
use Rattle.device_eval.proofs.Sights.{kids_from, first_kid, rest_kids}
use Rattle.topology.specs.Nearby.{neighbour_numbers}
use Rattle.interval_facts.specs.Ranges.{RangeValue, IntRange, BoolRange, PairRange, LiesIn, InRange}
use Rattle.fragment_check.specs.Patterns.{is_pair_range}
use Rattle.interval_facts.specs.Solutions.{SolveAll, at_device}
use Rattle.interval_facts.proofs.Pointwise.{pointwise_nth}
use Rattle.fc_nodes.specs.Variables.{is_own, occurs_in}
use Rattle.growth_facts.specs.Growth.{Grows, growth_of}
use Rattle.growth_facts.specs.Leads.{least_integer, greatest_integer}
use Rattle.growth_facts.specs.Turns.{turns_of, rounds_of}
use Rattle.growth_facts.proofs.Grow.{both_fit, least_nth, within_of}
use Rattle.converge_laws.specs.Invariant.{HoldAll}
use Rattle.converge_laws.proofs.Given.{GivenAll}
use Rattle.converge_laws.proofs.Near.{near_kid, own_kid}
use Rattle.converge_laws.proofs.Step.{all_given, kid_is, or_left, or_right}
use Rattle.converge_laws.proofs.Seen.{variable_value}
use Rattle.converge_laws.proofs.Around.{heard_in, around_up, local_back, local_in}
use Rattle.interval_facts.proofs.Claims.{some_around}
use Rattle.converge_laws.proofs.Body.{own_kept, hears_by}
use Rattle.converge_laws.proofs.Minimise.{grows}
use Rattle.converge_laws.proofs.Climb.{close_less}
use Rattle.converge_laws.proofs.Exact.{hood_types, head_of, HasTop, hood_top, exact}
use Rattle.converge_laws.proofs.LimitedRise.{rise_rounds, rise_begins, rise_is, apart_close, close_apart}
use Rattle.rise.specs.Stages.{Near, climbed}
use Rattle.rise.proofs.Climbing.{rise_step, stage_is_reached}

module _ (t1 u1 : ValueType) (h l own w : Term) where
  abbrev T : Term
  T = Apply u1 op.MinHoodLoc (More h (More l NoMore))

  abbrev U : Term
  U = Apply t1 op.Rise (More (Apply u1 op.MinHoodLoc (More h (More l NoMore))) (More own (More w NoMore)))

  module _ (A : Analysis) (N : Network) (d j : ℕ) (t : ValueType) (e : Evolution) (a : Term) (p b : ℕ) (st : Stage) (lv : Lvs) (D : Devices) (V : ValueMaps) (F : ValueMap) (s : Solves N p (Evolve t e a U) D V F) (vars : Vars) (env : Env) (v : AnyValue) (tree : Tree) (cl : occurs st.var (Evolve t e a U) ≡ false) (g : Given A N d j p b st lv (Evolve t e a U) D V F s vars env) (r : Evolves N d p e a U vars env v tree)
      (net : IsNetwork N) (deep : suc b ≤ level_of A.stages (suc p + size a) b p lv U) (rep : e ≡ ByRep) (steps : (k : Term) → size k ≤ size U → StepOf A N d j k)
      (owns : is_own p own ≡ true) (apart : occurs p w ≡ false) (shallow : Shallow e p (inner t) T) where
    abbrev M : ℕ
    M = N.declared.ceiling

    abbrev ty : LocalType
    ty = inner t

    abbrev at : ℕ
    at = suc p + size a

    abbrev y : Stage
    y = stage_of A N p b lv e a U D V

    abbrev W : ValueMaps
    W = bind p (evolved e N D s.1) V

    abbrev ds : List ℕ
    ds = around N D d

    abbrev args : Terms
    args = More T (More own (More w NoMore))

    abbrev vars' : Vars
    vars' = (p, r.start) ∷ vars

    abbrev env' : Env
    env' = child_env 1 env

    abbrev place : ℕ
    place = suc at + size T + size own

    -- the own last result
    start : (x : LocalValue) × (own_or env.own r.first ≡ Some x) × (r.start ≡ ValueLocal x)
    start = subst (λ f. Starts f d r.first env r.start) rep r.starts

    -- the arguments of `rise` in the firing and in the solution
    record Rises (P : ℕ → LocalValue → LocalValue → Type 0) (Gs : List ValueMap) (z : SolveAll N (suc at) args D W Gs) (vs : List AnyValue) (ts : Trees) : Type 0 where
      target : AnyValue
      step : AnyValue
      goal : ValueMap
      gain : AnyValue
      values : vs ≡ target ∷ ValueLocal start.0 ∷ step ∷ []
      maps : at_device d Gs ≡ goal d ∷ ValueLocal (s.1 d) ∷ gain ∷ []
      beside : y.base ≤ suc j → Beside M d ds e p (FieldPair P) (IsPart M ds A.ranges) (suc at) T target (goal d)
      same : y.base ≤ suc j → step ≡ gain
      lies : LiesIn (A.ranges place) gain
      fits : FitsOver M ds (term_type w) gain
      solves : Solves N (suc at) T D W goal
      ranged : InRanges A.ranges N (suc at) T D W goal solves
      holds : (K : Tree) → kids_from 0 K ≡ ts → HoldAll A N (suc j) (suc at) 0 b y lv args D W Gs z d K

    parts : (q : ℕ) (k : Term) (G : ValueMap) (z : Solves N q k D W G) → InRanges A.ranges N q k D W G z → IsPart M ds A.ranges q k (G d)
    parts q k G z rr = (solution_fits N net k q D W G z d g.inside, lies_of A.ranges N q k D W G z rr d g.inside)

    own_map : (q : ℕ) (k : Term) (G : ValueMap) → is_own p k ≡ true → Solves N q k D W G → G d ≡ ValueLocal (s.1 d)
    own_map q (Plain t' (Variable n)) G o z =
        let n' : n ≡ p = grind (arith, o, nat_tests) in
        let same = self_eq p in
        let at_p : W p d ≡ evolved e N D s.1 d = rw same refl in
        let at_n : W n d ≡ ValueLocal (s.1 d) = ap (λ k. W k d) n' ∙ at_p ∙ ap (λ f. evolved f N D s.1 d) rep in
        z.1 d g.inside ∙ ap (restricted d (neighbour_numbers (near_among N D d))) at_n
    own_map q (Plain t' (Literal x)) G o z = absurd cc
    own_map q (Plain t' (Sense i)) G o z = absurd cc
    own_map q (Plain t' Uid) G o z = absurd cc
    own_map q (Plain t' NbrLink) G o z = absurd cc
    own_map q (Apply t' f xs) G o z = absurd cc
    own_map q (Nbr t' k) G o z = absurd cc
    own_map q (Evolve t' f k l) G o z = absurd cc
    own_map q (If t' c k l) G o z = absurd cc
    own_map q (Let t' k l) G o z = absurd cc

    own_value : (q : ℕ) (k : Term) (en : Env) (x : AnyValue) (T' : Tree) → is_own p k ≡ true → Evaluates (situation_at N d) q k vars' en x T' → x ≡ ValueLocal start.0
    own_value q (Plain t' (Variable n)) en x T' o z =
        let n' : n ≡ p = grind (arith, o, nat_tests) in
        let same = self_eq p in
        let bound : variable_at p vars' ≡ Some (ValueLocal start.0) = rw same (ap Some start.2) in
        variable_value N d q n t' vars' en x (ValueLocal start.0) T' z (ap (λ k. variable_at k vars') n' ∙ bound)
    own_value q (Plain t' (Literal x')) en x T' o z = absurd cc
    own_value q (Plain t' (Sense i)) en x T' o z = absurd cc
    own_value q (Plain t' Uid) en x T' o z = absurd cc
    own_value q (Plain t' NbrLink) en x T' o z = absurd cc
    own_value q (Apply t' f xs) en x T' o z = absurd cc
    own_value q (Nbr t' k) en x T' o z = absurd cc
    own_value q (Evolve t' f k l) en x T' o z = absurd cc
    own_value q (If t' c k l) en x T' o z = absurd cc
    own_value q (Let t' k l) en x T' o z = absurd cc

    own_holds : (q : ℕ) (k : Term) (G : ValueMap) (z : Solves N q k D W G) (K : Tree) → is_own p k ≡ true → Holds A N (suc j) q b y lv k D W G z d K
    own_holds q (Plain t' l') G z K o = tt
    own_holds q (Apply t' f xs) G z K o = absurd cc
    own_holds q (Nbr t' k) G z K o = absurd cc
    own_holds q (Evolve t' f k l) G z K o = absurd cc
    own_holds q (If t' c k l) G z K o = absurd cc
    own_holds q (Let t' k l) G z K o = absurd cc

    module _ (P : ℕ → LocalValue → LocalValue → Type 0) (k : (n : ℕ) (x : LocalValue) → Fits M ty x → KeptAt M y j n (Some x) (s.1 n) → P n x (s.1 n)) (k' : e ≡ ByRep → (n : ℕ) (x : LocalValue) → Fits M ty x → HeardAt M y j n (Some x) (s.1 n) → P n x (s.1 n)) where
      rises_all : (Gs : List ValueMap) (z : SolveAll N (suc at) args D W Gs) (vs : List AnyValue) (ts : Trees) → GivenAll A N d j (suc at) 0 b y lv args D W Gs z vars' env' → EvaluateAll (situation_at N d) (suc at) 0 args vars' env' vs ts → Rises P Gs z vs ts
      rises_all [] z vs ts gs ev = absurd z
      rises_all (X ∷ []) z vs ts gs ev = absurd z.1
      rises_all (X ∷ Y ∷ []) z vs ts gs ev = absurd z.1.1
      rises_all (X ∷ Y ∷ Z ∷ Q ∷ Gs) z vs ts gs ev = absurd z.1.1.1
      rises_all (X ∷ Y ∷ Z ∷ []) z vs ts gs (one_more x1 xs1 v1 vs1 t1' ts1 h1 (one_more x2 xs2 v2 vs2 t2' ts2 h2 (one_more x3 xs3 v3 vs3 t3' ts3 h3 none))) =
          let hear = hears_by A N d j t e a U p b st lv D V F s vars env v tree cl g r net deep e refl P r.starts k k' in
          let first = seen A N d j b y lv e P (IsPart M ds A.ranges) D W s.1 vars' ty net deep hear parts T (λ q l'. steps q (omega (arith, l'))) (suc at) X z.0 (child_env 0 env') v1 t1' shallow (omega arith) (record {
            frag = gs.frag.0;
            ranges = gs.ranges.0;
            inside = gs.inside;
            alive = gs.alive;
            low = gs.low;
            own = λ l'. own_kid _ _ 0 (λ K z'. (first_kid (FitsTree M T) (FitTrees M (More own (More w NoMore))) 0 K z'.0, z'.1.0)) env'.own (gs.own l');
            near = λ l'. near_kid _ _ 0 (λ n K z'. (first_kid (FitsTree M T) (FitTrees M (More own (More w NoMore))) 0 K z'.0, z'.1.0)) (near_among N D d) env'.near (gs.near l');
            binders = λ q o. gs.binders q (or_left (occurs q T) (occurs_in q (More own (More w NoMore))) o);
          }) h1 in
          let third = steps w (omega arith) (suc at + size T + size own) b y lv D W Z z.1.1.0 vars' (child_env 2 env') v3 t3' apart (record {
            frag = gs.frag.1.1.0;
            ranges = gs.ranges.1.1.0;
            inside = gs.inside;
            alive = gs.alive;
            low = gs.low;
            own = λ l'. own_kid _ _ 2 (λ K z'. (first_kid (FitsTree M w) (FitTrees M NoMore) 2 K (rest_kids (FitsTree M own) (FitTrees M (More w NoMore)) 1 K (rest_kids (FitsTree M T) (FitTrees M (More own (More w NoMore))) 0 K z'.0)), z'.1.1.1.0)) env'.own (gs.own l');
            near = λ l'. near_kid _ _ 2 (λ n K z'. (first_kid (FitsTree M w) (FitTrees M NoMore) 2 K (rest_kids (FitsTree M own) (FitTrees M (More w NoMore)) 1 K (rest_kids (FitsTree M T) (FitTrees M (More own (More w NoMore))) 0 K z'.0)), z'.1.1.1.0)) (near_among N D d) env'.near (gs.near l');
            binders = λ q o. gs.binders q (or_right (occurs q T) (occurs_in q (More own (More w NoMore))) (or_right (occurs q own) (occurs_in q (More w NoMore)) (or_left (occurs q w) false o)));
          }) h3 in
          record {
            target = v1;
            step = v3;
            goal = X;
            gain = Z d;
            values = ap (λ (q : AnyValue). v1 ∷ q ∷ v3 ∷ []) (own_value (suc at + size T) own (child_env 1 env') v2 t2' owns h2);
            maps = ap (λ (q : AnyValue). X d ∷ q ∷ Z d ∷ []) (own_map (suc at + size T) own Y owns z.1.0);
            beside = first.beside;
            same = λ l'. third.value (omega (arith, l'));
            lies = lies_of A.ranges N (suc at + size T + size own) w D W Z z.1.1.0 gs.ranges.1.1.0 d gs.inside;
            fits = solution_fits N net w (suc at + size T + size own) D W Z z.1.1.0 d gs.inside;
            solves = z.0;
            ranged = gs.ranges.0;
            holds = λ K q.
                let kid1 = kid_is 0 K t1' (Then t2' (Then t3' Done)) q in
                let kid2 = kid_is 1 K t2' (Then t3' Done) kid1.1 in
                let kid3 = kid_is 2 K t3' Done kid2.1 in (
                  subst (λ x. Holds A N (suc j) (suc at) b y lv T D W X z.0 d x) (sym kid1.0) first.holds,
                  (
                    own_holds (suc at + size T) own Y z.1.0 (child 1 K) owns,
                    (subst (λ x. Holds A N (suc j) (suc at + size T + size own) b y lv w D W Z z.1.1.0 d x) (sym kid3.0) third.holds, tt),
                  ),
                );
          }

    -- the body of the firing
    record Applied (x : AnyValue) (body : Tree) : Type 0 where
      values : List AnyValue
      kids : Trees
      evaluate : EvaluateAll (situation_at N d) (suc at) 0 args vars' env' values kids
      is : builtin_value op.Rise M d values ≡ Some x
      keeps : body ≡ Keep None kids

    applied_of : (x : AnyValue) (body : Tree) → Evaluates (situation_at N d) at U vars' env' x body → Applied x body
    applied_of x body (builtin t' o' xs' vs ts x' es q) = record { values = vs; kids = ts; evaluate = es; is = q; keeps = refl }

    applied : Applied (ValueLocal r.result) r.body
    applied = applied_of (ValueLocal r.result) r.body r.evaluates

    arguments : GivenAll A N d j (suc at) 0 b y lv args D W s.2.1 s.2.2 vars' env'
    arguments = all_given A N d j t1 op.Rise args at b y lv D W (local_map s.1) s.2 vars' env' (body_given A N d j t e a U p b st lv D V F s vars env v tree cl g r)

    module _ (c r' top t' : ℕ) (is : A.pattern p ≡ pattern.Rising top c r') (turns : turns_of c r' ≡ suc t') (enough : c ≤ suc t' * r') (pos : 1 ≤ r') (least : r' ≡ least_integer (A.ranges place))
        (settled : occurs p l ≡ false) (gr : growth_of M A.ranges e p (suc (suc at)) h ≡ Grows c) where
      lag : y.lag ≡ 1
      lag = ap lag_of rep

      climbs_at : (base n : ℕ) (o : Option LocalValue) (x : LocalValue) → StageBy M y.pattern base y.lag y.rank j n o x → ClimbsBy M c r' (suc t') base 1 j o x
      climbs_at base n o x z = subst (λ k. ClimbsBy M c r' k base 1 j o x) turns (subst (λ k. ClimbsBy M c r' (turns_of c r') base k j o x) lag (subst (λ k. StageBy M k base y.lag y.rank j n o x) is z))

      -- the neighbours' values, and the own one, at a stage
      stage_close : (base i n : ℕ) (x : LocalValue) → ((k : ℕ) → i ≡ suc k → base + k * (suc t' + 1) + t' ≤ j) → ClimbsBy M c r' (suc t') base 1 j (Some x) (s.1 n) → Close (min M (i * c)) x (s.1 n)
      stage_close base zero n x l' z = inr (omega arith, omega arith)
      stage_close base (suc i) n x l' z = subst (λ k. Close k x (s.1 n)) (stage_is_reached M c r' i (suc t') enough) (z i t' (omega arith) (l' i refl))

      abbrev NearTo : ℕ → ℕ → LocalValue → LocalValue → Type 0
      NearTo i n x z = Close (min M (i * c)) x z × (z ≡ s.1 n)

      rises_at : (i : ℕ) → y.base + i * (suc t' + 1) ≤ suc j → Rises (NearTo i) s.2.1 s.2.2 applied.values applied.kids
      rises_at i l' = rises_all (NearTo i)
          (λ n x f z. (stage_close y.base i n x (λ k q. omega (arith, l', q, ap (λ z. z * (suc t' + 1)) q)) (climbs_at y.base n (Some x) (s.1 n) z), refl))
          (λ o n x f z. (stage_close (suc y.base) i n x (λ k q. omega (arith, l', q, ap (λ z. z * (suc t' + 1)) q)) (climbs_at (suc y.base) n (Some x) (s.1 n) z), refl))
          s.2.1 s.2.2 applied.values applied.kids arguments applied.evaluate

      own_close : (i q : ℕ) → q < suc t' → y.base + i * (suc t' + 1) + q ≤ suc j → Near (climbed M c r' i q) (lead start.0) (lead (s.1 d))
      own_close i q l' z = from i q l' z (climbs_at y.base d (Some start.0) (s.1 d) (own_kept A N d j t e a U p b st lv D V F s vars env v tree cl g r net deep r.first start.0 start.1))
        where
          from : (i q : ℕ) → q < suc t' → y.base + i * (suc t' + 1) + q ≤ suc j → ClimbsBy M c r' (suc t') y.base 1 j (Some start.0) (s.1 d) → Near (climbed M c r' i q) (lead start.0) (lead (s.1 d))
          from zero zero l' z k = inr (omega arith, omega arith)
          from (suc i) zero l' z k = subst (λ x. Near x (lead start.0) (lead (s.1 d))) (sym (rise_begins M c r' i (suc t') enough)) (close_apart (climbed M c r' i (suc t')) start.0 (s.1 d) (k i t' (omega arith) (omega (arith, z))))
          from i (suc q) l' z k = close_apart (climbed M c r' i (suc q)) start.0 (s.1 d) (k i q (omega (arith, l')) (omega (arith, z)))

      -- what the firing and the solution make
      record Made (i : ℕ) : Type 0 where
        target : LocalValue
        goal : LocalValue
        step : ℕ
        fired : r.result ≡ IntValue (min (lead target) (lead start.0 + step))
        solved : s.1 d ≡ IntValue (lead (s.1 d))
        fixed : lead (s.1 d) ≡ min (lead goal) (lead (s.1 d) + step)
        some : 1 ≤ step
        enough' : r' ≤ step
        close : Close (min M (i * c + c)) target goal
        fits : Fits M (inner u1) target
        goal_fits : Fits M (inner u1) goal
        goal_int : goal ≡ IntValue (lead goal)
        goal_top : HasTop N net A.ranges D W (inner u1) (A.ranges (suc (suc at) + size h)) goal

      made : (i : ℕ) → y.base + i * (suc t' + 1) ≤ suc j → Made i
      made i l' =
          let z = rises_at i l' in
          let z0 = z.beside (omega (arith, l')) in
          let types = hood_types (term_type h ∷ term_type l ∷ []) u1 shallow.0 in
          let two = head_of (term_type h) (term_type l) (TypeField types.of) (TypeLocal types.of) [] [] types.arguments in
          let rising = rises_test ds (around_up N net D d) in
          let fit = both_fit M d ds e p (FieldPair (NearTo i)) (IsPart M ds A.ranges) A.ranges rising (λ q k x f. f) z0 in
          let same_type : inner u1 ≡ types.of = ap inner types.value in
          let tv = local_back M ds u1 types.of z.target types.value fit.0 in
          let gv = local_back M ds u1 types.of (z.goal d) types.value fit.1 in
          let beside' : Beside M d ds e p (FieldPair (NearTo i)) (IsPart M ds A.ranges) (suc at) T (ValueLocal (local_in z.target)) (ValueLocal (local_in (z.goal d))) =
          subst (λ x. Beside M d ds e p (FieldPair (NearTo i)) (IsPart M ds A.ranges) (suc at) T (ValueLocal (local_in z.target)) x) gv.0 (subst (λ x. Beside M d ds e p (FieldPair (NearTo i)) (IsPart M ds A.ranges) (suc at) T x (z.goal d)) tv.0 z0) in
          let close = grows M d (min M (i * c)) c ds e p s.1 A.ranges rising (suc at) u1 h l (local_in z.target) (local_in (z.goal d)) settled gr (ap inner two.0 ∙ sym (ap inner two.1)) beside' in
          let fired' : builtin_value op.Rise M d (z.target ∷ ValueLocal start.0 ∷ z.step ∷ []) ≡ Some (ValueLocal r.result) = subst (λ x. builtin_value op.Rise M d x ≡ Some (ValueLocal r.result)) z.values applied.is in
          let solved' : builtin_value op.Rise M d (z.goal d ∷ ValueLocal (s.1 d) ∷ z.gain ∷ []) ≡ Some (ValueLocal (s.1 d)) = subst (λ x. builtin_value op.Rise M d x ≡ Some (ValueLocal (s.1 d))) z.maps (s.2.3 d g.inside) in
          let fr = rise_is M (argument_nth 0 z.target) start.0 (argument_nth 0 z.step) r.result ((pointwise_nth op.Rise M d (z.target ∷ ValueLocal start.0 ∷ z.step ∷ []) (ValueLocal r.result) refl fired').each 0 tt) in
          let sr = rise_is M (argument_nth 0 (z.goal d)) (s.1 d) (argument_nth 0 z.gain) (s.1 d) ((pointwise_nth op.Rise M d (z.goal d ∷ ValueLocal (s.1 d) ∷ z.gain ∷ []) (ValueLocal (s.1 d)) refl solved').each 0 tt) in
          let low = least_nth (A.ranges place) z.gain 0 z.lies (within_of M ds (term_type w) z.gain 0 z.fits (some_around d (heard_in N D d))) in
          let same_step : lead (argument_nth 0 z.step) ≡ lead (argument_nth 0 z.gain) = ap (λ x. lead (argument_nth 0 x)) (z.same (omega (arith, l'))) in
          let target_is : argument_nth 0 z.target ≡ local_in z.target = ap (argument_nth 0) tv.0 in
          let goal_is : argument_nth 0 (z.goal d) ≡ local_in (z.goal d) = ap (argument_nth 0) gv.0 in
          let fixed' : lead (s.1 d) ≡ min (lead (argument_nth 0 (z.goal d))) (lead (s.1 d) + lead (argument_nth 0 z.gain)) = ap lead sr.is in
          record {
            target = local_in z.target;
            goal = local_in (z.goal d);
            step = lead (argument_nth 0 z.gain);
            fired = fr.is ∙ ap (λ x. IntValue (min (lead x) (lead start.0 + lead (argument_nth 0 z.step)))) target_is ∙ ap (λ x. IntValue (min (lead (local_in z.target)) (lead start.0 + x))) same_step;
            solved = sr.last;
            fixed = fixed' ∙ ap (λ x. min (lead x) (lead (s.1 d) + lead (argument_nth 0 z.gain))) goal_is;
            some = omega (arith, low, least, pos);
            enough' = omega (arith, low, least);
            close = close_less (min M (i * c + c)) (min M (min M (i * c) + c)) (local_in z.target) (local_in (z.goal d)) (omega arith) close;
            fits = subst (λ x. Fits M x (local_in z.target)) (sym same_type) tv.1;
            goal_fits = subst (λ x. Fits M x (local_in (z.goal d))) (sym same_type) gv.1;
            goal_int = sym goal_is ∙ sr.target ∙ ap (λ x. IntValue (lead x)) goal_is;
            goal_top = subst (λ x. HasTop N net A.ranges D W x (A.ranges (suc (suc at) + size h)) (local_in (z.goal d))) (sym same_type) (hood_top N net A.ranges D W (suc at) u1 h l types.of z.goal two.0 two.1 z.solves z.ranged d g.inside (local_in (z.goal d)) gv.0);
          }

      result_close : (i q : ℕ) → q < suc t' → y.base + i * (suc t' + 1) + q ≤ suc j → Close (climbed M c r' i (suc q)) r.result (s.1 d)
      result_close i q l' z =
          let k = made i (omega (arith, z)) in
          let a1 : Near (min M (suc i * c)) (lead k.target) (lead k.goal) = subst (λ x. Near x (lead k.target) (lead k.goal)) (omega arith) (close_apart (min M (i * c + c)) k.target k.goal k.close) in
          let a2 = rise_step M c r' i q (lead k.target) (lead start.0) k.step (lead k.goal) (lead (s.1 d)) k.enough' k.some k.fixed a1 (own_close i q l' z) in
          let lead_is : lead r.result ≡ min (lead k.target) (lead start.0 + k.step) = ap lead k.fired in
          apart_close (climbed M c r' i (suc q)) r.result (s.1 d) (k.fired ∙ ap IntValue (sym lead_is)) k.solved (subst (λ x. Near (climbed M c r' i (suc q)) x (lead (s.1 d))) (sym lead_is) a2)

      int_type : (k : LocalType) (x : LocalValue) → x ≡ IntValue (lead x) → Fits M k x → k ≡ IntType
      int_type IntType x q f = refl
      int_type BoolType (BoolValue z) q f = absurd cc
      int_type BoolType (IntValue n) q f = absurd f
      int_type BoolType (PairValue z z') q f = absurd f
      int_type (PairType k k') (PairValue z z') q f = absurd cc
      int_type (PairType k k') (IntValue n) q f = absurd f
      int_type (PairType k k') (BoolValue n) q f = absurd f

      int_fits : (x : LocalValue) → Fits M IntType x → lead x ≤ M
      int_fits (IntValue n) f = f
      int_fits (BoolValue z) f = absurd f
      int_fits (PairValue z z') f = absurd f

      not_pair : (k : RangeValue) (x : LocalValue) → Fits M IntType x → InRange k x → is_pair_range k ≡ true → ⊥
      not_pair (IntRange z z') x f q k = absurd cc
      not_pair BoolRange x f q k = absurd cc
      not_pair (PairRange k k') (IntValue n) f q z = absurd q
      not_pair (PairRange k k') (BoolValue n) f q z = absurd f
      not_pair (PairRange k k') (PairValue n n') f q z = absurd f

      abbrev R : RangeValue
      R = A.ranges (suc (suc at) + size h)

      -- as many stages as there are reach the solution
      pub rise_raised : 1 ≤ c → top ≡ greatest_integer R → greatest_integer R ≤ M → A.stages p ≡ rounds_of top c r' → BodyRaised A N d j t e a U p b st lv D V F s vars env v tree cl g r
      rise_raised some same_top most stages = record {
        value = λ l'. let k = stages ∙ rise_rounds top (greatest_integer R) c r' t' turns same_top in reached (omega (arith, l', k));
        stages = subst (λ k. StageBy M k y.base y.lag y.rank (suc j) d (Some r.result) (s.1 d)) (sym is) (subst (λ k. ClimbsBy M c r' k y.base y.lag (suc j) (Some r.result) (s.1 d)) (sym turns)
            (subst (λ k. ClimbsBy M c r' (suc t') y.base k (suc j) (Some r.result) (s.1 d)) (sym lag) (λ i q m' l'. result_close i q m' l')));
        holds = (rises_all (λ n x w'. Unit {0}) (λ n x f z. tt) (λ o n x f z. tt) s.2.1 s.2.2 applied.values applied.kids arguments applied.evaluate).holds r.body (ap (kids_from 0) applied.keeps);
      }
        where
          reached : y.base + (greatest_integer R / c) * (suc t' + 1) + t' ≤ suc j → r.result ≡ s.1 d
          reached l' =
              let i = greatest_integer R / c in
              let k = made i (omega (arith, l')) in
              let z = subst (λ x. Close x r.result (s.1 d)) (stage_is_reached M c r' i (suc t') enough) (result_close i t' (omega arith) l') in
              let int : inner u1 ≡ IntType = int_type (inner u1) k.goal k.goal_int k.goal_fits in
              let own_fits : Fits M IntType k.goal_top.own = subst (λ x. Fits M x k.goal_top.own) int k.goal_top.fits in
              let target_low = int_fits k.target (subst (λ x. Fits M x k.target) int k.fits) in
              let goal_low = int_fits k.goal (subst (λ x. Fits M x k.goal) int k.goal_fits) in
              let fixed' = k.fixed in
              let below = k.goal_top.most in
              exact M c IntType R k.goal_top.own r.result (s.1 d) refl own_fits k.goal_top.lies
              (subst (Fits M IntType) (sym k.fired) (omega (arith, target_low)))
              (subst (Fits M IntType) (sym k.solved) (omega (arith, goal_low, fixed')))
              (omega (arith, below, fixed')) most (λ x z'. not_pair R k.goal_top.own own_fits k.goal_top.lies x) some z
