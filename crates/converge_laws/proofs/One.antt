-- Each term of the fragment has at most one solution in its ranges.
use Rattle.std.proofs.Common.{◌≡◌, ◌≢◌, ℕ, zero, suc, ◌≤◌, ◌<◌, ◌+◌, ◌*◌, ◌/◌, List, [], ◌∷◌, refl, sym, ◌∙◌, ap, subst, arith, inr, Bool, true, false, ◌||◌, nat_eq, min}
use Rattle.std.specs.Prelude.{if◌then◌else◌}
use Rattle.std.proofs.lemmas.Bool.Decides.{nat_tests}
use Rattle.fc_values.specs.Types.{ValueType}
use Rattle.fc_values.specs.Values.{LocalValue, BoolValue}
use Rattle.fc_values.specs.Fields.{ValueLocal, FitsOver}
use Rattle.fc_values.specs.Builtins.{builtin_value}
use Rattle.fc_values.specs.BuiltinTypes.{inner}
use Rattle.fc_values.specs.Positions.{argument_nth}
use Rattle.fc_nodes.specs.Terms.{Evolution, Term, Terms, Plain, Apply, Nbr, Evolve, If, Let, NoMore, More, term_type, size, sizes}
use Rattle.topology.specs.Networks.{Network, IsNetwork}
use Rattle.interval_facts.specs.Solutions.{Devices, In, ValueMap, ValueMaps, bind, around, at_device, local_map, evolved, where_is, Solves, SolveAll}
use Rattle.fc_nodes.specs.Variables.{occurs, occurs_in}
use Rattle.growth_facts.specs.Leads.{lead, Close}
use Rattle.interval_facts.specs.Claims.{InRanges, AllInRanges}
use Rattle.converge_laws.proofs.Near.{is_same, in_part}
use Rattle.converge_laws.proofs.Step.{or_left, or_right, self_eq}
use Rattle.converge_laws.proofs.Around.{solution_fits}
use Rattle.converge_laws.proofs.Agreement.{AgreeFor, AgreeIn, leaf_same, local_same, truth_same, some_same, field_same, set_same, bind_agree, bind_apart}
use Rattle.fc_values.specs.declared.builtins.Builtin.TheVariants as op
use Rattle.fc_values.specs.declared.builtins.Builtin.TheVariants as op
use Rattle.fc_values.specs.Types.{TypeLocal, TypeField}
use Rattle.fc_nodes.specs.Variables.{is_own}
use Rattle.growth_facts.specs.Leads.{least_integer, greatest_integer}
use Rattle.growth_facts.proofs.Grow.{least_nth, within_of}
use Rattle.fragment_check.specs.declared.kinds.Pattern.{Pattern}
use Rattle.fragment_check.specs.Shapes.{HasPattern, constant, acyclic, minimising, rising}
use Rattle.converge_laws.specs.Stages.{integer_of}
use Rattle.converge_laws.specs.Fragment.{Analysis, IsFor, TermInFragment, TermsInFragment}
use Rattle.converge_laws.proofs.Around.{heard_in}
use Rattle.interval_facts.proofs.Claims.{some_around}
use Rattle.converge_laws.proofs.Exact.{HoodTypes, hood_types, head_of, hood_top, last_stage, exact_int}
use Rattle.converge_laws.proofs.NextStage.{OneOf, next_hood, next_low}
use Rattle.converge_laws.proofs.Ranged.{lies_of}
use Rattle.converge_laws.proofs.RiseGoal.{RiseGoal, rise_goal}
use Rattle.fc_nodes.proofs.Kids.{size_some}

pub own_size : (p : ℕ) (own : Term) → is_own p own ≡ true → size own ≡ 1
own_size p (Plain t' l') o = refl
own_size p (Apply t' f xs) o = absurd cc
own_size p (Nbr t' k) o = absurd cc
own_size p (Evolve t' f k l') o = absurd cc
own_size p (If t' c' k l') o = absurd cc
own_size p (Let t' k l') o = absurd cc

-- another binder
pub beside_bound : (p q : ℕ) (G H : ValueMap) (V W : ValueMaps) (n : ℕ) → q ≢ p → V q n ≡ W q n → bind p G V q n ≡ bind p H W q n
beside_bound p q G H V W n ne h = by_test (nat_eq p q) refl
  where
    by_test : (b : Bool) → nat_eq p q ≡ b → (if b then G else V q) n ≡ (if b then H else W q) n
    by_test true w = absurd (ne (grind (arith, w, nat_tests)))
    by_test false w = h

module _ (A : Analysis) (N : Network) (net : IsNetwork N) (for : IsFor A N) where
  abbrev M : ℕ
  M = N.declared.ceiling

  abbrev One : Term → Type 0
  One t = OneOf A N net t

  bound_is : (p : ℕ) (G : ValueMap) (X : ValueMaps) (n : ℕ) → bind p G X p n ≡ G n
  bound_is p G X n = let z = self_eq p in rw z refl

  rep_one : (t : ValueType) (e : Evolution) (u : Term) (p at : ℕ) (D : Devices) (V W : ValueMaps) (f f' : ℕ → LocalValue) (pt : Pattern) → HasPattern M A.ranges e p at (inner t) u pt → TermInFragment A M at u → AgreeFor D u V W
      → Solves N at u D (bind p (evolved e N D f) V) (local_map f) → (r : Solves N at u D (bind p (evolved e N D f') W) (local_map f')) → InRanges A.ranges N at u D (bind p (evolved e N D f') W) (local_map f') r
      → ((y : Term) → size y ≤ size u → One y) → (d : ℕ) → In D d → f d ≡ f' d
  rep_one t e u p at D V W f f' pt (constant u' o) fr ag s r rr P d i =
      local_same (f d) (f' d) (P u (omega arith) at D (bind p (evolved e N D f) V) (bind p (evolved e N D f') W) (local_map f) (local_map f') fr (bind_apart N D p u (evolved e N D f) (evolved e N D f') V W o ag) s r rr d i)
  rep_one t e u p at D V W f f' pt (acyclic u' q o sh gd) fr ag s r rr P d i = stage (suc (integer_of (W' q d))) d i (omega arith)
    where
      W' : ValueMaps
      W' = bind p (evolved e N D f') W

      other_agree : (k : ℕ) → occurs k u ≡ true → k ≢ p → (n : ℕ) → In D n → bind p (evolved e N D f) V k n ≡ W' k n
      other_agree k z ne n m = beside_bound p k (evolved e N D f) (evolved e N D f') V W n ne (ag k z n m)

      stage : (j : ℕ) (n : ℕ) → In D n → integer_of (W' q n) < j → f n ≡ f' n
      stage zero n m l = absurd (omega (arith, l))
      stage (suc j) n m l = next_low A N net e p (inner t) D (bind p (evolved e N D f) V) W' f f' f f' (bound_is p (evolved e N D f) V) (bound_is p (evolved e N D f') W) at q u sh gd fr other_agree P s r rr j (λ k z l'. stage j k z l') n m l
  rep_one t e u p at D V W f f' pt (minimising t' h l c o n0 sh gr pos pair) fr ag s r rr P d i =
      last_stage N net A.ranges D W' e p at c t' h l (inner t) (local_map f') sh o n0 gr pos (for.ends (suc at + size h)) pair r rr d i (f d) (f' d) (solution_fits N net (Apply t' op.MinHoodLoc (More h (More l NoMore))) at D (bind p (evolved e N D f) V) (local_map f) s d i) refl
      (stage (suc (greatest_integer (A.ranges (suc at + size h)) / c)) d i)
    where
      W' : ValueMaps
      W' = bind p (evolved e N D f') W

      other_agree : (k : ℕ) → occurs k (Apply t' op.MinHoodLoc (More h (More l NoMore))) ≡ true → k ≢ p → (n : ℕ) → In D n → bind p (evolved e N D f) V k n ≡ W' k n
      other_agree k z ne n m = beside_bound p k (evolved e N D f) (evolved e N D f') V W n ne (ag k z n m)

      stage : (j : ℕ) (n : ℕ) → In D n → Close (min M (j * c)) (f n) (f' n)
      stage zero n m = inr (omega arith, omega arith)
      stage (suc j) n m = next_hood A N net e p (inner t) D (bind p (evolved e N D f) V) W' f f' f f' (bound_is p (evolved e N D f) V) (bound_is p (evolved e N D f') W) at t' h l c (local_map f) (local_map f') sh n0 gr fr other_agree P s r rr (λ k z. refl) (λ k z. refl) j (λ k z. stage j k z) n m
  rep_one t e u p at D V W f f' pt (rising t1 u1 h l own w c rep rule ow n0 nw sh shw gr pos low) fr ag s r rr P d i =
      let x = s1.int d i in
      let top = hood_top N net A.ranges D W' (suc at) u1 h l types.of g2.goal two.0 two.1 g2.solves (g2.ranged rr.1).0 d i (f' d) (goal_is d i) in
      exact_int M c (A.ranges (suc (suc at) + size h)) types.of top.own (f d) (f' d) (g2.int d i) x top.fits top.lies
      (subst (λ y. FitsOver M (around N D d) y (ValueLocal (f d))) types.value (subst (FitsOver M (around N D d) u1) (goal_was d i) (solution_fits N net T (suc at) D V' s1.goal s1.solves d i)))
      (subst (λ y. FitsOver M (around N D d) y (ValueLocal (f' d))) types.value (subst (FitsOver M (around N D d) u1) (goal_is d i) (solution_fits N net T (suc at) D W' g2.goal g2.solves d i)))
      top.most (for.ends (suc (suc at) + size h)) pos (stage (suc (greatest_integer (A.ranges (suc (suc at) + size h)) / c)) d i)
    where
      T : Term
      T = Apply u1 op.MinHoodLoc (More h (More l NoMore))

      V' : ValueMaps
      V' = bind p (evolved e N D f) V

      W' : ValueMaps
      W' = bind p (evolved e N D f') W

      place : ℕ
      place = suc at + size (Apply u1 op.MinHoodLoc (More h (More l NoMore))) + size own

      same_place : place ≡ suc (suc (suc at + size h + size l))
      same_place = let z = own_size p own ow in omega (arith, z)

      types : HoodTypes (term_type h ∷ term_type l ∷ []) u1
      types = hood_types (term_type h ∷ term_type l ∷ []) u1 sh.0

      two : (term_type h ≡ TypeField types.of) × (term_type l ≡ TypeLocal types.of)
      two = head_of (term_type h) (term_type l) (TypeField types.of) (TypeLocal types.of) [] [] types.arguments

      own_bound : (g : ℕ → LocalValue) (X : ValueMaps) (n : ℕ) → bind p (evolved e N D g) X p n ≡ ValueLocal (g n)
      own_bound g X n = bound_is p (evolved e N D g) X n ∙ ap (λ k. evolved k N D g n) rep

      s1 : RiseGoal A.ranges N net D (bind p (evolved e N D f) V) p at u1 h l own w f s.1 s.2
      s1 = rise_goal A.ranges N net D (bind p (evolved e N D f) V) p at u1 h l own w f ow sh.0 (own_bound f V) s.1 s.2 s.3

      g2 : RiseGoal A.ranges N net D (bind p (evolved e N D f') W) p at u1 h l own w f' r.1 r.2
      g2 = rise_goal A.ranges N net D (bind p (evolved e N D f') W) p at u1 h l own w f' ow sh.0 (own_bound f' W) r.1 r.2 r.3

      other_agree : (k : ℕ) → k ≢ p → (n : ℕ) → V k n ≡ W k n → V' k n ≡ W' k n
      other_agree k ne n z = beside_bound p k (evolved e N D f) (evolved e N D f') V W n ne z

      in_first : (k : ℕ) → occurs k T ≡ true → occurs k (Apply t1 op.Rise (More (Apply u1 op.MinHoodLoc (More h (More l NoMore))) (More own (More w NoMore)))) ≡ true
      in_first k z = or_left (occurs k T) (occurs_in k (More own (More w NoMore))) z

      in_third : (k : ℕ) → occurs k w ≡ true → occurs k (Apply t1 op.Rise (More (Apply u1 op.MinHoodLoc (More h (More l NoMore))) (More own (More w NoMore)))) ≡ true
      in_third k z = or_right (occurs k T) (occurs_in k (More own (More w NoMore))) (or_right (occurs k own) (occurs_in k (More w NoMore)) (or_left (occurs k w) false z))

      gain_same : (n : ℕ) → In D n → s1.gain n ≡ g2.gain n
      gain_same n m = P w (omega arith) place D V' W' s1.gain g2.gain fr.1.1.0 (λ k z n m. other_agree k (λ q. let z' : occurs p w ≡ true = subst (λ y. occurs y w ≡ true) q z in absurd cc) n (ag k (in_third k z) n m)) s1.gains g2.gains (g2.ranged rr.1).1 n m

      gain_low : (n : ℕ) → In D n → 1 ≤ lead (argument_nth 0 (g2.gain n))
      gain_low n m =
          let z = least_nth (A.ranges place) (g2.gain n) 0 (lies_of A.ranges N place w D W' g2.gain g2.gains (g2.ranged rr.1).1 n m) (within_of M (around N D n) (term_type w) (g2.gain n) 0 (solution_fits N net w place D W' g2.gain g2.gains n m) (some_around n (heard_in N D n))) in
          let q = ap (λ k. least_integer (A.ranges k)) same_place in
          omega (arith, z, q, low)

      goal_is : (n : ℕ) → In D n → g2.goal n ≡ ValueLocal (f' n)
      goal_is n m = g2.is n m (gain_low n m)

      goal_was : (n : ℕ) → In D n → s1.goal n ≡ ValueLocal (f n)
      goal_was n m = s1.is n m (let z = gain_low n m in let q = ap (λ k. lead (argument_nth 0 k)) (gain_same n m) in omega (arith, z, q))

      stage : (j : ℕ) (n : ℕ) → In D n → Close (min M (j * c)) (f n) (f' n)
      stage zero n m = inr (omega arith, omega arith)
      stage (suc j) n m = next_hood A N net e p (inner t) D V' W' f f' f f' (bound_is p (evolved e N D f) V) (bound_is p (evolved e N D f') W) (suc at) u1 h l c s1.goal g2.goal sh n0 gr fr.0 (λ k z ne n m. other_agree k ne n (ag k (in_first k z) n m)) (λ y g. P y (omega (arith, g))) s1.solves g2.solves (g2.ranged rr.1).0 goal_was goal_is j (λ k z. stage j k z) n m

  all_one : (xs : Terms) → ((y : Term) → size y ≤ sizes xs → One y) → (p : ℕ) (D : Devices) (V W : ValueMaps) (Gs Hs : List ValueMap) → TermsInFragment A M p xs → AgreeIn D xs V W → SolveAll N p xs D V Gs → (r : SolveAll N p xs D W Hs) → AllInRanges A.ranges N p xs D W Hs r → (d : ℕ) → In D d → at_device d Gs ≡ at_device d Hs
  all_one NoMore P p D V W [] [] c h s r rr d i = refl
  all_one NoMore P p D V W [] (H ∷ Hs) c h s r rr d i = absurd r
  all_one NoMore P p D V W (G ∷ Gs) Hs c h s r rr d i = absurd s
  all_one (More x xs) P p D V W [] Hs c h s r rr d i = absurd s
  all_one (More x xs) P p D V W (G ∷ Gs) [] c h s r rr d i = absurd r
  all_one (More x xs) P p D V W (G ∷ Gs) (H ∷ Hs) c h s r rr d i =
      let e = P x (omega arith) p D V W G H c.0 (λ q o. h q (or_left (occurs q x) (occurs_in q xs) o)) s.0 r.0 rr.0 d i in
      let rest = all_one xs (λ y l. P y (omega (arith, l))) (p + size x) D V W Gs Hs c.1 (λ q o. h q (or_right (occurs q x) (occurs_in q xs) o)) s.1 r.1 rr.1 d i in
      rw (e, rest) refl

  if_one : (t : ValueType) (k u w : Term) → One k → One u → One w → One (If t k u w)
  if_one t k u w hk hu hw p D V W F G c h s r rr d i =
      let e : (n : ℕ) → In D n → s.1 n ≡ r.1 n = λ n m. truth_same (s.1 n) (r.1 n) (hk (suc p) D V W (local_map (λ d. BoolValue (s.1 d))) (local_map (λ d. BoolValue (r.1 d))) c.0 (λ q o. h q (or_left (occurs q k) (occurs q u || occurs q w) o)) s.2 r.2 rr.1 n m) in
      by_truth e (r.1 d) refl
      (λ b. hu (suc p + size k) (where_is true D r.1) V W F G c.1 (λ q o n m. h q (or_right (occurs q k) (occurs q u || occurs q w) (or_left (occurs q u) (occurs q w) o)) n (in_part true D r.1 n m)) (subst (λ S. Solves N (suc p + size k) u S V F) (set_same true D s.1 r.1 e) s.3) r.3 rr.2 d b)
      (λ b. hw (suc p + size k + size u) (where_is false D r.1) V W F G c.2 (λ q o n m. h q (or_right (occurs q k) (occurs q u || occurs q w) (or_right (occurs q u) (occurs q w) o)) n (in_part false D r.1 n m)) (subst (λ S. Solves N (suc p + size k + size u) w S V F) (set_same false D s.1 r.1 e) s.4) r.4 rr.3 d b)
    where
      inside : (b : Bool) → r.1 d ≡ b → In (where_is b D r.1) d
      inside b q = let t = is_same b (r.1 d) q in rw (i, t) refl

      by_truth : ((n : ℕ) → In D n → s.1 n ≡ r.1 n) → (b : Bool) → r.1 d ≡ b → (In (where_is true D r.1) d → F d ≡ G d) → (In (where_is false D r.1) d → F d ≡ G d) → F d ≡ G d
      by_truth e true q f g = f (inside true q)
      by_truth e false q f g = g (inside false q)

  one_to : (k : ℕ) (t : Term) → size t ≤ k → One t
  one_to zero t z p D V W F G c h s r rr d i = let o = size_some t in absurd (omega (arith, o, z))
  one_to (suc k) (Plain t l) z p D V W F G c h s r rr d i = leaf_same N D l V W d (F d) (G d) (λ q e. let o : occurs q (Plain t l) ≡ true = rw e (self_eq q) in h q o d i) (s.1 d i) (r.1 d i)
  one_to (suc k) (Apply t o xs) z p D V W F G c h s r rr d i =
      let e = all_one xs (λ y l. one_to k y (omega (arith, z, l))) (suc p) D V W s.1 r.1 c h s.2 r.2 rr.1 d i in some_same (F d) (G d) (sym (s.3 d i) ∙ ap (builtin_value o N.declared.ceiling d) e ∙ r.3 d i)
  one_to (suc k) (Nbr t a) z p D V W F G c h s r rr d i =
      s.3 d i ∙ field_same N D s.1 r.1 (λ n m. local_same (s.1 n) (r.1 n) (one_to k a (omega (arith, z)) (suc p) D V W (local_map s.1) (local_map r.1) c h s.2 r.2 rr.1 n m)) d i ∙ sym (r.3 d i)
  one_to (suc k) (Evolve t e a u) z p D V W F G c h s r rr d i =
      s.3 d i ∙ ap ValueLocal (rep_one t e u p (suc p + size a) D V W s.1 r.1 (A.pattern p) c.0 c.2 (λ q o. h q (or_right (occurs q a) (occurs q u) o)) s.2 r.2 rr.1 (λ y l. one_to k y (omega (arith, z, l))) d i) ∙ sym (r.3 d i)
  one_to (suc k) (If t y u w) z p D V W F G c h s r rr d i = if_one t y u w (one_to k y (omega (arith, z))) (one_to k u (omega (arith, z))) (one_to k w (omega (arith, z))) p D V W F G c h s r rr d i
  one_to (suc k) (Let t a u) z p D V W F G c h s r rr d i =
      let e = one_to k a (omega (arith, z)) (suc p) D V W s.1 r.1 c.0 (λ q o. h q (or_left (occurs q a) (occurs q u) o)) s.2 r.2 rr.1 in
      one_to k u (omega (arith, z)) (suc p + size a) D (bind p s.1 V) (bind p r.1 W) F G c.1 (bind_agree N D p u s.1 r.1 V W e (λ q o. h q (or_right (occurs q a) (occurs q u) o))) s.3 r.3 rr.2 d i

  -- two solutions over one set, whose binders have the same maps, agree
  pub one_solution : (t : Term) → One t
  one_solution t = one_to (size t) t (omega arith)
