-- A builtin at a place of a program.
use Rattle.std.proofs.Common.{◌≡◌, ℕ, suc, ◌<◌, ◌≤◌, ◌+◌, List, [], length, refl, sym, ◌∙◌, ap, subst, arith, Some}
use Rattle.std.proofs.Common.{None, IsSome, get_or}
use Rattle.fc_values.specs.declared.builtins.Builtin.{Builtin}
use Rattle.fc_values.specs.Types.{ValueType, Declarations}
use Rattle.fc_values.specs.Fields.{AnyValue}
use Rattle.fc_values.specs.Builtins.{builtin_value}
use Rattle.fc_values.specs.Trees.{Trees, Keep, nth_tree}
use Rattle.fc_values.specs.Exports.{SlotValue}
use Rattle.fc_nodes.specs.declared.nodes.Node.{Node}
use Rattle.fc_nodes.specs.Typing.{Scope}
use Rattle.fc_nodes.specs.Terms.{Term, Terms, NoMore, More, Apply, OfApply, kept, kept_all, kept_before, size, AllLaid}
use Rattle.fc_nodes.specs.Terms.{places, term_at, terms_by}
use Rattle.fc_nodes.specs.Flat.{tree_at, trees_at, Marked, AllMarked}
use Rattle.fc_nodes.proofs.Places.{AllAbove, formed_above}
use Rattle.fc_nodes.proofs.Kids.{laid_term, SomeKids, apply_laid}
use Rattle.fc_nodes.proofs.Kept.{kept_step, kept_size, kept_none}
use Rattle.alignment.specs.Scopes.{Vars}
use Rattle.device_eval.specs.Evaluation.{Situation, Outcome, Outcomes, eval_of, eval_all, after_all, on_some}
use Rattle.fc_nodes.specs.Layouts.{LayoutValue}
use Rattle.alignment.specs.Environments.{near_numbers}
use Rattle.alignment.specs.Slots.{FlatEnv}
use Rattle.device_eval.specs.Environments.{env_at, EnvFits}
use Rattle.device_eval.specs.Walks.{Room, SameOut, Can, Did, DidAt, ReadyAt}
use Rattle.device_eval.specs.Rows.{outcomes_at, row_trees, row_kept, Row, FitEach, MarkedEach, first_of, CanEach}
use Rattle.device_eval.specs.Rows.{DidEach, ReadyEach}
use Rattle.device_eval.specs.Places.{May, MayAll, MayAt, MayEach}
use Rattle.device_eval.proofs.MaySteps.{may_apply, may_at}
use Rattle.device_eval.proofs.Frames.{env_child, env_fits}
use Rattle.device_eval.proofs.RowSteps.{rest_row}

module _ (ns : List Node) (ab : AllAbove ns) where
  row_of : (xs : Terms) (q : ℕ) → AllLaid ns q xs → Row ns q (places q xs)
  row_of NoMore q l = tt
  row_of (More x xs) q l = let e = laid_term ns ab x q l.0 in (refl, rw e l.0, rw e (row_of xs (q + size x) l.1))

  kept_row : (xs : Terms) (q : ℕ) → AllLaid ns q xs → row_kept ns (places q xs) ≡ kept_all xs
  kept_row NoMore q l = refl
  kept_row (More x xs) q l = let e = laid_term ns ab x q l.0 in let ih = kept_row xs (q + size x) l.1 in rw (e, ih) refl

  trees_row : (xs : Terms) (q k : ℕ) (zs : List SlotValue) → AllLaid ns q xs → k ≡ kept_before ns q
      → row_trees ns (places q xs) zs ≡ trees_at xs k zs
  trees_row NoMore q k zs l e = refl
  trees_row (More x xs) q k zs l e =
      let t = laid_term ns ab x q l.0 in
      let s = kept_size ns x q (q + size x) l.0 refl in
      let ih = trees_row xs (q + size x) (k + kept x) zs l.1 (omega (arith, e, s)) in
      rw (t, ← e, ih) refl

  marked_row : (xs : Terms) (q k : ℕ) (zs : List SlotValue) → AllLaid ns q xs → k ≡ kept_before ns q
      → MarkedEach ns (places q xs) zs → AllMarked xs k zs
  marked_row NoMore q k zs l e m = tt
  marked_row (More x xs) q k zs l e m =
      let t = laid_term ns ab x q l.0 in
      let s = kept_size ns x q (q + size x) l.0 refl in (
        subst (λ j. Marked x j zs) (sym e) (subst (λ u. Marked u (kept_before ns q) zs) t m.0),
        marked_row xs (q + size x) (k + kept x) zs l.1 (omega (arith, e, s)) m.1,
      )

  -- the kids from the i-th on
  module _ (S : Situation) (t : ValueType) (o : Builtin) (all : Terms) (k0 : ℕ) (vars : Vars) (env : FlatEnv) where
    abbrev pub From : ℕ → Terms → ℕ → Type 0
    From i xs k = (j : ℕ) (zs : List SlotValue) → nth_tree (i + j) (trees_at all k0 zs) ≡ nth_tree j (trees_at xs k zs)

    from_here : (i : ℕ) (x : Term) (xs : Terms) (k : ℕ) → From i (More x xs) k → (zs : List SlotValue)
        → nth_tree i (trees_at all k0 zs) ≡ tree_at x k zs
    from_here i x xs k f zs =
        let e : i ≡ i + 0 = omega arith in subst (λ n. nth_tree n (trees_at all k0 zs) ≡ tree_at x k zs) (sym e)
        (f 0 zs)

    from_rest : (i : ℕ) (x : Term) (xs : Terms) (k : ℕ) → From i (More x xs) k → From (suc i) xs (k + kept x)
    from_rest i x xs k f j zs =
        let e : suc i + j ≡ i + suc j = omega arith in
        subst (λ n. nth_tree n (trees_at all k0 zs) ≡ nth_tree j (trees_at xs (k + kept x) zs)) (sym e) (f (suc j) zs)

    all_is : (xs : Terms) (q i k : ℕ) → AllLaid ns q xs → k ≡ kept_before ns q → From i xs k
        → eval_all S q i xs vars (env_at (Apply t o all) k0 env) ≡ outcomes_at S ns (places q xs) vars env
    all_is NoMore q i k l e f = refl
    all_is (More x xs) q i k l e f =
        let tx = laid_term ns ab x q l.0 in
        let s = kept_size ns x q (q + size x) l.0 refl in
        let ih = all_is xs (q + size x) (suc i) (k + kept x) l.1 (omega (arith, e, s)) (from_rest i x xs k f) in
        let en = env_child i (Apply t o all) x k0 k (from_here i x xs k f) env in
        rw (en, ih, tx, ← e) refl

    may_row : (D : Declarations) (scope : Scope) (xs : Terms) (q i k : ℕ) → AllLaid ns q xs → k ≡ kept_before ns q
        → From i xs k → MayAll D S scope q i xs (near_numbers env.near) vars (env_at (Apply t o all) k0 env)
        → MayEach D S ns scope (places q xs) vars env
    may_row D scope NoMore q i k l e f m = tt
    may_row D scope (More x xs) q i k l e f m =
        let tx = laid_term ns ab x q l.0 in
        let s = kept_size ns x q (q + size x) l.0 refl in
        let rest = may_row D scope xs (q + size x) (suc i) (k + kept x) l.1 (omega (arith, e, s)) (from_rest i x xs k f)
        m.1 in
        let en = env_child i (Apply t o all) x k0 k (from_here i x xs k f) env in
        (may_at env refl (sym tx) e (subst (λ n. May D S scope q x (near_numbers env.near) vars n) en m.0), rest)

  fit_row : (t : ValueType) (o : Builtin) (all : Terms) (k0 : ℕ) (env : FlatEnv) → EnvFits (Apply t o all) k0 env
      → (xs : Terms) (q k : ℕ) → AllLaid ns q xs → k ≡ kept_before ns q → k + kept_all xs ≤ k0 + kept_all all
      → ((zs : List SlotValue) → AllMarked all k0 zs → AllMarked xs k zs) → FitEach ns (places q xs) env
  fit_row t o all k0 env f NoMore q k l e i m = tt
  fit_row t o all k0 env f (More x xs) q k l e i m =
      let tx = laid_term ns ab x q l.0 in
      let s = kept_size ns x q (q + size x) l.0 refl in
      let here = env_fits (Apply t o all) x k0 k (λ zs h. (m zs h).0) (omega (arith, i)) env f in
      let rest = fit_row t o all k0 env f xs (q + size x) (k + kept x) l.1 (omega (arith, e, s)) (omega (arith, i))
      (λ zs h. (m zs h).1) in
      (rw (tx, ← e) here, rest)

  room_row : (xs : Terms) (q k : ℕ) (zs : List SlotValue) → AllLaid ns q xs → k ≡ kept_before ns q
      → Room k (kept_all xs) zs → Room (kept_before ns (first_of (places q xs))) (row_kept ns (places q xs)) zs
  room_row NoMore q k zs l e r =
      let z = kept_none ns in record {
        clear = record { clear = λ j a b. absurd (omega arith) };
        within = omega (arith, z);
      }
  room_row (More x xs) q k zs l e r = let n = kept_row (More x xs) q l in rw (n, ← e) r

  out_row : (xs : Terms) (q k : ℕ) (ys zs : List SlotValue) → AllLaid ns q xs → k ≡ kept_before ns q
      → SameOut (kept_before ns (first_of (places q xs))) (row_kept ns (places q xs)) ys zs
      → SameOut k (kept_all xs) ys zs
  out_row NoMore q k ys zs l e s =
      let z = kept_none ns in record {
        long = s.long;
        before = λ j h. s.behind j (omega (arith, z));
        behind = λ j h. s.behind j (omega (arith, z));
      }
  out_row (More x xs) q k ys zs l e s = let n = kept_row (More x xs) q l in rw (← n, e) s

some_all : (os : Outcomes) (f : List AnyValue → Trees → Outcome) → IsSome (after_all os f) → IsSome os
some_all None f h = absurd cc
some_all (Some r) f h = refl

module _ {S : Situation} {ns : List Node} {lay : LayoutValue} {p : ℕ} {o : Builtin} {t : ValueType} {ks : List ℕ}
    {vars : Vars} {env : FlatEnv} {xs : List SlotValue} (here : ReadyAt S ns lay p (OfApply o) t ks vars env xs) where
  ab : AllAbove ns
  ab = formed_above ns here.ready.stands.formed

  all : Terms
  all = terms_by (term_at ns) ks

  kids : SomeKids ns p (Apply t o) ks
  kids = apply_laid ns ab p o t ks here.node here.ready.stands.laid

  term_is : term_at ns p ≡ Apply t o all
  unfolding all
  term_is = let i = kids in i.term

  kids_laid : AllLaid ns (suc p) all
  unfolding all
  kids_laid = let i = kids in i.kids

  kids_are : ks ≡ places (suc p) all
  unfolding all
  kids_are = let i = kids in i.stand_at

  can_a : Can S p (Apply t o all) (kept_before ns p) vars env xs
  can_a = subst (λ u. Can S p u (kept_before ns p) vars env xs) term_is here.ready.can

  slot_next : kept_before ns p ≡ kept_before ns (suc p)
  slot_next = let k = kept_step ns p _ _ _ here.node in omega (arith, k)

  outcomes_are : eval_all S (suc p) 0 all vars (env_at (Apply t o all) (kept_before ns p) env)
      ≡ outcomes_at S ns ks vars env
  outcomes_are =
      all_is ns ab S t o all (kept_before ns p) vars env all (suc p) 0 (kept_before ns p) kids_laid slot_next
      (λ j zs. let e : 0 + j ≡ j = omega arith in ap (λ n. nth_tree n (trees_at all (kept_before ns p) zs)) e)
      ∙ ap (λ qs. outcomes_at S ns qs vars env) (sym kids_are)

  can_each : CanEach S ns ks vars env xs
  can_each =
      let can' = can_a in
      let runs : IsSome (outcomes_at S ns ks vars env) = rw (← outcomes_are) (some_all _ _ can'.runs) in
      subst (λ qs. CanEach S ns qs vars env xs) (sym kids_are) (record {
        row = rest_row ns (suc p) (places (suc p) all) (row_of ns ab all (suc p) kids_laid);
        fits =
            fit_row ns ab t o all (kept_before ns p) env can'.fits all (suc p) (kept_before ns p) kids_laid slot_next
            (omega arith) (λ zs m. m);
        room = room_row ns ab all (suc p) (kept_before ns p) xs kids_laid slot_next can'.room;
        runs = subst (λ qs. IsSome (outcomes_at S ns qs vars env)) kids_are runs;
      })

  pub apply_may_each : {D : Declarations} {scope : Scope} → MayAt D S ns scope p vars env → {qs : List ℕ} → qs ≡ ks
      → MayEach D S ns scope qs vars env
  apply_may_each {D} {scope} may {qs} e =
      let here' : May D S scope p (Apply t o all) (near_numbers env.near) vars
      (env_at (Apply t o all) (kept_before ns p) env) = subst
      (λ u. May D S scope p u (near_numbers env.near) vars (env_at u (kept_before ns p) env)) term_is may in
      let each = may_row ns ab S t o all (kept_before ns p) vars env D scope all (suc p) 0 (kept_before ns p) kids_laid
      slot_next (λ j zs. let e' : 0 + j ≡ j = omega arith in ap
      (λ n. nth_tree n (trees_at all (kept_before ns p) zs)) e') (may_apply here') in
      subst (λ js. MayEach D S ns scope js vars env) (sym (e ∙ kids_are)) each

  pub apply_can : {qs : List ℕ} → qs ≡ ks → ReadyEach S ns lay qs vars env xs
  apply_can {qs} e =
      record {
        can = subst (λ js. CanEach S ns js vars env xs) (sym e) can_each;
        layout = here.ready.stands.layout;
        formed = here.ready.stands.formed;
      }

  module _ {vs : List AnyValue} {ys : List SlotValue} (did : DidEach S ns ks vars env xs [] vs ys) where
    values_are : vs ≡ did.vs
    values_are = did.added

    apply_gives : eval_of S p (Apply t o all) vars (env_at (Apply t o all) (kept_before ns p) env)
        ≡ on_some (builtin_value o S.ceiling S.device vs) (λ v. Some (v, Keep None (row_trees ns ks ys)))
    apply_gives = let g = did.gives in let v = values_are in rw (outcomes_are, g, ← v) refl

    pub apply_done : {v : AnyValue} → builtin_value o S.ceiling S.device vs ≡ Some v → DidAt S ns p vars env xs v ys
    apply_done {v} e =
        let tr : row_trees ns ks ys ≡ trees_at all (kept_before ns p) ys = ap (λ qs. row_trees ns qs ys) kids_are
        ∙ trees_row ns ab all (suc p) (kept_before ns p) ys kids_laid slot_next in
        let m : MarkedEach ns (places (suc p) all) ys = subst (λ qs. MarkedEach ns qs ys) kids_are did.marked in
        let u : SameOut (kept_before ns (first_of (places (suc p) all))) (row_kept ns (places (suc p) all)) xs
        ys = subst (λ qs. SameOut (kept_before ns (first_of qs)) (row_kept ns qs) xs ys) kids_are did.out in
        let d : Did S p (Apply t o all) (kept_before ns p) vars env xs v ys = record {
          gives = apply_gives ∙ rw (e, tr) refl;
          marked = marked_row ns ab all (suc p) (kept_before ns p) ys kids_laid slot_next m;
          out = out_row ns ab all (suc p) (kept_before ns p) xs ys kids_laid slot_next u;
          still = did.still;
        } in
        subst (λ w. Did S p w (kept_before ns p) vars env xs v ys) (sym term_is) d

  later_of : (xs : Terms) → p < get_or (places (suc p) xs) 0 (length ns)
  later_of NoMore = here.ready.stands.within
  later_of (More x xs) = omega arith

  pub apply_later : {qs : List ℕ} → qs ≡ ks → p < get_or qs 0 (length ns)
  apply_later e = subst (λ qs. p < get_or qs 0 (length ns)) (sym (e ∙ kids_are)) (later_of all)
