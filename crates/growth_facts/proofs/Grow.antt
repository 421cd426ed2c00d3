-- Crates above cite this module: the growth law over an expression of a body, entry by entry.
use Rattle.std.proofs.Common.{◌≡◌, ℕ, zero, suc, ◌≤◌, ◌<◌, ◌+◌, List, [], ◌∷◌, length, refl, sym, ◌∙◌, ap, subst, arith, ◌⊎◌, inl, inr, Bool, true, false, not, ◌||◌, ◌&&◌, Some, nat_eq, nat_le, min}
use Rattle.std.proofs.lemmas.List.{length-map}
use Rattle.std.proofs.lemmas.Bool.Decides.{nat_tests}
use Rattle.fc_values.specs.declared.builtins.Builtin.{Builtin}
use Rattle.fc_values.specs.declared.builtins.Builtin.TheVariants as op
use Rattle.fc_values.specs.Types.{LocalType, ValueType, TypeLocal, TypeField}
use Rattle.fc_values.specs.Values.{LocalValue, IntValue, BoolValue, PairValue}
use Rattle.fc_values.specs.Fields.{Entries, AnyValue, ValueLocal, ValueField, device_of, rises, FitsOver, FitEachOver}
use Rattle.fc_values.specs.Builtins.{local_value, is_hood, builtin_value}
use Rattle.fc_values.specs.BuiltinTypes.{inner, inners, Takes, Lifts, HasRule}
use Rattle.fc_values.specs.Positions.{argument_nth, arguments_nth}
use Rattle.fc_values.proofs.BuiltinTyped.{builtin_typed, argument_fits}
use Rattle.fc_nodes.specs.Terms.{Evolution, ByRep, ByShare, Term, Terms, Plain, Apply, Nbr, Evolve, If, Let, NoMore, More, term_type}
use Rattle.fc_nodes.specs.Typing.{types_of}
use Rattle.interval_facts.specs.Ranges.{RangeValue, IntRange, BoolRange, PairRange, InRange, AllInRange, LiesIn}
use Rattle.interval_facts.proofs.Pointwise.{Within, pointwise_nth}
use Rattle.fc_nodes.specs.Variables.{is_own, occurs, occurs_in, is_heard}
use Rattle.growth_facts.specs.Leads.{lead, leads, least_integer}
use Rattle.growth_facts.specs.Growth.{is_heard_rest, GrowthValue, Grows, Lacks, NodeFacts, only_if, on_one_side, raised, lesser_growth, op_growth, growth_apart, growth_heard, node_growth, growth_of, facts_in}
use Rattle.growth_facts.specs.Beside.{Beside, apart, heard, joined, BesideAll, no_more, one_more}
use Rattle.growth_facts.proofs.Above.{AllAbove, op_above}
use Rattle.growth_facts.proofs.Raised.{AllRaised, none_raised, one_raised, op_raised}

own_uses : (x : ℕ) (a : Term) → is_own x a ≡ true → occurs x a ≡ true
own_uses x (Plain t l) h = h
own_uses x (Apply t o xs) h = absurd cc
own_uses x (Nbr t a) h = absurd cc
own_uses x (Evolve t e a u) h = absurd cc
own_uses x (If t c u w) h = absurd cc
own_uses x (Let t a u) h = absurd cc

pub heard_uses : (e : Evolution) (x : ℕ) (h : Term) → is_heard e x h ≡ true → occurs x h ≡ true
heard_uses ByRep x (Nbr t a) h = own_uses x a h
heard_uses ByRep x (Plain t l) h = absurd cc
heard_uses ByRep x (Apply t o xs) h = absurd cc
heard_uses ByRep x (Evolve t e a u) h = absurd cc
heard_uses ByRep x (If t c u w) h = absurd cc
heard_uses ByRep x (Let t a u) h = absurd cc
heard_uses ByShare x (Plain t l) h = h
heard_uses ByShare x (Nbr t a) h = absurd cc
heard_uses ByShare x (Apply t o xs) h = absurd cc
heard_uses ByShare x (Evolve t e a u) h = absurd cc
heard_uses ByShare x (If t c u w) h = absurd cc
heard_uses ByShare x (Let t a u) h = absurd cc

pub apply_not_heard : (e : Evolution) (x : ℕ) (t : ValueType) (o : Builtin) (xs : Terms) → is_heard e x (Apply t o xs) ≡ true → ⊥
apply_not_heard ByRep x t o xs h = absurd cc
apply_not_heard ByShare x t o xs h = absurd cc

-- what the growth is by where the variable occurs
pub growth_without : (m : ℕ) (rs : ℕ → RangeValue) (e : Evolution) (x p : ℕ) (h : Term) → occurs x h ≡ false → growth_of m rs e x p h ≡ growth_apart m p (least_integer (rs p))
growth_without m rs e x p (Plain t l) o = rw o refl
growth_without m rs e x p (Apply t f xs) o = rw o refl
growth_without m rs e x p (Nbr t a) o = rw o refl
growth_without m rs e x p (Evolve t f a u) o = rw o refl
growth_without m rs e x p (If t c u w) o = rw o refl
growth_without m rs e x p (Let t a u) o = rw o refl

by_heard : (m : ℕ) (rs : ℕ → RangeValue) (e : Evolution) (x p : ℕ) (h : Term) (other : GrowthValue) → is_heard e x h ≡ true → node_growth m rs e x p h other ≡ growth_heard p (leads (inner (term_type h)))
by_heard m rs e x p h other o = let u = heard_uses e x h o in rw (u, o) refl

pub growth_of_heard : (m : ℕ) (rs : ℕ → RangeValue) (e : Evolution) (x p : ℕ) (h : Term) → is_heard e x h ≡ true → growth_of m rs e x p h ≡ growth_heard p (leads (inner (term_type h)))
growth_of_heard m rs e x p (Plain t l) o = by_heard m rs e x p (Plain t l) (Lacks p) o
growth_of_heard m rs e x p (Apply t f xs) o = by_heard m rs e x p (Apply t f xs) (op_growth m p f (facts_in m rs e x (suc p) xs)) o
growth_of_heard m rs e x p (Nbr t a) o = by_heard m rs e x p (Nbr t a) (Lacks p) o
growth_of_heard m rs e x p (Evolve t f a u) o = by_heard m rs e x p (Evolve t f a u) (Lacks p) o
growth_of_heard m rs e x p (If t c u w) o = by_heard m rs e x p (If t c u w) (Lacks p) o
growth_of_heard m rs e x p (Let t a u) o = by_heard m rs e x p (Let t a u) (Lacks p) o

leads_zero : (b : Bool) (p g : ℕ) → growth_heard p b ≡ Grows g → g ≡ 0
leads_zero true p g q = cc
leads_zero false p g q = absurd cc

heard_zero : (m : ℕ) (rs : ℕ → RangeValue) (e : Evolution) (x p : ℕ) (h : Term) (g : ℕ) → is_heard e x h ≡ true → growth_of m rs e x p h ≡ Grows g → g ≡ 0
heard_zero m rs e x p h g o q = leads_zero (leads (inner (term_type h))) p g (sym (growth_of_heard m rs e x p h o) ∙ q)

not_heard : (e : Evolution) (x : ℕ) (t : ValueType) (o : Builtin) (xs : Terms) → is_heard e x (Apply t o xs) ≡ false
not_heard ByRep x t o xs = refl
not_heard ByShare x t o xs = refl

pub growth_of_builtin : (m : ℕ) (rs : ℕ → RangeValue) (e : Evolution) (x p : ℕ) (t : ValueType) (o : Builtin) (xs : Terms) → occurs_in x xs ≡ true
    → growth_of m rs e x p (Apply t o xs) ≡ op_growth m p o (facts_in m rs e x (suc p) xs)
growth_of_builtin m rs e x p t o xs u = let n = not_heard e x t o xs in rw (u, n) refl

-- only operators have a growth by their arguments
not_hood : (m p : ℕ) (o : Builtin) (fs : List NodeFacts) (g : ℕ) → op_growth m p o fs ≡ Grows g → is_hood o ≡ false
not_hood m p op.MinHoodLoc fs g h = absurd cc
not_hood m p op.MaxHoodLoc fs g h = absurd cc
not_hood m p op.SumHood fs g h = absurd cc
not_hood m p op.AnyHood fs g h = absurd cc
not_hood m p op.AllHood fs g h = absurd cc
not_hood m p o fs g h = refl

-- an argument of an operator that grows: without x, growing, heard, or the rest of what is heard
abbrev pub Fine : NodeFacts → Type 0
Fine f = (f.uses ≡ false) ⊎ (((g : ℕ) × (f.growth ≡ Grows g)) ⊎ ((f.heard ≡ true) ⊎ (f.rest ≡ true)))

abbrev pub AllFine : List NodeFacts → Type 0
AllFine [] = Unit {0}
AllFine (f ∷ fs) = Fine f × AllFine fs

some_raised : (m s g : ℕ) (o : GrowthValue) → raised m s o ≡ Grows g → (c : ℕ) × (o ≡ Grows c)
some_raised m s g (Lacks q) h = absurd cc
some_raised m s g (Grows c) h = (c, refl)

some_if : (b : Bool) (p g : ℕ) (o : GrowthValue) → only_if b p o ≡ Grows g → (b ≡ true) × (o ≡ Grows g)
some_if true p g o h = (refl, h)
some_if false p g o h = absurd cc

some_lesser : (g : ℕ) (o p : GrowthValue) → lesser_growth o p ≡ Grows g → ((c : ℕ) × (o ≡ Grows c)) × ((c : ℕ) × (p ≡ Grows c))
some_lesser g (Lacks q) p h = absurd cc
some_lesser g (Grows c) (Lacks q) h = absurd cc
some_lesser g (Grows c) (Grows e) h = ((c, refl), (e, refl))

-- of two arguments one has the variable, and what it gives has a growth
side_fine : (a b : NodeFacts) (p q : Bool) (n g : ℕ) (u v : GrowthValue) → a.uses ≡ p → b.uses ≡ q → ((c : ℕ) → u ≡ Grows c → (e : ℕ) × (a.growth ≡ Grows e)) → ((c : ℕ) → v ≡ Grows c → (e : ℕ) × (b.growth ≡ Grows e))
    → on_one_side p q n u v ≡ Grows g → Fine a × Fine b
side_fine a b true false n g u v i j k l h = (inr (inl (k g h)), inl j)
side_fine a b false true n g u v i j k l h = (inl i, inr (inl (l g h)))
side_fine a b true true n g u v i j k l h = absurd cc
side_fine a b false false n g u v i j k l h = absurd cc

rest_fine : (i : Bool) (b : NodeFacts) → (i && (not b.uses || b.rest)) ≡ true → Fine b
rest_fine i b h = by_tests i b.rest b.uses refl refl h
  where
    by_tests : (i r u : Bool) → b.rest ≡ r → b.uses ≡ u → (i && (not u || r)) ≡ true → Fine b
    by_tests i r false j k h = inl k
    by_tests i true true j k h = inr (inr (inr j))
    by_tests true false true j k h = absurd cc
    by_tests false false true j k h = absurd cc

heard_fine : (a : NodeFacts) (h l : Bool) → a.heard ≡ h → (h && l) ≡ true → Fine a
heard_fine a true l e h = inr (inr (inl e))
heard_fine a false l e h = absurd cc

not_true : (a : NodeFacts) (u : Bool) → a.uses ≡ u → not u ≡ true → Fine a
not_true a true e h = absurd cc
not_true a false e h = inl e

op_fine : (m p : ℕ) (o : Builtin) (fs : List NodeFacts) (g : ℕ) → op_growth m p o fs ≡ Grows g → AllFine fs
op_fine m p op.Add (a ∷ b ∷ []) g h =
    let f = side_fine a b a.uses b.uses p g (raised m b.least a.growth) (raised m a.least b.growth) refl refl (λ c q. some_raised m b.least c a.growth q) (λ c q. some_raised m a.least c b.growth q) h in (f.0, (f.1, tt))
op_fine m p op.Mul (a ∷ b ∷ []) g h =
    let f = side_fine a b a.uses b.uses p g (only_if (nat_le 1 b.least) p a.growth) (only_if (nat_le 1 a.least) p b.growth) refl refl (λ c q. (c, (some_if (nat_le 1 b.least) p c a.growth q).1)) (λ c q. (c, (some_if (nat_le 1 a.least) p c b.growth q).1)) h in (f.0, (f.1, tt))
op_fine m p op.Max (a ∷ b ∷ []) g h = let f = side_fine a b a.uses b.uses p g a.growth b.growth refl refl (λ c q. (c, q)) (λ c q. (c, q)) h in (f.0, (f.1, tt))
op_fine m p op.Min (a ∷ b ∷ []) g h = let l = some_lesser g a.growth b.growth h in (inr (inl l.0), (inr (inl l.1), tt))
op_fine m p op.Mux (c ∷ a ∷ b ∷ []) g h =
    let u = some_if (not c.uses) p g (lesser_growth a.growth b.growth) h in let l = some_lesser g a.growth b.growth u.1 in (not_true c c.uses refl u.0, (inr (inl l.0), (inr (inl l.1), tt)))
op_fine m p op.Pair (a ∷ b ∷ []) g h = let u = some_if (a.integer && (not b.uses || b.rest)) p g a.growth h in (inr (inl (g, u.1)), (rest_fine a.integer b u.0, tt))
op_fine m p op.Fst (a ∷ []) g h = (heard_fine a a.heard a.leads refl (some_if (a.heard && a.leads) p g (Grows 0) h).0, tt)
op_fine m p o fs g h = absurd cc

-- entries that fit
pub within_of : (m : ℕ) (ds : List ℕ) (t : ValueType) (v : AnyValue) (i : ℕ) → FitsOver m ds t v → i < length ds → Within i v
within_of m ds (TypeLocal t) (ValueLocal v) i h r = tt
within_of m ds (TypeLocal t) (ValueField es) i h r = absurd h
within_of m ds (TypeField t) (ValueLocal v) i h r = absurd h
within_of m ds (TypeField t) (ValueField es) i h r = let long = ap length h.0 in omega (arith, r, long, length-map es device_of)

-- what lies in a range is led by at least its least integer
least_in : (r : RangeValue) (v : LocalValue) → InRange r v → least_integer r ≤ lead v
least_in (IntRange a b) (IntValue n) h = h.0
least_in (IntRange a b) (BoolValue n) h = absurd h
least_in (IntRange a b) (PairValue v w) h = absurd h
least_in BoolRange v h = omega arith
least_in (PairRange (IntRange a b) s) (PairValue (IntValue n) w) h = h.0.0
least_in (PairRange (IntRange a b) s) (PairValue (BoolValue n) w) h = absurd h.0
least_in (PairRange (IntRange a b) s) (PairValue (PairValue u v) w) h = absurd h.0
least_in (PairRange BoolRange s) v h = omega arith
least_in (PairRange (PairRange q r) s) v h = omega arith
least_in (PairRange (IntRange a b) s) (IntValue n) h = absurd h
least_in (PairRange (IntRange a b) s) (BoolValue n) h = absurd h

pub least_nth : (r : RangeValue) (v : AnyValue) (i : ℕ) → LiesIn r v → Within i v → least_integer r ≤ lead (argument_nth i v)
least_nth r (ValueLocal v) i h w = least_in r v h
least_nth r (ValueField es) i h w = in_entries es i h w
  where
    in_entries : (es : Entries) (i : ℕ) → AllInRange r es → i < length es → least_integer r ≤ lead (argument_nth i (ValueField es))
    in_entries [] i h w = absurd (omega (arith, w))
    in_entries (y ∷ ys) zero h w = least_in r y.1 h.0
    in_entries (y ∷ ys) (suc i) h w = in_entries ys i h.1 (omega (arith, w))

lifts_takes : (o : Builtin) (ts : List ValueType) (t : ValueType) → is_hood o ≡ false → HasRule o ts t → (s : LocalType) × Takes o (inners ts) s
lifts_takes o ts t plain rule = let l : Lifts o ts t = rw plain at rule in (l.local, l.takes)

module _ (m d : ℕ) (ds : List ℕ) (e : Evolution) (x : ℕ) (Near : AnyValue → AnyValue → Type 0) (Part : ℕ → Term → AnyValue → Type 0) (rs : ℕ → RangeValue) (rising : rises ds ≡ true)
    (part : (p : ℕ) (h : Term) (w : AnyValue) → Part p h w → FitsOver m ds (term_type h) w × LiesIn (rs p) w) where
  -- both values fit
  fitting : (o : Builtin) (ts : List ValueType) (t : ValueType) (vs : List AnyValue) (v : AnyValue) → HasRule o ts t → FitEachOver m ds ts vs → builtin_value o m d vs ≡ Some v → FitsOver m ds t v
  fitting o ts t vs v rule h q = let b = builtin_typed o m d ds ts t vs rule rising h in let q' = b.1 in let same : b.0 ≡ v = cc in subst (FitsOver m ds t) same b.2

  mutual
    pub both_fit : {p : ℕ} {h : Term} {v w : AnyValue} → Beside m d ds e x Near Part p h v w → FitsOver m ds (term_type h) v × FitsOver m ds (term_type h) w
    both_fit (apart {v} {w} p h o q k) = let f = (part p h w k).0 in (subst (FitsOver m ds (term_type h)) (sym q) f, f)
    both_fit (heard {v} {w} p h o n f f') = (f, f')
    both_fit (joined {v} {w} p t o xs vs ws rule u b q q') = let f = all_fit b in (fitting o (types_of xs) t vs v rule f.0 q, fitting o (types_of xs) t ws w rule f.1 q')

    pub all_fit : {p : ℕ} {xs : Terms} {vs ws : List AnyValue} → BesideAll m d ds e x Near Part p xs vs ws → FitEachOver m ds (types_of xs) vs × FitEachOver m ds (types_of xs) ws
    all_fit (no_more p) = (tt, tt)
    all_fit (one_more p t ts v w vs ws b bs) = let f = both_fit b in let r = all_fit bs in ((f.0, r.0), (f.1, r.1))

  module _ (i k : ℕ) (long : i < length ds) where
    abbrev at : AnyValue → LocalValue
    at v = argument_nth i v

    -- a part without x is at least its least
    low : {p : ℕ} {h : Term} {v w : AnyValue} → Beside m d ds e x Near Part p h v w → occurs x h ≡ false → (least_integer (rs p) ≤ lead (at v)) × (least_integer (rs p) ≤ lead (at w))
    low (apart {v} {w} p h o q z) n =
        let f = part p h w z in let l = least_nth (rs p) w i f.1 (within_of m ds (term_type h) w i f.0 long) in (subst (λ u. least_integer (rs p) ≤ lead (at u)) (sym q) l, l)
    low (heard p h o z f f') n = let u = heard_uses e x h o in absurd cc
    low (joined p t o xs vs ws rule u b q q') n = absurd cc

    apart_low : (p lo g : ℕ) → growth_apart m p lo ≡ Grows g → (g ≤ lo) × (g ≡ m)
    apart_low p lo g = by_test (nat_eq lo m) refl
      where
        by_test : (c : Bool) → nat_eq lo m ≡ c → only_if c p (Grows m) ≡ Grows g → (g ≤ lo) × (g ≡ m)
        by_test true q h = let z : lo ≡ m = grind (arith, q, nat_tests) in let g' : m ≡ g = cc in (omega (arith, z, g'), sym g')
        by_test false q h = absurd cc

    module _ (high : (v w : AnyValue) (t : ValueType) → Near v w → FitsOver m ds t v → FitsOver m ds t w → (k ≤ lead (at v)) × (k ≤ lead (at w))) where
      from_heard : {p : ℕ} {h : Term} {v w : AnyValue} → Beside m d ds e x Near Part p h v w → is_heard e x h ≡ true → (k ≤ lead (at v)) × (k ≤ lead (at w))
      from_heard (apart p h o q z) n = let u = heard_uses e x h n in absurd cc
      from_heard (heard {v} {w} p h o z f f') n = high v w (term_type h) z f f'
      from_heard (joined p t o xs vs ws rule u b q q') n = absurd (apply_not_heard e x t o xs n)

      mutual
        -- where x is at least k, what grows by g is at least that much above
        pub above_law : {p : ℕ} {h : Term} {v w : AnyValue} → Beside m d ds e x Near Part p h v w → (g : ℕ) → growth_of m rs e x p h ≡ Grows g → (min m (k + g) ≤ lead (at v)) × (min m (k + g) ≤ lead (at w))
        above_law (apart {v} {w} p h o q z) g r =
            let l = low (apart {v = v} {w = w} p h o q z) o in
            let t = apart_low p (least_integer (rs p)) g (sym (growth_without m rs e x p h o) ∙ r) in
            let t0 = t.0 in let t1 = t.1 in (omega (arith, l.0, t0, t1), omega (arith, l.1, t0, t1))
        above_law (heard {v} {w} p h o z f f') g r = let zero_is = heard_zero m rs e x p h g o r in let l = high v w (term_type h) z f f' in (omega (arith, zero_is, l.0), omega (arith, zero_is, l.1))
        above_law (joined {v} {w} p t o xs vs ws rule u b q q') g r =
            let r' : op_growth m p o (facts_in m rs e x (suc p) xs) ≡ Grows g = sym (growth_of_builtin m rs e x p t o xs u) ∙ r in
            let plain = not_hood m p o (facts_in m rs e x (suc p) xs) g r' in
            let takes = lifts_takes o (types_of xs) t plain rule in
            let all = all_above b in
            let fits = both_fit (joined {v = v} {w = w} p t o xs vs ws rule u b q q') in
            let nv = (pointwise_nth o m d vs v plain q).each i (within_of m ds t v i fits.0 long) in
            let nw = (pointwise_nth o m d ws w plain q').each i (within_of m ds t w i fits.1 long) in
            (op_above m k p o (inners (types_of xs)) takes.0 (facts_in m rs e x (suc p) xs) (arguments_nth i vs) g (at v) takes.1 all.0 r' nv, op_above m k p o (inners (types_of xs)) takes.0 (facts_in m rs e x (suc p) xs) (arguments_nth i ws) g (at w) takes.1 all.1 r' nw)

        all_above : {p : ℕ} {xs : Terms} {vs ws : List AnyValue} → BesideAll m d ds e x Near Part p xs vs ws
            → AllAbove m k (facts_in m rs e x p xs) (inners (types_of xs)) (arguments_nth i vs) × AllAbove m k (facts_in m rs e x p xs) (inners (types_of xs)) (arguments_nth i ws)
        all_above (no_more p) = (tt, tt)
        all_above (one_more p t ts v w vs ws b bs) =
            let f = both_fit b in let r = all_above bs in (
              (record { fits = argument_fits m ds (term_type t) v i f.0 long; apart = λ o. (low b o).0; grows = λ g q. (above_law b g q).0; heard = λ o. (from_heard b o).0 }, r.0),
              (record { fits = argument_fits m ds (term_type t) w i f.1 long; apart = λ o. (low b o).1; grows = λ g q. (above_law b g q).1; heard = λ o. (from_heard b o).1 }, r.1),
            )

    module _ (same : (v w : AnyValue) (t : ValueType) → Near v w → FitsOver m ds t v → FitsOver m ds t w → at v ≡ at w) where
      -- an operator that isn't a hood, on arguments that are the same here
      same_value : (t : ValueType) (o : Builtin) (vs ws : List AnyValue) (v w : AnyValue) → is_hood o ≡ false → FitsOver m ds t v → FitsOver m ds t w → arguments_nth i vs ≡ arguments_nth i ws
          → builtin_value o m d vs ≡ Some v → builtin_value o m d ws ≡ Some w → at v ≡ at w
      same_value t o vs ws v w plain f f' e q q' =
          let nv = (pointwise_nth o m d vs v plain q).each i (within_of m ds t v i f long) in
          let nw = (pointwise_nth o m d ws w plain q').each i (within_of m ds t w i f' long) in
          let z : Some (at v) ≡ Some (at w) = sym nv ∙ ap (local_value o m) e ∙ nw in cc

      apart_same : {p : ℕ} {h : Term} {v w : AnyValue} → Beside m d ds e x Near Part p h v w → occurs x h ≡ false → at v ≡ at w
      apart_same (apart p h o q z) n = ap at q
      apart_same (heard p h o z f f') n = let u = heard_uses e x h o in absurd cc
      apart_same (joined p t o xs vs ws rule u b q q') n = absurd cc

      heard_same : {p : ℕ} {h : Term} {v w : AnyValue} → Beside m d ds e x Near Part p h v w → is_heard e x h ≡ true → at v ≡ at w
      heard_same (apart p h o q z) n = let u = heard_uses e x h n in absurd cc
      heard_same (heard {v} {w} p h o z f f') n = same v w (term_type h) z f f'
      heard_same (joined p t o xs vs ws rule u b q q') n = absurd (apply_not_heard e x t o xs n)

      rest_args : (o : Builtin) (xs : Terms) {p : ℕ} {vs ws : List AnyValue} (t : ValueType) → is_heard_rest e x (Apply t o xs) ≡ true → BesideAll m d ds e x Near Part p xs vs ws → (is_hood o ≡ false) × (arguments_nth i vs ≡ arguments_nth i ws)
      rest_args op.Snd (More h NoMore) t r (one_more p h' ts v w vs ws b (no_more p')) = let z = heard_same b r in (refl, rw z refl)
      rest_args o xs t r b = absurd cc

      rest_same : {p : ℕ} {h : Term} {v w : AnyValue} → Beside m d ds e x Near Part p h v w → is_heard_rest e x h ≡ true → at v ≡ at w
      rest_same (apart p h o q z) n = ap at q
      rest_same (heard {v} {w} p h o z f f') n = same v w (term_type h) z f f'
      rest_same (joined {v} {w} p t o xs vs ws rule u b q q') n =
          let a = rest_args o xs t n b in let f = both_fit (joined {v = v} {w = w} p t o xs vs ws rule u b q q') in same_value t o vs ws v w a.0 f.0 f.1 a.1 q q'

      fine_same : {p : ℕ} {h : Term} {v w : AnyValue} → Beside m d ds e x Near Part p h v w → (occurs x h ≡ false) ⊎ (((g : ℕ) × (growth_of m rs e x p h ≡ Grows g)) ⊎ ((is_heard e x h ≡ true) ⊎ (is_heard_rest e x h ≡ true)))
          → ((g : ℕ) → growth_of m rs e x p h ≡ Grows g → at v ≡ at w) → at v ≡ at w
      fine_same b (inl o) k = apart_same b o
      fine_same b (inr (inl g)) k = k g.0 g.1
      fine_same b (inr (inr (inl o))) k = heard_same b o
      fine_same b (inr (inr (inr o))) k = rest_same b o

      mutual
        -- where x is the same, what grows is the same
        pub same_law : {p : ℕ} {h : Term} {v w : AnyValue} → Beside m d ds e x Near Part p h v w → (g : ℕ) → growth_of m rs e x p h ≡ Grows g → at v ≡ at w
        same_law (apart p h o q z) g r = ap at q
        same_law (heard {v} {w} p h o z f f') g r = same v w (term_type h) z f f'
        same_law (joined {v} {w} p t o xs vs ws rule u b q q') g r =
            let r' : op_growth m p o (facts_in m rs e x (suc p) xs) ≡ Grows g = sym (growth_of_builtin m rs e x p t o xs u) ∙ r in
            let f = both_fit (joined {v = v} {w = w} p t o xs vs ws rule u b q q') in
            same_value t o vs ws v w (not_hood m p o (facts_in m rs e x (suc p) xs) g r') f.0 f.1 (all_same b (op_fine m p o (facts_in m rs e x (suc p) xs) g r')) q q'

        all_same : {p : ℕ} {xs : Terms} {vs ws : List AnyValue} → BesideAll m d ds e x Near Part p xs vs ws → AllFine (facts_in m rs e x p xs) → arguments_nth i vs ≡ arguments_nth i ws
        all_same (no_more p) f = refl
        all_same (one_more p t ts v w vs ws b bs) f = let z = fine_same b f.0 (λ g q. same_law b g q) in let r = all_same bs f.1 in rw (z, r) refl

    module _ (more : (v w : AnyValue) (t : ValueType) → Near v w → FitsOver m ds t v → FitsOver m ds t w → lead (at v) ≤ lead (at w)) where
      apart_raised : {p : ℕ} {h : Term} {v w : AnyValue} → Beside m d ds e x Near Part p h v w → occurs x h ≡ false → at v ≡ at w
      apart_raised (apart p h o q z) n = ap at q
      apart_raised (heard p h o z f f') n = let u = heard_uses e x h o in absurd cc
      apart_raised (joined p t o xs vs ws rule u b q q') n = absurd cc

      heard_raised : {p : ℕ} {h : Term} {v w : AnyValue} → Beside m d ds e x Near Part p h v w → is_heard e x h ≡ true → lead (at v) ≤ lead (at w)
      heard_raised (apart p h o q z) n = let u = heard_uses e x h n in absurd cc
      heard_raised (heard {v} {w} p h o z f f') n = more v w (term_type h) z f f'
      heard_raised (joined p t o xs vs ws rule u b q q') n = absurd (apply_not_heard e x t o xs n)

      mutual
        -- where x is led by more, what grows is led by no less
        pub raised_law : {p : ℕ} {h : Term} {v w : AnyValue} → Beside m d ds e x Near Part p h v w → (g : ℕ) → growth_of m rs e x p h ≡ Grows g → lead (at v) ≤ lead (at w)
        raised_law (apart p h o q z) g r = let l = ap at q in let k = ap lead l in omega (arith, k)
        raised_law (heard {v} {w} p h o z f f') g r = more v w (term_type h) z f f'
        raised_law (joined {v} {w} p t o xs vs ws rule u b q q') g r =
            let r' : op_growth m p o (facts_in m rs e x (suc p) xs) ≡ Grows g = sym (growth_of_builtin m rs e x p t o xs u) ∙ r in
            let plain = not_hood m p o (facts_in m rs e x (suc p) xs) g r' in
            let takes = lifts_takes o (types_of xs) t plain rule in
            let fits = both_fit (joined {v = v} {w = w} p t o xs vs ws rule u b q q') in
            let nv = (pointwise_nth o m d vs v plain q).each i (within_of m ds t v i fits.0 long) in
            let nw = (pointwise_nth o m d ws w plain q').each i (within_of m ds t w i fits.1 long) in
            op_raised m p o (inners (types_of xs)) takes.0 (facts_in m rs e x (suc p) xs) (arguments_nth i vs) (arguments_nth i ws) g (at v) (at w) takes.1 (all_raised b) r' nv nw

        all_raised : {p : ℕ} {xs : Terms} {vs ws : List AnyValue} → BesideAll m d ds e x Near Part p xs vs ws → AllRaised m (facts_in m rs e x p xs) (inners (types_of xs)) (arguments_nth i vs) (arguments_nth i ws)
        all_raised (no_more p) = none_raised
        all_raised (one_more p t ts v w vs ws b bs) =
            let f = both_fit b in
            one_raised _ _ _ _ _ _ _ _ (record {
              first = argument_fits m ds (term_type t) v i f.0 long;
              second = argument_fits m ds (term_type t) w i f.1 long;
              apart = λ o. apart_raised b o;
              grows = λ g q. raised_law b g q;
              heard = λ o. heard_raised b o;
            }) (all_raised bs)
