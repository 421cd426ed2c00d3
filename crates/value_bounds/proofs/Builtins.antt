-- Crates above cite this module: builtins on values of any type, fields device by device, and hoods.
use Rattle.std.proofs.Common.{◌≡◌, ℕ, List, [], ◌∷◌, refl, sym, ◌∙◌, ap, subst, arith, Bool, true, false, ◌&&◌, ◌||◌, min, Option, Some, None, option_map, option_and_then, if◌then◌else◌}
use Rattle.std.specs.Prelude.{nat_eq}
use Rattle.fc_values.specs.declared.builtins.Builtin.{Builtin}
use Rattle.fc_values.specs.declared.builtins.Builtin.TheVariants as op
use Rattle.fc_values.specs.Values.{LocalValue, IntValue, BoolValue, PairValue, lesser, greater}
use Rattle.fc_values.specs.Fields.{Entries, AnyValue, ValueLocal, ValueField, devices, value_at, rises, is_in}
use Rattle.fc_values.specs.Builtins.{local_value, is_hood, others, least_of, greatest_of, add_integer, sum_of, join_truths, any_of, all_of, of_field_and_local, of_field, hood_value, field_devices, are_over, argument_at, put_before, arguments_at, field_over, pointwise_over, pointwise, builtin_value}
use Rattle.value_bounds.specs.BoundValues.{BoundValue, Between, Truths, Both, Unbounded, Lies, lesser_bound, greater_bound}
use Rattle.value_bounds.specs.BoundBuiltins.{Maybes, BoundEntries, maybes_in, entry_at, own_else, field_at, maybe_numbers, AreApart, entries_over, AnyBound, BoundLocal, BoundField, BoundAny, Picked, no_more, taken, passed, apart, EachLies, LiesIn, AllLieIn, local_bound, Spread, NoField, Over, Unclear, spread_of, bound_at, bounds_at, pointwise_by, one_least, least_bound, one_greatest, greatest_bound, add_range, sum_bound, cut, any_truths, any_bound, all_truths, all_bound, of_spread_and_local, of_spread, hood_bound, builtin_bound}
use Rattle.value_bounds.proofs.Values.{either_left, either_right, nat_same, itself, flips}
use Rattle.value_bounds.proofs.Compare.{lies_lesser, lies_greater}
use Rattle.value_bounds.proofs.Operators.{AllLie, MaybeLies, operator_lies}

-- ---- a value that is there

abbrev pub MaybeAll : List BoundValue → Option (List LocalValue) → Type 0
MaybeAll bs None = Unit {0}
MaybeAll bs (Some vs) = AllLie bs vs

abbrev pub MaybeLiesIn : ℕ → AnyBound → Option AnyValue → Type 0
MaybeLiesIn d B None = Unit {0}
MaybeLiesIn d B (Some v) = LiesIn d B v

abbrev pub MaybeField : (ℕ → BoundValue) → List ℕ → Option Entries → Type 0
MaybeField f ds None = Unit {0}
MaybeField f ds (Some es) = (devices es ≡ ds) × EachLies f es

-- ---- arguments at a device

value_lies : (f : ℕ → BoundValue) (k : ℕ) (es : Entries) → EachLies f es → MaybeLies (f k) (value_at k es)
value_lies f k [] h = tt
value_lies f k (e ∷ es) h = by_test (nat_eq e.0 k) refl (value_lies f k es h.1)
  where
    by_test : (c : Bool) → nat_eq e.0 k ≡ c → MaybeLies (f k) (value_at k es) → MaybeLies (f k) (value_at k (e ∷ es))
    by_test true q r = let same = nat_same e.0 k q in rw q (subst (λ i. Lies (f i) e.1) same h.0)
    by_test false q r = rw q r

argument_lies : (d k : ℕ) (b : AnyBound) (x : AnyValue) → LiesIn d b x → MaybeLies (bound_at d k b) (argument_at k x)
argument_lies d k (BoundLocal b) (ValueLocal v) h = h
argument_lies d k (BoundLocal b) (ValueField es) h = absurd h
argument_lies d k (BoundField own bs) (ValueLocal v) h = absurd h
argument_lies d k (BoundField own bs) (ValueField es) h = value_lies (field_at d own bs) k es h.2
argument_lies d k BoundAny x h = any (argument_at k x)
  where
    any : (o : Option LocalValue) → MaybeLies Unbounded o
    any None = tt
    any (Some v) = tt

put_lies : (b : BoundValue) (bs : List BoundValue) (o : Option LocalValue) (os : Option (List LocalValue)) → MaybeLies b o → MaybeAll bs os → MaybeAll (b ∷ bs) (put_before o os)
put_lies b bs None os h g = tt
put_lies b bs (Some v) None h g = tt
put_lies b bs (Some v) (Some vs) h g = (h, g)

arguments_lie : (d k : ℕ) (bs : List AnyBound) (xs : List AnyValue) → AllLieIn d bs xs → MaybeAll (bounds_at d k bs) (arguments_at k xs)
arguments_lie d k [] [] h = tt
arguments_lie d k [] (x ∷ xs) h = absurd h
arguments_lie d k (b ∷ bs) [] h = absurd h
arguments_lie d k (b ∷ bs) (x ∷ xs) h = put_lies (bound_at d k b) (bounds_at d k bs) (argument_at k x) (arguments_at k xs) (argument_lies d k b x h.0) (arguments_lie d k bs xs h.1)

-- ---- fields

over_lies : (F : ℕ → BoundValue) (h : ℕ → Option LocalValue) → ((k : ℕ) → MaybeLies (F k) (h k)) → (ds : List ℕ) → MaybeField F ds (field_over h ds)
over_lies F h p [] = (refl, tt)
over_lies F h p (d ∷ ds) = by_option (h d) (field_over h ds) (p d) (over_lies F h p ds)
  where
    by_option : (o : Option LocalValue) (os : Option Entries) → MaybeLies (F d) o → MaybeField F ds os → MaybeField F (d ∷ ds) (put_before (option_map (λ v. (d, v)) o) os)
    by_option None os q r = tt
    by_option (Some v) None q r = tt
    by_option (Some v) (Some es) q r = (ap (λ ks. d ∷ ks) r.0, (q, r.1))

-- which neighbours the fields among some bounds are over
abbrev Spreads : ℕ → Spread → Option (List ℕ) → Type 0
Spreads d NoField None = Unit {0}
Spreads d NoField (Some ds) = ⊥
Spreads d (Over ms) None = ⊥
Spreads d (Over ms) (Some ds) = AreApart d ms × Picked ms (apart d ds)
Spreads d Unclear o = Unit {0}

spreads : (d : ℕ) (bs : List AnyBound) (xs : List AnyValue) → AllLieIn d bs xs → Spreads d (spread_of bs) (field_devices xs)
spreads d [] [] h = tt
spreads d [] (x ∷ xs) h = absurd h
spreads d (b ∷ bs) [] h = absurd h
spreads d (BoundLocal b ∷ bs) (ValueLocal v ∷ xs) h = spreads d bs xs h.1
spreads d (BoundLocal b ∷ bs) (ValueField es ∷ xs) h = absurd h.0
spreads d (BoundField own es' ∷ bs) (ValueLocal v ∷ xs) h = absurd h.0
spreads d (BoundField own es' ∷ bs) (ValueField es ∷ xs) h = (h.0.0, h.0.1)
spreads d (BoundAny ∷ bs) (x ∷ xs) h = tt

over_maybes : (F : ℕ → BoundValue) (ms : Maybes) → maybes_in (entries_over F ms) ≡ ms
over_maybes F [] = refl
over_maybes F (m ∷ ms) = ap (λ r. m ∷ r) (over_maybes F ms)

over_holds : (F : ℕ → BoundValue) (ms : Maybes) (k : ℕ) (v : LocalValue) → Lies (F k) v → Lies (entry_at (entries_over F ms) k) v
over_holds F [] k v h = tt
over_holds F (m ∷ ms) k v h = by_test (nat_eq k m.0) refl (over_holds F ms k v h)
  where
    by_test : (c : Bool) → nat_eq k m.0 ≡ c → Lies (entry_at (entries_over F ms) k) v → Lies (entry_at (entries_over F (m ∷ ms)) k) v
    by_test true q r = let same = nat_same k m.0 q in rw q (subst (λ i. Lies (F i) v) same h)
    by_test false q r = rw q r

each_over : (F : ℕ → BoundValue) (d : ℕ) (ms : Maybes) (es : Entries) → EachLies F es → EachLies (field_at d (F d) (entries_over F ms)) es
each_over F d ms [] h = tt
each_over F d ms (e ∷ es) h = (by_test (nat_eq e.0 d) refl, each_over F d ms es h.1)
  where
    by_test : (c : Bool) → nat_eq e.0 d ≡ c → Lies (field_at d (F d) (entries_over F ms) e.0) e.1
    by_test true q = let same = nat_same e.0 d q in rw q (subst (λ i. Lies (F i) e.1) same h.0)
    by_test false q = rw q (over_holds F ms e.0 e.1 h.0)

module _ (F : List BoundValue → BoundValue) (f : List LocalValue → Option LocalValue) (sound : (bs : List BoundValue) (vs : List LocalValue) → AllLie bs vs → MaybeLies (F bs) (f vs)) where
  then_lies : (bs : List BoundValue) (os : Option (List LocalValue)) → MaybeAll bs os → MaybeLies (F bs) (option_and_then f os)
  then_lies bs None h = tt
  then_lies bs (Some vs) h = sound bs vs h

  pointwise_lies : (d : ℕ) (bs : List AnyBound) (xs : List AnyValue) → AllLieIn d bs xs → MaybeLiesIn d (pointwise_by F d (spread_of bs) bs) (pointwise f xs)
  pointwise_lies d bs xs h = by_spread (spread_of bs) (field_devices xs) (spreads d bs xs h)
    where
      at_each : (k : ℕ) → MaybeLies (F (bounds_at d k bs)) (option_and_then f (arguments_at k xs))
      at_each k = then_lies (bounds_at d k bs) (arguments_at k xs) (arguments_lie d k bs xs h)

      lift : (b : BoundValue) (o : Option LocalValue) → MaybeLies b o → MaybeLiesIn d (BoundLocal b) (option_map ValueLocal o)
      lift b None q = tt
      lift b (Some v) q = q

      field : (ms : Maybes) (ds : List ℕ) → AreApart d ms × Picked ms (apart d ds) → (G : ℕ → BoundValue) (o : Option Entries) → MaybeField G ds o → MaybeLiesIn d (BoundField (G d) (entries_over G ms)) (option_map ValueField o)
      field ms ds p G None q = tt
      field ms ds p G (Some es) q =
          let m = over_maybes G ms in
          (subst (AreApart d) (sym m) p.0, subst (λ r. Picked r (apart d (devices es))) (sym m) (subst (λ ks. Picked ms (apart d ks)) (sym q.0) p.1), each_over G d ms es q.1)

      any : (o : Option AnyValue) → MaybeLiesIn d BoundAny o
      any None = tt
      any (Some v) = tt

      over : (ms : Maybes) (ds : List ℕ) → AreApart d ms × Picked ms (apart d ds) → (c : Bool)
          → MaybeLiesIn d (BoundField (F (bounds_at d d bs)) (entries_over (λ k. F (bounds_at d k bs)) ms)) (if c then option_map ValueField (field_over (λ k. option_and_then f (arguments_at k xs)) ds) else None)
      over ms ds p true = field ms ds p (λ k. F (bounds_at d k bs)) (field_over (λ k. option_and_then f (arguments_at k xs)) ds) (over_lies (λ k. F (bounds_at d k bs)) (λ k. option_and_then f (arguments_at k xs)) at_each ds)
      over ms ds p false = tt

      by_spread : (s : Spread) (o : Option (List ℕ)) → Spreads d s o → MaybeLiesIn d (pointwise_by F d s bs) (pointwise_over f o xs)
      by_spread NoField None p = lift (F (bounds_at d 0 bs)) (option_and_then f (arguments_at 0 xs)) (at_each 0)
      by_spread NoField (Some ds) p = absurd p
      by_spread (Over ms) None p = absurd p
      by_spread (Over ms) (Some ds) p = over ms ds p (rises ds && are_over ds xs)
      by_spread Unclear o p = any (pointwise_over f o xs)

-- ---- hoods

-- the folds by neighbours and a function
abbrev least_by : (ℕ → BoundValue) → BoundValue → Maybes → BoundValue
least_by f best [] = best
least_by f best (m ∷ ms) = least_by f (one_least m.1 best (f m.0)) ms

abbrev greatest_by : (ℕ → BoundValue) → BoundValue → Maybes → BoundValue
greatest_by f best [] = best
greatest_by f best (m ∷ ms) = greatest_by f (one_greatest m.1 best (f m.0)) ms

abbrev sum_by : (ℕ → BoundValue) → Maybes → BoundValue
sum_by f [] = Between 0 0
sum_by f (m ∷ ms) = add_range m.1 (f m.0) (sum_by f ms)

abbrev any_by : (ℕ → BoundValue) → Maybes → BoundValue
any_by f [] = Truths false false
any_by f (m ∷ ms) = any_truths m.1 (f m.0) (any_by f ms)

abbrev all_by : (ℕ → BoundValue) → Maybes → BoundValue
all_by f [] = Truths true true
all_by f (m ∷ ms) = all_truths m.1 (f m.0) (all_by f ms)

-- they are those by entries, where the function reads the entries
abbrev Reads : (ℕ → BoundValue) → BoundEntries → Type 0
Reads f [] = Unit {0}
Reads f (b ∷ bs) = (f b.0 ≡ b.2) × Reads f bs

module _ (f : ℕ → BoundValue) where
  least_same : (bs : BoundEntries) (best : BoundValue) → Reads f bs → least_by f best (maybes_in bs) ≡ least_bound best bs
  least_same [] best r = refl
  least_same (b ∷ bs) best r = ap (λ x. least_by f (one_least b.1 best x) (maybes_in bs)) r.0 ∙ least_same bs (one_least b.1 best b.2) r.1

  greatest_same : (bs : BoundEntries) (best : BoundValue) → Reads f bs → greatest_by f best (maybes_in bs) ≡ greatest_bound best bs
  greatest_same [] best r = refl
  greatest_same (b ∷ bs) best r = ap (λ x. greatest_by f (one_greatest b.1 best x) (maybes_in bs)) r.0 ∙ greatest_same bs (one_greatest b.1 best b.2) r.1

  sum_same : (bs : BoundEntries) → Reads f bs → sum_by f (maybes_in bs) ≡ sum_bound bs
  sum_same [] r = refl
  sum_same (b ∷ bs) r = let e = r.0 in rw e (ap (add_range b.1 b.2) (sum_same bs r.1))

  any_same : (bs : BoundEntries) → Reads f bs → any_by f (maybes_in bs) ≡ any_bound bs
  any_same [] r = refl
  any_same (b ∷ bs) r = let e = r.0 in rw e (ap (any_truths b.1 b.2) (any_same bs r.1))

  all_same : (bs : BoundEntries) → Reads f bs → all_by f (maybes_in bs) ≡ all_bound bs
  all_same [] r = refl
  all_same (b ∷ bs) r = let e = r.0 in rw e (ap (all_truths b.1 b.2) (all_same bs r.1))

reads_more : (b : ℕ × Bool × BoundValue) (bs cs : BoundEntries) → is_in b.0 (maybe_numbers (maybes_in cs)) ≡ false → Reads (entry_at bs) cs → Reads (entry_at (b ∷ bs)) cs
reads_more b bs [] a r = tt
reads_more b bs (c ∷ cs) a r = by_test (nat_eq b.0 c.0) refl a (reads_more b bs cs)
  where
    by_test : (t : Bool) → nat_eq b.0 c.0 ≡ t → (t || is_in b.0 (maybe_numbers (maybes_in cs))) ≡ false → (is_in b.0 (maybe_numbers (maybes_in cs)) ≡ false → Reads (entry_at bs) cs → Reads (entry_at (b ∷ bs)) cs)
        → Reads (entry_at (b ∷ bs)) (c ∷ cs)
    by_test true q g ih = absurd cc
    by_test false q g ih = let q' = flips b.0 c.0 q in (rw q' r.0, ih g r.1)

reads_entries : (d : ℕ) (bs : BoundEntries) → AreApart d (maybes_in bs) → Reads (entry_at bs) bs
reads_entries d [] a = tt
reads_entries d (b ∷ bs) a = let s = itself b.0 in (rw s refl, reads_more b bs bs a.1 (reads_entries d bs a.2))

reads_own : (d : ℕ) (own : BoundValue) (f : ℕ → BoundValue) (bs : BoundEntries) → AreApart d (maybes_in bs) → Reads f bs → Reads (own_else d own f) bs
reads_own d own f [] a r = tt
reads_own d own f (b ∷ bs) a r = let q = a.0 in (rw q r.0, reads_own d own f bs a.2 r.1)

reads_field : (d : ℕ) (own : BoundValue) (bs : BoundEntries) → AreApart d (maybes_in bs) → Reads (field_at d own bs) bs
reads_field d own bs a = reads_own d own (entry_at bs) bs a (reads_entries d bs a)

-- values at some devices lie in the bounds there
abbrev Along : (ℕ → BoundValue) → List ℕ → List LocalValue → Type 0
Along f [] [] = Unit {0}
Along f [] (v ∷ vs) = ⊥
Along f (k ∷ ks) [] = ⊥
Along f (k ∷ ks) (v ∷ vs) = Lies (f k) v × Along f ks vs

along : (f : ℕ → BoundValue) (d : ℕ) (es : Entries) → EachLies f es → Along f (apart d (devices es)) (others d es)
along f d [] h = tt
along f d (e ∷ es) h = by_test (nat_eq e.0 d) refl (along f d es h.1)
  where
    by_test : (c : Bool) → nat_eq e.0 d ≡ c → Along f (apart d (devices es)) (others d es) → Along f (apart d (devices (e ∷ es))) (others d (e ∷ es))
    by_test true q r = rw q r
    by_test false q r = rw q (h.0, r)

module _ (f : ℕ → BoundValue) where
  at_seat : (k : ℕ) (m : ℕ × Bool) (v : LocalValue) → k ≡ m.0 → Lies (f k) v → Lies (f m.0) v
  at_seat k m v e h = subst (λ i. Lies (f i) v) e h

  one_least_lies : (s : Bool) (best b : BoundValue) (l v : LocalValue) → Lies best l → Lies b v → Lies (one_least s best b) (lesser l v)
  one_least_lies true best b l v h g = lies_lesser best b l v h g
  one_least_lies false best b l v h g = either_left (lesser_bound best b) best (lesser l v) (lies_lesser best b l v h g)

  no_least_lies : (s : Bool) (best b : BoundValue) (l : LocalValue) → s ≡ false → Lies best l → Lies (one_least s best b) l
  no_least_lies s best b l e h = rw e (either_right (lesser_bound best b) best l h)

  least_lies : {ms : Maybes} {ks : List ℕ} → Picked ms ks → (vs : List LocalValue) → Along f ks vs → (b : BoundValue) (l : LocalValue) → Lies b l → Lies (least_by f b ms) (least_of l vs)
  least_lies no_more [] a b l h = h
  least_lies no_more (v ∷ vs) a b l h = absurd a
  least_lies (passed m {ms} u p) vs a b l h = least_lies p vs a (one_least m.1 b (f m.0)) l (no_least_lies m.1 b (f m.0) l u h)
  least_lies (taken m k {ms} e p) [] a b l h = absurd a
  least_lies (taken m k {ms} e p) (v ∷ vs) a b l h = least_lies p vs a.1 (one_least m.1 b (f m.0)) (lesser l v) (one_least_lies m.1 b (f m.0) l v h (at_seat k m v e a.0))

  one_greatest_lies : (s : Bool) (best b : BoundValue) (l v : LocalValue) → Lies best l → Lies b v → Lies (one_greatest s best b) (greater l v)
  one_greatest_lies true best b l v h g = lies_greater best b l v h g
  one_greatest_lies false best b l v h g = either_left (greater_bound best b) best (greater l v) (lies_greater best b l v h g)

  no_greatest_lies : (s : Bool) (best b : BoundValue) (l : LocalValue) → s ≡ false → Lies best l → Lies (one_greatest s best b) l
  no_greatest_lies s best b l e h = rw e (either_right (greater_bound best b) best l h)

  greatest_lies : {ms : Maybes} {ks : List ℕ} → Picked ms ks → (vs : List LocalValue) → Along f ks vs → (b : BoundValue) (l : LocalValue) → Lies b l → Lies (greatest_by f b ms) (greatest_of l vs)
  greatest_lies no_more [] a b l h = h
  greatest_lies no_more (v ∷ vs) a b l h = absurd a
  greatest_lies (passed m {ms} u p) vs a b l h = greatest_lies p vs a (one_greatest m.1 b (f m.0)) l (no_greatest_lies m.1 b (f m.0) l u h)
  greatest_lies (taken m k {ms} e p) [] a b l h = absurd a
  greatest_lies (taken m k {ms} e p) (v ∷ vs) a b l h = greatest_lies p vs a.1 (one_greatest m.1 b (f m.0)) (greater l v) (one_greatest_lies m.1 b (f m.0) l v h (at_seat k m v e a.0))

  -- sums
  abbrev pub MaybeInt : BoundValue → Option ℕ → Type 0
  MaybeInt b None = Unit {0}
  MaybeInt b (Some n) = Lies b (IntValue n)

  add_lies : (s : Bool) (b c : BoundValue) (v : LocalValue) (o : Option ℕ) → Lies b v → MaybeInt c o → MaybeInt (add_range s b c) (add_integer v o)
  add_lies s b c (BoolValue x) o h g = tt
  add_lies s b c (PairValue v w) o h g = tt
  add_lies s b c (IntValue n) None h g = tt
  add_lies true (Between x y) (Between z w) (IntValue n) (Some k) h g = (omega (arith, h.0, g.0), omega (arith, h.1, g.1))
  add_lies false (Between x y) (Between z w) (IntValue n) (Some k) h g = (omega (arith, h.0, g.0), omega (arith, h.1, g.1))
  add_lies s (Between x y) (Truths z w) (IntValue n) (Some k) h g = absurd g
  add_lies s (Between x y) (Both z w) (IntValue n) (Some k) h g = absurd g
  add_lies true (Between x y) Unbounded (IntValue n) (Some k) h g = tt
  add_lies false (Between x y) Unbounded (IntValue n) (Some k) h g = tt
  add_lies s (Truths x y) c (IntValue n) (Some k) h g = absurd h
  add_lies s (Both x y) c (IntValue n) (Some k) h g = absurd h
  add_lies true Unbounded c (IntValue n) (Some k) h g = tt
  add_lies false Unbounded c (IntValue n) (Some k) h g = tt

  free_add : (b c : BoundValue) (n : ℕ) → Lies c (IntValue n) → Lies (add_range false b c) (IntValue n)
  free_add (Between x y) (Between z w) n g = (g.0, omega (arith, g.1))
  free_add (Between x y) (Truths z w) n g = absurd g
  free_add (Between x y) (Both z w) n g = absurd g
  free_add (Between x y) Unbounded n g = tt
  free_add (Truths x y) c n g = tt
  free_add (Both x y) c n g = tt
  free_add Unbounded c n g = tt

  no_add_lies : (s : Bool) (b c : BoundValue) (o : Option ℕ) → s ≡ false → MaybeInt c o → MaybeInt (add_range s b c) o
  no_add_lies s b c None e g = tt
  no_add_lies s b c (Some n) e g = rw e (free_add b c n g)

  sum_lies : {ms : Maybes} {ks : List ℕ} → Picked ms ks → (vs : List LocalValue) → Along f ks vs → MaybeInt (sum_by f ms) (sum_of vs)
  sum_lies no_more [] a = (omega arith, omega arith)
  sum_lies no_more (v ∷ vs) a = absurd a
  sum_lies (passed m {ms} u p) vs a = no_add_lies m.1 (f m.0) (sum_by f ms) (sum_of vs) u (sum_lies p vs a)
  sum_lies (taken m k {ms} e p) [] a = absurd a
  sum_lies (taken m k {ms} e p) (v ∷ vs) a = add_lies m.1 (f m.0) (sum_by f ms) v (sum_of vs) (at_seat k m v e a.0) (sum_lies p vs a.1)

  cut_lies : (m : ℕ) (b : BoundValue) (o : Option ℕ) → MaybeInt b o → MaybeLies (cut m b) (option_map (λ sum. IntValue (min m sum)) o)
  cut_lies m b None h = tt
  cut_lies m (Between x y) (Some n) h = (omega (arith, h.0), omega (arith, h.1))
  cut_lies m (Truths x y) (Some n) h = absurd h
  cut_lies m (Both x y) (Some n) h = absurd h
  cut_lies m Unbounded (Some n) h = tt

  -- truth values
  abbrev pub MaybeTruth : BoundValue → Option Bool → Type 0
  MaybeTruth b None = Unit {0}
  MaybeTruth b (Some x) = Lies b (BoolValue x)

  -- a fold of truth values: one more for sure, and one that may be missing
  module _ (g : Bool → Bool → Bool) (G : Bool → BoundValue → BoundValue → BoundValue)
      (more : (s : Bool) (b c : BoundValue) (x y : Bool) → Lies b (BoolValue x) → Lies c (BoolValue y) → Lies (G s b c) (BoolValue (g x y)))
      (less : (b c : BoundValue) (y : Bool) → Lies c (BoolValue y) → Lies (G false b c) (BoolValue y)) where
    more_lies : (s : Bool) (b c : BoundValue) (v : LocalValue) (o : Option Bool) → Lies b v → MaybeTruth c o → MaybeTruth (G s b c) (join_truths g v o)
    more_lies s b c (IntValue n) o h i = tt
    more_lies s b c (PairValue v w) o h i = tt
    more_lies s b c (BoolValue x) None h i = tt
    more_lies s b c (BoolValue x) (Some y) h i = more s b c x y h i

    less_lies : (s : Bool) (b c : BoundValue) (o : Option Bool) → s ≡ false → MaybeTruth c o → MaybeTruth (G s b c) o
    less_lies s b c None e i = tt
    less_lies s b c (Some y) e i = rw e (less b c y i)

  any_high : (x y b d : Bool) → (x ≡ true → b ≡ true) → (y ≡ true → d ≡ true) → (x || y) ≡ true → (b || d) ≡ true
  any_high true y b d p q e = let r = p refl in rw r refl
  any_high false y true d p q e = refl
  any_high false y false d p q e = q e

  any_more : (s : Bool) (b c : BoundValue) (x y : Bool) → Lies b (BoolValue x) → Lies c (BoolValue y) → Lies (any_truths s b c) (BoolValue (x || y))
  any_more true (Truths a b) (Truths c d) x y h g = (any_high a c x y h.0 g.0, any_high x y b d h.1 g.1)
  any_more false (Truths a b) (Truths c d) x y h g = (λ e. any_high false c x y (λ e. absurd cc) g.0 e, any_high x y b d h.1 g.1)
  any_more s (Truths a b) (Between c d) x y h g = absurd g
  any_more s (Truths a b) (Both c d) x y h g = absurd g
  any_more true (Truths a b) Unbounded x y h g = tt
  any_more false (Truths a b) Unbounded x y h g = tt
  any_more s (Between a b) c x y h g = absurd h
  any_more s (Both a b) c x y h g = absurd h
  any_more true Unbounded c x y h g = tt
  any_more false Unbounded c x y h g = tt

  any_less : (b c : BoundValue) (y : Bool) → Lies c (BoolValue y) → Lies (any_truths false b c) (BoolValue y)
  any_less (Truths a b) (Truths c d) y g = (g.0, any_high false y b d (λ e. absurd cc) g.1)
  any_less (Truths a b) (Between c d) y g = absurd g
  any_less (Truths a b) (Both c d) y g = absurd g
  any_less (Truths a b) Unbounded y g = tt
  any_less (Between a b) c y g = tt
  any_less (Both a b) c y g = tt
  any_less Unbounded c y g = tt

  any_lies : {ms : Maybes} {ks : List ℕ} → Picked ms ks → (vs : List LocalValue) → Along f ks vs → MaybeTruth (any_by f ms) (any_of vs)
  any_lies no_more [] a = (λ e. e, λ e. e)
  any_lies no_more (v ∷ vs) a = absurd a
  any_lies (passed m {ms} u p) vs a = less_lies (λ x y. x || y) any_truths any_more any_less m.1 (f m.0) (any_by f ms) (any_of vs) u (any_lies p vs a)
  any_lies (taken m k {ms} e p) [] a = absurd a
  any_lies (taken m k {ms} e p) (v ∷ vs) a = more_lies (λ x y. x || y) any_truths any_more any_less m.1 (f m.0) (any_by f ms) v (any_of vs) (at_seat k m v e a.0) (any_lies p vs a.1)

  all_high : (x y b d : Bool) → (x ≡ true → b ≡ true) → (y ≡ true → d ≡ true) → (x && y) ≡ true → (b && d) ≡ true
  all_high true true b d p q e = let r = p refl in let t = q refl in rw (r, t) refl
  all_high true false b d p q e = absurd cc
  all_high false y b d p q e = absurd cc

  all_more : (s : Bool) (b c : BoundValue) (x y : Bool) → Lies b (BoolValue x) → Lies c (BoolValue y) → Lies (all_truths s b c) (BoolValue (x && y))
  all_more true (Truths a b) (Truths c d) x y h g = (all_high a c x y h.0 g.0, all_high x y b d h.1 g.1)
  all_more false (Truths a b) (Truths c d) x y h g = (all_high a c x y h.0 g.0, λ e. all_high x y true d (λ e. refl) g.1 e)
  all_more s (Truths a b) (Between c d) x y h g = absurd g
  all_more s (Truths a b) (Both c d) x y h g = absurd g
  all_more true (Truths a b) Unbounded x y h g = tt
  all_more false (Truths a b) Unbounded x y h g = tt
  all_more s (Between a b) c x y h g = absurd h
  all_more s (Both a b) c x y h g = absurd h
  all_more true Unbounded c x y h g = tt
  all_more false Unbounded c x y h g = tt

  all_less : (b c : BoundValue) (y : Bool) → Lies c (BoolValue y) → Lies (all_truths false b c) (BoolValue y)
  all_less (Truths a b) (Truths c d) y g = (low a c g.0, g.1)
    where
      low : (a c : Bool) → (c ≡ true → y ≡ true) → (a && c) ≡ true → y ≡ true
      low true c p e = p e
      low false c p e = absurd cc
  all_less (Truths a b) (Between c d) y g = absurd g
  all_less (Truths a b) (Both c d) y g = absurd g
  all_less (Truths a b) Unbounded y g = tt
  all_less (Between a b) c y g = tt
  all_less (Both a b) c y g = tt
  all_less Unbounded c y g = tt

  all_lies : {ms : Maybes} {ks : List ℕ} → Picked ms ks → (vs : List LocalValue) → Along f ks vs → MaybeTruth (all_by f ms) (all_of vs)
  all_lies no_more [] a = (λ e. e, λ e. e)
  all_lies no_more (v ∷ vs) a = absurd a
  all_lies (passed m {ms} u p) vs a = less_lies (λ x y. x && y) all_truths all_more all_less m.1 (f m.0) (all_by f ms) (all_of vs) u (all_lies p vs a)
  all_lies (taken m k {ms} e p) [] a = absurd a
  all_lies (taken m k {ms} e p) (v ∷ vs) a = more_lies (λ x y. x && y) all_truths all_more all_less m.1 (f m.0) (all_by f ms) v (all_of vs) (at_seat k m v e a.0) (all_lies p vs a.1)

  truth_lies : (b : BoundValue) (o : Option Bool) → MaybeTruth b o → MaybeLies b (option_map BoolValue o)
  truth_lies b None h = tt
  truth_lies b (Some x) h = h

-- a fold of a field and a local value
module _ (d : ℕ) (g : Entries → LocalValue → LocalValue) (G : BoundEntries → BoundValue → BoundValue)
    (sound : (own : BoundValue) (bs : BoundEntries) (b : BoundValue) (es : Entries) (l : LocalValue) → AreApart d (maybes_in bs) → Picked (maybes_in bs) (apart d (devices es)) → EachLies (field_at d own bs) es → Lies b l → Lies (G bs b) (g es l)) where
  field_and_local : (bs : List AnyBound) (xs : List AnyValue) → AllLieIn d bs xs → MaybeLies (of_spread_and_local G bs) (of_field_and_local g xs)
  field_and_local bs (ValueField es ∷ ValueLocal l ∷ []) h = by_bounds bs h
    where
      by_bounds : (bs : List AnyBound) → AllLieIn d bs (ValueField es ∷ ValueLocal l ∷ []) → Lies (of_spread_and_local G bs) (g es l)
      by_bounds (BoundField own cs ∷ BoundLocal b ∷ []) h = sound own cs b es l h.0.0 h.0.1 h.0.2 h.1.0
      by_bounds (BoundField own cs ∷ BoundAny ∷ []) h = tt
      by_bounds (BoundAny ∷ b ∷ []) h = tt
      by_bounds bs h = absurd assumption
  field_and_local bs xs h = tt

module _ (d : ℕ) (g : Entries → Option LocalValue) (G : BoundEntries → BoundValue)
    (sound : (own : BoundValue) (bs : BoundEntries) (es : Entries) → AreApart d (maybes_in bs) → Picked (maybes_in bs) (apart d (devices es)) → EachLies (field_at d own bs) es → MaybeLies (G bs) (g es)) where
  field_alone : (bs : List AnyBound) (xs : List AnyValue) → AllLieIn d bs xs → MaybeLies (of_spread G bs) (of_field g xs)
  field_alone bs (ValueField es ∷ []) h = by_bounds bs h
    where
      any : (o : Option LocalValue) → MaybeLies Unbounded o
      any None = tt
      any (Some v) = tt

      by_bounds : (bs : List AnyBound) → AllLieIn d bs (ValueField es ∷ []) → MaybeLies (of_spread G bs) (g es)
      by_bounds (BoundField own cs ∷ []) h = sound own cs es h.0.0 h.0.1 h.0.2
      by_bounds (BoundAny ∷ []) h = any (g es)
      by_bounds bs h = absurd assumption
  field_alone bs xs h = tt

hood_lies : (o : Builtin) (m d : ℕ) (bs : List AnyBound) (xs : List AnyValue) → AllLieIn d bs xs → MaybeLies (hood_bound o m bs) (hood_value o m d xs)
hood_lies op.MinHoodLoc m d bs xs h = field_and_local d _ _ (λ own cs b es l a p q r.
    let f = field_at d own cs in subst (λ x. Lies x (least_of l (others d es))) (least_same f cs b (reads_field d own cs a)) (least_lies f p (others d es) (along f d es q) b l r)) bs xs h
hood_lies op.MaxHoodLoc m d bs xs h = field_and_local d _ _ (λ own cs b es l a p q r.
    let f = field_at d own cs in subst (λ x. Lies x (greatest_of l (others d es))) (greatest_same f cs b (reads_field d own cs a)) (greatest_lies f p (others d es) (along f d es q) b l r)) bs xs h
hood_lies op.SumHood m d bs xs h = field_alone d _ _ (λ own cs es a p q.
    let f = field_at d own cs in cut_lies f m (sum_bound cs) (sum_of (others d es)) (subst (λ x. MaybeInt f x (sum_of (others d es))) (sum_same f cs (reads_field d own cs a)) (sum_lies f p (others d es) (along f d es q)))) bs xs h
hood_lies op.AnyHood m d bs xs h = field_alone d _ _ (λ own cs es a p q.
    let f = field_at d own cs in truth_lies f (any_bound cs) (any_of (others d es)) (subst (λ x. MaybeTruth f x (any_of (others d es))) (any_same f cs (reads_field d own cs a)) (any_lies f p (others d es) (along f d es q)))) bs xs h
hood_lies op.AllHood m d bs xs h = field_alone d _ _ (λ own cs es a p q.
    let f = field_at d own cs in truth_lies f (all_bound cs) (all_of (others d es)) (subst (λ x. MaybeTruth f x (all_of (others d es))) (all_same f cs (reads_field d own cs a)) (all_lies f p (others d es) (along f d es q)))) bs xs h
hood_lies o m d bs xs h = tt

pub builtin_lies : (o : Builtin) (m d : ℕ) (bs : List AnyBound) (xs : List AnyValue) (v : AnyValue) → AllLieIn d bs xs → builtin_value o m d xs ≡ Some v → LiesIn d (builtin_bound o m d bs) v
builtin_lies o m d bs xs v h e = subst (MaybeLiesIn d (builtin_bound o m d bs)) e (by_test (is_hood o))
  where
    lift : (b : BoundValue) (o : Option LocalValue) → MaybeLies b o → MaybeLiesIn d (BoundLocal b) (option_map ValueLocal o)
    lift b None q = tt
    lift b (Some v) q = q

    by_test : (c : Bool) → MaybeLiesIn d (if c then BoundLocal (hood_bound o m bs) else pointwise_by (local_bound o m) d (spread_of bs) bs)
        (if c then option_map ValueLocal (hood_value o m d xs) else pointwise (local_value o m) xs)
    by_test true = lift (hood_bound o m bs) (hood_value o m d xs) (hood_lies o m d bs xs h)
    by_test false = pointwise_lies (local_bound o m) (local_value o m) (operator_lies o m) d bs xs h
