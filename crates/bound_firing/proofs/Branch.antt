-- Crates above cite this module: environments that are seen by seats, in kids and branches, and fields from outside.
use Rattle.std.proofs.Common.{◌≡◌, ℕ, List, [], ◌∷◌, map, refl, sym, ◌∙◌, ap, subst, Bool, true, false, ◌&&◌, ◌||◌}
use Rattle.std.proofs.Common.{if◌then◌else◌, Option, Some, None, option_map}
use Rattle.std.specs.Prelude.{filter, nat_eq}
use Rattle.fc_values.specs.Values.{LocalValue, IntValue, BoolValue, PairValue}
use Rattle.fc_values.specs.Fields.{Entries, AnyValue, ValueLocal, ValueField, devices, restricted, is_in}
use Rattle.fc_values.specs.Trees.{Tree, kept_of, child}
use Rattle.alignment.specs.Environments.{Env, NearTree, near_by, keeps_truth, own_where, near_numbers, child_env}
use Rattle.alignment.specs.Environments.{branch_env}
use Rattle.value_bounds.specs.BoundValues.{BoundValue, Between, Truths, Both, Unbounded, Lies}
use Rattle.value_bounds.specs.BoundBuiltins.{Maybes, BoundEntries, maybes_in, entry_at, field_at, maybe_numbers}
use Rattle.value_bounds.specs.BoundBuiltins.{AreApart, AnyBound, BoundLocal, BoundField, BoundAny, Picked, no_more}
use Rattle.value_bounds.specs.BoundBuiltins.{taken, passed, apart, EachLies, LiesIn}
use Rattle.bound_firing.specs.BoundTrees.{BoundTree, held, below, KeptLies}
use Rattle.value_bounds.proofs.Values.{nat_same}
use Rattle.bound_firing.specs.Seats.{NearSeat, Seats, seat_by, own_by, child_seats, may_be, is_settled, own_branch}
use Rattle.bound_firing.specs.Seats.{less_sure, near_branch, branch_seats, Fitting, OwnSeen, SeenNear, no_seat, takes}
use Rattle.bound_firing.specs.Seats.{free, Sees, maybe_of, maybes, is_there, is_sure, cut_entries, cut_to}

-- ---- kids

module _ (Q R : Fitting) (d i k : ℕ) (part : (B : BoundTree) (T : Tree) → Q B T → R (below i B) (child k T)) where
  kid_near : {ss : List NearSeat} {ns : List NearTree} → SeenNear Q ss ns
      → SeenNear R (map (seat_by (below i)) ss) (map (near_by (child k)) ns)
  kid_near no_seat = no_seat
  kid_near (takes s n t h) = takes (seat_by (below i) s) (near_by (child k) n)
      (record { device = t.device; weight = t.weight; fits = part s.tree n.2 t.fits }) (kid_near h)
  kid_near (free s u h) = free (seat_by (below i) s) u (kid_near h)

  kid_own : (s : Option (Bool × BoundTree)) (o : Option Tree) → OwnSeen Q s o
      → OwnSeen R (option_map (own_by (below i)) s) (option_map (child k) o)
  kid_own None None h = tt
  kid_own None (Some T) h = absurd h
  kid_own (Some s) None h = h
  kid_own (Some s) (Some T) h = part s.1 T h

  kid_maybes : (ss : List NearSeat) → maybes (map (seat_by (below i)) ss) ≡ maybes ss
  kid_maybes [] = refl
  kid_maybes (s ∷ ss) = ap (λ ms. maybe_of s ∷ ms) (kid_maybes ss)

  pub kids : (seats : Seats) (env : Env) → Sees Q d seats env → Sees R d (child_seats i seats) (child_env k env)
  kids seats env h = record {
    own = kid_own seats.own env.own h.own;
    near = kid_near h.near;
    apart = subst (AreApart d)
        (sym (kid_maybes seats.near)) h.apart;
  }

-- ---- branches

pub may_hold : (b : Bool) (B : BoundValue) → Lies B (BoolValue b) → may_be b B ≡ true
may_hold true (Between x y) h = refl
may_hold false (Between x y) h = refl
may_hold true (Both x y) h = refl
may_hold false (Both x y) h = refl
may_hold true Unbounded h = refl
may_hold false Unbounded h = refl
may_hold true (Truths x y) h = h.1 refl
may_hold false (Truths false y) h = refl
may_hold false (Truths true y) h = let e = h.0 refl in absurd cc

keeps_it : (b : Bool) (k : Option LocalValue) → keeps_truth b k ≡ true → k ≡ Some (BoolValue b)
keeps_it true (Some (BoolValue true)) h = refl
keeps_it false (Some (BoolValue false)) h = refl
keeps_it true (Some (BoolValue false)) h = absurd cc
keeps_it false (Some (BoolValue true)) h = absurd cc
keeps_it b None h = absurd cc
keeps_it b (Some (IntValue n)) h = absurd cc
keeps_it b (Some (PairValue v w)) h = absurd cc

-- a known truth that may be this one is kept
must_keep : (b : Bool) (B : BoundValue) (k : Option LocalValue) → KeptLies B k → may_be b B ≡ true → keeps_truth b k
    ≡ false → is_settled B ≡ false
must_keep b B None h m n = absurd h
must_keep b (Between x y) k h m n = refl
must_keep b (Both x y) k h m n = refl
must_keep b Unbounded k h m n = refl
must_keep b (Truths x y) (Some (IntValue v)) h m n = absurd h
must_keep b (Truths x y) (Some (PairValue v w)) h m n = absurd h
must_keep true (Truths x false) (Some (BoolValue c)) h m n = absurd cc
must_keep true (Truths false true) (Some (BoolValue c)) h m n = refl
must_keep true (Truths true true) (Some (BoolValue true)) h m n = absurd cc
must_keep true (Truths true true) (Some (BoolValue false)) h m n = let e = h.0 refl in absurd cc
must_keep false (Truths true y) (Some (BoolValue c)) h m n = absurd cc
must_keep false (Truths false true) (Some (BoolValue c)) h m n = refl
must_keep false (Truths false false) (Some (BoolValue false)) h m n = absurd cc
must_keep false (Truths false false) (Some (BoolValue true)) h m n = let e = h.1 refl in absurd cc

and_false : (a b : Bool) → b ≡ false → (a && b) ≡ false
and_false true b h = h
and_false false b h = refl

first_false : (a b : Bool) → a ≡ false → (a && b) ≡ false
first_false a b h = rw h refl

-- what is kept lies in what is held, and the part of the branch that it names is there
module _ (b : Bool) (d : ℕ) (Q R : Fitting) (kept : (B : BoundTree) (T : Tree) → Q B T → KeptLies (held B) (kept_of T))
    (part : (B : BoundTree) (T : Tree) → kept_of T ≡ Some (BoolValue b) → Q B T → R B T) where
  abbrev stays : NearTree → Bool
  stays n = keeps_truth b (kept_of n.2)

  apart_less : (k : ℕ) (ss : List NearSeat) → is_in k (maybe_numbers (maybes ss)) ≡ false
      → is_in k (maybe_numbers (maybes (near_branch b ss))) ≡ false
  apart_less k [] h = refl
  apart_less k (s ∷ ss) h = by_test (apart_less k ss) (nat_eq k s.device) refl (may_be b (held s.tree)) refl h
    where
      by_test : (is_in k (maybe_numbers (maybes ss)) ≡ false → is_in k (maybe_numbers (maybes (near_branch b ss)))
          ≡ false) → (c : Bool) → nat_eq k s.device ≡ c → (e : Bool) → may_be b (held s.tree) ≡ e
          → (c || is_in k (maybe_numbers (maybes ss))) ≡ false
          → is_in k (maybe_numbers (maybes (near_branch b (s ∷ ss)))) ≡ false
      by_test ih true q e m g = absurd cc
      by_test ih false q true m g = let r = ih g in rw m (rw (q, r) refl)
      by_test ih false q false m g = let r = ih g in rw m r

  branch_apart : (ss : List NearSeat) → AreApart d (maybes ss) → AreApart d (maybes (near_branch b ss))
  branch_apart [] h = tt
  branch_apart (s ∷ ss) h = by_test (may_be b (held s.tree)) refl (branch_apart ss h.2)
    where
      by_test : (c : Bool) → may_be b (held s.tree) ≡ c → AreApart d (maybes (near_branch b ss))
          → AreApart d (maybes (near_branch b (s ∷ ss)))
      by_test true q r = rw q (h.0, apart_less s.device ss h.1, r)
      by_test false q r = rw q r

  held_there : (B : BoundTree) (T : Tree) → Q B T → keeps_truth b (kept_of T) ≡ true → may_be b (held B) ≡ true
  held_there B T h s = may_hold b (held B) (subst (KeptLies (held B)) (keeps_it b (kept_of T) s) (kept B T h))

  branch_near : {ss : List NearSeat} {ns : List NearTree} → SeenNear Q ss ns
      → SeenNear R (near_branch b ss) (filter stays ns)
  branch_near no_seat = no_seat
  branch_near (free s {ss} {ns} u h) = by_test (may_be b (held s.tree)) refl (branch_near h)
    where
      by_test : (c : Bool) → may_be b (held s.tree) ≡ c → SeenNear R (near_branch b ss) (filter stays ns)
          → SeenNear R (near_branch b (s ∷ ss)) (filter stays ns)
      by_test true q r = rw q (free (less_sure s) (first_false s.sure (is_settled (held s.tree)) u) r)
      by_test false q r = rw q r
  branch_near (takes s n {ss} {ns} t h) = by_test (stays n) refl (may_be b (held s.tree)) refl (branch_near h)
    where
      by_test : (c : Bool) → stays n ≡ c → (e : Bool) → may_be b (held s.tree) ≡ e
          → SeenNear R (near_branch b ss) (filter stays ns)
          → SeenNear R (near_branch b (s ∷ ss)) (filter stays (n ∷ ns))
      by_test true q true m r = rw (q, m) (takes (less_sure s) n
          (record { device = t.device; weight = t.weight; fits = part s.tree n.2 (keeps_it b (kept_of n.2) q) t.fits })
          r)
      by_test true q false m r = let e = held_there s.tree n.2 t.fits q in absurd cc
      by_test false q true m r = rw (q, m) (free (less_sure s)
          (and_false s.sure (is_settled (held s.tree))
          (must_keep b (held s.tree) (kept_of n.2) (kept s.tree n.2 t.fits) m q)) r)
      by_test false q false m r = rw (q, m) r

  branch_own : (s : Option (Bool × BoundTree)) (o : Option Tree) → OwnSeen Q s o
      → OwnSeen R (own_branch b s) (own_where (λ t. keeps_truth b (kept_of t)) o)
  branch_own None None h = tt
  branch_own None (Some T) h = absurd h
  branch_own (Some s) None h = by_test (may_be b (held s.1)) refl
    where
      by_test : (c : Bool) → may_be b (held s.1) ≡ c → OwnSeen R (own_branch b (Some s)) None
      by_test true q = rw q (first_false s.0 (is_settled (held s.1)) h)
      by_test false q = rw q tt
  branch_own (Some s) (Some T) h = by_test (keeps_truth b (kept_of T)) refl (may_be b (held s.1)) refl
    where
      by_test : (c : Bool) → keeps_truth b (kept_of T) ≡ c → (e : Bool) → may_be b (held s.1) ≡ e
          → OwnSeen R (own_branch b (Some s)) (own_where (λ t. keeps_truth b (kept_of t)) (Some T))
      by_test true q true m = rw (q, m) (part s.1 T (keeps_it b (kept_of T) q) h)
      by_test true q false m = let e = held_there s.1 T h q in absurd cc
      by_test false q true m = rw (q, m) (and_false s.0 (is_settled (held s.1))
          (must_keep b (held s.1) (kept_of T) (kept s.1 T h) m q))
      by_test false q false m = rw (q, m) tt

  pub branch : (seats : Seats) (env : Env) → Sees Q d seats env → Sees R d (branch_seats b seats) (branch_env b env)
  branch seats env h = record {
    own = branch_own seats.own env.own h.own;
    near = branch_near h.near;
    apart =
        branch_apart seats.near h.apart;
  }

-- ---- fields that were bound outside, restricted to those that are seen

module _ (Q : Fitting) where
  pub seen_there : {ss : List NearSeat} {ns : List NearTree} (k : ℕ) → SeenNear Q ss ns → is_in k (near_numbers ns)
      ≡ true → is_there k (maybes ss) ≡ true
  seen_there k no_seat h = absurd cc
  seen_there k (free s {ss} {ns} u r) h = let e = seen_there k r h in rw e (any (nat_eq k s.device))
    where
      any : (c : Bool) → (c || true) ≡ true
      any true = refl
      any false = refl
  seen_there k (takes s n {ss} {ns} t r) h = by_test (seen_there k r) (nat_eq k s.device) refl
      (ap (nat_eq k) t.device) h
    where
      by_test : (is_in k (near_numbers ns) ≡ true → is_there k (maybes ss) ≡ true) → (c : Bool) → nat_eq k s.device ≡ c
          → nat_eq k n.0 ≡ nat_eq k s.device
          → (nat_eq k n.0 || is_in k (near_numbers ns)) ≡ true → (nat_eq k s.device || is_there k (maybes ss)) ≡ true
      by_test ih true q e g = rw q refl
      by_test ih false q e g = let e' = e ∙ q in rw q (ih (rw e' at g))

  pub sure_seen : {ss : List NearSeat} {ns : List NearTree} (k : ℕ) → SeenNear Q ss ns → is_sure k (maybes ss) ≡ true
      → is_in k (near_numbers ns) ≡ true
  sure_seen k no_seat h = absurd cc
  sure_seen k (free s {ss} {ns} u r) h = sure_seen k r (by_test (nat_eq k s.device) h)
    where
      by_test : (c : Bool) → ((c && s.sure) || is_sure k (maybes ss)) ≡ true → is_sure k (maybes ss) ≡ true
      by_test true g = rw u at g
      by_test false g = g
  sure_seen k (takes s n {ss} {ns} t r) h = by_test (sure_seen k r) (nat_eq k s.device) refl (ap (nat_eq k) t.device) h
    where
      by_test : (is_sure k (maybes ss) ≡ true → is_in k (near_numbers ns) ≡ true) → (c : Bool) → nat_eq k s.device ≡ c
          → nat_eq k n.0 ≡ nat_eq k s.device
          → ((nat_eq k s.device && s.sure) || is_sure k (maybes ss)) ≡ true
          → (nat_eq k n.0 || is_in k (near_numbers ns)) ≡ true
      by_test ih true q e g = let e' = e ∙ q in rw e' refl
      by_test ih false q e g = let e' = e ∙ q in rw e' (ih (rw q at g))

-- those of some numbers that are among others
abbrev among : List ℕ → List ℕ → List ℕ
among ns [] = []
among ns (k ∷ ks) = if is_in k ns then k ∷ among ns ks else among ns ks

-- a field's entries at the device and at some numbers
abbrev keeps_entry : ℕ → List ℕ → ℕ × LocalValue → Bool
keeps_entry d ns e = nat_eq e.0 d || is_in e.0 ns

apart_restricted : (d : ℕ) (ns : List ℕ) (es : Entries) → apart d (devices (filter (keeps_entry d ns) es))
    ≡ among ns (apart d (devices es))
apart_restricted d ns [] = refl
apart_restricted d ns (e ∷ es) = by_test (apart_restricted d ns es) (nat_eq e.0 d) refl (is_in e.0 ns) refl
  where
    by_test : apart d (devices (filter (keeps_entry d ns) es)) ≡ among ns (apart d (devices es)) → (c : Bool)
        → nat_eq e.0 d ≡ c → (g : Bool) → is_in e.0 ns ≡ g
        → apart d (devices (filter (keeps_entry d ns) (e ∷ es))) ≡ among ns (apart d (devices (e ∷ es)))
    by_test ih true q g m = rw q (rw q ih)
    by_test ih false q true m = rw (q, m) (rw q (ap (λ ks. e.0 ∷ ks) ih))
    by_test ih false q false m = rw (q, m) ih

each_restricted : (f : ℕ → BoundValue) (d : ℕ) (ns : List ℕ) (es : Entries) → EachLies f es
    → EachLies f (filter (keeps_entry d ns) es)
each_restricted f d ns [] h = tt
each_restricted f d ns (e ∷ es) h = by_test (each_restricted f d ns es h.1) (keeps_entry d ns e) refl
  where
    by_test : EachLies f (filter (keeps_entry d ns) es) → (c : Bool) → keeps_entry d ns e ≡ c
        → EachLies f (filter (keeps_entry d ns) (e ∷ es))
    by_test ih true q = rw q (h.0, ih)
    by_test ih false q = rw q ih

-- the neighbours of a field that is cut
abbrev cut_maybes : Maybes → Maybes → Maybes
cut_maybes ss [] = []
cut_maybes ss (m ∷ ms) = if is_there m.0 ss then (m.0, m.1 && is_sure m.0 ss) ∷ cut_maybes ss ms else cut_maybes ss ms

cut_is : (ss : Maybes) (bs : BoundEntries) → maybes_in (cut_entries ss bs) ≡ cut_maybes ss (maybes_in bs)
cut_is ss [] = refl
cut_is ss (b ∷ bs) = by_test (is_there b.0 ss) refl (cut_is ss bs)
  where
    by_test : (c : Bool) → is_there b.0 ss ≡ c → maybes_in (cut_entries ss bs) ≡ cut_maybes ss (maybes_in bs)
        → maybes_in (cut_entries ss (b ∷ bs)) ≡ cut_maybes ss (maybes_in (b ∷ bs))
    by_test true q r = rw q (ap (λ ms. (b.0, b.1 && is_sure b.0 ss) ∷ ms) r)
    by_test false q r = rw q r

cut_less : (ss ms : Maybes) (k : ℕ) → is_in k (maybe_numbers ms) ≡ false → is_in k (maybe_numbers (cut_maybes ss ms))
    ≡ false
cut_less ss [] k h = refl
cut_less ss (m ∷ ms) k h = by_test (cut_less ss ms k) (nat_eq k m.0) refl (is_there m.0 ss) refl h
  where
    by_test : (is_in k (maybe_numbers ms) ≡ false → is_in k (maybe_numbers (cut_maybes ss ms)) ≡ false) → (c : Bool)
        → nat_eq k m.0 ≡ c → (e : Bool) → is_there m.0 ss ≡ e → (c || is_in k (maybe_numbers ms)) ≡ false
        → is_in k (maybe_numbers (cut_maybes ss (m ∷ ms))) ≡ false
    by_test ih true q e t g = absurd cc
    by_test ih false q true t g = let r = ih g in rw t (rw (q, r) refl)
    by_test ih false q false t g = let r = ih g in rw t r

cut_apart : (d : ℕ) (ss ms : Maybes) → AreApart d ms → AreApart d (cut_maybes ss ms)
cut_apart d ss [] h = tt
cut_apart d ss (m ∷ ms) h = by_test (is_there m.0 ss) refl (cut_apart d ss ms h.2)
  where
    by_test : (c : Bool) → is_there m.0 ss ≡ c → AreApart d (cut_maybes ss ms) → AreApart d (cut_maybes ss (m ∷ ms))
    by_test true q r = rw q (h.0, cut_less ss ms m.0 h.1, r)
    by_test false q r = rw q r

-- what is cut holds the same where it is, and nothing elsewhere
cut_gone : (ss : Maybes) (bs : BoundEntries) (k : ℕ) → is_there k ss ≡ false → entry_at (cut_entries ss bs) k
    ≡ Unbounded
cut_gone ss [] k h = refl
cut_gone ss (b ∷ bs) k h = by_test (is_there b.0 ss) refl (nat_eq k b.0) refl (cut_gone ss bs k h)
  where
    by_test : (c : Bool) → is_there b.0 ss ≡ c → (e : Bool) → nat_eq k b.0 ≡ e → entry_at (cut_entries ss bs) k
        ≡ Unbounded → entry_at (cut_entries ss (b ∷ bs)) k ≡ Unbounded
    by_test true q true t r = let same = nat_same k b.0 t in let q' : is_there k ss ≡ true = rw same q in absurd cc
    by_test true q false t r = rw q (rw t r)
    by_test false q e t r = rw q r

cut_holds : (ss : Maybes) (bs : BoundEntries) (k : ℕ) (v : LocalValue) → Lies (entry_at bs k) v
    → Lies (entry_at (cut_entries ss bs) k) v
cut_holds ss [] k v h = tt
cut_holds ss (b ∷ bs) k v h = by_test (is_there b.0 ss) refl (nat_eq k b.0) refl h (cut_holds ss bs k v)
  where
    by_test : (c : Bool) → is_there b.0 ss ≡ c → (e : Bool) → nat_eq k b.0 ≡ e
        → Lies (if e then b.2 else entry_at bs k) v → (Lies (entry_at bs k) v → Lies (entry_at (cut_entries ss bs) k) v)
        → Lies (entry_at (cut_entries ss (b ∷ bs)) k) v
    by_test true q true t g ih = rw q (rw t g)
    by_test true q false t g ih = rw q (rw t (ih g))
    by_test false q false t g ih = rw q (ih g)
    by_test false q true t g ih = let same = nat_same k b.0 t in let gone = cut_gone ss bs k (rw same q) in
        rw q (rw gone tt)

each_cut : (ss : Maybes) (d : ℕ) (own : BoundValue) (bs : BoundEntries) (es : Entries) → EachLies (field_at d own bs) es
    → EachLies (field_at d own (cut_entries ss bs)) es
each_cut ss d own bs [] h = tt
each_cut ss d own bs (e ∷ es) h = (by_test (nat_eq e.0 d) h.0, each_cut ss d own bs es h.1)
  where
    by_test : (c : Bool) → Lies (if c then own else entry_at bs e.0) e.1
        → Lies (if c then own else entry_at (cut_entries ss bs) e.0) e.1
    by_test true g = g
    by_test false g = cut_holds ss bs e.0 e.1 g

module _ (ss : Maybes) (ns : List ℕ) (there : (k : ℕ) → is_in k ns ≡ true → is_there k ss ≡ true)
    (sure : (k : ℕ) → is_sure k ss ≡ true → is_in k ns ≡ true) where
  not_sure : (k : ℕ) → is_in k ns ≡ false → is_sure k ss ≡ false
  not_sure k h = by_test (is_sure k ss) refl
    where
      by_test : (c : Bool) → is_sure k ss ≡ c → is_sure k ss ≡ false
      by_test true q = let e = sure k q in absurd cc
      by_test false q = q

  cut_picked : {ms : Maybes} {ks : List ℕ} → Picked ms ks → Picked (cut_maybes ss ms) (among ns ks)
  cut_picked no_more = no_more
  cut_picked (passed m {ms} {ns = ks} u h) = by_test (cut_picked h) (is_there m.0 ss) refl
    where
      by_test : Picked (cut_maybes ss ms) (among ns ks) → (c : Bool) → is_there m.0 ss ≡ c
          → Picked (cut_maybes ss (m ∷ ms)) (among ns ks)
      by_test r true q = rw q (passed (m.0, m.1 && is_sure m.0 ss) (first_false m.1 (is_sure m.0 ss) u) r)
      by_test r false q = rw q r
  cut_picked (taken m k {ms} {ns = ks} e h) = by_test (cut_picked h) (is_in k ns) refl (is_there m.0 ss) refl
      (ap (λ i. is_in i ns) e)
    where
      by_test : Picked (cut_maybes ss ms) (among ns ks) → (c : Bool) → is_in k ns ≡ c → (g : Bool) → is_there m.0 ss ≡ g
          → is_in k ns ≡ is_in m.0 ns → Picked (cut_maybes ss (m ∷ ms)) (among ns (k ∷ ks))
      by_test r true q true w i = rw (q, w) (taken (m.0, m.1 && is_sure m.0 ss) k e r)
      by_test r true q false w i = let t = there m.0 (sym i ∙ q) in absurd cc
      by_test r false q true w i = rw (q, w) (passed (m.0, m.1 && is_sure m.0 ss)
          (and_false m.1 (is_sure m.0 ss) (not_sure m.0 (sym i ∙ q))) r)
      by_test r false q false w i = rw (q, w) r

pub restricts : (Q : Fitting) (d : ℕ) (ss : List NearSeat) (ns : List NearTree) (B : AnyBound) (v : AnyValue)
    → SeenNear Q ss ns → LiesIn d B v
    → LiesIn d (cut_to (maybes ss) B) (restricted d (near_numbers ns) v)
restricts Q d ss ns (BoundLocal b) (ValueLocal v) s h = h
restricts Q d ss ns (BoundLocal b) (ValueField es) s h = absurd h
restricts Q d ss ns (BoundField own bs) (ValueLocal v) s h = absurd h
restricts Q d ss ns (BoundField own bs) (ValueField es) s h =
    let e = cut_is (maybes ss) bs in (
      subst (AreApart d) (sym e) (cut_apart d (maybes ss) (maybes_in bs) h.0),
      subst (λ ms. Picked ms (apart d (devices (filter (keeps_entry d (near_numbers ns)) es)))) (sym e)
          (subst (Picked (cut_maybes (maybes ss) (maybes_in bs))) (sym (apart_restricted d (near_numbers ns) es))
          (cut_picked (maybes ss) (near_numbers ns) (λ k. seen_there Q k s) (λ k. sure_seen Q k s) h.1)),
      each_cut (maybes ss) d own bs (filter (keeps_entry d (near_numbers ns)) es)
          (each_restricted (field_at d own bs) d (near_numbers ns) es h.2),
    )
restricts Q d ss ns BoundAny (ValueLocal v) s h = tt
restricts Q d ss ns BoundAny (ValueField es) s h = tt
