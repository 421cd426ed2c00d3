-- Fields of what seats have, and the own value.
use Rattle.std.proofs.Common.{◌≡◌, ℕ, List, [], ◌∷◌, refl, sym, ◌∙◌, ap, subst, arith, Bool, true, false, ◌||◌, Option}
use Rattle.std.proofs.Common.{Some, None, if◌then◌else◌}
use Rattle.std.specs.Prelude.{nat_eq, nat_lt}
use Rattle.fc_values.specs.Values.{LocalValue, IntValue}
use Rattle.fc_values.specs.Fields.{Entries, ValueField, devices, with_entry, is_in}
use Rattle.fc_values.specs.Trees.{Tree, kept_of}
use Rattle.alignment.specs.Environments.{NearTree}
use Rattle.alignment.specs.Scopes.{weights}
use Rattle.device_eval.specs.Neighbours.{kept_there, entry_before}
use Rattle.device_eval.specs.Evaluation.{own_or}
use Rattle.value_bounds.specs.BoundValues.{BoundValue, Between, Lies, either}
use Rattle.value_bounds.specs.BoundBuiltins.{maybes_in, entry_at, own_else, field_at, maybe_numbers, AreApart, Picked}
use Rattle.value_bounds.specs.BoundBuiltins.{no_more, taken, passed, apart, EachLies, LiesIn}
use Rattle.bound_firing.specs.BoundTrees.{BoundTree, held, KeptLies}
use Rattle.bound_firing.specs.Seats.{NearSeat, Fitting, OwnSeen, SeenNear, no_seat, takes, free, maybe_of, maybes}
use Rattle.bound_firing.specs.Seats.{seat_held, seat_weight, seat_entries, seat_field}
use Rattle.bound_firing.specs.Firing.{own_bound}
use Rattle.value_bounds.proofs.Values.{either_left, either_right, itself, flips}

-- entries of some of the seats in order, among them all sure ones
data Entered (f : NearSeat → BoundValue) : List NearSeat → Entries → Type 0 where
  no_entry : Entered f [] []
  enters : (s : NearSeat) (e : ℕ × LocalValue) {ss : List NearSeat} {es : Entries} → e.0 ≡ s.device → Lies (f s) e.1
      → Entered f ss es → Entered f (s ∷ ss) (e ∷ es)
  omits : (s : NearSeat) {ss : List NearSeat} {es : Entries} → s.sure ≡ false → Entered f ss es → Entered f (s ∷ ss) es

-- none of the entries is of the device
abbrev Others : ℕ → Entries → Type 0
Others d [] = Unit {0}
Others d (e ∷ es) = (nat_eq e.0 d ≡ false) × Others d es

module _ (d : ℕ) (f : NearSeat → BoundValue) where
  all_others : {ss : List NearSeat} {es : Entries} → Entered f ss es → AreApart d (maybes ss) → Others d es
  all_others no_entry a = tt
  all_others (enters s e p l h) a = (ap (λ i. nat_eq i d) p ∙ a.0, all_others h a.2)
  all_others (omits s u h) a = all_others h a.2

  entered_picked : {ss : List NearSeat} {es : Entries} → Entered f ss es → Picked (maybes ss) (devices es)
  entered_picked no_entry = no_more
  entered_picked (enters s e p l h) = taken (maybe_of s) e.0 p (entered_picked h)
  entered_picked (omits s u h) = passed (maybe_of s) u (entered_picked h)

  not_entered : (k : ℕ) {ss : List NearSeat} {es : Entries} → Entered f ss es → is_in k (maybe_numbers (maybes ss))
      ≡ false → is_in k (devices es) ≡ false
  not_entered k no_entry a = refl
  not_entered k (omits s {ss} {es} u h) a = not_entered k h (by_test (nat_eq k s.device) a)
    where
      by_test : (c : Bool) → (c || is_in k (maybe_numbers (maybes ss))) ≡ false → is_in k (maybe_numbers (maybes ss))
          ≡ false
      by_test true g = absurd cc
      by_test false g = g
  not_entered k (enters s e {ss} {es} p l h) a = by_test (not_entered k h) (nat_eq k s.device) refl (ap (nat_eq k) p) a
    where
      by_test : (is_in k (maybe_numbers (maybes ss)) ≡ false → is_in k (devices es) ≡ false) → (c : Bool)
          → nat_eq k s.device ≡ c → nat_eq k e.0 ≡ nat_eq k s.device
          → (c || is_in k (maybe_numbers (maybes ss))) ≡ false → (nat_eq k e.0 || is_in k (devices es)) ≡ false
      by_test ih true q t g = absurd cc
      by_test ih false q t g = let t' = t ∙ q in rw t' (ih g)

  weaker : (s : NearSeat) (ss : List NearSeat) (es : Entries) → is_in s.device (devices es) ≡ false
      → EachLies (entry_at (seat_entries f ss)) es → EachLies (entry_at (seat_entries f (s ∷ ss))) es
  weaker s ss [] a h = tt
  weaker s ss (e ∷ es) a h = by_test (nat_eq s.device e.0) refl a (weaker s ss es)
    where
      by_test : (c : Bool) → nat_eq s.device e.0 ≡ c → (c || is_in s.device (devices es)) ≡ false
          → (is_in s.device (devices es) ≡ false → EachLies (entry_at (seat_entries f ss)) es
          → EachLies (entry_at (seat_entries f (s ∷ ss))) es)
          → EachLies (entry_at (seat_entries f (s ∷ ss))) (e ∷ es)
      by_test true q g ih = absurd cc
      by_test false q g ih = let q' = flips s.device e.0 q in (rw q' h.0, ih g h.1)

  each_at : {ss : List NearSeat} {es : Entries} → Entered f ss es → AreApart d (maybes ss)
      → EachLies (entry_at (seat_entries f ss)) es
  each_at no_entry a = tt
  each_at (enters s e {ss} {es} p l h) a = (
    let t : nat_eq e.0 s.device ≡ true = rw p (itself s.device) in
        rw t l,
    weaker s ss es (not_entered s.device h a.1) (each_at h a.2),
  )
  each_at (omits s {ss} {es} u h) a = weaker s ss es (not_entered s.device h a.1) (each_at h a.2)

  seat_maybes : (ss : List NearSeat) → maybes_in (seat_entries f ss) ≡ maybes ss
  seat_maybes [] = refl
  seat_maybes (s ∷ ss) = ap (λ ms. maybe_of s ∷ ms) (seat_maybes ss)

each_own : (d : ℕ) (b : BoundValue) (g : ℕ → BoundValue) (es : Entries) → Others d es → EachLies g es
    → EachLies (own_else d b g) es
each_own d b g [] o h = tt
each_own d b g (e ∷ es) o h = let q = o.0 in (rw q h.0, each_own d b g es o.1 h.1)

each_with : (g : ℕ → BoundValue) (d : ℕ) (v : LocalValue) (es : Entries) → Lies (g d) v → EachLies g es
    → EachLies g (with_entry d v es)
each_with g d v [] l h = (l, tt)
each_with g d v (e ∷ es) l h = by_test (nat_lt d e.0) (each_with g d v es l h.1)
  where
    by_test : (c : Bool) → EachLies g (with_entry d v es)
        → EachLies g (if c then ((d, v) ∷ e ∷ es) else (e ∷ with_entry d v es))
    by_test true r = (l, h)
    by_test false r = (h.0, r)

apart_others : (d : ℕ) (es : Entries) → Others d es → apart d (devices es) ≡ devices es
apart_others d [] o = refl
apart_others d (e ∷ es) o = let q = o.0 in let r = apart_others d es o.1 in rw q (ap (λ ks. e.0 ∷ ks) r)

apart_with : (d : ℕ) (v : LocalValue) (es : Entries) → Others d es → apart d (devices (with_entry d v es)) ≡ devices es
apart_with d v [] o = let s = itself d in rw s refl
apart_with d v (e ∷ es) o = by_test (nat_lt d e.0) (apart_with d v es o.1)
  where
    by_test : (c : Bool) → apart d (devices (with_entry d v es)) ≡ devices es
        → apart d (devices (if c then ((d, v) ∷ e ∷ es) else (e ∷ with_entry d v es))) ≡ devices (e ∷ es)
    by_test true r = let s = itself d in rw s (apart_others d (e ∷ es) o)
    by_test false r = let q = o.0 in rw q (ap (λ ks. e.0 ∷ ks) r)

-- the field of them, with the device's own value
field_lies : (d : ℕ) (f : NearSeat → BoundValue) (ss : List NearSeat) (es : Entries) (b : BoundValue) (v : LocalValue)
    → AreApart d (maybes ss) → Entered f ss es → Lies b v
    → LiesIn d (seat_field b f ss) (ValueField (with_entry d v es))
field_lies d f ss es b v a h l =
    let o = all_others d f h a in
    let s = itself d in
    let m = seat_maybes d f ss in (
      subst (AreApart d) (sym m) a,
      subst (λ ms. Picked ms (apart d (devices (with_entry d v es)))) (sym m)
          (subst (Picked (maybes ss)) (sym (apart_with d v es o)) (entered_picked d f h)),
      each_with (field_at d b (seat_entries f ss)) d v es (rw s l)
          (each_own d b (entry_at (seat_entries f ss)) es o (each_at d f h a)),
    )

-- ---- what is kept there, and the weights

module _ (Q : Fitting) where
  weights_enter : {ss : List NearSeat} {ns : List NearTree} → SeenNear Q ss ns → Entered seat_weight ss (weights ns)
  weights_enter no_seat = no_entry
  weights_enter (takes s n t h) = enters s (n.0, IntValue n.1) t.device t.weight (weights_enter h)
  weights_enter (free s u h) = omits s u (weights_enter h)

  kept_enter : ((B : BoundTree) (T : Tree) → Q B T → KeptLies (held B) (kept_of T))
      → {ss : List NearSeat} {ns : List NearTree} → SeenNear Q ss ns → (es : Entries) → kept_there ns ≡ Some es
      → Entered seat_held ss es
  kept_enter kept no_seat es h = let e : [] ≡ es = cc in subst (Entered seat_held []) e no_entry
  kept_enter kept (free s u h) es k = omits s u (kept_enter kept h es k)
  kept_enter kept (takes s n {ss} {ns} t h) es k = by_options (kept_of n.2) (kept_there ns) refl
      (kept s.tree n.2 t.fits) (kept_enter kept h) k
    where
      by_options : (o : Option LocalValue) (os : Option Entries) → kept_there ns ≡ os → KeptLies (held s.tree) o
          → ((r : Entries) → kept_there ns ≡ Some r → Entered seat_held ss r) → entry_before n.0 o os ≡ Some es
          → Entered seat_held (s ∷ ss) es
      by_options None os q l ih g = absurd l
      by_options (Some v) None q l ih g = absurd cc
      by_options (Some v) (Some r) q l ih g =
          let e : ((n.0, v) ∷ r) ≡ es = cc in
          subst (Entered seat_held (s ∷ ss)) e (enters s (n.0, v) t.device l (ih r q))

  pub weights_lie : (d : ℕ) (ss : List NearSeat) (ns : List NearTree) (m : ℕ) → AreApart d (maybes ss)
      → SeenNear Q ss ns → LiesIn d (seat_field (Between m m) seat_weight ss)
      (ValueField (with_entry d (IntValue m) (weights ns)))
  weights_lie d ss ns m a h = field_lies d seat_weight ss (weights ns) (Between m m) (IntValue m) a (weights_enter h)
      (omega arith, omega arith)

  pub kept_lie : ((B : BoundTree) (T : Tree) → Q B T → KeptLies (held B) (kept_of T))
      → (d : ℕ) (ss : List NearSeat) (ns : List NearTree) (es : Entries) (b : BoundValue) (v : LocalValue)
      → AreApart d (maybes ss) → SeenNear Q ss ns → kept_there ns ≡ Some es → Lies b v
      → LiesIn d (seat_field b seat_held ss) (ValueField (with_entry d v es))
  kept_lie kept d ss ns es b v a h k l = field_lies d seat_held ss es b v a (kept_enter kept h es k) l

pub own_lies : (Q : Fitting) → ((B : BoundTree) (T : Tree) → Q B T → KeptLies (held B) (kept_of T))
    → (s : Option (Bool × BoundTree)) (o : Option Tree) (b : BoundValue) (first x : LocalValue) → OwnSeen Q s o
    → own_or o first ≡ Some x → Lies b first
    → Lies (own_bound s b) x
own_lies Q kept None None b first x h e l = let s : first ≡ x = cc in subst (Lies b) s l
own_lies Q kept None (Some T) b first x h e l = absurd h
own_lies Q kept (Some o) None b first x h e l = let s : first ≡ x = cc in
    rw h (subst (Lies (either b (held o.1))) s (either_left b (held o.1) first l))
own_lies Q kept (Some o) (Some T) b first x h e l = by_test o.0
  where
    there : Lies (held o.1) x
    there = subst (KeptLies (held o.1)) e (kept o.1 T h)

    by_test : (c : Bool) → Lies (if c then held o.1 else either b (held o.1)) x
    by_test true = there
    by_test false = either_right b (held o.1) x there
