-- What devices still want in a round, by their marks, and how an entry changes it.
use Rattle.std.proofs.Common.{◌≡◌, ℕ, zero, suc, Bool, true, false, nat_eq, nat_lt, ◌&&◌, ◌||◌, List, [], ◌∷◌, length, replicate, if◌then◌else◌, refl, sym, ap, subst, inl, inr, eqb-true, eq-eqb, ltb-true, arith}
use mathlib.Core.Logic.{⊎_elim}
use Rattle.firing_core.specs.Entries.{EntryValue, BeginEntry, EndEntry, IdleEntry, EditEntry}
use Rattle.firing_core.specs.Rounds.{is_edit, HasEnd, HasFiring}
use Rattle.fc_values.specs.Fields.{is_in}
use Rattle.round_count.specs.Marks.{wanting, moved, noted}

-- what a device wants comes in a stretch: a firing, the end of one, or nothing
abbrev pub Comes : ℕ → ℕ → List EntryValue → Type 0
Comes zero d part = HasFiring d part
Comes (suc zero) d part = HasEnd d part
Comes (suc (suc m)) d part = Unit {0}

abbrev pub AllCome : List ℕ → List ℕ → List EntryValue → Type 0
AllCome [] ms part = Unit {0}
AllCome (d ∷ ds) [] part = ⊥
AllCome (d ∷ ds) (m ∷ ms) part = Comes m d part × AllCome ds ms part

firing_end : (d : ℕ) (es : List EntryValue) → HasFiring d es → HasEnd d es
firing_end d [] h = h
firing_end d (e ∷ es) h = ⊎_elim (λ b. inr b.1) (λ f. inr (firing_end d es f)) h

-- ---- the entry in front of a stretch

-- a device that wants nothing
sated : (p q : Bool) (to m d : ℕ) (es : List EntryValue) → (p ≡ true → ⊥) → Comes (if p && q then to else suc (suc m)) d es
sated true q to m d es h = absurd (h refl)
sated false q to m d es h = tt

other_begin : (e d : ℕ) → nat_eq d e ≡ false → BeginEntry e ≡ BeginEntry d → ⊥
other_begin e d q h = let x : e ≡ d = cc in let y : nat_eq d e ≡ true = eq-eqb d e (sym x) in cc

other_end : (e d : ℕ) → nat_eq d e ≡ false → EndEntry e ≡ EndEntry d → ⊥
other_end e d q h = let x : e ≡ d = cc in let y : nat_eq d e ≡ true = eq-eqb d e (sym x) in cc

begin_down : (e d m : ℕ) (es : List EntryValue) → Comes m d (BeginEntry e ∷ es) → Comes (if nat_eq m 0 && nat_eq d e then 1 else m) d es
begin_down e d zero es h = by_test (nat_eq d e) refl
  where
    by_test : (b : Bool) → nat_eq d e ≡ b → Comes (if b then 1 else 0) d es
    by_test true q = ⊎_elim (λ b. b.1) (λ f. firing_end d es f) h
    by_test false q = ⊎_elim (λ b. absurd (other_begin e d q b.0)) (λ f. f) h
begin_down e d (suc zero) es h = ⊎_elim (λ b. absurd (cc)) (λ f. f) h
begin_down e d (suc (suc m)) es h = sated (nat_eq (suc (suc m)) 0) (nat_eq d e) 1 m d es (λ p. let x = eqb-true (suc (suc m)) 0 p in omega arith)

end_down : (e d m : ℕ) (es : List EntryValue) → Comes m d (EndEntry e ∷ es) → Comes (if nat_eq m 1 && nat_eq d e then 2 else m) d es
end_down e d zero es h = ⊎_elim (λ b. let x = b.0 in absurd (cc)) (λ f. f) h
end_down e d (suc zero) es h = by_test (nat_eq d e) refl
  where
    by_test : (b : Bool) → nat_eq d e ≡ b → Comes (if b then 2 else 1) d es
    by_test true q = tt
    by_test false q = ⊎_elim (λ b. absurd (other_end e d q b)) (λ f. f) h
end_down e d (suc (suc m)) es h = sated (nat_eq (suc (suc m)) 1) (nat_eq d e) 2 m d es (λ p. let x = eqb-true (suc (suc m)) 1 p in omega arith)

idle_down : (d m : ℕ) (es : List EntryValue) → Comes m d (IdleEntry ∷ es) → Comes m d es
idle_down d zero es h = ⊎_elim (λ b. let x = b.0 in absurd (cc)) (λ f. f) h
idle_down d (suc zero) es h = ⊎_elim (λ b. absurd (cc)) (λ f. f) h
idle_down d (suc (suc m)) es h = tt

begin_up : (e d m : ℕ) (es : List EntryValue) → Comes (if nat_eq m 0 && nat_eq d e then 1 else m) d es → Comes m d (BeginEntry e ∷ es)
begin_up e d zero es h = by_test (nat_eq d e) refl h
  where
    by_test : (b : Bool) → nat_eq d e ≡ b → Comes (if b then 1 else 0) d es → HasFiring d (BeginEntry e ∷ es)
    by_test true q k = inl (ap (λ n. BeginEntry n) (sym (eqb-true d e q)), k)
    by_test false q k = inr k
begin_up e d (suc zero) es h = inr h
begin_up e d (suc (suc m)) es h = tt

end_up : (e d m : ℕ) (es : List EntryValue) → Comes (if nat_eq m 1 && nat_eq d e then 2 else m) d es → Comes m d (EndEntry e ∷ es)
end_up e d zero es h = inr h
end_up e d (suc zero) es h = by_test (nat_eq d e) refl h
  where
    by_test : (b : Bool) → nat_eq d e ≡ b → Comes (if b then 2 else 1) d es → HasEnd d (EndEntry e ∷ es)
    by_test true q k = inl (ap (λ n. EndEntry n) (sym (eqb-true d e q)))
    by_test false q k = inr k
end_up e d (suc (suc m)) es h = tt

idle_up : (d m : ℕ) (es : List EntryValue) → Comes m d es → Comes m d (IdleEntry ∷ es)
idle_up d zero es h = inr h
idle_up d (suc zero) es h = inr h
idle_up d (suc (suc m)) es h = tt

-- ---- the same for all devices

all_same : (xs ys : List EntryValue) → ((d m : ℕ) → Comes m d xs → Comes m d ys) → (ds ms : List ℕ) → AllCome ds ms xs → AllCome ds ms ys
all_same xs ys f [] ms h = tt
all_same xs ys f (d ∷ ds) [] h = h
all_same xs ys f (d ∷ ds) (m ∷ ms) h = (f d m h.0, all_same xs ys f ds ms h.1)

all_moved : (e from to : ℕ) (xs ys : List EntryValue) → ((d m : ℕ) → Comes m d xs → Comes (if nat_eq m from && nat_eq d e then to else m) d ys) → (ds ms : List ℕ) → AllCome ds ms xs → AllCome ds (moved e from to ds ms) ys
all_moved e from to xs ys f [] ms h = tt
all_moved e from to xs ys f (d ∷ ds) [] h = absurd h
all_moved e from to xs ys f (d ∷ ds) (m ∷ ms) h = (f d m h.0, all_moved e from to xs ys f ds ms h.1)

all_back : (e from to : ℕ) (xs ys : List EntryValue) → ((d m : ℕ) → Comes (if nat_eq m from && nat_eq d e then to else m) d ys → Comes m d xs) → (ds ms : List ℕ) → AllCome ds (moved e from to ds ms) ys → AllCome ds ms xs
all_back e from to xs ys f [] ms h = tt
all_back e from to xs ys f (d ∷ ds) [] h = h
all_back e from to xs ys f (d ∷ ds) (m ∷ ms) h = (f d m h.0, all_back e from to xs ys f ds ms h.1)

pub all_down : (e : EntryValue) (live ms : List ℕ) (es : List EntryValue) → is_edit e ≡ false → AllCome live ms (e ∷ es) → AllCome live (noted e live ms) es
all_down (BeginEntry d) live ms es p h = all_moved d 0 1 (BeginEntry d ∷ es) es (λ e m k. begin_down d e m es k) live ms h
all_down (EndEntry d) live ms es p h = all_moved d 1 2 (EndEntry d ∷ es) es (λ e m k. end_down d e m es k) live ms h
all_down IdleEntry live ms es p h = all_same (IdleEntry ∷ es) es (λ e m k. idle_down e m es k) live ms h
all_down (EditEntry e) live ms es p h = absurd (cc)

pub all_up : (e : EntryValue) (live ms : List ℕ) (es : List EntryValue) → is_edit e ≡ false → AllCome live (noted e live ms) es → AllCome live ms (e ∷ es)
all_up (BeginEntry d) live ms es p h = all_back d 0 1 (BeginEntry d ∷ es) es (λ e m k. begin_up d e m es k) live ms h
all_up (EndEntry d) live ms es p h = all_back d 1 2 (EndEntry d ∷ es) es (λ e m k. end_up d e m es k) live ms h
all_up IdleEntry live ms es p h = all_same es (IdleEntry ∷ es) (λ e m k. idle_up e m es k) live ms h
all_up (EditEntry e) live ms es p h = absurd (cc)

-- ---- devices that want nothing, and those that want a firing

pub none_come : (live ms : List ℕ) → length ms ≡ length live → AllCome live ms [] → wanting ms ≡ 0
none_come [] [] l h = refl
none_come [] (m ∷ ms) l h = absurd (omega arith)
none_come (d ∷ ds) [] l h = absurd h
none_come (d ∷ ds) (zero ∷ ms) l h = absurd h.0
none_come (d ∷ ds) (suc zero ∷ ms) l h = absurd h.0
none_come (d ∷ ds) (suc (suc m) ∷ ms) l h = let e = none_come ds ms (omega arith) h.1 in rw (below_two m, e) refl
  where
    below_two : (n : ℕ) → nat_lt (suc (suc n)) 2 ≡ false
    below_two n = by_test (nat_lt (suc (suc n)) 2) refl
      where
        by_test : (b : Bool) → nat_lt (suc (suc n)) 2 ≡ b → b ≡ false
        by_test true q = let l = ltb-true (suc (suc n)) 2 q in absurd (omega arith)
        by_test false q = refl

pub all_sated : (live ms : List ℕ) (es : List EntryValue) → length ms ≡ length live → wanting ms ≡ 0 → AllCome live ms es
all_sated [] ms es l w = tt
all_sated (d ∷ ds) [] es l w = absurd (omega arith)
all_sated (d ∷ ds) (zero ∷ ms) es l w = absurd (omega arith)
all_sated (d ∷ ds) (suc zero ∷ ms) es l w = absurd (omega arith)
all_sated (d ∷ ds) (suc (suc m) ∷ ms) es l w = (tt, all_sated ds ms es (omega arith) (omega arith))

pub wanting_fresh : (n : ℕ) → wanting (replicate n 0) ≡ n
wanting_fresh zero = refl
wanting_fresh (suc n) = let e = wanting_fresh n in omega arith

pub all_fire : (ds : List ℕ) (es : List EntryValue) → ((d : ℕ) → is_in d ds ≡ true → HasFiring d es) → AllCome ds (replicate (length ds) 0) es
all_fire [] es f = tt
all_fire (d ∷ ds) es f = (f d (or_true (nat_eq d d) (is_in d ds) (eq-eqb d d refl)), all_fire ds es (λ x k. f x (true_or (nat_eq x d) (is_in x ds) k)))
  where
    or_true : (a b : Bool) → a ≡ true → (a || b) ≡ true
    or_true a b h = rw h refl

    true_or : (a b : Bool) → b ≡ true → (a || b) ≡ true
    true_or true b h = refl
    true_or false b h = h

pub each_fires : (ds : List ℕ) (es : List EntryValue) → AllCome ds (replicate (length ds) 0) es → (d : ℕ) → is_in d ds ≡ true → HasFiring d es
each_fires [] es h d i = absurd (cc)
each_fires (x ∷ ds) es h d i = by_test (nat_eq d x) refl i (each_fires ds es h.1 d)
  where
    by_test : (b : Bool) → nat_eq d x ≡ b → (b || is_in d ds) ≡ true → (is_in d ds ≡ true → HasFiring d es) → HasFiring d es
    by_test true q i f = subst (λ n. HasFiring n es) (sym (eqb-true d x q)) h.0
    by_test false q i f = f i
