-- How many firings end in the stretch of a line `run`: at each device as many as it begins.
use Rattle.std.proofs.Common.{ℕ, suc, ◌≡◌, ◌+◌, ◌*◌, Bool, true, false, cond, ◌||◌, nat_eq, List, [], ◌∷◌, length, refl, sym, ap, ap₂, subst, ◌∙◌, arith, Option, Some, None, is_some, if◌then◌else◌}
use Rattle.std.specs.Prelude.{count_by, sum_by}
use Rattle.std.proofs.lemmas.Bool.Decides.{nat_tests}
use Rattle.std.proofs.lemmas.List.Sums.{sum_by-cons}
use Rattle.fc_values.proofs.Booleans.{by_iff, or_no, or_true}
use Rattle.fc_values.proofs.Rising.{rises_apart, rises_tail}
use Rattle.fc_values.specs.Fields.{Rises, is_in}
use Rattle.fc_values.specs.Trees.{TreeExport, Copy}
use Rattle.fc_nodes.specs.Program.{Program, Unfolding, IsProgram, unfolding_of}
use Rattle.topology.specs.Networks.{Network, numbers}
use Rattle.firing_core.specs.Cores.{Core, Map, Run, IsGood, begun, ended, put, copy_of}
use Rattle.firing_core.specs.Entries.{EntryValue, BeginEntry, EndEntry, IdleEntry, EditEntry}
use Rattle.firing_core.specs.Laws.{StepsKeepGood}
use Rattle.firing_core.specs.Rounds.{has_edit}
use Rattle.firing_core.specs.Stretches.{RunStretch, NoneFlies, begins}
use Rattle.fc_gen.specs.Summaries.{is_end}
use Rattle.fc_gen.proofs.Counting.{first_in}

-- ---- one device: what it ends, and whether it flies
abbrev one_if : Bool → ℕ
one_if b = cond b 1 0

abbrev is_end_of : ℕ → EntryValue → Bool
is_end_of d (BeginEntry e) = false
is_end_of d (EndEntry e) = nat_eq e d
is_end_of d IdleEntry = false
is_end_of d (EditEntry e) = false

abbrev ends_of : ℕ → List EntryValue → ℕ
ends_of d [] = 0
ends_of d (e ∷ es) = one_if (is_end_of d e) + ends_of d es

abbrev airborne : Core → ℕ → ℕ
airborne c d = one_if (is_some (c.flying d))

flipped : (x d : ℕ) → nat_eq d x ≡ nat_eq x d
flipped x d = by_iff (nat_eq d x) (nat_eq x d) (λ e. grind (arith, nat_tests)) (λ e. grind (arith, nat_tests))

put_at : (f : Map Copy) (x d : ℕ) (v : Option Copy) → put f x v d ≡ (if nat_eq x d then v else f d)
put_at f x d v = ap (λ b. if b then v else f d) (flipped x d)

air_begun : (c : Core) (table : Map TreeExport) (x d : ℕ) → c.flying x ≡ None → airborne (begun table c x) d ≡ one_if (nat_eq x d) + airborne c d
air_begun c table x d none = ap (λ o. one_if (is_some o)) (put_at c.flying x d (Some (copy_of c.net table x))) ∙ by_test (nat_eq x d) refl
  where
    by_test : (b : Bool) → nat_eq x d ≡ b → one_if (is_some (if b then Some (copy_of c.net table x) else c.flying d)) ≡ one_if b + airborne c d
    by_test true e =
        let same : x ≡ d = grind (arith, nat_tests) in
        let z : airborne c d ≡ 0 = ap (λ o. one_if (is_some o)) (subst (λ y. c.flying y ≡ None) same none) in
        omega (arith, z)
    by_test false e = omega arith

air_ended : (c : Core) (x d : ℕ) (export : TreeExport) (copy : Copy) → c.flying x ≡ Some copy → one_if (nat_eq x d) + airborne (ended c x export) d ≡ airborne c d
air_ended c x d export copy flies =
    ap (λ o. one_if (nat_eq x d) + one_if (is_some o)) (put_at c.flying x d None) ∙ by_test (nat_eq x d) refl
  where
    by_test : (b : Bool) → nat_eq x d ≡ b → one_if b + one_if (is_some (if b then None else c.flying d)) ≡ airborne c d
    by_test true e =
        let same : x ≡ d = grind (arith, nat_tests) in
        let z : airborne c d ≡ 1 = ap (λ o. one_if (is_some o)) (subst (λ y. c.flying y ≡ Some copy) same flies) in
        omega (arith, z)
    by_test false e = omega arith

more_if : (b : Bool) (n : ℕ) → (if b then n + 1 else n) ≡ n + one_if b
more_if true n = refl
more_if false n = omega arith

-- what a device ends and still has in flight is what it had in flight and what it begins
balanced : (U : Unfolding) (es : List EntryValue) (c last : Core) (d : ℕ) → has_edit es ≡ false → Run U c es last
    → ends_of d es + airborne last d ≡ begins d es + airborne c d
balanced U [] c last d p r = let e : airborne last d ≡ airborne c d = ap (λ (k : Core). airborne k d) r in omega (arith, e)
balanced U (BeginEntry x ∷ es) c last d p r =
    let ih = balanced U es r.0 last d p r.2 in
    let air : airborne r.0 d ≡ one_if (nat_eq x d) + airborne c d = ap (λ (k : Core). airborne k d) r.1.2 ∙ air_begun c c.exports x d r.1.1 in
    let more = more_if (nat_eq x d) (begins d es) in
    omega (arith, ih, air, more)
balanced U (EndEntry x ∷ es) c last d p r =
    let ih = balanced U es r.0 last d p r.2 in
    let after : airborne r.0 d ≡ airborne (ended c x r.1.export) d = ap (λ (k : Core). airborne k d) r.1.after in
    let air = air_ended c x d r.1.export r.1.copy r.1.flies in
    omega (arith, ih, after, air)
balanced U (IdleEntry ∷ es) c last d p r =
    let ih = balanced U es r.0 last d p r.2 in
    let same : airborne r.0 d ≡ airborne c d = ap (λ (k : Core). airborne k d) r.1 in
    omega (arith, ih, same)
balanced U (EditEntry e ∷ es) c last d p r = absurd cc

-- ---- all devices
abbrev EndIn : List ℕ → EntryValue → Type 0
EndIn ds (BeginEntry d) = Unit {0}
EndIn ds (EndEntry d) = is_in d ds ≡ true
EndIn ds IdleEntry = Unit {0}
EndIn ds (EditEntry e) = Unit {0}

abbrev AllEndIn : List ℕ → List EntryValue → Type 0
AllEndIn ds [] = Unit {0}
AllEndIn ds (e ∷ es) = EndIn ds e × AllEndIn ds es

zeros : (ds : List ℕ) → sum_by (λ (d : ℕ). 0) ds ≡ 0
zeros [] = refl
zeros (d ∷ ds) = let ih = zeros ds in sum_by-cons (λ (d : ℕ). 0) d ds ∙ omega (arith, ih)

sum_both : (f g : ℕ → ℕ) (ds : List ℕ) → sum_by (λ d. f d + g d) ds ≡ sum_by f ds + sum_by g ds
sum_both f g [] = refl
sum_both f g (d ∷ ds) =
    let ih = sum_both f g ds in
    let a = sum_by-cons f d ds in
    let b = sum_by-cons g d ds in
    sum_by-cons (λ d. f d + g d) d ds ∙ omega (arith, ih, a, b)

none_of : (x : ℕ) (ds : List ℕ) → is_in x ds ≡ false → sum_by (λ d. one_if (nat_eq x d)) ds ≡ 0
none_of x [] h = refl
none_of x (d ∷ ds) h =
    let parts = or_no (nat_eq x d) (is_in x ds) h in
    let ih = none_of x ds parts.1 in
    sum_by-cons (λ d. one_if (nat_eq x d)) d ds ∙ ap (λ b. one_if b + sum_by (λ d. one_if (nat_eq x d)) ds) parts.0 ∙ omega (arith, ih)

once : (x : ℕ) (ds : List ℕ) → Rises ds → is_in x ds ≡ true → sum_by (λ d. one_if (nat_eq x d)) ds ≡ 1
once x [] r h = absurd cc
once x (d ∷ ds) r h =
    sum_by-cons (λ d. one_if (nat_eq x d)) d ds ∙ by_test (nat_eq x d) refl h (λ i. once x ds (rises_tail d ds r) i)
  where
    by_test : (b : Bool) → nat_eq x d ≡ b → (b || is_in x ds) ≡ true
        → (is_in x ds ≡ true → sum_by (λ d. one_if (nat_eq x d)) ds ≡ 1) → one_if b + sum_by (λ d. one_if (nat_eq x d)) ds ≡ 1
    by_test true e i ih =
        let same : d ≡ x = grind (arith, nat_tests) in
        let none = none_of x ds (subst (λ y. is_in y ds ≡ false) same (rises_apart d ds r)) in
        omega (arith, none)
    by_test false e i ih = let one = ih i in omega (arith, one)

one_end : (e : EntryValue) (ds : List ℕ) → Rises ds → EndIn ds e → sum_by (λ d. one_if (is_end_of d e)) ds ≡ one_if (is_end e)
one_end (BeginEntry x) ds r h = zeros ds
one_end (EndEntry x) ds r h = once x ds r h
one_end IdleEntry ds r h = zeros ds
one_end (EditEntry e) ds r h = zeros ds

-- the ends of a log are those of all devices
all_ends : (es : List EntryValue) (ds : List ℕ) → Rises ds → AllEndIn ds es → sum_by (λ d. ends_of d es) ds ≡ count_by is_end es
all_ends [] ds r h = zeros ds
all_ends (e ∷ es) ds r h =
    sum_both (λ d. one_if (is_end_of d e)) (λ d. ends_of d es) ds
    ∙ ap₂ (λ m n. m + n) (one_end e ds r h.0) (all_ends es ds r h.1) ∙ sym (sum_by-cons _ e es)

each_same : (f : ℕ → ℕ) (k : ℕ) (ds : List ℕ) → ((d : ℕ) → is_in d ds ≡ true → f d ≡ k) → sum_by f ds ≡ k * length ds
each_same f k [] h = omega arith
each_same f k (d ∷ ds) h =
    let here = h d (first_in d ds) in
    let ih = each_same f k ds (λ e i. h e (or_true (nat_eq e d) (is_in e ds) i)) in
    sum_by-cons f d ds ∙ ap₂ (λ m n. m + n) here ih ∙ once_more k (length ds)
  where
    once_more : (k n : ℕ) → k + k * n ≡ k * suc n
    once_more k n = grind arith

-- ---- from a good core each device that ends a firing is there
module _ (keep : StepsKeepGood) (P : Program) (is : IsProgram P) where
  ends_there : (es : List EntryValue) (c last : Core) → IsGood (unfolding_of P) c → has_edit es ≡ false → Run (unfolding_of P) c es last
      → AllEndIn (numbers c.net.devices) es
  ends_there [] c last g p r = tt
  ends_there (BeginEntry x ∷ es) c last g p r = (
    tt,
    subst (λ (n : Network). AllEndIn (numbers n.devices) es) (ap (λ (k : Core). k.net) r.1.2)
        (ends_there es r.0 last (keep P c r.0 (BeginEntry x) is g r.1) p r.2),
  )
  ends_there (EndEntry x ∷ es) c last g p r = (
    (g.flying x r.1.copy r.1.flies).there,
    subst (λ (n : Network). AllEndIn (numbers n.devices) es) (ap (λ (k : Core). k.net) r.1.after)
        (ends_there es r.0 last (keep P c r.0 (EndEntry x) is g r.1) p r.2),
  )
  ends_there (IdleEntry ∷ es) c last g p r = (
    tt,
    subst (λ (n : Network). AllEndIn (numbers n.devices) es) (ap (λ (k : Core). k.net) r.1)
        (ends_there es r.0 last (keep P c r.0 IdleEntry is g r.1) p r.2),
  )
  ends_there (EditEntry e ∷ es) c last g p r = absurd cc

  -- the firings of a stretch of rounds
  pub run_ends : (c last : Core) (rounds : ℕ) (part : List EntryValue) → IsGood (unfolding_of P) c → NoneFlies c
      → RunStretch (unfolding_of P) c rounds part last → count_by is_end part ≡ rounds * length (numbers c.net.devices)
  run_ends c last rounds part g none s =
      sym (all_ends part (numbers c.net.devices) g.net.rising (ends_there part c last g s.plain s.leads))
      ∙ each_same (λ d. ends_of d part) rounds (numbers c.net.devices) each
    where
      each : (d : ℕ) → is_in d (numbers c.net.devices) ≡ true → ends_of d part ≡ rounds
      each d l =
          let b = balanced (unfolding_of P) part c last d s.plain s.leads in
          let before : airborne c d ≡ 0 = ap (λ o. one_if (is_some o)) (none d) in
          let after : airborne last d ≡ 0 = ap (λ o. one_if (is_some o)) (s.rests d) in
          let begun = s.begun d l in
          omega (arith, b, before, after, begun)
