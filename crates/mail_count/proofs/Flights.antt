-- Which devices fly with a copy of a part of a mail log, and which have fired in it.
use Rattle.std.proofs.Common.{◌≡◌, ◌⊎◌, ℕ, List, [], ◌∷◌, ◌++◌, refl, ◌∙◌, ap, Bool, true, false, ◌||◌, if◌then◌else◌, nat_eq, inl, inr}
use Rattle.std.proofs.lemmas.Bool.{eqb-true, eq-eqb}
use mathlib.Core.Logic.{⊎_elim}
use Rattle.topology.specs.Networks.{Network}
use Rattle.message_links.specs.MailCores.{MailEntryValue, MailBegin, MailEnd, MailIdle, MailDeliver, MailAgain, MailLose}
use Rattle.message_links.specs.MailRounds.{HasMailEnd, HasMailFiring}
use Rattle.message_links.proofs.Firings.{flies_after, flies_along, fired_after, fired_along}
use Rattle.mail_count.specs.Seen.{Seen, noted, noted_all}

pub noted_more : (N : Network) (s : Seen) (xs ys : List MailEntryValue) → noted_all N s (xs ++ ys) ≡ noted_all N (noted_all N s xs) ys
noted_more N s [] ys = refl
noted_more N s (x ∷ xs) ys = noted_more N (noted N s x) xs ys

-- ---- what was seen of one device

flies_one : (N : Network) (s : Seen) (e : MailEntryValue) (d : ℕ) → (noted N s e).flies d ≡ flies_after d (s.flies d) e
flies_one N s (MailBegin x) d = refl
flies_one N s (MailEnd x) d = refl
flies_one N s MailIdle d = refl
flies_one N s (MailDeliver x y) d = refl
flies_one N s (MailAgain x y) d = refl
flies_one N s (MailLose x y i) d = refl

fired_one : (N : Network) (s : Seen) (e : MailEntryValue) (d : ℕ) → (noted N s e).fired d ≡ fired_after d (s.flies d) (s.fired d) e
fired_one N s (MailBegin x) d = refl
fired_one N s (MailEnd x) d = refl
fired_one N s MailIdle d = refl
fired_one N s (MailDeliver x y) d = refl
fired_one N s (MailAgain x y) d = refl
fired_one N s (MailLose x y i) d = refl

pub flies_seen : (N : Network) (s : Seen) (es : List MailEntryValue) (d : ℕ) → (noted_all N s es).flies d ≡ flies_along d (s.flies d) es
flies_seen N s [] d = refl
flies_seen N s (e ∷ es) d = flies_seen N (noted N s e) es d ∙ ap (λ f. flies_along d f es) (flies_one N s e d)

pub fired_seen : (N : Network) (s : Seen) (es : List MailEntryValue) (d : ℕ) → (noted_all N s es).fired d ≡ fired_along d (s.flies d) (s.fired d) es
fired_seen N s [] d = refl
fired_seen N s (e ∷ es) d =
    fired_seen N (noted N s e) es d
    ∙ ap (λ f. fired_along d f ((noted N s e).fired d) es) (flies_one N s e d)
    ∙ ap (λ f. fired_along d (flies_after d (s.flies d) e) f es) (fired_one N s e d)

-- ---- a device that flies, and one that has fired

-- a device begins a firing that doesn't end
pub record IsUp (d : ℕ) (part : List MailEntryValue) : Type 0 where
  pub before : List MailEntryValue
  pub between : List MailEntryValue
  pub cut : part ≡ before ++ MailBegin d ∷ between
  pub flies : HasMailEnd d between → ⊥

up_later : (d : ℕ) (e : MailEntryValue) (es : List MailEntryValue) → IsUp d es → IsUp d (e ∷ es)
up_later d e es u = record { before = e ∷ u.before; between = u.between; cut = ap (λ xs. e ∷ xs) u.cut; flies = u.flies }

up_here : (d x : ℕ) (es : List MailEntryValue) → nat_eq x d ≡ true → (HasMailEnd d es → ⊥) → IsUp d (MailBegin x ∷ es)
up_here d x es q none = record { before = []; between = es; cut = ap (λ y. MailBegin y ∷ es) (eqb-true x d q); flies = none }

abbrev StillUp : ℕ → Bool → List MailEntryValue → Type 0
StillUp d f es = ((f ≡ true) × (HasMailEnd d es → ⊥)) ⊎ IsUp d es

same_up : (d : ℕ) (f : Bool) (e : MailEntryValue) (es : List MailEntryValue) → (e ≡ MailEnd d → ⊥) → StillUp d f es → StillUp d f (e ∷ es)
same_up d f e es other u = ⊎_elim (λ h. inl (h.0, λ k. ⊎_elim other h.1 k)) (λ h. inr (up_later d e es h)) u

still_up : (d : ℕ) (f : Bool) (es : List MailEntryValue) → flies_along d f es ≡ true → StillUp d f es
still_up d f [] h = inl (h, λ k. k)
still_up d f (MailBegin x ∷ es) h = by_test (nat_eq x d) refl (still_up d (flies_after d f (MailBegin x)) es h)
  where
    by_test : (t : Bool) → nat_eq x d ≡ t → StillUp d (if t then true else f) es → StillUp d f (MailBegin x ∷ es)
    by_test true q u = ⊎_elim (λ k. inr (up_here d x es q k.1)) (λ k. inr (up_later d (MailBegin x) es k)) u
    by_test false q u = same_up d f (MailBegin x) es (λ e. cc) u
still_up d f (MailEnd x ∷ es) h = by_test (nat_eq x d) refl (still_up d (flies_after d f (MailEnd x)) es h)
  where
    by_test : (t : Bool) → nat_eq x d ≡ t → StillUp d (if t then false else f) es → StillUp d f (MailEnd x ∷ es)
    by_test true q u = ⊎_elim (λ k. let z = k.0 in absurd cc) (λ k. inr (up_later d (MailEnd x) es k)) u
    by_test false q u = same_up d f (MailEnd x) es (λ e. let y : x ≡ d = cc in let z : nat_eq x d ≡ true = eq-eqb x d y in cc) u
still_up d f (MailIdle ∷ es) h = same_up d f MailIdle es (λ e. cc) (still_up d f es h)
still_up d f (MailDeliver x y ∷ es) h = same_up d f (MailDeliver x y) es (λ e. cc) (still_up d f es h)
still_up d f (MailAgain x y ∷ es) h = same_up d f (MailAgain x y) es (λ e. cc) (still_up d f es h)
still_up d f (MailLose x y i ∷ es) h = same_up d f (MailLose x y i) es (λ e. cc) (still_up d f es h)

-- a device that flies with a copy of the part began it there
pub is_up : (d : ℕ) (es : List MailEntryValue) → flies_along d false es ≡ true → IsUp d es
is_up d es h = ⊎_elim (λ k. let z = k.0 in absurd cc) (λ k. k) (still_up d false es h)

-- what a device that flies, or has fired, does
pub data Did (d : ℕ) (flies fired : Bool) (es : List MailEntryValue) : Type 0 where
  Before : fired ≡ true → Did d flies fired es
  Lands : flies ≡ true → HasMailEnd d es → Did d flies fired es
  Fires : HasMailFiring d es → Did d flies fired es

did_later : (d : ℕ) (s f : Bool) (e : MailEntryValue) (es : List MailEntryValue) → Did d s f es → Did d s f (e ∷ es)
did_later d s f e es (Before h) = Before h
did_later d s f e es (Lands h k) = Lands h (inr k)
did_later d s f e es (Fires h) = Fires (inr h)

did : (d : ℕ) (s f : Bool) (es : List MailEntryValue) → fired_along d s f es ≡ true → Did d s f es
did d s f [] h = Before h
did d s f (MailBegin x ∷ es) h = by_test (nat_eq x d) refl (did d (flies_after d s (MailBegin x)) f es h)
  where
    by_test : (t : Bool) → nat_eq x d ≡ t → Did d (if t then true else s) f es → Did d s f (MailBegin x ∷ es)
    by_test true q (Before k) = Before k
    by_test true q (Lands k l) = Fires (inl (ap (λ y. MailBegin y) (eqb-true x d q), l))
    by_test true q (Fires k) = Fires (inr k)
    by_test false q k = did_later d s f (MailBegin x) es k
did d s f (MailEnd x ∷ es) h = by_test (nat_eq x d) refl (did d (flies_after d s (MailEnd x)) (fired_after d s f (MailEnd x)) es h)
  where
    either : (s f : Bool) → (s || f) ≡ true → (s ≡ true) ⊎ (f ≡ true)
    either true f k = inl refl
    either false f k = inr k

    by_test : (t : Bool) → nat_eq x d ≡ t → Did d (if t then false else s) (if t then s || f else f) es → Did d s f (MailEnd x ∷ es)
    by_test true q (Before k) = ⊎_elim (λ u. Lands u (inl (ap (λ y. MailEnd y) (eqb-true x d q)))) (λ u. Before u) (either s f k)
    by_test true q (Lands k l) = absurd cc
    by_test true q (Fires k) = Fires (inr k)
    by_test false q k = did_later d s f (MailEnd x) es k
did d s f (MailIdle ∷ es) h = did_later d s f MailIdle es (did d s f es h)
did d s f (MailDeliver x y ∷ es) h = did_later d s f (MailDeliver x y) es (did d s f es h)
did d s f (MailAgain x y ∷ es) h = did_later d s f (MailAgain x y) es (did d s f es h)
did d s f (MailLose x y i ∷ es) h = did_later d s f (MailLose x y i) es (did d s f es h)

-- a device that has fired in the part begins there and later ends
pub fires_in : (d : ℕ) (es : List MailEntryValue) → fired_along d false false es ≡ true → HasMailFiring d es
fires_in d es h = by_case (did d false false es h)
  where
    by_case : Did d false false es → HasMailFiring d es
    by_case (Before k) = absurd cc
    by_case (Lands k l) = absurd cc
    by_case (Fires k) = k
