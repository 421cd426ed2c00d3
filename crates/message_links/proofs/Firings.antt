-- Crates above cite this module: which devices fly with a copy that was begun in a part of a mail log, and which have fired in it.
use Rattle.std.proofs.Common.{◌≡◌, ◌⊎◌, ℕ, List, [], ◌∷◌, ◌++◌, length, refl, sym, ◌∙◌, ap, Bool, true, false, ◌||◌, if◌then◌else◌, nat_eq, inl, inr, append_assoc}
use Rattle.std.proofs.lemmas.Bool.{eqb-true, eq-eqb}
use Rattle.std.specs.Prelude.{take}
use Rattle.std.proofs.Math.Seq.{take-append_seam}
use Rattle.fc_values.proofs.Booleans.{or_true}
use Rattle.message_links.specs.MailCores.{MailEntryValue, MailBegin, MailEnd, MailIdle, MailDeliver, MailAgain, MailLose}
use Rattle.message_links.specs.MailRounds.{HasMailEnd, HasMailFiring, EndsOwnBegin}

-- whether a device flies with such a copy after an entry, and along a part
abbrev pub flies_after : ℕ → Bool → MailEntryValue → Bool
flies_after a s (MailBegin d) = if nat_eq d a then true else s
flies_after a s (MailEnd d) = if nat_eq d a then false else s
flies_after a s MailIdle = s
flies_after a s (MailDeliver x y) = s
flies_after a s (MailAgain x y) = s
flies_after a s (MailLose x y i) = s

abbrev pub flies_along : ℕ → Bool → List MailEntryValue → Bool
flies_along a s [] = s
flies_along a s (e ∷ es) = flies_along a (flies_after a s e) es

-- whether it has fired
abbrev pub fired_after : ℕ → Bool → Bool → MailEntryValue → Bool
fired_after a s f (MailBegin d) = f
fired_after a s f (MailEnd d) = if nat_eq d a then s || f else f
fired_after a s f MailIdle = f
fired_after a s f (MailDeliver x y) = f
fired_after a s f (MailAgain x y) = f
fired_after a s f (MailLose x y i) = f

abbrev pub fired_along : ℕ → Bool → Bool → List MailEntryValue → Bool
fired_along a s f [] = f
fired_along a s f (e ∷ es) = fired_along a (flies_after a s e) (fired_after a s f e) es

pub flies_more : (a : ℕ) (s : Bool) (xs ys : List MailEntryValue) → flies_along a s (xs ++ ys) ≡ flies_along a (flies_along a s xs) ys
flies_more a s [] ys = refl
flies_more a s (x ∷ xs) ys = flies_more a (flies_after a s x) xs ys

pub fired_more : (a : ℕ) (s f : Bool) (xs ys : List MailEntryValue) → fired_along a s f (xs ++ ys) ≡ fired_along a (flies_along a s xs) (fired_along a s f xs) ys
fired_more a s f [] ys = refl
fired_more a s f (x ∷ xs) ys = fired_more a (flies_after a s x) (fired_after a s f x) xs ys

after_true : (a : ℕ) (s : Bool) (e : MailEntryValue) → fired_after a s true e ≡ true
after_true a s (MailBegin d) = refl
after_true a s (MailEnd d) = by_test (nat_eq d a)
  where
    by_test : (t : Bool) → (if t then s || true else true) ≡ true
    by_test true = or_true s true refl
    by_test false = refl
after_true a s MailIdle = refl
after_true a s (MailDeliver x y) = refl
after_true a s (MailAgain x y) = refl
after_true a s (MailLose x y i) = refl

pub fired_stays : (a : ℕ) (s : Bool) (es : List MailEntryValue) → fired_along a s true es ≡ true
fired_stays a s [] = refl
fired_stays a s (e ∷ es) = let k = after_true a s e in rw k (fired_stays a (flies_after a s e) es)

-- while a device flies, it goes on to fly or has fired
goes_on : (a : ℕ) (f : Bool) (e : MailEntryValue) → (flies_after a true e ≡ true) ⊎ (fired_after a true f e ≡ true)
goes_on a f (MailBegin d) = by_test (nat_eq d a)
  where
    by_test : (t : Bool) → ((if t then true else true) ≡ true) ⊎ (f ≡ true)
    by_test true = inl refl
    by_test false = inl refl
goes_on a f (MailEnd d) = by_test (nat_eq d a)
  where
    by_test : (t : Bool) → ((if t then false else true) ≡ true) ⊎ ((if t then true || f else f) ≡ true)
    by_test true = inr refl
    by_test false = inl refl
goes_on a f MailIdle = inl refl
goes_on a f (MailDeliver x y) = inl refl
goes_on a f (MailAgain x y) = inl refl
goes_on a f (MailLose x y i) = inl refl

ends_fired : (a : ℕ) (f : Bool) (es : List MailEntryValue) → HasMailEnd a es → fired_along a true f es ≡ true
ends_fired a f [] h = absurd h
ends_fired a f (e ∷ es) (inl q) =
    let k : nat_eq a a ≡ true = eq-eqb a a refl in
    let done : fired_after a true f e ≡ true = rw (q, k) refl in
    rw done (fired_stays a (flies_after a true e) es)
ends_fired a f (e ∷ es) (inr h) = by_case (goes_on a f e) (ends_fired a (fired_after a true f e) es h)
  where
    by_case : (flies_after a true e ≡ true) ⊎ (fired_after a true f e ≡ true) → fired_along a true (fired_after a true f e) es ≡ true
        → fired_along a (flies_after a true e) (fired_after a true f e) es ≡ true
    by_case (inl q) ih = rw q ih
    by_case (inr q) ih = rw q (fired_stays a (flies_after a true e) es)

-- a device that begins and later ends has fired
pub has_fired : (a : ℕ) (s f : Bool) (es : List MailEntryValue) → HasMailFiring a es → fired_along a s f es ≡ true
has_fired a s f [] h = absurd h
has_fired a s f (e ∷ es) (inl h) =
    let q = h.0 in
    let k : nat_eq a a ≡ true = eq-eqb a a refl in
    let flies : flies_after a s e ≡ true = rw (q, k) refl in
    rw flies (ends_fired a (fired_after a s f e) es h.1)
has_fired a s f (e ∷ es) (inr h) = has_fired a (flies_after a s e) (fired_after a s f e) es h

-- without an end it flies on
flies_on : (a : ℕ) (es : List MailEntryValue) → (HasMailEnd a es → ⊥) → flies_along a true es ≡ true
flies_on a [] none = refl
flies_on a (MailBegin d ∷ es) none = by_test (nat_eq d a) (flies_on a es (λ h. none (inr h)))
  where
    by_test : (t : Bool) → flies_along a true es ≡ true → flies_along a (if t then true else true) es ≡ true
    by_test true ih = ih
    by_test false ih = ih
flies_on a (MailEnd d ∷ es) none = by_test (nat_eq d a) refl (flies_on a es (λ h. none (inr h)))
  where
    by_test : (t : Bool) → nat_eq d a ≡ t → flies_along a true es ≡ true → flies_along a (if t then false else true) es ≡ true
    by_test true q ih = absurd (none (inl (ap MailEnd (eqb-true d a q))))
    by_test false q ih = ih
flies_on a (MailIdle ∷ es) none = flies_on a es (λ h. none (inr h))
flies_on a (MailDeliver x y ∷ es) none = flies_on a es (λ h. none (inr h))
flies_on a (MailAgain x y ∷ es) none = flies_on a es (λ h. none (inr h))
flies_on a (MailLose x y i ∷ es) none = flies_on a es (λ h. none (inr h))

cut_again : (before between after : List MailEntryValue) (x y : MailEntryValue) → before ++ x ∷ (between ++ y ∷ after) ≡ (before ++ x ∷ between) ++ y ∷ after
cut_again before between after x y = sym (append_assoc before (x ∷ between) (y ∷ after))

-- where a device ends a firing of the part, it flies with a copy of the part
pub own_flies : (a : ℕ) (part : List MailEntryValue) (index : ℕ) → EndsOwnBegin a part index → flies_along a false (take index part) ≡ true
own_flies a part index h =
    let cut : part ≡ (h.before ++ MailBegin a ∷ h.between) ++ MailEnd a ∷ h.after = h.cut ∙ cut_again h.before h.between h.after (MailBegin a) (MailEnd a) in
    let seam : take (length (h.before ++ MailBegin a ∷ h.between)) ((h.before ++ MailBegin a ∷ h.between) ++ MailEnd a ∷ h.after) ≡ h.before ++ MailBegin a ∷ h.between =
    take-append_seam (h.before ++ MailBegin a ∷ h.between) (MailEnd a ∷ h.after) in
    let at : take index part ≡ take (length (h.before ++ MailBegin a ∷ h.between)) part = ap (λ i. take i part) h.is in
    let of : take (length (h.before ++ MailBegin a ∷ h.between)) part ≡ take (length (h.before ++ MailBegin a ∷ h.between)) ((h.before ++ MailBegin a ∷ h.between) ++ MailEnd a ∷ h.after) =
    ap (take (length (h.before ++ MailBegin a ∷ h.between))) cut in
    let taken : take index part ≡ h.before ++ MailBegin a ∷ h.between = at ∙ of ∙ seam in
    let k : nat_eq a a ≡ true = eq-eqb a a refl in
    let begun : flies_after a (flies_along a false h.before) (MailBegin a) ≡ true = rw k refl in
    rw taken (flies_more a false h.before (MailBegin a ∷ h.between) ∙ rw begun (flies_on a h.between h.flies))
