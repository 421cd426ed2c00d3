-- Which messages in transit were sent by an end, in a part of a mail log, of a firing that was begun in it.
use Rattle.std.proofs.Common.{◌≡◌, ◌⊎◌, ℕ, zero, suc, ◌<◌, ◌+◌, List, [], ◌∷◌, ◌++◌, length, map, take, refl, sym, ◌∙◌, ap, subst, arith, Bool, true, false, ◌&&◌, if◌then◌else◌, nat_eq, inl, inr, append_assoc, append-nil, Option, Some, None}
use Rattle.std.specs.Prelude.{nat_le}
use Rattle.std.proofs.lemmas.Bool.{eqb-true}
use Rattle.std.proofs.Math.Seq.{take-append_seam}
use mathlib.Core.Logic.{⊎_elim}
use Rattle.topology.specs.Networks.{Network}
use Rattle.message_links.specs.MailCores.{MailEntryValue, MailBegin, MailEnd, MailIdle, MailDeliver, MailAgain, MailLose, rest_of, without, pushed, reaches}
use Rattle.message_links.specs.declared.entries.TheConstants.{MOST_IN_TRANSIT}
use Rattle.message_links.specs.MailRounds.{Posts, posts_after, posts_along, EndsOwnBegin, oldest_post}
use Rattle.message_links.proofs.Firings.{flies_along, own_flies}
use Rattle.message_links.proofs.Along.{along_more}
use Rattle.message_links.proofs.Reaching.{both_true}
use Rattle.mail_count.specs.Seen.{Seen, fresh, noted, noted_all, oldest_own}
use Rattle.mail_count.proofs.Flights.{IsUp, is_up, noted_more, flies_seen}

-- a message that an end of the part sent; the flag says whether its firing was begun in the part
pub record SentIn (at : ℕ) (part : List MailEntryValue) (a j : ℕ) (flag : Bool) : Type 0 where
  pub front : List MailEntryValue
  pub back : List MailEntryValue
  pub cut : part ≡ front ++ MailEnd a ∷ back
  pub place : j ≡ at + length front
  pub own : flag ≡ flies_along a false front

-- an end at this position sent one of the messages
abbrev pub Posted : ℕ → List (Option ℕ) → Type 0
Posted j [] = ⊥
Posted j (None ∷ ss) = Posted j ss
Posted j (Some i ∷ ss) = (i ≡ j) ⊎ Posted j ss

-- what the flag of a message says
abbrev pub IsFlag : ℕ → List MailEntryValue → ℕ → Bool → Option ℕ → Type 0
IsFlag at part a flag None = flag ≡ false
IsFlag at part a flag (Some j) = ((j < at) × (flag ≡ false)) ⊎ SentIn at part a j flag

abbrev pub AreFlags : ℕ → List MailEntryValue → ℕ → List Bool → List (Option ℕ) → Type 0
AreFlags at part a [] [] = Unit {0}
AreFlags at part a [] (s ∷ ss) = ⊥
AreFlags at part a (f ∷ fs) [] = ⊥
AreFlags at part a (f ∷ fs) (s ∷ ss) = IsFlag at part a f s × AreFlags at part a fs ss

-- ---- flags of a longer part

module _ (at : ℕ) (part more : List MailEntryValue) (a : ℕ) where
  flag_more : (f : Bool) (s : Option ℕ) → IsFlag at part a f s → IsFlag at (part ++ more) a f s
  flag_more f None h = h
  flag_more f (Some j) h = ⊎_elim (λ k. inl k) (λ k. inr (longer k)) h
    where
      longer : SentIn at part a j f → SentIn at (part ++ more) a j f
      longer k = record {
        front = k.front;
        back = k.back ++ more;
        cut = ap (λ xs. xs ++ more) k.cut ∙ append_assoc k.front (MailEnd a ∷ k.back) more;
        place = k.place;
        own = k.own;
      }

  flags_more : (fs : List Bool) (ss : List (Option ℕ)) → AreFlags at part a fs ss → AreFlags at (part ++ more) a fs ss
  flags_more [] [] h = tt
  flags_more [] (s ∷ ss) h = absurd h
  flags_more (f ∷ fs) [] h = absurd h
  flags_more (f ∷ fs) (s ∷ ss) h = (flag_more f s h.0, flags_more fs ss h.1)

-- ---- flags of fewer messages, and of more

module _ (at : ℕ) (part : List MailEntryValue) (a : ℕ) where
  flags_rest : (fs : List Bool) (ss : List (Option ℕ)) → AreFlags at part a fs ss → AreFlags at part a (rest_of fs) (rest_of ss)
  flags_rest [] [] h = tt
  flags_rest [] (s ∷ ss) h = absurd h
  flags_rest (f ∷ fs) [] h = absurd h
  flags_rest (f ∷ fs) (s ∷ ss) h = h.1

  flags_without : (i : ℕ) (fs : List Bool) (ss : List (Option ℕ)) → AreFlags at part a fs ss → AreFlags at part a (without i fs) (without i ss)
  flags_without i [] [] h = tt
  flags_without i [] (s ∷ ss) h = absurd h
  flags_without i (f ∷ fs) [] h = absurd h
  flags_without zero (f ∷ fs) (s ∷ ss) h = h.1
  flags_without (suc i) (f ∷ fs) (s ∷ ss) h = (h.0, flags_without i fs ss h.1)

  flags_snoc : (fs : List Bool) (ss : List (Option ℕ)) (f : Bool) (s : Option ℕ) → AreFlags at part a fs ss → IsFlag at part a f s → AreFlags at part a (fs ++ f ∷ []) (ss ++ s ∷ [])
  flags_snoc [] [] f s h k = (k, tt)
  flags_snoc [] (t ∷ ss) f s h k = absurd h
  flags_snoc (g ∷ fs) [] f s h k = absurd h
  flags_snoc (g ∷ fs) (t ∷ ss) f s h k = (h.0, flags_snoc fs ss f s h.1 k)

  pub flags_many : (fs : List Bool) (ss : List (Option ℕ)) → AreFlags at part a fs ss → length fs ≡ length ss
  flags_many [] [] h = refl
  flags_many [] (s ∷ ss) h = absurd h
  flags_many (f ∷ fs) [] h = absurd h
  flags_many (f ∷ fs) (s ∷ ss) h = ap suc (flags_many fs ss h.1)

  flags_pushed : (fs : List Bool) (ss : List (Option ℕ)) (f : Bool) (s : Option ℕ) → AreFlags at part a fs ss → IsFlag at part a f s → AreFlags at part a (pushed fs f) (pushed ss s)
  flags_pushed fs ss f s h k =
      subst (λ n. AreFlags at part a (pushed fs f) ((if nat_le MOST_IN_TRANSIT n then rest_of ss else ss) ++ s ∷ [])) (flags_many fs ss h)
      (by_test (nat_le MOST_IN_TRANSIT (length fs)))
    where
      by_test : (b : Bool) → AreFlags at part a ((if b then rest_of fs else fs) ++ f ∷ []) ((if b then rest_of ss else ss) ++ s ∷ [])
      by_test true = flags_snoc (rest_of fs) (rest_of ss) f s (flags_rest fs ss h) k
      by_test false = flags_snoc fs ss f s h k

  flags_before : (ss : List (Option ℕ)) → ((j : ℕ) → Posted j ss → j < at) → AreFlags at part a (map (λ s. false) ss) ss
  flags_before [] h = tt
  flags_before (None ∷ ss) h = (refl, flags_before ss (λ j k. h j k))
  flags_before (Some i ∷ ss) h = (inl (h i (inl refl), refl), flags_before ss (λ j k. h j (inr k)))

-- no message in transit is from a later position
abbrev pub AreEarlier : ℕ → Posts → Type 0
AreEarlier at p = (a b j : ℕ) → Posted j (p a b) → j < at

-- ---- the flags of all pairs along a part

module _ (N : Network) (at : ℕ) (p : Posts) where
  abbrev pub seen : List MailEntryValue → Seen
  seen part = noted_all N (fresh p) part

  abbrev pub posts : List MailEntryValue → Posts
  posts part = posts_along N at p part

  abbrev pub AllFlags : List MailEntryValue → Type 0
  AllFlags part = (a b : ℕ) → AreFlags at part a ((seen part).own a b) (posts part a b)

  pub seen_more : (part : List MailEntryValue) (e : MailEntryValue) → seen (part ++ e ∷ []) ≡ noted N (seen part) e
  seen_more part e = noted_more N (fresh p) part (e ∷ [])

  posts_more : (part : List MailEntryValue) (e : MailEntryValue) → posts (part ++ e ∷ []) ≡ posts_after N (at + length part) (posts part) e
  posts_more part e = along_more N at p part (e ∷ [])

  -- the flags after one entry more
  module _ (part : List MailEntryValue) (h : AllFlags part) where
    abbrev Longer : MailEntryValue → Type 0
    Longer e = (a b : ℕ) → AreFlags at (part ++ e ∷ []) a ((noted N (seen part) e).own a b) (posts_after N (at + length part) (posts part) e a b)

    same : (e : MailEntryValue) (a b : ℕ) → AreFlags at (part ++ e ∷ []) a ((seen part).own a b) (posts part a b)
    same e a b = flags_more at part (e ∷ []) a ((seen part).own a b) (posts part a b) (h a b)

    end_flag : (d : ℕ) → IsFlag at (part ++ MailEnd d ∷ []) d ((seen part).flies d) (Some (at + length part))
    end_flag d = inr (record { front = part; back = []; cut = refl; place = refl; own = flies_seen N (fresh p) part d })

    one_longer : (e : MailEntryValue) → Longer e
    one_longer (MailBegin d) a b = same (MailBegin d) a b
    one_longer (MailEnd d) a b = by_test (nat_eq a d && reaches N a b) refl
      where
        by_test : (t : Bool) → (nat_eq a d && reaches N a b) ≡ t
            → AreFlags at (part ++ MailEnd d ∷ []) a (if t then pushed ((seen part).own a b) ((seen part).flies d) else (seen part).own a b) (if t then pushed (posts part a b) (Some (at + length part)) else posts part a b)
        by_test true q =
            let e : a ≡ d = eqb-true a d (both_true (nat_eq a d) (reaches N a b) q).0 in
            flags_pushed at (part ++ MailEnd d ∷ []) a ((seen part).own a b) (posts part a b) ((seen part).flies d) (Some (at + length part)) (same (MailEnd d) a b)
            (subst (λ x. IsFlag at (part ++ MailEnd d ∷ []) x ((seen part).flies d) (Some (at + length part))) (sym e) (end_flag d))
        by_test false q = same (MailEnd d) a b
    one_longer MailIdle a b = same MailIdle a b
    one_longer (MailDeliver c d) a b = by_test (nat_eq a c && nat_eq b d) refl
      where
        by_test : (t : Bool) → (nat_eq a c && nat_eq b d) ≡ t
            → AreFlags at (part ++ MailDeliver c d ∷ []) a (if t then rest_of ((seen part).own c d) else (seen part).own a b) (if t then rest_of (posts part c d) else posts part a b)
        by_test true q =
            let e : a ≡ c = eqb-true a c (both_true (nat_eq a c) (nat_eq b d) q).0 in
            subst (λ x. AreFlags at (part ++ MailDeliver c d ∷ []) x (rest_of ((seen part).own c d)) (rest_of (posts part c d))) (sym e)
            (flags_rest at (part ++ MailDeliver c d ∷ []) c ((seen part).own c d) (posts part c d) (same (MailDeliver c d) c d))
        by_test false q = same (MailDeliver c d) a b
    one_longer (MailAgain c d) a b = same (MailAgain c d) a b
    one_longer (MailLose c d i) a b = by_test (nat_eq a c && nat_eq b d) refl
      where
        by_test : (t : Bool) → (nat_eq a c && nat_eq b d) ≡ t
            → AreFlags at (part ++ MailLose c d i ∷ []) a (if t then without i ((seen part).own c d) else (seen part).own a b) (if t then without i (posts part c d) else posts part a b)
        by_test true q =
            let e : a ≡ c = eqb-true a c (both_true (nat_eq a c) (nat_eq b d) q).0 in
            subst (λ x. AreFlags at (part ++ MailLose c d i ∷ []) x (without i ((seen part).own c d)) (without i (posts part c d))) (sym e)
            (flags_without at (part ++ MailLose c d i ∷ []) c i ((seen part).own c d) (posts part c d) (same (MailLose c d i) c d))
        by_test false q = same (MailLose c d i) a b

    flags_longer : (e : MailEntryValue) → AllFlags (part ++ e ∷ [])
    flags_longer e a b =
        let s = seen_more part e in
        let q = posts_more part e in
        subst (λ (r : Posts). AreFlags at (part ++ e ∷ []) a ((seen (part ++ e ∷ [])).own a b) (r a b)) (sym q)
        (subst (λ (r : Seen). AreFlags at (part ++ e ∷ []) a (r.own a b) (posts_after N (at + length part) (posts part) e a b)) (sym s) (one_longer e a b))

  flags_on : (part rest : List MailEntryValue) → AllFlags part → AllFlags (part ++ rest)
  flags_on part [] h = subst AllFlags (sym (append-nil part)) h
  flags_on part (e ∷ rest) h = subst AllFlags (append_assoc part (e ∷ []) rest) (flags_on (part ++ e ∷ []) rest (flags_longer part h e))

  pub all_flags : AreEarlier at p → (part : List MailEntryValue) → AllFlags part
  all_flags early part = flags_on [] part (λ a b. flags_before at [] a (p a b) (early a b))

-- ---- the oldest message

-- a flag that is set is that of a message of a firing of the part
pub flag_own : (at : ℕ) (part : List MailEntryValue) (a : ℕ) (fs : List Bool) (ss : List (Option ℕ)) → AreFlags at part a fs ss → oldest_own fs ≡ true
    → (i : ℕ) × (oldest_post ss ≡ Some (at + i)) × EndsOwnBegin a part i
flag_own at part a [] ss h q = absurd cc
flag_own at part a (f ∷ fs) [] h q = absurd h
flag_own at part a (f ∷ fs) (None ∷ ss) h q = let k = h.0 in absurd cc
flag_own at part a (f ∷ fs) (Some j ∷ ss) h q = ⊎_elim (λ k. let z = k.1 in absurd cc) (λ k. by_sent k (is_up a k.front (sym k.own ∙ q))) h.0
  where
    by_sent : (k : SentIn at part a j f) → IsUp a k.front → (i : ℕ) × (Some j ≡ Some (at + i)) × EndsOwnBegin a part i
    by_sent k u = (
      length k.front,
      ap (λ n. Some n) k.place,
      record {
        before = u.before;
        between = u.between;
        after = k.back;
        cut = k.cut ∙ ap (λ xs. xs ++ MailEnd a ∷ k.back) u.cut ∙ append_assoc u.before (MailBegin a ∷ u.between) (MailEnd a ∷ k.back);
        flies = u.flies;
        is = ap length u.cut;
      },
    )

-- the flag of a message of a firing of the part is set
pub own_flag : (at : ℕ) (part more : List MailEntryValue) (a i : ℕ) (fs : List Bool) (ss : List (Option ℕ)) → AreFlags at part a fs ss → oldest_post ss ≡ Some (at + i) → EndsOwnBegin a (part ++ more) i → oldest_own fs ≡ true
own_flag at part more a i [] [] h q o = absurd cc
own_flag at part more a i [] (s ∷ ss) h q o = absurd h
own_flag at part more a i (f ∷ fs) [] h q o = absurd h
own_flag at part more a i (f ∷ fs) (None ∷ ss) h q o = absurd cc
own_flag at part more a i (f ∷ fs) (Some j ∷ ss) h q o = ⊎_elim (λ k. let z = k.0 in let y : j ≡ at + i = cc in absurd (omega arith)) by_sent h.0
  where
    by_sent : SentIn at part a j f → f ≡ true
    by_sent k =
        let y : j ≡ at + i = cc in
        let z = k.place in
        let here : i ≡ length k.front = omega arith in
        let cut : part ++ more ≡ k.front ++ (MailEnd a ∷ k.back ++ more) = ap (λ xs. xs ++ more) k.cut ∙ append_assoc k.front (MailEnd a ∷ k.back) more in
        let taken : take i (part ++ more) ≡ k.front = ap (λ n. take n (part ++ more)) here ∙ ap (take (length k.front)) cut ∙ take-append_seam k.front (MailEnd a ∷ k.back ++ more) in
        k.own ∙ ap (flies_along a false) (sym taken) ∙ own_flies a (part ++ more) i o
