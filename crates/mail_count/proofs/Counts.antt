-- Counting the rounds of a mail log one entry after another.
use Rattle.std.proofs.Common.{◌≡◌, ◌⊎◌, ◌<◌, ◌≤◌, ◌+◌, ◌-◌, ℕ, zero, suc, Bool, true, false, List, [], ◌∷◌, ◌++◌, length, map, refl, sym, ◌∙◌, ap, subst, arith, inl, inr, append_assoc, append-nil, length-append, add-zero, zero-add, leb, leb-true, leb-false}
use Rattle.std.proofs.Math.Path.{fun_ext}
use mathlib.Core.Logic.{⊎_elim}
use Rattle.topology.specs.Networks.{Network, Lives}
use Rattle.std.specs.Prelude.{nat_le, nat_eq, ◌&&◌, if◌then◌else◌, Option, Some, None}
use Rattle.message_links.specs.MailCores.{MailEntryValue, MailBegin, MailEnd, MailIdle, MailDeliver, MailAgain, MailLose, reaches, rest_of, without, pushed}
use Rattle.message_links.specs.declared.entries.TheConstants.{MOST_IN_TRANSIT}
use Rattle.message_links.specs.MailRounds.{Posts, posts_after, posts_along, oldest_post, HasMailFiring, EndsOwnBegin, Brings, CoversMail, HasMailRounds}
use Rattle.mail_count.specs.declared.marks.Marks.{Marks}
use Rattle.mail_count.specs.Marks.{Tells}
use Rattle.mail_count.specs.Seen.{Seen, fresh, cleared, unseen, IsWhole}
use Rattle.mail_count.proofs.Flights.{noted_more}
use Rattle.message_links.proofs.Along.{along_more}
use Rattle.mail_count.proofs.OwnPosts.{seen, posts, AreEarlier, Posted, all_flags, flags_many}
use Rattle.mail_count.proofs.Covers.{whole_on, covers_whole, whole_covers}

-- ---- entries in front of rounds take none away

firing_after : (d : ℕ) (xs ys : List MailEntryValue) → HasMailFiring d ys → HasMailFiring d (xs ++ ys)
firing_after d [] ys h = h
firing_after d (x ∷ xs) ys h = inr (firing_after d xs ys h)

module _ (N : Network) (at : ℕ) (p : Posts) (front : List MailEntryValue) where
  own_after : (a i : ℕ) (part : List MailEntryValue) → EndsOwnBegin a part i → EndsOwnBegin a (front ++ part) (length front + i)
  own_after a i part o =
      let q = o.is in
      let r = length-append front (o.before ++ MailBegin a ∷ o.between) in
      let same : (front ++ o.before) ++ MailBegin a ∷ o.between ≡ front ++ (o.before ++ MailBegin a ∷ o.between) = append_assoc front o.before (MailBegin a ∷ o.between) in
      let long : length ((front ++ o.before) ++ MailBegin a ∷ o.between) ≡ length (front ++ (o.before ++ MailBegin a ∷ o.between)) = ap length same in
      record {
        before = front ++ o.before;
        between = o.between;
        after = o.after;
        cut = ap (λ xs. front ++ xs) o.cut ∙ sym (append_assoc front o.before (MailBegin a ∷ (o.between ++ MailEnd a ∷ o.after)));
        flies = o.flies;
        is = omega arith;
      }

  covers_after : (part : List MailEntryValue) → CoversMail N (at + length front) (posts_along N at p front) part → CoversMail N at p (front ++ part)
  covers_after part v = record {
    first = front ++ v.first;
    second = v.second;
    cut = ap (λ xs. front ++ xs) v.cut ∙ sym (append_assoc front v.first v.second);
    fires = λ d l. firing_after d front v.first (v.fires d l);
    brings = λ a b l. brought a b (v.brings a b l);
  }
    where
      brought : (a b : ℕ) → Brings N (at + length front) (posts_along N at p front) v.first v.second a b → Brings N at p (front ++ v.first) v.second a b
      brought a b w = record {
        before = w.before;
        entry = w.entry;
        after = w.after;
        cut = w.cut;
        hears = w.hears;
        index = length front + w.index;
        sent =
            ap (λ xs. oldest_post (posts_along N at p xs a b)) (append_assoc front v.first w.before)
            ∙ ap (λ (r : Posts). oldest_post (r a b)) (along_more N at p front (v.first ++ w.before))
            ∙ w.sent
            ∙ ap (λ n. Some n) (let q : at + length front + w.index ≡ at + (length front + w.index) = omega arith in q);
        own = subst (λ xs. EndsOwnBegin a xs (length front + w.index)) (sym (append_assoc front v.first v.second)) (own_after a w.index (v.first ++ v.second) w.own);
      }

  pub rounds_after : (log : List MailEntryValue) (k : ℕ) → HasMailRounds N (at + length front) (posts_along N at p front) log k → HasMailRounds N at p (front ++ log) k
  rounds_after log zero h = tt
  rounds_after log (suc k) h =
      let long = length-append front h.0 in
      let place : at + length front + length h.0 ≡ at + length (front ++ h.0) = omega arith in (
        front ++ h.0,
        h.1,
        ap (λ xs. front ++ xs) h.2 ∙ sym (append_assoc front h.0 h.1),
        covers_after h.0 h.3,
        subst (λ i. HasMailRounds N i (posts_along N at p (front ++ h.0)) h.1 k) place
            (subst (λ (r : Posts). HasMailRounds N (at + length front + length h.0) r h.1 k) (sym (along_more N at p front h.0)) h.4),
      )

-- ---- a log that is cut twice

abbrev Cuts : List MailEntryValue → MailEntryValue → List MailEntryValue → List MailEntryValue → List MailEntryValue → Type 0
Cuts part e rest q r =
    ((ws : List MailEntryValue) × (part ≡ q ++ ws)) ⊎ ((ws : List MailEntryValue) × (q ≡ part ++ e ∷ ws) × (rest ≡ ws ++ r))

cuts : (part : List MailEntryValue) (e : MailEntryValue) (rest q r : List MailEntryValue) → part ++ e ∷ rest ≡ q ++ r → Cuts part e rest q r
cuts [] e rest [] r h = inl ([], refl)
cuts [] e rest (x ∷ q) r h =
    let head : x ≡ e = cc in
    let tail : rest ≡ q ++ r = cc in
    inr (q, ap (λ y. y ∷ q) head, tail)
cuts (y ∷ part) e rest [] r h = inl (y ∷ part, refl)
cuts (y ∷ part) e rest (x ∷ q) r h =
    let head : x ≡ y = cc in
    let tail : part ++ e ∷ rest ≡ q ++ r = cc in
    ⊎_elim
    (λ k. inl (k.0, ap (λ z. z ∷ part) (sym head) ∙ ap (λ ys. x ∷ ys) k.1))
    (λ k. inr (k.0, ap (λ z. z ∷ q) head ∙ ap (λ ys. y ∷ ys) k.1, k.2))
    (cuts part e rest q r tail)

-- ---- counting

-- A log, from a position on, has so many rounds and more exactly where what follows these rounds has these more. Behind
-- them a part was read, which doesn't cover.
pub record Counted (N : Network) (p : Posts) (log : List MailEntryValue) (count : ℕ) (front part rest : List MailEntryValue) : Type 0 where
  pub down : (k : ℕ) → HasMailRounds N 0 p log (count + k) → HasMailRounds N (length front) (posts_along N 0 p front) (part ++ rest) k
  pub up : (k : ℕ) → HasMailRounds N (length front) (posts_along N 0 p front) (part ++ rest) k → HasMailRounds N 0 p log (count + k)
  pub early : AreEarlier (length front) (posts_along N 0 p front)
  pub short : IsWhole N (seen N (length front) (posts_along N 0 p front) part) → ⊥

-- nothing is whole yet where there is a device
pub fresh_short : (N : Network) (p : Posts) (d : ℕ) → Lives N d → IsWhole N (fresh p) → ⊥
fresh_short N p d l w = let k : false ≡ true = w.fired d l in absurd cc

module _ (N : Network) (p : Posts) (log : List MailEntryValue) where
  pub counted_first : (d : ℕ) → Lives N d → AreEarlier 0 p → Counted N p log 0 [] [] log
  counted_first d l early = record {
    down = λ k h. subst (λ n. HasMailRounds N 0 p log n) (zero-add k) h;
    up = λ k h. subst (λ n. HasMailRounds N 0 p log n) (sym (zero-add k)) h;
    early = early;
    short = fresh_short N p d l;
  }

  -- one entry more
  pub counted_more : (count : ℕ) (front part rest : List MailEntryValue) (e : MailEntryValue) → Counted N p log count front part (e ∷ rest)
      → (IsWhole N (seen N (length front) (posts_along N 0 p front) (part ++ e ∷ [])) → ⊥) → Counted N p log count front (part ++ e ∷ []) rest
  counted_more count front part rest e c short =
      let q : (part ++ e ∷ []) ++ rest ≡ part ++ e ∷ rest = append_assoc part (e ∷ []) rest in
      record {
        down = λ k h. subst (λ es. HasMailRounds N (length front) (posts_along N 0 p front) es k) (sym q) (c.down k h);
        up = λ k h. c.up k (subst (λ es. HasMailRounds N (length front) (posts_along N 0 p front) es k) q h);
        early = c.early;
        short = short;
      }

  -- a round more
  module _ (count : ℕ) (front part rest : List MailEntryValue) (e : MailEntryValue) (c : Counted N p log count front part (e ∷ rest)) where
    abbrev at : ℕ
    at = length front

    abbrev now : Posts
    now = posts_along N 0 p front

    abbrev round : List MailEntryValue
    round = part ++ e ∷ []

    place : length (front ++ round) ≡ at + length round
    place = length-append front round

    later : posts_along N 0 p (front ++ round) ≡ posts_along N at now round
    later = along_more N 0 p front round ∙ ap (λ i. posts_along N i now round) (zero-add at)

    moved : (es : List MailEntryValue) (k : ℕ) → HasMailRounds N (at + length round) (posts_along N at now round) es k → HasMailRounds N (length (front ++ round)) (posts_along N 0 p (front ++ round)) es k
    moved es k h = subst (λ (r : Posts). HasMailRounds N (length (front ++ round)) r es k) (sym later) (subst (λ i. HasMailRounds N i (posts_along N at now round) es k) (sym place) h)

    back : (es : List MailEntryValue) (k : ℕ) → HasMailRounds N (length (front ++ round)) (posts_along N 0 p (front ++ round)) es k → HasMailRounds N (at + length round) (posts_along N at now round) es k
    back es k h = subst (λ (r : Posts). HasMailRounds N (at + length round) r es k) later (subst (λ i. HasMailRounds N i (posts_along N 0 p (front ++ round)) es k) place h)

    -- rounds that are cut later are cut here too
    as_early : (k : ℕ) → HasMailRounds N at now (part ++ e ∷ rest) (suc k) → HasMailRounds N (at + length round) (posts_along N at now round) rest k
    as_early k h = ⊎_elim too_short longer (cuts part e rest h.0 h.1 h.2)
      where
        whole : IsWhole N (seen N at now h.0)
        whole = covers_whole N at now c.early h.0 h.3

        too_short : (ws : List MailEntryValue) × (part ≡ h.0 ++ ws) → HasMailRounds N (at + length round) (posts_along N at now round) rest k
        too_short w = absurd (c.short (subst (λ (s : Seen). IsWhole N s) (sym (ap (seen N at now) w.1 ∙ noted_more N (fresh now) h.0 w.0)) (whole_on N w.0 (seen N at now h.0) whole)))

        longer : (ws : List MailEntryValue) × (h.0 ≡ part ++ e ∷ ws) × (rest ≡ ws ++ h.1) → HasMailRounds N (at + length round) (posts_along N at now round) rest k
        longer w =
            let q : h.0 ≡ round ++ w.0 = w.1 ∙ sym (append_assoc part (e ∷ []) w.0) in
            let long : length h.0 ≡ length round + length w.0 = ap length q ∙ length-append round w.0 in
            let there : at + length h.0 ≡ at + length round + length w.0 = omega arith in
            let same : posts_along N at now h.0 ≡ posts_along N (at + length round) (posts_along N at now round) w.0 = ap (posts_along N at now) q ∙ along_more N at now round w.0 in
            subst (λ es. HasMailRounds N (at + length round) (posts_along N at now round) es k) (sym w.2)
            (rounds_after N (at + length round) (posts_along N at now round) w.0 h.1 k
            (subst (λ i. HasMailRounds N i (posts_along N (at + length round) (posts_along N at now round) w.0) h.1 k) there
            (subst (λ (r : Posts). HasMailRounds N (at + length h.0) r h.1 k) same h.4)))

    one_more : (k : ℕ) → count + 1 + k ≡ count + suc k
    one_more k = omega arith

    pub counted_round : (d : ℕ) → Lives N d → AreEarlier (length (front ++ round)) (posts_along N 0 p (front ++ round)) → IsWhole N (seen N at now round) → Counted N p log (count + 1) (front ++ round) [] rest
    counted_round d l early w = record {
      down = λ k h. moved rest k (as_early k (c.down (suc k) (subst (λ n. HasMailRounds N 0 p log n) (one_more k) h)));
      up = λ k h. subst (λ n. HasMailRounds N 0 p log n) (sym (one_more k)) (c.up (suc k) (
        round,
        rest,
        sym (append_assoc part (e ∷ []) rest),
        whole_covers N at now c.early round w,
        back rest k h,
      ));
      early = early;
      short = fresh_short N (posts_along N 0 p (front ++ round)) d l;
    }

  -- ---- the whole log is read

  pub counted_has : (count : ℕ) (front part : List MailEntryValue) → Counted N p log count front part [] → HasMailRounds N 0 p log count
  counted_has count front part c = subst (λ n. HasMailRounds N 0 p log n) (add-zero count) (c.up 0 tt)

  pub counted_all : (count : ℕ) (front part : List MailEntryValue) → Counted N p log count front part [] → (k : ℕ) → HasMailRounds N 0 p log k → k ≤ count
  counted_all count front part c k h = by_order (leb k count) refl
    where
      none_left : (j : ℕ) → HasMailRounds N (length front) (posts_along N 0 p front) (part ++ []) (suc j) → ⊥
      none_left j r =
          let whole = covers_whole N (length front) (posts_along N 0 p front) c.early r.0 r.3 in
          let q : part ≡ r.0 ++ r.1 = sym (append-nil part) ∙ r.2 in
          c.short (subst (λ (s : Seen). IsWhole N s)
          (sym (ap (seen N (length front) (posts_along N 0 p front)) q ∙ noted_more N (fresh (posts_along N 0 p front)) r.0 r.1))
          (whole_on N r.1 (seen N (length front) (posts_along N 0 p front) r.0) whole))

      by_order : (b : Bool) → leb k count ≡ b → k ≤ count
      by_order true q = leb-true k count q
      by_order false q =
          let over = leb-false k count q in
          let is : k ≡ count + suc (k - count - 1) = omega arith in
          absurd (none_left (k - count - 1) (c.down (suc (k - count - 1)) (subst (λ n. HasMailRounds N 0 p log n) is h)))

-- ---- posts are from earlier positions, along a log

posted_rest : (j : ℕ) (ss : List (Option ℕ)) → Posted j (rest_of ss) → Posted j ss
posted_rest j [] h = h
posted_rest j (None ∷ ss) h = h
posted_rest j (Some i ∷ ss) h = inr h

posted_without : (j i : ℕ) (ss : List (Option ℕ)) → Posted j (without i ss) → Posted j ss
posted_without j i [] h = h
posted_without j zero (None ∷ ss) h = h
posted_without j zero (Some k ∷ ss) h = inr h
posted_without j (suc i) (None ∷ ss) h = posted_without j i ss h
posted_without j (suc i) (Some k ∷ ss) h = ⊎_elim (λ q. inl q) (λ q. inr (posted_without j i ss q)) h

posted_snoc : (j k : ℕ) (ss : List (Option ℕ)) → Posted j (ss ++ Some k ∷ []) → Posted j ss ⊎ (k ≡ j)
posted_snoc j k [] h = ⊎_elim (λ q. inr q) (λ q. absurd q) h
posted_snoc j k (None ∷ ss) h = posted_snoc j k ss h
posted_snoc j k (Some i ∷ ss) h = ⊎_elim (λ q. inl (inl q)) (λ q. ⊎_elim (λ r. inl (inr r)) (λ r. inr r) (posted_snoc j k ss q)) h

early_one : (N : Network) (at : ℕ) (p : Posts) (e : MailEntryValue) → AreEarlier at p → AreEarlier (suc at) (posts_after N at p e)
early_one N at p (MailBegin d) h a b j k = let r = h a b j k in omega arith
early_one N at p (MailEnd d) h a b j k = by_test (nat_eq a d && reaches N a b) k
  where
    by_full : (t : Bool) → Posted j ((if t then rest_of (p a b) else p a b) ++ Some at ∷ []) → j < suc at
    by_full true k = ⊎_elim (λ q. let r = h a b j (posted_rest j (p a b) q) in omega arith) (λ q. omega arith) (posted_snoc j at (rest_of (p a b)) k)
    by_full false k = ⊎_elim (λ q. let r = h a b j q in omega arith) (λ q. omega arith) (posted_snoc j at (p a b) k)

    by_test : (t : Bool) → Posted j (if t then pushed (p a b) (Some at) else p a b) → j < suc at
    by_test true k = by_full (nat_le MOST_IN_TRANSIT (length (p a b))) k
    by_test false k = let r = h a b j k in omega arith
early_one N at p MailIdle h a b j k = let r = h a b j k in omega arith
early_one N at p (MailDeliver c d) h a b j k = by_test (nat_eq a c && nat_eq b d) k
  where
    by_test : (t : Bool) → Posted j (if t then rest_of (p c d) else p a b) → j < suc at
    by_test true k = let r = h c d j (posted_rest j (p c d) k) in omega arith
    by_test false k = let r = h a b j k in omega arith
early_one N at p (MailAgain c d) h a b j k = let r = h a b j k in omega arith
early_one N at p (MailLose c d i) h a b j k = by_test (nat_eq a c && nat_eq b d) k
  where
    by_test : (t : Bool) → Posted j (if t then without i (p c d) else p a b) → j < suc at
    by_test true k = let r = h c d j (posted_without j i (p c d) k) in omega arith
    by_test false k = let r = h a b j k in omega arith

pub early_along : (N : Network) (at : ℕ) (p : Posts) (es : List MailEntryValue) → AreEarlier at p → AreEarlier (at + length es) (posts_along N at p es)
early_along N at p [] h = let q : at ≡ at + 0 = omega arith in subst (λ i. AreEarlier i p) q h
early_along N at p (e ∷ es) h = let q : suc at + length es ≡ at + suc (length es) = omega arith in subst (λ i. AreEarlier i (posts_along N (suc at) (posts_after N at p e) es)) q (early_along N (suc at) (posts_after N at p e) es (early_one N at p e h))

-- ---- the begin of a round, in what was seen

falses : {X Y : Type 0} (xs : List X) (ys : List Y) → length xs ≡ length ys → map (λ x. false) xs ≡ map (λ y. false) ys
falses [] [] h = refl
falses [] (y ∷ ys) h = absurd (omega arith)
falses (x ∷ xs) [] h = absurd (omega arith)
falses (x ∷ xs) (y ∷ ys) h = ap (λ zs. false ∷ zs) (falses xs ys (omega arith))

pub cleared_fresh : (N : Network) (at : ℕ) (p : Posts) (part : List MailEntryValue) → AreEarlier at p → cleared (seen N at p part) ≡ fresh (posts_along N at p part)
cleared_fresh N at p part early =
    ap unseen (fun_ext (λ a. fun_ext (λ b. falses ((seen N at p part).own a b) (posts N at p part a b)
    (flags_many at part a ((seen N at p part).own a b) (posts N at p part a b) (all_flags N at p early part a b)))))

-- ---- what marks tell of the round that is begun

pub record CountedSoFar (N : Network) (p : Posts) (log : List MailEntryValue) (count : ℕ) (rest : List MailEntryValue) (m : Marks) : Type 0 where
  pub front : List MailEntryValue
  pub part : List MailEntryValue
  pub counted : Counted N p log count front part rest
  pub tells : Tells N m (seen N (length front) (posts_along N 0 p front) part)
