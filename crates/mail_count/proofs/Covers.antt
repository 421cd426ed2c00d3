-- A part of a mail log covers exactly where each device fired and then each ordered pair brought a message of the part.
use Rattle.std.proofs.Common.{◌≡◌, ◌⊎◌, ℕ, ◌+◌, List, [], ◌∷◌, ◌++◌, map, refl, sym, ◌∙◌, ap, subst, arith, Bool, true, false, ◌&&◌, ◌||◌, if◌then◌else◌, nat_eq, inl, inr, append_assoc, append-nil}
use Rattle.std.proofs.lemmas.Bool.{eqb-true, eq-eqb}
use mathlib.Core.Logic.{⊎_elim}
use Rattle.fc_values.specs.Fields.{is_in}
use Rattle.fc_values.proofs.Booleans.{or_true}
use Rattle.topology.specs.Networks.{Network, Lives, numbers}
use Rattle.message_links.specs.MailCores.{MailEntryValue, MailBegin, MailEnd, MailIdle, MailDeliver, MailAgain, MailLose, Reaches}
use Rattle.message_links.specs.MailRounds.{Posts, posts_along, HasMailFiring, EndsOwnBegin, oldest_post, Brings, CoversMail}
use Rattle.message_links.proofs.Firings.{has_fired}
use Rattle.mail_count.specs.Seen.{Seen, missing, ready, fresh, oldest_own, noted, noted_all, IsWhole}
use Rattle.mail_count.proofs.Flights.{noted_more, fired_seen, fires_in}
use Rattle.mail_count.proofs.OwnPosts.{seen, posts, seen_more, AreEarlier, all_flags, flag_own, own_flag}

-- ---- each is true where none is missing

pub each_true : (f : ℕ → Bool) (ds : List ℕ) → missing (map f ds) ≡ 0 → (d : ℕ) → is_in d ds ≡ true → f d ≡ true
each_true f [] h d i = absurd cc
each_true f (x ∷ ds) h d i = by_test (f x) refl h (λ k. each_true f ds k d)
  where
    by_place : (t : Bool) → nat_eq d x ≡ t → f x ≡ true → (t || is_in d ds) ≡ true → (is_in d ds ≡ true → f d ≡ true) → f d ≡ true
    by_place true q here i ih = ap f (eqb-true d x q) ∙ here
    by_place false q here i ih = ih i

    by_test : (t : Bool) → f x ≡ t → (if t then 0 else 1) + missing (map f ds) ≡ 0 → (missing (map f ds) ≡ 0 → is_in d ds ≡ true → f d ≡ true) → f d ≡ true
    by_test true q k ih = by_place (nat_eq d x) refl q i (ih (omega arith))
    by_test false q k ih = absurd (omega arith)

pub none_missing : (f : ℕ → Bool) (ds : List ℕ) → ((d : ℕ) → is_in d ds ≡ true → f d ≡ true) → missing (map f ds) ≡ 0
none_missing f [] h = refl
none_missing f (x ∷ ds) h =
    let k : nat_eq x x ≡ true = eq-eqb x x refl in
    let here : f x ≡ true = h x (rw k refl) in
    let later = none_missing f ds (λ d i. h d (or_true (nat_eq d x) (is_in d ds) i)) in
    rw (here, later) refl

pub ready_fired : (N : Network) (s : Seen) → ready N s ≡ true → (d : ℕ) → Lives N d → s.fired d ≡ true
ready_fired N s h d l = each_true s.fired (numbers N.devices) (eqb-true (missing (map s.fired (numbers N.devices))) 0 h) d l

pub fired_ready : (N : Network) (s : Seen) → ((d : ℕ) → Lives N d → s.fired d ≡ true) → ready N s ≡ true
fired_ready N s h = eq-eqb (missing (map s.fired (numbers N.devices))) 0 (none_missing s.fired (numbers N.devices) h)

-- ---- what was seen stays seen

module _ (N : Network) where
  fired_stays : (s : Seen) (e : MailEntryValue) (d : ℕ) → s.fired d ≡ true → (noted N s e).fired d ≡ true
  fired_stays s (MailBegin x) d h = h
  fired_stays s (MailEnd x) d h = by_test (nat_eq x d)
    where
      by_test : (t : Bool) → (if t then s.flies d || s.fired d else s.fired d) ≡ true
      by_test true = or_true (s.flies d) (s.fired d) h
      by_test false = h
  fired_stays s MailIdle d h = h
  fired_stays s (MailDeliver x y) d h = h
  fired_stays s (MailAgain x y) d h = h
  fired_stays s (MailLose x y i) d h = h

  or_first : (p q : Bool) → p ≡ true → (p || q) ≡ true
  or_first p q h = rw h refl

  hears_stays : (s : Seen) (x y a b : ℕ) (u : Bool) → s.brought a b ≡ true → (if nat_eq a x && nat_eq b y then s.brought x y || u else s.brought a b) ≡ true
  hears_stays s x y a b u h = by_tests (nat_eq a x) (nat_eq b y) refl refl
    where
      by_tests : (p q : Bool) → nat_eq a x ≡ p → nat_eq b y ≡ q → (if p && q then s.brought x y || u else s.brought a b) ≡ true
      by_tests true true p q = or_first (s.brought x y) u (ap (λ z. s.brought z y) (sym (eqb-true a x p)) ∙ ap (s.brought a) (sym (eqb-true b y q)) ∙ h)
      by_tests true false p q = h
      by_tests false q p r = h

  brought_stays : (s : Seen) (e : MailEntryValue) (a b : ℕ) → s.brought a b ≡ true → (noted N s e).brought a b ≡ true
  brought_stays s (MailBegin x) a b h = h
  brought_stays s (MailEnd x) a b h = h
  brought_stays s MailIdle a b h = h
  brought_stays s (MailDeliver x y) a b h = hears_stays s x y a b (ready N s && oldest_own (s.own x y)) h
  brought_stays s (MailAgain x y) a b h = hears_stays s x y a b (ready N s && oldest_own (s.own x y)) h
  brought_stays s (MailLose x y i) a b h = h

  fired_on : (es : List MailEntryValue) (s : Seen) (d : ℕ) → s.fired d ≡ true → (noted_all N s es).fired d ≡ true
  fired_on [] s d h = h
  fired_on (e ∷ es) s d h = fired_on es (noted N s e) d (fired_stays s e d h)

  brought_on : (es : List MailEntryValue) (s : Seen) (a b : ℕ) → s.brought a b ≡ true → (noted_all N s es).brought a b ≡ true
  brought_on [] s a b h = h
  brought_on (e ∷ es) s a b h = brought_on es (noted N s e) a b (brought_stays s e a b h)

  pub whole_on : (es : List MailEntryValue) (s : Seen) → IsWhole N s → IsWhole N (noted_all N s es)
  whole_on es s w = record { fired = λ d l. fired_on es s d (w.fired d l); brought = λ a b l. brought_on es s a b (w.brought a b l) }

  -- the oldest message is heard
  abbrev Hears : ℕ → ℕ → MailEntryValue → Type 0
  Hears a b e = (e ≡ MailDeliver a b) ⊎ (e ≡ MailAgain a b)

  hears_here : (s : Seen) (e : MailEntryValue) (a b : ℕ) → Hears a b e → ready N s ≡ true → oldest_own (s.own a b) ≡ true → (noted N s e).brought a b ≡ true
  hears_here s e a b h r o = ⊎_elim (λ q. rw q here) (λ q. rw q here) h
    where
      here : (if nat_eq a a && nat_eq b b then s.brought a b || (ready N s && oldest_own (s.own a b)) else s.brought a b) ≡ true
      here = let k : nat_eq a a ≡ true = eq-eqb a a refl in let l : nat_eq b b ≡ true = eq-eqb b b refl in rw (k, l, r, o) (or_true (s.brought a b) true refl)

  either : (p q r : Bool) → (p || (q && r)) ≡ true → (p ≡ true) ⊎ ((q ≡ true) × (r ≡ true))
  either true q r k = inl refl
  either false true true k = inr (refl, refl)
  either false true false k = absurd cc
  either false false r k = absurd cc

  abbrev New : Seen → ℕ → ℕ → MailEntryValue → Type 0
  New s a b e = (s.brought a b ≡ true) ⊎ (Hears a b e × (ready N s ≡ true) × (oldest_own (s.own a b) ≡ true))

  heard_new : (s : Seen) (e : MailEntryValue) (x y a b : ℕ) → Hears x y e → (if nat_eq a x && nat_eq b y then s.brought x y || (ready N s && oldest_own (s.own x y)) else s.brought a b) ≡ true → New s a b e
  heard_new s e x y a b hears h = by_tests (nat_eq a x) (nat_eq b y) refl refl h
    where
      by_tests : (p q : Bool) → nat_eq a x ≡ p → nat_eq b y ≡ q → (if p && q then s.brought x y || (ready N s && oldest_own (s.own x y)) else s.brought a b) ≡ true → New s a b e
      by_tests true true p q k =
          let u = eqb-true a x p in
          let v = eqb-true b y q in
          rw (u, v) (⊎_elim (λ z. inl z) (λ z. inr (hears, z.0, z.1)) (either (s.brought x y) (ready N s) (oldest_own (s.own x y)) k))
      by_tests true false p q k = inl k
      by_tests false q p r k = inl k

  -- what was brought anew
  brought_new : (s : Seen) (e : MailEntryValue) (a b : ℕ) → (noted N s e).brought a b ≡ true → New s a b e
  brought_new s (MailBegin x) a b h = inl h
  brought_new s (MailEnd x) a b h = inl h
  brought_new s MailIdle a b h = inl h
  brought_new s (MailDeliver x y) a b h = heard_new s (MailDeliver x y) x y a b (inl refl) h
  brought_new s (MailAgain x y) a b h = heard_new s (MailAgain x y) x y a b (inr refl) h
  brought_new s (MailLose x y i) a b h = inl h

-- ---- a part that covers

module _ (N : Network) (at : ℕ) (p : Posts) (early : AreEarlier at p) where
  abbrev after : List MailEntryValue → Seen
  after part = seen N at p part

  first_ready : (first : List MailEntryValue) → ((d : ℕ) → Lives N d → HasMailFiring d first) → ready N (after first) ≡ true
  first_ready first fires = fired_ready N (after first) (λ d l. fired_seen N (fresh p) first d ∙ has_fired d false false first (fires d l))

  pub covers_whole : (part : List MailEntryValue) → CoversMail N at p part → IsWhole N (after part)
  covers_whole part v = record { fired = fired; brought = brought }
    where
      fired : (d : ℕ) → Lives N d → (after part).fired d ≡ true
      fired d l =
          let q : after part ≡ noted_all N (after v.first) v.second = ap after v.cut ∙ noted_more N (fresh p) v.first v.second in
          ap (λ (s : Seen). s.fired d) q ∙ fired_on N v.second (after v.first) d (ready_fired N (after v.first) (first_ready v.first v.fires) d l)

      brought : (a b : ℕ) → Reaches N a b → (after part).brought a b ≡ true
      brought a b l =
          let w = v.brings a b l in
          let front : List MailEntryValue = v.first ++ w.before in
          let cut : part ≡ front ++ w.entry ∷ w.after = v.cut ∙ ap (λ xs. v.first ++ xs) w.cut ∙ sym (append_assoc v.first w.before (w.entry ∷ w.after)) in
          let q : after part ≡ noted_all N (noted N (after front) w.entry) w.after = ap after cut ∙ noted_more N (fresh p) front (w.entry ∷ w.after) in
          let r : ready N (after front) ≡ true = fired_ready N (after front) (λ d k.
          ap (λ (s : Seen). s.fired d) (noted_more N (fresh p) v.first w.before)
          ∙ fired_on N w.before (after v.first) d (ready_fired N (after v.first) (first_ready v.first v.fires) d k)) in
          let own : EndsOwnBegin a (front ++ w.entry ∷ w.after) w.index = subst (λ xs. EndsOwnBegin a xs w.index) (sym v.cut ∙ cut) w.own in
          let o = own_flag at front (w.entry ∷ w.after) a w.index ((after front).own a b) (posts N at p front a b) (all_flags N at p early front a b) w.sent own in
          ap (λ (s : Seen). s.brought a b) q ∙ brought_on N w.after (noted N (after front) w.entry) a b (hears_here N (after front) w.entry a b w.hears r o)

  -- ---- and a part that is whole

  -- each device has fired in the first entries, and what was brought was brought after them
  pub record Cut (part : List MailEntryValue) : Type 0 where
    pub first : List MailEntryValue
    pub second : List MailEntryValue
    pub cut : part ≡ first ++ second
    pub fires : (d : ℕ) → Lives N d → HasMailFiring d first
    pub brings : (a b : ℕ) → (after part).brought a b ≡ true → Brings N at p first second a b

  abbrev Split : List MailEntryValue → Type 0
  Split part = ((ready N (after part) ≡ false) × ((a b : ℕ) → (after part).brought a b ≡ true → ⊥)) ⊎ Cut part

  own_longer : (a i : ℕ) (part more : List MailEntryValue) → EndsOwnBegin a part i → EndsOwnBegin a (part ++ more) i
  own_longer a i part more o = record {
    before = o.before;
    between = o.between;
    after = o.after ++ more;
    cut = ap (λ xs. xs ++ more) o.cut ∙ append_assoc o.before (MailBegin a ∷ (o.between ++ MailEnd a ∷ o.after)) more
        ∙ ap (λ xs. o.before ++ MailBegin a ∷ xs) (append_assoc o.between (MailEnd a ∷ o.after) more);
    flies = o.flies;
    is = o.is;
  }

  brings_more : (first second : List MailEntryValue) (e : MailEntryValue) (a b : ℕ) → Brings N at p first second a b → Brings N at p first (second ++ e ∷ []) a b
  brings_more first second e a b w = record {
    before = w.before;
    entry = w.entry;
    after = w.after ++ e ∷ [];
    cut = ap (λ xs. xs ++ e ∷ []) w.cut ∙ append_assoc w.before (w.entry ∷ w.after) (e ∷ []);
    hears = w.hears;
    index = w.index;
    sent = w.sent;
    own = subst (λ xs. EndsOwnBegin a xs w.index) (append_assoc first second (e ∷ [])) (own_longer a w.index (first ++ second) (e ∷ []) w.own);
  }

  fires_all : (part : List MailEntryValue) → ready N (after part) ≡ true → (d : ℕ) → Lives N d → HasMailFiring d part
  fires_all part r d l = fires_in d part (sym (fired_seen N (fresh p) part d) ∙ ready_fired N (after part) r d l)

  -- one entry more
  module _ (part : List MailEntryValue) (e : MailEntryValue) where
    brought_before : (a b : ℕ) → (after (part ++ e ∷ [])).brought a b ≡ true
        → ((after part).brought a b ≡ true) ⊎ (Hears N a b e × (ready N (after part) ≡ true) × (oldest_own ((after part).own a b) ≡ true))
    brought_before a b h = brought_new N (after part) e a b (sym (ap (λ (s : Seen). s.brought a b) (seen_more N at p part e)) ∙ h)

    split_more : Split part → Split (part ++ e ∷ [])
    split_more (inl h) = by_test (ready N (after (part ++ e ∷ []))) refl
      where
        nothing : (a b : ℕ) → (after (part ++ e ∷ [])).brought a b ≡ true → ⊥
        nothing a b k = ⊎_elim (λ z. h.1 a b z) (λ z. let r = z.1 in let s = h.0 in absurd cc) (brought_before a b k)

        by_test : (t : Bool) → ready N (after (part ++ e ∷ [])) ≡ t → Split (part ++ e ∷ [])
        by_test true q = inr (record {
          first = part ++ e ∷ [];
          second = [];
          cut = sym (append-nil (part ++ e ∷ []));
          fires = fires_all (part ++ e ∷ []) q;
          brings = λ a b k. absurd (nothing a b k);
        })
        by_test false q = inl (q, nothing)
    split_more (inr c) = inr (record {
      first = c.first;
      second = c.second ++ e ∷ [];
      cut = ap (λ xs. xs ++ e ∷ []) c.cut ∙ append_assoc c.first c.second (e ∷ []);
      fires = c.fires;
      brings = λ a b k. ⊎_elim (λ z. brings_more c.first c.second e a b (c.brings a b z)) (λ z. anew a b z.0 z.2) (brought_before a b k);
    })
      where
        anew : (a b : ℕ) → Hears N a b e → oldest_own ((after part).own a b) ≡ true → Brings N at p c.first (c.second ++ e ∷ []) a b
        anew a b hears o =
            let f = flag_own at part a ((after part).own a b) (posts N at p part a b) (all_flags N at p early part a b) o in
            record {
              before = c.second;
              entry = e;
              after = [];
              cut = refl;
              hears = hears;
              index = f.0;
              sent = ap (λ xs. oldest_post (posts_along N at p xs a b)) (sym c.cut) ∙ f.1;
              own = subst (λ xs. EndsOwnBegin a xs f.0) (ap (λ xs. xs ++ e ∷ []) c.cut ∙ append_assoc c.first c.second (e ∷ [])) (own_longer a f.0 part (e ∷ []) f.2);
            }

  split_on : (part rest : List MailEntryValue) → Split part → Split (part ++ rest)
  split_on part [] h = subst Split (sym (append-nil part)) h
  split_on part (e ∷ rest) h = subst Split (append_assoc part (e ∷ []) rest) (split_on (part ++ e ∷ []) rest (split_more part e h))

  split_none : Split []
  split_none = by_test (ready N (after [])) refl
    where
      none : (a b : ℕ) → false ≡ true → ⊥
      none a b k = cc

      by_test : (t : Bool) → ready N (after []) ≡ t → Split []
      by_test true q = inr (record { first = []; second = []; cut = refl; fires = fires_all [] q; brings = λ a b k. absurd (none a b k) })
      by_test false q = inl (q, none)

  pub whole_covers : (part : List MailEntryValue) → IsWhole N (after part) → CoversMail N at p part
  whole_covers part w = by_case (split_on [] part split_none)
    where
      by_case : Split part → CoversMail N at p part
      by_case (inl h) = let r = fired_ready N (after part) w.fired in let z = h.0 in absurd cc
      by_case (inr c) = record { first = c.first; second = c.second; cut = c.cut; fires = c.fires; brings = λ a b l. c.brings a b (w.brought a b l) }
