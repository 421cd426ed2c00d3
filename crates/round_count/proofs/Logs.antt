-- Logs without edits, the part after the last edit, and entries in front of rounds.
use Rattle.std.proofs.Common.{◌≡◌, ◌<◌, ◌≤◌, ◌+◌, ℕ, zero, suc, Bool, true, false, ◌||◌, List, [], ◌∷◌, ◌++◌, length, get_or, take, drop, map, if◌then◌else◌, refl, sym, ap, ◌∙◌, subst, inl, inr, append_assoc, arith}
use Rattle.std.proofs.lemmas.List.{take_more, map-append, length-take-le, drop-append-le, drop_all, drop_more}
use Rattle.firing_core.specs.declared.entries.Entry.{Entry}
use Rattle.firing_core.specs.Entries.{EntryValue, entry_of}
use Rattle.firing_core.specs.Rounds.{is_edit, has_edit, after_edit, HasEnd, HasFiring, HasRounds}

pub both_false : (a b : Bool) → (a || b) ≡ false → (a ≡ false) × (b ≡ false)
both_false true b h = absurd (cc)
both_false false b h = (refl, h)

pub or_false : (a b : Bool) → a ≡ false → b ≡ false → (a || b) ≡ false
or_false a b h k = rw h k

pub plain_append : (xs ys : List EntryValue) → has_edit xs ≡ false → has_edit ys ≡ false → has_edit (xs ++ ys) ≡ false
plain_append [] ys h k = k
plain_append (x ∷ xs) ys h k =
    let b = both_false (is_edit x) (has_edit xs) h in
    or_false (is_edit x) (has_edit (xs ++ ys)) b.0 (plain_append xs ys b.1 k)

pub firing_after : (d : ℕ) (xs ys : List EntryValue) → HasFiring d ys → HasFiring d (xs ++ ys)
firing_after d [] ys h = h
firing_after d (x ∷ xs) ys h = inr (firing_after d xs ys h)

-- entries behind a firing
end_before : (d : ℕ) (xs ys : List EntryValue) → HasEnd d xs → HasEnd d (xs ++ ys)
end_before d [] ys h = absurd h
end_before d (x ∷ xs) ys (inl h) = inl h
end_before d (x ∷ xs) ys (inr h) = inr (end_before d xs ys h)

pub firing_before : (d : ℕ) (xs ys : List EntryValue) → HasFiring d xs → HasFiring d (xs ++ ys)
firing_before d [] ys h = absurd h
firing_before d (x ∷ xs) ys (inl h) = inl (h.0, end_before d xs ys h.1)
firing_before d (x ∷ xs) ys (inr h) = inr (firing_before d xs ys h)

-- entries in front lose no round, so a cut as early as can be is as good as any
pub rounds_after : (live : List ℕ) (k : ℕ) (front log : List EntryValue) → has_edit front ≡ false → HasRounds live log k → HasRounds live (front ++ log) k
rounds_after live zero front log p h = plain_append front log p h
rounds_after live (suc k) front log p h = (
  front ++ h.0,
  h.1,
  ap (λ (xs : List EntryValue). front ++ xs) h.2 ∙ sym (append_assoc front h.0 h.1),
  record {
    plain = plain_append front h.0 p h.3.plain;
    fires = λ d l. firing_after d front h.0 (h.3.fires d l);
  },
  h.4,
)

-- ---- after the last edit

-- by the tests of the definition
by_tests : (P : List EntryValue → Type 0) (a b : Bool) (xs ys zs : List EntryValue) → (a ≡ true → P xs) → (a ≡ false → P ys) → (a ≡ false → b ≡ false → P zs) → P (if a then xs else (if b then ys else zs))
by_tests P true b xs ys zs f g h = f refl
by_tests P false true xs ys zs f g h = g refl
by_tests P false false xs ys zs f g h = h refl refl

pub after_plain : (log : List EntryValue) → has_edit (after_edit log) ≡ false
after_plain [] = refl
after_plain (e ∷ es) = by_tests (λ l. has_edit l ≡ false) (has_edit es) (is_edit e) (after_edit es) es (e ∷ es) (λ _. after_plain es) (λ h. h) (λ h k. or_false (is_edit e) (has_edit es) k h)

edit_push : (xs : List EntryValue) (e : EntryValue) → has_edit (xs ++ e ∷ []) ≡ (has_edit xs || is_edit e)
edit_push [] e = or_none (is_edit e)
  where
    or_none : (b : Bool) → (b || false) ≡ b
    or_none true = refl
    or_none false = refl
edit_push (x ∷ xs) e = or_more (is_edit x) (has_edit (xs ++ e ∷ [])) (has_edit xs) (is_edit e) (edit_push xs e)
  where
    or_more : (a b c d : Bool) → b ≡ (c || d) → (a || b) ≡ ((a || c) || d)
    or_more true b c d h = refl
    or_more false b c d h = h

-- one entry more
after_push : (xs : List EntryValue) (e : EntryValue) → after_edit (xs ++ e ∷ []) ≡ (if is_edit e then [] else after_edit xs ++ e ∷ [])
after_push [] e = refl
after_push (x ∷ xs) e = rw (edit_push xs e) (push_by (has_edit xs) (is_edit x) (is_edit e) (after_push xs e))
  where
    push_by : (a b c : Bool) → after_edit (xs ++ e ∷ []) ≡ (if c then [] else after_edit xs ++ e ∷ []) → (if a || c then after_edit (xs ++ e ∷ []) else (if b then xs ++ e ∷ [] else x ∷ (xs ++ e ∷ []))) ≡ (if c then [] else (if a then after_edit xs else (if b then xs else x ∷ xs)) ++ e ∷ [])
    push_by true b true h = h
    push_by true b false h = h
    push_by false b true h = h
    push_by false true false h = refl
    push_by false false false h = refl

-- ---- reading a log on, where the part after the last edit begins at a place

abbrev pub Scanned : List Entry → ℕ → ℕ → Type 0
Scanned log i start = after_edit (map entry_of (take i log)) ≡ map entry_of (drop start (take i log))

pub scan_push : (log : List Entry) (i start : ℕ) (e : Entry) → i < length log → e ≡ get_or log i e → Scanned log i start → after_edit (map entry_of (take (i + 1) log)) ≡ (if is_edit (entry_of e) then [] else map entry_of (drop start (take i log)) ++ entry_of e ∷ [])
scan_push log i start e h is s =
    let more : take (i + 1) log ≡ take i log ++ e ∷ [] = take_more log i e h ∙ ap (λ x. take i log ++ x ∷ []) (sym is) in
    rw (more, map-append) (after_push (map entry_of (take i log)) (entry_of e) ∙ ap (λ l. if is_edit (entry_of e) then [] else l ++ entry_of e ∷ []) s)

pub scan_on : (log : List Entry) (i start : ℕ) (e : Entry) → i < length log → e ≡ get_or log i e → start ≤ i → is_edit (entry_of e) ≡ false → Scanned log i start → Scanned log (i + 1) start
scan_on log i start e h is within plain s =
    let more : take (i + 1) log ≡ take i log ++ e ∷ [] = take_more log i e h ∙ ap (λ x. take i log ++ x ∷ []) (sym is) in
    let room : start ≤ length (take i log) = omega (arith, length-take-le i log (omega arith)) in
    let front : drop start (take i log ++ e ∷ []) ≡ drop start (take i log) ++ e ∷ [] = drop-append-le start (take i log) (e ∷ []) room in
    let there : map entry_of (drop start (take (i + 1) log)) ≡ map entry_of (drop start (take i log)) ++ entry_of e ∷ [] = rw (more, front) (map-append entry_of (drop start (take i log)) (e ∷ [])) in
    scan_push log i start e h is s ∙ ap (λ (b : Bool). if b then [] else map entry_of (drop start (take i log)) ++ entry_of e ∷ []) plain ∙ sym there

pub scan_edit : (log : List Entry) (i start : ℕ) (e : Entry) → i < length log → e ≡ get_or log i e → is_edit (entry_of e) ≡ true → Scanned log i start → Scanned log (i + 1) (i + 1)
scan_edit log i start e h is edit s =
    let none : drop (i + 1) (take (i + 1) log) ≡ [] = drop_all (i + 1) (take (i + 1) log) (omega (arith, length-take-le (i + 1) log (omega arith))) in
    scan_push log i start e h is s ∙ ap (λ (b : Bool). if b then [] else map entry_of (drop start (take i log)) ++ entry_of e ∷ []) edit ∙ sym (ap (λ l. map entry_of l) none)

-- ---- the entries of a part without an edit

pub plain_at : (log : List Entry) (i : ℕ) (e : Entry) → has_edit (map entry_of log) ≡ false → i < length log → e ≡ get_or log i e → is_edit (entry_of e) ≡ false
plain_at [] i e p h is = absurd (omega arith)
plain_at (x ∷ log) zero e p h is = subst (λ (y : Entry). is_edit (entry_of y) ≡ false) (sym is) (both_false (is_edit (entry_of x)) (has_edit (map entry_of log)) p).0
plain_at (x ∷ log) (suc i) e p h is = plain_at log i e (both_false (is_edit (entry_of x)) (has_edit (map entry_of log)) p).1 (omega arith) is

pub entry_here : (log : List Entry) (i : ℕ) (e : Entry) → i < length log → e ≡ get_or log i e → map entry_of (drop i log) ≡ entry_of e ∷ map entry_of (drop (i + 1) log)
entry_here log i e h is = ap (λ l. map entry_of l) (drop_more log i e h) ∙ ap (λ x. entry_of x ∷ map entry_of (drop (i + 1) log)) (sym is)
