-- Crates above cite this module: logs without an edit stay where they are, and their rounds are those in which each
-- device fires that is there all the time.
use Rattle.std.proofs.Common.{◌≡◌, ◌++◌, ℕ, zero, suc, List, [], ◌∷◌, refl, sym, ◌∙◌, ap, subst, Bool, true, false}
use Rattle.std.proofs.Common.{◌||◌}
use Rattle.topology.specs.Networks.{Network, Lives, numbers}
use Rattle.firing_core.specs.Entries.{EntryValue, BeginEntry, EndEntry, IdleEntry, EditEntry}
use Rattle.firing_core.specs.Rounds.{is_edit, has_edit, HasRounds}
use Rattle.net_moves.specs.Moves.{net_next, net_after, is_poke, Allowed, Stays, IsThere, HasRoundsThere}
use Rattle.net_moves.specs.Laws.{PlainRoundsAre}
use Rattle.net_moves.proofs.Moving.{there_first}

pub plain_next : (n : Network) (e : EntryValue) → is_edit e ≡ false → (net_next n e ≡ n) × (is_poke e ≡ false)
plain_next n (BeginEntry d) h = (refl, refl)
plain_next n (EndEntry d) h = (refl, refl)
plain_next n IdleEntry h = (refl, refl)
plain_next n (EditEntry x) h = absurd cc

pub no_edit : (e : EntryValue) (es : List EntryValue) → (is_edit e || has_edit es) ≡ false
    → (is_edit e ≡ false) × (has_edit es ≡ false)
no_edit e es h = by_test (is_edit e) refl h
  where
    by_test : (b : Bool) → is_edit e ≡ b → (b || has_edit es) ≡ false → (is_edit e ≡ false) × (has_edit es ≡ false)
    by_test true k g = absurd cc
    by_test false k g = (k, g)

pub plain_stays : (In : Allowed) (n : Network) (log : List EntryValue) → In n → has_edit log ≡ false → Stays In n log
plain_stays In n [] i h = i
plain_stays In n (e ∷ es) i h =
    let m = no_edit e es h in
    let q = plain_next n e m.0 in
    (i, q.1, subst (λ x. Stays In x es) (sym q.0) (plain_stays In n es i m.1))

plain_after : (n : Network) (log : List EntryValue) → has_edit log ≡ false → net_after n log ≡ n
plain_after n [] h = refl
plain_after n (e ∷ es) h =
    let m = no_edit e es h in
    ap (λ x. net_after x es) (plain_next n e m.0).0 ∙ plain_after n es m.1

pub plain_rounds : (n : Network) (log : List EntryValue) (m : ℕ) → HasRounds (numbers n.devices) log m
    → HasRoundsThere n log m
plain_rounds n log zero h = tt
plain_rounds n log (suc m) h = (
  h.0,
  h.1,
  h.2,
  (λ d t. h.3.fires d (there_first d n h.0 t)),
  subst (λ x. HasRoundsThere x h.1 m) (sym (plain_after n h.0 h.3.plain)) (plain_rounds n h.1 m h.4),
)

pub both_plain : (xs ys : List EntryValue) → has_edit (xs ++ ys) ≡ false
    → (has_edit xs ≡ false) × (has_edit ys ≡ false)
both_plain [] ys h = (refl, h)
both_plain (x ∷ xs) ys h =
    let m = no_edit x (xs ++ ys) h in
    let r = both_plain xs ys m.1 in
    let p = m.0 in
    let q = r.0 in
    (rw (p, q) refl, r.1)

plain_there : (d : ℕ) (n : Network) (log : List EntryValue) → Lives n d → has_edit log ≡ false → IsThere d n log
plain_there d n [] l h = l
plain_there d n (e ∷ es) l h =
    let m = no_edit e es h in
    (l, plain_there d (net_next n e) es (subst (λ x. Lives x d) (sym (plain_next n e m.0).0) l) m.1)

rounds_plain : (n : Network) (log : List EntryValue) (m : ℕ) → has_edit log ≡ false → HasRoundsThere n log m
    → HasRounds (numbers n.devices) log m
rounds_plain n log zero p h = p
rounds_plain n log (suc m) p h =
    let q = both_plain h.0 h.1 (subst (λ es. has_edit es ≡ false) h.2 p) in (
      h.0,
      h.1,
      h.2,
      record { plain = q.0; fires = λ d l. h.3 d (plain_there d n h.0 l q.0) },
      rounds_plain n h.1 m q.1 (subst (λ x. HasRoundsThere x h.1 m) (plain_after n h.0 q.0) h.4),
    )

pub plain_rounds_are : PlainRoundsAre
plain_rounds_are n log m p = (plain_rounds n log m, rounds_plain n log m p)

plain_join : (xs ys : List EntryValue) → has_edit xs ≡ false → has_edit ys ≡ false → has_edit (xs ++ ys) ≡ false
plain_join [] ys p q = q
plain_join (x ∷ xs) ys p q = by_test (is_edit x) p (plain_join xs ys)
  where
    by_test : (b : Bool) → (b || has_edit xs) ≡ false
        → (has_edit xs ≡ false → has_edit ys ≡ false → has_edit (xs ++ ys) ≡ false)
        → (b || has_edit (xs ++ ys)) ≡ false
    by_test true g ih = absurd cc
    by_test false g ih = ih g q

pub plain_of : (ds : List ℕ) (log : List EntryValue) (m : ℕ) → HasRounds ds log m → has_edit log ≡ false
plain_of ds log zero h = h
plain_of ds log (suc m) h = subst (λ es. has_edit es ≡ false) (sym h.2)
    (plain_join h.0 h.1 h.3.plain (plain_of ds h.1 m h.4))
