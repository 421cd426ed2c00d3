-- Parts of a log one after the other: what they begin, their edits, their rounds, and where they lead.
use Rattle.std.proofs.Common.{◌≡◌, ℕ, zero, suc, ◌+◌, List, [], ◌∷◌, ◌++◌, refl, sym, ap, ◌∙◌, subst, arith, inl, inr, Bool, true, false, if◌then◌else◌, append_assoc}
use Rattle.fc_values.specs.Fields.{is_in}
use Rattle.fc_values.proofs.Booleans.{or_no}
use Rattle.fc_nodes.specs.Program.{Unfolding}
use Rattle.firing_core.specs.Entries.{EntryValue}
use Rattle.firing_core.specs.Cores.{Core, Run}
use Rattle.firing_core.specs.Rounds.{is_edit, has_edit, HasEnd, HasFiring, HasRounds}
use Rattle.firing_core.specs.Stretches.{is_begin, begins}

-- ---- runs

pub run_cut : (U : Unfolding) (a c : Core) (xs ys : List EntryValue) → Run U a (xs ++ ys) c → (b : Core) × Run U a xs b × Run U b ys c
run_cut U a c [] ys r = (a, refl, r)
run_cut U a c (x ∷ xs) ys r = let k = run_cut U r.0 c xs ys r.2 in (k.0, (r.0, r.1, k.1), k.2)

-- ---- edits

pub plain_join : (xs ys : List EntryValue) → has_edit xs ≡ false → has_edit ys ≡ false → has_edit (xs ++ ys) ≡ false
plain_join [] ys p q = q
plain_join (x ∷ xs) ys p q = let k = or_no (is_edit x) (has_edit xs) p in rw (k.0) (plain_join xs ys k.1 q)

pub plain_cut : (xs ys : List EntryValue) → has_edit (xs ++ ys) ≡ false → (has_edit xs ≡ false) × (has_edit ys ≡ false)
plain_cut [] ys p = (refl, p)
plain_cut (x ∷ xs) ys p = let k = or_no (is_edit x) (has_edit (xs ++ ys)) p in let t = plain_cut xs ys k.1 in (rw (k.0) t.0, t.1)

-- ---- begins

pub begins_join : (d : ℕ) (xs ys : List EntryValue) → begins d (xs ++ ys) ≡ begins d xs + begins d ys
begins_join d [] ys = omega arith
begins_join d (x ∷ xs) ys = by_test (is_begin d x) (begins_join d xs ys)
  where
    by_test : (b : Bool) → begins d (xs ++ ys) ≡ begins d xs + begins d ys
        → (if b then begins d (xs ++ ys) + 1 else begins d (xs ++ ys)) ≡ (if b then begins d xs + 1 else begins d xs) + begins d ys
    by_test true e = omega (arith, e)
    by_test false e = e

-- ---- firings and rounds

pub end_front : (d : ℕ) (xs ys : List EntryValue) → HasEnd d ys → HasEnd d (xs ++ ys)
end_front d [] ys h = h
end_front d (x ∷ xs) ys h = inr (end_front d xs ys h)

pub end_behind : (d : ℕ) (xs ys : List EntryValue) → HasEnd d xs → HasEnd d (xs ++ ys)
end_behind d [] ys h = absurd h
end_behind d (x ∷ xs) ys (inl e) = inl e
end_behind d (x ∷ xs) ys (inr h) = inr (end_behind d xs ys h)

fires_front : (d : ℕ) (xs ys : List EntryValue) → HasFiring d ys → HasFiring d (xs ++ ys)
fires_front d [] ys h = h
fires_front d (x ∷ xs) ys h = inr (fires_front d xs ys h)

-- entries without an edit in front of rounds
pub rounds_front : (live : List ℕ) (xs ys : List EntryValue) (k : ℕ) → has_edit xs ≡ false → HasRounds live ys k → HasRounds live (xs ++ ys) k
rounds_front live xs ys zero p h = plain_join xs ys p h
rounds_front live xs ys (suc k) p h = (
  xs ++ h.0,
  h.1,
  ap (λ (l : List EntryValue). xs ++ l) h.2 ∙ sym (append_assoc xs h.0 h.1),
  record { plain = plain_join xs h.0 p h.3.plain; fires = λ d i. fires_front d xs h.0 (h.3.fires d i) },
  h.4,
)

-- rounds behind rounds
pub rounds_join : (live : List ℕ) (xs ys : List EntryValue) (j k : ℕ) → HasRounds live xs j → HasRounds live ys k → HasRounds live (xs ++ ys) (j + k)
rounds_join live xs ys zero k h g = let e : k ≡ zero + k = omega arith in subst (λ n. HasRounds live (xs ++ ys) n) e (rounds_front live xs ys k h g)
rounds_join live xs ys (suc j) k h g = let e : suc (j + k) ≡ suc j + k = omega arith in subst (λ n. HasRounds live (xs ++ ys) n) e (more (rounds_join live h.1 ys j k h.4 g))
  where
    more : HasRounds live (h.1 ++ ys) (j + k) → HasRounds live (xs ++ ys) (suc (j + k))
    more ih = (h.0, h.1 ++ ys, ap (λ (l : List EntryValue). l ++ ys) h.2 ∙ append_assoc h.0 h.1 ys, h.3, ih)

-- one part in which each fires
pub one_round : (live : List ℕ) (part : List EntryValue) → has_edit part ≡ false → ((d : ℕ) → is_in d live ≡ true → HasFiring d part) → HasRounds live part 1
one_round live part p f = (part, [], append_none part, record { plain = p; fires = f }, refl)
  where
    append_none : (l : List EntryValue) → l ≡ l ++ []
    append_none [] = refl
    append_none (x ∷ xs) = ap (λ (t : List EntryValue). x ∷ t) (append_none xs)
