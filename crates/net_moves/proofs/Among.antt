-- Crates above cite this module: rounds that ask each device that is there all the time are rounds that ask each device
-- of some list to fire or to be away, where no other device is ever there.
use Rattle.std.proofs.Common.{◌≡◌, ◌⊎◌, ℕ, zero, suc, List, [], ◌∷◌, sym, ◌∙◌, subst, true, false, inl, inr}
use Rattle.fc_values.specs.Fields.{is_in}
use Rattle.topology.specs.Networks.{Network, Lives}
use Rattle.firing_core.specs.Entries.{EntryValue}
use Rattle.firing_core.specs.Rounds.{HasFiring}
use Rattle.net_moves.specs.Moves.{net_next, net_after, Allowed, Stays, IsThere, IsAway, CoversThere, HasRoundsThere}
use Rattle.net_moves.specs.Moves.{CoversAmong, HasRoundsAmong}
use Rattle.net_moves.proofs.Moving.{there_or_away, there_first, stays_first, stays_cut}

not_both : (d : ℕ) (n : Network) (log : List EntryValue) → IsThere d n log → IsAway d n log → ⊥
not_both d n [] t g = let z : false ≡ true = sym g ∙ t in absurd cc
not_both d n (e ∷ es) t (inl g) = let z : false ≡ true = sym g ∙ t.0 in absurd cc
not_both d n (e ∷ es) t (inr g) = not_both d (net_next n e) es t.1 g

module _ (In : Allowed) (ds : List ℕ) (of : (m : Network) (d : ℕ) → In m → Lives m d → is_in d ds ≡ true) where
  covers_to : (n : Network) (part : List EntryValue) → CoversThere n part → CoversAmong ds n part
  covers_to n part h d l = by_cases (there_or_away d n part)
    where
      by_cases : IsThere d n part ⊎ IsAway d n part → HasFiring d part ⊎ IsAway d n part
      by_cases (inl t) = inl (h d t)
      by_cases (inr g) = inr g

  covers_from : (n : Network) (part : List EntryValue) → In n → CoversAmong ds n part → CoversThere n part
  covers_from n part i h d t = by_cases (h d (of n d i (there_first d n part t)))
    where
      by_cases : HasFiring d part ⊎ IsAway d n part → HasFiring d part
      by_cases (inl f) = f
      by_cases (inr g) = absurd (not_both d n part t g)

  pub rounds_to : (k : ℕ) (n : Network) (log : List EntryValue) → HasRoundsThere n log k → HasRoundsAmong ds n log k
  rounds_to zero n log h = tt
  rounds_to (suc k) n log h =
      (h.0, h.1, h.2, covers_to n h.0 h.3, rounds_to k (net_after n h.0) h.1 h.4)

  pub rounds_from : (k : ℕ) (n : Network) (log : List EntryValue) → Stays In n log → HasRoundsAmong ds n log k
      → HasRoundsThere n log k
  rounds_from zero n log s h = tt
  rounds_from (suc k) n log s h =
      let c = stays_cut In n h.0 h.1 (subst (Stays In n) h.2 s) in
      (h.0, h.1, h.2, covers_from n h.0 (stays_first In n h.0 c.0) h.3, rounds_from k (net_after n h.0) h.1 c.1 h.4)
