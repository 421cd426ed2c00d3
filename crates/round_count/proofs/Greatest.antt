-- Each log has a greatest number of rounds.
use Rattle.std.proofs.Common.{◌≡◌, ◌<◌, ◌≤◌, ◌+◌, ℕ, zero, suc, false, List, [], ◌∷◌, length, replicate, refl, arith}
use Rattle.std.proofs.lemmas.List.{length-replicate}
use Rattle.firing_core.specs.Entries.{EntryValue, BeginEntry, EndEntry, IdleEntry, EditEntry}
use Rattle.firing_core.specs.Rounds.{is_edit, has_edit, after_edit, HasRounds}
use Rattle.round_count.specs.Laws.{SomeGreatest}
use Rattle.round_count.specs.Marks.{noted, wanting}
use Rattle.round_count.proofs.Logs.{after_plain, both_false}
use Rattle.round_count.proofs.Moves.{moved_long}
use Rattle.round_count.proofs.Wants.{wanting_fresh}
use Rattle.round_count.proofs.Counts.{Counted, counted_first, counted_more, counted_round, counted_has, counted_all}

noted_long : (e : EntryValue) (live ms : List ℕ) → length ms ≡ length live → length (noted e live ms) ≡ length live
noted_long (BeginEntry d) live ms l = moved_long d 0 1 live ms l
noted_long (EndEntry d) live ms l = moved_long d 1 2 live ms l
noted_long IdleEntry live ms l = l
noted_long (EditEntry e) live ms l = l

module _ (live : List ℕ) (log : List EntryValue) (some : 0 < length live) where
  abbrev Greatest : Type 0
  Greatest = (k : ℕ) × HasRounds live log k × ((j : ℕ) → HasRounds live log j → j ≤ k)

  -- from what is counted, where so much of the log is left
  abbrev CountedOn : List EntryValue → Type 0
  CountedOn rest = (count : ℕ) (ms : List ℕ) → length ms ≡ length live → 0 < wanting ms → Counted live log count ms rest → Greatest

  count_on : (rest : List EntryValue) → has_edit rest ≡ false → CountedOn rest
  count_on [] p count ms l w c = (count, counted_has c, counted_all c l w)
  count_on (e ∷ rest) p count ms l w c =
      let plain = both_false (is_edit e) (has_edit rest) p in
      by_left (wanting (noted e live ms)) refl (noted_long e live ms l) (counted_more c l w plain.0) (count_on rest plain.1)
    where
      by_left : (left : ℕ) → wanting (noted e live ms) ≡ left → length (noted e live ms) ≡ length live → Counted live log count (noted e live ms) rest → CountedOn rest → Greatest
      by_left zero is long d more =
          let fresh = wanting_fresh (length live) in
          more (count + 1) (replicate (length live) 0) (length-replicate (length live) 0) (omega (arith, fresh, some)) (counted_round d long is)
      by_left (suc n) is long d more = more count (noted e live ms) long (omega (arith, is)) d

  counted : has_edit log ≡ false → Greatest
  counted p =
      let fresh = wanting_fresh (length live) in
      count_on log p 0 (replicate (length live) 0) (length-replicate (length live) 0) (omega (arith, fresh, some)) (counted_first live log)

pub some_greatest : SomeGreatest
some_greatest live log some =
    let r = counted live (after_edit log) some (after_plain log) in
    (r.0, record { has = r.1; greatest = r.2 })
