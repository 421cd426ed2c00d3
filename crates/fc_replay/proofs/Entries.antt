-- The entries of a log, with the numbers of their lines.
use Rattle.std.proofs.Common.{ℕ, suc, ◌≡◌, ◌<◌, List, [], ◌∷◌, length, map, refl, ap, ◌∙◌, sym, arith, length-append}
use Rattle.std.proofs.lemmas.List.{length-map}
use Rattle.std.proofs.lemmas.Slice.Zip.{firsts-zip, seconds-zip}
use Rattle.std.specs.Prelude.{zip}
use Rattle.fc_nodes.specs.Program.{Unfolding}
use Rattle.firing_core.specs.Cores.{Core}
use Rattle.firing_core.specs.declared.entries.Entry.{Entry}
use Rattle.firing_core.specs.Entries.{EntryValue, entry_of, entries_of}
use Rattle.firing_core.specs.declared.entries.ReplayFault.{ReplayFault}
use Rattle.firing_core.specs.declared.entries.ReplayFault.TheVariants as replay_fault
use Rattle.firing_core.specs.Replays.{FailsAt}
use Rattle.firing_core.specs.Books.{FailsReplay}
use Rattle.fc_replay.specs.Code.{StopsWithin}
use Rattle.fc_replay.specs.Stopping.{Logged, entries_in}

-- an index at which a log fails is within it
within_log : {P : Core → EntryValue → Type 0} (U : Unfolding) (c : Core) (es : List EntryValue) (i : ℕ)
    → FailsAt U c es i P → i < length es
within_log U c es i at = omega (arith, at.place, ap length at.cut, length-append at.front (at.entry ∷ at.rest))

same_lengths : (log : List Logged) → length (map (λ (x : Logged). x.0) log) ≡ length (entries_in log)
same_lengths [] = refl
same_lengths (x ∷ log) = ap suc (same_lengths log)

pub stops_within : (U : Unfolding) (c : Core) (es : List EntryValue) (n : ℕ) (fault : ReplayFault)
    → FailsReplay U c es fault → length es ≡ n → StopsWithin n fault
stops_within U c es n (replay_fault.At i f) h e = omega (arith, within_log U c es i h, e)
stops_within U c es n (replay_fault.EditAt i f) h e = omega (arith, within_log U c es i h, e)
stops_within U c es n replay_fault.Memory h e = tt

-- what the code has before it answers
pub record HasRead (c start : Core) (log : List Logged) (lines : List ℕ) (es : List EntryValue) : Type 0 where
  pub same : c ≡ start
  pub numbers_read : lines ≡ map (λ (x : Logged). x.0) log
  pub entries_read : es ≡ entries_in log

pub has_read : (c start : Core) (lines : List ℕ) (es : List Entry) → c ≡ start → length lines ≡ length es
    → HasRead c start (zip lines (entries_of es)) lines (entries_of es)
has_read c start lines es same many =
    let long : length lines ≡ length (entries_of es) = many ∙ sym (length-map es entry_of) in
    record {
      same = same;
      numbers_read = sym (firsts-zip lines (entries_of es) (sym long));
      entries_read = sym (seconds-zip lines (entries_of es) (sym long));
    }

pub lines_within : (U : Unfolding) (c start : Core) (log : List Logged) (lines : List ℕ) (es : List EntryValue)
    (fault : ReplayFault) → HasRead c start log lines es → FailsReplay U c es fault
    → StopsWithin (length lines) fault
lines_within U c start log lines es fault r h =
    stops_within U c es (length lines) fault h (ap length r.entries_read ∙ sym (same_lengths log)
    ∙ ap length (sym r.numbers_read))
