-- Where a stretch of the log begins and ends.
use Rattle.std.proofs.Common.{◌≡◌, ◌+◌, ◌-◌, ◌≤◌, List, ◌∷◌, ◌++◌, length, false, sym, ap, ◌∙◌, arith, append_assoc, length-append}
use Rattle.std.proofs.lemmas.List.{length-map}
use Rattle.firing_core.specs.declared.entries.Entry.{Entry}
use Rattle.firing_core.specs.Entries.{EditValue, EntryValue, EditEntry, entry_of, entries_of}
use Rattle.firing_core.specs.Rounds.{has_edit, after_edit}
use Rattle.round_count.proofs.EditsInLogs.{after_last, after_short}

-- the position after the last entry
pub end_of : (old new : List Entry) (part : List EntryValue) → entries_of new ≡ entries_of old ++ part → length new ≡ length old + length part
end_of old new part e =
    let l = ap length e in
    omega (arith, length-map new entry_of, length-map old entry_of, length-append (entries_of old) part)

-- the part after the last edit is no longer than the log
pub last_fits : (last log whole : List Entry) → entries_of last ≡ after_edit (entries_of log) → log ≡ whole → length last ≤ length whole
last_fits last log whole e f =
    let short = after_short (entries_of log) in
    let long = ap length e in
    let same = ap length f in
    omega (arith, length-map last entry_of, length-map log entry_of)

pub last_length : (last log whole : List Entry) → entries_of last ≡ after_edit (entries_of log) → log ≡ whole → length last ≡ length (after_edit (entries_of whole))
last_length last log whole e f = sym (length-map last entry_of) ∙ ap length e ∙ ap (λ l. length (after_edit (entries_of l))) f

-- where the rounds after an edit begin
pub record IsPlace (old new : List Entry) (part after : List EntryValue) : Type 0 where
  pub short : length after ≤ length part
  pub place : length new - length (after_edit (entries_of new)) ≡ length old + (length part - length after)

pub mix_place : (old new : List Entry) (part front after : List EntryValue) (e : EditValue) → entries_of new ≡ entries_of old ++ part
    → part ≡ front ++ EditEntry e ∷ after → has_edit after ≡ false → IsPlace old new part after
mix_place old new part front after e grown cut plain =
    let same : entries_of new ≡ (entries_of old ++ front) ++ EditEntry e ∷ after =
    grown ∙ ap (λ l. entries_of old ++ l) cut ∙ sym (append_assoc (entries_of old) front (EditEntry e ∷ after)) in
    let last : after_edit (entries_of new) ≡ after = ap after_edit same ∙ after_last (entries_of old ++ front) after e plain in
    let short_last = ap length last in
    let long = end_of old new part grown in
    let long_part = ap length cut in
    let cut_long = length-append front (EditEntry e ∷ after) in
    record { short = omega arith; place = omega arith }
