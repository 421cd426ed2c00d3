-- Entries that are put behind a log, part by part.
use Rattle.std.proofs.Common.{◌≡◌, ℕ, zero, suc, ◌+◌, List, [], ◌∷◌, ◌++◌, length, drop, refl, sym, ◌∙◌, ap, arith, append_assoc, append-nil}
use Rattle.topology.specs.Networks.{Network, numbers}
use Rattle.scenarios.specs.Words.{Words}
use Rattle.message_links.specs.MailCores.{MailEntryValue}
use Rattle.message_links.specs.declared.entries.MailEntry.{MailEntry}
use Rattle.message_links.specs.MailEntries.{mail_entries}
use Rattle.mail_drive.specs.Drives.{Driven, firings, brings, round, driven, Appends}

-- a log, and what is still to be put behind it, of all that is put behind an older one
pub record Left (all : Driven) (first log : List MailEntry) (rest : Driven) : Type 0 where
  pub entries : mail_entries log ++ rest.0 ≡ mail_entries first ++ all.0
  pub words : rest.1 ≡ all.1

pub drop_all : {X : Type 0} (xs : List X) (i : ℕ) → length xs ≡ i → drop i xs ≡ []
drop_all [] zero h = refl
drop_all [] (suc i) h = refl
drop_all (x ∷ xs) zero h = absurd (omega arith)
drop_all (x ∷ xs) (suc i) h = drop_all xs i (omega arith)

-- one round more, and those that are left
pub round_more : (N : Network) (left : ℕ) (words after : Words) (log fired new : List MailEntry) → mail_entries fired ≡ mail_entries log ++ firings (numbers N.devices) → Appends (brings N (numbers N.devices) words) fired new after
    → mail_entries new ++ driven N left after ≡ mail_entries log ++ driven N (suc left) words
round_more N left words after log fired new f b =
    let made : mail_entries new ≡ mail_entries log ++ (round N words).0 =
    b.entries ∙ ap (λ es. es ++ (brings N (numbers N.devices) words).0) f ∙ append_assoc (mail_entries log) (firings (numbers N.devices)) (brings N (numbers N.devices) words).0 in
    ap (λ es. es ++ driven N left after) made
    ∙ ap (λ ws. (mail_entries log ++ (round N words).0) ++ driven N left ws) b.words
    ∙ append_assoc (mail_entries log) (round N words).0 (driven N left (round N words).1)

pub rounds_done : (N : Network) (rounds counter : ℕ) (log : List MailEntry) (words : Words) (all : List MailEntryValue) → counter + 0 ≡ rounds
    → ((left : ℕ) → counter + left ≡ rounds → mail_entries log ++ driven N left words ≡ all) → mail_entries log ≡ all
rounds_done N rounds counter log words all whole h = sym (append-nil (mail_entries log)) ∙ h 0 whole
