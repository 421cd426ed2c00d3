-- A log, read line by line.
use Rattle.std.proofs.Common.{ℕ, ◌≡◌, ◌+◌, Bool, true, false, ◌==◌, List, [], ◌∷◌, ◌++◌, length, map, refl, ap, subst, ◌∙◌, arith}
use Rattle.std.proofs.lemmas.List.{length-map}
use Rattle.std.proofs.lemmas.Slice.Zip.{seconds-zip}
use Rattle.std.specs.Prelude.{zip}
use Rattle.fc_nodes.specs.Program.{Unfolding}
use Rattle.topology.specs.Networks.{Network}
use Rattle.firing_core.specs.declared.entries.Entry.{Entry}
use Rattle.firing_core.specs.Entries.{EntryValue, entry_of, entries_of}
use Rattle.firing_core.specs.Replays.{EntryFits, LogFits}
use Rattle.edit_commands.specs.declared.types.Fault.{Fault}
use Rattle.edit_commands.specs.LineByLine.{Judgement, Accepted, Refused, WhereAccepted, StopsAt}
use Rattle.edit_commands.proofs.CutLines.{IsCut}
use Rattle.edit_commands.proofs.LinesOfEdits.{edit_declared}
use Rattle.edit_commands.proofs.ReadLines as lines
use Rattle.edit_commands.proofs.ReadLines.{AllFit}
use Rattle.log_lines.specs.Logs.{LogLine, BeginLine, EndLine, IdleLine, OfEdit, network_after, log_line_judged, log_of, IsEntry, DoesEntry, IsLog, value_in}

line_declared : (n : Network) (l : LogLine) → (network_after n l).declared ≡ n.declared
line_declared n (BeginLine d) = refl
line_declared n (EndLine d) = refl
line_declared n IdleLine = refl
line_declared n (OfEdit l) = edit_declared n l

abbrev HasDeclared : Network → Network → Type 0
HasDeclared start n = n.declared ≡ start.declared

-- the entries that were read, and the rest of the log, beside the network and the number of the lines before it
abbrev pub IsReadTo : Unfolding → Network → List ℕ → Network → ℕ → List ℕ → List (ℕ × EntryValue) → Type 0
IsReadTo U start text now number rest es = lines.IsReadTo (log_line_judged U) network_after (IsEntry U) (EntryFits U) (HasDeclared start) start text now number rest es

pub read_none : (U : Unfolding) (start now : Network) (text : List ℕ) (es : List (ℕ × EntryValue)) → now ≡ start → es ≡ [] → IsReadTo U start text now 0 text es
read_none U start now text es same none =
    lines.read_none (log_line_judged U) network_after (IsEntry U) (EntryFits U) (HasDeclared start) start now text es same (ap (λ (n : Network). n.declared) same) none

module _ (U : Unfolding) (start : Network) (text : List ℕ) (now : Network) (number : ℕ) (rest front back line : List ℕ) (es : List (ℕ × EntryValue)) (r : IsReadTo U start text now number rest es) (c : IsCut rest front back line)
    (t : Bool) (is : t ≡ (length line == 0)) where
  pub skipped : t ≡ true → IsReadTo U start text now (number + 1) back es
  skipped empty = lines.skipped (log_line_judged U) network_after (IsEntry U) (EntryFits U) (HasDeclared start) start text now number rest front back line es r c t is empty

  pub read : (after : Network) (e : EntryValue) (pushed : List (ℕ × EntryValue)) → t ≡ false → WhereAccepted (DoesEntry U now after e) (log_line_judged U now line) → pushed ≡ es ++ (number + 1, e) ∷ []
      → IsReadTo U start text after (number + 1) back pushed
  read after e pushed some does grown =
      lines.read (log_line_judged U) network_after (IsEntry U) (EntryFits U) (HasDeclared start) start text now number rest front back line es r c t is after e pushed some does (declared (log_line_judged U now line) does) grown
    where
      declared : (j : Judgement Fault LogLine) → WhereAccepted (DoesEntry U now after e) j → after.declared ≡ start.declared
      declared (Accepted l) d = ap (λ (n : Network). n.declared) d.after_is ∙ line_declared now l ∙ r.keeps
      declared (Refused f) d = absurd d

  pub refused : (f : Fault) → t ≡ false → log_line_judged U now line ≡ Refused f → log_of U start text ≡ StopsAt (number + 1) f
  unfolding log_of
  refused f some h = lines.stopped (log_line_judged U) network_after (IsEntry U) (EntryFits U) (HasDeclared start) start text now number rest front back line es r c t is f some h

pub all_read : (U : Unfolding) (start : Network) (text : List ℕ) (now : Network) (number : ℕ) (rest : List ℕ) (es : List (ℕ × EntryValue)) (t : Bool) → IsReadTo U start text now number rest es
    → t ≡ (length rest == 0) → t ≡ true → IsLog U start text es
unfolding log_of
all_read U start text now number rest es t r is end =
    lines.all_read (log_line_judged U) network_after (IsEntry U) (EntryFits U) (HasDeclared start) start text now number rest es t r is end

-- what fits with its numbers fits without them
pub fits_alone : (U : Unfolding) (es : List (ℕ × EntryValue)) → AllFit (EntryFits U) es → LogFits U (map value_in es)
fits_alone U [] h = tt
fits_alone U (e ∷ es) h = (h.0, fits_alone U es h.1)

pub fits_plain : (U : Unfolding) (ks : List ℕ) (es : List Entry) → length ks ≡ length es → AllFit (EntryFits U) (zip ks (entries_of es)) → LogFits U (entries_of es)
fits_plain U ks es l h =
    subst (LogFits U) (seconds-zip ks (entries_of es) (omega (arith, l, length-map es entry_of))) (fits_alone U (zip ks (entries_of es)) h)
