-- What a script shows, and the text that is made of it.
use Rattle.std.specs.Prelude.{ℕ, List, ◌++◌, codes, flat_map, length}
use Rattle.std.specs.Fmt.{decimal}
use Rattle.fc_nodes.specs.Program.{Unfolding}
use Rattle.fc_nodes.specs.declared.verdicts.Verdict.{Verdict}
use Rattle.fragment_check.specs.Verdicts.{verdict_of}
use Rattle.firing_core.specs.Cores.{Core}
use Rattle.report.specs.Texts.{values_text}
use Rattle.report.specs.Verdicts.{verdict_text}

-- a line `show` with the core then, or a line that joins or leaves with the verdict for the network after it
pub data Shown : Type 0 where
  ShowsValues : ℕ → Core → Shown
  ShowsVerdict : ℕ → Verdict → Shown

-- `@` and the number of the line, and then the values; or the verdict's line
abbrev pub shown_text : Shown → List ℕ
shown_text (ShowsValues line core) = codes "@" ++ decimal line ++ codes "\n" ++ values_text core
shown_text (ShowsVerdict line verdict) = verdict_text verdict

abbrev pub all_shown : List Shown → List ℕ
all_shown shown = flat_map shown_text shown

-- the verdict on a program for the network of a core
abbrev pub verdict_in : Unfolding → Core → Verdict
verdict_in U c = verdict_of U (length c.net.devices)

-- the text of a script: the line of the verdict for the network at the start comes first, whatever it is
abbrev pub script_text : Unfolding → Core → List Shown → List ℕ
script_text U start shown = verdict_text (verdict_in U start) ++ all_shown shown
