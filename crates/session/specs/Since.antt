-- What lines have made until now, since the last edit.
use Rattle.std.specs.Prelude.{ℕ, ◌+◌, ◌-◌, List, [], ◌∷◌, length, nat_le, if◌then◌else◌}
use Rattle.fc_nodes.specs.declared.verdicts.Verdict.{Verdict}
use Rattle.firing_core.specs.declared.entries.Part.{Part}
use Rattle.firing_core.specs.Entries.{EntryValue}
use Rattle.firing_core.specs.Rounds.{after_edit}
use Rattle.session.specs.ScriptRuns.{Added}
use Rattle.session.specs.Shown.{Shown, ShowsValues, ShowsVerdict}

-- the position in a log after its last edit
abbrev pub place_after : List EntryValue → ℕ
place_after log = length log - length (after_edit log)

-- the rounds of the parts that begin at a position or behind it
abbrev pub rounds_from : ℕ → List Part → ℕ
rounds_from place [] = 0
rounds_from place (part ∷ parts) =
    if nat_le place part.from then part.rounds + rounds_from place parts else rounds_from place parts

-- the rounds in the parts since the last edit
abbrev pub rounds_since : Added → ℕ
rounds_since added = rounds_from (place_after added.stretch) added.parts

-- the last verdict that is shown: that for the start where no line has shown one
abbrev pub last_verdict : Verdict → List Shown → Verdict
last_verdict verdict [] = verdict
last_verdict verdict (ShowsValues line core ∷ more) = last_verdict verdict more
last_verdict verdict (ShowsVerdict line other ∷ more) = last_verdict other more
