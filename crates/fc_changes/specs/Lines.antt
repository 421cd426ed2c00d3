-- What is written of last bounds.
use Rattle.std.specs.Prelude.{ℕ, Bool, List, ◌++◌, length, map, Option, Some, None}
use Rattle.fc_nodes.specs.Program.{Unfolding}
use Rattle.value_bounds.specs.BoundValues.{BoundValue}
use Rattle.envelopes.specs.Envelopes.{Envelope}
use Rattle.last_bounds.specs.LastBounds.{LastBound}
use Rattle.bound_texts.specs.BoundTexts.{BoundLine, lines_text}
use Rattle.verdict_texts.specs.VerdictTexts.{checked_text}
use Rattle.command_words.specs.declared.commands.Start.{Start}
use Rattle.command_words.specs.declared.commands.Start.TheVariants.{Any, Table}

-- the bound before any round is written where rounds are counted from the scene's table
abbrev pub before_asked : Start → BoundValue → Option BoundValue
before_asked Any b = None
before_asked Table b = Some b

-- the line of a device
abbrev pub bound_line_of : Start → LastBound → BoundLine
bound_line_of from l = record {
  device = l.device;
  rounds = l.rounds;
  bound = l.bound;
  before = before_asked from l.before;
  away = l.away;
}

-- the verdict's text for as many devices as the envelope has, and behind it the lines
abbrev pub bounds_text : Bool → Start → Unfolding → Envelope → List LastBound → List ℕ
bounds_text facts from U E ls = checked_text facts U (length E.devices) ++ lines_text (map (bound_line_of from) ls)
