-- What a line makes of a session, and what a script does.
use Rattle.std.specs.Prelude.{ℕ, ◌≡◌, List, ◌++◌, length}
use Rattle.firing_core.specs.CoreViews.{CoreValue, core_of}
use Rattle.firing_core.specs.Entries.{entries_of}
use Rattle.edit_commands.specs.Scripts.{CommandValue}
use Rattle.fc_nodes.specs.Program.{Program, unfolding_of}
use Rattle.session.specs.declared.sessions.Session.{Session}
use Rattle.session.specs.Shown.{all_shown}
use Rattle.session.specs.ScriptRuns.{Added, DoesLine, ScriptRun}

-- a session after one more line: the line's row
pub record AfterLine (line : ℕ × CommandValue) (old new : Session) : Type 0 where
  pub program : new.book.program ≡ old.book.program
  pub start : new.book.start ≡ old.book.start
  pub added : Added
  pub log : entries_of new.book.log ≡ entries_of old.book.log ++ added.stretch
  pub parts : new.parts.items ≡ old.parts.items ++ added.parts
  pub text : new.text.items ≡ old.text.items ++ all_shown added.shown
  pub does : DoesLine (unfolding_of old.book.program) (core_of old.book.core) (length old.book.log) line added
      (core_of new.book.core)

-- a session that has done the lines of a script: its book is of this program and start, and with its parts and its text
-- it is a script run
pub record HasRun (P : Program) (first : CoreValue) (lines : List (ℕ × CommandValue)) (s : Session) : Type 0 where
  pub program : s.book.program ≡ P
  pub start : core_of s.book.start ≡ core_of first
  pub run : ScriptRun (unfolding_of P) (core_of first) lines (entries_of s.book.log) s.parts.items s.text.items
      (core_of s.book.core)
