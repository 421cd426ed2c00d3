-- Readings of one script agree.
use Rattle.std.proofs.Common.{◌≡◌, [], ◌∷◌, refl, sym, subst, ◌∙◌}
use Rattle.fc_nodes.specs.Program.{Unfolding}
use Rattle.edit_commands.specs.Scripts.{ScriptLine, RunLine, DoLine, ScrambleLine, ShowLine, MixLine, CommandValue, RunCommand, EditCommand, ScrambleCommand, ShowCommand, MixCommand, IsCommand}
use Rattle.edit_commands.specs.Agreement.{SameCommand, CommandsAgree}
use Rattle.edit_commands.proofs.Agreeing.{same_edits}

along : (U : Unfolding) (a b k : CommandValue) → SameCommand U k k → a ≡ k → b ≡ k → SameCommand U a b
along U a b k s h g = subst (λ x. SameCommand U x b) (sym h) (subst (SameCommand U k) (sym g) s)

same_command : (U : Unfolding) (l : ScriptLine) (a b : CommandValue) → IsCommand U l a → IsCommand U l b → SameCommand U a b
same_command U (RunLine r) a b h g = along U a b (RunCommand r) refl h g
same_command U (ScrambleLine n) a b h g = along U a b (ScrambleCommand n) refl h g
same_command U ShowLine a b h g = along U a b ShowCommand refl h g
same_command U (DoLine l) (EditCommand e) (EditCommand f) h g = same_edits U l e f h g
same_command U (DoLine l) (EditCommand e) (RunCommand r) h g = absurd g
same_command U (DoLine l) (EditCommand e) (ScrambleCommand n) h g = absurd g
same_command U (DoLine l) (EditCommand e) ShowCommand h g = absurd g
same_command U (DoLine l) (EditCommand e) (MixCommand r f) h g = absurd g
same_command U (DoLine l) (RunCommand r) b h g = absurd h
same_command U (DoLine l) (ScrambleCommand n) b h g = absurd h
same_command U (DoLine l) ShowCommand b h g = absurd h
same_command U (DoLine l) (MixCommand r e) b h g = absurd h
same_command U (MixLine q l) (MixCommand r e) (MixCommand s f) h g = (g.0 ∙ sym h.0, same_edits U l e f h.1 g.1)
same_command U (MixLine q l) (MixCommand r e) (RunCommand s) h g = absurd g
same_command U (MixLine q l) (MixCommand r e) (EditCommand f) h g = absurd g
same_command U (MixLine q l) (MixCommand r e) (ScrambleCommand n) h g = absurd g
same_command U (MixLine q l) (MixCommand r e) ShowCommand h g = absurd g
same_command U (MixLine q l) (RunCommand r) b h g = absurd h
same_command U (MixLine q l) (EditCommand e) b h g = absurd h
same_command U (MixLine q l) (ScrambleCommand n) b h g = absurd h
same_command U (MixLine q l) ShowCommand b h g = absurd h

pub commands_agree : CommandsAgree
commands_agree U [] [] [] h g = tt
commands_agree U [] [] (y ∷ ys) h g = absurd g
commands_agree U [] (x ∷ xs) ys h g = absurd h
commands_agree U (l ∷ ls) [] ys h g = absurd h
commands_agree U (l ∷ ls) (x ∷ xs) [] h g = absurd g
commands_agree U (l ∷ ls) (x ∷ xs) (y ∷ ys) h g = (g.0 ∙ sym h.0, same_command U l.1 x.1 y.1 h.1 g.1, commands_agree U ls xs ys h.2 g.2)
