-- Lines of a script by their first words.
use Rattle.std.proofs.Common.{ℕ, ◌≡◌, List, ◌∷◌, sym, ap, subst, ◌∙◌, Some, Option, Result}
use Rattle.std.specs.Prelude.{IfErr}
use Rattle.fc_values.specs.Types.{Input}
use Rattle.fc_nodes.specs.Program.{Unfolding}
use Rattle.firing_core.specs.Cores.{Core}
use Rattle.edit_commands.specs.declared.types.ScriptFault.{ScriptFault}
use Rattle.edit_commands.specs.declared.scripts.ScriptWord.{ScriptWord}
use Rattle.edit_commands.specs.Scripts.{ScriptLine, Progress, script_word, script_line, script_line_by, script_line_judged}
use Rattle.edit_commands.specs.ScriptCode.{HasLineFaultAt}

pub word_refused : {A : Type 0} (r : Result A ScriptFault) (U : Unfolding) (start : Core) (p : Progress) (number : ℕ) (is : List Input) (ws : List (List ℕ)) (w : List ℕ) (rest : List (List ℕ)) (o : Option ScriptWord) (x : ScriptWord)
    (line : Option ScriptLine) → ws ≡ w ∷ rest → o ≡ script_word w → o ≡ Some x → IfErr r (HasLineFaultAt number (script_line_judged U start p line)) → script_line_by is (Some x) w rest ≡ line
    → IfErr r (HasLineFaultAt number (script_line_judged U start p (script_line is ws)))
word_refused r U start p number is ws w rest o x line e f g h k =
    let l : line ≡ script_line is ws = sym (ap (script_line is) e ∙ ap (λ y. script_line_by is y w rest) (sym f ∙ g) ∙ k) in
    subst (λ y. IfErr r (HasLineFaultAt number (script_line_judged U start p y))) l h
