-- A script in which no line has a fault has commands.
use Rattle.std.proofs.Common.{ℕ, ◌≡◌, ◌+◌, false, List, [], ◌∷◌, refl, subst, Some, None, Option}
use Rattle.std.specs.Prelude.{option_map, option_and_then, IfSome}
use Rattle.std.specs.Option.{option_or}
use Rattle.fc_values.specs.Numbers.{number_of}
use Rattle.fc_values.specs.Types.{Input}
use Rattle.fc_nodes.specs.Program.{Unfolding}
use Rattle.value_trees.specs.KeptExports.{ListsHaveExports}
use Rattle.firing_core.specs.Cores.{Core}
use Rattle.fc_io.specs.Lines.{lines_of}
use Rattle.edit_commands.specs.declared.scripts.ScriptWord.{ScriptWord}
use Rattle.edit_commands.specs.declared.scripts.ScriptWord.TheVariants as first
use Rattle.edit_commands.specs.Lines.{words_of}
use Rattle.edit_commands.specs.EditLines.{EditLine, LinkLine, UnlinkLine, SetLine, PokeLine, JoinLine, LeaveLine, with_two, edit_line}
use Rattle.edit_commands.specs.Code.{LineFits}
use Rattle.edit_commands.specs.LineByLine.{Accepted, unless_fault}
use Rattle.edit_commands.specs.Judging.{edit_line_fault}
use Rattle.edit_commands.specs.Scripts.{ScriptLine, RunLine, DoLine, ScrambleLine, ShowLine, MixLine, Progress, at_start, flies, ScriptLineFault, OfLine, firings_fault, script_line_fault, progress_after, script_line_judged, script_text_judged, written_rounds, if_mixed, mixed_edit, script_word, script_line_by, script_line, lines_in, CommandValue, RunCommand, EditCommand, ScrambleCommand, ShowCommand, MixCommand, IsCommand, CommandFits}
use Rattle.edit_commands.specs.ScriptCommands.{ScriptsHaveCommands}
use Rattle.edit_commands.proofs.LinesOfEdits.{some_mapped, edit_fits, an_edit}
use Rattle.edit_commands.proofs.ReadScripts.{commands_fit}
use Rattle.edit_commands.proofs.SaidLines.{Said, lines_said}

abbrev MayBe : ScriptLine → Type 0
MayBe (RunLine r) = Unit {0}
MayBe (DoLine l) = LineFits l
MayBe (ScrambleLine n) = Unit {0}
MayBe ShowLine = Unit {0}
MayBe (MixLine r l) = LineFits l

do_may : (o : Option EditLine) → IfSome o LineFits → IfSome (option_map DoLine o) MayBe
do_may None h = tt
do_may (Some l) h = h

mixed_fits : (o : Option EditLine) → IfSome o LineFits → IfSome (option_and_then if_mixed o) LineFits
mixed_fits None h = tt
mixed_fits (Some (LinkLine a b w)) h = h
mixed_fits (Some (UnlinkLine a b)) h = h
mixed_fits (Some (SetLine d i v)) h = h
mixed_fits (Some (PokeLine d v ks)) h = h
mixed_fits (Some (JoinLine x)) h = tt
mixed_fits (Some (LeaveLine d)) h = tt

mix_may : (o : Option ℕ) (l : Option EditLine) → IfSome l LineFits → IfSome (with_two MixLine o l) MayBe
mix_may None l h = tt
mix_may (Some r) None h = tt
mix_may (Some r) (Some l) h = h

line_may : (is : List Input) (o : Option ScriptWord) (word : List ℕ) (words : List (List ℕ)) → IfSome (script_line_by is o word words) MayBe
line_may is None word words = do_may (edit_line is (word ∷ words)) (edit_fits is (word ∷ words))
line_may is (Some first.Run) word [] = tt
line_may is (Some first.Run) word (r ∷ []) = some_mapped MayBe RunLine (λ n. tt) (written_rounds r)
line_may is (Some first.Run) word (r ∷ s ∷ words) = tt
line_may is (Some first.Mix) word [] = tt
line_may is (Some first.Mix) word (r ∷ words) = mix_may (written_rounds r) (mixed_edit is words) (mixed_fits (edit_line is words) (edit_fits is words))
line_may is (Some first.Scramble) word [] = tt
line_may is (Some first.Scramble) word (n ∷ []) = some_mapped MayBe ScrambleLine (λ n. tt) (number_of n)
line_may is (Some first.Scramble) word (n ∷ m ∷ words) = tt
line_may is (Some first.Show) word [] = tt
line_may is (Some first.Show) word (w ∷ words) = tt

script_may : (is : List Input) (words : List (List ℕ)) → IfSome (script_line is words) MayBe
script_may is [] = tt
script_may is (word ∷ words) = line_may is (script_word word) word words

-- ---- commands

no_fault : {A B : Type 0} (f : A → B) (o : Option A) → option_map f o ≡ None → o ≡ None
no_fault f None h = refl
no_fault f (Some x) h = absurd cc

second_none : {A : Type 0} (a b : Option A) → option_or a b ≡ None → b ≡ None
second_none None b h = h
second_none (Some x) b h = absurd cc

module _ (lists : ListsHaveExports) (U : Unfolding) (start : Core) where
  a_command : (p : Progress) (l : ScriptLine) → MayBe l → script_line_fault U start p l ≡ None → Said (IsCommand U) (CommandFits U) l
  a_command p (RunLine r) m h = record { thing = RunCommand r; says = refl; fits = tt }
  a_command p (ScrambleLine n) m h = record { thing = ScrambleCommand n; says = refl; fits = tt }
  a_command p ShowLine m h = record { thing = ShowCommand; says = refl; fits = tt }
  a_command p (DoLine l) m h =
      let e = an_edit lists U p.net (flies start p.quiet) l m (no_fault OfLine (edit_line_fault U p.net (flies start p.quiet) l) h) in
      record { thing = EditCommand e.thing; says = e.says; fits = e.fits }
  a_command p (MixLine r l) m h =
      let none : edit_line_fault U p.net (λ d. false) l ≡ None =
      no_fault OfLine (edit_line_fault U p.net (λ d. false) l) (second_none (firings_fault p (r + 1)) (option_map OfLine (edit_line_fault U p.net (λ d. false) l)) h) in
      let e = an_edit lists U p.net (λ d. false) l m none in
      record { thing = MixCommand r e.thing; says = (refl, e.says); fits = e.fits }

  judged_command : (p : Progress) (o : Option ScriptLine) → IfSome o MayBe → (l : ScriptLine) → script_line_judged U start p o ≡ Accepted l → Said (IsCommand U) (CommandFits U) l
  judged_command p None m l e = absurd cc
  judged_command p (Some k) m l e = by_fault (script_line_fault U start p k) refl e
    where
      by_fault : (f : Option ScriptLineFault) → script_line_fault U start p k ≡ f → unless_fault f k ≡ Accepted l → Said (IsCommand U) (CommandFits U) l
      by_fault (Some f) h g = absurd cc
      by_fault None h g = let same : k ≡ l = cc in subst (Said (IsCommand U) (CommandFits U)) same (a_command p k m h)

pub scripts_have_commands : ListsHaveExports → ScriptsHaveCommands
unfolding lines_in
scripts_have_commands lists U start text ls e =
    let r = lines_said (script_text_judged U start) progress_after (IsCommand U) (CommandFits U)
    (λ p line. judged_command lists U start p (script_line p.net.declared.inputs (words_of line)) (script_may p.net.declared.inputs (words_of line)))
    (at_start start.net) 1 (lines_of text) ls e in
    record { commands = r.things; said = r.said; fits = commands_fit U r.things r.fits }
