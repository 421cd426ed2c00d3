use Rattle.std.proofs.Common.{◌-◌, drop, take, length, refl, ap, ◌∙◌, Some}
use Rattle.edit_commands.specs.declared.scripts.ScriptWord.TheVariants as first
use Rattle.edit_commands.specs.Code.{texts}
use Rattle.edit_commands.specs.ScriptCode.{progress_of, program_in, start_in}
use Rattle.edit_commands.proofs.Texts.{texts_first}
use Rattle.edit_commands.proofs.ScriptWords.{word_refused}
use Rattle.edit_commands.proofs.scripts.read_words.Goals as goal

pub returns-in-Run-clause-refused : goal.returns-in-Run-clause-refused
returns-in-Run-clause-refused c =
    word_refused c.run.result (program_in c.args.context.now) (start_in c.args.context.now) (progress_of c.args.progress.now) c.args.context.now.number c.args.progress.now.net.declared.inputs (texts c.args.words.now) _
    (texts (take (length c.args.words.now - 1) (drop 1 c.args.words.now))) c.script_word.result first.Run _ (texts_first c.args.words.now _ c.in-len1-up.len_at_least) c.script_word.ensures (c.in-Some.is ∙ ap Some c.in-Run.is)
    c.run.ensures.refused refl

pub returns-in-Scramble-clause-refused : goal.returns-in-Scramble-clause-refused
returns-in-Scramble-clause-refused c =
    word_refused c.scramble.result (program_in c.args.context.now) (start_in c.args.context.now) (progress_of c.args.progress.now) c.args.context.now.number c.args.progress.now.net.declared.inputs (texts c.args.words.now) _
    (texts (take (length c.args.words.now - 1) (drop 1 c.args.words.now))) c.script_word.result first.Scramble _ (texts_first c.args.words.now _ c.in-len1-up.len_at_least) c.script_word.ensures (c.in-Some.is ∙ ap Some c.in-Scramble.is)
    c.scramble.ensures.refused refl
