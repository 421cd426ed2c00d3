use Rattle.std.proofs.Common.{sym, ◌∙◌}
use Rattle.edit_commands.specs.Code.{texts}
use Rattle.edit_commands.proofs.Texts.{texts_more, texts_done}
use Rattle.change_lines.proofs.Values.{read_more, read_off, read_whole}
use Rattle.change_lines.proofs.words.possibles.Goals as goal

pub loop-word-preserved : goal.loop-word-preserved
loop-word-preserved c =
    read_more (texts c.args.words.now) _ _ _ _ _ c.in-Some.value c.loop-word.invariant (texts_more c.args.words.now c.loop-word.word-index _ c.loop-word-test.true)
    (sym c.in-Some.is ∙ c.in_ok-value.ensures) c.in_ok-push.ensures.items

pub returns-in_default : goal.returns-in_default
returns-in_default c =
    read_off (texts c.args.words.now) _ _ _ _ c.loop-word.invariant (texts_more c.args.words.now c.loop-word.word-index _ c.loop-word-test.true)
    (sym c.in_default.is ∙ c.in_ok-value.ensures)

pub returns : goal.returns
returns c = read_whole (texts c.args.words.now) _ _ c.loop-word.invariant (texts_done c.args.words.now c.loop-word.word-index c.loop-word-test.false)
