use Rattle.std.proofs.Common.{map, sym, ap, ◌∙◌}
use Rattle.std.specs.Prelude.{option_map}
use Rattle.std.proofs.lemmas.List.{map-append}
use Rattle.fc_values.specs.Values.{local_of}
use Rattle.edit_commands.specs.Code.{texts}
use Rattle.edit_commands.proofs.Behind.{read_more, read_off, read_whole}
use Rattle.edit_commands.proofs.Texts.{texts_more, texts_done}
use Rattle.edit_commands.proofs.values.read_values.Goals as goal

pub loop-word-preserved : goal.loop-word-preserved
loop-word-preserved c =
    read_more (texts c.args.words.now) _ _ _ _ _ (local_of c.in-Some.value) c.loop-word.invariant (texts_more c.args.words.now c.loop-word.word-index _ c.loop-word-test.true)
    (ap (option_map local_of) (sym c.in-Some.is) ∙ c.in_ok-value.ensures)
    (ap (map local_of) c.in_ok-push.ensures.items ∙ map-append local_of _ _)

pub returns-in_default : goal.returns-in_default
returns-in_default c =
    read_off (texts c.args.words.now) _ _ _ _ c.loop-word.invariant (texts_more c.args.words.now c.loop-word.word-index _ c.loop-word-test.true)
    (ap (option_map local_of) (sym c.in_default.is) ∙ c.in_ok-value.ensures)

pub returns : goal.returns
returns c = read_whole (texts c.args.words.now) _ _ c.loop-word.invariant (texts_done c.args.words.now c.loop-word.word-index c.loop-word-test.false)
