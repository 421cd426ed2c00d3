use Rattle.std.proofs.Common.{string_bytes, sym, ap, ◌∙◌}
use Rattle.std.proofs.lemmas.Result.{IfOk-weaker}
use Rattle.command_words.specs.Words.{name_of}
use Rattle.command_words.proofs.AskedWords.{asked_is}
use Rattle.command_words.proofs.words.command.Goals as goal

pub returns : goal.returns
returns c =
    IfOk-weaker c.command_by_clap.result _ _
    (λ o h. h ∙ asked_is string_bytes c.in-Some.name c.args.words.now c.word-item.result c.in-len1-up.len_at_least
    c.in-len1-up-asked.len_at_least c.word-item.is (sym (c.in-Some.ensures ∙ ap name_of c.as_str.ensures.value)))
    c.command_by_clap.ensures
