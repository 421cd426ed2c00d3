use Rattle.std.proofs.Common.{ap, map, string_bytes, ◌∙◌}
use Rattle.std.proofs.lemmas.Result.{IfErr-weaker}
use Rattle.clap.specs.Words.{takes}
use Rattle.command_words.proofs.ReadWords.{read_words}
use Rattle.command_words.proofs.options.matches.Goals as goal

pub returns-clause-memory : goal.returns-clause-memory
returns-clause-memory c =
    let words = map string_bytes c.args.words.now in
    let inside = (read_words c.args.name c.args.word.now words c.requires).takes in
    IfErr-weaker c.try_get_matches_from.result _ _
    (λ k h. h (ap (λ a. takes a words) c.in_ok-options.ensures ∙ inside)) c.try_get_matches_from.ensures.passes
