use Rattle.std.proofs.Common.{◌≡◌, rules, Option, map, string_bytes, sym, subst, ◌∙◌}
use Rattle.clap.specs.Words.{found_of, matches_of, rows_of}
use Rattle.command_words.specs.declared.settings.Setting.{Setting}
use Rattle.command_words.specs.Options.{IsRead, options_of}
use Rattle.command_words.specs.Settings.{found}
use Rattle.command_words.proofs.ReadWords.{are_simple, read_words}
use Rattle.command_words.proofs.options.command_by_clap.Goals as goal

pub returns-in-Ok : goal.returns-in-Ok
returns-in-Ok c =
    let words = map string_bytes c.args.words.now in
    let app = options_of c.args.name c.args.word.now in
    let reads = read_words c.args.name c.args.word.now words c.requires in
    let rows : rows_of (found_of c.in-Ok.matches) ≡ matches_of app words =
    (c.in-Ok.ensures.matches (are_simple c.args.name c.args.word.now)).0 in
    c.chosen.ensures (λ k. found k reads.settings)
    (λ k s post.
    let read : (t : Option Setting) → IsRead (rows_of (found_of c.in-Ok.matches)) k t → s ≡ t = search rules in
    read (found k reads.settings) (subst (λ r. IsRead r k (found k reads.settings)) (sym rows) (reads.read k)))
    ∙ sym reads.is
