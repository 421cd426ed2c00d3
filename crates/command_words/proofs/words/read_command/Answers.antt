use Rattle.std.proofs.Common.{◌≡◌, string_bytes, map, option_map, sym, ap, ap₂, ◌∙◌, Some, Vec, Global}
use Rattle.command_words.specs.declared.settings.Setting.{Setting}
use Rattle.command_words.specs.Settings.{settings_of}
use Rattle.command_words.specs.Words.{asked, command_from, name_of}
use Rattle.command_words.proofs.AskedWords.{behind, command_is}
use Rattle.command_words.proofs.words.read_command.Goals as goal

pub returns : goal.returns
returns c =
    let settings : Some c.in-Some-2.settings.items
    ≡ settings_of (map string_bytes (behind (behind c.args.words.now))) =
    ap (option_map (λ (v : Vec Setting Global). v.items)) (sym c.in-Some-2.is) ∙ c.in_ok-settings.ensures in
    c.command_of_settings.ensures
    ∙ ap (command_from c.in-Some.name) c.as_slice.ensures.value
    ∙ ap₂ asked (c.in-Some.ensures ∙ ap name_of c.as_str.ensures.value) settings
    ∙ command_is string_bytes c.args.words.now c.word-item.result c.in-len1-up.len_at_least
    c.in-len1-up-asked.len_at_least c.word-item.is
