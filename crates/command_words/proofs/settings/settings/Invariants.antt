use Rattle.std.proofs.Common.{◌≡◌, drop, map, string_bytes}
use Rattle.command_words.specs.Settings.{settings_of}
use Rattle.command_words.proofs.Taken.{all_from}
use Rattle.command_words.proofs.settings.settings.Given as goal

abbrev pub invariant-words : goal.invariant-words
invariant-words l = all_from l.settings.items l.waiting (map string_bytes (drop l.word-index l.words)) ≡ settings_of (map string_bytes l.words)
