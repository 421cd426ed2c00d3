use Rattle.std.proofs.Common.{◌≡◌, drop, fold, map}
use Rattle.clap.specs.Words.{app_of, with_rule}
use Rattle.command_words.specs.Options.{options_of, rule_for}
use Rattle.command_words.proofs.options.options.Given as goal

abbrev pub invariant-kinds : goal.invariant-kinds
invariant-kinds l =
    fold with_rule (app_of l.command) (map rule_for (drop l.kind-index l.kinds)) ≡ options_of l.fn.name l.word
