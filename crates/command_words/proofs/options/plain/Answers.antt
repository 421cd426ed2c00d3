use Rattle.std.proofs.Common.{ap, ◌∙◌}
use Rattle.clap.specs.Simple.{app_of_fields}
use Rattle.command_words.specs.Options.{plain_app}
use Rattle.command_words.proofs.Apps.{helpless, versionless}
use Rattle.command_words.proofs.options.plain.Goals as goal

pub returns : goal.returns
unfolding plain_app
returns c =
    ap app_of_fields c.disable_version_flag.ensures
    ∙ ap versionless (ap app_of_fields c.disable_help_flag.ensures ∙ ap helpless c.new.ensures.app)
