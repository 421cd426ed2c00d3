-- `clap`'s commands without help and version.
use Rattle.std.proofs.Common.{true}
use Rattle.clap.specs.Words.{App}
use Rattle.clap.specs.Simple.{on_top}

abbrev pub helpless : App → App
helpless = on_top (λ s. record s { disable_help_flag = true })

abbrev pub versionless : App → App
versionless = on_top (λ s. record s { disable_version_flag = true })
