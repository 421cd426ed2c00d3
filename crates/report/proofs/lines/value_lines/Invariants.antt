use Rattle.std.proofs.Common.{[]}
use Rattle.firing_core.specs.CoreViews.{core_of}
use Rattle.report.proofs.WrittenSoFar.{Written}
use Rattle.report.proofs.ListTexts.{devices_of}
use Rattle.report.proofs.lines.value_lines.Given as goal

abbrev pub invariant-loop-device : goal.invariant-loop-device
invariant-loop-device l = Written (devices_of (core_of l.core)) l.device-items [] l.lines.items l.device-index
