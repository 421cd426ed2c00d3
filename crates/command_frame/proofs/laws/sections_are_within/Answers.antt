use Rattle.std.proofs.Common.{length, refl}
use Rattle.command_frame.specs.Sections.{sections_of}
use Rattle.command_frame.proofs.SectionSizes.{more_room, within_input}
use Rattle.command_frame.proofs.laws.sections_are_within.Goals as goal

pub returns : goal.returns
returns c = λ input most few. more_room (length input) most (sections_of input) few (within_input input (sections_of input) refl)
