use Rattle.std.proofs.Common.{sym, ap, ◌∙◌}
use Rattle.std.specs.Prelude.{option_map}
use Rattle.fc_values.specs.Values.{local_of}
use Rattle.change_lines.proofs.Values.{none_said}
use Rattle.change_lines.proofs.words.value.Goals as goal

pub returns-in_default : goal.returns-in_default
returns-in_default c = none_said _ (ap (option_map local_of) (sym c.in_default.is) ∙ c.in_ok-value.ensures)
