-- What is written of a bound in which one value is left.
use Rattle.std.specs.Prelude.{true, ◌≡◌}
use Rattle.fc_values.specs.Values.{LocalValue}
use Rattle.value_bounds.specs.BoundValues.{BoundValue, Lies, exactly, is_known}
use Rattle.report.specs.Texts.{value_text}
use Rattle.bound_texts.specs.BoundTexts.{bound_text}

-- the bound of one value has the text of this value
abbrev pub ExactHasTextOfValue : Type 0
ExactHasTextOfValue = (v : LocalValue) → bound_text (exactly v) ≡ value_text v

-- a known bound has the text of the value that lies in it
abbrev pub KnownHasTextOfValue : Type 0
KnownHasTextOfValue = (b : BoundValue) (v : LocalValue) → is_known b ≡ true → Lies b v → bound_text b ≡ value_text v
