-- What `stable` promises.
use Rattle.std.specs.Prelude.{ℕ, false, ◌≡◌, List, map}
use Rattle.fc_values.specs.Fields.{Entries}
use Rattle.topology.specs.Networks.{numbers}
use Rattle.report.specs.Texts.{field_text}
use Rattle.fc_values.specs.declared.limits.TheConstants.{MOST_BYTES}
use Rattle.command_frame.specs.Owing.{IsZero, OfTwo, Owes}
use Rattle.command_frame.specs.Sections.{AreWithin, WithTwo}
use Rattle.command_frame.specs.Yes.{HasYes}
use Rattle.fc_stable.specs.Stabilised.{Stabilised}

-- the values of the one field at all devices, rising
abbrev pub stable_entries : (program network : List ℕ) → HasYes program network → Entries
stable_entries program network y = map (λ (d : ℕ). (d, y.stabilises.one.field d)) (numbers y.scene.net.devices)

-- `stable` writes the one field
pub record SolvesYes (program network text : List ℕ) : Type 0 where
  pub yes : HasYes program network
  pub writes : text ≡ field_text (stable_entries program network yes)

-- `stable` owes two sections an answer
abbrev pub StableOwes : Type 0
StableOwes =
    Owes false (AreWithin MOST_BYTES) (λ sections j. WithTwo Stabilised sections j) IsZero
    (λ sections answer. OfTwo (λ program network. SolvesYes program network answer.text) sections)
