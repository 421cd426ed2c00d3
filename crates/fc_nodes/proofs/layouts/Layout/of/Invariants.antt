use Rattle.std.proofs.Common.{◌≡◌, ◌<◌, ℕ, length, take, get_or, None}
use Rattle.fc_nodes.specs.Terms.{nodes_kept_types}
use Rattle.fc_nodes.specs.Layouts.{number_at, forms_of}
use Rattle.fc_nodes.proofs.layouts.Layout.of.Given as goal

abbrev pub invariant-loop-place : goal.invariant-loop-place
invariant-loop-place l = record {
  long : length l.numbers.items ≡ l.place;
  each : (p : ℕ) → p < l.place → get_or l.numbers.items p None ≡ number_at l.nodes p;
  forms : forms_of l.blanks.items ≡ nodes_kept_types (take l.place l.nodes);
}
