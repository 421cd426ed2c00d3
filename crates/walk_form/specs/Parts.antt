-- The terms of the walk form whose fields are found: the local argument, and what steps add.
use Rattle.std.specs.Prelude.{◌≡◌, ◌⊎◌}
use Rattle.fc_nodes.specs.Program.{Program}
use Rattle.walk_form.specs.declared.forms.Span.{Span}
use Rattle.walk_form.specs.declared.forms.Adds.TheVariants as adds
use Rattle.walk_form.specs.declared.forms.WalkForm.{WalkForm}
use Rattle.walk_form.specs.Spans.{IsWalkForm}

abbrev pub IsPartOf : WalkForm → Span → Type 0
IsPartOf f s = (f.local ≡ s) ⊎ (f.adds ≡ adds.Values s)

pub record IsWalkPart (P : Program) (s : Span) : Type 0 where
  pub form : WalkForm
  pub is : IsWalkForm P form
  pub part : IsPartOf form s
