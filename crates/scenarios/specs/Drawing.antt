-- What is appended to a list along the terms of a program, as code has it.
use Rattle.std.specs.Prelude.{ℕ, ◌≡◌, List, [], ◌++◌, map, Option, Some, None}
use Rattle.fc_values.specs.declared.values.Local.{Local}
use Rattle.fc_values.specs.Types.{LocalType}
use Rattle.fc_values.specs.Values.{local_of}
use Rattle.fc_nodes.specs.Terms.{term_at, terms_by}
use Rattle.fc_nodes.specs.Program.{Program}
use Rattle.scenarios.specs.Words.{Words}
use Rattle.scenarios.specs.Draws.{Drawn, only, draw_value, draw_kept, draw_all_kept}

-- what is drawn is appended to a list, and the words after it are left
pub record Draws (drawn : Drawn) (old new : List Local) (after : Words) : Type 0 where
  pub values : map local_of new ≡ map local_of old ++ drawn.0
  pub left : after ≡ drawn.1

-- what a node keeps itself
abbrev pub draw_own : ℕ → Option LocalType → Words → Drawn
draw_own c None words = ([], words)
draw_own c (Some t) words = only (draw_value c t words)

abbrev pub DrawsOwn : Program → Option LocalType → Words → List Local → List Local → Words → Type 0
DrawsOwn P o words old new left = Draws (draw_own P.declared.ceiling o words) old new left

abbrev pub DrawsTerm : Program → ℕ → Words → List Local → List Local → Words → Type 0
DrawsTerm P p words old new left = Draws (draw_kept P.declared.ceiling (term_at P.nodes p) words) old new left

abbrev pub DrawsAll : Program → List ℕ → Words → List Local → List Local → Words → Type 0
DrawsAll P ks words old new left =
    Draws (draw_all_kept P.declared.ceiling (terms_by (term_at P.nodes) ks) words) old new left
