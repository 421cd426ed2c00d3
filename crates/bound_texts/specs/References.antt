-- What lines in code say.
use Rattle.std.specs.Prelude.{List, map, option_map}
use Rattle.std.specs.Borrow.{Bor}
use Rattle.value_bounds.specs.declared.bounds.LocalBound.{LocalBound}
use Rattle.value_bounds.specs.References.{local_bound_in}
use Rattle.bound_texts.specs.declared.lines.BoundLine.{BoundLine as FlatLine}
use Rattle.bound_texts.specs.BoundTexts.{BoundLine}

abbrev pub line_in : FlatLine → BoundLine
line_in l = record {
  device = l.device;
  rounds = l.rounds;
  bound = local_bound_in l.bound.now;
  before = option_map (λ (b : Bor LocalBound). local_bound_in b.now) l.before;
  away = l.away;
}

abbrev pub lines_in : List FlatLine → List BoundLine
lines_in ls = map line_in ls
