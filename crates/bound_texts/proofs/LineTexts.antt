-- The lines that a loop has written.
use Rattle.std.proofs.Common.{ℕ, List, flat_map}
use Rattle.bound_texts.specs.declared.lines.BoundLine.{BoundLine as FlatLine}
use Rattle.bound_texts.specs.BoundTexts.{bound_line_text}
use Rattle.bound_texts.specs.References.{lines_in}

abbrev pub devices_of : List FlatLine → List ℕ
devices_of lines = flat_map bound_line_text (lines_in lines)
