use Rattle.std.proofs.Common.{refl}
use Rattle.fc_io.specs.Lines.{line_text}
use Rattle.edit_commands.proofs.CutLines.{cut_at, one_counted}
use Rattle.edit_commands.proofs.lines.count_lines.Goals as goal

pub lines-preserved : goal.lines-preserved
lines-preserved c =
    let cut = cut_at _ _ _ (line_text c.split_at.result.0.now) _ _ c.is_empty.ensures c.lines-test.true c.first_line.ensures.size c.first_line.ensures.some c.split_at.ensures.front c.split_at.ensures.back refl in
    one_counted c.args.text.now _ _ _ _ c.lines.count c.lines.invariant cut
