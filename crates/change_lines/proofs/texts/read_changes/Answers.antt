use Rattle.std.proofs.Common.{map, ap, ◌∙◌}
use Rattle.std.proofs.lemmas.List.{map-append}
use Rattle.fc_values.specs.Types.{input_of}
use Rattle.edit_commands.proofs.CutLines.{cut_at}
use Rattle.changes.specs.Code.{line_in}
use Rattle.change_lines.proofs.ReadChanges.{read_none, skipped, read, read_whole}
use Rattle.change_lines.proofs.texts.read_changes.Goals as goal

pub lines-init : goal.lines-init
lines-init c = read_none (map input_of c.args.inputs.now) c.args.text.now _ (ap (map line_in) c.new-lines.ensures.items)

pub lines-preserved : goal.lines-preserved
lines-preserved c =
    let cut = cut_at _ _ _ _ _ _ c.is_empty.ensures c.lines-test.true c.first_line.ensures.size c.first_line.ensures.some c.split_at.ensures.front c.split_at.ensures.back c.line_text-line.ensures in
    skipped (map input_of c.args.inputs.now) c.args.text.now _ _ _ _ _ _ c.lines.invariant cut c.is_empty-in-lines.result c.is_empty-in-lines.ensures c.if-not-is_empty.false

pub lines-preserved-in_ok-push : goal.lines-preserved-in_ok-push
lines-preserved-in_ok-push c =
    let cut = cut_at _ _ _ _ _ _ c.is_empty.ensures c.lines-test.true c.first_line.ensures.size c.first_line.ensures.some c.split_at.ensures.front c.split_at.ensures.back c.line_text-line.ensures in
    read (map input_of c.args.inputs.now) c.args.text.now _ _ _ _ _ _ c.lines.invariant cut c.is_empty-in-lines.result c.is_empty-in-lines.ensures _ _ c.if-not-is_empty.true c.in_ok-change.ensures
    (ap (map line_in) c.in_ok-push.ensures.items ∙ map-append line_in _ _)

pub returns : goal.returns
returns c = read_whole (map input_of c.args.inputs.now) c.args.text.now _ _ _ _ c.lines.invariant c.is_empty.ensures c.lines-test.false
