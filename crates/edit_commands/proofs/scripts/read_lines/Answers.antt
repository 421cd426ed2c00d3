use Rattle.std.proofs.Common.{map, ap}
use Rattle.fc_nodes.specs.Program.{unfolding_of}
use Rattle.firing_core.specs.CoreViews.{core_of}
use Rattle.edit_commands.specs.Scripts.{numbered}
use Rattle.edit_commands.proofs.CutLines.{cut_at}
use Rattle.edit_commands.proofs.ReadScripts.{read_none, skipped, read, refused, all_read, numbered_push, commands_fit}
use Rattle.edit_commands.proofs.scripts.read_lines.Goals as goal

pub lines-init : goal.lines-init
lines-init c = read_none (unfolding_of c.args.program.now) (core_of c.args.core.now) _ c.args.text.now _ c.in_ok-progress.ensures.progress (ap (map numbered) c.new-commands.ensures.items)

pub lines-preserved : goal.lines-preserved
lines-preserved c =
    let cut = cut_at _ _ _ _ _ _ c.is_empty.ensures c.lines-test.true c.first_line.ensures.size c.first_line.ensures.some c.split_at.ensures.front c.split_at.ensures.back c.line_text-line.ensures in
    skipped (unfolding_of c.args.program.now) (core_of c.args.core.now) c.args.text.now _ _ _ _ _ _ _ c.lines.invariant cut c.is_empty-in-lines.result c.is_empty-in-lines.ensures c.if-not-is_empty.false

pub lines-preserved-in_ok-push : goal.lines-preserved-in_ok-push
lines-preserved-in_ok-push c =
    let cut = cut_at _ _ _ _ _ _ c.is_empty.ensures c.lines-test.true c.first_line.ensures.size c.first_line.ensures.some c.split_at.ensures.front c.split_at.ensures.back c.line_text-line.ensures in
    read (unfolding_of c.args.program.now) (core_of c.args.core.now) c.args.text.now _ _ _ _ _ _ _ c.lines.invariant cut c.is_empty-in-lines.result c.is_empty-in-lines.ensures _ _ _ c.if-not-is_empty.true c.in-Ok.ensures.ok.does
    c.in-Ok.ensures.ok.within (numbered_push _ _ _ c.in_ok-push.ensures.items)

pub returns-in-Err-clause-refused : goal.returns-in-Err-clause-refused
returns-in-Err-clause-refused c =
    let cut = cut_at _ _ _ _ _ _ c.is_empty.ensures c.lines-test.true c.first_line.ensures.size c.first_line.ensures.some c.split_at.ensures.front c.split_at.ensures.back c.line_text-line.ensures in
    refused (unfolding_of c.args.program.now) (core_of c.args.core.now) c.args.text.now _ _ _ _ _ _ _ c.lines.invariant cut c.is_empty-in-lines.result c.is_empty-in-lines.ensures c.in-Err.fault c.if-not-is_empty.true
    c.in-Err.ensures.refused

pub returns-clause-script : goal.returns-clause-script
returns-clause-script c = all_read (unfolding_of c.args.program.now) (core_of c.args.core.now) c.args.text.now _ _ _ _ _ c.lines.invariant c.is_empty.ensures c.lines-test.false

pub returns-clause-fits : goal.returns-clause-fits
returns-clause-fits c = commands_fit (unfolding_of c.args.program.now) (map numbered c.lines.commands.items) c.lines.invariant.fits
