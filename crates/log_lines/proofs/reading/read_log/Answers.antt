use Rattle.std.proofs.Common.{length, sym, ap, ◌∙◌}
use Rattle.std.specs.Prelude.{zip}
use Rattle.fc_nodes.specs.Program.{unfolding_of}
use Rattle.firing_core.specs.Entries.{entry_of, entries_of}
use Rattle.edit_commands.proofs.CutLines.{cut_at}
use Rattle.edit_commands.proofs.ReadLines.{one_read, same_lengths}
use Rattle.log_lines.proofs.ReadLogs.{read_none, skipped, read, refused, all_read, fits_plain}
use Rattle.log_lines.proofs.reading.read_log.Goals as goal

pub lines-init : goal.lines-init
lines-init c = (
  read_none (unfolding_of c.args.program.now) c.args.net.now c.in_ok-after.after c.args.text.now _ c.in_ok-after.ensures (ap (λ ks. zip ks (entries_of c.in_ok-entries.entries.items)) c.in_ok-lines.ensures.items),
  ap length c.in_ok-lines.ensures.items ∙ sym (ap length c.in_ok-entries.ensures.items),
)

pub lines-preserved : goal.lines-preserved
lines-preserved c =
    let cut = cut_at _ _ _ _ _ _ c.is_empty.ensures c.lines-test.true c.first_line.ensures.size c.first_line.ensures.some c.split_at.ensures.front c.split_at.ensures.back c.line_text-line.ensures in
    (skipped (unfolding_of c.args.program.now) c.args.net.now c.args.text.now _ _ _ _ _ _ _ c.lines.invariant.0 cut c.is_empty-in-lines.result c.is_empty-in-lines.ensures c.if-not-is_empty.false, c.lines.invariant.1)

pub lines-preserved-in_ok-push-2 : goal.lines-preserved-in_ok-push-2
lines-preserved-in_ok-push-2 c =
    let cut = cut_at _ _ _ _ _ _ c.is_empty.ensures c.lines-test.true c.first_line.ensures.size c.first_line.ensures.some c.split_at.ensures.front c.split_at.ensures.back c.line_text-line.ensures in (
      read (unfolding_of c.args.program.now) c.args.net.now c.args.text.now _ _ _ _ _ _ _ c.lines.invariant.0 cut c.is_empty-in-lines.result c.is_empty-in-lines.ensures _ _ _ c.if-not-is_empty.true c.in-Ok.ensures.ok
          (one_read entry_of _ _ _ _ _ _ c.lines.invariant.1 c.in_ok-push.ensures.items c.in_ok-push-2.ensures.items),
      same_lengths _ _ _ _ _ _ c.in_ok-push.ensures.items c.in_ok-push-2.ensures.items c.lines.invariant.1,
    )

pub returns-in-Err-Bad-clause-refused : goal.returns-in-Err-Bad-clause-refused
returns-in-Err-Bad-clause-refused c =
    let cut = cut_at _ _ _ _ _ _ c.is_empty.ensures c.lines-test.true c.first_line.ensures.size c.first_line.ensures.some c.split_at.ensures.front c.split_at.ensures.back c.line_text-line.ensures in
    rw c.in-Err-Bad.field-0-is
    (refused (unfolding_of c.args.program.now) c.args.net.now c.args.text.now _ _ _ _ _ _ _ c.lines.invariant.0 cut c.is_empty-in-lines.result c.is_empty-in-lines.ensures c.in-Err-Bad.fault c.if-not-is_empty.true (rw c.in-Err-Bad.field-0-is at c.in-Err-Bad.ensures.refused))

pub returns-clause-fits : goal.returns-clause-fits
returns-clause-fits c = fits_plain (unfolding_of c.args.program.now) c.lines.lines.items c.lines.entries.items c.lines.invariant.1 (c.lines.invariant.0).fits

pub returns-clause-log : goal.returns-clause-log
returns-clause-log c = all_read (unfolding_of c.args.program.now) c.args.net.now c.args.text.now _ _ _ _ _ c.lines.invariant.0 c.is_empty.ensures c.lines-test.false
