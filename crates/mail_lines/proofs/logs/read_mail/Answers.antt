use Rattle.std.proofs.Common.{length, sym, ap, ◌∙◌}
use Rattle.std.specs.Prelude.{zip}
use Rattle.message_links.specs.MailEntries.{mail_entry, mail_entries}
use Rattle.edit_commands.proofs.CutLines.{cut_at}
use Rattle.edit_commands.proofs.ReadLines.{one_read, same_lengths}
use Rattle.mail_lines.proofs.ReadMail.{read_none, skipped, read, refused, all_read, entry_said, entry_none}
use Rattle.mail_lines.proofs.logs.read_mail.Goals as goal

pub lines-init : goal.lines-init
lines-init c = (
  read_none c.args.text.now _ (ap (λ ks. zip ks (mail_entries c.new-entries.result.items)) c.new-lines.ensures.items),
  ap length c.new-lines.ensures.items ∙ sym (ap length c.new-entries.ensures.items),
)

pub lines-preserved : goal.lines-preserved
lines-preserved c =
    let cut = cut_at _ _ _ _ _ _ c.is_empty.ensures c.lines-test.true c.first_line.ensures.size c.first_line.ensures.some c.split_at.ensures.front c.split_at.ensures.back c.line_text-line.ensures in
    (skipped c.args.text.now _ _ _ _ _ _ c.lines.invariant.0 cut c.is_empty-in-lines.result c.is_empty-in-lines.ensures c.if-not-is_empty.false, c.lines.invariant.1)

pub lines-preserved-in_ok-push-2 : goal.lines-preserved-in_ok-push-2
lines-preserved-in_ok-push-2 c =
    let cut = cut_at _ _ _ _ _ _ c.is_empty.ensures c.lines-test.true c.first_line.ensures.size c.first_line.ensures.some c.split_at.ensures.front c.split_at.ensures.back c.line_text-line.ensures in (
      read c.args.text.now _ _ _ _ _ _ c.lines.invariant.0 cut c.is_empty-in-lines.result c.is_empty-in-lines.ensures _ _ c.if-not-is_empty.true
          (entry_said c.in_ok-entry.field-0 c.in-Some.entry _ c.in_ok-entry.ensures c.in-Some.is)
          (one_read mail_entry _ _ _ _ _ _ c.lines.invariant.1 c.in_ok-push.ensures.items c.in_ok-push-2.ensures.items),
      same_lengths _ _ _ _ _ _ c.in_ok-push.ensures.items c.in_ok-push-2.ensures.items c.lines.invariant.1,
    )

pub returns-in_default-clause-refused : goal.returns-in_default-clause-refused
returns-in_default-clause-refused c =
    let cut = cut_at _ _ _ _ _ _ c.is_empty.ensures c.lines-test.true c.first_line.ensures.size c.first_line.ensures.some c.split_at.ensures.front c.split_at.ensures.back c.line_text-line.ensures in
    refused c.args.text.now _ _ _ _ _ _ c.lines.invariant.0 cut c.is_empty-in-lines.result c.is_empty-in-lines.ensures c.if-not-is_empty.true
    (entry_none c.in_ok-entry.field-0 _ c.in_ok-entry.ensures c.in_default.is)

pub returns-clause-log : goal.returns-clause-log
returns-clause-log c = all_read c.args.text.now _ _ _ _ c.lines.invariant.0 c.is_empty.ensures c.lines-test.false
