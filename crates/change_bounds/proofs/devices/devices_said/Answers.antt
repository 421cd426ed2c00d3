use Rattle.std.proofs.Common.{◌∙◌, sym, ap, ℕ, Bool}
use Rattle.std.specs.Ordering.{nat_cmp}
use Rattle.std.specs.BTreeMap.{BTreeMap, get}
use Rattle.changes.specs.Code.{change_in}
use Rattle.change_bounds.specs.Tables.{presence, noted}
use Rattle.change_bounds.proofs.Lines.{said_to, line_says, line_silent}
use Rattle.change_bounds.proofs.Presence.{presence_more}
use Rattle.change_bounds.proofs.devices.devices_said.Goals.{in-Some+in_ok-note, in_default}
use Rattle.change_bounds.proofs.devices.devices_said.Goals as goal

pub loop-line-preserved : goal.loop-line-preserved
loop-line-preserved c =
    let n = c.args.network.now in
    let ls = c.args.lines.now in
    let k = c.loop-line.line-index in
    let x = c.line-item.result in
    elim c.match-line.branch [
      | in-Some+in_ok-note w ↦ λ d.
          ap (λ (m : BTreeMap ℕ Bool). get nat_cmp m d) w.table-is
          ∙ w.in_ok-note.ensures d
          ∙ ap (λ o. noted o d (change_in w.in-Some.change)) (c.loop-line.invariant d)
          ∙ sym (presence_more n (said_to ls k) d (change_in w.in-Some.change))
          ∙ ap (λ cs. presence n cs d) (sym (line_says ls k x c.line-item.is c.loop-line-test.true w.in-Some.change w.in-Some.is))
      | in_default w ↦ λ d.
          ap (λ (m : BTreeMap ℕ Bool). get nat_cmp m d) w.table-is
          ∙ c.loop-line.invariant d
          ∙ ap (λ cs. presence n cs d) (sym (line_silent ls k x c.line-item.is c.loop-line-test.true w.in_default.is))
    ]
