use Rattle.std.proofs.Common.{◌<◌, [], length, sym, ◌∙◌, ap, arith, false}
use Rattle.std.specs.Prelude.{slice_set}
use Rattle.std.proofs.lemmas.List.{length-map}
use Rattle.message_links.specs.MailCores.{pushed}
use Rattle.mail_count.specs.declared.pairs.Bringing.{Bringing}
use Rattle.mail_count.specs.Marks.{own_row, brought_row}
use Rattle.mail_count.proofs.Rewriting.{one_mapped, all_mapped, set_mapped, read_mapped}
use Rattle.mail_count.proofs.Tables.{set_same}
use Rattle.mail_count.proofs.pairs.send_row.Goals as goal

module _ (c : goal.In_ok-send) where
  in_row : c.loop-bringing.bringing-index < length c.loop-bringing.row
  in_row = omega (arith, c.loop-bringing-test.true, c.loop-bringing.auto.row)

pub loop-bringing-preserved : goal.loop-bringing-preserved
loop-bringing-preserved c =
    let row = c.loop-bringing.row in
    let i = c.loop-bringing.bringing-index in
    let was = c.loop-bringing.invariant in
    let h : i < length row = in_row c in
    let k : i < length (own_row c.args.row.now) = omega (arith, c.loop-bringing-test.true, length-map c.args.row.now (λ (b : Bringing). b.own.items)) in
    record {
      own = set_mapped (λ (b : Bringing). b.own.items) row i c.send.new.bringing
          ∙ one_mapped (λ fs. pushed fs c.args.own) i (own_row c.args.row.now) (own_row row) c.bringing-item.result.own.items c.send.new.bringing.own.items [] was.own k
          (read_mapped (λ (b : Bringing). b.own.items) row i c.bringing-item.result [] h c.bringing-item.is)
          (c.in_ok-send.ensures.own ∙ ap (λ (b : Bringing). pushed b.own.items c.args.own) (sym c.bringing-item.is));
      brought =
          set_mapped (λ (b : Bringing). b.brought) row i c.send.new.bringing
          ∙ ap (slice_set (brought_row row) i) (c.in_ok-send.ensures.brought ∙ ap (λ (b : Bringing). b.brought) (sym c.bringing-item.is) ∙ read_mapped (λ (b : Bringing). b.brought) row i c.bringing-item.result false h c.bringing-item.is)
          ∙ set_same (brought_row row) i false (omega (arith, h, length-map row (λ (b : Bringing). b.brought)))
          ∙ was.brought;
    }

pub returns-clause-own : goal.returns-clause-own
returns-clause-own c =
    c.loop-bringing.invariant.own
    ∙ all_mapped (λ fs. pushed fs c.args.own) c.loop-bringing.bringing-index (own_row c.args.row.now) (omega (arith, c.loop-bringing-test.false, length-map c.args.row.now (λ (b : Bringing). b.own.items)))
