use Rattle.std.proofs.Common.{◌<◌, [], length, map, replicate, sym, ◌∙◌, ap, refl, arith, false, vec_len}
use Rattle.std.proofs.lemmas.List.{length-map}
use Rattle.mail_count.specs.declared.pairs.Bringing.{Bringing}
use Rattle.mail_count.specs.Marks.{own_row, brought_row}
use Rattle.mail_count.proofs.Rewriting.{one_mapped, all_mapped, set_mapped, read_mapped}
use Rattle.mail_count.proofs.Tables.{all_false}
use Rattle.mail_count.proofs.pairs.clear_row.Goals as goal

pub loop-bringing-preserved : goal.loop-bringing-preserved
loop-bringing-preserved c =
    let row = c.loop-bringing.row in
    let i = c.loop-bringing.bringing-index in
    let was = c.loop-bringing.invariant in
    let h : i < length row = omega (arith, c.loop-bringing-test.true, c.loop-bringing.auto.row) in
    let k : i < length (own_row c.args.row.now) = omega (arith, c.loop-bringing-test.true, length-map c.args.row.now (λ (b : Bringing). b.own.items)) in
    let l : i < length (brought_row c.args.row.now) = omega (arith, c.loop-bringing-test.true, length-map c.args.row.now (λ (b : Bringing). b.brought)) in
    record {
      own = set_mapped (λ (b : Bringing). b.own.items) row i (record { own = c.fill.new.self; brought = false })
          ∙ one_mapped (λ fs. map (λ f. false) fs) i (own_row c.args.row.now) (own_row row) c.bringing-item.result.own.items c.fill.new.self.items [] was.own k
          (read_mapped (λ (b : Bringing). b.own.items) row i c.bringing-item.result [] h c.bringing-item.is)
          (c.fill.ensures.items (λ y q. q) ∙ ap (λ (b : Bringing). replicate (vec_len b.own) false) (sym c.bringing-item.is) ∙ all_false (vec_len c.bringing-item.result.own) c.bringing-item.result.own.items (c.bringing-item.result.own.ok.0));
      brought = set_mapped (λ (b : Bringing). b.brought) row i (record { own = c.fill.new.self; brought = false })
          ∙ one_mapped (λ b. false) i (brought_row c.args.row.now) (brought_row row) c.bringing-item.result.brought false false was.brought l
          (read_mapped (λ (b : Bringing). b.brought) row i c.bringing-item.result false h c.bringing-item.is) refl;
    }

pub returns-clause-own : goal.returns-clause-own
returns-clause-own c =
    c.loop-bringing.invariant.own
    ∙ all_mapped (λ fs. map (λ f. false) fs) c.loop-bringing.bringing-index (own_row c.args.row.now) (omega (arith, c.loop-bringing-test.false, length-map c.args.row.now (λ (b : Bringing). b.own.items)))

pub returns-clause-brought : goal.returns-clause-brought
returns-clause-brought c =
    c.loop-bringing.invariant.brought
    ∙ all_mapped (λ b. false) c.loop-bringing.bringing-index (brought_row c.args.row.now) (omega (arith, c.loop-bringing-test.false, length-map c.args.row.now (λ (b : Bringing). b.brought)))
