use Rattle.std.proofs.Common.{◌+◌, ◌<◌, ℕ, length, sym, subst, arith}
use Rattle.export_table.specs.Agendas.{EndedBefore, EndedExactly, row_at}
use Rattle.export_table.proofs.Rows.{least_next, least_some}
use Rattle.export_table.proofs.agenda.least_ended.Goals as goal

pub loop-row-preserved : goal.loop-row-preserved
loop-row-preserved c =
    let rows = c.args.rows.now in let n = c.loop-row.row-index in let i = c.loop-row.invariant in let min = sym c.min-least.ensures in let low = i.low in
    record {
      each = subst (λ k. EndedBefore k rows (n + 1)) min (least_next rows c.loop-row.least c.ended.result n i.each c.ended.ensures);
      low = omega (arith, low, min);
      some = subst (λ k. k < c.args.most → (j : ℕ) × (j < length rows) × EndedExactly k (row_at rows j)) min
          (least_some rows c.loop-row.least c.ended.result n c.args.most c.loop-row-test.true i.some c.ended.ensures);
    }
