use Rattle.std.proofs.Common.{◌∙◌, sym, ap, ℕ}
use Rattle.std.specs.Prelude.{Option}
use Rattle.std.specs.BTreeMap.{BTreeMap, get}
use Rattle.fc_values.specs.Types.{Declarations}
use Rattle.changes.specs.Code.{change_in}
use Rattle.change_bounds.specs.declared.pairs.PairBound.{PairBound}
use Rattle.change_bounds.specs.Tables.{by_pair, pair_said, told}
use Rattle.change_bounds.proofs.Lines.{said_to, line_says, line_silent}
use Rattle.change_bounds.proofs.Told.{pair_more}
use Rattle.change_bounds.proofs.pairs.pairs_said.Goals.{in-Some+in_ok-tell, in_default}
use Rattle.change_bounds.proofs.pairs.pairs_said.Goals as goal

pub loop-line-preserved : goal.loop-line-preserved
loop-line-preserved c =
    let n = c.args.network.now in
    let ls = c.args.lines.now in
    let k = c.loop-line.line-index in
    let l = c.line-item.result in
    elim c.match-line.branch [
      | in-Some+in_ok-tell w ↦ λ x y.
          let change = change_in w.in-Some.change in
          ap (λ (m : BTreeMap (ℕ × ℕ) PairBound). get by_pair m (x, y)) w.table-is
          ∙ w.in_ok-tell.ensures x y
          ∙ ap (λ (D : Declarations). told D (get by_pair c.loop-line.table (x, y)) x y change) w.declared.ensures.value
          ∙ ap (λ (o : Option PairBound). told n.declared o x y change) (c.loop-line.invariant x y)
          ∙ pair_more n (said_to ls k) x y change
          ∙ ap (λ cs. pair_said n cs x y) (sym (line_says ls k l c.line-item.is c.loop-line-test.true w.in-Some.change w.in-Some.is))
      | in_default w ↦ λ x y.
          ap (λ (m : BTreeMap (ℕ × ℕ) PairBound). get by_pair m (x, y)) w.table-is
          ∙ c.loop-line.invariant x y
          ∙ ap (λ cs. pair_said n cs x y) (sym (line_silent ls k l c.line-item.is c.loop-line-test.true w.in_default.is))
    ]
