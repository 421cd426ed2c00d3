use Rattle.std.proofs.Common.{ℕ, ◌∙◌, map, ap, sym, subst, arith}
use Rattle.std.specs.Prelude.{Option}
use Rattle.changes.specs.declared.types.ChangeLine.{ChangeLine}
use Rattle.changes.specs.Changes.{ChangeValue}
use Rattle.changes.specs.Code.{line_in}
use Rattle.changes.specs.Hand.{said}
use Rattle.changes.specs.Kept.{IsHandOf}
use Rattle.changes.proofs.Lines.{before, before_few, before_next, line_is, refused_at, passed_at}
use Rattle.changes.proofs.judging.judge_changes.Goals as goal

pub returns-in-Some-clause-refused : goal.returns-in-Some-clause-refused
returns-in-Some-clause-refused c =
    let ls = c.args.lines.now in
    let at = c.loop-at.at in
    let h = c.loop-at-test.true in
    let number = ap (λ (l : ℕ × Option ChangeValue). l.0) (line_is ls at c.index-lines-at.result h) ∙ ap (λ (l : ChangeLine). l.number) (sym c.index-lines-at.is) in
    sym c.loop-at.invariant.rest ∙ refused_at c.args.network.now (said (map line_in ls)) (before at ls) ls at _ _ h number c.in-Some.ensures

pub add_line-requires : goal.add_line-requires
add_line-requires c =
    let h = c.loop-at-test.true in
    let few = before_few c.args.lines.now c.loop-at.at in
    (h, (omega arith, c.loop-at.invariant.hands.before))

pub loop-at-preserved : goal.loop-at-preserved
loop-at-preserved c =
    let ls = c.args.lines.now in
    let at = c.loop-at.at in
    let n = c.args.network.now in
    let h = c.loop-at-test.true in
    record {
      hands = record {
        all = c.loop-at.invariant.hands.all;
        before = subst (λ cs. IsHandOf n cs c.add_line.new.self) (sym (before_next ls at h)) c.in_ok-add_line.ensures;
      };
      rest = sym (passed_at n (said (map line_in ls)) ls at h c.in_default.ensures) ∙ c.loop-at.invariant.rest;
    }
